-- What is decided, and the splice that continues with it.
use Rattle.std.proofs.Common.{ap, drop, length, subst, sym, ◌++◌, ◌-◌, ◌∙◌}
use Rattle.std.specs.Prelude.{option_map}
use Rattle.exact_span.specs.PlayedPositions.{rest_of}
use Rattle.frame_header.specs.Tables.{window_of}
use Rattle.seam_plan.proofs.SpliceLemmas.{splice-goes, splice-joins}
use Rattle.seam_plan.specs.{Decisions.{frame_places, joined_needs, last_seven}, Frames.needs_of}
use Rattle.seam_plan.specs.Seams.{left_out_count}
use Rattle.slot_plan.{proofs.PartLemmas.class-drop, specs.FreeBytes.IsMostLeft}
use Rattle.slot_plan.specs.Parts.{AreNeedsOfClass}
use Rattle.seam_plan.proofs.splice.Run.join.Goals as goal

pub add-requires-clause-same : goal.add-requires-clause-same
add-requires-clause-same c =
    subst (AreNeedsOfClass c.args.self.now.class) (sym c.needs_after.ensures)
    (class-drop c.args.self.now.class c.args.input.now.needs.now _ c.requires.input.same)

pub returns-clause-goes_on : goal.returns-clause-goes_on
returns-clause-goes_on c = λ class frames more places before brought is brings adds.
    let own = c.args.self.now.class in
    let window = window_of own.version in
    let needs = c.args.input.now.needs.now in
    let joint = c.decide-joint.result in
    let out = c.left_out-left_out.ensures in
    let before_left = subst (λ k. IsMostLeft (window_of k.version) (window_of k.version)
    (needs_of frames) c.args.self.now.left) (sym is.of_class) is.left in
    let added = c.add.ensures.left (needs_of frames) before_left in
    let left = subst (λ l. IsMostLeft window window (needs_of frames ++ joined_needs joint.slot l)
    c.add.new.self.left) (c.needs_after.ensures ∙ ap (λ n. drop n needs) out) added in
    splice-goes c.args.number more _ joint is brings adds
    (c.note.ensures.class ∙ c.add.ensures.class)
    (subst (IsMostLeft window window (needs_of frames
    ++ joined_needs joint.slot (drop (left_out_count joint.seam) needs)))
    (sym c.note.ensures.left) left)
    (c.note.ensures.last places (ap (λ l. l.items) c.add.ensures.last ∙ is.last)
    ∙ ap (λ n. last_seven (places ++ frame_places c.args.number n (length needs - n))) out)
    (c.rest_of-self.ensures.rest ∙ ap (λ k. option_map (λ p. rest_of k (length needs) p)
    c.args.input.now.played) (c.note.ensures.class ∙ c.add.ensures.class))

pub returns-clause-joint : goal.returns-clause-joint
returns-clause-joint c = λ class frames places before brought is brings same.
    splice-joins is brings
    (c.decide-joint.ensures.joint class frames places before brought is brings same)
    (returns-clause-goes_on c)
