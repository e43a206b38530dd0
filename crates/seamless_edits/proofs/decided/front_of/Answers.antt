-- The first input's lead-in.
use Rattle.std.proofs.Common.{ap, ap₂, length, List, map, subst, sym, take, ◌<◌, ◌∙◌, ◌≡◌, ◌≤◌}
use Rattle.std.proofs.lemmas.List.{length-map}
use Rattle.exact_span.specs.PlayedPositions.{counted_positions}
use Rattle.frame_header.specs.Fields.{ClassFields}
use Rattle.laying.specs.Needs.{need_of}
use Rattle.seam_plan.{proofs.SpliceLemmas.drop-fits, specs.Decisions.IsBroughtInput}
use Rattle.seam_plan.specs.Seams.{front_left_out_count}
use Rattle.seamless_edits.proofs.DecideStepLemmas.{silent-needs, silent_brought, silent_frame}
use Rattle.seamless_edits.proofs.FrontLemmas.{begin-window, front-behind, front-most}
use Rattle.seamless_edits.proofs.decided.front_of.Goals.{After-front_left_out}
use Rattle.seamless_edits.specs.Deciding.{input_needs}
use Rattle.slot_plan.specs.{FreeBytes.FitBehindWindow, Parts.AreNeedsOfClass}
use Rattle.sync_survey.specs.{Faults.survey_view, Row.Row}
use Rattle.seamless_edits.proofs.decided.front_of.Goals as goal

pub front_left_out-requires-clause-input : goal.front_left_out-requires-clause-input
front_left_out-requires-clause-input c =
    let needs = c.brought-first.ensures.needs ∙ ap
    (λ (l : List Row). take (length l) c.args.splice.now) c.frames-count.ensures
    ∙ c.requires.first in
    subst FitBehindWindow (sym needs)
    (begin-window c.requires.begin)

pub front_left_out-requires-clause-splice : goal.front_left_out-requires-clause-splice
front_left_out-requires-clause-splice c =
    drop-fits 1 (record {
      class = (survey_view c.args.survey.now).class;
      same = c.requires.same;
      fits = c.requires.fits;
    })

-- the result is the front count for frames without a sound
front : (c : After-front_left_out)
    → c.front_left_out.result ≡ front_left_out_count (survey_view c.args.survey.now).class
    (silent_brought (survey_view c.args.survey.now) c.args.beginning.now)
    (map silent_frame c.args.splice.now)
front c =
    let s = survey_view c.args.survey.now in
    let b = c.args.beginning.now in
    let needs = c.brought-first.ensures.needs ∙ ap
    (λ (l : List Row). take (length l) c.args.splice.now) c.frames-count.ensures
    ∙ c.requires.first in
    let long : length c.brought-first.result.needs.now ≡ length s.frames =
    ap length needs ∙ length-map s.frames need_of in
    let played = c.brought-first.ensures.played
    ∙ ap₂ (λ (k : ClassFields) n. counted_positions b.head k n)
    c.class.ensures (ap length (sym c.brought-first.ensures.needs) ∙ long) in
    let brings : IsBroughtInput c.brought-first.result (silent_brought s b) = record {
      needs = needs ∙ sym (silent-needs (input_needs s));
      blank = c.brought-first.ensures.blank;
      played = played;
    } in
    c.front_left_out.ensures s.class (silent_brought s b) (map silent_frame c.args.splice.now)
    (subst (AreNeedsOfClass s.class) (sym needs) c.requires.begin.same) c.requires.same brings
    (sym (silent-needs c.args.splice.now))

pub returns-clause-most : goal.returns-clause-most
returns-clause-most c =
    let s = survey_view c.args.survey.now in
    subst (λ n. n ≤ 1) (sym (front (goal.at.returns-clause-most c).After-front_left_out))
    (front-most s.class (silent_brought s c.args.beginning.now)
    (map silent_frame c.args.splice.now))

pub returns-clause-behind : goal.returns-clause-behind
returns-clause-behind c =
    let s = survey_view c.args.survey.now in
    let first = silent_brought s c.args.beginning.now in
    let frames = map silent_frame c.args.splice.now in
    let many : length first.frames ≡ length s.frames =
    length-map (input_needs s) silent_frame ∙ length-map s.frames need_of in
    subst (λ n. n < length s.frames)
    (sym (front (goal.at.returns-clause-behind c).After-front_left_out))
    (subst (λ n. front_left_out_count s.class first frames < n) many
    (front-behind s.class first frames (subst (λ n. 0 < n) (sym many) c.requires.begin.some)))
