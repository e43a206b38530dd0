-- The splice goes on with the frames of one more part.
use Rattle.std.proofs.Common.{ap, ap₂, arith, drop, length, length-append, List, slice_index_or}
use Rattle.std.proofs.Common.{subst, sym, take, [], ◌++◌, ◌+◌, ◌-◌, ◌<◌, ◌∙◌, ◌∷◌, ◌≡◌, ◌≤◌}
use Rattle.std.proofs.lemmas.List.{length-map, length-take-le}
use Rattle.frame_header.specs.Tables.{window_of}
use Rattle.joined_inputs.proofs.BorrowLemmas.{back-needs, borrowed-needs, front-needs}
use Rattle.joined_inputs.proofs.InputLemmas.{take-next}
use Rattle.remove_edits.proofs.JoinLemmas.{part-here, part-order, written-count}
use Rattle.remove_edits.proofs.RemovalLemmas.{part-needs-are}
use Rattle.remove_edits.proofs.SpliceLemmas.{lead-most, needs-next, own-length, slotted-length}
use Rattle.remove_edits.proofs.{SpliceLemmas.splice-next, splice.add.Goals.After-deref}
use Rattle.remove_edits.specs.Ready.{end_of_parts, joint_places, written_last}
use Rattle.remove_edits.specs.Removed.{items_left, lead_in_count, part_needs_of}
use Rattle.seam_plan.specs.PartSplices.{IsPartSplice, item_needs, joint_items, splice_part_items}
use Rattle.seam_plan.specs.{PartSplices.SpliceItem, declared.parts.PartJoint.PartJoint}
use Rattle.seam_plan.specs.declared.stretches.Part.{Part}
use Rattle.slot_plan.specs.declared.needs.Need.{Need}
use Rattle.sync_survey.specs.Faults.{survey_view, SurveyFields}
use Rattle.remove_edits.proofs.splice.add.Goals as goal

abbrev none : Part
none = record { from = 0; to = 0 }

pub append-requires : goal.append-requires
append-requires c =
    let order = part-order none
    c.requires.can.are c.requires.within.1 in
    record { ordered = omega (arith, order.2); within = order.3 }

-- what the part is
module _ (c : After-deref) where
  abbrev s : SurveyFields
  s = survey_view c.args.survey.now

  abbrev before : List Part
  before = take c.args.number c.args.parts.now

  abbrev part : Part
  part = slice_index_or c.args.parts.now c.args.number none

  abbrev own : List Need
  own = part_needs_of s part

  abbrev old : List Need
  old = c.args.decided.now.needs.items

  abbrev all : List Need
  all = c.append.new.self.needs.items

  begins : c.len-from.result ≡ length old
  begins = c.len-from.ensures ∙ c.args.decided.now.needs.ok.0

  all-are : all ≡ old ++ own
  all-are = c.in_ok-append.ensures.needs

  abbrev borrowed : List Need
  borrowed = take (length c.deref.result.now - c.len-from.result)
      (drop c.len-from.result c.deref.result.now)

  borrowed-is : borrowed ≡ own
  borrowed-is =
      borrowed-needs old begins all-are
      c.deref.ensures.value

  front : take c.len-from.result all ≡ old
  front = front-needs own begins all-are

  back : drop c.len-from.result all ≡ own
  back = back-needs old begins all-are

  behind : end_of_parts before + 1 ≤ part.from
  behind =
      (part-order none c.requires.can.are c.requires.within.1).1
      c.requires.within.0

  frames : part.from < part.to
  frames = (part-order none c.requires.can.are c.requires.within.1).2

  within : part.to ≤ length s.frames
  within = (part-order none c.requires.can.are c.requires.within.1).3

  before-many : length before ≡ c.args.number
  before-many = length-take-le c.args.number c.args.parts.now (omega (arith, c.requires.within.1))

pub join-joint-requires-clause-part : goal.join-joint-requires-clause-part
join-joint-requires-clause-part c =
    let here = (goal.at.join-joint-requires-clause-part c).After-deref in
    rw (borrowed-is here) (rw c.requires.before.is_splice.of_class
    (part-needs-are (s here) c.requires.can.are.placed (frames here) (within here)))

pub join-requires-clause-few : goal.join-requires-clause-few
join-requires-clause-few c =
    let here = (goal.at.join-requires-clause-few c).After-deref in
    omega (
      arith,
      ap (λ (l : List Need). length l) (all-are here),
      length-append (old here) (own here),
      own-length (s here) (part here) (within here),
      c.requires.before.of_parts.few,
      behind here,
      frames here,
      within here,
      c.requires.can.few,
    )

-- what the splice is once the part has joined it
module _ (c : After-deref) (joint : PartJoint) {joined : List Need}
    (is : joined ≡ take c.len-from.result (all c)
    ++ item_needs (joint_items joint (drop c.len-from.result (all c)))) where
  abbrev more : List SpliceItem
  more = joint_items joint (own c)

  joined-are : joined ≡ old c ++ item_needs more
  joined-are = is ∙ ap₂ (λ x y. x ++ item_needs (joint_items joint y)) (front c) (back c)

  size : length joined ≡ length (old c) + (lead_in_count more + ((part c).to - (part c).from))
  size = omega (
    arith,
    ap (λ (l : List Need). length l) joined-are,
    length-append (old c) (item_needs more),
    length-map more (λ (i : SpliceItem). i.need),
    slotted-length joint (own c),
    own-length (s c) (part c) (within c),
  )

pub note-requires-clause-there : goal.note-requires-clause-there
note-requires-clause-there c =
    let here = (goal.at.note-requires-clause-there c).After-deref in
    omega (arith, size here c.join-joint.result c.in_ok-join.ensures.needs)

pub note-requires-clause-few : goal.note-requires-clause-few
note-requires-clause-few c =
    let here = (goal.at.note-requires-clause-few c).After-deref in
    omega (
      arith,
      size here c.join-joint.result c.in_ok-join.ensures.needs,
      lead-most (joint_items c.join-joint.result (own here)),
      c.requires.before.of_parts.few,
      behind here,
      frames here,
      within here,
      c.requires.can.few,
    )

pub note-requires-clause-room : goal.note-requires-clause-room
note-requires-clause-room c =
    let here = (goal.at.note-requires-clause-room c).After-deref in
    omega (
      arith,
      ap (λ v. length v.items) (c.join.ensures.written ∙ c.append.ensures.written),
      ap length c.requires.before.of_parts.written,
      written-count (before here) 0 (items_left (s here) (before here)),
      before-many here,
      c.requires.within.1,
      c.requires.can.many,
    )

pub returns : goal.returns
returns c =
    let here = (goal.at.returns c).After-deref in
    let splice = c.requires.before.is_splice in
    let is : splice_part_items (window_of (s here).class.version)
    (item_needs (items_left (s here) (before here))) (own here)
    ≡ joint_items c.join-joint.result (own here) =
    subst (λ l. splice_part_items (window_of (s here).class.version)
    (item_needs (items_left (s here) (before here))) l ≡ joint_items c.join-joint.result l)
    (borrowed-is here) (c.join-joint.ensures.items (s here).class _ splice) in
    let some : 1 ≤ length (before here) = omega (arith, before-many here, c.requires.within.0) in
    let needs = ap (λ v. v.items) c.note.ensures.needs
    ∙ joined-are here c.join-joint.result c.in_ok-join.ensures.needs in
    let lead_ins : c.note.new.self.lead_ins.items
    ≡ c.args.decided.now.lead_ins.items ++ joint_places (length (old here)) c.join-joint.result =
    ap (λ v. v.items) c.note.ensures.lead_ins ∙ c.in_ok-join.ensures.lead_ins
    ∙ ap₂ (λ v n. v.items ++ joint_places n c.join-joint.result) c.append.ensures.lead_ins
    (begins here) in
    let written : c.note.new.self.written.items
    ≡ c.args.decided.now.written.items
    ++ written_last (length c.note.new.self.needs.items) (part here) ∷ [] =
    c.note.ensures.written
    ∙ ap₂ (λ v w. v.items ++ written_last (length w.items) (part here) ∷ [])
    (c.join.ensures.written ∙ c.append.ensures.written) (sym c.note.ensures.needs) in
    rw (take-next c.args.parts.now c.args.number
    (part-here none c.requires.can.are
    c.requires.within.1)) (record {
      of_parts =
          splice-next (s here) (before here) (part here) c.join-joint.result some is
          c.note.new.self c.requires.before.of_parts (behind here)
          (frames here) (within here) needs lead_ins written;
      is_splice =
          rw (needs-next (s here) (before here) (part here) c.join-joint.result some is)
          (subst (λ l. IsPartSplice (s here).class
          (item_needs (items_left (s here) (before here))
          ++ item_needs (joint_items c.join-joint.result l)) c.join-joint.new.self)
          (borrowed-is here) (c.join-joint.ensures.goes_on (s here).class _ splice));
      sound = c.join-joint.ensures.sound;
    })
