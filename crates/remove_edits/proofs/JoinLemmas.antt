-- How a part joins the splice, and which part is next.
use Rattle.std.proofs.Common.{ap, arith, drop, length, List, refl, slice_index_or, slice_set, suc}
use Rattle.std.proofs.Common.{sym, take, zero, ℕ, [], ◌++◌, ◌+◌, ◌-◌, ◌<◌, ◌∷◌, ◌≡◌, ◌≤◌}
use Rattle.std.proofs.Math.Seq.{drop-cons}
use Rattle.frame_header.specs.Fields.{SlotFields}
use Rattle.remove_edits.{proofs.SpliceLemmas.order-at, specs.Ready.{ArePartsLeft, end_of_parts}}
use Rattle.remove_edits.specs.Removed.{lead_in_count, parts_written}
use Rattle.seam_plan.proofs.PartJointLemmas.{needs-items}
use Rattle.seam_plan.specs.PartSplices.{item_needs, joint_items, SpliceItem}
use Rattle.seam_plan.specs.declared.{parts.PartJoint.TheVariants.InSlot, stretches.Part.Part}
use Rattle.slot_plan.specs.FreeBytes.{need_in_slot, needs_with_first_slot}
use Rattle.slot_plan.specs.declared.needs.Need.{Need}
use Rattle.sync_survey.specs.Faults.{SurveyFields}

-- a need that is put into another slot begins a part that joins in it
pub put-first : (slot : SlotFields) (needs : List Need) (at : ℕ) (d : Need) → at < length needs
    → slice_set needs at (need_in_slot slot (slice_index_or needs at d))
    ≡ take at needs ++ item_needs (joint_items (InSlot slot) (drop at needs))
unfolding needs_with_first_slot
put-first slot [] at d within = absurd (omega (arith, within))
put-first slot (n ∷ needs) zero d within =
    ap (λ l. need_in_slot slot n ∷ l) (sym (needs-items needs))
put-first slot (n ∷ needs) (suc at) d within =
    ap (λ l. n ∷ l) (put-first slot needs at d (omega (arith, within)))

-- each part is written once
pub written-count : (parts : List Part) (at : ℕ) (items : List SpliceItem)
    → length (parts_written at items parts) ≡ length parts
unfolding parts_written
written-count [] at items = refl
written-count (p ∷ parts) at items =
    let count = lead_in_count items + (p.to - p.from) in
    ap suc (written-count parts (at + count) (drop count items))

-- ---- the part with a number

module _ {s : SurveyFields} {parts : List Part} {number : ℕ} (none : Part)
    (are : ArePartsLeft s parts) (within : number < length parts) where
  abbrev here : Part
  here = slice_index_or parts number none

  -- it is the first of those from there on
  pub part-here : drop number parts ≡ here ∷ drop (suc number) parts
  part-here = search (arith, drop-cons)

  -- it begins after a frame behind the end of those before it, and is within the file
  pub part-order : (0 ≤ here.from) × (1 ≤ number → end_of_parts (take number parts) + 1 ≤ here.from)
      × (here.from < here.to) × (here.to ≤ length s.frames)
  part-order = order-at 0 number parts are.order part-here
