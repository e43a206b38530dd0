-- The needs of the frames that are kept come after those before them.
use Rattle.std.proofs.Common.{append_assoc, arith, drop, drop-drop, length, length-append}
use Rattle.std.proofs.Common.{length-take, List, refl, Some, take, ℕ, ◌++◌, ◌-◌, ◌≡◌}
use Rattle.std.proofs.lemmas.List.{drop_at, take_all, take_at}
use Rattle.frame_header.specs.Fields.{SlotFields}
use Rattle.seam_plan.proofs.SeamLemmas.{length-moved}
use Rattle.slot_plan.specs.{FreeBytes.needs_with_first_slot, declared.needs.Need.Need}
use Rattle.seamless_edits.proofs.decided.join_needs.Goals as goal

-- the last of them were borrowed, and came back with the first in another slot
back : (old new part items : List Need) (at len : ℕ) (slot : SlotFields)
    (put after rest : List Need) → at ≡ length old → items ≡ old ++ new → part ≡ items
    → len ≡ length items → put ≡ needs_with_first_slot slot (take (length part - at) (drop at part))
    → take len ((take at part ++ (put ++ after)) ++ rest) ≡ old ++ needs_with_first_slot slot new
back old new part items at len slot put after rest at_is items_is part_is len_is put_is =
    grind (
      arith,
      take_at old new (length old) refl,
      drop_at old new (length old) refl,
      length-append old new,
      take_all,
      length-append old put,
      length-moved (Some slot) new,
      append_assoc old put after,
      append_assoc (old ++ put) after rest,
      take_at,
    )

pub returns-in-Some : goal.returns-in-Some
returns-in-Some c = grind (arith, length-take, drop-drop, back)
