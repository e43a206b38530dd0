-- The items follow each other, no other that may be there is after them, and no other list of items
-- does this.
use Rattle.std.proofs.Common.{arith, drop, false, List, subst, ℕ}
use Rattle.tag_blocks.proofs.ItemsLemmas.{tag_items_from-only, tag_items_from-read}
use Rattle.tag_blocks.proofs.ItemsLemmas.{tag_items_from-stopped}
use Rattle.tag_blocks.specs.{Items.{items_length, tag_items_from}, Laws.{AreByteValues, AreItemsOf}}
use Rattle.tag_blocks.proofs.laws.items_are_all.Goals as goal

are_items : (most : ℕ) (bytes : List ℕ) → AreByteValues bytes
    → AreItemsOf most bytes (tag_items_from most false bytes)
are_items most bytes octets =
    grind (
      arith,
      tag_items_from-read most false octets,
      tag_items_from-stopped most false
          bytes,
    )

pub returns : goal.returns
returns c = λ most bytes items octets. (
  (λ are. tag_items_from-only most false items (drop (items_length items) bytes)
      are.all are.few (omega (arith, are.one)) are.front are.last),
  (λ is. subst (AreItemsOf most bytes) is (are_items most bytes octets)),
)
