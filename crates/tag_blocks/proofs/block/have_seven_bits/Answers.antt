-- The closure is the test of one byte.
use Rattle.std.proofs.{Common.{ltb, rules, ℕ}, lemmas.Iterator.YieldsList-from_slice}
use Rattle.std.proofs.lemmas.Iterator.Search.{all_from_yields_List}
use borrow.Author.Tests.{tests}
use Rattle.tag_blocks.proofs.block.have_seven_bits.Goals as goal

pub returns : goal.returns
returns c =
    all_from_yields_List (λ (b : ℕ). ltb b 128) _ _ _
    c.all.ensures.ran (YieldsList-from_slice c.args.bytes.now cc) (λ x b q k. search (rules, tests))
