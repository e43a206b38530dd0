-- A block has a header and a footer, and the offset of a fault is in it.
use Rattle.std.proofs.Common.{Err, inl, inr, length, List, Ok, rules, ℕ, ◌≡◌, ◌≤◌, ◌⊎◌}
use Rattle.std.specs.Prelude.{IfErr, MatchResult, Result}
use Rattle.tag_blocks.{proofs.TagsLemmas.{block-long, offset-within}, specs.Laws.AreByteValues}
use Rattle.tag_blocks.specs.Tags.{IsOffsetIn, tag_of, TagFields}
use Rattle.tag_blocks.specs.declared.tag_fault.TagFault.{TagFault, TheVariants.{BadTag, Memory}}
use Rattle.tag_blocks.proofs.tag.Tag.read.Goals as goal

pub read_block-requires-clause-long : goal.read_block-requires-clause-long
read_block-requires-clause-long c = block-long c.args.block.now c.requires.block

within_cases : (block : List ℕ) → AreByteValues block → 64 ≤ length block
    → (r : Result TagFields TagFault) → MatchResult r (λ tag. tag_of block ≡ Ok tag)
    (λ fault. (fault ≡ Memory) ⊎ (tag_of block ≡ Err fault)) → IfErr r (IsOffsetIn block)
within_cases block octets long (Err (BadTag offset)) (inl e) = absurd cc
within_cases block octets long (Err (BadTag offset)) (inr e) = offset-within block octets long e
within_cases block octets long _ h = tt

pub returns-clause-within : goal.returns-clause-within
returns-clause-within c = within_cases c.args.block.now (search rules)
    (block-long c.args.block.now c.requires.block) c.read_block.result c.read_block.ensures.tag
