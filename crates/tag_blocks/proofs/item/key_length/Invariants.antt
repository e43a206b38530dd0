-- All characters so far are characters of a key.
use Rattle.std.{proofs.Common.{drop, ◌+◌, ◌≡◌}, specs.List.prefix_len}
use Rattle.tag_blocks.specs.Items.{is_key_char}
use Rattle.tag_blocks.proofs.item.key_length.Given as goal

abbrev pub invariant-loop-at : goal.invariant-loop-at
invariant-loop-at l =
    prefix_len is_key_char l.bytes ≡ l.at + prefix_len is_key_char (drop l.at l.bytes)
