-- The offsets are the ones of the definition.
use Rattle.std.proofs.Common.{ap, arith, get_or, length, ◌+◌, ◌-◌, ◌∙◌, ◌≡◌, ◌≤◌}
use Rattle.std.proofs.lemmas.List.{take_rest}
use Rattle.tag_blocks.proofs.ItemsLemmas.{has_whole_item-from, has_whole_item-not}
use Rattle.tag_blocks.proofs.item.layout_at.Goals.{After-ape_number}
use Rattle.tag_blocks.proofs.item.layout_at.Goals.{then-length-lt2-via-else-length-lt2+else-length-gt255+else-end-bytes+then-bytes-value_at-ne0}
use Rattle.tag_blocks.proofs.item.layout_at.Goals.{then-length-lt2-via-else-length-lt2+else-length-gt255+then-end-bytes}
use Rattle.tag_blocks.proofs.item.layout_at.Goals.{then-length-lt2-via-else-length-lt2+then-length-gt255}
use Rattle.tag_blocks.proofs.item.layout_at.Goals.{then-length-lt2-via-then-length-lt2}
use Rattle.tag_blocks.specs.{Blocks.ape_number, Items.key_length}
use Rattle.tag_blocks.proofs.item.layout_at.Goals as goal

-- the key's length is the length by the definition
key : (c : After-ape_number) → c.key_length-length.result ≡ key_length c.args.bytes.now
key c = grind (arith, take_rest c.args.bytes.now 8)

pub returns-then-bytes-lt-KEY_AT-clause-stands : goal.returns-then-bytes-lt-KEY_AT-clause-stands
returns-then-bytes-lt-KEY_AT-clause-stands c = grind (arith, has_whole_item-not)

pub returns-then-length-lt2-clause-stands : goal.returns-then-length-lt2-clause-stands
returns-then-length-lt2-clause-stands c =
    let k = key (goal.at.returns-then-length-lt2-clause-stands c).After-ape_number in
    has_whole_item-not (λ s. elim c.then-length-lt2.branch [
      | then-length-lt2-via-then-length-lt2 w ↦ omega (arith, k, s.least, w.if-length-lt2.true)
      | then-length-lt2-via-else-length-lt2+then-length-gt255 w ↦
          omega (arith, k, s.most, w.if-length-gt255.true)
      | then-length-lt2-via-else-length-lt2+else-length-gt255+then-end-bytes w ↦
          omega (arith, k, c.ape_number.ensures, s.within, w.if-end-bytes.true)
      | then-length-lt2-via-else-length-lt2+else-length-gt255+else-end-bytes+then-bytes-value_at-ne0
          w ↦ grind arith
    ])

pub returns-clause-stands : goal.returns-clause-stands
returns-clause-stands c =
    let k = key (goal.at.returns-clause-stands c).After-ape_number in
    let offset : 8 + key_length c.args.bytes.now ≡ 8 + c.key_length-length.result + 1 - 1 =
    omega (arith, k) in
    has_whole_item-from (record {
      least = omega (arith, k, c.if-length-lt2.false);
      most = omega (arith, k, c.if-length-gt255.false);
      within = omega (arith, k, c.ape_number.ensures, c.if-end-bytes.false);
      zero_behind = ap (λ n. get_or c.args.bytes.now n 0) offset ∙ c.if-bytes-value_at-ne0.false;
    })

pub returns-clause-offsets : goal.returns-clause-offsets
returns-clause-offsets c =
    let k = key (goal.at.returns-clause-offsets c).After-ape_number in
    let size : c.ape_number.result ≡ ape_number 0 c.args.bytes.now = c.ape_number.ensures in
    let within : 8 + c.key_length-length.result + 1 + c.ape_number.result
    ≤ length c.args.bytes.now = c.if-end-bytes.false in
    record {
      key = omega (arith, k);
      value = omega (arith, k);
      end_is = omega (arith, k, size);
      within = grind arith;
    }
