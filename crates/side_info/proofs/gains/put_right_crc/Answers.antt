-- The word is the check word of the header and of the side bytes.
use Rattle.std.proofs.Common.{ap, append_assoc, arith, drop, length-append, length-take, rules, sym}
use Rattle.std.proofs.{Common.{take, ◌++◌, ◌∙◌}, lemmas.List.drop_at}
use Rattle.bit_fields.specs.Bits.{bits_of, bytes}
use Rattle.side_info.proofs.{CheckWordLemmas.check_word-written, FrameLemmas.length-word}
use Rattle.side_info.proofs.gains.put_right_crc.Goals as goal

pub returns : goal.returns
returns c = record {
  before = search rules;
  behind = let front = take 4 c.args.frame.now in
      let word = bytes (bits_of 16 c.check_word_of_bytes-word.result) in
      let rest = drop 6 c.args.frame.now in
      ap (drop 6) (c.put_crc.ensures ∙ sym (append_assoc front word rest))
      ∙ drop_at (front ++ word) rest 6 (omega (
        arith,
        c.requires,
        length-append front word,
        length-take 4 c.args.frame.now,
        length-word c.check_word_of_bytes-word.result,
      ));
  word = grind (arith, check_word-written);
}
