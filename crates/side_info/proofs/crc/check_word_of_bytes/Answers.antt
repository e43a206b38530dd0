-- The side bytes are divided after the bytes of the header.
use Rattle.std.proofs.Common.{ap, drop, ◌++◌, ◌∙◌, ◌≡◌}
use Rattle.bit_fields.specs.Bits.{bits}
use Rattle.side_info.proofs.CheckWordLemmas.{check_word-read}
use Rattle.side_info.proofs.CrcLemmas.{remainder-bits_append, two_list}
use Rattle.side_info.proofs.crc.check_word_of_bytes.Goals.{After-crc_after}
use Rattle.side_info.specs.CheckWord.{crc_start, remainder}
use Rattle.side_info.proofs.crc.check_word_of_bytes.Goals as goal

divided : (c : After-crc_after) → c.crc_after.result
    ≡ remainder crc_start (bits (drop 2 c.args.header.now ++ c.args.side.now))
divided c =
    c.crc_after.ensures
    ∙ ap (λ w. remainder w (bits c.args.side.now))
    (c.crc_two_bytes.ensures ∙ two_list crc_start c.args.header.now c.requires)
    ∙ remainder-bits_append crc_start (drop 2 c.args.header.now) c.args.side.now

pub returns : goal.returns
returns c = record {
  bytes = divided c;
  read = λ h is size. divided c
      ∙ check_word-read c.args.header.now c.args.side.now c.requires is size;
}
