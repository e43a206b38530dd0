-- The bytes of the number of four bytes are these bytes.
use Rattle.std.proofs.Common.{ap, rules, ◌∙◌}
use Rattle.byteorder.specs.Endian.{little_bytes}
use Rattle.tag_blocks.proofs.NumbersLemmas.{little_bytes-little_number}
use Rattle.tag_tests.proofs.tags.bytes_of_number.Goals as goal

pub returns : goal.returns
returns c = c.write_u32.ensures ∙ ap (little_bytes 4) c.read_u32.ensures
    ∙ little_bytes-little_number (search rules) (search rules)
