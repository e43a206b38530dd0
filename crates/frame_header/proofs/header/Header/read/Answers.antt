-- The bits of the four bytes are the bits of their number.
use Rattle.std.proofs.Common.{ap, sym, ◌∙◌}
use Rattle.frame_header.specs.Reading.{header_at, header_in}
use Rattle.frame_header.proofs.header.Header.read.Goals as goal

pub returns : goal.returns
unfolding header_at
returns c = c.read_word.ensures ∙ ap header_in (sym c.word_at.ensures)
