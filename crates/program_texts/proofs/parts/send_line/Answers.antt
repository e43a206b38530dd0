-- The line was sent, or a prefix of it.
use Rattle.program_texts.proofs.LineLemmas.{got_either, text_of_line-parts}
use Rattle.program_texts.proofs.parts.send_line.Goals as goal

pub returns : goal.returns
returns g c = rw (← text_of_line-parts c.args.parts.now) (got_either c.send_parts.result
    c.send_parts.ensures.later c.send_parts.ensures.whole c.send_parts.ensures.front)
