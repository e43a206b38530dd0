-- The next offset.
use Rattle.std.proofs.Common.{sym, ◌∙◌}
use Rattle.info_header.proofs.InfoLemmas.{offset-set}
use Rattle.info_header.proofs.fields.offset_behind.Goals as goal

pub returns-then-is_set-clause-offset : goal.returns-then-is_set-clause-offset
returns-then-is_set-clause-offset c = offset-set c.args.flags c.args.field c.requires.offset
    (sym c.is_set.ensures ∙ c.if-is_set.true)
