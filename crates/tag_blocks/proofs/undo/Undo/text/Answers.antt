-- What is written is read again.
use Rattle.std.proofs.Common.{ap, ◌∙◌}
use Rattle.tag_blocks.{proofs.UndoTextLemmas.undo_of-undo_text, specs.UndoText.undo_of}
use Rattle.tag_blocks.proofs.undo.Undo.text.Goals as goal

pub returns-clause-back : goal.returns-clause-back
returns-clause-back c = ap undo_of c.text_of.ensures ∙ undo_of-undo_text c.requires
