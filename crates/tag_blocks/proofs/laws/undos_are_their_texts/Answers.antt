-- Signs, digits, commas and the letter are written as they were read.
use Rattle.tag_blocks.proofs.UndoTextLemmas.{undo_text-undo_of}
use Rattle.tag_blocks.proofs.laws.undos_are_their_texts.Goals as goal

pub returns : goal.returns
returns c = undo_text-undo_of
