-- The numbers that the parts spell are within 16 bits.
use Rattle.std.proofs.Common.{sym, true, ◌∙◌, ◌≡◌}
use Rattle.tag_blocks.proofs.UndoTextLemmas.{most_in_bits, no_undo, undo_parts, undo_read}
use Rattle.tag_blocks.proofs.undo.Undo.read.Goals.{Else-not-is_undo_text}
use Rattle.tag_blocks.specs.UndoText.{is_undo_text}
use Rattle.tag_blocks.proofs.undo.Undo.read.Goals as goal

-- the value is of the form
form : (c : Else-not-is_undo_text) → is_undo_text c.args.value.now ≡ true
form c = sym c.is_undo_text.ensures ∙ c.if-not-is_undo_text.false

pub returns-then-not-is_undo_text-clause-undo : goal.returns-then-not-is_undo_text-clause-undo
returns-then-not-is_undo_text-clause-undo c =
    sym (no_undo c.args.value.now (sym c.is_undo_text.ensures ∙ c.if-not-is_undo_text.true))

pub steps_of-requires-clause-steps : goal.steps_of-requires-clause-steps
steps_of-requires-clause-steps c = (undo_parts (form c)).left

pub steps_of-requires-2-clause-steps : goal.steps_of-requires-2-clause-steps
steps_of-requires-2-clause-steps c = (undo_parts
    (form (goal.at.steps_of-requires-2-clause-steps c).Else-not-is_undo_text)).right

pub returns-clause-undo : goal.returns-clause-undo
returns-clause-undo c =
    undo_read c.args.value.now
    (form (goal.at.returns-clause-undo c).Else-not-is_undo_text)
    c.steps_of.ensures.steps c.steps_of.ensures.most c.steps_of-2.ensures.steps
    c.steps_of-2.ensures.most

pub returns-clause-fits : goal.returns-clause-fits
returns-clause-fits c = record {
  left = most_in_bits c.steps_of.result c.steps_of.ensures.most;
  right = most_in_bits c.steps_of-2.result c.steps_of-2.ensures.most;
}
