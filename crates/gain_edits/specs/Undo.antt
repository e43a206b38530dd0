-- The undo command: it undoes the changes that the undo item of the tag lists, and removes the
-- item.
use Rattle.std.specs.Prelude.{Bool, Err, false, List, Ok, Result, Some, true, ℕ}
use Rattle.commands.specs.{Command.Command, Refusing.{refusal_or, then_made}}
use Rattle.commands.specs.SingleOutput.{most_frames, one_command}
use Rattle.commands.specs.declared.fault.{EditFault.EditFault, Refusal.Refusal}
use Rattle.commands.specs.declared.fault.Refusal.TheVariants.{BadTag, BadUndo, GainRange, NoUndo}
use Rattle.commands.specs.declared.fault.Refusal.TheVariants.{TagTooLarge}
use Rattle.gain_edits.specs.{Change.{change_task, Changing}, GainRange.range_fault}
use Rattle.gain_edits.specs.UndoItem.{bytes_unless_empty, found_undo, no_undo, tag_result}
use Rattle.gain_edits.specs.UndoItem.{tag_without_undo, undo_steps}
use Rattle.moved_gains.specs.{Change.FileChange, Course.constant_steps, TagExtent.tag_offset}
use Rattle.moved_gains.specs.TagReading.{file_tag}
use Rattle.requests.specs.declared.shift.Steps.{Steps}
use Rattle.sync_survey.specs.{Faults.SurveyFields, Survey.survey_of}
use Rattle.sync_survey.specs.declared.survey_fault.SurveyFault.{SurveyFault}
use Rattle.tag_blocks.specs.{Tags.TagFields, UndoItems.undo_from, declared.undo.Undo.Undo}

-- The gains move by the steps of this undo item, and the item is removed, and with it a tag that
-- has no other. It is refused if a gain would leave the range.
abbrev pub undone_change : SurveyFields → TagFields → Undo → Result FileChange EditFault
undone_change s tag undo = refusal_or (range_fault (constant_steps (undo_steps undo)) s.frames)
    (record {
      steps = constant_steps (undo_steps undo);
      tag = Some (bytes_unless_empty (tag_without_undo tag));
    })

-- the change with this tag of the file; it is refused if the tag has no undo item, then if the
-- item's value is malformed, and then as above
abbrev pub undone_tag_change : SurveyFields → TagFields → Result FileChange EditFault
undone_tag_change s tag =
    then_made (found_undo (tag_offset s) (undo_from 32 tag.items)) (undone_change s tag)

-- the change with the file's tag; it is refused if the tag has a fault, and then as above
unfoldable pub undo_change : Changing
undo_change file s = then_made (tag_result (file_tag file s)) (undone_tag_change s)

-- ---- the steps of an undo

-- the content of the undo item of a file with this survey
abbrev pub file_undo : List ℕ → SurveyFields → Result Undo EditFault
file_undo file s =
    then_made (tag_result (file_tag file s))
    (λ tag. found_undo (tag_offset s) (undo_from 32 tag.items))

-- the steps of this undo; 0 if there is none
abbrev pub undo_result_steps : Result Undo EditFault → Steps
undo_result_steps (Ok undo) = undo_steps undo
undo_result_steps (Err fault) = undo_steps no_undo

-- the steps of the undo of a file with this survey; 0 if it has a fault
abbrev pub surveyed_undo_steps : List ℕ → Result SurveyFields SurveyFault → Steps
surveyed_undo_steps file (Ok s) = undo_result_steps (file_undo file s)
surveyed_undo_steps file (Err fault) = undo_steps no_undo

-- the steps that the undo item of the file lists; 0 if the file is refused
abbrev pub file_undo_steps : List ℕ → Steps
file_undo_steps file = surveyed_undo_steps file (survey_of file most_frames)

-- the refusals that an undo may return
abbrev pub undo_refuses : Refusal → Bool
undo_refuses (GainRange offset granule channel gain) = true
undo_refuses (TagTooLarge size) = true
undo_refuses (BadTag at) = true
undo_refuses NoUndo = true
undo_refuses (BadUndo at) = true
undo_refuses _ = false

-- the output is the input with these changes taken back, and so is its stream
abbrev pub undo_command : List ℕ → List ℕ → Command
undo_command input output =
    one_command (change_task undo_change file_undo_steps undo_refuses input) output
