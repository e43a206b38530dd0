-- The gain command: how it changes a file, and when it refuses it.
use Rattle.std.specs.Prelude.{Bool, false, if◌then◌else◌, List, None, Result, Some, true, ℕ}
use Rattle.commands.specs.{Command.Command, Refusing.{or_else, refusal_or, then_made}}
use Rattle.commands.specs.{SingleOutput.one_command, declared.fault.EditFault.EditFault}
use Rattle.commands.specs.declared.fault.Refusal.{Refusal}
use Rattle.commands.specs.declared.fault.Refusal.TheVariants.{BadTag, BadUndo, GainRange, Joint}
use Rattle.commands.specs.declared.fault.Refusal.TheVariants.{Mono, OutputTooLong, TagTooLarge}
use Rattle.commands.specs.declared.fault.Refusal.TheVariants.{UndoRange}
use Rattle.gain_edits.specs.{Change.{change_task, Changing}, Channels.channel_fault}
use Rattle.gain_edits.specs.GainRange.{range_fault}
use Rattle.gain_edits.specs.UndoItem.{next_undo, noted_undo, output_fault, size_fault, tag_result}
use Rattle.gain_edits.specs.UndoItem.{tag_with_undo, undo_fault}
use Rattle.moved_gains.specs.{Change.FileChange, Course.constant_steps, TagExtent.tag_offset}
use Rattle.moved_gains.specs.TagReading.{file_tag}
use Rattle.requests.specs.{Shifts.steps_of, declared.shift.Shift.Shift}
use Rattle.sync_survey.specs.Faults.{SurveyFields}
use Rattle.tag_blocks.specs.{Tags.{tag_bytes, TagFields}, UndoItems.undo_from}
use Rattle.tag_blocks.specs.declared.undo.Undo.{Undo}

-- Tags are neither read nor written. It is refused if one channel can't change alone, and then if a
-- gain would leave the range.
abbrev pub plain_change : Shift → SurveyFields → Result FileChange EditFault
plain_change shift s =
    refusal_or (or_else (channel_fault shift s)
    (range_fault (constant_steps (steps_of shift)) s.frames))
    (record { steps = constant_steps (steps_of shift); tag = None })

-- The change is noted in this tag, whose undo item has these steps. It is refused if one channel
-- can't change alone, then if a number of the next undo item is too large, then if the new tag is
-- too large or the file with it too long, and then if a gain would leave the range.
abbrev pub noted_change : Shift → SurveyFields → TagFields → Undo → Result FileChange EditFault
noted_change shift s tag undo =
    let next = next_undo shift undo in
    let bytes = tag_bytes (tag_with_undo next tag) in
    refusal_or (or_else (channel_fault shift s)
    (or_else (undo_fault next) (or_else (size_fault bytes)
    (or_else (output_fault s bytes) (range_fault (constant_steps (steps_of shift)) s.frames)))))
    (record { steps = constant_steps (steps_of shift); tag = Some bytes })

-- the change is noted in this tag of the file, unless its undo item has a fault
abbrev pub noted_tag_change : Shift → SurveyFields → TagFields → Result FileChange EditFault
noted_tag_change shift s tag =
    then_made (noted_undo (tag_offset s) (undo_from 32 tag.items)) (noted_change shift s tag)

-- the change is noted in the file's tag; it is refused if the tag has a fault, and then if its undo
-- item has one
abbrev pub tagged_change : Shift → List ℕ → SurveyFields → Result FileChange EditFault
tagged_change shift file s = then_made (tag_result (file_tag file s)) (noted_tag_change shift s)

-- what `gain` changes, with a note in the tag or without one
unfoldable pub gain_change : Shift → Bool → Changing
gain_change shift tags file s = if tags then tagged_change shift file s else plain_change shift s

-- the refusals that it may return: for the tag and its undo item only with tags
abbrev pub gain_refuses : Bool → Refusal → Bool
gain_refuses tags (GainRange offset granule channel gain) = true
gain_refuses tags Mono = true
gain_refuses tags (Joint offset) = true
gain_refuses tags (TagTooLarge size) = tags
gain_refuses tags (BadTag at) = tags
gain_refuses tags (BadUndo at) = tags
gain_refuses tags (UndoRange number) = tags
gain_refuses tags (OutputTooLong size) = tags
gain_refuses tags _ = false

-- the output is the input with its gains moved, and so is its stream
abbrev pub gain_command : Shift → Bool → List ℕ → List ℕ → Command
gain_command shift tags input output = one_command (change_task (gain_change shift tags)
    (λ file. steps_of shift) (gain_refuses tags) input) output
