-- The undo item of the tag, which is mp3gain's: how a change of gains is noted there, and what the
-- item says about it.
use Rattle.std.specs.Prelude.{Err, false, if◌then◌else◌, length, List, nat_lt, None, Ok, Option}
use Rattle.std.specs.Prelude.{pos, Result, Some, unsigned_abs, ℕ, ℤ, ◌-ℤ◌, [], ◌+◌, ◌-◌, ◌==◌, ◌||◌}
use Rattle.commands.specs.{Refusing.or_else, declared.fault.EditFault.EditFault}
use Rattle.commands.specs.declared.fault.EditFault.TheVariants.{Input, Memory, Refused}
use Rattle.commands.specs.declared.fault.Refusal.{Refusal}
use Rattle.commands.specs.declared.fault.Refusal.TheVariants.{BadTag, BadUndo, NoUndo}
use Rattle.commands.specs.declared.fault.Refusal.TheVariants.{OutputTooLong, TagTooLarge, UndoRange}
use Rattle.moved_gains.specs.{Streams.junk_length, TagExtent.tag_length, TagReading.longest_tag}
use Rattle.moved_gains.specs.declared.tag_fault.FileTagFault.{FileTagFault}
use Rattle.moved_gains.specs.declared.tag_fault.FileTagFault.TheVariants.{Bad as BadBlock}
use Rattle.moved_gains.specs.declared.tag_fault.FileTagFault.TheVariants.{Memory as NoRoom, Read}
use Rattle.moved_gains.specs.declared.tag_fault.FileTagFault.TheVariants.{TooLarge}
use Rattle.requests.specs.{Shifts.steps_of, declared.shift.{Shift.Shift, Steps.Steps}}
use Rattle.sync_survey.specs.{Faults.{longest_file, SurveyFields}, SurveyFaultKinds.survey_fault_of}
use Rattle.tag_blocks.specs.{Tags.{tag_bytes, TagFields}, UndoItems.{with_undo, without_undo}}
use Rattle.tag_blocks.specs.declared.undo.{Undo.Undo, UndoItem.UndoItem}
use Rattle.tag_blocks.specs.declared.undo.UndoItem.TheVariants.{Bad, Found, Missing}

-- ---- the tag of the file

-- why the tag can't be read, as a fault of the command
abbrev pub tag_edit_fault : FileTagFault → EditFault
tag_edit_fault (TooLarge size) = Refused (TagTooLarge size)
tag_edit_fault (BadBlock at) = Refused (BadTag at)
tag_edit_fault (Read fault) = Input 0 (survey_fault_of fault)
tag_edit_fault NoRoom = Memory

-- the tag, or why it can't be read
abbrev pub tag_result : Result TagFields FileTagFault → Result TagFields EditFault
tag_result (Ok tag) = Ok tag
tag_result (Err fault) = Err (tag_edit_fault fault)

-- ---- the undo item

-- 0 steps: nothing is to be undone
abbrev pub no_undo : Undo
no_undo = record { left = pos 0; right = pos 0; wrap = false }

-- the content of the undo item of a tag at this offset, or `missing` if there is none
abbrev pub undo_or : Result Undo EditFault → ℕ → UndoItem → Result Undo EditFault
undo_or missing at Missing = missing
undo_or missing at (Bad place) = Err (Refused (BadUndo (at + place)))
undo_or missing at (Found undo) = Ok undo

-- the content of the undo item; nothing is to be undone if there is none
abbrev pub noted_undo : ℕ → UndoItem → Result Undo EditFault
noted_undo at item = undo_or (Ok no_undo) at item

-- the content of the undo item, which has to be there
abbrev pub found_undo : ℕ → UndoItem → Result Undo EditFault
found_undo at item = undo_or (Err (Refused NoUndo)) at item

-- the steps that the item lists, which undo the changes
abbrev pub undo_steps : Undo → Steps
undo_steps undo = record { left = undo.left; right = undo.right; wrap = undo.wrap }

-- the undo item after a further change: the steps of the change are subtracted, and it wraps if it
-- did before or the change does
abbrev pub next_undo : Shift → Undo → Undo
next_undo shift undo = let steps = steps_of shift in record {
  left = undo.left -ℤ steps.left;
  right = undo.right -ℤ steps.right;
  wrap = undo.wrap || shift.wrap;
}

-- an item holds numbers from -999 to 999
abbrev pub number_fault : ℤ → Option Refusal
number_fault number = if nat_lt 999 (unsigned_abs number) then Some (UndoRange number) else None

-- why this undo can't be noted: a number is too large
abbrev pub undo_fault : Undo → Option Refusal
undo_fault undo = or_else (number_fault undo.left) (number_fault undo.right)

-- ---- the new tag

-- the tag with this undo
abbrev pub tag_with_undo : Undo → TagFields → TagFields
tag_with_undo undo tag = record tag { items = with_undo undo tag.items }

-- the tag without an undo item
abbrev pub tag_without_undo : TagFields → TagFields
tag_without_undo tag = record tag { items = without_undo tag.items }

-- the bytes of a tag; a tag without items isn't written
abbrev pub bytes_unless_empty : TagFields → List ℕ
bytes_unless_empty tag = if length tag.items == 0 then [] else tag_bytes tag

-- a tag that is written has at most as many bytes as one that is read
abbrev pub size_fault : List ℕ → Option Refusal
size_fault bytes =
    if nat_lt longest_tag (length bytes) then Some (TagTooLarge (length bytes)) else None

-- the length of the output with a tag of these bytes: the file without its junk and its old tag,
-- plus this tag
abbrev pub output_length : SurveyFields → List ℕ → ℕ
output_length s bytes = s.length - junk_length s - tag_length s + length bytes

-- why the file with a tag of these bytes can't be written: it would be too long
abbrev pub output_fault : SurveyFields → List ℕ → Option Refusal
output_fault s bytes = if nat_lt longest_file (output_length s bytes)
    then Some (OutputTooLong (output_length s bytes)) else None
