-- What undo makes of a file after several changes of gains, and what the opposite change makes.
use Rattle.std.specs.Prelude.{false, length, List, neg_ℤ, None, Ok, Result, true, ℕ, [], ◌<◌, ◌∷◌}
use Rattle.std.specs.Prelude.{◌≡◌, ◌⊎◌}
use Rattle.bit_fields.specs.Bits.{AreBytes}
use Rattle.commands.specs.{Refusing.then_made, SingleOutput.most_frames}
use Rattle.commands.specs.declared.fault.EditFault.{EditFault}
use Rattle.gain_edits.specs.{Change.change_result, Gain.gain_change, Undo.undo_change}
use Rattle.gain_edits.specs.UndoItem.{bytes_unless_empty, no_undo, undo_steps}
use Rattle.moved_gains.specs.{Course.constant_steps, Streams.{edited_survey, file_without_junk}}
use Rattle.moved_gains.specs.{TagExtent.{file_with_tag, tag_block}, TagReading.file_tag}
use Rattle.requests.specs.declared.shift.Shift.{Shift}
use Rattle.sync_survey.specs.{Faults.{HoldsStream, stream_of, SurveyFields}, Survey.survey_of}
use Rattle.tag_blocks.specs.{Tags.TagFields, UndoItems.undo_from}
use Rattle.tag_blocks.specs.declared.undo.UndoItem.TheVariants.{Missing}

-- what these changes make of a file in order, each applied to the file of the one before and noted
-- in the tag; or why one of them is refused
abbrev pub gains_result : List Shift → List ℕ → Result (List ℕ) EditFault
gains_result [] file = Ok file
gains_result (shift ∷ shifts) file =
    then_made (change_result (gain_change shift true) file) (gains_result shifts)

-- the file without the junk before its first frame, and without its tag if the tag has no item
unfoldable pub tidied_file : TagFields → SurveyFields → List ℕ → List ℕ
tidied_file tag s file =
    file_with_tag (bytes_unless_empty tag) (edited_survey (constant_steps (undo_steps no_undo)) s)
    (file_without_junk s file)

-- the file has no tag, or one with an item
abbrev pub HasNoEmptyTag : TagFields → SurveyFields → Type 0
HasNoEmptyTag tag s = (tag_block s ≡ None) ⊎ (0 < length tag.items)

-- Undo makes the first file from the last again: without its junk, and without its tag if that had
-- no item before the changes. If the file had a tag with an item, or none, all bytes except the
-- junk come back; if there is no junk either, the file itself does. The stream of the file comes
-- back in every case.
pub record IsGivenBack (file last : List ℕ) (s : SurveyFields) (tag : TagFields) : Type 0 where
  pub back : change_result undo_change last ≡ Ok (tidied_file tag s file)
  pub kept : HasNoEmptyTag tag s → change_result undo_change last ≡ Ok (file_without_junk s file)
  pub same : HasNoEmptyTag tag s → s.junk ≡ s.first → change_result undo_change last ≡ Ok file
  pub stream : HoldsStream (tidied_file tag s file) (stream_of file)

-- this holds for a file whose tag can be read and has no undo item, after one or more gains that
-- are accepted, with or without wrap
abbrev pub UndoGivesBack : Type 0
UndoGivesBack =
    (shift : Shift) (shifts : List Shift) (file last : List ℕ) (s : SurveyFields) (tag : TagFields)
    → AreBytes file → survey_of file most_frames ≡ Ok s → file_tag file s ≡ Ok tag
    → undo_from 32 tag.items ≡ Missing → gains_result (shift ∷ shifts) file ≡ Ok last
    → IsGivenBack file last s tag

-- ---- the opposite change

-- the same channels by as many steps the other way
abbrev pub opposite_shift : Shift → Shift
opposite_shift shift = record shift { steps = neg_ℤ shift.steps }

-- After a change of gains without a note, with or without wrap, the opposite change is
-- accepted. It gives the file from before the first, byte for byte, except the junk before
-- its first frame. A file without junk comes back whole: `file_without_junk` is then the file.
abbrev pub OppositeGivesBack : Type 0
OppositeGivesBack =
    (shift : Shift) (file new : List ℕ) (s : SurveyFields) → AreBytes file
    → survey_of file most_frames ≡ Ok s → change_result (gain_change shift false) file ≡ Ok new
    → change_result (gain_change (opposite_shift shift) false) new ≡ Ok (file_without_junk s file)
