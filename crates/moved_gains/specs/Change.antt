-- What changes in a file, and the file that is written.
use Rattle.std.specs.Prelude.{List, None, Option, option_map, Some, ℕ}
use Rattle.moved_gains.specs.{Course.steps_at_offset, Edited.edited_file, Streams.edited_survey}
use Rattle.moved_gains.specs.{TagExtent.file_with_tag, declared.change.Change.Change}
use Rattle.requests.specs.declared.shift.Steps.{Steps}
use Rattle.sync_survey.specs.Faults.{SurveyFields}

-- by how many steps the gains of the frame at an offset move, and
-- the bytes of the new tag, if the tag changes; no bytes remove it
pub record FileChange : Type 0 where
  pub steps : ℕ → Steps
  pub tag : Option (List ℕ)

-- the change that the code has, for a file with this survey
abbrev pub change_in : Change → SurveyFields → FileChange
change_in change s = record {
  steps = steps_at_offset change.course s.frames;
  tag = option_map (λ tag. tag.items) change.tag;
}

-- the file with the new tag instead of its tag, if the tag changes
abbrev pub retagged_file : Option (List ℕ) → SurveyFields → List ℕ → List ℕ
retagged_file None s file = file
retagged_file (Some tag) s file = file_with_tag tag s file

-- the file with moved gains, without junk, and with its new tag
unfoldable pub file_with_change : FileChange → List ℕ → SurveyFields → List ℕ
file_with_change change file s =
    retagged_file change.tag (edited_survey change.steps s) (edited_file change.steps file s)
