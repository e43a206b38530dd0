-- Laws of the tag of a file.
use Rattle.std.specs.Prelude.{drop, length, List, Ok, Some, take, ℕ, ◌≡◌}
use Rattle.bit_fields.specs.Bits.{AreBytes}
use Rattle.moved_gains.specs.TagExtent.{file_with_tag, IsTagBytes, retagged_fields, tag_block}
use Rattle.moved_gains.specs.{TagExtent.{tag_length, tag_offset}, TagReading.file_tag}
use Rattle.sync_survey.specs.Faults.{stream_of_survey, survey_fields, SurveyFields}
use Rattle.sync_survey.specs.declared.places.Piece.{Piece}
use Rattle.tag_blocks.specs.Tags.{IsTag, tag_bytes, TagFields}

-- a file without fault and without junk still has no fault with another
-- tag, or none, instead of its tag, and this is its survey then
abbrev pub RetaggedSurvey : Type 0
RetaggedSurvey =
    (file bytes : List ℕ) (allowed : ℕ) (s : SurveyFields) → survey_fields file allowed ≡ Ok s
    → s.junk ≡ s.first → IsTagBytes bytes
    → survey_fields (file_with_tag bytes s file) allowed ≡ Ok (retagged_fields (length bytes) s)

-- the file with another tag has the same stream
abbrev pub SameStream : Type 0
SameStream =
    (file bytes : List ℕ) (allowed : ℕ) (s : SurveyFields) → survey_fields file allowed ≡ Ok s
    → s.junk ≡ s.first → IsTagBytes bytes
    → stream_of_survey (file_with_tag bytes s file) (retagged_fields (length bytes) s)
    ≡ stream_of_survey file s

-- the bytes of the file's tag, none if it has no tag
abbrev pub own_tag_bytes : List ℕ → SurveyFields → List ℕ
own_tag_bytes file s = take (tag_length s) (drop (tag_offset s) file)

-- The bytes of the file's own tag may be those of a tag, and with them instead of it the
-- file is unchanged. If there is a tag and it can be read, they are the bytes of that tag.
pub record HasOwnTag (file : List ℕ) (s : SurveyFields) : Type 0 where
  pub same : file_with_tag (own_tag_bytes file s) s file ≡ file
  pub are : IsTagBytes (own_tag_bytes file s)
  pub tag : (tag : TagFields) (b : Piece) → AreBytes file → tag_block s ≡ Some b
      → file_tag file s ≡ Ok tag → IsTag tag × (tag_bytes tag ≡ own_tag_bytes file s)

-- every file without fault has such an own tag
abbrev pub OwnTag : Type 0
OwnTag = (file : List ℕ) (allowed : ℕ) (s : SurveyFields) → survey_fields file allowed ≡ Ok s
    → HasOwnTag file s
