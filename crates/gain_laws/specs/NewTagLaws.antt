-- Laws of a file that got another tag.
use Rattle.std.specs.Prelude.{length, List, Ok, Some, ℕ, ◌+◌, ◌-◌, ◌≡◌}
use Rattle.bit_fields.specs.Bits.{AreBytes}
use Rattle.moved_gains.specs.TagExtent.{file_with_tag, retagged_fields, tag_length, tag_offset}
use Rattle.moved_gains.specs.TagReading.{file_tag, tag_of_block}
use Rattle.sync_survey.specs.Faults.{survey_fields, SurveyFields}
use Rattle.tag_blocks.specs.{Blocks.block_front, declared.block.Kind.TheVariants.Ape}

-- A file that got this block as its tag: another tag replaces it as it would replace
-- the first, its tag is the tag of the block, and it is where the first was.
pub record HasNewTag (file block : List ℕ) (s : SurveyFields) : Type 0 where
  pub again : (other : List ℕ)
      → file_with_tag other (retagged_fields (length block) s) (file_with_tag block s file)
      ≡ file_with_tag other s file
  pub tag : file_tag (file_with_tag block s file) (retagged_fields (length block) s)
      ≡ tag_of_block (tag_offset s) block
  pub place : tag_offset (retagged_fields (length block) s) ≡ tag_offset s
  pub size : tag_length (retagged_fields (length block) s) ≡ length block

-- every such block of a file without fault and without junk is such a new tag
abbrev pub TagAgain : Type 0
TagAgain =
    (file block : List ℕ) (allowed : ℕ) (s : SurveyFields) → survey_fields file allowed ≡ Ok s
    → s.junk ≡ s.first → block_front block ≡ Some (record { kind = Ape; length = length block })
    → HasNewTag file block s

-- the length of the file with another tag, and that it consists of bytes
pub record AreTaggedBytes (file bytes : List ℕ) (s : SurveyFields) : Type 0 where
  pub long : length (file_with_tag bytes s file) ≡ length file - tag_length s + length bytes
  pub all : AreBytes file → AreBytes bytes → AreBytes (file_with_tag bytes s file)

-- every file without fault and without junk has such tagged bytes
abbrev pub TaggedBytes : Type 0
TaggedBytes = (file bytes : List ℕ) (allowed : ℕ) (s : SurveyFields)
    → survey_fields file allowed ≡ Ok s → s.junk ≡ s.first → AreTaggedBytes file bytes s
