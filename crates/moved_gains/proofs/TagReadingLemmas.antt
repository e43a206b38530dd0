-- The tag of a file, from the bytes of its block.
use Rattle.std.proofs.Common.{arith, drop, length, List, None, Ok, refl, Result, Some, take, ℕ, ◌<◌}
use Rattle.std.proofs.{Common.◌≡◌, lemmas.Bool.lt-ltb}
use Rattle.moved_gains.proofs.FoundTagLemmas.{IsTagThere, survey_fields-length}
use Rattle.moved_gains.proofs.FoundTagLemmas.{survey_of-survey_fields, tag-there}
use Rattle.moved_gains.specs.TagExtent.{tag_block, tag_length, tag_offset}
use Rattle.moved_gains.specs.TagReading.{empty_tag, file_tag, IsBlockCause, IsFileSurvey}
use Rattle.moved_gains.specs.TagReading.{IsTagCause, longest_tag, RefusesTag, tag_of_block}
use Rattle.moved_gains.specs.declared.tag_fault.FileTagFault.{FileTagFault, TheVariants.TooLarge}
use Rattle.outside.specs.{Counts.Counts, Files.{Files, Holds}}
use Rattle.sync_survey.specs.{Faults.SurveyFields, declared.places.Piece.Piece}
use Rattle.tag_blocks.specs.{Blocks.block_front, Tags.TagFields}
use Rattle.tag_blocks.specs.declared.block.Kind.TheVariants.{Ape}

-- ---- the tag of a file

-- a file without a tag has the tag without items
pub file_tag-none : (file : List ℕ) (s : SurveyFields) → tag_block s ≡ None
    → file_tag file s ≡ Ok empty_tag
unfolding file_tag
file_tag-none file s none = rw none refl

-- a file with a tag has the tag of its block's bytes
pub file_tag-some : (file : List ℕ) (s : SurveyFields) {b : Piece} → tag_block s ≡ Some b
    → file_tag file s ≡ tag_of_block b.offset (take b.block.length (drop b.offset file))
unfolding file_tag
file_tag-some file s some = rw some refl

-- the tag is where its block is
pub place-some : (s : SurveyFields) {b : Piece} → tag_block s ≡ Some b
    → (tag_offset s ≡ b.offset) × (tag_length s ≡ b.block.length)
place-some s some = (rw some refl, rw some refl)

-- ---- a survey of a file of a folder

module _ (name : List ℕ) (files : Files) {s : SurveyFields} (surveyed : (bytes : List ℕ)
    → Holds files name bytes → IsFileSurvey bytes s) {b : Piece} (tag : tag_block s ≡ Some b) where
  -- the block is in the file
  pub told-there : {bytes : List ℕ} → Holds files name bytes → IsTagThere bytes b
  told-there {bytes} holds =
      let is = surveyed bytes holds in
      tag-there is.0 (survey_of-survey_fields bytes is.0 is.1) tag

  -- the file is as long as the survey says
  pub told-length : (bytes : List ℕ) → Holds files name bytes → length bytes ≡ s.length
  told-length bytes holds = grind (arith, survey_fields-length, survey_of-survey_fields)

  -- a tag that is too long is refused
  pub too_large-refused : longest_tag < b.block.length
      → RefusesTag name files s (TooLarge b.block.length)
  too_large-refused large bytes holds =
      grind (arith, told-there holds, lt-ltb, file_tag-some bytes s tag)

  module _ {block : List ℕ} (own : (bytes : List ℕ) → Holds files name bytes → block
      ≡ take b.block.length (drop b.offset bytes)) (long : length block ≡ b.block.length) where
    front_there : (bytes : List ℕ) → Holds files name bytes
        → block_front block ≡ Some (record { kind = Ape; length = length block })
    front_there bytes holds = grind (arith, told-there)

    tag_is : (bytes : List ℕ) → Holds files name bytes → {r : Result TagFields FileTagFault}
        → tag_of_block b.offset block ≡ r → file_tag bytes s ≡ r
    tag_is bytes holds is = grind (arith, file_tag-some)

    -- the tag is that of the block
    pub block-tag : (t : TagFields) → (block_front block
        ≡ Some (record { kind = Ape; length = length block }) → tag_of_block b.offset block ≡ Ok t)
        → (bytes : List ℕ) → Holds files name bytes → file_tag bytes s ≡ Ok t
    block-tag t is bytes holds = tag_is bytes holds (is (front_there bytes holds))

    -- the fault of the tag is that of the block
    pub block-cause : {before after : Counts} (fault : FileTagFault) → after ≡ before
        → IsBlockCause b.offset block fault → IsTagCause name files s before after fault
    block-cause fault same cause = grind (arith, place-some, tag_is, front_there)
