-- The tag and the bytes of a file that got another tag.
use Rattle.std.proofs.Common.{ap, ap₂, arith, drop, filter, inl, inr, length, List, None, Ok, refl}
use Rattle.std.proofs.Common.{Some, subst, take, ℕ, [], ◌++◌, ◌+◌, ◌∙◌, ◌∷◌, ◌≡◌, ◌≤◌}
use Rattle.std.{proofs.lemmas.{Bool.ne_eqb, List.Folds.find-append}, specs.List.find}
use Rattle.gain_laws.specs.NewTagLaws.{AreTaggedBytes, HasNewTag}
use Rattle.moved_gains.proofs.CleanFileLemmas.{split}
use Rattle.moved_gains.proofs.RetaggedFileLemmas.{before_is, no_junk-start, room}
use Rattle.moved_gains.proofs.TagReadingLemmas.{file_tag-some, place-some}
use Rattle.moved_gains.proofs.TaggedByteLemmas.{new-bytes, new-front, new-later, new-length}
use Rattle.moved_gains.proofs.TaggedByteLemmas.{new-own}
use Rattle.moved_gains.specs.TagExtent.{file_with_tag, is_tag, new_blocks, retagged_fields}
use Rattle.moved_gains.specs.TagExtent.{stands_before, tag_block, tag_length, tag_offset}
use Rattle.moved_gains.specs.TagReading.{tag_of_block}
use Rattle.sync_survey.proofs.SurveyPartsLemmas.{IsRead, survey_fields-parts, told_from}
use Rattle.sync_survey.specs.{Faults.{survey_fields, SurveyFields}, declared.places.Piece.Piece}
use Rattle.sync_survey.specs.declared.places.Start.{Start}
use Rattle.tag_blocks.{proofs.BlocksLemmas.block_front-least, specs.Blocks.block_front}
use Rattle.tag_blocks.specs.declared.block.Kind.TheVariants.{Ape}

-- ---- a file that got another tag

module _ {file : List ℕ} {allowed : ℕ} {start : Start} (read : IsRead file allowed start)
    (no_junk : start.front_end ≡ start.first.offset) (block : List ℕ)
    (is : block_front block ≡ Some (record { kind = Ape; length = length block })) where
  abbrev s : SurveyFields
  s = told_from file start

  abbrev new : List ℕ
  new = file_with_tag block s file

  abbrev piece : Piece
  piece = record { offset = tag_offset s; block = record { kind = Ape; length = length block } }

  within : tag_offset s + tag_length s ≤ length file
  within = room read no_junk (inr is)

  one_block : new_blocks (length block) s ≡ piece ∷ []
  one_block = grind (arith, ne_eqb, block_front-least)

  -- no tag is before the new one
  none_before : find is_tag (filter (stands_before s) s.blocks) ≡ None
  none_before = ap (find is_tag) (before_is read no_junk (inr is))
      ∙ (split read no_junk).none

  -- the tag's block is the new one
  pub new_tag : tag_block (retagged_fields (length block) s) ≡ Some piece
  unfolding retagged_fields
  new_tag = grind (arith, find-append, none_before, one_block)

  place : (tag_offset (retagged_fields (length block) s) ≡ tag_offset s)
      × (tag_length (retagged_fields (length block) s) ≡ length block)
  place = place-some (retagged_fields (length block) s) new_tag

  again : (other : List ℕ)
      → file_with_tag other (retagged_fields (length block) s) new ≡ file_with_tag other s file
  unfolding file_with_tag
  again other =
      let next : tag_offset (retagged_fields (length block) s)
      + tag_length (retagged_fields (length block) s)
      ≡ tag_offset s + length block = ap₂ (λ a b. a + b) place.0 place.1 in
      ap₂ (λ (a b : List ℕ). a ++ (other ++ b))
      (ap (λ m. take m new) place.0 ∙ new-front block file s within)
      (ap (λ m. drop m new) next ∙ new-later block file s within)

  -- the file has the new tag
  pub has-new : HasNewTag file block s
  has-new = record {
    again = again;
    tag = file_tag-some new (retagged_fields (length block) s) new_tag
        ∙ ap (tag_of_block (tag_offset s)) (new-own block file s within);
    place = place.0;
    size = place.1;
  }

-- a file that got another tag has it, and can get yet another
pub tagged-again : (file block : List ℕ) (allowed : ℕ) (s : SurveyFields)
    → survey_fields file allowed ≡ Ok s → s.junk ≡ s.first → block_front block
    ≡ Some (record { kind = Ape; length = length block }) → HasNewTag file block s
tagged-again file block allowed s e clean is =
    let parts = survey_fields-parts e in
    subst (HasNewTag file block) parts.2
    (has-new parts.1 (no_junk-start file parts.0 parts.2 clean) block is)

-- ---- bytes

bytes_from : {file : List ℕ} (bytes : List ℕ) {allowed : ℕ} {start : Start}
    → IsRead file allowed start → start.front_end ≡ start.first.offset
    → AreTaggedBytes file bytes (told_from file start)
bytes_from {file} bytes {allowed} {start} read no_junk =
    let s = told_from file start in
    let within = room read no_junk (inl refl) in
    record { long = new-length bytes file s within; all = new-bytes bytes file s within }

-- the bytes of a file with another tag are those before
-- its tag, the new tag, and those after the old one
pub tagged-bytes : (file bytes : List ℕ) (allowed : ℕ) (s : SurveyFields)
    → survey_fields file allowed ≡ Ok s → s.junk ≡ s.first → AreTaggedBytes file bytes s
tagged-bytes file bytes allowed s e clean =
    let parts = survey_fields-parts e in
    subst (AreTaggedBytes file bytes) parts.2
    (bytes_from bytes parts.1 (no_junk-start file parts.0 parts.2 clean))
