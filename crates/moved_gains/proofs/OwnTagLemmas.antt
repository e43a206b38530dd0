-- The file's own tag.
use Rattle.std.proofs.Common.{ap, arith, Bool, cond, drop, Err, false, inr, length, List, None, Ok}
use Rattle.std.proofs.Common.{Option, refl, Result, Some, subst, sym, take, ℕ, ◌++◌, ◌∙◌, ◌≡◌}
use Rattle.std.proofs.lemmas.{Bool.ltb-false, List.{drop-drop, take-append-drop}}
use Rattle.bit_fields.proofs.BitsLemmas.{AreBelow-drop, AreBelow-take, places_below}
use Rattle.bit_fields.specs.Bits.{AreBytes}
use Rattle.moved_gains.proofs.FoundTagLemmas.{tag-there}
use Rattle.moved_gains.proofs.TagReadingLemmas.{file_tag-some, place-some}
use Rattle.moved_gains.specs.TagExtent.{file_with_tag, IsTagBytes, tag_block, tag_length}
use Rattle.moved_gains.specs.{TagExtent.tag_offset, TagLaws.{HasOwnTag, own_tag_bytes}}
use Rattle.moved_gains.specs.TagReading.{file_tag, tag_of_block, tag_result_in_file}
use Rattle.moved_gains.specs.declared.tag_fault.FileTagFault.TheVariants.{TooLarge}
use Rattle.sync_survey.specs.{Faults.{survey_fields, SurveyFields}, declared.places.Piece.Piece}
use Rattle.tag_blocks.proofs.TagsLemmas.{IsTag-in, tag_bytes-in, tag_of-ok}
use Rattle.tag_blocks.specs.{Blocks.block_front, Tags.{IsTag, tag_bytes, TagFields}}
use Rattle.tag_blocks.specs.declared.{block.Kind.TheVariants.Ape, tag_fault.TagFault.TagFault}

own_same : (file : List ℕ) (s : SurveyFields) → file_with_tag (own_tag_bytes file s) s file ≡ file
unfolding file_with_tag
own_same file s =
    let rest = drop (tag_offset s) file in
    ap (λ l. take (tag_offset s) file ++ (take (tag_length s) rest ++ l))
    (sym (drop-drop (tag_length s) (tag_offset s) file))
    ∙ ap (λ l. take (tag_offset s) file ++ l) (take-append-drop (tag_length s) rest)
    ∙ take-append-drop (tag_offset s) file

own_is : (file : List ℕ) (s : SurveyFields) {b : Piece} → tag_block s ≡ Some b
    → own_tag_bytes file s ≡ take b.block.length (drop b.offset file)
own_is file s is = grind (arith, place-some)

own_are : (file : List ℕ) (allowed : ℕ) (s : SurveyFields) → survey_fields file allowed ≡ Ok s
    → (o : Option Piece) → tag_block s ≡ o → IsTagBytes (own_tag_bytes file s)
own_are file allowed s e None is = grind arith
own_are file allowed s e (Some b) is =
    subst IsTagBytes (sym (own_is file s is)) (inr (tag-there allowed e is).front)

read_by : (at size : ℕ) {tag : TagFields} {long : Bool} {r : Result TagFields TagFault}
    → cond long (Err (TooLarge size)) (tag_result_in_file at r) ≡ Ok tag
    → (long ≡ false) × (r ≡ Ok tag)
read_by at size e = grind arith

-- a block whose tag can be read isn't too long, and its bytes are those of the tag
block_bytes : (at : ℕ) {block : List ℕ} {tag : TagFields} → AreBytes block
    → block_front block ≡ Some (record { kind = Ape; length = length block })
    → tag_of_block at block ≡ Ok tag → IsTag tag × (tag_bytes tag ≡ block)
block_bytes at all is e =
    grind (arith, read_by, tag_of-ok, places_below, ltb-false, IsTag-in, tag_bytes-in)

own_read : (file : List ℕ) (allowed : ℕ) (s : SurveyFields) → survey_fields file allowed ≡ Ok s
    → (tag : TagFields) (b : Piece) → AreBytes file → tag_block s ≡ Some b
    → file_tag file s ≡ Ok tag → IsTag tag × (tag_bytes tag ≡ own_tag_bytes file s)
own_read file allowed s e tag b all is found =
    let block = take b.block.length (drop b.offset file) in
    let own = block_bytes b.offset
    (AreBelow-take 256 b.block.length (drop b.offset file) (AreBelow-drop 256 b.offset file all))
    (tag-there allowed e is).front (sym (file_tag-some file s is) ∙ found) in
    (own.0, own.1 ∙ sym (own_is file s is))

-- a file that gets its own tag is unchanged
pub own-tag : (file : List ℕ) (allowed : ℕ) (s : SurveyFields) → survey_fields file allowed ≡ Ok s
    → HasOwnTag file s
own-tag file allowed s e = record {
  same = own_same file s;
  are = own_are file allowed s e (tag_block s) refl;
  tag = own_read file allowed s e;
}
