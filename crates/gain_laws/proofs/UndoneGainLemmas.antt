-- What a file is after several noted changes of gains, and that undo takes them back.
use Rattle.std.proofs.Common.{ap, arith, Bool, cond, false, inl, inr, length, List, map, None, Ok}
use Rattle.std.proofs.Common.{Option, pos, refl, Result, Some, subst, sym, take-append-drop, true}
use Rattle.std.proofs.Common.{ℕ, ℤ, ◌+ℤ◌, [], ◌+◌, ◌-◌, ◌==◌, ◌||◌, ◌∙◌, ◌∷◌, ◌≡◌, ◌≤◌}
use Rattle.std.proofs.Math.IntN.{+ℤ_assoc, +ℤ_comm, -ℤ-+ℤ_cancel}
use Rattle.std.{proofs.lemmas.Bool.{le-ltb, ltb-false, ne_eqb}, specs.Prelude.{unsigned_abs, ◌-ℤ◌}}
use Rattle.bit_fields.specs.Bits.{AreBytes}
use Rattle.commands.proofs.RefusingLemmas.{none_first, refusal_or-ok, then_ok}
use Rattle.commands.specs.{Refusing.{refusal_or, then_made}, SingleOutput.most_frames}
use Rattle.commands.specs.declared.fault.{EditFault.EditFault, Refusal.Refusal}
use Rattle.gain_edits.proofs.ProperLemmas.{file_tag-is, file_with_change-ok, made_of, same_tag}
use Rattle.gain_edits.proofs.{ProperLemmas.unless_empty-are, RefusalLemmas.not_there}
use Rattle.gain_edits.specs.{Change.change_result, Gain.{gain_change, noted_change}}
use Rattle.gain_edits.specs.GainRange.{range_fault}
use Rattle.gain_edits.specs.Undo.{undo_change, undone_change, undone_tag_change}
use Rattle.gain_edits.specs.UndoItem.{bytes_unless_empty, found_undo, next_undo, no_undo}
use Rattle.gain_edits.specs.UndoItem.{noted_undo, number_fault, output_length, tag_result}
use Rattle.gain_edits.specs.UndoItem.{tag_with_undo, tag_without_undo, undo_fault, undo_steps}
use Rattle.gain_laws.proofs.MovedAgainLemmas.{even_together, stood}
use Rattle.gain_laws.proofs.MovedTwiceLemmas.{AreTogether, sum_of}
use Rattle.gain_laws.proofs.OppositeStepLemmas.{edited_file-still, own_again, still_holds}
use Rattle.gain_laws.proofs.RangeAgainLemmas.{AreInRange, constant_steps-opposite, range_back}
use Rattle.gain_laws.proofs.RangeAgainLemmas.{range_both, still}
use Rattle.gain_laws.proofs.TaggedAgainLemmas.{changed_again, clean_survey, has_block, new}
use Rattle.gain_laws.proofs.TaggedAgainLemmas.{new_frames, new_is, new_long, new_survey, to}
use Rattle.gain_laws.proofs.WholeFrameLemmas.{AreFramesOf, frames_there}
use Rattle.gain_laws.specs.GivenBack.{gains_result, HasNoEmptyTag, IsGivenBack, tidied_file}
use Rattle.gain_laws.specs.GivenBack.{UndoGivesBack}
use Rattle.moved_gains.proofs.{FoundTagLemmas.survey_fields-length, OwnTagLemmas.own-tag}
use Rattle.moved_gains.proofs.{TagExtentLemmas.tag_none, TagReadingLemmas.file_tag-none}
use Rattle.moved_gains.proofs.WrittenTagLemmas.{length_moved}
use Rattle.moved_gains.specs.{Change.{file_with_change, FileChange}, Course.constant_steps}
use Rattle.moved_gains.specs.Edited.{edited_file}
use Rattle.moved_gains.specs.Streams.{edited_survey, file_without_junk, junk_length}
use Rattle.moved_gains.specs.TagExtent.{file_with_tag, tag_block, tag_length, tag_offset}
use Rattle.moved_gains.specs.TagLaws.{own_tag_bytes}
use Rattle.moved_gains.specs.TagReading.{file_tag, longest_tag, tag_of_block}
use Rattle.requests.specs.{Shifts.steps_of, declared.shift.{Shift.Shift, Steps.Steps}}
use Rattle.sync_survey.proofs.{FoldersLemmas.survey_of-short, SurveyedFileLemmas.survey_of-parts}
use Rattle.sync_survey.specs.Faults.{HoldsStream, longest_file, stream_of, survey_fields}
use Rattle.sync_survey.specs.{Faults.SurveyFields, Survey.survey_of, declared.places.Piece.Piece}
use Rattle.tag_blocks.proofs.TagsLemmas.{block_front-tag_bytes, tag_of-tag_bytes}
use Rattle.tag_blocks.proofs.UndoItemsLemmas.{IsTag-with_undo, undo_from-with_undo}
use Rattle.tag_blocks.proofs.UndoItemsLemmas.{without_undo-with_undo}
use Rattle.tag_blocks.{proofs.UndoTextLemmas.undo_of-undo_text, specs.Blocks.block_front}
use Rattle.tag_blocks.specs.Items.{is_undo, item_length, TagItem}
use Rattle.tag_blocks.specs.Tags.{IsTag, tag_bytes, TagFields}
use Rattle.tag_blocks.specs.UndoItems.{undo_at, undo_from, without_undo}
use Rattle.tag_blocks.specs.{UndoText.{undo_of, UndoFitsText}, declared.block.Kind.TheVariants.Ape}
use Rattle.tag_blocks.specs.declared.undo.{Undo.Undo, UndoItem.UndoItem}
use Rattle.tag_blocks.specs.declared.undo.UndoItem.TheVariants.{Found, Missing}

-- ---- the steps

-- adding a step and subtracting it from the undo doesn't change the sum
pub sum_again : (sum step undo : ℤ) → (sum +ℤ step) +ℤ (undo -ℤ step) ≡ sum +ℤ undo
sum_again sum step undo = +ℤ_assoc sum step (undo -ℤ step)
    ∙ ap (λ z. sum +ℤ z) (+ℤ_comm step (undo -ℤ step) ∙ -ℤ-+ℤ_cancel undo step)

-- steps plus as many the other way are 0
pub sum_first : (step : ℤ) → step +ℤ (pos 0 -ℤ step) ≡ pos 0
sum_first step = +ℤ_comm step (pos 0 -ℤ step) ∙ -ℤ-+ℤ_cancel (pos 0) step

-- ---- the undo item

missing_cases : (b : Bool) (place : ℕ) (o : Option Undo) {later : UndoItem} (item : TagItem)
    {items left : List TagItem} → cond b (undo_at place o) later ≡ Missing
    → (later ≡ Missing → left ≡ items) → cond b items (item ∷ left) ≡ item ∷ items
missing_cases b place o item e rest = grind arith

-- items without an undo item stay the same when it is removed
without_none : (place : ℕ) (items : List TagItem) → undo_from place items ≡ Missing
    → without_undo items ≡ items
without_none place [] e = refl
without_none place (item ∷ items) e =
    missing_cases (is_undo item) place (undo_of item.value) item e
    (λ none. without_none (place + item_length item) items none)

-- a tag without an undo item stays the same when it is removed
pub tag_without_undo-none : {tag : TagFields} → undo_from 32 tag.items ≡ Missing
    → tag_without_undo tag ≡ tag
tag_without_undo-none e = grind (arith, without_none)

-- an undo that was put in doesn't change what is left when it is removed
pub tag_without_undo-with : (undo : Undo) (tag : TagFields)
    → tag_without_undo (tag_with_undo undo tag) ≡ tag_without_undo tag
tag_without_undo-with undo tag = grind (arith, without_undo-with_undo, undo)

-- an undo that was put in is found
pub found_with : {undo : Undo} (tag : TagFields) → UndoFitsText undo
    → undo_from 32 (tag_with_undo undo tag).items ≡ Found undo
found_with {undo} tag fits = undo_from-with_undo tag.items 32 (undo_of-undo_text fits)

-- ---- the tag of a block

-- a tag is read from the block of its bytes
pub block_read : (at : ℕ) {tag : TagFields} → IsTag tag → length (tag_bytes tag) ≤ longest_tag
    → tag_of_block at (tag_bytes tag) ≡ Ok tag
block_read at are small = grind (arith, le-ltb, small, tag_of-tag_bytes, are)

-- ---- changes that were accepted

small_number : (number : ℤ) → number_fault number ≡ None → unsigned_abs number ≤ 999
small_number number e = grind (arith, ltb-false, not_there)

fits_text : {undo : Undo} → undo_fault undo ≡ None → UndoFitsText undo
fits_text {undo} e = let both = none_first e in
    record { left = small_number undo.left both.0; right = small_number undo.right both.1 }

-- the undo fits, the tag and the file aren't too long, and no gain leaves its range
pub record AreNoted (shift : Shift) (s : SurveyFields) (tag : TagFields) (undo : Undo)
    (change : FileChange) : Type 0 where
  pub fits : UndoFitsText (next_undo shift undo)
  pub small : length (tag_bytes (tag_with_undo (next_undo shift undo) tag)) ≤ longest_tag
  pub few : output_length s (tag_bytes (tag_with_undo (next_undo shift undo) tag)) ≤ longest_file
  pub free : range_fault (constant_steps (steps_of shift)) s.frames ≡ None
  pub is : record {
    steps = constant_steps (steps_of shift);
    tag = Some (tag_bytes (tag_with_undo (next_undo shift undo) tag));
  } ≡ change

noted_parts : {shift : Shift} {s : SurveyFields} {tag : TagFields} {undo : Undo}
    {change : FileChange} → noted_change shift s tag undo ≡ Ok change
    → AreNoted shift s tag undo change
noted_parts {shift} {s} {tag} {undo} {change} e =
    let next = next_undo shift undo in
    let bytes = tag_bytes (tag_with_undo next tag) in
    let all = refusal_or-ok e in
    let apart =
    none_first
    all.0 in
    let number = none_first
    apart.1 in
    let size = none_first
    number.1 in
    let output =
    none_first size.1 in
    record {
      fits = fits_text number.0;
      small = grind (arith, ltb-false, not_there);
      few = grind (arith, ltb-false, not_there);
      free = output.1;
      is = all.1;
    }

-- a noted change of a file whose tag is read and has this undo has these properties
pub gain_noted : {shift : Shift} (file : List ℕ) {s : SurveyFields} {tag : TagFields} {undo : Undo}
    {change : FileChange} → tag_result (file_tag file s) ≡ Ok tag
    → noted_undo (tag_offset s) (undo_from 32 tag.items) ≡ Ok undo
    → gain_change shift true file s ≡ Ok change → AreNoted shift s tag undo change
unfolding gain_change
gain_noted file {undo = undo} read item e = grind (arith, noted_parts, undo, item)

-- ---- what is known of the changed file

-- The file has its gains moved by all steps together, and a tag that is the first file's except for
-- the undo item, which has the steps that undo all of them.
pub record IsGained (file : List ℕ) (s : SurveyFields) (tag : TagFields)
    (last : List ℕ) : Type 0 where
  pub steps : Steps
  pub noted : TagFields
  pub undo : Undo
  pub are : IsTag noted
  pub small : length (tag_bytes noted) ≤ longest_tag
  pub item : undo_from 32 noted.items ≡ Found undo
  pub others : tag_without_undo noted ≡ tag_without_undo tag
  pub is : last
      ≡ file_with_tag (tag_bytes noted) (edited_survey (constant_steps steps) s)
      (edited_file (constant_steps steps) file s)
  pub left : steps.left +ℤ undo.left ≡ pos 0
  pub right : steps.right +ℤ undo.right ≡ pos 0
  pub wraps : undo.wrap ≡ steps.wrap
  pub free : range_fault (constant_steps steps) s.frames ≡ None
  pub few : length last ≤ longest_file

file_with_change-with : (steps : Steps) (bytes file : List ℕ) (s : SurveyFields)
    → file_with_change (record { steps = constant_steps steps; tag = Some bytes }) file s
    ≡ file_with_tag bytes (edited_survey (constant_steps steps) s)
    (edited_file (constant_steps steps) file s)
unfolding file_with_change
file_with_change-with steps bytes file s = refl

undo_made : (file : List ℕ) (s : SurveyFields) {tag : TagFields} {undo : Undo}
    → tag_result (file_tag file s) ≡ Ok tag
    → found_undo (tag_offset s) (undo_from 32 tag.items) ≡ Ok undo
    → range_fault (constant_steps (undo_steps undo)) s.frames ≡ None → undo_change file s ≡ Ok
    (record {
      steps = constant_steps (undo_steps undo);
      tag = Some (bytes_unless_empty (tag_without_undo tag));
    })
unfolding undo_change
undo_made file s {tag} {undo} read item free =
    ap (λ (r : Result TagFields EditFault). then_made r (undone_tag_change s)) read
    ∙ ap (λ (r : Result Undo EditFault). then_made r (undone_change s tag)) item
    ∙ ap (λ (o : Option Refusal). refusal_or o (record {
      steps = constant_steps (undo_steps undo);
      tag = Some (bytes_unless_empty (tag_without_undo tag));
    })) free

module _ (file : List ℕ) {s : SurveyFields} (tag : TagFields) (are : AreBytes file)
    (is : survey_fields file most_frames ≡ Ok s) where
  frames : AreFramesOf file s.frames
  frames = frames_there file most_frames are is

  -- ---- its length

  new_length : (steps : Steps) (block : List ℕ) → block_front block
      ≡ Some (record { kind = Ape; length = length block }) → length (file_with_tag block
      (edited_survey (constant_steps steps) s) (edited_file (constant_steps steps) file s))
      ≡ s.length - junk_length s - tag_length s + length block
  new_length steps block front =
      survey_fields-length (file_with_tag block (edited_survey (constant_steps steps) s)
      (edited_file (constant_steps steps) file s))
      most_frames
      (new_is (constant_steps steps) file most_frames are is block front)
      ∙ new_long (constant_steps steps) file most_frames are is block front
      ∙ ap (λ k. s.length - junk_length s - k + length block)
      (length_moved (constant_steps steps) s)

  -- ---- the first gain

  module _ (short : survey_of file most_frames ≡ Ok s) (own : IsTag tag)
      (read : file_tag file s ≡ Ok tag) (none : undo_from 32 tag.items ≡ Missing) where
    -- a file after one noted change is such a file
    pub first_gain : (shift : Shift) {last : List ℕ}
        → change_result (gain_change shift true) file ≡ Ok last → IsGained file s tag last
    first_gain shift {last} e =
        let made = made_of short e in
        let noted = gain_noted file (ap tag_result read)
        (ap (noted_undo (tag_offset s)) none) made.made in
        let next = next_undo shift no_undo in
        let steps = steps_of shift in
        let new_tag = tag_with_undo next tag in
        let new_own = IsTag-with_undo next own in
        let there : last
        ≡ file_with_tag (tag_bytes new_tag) (edited_survey (constant_steps steps) s)
        (edited_file (constant_steps steps) file s) = grind (arith, file_with_change-with, steps) in
        record {
          steps = steps;
          noted = new_tag;
          undo = next;
          are = new_own;
          small = noted.small;
          item = found_with tag noted.fits;
          others = tag_without_undo-with next tag;
          is = there;
          left = sum_first steps.left;
          right = sum_first steps.right;
          wraps = refl;
          free = noted.free;
          few = omega (
            arith,
            ap length there,
            new_length steps (tag_bytes new_tag) (block_front-tag_bytes new_own),
            noted.few,
          );
        }

  -- ---- a file that gains have changed

  module _ {last : List ℕ} (g : IsGained file s tag last) where
    abbrev block : List ℕ
    block = tag_bytes g.noted

    front : block_front block ≡ Some (record { kind = Ape; length = length block })
    front = block_front-tag_bytes g.are

    abbrev here : List ℕ
    here = new (constant_steps g.steps) file most_frames are is block front

    abbrev n : SurveyFields
    n = new_survey (constant_steps g.steps) file most_frames are is block front

    here_survey : survey_of here most_frames ≡ Ok n
    here_survey = grind (arith, survey_of-short, new_is, are, is, front)

    here_read : tag_result (file_tag here n) ≡ Ok g.noted
    here_read = grind (arith, has_block, are, is, front, block_read)

    abbrev by : ℕ → ℕ
    by = to (constant_steps g.steps) file most_frames are is block front

    here_frames : n.frames ≡ map (stood by (constant_steps g.steps)) s.frames
    here_frames = new_frames (constant_steps g.steps) file most_frames are is block front

    -- after one more noted change it is still such a file
    pub further_gain : (shift : Shift) {more : List ℕ}
        → change_result (gain_change shift true) last ≡ Ok more → IsGained file s tag more
    further_gain shift {more} e =
        let made = made_of here_survey
        (ap (change_result (gain_change shift true)) (sym g.is) ∙ e) in
        let noted = gain_noted here here_read
        (ap (noted_undo (tag_offset n)) g.item) made.made in
        let next = next_undo shift g.undo in
        let step = steps_of shift in
        let steps = sum_of g.steps step in
        let together : AreTogether g.steps step steps = record { left = refl; right = refl } in
        let new_tag = tag_with_undo next g.noted in
        let new_own = IsTag-with_undo next g.are in
        let there : more
        ≡ file_with_tag (tag_bytes new_tag) (edited_survey (constant_steps steps) s)
        (edited_file (constant_steps steps) file s) =
        sym made.bytes
        ∙ ap (λ (c : FileChange). file_with_change c here n) (sym noted.is)
        ∙ file_with_change-with step (tag_bytes new_tag) here n
        ∙ changed_again (constant_steps g.steps) file most_frames are is block front
        (constant_steps step)
        (constant_steps steps) (even_together together by s.frames)
        (tag_bytes new_tag) in
        let in_range : AreInRange g.steps step file by s.frames =
        record {
          frames = frames;
          first = g.free;
          second = sym (ap (range_fault (constant_steps step)) here_frames) ∙ noted.free;
        } in
        record {
          steps = steps;
          noted = new_tag;
          undo = next;
          are = new_own;
          small = noted.small;
          item = found_with g.noted noted.fits;
          others = tag_without_undo-with next g.noted ∙ g.others;
          is = there;
          left = sum_again g.steps.left step.left g.undo.left ∙ g.left;
          right = sum_again g.steps.right step.right g.undo.right ∙ g.right;
          wraps = ap (λ (b : Bool). b || shift.wrap) g.wraps;
          free = range_both refl together s.frames in_range;
          few =
              omega (
                arith,
                ap length there,
                new_length steps (tag_bytes new_tag) (block_front-tag_bytes new_own),
                noted.few,
                new_long (constant_steps g.steps) file most_frames are is block front,
                length_moved (constant_steps g.steps) s,
                (has_block (constant_steps g.steps) file most_frames are is block front).size,
                clean_survey (constant_steps g.steps) file most_frames are is block front,
              );
        }

    -- undo gives the file with its gains moved by 0 steps, and with the other items of its tag
    pub undone : change_result undo_change last
        ≡ Ok (file_with_tag (bytes_unless_empty (tag_without_undo tag))
        (edited_survey (constant_steps still) s) (edited_file (constant_steps still) file s))
    undone =
        let back = undo_steps g.undo in
        let bytes = bytes_unless_empty (tag_without_undo g.noted) in
        let free : range_fault (constant_steps back) n.frames ≡ None =
        ap (range_fault (constant_steps back)) here_frames
        ∙ range_back (constant_steps g.steps)
        (constant_steps back) file by s.frames (constant_steps-opposite
        (record { wraps = g.wraps; left = g.left; right = g.right }) by s.frames) frames g.free in
        let made =
        undo_made here n here_read (ap (found_undo (tag_offset n)) g.item) free in
        let together : AreTogether g.steps back still =
        record { left = sym g.left; right = sym g.right } in
        ap (change_result undo_change) g.is
        ∙ file_with_change-ok undo_change here_survey made
        ∙ ap Ok
        (file_with_change-with back bytes here n
        ∙ changed_again (constant_steps g.steps) file most_frames are is block front
        (constant_steps back)
        (constant_steps still) (even_together together by s.frames) bytes
        ∙ ap (λ (t : TagFields). file_with_tag (bytes_unless_empty t)
        (edited_survey (constant_steps still) s)
        (edited_file (constant_steps still) file s)) g.others)

  -- ---- several gains

  -- after more noted changes it is still such a file
  pub gained_then : (shifts : List Shift) {last more : List ℕ} → IsGained file s tag last
      → gains_result shifts last ≡ Ok more → IsGained file s tag more
  gained_then [] {last} {more} g e = let same : last ≡ more = cc in
      subst (IsGained file s tag) same g
  gained_then (shift ∷ shifts) {last} {more} g e =
      let parts =
      then_ok e in
      gained_then shifts (further_gain g shift parts.1) parts.2

  -- ---- what undo gives

  abbrev bytes : List ℕ
  bytes = bytes_unless_empty tag

  edited_file-is : edited_file (constant_steps still) file s ≡ file_without_junk s file
  edited_file-is = edited_file-still still (refl, refl) file most_frames are is

  undone-tidied_file : file_with_tag bytes (edited_survey (constant_steps still) s)
      (edited_file (constant_steps still) file s)
      ≡ tidied_file tag s file
  unfolding tidied_file
  undone-tidied_file = grind (arith, still, edited_file-is)

  -- the bytes of its tag, written again, are the bytes in the file
  own_cases : (read : file_tag file s ≡ Ok tag) (o : Option Piece) → tag_block s ≡ o
      → HasNoEmptyTag tag s → bytes ≡ own_tag_bytes file s
  own_cases read None none has = grind (arith, same_tag, file_tag-none, tag_none)
  own_cases read (Some b) some (inl none) = let both : None ≡ Some b = sym none ∙ some in absurd cc
  own_cases read (Some b) some (inr items) =
      let full : (length tag.items == 0) ≡ false = grind (arith, ne_eqb) in
      ap (λ (c : Bool). cond c [] (tag_bytes tag)) full
      ∙ ((own-tag file most_frames s is).tag tag b are some read).1

  tidied_file-kept : file_tag file s ≡ Ok tag → HasNoEmptyTag tag s
      → tidied_file tag s file ≡ file_without_junk s file
  tidied_file-kept read has =
      grind (arith, undone-tidied_file, still, own_cases, own_again, is, edited_file-is)

  tidied_file-stream : IsTag tag → HoldsStream (tidied_file tag s file) (stream_of file)
  tidied_file-stream own =
      let made : file_with_change (record { steps = constant_steps still; tag = Some bytes }) file s
      ≡ tidied_file tag s file = file_with_change-with still bytes file s ∙ undone-tidied_file in
      subst (λ (l : List ℕ). HoldsStream l (stream_of file)) made (still_holds still (refl, refl)
      (Some bytes) (unless_empty-are own) file most_frames are is)

  given_back : IsTag tag → file_tag file s ≡ Ok tag → undo_from 32 tag.items ≡ Missing
      → {last : List ℕ} → IsGained file s tag last → IsGivenBack file last s tag
  given_back own read none g =
      grind (
        arith,
        undone,
        still,
        tag_without_undo-none,
        undone-tidied_file,
        tidied_file-kept,
        take-append-drop,
        tidied_file-stream,
      )

-- one undo takes back one or more changes
pub gains_undone : UndoGivesBack
gains_undone shift shifts file last s tag are short read none e =
    let is = (survey_of-parts file most_frames short).1 in
    let own = file_tag-is file most_frames are is read in
    let parts =
    then_ok e in
    let g = gained_then file tag are is shifts
    (first_gain file tag are is short own read none shift parts.1) parts.2 in
    given_back file tag are is own read none g
