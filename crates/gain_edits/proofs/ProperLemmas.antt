-- What a command makes of a file: it is well-formed, its stream is the file's with each gain moved,
-- and the command is as the one body requires.
use Rattle.std.proofs.Common.{ap, arith, false, length, List, map, None, Ok, Option, refl, Result}
use Rattle.std.proofs.Common.{Some, subst, sym, true, ℕ, [], ◌+◌, ◌∙◌, ◌∷◌, ◌≡◌}
use Rattle.std.specs.{List.enumerate_from, Prelude.{IfErr, IfSome}}
use Rattle.bit_fields.specs.Bits.{AreBytes}
use Rattle.commands.proofs.InputLemmas.{file_makes, file_proper, IsProperMaking}
use Rattle.commands.{proofs.RefusingLemmas.{refusal_or-ok, then_ok}, specs.Refusing.or_else}
use Rattle.commands.specs.SingleOutput.{IsMaking, IsProperTask, made_file, most_frames}
use Rattle.commands.specs.declared.fault.EditFault.{EditFault}
use Rattle.gain_edits.proofs.RefusalLemmas.{change_late}
use Rattle.gain_edits.specs.Change.{change_making, change_result, changed_or_fault, Changing}
use Rattle.gain_edits.specs.Change.{moved_file_stream}
use Rattle.gain_edits.specs.Changes.{changing_of, refuses_of_changes, steps_of_changes}
use Rattle.gain_edits.specs.{Changes.task_of_changes, Channels.channel_fault}
use Rattle.gain_edits.specs.{Gain.{gain_change, tagged_change}, GainRange.range_fault}
use Rattle.gain_edits.specs.Undo.{file_undo, surveyed_undo_steps, undo_change, undo_result_steps}
use Rattle.gain_edits.specs.UndoItem.{bytes_unless_empty, found_undo, next_undo, noted_undo}
use Rattle.gain_edits.specs.UndoItem.{output_fault, size_fault, tag_result, tag_with_undo}
use Rattle.gain_edits.specs.UndoItem.{tag_without_undo, undo_fault, undo_steps}
use Rattle.gain_edits.specs.declared.changes.Changes.{Changes, TheVariants.{Move, Undo as UndoAll}}
use Rattle.moved_gains.proofs.EditedSurveyLemmas.{survey_fields-edited_file}
use Rattle.moved_gains.proofs.{MovedStreamLemmas.stream-edited_file, OwnTagLemmas.own-tag}
use Rattle.moved_gains.proofs.RetaggedFileLemmas.{stream-retagged_fields}
use Rattle.moved_gains.proofs.RetaggedFileLemmas.{survey_fields-retagged_fields}
use Rattle.moved_gains.proofs.TagReadingLemmas.{file_tag-none}
use Rattle.moved_gains.specs.Change.{file_with_change, FileChange, retagged_file}
use Rattle.moved_gains.specs.{Course.constant_steps, Edited.edited_file}
use Rattle.moved_gains.specs.Streams.{edited_survey, IsStreamMoved, moved_stream_frame}
use Rattle.moved_gains.specs.Streams.{moved_stream_of}
use Rattle.moved_gains.specs.TagExtent.{IsTagBytes, retagged_fields, tag_block, tag_offset}
use Rattle.moved_gains.specs.TagReading.{empty_tag, file_tag}
use Rattle.moved_gains.specs.declared.tag_fault.FileTagFault.{FileTagFault}
use Rattle.outside.specs.Files.{Files, Holds, IsFileThere}
use Rattle.requests.specs.{Shifts.steps_of, declared.shift.{Shift.Shift, Steps.Steps}}
use Rattle.sync_survey.proofs.SurveyPartsLemmas.{survey_fields-allowed}
use Rattle.sync_survey.proofs.SurveyedFileLemmas.{survey_of-parts}
use Rattle.sync_survey.specs.Faults.{HoldsStream, stream_of, stream_of_survey, survey_fields}
use Rattle.sync_survey.specs.Faults.{surveyed_stream, SurveyFields}
use Rattle.sync_survey.specs.{MainData.{main_bytes, stream_frame, stream_frames}, Row.Row}
use Rattle.sync_survey.specs.{Survey.survey_of, declared.places.{Head.Head, Piece.Piece}}
use Rattle.tag_blocks.proofs.TagsLemmas.{block_front-tag_bytes}
use Rattle.tag_blocks.proofs.UndoItemsLemmas.{IsTag-with_undo, IsTag-without_undo}
use Rattle.tag_blocks.specs.{Tags.{IsTag, tag_bytes, TagFields}, UndoItems.undo_from}
use Rattle.tag_blocks.specs.declared.undo.Undo.{Undo}

IsTag-empty : IsTag empty_tag
IsTag-empty = grind arith

abbrev ok_tag : TagFields → Result TagFields FileTagFault
ok_tag tag = Ok tag

-- tags are the same if the results are
pub same_tag : {a b : TagFields} → ok_tag a ≡ ok_tag b → a ≡ b
same_tag e = cc

-- the tag that is read from a surveyed file is a tag
pub file_tag-is : (file : List ℕ) (allowed : ℕ) {s : SurveyFields} {tag : TagFields} → AreBytes file
    → survey_fields file allowed ≡ Ok s → file_tag file s ≡ Ok tag → IsTag tag
file_tag-is file allowed {s} {tag} all is e = at (tag_block s) refl
  where
    at : (o : Option Piece) → tag_block s ≡ o → IsTag tag
    at None none = subst IsTag (same_tag (sym (file_tag-none file s none) ∙ e)) IsTag-empty
    at (Some b) some = ((own-tag file allowed s is).tag tag b all some e).0

-- ---- what is made of a file

-- the change of a file with this survey, and the new file
pub record IsMadeBy (of : Changing) (file new : List ℕ) (s : SurveyFields) : Type 0 where
  pub change : FileChange
  pub made : of file s ≡ Ok change
  pub bytes : file_with_change change file s ≡ new

-- a file that was changed has a change from which it was made
pub made_cases : (of : Changing) {file new : List ℕ} {s : SurveyFields}
    {r : Result FileChange EditFault} → of file s ≡ r → changed_or_fault file s r ≡ Ok new
    → IsMadeBy of file new s
made_cases of made e = grind arith

-- a file that was changed has such a change, given its survey
pub made_of : {of : Changing} {file new : List ℕ} {s : SurveyFields}
    → survey_of file most_frames ≡ Ok s → change_result of file ≡ Ok new → IsMadeBy of file new s
unfolding made_file
made_of is e = grind (arith, made_cases, is)

-- a change of a surveyed file makes the changed file
pub file_with_change-ok : (of : Changing) {file : List ℕ} {s : SurveyFields} {change : FileChange}
    → survey_of file most_frames ≡ Ok s → of file s ≡ Ok change
    → change_result of file ≡ Ok (file_with_change change file s)
unfolding made_file
file_with_change-ok of is made = grind (arith, is, made)

-- ---- the stream

-- the survey of the changed file
abbrev pub survey_with : Option (List ℕ) → SurveyFields → SurveyFields
survey_with None s = s
survey_with (Some tag) s = retagged_fields (length tag) s

abbrev pub changed_survey : FileChange → SurveyFields → SurveyFields
changed_survey change s = survey_with change.tag (edited_survey change.steps s)

no_junk : (steps : ℕ → Steps) (s : SurveyFields)
    → (edited_survey steps s).junk ≡ (edited_survey steps s).first
unfolding edited_survey
no_junk steps s = refl

module _ (file : List ℕ) (allowed : ℕ) {s : SurveyFields} (all : AreBytes file)
    (is : survey_fields file allowed ≡ Ok s) where
  edited_file-survey : (steps : ℕ → Steps)
      → survey_fields (edited_file steps file s) allowed ≡ Ok (edited_survey steps s)
  edited_file-survey steps = survey_fields-edited_file steps file allowed all is

  tagged_is : (steps : ℕ → Steps) (o : Option (List ℕ)) → IfSome o IsTagBytes
      → survey_fields (retagged_file o (edited_survey steps s) (edited_file steps file s)) allowed
      ≡ Ok (survey_with o (edited_survey steps s))
  tagged_is steps o tags = grind (arith, edited_file-survey, survey_fields-retagged_fields, no_junk)

  -- the changed file has the survey of the file, changed
  pub survey_fields-file_with_change : (change : FileChange) → IfSome change.tag IsTagBytes
      → survey_fields (file_with_change change file s) allowed ≡ Ok (changed_survey change s)
  unfolding file_with_change
  survey_fields-file_with_change change tags = tagged_is change.steps change.tag tags

  stream_is : (steps : ℕ → Steps) (o : Option (List ℕ)) → IfSome o IsTagBytes
      → stream_of_survey (retagged_file o (edited_survey steps s) (edited_file steps file s))
      (survey_with o (edited_survey steps s)) ≡ moved_stream_of steps file s
  stream_is steps None tags = stream-edited_file steps file allowed all is
  stream_is steps (Some tag) tags =
      stream-retagged_fields (edited_file steps file s) allowed
      (edited_file-survey steps)
      (no_junk steps s) tags ∙ stream-edited_file steps file allowed all is

  -- the stream of the changed file is the stream of the file with its gains moved
  pub stream-file_with_change : (change : FileChange) → IfSome change.tag IsTagBytes
      → stream_of_survey (file_with_change change file s) (changed_survey change s)
      ≡ moved_stream_of change.steps file s
  unfolding file_with_change
  stream-file_with_change change tags = stream_is change.steps change.tag tags

  file_with_change-moved : (change : FileChange) → IfSome change.tag IsTagBytes
      → IsStreamMoved change.steps file (file_with_change change file s)
  file_with_change-moved change tags =
      let new = file_with_change change file s in
      record {
        before = (s, survey_fields-allowed file allowed (omega arith) is);
        after = (
          changed_survey change s,
          survey_fields-allowed new allowed (omega arith)
              (survey_fields-file_with_change change tags),
        );
        stream = stream-file_with_change change tags;
      }

-- What a command makes of a file is as well-formed as the file, and its stream is the file's with
-- each gain moved.
pub changed-stream : {of : Changing} {file new : List ℕ} {s : SurveyFields}
    (c : IsMadeBy of file new s) → AreBytes file → survey_of file most_frames ≡ Ok s
    → IfSome c.change.tag IsTagBytes → IsStreamMoved c.change.steps file new
changed-stream c all is tags = grind (arith, file_with_change-moved, survey_of-parts, is)

-- the stream of a file is the stream of its survey
pub stream_of-survey : (file : List ℕ) {s : SurveyFields}
    → survey_fields file (length file + 1) ≡ Ok s → stream_of file ≡ stream_of_survey file s
unfolding stream_of
stream_of-survey file is = ap (surveyed_stream file) is

each_even : (steps : Steps) (main : List ℕ) (o : Option Head) (rows : List Row)
    (more : List (ℕ × Row))
    → map (λ (p : ℕ × Row). moved_stream_frame steps (stream_frame main o rows p.0 p.1)) more
    ≡ map (moved_stream_frame steps) (map (λ (p : ℕ × Row). stream_frame main o rows p.0 p.1) more)
each_even steps main o rows [] = refl
each_even steps main o rows (p ∷ more) = grind (arith, each_even steps main o rows more)

-- the moved stream, if all frames have the same steps
pub constant_steps-stream : (steps : Steps) (file : List ℕ) (s : SurveyFields)
    → moved_stream_of (constant_steps steps) file s
    ≡ map (moved_stream_frame steps) (stream_of_survey file s)
unfolding moved_stream_of stream_of_survey stream_frames
constant_steps-stream steps file s =
    each_even steps (main_bytes file s.head s.frames) s.head s.frames (enumerate_from 0 s.frames)

-- the new file holds the moved stream
pub holds_moved : {steps : ℕ → Steps} {file new : List ℕ} (h : IsStreamMoved steps file new)
    → HoldsStream new (moved_stream_of steps file h.before.0)
holds_moved h = grind (arith, stream_is, stream_of-survey)

-- a file whose stream is moved holds the moved stream
pub moved_holds : {steps : Steps} {file new : List ℕ}
    → IsStreamMoved (constant_steps steps) file new
    → HoldsStream new (map (moved_stream_frame steps) (stream_of file))
moved_holds h = grind (arith, constant_steps-stream, stream_of-survey, holds_moved)

-- ---- changes that aren't refused

-- the change was noted in this tag, whose undo item had these steps before
pub record IsNoted (shift : Shift) (file : List ℕ) (s : SurveyFields)
    (change : FileChange) : Type 0 where
  pub tag : TagFields
  pub undo : Undo
  pub read : tag_result (file_tag file s) ≡ Ok tag
  pub item : noted_undo (tag_offset s) (undo_from 32 tag.items) ≡ Ok undo
  pub free : or_else (channel_fault shift s) (or_else (undo_fault (next_undo shift undo))
      (or_else (size_fault (tag_bytes (tag_with_undo (next_undo shift undo) tag)))
      (or_else (output_fault s (tag_bytes (tag_with_undo (next_undo shift undo) tag)))
      (range_fault (constant_steps (steps_of shift)) s.frames)))) ≡ None
  pub is : record {
    steps = constant_steps (steps_of shift);
    tag = Some (tag_bytes (tag_with_undo (next_undo shift undo) tag));
  } ≡ change

-- a noted change that isn't refused has a tag, in which its undo is noted
pub tagged-parts : {shift : Shift} {file : List ℕ} {s : SurveyFields} {change : FileChange}
    → tagged_change shift file s ≡ Ok change → IsNoted shift file s change
tagged-parts {shift} {file} {s} {change} e =
    let one = then_ok e in
    let two = then_ok one.2 in
    let three = refusal_or-ok two.2 in
    record { tag = one.0; undo = two.0; read = one.1; item = two.1; free = three.0; is = three.1 }

-- the tag, the undo in it, and the change with that undo, by which no gain leaves its range
pub record IsUndone (file : List ℕ) (s : SurveyFields) (change : FileChange) : Type 0 where
  pub tag : TagFields
  pub undo : Undo
  pub read : tag_result (file_tag file s) ≡ Ok tag
  pub item : found_undo (tag_offset s) (undo_from 32 tag.items) ≡ Ok undo
  pub free : range_fault (constant_steps (undo_steps undo)) s.frames ≡ None
  pub is : record {
    steps = constant_steps (undo_steps undo);
    tag = Some (bytes_unless_empty (tag_without_undo tag));
  } ≡ change

-- an undo that isn't refused has these parts
pub undone-parts : {file : List ℕ} {s : SurveyFields} {change : FileChange}
    → undo_change file s ≡ Ok change → IsUndone file s change
unfolding undo_change
undone-parts {file} {s} {change} e =
    let one = then_ok e in
    let two = then_ok one.2 in
    let three =
    refusal_or-ok two.2 in
    record { tag = one.0; undo = two.0; read = one.1; item = two.1; free = three.0; is = three.1 }

-- ---- the new tag

-- a tag that isn't refused is the tag that is read
pub read_ok : {r : Result TagFields FileTagFault} {tag : TagFields} → tag_result r ≡ Ok tag
    → r ≡ Ok tag
read_ok e = grind arith

-- the tag of a file is a tag
pub read-tag : (file : List ℕ) {s : SurveyFields} {tag : TagFields} → AreBytes file
    → survey_of file most_frames ≡ Ok s → tag_result (file_tag file s) ≡ Ok tag → IsTag tag
read-tag file {s} {tag} all is e = file_tag-is file most_frames all
    (survey_of-parts file most_frames is).1 (read_ok e)

-- the bytes of a tag, or none if it has no items, may replace a tag
pub unless_empty-are : {tag : TagFields} → IsTag tag → IsTagBytes (bytes_unless_empty tag)
unless_empty-are is = grind (arith, block_front-tag_bytes, is)

-- the new tag of a noted change
pub noted-tag : (shift : Shift) (file : List ℕ) {s : SurveyFields} {change : FileChange}
    → AreBytes file → survey_of file most_frames ≡ Ok s → tagged_change shift file s ≡ Ok change
    → IfSome change.tag IsTagBytes
noted-tag shift file {change = change} all is e =
    grind (arith, tagged-parts, change, block_front-tag_bytes, IsTag-with_undo, read-tag, is)

-- the new tag of an undo
pub undone-tag : (file : List ℕ) {s : SurveyFields} {change : FileChange} → AreBytes file
    → survey_of file most_frames ≡ Ok s → undo_change file s ≡ Ok change
    → IfSome change.tag IsTagBytes
undone-tag file {s} {change} all is e =
    let parts = undone-parts e in
    subst (λ (c : FileChange). IfSome c.tag IsTagBytes)
    parts.is (unless_empty-are
    (IsTag-without_undo (read-tag file all is parts.read)))

-- the steps are the command's, and there is no new tag or it has the bytes of one
abbrev IsChangeOf : Changes → List ℕ → FileChange → Type 0
IsChangeOf changes file change =
    (change.steps ≡ constant_steps (steps_of_changes changes file)) × IfSome change.tag IsTagBytes

change_is : (changes : Changes) (file : List ℕ) {s : SurveyFields} {change : FileChange}
    → AreBytes file → survey_of file most_frames ≡ Ok s → changing_of changes file s ≡ Ok change
    → IsChangeOf changes file change
unfolding gain_change
change_is (Move shift true) file {change = change} all is e =
    grind (arith, tagged-parts, change, noted-tag, is)
change_is (Move shift false) file {change = change} all is e = grind (arith, refusal_or-ok, change)
change_is UndoAll file {s} {change} all is e =
    let parts = undone-parts e in
    let undo : file_undo file s ≡ Ok parts.undo = grind arith in (
      ap (λ (c : FileChange). c.steps) (sym parts.is)
          ∙ ap constant_steps (sym (ap (surveyed_undo_steps file) is ∙ ap undo_result_steps undo)),
      undone-tag file all is e,
    )

-- ---- as commands

-- what holds of the faults of a change holds of the faults of the changed file
pub changed_all : (P : EditFault → Type 0) (file : List ℕ) (s : SurveyFields)
    (r : Result FileChange EditFault) → IfErr r P → IfErr (changed_or_fault file s r) P
changed_all P file s r is = grind arith

moved_stream : (changes : Changes) (file : List ℕ) {s : SurveyFields} {new : List ℕ} → AreBytes file
    → survey_of file most_frames ≡ Ok s → change_making (changing_of changes) file s ≡ Ok new
    → HoldsStream new (moved_file_stream (steps_of_changes changes) file)
moved_stream changes file {s} {new} all is e =
    let c = made_cases (changing_of changes) refl e in
    let parts = change_is changes file all is c.made in
    let moved = changed-stream c all is parts.1 in
    moved_holds
    (subst (λ (t : ℕ → Steps). IsStreamMoved t file new) parts.0 moved)

proper : (changes : Changes) → IsProperMaking (change_making (changing_of changes))
    (moved_file_stream (steps_of_changes changes))
proper changes = grind (arith, changed_all, change_late, moved_stream changes)

-- a change of the input makes the changed file
pub edit_makes : (changes : Changes) {input : List ℕ} {s : SurveyFields} {change : FileChange}
    {files : Files} → IsFileThere files input
    → ((bytes : List ℕ) → Holds files input bytes → survey_of bytes most_frames ≡ Ok s)
    → ((bytes : List ℕ) → Holds files input bytes → AreBytes bytes)
    → ((bytes : List ℕ) → Holds files input bytes → changing_of changes bytes s ≡ Ok change)
    → IsMaking (task_of_changes changes input) (λ file. file_with_change change file s) files
edit_makes changes {input} {s} {files = files} there survey_fields octets changed_by =
    file_makes (change_making (changing_of changes)) (moved_file_stream (steps_of_changes changes))
    (refuses_of_changes changes) input there survey_fields octets
    (λ bytes holds. ap (changed_or_fault bytes s) (changed_by bytes holds))

-- a command that changes gains is proper
pub edit_proper : (changes : Changes) (input : List ℕ)
    → IsProperTask (task_of_changes changes input)
edit_proper changes input = file_proper (proper changes)
    (refuses_of_changes changes) input
