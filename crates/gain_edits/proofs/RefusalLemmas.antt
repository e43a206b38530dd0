-- Which refusals gain and undo return, why the tag can't be read, and what the code returns.
use Rattle.std.proofs.Common.{ap, ap₂, arith, Bool, cond, Err, false, inl, inr, List, None, Ok}
use Rattle.std.proofs.Common.{Option, refl, Result, Some, subst, sym, true, ℕ, [], ◌+◌, ◌∙◌, ◌∷◌}
use Rattle.std.proofs.{Common.{◌≡◌, ◌≤◌}, lemmas.List.Sums.sum_by-cons}
use Rattle.std.specs.Prelude.{IfErr, IfSome, is_some, nat_lt, unsigned_abs, ◌⊎◌}
use Rattle.commands.proofs.InputLemmas.{memory_is_input, refused_is_input}
use Rattle.commands.proofs.RefusingLemmas.{of_err, then_all}
use Rattle.commands.specs.AfterCall.{HasInputNumbers, IsEditRefusal, IsLateFault}
use Rattle.commands.specs.Refusing.{first_refusal, or_else, refusal_or, then_made}
use Rattle.commands.specs.SingleOutput.{IsInputFault, most_frames}
use Rattle.commands.specs.declared.fault.EditFault.{EditFault, TheVariants.Memory}
use Rattle.commands.specs.declared.fault.Refusal.{Refusal, TheVariants.GainRange}
use Rattle.gain_edits.specs.Change.{change_making, changed_or_fault, IsChangeDecided}
use Rattle.gain_edits.specs.Changes.{are_noted, changing_of, decided_change, IsDecision}
use Rattle.gain_edits.specs.Changes.{refuses_of_changes}
use Rattle.gain_edits.specs.Channels.{channel_fault, joint_fault, single_channel_fault}
use Rattle.gain_edits.specs.Gain.{gain_change, gain_refuses, noted_change, noted_tag_change}
use Rattle.gain_edits.specs.Gain.{plain_change}
use Rattle.gain_edits.specs.GainRange.{out_of_range_refusal, range_fault, row_range_fault}
use Rattle.gain_edits.specs.Undo.{undo_change, undo_refuses, undone_change, undone_tag_change}
use Rattle.gain_edits.specs.UndoItem.{found_undo, next_undo, noted_undo, number_fault, output_fault}
use Rattle.gain_edits.specs.UndoItem.{size_fault, tag_edit_fault, tag_result, tag_with_undo}
use Rattle.gain_edits.specs.{UndoItem.undo_fault, declared.changes.Changes.Changes}
use Rattle.gain_edits.specs.declared.changes.Changes.TheVariants.{Move, Undo as UndoAll}
use Rattle.moved_gains.specs.{Change.FileChange, Course.constant_steps, Edited.row_out_of_range}
use Rattle.moved_gains.specs.{TagReading.{file_tag, IsTagCause}, declared.change.Change.Change}
use Rattle.moved_gains.specs.declared.gains.OutOfRange.{OutOfRange}
use Rattle.moved_gains.specs.declared.tag_fault.FileTagFault.{FileTagFault}
use Rattle.moved_gains.specs.declared.tag_fault.FileTagFault.TheVariants.{Bad as BadBlock}
use Rattle.moved_gains.specs.declared.tag_fault.FileTagFault.TheVariants.{Memory as NoRoom, Read}
use Rattle.moved_gains.specs.declared.tag_fault.FileTagFault.TheVariants.{TooLarge}
use Rattle.outside.specs.{Counts.OnlyReads, Files.{Holds, IsFileThere}, Seen.{Seen, seen_folder}}
use Rattle.outside.specs.declared.exact.ReadFault.TheVariants.{Failed, Shrunk}
use Rattle.requests.specs.{Shifts.steps_of, declared.shift.{Shift.Shift, Steps.Steps}}
use Rattle.sync_survey.specs.{Faults.SurveyFields, Row.Row, Survey.survey_of}
use Rattle.tag_blocks.specs.Items.{is_undo, item_length, items_length, TagItem}
use Rattle.tag_blocks.specs.{Tags.{tag_bytes, TagFields}, UndoItems.{undo_at, undo_from}}
use Rattle.tag_blocks.specs.{UndoText.undo_of, declared.undo.{Undo.Undo, UndoItem.UndoItem}}
use Rattle.tag_blocks.specs.declared.undo.UndoItem.TheVariants.{Bad}

-- ---- the place of an undo item in its tag

undo_cases : (b : Bool) {start next place : ℕ} (o : Option Undo) {later : UndoItem}
    → cond b (undo_at start o) later ≡ Bad place → start ≤ next → (later ≡ Bad place → place ≤ next)
    → place ≤ next
undo_cases b o e low rest = grind arith

-- an item whose value is malformed begins within the items
pub bad_place : (start : ℕ) (items : List TagItem) {place : ℕ} → undo_from start items ≡ Bad place
    → place ≤ start + items_length items
bad_place start [] e = absurd cc
bad_place start (item ∷ items) {place} e =
    undo_cases (is_undo item) (undo_of item.value) e (omega arith)
    (λ found. omega (
      arith,
      bad_place (start + item_length item) items found,
      sum_by-cons item_length item items,
    ))

-- ---- no refusal

-- if there is no such refusal, its condition is false
pub not_there : {b : Bool} (fault : Refusal) → cond b (Some fault) None ≡ None → b ≡ false
not_there fault e = grind arith

-- ---- which refusals there are

-- the refusal, if there is one, is one of these
abbrev pub May : (Refusal → Bool) → Option Refusal → Type 0
May may o = IfSome o (λ refusal. may refusal ≡ true)

or_may : (may : Refusal → Bool) (o later : Option Refusal) → May may o → May may later
    → May may (or_else o later)
or_may may o later first rest = grind arith

refusal_or-may : {A : Type 0} (may : Refusal → Bool) (o : Option Refusal) (a : A) → May may o
    → IfErr (refusal_or o a) (IsEditRefusal may)
refusal_or-may may o a is = grind arith

where_may : (may : Refusal → Bool) (b : Bool) {refusal : Refusal} → may refusal ≡ true
    → May may (cond b (Some refusal) None)
where_may may b is = grind arith

first_may : {A : Type 0} (may : Refusal → Bool) (refuse : A → Option Refusal)
    → ((a : A) → May may (refuse a)) → (list : List A) → May may (first_refusal refuse list)
unfolding first_refusal
first_may may refuse each [] = tt
first_may may refuse each (a ∷ list) = grind (arith, or_may, first_may may refuse each list)

-- if any gain out of range may be refused, the first one may
pub range_may : (may : Refusal → Bool)
    → ((offset granule channel gain : ℕ) → may (GainRange offset granule channel gain) ≡ true)
    → (steps : ℕ → Steps) (rows : List Row) → May may (range_fault steps rows)
range_may may range steps rows =
    first_may may (row_range_fault steps)
    (λ row. stuck_may row (row_out_of_range (steps row.offset) row)) rows
  where
    stuck_may : (row : Row) (o : Option OutOfRange) → May may (out_of_range_refusal row.offset o)
    stuck_may row (Some stuck) = range row.offset stuck.granule stuck.channel stuck.gain
    stuck_may row None = tt

joint_may : (tags : Bool) (rows : List Row) → May (gain_refuses tags) (joint_fault rows)
joint_may tags rows = grind (arith, first_may, where_may)

apart_may : (tags : Bool) (s : SurveyFields) → May (gain_refuses tags) (single_channel_fault s)
apart_may tags s = grind (arith, joint_may tags s.frames)

channel_may : (tags : Bool) (shift : Shift) (s : SurveyFields)
    → May (gain_refuses tags) (channel_fault shift s)
channel_may tags shift s = grind (arith, apart_may tags s)

-- a change without a note is refused only with its refusals
pub plain_may : (tags : Bool) (shift : Shift) (s : SurveyFields)
    → IfErr (plain_change shift s) (IsEditRefusal (gain_refuses tags))
plain_may tags shift s = grind (arith, refusal_or-may, or_may, channel_may tags shift s, range_may)

noted_may : (shift : Shift) (s : SurveyFields) (tag : TagFields) (undo : Undo)
    → IfErr (noted_change shift s tag undo) (IsEditRefusal (gain_refuses true))
noted_may shift s tag undo =
    let next = next_undo shift undo in
    let bytes = tag_bytes (tag_with_undo next tag) in
    let may = gain_refuses true in
    refusal_or-may may _ _
    (or_may may (channel_fault shift s) _ (channel_may true shift s)
    (or_may may (undo_fault next) _
    (or_may may (number_fault next.left) (number_fault next.right)
    (where_may may (nat_lt 999 (unsigned_abs next.left)) refl)
    (where_may may (nat_lt 999 (unsigned_abs next.right)) refl))
    (or_may may (size_fault bytes) _ (where_may may _ refl)
    (or_may may (output_fault s bytes) (range_fault (constant_steps (steps_of shift)) s.frames)
    (where_may may _ refl)
    (range_may may (λ o g c n. refl) (constant_steps (steps_of shift)) s.frames)))))

undone_may : (s : SurveyFields) (tag : TagFields) (undo : Undo)
    → IfErr (undone_change s tag undo) (IsEditRefusal undo_refuses)
undone_may s tag undo = grind (arith, refusal_or-may, range_may)

noted_item_may : (at : ℕ) (item : UndoItem)
    → IfErr (noted_undo at item) (IsEditRefusal (gain_refuses true))
noted_item_may at item = grind arith

found_item_may : (at : ℕ) (item : UndoItem)
    → IfErr (found_undo at item) (IsEditRefusal undo_refuses)
found_item_may at item = grind arith

-- a change with a note is refused only with its refusals
pub noted_tag_change-may : (shift : Shift) (s : SurveyFields) (tag : TagFields)
    → IfErr (noted_tag_change shift s tag) (IsEditRefusal (gain_refuses true))
noted_tag_change-may shift s tag = grind (arith, then_all, noted_item_may, noted_may)

-- an undo is refused only with its refusals
pub undone_tag_change-may : (s : SurveyFields) (tag : TagFields)
    → IfErr (undone_tag_change s tag) (IsEditRefusal undo_refuses)
undone_tag_change-may s tag = grind (arith, then_all, found_item_may, undone_may)

-- ---- refusals come after memory was taken

-- the refusals of a change are late
pub change_late : (changes : Changes) (file : List ℕ) (s : SurveyFields)
    → IfErr (changing_of changes file s) IsLateFault
unfolding gain_change undo_change
change_late changes file s = grind arith

-- ---- what the definition says

-- without a note the change is decided without a tag
pub plain-is : (changes : Changes) (bytes : List ℕ) (s : SurveyFields) → are_noted changes ≡ false
    → changing_of changes bytes s ≡ decided_change changes s None
unfolding gain_change
plain-is changes bytes s plain = grind arith

-- with a note the change is decided with the tag that is read
pub noted-is : (changes : Changes) (bytes : List ℕ) (s : SurveyFields)
    {r : Result TagFields FileTagFault} → are_noted changes ≡ true → file_tag bytes s ≡ r
    → changing_of changes bytes s
    ≡ then_made (tag_result r) (λ tag. decided_change changes s (Some tag))
unfolding gain_change undo_change
noted-is changes bytes s noted is = grind arith

-- a change that is decided is refused only with its refusals
pub decided-may : (changes : Changes) (s : SurveyFields) (o : Option TagFields) → are_noted changes
    ≡ is_some o → IfErr (decided_change changes s o) (IsEditRefusal (refuses_of_changes changes))
decided-may (Move shift tags) s None asks = plain_may tags shift.now s
decided-may (Move shift true) s (Some tag) asks = noted_tag_change-may shift.now s tag
decided-may (Move shift false) s (Some tag) asks = absurd cc
decided-may UndoAll s None asks = refl
decided-may UndoAll s (Some tag) asks = undone_tag_change-may s tag

-- ---- what the code returns

-- The input is there, and has this survey.
pub record IsSurveyedInput (input : List ℕ) (s : SurveyFields) (old : Seen) : Type 0 where
  pub there : IsFileThere old.files input
  pub surveyed : (bytes : List ℕ) → Holds old.files input bytes
      → survey_of bytes most_frames ≡ Ok s

-- a fault of the tag is a fault of the input
pub tag_is_input : (changes : Changes) {name : List ℕ} {s : SurveyFields} {old : Seen} (new : Seen)
    → IsSurveyedInput name s old → are_noted changes ≡ true → new.files ≡ old.files
    → (fault : FileTagFault) → IsTagCause name old.files s old.counts new.counts fault
    → IsInputFault (change_making (changing_of changes)) name old new (tag_edit_fault fault)
tag_is_input changes {name} {s} {old} new source noted same fault = at fault
  where
    refuses : (fault : FileTagFault) (bytes : List ℕ) → file_tag bytes s ≡ Err fault
        → change_making (changing_of changes) bytes s ≡ Err (tag_edit_fault fault)
    refuses fault bytes is = ap (changed_or_fault bytes s) (noted-is changes bytes s noted is)

    refused : (fault : FileTagFault) → IsEditRefusal (λ _. true) (tag_edit_fault fault)
        → ((bytes : List ℕ) → Holds old.files name bytes → file_tag bytes s ≡ Err fault)
        → new.counts ≡ old.counts
        → IsInputFault (change_making (changing_of changes)) name old new (tag_edit_fault fault)
    refused fault kind h stays =
        refused_is_input (change_making (changing_of changes)) name old new s
        (λ _. true) kind source.there source.surveyed
        (λ bytes holds. refuses fault bytes (h bytes holds)) (ap₂ seen_folder same stays)

    at : (fault : FileTagFault) → IsTagCause name old.files s old.counts new.counts fault
        → IsInputFault (change_making (changing_of changes)) name old new (tag_edit_fault fault)
    at (TooLarge size) h = refused (TooLarge size) refl h.0 h.3
    at (BadBlock place) h = refused (BadBlock place) refl h.0 h.3
    at (Read Failed) h = record { is = refl; rose = h.0; files = same }
    at (Read (Shrunk first second)) h = record {
      first = first;
      second = second;
      is = refl;
      rose = h.3;
      counts = h.4;
      untold = h.0;
      files = same;
    }
    at NoRoom h =
        memory_is_input (change_making (changing_of changes)) name old new s source.there
        source.surveyed (ap₂ seen_folder same h)

-- By the definition this is the change of the input, or why it is refused.
pub record IsChangeOf (changes : Changes) (name : List ℕ) (s : SurveyFields) (old : Seen)
    (made : Result FileChange EditFault) : Type 0 where
  pub source : IsSurveyedInput name s old
  pub may : IfErr made (IsEditRefusal (refuses_of_changes changes))
  pub whole : (bytes : List ℕ) → Holds old.files name bytes → changing_of changes bytes s ≡ made

-- once the tag was read, the code returns what the definition says, or memory ran out
pub answered : {changes : Changes} {name : List ℕ} {s : SurveyFields} {old new : Seen}
    {made : Result FileChange EditFault} → IsChangeOf changes name s old made
    → new ≡ old → OnlyReads old.counts new.counts → (r : Result Change EditFault)
    → IsChangeDecided s made r → IsDecision changes name old new s r
answered of stays reads (Ok change) is-made = grind (arith, of.source, of.may, of.whole)
answered {changes} {name} {s} {old} {new} {made} of stays reads (Err fault) answer = record {
  change = tt;
  refused = cause fault answer;
  numbers = kind fault answer;
  done = tt;
  files = λ i. (stays i).files;
  counts = reads;
}
  where
    cause : (fault : EditFault) → (fault ≡ Memory) ⊎ (made ≡ Err fault)
        → IsInputFault (change_making (changing_of changes)) name old new fault
    cause fault (inl memory) =
        subst (IsInputFault (change_making (changing_of changes)) name old new) (sym memory)
        (memory_is_input (change_making (changing_of changes)) name old new s of.source.there
        of.source.surveyed stays)
    cause fault (inr refused) =
        refused_is_input (change_making (changing_of changes)) name old new s
        (refuses_of_changes changes)
        (of_err (IsEditRefusal (refuses_of_changes changes)) of.may refused) of.source.there
        of.source.surveyed
        (λ bytes holds. ap (changed_or_fault bytes s) (of.whole bytes holds ∙ refused)) stays

    kind : (fault : EditFault) → (fault ≡ Memory) ⊎ (made ≡ Err fault)
        → HasInputNumbers (refuses_of_changes changes) fault
    kind fault (inl memory) = grind arith
    kind fault (inr refused) = grind (arith, of.may)
