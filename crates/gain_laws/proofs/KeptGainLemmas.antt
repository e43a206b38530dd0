-- The output of a command differs from its input in gains, check words, the tag and junk that is
-- left out.
use Rattle.std.proofs.Common.{ap, false, List, None, Ok, Option, refl, Some, subst, true, ℕ, ◌∙◌}
use Rattle.std.{proofs.Common.◌≡◌, specs.Prelude.IfSome}
use Rattle.bit_fields.specs.Bits.{AreBytes}
use Rattle.commands.specs.SingleOutput.{most_frames}
use Rattle.gain_edits.proofs.ProperLemmas.{IsMadeBy, made_of, noted-tag, undone-tag}
use Rattle.gain_edits.specs.{Change.Changing, Gain.{gain_change, tagged_change}, Undo.undo_change}
use Rattle.gain_laws.proofs.KeptFileLemmas.{changes_kept, keeps_weaker}
use Rattle.gain_laws.proofs.OppositeStepLemmas.{plain-parts}
use Rattle.gain_laws.specs.{GainKept.{GainKeepsAll, UndoKeepsAll}, Kept.KeepsAll}
use Rattle.moved_gains.specs.{Change.FileChange, TagExtent.IsTagBytes}
use Rattle.requests.specs.declared.shift.Shift.{Shift}
use Rattle.sync_survey.{proofs.SurveyedFileLemmas.survey_of-parts, specs.Faults.SurveyFields}
use Rattle.sync_survey.specs.Survey.{survey_of}

-- a change keeps all else, if its new tag, should there be one, may be the tag
pub made_kept : (T : List ℕ → Type 0) {of : Changing} {file new : List ℕ} {s : SurveyFields}
    (c : IsMadeBy of file new s) → AreBytes file → survey_of file most_frames ≡ Ok s
    → ((tag : List ℕ) → c.change.tag ≡ Some tag → T tag) → KeepsAll T file s new
made_kept T {of} {file} {new} {s} c all is tags =
    subst (KeepsAll T file s) c.bytes
    (keeps_weaker (λ tag. c.change.tag ≡ Some tag) T tags
    (changes_kept c.change file most_frames s all (survey_of-parts file most_frames is).1))

one_is : (o : Option (List ℕ)) → IfSome o IsTagBytes → (tag : List ℕ) → o ≡ Some tag
    → IsTagBytes tag
one_is o are tag is = subst (λ (p : Option (List ℕ)). IfSome p IsTagBytes) is are

noted : (shift : Shift) (file : List ℕ) (s : SurveyFields) {change : FileChange}
    → gain_change shift true file s ≡ Ok change → tagged_change shift file s ≡ Ok change
unfolding gain_change
noted shift file s made = made

-- `gain` changes only gains, check words and the tag, and leaves junk out
pub gain_kept : GainKeepsAll
gain_kept shift true file new s all is e =
    let c = made_of is e in
    let tags = noted-tag shift file all is (noted shift file s c.made) in
    made_kept (λ tag. (true ≡ true) × IsTagBytes tag) c all is
    (λ tag now. (refl, one_is c.change.tag tags tag now))
gain_kept shift false file new s all is e =
    let c = made_of is e in
    let parts = plain-parts shift file s c.made in
    made_kept (λ tag. (false ≡ true) × IsTagBytes tag) c all is
    (λ tag now. absurd (none tag (ap (λ (d : FileChange). d.tag) parts.2 ∙ now)))
  where
    none : (tag : List ℕ) → None ≡ Some tag → ⊥
    none tag e = absurd cc

-- `undo` changes only gains, check words and the tag, and leaves junk out
pub undo_kept : UndoKeepsAll
undo_kept file new s all is e =
    let c = made_of {of = undo_change} {file = file} {new = new} {s = s} is e in
    made_kept IsTagBytes c all is
    (one_is c.change.tag (undone-tag file {s = s} {change = c.change} all is c.made))
