-- What a cut chooses depends on the survey alone.
use Rattle.std.proofs.Common.{Err, List, Ok, refl, Result, ℕ, ◌≡◌}
use Rattle.std.proofs.lemmas.Result.{IfErr-weaker, MatchResult-weaker}
use Rattle.std.specs.Prelude.{IfErr, MatchResult}
use Rattle.commands.{proofs.InputLemmas.refused_is_input, specs.AfterCall.IsEditRefusal}
use Rattle.commands.specs.SingleOutput.{IsInputFault, most_frames}
use Rattle.commands.specs.declared.fault.EditFault.{EditFault}
use Rattle.cut_edits.{proofs.ChosenLemmas.refused-laid, specs.Choices.choosing_of}
use Rattle.cut_edits.specs.Chosen.{Choosing, chosen_in, cut_choice, cut_refuses, laying_making}
use Rattle.cut_edits.specs.{Chosen.Planning, declared.chosen.Chosen.Chosen as CodeChosen}
use Rattle.outside.specs.{Files.{Holds, IsFileThere}, Seen.Seen}
use Rattle.sync_survey.specs.{Faults.{survey_view, SurveyFields}, Survey.survey_of}
use Rattle.cut_edits.proofs.choice.FrameChoice.find.Goals as goal

cut_refused : (choose : Choosing) (name : List ℕ) (s : SurveyFields) (now : Seen)
    → IsFileThere now.files name
    → ((bytes : List ℕ) → Holds now.files name bytes → survey_of bytes most_frames ≡ Ok s)
    → (r : Result CodeChosen EditFault) → MatchResult r (λ chosen. (file : List ℕ)
    → choose file s ≡ Ok (chosen_in chosen)) (λ fault. (file : List ℕ) → choose file s ≡ Err fault)
    → IfErr r (IsEditRefusal cut_refuses) → IfErr r
    (λ fault. (plan : Planning) → IsInputFault (laying_making choose plan) name now now fault)
cut_refused choose name s now there surveyed (Ok chosen) is kind = tt
cut_refused choose name s now there surveyed (Err fault) is kind =
    λ plan. refused_is_input (laying_making choose plan) name now now s cut_refuses kind there
    surveyed (λ bytes holds. refused-laid choose plan (is bytes)) refl

pub returns-in-Between-clause-chosen : goal.returns-in-Between-clause-chosen
returns-in-Between-clause-chosen g c = rw c.in-Between.is (MatchResult-weaker c.cut_choice.result
    c.cut_choice.ensures.chosen (λ chosen is bytes holds. is bytes) (λ fault is. tt))

pub returns-in-Between-clause-refused : goal.returns-in-Between-clause-refused
returns-in-Between-clause-refused g c =
    rw c.in-Between.is
    (cut_refused (cut_choice c.in-Between.from.now c.in-Between.to.now) c.args.name.now (survey_view
    c.args.survey.now) (g.D.Folder.seen c.args.folder.now) c.requires.there c.requires.surveyed
    c.cut_choice.result c.cut_choice.ensures.chosen c.cut_choice.ensures.refusal)

-- all frames are chosen, whatever a command makes of them
pub returns-in-All-clause-refused : goal.returns-in-All-clause-refused
returns-in-All-clause-refused g c = IfErr-weaker c.all_choice.result _ _ (λ fault is plan.
    is (laying_making (choosing_of c.args.self.now) plan)) c.all_choice.ensures.refused
