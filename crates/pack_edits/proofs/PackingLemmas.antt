-- Faults that are met before the output is created: of the chosen frames, and of their plan.
use Rattle.std.proofs.Common.{Bool, Err, List, Ok, subst, ℕ, ◌≡◌}
use Rattle.commands.proofs.InputLemmas.{memory_is_input, refused_is_input}
use Rattle.commands.specs.AfterCall.{HasInputNumbers}
use Rattle.commands.specs.SingleOutput.{IsInputFault, Making, most_frames}
use Rattle.commands.specs.declared.fault.EditFault.{EditFault, TheVariants.{Memory, Refused}}
use Rattle.commands.specs.declared.fault.Refusal.{Refusal}
use Rattle.cut_edits.proofs.ChosenLemmas.{laying-is}
use Rattle.cut_edits.specs.Chosen.{all_choice, Chosen, chosen_needs, laying_making, Planning}
use Rattle.frame_header.specs.Fields.{ClassFields}
use Rattle.outside.specs.{Files.{Holds, IsFileThere}, Seen.Seen}
use Rattle.pack_edits.specs.Answers.{IsPlanFault}
use Rattle.slot_plan.specs.declared.needs.Need.{Need}
use Rattle.sync_survey.specs.{Faults.SurveyFields, Survey.survey_of}

-- a fault that was met in a state equal to the old one is one of the old one
pub input_moved : (make : Making) (name : List ℕ) {before old : Seen} (new : Seen)
    (fault : EditFault) → before ≡ old → IsInputFault make name before new fault
    → IsInputFault make name old new fault
input_moved make name new fault same is = subst (λ o. IsInputFault make name o new fault) same is

-- the input was surveyed, its frames were chosen, and they have no plan
module _ (plan : Planning) (refuses : Refusal → Bool) (name : List ℕ) {old new : Seen}
    {s : SurveyFields} {chosen : Chosen} (there : IsFileThere old.files name)
    (surveyed : (bytes : List ℕ) → Holds old.files name bytes → survey_of bytes most_frames ≡ Ok s)
    (chose : (bytes : List ℕ) → Holds old.files name bytes → all_choice bytes s ≡ Ok chosen)
    (stays : new ≡ old) where
  unplanned : (file : List ℕ) {fault : EditFault} → all_choice file s ≡ Ok chosen
      → plan s.class (chosen_needs chosen s) ≡ Err fault
      → laying_making all_choice plan file s ≡ Err fault
  unplanned file {fault} is none = laying-is all_choice plan is none

  -- a fault of the plan is a fault of the input
  pub plan_is_input : (fault : EditFault)
      → IsPlanFault plan refuses s.class (chosen_needs chosen s) fault
      → IsInputFault (laying_making all_choice plan) name old new fault
  plan_is_input (Refused refusal) is =
      refused_is_input (laying_making all_choice plan) name old new s
      refuses is.1 there surveyed
      (λ bytes holds. unplanned bytes (chose bytes holds) is.0) stays
  plan_is_input Memory is =
      memory_is_input (laying_making all_choice plan) name old new s there surveyed stays
  plan_is_input _ is = absurd is

-- a fault of the plan has the numbers of a fault of the input
pub plan_numbers : (plan : Planning) (refuses : Refusal → Bool) (class : ClassFields)
    (needs : List Need) (fault : EditFault) → IsPlanFault plan refuses class needs fault
    → HasInputNumbers refuses fault
plan_numbers plan refuses class needs (Refused refusal) is = is.1
plan_numbers plan refuses class needs Memory is = tt
plan_numbers plan refuses class needs _ is = absurd is
