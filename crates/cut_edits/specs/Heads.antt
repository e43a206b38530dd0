-- A head that can't be read.
use Rattle.std.specs.Prelude.{List, ℕ, ◌≡◌, ◌≢◌}
use Rattle.commands.specs.{AfterCall.{by_why, no_cause, why_of}, FaultKinds.HasRightNumbers}
use Rattle.commands.specs.SingleOutput.{LosesInput, ReadsNothing}
use Rattle.commands.specs.declared.fault.EditFault.{EditFault, TheVariants.Input}
use Rattle.outside.specs.Seen.{Seen}
use Rattle.sync_survey.specs.declared.survey_fault.SurveyFault.TheVariants.{Memory as NoRoom}

-- the head of this input could not be read
abbrev pub IsHeadFault : List ℕ → Seen → Seen → EditFault → Type 0
IsHeadFault input old new fault = by_why
    (record no_cause {
      unread = ReadsNothing 0 input old new fault;
      shorter = LosesInput 0 input old new fault;
    })
    (why_of fault)

-- the fault is one of reading this input
abbrev pub HasHeadNumbers : EditFault → Type 0
HasHeadNumbers (Input place fault) = (place ≡ 0) × (fault ≢ NoRoom) × HasRightNumbers fault
HasHeadNumbers _ = ⊥
