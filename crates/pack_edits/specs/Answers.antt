-- What the survey of an input that is packed returns, and the planner of its frames.
use Rattle.std.specs.Prelude.{Bool, Err, IfErr, IfOk, length, List, Ok, OnOk, Result, true, ℕ, ◌≡◌}
use Rattle.std.specs.Prelude.{◌≤◌}
use Rattle.bit_fields.specs.Bits.{AreBytes}
use Rattle.commands.specs.SingleOutput.{HasTaskNumbers, IsEarlyFault, most_frames}
use Rattle.commands.specs.declared.fault.EditFault.{EditFault, TheVariants.{Memory, Refused}}
use Rattle.commands.specs.declared.fault.Refusal.{Refusal}
use Rattle.cut_edits.specs.Chosen.{Planning}
use Rattle.frame_header.specs.Fields.{ClassFields}
use Rattle.outside.specs.{Files.IsFileThere, Seen.{OnFile, OnlyRead, Seen}}
use Rattle.pack_edits.specs.Modes.{allowed_frames, pack_task}
use Rattle.requests.specs.declared.mode.PackMode.{PackMode}
use Rattle.slot_plan.specs.declared.needs.Need.{Need}
use Rattle.sync_survey.specs.{Faults.survey_view, Survey.{IsSurveyLaidOut, survey_of}}
use Rattle.sync_survey.specs.declared.surveys.Survey.{Survey}

-- why there is no plan: a refusal of the definition, which may be returned, or out of memory
abbrev pub IsPlanFault : Planning → (Refusal → Bool) → ClassFields → List Need → EditFault → Type 0
IsPlanFault plan refuses class needs (Refused refusal) =
    (plan class needs ≡ Err (Refused refusal)) × (refuses refusal ≡ true)
IsPlanFault plan refuses class needs Memory = Unit {0}
IsPlanFault plan refuses class needs _ = ⊥

-- The input was surveyed, and has no more frames than the mode allows, or it has a fault.
pub record PackedSurvey (mode : PackMode) (name : List ℕ) (old new : Seen)
    (result : Result Survey EditFault) : Type 0 where
  pub there : OnOk result (IsFileThere old.files name)
  pub surveyed : IfOk result
      (λ s. OnFile old name (λ bytes. survey_of bytes most_frames ≡ Ok (survey_view s)))
  pub limited : IfOk result
      (λ s. OnFile old name (λ bytes. survey_of bytes (allowed_frames mode) ≡ Ok (survey_view s)))
  pub laid : IfOk result (λ s. IsSurveyLaidOut (survey_view s))
  pub few : IfOk result (λ s. length (survey_view s).frames ≤ allowed_frames mode)
  -- the file's known content consists of bytes
  pub octets : OnOk result (OnFile old name AreBytes)
  pub refused : IfErr result (IsEarlyFault (pack_task mode name) old new)
  pub numbers : IfErr result (HasTaskNumbers (pack_task mode name))
  pub reads : OnlyRead result old new
