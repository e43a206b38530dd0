-- What was read of the input, and what is prepared before the output is created.
use Rattle.std.specs.Prelude.{IfErr, List, OnOk, Result, ℕ, [], ◌≡◌}
use Rattle.commands.specs.SingleOutput.{HasTaskNumbers, IsEarlyFault}
use Rattle.commands.specs.declared.fault.EditFault.{EditFault}
use Rattle.cut_edits.specs.{Chosen.IsSelected, Layable.IsLayable}
use Rattle.laying.specs.NeedsFit.{own_choice}
use Rattle.outside.specs.{Counts.OnlyReads, Files.Files, Seen.Seen}
use Rattle.salvage.specs.{DamagedFiles.{DamagedFields, IsDamagedOf}, EmptiedFrames.emptied_from}
use Rattle.salvage.specs.{Progress.IsDamagedLaidOut, declared.mended.Mended.Mended}
use Rattle.salvage_edits.specs.{Salvaged.{all_chosen, salvage_task}, declared.report.Report.Report}
use Rattle.salvage_edits.specs.declared.work.SalvageWork.{SalvageWork}
use Rattle.sync_survey.specs.{Faults.survey_view, HeadApart.emptied_survey, Survey.HoldsOctets}

-- What a call that reads the input before the output is created leaves: the files stay, and only
-- reads are counted, none if it succeeds; a fault is one of the input, or out of memory.
pub record ReadsDamaged {T : Type 0} (input : List ℕ) (result : Result T EditFault)
    (old new : Seen) : Type 0 where
  pub refused : IfErr result (IsEarlyFault (salvage_task input) old new)
  pub numbers : IfErr result (HasTaskNumbers (salvage_task input))
  pub done : OnOk result (new.counts ≡ old.counts)
  pub files : new.files ≡ old.files
  pub counts : OnlyReads old.counts new.counts

-- the report has the gaps and the emptied frames of what was read
pub record IsReportOf (d : DamagedFields) (r : Report) : Type 0 where
  pub gaps : r.gaps.items ≡ d.gaps
  pub emptied : r.emptied.items ≡ emptied_from 0 d.survey.frames

-- this was read from the name's file, where emptied frames have no main data
pub record IsMended (name : List ℕ) (files : Files) (m : Mended) : Type 0 where
  pub of : DamagedFields
  pub read : IsDamagedOf name files of
  pub laid : IsDamagedLaidOut of
  pub survey : survey_view m.survey ≡ emptied_survey of.survey
  pub emptied : m.emptied.items ≡ emptied_from 0 of.survey.frames
  pub gaps : m.gaps.items ≡ of.gaps

-- The input was read, and all is prepared for the pass; all frames are chosen and have their plan,
-- and the report is about what was read.
pub record IsSalvageReady (input : List ℕ) (files : Files) (work : SalvageWork) : Type 0 where
  pub octets : HoldsOctets input files
  pub of : DamagedFields
  pub read : IsDamagedOf input files of
  pub laid : IsDamagedLaidOut of
  pub layable : IsLayable input work.laid files
  pub survey : survey_view work.laid.survey ≡ emptied_survey of.survey
  pub selected : IsSelected own_choice (all_chosen (survey_view work.laid.survey))
      (survey_view work.laid.survey) work.laid.selected
  pub unsaid : work.sending ≡ []
  pub reports : IsReportOf of work.report
