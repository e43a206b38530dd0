-- What the walk over a damaged file returns.
use Rattle.std.specs.Prelude.{IfErr, IfOk, List, OnOk, Result, ℕ, ◌≡◌, ◌≤◌}
use Rattle.outside.specs.{Counts.OnlyReads, Feed.Fed, Files.IsFileThere, Seen.Seen}
use Rattle.salvage.specs.DamagedFiles.{damaged_view, IsDamagedFault, IsDamagedOf, IsDamagedRefusal}
use Rattle.salvage.specs.Progress.{IsDamagedLaidOut, IsDamagedReading, ReadingAdvances}
use Rattle.salvage.specs.declared.{begun.Begun.Begun, damaged.Damaged.Damaged}
use Rattle.salvage.specs.declared.found.DamagedSoFar.{DamagedSoFar}
use Rattle.sync_survey.specs.{Survey.{HoldsOctets, ReadsBy}, SurveyFaultKinds.HasRightNumbers}
use Rattle.sync_survey.specs.declared.survey_fault.SurveyFault.{SurveyFault}

-- One more thing was read, or why it could not be.
pub record ThingAnswer (name : List ℕ) (begun : Begun) (was now : DamagedSoFar) (fed : Fed)
    (old new : Seen) (result : Result (Unit {0}) SurveyFault) : Type 0 where
  pub reading : OnOk result (ReadingAdvances old.files name begun was now)
  pub reads : ReadsBy fed name result old new
  pub refused : IfErr result (IsDamagedRefusal name old.files old.counts new.counts)

-- All things were read, or why one could not be.
pub record ThingsAnswer (name : List ℕ) (begun : Begun) (now : DamagedSoFar) (old new : Seen)
    (result : Result (Unit {0}) SurveyFault) : Type 0 where
  pub reading : OnOk result (IsDamagedReading old.files name begun now)
  pub end : OnOk result (begun.size ≤ now.at)
  pub done : OnOk result (new.counts ≡ old.counts)
  pub refused : IfErr result (IsDamagedRefusal name old.files old.counts new.counts)
  pub files : new.files ≡ old.files
  pub counts : OnlyReads old.counts new.counts

-- A damaged file was read: what is read of it, or the fault.
pub record DamagedAnswer (name : List ℕ) (old new : Seen)
    (result : Result Damaged SurveyFault) : Type 0 where
  pub exact : IfOk result (λ d. IsDamagedOf name old.files (damaged_view d))
  -- whether or not the content of the files is known: where head, frames, blocks and gaps are, and
  -- that there is a frame
  pub laid : IfOk result (λ d. IsDamagedLaidOut (damaged_view d))
  pub there : OnOk result (IsFileThere old.files name)
  pub octets : OnOk result (HoldsOctets name old.files)
  pub done : OnOk result (new.counts ≡ old.counts)
  pub refused : IfErr result (IsDamagedFault name old.files old.counts new.counts)
  pub numbers : IfErr result HasRightNumbers
  pub files : new.files ≡ old.files
  pub counts : OnlyReads old.counts new.counts
