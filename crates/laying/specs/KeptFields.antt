-- What is read and kept from the head of an input.
use Rattle.std.specs.Prelude.{IfErr, IfOk, IsErrOf, List, None, Ok, OnOk, Option, replicate, Result}
use Rattle.std.specs.Prelude.{Some, ℕ, ◌≡◌}
use Rattle.info_header.specs.declared.fields.Info.{Info}
use Rattle.laying.specs.{Written.head_info, declared.info.Kept.Kept}
use Rattle.outside.specs.{Counts.OnlyReads, Pass.HasInputCause, Seen.{OnFile, Seen}}
use Rattle.outside.specs.declared.pass.PassFault.{PassFault, TheVariants.Write}
use Rattle.sync_survey.specs.{Faults.SurveyFields, declared.places.Head.Head}

-- the fields of the head of a file, if it has a head
abbrev pub fields_of_head : List ℕ → Option Head → Option Info
fields_of_head file None = None
fields_of_head file (Some head) = Some (head_info file (Some head))

-- The fields of the head were read, or a read failed.
pub record HeadAnswer (name : List ℕ) (s : SurveyFields) (old new : Seen)
    (result : Result (Option Info) PassFault) : Type 0 where
  pub fields : IfOk result (λ info. OnFile old name (λ file. info ≡ fields_of_head file s.head))
  -- whether or not the file's content is known
  pub none : s.head ≡ None → result ≡ Ok None
  pub done : OnOk result (new.counts ≡ old.counts)
  pub cause : IfErr result (HasInputCause name s.length old.files old.counts new.counts)
  pub reads : IsErrOf result Write → ⊥
  pub files : new.files ≡ old.files
  pub counts : OnlyReads old.counts new.counts

-- The quality and the extension of the head were read, or a read failed.
pub record KeptAnswer (name : List ℕ) (s : SurveyFields) (old new : Seen)
    (result : Result Kept PassFault) : Type 0 where
  pub kept : IfOk result
      (λ kept. OnFile old name (λ file. (kept.quality ≡ (head_info file s.head).quality)
      × (kept.extension ≡ (head_info file s.head).extension)))
  -- whether or not the file's content is known
  pub none : s.head ≡ None → result ≡ Ok (record { quality = None; extension = replicate 36 0 })
  pub done : OnOk result (new.counts ≡ old.counts)
  pub cause : IfErr result (HasInputCause name s.length old.files old.counts new.counts)
  pub reads : IsErrOf result Write → ⊥
  pub files : new.files ≡ old.files
  pub counts : OnlyReads old.counts new.counts
