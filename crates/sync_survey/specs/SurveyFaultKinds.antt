-- The kinds of a survey's faults.
use Rattle.std.specs.Prelude.{ℕ, ◌<◌, ◌≡◌}
use Rattle.outside.specs.declared.exact.ReadFault.{ReadFault}
use Rattle.outside.specs.declared.exact.ReadFault.TheVariants.{Failed, Shrunk as ShrunkRead}
use Rattle.sync_survey.specs.{Faults.longest_file, declared.survey_fault.SurveyFault.SurveyFault}
use Rattle.sync_survey.specs.declared.survey_fault.SurveyFault.TheVariants.{Absent, Memory, Read}
use Rattle.sync_survey.specs.declared.survey_fault.SurveyFault.TheVariants.{Shrunk, TooLong}

-- why a file has no survey: it is absent, a read failed, it became shorter, memory ran out, or its
-- bytes are refused
pub data InputKind : Type 0 where
  -- the file isn't there
  IsAbsent : InputKind
  -- it could not be read
  IsUnread : InputKind
  -- it became shorter while it was read
  IsShorter : InputKind
  -- out of memory
  IsTooMuch : InputKind
  -- it is there, and its length or its bytes are refused
  IsRefused : InputKind

-- the kind of a fault
abbrev pub kind_of : SurveyFault → InputKind
kind_of Absent = IsAbsent
kind_of (Shrunk first second) = IsShorter
kind_of Read = IsUnread
kind_of Memory = IsTooMuch
kind_of _ = IsRefused

-- the numbers that a fault has, whatever is known of the file: a length is too long only above the
-- limit, and a file ended before the length with which it was found
abbrev pub HasRightNumbers : SurveyFault → Type 0
HasRightNumbers (TooLong size) = longest_file < size
HasRightNumbers (Shrunk first second) = second < first
HasRightNumbers _ = Unit {0}

-- the offset at which a file that became shorter ended
abbrev pub shrunk_end : SurveyFault → ℕ
shrunk_end (Shrunk first second) = second
shrunk_end _ = 0

-- the file isn't refused: it is absent, a call failed, it became shorter, or memory ran out
abbrev pub IsFromOutside : SurveyFault → Type 0
IsFromOutside fault = kind_of fault ≡ IsRefused → ⊥

-- a value for each kind
pub record ByKind {ℓ} (A : Type ℓ) : Type ℓ where
  pub absent : A
  pub unread : A
  pub shorter : A
  pub too_much : A
  pub refused : A

-- the value for this kind
abbrev pub by_kind {ℓ} : {A : Type ℓ} → ByKind A → InputKind → A
by_kind k IsAbsent = k.absent
by_kind k IsUnread = k.unread
by_kind k IsShorter = k.shorter
by_kind k IsTooMuch = k.too_much
by_kind k IsRefused = k.refused

-- the file is refused, with the right numbers
abbrev pub RefusesRightly : SurveyFault → Type 0
RefusesRightly fault = (kind_of fault ≡ IsRefused) × HasRightNumbers fault

-- the fault of a file whose bytes can't be read
abbrev pub survey_fault_of : ReadFault → SurveyFault
survey_fault_of Failed = Read
survey_fault_of (ShrunkRead first second) = Shrunk first second
