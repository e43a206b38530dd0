-- Why a damaged file isn't read.
use Rattle.std.proofs.Common.{ap, Err, false, length, List, ltb, refl, subst, sym, true, ℕ, ◌<◌}
use Rattle.std.proofs.{Common.{◌∙◌, ◌≡◌, ◌≤◌}, lemmas.Bool.{le-ltb, lt-ltb}}
use Rattle.outside.specs.{Counts.Counts, Feed.Fed, Files.{Files, Holds}, Seen.Seen}
use Rattle.salvage.specs.DamagedFiles.{damaged_fields, damaged_of, IsDamagedRefusal, RefusesDamaged}
use Rattle.sync_survey.proofs.FoldersLemmas.{HasRead, memory_refusal as survey_memory}
use Rattle.sync_survey.{proofs.FoldersLemmas.refusal_after, specs.Faults.longest_file}
use Rattle.sync_survey.specs.Survey.{HasLength, IsLengthFault, IsSurveyFaultBy, IsSurveyRefusal}
use Rattle.sync_survey.specs.Survey.{IsUnreadBy, RefusesBytes}
use Rattle.sync_survey.specs.SurveyFaultKinds.{HasRightNumbers, InputKind, IsFromOutside, IsRefused}
use Rattle.sync_survey.specs.SurveyFaultKinds.{kind_of, RefusesRightly, shrunk_end}
use Rattle.sync_survey.specs.declared.survey_fault.SurveyFault.{SurveyFault}
use Rattle.sync_survey.specs.declared.survey_fault.SurveyFault.TheVariants.{Memory, TooLong}

module _ (name : List ℕ) (files : Files) (before after : Counts) (fault : SurveyFault) where
  abbrev SurveyCause : InputKind → Type 0
  SurveyCause kind = IsSurveyFaultBy name files 0 before after fault kind

  abbrev ReadCause : InputKind → Type 0
  ReadCause kind = IsUnreadBy name files before after (shrunk_end fault)
      (RefusesDamaged name files before after fault) kind

  cause_by : (kind : InputKind) → SurveyCause kind
      → (kind ≡ IsRefused → RefusesDamaged name files before after fault) → ReadCause kind
  cause_by IsRefused is refused = refused refl
  cause_by _ is refused = is

  -- the file is refused if a call failed, it became shorter, or memory ran out
  pub outside_refusal : IsSurveyRefusal name files 0 before after fault → IsFromOutside fault
      → IsDamagedRefusal name files before after fault
  outside_refusal is outside = record {
    cause = cause_by (kind_of fault) is.cause (λ e. absurd (outside e));
    numbers = is.numbers;
  }

  -- the file is refused if its bytes are
  pub bytes_refusal : {size : ℕ} → HasLength files name size → after ≡ before → RefusesRightly fault
      → ((bytes : List ℕ) → Holds files name bytes → damaged_of bytes ≡ Err fault)
      → IsDamagedRefusal name files before after fault
  bytes_refusal known same rightly refused = record {
    cause = subst ReadCause (sym rightly.0)
        (record { there = known.there; bytes = refused; counts = same });
    numbers = rightly.1;
  }

-- any file may be refused when out of memory
pub memory_refusal : {name : List ℕ} {files : Files} {before after : Counts} {size : ℕ}
    → HasLength files name size → after ≡ before → IsDamagedRefusal name files before after Memory
memory_refusal {name} {files} {before} {after} {size} known
    same =
    outside_refusal name files before after Memory
    (survey_memory name files 0 before after known same) (λ e. cc)

-- a look that failed refuses the file, with its cause
pub look_refusal : {feed : Fed} {name : List ℕ} {files mid : Files} {before between after : Counts}
    {fault : SurveyFault} → HasRead feed name files mid before between
    → IsSurveyRefusal name mid 0 between after fault → IsFromOutside fault
    → IsDamagedRefusal name files before after fault
look_refusal {name = name} {files = files} {before = before} {after = after} {fault = fault} read is
    outside = outside_refusal name files before after fault (refusal_after read is) outside

-- equal files and equal counts are all that is seen
pub seen_same : {now was : Seen} → now.files ≡ was.files → now.counts ≡ was.counts → now ≡ was
seen_same files counts = λ i. record { files = files i; counts = counts i }

-- ---- files by length

long-too : (file : List ℕ) → longest_file < length file
    → damaged_of file ≡ Err (TooLong (length file))
unfolding damaged_of
long-too file long = let more : ltb longest_file (length file) ≡ true =
    lt-ltb longest_file (length file) long in rw more refl

-- what is read of a file that isn't too long is read from its bytes
pub damaged_of-short : (file : List ℕ) → length file ≤ longest_file
    → damaged_of file ≡ damaged_fields file
unfolding damaged_of
damaged_of-short file few = let short : ltb longest_file (length file) ≡ false =
    le-ltb longest_file (length file) few in rw short refl

refused_long : (file : List ℕ) {fault : SurveyFault} → fault ≡ TooLong (length file)
    → HasRightNumbers fault → damaged_of file ≡ Err fault
refused_long file is numbers = long-too file (subst HasRightNumbers is numbers) ∙ ap Err (sym is)

-- the file is refused if it isn't found or is too long
pub find_refusal : {name : List ℕ} {files : Files} {before after : Counts} {fault : SurveyFault}
    → IsSurveyRefusal name files 0 before after fault → IsLengthFault name files fault
    → IsDamagedRefusal name files before after fault
find_refusal {name} {files} {before} {after} {fault} is
    length = record {
      cause = cause_by name files before after fault (kind_of fault) is.cause (λ e.
          let refuses : RefusesBytes name files 0 before after fault =
          subst (SurveyCause name files before after fault) e is.cause in
          record {
            there = refuses.there;
            bytes = λ bytes holds. refused_long bytes (length e bytes holds) is.numbers;
            counts = refuses.counts;
          });
      numbers = is.numbers;
    }
