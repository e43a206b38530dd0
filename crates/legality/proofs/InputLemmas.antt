-- Names that are apart, and the surveys of inputs.
use Rattle.std.proofs.Common.{ap, arith, bytes_eq, cond, Contains, false, length, List, None, Ok}
use Rattle.std.proofs.Common.{refl, Some, suc, ℕ, [], ◌+◌, ◌∙◌, ◌∷◌, ◌≡◌, ◌≤◌}
use Rattle.std.proofs.lemmas.{Bool.false_from_ne_true, List.{Elements.All-cons, Folds.list_any_at}}
use Rattle.std.proofs.lemmas.{Map.Views.Contains-from_any, Slice.Eq.bytes_eq-Decides}
use Rattle.std.specs.List.{list_any}
use Rattle.command_table.specs.Inputs.{AreNamesApart, FileInput, HoldsOfEach, HoldsOfEachNext}
use Rattle.command_table.specs.Inputs.{IsInput}
use Rattle.commands.{proofs.MakeLemmas.no_clash, specs.Command.clash_from}
use Rattle.outside.{proofs.FilesLemmas.bytes_eq_same, specs.Files.Contents}
use Rattle.pack_edits.proofs.LimitLemmas.{few-rows}
use Rattle.sync_survey.proofs.{FaultsLemmas.length-marked_rows, FoldersLemmas.survey_of-short}
use Rattle.sync_survey.proofs.SurveyPartsLemmas.{all_faults-none_sound, frames_from}
use Rattle.sync_survey.proofs.SurveyPartsLemmas.{sound-no_all_faults, sound_allowed}
use Rattle.sync_survey.proofs.SurveyPartsLemmas.{survey_fields-allowed, survey_fields-parts}
use Rattle.sync_survey.proofs.SurveyPartsLemmas.{survey_fields-told}
use Rattle.sync_survey.proofs.SurveyedFileLemmas.{survey_of-parts}
use Rattle.sync_survey.specs.Faults.{class_from, longest_file, SurveyFields, unbounded_survey}
use Rattle.sync_survey.specs.{MainData.rows_of, Survey.survey_of, Walk.head_of}

-- ---- lists

-- what holds of the first element and of each after it holds of each
pub each-cons : {A : Type 0} (P : ℕ → A → Type 0) {x : A} (xs : List A) → P 0 x
    → HoldsOfEach xs (λ i y. P (suc i) y) → HoldsOfEach (x ∷ xs) P
each-cons P xs first rest h y is = grind arith

-- what holds of the first two elements and of each two neighbours after them holds of each two
pub next-cons : {A : Type 0} (P : A → A → Type 0) {x y : A} (more : List A) → P x y
    → HoldsOfEachNext (y ∷ more) P → HoldsOfEachNext (x ∷ y ∷ more) P
next-cons P more first rest h p q is next = grind arith

-- ---- names

none-is : {name : List ℕ} (outputs : List (List ℕ)) → list_any (bytes_eq name) outputs ≡ false
    → Contains outputs name → ⊥
none-is outputs none has = grind (arith, bytes_eq, list_any_at, bytes_eq_same)

is-none : {name : List ℕ} (outputs : List (List ℕ)) → (Contains outputs name → ⊥)
    → list_any (bytes_eq name) outputs ≡ false
is-none {name} outputs free = false_from_ne_true _
    (λ e. free (Contains-from_any (λ x y same. (bytes_eq-Decides x y).0 same) name outputs e))

-- without a clash the names are apart
pub no-clash_apart : (outputs names : List (List ℕ)) (place : ℕ)
    → clash_from outputs place names ≡ None → AreNamesApart names outputs
no-clash_apart outputs [] place none = λ k d within. absurd (omega (arith, within))
no-clash_apart outputs (name ∷ names) place none =
    let parts =
    no_clash place none in
    All-cons (λ n. Contains outputs n → ⊥) name names (none-is outputs parts.0)
    (no-clash_apart outputs names (place + 1) parts.1)

-- names that are apart don't clash
pub apart_no-clash : (outputs names : List (List ℕ)) (place : ℕ) → AreNamesApart names outputs
    → clash_from outputs place names ≡ None
apart_no-clash outputs [] place apart = refl
apart_no-clash outputs (name ∷ names) place apart =
    ap (λ b. cond b (Some place) (clash_from outputs (place + 1) names))
    (is-none outputs (apart 0 [] (omega arith)))
    ∙ apart_no-clash outputs names (place + 1)
    (λ k d within. apart (suc k) d (omega (arith, within)))

-- ---- surveys

-- a file that is no longer than allowed, and has no fault where `allowed` frames are allowed
pub record IsWhole (file : List ℕ) (allowed : ℕ) (s : SurveyFields) : Type 0 where
  pub long : length file ≤ longest_file
  pub well_formed : unbounded_survey file ≡ Ok s
  pub few : length s.frames ≤ allowed

-- a surveyed file isn't too long, is well-formed, and has no more frames than allowed
pub survey-whole : {file : List ℕ} {allowed : ℕ} {s : SurveyFields} → survey_of file allowed ≡ Ok s
    → IsWhole file allowed s
survey-whole {file} {allowed} {s} e =
    let whole = survey_of-parts file allowed e in
    let parts = survey_fields-parts whole.1 in
    let head = head_of file parts.0.first in
    let rows = rows_of file (frames_from file parts.0) in
    let few = few-rows file head rows
    (all_faults-none_sound file head (class_from parts.0) allowed rows parts.1.frames) in
    let size : length s.frames ≡ length rows = grind (arith, length-marked_rows) in
    record {
      long = whole.0;
      well_formed = survey_fields-allowed file allowed (omega arith) whole.1;
      few = omega (arith, few, size);
    }

-- a whole file has a survey
pub whole-survey : {file : List ℕ} {allowed : ℕ} {s : SurveyFields} → IsWhole file allowed s
    → survey_of file allowed ≡ Ok s
whole-survey {file} {allowed} {s} whole =
    let parts = survey_fields-parts whole.well_formed in
    let start = parts.0 in
    let read = parts.1 in
    let head = head_of file start.first in
    let rows = rows_of file (frames_from file start) in
    let size : length s.frames ≡ length rows = grind (arith, length-marked_rows) in
    survey_of-short file allowed whole.long
    ∙ survey_fields-told (record {
      start_is = read.start_is;
      frames = sound-no_all_faults file head (class_from start) allowed rows
          (sound_allowed file head rows
          (omega (arith, whole.few, size))
          (all_faults-none_sound file head (class_from start) (length file + 1) rows read.frames));
      end = read.end;
    })
    ∙ ap Ok parts.2

-- ---- one input

-- the file with this name is an input without fault, and what was chosen is legal for it
pub record IsOne (Choice : FileInput → Type 0) (files : Contents) (name : List ℕ)
    (most : ℕ) : Type 0 where
  pub input : FileInput
  pub is : IsInput files name input
  pub few : length input.survey.frames ≤ most
  pub choice : Choice input

-- a legal input has its survey
pub one-survey : (Choice : FileInput → Type 0) {files : Contents} {name : List ℕ} {most : ℕ}
    (one : IsOne Choice files name most) → survey_of one.input.bytes most ≡ Ok one.input.survey
one-survey Choice {most = most} one = whole-survey
    (record { long = one.is.long; well_formed = one.is.well_formed; few = one.few })

-- a surveyed file with this name is an input
pub survey-input : {files : Contents} {name file : List ℕ} (allowed : ℕ) {s : SurveyFields}
    → files name ≡ Some file → survey_of file allowed ≡ Ok s
    → IsInput files name (record { bytes = file; survey = s })
survey-input {file = file} allowed {s} there e = let whole = survey-whole e in
    record { there = there; long = whole.long; well_formed = whole.well_formed }

-- a surveyed file that the choice is legal for is such an input
pub surveyed-one : (Choice : FileInput → Type 0) {files : Contents} {name file : List ℕ} {most : ℕ}
    {s : SurveyFields} → files name ≡ Some file → survey_of file most ≡ Ok s
    → Choice (record { bytes = file; survey = s }) → IsOne Choice files name most
surveyed-one Choice {files} {name} {file} {most} {s} there surveyed
    choice = record {
      input = record { bytes = file; survey = s };
      is = survey-input most there surveyed;
      few = (survey-whole surveyed).few;
      choice = choice;
    }
