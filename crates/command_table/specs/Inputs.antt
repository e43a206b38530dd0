-- The inputs of a command that are read as streams.
use Rattle.std.specs.Prelude.{All, Contains, length, List, Ok, slice_get, Some, suc, ℕ, [], ◌+◌}
use Rattle.std.specs.Prelude.{◌∷◌, ◌≡◌, ◌≤◌}
use Rattle.outside.specs.Files.{Contents}
use Rattle.sync_survey.specs.Faults.{longest_file, SurveyFields, unbounded_survey}

-- ---- lists

-- this holds of each element and its number, counted from 0
abbrev pub HoldsOfEach : {A : Type 0} → List A → (ℕ → A → Type 0) → Type 0
HoldsOfEach {A} xs P = (i : ℕ) (x : A) → slice_get xs i ≡ Some x → P i x

-- this holds of each element and the next
abbrev pub HoldsOfEachNext : {A : Type 0} → List A → (A → A → Type 0) → Type 0
HoldsOfEachNext {A} xs P =
    (i : ℕ) (x y : A) → slice_get xs i ≡ Some x → slice_get xs (suc i) ≡ Some y → P x y

-- ---- names

-- no input's name is an output's
abbrev pub AreNamesApart : List (List ℕ) → List (List ℕ) → Type 0
AreNamesApart inputs outputs = All (λ name. Contains outputs name → ⊥) inputs

-- ---- files

-- an input's bytes, and their survey
pub record FileInput : Type 0 where
  pub bytes : List ℕ
  pub survey : SurveyFields

-- the file with this name is there, has at most 1,073,741,824 bytes, and is well-formed
pub record IsInput (files : Contents) (name : List ℕ) (input : FileInput) : Type 0 where
  pub there : files name ≡ Some input.bytes
  pub long : length input.bytes ≤ longest_file
  pub well_formed : unbounded_survey input.bytes ≡ Ok input.survey

-- each of these names has such a file
abbrev pub AreInputs : Contents → List (List ℕ) → List FileInput → Type 0
AreInputs files [] [] = Unit {0}
AreInputs files (name ∷ names) (input ∷ inputs) =
    IsInput files name input × AreInputs files names inputs
AreInputs files _ _ = ⊥

-- how many frames the inputs have together
abbrev pub input_frames : List FileInput → ℕ
input_frames [] = 0
input_frames (input ∷ inputs) = length input.survey.frames + input_frames inputs

-- there is one input, and this holds of it
abbrev pub HoldsOfOne : (FileInput → Type 0) → List FileInput → Type 0
HoldsOfOne P (input ∷ []) = P input
HoldsOfOne P _ = ⊥
