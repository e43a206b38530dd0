-- How the program's words are read by the forms that they can have.
use Rattle.std.specs.{Cmp.Lexicographic.pointwise, List.common_prefix_len}
use Rattle.std.specs.Prelude.{Bool, bytes_eq, codes, Contains, drop, Err, false, find, fold}
use Rattle.std.specs.Prelude.{if◌then◌else◌, IsTrue, length, List, map, max, None, Ok, Option}
use Rattle.std.specs.Prelude.{Result, Some, take, ℕ, [], ◌+◌, ◌-◌, ◌<◌, ◌∷◌, ◌≡◌, ◌≤◌}
use Rattle.job_words.specs.Forms.{forms, kinds_for, Shape, shape_request, shapes}
use Rattle.job_words.specs.{Kinds.{fits_kind, Kind}, Request.Request}

-- ---- the reading

-- the words have the kinds, one for one
abbrev pub have_kinds : List Kind → List (List ℕ) → Bool
have_kinds kinds words = pointwise fits_kind kinds words

-- the shape's kinds for as many words as these
abbrev pub shape_kinds : List (List ℕ) → Shape → List Kind
shape_kinds words shape = kinds_for shape (length words)

-- how many of the first words have the shape's first kinds
abbrev pub fitting_count : List (List ℕ) → Shape → ℕ
fitting_count words shape = common_prefix_len fits_kind (shape_kinds words shape) words

-- the greatest such number over a table of shapes
abbrev pub longest_fit : List Shape → List (List ℕ) → ℕ
longest_fit table words = fold max 0 (map (fitting_count words) table)

-- the shape of the table whose kinds the words have
abbrev pub shape_in : List Shape → List (List ℕ) → Option Shape
shape_in table words = find (λ shape. have_kinds (shape_kinds words shape) words) table

-- what the words ask for by a shape; where there is none, the place of the bad word, counted from 1
abbrev pub shape_reading : Option Shape → List (List ℕ) → ℕ → Result Request ℕ
shape_reading (Some shape) words longest = Ok (shape_request shape words)
shape_reading None words longest = Err (1 + longest)

-- the reading by the shape of the table whose kinds the words have
abbrev pub table_reading : List Shape → List (List ℕ) → Result Request ℕ
table_reading table words = shape_reading (shape_in table words) words (longest_fit table words)

-- what the words of a form ask for, or the place of the bad word
unfoldable pub plain_job_of : List (List ℕ) → Result Request ℕ
plain_job_of words = table_reading (shapes forms) words

-- ---- the word that keeps what is there

-- the first word is `-n`
abbrev pub keeps_of : List (List ℕ) → Bool
keeps_of [] = false
keeps_of (first ∷ words) = bytes_eq first (codes "-n")

-- how many words stand before those of the form
abbrev pub count_before : List (List ℕ) → ℕ
count_before words = if keeps_of words then 1 else 0

-- the words of the form: those behind `-n`, or all of them
abbrev pub form_words : List (List ℕ) → List (List ℕ)
form_words words = drop (count_before words) words

-- the same reading of words that begin so many places later
abbrev pub later_by : ℕ → Result Request ℕ → Result Request ℕ
later_by count (Ok asked) = Ok asked
later_by count (Err place) = Err (place + count)

-- What the program's words ask for, or the place of the bad word. A form
-- may stand behind `-n`, which changes nothing of what is asked for.
unfoldable pub job_of : List (List ℕ) → Result Request ℕ
job_of words = later_by (count_before words) (plain_job_of (form_words words))

-- ---- the reading as relations

-- the first n words have the first n kinds of the shape
pub record IsShapePrefix (n : ℕ) (shape : Shape) (words : List (List ℕ)) : Type 0 where
  pub enough_words : n ≤ length words
  pub enough_kinds : n ≤ length (shape_kinds words shape)
  pub fit : IsTrue (have_kinds (take n (shape_kinds words shape)) (take n words))

-- the words have the kinds of a form with some of its flags,
-- each at most once and in any order, and ask for what it says
pub record IsReadingOf (words : List (List ℕ)) (asked : Request) : Type 0 where
  pub shape : Shape
  pub listed : Contains (shapes forms) shape
  pub kinds : IsTrue (have_kinds (shape_kinds words shape) words)
  pub read : asked ≡ shape_request shape words

-- The words have the kinds of no form. The words before this place, counted from 1, have the first
-- kinds of some form, and no longer prefix of the words has.
pub record IsBadWord (words : List (List ℕ)) (place : ℕ) : Type 0 where
  pub none : (shape : Shape) → Contains (shapes forms) shape
      → ¬ IsTrue (have_kinds (shape_kinds words shape) words)
  pub counted : 1 ≤ place
  pub nearest : Shape
  pub listed : Contains (shapes forms) nearest
  pub before : IsShapePrefix (place - 1) nearest words
  pub longest : (n : ℕ) (shape : Shape) → Contains (shapes forms) shape
      → IsShapePrefix n shape words → n < place
