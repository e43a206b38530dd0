-- The lines of a sheet, and the words of a line.
use Rattle.std.specs.List.{slice_split}
use Rattle.std.specs.Prelude.{Bool, bytes_eq, drop, filter, if◌then◌else◌, length, List, map}
use Rattle.std.specs.Prelude.{nat_le, not, take, ℕ, [], ◌==◌, ◌||◌, ◌∷◌, ◌≡◌}
use Rattle.std.specs.Str.Lines.{strip_carriage_return}

-- the bytes without a byte order mark at the beginning: ef, bb and bf
abbrev pub without_mark : List ℕ → List ℕ
without_mark bytes = if bytes_eq (take 3 bytes) (239 ∷ 187 ∷ 191 ∷ []) then drop 3 bytes else bytes

-- a space or a tab
abbrev pub is_blank : ℕ → Bool
is_blank byte = (byte == 32) || (byte == 9)

-- the words of a line: the non-empty parts between blanks, before the first and after the last
unfoldable pub words_of : List ℕ → List (List ℕ)
words_of line = filter (λ word. not (length word == 0)) (slice_split is_blank line)

-- there are fewer words than two, or more
abbrev pub HasNotTwo : List (List ℕ) → Type 0
HasNotTwo words = length words ≡ 2 → ⊥

-- Lines end with 0a or at the end of the text; one carriage return at the end of a line is dropped.
-- After the last 0a there is one more line.
abbrev pub lines_in : List ℕ → List (List ℕ)
lines_in text = map strip_carriage_return (slice_split (λ b. b == 10) text)

-- the lines of a sheet
abbrev pub lines_of : List ℕ → List (List ℕ)
lines_of bytes = lines_in (without_mark bytes)

-- the lines from a place on at which a line begins; none past the end
abbrev pub lines_from : List ℕ → ℕ → List (List ℕ)
lines_from text at = if nat_le at (length text) then lines_in (drop at text) else []
