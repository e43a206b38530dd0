-- The program's words, by the bytes of its arguments.
use Rattle.std.specs.{Prelude.{if◌then◌else◌, List, map, ℕ, []}, Str.is_utf8}

-- the word that an argument is: its bytes, or none where they aren't UTF-8; an empty word is of no
-- kind
abbrev pub argument_word : List ℕ → List ℕ
argument_word argument = if is_utf8 argument then argument else []

-- the words that the arguments are
abbrev pub argument_words : List (List ℕ) → List (List ℕ)
argument_words arguments = map argument_word arguments
