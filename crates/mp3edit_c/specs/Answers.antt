-- What each call answers and leaves.
use Rattle.std.specs.{Prelude.{IsSome, List, None, Some, ℕ, ◌↔◌, ◌≡◌, ◌≢◌, ◌⊎◌}, Str.IsUtf8}
use Rattle.mp3edit_c.specs.Copied.{Copies}
use Rattle.session.specs.{Names.IsNameAt, Shown.{Shown, with_bytes, with_word, without_name}}

-- it was done
abbrev pub done : ℕ
done = 0

-- a name or a word isn't UTF-8
abbrev pub not_text : ℕ
not_text = 5

-- there is no such file
abbrev pub absent : ℕ
absent = 6

-- memory was refused before anything was done
abbrev pub no_memory : ℕ
no_memory = 7

-- A file was to be put: the name's file is these bytes and all else stays, or nothing was done.
pub record Puts (name bytes : List ℕ) (old new : Shown) (answer : ℕ) : Type 0 where
  pub put : answer ≡ done → new ≡ with_bytes name bytes old
  pub kept : answer ≢ done → new ≡ old
  -- this is the answer to exactly the names that aren't UTF-8
  pub text : (answer ≡ not_text) ↔ (IsUtf8 name → ⊥)
  pub answers : (answer ≡ done) ⊎ (answer ≡ not_text) ⊎ (answer ≡ no_memory)

-- A word was to be added: it stands behind those that were there and all else stays, or nothing was
-- done.
pub record Words (word : List ℕ) (old new : Shown) (answer : ℕ) : Type 0 where
  pub added : answer ≡ done → new ≡ with_word word old
  pub kept : answer ≢ done → new ≡ old
  -- this is the answer to exactly the words that aren't UTF-8
  pub text : (answer ≡ not_text) ↔ (IsUtf8 word → ⊥)
  pub answers : (answer ≡ done) ⊎ (answer ≡ not_text) ⊎ (answer ≡ no_memory)

-- A name was to be taken away: it isn't there and all else stays, or nothing was done.
pub record Drops (name : List ℕ) (old new : Shown) (answer : ℕ) : Type 0 where
  pub dropped : answer ≡ done → new ≡ without_name name old
  pub kept : answer ≢ done → new ≡ old
  -- exactly the names that aren't UTF-8 have this answer
  pub text : (answer ≡ not_text) ↔ (IsUtf8 name → ⊥)
  -- of the others, those that are there are taken away
  pub there : IsUtf8 name → (answer ≡ done) ↔ IsSome (old.files name)
  pub answers : (answer ≡ done) ⊎ (answer ≡ not_text) ⊎ (answer ≡ absent)

-- A file was asked for: its bytes were copied, or nothing was written to the caller's memory.
pub record CopiesFile (name : List ℕ) (s : Shown) (before after : List ℕ) (size_before size : ℕ)
    (answer : ℕ) : Type 0 where
  pub got : answer ≡ done
      → (bytes : List ℕ) × (s.files name ≡ Some bytes) × Copies bytes before after size
  pub kept : answer ≢ done → (after ≡ before) × (size ≡ size_before)
  -- exactly the names that aren't UTF-8 have this answer
  pub text : (answer ≡ not_text) ↔ (IsUtf8 name → ⊥)
  -- of the others, those that are there are copied
  pub there : IsUtf8 name → (answer ≡ done) ↔ IsSome (s.files name)
  pub answers : (answer ≡ done) ⊎ (answer ≡ not_text) ⊎ (answer ≡ absent)

-- A name was asked for by its number: its bytes were copied, or there are no more names and nothing
-- was written to the caller's memory.
pub record CopiesName (number : ℕ) (s : Shown) (before after : List ℕ) (size_before size : ℕ)
    (answer : ℕ) : Type 0 where
  pub got : answer ≡ done
      → (name : List ℕ) × IsNameAt s.files number (Some name) × Copies name before after size
  pub kept : answer ≢ done
      → IsNameAt s.files number None × (after ≡ before) × (size ≡ size_before)
  pub answers : (answer ≡ done) ⊎ (answer ≡ absent)

-- What was sent was copied.
pub record CopiesText (bytes before after : List ℕ) (size answer : ℕ) : Type 0 where
  pub copied : Copies bytes before after size
  pub answers : answer ≡ done
