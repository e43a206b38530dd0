-- What is known of a folder's files, and of a sink's bytes.
use Rattle.std.specs.{List.All, Map.update}
use Rattle.std.specs.Prelude.{Bool, bytes_eq, false, if◌then◌else◌, IsSome, List, None, Option}
use Rattle.std.specs.Prelude.{option_map, slice_index_or, Some, true, unwrap_or, ℕ, [], ◌++◌, ◌<◌}
use Rattle.std.specs.Prelude.{◌∷◌, ◌≡◌, ◌≢◌, ◌⊎◌}

-- a content for each name that is there
abbrev pub Contents : Type 0
Contents = List ℕ → Option (List ℕ)

-- how a name was touched
pub data Touch : Type 0 where
  -- not at all
  NotTouched : Touch
  -- a call was made to make it where nothing is there, so that nothing that was there is lost
  OnlyMade : Touch
  -- a call was made to create it whatever is there, or bytes were written to what wasn't made
  MayBeLost : Touch

-- the worse of two touches
abbrev pub worse_touch : Touch → Touch → Touch
worse_touch NotTouched other = other
worse_touch OnlyMade MayBeLost = MayBeLost
worse_touch OnlyMade other = OnlyMade
worse_touch MayBeLost other = MayBeLost

-- for each name, how it was touched
abbrev pub Touched : Type 0
Touched = List ℕ → Touch

-- what is known of a folder whose content isn't: how each name
-- was touched, and whether the folder keeps what is there
pub record Touches : Type 0 where
  pub keeps : Bool
  pub names : Touched

-- what is known of a folder: what each name holds; or, where that isn't known, which names may have
-- been touched
pub data Files : Type 0 where
  Told : Contents → Files
  Untold : Touches → Files

-- no content is known, what is there isn't kept, and any name may have been touched
abbrev pub untold_files : Files
untold_files = Untold (record { keeps = false; names = λ _. MayBeLost })

-- no content is known, what is there isn't kept, and no name was touched
abbrev pub untouched_files : Files
untouched_files = Untold (record { keeps = false; names = λ _. NotTouched })

-- whether the content of the files is known
abbrev pub is_told : Files → Bool
is_told (Told f) = true
is_told (Untold touched) = false

-- where the content of the files is known, this holds for it
abbrev pub IfTold : Files → (Contents → Type 0) → Type 0
IfTold (Told f) P = P f
IfTold (Untold touched) P = Unit {0}

-- the bytes of a sink, if they are known
abbrev pub Sent : Type 0
Sent = Option (List ℕ)

-- the bytes of a sink if they aren't known
abbrev pub untold_bytes : Sent
untold_bytes = None

-- the same files, except that the name holds these bytes
unfoldable pub with_file : Contents → List ℕ → List ℕ → Contents
with_file files name bytes = update bytes_eq files name (Some bytes)

-- the same touches, but of this name what they become
abbrev pub with_touch : Touched → List ℕ → (Touch → Touch) → Touched
with_touch touched name becomes =
    λ other. if bytes_eq name other then becomes (touched other) else touched other

-- the name was created, too, by a call that keeps what is there, or by one that doesn't
abbrev pub created_touch : Bool → Touch → Touch
created_touch true before = worse_touch before OnlyMade
created_touch false before = worse_touch before MayBeLost

-- bytes were written, too, if there are any
abbrev pub written_touch : Bool → Touch → Touch
written_touch true NotTouched = MayBeLost
written_touch some before = before

-- the name was created, too, as this folder does it
abbrev pub with_created_name : Touches → List ℕ → Touches
with_created_name t name = record t { names = with_touch t.names name (created_touch t.keeps) }

-- the name was created, too, by a call that keeps what is there
abbrev pub with_made_name : Touches → List ℕ → Touches
with_made_name t name = record t { names = with_touch t.names name (created_touch true) }

-- whether there is a byte
abbrev pub is_some_byte : List ℕ → Bool
is_some_byte [] = false
is_some_byte (byte ∷ bytes) = true

-- the name holds no bytes, and every other name is unchanged
unfoldable pub with_empty_file : Files → List ℕ → Files
with_empty_file (Told f) name = Told (with_file f name [])
with_empty_file (Untold t) name = Untold (with_created_name t name)

-- the same, by a call that makes the name only where it isn't there
unfoldable pub with_new_file : Files → List ℕ → Files
with_new_file (Told f) name = Told (with_file f name [])
with_new_file (Untold t) name = Untold (with_made_name t name)

-- the name holds more bytes at its end, and every other name is unchanged; if there are no bytes,
-- nothing is touched
unfoldable pub with_appended_bytes : Files → List ℕ → List ℕ → Files
with_appended_bytes (Told f) name more = Told (with_file f name (unwrap_or (f name) [] ++ more))
with_appended_bytes (Untold t) name more =
    Untold (record t { names = with_touch t.names name (written_touch (is_some_byte more)) })

-- the files once the name was created and holds these bytes
unfoldable pub files_holding : Files → List ℕ → List ℕ → Files
files_holding (Told f) name bytes = Told (with_file f name bytes)
files_holding (Untold t) name bytes = Untold (with_created_name t name)

-- files whose content is known are unchanged, and otherwise the name may have been touched
unfoldable pub with_tried_create : Files → List ℕ → Files
with_tried_create (Told f) name = Told f
with_tried_create (Untold t) name = Untold (with_created_name t name)

-- the same, by a call that makes the name only where it isn't there
unfoldable pub with_tried_make : Files → List ℕ → Files
with_tried_make (Told f) name = Told f
with_tried_make (Untold t) name = Untold (with_made_name t name)

-- a call to create the name failed: files whose content is known are unchanged, and otherwise no
-- other name was touched
abbrev pub FailsToCreate : List ℕ → Files → Files → Type 0
FailsToCreate name old new = (new ≡ old) ⊎ (new ≡ with_tried_create old name)

-- the same of a call that makes the name only where it isn't there
abbrev pub FailsToMake : List ℕ → Files → Files → Type 0
FailsToMake name old new = (new ≡ old) ⊎ (new ≡ with_tried_make old name)

-- the same files, seen as those of a folder that keeps what is there
unfoldable pub keeping_files : Files → Files
keeping_files (Told f) = Told f
keeping_files (Untold t) = Untold (record t { keeps = true })

-- Every name but these is unchanged: where the content of the files is known, it holds what it
-- held; where it isn't, the name was touched as before.
abbrev pub LeavesAllBut : List (List ℕ) → Files → Files → Type 0
LeavesAllBut names (Told f) (Told g) =
    (other : List ℕ) → All (λ name. other ≢ name) names → g other ≡ f other
LeavesAllBut names (Untold old) (Untold new) =
    (other : List ℕ) → All (λ name. other ≢ name) names → new.names other ≡ old.names other
LeavesAllBut names _ _ = ⊥

-- Where the content of the files isn't known, each name was touched as before, or created as this
-- folder does it: by a folder that keeps what is there, it was only made.
abbrev pub TouchesAsItDoes : Files → Files → Type 0
TouchesAsItDoes (Untold old) (Untold new) = (new.keeps ≡ old.keeps) × ((name : List ℕ)
    → (new.names name ≡ old.names name)
    ⊎ (new.names name ≡ created_touch old.keeps (old.names name)))
TouchesAsItDoes _ _ = Unit {0}

-- Every name but these is unchanged, and these were touched only by being created.
pub record OnlyTouches (names : List (List ℕ)) (old new : Files) : Type 0 where
  pub others : LeavesAllBut names old new
  pub as_it_does : TouchesAsItDoes old new

-- the bytes of a sink, if they are known, and more after them
unfoldable pub sent_and_more : Sent → List ℕ → Sent
sent_and_more sent more = option_map (λ s. s ++ more) sent

-- the content of the files is known, and the name holds these bytes
abbrev pub Holds : Files → List ℕ → List ℕ → Type 0
Holds (Told f) name bytes = f name ≡ Some bytes
Holds (Untold touched) name bytes = ⊥

-- where the content of the files is known, the name is there
abbrev pub IsFileThere : Files → List ℕ → Type 0
IsFileThere files name = IfTold files (λ f. IsSome (f name))

-- where the content of the files is known, the name isn't there
abbrev pub IsFileMissing : Files → List ℕ → Type 0
IsFileMissing files name = IfTold files (λ f. f name ≡ None)

-- numbers that can be bytes
abbrev pub AreOctets : List ℕ → Type 0
AreOctets bytes = (i : ℕ) → slice_index_or bytes i 0 < 256
