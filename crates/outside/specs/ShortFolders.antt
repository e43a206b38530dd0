-- What is seen of a folder that reports greater lengths than it has bytes.
use Rattle.std.specs.Prelude.{Bool, drop, Err, false, IfOk, if◌then◌else◌, is_err, is_some, IsErrOf}
use Rattle.std.specs.Prelude.{length, List, min, nat_lt, not, Ok, OnErr, OnOk, Result, take, true}
use Rattle.std.specs.Prelude.{ℕ, ◌&&◌, ◌++◌, ◌+◌, ◌-◌, ◌==◌, ◌^◌, ◌||◌, ◌≡◌}
use Rattle.outside.specs.Counts.{Counts, with_end, with_miss, with_read_fault, with_write_fault}
use Rattle.outside.specs.Files.{Told, untold_files, with_empty_file, with_file, with_new_file}
use Rattle.outside.specs.Memory.{contents_of, create_fails, find_answer, is_to_fail, make_fails}
use Rattle.outside.specs.Memory.{MakesCall, mem_bytes, mem_counts, write_fails}
use Rattle.outside.specs.{Seen.{Seen, seen_folder}, declared.folder.Failed.Failed as FailedCall}
use Rattle.outside.specs.declared.folder.FindFault.{FindFault, TheVariants.{Absent, Failed}}
use Rattle.outside.specs.declared.memory.folder.Call.TheVariants.{Create, Find, Read, There, Write}
use Rattle.outside.specs.declared.memory.{folder.MemFolder.MemFolder, short.ShortFolder.ShortFolder}

-- the counts of the folder inside, in which a read
-- of a name that isn't there counts as one at an end
abbrev pub short_counts : ShortFolder → Counts
short_counts folder = mem_counts folder.inner

-- the name is in the folder inside
abbrev pub is_inside : ShortFolder → List ℕ → Bool
is_inside folder name = is_some (contents_of folder.inner name)

-- a length and `extra` bytes more, or the greatest value of a u64 if that is less
abbrev pub longer_answer : ℕ → Result ℕ FindFault → Result ℕ FindFault
longer_answer extra (Ok length) = Ok (min (length + extra) (2 ^ 64 - 1))
longer_answer extra (Err fault) = Err fault

-- the `create` before a `write` to a name that isn't there fails
abbrev pub create_missing_fails : MemFolder → List ℕ → Bool
create_missing_fails folder name =
    not (is_some (contents_of folder name)) && create_fails folder name

-- a `write` of these bytes fails: the `write` of the folder inside, or the `create` before it, if
-- the name isn't there
abbrev pub short_write_fails : ShortFolder → List ℕ → List ℕ → Bool
short_write_fails folder name bytes =
    create_missing_fails folder.inner name || write_fails folder.inner name bytes

-- A name was created if it wasn't there: its bytes are what they were, and a `write` to it fails
-- exactly if it would have.
pub record IsCreated (old new : MemFolder) (name : List ℕ) : Type 0 where
  pub bytes : mem_bytes new name ≡ mem_bytes old name
  pub others : (bytes : List ℕ)
      → with_file (contents_of new) name bytes ≡ with_file (contents_of old) name bytes
  pub fails : (bytes : List ℕ) → write_fails new name bytes ≡ write_fails old name bytes

-- what is seen of the folder, whose content isn't known
abbrev pub short_seen : ShortFolder → Seen
short_seen folder = seen_folder untold_files (short_counts folder)

-- It returns a greater length than the folder inside has.
pub record ShortFinds (name : List ℕ) (was now : ShortFolder)
    (result : Result ℕ FindFault) : Type 0 where
  pub exact : result ≡ longer_answer was.extra (find_answer was.inner name)
  pub inside : contents_of now.inner ≡ contents_of was.inner
  pub called : MakesCall was.inner now.inner Find
  pub extra : now.extra ≡ was.extra
  pub absent_counts : IsErrOf result Absent → short_counts now ≡ with_miss name (short_counts was)
  pub failed_counts : IsErrOf result Failed
      → short_counts now ≡ with_read_fault name (short_counts was)

-- It returns what the folder inside has, and nothing for a name that isn't in it.
pub record ShortReads (name : List ℕ) (at : ℕ) (before after : List ℕ) (was now : ShortFolder)
    (result : Result ℕ FailedCall) : Type 0 where
  pub none : is_inside was name ≡ false → result ≡ Ok 0
  pub fails : is_inside was name ≡ true → is_err result ≡ is_to_fail was.inner Read
  pub whole : IfOk result (λ k. k ≡ min (length before) (length (mem_bytes was.inner name) - at))
  pub given : IfOk result (λ k. take k after ≡ take k (drop at (mem_bytes was.inner name)))
  pub kept : OnErr result (after ≡ before)
  pub inside : contents_of now.inner ≡ contents_of was.inner
  pub called : is_inside was name ≡ true → MakesCall was.inner now.inner Read
  pub uncalled : is_inside was name ≡ false
      → now.inner ≡ record was.inner { tally = short_counts now }
  pub extra : now.extra ≡ was.extra
  pub read_counts : IfOk result (λ k. short_counts now ≡ (if k == 0 && nat_lt 0 (length before)
      then with_end name at (short_counts was) else short_counts was))
  pub failed_counts : OnErr result (short_counts now ≡ with_read_fault name (short_counts was))

-- It creates a name as the folder inside does.
pub record ShortCreates (name : List ℕ) (was now : ShortFolder)
    (result : Result (Unit {0}) FailedCall) : Type 0 where
  pub fails : is_err result ≡ create_fails was.inner name
  pub inside : OnOk result
      (Told (contents_of now.inner) ≡ with_empty_file (Told (contents_of was.inner)) name)
  pub inside_kept : OnErr result (contents_of now.inner ≡ contents_of was.inner)
  pub called : MakesCall was.inner now.inner Create
  pub extra : now.extra ≡ was.extra
  pub failed_counts : OnErr result (short_counts now ≡ with_write_fault name (short_counts was))

-- It asks as the folder inside does.
pub record ShortAsks (name : List ℕ) (was now : ShortFolder)
    (result : Result Bool FailedCall) : Type 0 where
  pub exact : IfOk result (λ is. is ≡ is_inside was name)
  pub fails : is_err result ≡ is_to_fail was.inner There
  pub inside : contents_of now.inner ≡ contents_of was.inner
  pub called : MakesCall was.inner now.inner There
  pub extra : now.extra ≡ was.extra
  pub failed_counts : OnErr result (short_counts now ≡ with_write_fault name (short_counts was))

-- It makes a name that isn't there as the folder inside does.
pub record ShortMakes (name : List ℕ) (was now : ShortFolder)
    (result : Result (Unit {0}) FailedCall) : Type 0 where
  pub fails : is_err result ≡ make_fails was.inner name
  pub inside : OnOk result
      (Told (contents_of now.inner) ≡ with_new_file (Told (contents_of was.inner)) name)
  pub inside_kept : OnErr result (contents_of now.inner ≡ contents_of was.inner)
  pub called : MakesCall was.inner now.inner Create
  pub extra : now.extra ≡ was.extra
  pub failed_counts : OnErr result (short_counts now ≡ with_write_fault name (short_counts was))

-- It writes as the folder inside does, and creates a name that isn't in it.
pub record ShortWrites (name bytes : List ℕ) (was now : ShortFolder)
    (result : Result ℕ FailedCall) : Type 0 where
  pub fails : is_err result ≡ short_write_fails was name bytes
  pub whole : IfOk result (λ k. k ≡ length bytes)
  pub inside : OnOk result (contents_of now.inner
      ≡ with_file (contents_of was.inner) name (mem_bytes was.inner name ++ bytes))
  pub inside_kept : is_inside was name ≡ true
      → OnErr result (contents_of now.inner ≡ contents_of was.inner)
  pub called : is_inside was name ≡ true → MakesCall was.inner now.inner Write
  pub extra : now.extra ≡ was.extra
  pub failed_counts : OnErr result (short_counts now ≡ with_write_fault name (short_counts was))
