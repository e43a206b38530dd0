-- What a folder of real files and a real stream count and keep open, and what is known of open
-- files.
use Rattle.std.specs.Io.{KnownBytes.{Appends, Keeps}, Seek.SeekMoves}
use Rattle.std.specs.Prelude.{drop, false, IfOk, IfSome, IsSome, IsTrue, length, List, min, Ok}
use Rattle.std.specs.Prelude.{Option, option_and_then, option_map, pos, Result, Some, string_bytes}
use Rattle.std.specs.Prelude.{take, ℕ, ◌-◌, ◌≡◌, ◌≢◌, ◌≤◌}
use Rattle.std.specs.declared.io.traits.SeekFrom.TheVariants.{End}
use Rattle.on_disk.specs.{Names.touched_in, NotedFiles.is_noted}
use Rattle.on_disk.specs.declared.{disk.DiskFolder.DiskFolder, stream.StdSink.StdSink}
use Rattle.on_disk.specs.declared.system.{FileFacts.FileFacts, FileId.FileId}
use Rattle.on_disk.specs.declared.system.Purpose.TheVariants.{Creating, Making, Reading}
use Rattle.on_disk.specs.declared.system.opened.Opened.{Opened}
use Rattle.outside.specs.{Counts.Counts, Files.{Files, Untold, untold_bytes}}
use Rattle.outside.specs.Seen.{Heard, heard_sink, Seen, seen_folder}

-- the folder's counts
abbrev pub disk_counts : {R File Dir : Type 0} → DiskFolder R File Dir → Counts
disk_counts folder = folder.tally

-- what is known of real files: only which names may have been touched
abbrev pub disk_files : {R File Dir : Type 0} → DiskFolder R File Dir → Files
disk_files folder = Untold (record { keeps = false; names = touched_in folder.touched })

-- what is seen of the folder
abbrev pub disk_seen : {R File Dir : Type 0} → DiskFolder R File Dir → Seen
disk_seen folder = seen_folder (disk_files folder) (disk_counts folder)

-- the name that an open file was opened by
abbrev pub open_name : {File : Type 0} → Option (Opened File) → Option (List ℕ)
open_name opened = option_map (λ o. string_bytes o.name) opened

-- the name of the file that is open for reading
abbrev pub found_name : {R File Dir : Type 0} → DiskFolder R File Dir → Option (List ℕ)
found_name folder = open_name folder.found

-- the file that is open for reading
abbrev pub found_file : {R File Dir : Type 0} → DiskFolder R File Dir → Option File
found_file folder = option_map (λ opened. opened.file) folder.found

-- the device and the inode number of the file that is open for reading are noted
abbrev pub FoundIsNoted : {R File Dir : Type 0} → DiskFolder R File Dir → Type 0
FoundIsNoted folder = IfSome folder.found (λ opened. IsTrue (is_noted folder.noted opened.facts.id))

-- a file is open to be read, and was a regular one when it was opened
pub record IsOpenToRead {File : Type 0} (opened : Opened File) : Type 0 where
  pub purpose : opened.purpose ≡ Reading
  pub regular : IsTrue opened.facts.is_regular

-- the file that is open for reading is a regular one
abbrev pub FoundIsRegular : {R File Dir : Type 0} → DiskFolder R File Dir → Type 0
FoundIsRegular folder = IfSome folder.found (λ opened. IsOpenToRead opened)

-- a file has no bytes if it is a regular one
abbrev pub HasNoBytes : FileFacts → Type 0
HasNoBytes file = IsTrue file.is_regular → file.length ≡ 0

-- a file is open to be appended to, was made if it wasn't there, and had no bytes then
pub record IsOpenToWrite {File : Type 0} (opened : Opened File) : Type 0 where
  pub purpose : opened.purpose ≡ Creating
  pub empty : HasNoBytes opened.facts

-- the file that is open for appending had no bytes when it was created
abbrev pub CreatedIsEmpty : {R File Dir : Type 0} → DiskFolder R File Dir → Type 0
CreatedIsEmpty folder = IfSome folder.created (λ opened. IsOpenToWrite opened)

-- the file that is open for appending was made by the call that opened it
abbrev pub CreatedIsNew : {R File Dir : Type 0} → DiskFolder R File Dir → Type 0
CreatedIsNew folder = IfSome folder.created (λ opened. opened.purpose ≡ Making)

-- the device and the inode number of the file that is open for appending aren't noted
abbrev pub CreatedIsNotNoted : {R File Dir : Type 0} → DiskFolder R File Dir → Type 0
CreatedIsNotNoted folder =
    IfSome folder.created (λ opened. is_noted folder.noted opened.facts.id ≡ false)

-- what was noted stays noted
abbrev pub StayNoted : {R File Dir : Type 0} → DiskFolder R File Dir → DiskFolder R File Dir
    → Type 0
StayNoted old new =
    (file : FileId) → IsTrue (is_noted old.noted file) → IsTrue (is_noted new.noted file)

-- the name of the file that is open for appending
abbrev pub created_name : {R File Dir : Type 0} → DiskFolder R File Dir → Option (List ℕ)
created_name folder = open_name folder.created

-- what the file that is open for appending holds, if one is open and its content is known
abbrev pub created_bytes : {R File Dir : Type 0} → (File → Option (List ℕ)) → DiskFolder R File Dir
    → Option (List ℕ)
created_bytes contents folder = option_and_then (λ opened. contents opened.file) folder.created

-- the offset of a file is known, and these are known to be its bytes
pub record TellsBytes {File : Type 0} (position : File → Option ℕ) (bytes : File → Option (List ℕ))
    (file : File) (xs : List ℕ) : Type 0 where
  pub stands : IsSome (position file)
  pub holds : bytes file ≡ Some xs

-- the file of this name is open for reading, and these are known to be its bytes
pub record HasOpen {R File Dir : Type 0} (position : File → Option ℕ) (bytes : File
    → Option (List ℕ)) (folder : DiskFolder R File Dir) (name xs : List ℕ) : Type 0 where
  pub file : File
  pub found : found_file folder ≡ Some file
  pub named : found_name folder ≡ Some name
  pub tells : TellsBytes position bytes file xs

-- reads return the bytes of a file from its offset on, as with a cursor over bytes in memory
pub record ReadsFromOffset {File : Type 0} (remaining : File → Option (List ℕ))
    (position : File → Option ℕ)
    (bytes : File → Option (List ℕ)) : Type 0 where
  pub gives : (file : File) (at : ℕ) (xs : List ℕ) → position file ≡ Some at → bytes file ≡ Some xs
      → remaining file ≡ Some (drop at xs)

-- if the file of this name is open for reading, as many of its bytes were read as there are from an
-- offset on and there is room for
abbrev pub ReadsWhole : {R File Dir E : Type 0} → (File → Option ℕ) → (File → Option (List ℕ))
    → DiskFolder R File Dir → List ℕ → ℕ → ℕ → Result ℕ E → Type 0
ReadsWhole position bytes folder name at room read =
    (xs : List ℕ) → HasOpen position bytes folder name xs
    → IfOk read (λ k. k ≡ min room (length xs - at))

-- if reads return the bytes from the offset on, these bytes were read
abbrev pub ReadsOpen : {R File Dir E : Type 0} → (File → Option (List ℕ)) → (File → Option ℕ)
    → (File → Option (List ℕ)) → DiskFolder R File Dir → List ℕ → ℕ → List ℕ → Result ℕ E → Type 0
ReadsOpen remaining position bytes folder name at into read =
    ReadsFromOffset remaining position bytes → (xs : List ℕ) → HasOpen position bytes folder name xs
    → IfOk read (λ k. take k into ≡ take k (drop at xs))

-- if the file of this name is open for appending, exactly the bytes that were written were appended
-- to it
abbrev pub AppendsOpen : {R File Dir E : Type 0} → (File → Option (List ℕ)) → DiskFolder R File Dir
    → DiskFolder R File Dir → List ℕ → List ℕ → Result ℕ E → Type 0
AppendsOpen contents old new name bytes written =
    created_name old ≡ Some name → IfOk written
    (λ k. Appends (created_bytes contents old) (created_bytes contents new) (take k bytes))

-- a file of another name that is open for appending is unchanged
abbrev pub LeavesOthers : {R File Dir : Type 0} → DiskFolder R File Dir → DiskFolder R File Dir
    → List ℕ → Type 0
LeavesOthers old new name = created_name old ≢ Some name → new.created ≡ old.created

-- A seek to the end led from the file as it was opened to this offset, and what was known of its
-- bytes still is. The library says nothing of a file that was just opened, so whether anything was
-- known stays open.
pub record EndsAt {File : Type 0} (position : File → Option ℕ) (bytes : File → Option (List ℕ))
    (sought : File) (place : ℕ) : Type 0 where
  pub before : File
  pub kept : Keeps (bytes before) (bytes sought)
  pub moved : SeekMoves {E = ⊥} (position before) (position sought) (bytes before) (End (pos 0))
      (Ok place)

-- how many writes to the stream failed
abbrev pub stream_faults : {W : Type 0} → StdSink W → ℕ
stream_faults sink = sink.faults

-- what is seen of the sink, whose bytes aren't known
abbrev pub stream_heard : {W : Type 0} → StdSink W → Heard
stream_heard sink = heard_sink untold_bytes (stream_faults sink)

-- known bytes grew by a prefix of these
pub record GrewByPrefix (old new : Option (List ℕ)) (bytes : List ℕ) : Type 0 where
  pub count : ℕ
  pub within : count ≤ length bytes
  pub grew : Appends old new (take count bytes)

-- Nothing of the folder changed but which file is open for reading.
pub record OnlyFound {R File Dir : Type 0} (was now : DiskFolder R File Dir) : Type 0 where
  pub tally : disk_counts now ≡ disk_counts was
  pub touched : now.touched ≡ was.touched
  pub noted : now.noted ≡ was.noted
  pub created : now.created ≡ was.created

-- Nothing of the folder changed but the bytes of the file that is open for writing.
pub record OnlyWrote {R File Dir : Type 0} (was now : DiskFolder R File Dir) : Type 0 where
  pub tally : disk_counts now ≡ disk_counts was
  pub touched : now.touched ≡ was.touched
  pub opened : created_name now ≡ created_name was
  pub found : now.found ≡ was.found
  pub noted : now.noted ≡ was.noted
