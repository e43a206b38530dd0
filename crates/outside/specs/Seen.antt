-- What can be seen of the outside at a moment.
use Rattle.std.specs.{Borrow.GName, Prelude.{List, OnOk, Result, ℕ, ◌∷◌, ◌≡◌}}
use Rattle.outside.specs.{Counts.{Counts, OnlyReads}, Files.{Files, Holds, keeping_files, Sent}}

-- what is seen of a folder: what is known of its files, and the counts
pub record Seen : Type 0 where
  pub files : Files
  pub counts : Counts

-- a folder with these files and counts
abbrev pub seen_folder : Files → Counts → Seen
seen_folder files counts = record { files = files; counts = counts }

-- the same folder, seen as one that keeps what is there and is reached through a reference with
-- this name
abbrev pub kept_seen : GName → Seen → Seen
kept_seen name now = record {
  files = keeping_files now.files;
  counts = record now.counts { lent = name ∷ now.counts.lent };
}

-- what is seen of a sink: the bytes that it got, if they are known, and how often a write failed
pub record Heard : Type 0 where
  pub sent : Sent
  pub faults : ℕ

-- a sink with these bytes and this many faults
abbrev pub heard_sink : Sent → ℕ → Heard
heard_sink sent faults = record { sent = sent; faults = faults }

-- Files were only read: they are unchanged, a call that succeeds leaves all counts, and only counts
-- of reading move.
pub record OnlyRead {T E : Type 0} (result : Result T E) (old new : Seen) : Type 0 where
  pub files : new.files ≡ old.files
  pub done : OnOk result (new.counts ≡ old.counts)
  pub counts : OnlyReads old.counts new.counts

-- this holds for the file's bytes, where they are known
abbrev pub OnFile : Seen → List ℕ → (List ℕ → Type 0) → Type 0
OnFile now name P = (bytes : List ℕ) → Holds now.files name bytes → P bytes
