-- How often a folder or a sink has failed, for which file it last did, and what a call does to
-- these counts.
use Rattle.std.specs.Borrow.{GName}
use Rattle.std.specs.Prelude.{List, min, OnErr, OnOk, Result, take, ℕ, [], ◌+◌, ◌-◌, ◌^◌, ◌≡◌, ◌≤◌}

-- a count has grown, or is at the greatest value of a u64
abbrev pub Rose : ℕ → ℕ → Type 0
Rose before now = min (before + 1) (2 ^ 64 - 1) ≤ now

-- what is noted of a name: its first 4,096 bytes, which are all of a name that a system allows
abbrev pub noted_name : List ℕ → List ℕ
noted_name name = take 4096 name

-- how often something happened, and the noted name of the file that it last happened to
pub record Happened : Type 0 where
  pub times : ℕ
  pub name : List ℕ

-- how often a read returned no byte though there was room for one, of which file the last one was,
-- and at which offset
pub record Ended : Type 0 where
  pub times : ℕ
  pub name : List ℕ
  pub file_offset : ℕ

-- reads at an end, the last one at this offset
abbrev pub ended_reads : Happened → ℕ → Ended
ended_reads last file_offset =
    record { times = last.times; name = last.name; file_offset = file_offset }

-- what a folder counts: missing files, reads at an end, and faults of reading and of writing, each
-- with the name of the file that it last happened to, and an end with its offset
pub record Counts : Type 0 where
  -- missing files that `find` met
  pub misses : Happened
  -- reads that returned no byte though there was room for one
  pub ends : Ended
  -- failures of `find` and `read`
  pub read_faults : Happened
  -- failures of `there`, `create`, `create_new` and `write`
  pub write_faults : Happened
  -- the references through which the folder is reached, if it is lent; no call changes them
  pub lent : List GName

-- it happened again, most recently to this file
abbrev pub HappenedTo : List ℕ → Happened → Happened → Type 0
HappenedTo name before now = Rose before.times now.times × (now.name ≡ noted_name name)

-- a read of this file at this offset returned no byte, and was the last that did so
abbrev pub EndedAt : List ℕ → ℕ → Ended → Ended → Type 0
EndedAt name file_offset before now =
    Rose before.times now.times × (now.name ≡ noted_name name) × (now.file_offset ≡ file_offset)

-- no count has fallen
pub record NoneFell (old new : Counts) : Type 0 where
  pub misses : old.misses.times ≤ new.misses.times
  pub ends : old.ends.times ≤ new.ends.times
  pub read_faults : old.read_faults.times ≤ new.read_faults.times
  pub write_faults : old.write_faults.times ≤ new.write_faults.times
  pub lent : new.lent ≡ old.lent

-- what a call that only reads does to the counts
pub record OnlyReads (old new : Counts) : Type 0 where
  pub misses : old.misses.times ≤ new.misses.times
  pub ends : old.ends.times ≤ new.ends.times
  pub read_faults : old.read_faults.times ≤ new.read_faults.times
  pub write_faults : new.write_faults ≡ old.write_faults
  pub lent : new.lent ≡ old.lent

-- what a call that only writes does to the counts
pub record OnlyWrites (old new : Counts) : Type 0 where
  pub misses : old.misses.times ≤ new.misses.times
  pub ends : new.ends ≡ old.ends
  pub read_faults : new.read_faults ≡ old.read_faults
  pub write_faults : old.write_faults.times ≤ new.write_faults.times
  pub lent : new.lent ≡ old.lent

-- no file was missing, and no call failed
pub record NothingFailed (old new : Counts) : Type 0 where
  pub misses : new.misses ≡ old.misses
  pub read_faults : new.read_faults ≡ old.read_faults
  pub write_faults : new.write_faults ≡ old.write_faults
  pub lent : new.lent ≡ old.lent

-- a sink's count never falls: it is unchanged if the call succeeds, and the call fails only if it
-- rose
pub record HasCause {T E : Type 0} (before now : ℕ) (result : Result T E) : Type 0 where
  pub later : before ≤ now
  pub done : OnOk result (now ≡ before)
  pub failed : OnErr result (Rose before now)

-- a count one higher, or the greatest value of a u64 once it has that
abbrev pub one_more : ℕ → ℕ
one_more n = min (n + 1) (2 ^ 64 - 1)

-- it happened once more, to this file
abbrev pub one_occurrence_more : List ℕ → Happened → Happened
one_occurrence_more name before = record { times = one_more before.times; name = noted_name name }

-- it never happened
abbrev pub no_occurrence : Happened
no_occurrence = record { times = 0; name = [] }

-- the counts before anything happened
abbrev pub no_counts : Counts
no_counts =
    record {
      misses = no_occurrence;
      ends = ended_reads no_occurrence 0;
      read_faults = no_occurrence;
      write_faults = no_occurrence;
      lent = [];
    }

-- one more missing file: this one
abbrev pub with_miss : List ℕ → Counts → Counts
with_miss name counts = record counts { misses = one_occurrence_more name counts.misses }

-- one more read that returned no byte, of this file at this offset
abbrev pub with_end : List ℕ → ℕ → Counts → Counts
with_end name file_offset counts = record counts {
  ends = ended_reads (record { times = one_more counts.ends.times; name = noted_name name })
      file_offset;
}

-- one more fault of reading, of this file
abbrev pub with_read_fault : List ℕ → Counts → Counts
with_read_fault name counts =
    record counts { read_faults = one_occurrence_more name counts.read_faults }

-- one more fault of writing, of this file
abbrev pub with_write_fault : List ℕ → Counts → Counts
with_write_fault name counts =
    record counts { write_faults = one_occurrence_more name counts.write_faults }
