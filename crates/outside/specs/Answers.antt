-- What a call of a folder or of a sink returns and leaves, by what is seen before and after it.
use Rattle.std.specs.Prelude.{Bool, drop, IfErr, IfOk, is_some, IsErrOf, length, List, OnErr, OnOk}
use Rattle.std.specs.Prelude.{Result, take, ℕ, [], ◌++◌, ◌+◌, ◌-◌, ◌<◌, ◌≡◌, ◌≤◌, ◌⊎◌}
use Rattle.outside.specs.BufferOutput.{AppendedPrefix, AppendsWaiting}
use Rattle.outside.specs.Counts.{EndedAt, HappenedTo, HasCause, NothingFailed, OnlyReads}
use Rattle.outside.specs.{Counts.OnlyWrites, Feed.{buffer_size, Fed, IsFedFrom}}
use Rattle.outside.specs.Files.{AreOctets, FailsToCreate, FailsToMake, IfTold, IsFileMissing}
use Rattle.outside.specs.Files.{IsFileThere, sent_and_more, with_appended_bytes, with_empty_file}
use Rattle.outside.specs.{Files.with_new_file, ReadCauses.HasReadCause, Seen.{Heard, OnFile, Seen}}
use Rattle.outside.specs.declared.{exact.ReadFault.ReadFault, folder.Failed.Failed as FailedCall}
use Rattle.outside.specs.declared.folder.FindFault.{FindFault, TheVariants.{Absent, Failed}}

-- A file was looked for: it is there, or missing, or the call failed.
pub record FindAnswer (name : List ℕ) (old new : Seen) (result : Result ℕ FindFault) : Type 0 where
  -- the result is its length
  pub found : IfOk result (λ n. OnFile old name (λ bytes. n ≡ length bytes))
  pub there : OnOk result (IsFileThere old.files name)
  -- what is known of its content are bytes
  pub octets : OnOk result (OnFile old name AreOctets)
  pub missing : IsErrOf result Absent → IsFileMissing old.files name
  -- an absent file and a failure are counted, with the file's name
  pub absent : IsErrOf result Absent → HappenedTo name old.counts.misses new.counts.misses
  pub failed : IsErrOf result Failed → HappenedTo name old.counts.read_faults new.counts.read_faults
  pub files : new.files ≡ old.files
  pub ends : new.counts.ends ≡ old.counts.ends
  pub done : OnOk result (new.counts ≡ old.counts)
  pub counts : OnlyReads old.counts new.counts

-- Bytes of a file from an offset on were read into the beginning of a buffer, or the call failed.
pub record ReadAnswer (name : List ℕ) (at : ℕ) (before after : List ℕ) (old new : Seen)
    (result : Result ℕ FailedCall) : Type 0 where
  -- the result is how many were read
  pub bound : IfOk result (λ k. k ≤ length before)
  pub bytes : IfOk result (λ k. OnFile old name (λ bytes. take k after ≡ take k (drop at bytes)))
  pub rest : IfOk result (λ k. drop k after ≡ drop k before)
  -- none only if there is no room, or at the end of the file or past it
  pub end : IfOk result
      (λ k. OnFile old name (λ bytes. k ≡ 0 → (length before ≡ 0) ⊎ (length bytes ≤ at)))
  pub within : IfOk result (λ k. OnFile old name (λ bytes. k ≤ length bytes - at))
  -- an end that was met and a failure are counted, with the file's name
  pub ended : IfOk result
      (λ k. k ≡ 0 → 0 < length before → EndedAt name at old.counts.ends new.counts.ends)
  pub failed : OnErr result (HappenedTo name old.counts.read_faults new.counts.read_faults)
  pub files : new.files ≡ old.files
  -- nothing else is counted
  pub got : IfOk result (λ k. (0 < k) ⊎ (length before ≡ 0) → new.counts ≡ old.counts)
  pub done : OnOk result (NothingFailed old.counts new.counts)
  pub counts : OnlyReads old.counts new.counts

-- A name was made to hold no bytes, or the call failed.
pub record CreateAnswer (name : List ℕ) (old new : Seen)
    (result : Result (Unit {0}) FailedCall) : Type 0 where
  pub created : OnOk result (new.files ≡ with_empty_file old.files name)
  pub kept : OnErr result (FailsToCreate name old.files new.files)
  pub failed : OnErr result (HappenedTo name old.counts.write_faults new.counts.write_faults)
  pub done : OnOk result (new.counts ≡ old.counts)
  pub counts : OnlyWrites old.counts new.counts

-- It was asked whether anything stands under a name, or the call failed.
pub record ThereAnswer (name : List ℕ) (old new : Seen)
    (result : Result Bool FailedCall) : Type 0 where
  pub there : IfOk result (λ is. IfTold old.files (λ f. is ≡ is_some (f name)))
  pub failed : OnErr result (HappenedTo name old.counts.write_faults new.counts.write_faults)
  pub files : new.files ≡ old.files
  pub done : OnOk result (new.counts ≡ old.counts)
  pub counts : OnlyWrites old.counts new.counts

-- A name that wasn't there was made to hold no bytes, or the call failed.
pub record MakeAnswer (name : List ℕ) (old new : Seen)
    (result : Result (Unit {0}) FailedCall) : Type 0 where
  pub missing : OnOk result (IsFileMissing old.files name)
  pub created : OnOk result (new.files ≡ with_new_file old.files name)
  pub kept : OnErr result (FailsToMake name old.files new.files)
  pub failed : OnErr result (HappenedTo name old.counts.write_faults new.counts.write_faults)
  pub done : OnOk result (new.counts ≡ old.counts)
  pub counts : OnlyWrites old.counts new.counts

-- A prefix of these bytes was appended to a file, or the call failed.
pub record WriteAnswer (name bytes : List ℕ) (old new : Seen)
    (result : Result ℕ FailedCall) : Type 0 where
  -- the result is how many: at least one if there are any
  pub bound : IfOk result (λ k. k ≤ length bytes)
  pub some : IfOk result (λ k. 0 < length bytes → 0 < k)
  pub written : IfOk result (λ k. new.files ≡ with_appended_bytes old.files name (take k bytes))
  pub kept : OnErr result (new.files ≡ old.files)
  pub failed : OnErr result (HappenedTo name old.counts.write_faults new.counts.write_faults)
  pub done : OnOk result (new.counts ≡ old.counts)
  pub counts : OnlyWrites old.counts new.counts

-- A prefix of these bytes was taken by a sink, or the call failed.
pub record SendAnswer (bytes : List ℕ) (old new : Heard)
    (result : Result ℕ FailedCall) : Type 0 where
  -- the result is how many: at least one if there are any
  pub bound : IfOk result (λ k. k ≤ length bytes)
  pub some : IfOk result (λ k. 0 < length bytes → 0 < k)
  pub written : IfOk result (λ k. new.sent ≡ sent_and_more old.sent (take k bytes))
  pub kept : OnErr result (new.sent ≡ old.sent)
  pub cause : HasCause old.faults new.faults result

-- A feed gave `n` bytes of a file from an offset on, or all that are left if there are fewer, or a
-- read failed.
pub record FillAnswer (name : List ℕ) (at n : ℕ) (now : Fed) (old new : Seen)
    (result : Result ℕ FailedCall) : Type 0 where
  pub bound : IfOk result (λ k. k ≤ n)
  pub given : IfOk result (λ k. length now.given ≡ k)
  pub bytes : IfOk result (λ k. OnFile old name (λ bytes. now.given ≡ take n (drop at bytes)))
  pub whole : IfOk result (λ k. k ≡ n → new.counts ≡ old.counts)
  pub ended : IfOk result (λ k. k < n → EndedAt name (at + k) old.counts.ends new.counts.ends)
  pub failed : OnErr result (HappenedTo name old.counts.read_faults new.counts.read_faults)
  pub none : OnErr result (now.given ≡ [])
  pub fed : IsFedFrom now new.files name
  pub files : new.files ≡ old.files
  pub done : OnOk result (NothingFailed old.counts new.counts)
  pub counts : OnlyReads old.counts new.counts

-- A file was read from an offset on until there was no room or a read returned no byte, or a read
-- failed.
pub record ReadFull (name : List ℕ) (at : ℕ) (before after : List ℕ) (old new : Seen)
    (result : Result ℕ FailedCall) : Type 0 where
  pub bound : IfOk result (λ k. k ≤ length before)
  pub bytes : IfOk result (λ k. OnFile old name (λ bytes. take k after ≡ take k (drop at bytes)))
  pub rest : IfOk result (λ k. drop k after ≡ drop k before)
  pub end : IfOk result (λ k. OnFile old name (λ bytes. k < length before → k ≡ length bytes - at))
  pub ended : IfOk result
      (λ k. k < length before → EndedAt name (at + k) old.counts.ends new.counts.ends)
  pub failed : OnErr result (HappenedTo name old.counts.read_faults new.counts.read_faults)
  pub files : new.files ≡ old.files
  pub filled : IfOk result (λ k. k ≡ length before → new.counts ≡ old.counts)
  pub done : OnOk result (NothingFailed old.counts new.counts)
  pub counts : OnlyReads old.counts new.counts

-- More of a file whose first `have` bytes from `at` on were there was read, until there were
-- `enough` or a read returned no byte, or a read failed.
pub record ReadOn (name : List ℕ) (at have enough : ℕ) (before after : List ℕ) (old new : Seen)
    (result : Result ℕ FailedCall) : Type 0 where
  pub bound : IfOk result (λ k. k ≤ length before)
  pub more : IfOk result (λ k. have ≤ k)
  pub bytes : IfOk result (λ k. OnFile old name (λ bytes.
      take have before ≡ take have (drop at bytes) → take k after ≡ take k (drop at bytes)))
  pub rest : IfOk result (λ k. drop k after ≡ drop k before)
  pub end : IfOk result (λ k. OnFile old name (λ bytes. k < enough → length bytes - at ≤ k))
  pub within : IfOk result
      (λ k. OnFile old name (λ bytes. have ≤ length bytes - at → k ≤ length bytes - at))
  pub ended : IfOk result (λ k. k < enough → EndedAt name (at + k) old.counts.ends new.counts.ends)
  pub filled : IfOk result (λ k. enough ≤ k → new.counts ≡ old.counts)
  pub failed : OnErr result (HappenedTo name old.counts.read_faults new.counts.read_faults)
  pub files : new.files ≡ old.files
  pub done : OnOk result (NothingFailed old.counts new.counts)
  pub counts : OnlyReads old.counts new.counts

-- A buffer was filled with bytes of a file from an offset on, or a read failed or met the end.
pub record ReadExact (name : List ℕ) (size at : ℕ) (before after : List ℕ) (old new : Seen)
    (result : Result (Unit {0}) ReadFault) : Type 0 where
  pub bytes : OnOk result (OnFile old name (λ bytes. after ≡ take (length before) (drop at bytes)))
  pub done : OnOk result (new.counts ≡ old.counts)
  pub cause : IfErr result (HasReadCause name size old.files old.counts new.counts)
  pub files : new.files ≡ old.files
  pub counts : OnlyReads old.counts new.counts

-- A feed gave `n` bytes of a file, or a read failed or met the end.
pub record FillExact (name : List ℕ) (size at n : ℕ) (now : Fed) (old new : Seen)
    (result : Result (Unit {0}) ReadFault) : Type 0 where
  pub given : OnOk result (length now.given ≡ n)
  pub bytes : OnOk result (OnFile old name (λ bytes. now.given ≡ take n (drop at bytes)))
  pub done : OnOk result (new.counts ≡ old.counts)
  pub cause : IfErr result (HasReadCause name size old.files old.counts new.counts)
  pub fed : IsFedFrom now new.files name
  pub files : new.files ≡ old.files
  pub counts : OnlyReads old.counts new.counts

-- Bytes were added to what waits for a file, and some of it was appended, or a write failed.
pub record PushAnswer (name before bytes after : List ℕ) (old new : Seen)
    (result : Result (Unit {0}) FailedCall) : Type 0 where
  pub passed : OnOk result (AppendsWaiting name (before ++ bytes) after old.files new.files)
  pub prefix : OnErr result (AppendedPrefix name (before ++ bytes) old.files new.files)
  pub none : OnErr result (after ≡ [])
  pub few : length after ≤ buffer_size
  pub failed : OnErr result (HappenedTo name old.counts.write_faults new.counts.write_faults)
  pub done : OnOk result (new.counts ≡ old.counts)
  pub counts : OnlyWrites old.counts new.counts

-- What waited for a file was appended, or a write failed.
pub record FinishAnswer (name before after : List ℕ) (old new : Seen)
    (result : Result (Unit {0}) FailedCall) : Type 0 where
  pub appended : OnOk result (new.files ≡ with_appended_bytes old.files name before)
  pub prefix : OnErr result (AppendedPrefix name before old.files new.files)
  pub none : after ≡ []
  pub failed : OnErr result (HappenedTo name old.counts.write_faults new.counts.write_faults)
  pub done : OnOk result (new.counts ≡ old.counts)
  pub counts : OnlyWrites old.counts new.counts

-- All of these bytes but fewer than 65,536 at the end were appended to a file, or a write failed.
pub record WholeAnswer (name bytes : List ℕ) (old new : Seen)
    (result : Result ℕ FailedCall) : Type 0 where
  pub within : IfOk result (λ k. k ≤ length bytes)
  pub few : IfOk result (λ k. length bytes - k < buffer_size)
  pub written : IfOk result (λ k. new.files ≡ with_appended_bytes old.files name (take k bytes))
  pub prefix : OnErr result (AppendedPrefix name bytes old.files new.files)
  pub failed : OnErr result (HappenedTo name old.counts.write_faults new.counts.write_faults)
  pub done : OnOk result (new.counts ≡ old.counts)
  pub counts : OnlyWrites old.counts new.counts

-- All of these bytes were appended to a file, or a write failed.
pub record WriteAllAnswer (name bytes : List ℕ) (old new : Seen)
    (result : Result (Unit {0}) FailedCall) : Type 0 where
  pub written : OnOk result (new.files ≡ with_appended_bytes old.files name bytes)
  pub front : OnErr result
      ((k : ℕ) × (k < length bytes)
      × (new.files ≡ with_appended_bytes old.files name (take k bytes)))
  pub failed : OnErr result (HappenedTo name old.counts.write_faults new.counts.write_faults)
  pub done : OnOk result (new.counts ≡ old.counts)
  pub counts : OnlyWrites old.counts new.counts

-- Bytes were added to what waits for a file, and some of it was appended, or a write failed; what
-- waits after a failure isn't said.
pub record PassAnswer (name before bytes after : List ℕ) (old new : Seen)
    (result : Result (Unit {0}) FailedCall) : Type 0 where
  pub passed : OnOk result (AppendsWaiting name (before ++ bytes) after old.files new.files)
  pub prefix : OnErr result (AppendedPrefix name (before ++ bytes) old.files new.files)
  pub failed : OnErr result (HappenedTo name old.counts.write_faults new.counts.write_faults)
  pub done : OnOk result (new.counts ≡ old.counts)
  pub counts : OnlyWrites old.counts new.counts
