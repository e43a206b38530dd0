-- What a pass over an input makes of its output, and why it ends early.
use Rattle.std.specs.Prelude.{drop, IfErr, length, List, OnErr, OnOk, Result, take, ℕ, [], ◌++◌}
use Rattle.std.specs.Prelude.{◌-◌, ◌<◌, ◌^◌, ◌≡◌, ◌≢◌, ◌≤◌}
use Rattle.outside.specs.BufferOutput.{AppendedPrefix, AppendsWaiting}
use Rattle.outside.specs.{Counts.{Counts, HappenedTo, OnlyWrites}, Feed.{Fed, IsFedFrom}}
use Rattle.outside.specs.Files.{Files, Holds, IsFileThere, with_appended_bytes}
use Rattle.outside.specs.{ReadCauses.HasReadCause, Seen.Seen, declared.exact.ReadFault.ReadFault}
use Rattle.outside.specs.declared.exact.ReadFault.TheVariants.{Failed, Shrunk as ShrunkRead}
use Rattle.outside.specs.declared.pass.{Pass.Pass, PassFault.PassFault}
use Rattle.outside.specs.declared.pass.PassFault.TheVariants.{Read, Shrunk, Write}

-- the greatest length of an input in bytes
abbrev pub longest_input : ℕ
longest_input = 2 ^ 32

-- Two files of different names are there, the input has this length, and the bytes that the feed
-- holds are bytes of the input.
pub record IsPassReady (pass : Pass) (files : Files) (fed : Fed) : Type 0 where
  pub apart : pass.input.now ≢ pass.output.now
  pub source : IsFileThere files pass.input.now
  pub target : IsFileThere files pass.output.now
  pub length_is : (file : List ℕ) → Holds files pass.input.now file → length file ≡ pass.length
  pub few : pass.length ≤ longest_input
  pub fed_from : IsFedFrom fed files pass.input.now

-- where the content of the input is known, the bytes are what is made of it
abbrev pub AreBytesMade : Files → List ℕ → (List ℕ → List ℕ) → List ℕ → Type 0
AreBytesMade files input made bytes = (file : List ℕ) → Holds files input file → bytes ≡ made file

-- `n` bytes of a file from an offset on, or all that are left if there are fewer
abbrev pub bytes_at : ℕ → ℕ → List ℕ → List ℕ
bytes_at at n file = take n (drop at file)

-- the bytes of a file from one offset to another
abbrev pub bytes_between : List ℕ → ℕ → ℕ → List ℕ
bytes_between file from to = take (to - from) (drop from file)

-- Bytes for the output were added to what waited for it: where the content of the input is known,
-- what is made of it.
pub record WritesMadeBytes (pass : Pass) (made : List ℕ → List ℕ) (before after : List ℕ)
    (old new : Files) : Type 0 where
  pub piece : List ℕ
  pub is : AreBytesMade old pass.input.now made piece
  pub passed : AppendsWaiting pass.output.now (before ++ piece) after old new

-- Only some bytes were appended to the output: where the content of the input is known, a prefix of
-- what waited and of what is made of it, and after a failed write not all of these.
pub record AppendsPart (input output : List ℕ) (made : List ℕ → List ℕ) (before : List ℕ)
    (old new : Files) (fault : PassFault) : Type 0 where
  pub bytes : List ℕ
  pub prefix : (file : List ℕ) → Holds old input file
      → bytes ≡ take (length bytes) (before ++ made file)
  pub short : fault ≡ Write → (file : List ℕ) → Holds old input file
      → length bytes < length (before ++ made file)
  pub files : new ≡ with_appended_bytes old output bytes

-- the same for a pass, from its input to its output
abbrev pub WritesPrefix : Pass → (List ℕ → List ℕ) → List ℕ → Files → Files → PassFault → Type 0
WritesPrefix pass made before old new fault =
    AppendsPart pass.input.now pass.output.now made before old new fault

-- The output has more bytes at its end: where the content of the input is known, what is made of
-- it.
pub record AppendsMadeBytes (input output : List ℕ) (made : List ℕ → List ℕ)
    (old new : Files) : Type 0 where
  pub bytes : List ℕ
  pub is : AreBytesMade old input made bytes
  pub files : new ≡ with_appended_bytes old output bytes

-- only a prefix of what is made of the input was appended, and after a failed write not all of it
abbrev pub AppendsPrefix : List ℕ → List ℕ → (List ℕ → List ℕ) → Files → Files → PassFault → Type 0
AppendsPrefix input output made old new fault = AppendsPart input output made [] old new fault

-- the fault of a pass when its input can't be read
abbrev pub pass_fault_of : ReadFault → PassFault
pass_fault_of Failed = Read
pass_fault_of (ShrunkRead first second) = Shrunk first second

-- the fault is one of reading the input
abbrev pub IsReadPassFault : PassFault → Type 0
IsReadPassFault Write = ⊥
IsReadPassFault _ = Unit {0}

-- from which file to which a pass goes, and the length in bytes that its input was found with
pub record Route : Type 0 where
  pub input : List ℕ
  pub output : List ℕ
  pub size : ℕ

-- the route from one file to another, for an input of `size` bytes
abbrev pub route : List ℕ → List ℕ → ℕ → Route
route input output size = record { input = input; output = output; size = size }

-- the route of a pass
abbrev pub route_of : Pass → Route
route_of pass = route pass.input.now pass.output.now pass.length

-- The cause of a fault: the cause of a fault of reading the input; or a call that writes the output
-- failed, and no fault or end of a read was counted.
abbrev pub HasPassCause : Route → Files → Counts → Counts → PassFault → Type 0
HasPassCause way files before after Read = HasReadCause way.input way.size files before after Failed
HasPassCause way files before after (Shrunk first second) =
    HasReadCause way.input way.size files before after (ShrunkRead first second)
HasPassCause way files before after Write =
    HappenedTo way.output before.write_faults after.write_faults × OnlyWrites before after

-- the cause of a fault that comes before there is an output
abbrev pub HasInputCause : List ℕ → ℕ → Files → Counts → Counts → PassFault → Type 0
HasInputCause name size files before after fault =
    HasPassCause (route name [] size) files before after fault

-- ---- what the calls of a pass return

-- What is made of the input was added to what waits for the output, or a call failed.
pub record PassMakes {T : Type 0} (pass : Pass) (made : List ℕ → List ℕ) (before after : List ℕ)
    (fed : Fed) (old new : Seen) (result : Result T PassFault) : Type 0 where
  pub written : OnOk result (WritesMadeBytes pass made before after old.files new.files)
  pub prefix : IfErr result (WritesPrefix pass made before old.files new.files)
  pub done : OnOk result (new.counts ≡ old.counts)
  pub cause : IfErr result (HasPassCause (route_of pass) old.files old.counts new.counts)
  pub ready : OnOk result (IsPassReady pass new.files fed)

-- These bytes were added to what waits for the output, or a write failed, after which nothing
-- waits.
pub record PassPushes (pass : Pass) (before bytes after : List ℕ) (old new : Seen)
    (result : Result (Unit {0}) PassFault) : Type 0 where
  pub passed : OnOk result
      (AppendsWaiting pass.output.now (before ++ bytes) after old.files new.files)
  pub prefix : OnErr result (AppendedPrefix pass.output.now (before ++ bytes) old.files new.files)
  pub none : OnErr result (after ≡ [])
  pub done : OnOk result (new.counts ≡ old.counts)
  pub cause : IfErr result (HasPassCause (route_of pass) old.files old.counts new.counts)

-- A feed gave `n` bytes of the input, or a read failed.
pub record PassFills (pass : Pass) (at n : ℕ) (fed : Fed) (old new : Seen)
    (result : Result (Unit {0}) PassFault) : Type 0 where
  pub given : OnOk result (length fed.given ≡ n)
  pub bytes : OnOk result (AreBytesMade old.files pass.input.now (bytes_at at n) fed.given)
  pub done : OnOk result (new.counts ≡ old.counts)
  pub cause : IfErr result (HasPassCause (route_of pass) old.files old.counts new.counts)
  pub read : IfErr result IsReadPassFault
  pub files : new.files ≡ old.files
  pub ready : IsPassReady pass new.files fed

-- What waits was appended to the output, or a write failed.
pub record PassFinishes (pass : Pass) (before after : List ℕ) (old new : Seen)
    (result : Result (Unit {0}) PassFault) : Type 0 where
  pub appended : OnOk result (new.files ≡ with_appended_bytes old.files pass.output.now before)
  pub prefix : OnErr result (AppendedPrefix pass.output.now before old.files new.files)
  pub none : after ≡ []
  pub done : OnOk result (new.counts ≡ old.counts)
  pub cause : IfErr result (HasPassCause (route_of pass) old.files old.counts new.counts)
