-- A command that keeps what is there: it is refused where the name of an output is there.
use Rattle.std.specs.Prelude.{Bool, Err, false, IfErr, IfSome, if◌then◌else◌, is_some, length, List}
use Rattle.std.specs.Prelude.{map, nat_lt, None, Ok, OnOk, Option, Result, slice_index_or, Some}
use Rattle.std.specs.Prelude.{true, ℕ, [], ◌+◌, ◌<◌, ◌||◌, ◌∷◌, ◌≡◌, ◌≤◌, ◌⊎◌}
use Rattle.commands.specs.{Command.{Command, Made, Output}, declared.fault.EditFault.EditFault}
use Rattle.commands.specs.declared.fault.{EditFault.TheVariants.{Refused, Write}, Refusal.Refusal}
use Rattle.commands.specs.declared.fault.Refusal.TheVariants.{Exists}
use Rattle.outside.specs.{Counts.{HappenedTo, OnlyWrites}, Files.{Contents, IfTold}, Seen.Seen}

-- the number of the first of these names that is there, if the first name has this number
abbrev pub first_there : Contents → ℕ → List (List ℕ) → Option ℕ
first_there files number [] = None
first_there files number (name ∷ names) =
    if is_some (files name) then Some number else first_there files (number + 1) names

-- the names of the files that are made, in the order of writing
abbrev pub made_names : Made → List (List ℕ)
made_names made = map (λ (o : Output). o.name) made.outputs

-- what is made, or the refusal since the name of this output is there
abbrev pub exists_or : Option ℕ → Made → Result Made EditFault
exists_or None made = Ok made
exists_or (Some number) made = Err (Refused (Exists number))

-- what is made of these files, unless the name of an output is there
abbrev pub unless_there : Contents → Result Made EditFault → Result Made EditFault
unless_there files (Ok made) = exists_or (first_there files 0 (made_names made)) made
unless_there files (Err fault) = Err fault

-- the refusal is that of an output that is there, which is one of so many
abbrev pub is_exists : ℕ → Refusal → Bool
is_exists count (Exists number) = nat_lt number count
is_exists count _ = false

-- the same command, which comes to the refusal of an output that is there after all other refusals
abbrev pub kept : Command → Command
kept command = record command {
  keeps = true;
  makes = λ files. unless_there files (command.makes files);
  refuses = λ refusal. is_exists (length command.outputs) refusal || command.refuses refusal;
}

-- the command that a folder is asked for, by whether it keeps what is there
abbrev pub asked_of : Bool → Command → Command
asked_of false command = command
asked_of true command = kept command

-- ---- the question

-- one of these outputs is there, and none before it; nothing changed
pub record FindsOutput (names : List (List ℕ)) (old new : Seen) (fault : EditFault) : Type 0 where
  pub number : ℕ
  pub is : fault ≡ Refused (Exists number)
  pub within : number < length names
  pub first : IfTold old.files (λ f. first_there f 0 names ≡ Some number)
  pub stays : new ≡ old

-- the call that asks for one of these outputs failed, and none before it is there
pub record FailsToAsk (names : List (List ℕ)) (old new : Seen) (fault : EditFault) : Type 0 where
  pub number : ℕ
  pub is : fault ≡ Write number
  pub within : number < length names
  pub before : IfTold old.files (λ f. IfSome (first_there f 0 names) (λ at. number ≤ at))
  pub rose : HappenedTo
      (slice_index_or names number []) old.counts.write_faults new.counts.write_faults
  pub files : new.files ≡ old.files

-- In a folder that keeps what is there, it was asked whether these outputs are there: none is, and
-- nothing changed, or it stops at one. In any other folder nothing was asked.
pub record AsksAll (keeps : Bool) (names : List (List ℕ)) (old new : Seen)
    (result : Result (Unit {0}) EditFault) : Type 0 where
  pub free : keeps ≡ true → OnOk result (IfTold old.files (λ f. first_there f 0 names ≡ None))
  pub stays : OnOk result (new ≡ old)
  pub asked : IfErr result (λ fault. keeps ≡ true)
  pub stops : IfErr result
      (λ fault. FindsOutput names old new fault ⊎ FailsToAsk names old new fault)
  pub counts : OnlyWrites old.counts new.counts
