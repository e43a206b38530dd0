-- What a command sends to standard output.
use Rattle.std.specs.Prelude.{Err, length, List, None, Ok, Option, Result, Some, take, ℕ, ◌≡◌, ◌≤◌}
use Rattle.std.specs.Prelude.{◌⊎◌}
use Rattle.commands.specs.{Command.{Command, Made}, declared.fault.EditFault.EditFault}
use Rattle.commands.specs.declared.fault.EditFault.TheVariants.{Sent as NotSent}
use Rattle.outside.specs.{Counts.Rose, Files.{Contents, Files, sent_and_more, Told}, Seen.Heard}

-- the text that the command makes of these files; if their
-- contents aren't known, only one that it always makes
abbrev pub IsCommandText : Command → Files → List ℕ → Type 0
IsCommandText command files text =
    (command.always ≡ Some text)
    ⊎ ((f : Contents) × (made : Made) × (files ≡ Told f) × (command.makes f ≡ Ok made)
    × (made.text ≡ text))

-- all of the text was sent, and no write failed
pub record SaysAll (command : Command) (files : Files) (old new : Heard) : Type 0 where
  pub text : (text : List ℕ) → IsCommandText command files text
      → new.sent ≡ sent_and_more old.sent text
  pub faults : new.faults ≡ old.faults

-- a prefix of the text was sent, and a write failed
pub record SaysPrefix (command : Command) (files : Files) (old new : Heard) : Type 0 where
  pub text : (text : List ℕ) → IsCommandText command files text
      → (count : ℕ) × (count ≤ length text) × (new.sent ≡ sent_and_more old.sent (take count text))
  pub rose : Rose old.faults new.faults

-- what a command sends, by its result: the whole text if it
-- was done, a prefix if a write failed, otherwise nothing
abbrev pub SaysText : Command → Files → Heard → Heard → Option EditFault → Type 0
SaysText command files old new None = SaysAll command files old new
SaysText command files old new (Some NotSent) = SaysPrefix command files old new
SaysText command files old new (Some _) = new ≡ old

-- the fault of a result, if it has one
abbrev pub answer_fault : {T : Type 0} → Result T EditFault → Option EditFault
answer_fault (Ok x) = None
answer_fault (Err fault) = Some fault
