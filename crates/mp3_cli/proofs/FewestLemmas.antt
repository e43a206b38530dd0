-- What was packed into the fewest bytes has the fewest.
use Rattle.std.{proofs.Common.{List, Ok, Result, subst, sym, ℕ, ◌≡◌}, specs.Prelude.IfOk}
use Rattle.command_table.specs.Table.{command_of}
use Rattle.commands.specs.AfterCall.{IsCommandDone}
use Rattle.job_words.specs.{Request.{Pack, Request}, Words.job_of}
use Rattle.mp3_cli.specs.Run.{HasFewest, HasFewestBytes}
use Rattle.outside.specs.Seen.{Seen}
use Rattle.pack_edits.proofs.PackedLengthLemmas.{done-fewest}

has-fewest : (asked : Request) {old new : Seen} → IsCommandDone (command_of asked) old new
    → HasFewest asked old.files new.files
has-fewest (Pack mode input output) {old} {new} done = done-fewest mode done
has-fewest _ done = tt

-- a packing into the fewest bytes that was done wrote the fewest
pub fewest-bytes : (words : List (List ℕ)) {asked : Request} → job_of words ≡ Ok asked
    → {old new : Seen} → IsCommandDone (command_of asked) old new
    → HasFewestBytes words old.files new.files
fewest-bytes words {asked} is {old} {new} done =
    subst (λ (r : Result Request ℕ). IfOk r (λ a. HasFewest a old.files new.files)) (sym is)
    (has-fewest asked done)
