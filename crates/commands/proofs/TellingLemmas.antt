-- A command with a text leaves the same files as without.
use Rattle.std.proofs.Common.{ap, Err, inl, inr, List, None, Ok, refl, Result, sym, ℕ, ◌∙◌, ◌≡◌}
use Rattle.commands.proofs.LikeLemmas.{AreLike, done-like, MakesLike, run-like, Variant}
use Rattle.commands.specs.{Command.{Command, Made}, Runs.IsRunOf}
use Rattle.commands.specs.SentText.{IsCommandText, SaysAll, SaysPrefix}
use Rattle.commands.specs.WithText.{telling_command, with_text}
use Rattle.commands.specs.declared.fault.EditFault.{EditFault, TheVariants.Sent as NotSent}
use Rattle.outside.specs.{BufferOutput.SentPrefix, Counts.Rose}
use Rattle.outside.specs.{Files.{Contents, Files, sent_and_more, Told, Untold}, Seen.{Heard, Seen}}

-- what is made with a text is made without it too
pub text-parts : (text : List ℕ) (r : Result Made EditFault) {made : Made}
    → with_text text r ≡ Ok made → (m : Made) × (r ≡ Ok m)
text-parts text (Ok m) e = (m, refl)
text-parts text (Err fault) e = absurd cc

-- what is made with a text is like what is made
like_text : (text : List ℕ) (r : Result Made EditFault) → AreLike r (with_text text r)
like_text text (Ok m) = refl
like_text text (Err fault) = refl

module _ (text : Contents → List ℕ) (command : Command) where
  abbrev told : Command
  told = telling_command text command

  abbrev as_told : Variant
  as_told = record {
    always = None;
    makes = λ files. with_text (text files) (command.makes files);
    refuses = command.refuses;
    keeps = command.keeps;
  }

  makes_text : (files : Files) → MakesLike command as_told files
  makes_text (Untold t) = tt
  makes_text (Told f) = like_text (text f) (command.makes f)

  -- the text of the command is made from files whose contents are known
  pub telling_command-text : {files : Files} {all : List ℕ} → IsCommandText told files all
      → (f : Contents) × (files ≡ Told f) × (all ≡ text f)
  telling_command-text (inl always) = absurd cc
  telling_command-text (inr t) = (t.0, t.2, sym t.4 ∙ at (command.makes t.0) t.3)
    where
      at : (r : Result Made EditFault) → with_text (text t.0) r ≡ Ok t.1 → t.1.text ≡ text t.0
      at (Ok m) e = let same : (record m { text = text t.0 }) ≡ t.1 = cc in
          sym (ap (λ (x : Made). x.text) same)
      at (Err fault) e = absurd cc

  module _ {old new : Seen} where
    -- a run of the command is one with the text too
    pub telling_run : {r : Result (Unit {0}) EditFault} → IsRunOf command old new r
        → IsRunOf told old new r
    telling_run ran = run-like command as_told (λ refusal is. is) (λ other e. absurd cc) (λ is. is)
        (makes_text old.files) ran

    -- if a write of the text failed, all files of the command are whole
    pub unsent_run : IsRunOf command old new (Ok tt) → IsRunOf told old new (Err NotSent)
    unsent_run ran = record {
      done = tt;
      left = done-like command as_told (λ is. is) old new (makes_text old.files) ran.done;
      numbers = λ e. absurd cc;
      names = λ number. (λ e. absurd cc, λ clash. let e = (ran.names number).1 clash in absurd cc);
      streams = tt;
      counts = ran.counts;
    }

-- ---- a text that is sent

module _ {command : Command} {files : Files} (old new : Heard) {text : List ℕ}
    (same : (all : List ℕ) → IsCommandText command files all → text ≡ all) where
  -- with all of its text sent, the command said all
  pub says-all : new.sent ≡ sent_and_more old.sent text → new.faults ≡ old.faults
      → SaysAll command files old new
  says-all sent done = record {
    text = λ all is. sent ∙ ap (sent_and_more old.sent) (same all is);
    faults = done;
  }

  -- with a prefix of its text sent, the command said a prefix
  pub says-prefix : SentPrefix text old.sent new.sent → Rose old.faults new.faults
      → SaysPrefix command files old new
  says-prefix part rose = record {
    text = λ all is. rw (← (same all is)) (part.count, part.within, part.sent);
    rose = rose;
  }
