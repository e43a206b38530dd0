-- A command that makes the same files as another, or gives the same fault, leaves the same files.
use Rattle.std.proofs.Common.{ap, Bool, Err, IfErr, inl, inr, List, Ok, Option, refl, Result, Some}
use Rattle.std.proofs.Common.{sym, true, ℕ, [], ◌∙◌, ◌≡◌, ◌≢◌, ◌⊎◌}
use Rattle.commands.proofs.{MakeLemmas.made-same, WhyLemmas.each_why}
use Rattle.commands.specs.AfterCall.{HasNumbers, IsCommandDone, IsCommandFault, IsOutputUnasked}
use Rattle.commands.specs.AfterCall.{IsOutputUnfinished, IsOutputUnwritten, IsThereFrom}
use Rattle.commands.specs.AfterCall.{IsWrittenTo, TakesMemory, why_of}
use Rattle.commands.specs.Command.{Command, HasAnswer, HoldsStreams, Made, written_files}
use Rattle.commands.specs.{Runs.IsRunOf, declared.fault.EditFault.EditFault}
use Rattle.commands.specs.declared.fault.EditFault.TheVariants.{EqualNames, Input, Memory, Refused}
use Rattle.commands.specs.declared.fault.{EditFault.TheVariants.{Sent, Write}, Refusal.Refusal}
use Rattle.outside.specs.{Files.{Contents, Files, IfTold, Told, Untold}, Seen.Seen}

-- ---- two results

-- the same files are made, with any text, or there is the same fault
abbrev pub AreLike : Result Made EditFault → Result Made EditFault → Type 0
AreLike (Ok m) (Ok n) = n.outputs ≡ m.outputs
AreLike (Err fault) (Err other) = other ≡ fault
AreLike _ _ = ⊥

err-like : (r s : Result Made EditFault) {fault : EditFault} → AreLike r s → r ≡ Err fault
    → s ≡ Err fault
err-like (Err e) (Err f) like is = ap Err like ∙ is
err-like (Ok m) s like is = absurd cc
err-like (Err e) (Ok n) like is = absurd like

ok-like : (r s : Result Made EditFault) {m : Made} → AreLike r s → r ≡ Ok m
    → (n : Made) × (s ≡ Ok n) × (n.outputs ≡ m.outputs)
ok-like (Ok k) (Ok n) {m} like is = (n, refl, like ∙ ap (λ (x : Made). x.outputs) (made-same is))
ok-like (Err e) s like is = absurd cc
ok-like (Ok k) (Err f) like is = absurd like

ok-unlike : (r s : Result Made EditFault) {n : Made} → AreLike r s → s ≡ Ok n
    → (m : Made) × (r ≡ Ok m) × (n.outputs ≡ m.outputs)
ok-unlike (Ok m) (Ok k) {n} like is =
    (m, refl, sym (ap (λ (x : Made). x.outputs) (made-same is)) ∙ like)
ok-unlike r (Err f) like is = absurd cc
ok-unlike (Err e) (Ok k) like is = absurd like

all-like : (r s : Result Made EditFault) (P : EditFault → Type 0) → AreLike r s → IfErr r P
    → IfErr s P
all-like (Ok m) (Ok n) P like is = tt
all-like (Err e) (Err f) P like is = rw like is
all-like (Ok m) (Err f) P like is = absurd like
all-like (Err e) (Ok n) P like is = absurd like

takes-like : (r s : Result Made EditFault) → AreLike r s → TakesMemory r → TakesMemory s
takes-like (Ok m) (Ok n) like takes = tt
takes-like (Err e) (Err f) like takes = rw like takes
takes-like (Ok m) (Err f) like takes = absurd like
takes-like (Err e) (Ok n) like takes = absurd like

-- ---- two commands

-- what another command over the same names makes, and what is said of it
pub record Variant : Type 0 where
  pub always : Option (List ℕ)
  pub makes : Contents → Result Made EditFault
  pub refuses : Refusal → Bool
  pub keeps : Bool

abbrev pub variant_of : Command → Variant → Command
variant_of command v = record command {
  always = v.always;
  makes = v.makes;
  refuses = v.refuses;
  keeps = v.keeps;
}

-- the other command makes of these files what this one makes, with any text
abbrev pub MakesLike : Command → Variant → Files → Type 0
MakesLike command v files = IfTold files (λ f. AreLike (command.makes f) (v.makes f))

module _ (c : Command) (v : Variant) where
  abbrev d : Command
  d = variant_of c v

  gives-like : (files : Files) (fault : EditFault) → MakesLike c v files
      → HasAnswer c files (Err fault) → HasAnswer d files (Err fault)
  gives-like (Untold t) fault like is = tt
  gives-like (Told f) fault like is = err-like (c.makes f) (v.makes f) like is

  takes-memory-like : (files : Files) → MakesLike c v files
      → IfTold files (λ f. TakesMemory (c.makes f)) → IfTold files (λ f. TakesMemory (v.makes f))
  takes-memory-like (Untold t) like is = tt
  takes-memory-like (Told f) like is = takes-like (c.makes f) (v.makes f) like is

  all-made-like : (files : Files) (P : EditFault → Type 0) → MakesLike c v files
      → IfTold files (λ f. IfErr (c.makes f) P) → IfTold files (λ f. IfErr (v.makes f) P)
  all-made-like (Untold t) P like is = tt
  all-made-like (Told f) P like is = all-like (c.makes f) (v.makes f) P like is

  written-like : {k : ℕ} (old : Files) {new : Files} → MakesLike c v old → IsWrittenTo c k old new
      → IsWrittenTo d k old new
  written-like (Untold t) like h = record { made = tt; touches = h.touches }
  written-like (Told f) like h =
      let m = h.made in
      let n = ok-like (c.makes f) (v.makes f) like m.1 in record {
        made = (n.0, n.1, rw n.2 m.2, m.3, rw n.2 m.4);
        touches = h.touches;
      }

  unfinished-like : {k : ℕ} (old : Files) {new : Files} → MakesLike c v old
      → IsOutputUnfinished c k old new → IsOutputUnfinished d k old new
  unfinished-like (Untold t) like h = record { made = tt; touches = h.touches }
  unfinished-like (Told f) like h =
      let m = h.made in
      let n = ok-like (c.makes f) (v.makes f) like m.1 in record {
        made = (n.0, n.1, rw n.2 m.2, m.3, rw n.2 m.4, rw n.2 m.5);
        touches = h.touches;
      }

  -- a command that keeps what is there is like one that does, too
  module _ (keep : c.keeps ≡ true → v.keeps ≡ true) where
    unwritten-like : {k : ℕ} {old new : Seen} → MakesLike c v old.files
        → IsOutputUnwritten c k old new → IsOutputUnwritten d k old new
    unwritten-like {k} {old} {new} like h =
        record { rose = h.rose; files = at h.files }
      where
        at : IsOutputUnfinished c k old.files new.files ⊎ IsOutputUnasked c k old.files new.files
            → IsOutputUnfinished d k old.files new.files
            ⊎ IsOutputUnasked d k old.files new.files
        at (inl part) = inl (unfinished-like old.files like part)
        at (inr none) = inr (record {
          keeps = keep none.keeps;
          before = all-made-like old.files (IsThereFrom k) like none.before;
          stays = none.stays;
        })

    module _ (old new : Seen) (like : MakesLike c v old.files) where
      -- a command that is done is done as the other, too
      pub done-like : IsCommandDone c old new → IsCommandDone d old new
      done-like h =
          record { made = at old.files like h.made; touches = h.touches; counts = h.counts }
        where
          at : (files : Files) → MakesLike c v files → IfTold files (λ f. (made : Made)
              × (c.makes f ≡ Ok made) × (new.files ≡ Told (written_files made.outputs f)))
              → IfTold files (λ f. (made : Made) × (v.makes f ≡ Ok made)
              × (new.files ≡ Told (written_files made.outputs f)))
          at (Untold t) like made = tt
          at (Told f) like made =
              let n = ok-like (c.makes f) (v.makes f) like made.1 in
              (n.0, n.1, rw n.2 made.2)

      unread-like : (new.files ≡ old.files) ⊎ ((k : ℕ) × IsWrittenTo c k old.files new.files)
          → (new.files ≡ old.files) ⊎ ((k : ℕ) × IsWrittenTo d k old.files new.files)
      unread-like (inl same) = inl same
      unread-like (inr wrote) = inr (wrote.0, written-like old.files like wrote.1)

      -- what a command leaves, the other leaves, too
      pub left-like : (fault : EditFault) → IsCommandFault c old new fault
          → IsCommandFault d old new fault
      left-like fault h = each_why (why_of fault) h (record {
        rejected =
            λ l. record { defined = gives-like old.files fault like l.defined; stays = l.stays };
        missing = λ l. record {
          defined = gives-like old.files fault like l.defined;
          rose = l.rose;
          files = l.files;
        };
        unread = λ l. record {
          names = l.names;
          before = all-made-like old.files _ like l.before;
          rose = l.rose;
          files = unread-like l.files;
        };
        shorter = λ l. record { ended = l.ended; touches = l.touches };
        unwritten = λ k l. unwritten-like like l;
        unsent = done-like;
        no_memory = λ l. record {
          names = l.names;
          takes = takes-memory-like old.files like l.takes;
          stays = l.stays;
        };
      })

  -- the streams that a command holds, the other holds, too
  pub streams-like : (files : Files) → MakesLike c v files → HoldsStreams c files
      → HoldsStreams d files
  streams-like (Untold t) like holds = tt
  streams-like (Told f) like holds = λ made is.
      let m = ok-unlike (c.makes f) (v.makes f) like is in
      let held = holds m.0 m.1 in
      record { sources = held.sources; streams = rw m.2 held.streams }

  -- it gives the refusals that this one can give
  module _ (refuse : (refusal : Refusal) → c.refuses refusal ≡ true → v.refuses refusal ≡ true)
      (send : c.always ≢ Some [] → v.always ≢ Some []) where
    -- the numbers of a fault are right for the other, too
    pub numbers-like : (fault : EditFault) → HasNumbers c fault → HasNumbers d fault
    numbers-like (EqualNames number) h = h
    numbers-like (Input number fault) h = h
    numbers-like (Refused refusal) h = refuse refusal h
    numbers-like (Write number) h = h
    numbers-like Sent h = send h
    numbers-like Memory h = tt

    -- a run of this command is one of the other
    pub run-like : (c.keeps ≡ true → v.keeps ≡ true) → {old new : Seen}
        {r : Result (Unit {0}) EditFault} → MakesLike c v old.files → IsRunOf c old new r
        → IsRunOf d old new r
    run-like keep {old} {new} {r = Ok x} like ran = record {
      done = done-like keep old new like ran.done;
      left = tt;
      numbers = tt;
      names = ran.names;
      streams = streams-like old.files like ran.streams;
      counts = ran.counts;
    }
    run-like keep {old} {new} {r = Err fault} like ran = record {
      done = tt;
      left = left-like keep old new like fault ran.left;
      numbers = numbers-like fault ran.numbers;
      names = ran.names;
      streams = tt;
      counts = ran.counts;
    }
