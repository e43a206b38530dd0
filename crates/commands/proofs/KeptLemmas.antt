-- A command that keeps what is there, before its
-- outputs are asked for, where one is there, and after.
use Rattle.std.proofs.Common.{ap, arith, Bool, cond, Err, false, IfErr, IfOk, IfSome, inl, inr}
use Rattle.std.proofs.Common.{is_some, length, List, map, None, Ok, Option, refl, Result}
use Rattle.std.proofs.Common.{slice_index_or, Some, subst, sym, take, true, ℕ, [], ◌+◌, ◌<◌, ◌||◌}
use Rattle.std.proofs.{Common.{◌∙◌, ◌∷◌, ◌≡◌, ◌≤◌, ◌⊎◌}, lemmas.Bool.{lt-ltb, or_right}}
use Rattle.std.{proofs.lemmas.List.{get_or-take, length-take}, specs.Result.IsErrAnd}
use Rattle.commands.proofs.LikeLemmas.{AreLike, MakesLike, numbers-like, run-like, Variant}
use Rattle.commands.proofs.MakeLemmas.{gives_made, made-same, ok_made, refused_run, whole_made}
use Rattle.commands.proofs.WhyLemmas.{always, each_why_of}
use Rattle.commands.specs.AfterCall.{by_why, ByWhy, HasNumbers, IsCommandDone, IsCommandFault}
use Rattle.commands.specs.AfterCall.{IsNotBefore, IsThereFrom, Missing, NoMemory, Rejected, Shorter}
use Rattle.commands.specs.AfterCall.{TakesMemory, Unread, why_of}
use Rattle.commands.specs.Command.{clash_of, Command, HasAnswer, HoldsStreams, Made, MakesStreams}
use Rattle.commands.specs.Command.{Output, written_files}
use Rattle.commands.specs.FaultKinds.{by_kind, InputKind, IsAbsent, IsRefused, IsShorter, IsTooMuch}
use Rattle.commands.specs.FaultKinds.{IsUnread, kind_of}
use Rattle.commands.specs.Kept.{asked_of, exists_or, FailsToAsk, FindsOutput, first_there}
use Rattle.commands.specs.{Kept.{is_exists, kept, made_names, unless_there}, Runs.IsRunOf}
use Rattle.commands.specs.SentText.{IsCommandText, SaysText}
use Rattle.commands.specs.SingleOutput.{clash_in, IsEarlyFault, IsMaking, one_command, Task}
use Rattle.commands.specs.WithText.{telling_command, with_text}
use Rattle.commands.specs.declared.fault.EditFault.{EditFault}
use Rattle.commands.specs.declared.fault.EditFault.TheVariants.{EqualNames, Input, Memory, Refused}
use Rattle.commands.specs.declared.fault.{EditFault.TheVariants.{Sent, Write}, Refusal.Refusal}
use Rattle.commands.specs.declared.fault.Refusal.TheVariants.{Exists}
use Rattle.outside.specs.{Counts.NoneFell, Files.{Contents, Files, IfTold, Told, Untold}}
use Rattle.outside.specs.Seen.{Heard, Seen}

-- ---- what is made

-- what is refused stays refused
unless-err : (f : Contents) {r : Result Made EditFault} {fault : EditFault} → r ≡ Err fault
    → unless_there f r ≡ Err fault
unless-err f is = ap (unless_there f) is

free-exists : (o : Option ℕ) (made : Made) → o ≡ None → AreLike (Ok made) (exists_or o made)
free-exists None made free = refl
free-exists (Some number) made free = absurd cc

free-alike : (f : Contents) (r : Result Made EditFault)
    → IfOk r (λ made. first_there f 0 (made_names made) ≡ None) → AreLike r (unless_there f r)
free-alike f (Ok made) free = free-exists (first_there f 0 (made_names made)) made free
free-alike f (Err fault) free = refl

exists-ok : (o : Option ℕ) {m made : Made} → exists_or o m ≡ Ok made → ok_made m ≡ ok_made made
exists-ok None is = is
exists-ok (Some number) is = absurd cc

-- what is made by a command that keeps what is there is made without that, too
pub unless-ok : (f : Contents) (r : Result Made EditFault) {made : Made}
    → unless_there f r ≡ Ok made → r ≡ Ok made
unless-ok f (Ok m) {made} is = exists-ok (first_there f 0 (made_names m)) is
unless-ok f (Err fault) is = is

-- the refusal of an output comes after every fault of an input
exists-after : (fault : EditFault) (number : ℕ) → IsNotBefore fault (Refused (Exists number))
exists-after (Input at fault) number = tt
exists-after (EqualNames at) number = tt
exists-after (Refused refusal) number = tt
exists-after (Write at) number = tt
exists-after Sent number = tt
exists-after Memory number = tt

unless-all : (P : EditFault → Type 0) → ((number : ℕ) → P (Refused (Exists number)))
    → (f : Contents) (r : Result Made EditFault) → IfErr r P → IfErr (unless_there f r) P
unless-all P exists f (Err fault) is = is
unless-all P exists f (Ok made) is = at (first_there f 0 (made_names made))
  where
    at : (o : Option ℕ) → IfErr (exists_or o made) P
    at None = tt
    at (Some number) = exists number

unless-takes : (f : Contents) (r : Result Made EditFault) → TakesMemory r
    → TakesMemory (unless_there f r)
unless-takes f (Err fault) takes = takes
unless-takes f (Ok made) takes = at (first_there f 0 (made_names made))
  where
    at : (o : Option ℕ) → TakesMemory (exists_or o made)
    at None = tt
    at (Some number) = refl

-- ---- the names that are asked for

module _ (f : Contents) where
  from-next : (number : ℕ) (o : Option ℕ) → IfSome o (λ at. number + 1 ≤ at)
      → IfSome o (λ at. number ≤ at)
  from-next number None from = tt
  from-next number (Some at) from = omega (arith, from)

  from-here : (number : ℕ) (here : Bool) (later : Option ℕ) → IfSome later (λ at. number + 1 ≤ at)
      → IfSome (cond here (Some number) later) (λ at. number ≤ at)
  from-here number true later from = omega arith
  from-here number false later from = from-next number later from

  -- the first name that is there isn't before the first name
  pub first-from : (number : ℕ) (names : List (List ℕ))
      → IfSome (first_there f number names) (λ at. number ≤ at)
  first-from number [] = tt
  first-from number (name ∷ names) = from-here number (is_some (f name))
      (first_there f (number + 1) names) (first-from (number + 1) names)

-- ---- before the outputs are asked for

-- the fault doesn't come once the outputs are asked for
abbrev pub IsBeforeOutputs : EditFault → Type 0
IsBeforeOutputs (Write number) = ⊥
IsBeforeOutputs Sent = ⊥
IsBeforeOutputs _ = Unit {0}

abbrev before_outputs : ByWhy (Type 0)
before_outputs = record (always (Unit {0})) { unwritten = λ k. ⊥; unsent = ⊥ }

before-why : (fault : EditFault) → IsBeforeOutputs fault → by_why before_outputs (why_of fault)
before-why (Input number fault) is = at (kind_of fault)
  where
    at : (kind : InputKind) → by_why before_outputs (by_kind (record {
      absent = Missing;
      unread = Unread;
      shorter = Shorter;
      too_much = NoMemory;
      refused = Rejected;
    }) kind)
    at IsAbsent = tt
    at IsUnread = tt
    at IsShorter = tt
    at IsTooMuch = tt
    at IsRefused = tt
before-why (EqualNames number) is = tt
before-why (Refused refusal) is = tt
before-why Memory is = tt
before-why (Write number) is = absurd is
before-why Sent is = absurd is

-- a fault that is met before an output is created comes before the outputs are asked for
pub early_before : (task : Task) (old new : Seen) (fault : EditFault)
    → IsEarlyFault task old new fault → IsBeforeOutputs fault
early_before task old new (Write number) h = absurd h
early_before task old new Sent h = absurd h
early_before task old new (Input number fault) h = tt
early_before task old new (Refused refusal) h = tt
early_before task old new Memory h = tt
early_before task old new (EqualNames number) h = tt

module _ (c : Command) where
  abbrev pub as_kept : Variant
  as_kept = record {
    always = c.always;
    makes = λ files. unless_there files (c.makes files);
    refuses = λ refusal. is_exists (length c.outputs) refusal || c.refuses refusal;
    keeps = true;
  }

  refuse : (refusal : Refusal) → c.refuses refusal ≡ true → (kept c).refuses refusal ≡ true
  refuse refusal is = or_right (is_exists (length c.outputs) refusal) (c.refuses refusal) is

  -- the numbers of a fault are right where what is there is kept, too
  pub kept_numbers : (fault : EditFault) → HasNumbers c fault → HasNumbers (kept c) fault
  kept_numbers fault numbers = numbers-like c as_kept refuse (λ other. other) fault numbers

  kept-gives : (files : Files) (fault : EditFault) → HasAnswer c files (Err fault)
      → HasAnswer (kept c) files (Err fault)
  kept-gives (Untold t) fault is = tt
  kept-gives (Told f) fault is = unless-err f is

  kept-before : (files : Files) (fault : EditFault)
      → IfTold files (λ f. IfErr (c.makes f) (IsNotBefore fault))
      → IfTold files (λ f. IfErr ((kept c).makes f) (IsNotBefore fault))
  kept-before (Untold t) fault is = tt
  kept-before (Told f) fault is =
      unless-all (IsNotBefore fault) (exists-after fault) f (c.makes f) is

  kept-takes : (files : Files) → IfTold files (λ f. TakesMemory (c.makes f))
      → IfTold files (λ f. TakesMemory ((kept c).makes f))
  kept-takes (Untold t) is = tt
  kept-takes (Told f) is = unless-takes f (c.makes f) is

  module _ (old new : Seen) where
    early-left : (fault : EditFault) → IsBeforeOutputs fault → new.files ≡ old.files
        → IsCommandFault c old new fault → IsCommandFault (kept c) old new fault
    early-left fault before files h =
        each_why_of (why_of fault) h (before-why fault before) (record {
          rejected =
              λ l u. record { defined = kept-gives old.files fault l.defined; stays = l.stays };
          missing = λ l u. record {
            defined = kept-gives old.files fault l.defined;
            rose = l.rose;
            files = l.files;
          };
          unread = λ l u. record {
            names = l.names;
            before = kept-before old.files fault l.before;
            rose = l.rose;
            files = inl files;
          };
          shorter = λ l u. record { ended = l.ended; touches = l.touches };
          unwritten = λ k l u. absurd u;
          unsent = λ l u. absurd u;
          no_memory = λ l u. record {
            names = l.names;
            takes = kept-takes old.files l.takes;
            stays = l.stays;
          };
        })

  -- a call that ended before the outputs were asked for
  pub asked_early : (keeps : Bool) {old new : Seen} {r : Result (Unit {0}) EditFault}
      (fault : EditFault) → IsErrAnd r (λ y. y ≡ fault) → IsBeforeOutputs fault
      → new.files ≡ old.files → IsRunOf c old new r → IsRunOf (asked_of keeps c) old new r
  asked_early false fault is before files ran = ran
  asked_early true {old} {new} {r = Err e} fault is before files ran = record {
    done = tt;
    left = early-left old new e (rw is before) files ran.left;
    numbers = kept_numbers e ran.numbers;
    names = ran.names;
    streams = tt;
    counts = ran.counts;
  }
  asked_early true {r = Ok x} fault is before files ran = absurd is

-- ---- once they are asked for

-- The command is about to write outputs with these names, which are its first, and no names clash.
pub record IsToWrite (c : Command) (names : List (List ℕ)) (files : Files) : Type 0 where
  pub free : clash_of c ≡ None
  pub made : IfTold files (λ f. (made : Made) × (c.makes f ≡ Ok made) × (made_names made ≡ names))
  pub front : take (length names) c.outputs ≡ names

module _ {c : Command} {names : List (List ℕ)} {files : Files} (h : IsToWrite c names files) where
  few : length names ≤ length c.outputs
  few = omega (arith, ap length h.front, length-take (length names) c.outputs)

  name-at : {number : ℕ} → number < length names
      → slice_index_or names number [] ≡ slice_index_or c.outputs number []
  name-at {number} within =
      ap (λ (l : List (List ℕ)). slice_index_or l number []) (sym h.front)
      ∙ get_or-take (length names) c.outputs number [] within

-- what a command that keeps what is there makes where one is there
kept-made : (c : Command) (names : List (List ℕ)) (P : Result Made EditFault → Type 0)
    (files : Files)
    → IfTold files (λ f. (made : Made) × (c.makes f ≡ Ok made) × (made_names made ≡ names))
    → IfTold files (λ f. (made : Made) → P (exists_or (first_there f 0 names) made))
    → IfTold files (λ f. P ((kept c).makes f))
kept-made c names P (Untold t) made each = tt
kept-made c names P (Told f) made each = subst (λ r. P (unless_there f r)) (sym made.1)
    (subst (λ l. P (exists_or (first_there f 0 l) made.0)) (sym made.2) (each made.0))

module _ {c : Command} {names : List (List ℕ)} (old new : Seen)
    (h : IsToWrite c names old.files) where
  found-left : {fault : EditFault} → FindsOutput names old new fault
      → IsCommandFault (kept c) old new fault
  found-left l = rw l.is (record {
    defined = kept-made c names (λ r. r ≡ Err (Refused (Exists l.number))) old.files h.made
        (at old.files l.first);
    stays = l.stays;
  })
    where
      at : (fs : Files) → IfTold fs (λ f. first_there f 0 names ≡ Some l.number)
          → IfTold fs (λ f. (made : Made)
          → exists_or (first_there f 0 names) made ≡ Err (Refused (Exists l.number)))
      at (Untold t) first = tt
      at (Told f) first = λ made. ap (λ o. exists_or o made) first

  unasked-left : {fault : EditFault} → FailsToAsk names old new fault
      → IsCommandFault (kept c) old new fault
  unasked-left l = rw l.is (record {
    rose = rw (← (name-at h l.within)) l.rose;
    files = inr (record {
      keeps = refl;
      before = kept-made c names (λ r. IfErr r (IsThereFrom l.number)) old.files h.made
          (at old.files l.before);
      stays = l.files;
    });
  })
    where
      by : (o : Option ℕ) (made : Made) → IfSome o (λ number. l.number ≤ number)
          → IfErr (exists_or o made) (IsThereFrom l.number)
      by None made from = tt
      by (Some number) made from = from

      at : (fs : Files)
          → IfTold fs (λ f. IfSome (first_there f 0 names) (λ number. l.number ≤ number))
          → IfTold fs (λ f. (made : Made)
          → IfErr (exists_or (first_there f 0 names) made) (IsThereFrom l.number))
      at (Untold t) before = tt
      at (Told f) before = λ made. by (first_there f 0 names) made before

  stopped-left : {fault : EditFault}
      → FindsOutput names old new fault ⊎ FailsToAsk names old new fault
      → IsCommandFault (kept c) old new fault
  stopped-left {fault} (inl found) = found-left found
  stopped-left {fault} (inr unasked) = unasked-left unasked

  stopped-numbers : {fault : EditFault}
      → FindsOutput names old new fault ⊎ FailsToAsk names old new fault
      → HasNumbers (kept c) fault
  stopped-numbers (inl l) = rw l.is (ap (λ b. b || c.refuses (Exists l.number))
      (lt-ltb l.number (length c.outputs) (omega (arith, l.within, few h))))
  stopped-numbers (inr l) = rw l.is (omega (arith, l.within, few h))

module _ {c : Command} {names : List (List ℕ)} {old : Seen}
    (h : IsToWrite c names old.files) where
  -- a call that found an output there, or could not ask for one
  pub asked_stopped : {new : Seen} {r : Result (Unit {0}) EditFault} {fault : EditFault}
      → IsErrAnd r (λ y. y ≡ fault) → NoneFell old.counts new.counts
      → {keeps : Bool} → keeps ≡ true
      → FindsOutput names old new fault ⊎ FailsToAsk names old new fault
      → IsRunOf (asked_of keeps c) old new r
  asked_stopped {new} {r} {fault} is fell asked stops = rw asked
      (refused_run fault h.free is (stopped-left old new h stops)
      (stopped-numbers old new h stops) fell)

  -- a call that went on where none is there
  pub asked_run : (keeps : Bool) {new : Seen} {r : Result (Unit {0}) EditFault}
      → (keeps ≡ true → IfTold old.files (λ f. first_there f 0 names ≡ None))
      → IsRunOf c old new r → IsRunOf (asked_of keeps c) old new r
  asked_run false free ran = ran
  asked_run true free ran = run-like c (as_kept c) (refuse c) (λ other. other) (λ keep. refl)
      (at old.files h.made (free refl)) ran
    where
      at : (files : Files)
          → IfTold files (λ f. (made : Made) × (c.makes f ≡ Ok made) × (made_names made ≡ names))
          → IfTold files (λ f. first_there f 0 names ≡ None) → MakesLike c (as_kept c) files
      at (Untold t) made free = tt
      at (Told f) made free = free-alike f (c.makes f)
          (subst (λ r. IfOk r (λ m. first_there f 0 (made_names m) ≡ None)) (sym made.1)
          (ap (first_there f 0) made.2 ∙ free))

-- ---- a command that was done

module _ (c : Command) where
  -- a command that is done while it keeps what is there is done
  pub asked_done : (keeps : Bool) {old new : Seen} → IsCommandDone (asked_of keeps c) old new
      → IsCommandDone c old new
  asked_done false done = done
  asked_done true {old} {new} done =
      record { made = at old.files done.made; touches = done.touches; counts = done.counts }
    where
      at : (files : Files) → IfTold files (λ f. (made : Made) × ((kept c).makes f ≡ Ok made)
          × (new.files ≡ Told (written_files made.outputs f))) → IfTold files (λ f. (made : Made)
          × (c.makes f ≡ Ok made) × (new.files ≡ Told (written_files made.outputs f)))
      at (Untold t) made = tt
      at (Told f) made = (made.0, unless-ok f (c.makes f) made.1, made.2)

  kept-free : (f : Contents) (r : Result Made EditFault) {made : Made} → unless_there f r ≡ Ok made
      → first_there f 0 (made_names made) ≡ None
  kept-free f (Err fault) is = absurd cc
  kept-free f (Ok m) {made} is = at (first_there f 0 (made_names m)) refl is
    where
      at : (o : Option ℕ) → first_there f 0 (made_names m) ≡ o → exists_or o m ≡ Ok made
          → first_there f 0 (made_names made) ≡ None
      at None none e =
          subst (λ (x : Made). first_there f 0 (made_names x) ≡ None) (made-same e) none
      at (Some number) some e = absurd cc

  -- and none of the names of its outputs was there
  pub kept_done-free : (f : Contents) {made : Made} → (kept c).makes f ≡ Ok made
      → first_there f 0 (made_names made) ≡ None
  kept_done-free f {made} is = kept-free f (c.makes f) is

  -- the streams that it holds then, it holds without keeping what is there, too
  pub asked_streams : (keeps : Bool) {old new : Seen} → IsCommandDone (asked_of keeps c) old new
      → HoldsStreams (asked_of keeps c) old.files → HoldsStreams c old.files
  asked_streams false done holds = holds
  asked_streams true {old} {new} done holds = at old.files done.made holds
    where
      same : (f : Contents) (m made : Made) → c.makes f ≡ Ok m → c.makes f ≡ Ok made → m ≡ made
      same f m made is other = made-same (sym is ∙ other)

      at : (files : Files) → IfTold files (λ f. (made : Made) × ((kept c).makes f ≡ Ok made)
          × (new.files ≡ Told (written_files made.outputs f))) → HoldsStreams (kept c) files
          → HoldsStreams c files
      at (Untold t) made holds = tt
      at (Told f) m holds = λ made is.
          let held = holds m.0 m.1 in
          subst (MakesStreams c f) (same f m.0 made (unless-ok f (c.makes f) m.1) is)
          (record { sources = held.sources; streams = held.streams })

  -- a command that makes no file is as it is without keeping what is there
  pub none_like : ((f : Contents) (made : Made) → c.makes f ≡ Ok made → made.outputs ≡ [])
      → (files : Files) → MakesLike c (as_kept c) files
  none_like none (Untold t) = tt
  none_like none (Told f) = at (c.makes f) refl
    where
      at : (r : Result Made EditFault) → c.makes f ≡ r → AreLike r (unless_there f r)
      at (Err fault) is = refl
      at (Ok made) is = free-exists _ made
          (ap (λ (outputs : List Output). first_there f 0 (map (λ (o : Output). o.name) outputs))
          (none f made is))

-- ---- outputs that can be asked for

-- the one output of a task
pub to_write_one : {task : Task} {output : List ℕ} → clash_in task output ≡ None
    → {file : List ℕ → List ℕ} {files : Files} → IsMaking task file files
    → IsToWrite (one_command task output) (output ∷ []) files
to_write_one {task} {output} free {file} {files} making =
    record { free = free; made = at files making; front = refl }
  where
    at : (fs : Files) → IsMaking task file fs → IfTold fs (λ f. (made : Made)
        × ((one_command task output).makes f ≡ Ok made) × (made_names made ≡ output ∷ []))
    at (Untold t) making = tt
    at (Told f) making = let gives = gives_made task output free file making in
        (whole_made task output free file gives.0, gives.2, refl)

-- the outputs of a command with a text
pub to_write_told : (text : Contents → List ℕ) {c : Command} {names : List (List ℕ)} {files : Files}
    → IsToWrite c names files → IsToWrite (telling_command text c) names files
to_write_told text {c} {names} {files} h =
    record { free = h.free; made = at files h.made; front = h.front }
  where
    at : (fs : Files)
        → IfTold fs (λ f. (made : Made) × (c.makes f ≡ Ok made) × (made_names made ≡ names))
        → IfTold fs (λ f. (made : Made) × ((telling_command text c).makes f ≡ Ok made)
        × (made_names made ≡ names))
    at (Untold t) m = tt
    at (Told f) m = (record m.0 { text = text f }, ap (with_text (text f)) m.1, m.2)

-- ---- the text

-- what a command says, it says where it keeps what is there, too
pub asked_says : (keeps : Bool) (c : Command) (files : Files) (old new : Heard)
    (fault : Option EditFault) → SaysText c files old new fault
    → SaysText (asked_of keeps c) files old new fault
asked_says false c files old new fault says = says
asked_says true c files old new fault says = at fault says
  where
    text : (all : List ℕ) → IsCommandText (kept c) files all → IsCommandText c files all
    text all (inl always) = inl always
    text all (inr t) = inr (t.0, t.1, t.2, unless-ok t.0 (c.makes t.0) t.3, t.4)

    at : (fault : Option EditFault) → SaysText c files old new fault
        → SaysText (kept c) files old new fault
    at None says = record { text = λ all is. says.text all (text all is); faults = says.faults }
    at (Some Sent) says = record { text = λ all is. says.text all (text all is); rose = says.rose }
    at (Some (EqualNames number)) says = says
    at (Some (Input number fault)) says = says
    at (Some (Refused refusal)) says = says
    at (Some (Write number)) says = says
    at (Some Memory) says = says
