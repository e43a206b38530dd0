-- What a run keeps, and how a folder is seen that is lent.
use Rattle.std.proofs.Common.{ap, Bool, cond, drop, false, IfOk, inl, inr, is_some, List, map, None}
use Rattle.std.proofs.Common.{Ok, Option, refl, Some, subst, suc, sym, take, true, zero, ℕ, []}
use Rattle.std.{proofs.Common.{◌++◌, ◌+◌, ◌↔◌, ◌∙◌, ◌∷◌, ◌≡◌, ◌⊎◌}, specs.Borrow.GName}
use Rattle.std.specs.Prelude.{IfSome}
use Rattle.chosen_streams.specs.Laws.{HasNone}
use Rattle.commands.proofs.{KeptLemmas.{kept_done-free, unless-ok}, WhyLemmas.{each_why, of_why}}
use Rattle.commands.specs.AfterCall.{IsCommandDone, IsCommandFault, IsOutputUnasked}
use Rattle.commands.specs.AfterCall.{IsOutputUnfinished, IsWrittenTo, why_of}
use Rattle.commands.specs.Command.{begun_output, Command, Made, Output, partly_written_files}
use Rattle.commands.specs.Command.{written_files}
use Rattle.commands.specs.Kept.{asked_of, exists_or, first_there, kept, made_names, unless_there}
use Rattle.commands.specs.declared.fault.EditFault.{EditFault}
use Rattle.legality.specs.Laws.{AcceptsFiles}
use Rattle.mp3_cli.proofs.OtherFileLemmas.{written-other}
use Rattle.mp3_cli.specs.Run.{CommandAnswers, CommandEnds, KeepsContents, KeepsEachFile}
use Rattle.mp3_cli.specs.Run.{OnlyMakesNew, seen_kept, world}
use Rattle.outside.specs.Counts.{Counts, NothingFailed}
use Rattle.outside.specs.Files.{Contents, Files, IfTold, is_told, keeping_files, OnlyTouches, Told}
use Rattle.outside.specs.{Files.Untold, Seen.{Heard, kept_seen, Seen}}

-- ---- what is accepted

-- where what is there is kept, a command is accepted exactly if it is otherwise, and none of the
-- files that it makes is there
pub kept-accepts : (keeps : Bool) (c : Command) (f : Contents)
    → (AcceptsFiles c f × (keeps ≡ true → IfOk (c.makes f)
    (λ made. first_there f 0 (made_names made) ≡ None))) ↔ AcceptsFiles (asked_of keeps c) f
kept-accepts false c f = ((λ h. h.0), (λ h. (h, λ keep. absurd cc)))
kept-accepts true c f = (
  (λ h. (
    h.0.0,
    ap (unless_there f) h.0.1
        ∙ ap (λ o. exists_or o h.0.0) (subst (λ r. IfOk r
        (λ made. first_there f 0 (made_names made) ≡ None)) h.0.1 (h.1 refl)),
  )),
  (λ h.
      let made = unless-ok f (c.makes f) h.1 in (
        (h.0, made),
        λ keep. subst (λ r. IfOk r (λ m. first_there f 0 (made_names m) ≡ None)) (sym made)
            (kept_done-free c f h.1),
      )),
)

-- ---- each file that was there

none-first : (here : Bool) (place : ℕ) {later : Option ℕ} → cond here (Some place) later ≡ None
    → (here ≡ false) × (later ≡ None)
none-first true place e = absurd cc
none-first false place e = (refl, e)

-- a name that is there is none of those of which none is there
apart-there : (f : Contents) {name bytes : List ℕ} → f name ≡ Some bytes → (place : ℕ)
    (outputs : List Output) → first_there f place (map (λ (o : Output). o.name) outputs) ≡ None
    → HasNone name outputs
apart-there f held place [] none = tt
apart-there f {name} {bytes} held place (output ∷ outputs) none =
    let parts = none-first (is_some (f output.name)) place none in (
      (λ same. let here : is_some (f output.name) ≡ true =
          ap (λ n. is_some (f n)) (sym same) ∙ ap is_some held in absurd cc),
      apart-there f held (place + 1) outputs parts.1,
    )

-- a name that is none of some outputs is none of the first of them, the last in part
apart-part : (name : List ℕ) (k : ℕ) (count : Option ℕ) (outputs : List Output)
    → HasNone name outputs → HasNone name (take k outputs ++ begun_output count (drop k outputs))
apart-part name zero None outputs none = tt
apart-part name zero (Some n) [] none = tt
apart-part name zero (Some n) (output ∷ outputs) none = (none.0, tt)
apart-part name (suc k) count [] none = apart-nil count
  where
    apart-nil : (count : Option ℕ) → HasNone name (begun_output count [])
    apart-nil None = tt
    apart-nil (Some n) = tt
apart-part name (suc k) count (output ∷ outputs) none =
    (none.0, apart-part name k count outputs none.1)

-- outputs of which none was there leave each file that was
written-keeps : (f : Contents) (made : Made) → first_there f 0 (made_names made) ≡ None
    → KeepsContents f (written_files made.outputs f)
written-keeps f made none name bytes held =
    written-other made.outputs f (apart-there f held 0 made.outputs none) ∙ held

partly-keeps : (f : Contents) (made : Made) (k : ℕ) (count : Option ℕ)
    → first_there f 0 (made_names made) ≡ None
    → KeepsContents f (partly_written_files k count made.outputs f)
partly-keeps f made k count none name bytes held =
    written-other (take k made.outputs ++ begun_output count (drop k made.outputs)) f
    (apart-part name k count made.outputs (apart-there f held 0 made.outputs none))
    ∙ held

-- the contents are known, and are these
keeps-told : {f g : Contents} {new : Files} → new ≡ Told g → KeepsContents f g
    → IfTold new (KeepsContents f)
keeps-told is keeps = rw is keeps

-- files that stay are kept
pub keeps-same : (old : Files) {new : Files} → new ≡ old → KeepsEachFile old new
keeps-same (Told f) same = rw same (λ name bytes held. held)
keeps-same (Untold t) same = tt

module _ (c : Command) where
  keeps-done : (old : Files) (new : Seen) → IfTold old (λ f. (made : Made)
      × ((kept c).makes f ≡ Ok made) × (new.files ≡ Told (written_files made.outputs f)))
      → KeepsEachFile old new.files
  keeps-done (Untold t) new made = tt
  keeps-done (Told f) new made = keeps-told made.2
      (written-keeps f made.0 (kept_done-free c f made.1))

  keeps-written : {k : ℕ} (old : Files) {new : Files} → IsWrittenTo (kept c) k old new
      → KeepsEachFile old new
  keeps-written (Untold t) h = tt
  keeps-written {k} (Told f) {new} h =
      let m = h.made in
      keeps-told m.4
      (partly-keeps f m.0 k m.3 (kept_done-free c f m.1))

  keeps-unfinished : {k : ℕ} (old : Files) {new : Files} → IsOutputUnfinished (kept c) k old new
      → KeepsEachFile old new
  keeps-unfinished (Untold t) h = tt
  keeps-unfinished {k} (Told f) {new} h =
      let m = h.made in
      keeps-told m.5
      (partly-keeps f m.0 k m.3 (kept_done-free c f m.1))

  -- a command that keeps what is there leaves each file that was there, however it ends
  module _ (old new : Seen) where
    keeps-unread : (new.files ≡ old.files) ⊎ ((k : ℕ) × IsWrittenTo (kept c) k old.files new.files)
        → KeepsEachFile old.files new.files
    keeps-unread (inl same) = keeps-same old.files same
    keeps-unread (inr wrote) = keeps-written old.files wrote.1

    keeps-unwritten : {k : ℕ} → IsOutputUnfinished (kept c) k old.files new.files
        ⊎ IsOutputUnasked (kept c) k old.files new.files → KeepsEachFile old.files new.files
    keeps-unwritten {k} (inl part) = keeps-unfinished old.files part
    keeps-unwritten (inr none) = keeps-same old.files none.stays

    -- a file that became shorter tells no contents
    keeps-untold : (files : Files) → is_told files ≡ false → KeepsEachFile files new.files
    keeps-untold (Untold t) e = tt
    keeps-untold (Told f) e = absurd cc

    -- with a fault
    pub keeps-left : (fault : EditFault) → IsCommandFault (kept c) old new fault
        → KeepsEachFile old.files new.files
    keeps-left fault h = of_why (why_of fault) h (record {
      rejected = λ l. keeps-same old.files (ap (λ (s : Seen). s.files) l.stays);
      missing = λ l. keeps-same old.files l.files;
      unread = λ l. keeps-unread l.files;
      shorter = λ l. keeps-untold old.files l.ended.untold;
      unwritten = λ k l. keeps-unwritten l.files;
      unsent = λ l. keeps-done old.files new l.made;
      no_memory = λ l. keeps-same old.files (ap (λ (s : Seen). s.files) l.stays);
    })

    -- with a fault or without
    pub keeps-all : {out_old out_new : Heard} (fault : Option EditFault)
        → CommandEnds (kept c) old new out_old out_new fault → KeepsEachFile old.files new.files
    keeps-all None ends = keeps-done old.files new (ends.done refl).made
    keeps-all (Some fault) ends = keeps-left fault ends.left

-- ---- names that are only made

-- what only touches as a folder does that keeps what is there only makes new files
pub only-new : {names : List (List ℕ)} (old new : Files)
    → OnlyTouches names (keeping_files old) (keeping_files new) → OnlyMakesNew old new
unfolding keeping_files
only-new (Told f) new only = tt
only-new (Untold t) (Told g) only = tt
only-new (Untold t) (Untold u) only = only.as_it_does.1

-- ---- a folder that is lent

abbrev rest_of : List GName → List GName
rest_of [] = []
rest_of (name ∷ names) = names

-- the folder as it is seen by who lends it
abbrev lender_counts : Counts → Counts
lender_counts counts = record counts { lent = rest_of counts.lent }

abbrev lender : Seen → Seen
lender now = record now { counts = lender_counts now.counts }

nothing-lender : {a b : Counts} → NothingFailed a b
    → NothingFailed (lender_counts a) (lender_counts b)
nothing-lender h = record {
  misses = h.misses;
  read_faults = h.read_faults;
  write_faults = h.write_faults;
  lent = ap rest_of h.lent;
}

module _ (c : Command) (old new : Seen) where
  done-lender : IsCommandDone c old new → IsCommandDone c (lender old) (lender new)
  done-lender h = record { made = h.made; touches = h.touches; counts = ap lender_counts h.counts }

  left-lender : (fault : EditFault) → IsCommandFault c old new fault
      → IsCommandFault c (lender old) (lender new) fault
  left-lender fault h = each_why (why_of fault) h (record {
    rejected = λ l. record { defined = l.defined; stays = ap lender l.stays };
    missing = λ l. record { defined = l.defined; rose = l.rose; files = l.files };
    unread = λ l.
        record { names = l.names; before = l.before; rose = l.rose; files = l.files };
    shorter = λ l. record {
      ended = record {
        rose = l.ended.rose;
        counts = nothing-lender l.ended.counts;
        untold = l.ended.untold;
      };
      touches = l.touches;
    };
    unwritten = λ k l. record { rose = l.rose; files = l.files };
    unsent = done-lender;
    no_memory = λ l. record { names = l.names; takes = l.takes; stays = ap lender l.stays };
  })

  ends-lender : {out_old out_new : Heard} {fault : Option EditFault}
      → CommandEnds c old new out_old out_new fault
      → CommandEnds c (lender old) (lender new) out_old out_new fault
  ends-lender {fault = fault} ends = record {
    says = ends.says;
    done = λ e. done-lender (ends.done e);
    left = at fault ends.left;
    numbers = ends.numbers;
    names = ends.names;
  }
    where
      at : (fault : Option EditFault) → IfSome fault (IsCommandFault c old new)
          → IfSome fault (IsCommandFault c (lender old) (lender new))
      at None left = tt
      at (Some e) left = left-lender e left

-- a command over a folder that is lent as one that keeps what is there answers as over that folder
module _ (by then : GName) (old new : Seen) where
  -- what it says of the folder that is lent, it says of the folder
  pub lent-answers : {c : Command} {lent_old lent_new : Seen}
      {out_old out_new err_old err_new : Heard} {status : ℕ}
      → lent_old ≡ kept_seen by old → lent_new ≡ kept_seen then new
      → CommandAnswers c (world lent_old out_old err_old) (world lent_new out_new err_new) status
      → CommandAnswers c (world (seen_kept true old) out_old err_old)
      (world (seen_kept true new) out_new err_new) status
  lent-answers {c} is_old is_new all =
      let lent = rw (is_old, is_new) at all in record {
        fault = lent.fault;
        ends = ends-lender c (kept_seen by old) (kept_seen then new) lent.ends;
        status_is = lent.status_is;
        line = lent.line;
      }

-- ---- a command is the same in what doesn't depend on the files

-- it has the same inputs, outputs and text where what is there is kept
pub asked-inputs : (keeps : Bool) (command : Command)
    → (asked_of keeps command).inputs ≡ command.inputs
asked-inputs true command = refl
asked-inputs false command = refl

-- the same outputs
pub asked-outputs : (keeps : Bool) (command : Command)
    → (asked_of keeps command).outputs ≡ command.outputs
asked-outputs true command = refl
asked-outputs false command = refl

-- the same text
pub asked-always : (keeps : Bool) (command : Command)
    → (asked_of keeps command).always ≡ command.always
asked-always true command = refl
asked-always false command = refl
