-- A command that makes one file: what it leaves after each step.
use Rattle.std.proofs.Common.{ap, arith, Bool, bytes_eq, cond, Err, false, IfErr, inl, inr, IsErrOf}
use Rattle.std.proofs.Common.{length, List, None, Ok, OnOk, Option, refl, Result, Some, subst, sym}
use Rattle.std.{proofs.Common.{ℕ, [], ◌||◌, ◌↔◌, ◌∙◌, ◌∷◌, ◌≡◌, ◌≢◌, ◌≤◌}, specs.List.list_any}
use Rattle.std.specs.Result.{IsErrAnd}
use Rattle.bit_fields.specs.Bits.{AreBytes}
use Rattle.commands.proofs.{NamedLemmas.among_all, WhyLemmas.each_why}
use Rattle.commands.specs.AfterCall.{HasNumbers, HasPassNumbers, IsCommandDone, IsCommandFault}
use Rattle.commands.specs.AfterCall.{IsLateFault, IsNotBefore, IsOutputUnfinished, IsWrittenTo}
use Rattle.commands.specs.AfterCall.{TakesMemory, why_of}
use Rattle.commands.specs.Command.{AreSoundFiles, clash_from, clash_of, Command, HasAnswer}
use Rattle.commands.specs.Command.{HoldsStreams, LacksBytes, Made, MakesStreams}
use Rattle.commands.specs.{Command.{partly_written_files, written_files}, Inputs.names_of}
use Rattle.commands.specs.Runs.{IsRunOf}
use Rattle.commands.specs.SingleOutput.{clash_in, command_result, first_input, HasTaskNumbers}
use Rattle.commands.specs.SingleOutput.{HoldsLess, HoldsPrefix, IsEarlyFault, IsMaking, IsPassFault}
use Rattle.commands.specs.SingleOutput.{IsProperTask, one_command, Task, task_result, TaskRefuses}
use Rattle.commands.specs.{SingleOutput.WritesOutput, declared.fault.EditFault.EditFault}
use Rattle.commands.specs.declared.{fault.EditFault.TheVariants.EqualNames, inputs.Inputs.Inputs}
use Rattle.outside.proofs.CountsLemmas.{none_fell_by_reads, none_fell_same}
use Rattle.outside.proofs.FilesLemmas.{bytes_eq_same, there_holds, touches_none}
use Rattle.outside.specs.Counts.{NoneFell, OnlyReads}
use Rattle.outside.specs.Files.{Contents, Files, files_holding, Holds, IfTold, IsFileThere}
use Rattle.outside.specs.{Files.{OnlyTouches, Told, Untold}, Seen.Seen}
use Rattle.sync_survey.specs.Faults.{HoldsStream, longest_file}

abbrev pub ok_made : Made → Result Made EditFault
ok_made made = Ok made

-- what was made is equal if the results are
pub made-same : {a b : Made} → ok_made a ≡ ok_made b → a ≡ b
made-same e = cc

-- ---- names

-- without a clash the first name is no output's, nor is any other
pub no_clash : {b : Bool} (number : ℕ) {o : Option ℕ} → cond b (Some number) o ≡ None
    → (b ≡ false) × (o ≡ None)
no_clash number none = grind arith

or_none : {a : Bool} (b : Bool) → (a || b) ≡ false → a ≡ false
or_none b none = grind arith

-- a name that is none of these outputs isn't the first of them
pub other_name : {name output : List ℕ} (outputs : List (List ℕ))
    → list_any (bytes_eq name) (output ∷ outputs) ≡ false → name ≢ output
other_name outputs none same = grind (arith, bytes_eq, bytes_eq_same, or_none)

-- without a clash the first input isn't the output
pub source_apart : (inputs : List (List ℕ)) {source output : List ℕ} → 1 ≤ length inputs
    → first_input inputs ≡ source → clash_from (output ∷ []) 0 inputs ≡ None → source ≢ output
source_apart [] some first free = absurd (omega (arith, some))
source_apart (name ∷ inputs) {output = output} some first free =
    λ same. other_name [] (no_clash 0 free).0 (first ∙ same)

-- the names of the inputs are the inputs of the task
module _ (inputs : Inputs) (task : Task) (named : names_of inputs ≡ task.inputs) where
  -- the source of the inputs is the source of the task
  pub source_is : first_input task.inputs ≡ task.source → inputs.source.now ≡ task.source
  source_is first = ap first_input named ∙ first

  -- a clash of the inputs with the output is one of the task
  pub clash_is : (output : List ℕ) {found number : Option ℕ} → found
      ≡ clash_from (output ∷ []) 0 (names_of inputs) → found ≡ number
      → clash_in task output ≡ number
  clash_is output of is = ap (clash_from (output ∷ []) 0) (sym named) ∙ sym of ∙ is

task_result-clash : (task : Task) (output : List ℕ) {number : ℕ} (f : Contents)
    → clash_in task output ≡ Some number → task_result task output f ≡ Err (EqualNames number)
unfolding task_result
task_result-clash task output f clash = rw clash refl

task_result-free : (task : Task) (output : List ℕ) (f : Contents) → clash_in task output ≡ None
    → task_result task output f ≡ task.makes f
unfolding task_result
task_result-free task output f free = rw free refl

gives_clash : (task : Task) (output : List ℕ) {number : ℕ} (files : Files) → clash_in task output
    ≡ Some number → HasAnswer (one_command task output) files (Err (EqualNames number))
gives_clash task output files clash = grind (arith, task_result-clash)

-- a clash is a fault of the command, with its number, that changes nothing
pub clash_left : (task : Task) {output : List ℕ} {number : ℕ} (now : Seen) → clash_in task output
    ≡ Some number → IsCommandFault (one_command task output) now now (EqualNames number)
clash_left task now clash = grind (arith, gives_clash)

-- ---- before the output is created

module _ (task : Task) (output : List ℕ) (free : clash_in task output ≡ None) where
  makes_free : (f : Contents)
      → (one_command task output).makes f ≡ command_result output (task.makes f)
  makes_free f = ap (command_result output) (task_result-free task output f free)

  gives_refused : (files : Files) (fault : EditFault) → TaskRefuses task files fault
      → HasAnswer (one_command task output) files (Err fault)
  gives_refused files fault is = grind (arith, makes_free)

  before_made : (files : Files) (fault : EditFault)
      → IfTold files (λ f. IfErr (task.makes f) (IsNotBefore fault))
      → IfTold files (λ f. IfErr ((one_command task output).makes f) (IsNotBefore fault))
  before_made files fault is = grind (arith, makes_free)

  takes : (r : Result (List ℕ) EditFault) → IfErr r IsLateFault
      → TakesMemory (command_result output r)
  takes r late = grind arith

  module _ (late : (f : Contents) (bytes : List ℕ) → f task.source ≡ Some bytes
      → length bytes ≤ longest_file → IfErr (task.makes f) IsLateFault) where
    takes_memory : (files : Files) → IsFileThere files task.source
        → ((bytes : List ℕ) → Holds files task.source bytes → length bytes ≤ longest_file)
        → IfTold files (λ f. TakesMemory ((one_command task output).makes f))
    takes_memory (Untold touched) there few = tt
    takes_memory (Told f) there few =
        let held = there_holds f there in
        subst TakesMemory (sym (makes_free f))
        (takes (task.makes f) (late f held.0 held.1 (few held.0 held.1)))

    module _ (old new : Seen) (fault : EditFault) where
      stays_touched : new.files ≡ old.files → OnlyTouches (output ∷ []) old.files new.files
      stays_touched stays = rw stays (touches_none (output ∷ []) old.files)

      -- a fault met before the output is created is a fault of the command
      pub early_left : IsEarlyFault task old new fault
          → IsCommandFault (one_command task output) old new fault
      early_left h = each_why (why_of fault) h (record {
        rejected = grind (arith, gives_refused);
        missing = grind (arith, gives_refused);
        unread = λ u. record {
          names = free;
          before = before_made old.files fault u.before;
          rose = u.rose;
          files = inl u.files;
        };
        shorter = λ l. record { ended = l.ended; touches = stays_touched l.files };
        unwritten = λ k w. absurd w;
        unsent = λ w. absurd w;
        no_memory = grind (arith, takes_memory);
      })

  -- ---- the second pass

  module _ (file : List ℕ → List ℕ) where
    abbrev pub whole_made : List ℕ → Made
    whole_made bytes =
        record { outputs = record { name = output; bytes = file bytes } ∷ []; text = [] }

    -- what is made of a source whose content is known
    pub gives_made : {f : Contents} → IsMaking task file (Told f) → (bytes : List ℕ)
        × (f task.source ≡ Some bytes) × ((one_command task output).makes f ≡ Ok (whole_made bytes))
    gives_made making = grind (arith, there_holds, makes_free)

    made_none : {files : Files} (P : EditFault → Type 0) → IsMaking task file files
        → IfTold files (λ f. IfErr ((one_command task output).makes f) P)
    made_none P making = grind (arith, gives_made)

    -- the output was written whole
    made_whole : {files new : Files} → IsMaking task file files → ((bytes : List ℕ)
        → Holds files task.source bytes → new ≡ files_holding files output (file bytes))
        → IfTold files (λ f. (made : Made) × ((one_command task output).makes f ≡ Ok made)
        × (new ≡ Told (written_files made.outputs f)))
    unfolding files_holding
    made_whole making wrote = grind (arith, gives_made)

    -- the output was written in part
    begun_to : {f : Contents} {new : Files} {moved : List ℕ} → HoldsPrefix output moved (Told f) new
        → (count : Option ℕ)
        × (new
        ≡ Told (partly_written_files 0 count (record { name = output; bytes = moved } ∷ []) f))
    unfolding files_holding
    begun_to (inl stays) = (None, stays)
    begun_to (inr part) = (Some part.0, part.1)

    less_to : {f : Contents} {new : Files} {moved : List ℕ} → HoldsLess output moved (Told f) new
        → (count : Option ℕ) × LacksBytes count (record { name = output; bytes = moved } ∷ [])
        × (new
        ≡ Told (partly_written_files 0 count (record { name = output; bytes = moved } ∷ []) f))
    unfolding files_holding
    less_to (inl stays) = (None, tt, stays)
    less_to (inr part) = (Some part.0, part.1, part.2)

    written_part : (old : Files) {new : Files} → IsMaking task file old
        → ((bytes : List ℕ) → Holds old task.source bytes → HoldsPrefix output (file bytes) old new)
        → OnlyTouches (output ∷ []) old new → IsWrittenTo (one_command task output) 0 old new
    written_part (Untold touched) making part touches = record { made = tt; touches = touches }
    written_part (Told f) {new} making part touches =
        let gives = gives_made making in
        let begun = begun_to (part gives.0 gives.1) in
        record {
          made = (whole_made gives.0, gives.2, omega arith, begun.0, begun.1);
          touches = touches;
        }

    unfinished_part : (old : Files) {new : Files} → IsMaking task file old
        → ((bytes : List ℕ) → Holds old task.source bytes → HoldsLess output (file bytes) old new)
        → OnlyTouches (output ∷ []) old new → IsOutputUnfinished (one_command task output) 0 old new
    unfinished_part (Untold touched) making part touches = grind arith
    unfinished_part (Told f) {new} making part touches =
        let gives = gives_made making in
        let begun = less_to (part gives.0 gives.1) in
        record {
          made = (whole_made gives.0, gives.2, omega arith, begun.0, begun.1, begun.2);
          touches = touches;
        }

    module _ (first : first_input task.inputs ≡ task.source) (old new : Seen)
        (making : IsMaking task file old.files) where
      pass_left : (fault : EditFault) → OnlyTouches (output ∷ []) old.files new.files
          → IsPassFault file task.inputs output old new fault
          → IsCommandFault (one_command task output) old new fault
      pass_left fault touches h = each_why (why_of fault) h (record {
        rejected = λ w. absurd w;
        missing = λ w. absurd w;
        unread = λ u. record {
          names = free;
          before = made_none (IsNotBefore fault) making;
          rose = u.rose;
          files = inr (
            0,
            written_part old.files making (rw first at u.files) touches,
          );
        };
        shorter = λ l. record { ended = l; touches = touches };
        unwritten = λ k w. rw w.0 (record {
          rose = w.1.rose;
          files = inl (unfinished_part old.files making (rw first at w.1.files) touches);
        });
        unsent = λ w. absurd w;
        no_memory = λ w. absurd w;
      })

      -- if the output holds what is made, and no count changed, the command is done
      wrote_done : (r : Result (Unit {0}) EditFault)
          → WritesOutput file task.inputs output old new r
          → OnOk r (IsCommandDone (one_command task output) old new)
      wrote_done (Ok x) wrote = record {
        made = made_whole making (rw (← first) wrote.written);
        touches = wrote.touches;
        counts = wrote.done;
      }
      wrote_done (Err fault) wrote = tt

      -- a fault of the pass leaves the output begun
      wrote_left : (r : Result (Unit {0}) EditFault)
          → WritesOutput file task.inputs output old new r
          → IfErr r (IsCommandFault (one_command task output) old new)
      wrote_left (Ok x) wrote = tt
      wrote_left (Err fault) wrote = pass_left fault wrote.touches wrote.left

    -- ---- what the output holds

    abbrev Hold : Contents → Type 0
    Hold f = (bytes : List ℕ) → f task.source ≡ Some bytes
        → AreSoundFiles f task.sources × HoldsStream (file bytes) (task.stream f)

    -- if what is made holds its stream, so does the file of the pass
    pub proper_holds : ((f : Contents) (bytes new : List ℕ) → f task.source ≡ Some bytes
        → AreBytes bytes → task.makes f ≡ Ok new
        → AreSoundFiles f task.sources × HoldsStream new (task.stream f)) → (files : Files)
        → IsMaking task file files → IfTold files Hold
    proper_holds sound (Untold touched) making = tt
    proper_holds sound (Told f) making = λ bytes held. let made = making.makes bytes held in
        sound f bytes (file bytes) held made.0 made.1

    streams_at : (f : Contents) → IsMaking task file (Told f) → Hold f → (made : Made)
        → (one_command task output).makes f ≡ Ok made
        → MakesStreams (one_command task output) f made
    streams_at f making hold made is = grind (arith, gives_made, made-same)

    -- a command that is done holds its streams
    pub one_streams : {T E : Type 0} (files : Files) → IsMaking task file files → IfTold files Hold
        → (r : Result T E) → OnOk r (HoldsStreams (one_command task output) files)
    one_streams (Untold touched) making hold (Ok x) = tt
    one_streams (Told f) making hold (Ok x) = streams_at f making hold
    one_streams files making hold (Err fault) = tt

-- ---- a fault met before there is an output

-- a fault met before there is an output has the right numbers
pub numbers_early : (task : Task) (output : List ℕ) (fault : EditFault) → HasTaskNumbers task fault
    → HasNumbers (one_command task output) fault
numbers_early task output fault h = grind arith

-- if no names clash, no fault is that of equal names
pub names_free : (command : Command) {r : Result (Unit {0}) EditFault} → clash_of command ≡ None
    → IfErr r (HasNumbers command) → (number : ℕ)
    → IsErrOf r (EqualNames number) ↔ (clash_of command ≡ Some number)
names_free command none numbers number = grind arith

-- a call that ended with a fault is a run of the command
pub refused_run : {command : Command} {old new : Seen} {r : Result (Unit {0}) EditFault}
    (fault : EditFault) → clash_of command ≡ None → IsErrAnd r (λ y. y ≡ fault)
    → IsCommandFault command old new fault → HasNumbers command fault
    → NoneFell old.counts new.counts → IsRunOf command old new r
refused_run fault none is left numbers fell = grind arith

-- a call that returned this fault is a run if the call ended with it
pub returned_run : {command : Command} {old new : Seen} {r : Result (Unit {0}) EditFault}
    {fault : EditFault} → IsErrAnd r (λ y. y ≡ fault) → IsRunOf command old new (Err fault)
    → IsRunOf command old new r
returned_run is ran = grind arith

-- ---- runs of a command that makes one file

module _ (task : Task) (output : List ℕ) where
  -- a call that found a clash
  pub clash_run : {number : ℕ} (now : Seen) → clash_in task output ≡ Some number
      → IsRunOf (one_command task output) now now (Err (EqualNames number))
  clash_run {number} now clash = record {
    done = tt;
    left = clash_left task now clash;
    numbers = clash;
    names = grind (arith, clash);
    streams = tt;
    counts = none_fell_same now.counts;
  }

  pass_numbers : (r : Result (Unit {0}) EditFault) → 1 ≤ length task.inputs
      → IfErr r HasPassNumbers → IfErr r (HasNumbers (one_command task output))
  pass_numbers r some numbers = grind arith

  pass_all : (file : List ℕ → List ℕ) (old new : Seen) (r : Result (Unit {0}) EditFault)
      → first_input task.inputs ≡ task.source → IfErr r HasPassNumbers
      → IfErr r (IsPassFault file (task.source ∷ []) output old new)
      → IfErr r (IsPassFault file task.inputs output old new)
  pass_all file old new (Ok x) first numbers left = tt
  pass_all file old new (Err fault) first numbers left =
      among_all file task.inputs first output old new fault numbers left

  module _ (free : clash_in task output ≡ None) {old new : Seen}
      {r : Result (Unit {0}) EditFault} where
    -- a call that met a fault before the output was created
    pub early_run : ((f : Contents) (bytes : List ℕ) → f task.source ≡ Some bytes
        → length bytes ≤ longest_file → IfErr (task.makes f) IsLateFault) → (fault : EditFault)
        → IsErrAnd r (λ y. y ≡ fault) → IsEarlyFault task old new fault
        → HasNumbers (one_command task output) fault → OnlyReads old.counts new.counts
        → IsRunOf (one_command task output) old new r
    early_run late fault is early numbers reads =
        refused_run fault free is
        (early_left task output free late old new fault early) numbers
        (none_fell_by_reads reads)

    module _ {file : List ℕ → List ℕ} (making : IsMaking task file old.files) where
      -- a call that wrote what the task makes, or a part of it
      pub one_run : first_input task.inputs ≡ task.source
          → OnOk r (HoldsStreams (one_command task output) old.files)
          → IfErr r (HasNumbers (one_command task output))
          → WritesOutput file task.inputs output old new r → NoneFell old.counts new.counts
          → IsRunOf (one_command task output) old new r
      one_run first streams numbers wrote fell = record {
        done = wrote_done task output free file first old new making r wrote;
        left = wrote_left task output free file first old new making r wrote;
        numbers = numbers;
        names = names_free (one_command task output) free numbers;
        streams = streams;
        counts = fell;
      }

      -- a call that wrote what the task makes of its source, or a part of it
      pub pass_run : IsProperTask task → IfErr r HasPassNumbers
          → WritesOutput file (task.source ∷ []) output old new r → NoneFell old.counts new.counts
          → IsRunOf (one_command task output) old new r
      pass_run proper numbers wrote fell =
          let hold = proper_holds task output free file proper.streams old.files making in
          one_run proper.first (one_streams task output free file old.files making hold r)
          (pass_numbers r proper.some numbers) (record {
            written = rw proper.first wrote.written;
            touches = wrote.touches;
            done = wrote.done;
            left = pass_all file old new r proper.first numbers wrote.left;
          }) fell
