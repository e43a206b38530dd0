-- The steps of a pass, in order.
use Rattle.std.proofs.Common.{ap, append-nil, append_assoc, arith, drop, length-append, List, refl}
use Rattle.std.proofs.Common.{subst, sym, take, ℕ, [], ◌++◌, ◌+◌, ◌-◌, ◌∙◌, ◌≡◌, ◌≢◌, ◌≤◌}
use Rattle.std.proofs.Math.Seq.{take-add, take-append-add}
use Rattle.std.proofs.lemmas.List.{drop-drop, length-take, take-append-le}
use Rattle.std.specs.Prelude.{Err, IfErr, IsErrAnd, Ok, Result}
use Rattle.outside.proofs.BufferOutputLemmas.{passed_more}
use Rattle.outside.proofs.FilesLemmas.{appended_held_other, appended_holds_other, appended_keeps}
use Rattle.outside.proofs.FilesLemmas.{appended_nothing, appended_told, appended_twice}
use Rattle.outside.specs.{BufferOutput.{AppendedPrefix, AppendsWaiting}, Counts.Counts, Feed.Fed}
use Rattle.outside.specs.Files.{Files, Holds, IsFileThere, with_appended_bytes}
use Rattle.outside.specs.Pass.{AppendsMadeBytes, AppendsPart, AppendsPrefix, AreBytesMade, bytes_at}
use Rattle.outside.specs.Pass.{bytes_between, HasPassCause, IsPassReady, IsReadPassFault}
use Rattle.outside.specs.Pass.{pass_fault_of, PassMakes, Route, route_of, WritesMadeBytes}
use Rattle.outside.specs.{Pass.WritesPrefix, ReadCauses.HasReadCause, Seen.Seen}
use Rattle.outside.specs.declared.{exact.ReadFault.ReadFault, pass.{Pass.Pass, PassFault.PassFault}}

-- The first of the bytes were passed on, and the rest are still to come.
pub record WritesUpTo (pass : Pass) (whole rest : List ℕ → List ℕ) (before after : List ℕ)
    (old new : Files) : Type 0 where
  pub made : List ℕ → List ℕ
  pub written : WritesMadeBytes pass made before after old new
  pub left : (file : List ℕ) → Holds old pass.input.now file → whole file ≡ made file ++ rest file

-- ---- files after the output got more bytes

module _ (old : Files) {new : Files} {input output : List ℕ} (more file : List ℕ)
    (apart : input ≢ output)
    (is : new ≡ with_appended_bytes old output more) where
  -- the input holds what it held
  pub input_holds : Holds old input file → Holds new input file
  input_holds holds = grind (arith, appended_holds_other)

  -- the input held what it holds
  pub input_held : Holds new input file → Holds old input file
  input_held holds = grind (arith, appended_held_other)

-- a name that was there is still there
pub still_there : (old : Files) {new : Files} (output more name : List ℕ)
    → new ≡ with_appended_bytes old output more → IsFileThere old name → IsFileThere new name
still_there old output more name is there = grind (arith, appended_keeps)

-- all is ready for the next step
pub ready_later : {pass : Pass} {old new : Files} {fed : Fed} (more : List ℕ)
    → new ≡ with_appended_bytes old pass.output.now more → IsPassReady pass old fed
    → IsPassReady pass new fed
ready_later more is ready = grind (arith, input_held, still_there)

-- after a buffer passed something on, all is ready for the next step
pub passed_ready : {pass : Pass} {before after : List ℕ} {old new : Files} {fed : Fed}
    → AppendsWaiting pass.output.now before after old new → IsPassReady pass old fed
    → IsPassReady pass new fed
passed_ready {pass} {before} {after} {old} {new} {fed} passed ready =
    ready_later passed.passed passed.files ready

-- ---- single steps

module _ (pass : Pass) where
  -- a step that writes nothing
  pub writes_nothing : {made : List ℕ → List ℕ} (waiting : List ℕ) {files : Files}
      → IsFileThere files pass.output.now → AreBytesMade files pass.input.now made []
      → WritesMadeBytes pass made waiting waiting files files
  writes_nothing waiting there none = grind (arith, append-nil, appended_nothing)

  -- a step that pushes a piece
  pub writes_piece : {made : List ℕ → List ℕ} {piece before after : List ℕ} {old new : Files}
      → AreBytesMade old pass.input.now made piece
      → AppendsWaiting pass.output.now (before ++ piece) after old new
      → WritesMadeBytes pass made before after old new
  writes_piece {piece = piece} is passed = record { piece = piece; is = is; passed = passed }

  -- a step that wrote only a prefix of a piece
  pub prefix_piece : {made : List ℕ → List ℕ} {piece before : List ℕ} {old new : Files}
      {fault : PassFault} → AreBytesMade old pass.input.now made piece
      → AppendedPrefix pass.output.now (before ++ piece) old new
      → WritesPrefix pass made before old new fault
  prefix_piece {piece = piece} {before = before} is prefix = grind (arith, length-take)

  -- a step whose read failed appended nothing
  pub prefix_nothing : (made : List ℕ → List ℕ) (before : List ℕ) {old new : Files}
      {fault : PassFault} → IsReadPassFault fault → new ≡ old → IsFileThere old pass.output.now
      → WritesPrefix pass made before old new fault
  prefix_nothing made before read same there = grind (arith, appended_nothing)

  -- bytes that are made in another way with the same result
  pub writes_as : {made : List ℕ → List ℕ} {other : List ℕ → List ℕ} {before after : List ℕ}
      {old new : Files} → ((file : List ℕ) → Holds old pass.input.now file → made file ≡ other file)
      → WritesMadeBytes pass made before after old new
      → WritesMadeBytes pass other before after old new
  writes_as same step = grind arith

  -- a prefix of some bytes is a prefix of these and more
  pub prefix_as : {made : List ℕ → List ℕ} (other rest : List ℕ → List ℕ) {before : List ℕ}
      {old new : Files} {fault : PassFault}
      → ((file : List ℕ) → Holds old pass.input.now file → other file ≡ made file ++ rest file)
      → WritesPrefix pass made before old new fault → WritesPrefix pass other before old new fault
  prefix_as {made} other rest {before} {old} more part =
      grind (arith, append_assoc, length-take, take-append-le, length-append)

-- ---- a step after another

module _ {pass : Pass} (apart : pass.input.now ≢ pass.output.now) {made : List ℕ → List ℕ}
    {before mid : List ℕ} {old now : Files}
    (step : WritesMadeBytes pass made before mid old now) where
  -- the input holds what it held
  pub writes_holds : (file : List ℕ) → Holds old pass.input.now file → Holds now pass.input.now file
  writes_holds file holds = grind (arith, input_holds)

  -- the input held what it holds
  pub writes_held : (file : List ℕ) → Holds now pass.input.now file → Holds old pass.input.now file
  writes_held file holds = grind (arith, input_held)

  -- a name that was there is still there
  pub writes_there : (name : List ℕ) → IsFileThere old name → IsFileThere now name
  writes_there name there = grind (arith, still_there)

  -- what two steps wrote is what the first made followed by what the second made
  pub writes_then : {next : List ℕ → List ℕ} {after : List ℕ} {new : Files}
      → WritesMadeBytes pass next mid after now new
      → WritesMadeBytes pass (λ file. made file ++ next file) before after old new
  writes_then {next} {after} {new} more =
      grind (
        arith,
        writes_holds,
        append_assoc before step.piece more.piece,
        passed_more more.piece
            step.passed more.passed,
      )

  -- a step after another that ends early
  pub prefix_then : {next : List ℕ → List ℕ} {new : Files} {fault : PassFault}
      → WritesPrefix pass next mid now new fault
      → WritesPrefix pass (λ file. made file ++ next file) before old new fault
  prefix_then {next} {new} more =
      grind (arith, append_assoc, writes_holds, take-append-add, length-append, appended_twice)

-- ---- the bytes passed on so far

module _ (pass : Pass) where
  -- before the first step nothing was passed on, and all bytes are still to come
  pub up_to_begun : (whole : List ℕ → List ℕ) (waiting : List ℕ) {files : Files}
      → IsFileThere files pass.output.now → WritesUpTo pass whole whole waiting waiting files files
  up_to_begun whole waiting {files} there = record {
    made = λ file. [];
    written = writes_nothing pass waiting there (λ file holds. refl);
    left = λ file holds. refl;
  }

module _ {pass : Pass} (apart : pass.input.now ≢ pass.output.now) {whole rest : List ℕ → List ℕ}
    {before mid : List ℕ} {old now : Files}
    (sofar : WritesUpTo pass whole rest before mid old now) where
  -- the input held what it holds
  pub up_to_held : (file : List ℕ) → Holds now pass.input.now file → Holds old pass.input.now file
  up_to_held file holds = writes_held apart sofar.written file holds

  module _ (next later : List ℕ → List ℕ) (is : (file : List ℕ) → Holds old pass.input.now file
      → rest file ≡ next file ++ later file) where
    both : (file : List ℕ) → Holds old pass.input.now file
        → whole file ≡ (sofar.made file ++ next file) ++ later file
    both file holds = grind (arith, append_assoc)

    -- one more step passes on more of the bytes
    pub up_to_more : {after : List ℕ} {new : Files} → WritesMadeBytes pass next mid after now new
        → WritesUpTo pass whole later before after old new
    up_to_more step = record {
      made = λ file. sofar.made file ++ next file;
      written = writes_then apart sofar.written step;
      left = both;
    }

    -- if that step failed, a prefix of the bytes was passed on
    pub up_to_prefix : {new : Files} {fault : PassFault} → WritesPrefix pass next mid now new fault
        → WritesPrefix pass whole before old new fault
    up_to_prefix part = prefix_as pass whole later both (prefix_then apart sofar.written part)

  -- if none are still to come, all of them were passed on
  pub up_to_end : ((file : List ℕ) → Holds old pass.input.now file → rest file ≡ [])
      → WritesMadeBytes pass whole before mid old now
  up_to_end none = grind (arith, writes_as, append-nil)

  -- the last step:
  module _ {next : List ℕ → List ℕ}
      (is : (file : List ℕ) → Holds old pass.input.now file → rest file ≡ next file) where
    -- with the last step all of them were passed on
    pub up_to_last : {after : List ℕ} {new : Files} → WritesMadeBytes pass next mid after now new
        → WritesMadeBytes pass whole before after old new
    up_to_last step = grind (arith, writes_as, writes_then apart sofar.written step)

    -- if that step failed, a prefix of them was passed on
    pub up_to_last_prefix : {new : Files} {fault : PassFault}
        → WritesPrefix pass next mid now new fault → WritesPrefix pass whole before old new fault
    up_to_last_prefix part = up_to_prefix next (λ file. [])
        (λ file holds. is file holds ∙ sym (append-nil (next file))) part

-- ---- what waits is appended at the end

module _ {pass : Pass} {made : List ℕ → List ℕ} {waiting : List ℕ} {old now new : Files}
    (step : WritesMadeBytes pass made [] waiting old now) where
  -- if what waited was appended, all was
  pub writes_all : new ≡ with_appended_bytes now pass.output.now waiting
      → AppendsMadeBytes pass.input.now pass.output.now made old new
  writes_all is = grind (arith, appended_twice)

  -- if a prefix of it was, a prefix of all bytes was
  pub writes_end : {fault : PassFault} → AppendedPrefix pass.output.now waiting now new
      → AppendsPrefix pass.input.now pass.output.now made old new fault
  writes_end part = grind (arith, length-append, length-take, take-append-add, appended_twice)

-- bytes written when nothing waited before
pub writes_behind_none : {pass : Pass} {made : List ℕ → List ℕ} {before after : List ℕ}
    {old new : Files} → before ≡ [] → WritesMadeBytes pass made before after old new
    → WritesMadeBytes pass made [] after old new
writes_behind_none {pass} {made} {before} {after} {old} {new} none step = grind arith

-- a part that was appended when nothing waited before is only a prefix
pub part_behind_none : {input output : List ℕ} {made : List ℕ → List ℕ} {before : List ℕ}
    {old new : Files} {fault : PassFault} → before ≡ []
    → AppendsPart input output made before old new fault
    → AppendsPrefix input output made old new fault
part_behind_none {input} {output} {made} {before} {old} {new} {fault} none part = grind arith

-- ---- counts and causes

-- the cause of a fault of reading is a cause of the pass
pub read_cause : (way : Route) (files : Files) (before after : Counts) (fault : ReadFault)
    → HasReadCause way.input way.size files before after fault
    → HasPassCause way files before after (pass_fault_of fault)
read_cause way files before after fault cause = grind arith

-- a fault of reading is no fault of writing
pub read_kind : (fault : ReadFault) → IsReadPassFault (pass_fault_of fault)
read_kind fault = grind arith

-- a cause after a step that succeeded is a cause of both steps
pub cause_later : (way : Route) (old : Files) {now : Files} (output more : List ℕ)
    {before mid : Counts} (after : Counts)
    (fault : PassFault) → now ≡ with_appended_bytes old output more → mid ≡ before
    → HasPassCause way now mid after fault → HasPassCause way old before after fault
cause_later way old output more after fault grown same cause = grind (arith, appended_told)

-- a result's cause after a step that succeeded is a cause of both steps
pub causes_later : {T : Type 0} (r : Result T PassFault) (way : Route) (old now : Files)
    (output more : List ℕ) (before mid after : Counts) → now ≡ with_appended_bytes old output more
    → mid ≡ before → IfErr r (HasPassCause way now mid after)
    → IfErr r (HasPassCause way old before after)
causes_later r way old now output more before mid after grown same cause =
    grind (arith, cause_later)

-- after bytes that were passed on:
module _ {pass : Pass} {made : List ℕ → List ℕ} {before mid : List ℕ} {old now : Files}
    (step : WritesMadeBytes pass made before mid old now) (way : Route)
    {then between : Counts} (after : Counts)
    (same : between ≡ then) where
  -- the cause of a later fault is a cause of the whole
  pub cause_behind : (fault : PassFault) → HasPassCause way now between after fault
      → HasPassCause way old then after fault
  cause_behind fault cause = grind (arith, cause_later)

  -- the cause of a later result's fault is a cause of the whole
  pub causes_behind : {T : Type 0} (r : Result T PassFault)
      → IfErr r (HasPassCause way now between after) → IfErr r (HasPassCause way old then after)
  causes_behind r cause = causes_later r way old now pass.output.now step.passed.passed
      then between after step.passed.files same cause

-- ---- bytes from one offset to another

-- the bytes between two offsets are the first `n` of them and those that follow
pub between_split : (file : List ℕ) (at n to : ℕ) → at + n ≤ to
    → bytes_between file at to ≡ take n (drop at file) ++ bytes_between file (at + n) to
between_split file at n to within =
    let sum : to - at ≡ n + (to - (at + n)) = omega (arith, within) in
    ap (λ k. take k (drop at file)) sum
    ∙ take-add n (to - (at + n)) (drop at file)
    ∙ ap (λ (l : List ℕ). take n (drop at file) ++ take (to - (at + n)) l) (drop-drop n at file)

-- ---- bytes of the input that are copied

-- the bytes before `at` were passed on, and all is ready for the others
pub record CopiesUpTo (pass : Pass) (from at to : ℕ) (before mid : List ℕ) (fed : Fed)
    (old now : Seen) : Type 0 where
  pub in_range : at ≤ to
  pub up_to : WritesUpTo pass (λ file. bytes_between file from to)
      (λ file. bytes_between file at to)
      before mid old.files now.files
  pub ready : IsPassReady pass now.files fed
  pub done : now.counts ≡ old.counts

-- before the first of them nothing was passed on, and all is ready
pub copies_begun : {pass : Pass} {from to : ℕ} (waiting : List ℕ) {fed : Fed} {old : Seen} → from
    ≤ to → IsPassReady pass old.files fed → CopiesUpTo pass from from to waiting waiting fed old old
copies_begun {pass} {from} {to} waiting {old = old} ordered ready = record {
  in_range = ordered;
  up_to = up_to_begun pass (λ file. bytes_between file from to) waiting ready.target;
  ready = ready;
  done = refl;
}

-- one more piece:
module _ {pass : Pass} {from at to : ℕ} {before mid after : List ℕ} {fed next : Fed}
    {old now new : Seen}
    (copied : CopiesUpTo pass from at to before mid fed old now) (n : ℕ)
    (within : at + n ≤ to) where
  -- a piece that was copied takes the copy one piece further
  pub copies_more : {T : Type 0} {x : T}
      → PassMakes pass (bytes_at at n) mid after next now new (Ok x)
      → CopiesUpTo pass from (at + n) to before after next old new
  copies_more made = record {
    in_range = within;
    up_to = up_to_more copied.ready.apart copied.up_to (bytes_at at n)
        (λ file. bytes_between file (at + n) to)
        (λ file holds. between_split file at n to within) made.written;
    ready = made.ready;
    done = made.done ∙ copied.done;
  }

  -- if a piece failed, the copy fails with a prefix of the whole
  pub copies_failed : {S T : Type 0} {fault : PassFault} (result : Result S PassFault)
      (last : List ℕ) (held : Fed) → IsErrAnd result (λ e. e ≡ fault)
      → PassMakes {T = T} pass (bytes_at at n) mid after next now new (Err fault)
      → PassMakes pass (λ file. bytes_between file from to) before last held old new result
  copies_failed (Ok x) last held is made = absurd is
  copies_failed (Err e) last held is made = record {
    written = tt;
    prefix = subst (WritesPrefix pass
        (λ file. bytes_between file from to) before old.files new.files) (sym is)
        (up_to_prefix copied.ready.apart copied.up_to (bytes_at at n)
        (λ file. bytes_between file (at + n) to)
        (λ file holds. between_split file at n to within) made.prefix);
    done = tt;
    cause = subst (HasPassCause (route_of pass) old.files old.counts new.counts) (sym is)
        (cause_behind copied.up_to.written (route_of pass) new.counts copied.done _ made.cause);
    ready = tt;
  }
