-- The file that a fault is about, by its number among the inputs.
use Rattle.std.proofs.Common.{List, refl, slice_index_or, sym, ℕ, [], ◌∙◌, ◌∷◌, ◌≡◌}
use Rattle.commands.proofs.WhyLemmas.{each_why}
use Rattle.commands.specs.AfterCall.{HasPassNumbers, input_of, InputEndsEarly, why_of}
use Rattle.commands.specs.SingleOutput.{first_input, IsPassFault, LosesInput, MissesAt}
use Rattle.commands.specs.{SingleOutput.ReadsNothing, declared.fault.EditFault.EditFault}
use Rattle.commands.specs.declared.fault.EditFault.TheVariants.{Input}
use Rattle.outside.specs.{Counts.HappenedTo, Seen.Seen}

module _ (inputs : List (List ℕ)) {number : ℕ} {name : List ℕ}
    (named : name ≡ slice_index_or inputs number []) {old new : Seen} {fault : EditFault} where
  -- a call that missed a file counts a miss of the input that the fault names
  pub missed_name : MissesAt number name old new fault
      → HappenedTo (input_of inputs fault) old.counts.misses new.counts.misses
  missed_name h = rw (h.is, ← named) h.rose

  -- a call that couldn't read a file counts a failed read of the input that the fault names
  pub unread_name : ReadsNothing number name old new fault
      → HappenedTo (input_of inputs fault) old.counts.read_faults new.counts.read_faults
  unread_name h = rw (h.is, ← named) h.rose

  -- a call that found a file shorter names the input that became shorter
  pub lost_name : LosesInput number name old new fault → InputEndsEarly inputs old new fault
  lost_name h =
      rw h.is (record { rose = rw (← named) h.rose; counts = h.counts; untold = h.untold })

-- ---- a pass over the first input

-- the first input is the one with number 0
pub first_at : (inputs : List (List ℕ)) → first_input inputs ≡ slice_index_or inputs 0 []
first_at [] = refl
first_at (name ∷ inputs) = refl

-- the fault is about this input, whatever other inputs there are
source_name : (inputs : List (List ℕ)) {source : List ℕ} → first_input inputs ≡ source
    → (fault : EditFault) → HasPassNumbers fault
    → input_of (source ∷ []) fault ≡ input_of inputs fault
source_name inputs first (Input number f) is = rw is.0 (sym first ∙ first_at inputs)
source_name inputs first _ is = refl

-- a fault of the pass over this input is one of all inputs
pub among_all : (made : List ℕ → List ℕ) (inputs : List (List ℕ)) {source : List ℕ}
    → first_input inputs ≡ source → (output : List ℕ) (old new : Seen) (fault : EditFault)
    → HasPassNumbers fault → IsPassFault made (source ∷ []) output old new fault
    → IsPassFault made inputs output old new fault
among_all made inputs {source} first output old new fault numbers h =
    let named = source_name inputs first fault numbers in
    each_why (why_of fault) h (record {
      rejected = λ w. w;
      missing = λ w. w;
      unread = λ u. record { rose = rw named at u.rose; files = rw (← first) at u.files };
      shorter = λ l. record { rose = rw named at l.rose; counts = l.counts; untold = l.untold };
      unwritten = λ k w. (w.0, record { rose = w.1.rose; files = rw (← first) at w.1.files });
      unsent = λ w. w;
      no_memory = λ w. w;
    })
