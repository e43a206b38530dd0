-- Why inputs can't be read before there is an output.
use Rattle.std.proofs.Common.{arith, IfErr, length, List, slice_index_or, subst, ℕ, [], ◌<◌, ◌≡◌}
use Rattle.commands.proofs.{NamedLemmas.{lost_name, unread_name}, WhyLemmas.each_why}
use Rattle.commands.specs.{AfterCall.IsNotBefore, PassFaults.pass_edit_fault}
use Rattle.commands.specs.SingleOutput.{IsEarlyFault, NeedsMemory, Task}
use Rattle.commands.specs.declared.fault.EditFault.{EditFault}
use Rattle.joined_inputs.specs.{Inputs.HasJoinNumbers, declared.stopped.Stopped.Stopped}
use Rattle.outside.specs.{Counts.Counts, Files.{Files, IfTold}, Seen.Seen}
use Rattle.seamless_edits.specs.Reading.{IsInputReadFault, StopsAmongInputs, StopsAtInput}

-- a pass over one input that ended early is a pass over one of all inputs that did
pub stops-among : {inputs : List (List ℕ)} {place : ℕ} {name : List ℕ} {files : Files}
    {before after : Counts} {stopped : Stopped} → place < length inputs
    → name ≡ slice_index_or inputs place [] → StopsAtInput place name files before after stopped
    → StopsAmongInputs inputs files before after stopped
stops-among within named stops = grind arith

-- such a fault is one of reading the inputs
pub stops-fault : {inputs : List (List ℕ)} {old new : Seen} {stopped : Stopped}
    → new.files ≡ old.files → StopsAmongInputs inputs old.files old.counts new.counts stopped
    → IsInputReadFault inputs old new (pass_edit_fault stopped.number 0 stopped.fault)
stops-fault files is = grind arith

-- the numbers of such a fault are in range
pub stops-numbers : {inputs : List (List ℕ)} {count : ℕ} {files : Files} {before after : Counts}
    {stopped : Stopped} → length inputs ≡ count → StopsAmongInputs inputs files before after stopped
    → HasJoinNumbers count (pass_edit_fault stopped.number 0 stopped.fault)
stops-numbers many is = grind arith

-- a fault of reading stays one if more was read before
pub fault-later : (inputs : List (List ℕ)) {old mid : Seen} (new : Seen) (fault : EditFault)
    → mid ≡ old → IsInputReadFault inputs mid new fault → IsInputReadFault inputs old new fault
fault-later inputs new fault same = subst (λ s. IsInputReadFault inputs s new fault) same

-- A fault of reading is one met before the output was created, if the files aren't refused and the
-- first input is there with a length that it may have.
pub read-early : (task : Task) {old new : Seen} (fault : EditFault)
    → (new ≡ old → NeedsMemory task.source old new)
    → IfTold old.files (λ f. IfErr (task.makes f) (IsNotBefore fault))
    → IsInputReadFault task.inputs old new fault → IsEarlyFault task old new fault
read-early task fault memory before h = grind (arith, each_why, unread_name, lost_name)
