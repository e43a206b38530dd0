-- The drill command: a stream is made from a seed and packed, and a line says how long both are. No
-- file of any folder is read or written.
use Rattle.std.specs.Prelude.{Err, false, filter, length, List, Ok, Result, Some, ℕ, [], ◌∷◌}
use Rattle.commands.specs.{Command.Command, SingleOutput.made_file}
use Rattle.commands.specs.declared.fault.EditFault.{EditFault}
use Rattle.commands.specs.declared.fault.EditFault.TheVariants.{Memory, Sent as NotSent}
use Rattle.cut_edits.specs.Chosen.{all_choice, first_planning, laying_making}
use Rattle.drill.specs.{Drill.{drill_header, drill_stream}, StreamLaws.drill_needs}
use Rattle.drill.specs.{Summary.summary_text, declared.summary.Summary.Summary}
use Rattle.frame_header.specs.Tables.{window_of}
use Rattle.laying.specs.NeedsFit.{any_choice}
use Rattle.slot_plan.specs.{LeastPlan.least_plan, declared.needs.Placed.Placed}

-- what packing with the least slots makes of the stream
abbrev pub packing_of : ℕ → ℕ → Result (List ℕ) EditFault
packing_of seed count =
    made_file (laying_making all_choice (first_planning any_choice)) (drill_stream seed count)

-- the file that was made; empty if there is none
abbrev pub file_in : Result (List ℕ) EditFault → List ℕ
file_in (Ok file) = file
file_in (Err fault) = []

-- the packed file; that there is one is the law `DrillsArePacked`
unfoldable pub packed_file : ℕ → ℕ → List ℕ
packed_file seed count = file_in (packing_of seed count)

-- the slots of its frames: of all lists the first, in order of areas, for which there is a layout
abbrev pub packed_plan : ℕ → ℕ → List Placed
packed_plan seed count =
    least_plan (window_of drill_header.version) any_choice (drill_needs seed count ∷ [])

-- the lead-ins of a plan
abbrev pub lead_ins_in : List Placed → ℕ
lead_ins_in placed = length (filter (λ (p : Placed). p.lead_in) placed)

-- the numbers of the line
abbrev pub drill_summary : ℕ → ℕ → Summary
drill_summary seed count = record {
  frames = count;
  bytes_in = length (drill_stream seed count);
  bytes_out = length (packed_file seed count);
  lead_ins = lead_ins_in (packed_plan seed count);
}

-- the line of a seed and a count
unfoldable pub drill_text : ℕ → ℕ → List ℕ
drill_text seed count = summary_text (drill_summary seed count)

-- the text for the seed and the count, whatever files there are
abbrev pub drill_command : ℕ → ℕ → Command
drill_command seed count = record {
  inputs = [];
  outputs = [];
  sources = [];
  always = Some (drill_text seed count);
  keeps = false;
  makes = λ files. Ok (record { outputs = []; text = drill_text seed count });
  streams = λ files. [];
  refuses = λ refusal. false;
}

-- nothing is refused: the fault is out of memory, or a failed write to standard output
abbrev pub IsDrillFault : EditFault → Type 0
IsDrillFault NotSent = Unit {0}
IsDrillFault Memory = Unit {0}
IsDrillFault _ = ⊥
