-- What is prepared for a seamless join before its output is created.
use Rattle.std.specs.Prelude.{List, map, None, vec_items, ℕ, [], ◌≡◌}
use Rattle.commands.specs.SingleOutput.{most_frames}
use Rattle.joined_inputs.specs.Inputs.{AreJoinInputs, CanInputsBeJoined, input_names, input_view}
use Rattle.joined_inputs.specs.Inputs.{InputFields}
use Rattle.outside.specs.Files.{Files}
use Rattle.seamless_edits.specs.Beginnings.{AreBeginnings, input_without_head}
use Rattle.seamless_edits.specs.{Deciding.IsSpliceDecided, LostFrames.lost_in_input}
use Rattle.seamless_edits.specs.{SpliceReady.IsSpliceReady, declared.beginnings.Beginning.Beginning}
use Rattle.seamless_edits.specs.declared.seamless_file.{MadeSplice.MadeSplice, Ready.Ready}

-- this was decided about inputs whose heads are set apart, and the splice and the text are prepared
pub record IsSpliceMade (files : Files) (inputs : List InputFields) (bs : List Beginning)
    (made : MadeSplice) : Type 0 where
  pub decided : IsSpliceDecided files inputs bs made.decided
  pub splice : IsSpliceReady inputs bs made.decided made.work
  pub unsaid : made.sending ≡ []

-- the inputs are there with their surveys, the heads were set apart, and the splice is prepared
pub record IsSeamlessReady (names : List (List ℕ)) (files : Files) (ready : Ready) : Type 0 where
  pub found : List InputFields
  pub bs : List Beginning
  pub named : input_names found ≡ names
  pub are : AreJoinInputs None most_frames files found
  pub joined : CanInputsBeJoined found
  pub begun : AreBeginnings files found bs
  pub inputs : map input_view ready.inputs.items ≡ map input_without_head found
  pub lost : map vec_items ready.lost.items ≡ map lost_in_input found
  pub made : IsSpliceMade files (map input_without_head found) bs ready.made
