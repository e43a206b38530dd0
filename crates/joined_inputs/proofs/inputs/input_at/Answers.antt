-- The input is the first of the inputs from its number on.
use Rattle.joined_inputs.{proofs.StepLemmas.map-next, specs.Inputs.input_view}
use Rattle.joined_inputs.proofs.inputs.input_at.Goals as goal

pub returns : goal.returns
returns c = map-next input_view
    c.args.inputs.now c.requires c.index-inputs-number.is
