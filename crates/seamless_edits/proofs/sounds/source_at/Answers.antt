-- The input is at its place.
use Rattle.std.proofs.Common.{refl}
use Rattle.joined_inputs.specs.Inputs.{input_view}
use Rattle.laying.proofs.RelayLemmas.{found-at}
use Rattle.seamless_edits.proofs.FramePlaceLemmas.{map-get}
use Rattle.seamless_edits.proofs.sounds.source_at.Goals as goal

pub returns : goal.returns
returns c = record {
  item = input_view c.index-inputs-place.result;
  at = map-get input_view c.args.inputs.now c.args.place
      (found-at c.args.inputs.now c.requires
      c.index-inputs-place.is);
  name = refl;
  survey = refl;
}
