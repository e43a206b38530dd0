-- The frames have a layout without a lead-in.
use Rattle.drill.proofs.NoLeadInLemmas.{streams-need_no_lead_in}
use Rattle.drill.proofs.stream_laws.streams_need_no_lead_in.Goals as goal

pub returns : goal.returns
returns c = streams-need_no_lead_in
