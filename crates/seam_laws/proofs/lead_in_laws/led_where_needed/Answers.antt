-- With the lead-in that it needs, the plan is the led plan.
use Rattle.seam_laws.proofs.LedLemmas.{led-needed}
use Rattle.seam_laws.proofs.lead_in_laws.led_where_needed.Goals as goal

pub returns : goal.returns
returns c = led-needed
