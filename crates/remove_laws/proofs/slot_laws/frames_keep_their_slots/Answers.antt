-- The plan gives each item its slot, and the items are the frames and lead-ins of the parts.
use Rattle.remove_laws.proofs.SlotLemmas.{keep-slots}
use Rattle.remove_laws.proofs.slot_laws.frames_keep_their_slots.Goals as goal

pub returns : goal.returns
returns c = keep-slots
