-- The main data go no further than the areas.
use Rattle.info_laws.proofs.RoomLemmas.{data-fit}
use Rattle.info_laws.proofs.laws.main_data_fit.Goals as goal

pub returns : goal.returns
returns c = data-fit
