-- Frames whose main data don't begin in the head.
use Rattle.sync_survey.proofs.ApartLemmas.{near-same}
use Rattle.sync_survey.proofs.laws.near_frames_stay.Goals as goal

pub returns : goal.returns
returns c = near-same
