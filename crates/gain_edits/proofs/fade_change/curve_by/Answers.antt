-- There are fewer frames than bytes.
use Rattle.std.proofs.Common.{arith}
use Rattle.moved_gains.proofs.CourseLemmas.{out_few}
use Rattle.gain_edits.proofs.fade_change.curve_by.Goals as goal

pub overflow_cast-frames : goal.overflow_cast-frames
overflow_cast-frames c = grind (arith, out_few c.requires.laid)
