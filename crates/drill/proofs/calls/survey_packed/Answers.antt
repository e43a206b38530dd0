-- The packed file is there, and it was surveyed.
use Rattle.std.proofs.Common.{arith, ◌<◌}
use Rattle.drill.{proofs.PackedLemmas.packed-there, specs.Drilled.packed_file}
use Rattle.drill.proofs.calls.survey_packed.Goals as goal

pub returns-in-Ok-survey : goal.returns-in-Ok-survey
returns-in-Ok-survey c =
    let some : 0 < c.args.count = omega (arith, c.requires.some) in
    c.in-Ok-survey.ensures.exact (packed_file c.args.seed c.args.count)
    (packed-there c.args.seed some
    c.requires.few c.args.stream.now c.args.packed.now c.in_ok-folder.ensures.stream
    c.in-Ok.ensures.done.made)
