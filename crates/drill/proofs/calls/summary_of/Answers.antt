-- What a survey finds in the packed file, and the length of the stream.
use Rattle.std.proofs.Common.{ap, arith, length, ◌*◌, ◌-◌, ◌<◌, ◌∙◌, ◌≡◌}
use Rattle.drill.proofs.PackedLemmas.{no-lead_ins, packed-frames, packed-length}
use Rattle.drill.{proofs.calls.summary_of.Goals.After-frames, specs.Drill.drill_stream}
use Rattle.drill.specs.Drilled.{lead_ins_in, packed_file, packed_plan}
use Rattle.drill.proofs.calls.summary_of.Goals as goal

-- the packed file has as many frames as the stream
found : (c : After-frames) → length c.frames.result.now ≡ c.args.count
found c = ap length c.frames.ensures ∙ packed-frames c.args.seed
    (omega (arith, c.requires.some)) c.requires.few
    c.in_ok-survey.ensures

pub overflow_sub-result : goal.overflow_sub-result
overflow_sub-result c =
    omega (arith, found (goal.at.overflow_sub-result c).After-frames, c.from-frames.ensures)

pub returns : goal.returns
returns c =
    let some : 0 < c.args.count = omega (arith, c.requires.some) in
    let found = found (goal.at.returns c).After-frames in
    let none : length c.frames.result.now - c.from-frames.result
    ≡ lead_ins_in (packed_plan c.args.seed c.args.count) =
    omega
    (arith, found, c.from-frames.ensures, no-lead_ins c.args.seed some c.requires.few)
    in
    let long : 417 * c.from-frames.result ≡ length (drill_stream c.args.seed c.args.count) =
    omega (arith, c.from-frames.ensures, c.streams_are_long.ensures c.args.seed c.args.count) in
    let size : c.length.result ≡ length (packed_file c.args.seed c.args.count) =
    c.length.ensures
    ∙ packed-length (packed_file c.args.seed c.args.count) c.in_ok-survey.ensures in
    cc
