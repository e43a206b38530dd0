-- The stretches before were seen.
use Rattle.std.proofs.Common.{drop, ◌≡◌}
use Rattle.exact_span.specs.Heard.{heard_of, joined_heard}
use Rattle.exact_span.proofs.hearing.heard.Given as goal

abbrev pub invariant-loop-frames : goal.invariant-loop-frames
invariant-loop-frames l =
    heard_of l.fn.class l.played l.written
    ≡ joined_heard l.heard (heard_of l.fn.class l.played (drop l.frames-index l.written))
