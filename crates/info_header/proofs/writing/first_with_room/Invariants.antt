-- No slot so far has room.
use Rattle.std.proofs.Common.{drop, ◌≡◌}
use Rattle.info_header.specs.InfoFrame.{first_with_room}
use Rattle.info_header.proofs.writing.first_with_room.Given as goal

abbrev pub invariant-loop-slot : goal.invariant-loop-slot
invariant-loop-slot l =
    first_with_room l.class l.slots ≡ first_with_room l.class (drop l.slot-index l.slots)
