-- The frames so far have this rate.
use Rattle.std.{proofs.Common.{take, true, ◌==◌, ◌≡◌}, specs.List.list_all}
use Rattle.info_header.specs.FileInfo.{bit_rate_of}
use Rattle.info_header.proofs.file_info.have_rate.Given as goal

abbrev pub invariant-loop-frame : goal.invariant-loop-frame
invariant-loop-frame g l =
    list_all (λ frame. bit_rate_of l.class g.F.InSlot.slot_of frame == l.rate)
    (take l.frame-index l.frames) ≡ true
