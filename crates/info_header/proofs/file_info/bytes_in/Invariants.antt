-- The bytes of the frames so far.
use Rattle.std.proofs.Common.{take, ◌*◌, ◌≡◌, ◌≤◌}
use Rattle.info_header.specs.FileInfo.{frames_length}
use Rattle.info_header.proofs.file_info.bytes_in.Given as goal

abbrev pub invariant-loop-frame : goal.invariant-loop-frame
invariant-loop-frame g l = record {
  sum : l.bytes ≡ frames_length l.class g.F.InSlot.slot_of (take l.frame-index l.frames);
  most : l.bytes ≤ 1441 * l.frame-index;
}
