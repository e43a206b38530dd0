-- The offset of the next frame that has an entry, and the entries so far.
use Rattle.std.proofs.Common.{length, slice_index, take, ℕ, ◌*◌, ◌+◌, ◌/◌, ◌<◌, ◌≡◌, ◌≤◌}
use Rattle.info_header.specs.{FileInfo.frames_length, Info.seek_table_entry}
use Rattle.info_header.proofs.file_info.table_over.Given as goal

abbrev pub invariant-loop-i : goal.invariant-loop-i
invariant-loop-i g l = record {
  many : length l.table ≡ 100;
  early : l.at ≤ l.i * length l.frames / 100;
  bytes : l.offset ≡ l.before + frames_length l.class g.F.InSlot.slot_of (take l.at l.frames);
  most : l.offset ≤ l.before + 1441 * l.at;
  entries : (k : ℕ) → k < l.i → slice_index l.table k ≡ seek_table_entry (l.before
      + frames_length l.class g.F.InSlot.slot_of (take (k * length l.frames / 100) l.frames))
      l.bytes;
}
