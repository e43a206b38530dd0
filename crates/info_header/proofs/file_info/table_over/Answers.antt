-- One entry more.
use Rattle.std.proofs.Common.{ap, arith, drop, length, take, ◌*◌, ◌+◌, ◌-◌, ◌/◌, ◌∙◌, ◌≡◌, ◌≤◌}
use Rattle.std.proofs.lemmas.List.{length-drop, length-set, length-take-le}
use Rattle.info_header.proofs.FileInfoLemmas.{bytes-between, entries-more, offset-rises}
use Rattle.info_header.{proofs.FileInfoLemmas.place-within, specs.FileInfo.frames_length}
use Rattle.info_header.specs.Info.{seek_table_entry}
use Rattle.info_header.proofs.file_info.table_over.Goals as goal

pub loop-i-preserved : goal.loop-i-preserved
loop-i-preserved g c =
    let slot_of = g.F.InSlot.slot_of in
    let frames = c.args.frames.now in
    let i = c.loop-i.i in
    let at = c.loop-i.at in
    let next = i * length frames / 100 in
    let so_far = c.loop-i.invariant in
    let part = take (next - at) (drop at frames) in
    let bytes : c.loop-i.offset + c.bytes_in-offset.result
    ≡ c.args.before + frames_length c.args.class slot_of (take next frames) =
    omega (
      arith,
      so_far.bytes,
      c.bytes_in-offset.ensures.bytes,
      bytes-between c.args.class slot_of frames at next so_far.early,
    ) in
    let within : next ≤ length frames =
    place-within i (length frames) (omega (arith, c.loop-i-test.true)) in
    let many : length part ≡ next - at = length-take-le (next - at) (drop at frames)
    (omega (arith, length-drop at frames, within, so_far.early)) in
    record {
      many = length-set c.loop-i.table i c.entry.result ∙ so_far.many;
      early = offset-rises i (length frames);
      bytes = bytes;
      most = omega (arith, so_far.most, c.bytes_in-offset.ensures.most, many, so_far.early);
      entries =
          entries-more (λ k. c.args.before
          + frames_length c.args.class slot_of (take (k * length frames / 100) frames))
          c.args.bytes i
          c.entry.result c.loop-i.table so_far.many
          (omega (arith, c.loop-i-test.true))
          (c.entry.ensures ∙ ap (λ n. seek_table_entry n c.args.bytes) bytes) so_far.entries;
    }
