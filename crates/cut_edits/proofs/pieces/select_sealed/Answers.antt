-- The extension that is kept is the extension of the sealed fields, so the bytes are those of the
-- Info frame.
use Rattle.std.proofs.Common.{ap, ap₂, arith, drop, List, map, Option, sym, take, ℕ, ◌+◌, ◌∙◌}
use Rattle.cut_edits.{proofs.SealedLemmas.{for-whole, sealed-read}, specs.Exact.row_sealed_part}
use Rattle.exact_span.specs.TagWord.{text_offset}
use Rattle.frame_header.specs.Fields.{ClassFields}
use Rattle.info_header.specs.InfoFrame.{info_frame}
use Rattle.laying.{proofs.LaidLemmas.{first-there, laid-slots}, specs.Laid.{frames_laid, laid_part}}
use Rattle.laying.specs.Written.{info_for}
use Rattle.slot_plan.specs.{Plans.entries, declared.needs.Placed.Placed}
use Rattle.sync_survey.specs.{Faults.survey_view, Row.Row}
use Rattle.cut_edits.proofs.pieces.select_sealed.Goals as goal

abbrev kept_at : ClassFields → List ℕ → List ℕ
kept_at class bytes = take 36 (drop (text_offset class + 120) bytes)

pub returns-clause-laid : goal.returns-clause-laid
returns-clause-laid c = λ file has.
    let s = survey_view c.args.survey.now in
    let plain = laid_part c.args.from c.args.to c.args.kept (entries c.args.plan) in
    let there =
    first-there s.frames c.args.from (omega (arith, c.requires.some, c.requires.within)) in
    let first = there.0 in
    let slots = laid-slots plain has c.requires.some c.requires.within c.requires.fitting
    ∙ sym (ap (map (λ (p : Placed). p.slot)) c.placed.ensures) in
    let bytes =
    c.sealed_info_bytes-info.ensures.bytes first (frames_laid plain file s) there.1 slots in
    let whole =
    for-whole s.class (frames_laid plain file s) plain.quality c.has_all.ensures in
    let read =
    c.extension_in-extension.ensures ∙ ap₂ kept_at c.class.ensures c.as_slice.ensures.value
    ∙ sealed-read first.header
    whole (c.requires.placed c.args.from first there.1).class_is bytes in
    ap (λ (e : List ℕ). record {
      from = plain.from;
      to = plain.to;
      placed = plain.placed;
      quality = plain.quality;
      extension =
          e;
    }) read
    ∙ sym (ap (λ (o : Option Row). row_sealed_part o plain file s) there.1)

pub returns-clause-writable : goal.returns-clause-writable
returns-clause-writable c = record {
  some = c.requires.some;
  within = c.requires.within;
  fits = c.requires.fitting.fits;
  info = λ file has first found.
      let s = survey_view c.args.survey.now in
      let plain = laid_part c.args.from c.args.to c.args.kept (entries c.args.plan) in
      let frames = frames_laid plain file s in
      let slots = laid-slots plain has c.requires.some c.requires.within c.requires.fitting
      ∙ sym (ap (map (λ (p : Placed). p.slot)) c.placed.ensures) in
      let bytes = c.sealed_info_bytes-info.ensures.bytes first frames found slots in
      let whole = for-whole s.class frames plain.quality c.has_all.ensures in
      let read =
      c.extension_in-extension.ensures ∙ ap₂ kept_at c.class.ensures c.as_slice.ensures.value
      ∙ sealed-read first.header
      whole (c.requires.placed c.args.from first found).class_is bytes in
      bytes ∙ ap (λ (e : List ℕ). info_frame first.header (info_for s.class frames plain.quality e))
      (sym read);
}
