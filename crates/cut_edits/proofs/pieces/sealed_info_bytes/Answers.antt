-- The Info frame can be sealed, and then it is the Info frame of the sealed fields.
use Rattle.std.proofs.Common.{ap, ◌∙◌}
use Rattle.cut_edits.proofs.SealedLemmas.{info-room, sealed-is, sealed-room}
use Rattle.exact_span.specs.TagWord.{sealed_frame}
use Rattle.frame_header.specs.Fields.{ClassFields}
use Rattle.sync_survey.specs.Faults.{survey_view}
use Rattle.cut_edits.proofs.pieces.sealed_info_bytes.Goals as goal

pub seal-requires : goal.seal-requires
seal-requires c =
    let s = survey_view c.args.survey.now in
    let kept = c.args.kept.now in
    rw (c.class.ensures)
    (info-room s c.requires.well c.requires.within c.args.placed.now kept.quality
    kept.extension c.has_all.ensures c.info_bytes-info.ensures)

pub returns-clause-room : goal.returns-clause-room
returns-clause-room c =
    let s = survey_view c.args.survey.now in
    let kept = c.args.kept.now in
    sealed-room s c.requires.well c.requires.within c.args.placed.now kept.quality
    kept.extension c.has_all.ensures c.info_bytes-info.ensures (c.seal.ensures
    ∙ ap (λ (k : ClassFields). sealed_frame k c.info_bytes-info.result.items) c.class.ensures)

pub returns-clause-bytes : goal.returns-clause-bytes
returns-clause-bytes c =
    let s = survey_view c.args.survey.now in
    let kept = c.args.kept.now in
    sealed-is s c.requires.well c.requires.within c.args.placed.now kept.quality
    kept.extension c.has_all.ensures c.info_bytes-info.ensures (c.seal.ensures
    ∙ ap (λ (k : ClassFields). sealed_frame k c.info_bytes-info.result.items) c.class.ensures)
