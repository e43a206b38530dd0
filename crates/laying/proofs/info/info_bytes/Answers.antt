-- The fields are those for the slots, whichever frames have them.
use Rattle.std.proofs.{Common.{ap, ap₂, get_or, List, ◌∙◌}, lemmas.Option.get_or_from_slice_get}
use Rattle.frame_header.specs.Fields.{ClassFields}
use Rattle.info_header.specs.InfoFrame.{info_frame}
use Rattle.laying.specs.Written.{info_for}
use Rattle.sync_survey.specs.{Faults.survey_view, Row.Row}
use Rattle.laying.proofs.info.info_bytes.Goals as goal

pub returns : goal.returns
returns c = λ first frames found slots.
    let kept = c.args.kept.now in
    let row = ap (λ (l : List Row). get_or l c.args.from c.index-frames-from.result)
    c.frames.ensures
    ∙ get_or_from_slice_get (survey_view c.args.survey.now).frames c.args.from first
    c.index-frames-from.result found in
    c.write_info.ensures
    ∙ ap₂ info_frame (c.header.ensures ∙ ap (λ (r : Row). r.header) (c.index-frames-from.is ∙ row))
    (c.info_for-fields.ensures.info frames slots
    ∙ ap (λ (k : ClassFields). info_for k frames kept.quality kept.extension) c.class.ensures)
