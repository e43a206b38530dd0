-- Each line is the line of the survey.
use Rattle.std.{proofs.Common.{ap, ap₂, length, refl, [], ◌∙◌}, specs.Option.option_copied}
use Rattle.std.specs.Prelude.{if◌then◌else◌}
use Rattle.frame_header.specs.Fields.{ClassFields}
use Rattle.list_edits.proofs.InfoLemmas.{all-lines, gains-said}
use Rattle.list_edits.specs.InfoText.{but_line, class_line, gain_lines, info_lines, is_as_said}
use Rattle.list_edits.specs.InfoText.{main_data_line, played_line, rates_line}
use Rattle.list_edits.specs.Totals.{stream_length}
use Rattle.moved_gains.specs.GainExtremes.{extremes_of, extremes_of_both}
use Rattle.sync_survey.specs.Faults.{survey_view}
use Rattle.list_edits.proofs.info_lines.info_lines.Goals as goal

pub returns : goal.returns
unfolding info_lines
returns c =
    let s = survey_view c.args.survey.now in
    let rows = s.frames in
    let head = option_copied c.args.head in
    let count = length rows in
    let totals = c.totals_in-totals.ensures in
    let counted = ap length c.frames-count.ensures in
    let bytes = stream_length s in
    let channels = ap (λ (k : ClassFields). k.channels) (c.class.view_is ∙ c.class-class.ensures) in
    all-lines
    (is_as_said head count bytes) (but_line count bytes)
    (gain_lines s.class.channels (extremes_of 0 rows) (extremes_of 1 rows) (extremes_of_both rows))
    (c.class_line.ensures ∙ ap class_line c.class-class.ensures)
    (c.frames_line.ensures ∙ rw (c.class-class.ensures, counted, totals.lost) refl)
    (c.rates_line.ensures ∙ ap₂ rates_line totals.least_rate totals.greatest_rate)
    (c.main_data_line.ensures ∙ ap₂ main_data_line totals.main_data c.areas_in.ensures)
    c.head_line.ensures
    (c.here_line.ensures
    ∙ ap₂ (λ n e. if is_as_said head n e then [] else but_line n e) counted c.stream_length.ensures)
    (c.played_line.ensures ∙ ap₂ (λ k n. played_line head k n) c.class-class.ensures counted)
    (c.gain_lines-left.ensures
    ∙ gains-said rows channels totals.left totals.right)
