-- What a report lists, in order of offset.
use Rattle.std.specs.Prelude.{List, map, ℕ}
use Rattle.salvage.specs.Text.{damage_text, line_offset}
use Rattle.salvage_edits.specs.declared.report.Report.{Report}
use Rattle.sync_survey.specs.{Order.RisesBy, declared.merge.Entry.TheVariants.{First, Second}}

-- gaps and emptied frames are each in order of offset
pub record IsReportInOrder (r : Report) : Type 0 where
  pub gaps : RisesBy line_offset 0 (map First r.gaps.items)
  pub emptied : RisesBy line_offset 0 (map Second r.emptied.items)

-- the text of a report
abbrev pub report_text : ℕ → Report → List ℕ
report_text frames r = damage_text frames r.gaps.items r.emptied.items
