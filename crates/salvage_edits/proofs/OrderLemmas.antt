-- Gaps and emptied frames are each in order of offset, and the text of the report is the text of
-- what was read.
use Rattle.std.proofs.Common.{ap₂, arith, Bool, cond, false, length, List, map, None, refl, Some}
use Rattle.std.{proofs.Common.{sym, true, ℕ, [], ◌+◌, ◌∙◌, ◌∷◌, ◌≡◌, ◌≤◌}, specs.List.cons_option}
use Rattle.frame_header.specs.Tables.{class_of, length_of}
use Rattle.salvage.specs.{DamagedFiles.DamagedFields, EmptiedFrames.emptied_from}
use Rattle.salvage.specs.Progress.{GapsAreLaid, IsDamagedLaidOut}
use Rattle.salvage.specs.Text.{damage_lines, damage_text, line_offset, salvage_text}
use Rattle.salvage.specs.declared.{gap.Gap.Gap, mended.Emptied.Emptied}
use Rattle.salvage_edits.specs.{Ordered.{IsReportInOrder, report_text}, Ready.IsReportOf}
use Rattle.salvage_edits.specs.declared.report.Report.{Report}
use Rattle.sync_survey.proofs.OrderLemmas.{ordered_both, rises_from}
use Rattle.sync_survey.specs.Merge.{entries_left, firsts_left, seconds_left}
use Rattle.sync_survey.specs.{Order.{merged_list, RisesBy}, Row.Row, Survey.FramesAreLaid}
use Rattle.sync_survey.specs.declared.merge.{Entry.TheVariants.{First, Second}, Merge.Merge}

gaps-rise : (from to : ℕ) (gaps : List Gap) → GapsAreLaid from gaps to
    → RisesBy line_offset from (map First gaps)
gaps-rise from to [] laid = tt
gaps-rise from to (g ∷ gaps) laid = (
  laid.0,
  rises_from line_offset (map First gaps) (omega arith)
      (gaps-rise (g.offset + g.length) to gaps laid.2),
)

-- the frames that become empty ones are in order, also with others between them
emptied-more : {from : ℕ} (r : Row) (number : ℕ) (ls : List Emptied) (lost : Bool) → r.lost ≡ lost
    → from ≤ r.offset → RisesBy line_offset r.offset (map Second ls) → RisesBy line_offset from (map
    Second (cons_option (cond lost (Some (record { number = number; offset = r.offset })) None) ls))
emptied-more r number ls true is low rises = (low, rises)
emptied-more {from} r number ls false is low rises =
    rises_from line_offset (map Second ls) low rises

emptied-rise : (from to number : ℕ) (rows : List Row) → FramesAreLaid from rows to
    → RisesBy line_offset from (map Second (emptied_from number rows))
emptied-rise from to number [] laid = tt
emptied-rise from to number (r ∷ rows) laid =
    let size = length_of (class_of r.header) r.header.slot in
    emptied-more r number (emptied_from (number + 1) rows) r.lost refl laid.0
    (rises_from line_offset (map Second (emptied_from (number + 1) rows))
    (omega arith) (emptied-rise (r.offset + size) to (number + 1) rows laid.2))

-- the entries of a report are in order
pub reports-order : {d : DamagedFields} {r : Report} → IsDamagedLaidOut d → IsReportOf d r
    → IsReportInOrder r
reports-order {d} laid reports = record {
  gaps = rw reports.gaps (gaps-rise 0 d.survey.length d.gaps laid.gaps);
  emptied = rw reports.emptied
      (rises_from line_offset (map Second (emptied_from 0 d.survey.frames))
      (omega arith) (emptied-rise d.survey.first d.survey.length 0 d.survey.frames laid.frames));
}

-- the text of the report is the text of what was read
pub report-text-same : {d : DamagedFields} {r : Report} → IsReportOf d r
    → report_text (length d.survey.frames) r ≡ salvage_text d
report-text-same {d} reports =
    ap₂ (damage_text (length d.survey.frames)) reports.gaps reports.emptied

-- the lines of the report are its two lists, merged
lines-all : {r : Report} → IsReportInOrder r → damage_lines r.gaps.items r.emptied.items
    ≡ merged_list line_offset (map First r.gaps.items) (map Second r.emptied.items)
lines-all {r} order = ordered_both line_offset (map First r.gaps.items)
    (map Second r.emptied.items) 0 0 order.gaps order.emptied

-- a walk over the report begins with all its entries left
pub entries_left-all : (m : Merge Gap Emptied) {r : Report} → IsReportInOrder r
    → firsts_left m ≡ r.gaps.items → seconds_left m ≡ r.emptied.items
    → entries_left (λ g. g.offset) (λ e. e.offset) m ≡ damage_lines r.gaps.items r.emptied.items
unfolding entries_left
entries_left-all m {r} order gaps emptied =
    ap₂ (λ gs es. merged_list line_offset (map First gs) (map Second es)) gaps emptied
    ∙ sym (lines-all order)
