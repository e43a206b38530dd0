-- The totals of frames that are met in order.
use Rattle.std.proofs.Common.{ap, ap₂, arith, Bool, drop, false, fold, get_or, length, List, max}
use Rattle.std.proofs.Common.{min, None, Option, refl, Some, sym, true, ℕ, [], ◌*◌, ◌+◌, ◌<◌, ◌∙◌}
use Rattle.std.proofs.{Common.{◌∷◌, ◌≡◌, ◌≤◌}, lemmas.List.Sums.sum_by-cons}
use Rattle.std.{proofs.lemmas.Option.slice_get_read, specs.List.filter}
use Rattle.std.specs.Prelude.{if◌then◌else◌, slice_get, sum_by}
use Rattle.frame_header.specs.Fields.{ClassFields}
use Rattle.list_edits.proofs.InfoLemmas.{greatest-again, least-again}
use Rattle.list_edits.specs.Totals.{AreTotals, greatest_rate, header_frame_length, least_rate}
use Rattle.list_edits.specs.Totals.{lost_count, main_data_in, no_headers, no_sides, row_areas}
use Rattle.list_edits.specs.Totals.{row_lengths, row_main_data, row_rate, row_rates, with_header}
use Rattle.list_edits.specs.{Totals.with_side, declared.totals.HeaderTotals.HeaderTotals}
use Rattle.list_edits.specs.declared.totals.SideTotals.{SideTotals}
use Rattle.moved_gains.proofs.CourseLemmas.{out_classed}
use Rattle.moved_gains.proofs.ExtremesLemmas.{extremes-cons, extremes-nil, joined_extremes-assoc}
use Rattle.moved_gains.proofs.ExtremesLemmas.{joined_extremes-None, moving-nil}
use Rattle.moved_gains.specs.GainExtremes.{extremes, extremes_of, joined_extremes, row_gains}
use Rattle.moved_gains.specs.{GainExtremes.side_gains, Moving.AreFramesOfClass}
use Rattle.moved_gains.specs.declared.gain_extremes.Gains.{Gains}
use Rattle.side_info.specs.Side.{payload_bytes}
use Rattle.sync_survey.specs.{Faults.SurveyFields, MainData.own_area, Row.Row}
use Rattle.sync_survey.specs.Survey.{IsSurveyLaidOut}

-- These frames of all are left, and those before them have these totals.
pub record AreBefore (rows rest : List Row) (h : HeaderTotals) (s : SideTotals) : Type 0 where
  pub areas : h.areas + row_areas rest ≡ row_areas rows
  pub lengths : h.lengths + row_lengths rest ≡ row_lengths rows
  pub least : fold min h.least_rate (row_rates rest) ≡ least_rate rows
  pub greatest : fold max h.greatest_rate (row_rates rest) ≡ greatest_rate rows
  pub lost : s.lost + lost_count rest ≡ lost_count rows
  pub main_data : s.main_data + main_data_in rest ≡ main_data_in rows
  pub left : joined_extremes s.left (extremes_of 0 rest) ≡ extremes_of 0 rows
  pub right : joined_extremes s.right (extremes_of 1 rest) ≡ extremes_of 1 rows

-- before the first frame all frames are left
all-left : {rows : List Row} {first : Row} {rate : ℕ} → slice_get rows 0 ≡ Some first
    → rate ≡ row_rate first → AreBefore rows rows (no_headers rate) no_sides
all-left {rows} {first} is same = record {
  areas = omega arith;
  lengths = omega arith;
  least = ap (λ (n : ℕ). fold min n (row_rates rows)) same ∙ least-again rows is;
  greatest = ap (λ (n : ℕ). fold max n (row_rates rows)) same ∙ greatest-again rows is;
  lost = omega arith;
  main_data = omega arith;
  left = refl;
  right = refl;
}

-- the totals before the first frame
pub at-first : {rows : List Row} {first : Row} {rate : ℕ} {h : HeaderTotals} {s : SideTotals}
    → 0 < length rows → first ≡ get_or rows 0 first → rate ≡ row_rate first → h ≡ no_headers rate
    → s ≡ no_sides → AreBefore rows rows h s
at-first {rows} {first} {rate} some is same header side =
    let there = slice_get_read rows (length rows) 0 first refl some is in
    let all = all-left there same in
    rw header (rw side all)

-- ---- one more frame

sum-more : (f : Row → ℕ) (row : Row) (rest : List Row) (so_far : ℕ) {all : ℕ}
    → so_far + sum_by f (row ∷ rest) ≡ all → (so_far + f row) + sum_by f rest ≡ all
sum-more f row rest so_far is = grind (arith, sum_by-cons)

lost-cons : (row : Row) (rest : List Row)
    → lost_count (row ∷ rest) ≡ (if row.lost then 1 else 0) + lost_count rest
lost-cons row rest = at row.lost (filter (λ (r : Row). r.lost) rest)
  where
    at : (lost : Bool) (others : List Row)
        → length (if lost then row ∷ others else others) ≡ (if lost then 1 else 0) + length others
    at true others = omega arith
    at false others = omega arith

gains-more : (channel : ℕ) (row : Row) (rest : List Row) (so_far : Option Gains) → joined_extremes
    (joined_extremes so_far (extremes (row_gains channel row))) (extremes_of channel rest)
    ≡ joined_extremes so_far (extremes_of channel (row ∷ rest))
gains-more channel row rest so_far = grind (arith, joined_extremes-assoc, extremes-cons)

before-more : {rows rest : List Row} {row : Row} {h : HeaderTotals} {s : SideTotals}
    → AreBefore rows (row ∷ rest) h s
    → AreBefore rows rest (with_header row.header h) (with_side row s)
before-more {rest = rest} {row = row} {s = s} before = record {
  areas = sum-more (λ (r : Row). own_area r.header) row rest _ before.areas;
  lengths = sum-more (λ (r : Row). header_frame_length r.header) row rest _ before.lengths;
  least = before.least;
  greatest = before.greatest;
  lost = grind (arith, lost-cons);
  main_data = sum-more row_main_data row rest _ before.main_data;
  left = gains-more 0 row rest s.left ∙ before.left;
  right = gains-more 1 row rest s.right ∙ before.right;
}

-- the totals before the next frame, with what this one adds
pub before-next : {rows : List Row} (i : ℕ) {row : Row} {h g : HeaderTotals} {s t : SideTotals}
    → drop i rows ≡ row ∷ drop (i + 1) rows → g ≡ with_header row.header h → t ≡ with_side row s
    → AreBefore rows (drop i rows) h s → AreBefore rows (drop (i + 1) rows) g t
before-next {rows} i {row} {h} {s = s} next header side before =
    let rest = drop (i + 1) rows in
    let now = rw next at before in
    let more = before-more now in
    rw header (rw side more)

-- ---- what a frame adds with its side information

-- what a lost frame adds
pub with-lost : (row : Row) (s : SideTotals) → row.lost ≡ true
    → record s { lost = s.lost + 1 } ≡ with_side row s
with-lost row s is =
    let none : (g : Option Gains) → g ≡ joined_extremes g (extremes []) =
    λ g. sym (joined_extremes-None g) ∙ ap (joined_extremes g) (sym extremes-nil) in
    let zero : s.main_data ≡ s.main_data + 0 = omega arith in
    rw is
    (ap (λ n. record s { lost = s.lost + 1; main_data = n }) zero
    ∙ ap₂ (λ (l r : Option Gains). record {
      lost = s.lost + 1;
      main_data = s.main_data + 0;
      left = l;
      right = r;
    }) (none s.left) (none s.right))

-- what any other frame adds
pub with-sound : (row : Row) (s : SideTotals) {bytes : ℕ} {left right : Option Gains}
    → row.lost ≡ false → bytes ≡ payload_bytes row.side → left ≡ extremes (side_gains 0 row.side)
    → right ≡ extremes (side_gains 1 row.side)
    → record {
      lost = s.lost;
      main_data = s.main_data + bytes;
      left = joined_extremes s.left left;
      right = joined_extremes s.right right;
    } ≡ with_side row s
with-sound row s {left = left} {right = right} is p q r =
    let zero : s.lost ≡ s.lost + 0 = omega arith in
    rw (is, p, q, r)
    (ap (λ n. record {
      lost = n;
      main_data = s.main_data + payload_bytes row.side;
      left = joined_extremes s.left (extremes (side_gains 0 row.side));
      right = joined_extremes s.right (extremes (side_gains 1 row.side));
    }) zero)

-- ---- the frames of a survey

-- all frames have the class of the survey
pub classed : {s : SurveyFields} → IsSurveyLaidOut s → {rows : List Row} {class : ClassFields}
    → rows ≡ s.frames → class ≡ s.class → AreFramesOfClass class rows
classed laid same is = grind (arith, out_classed)

-- ---- no frame is left

none-moves : (channel : ℕ) → extremes_of channel [] ≡ None
none-moves channel = ap extremes (moving-nil channel) ∙ extremes-nil

gains-all : (channel : ℕ) {so_far all : Option Gains}
    → joined_extremes so_far (extremes_of channel []) ≡ all → so_far ≡ all
gains-all channel is = grind (arith, joined_extremes-None, none-moves)

-- once no frame is left, these are the totals of all frames
pub all-met : {rows : List Row} {h : HeaderTotals} {s : SideTotals} → AreBefore rows [] h s
    → h.areas ≤ 1441 * length rows → h.lengths ≤ 1441 * length rows
    → AreTotals rows (record { headers = h; sides = s })
all-met {s = s} before few_areas few_lengths = record {
  areas = omega (arith, before.areas);
  few_areas = few_areas;
  lengths = omega (arith, before.lengths);
  few_lengths = few_lengths;
  least_rate = before.least;
  greatest_rate = before.greatest;
  lost = omega (arith, before.lost);
  main_data = omega (arith, before.main_data);
  left = gains-all 0 before.left;
  right = gains-all 1 before.right;
}
