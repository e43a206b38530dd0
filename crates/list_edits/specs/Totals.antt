-- Totals over the frames of a file.
use Rattle.std.specs.List.{filter, reduce}
use Rattle.std.specs.Prelude.{if◌then◌else◌, length, List, map, max, min, None, Option, Some}
use Rattle.std.specs.Prelude.{sum_by, unwrap_or, ℕ, ◌*◌, ◌+◌, ◌≡◌, ◌≤◌}
use Rattle.frame_header.specs.{Fields.HeaderFields, Tables.{class_of, length_of, rate_of}}
use Rattle.list_edits.specs.declared.totals.{HeaderTotals.HeaderTotals, SideTotals.SideTotals}
use Rattle.list_edits.specs.declared.totals.Totals.{Totals}
use Rattle.moved_gains.specs.GainExtremes.{extremes, extremes_of, joined_extremes, row_gains}
use Rattle.side_info.specs.Side.{payload_bytes}
use Rattle.sync_survey.specs.{Faults.SurveyFields, MainData.{head_area, own_area}, Row.Row}
use Rattle.sync_survey.specs.declared.places.Head.{Head}

-- ---- frames and their main data

-- how many of these frames are lost
abbrev pub lost_count : List Row → ℕ
lost_count rows = length (filter (λ (r : Row). r.lost) rows)

-- ---- bit rates in kbit/s

-- the bit rate of a frame in kbit/s
abbrev pub row_rate : Row → ℕ
row_rate r = rate_of (class_of r.header) r.header.slot

-- the bit rates of these frames in kbit/s
abbrev pub row_rates : List Row → List ℕ
row_rates rows = map row_rate rows

-- the least bit rate of the frames, of which there is at least one
abbrev pub least_rate : List Row → ℕ
least_rate rows = unwrap_or (reduce min (row_rates rows)) 0

-- the greatest bit rate of the frames, of which there is at least one
abbrev pub greatest_rate : List Row → ℕ
greatest_rate rows = unwrap_or (reduce max (row_rates rows)) 0

-- ---- bytes

-- the bytes of main data of a frame; a lost one has none
abbrev pub row_main_data : Row → ℕ
row_main_data r = if r.lost then 0 else payload_bytes r.side

-- the bytes of main data of all these frames
abbrev pub main_data_in : List Row → ℕ
main_data_in rows = sum_by row_main_data rows

-- the bytes of the areas of these frames
abbrev pub row_areas : List Row → ℕ
row_areas rows = sum_by (λ (r : Row). own_area r.header) rows

-- the bytes of the areas of the head and of all frames, which the file's main data can fill
abbrev pub file_areas : SurveyFields → ℕ
file_areas s = head_area s.head + row_areas s.frames

-- the length of a frame with this header, from the header to the end of its area
abbrev pub header_frame_length : HeaderFields → ℕ
header_frame_length h = length_of (class_of h) h.slot

-- the length of the head in bytes
abbrev pub head_length : Option Head → ℕ
head_length None = 0
head_length (Some head) = header_frame_length head.header

-- the length of these frames together in bytes
abbrev pub row_lengths : List Row → ℕ
row_lengths rows = sum_by (λ (r : Row). header_frame_length r.header) rows

-- the length of the head and all frames in bytes
abbrev pub stream_length : SurveyFields → ℕ
stream_length s = head_length s.head + row_lengths s.frames

-- ---- the totals of a walk over frames

-- the totals of headers before the first frame, which has this bit rate
abbrev pub no_headers : ℕ → HeaderTotals
no_headers rate = record { areas = 0; lengths = 0; least_rate = rate; greatest_rate = rate }

-- the totals of side information before the first frame
abbrev pub no_sides : SideTotals
no_sides = record { lost = 0; main_data = 0; left = None; right = None }

-- the totals of headers with one more frame
abbrev pub with_header : HeaderFields → HeaderTotals → HeaderTotals
with_header h t = record {
  areas = t.areas + own_area h;
  lengths = t.lengths + header_frame_length h;
  least_rate = min t.least_rate (rate_of (class_of h) h.slot);
  greatest_rate = max t.greatest_rate (rate_of (class_of h) h.slot);
}

-- the totals of side information with one more frame
abbrev pub with_side : Row → SideTotals → SideTotals
with_side r t = record {
  lost = t.lost + (if r.lost then 1 else 0);
  main_data = t.main_data + row_main_data r;
  left = joined_extremes t.left (extremes (row_gains 0 r));
  right = joined_extremes t.right (extremes (row_gains 1 r));
}

-- these are the totals of these frames
pub record AreTotals (rows : List Row) (t : Totals) : Type 0 where
  pub areas : t.headers.areas ≡ row_areas rows
  pub few_areas : t.headers.areas ≤ 1441 * length rows
  pub lengths : t.headers.lengths ≡ row_lengths rows
  pub few_lengths : t.headers.lengths ≤ 1441 * length rows
  pub least_rate : t.headers.least_rate ≡ least_rate rows
  pub greatest_rate : t.headers.greatest_rate ≡ greatest_rate rows
  pub lost : t.sides.lost ≡ lost_count rows
  pub main_data : t.sides.main_data ≡ main_data_in rows
  pub left : t.sides.left ≡ extremes_of 0 rows
  pub right : t.sides.right ≡ extremes_of 1 rows
