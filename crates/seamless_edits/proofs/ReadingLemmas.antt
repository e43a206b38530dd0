-- Areas of an input that are read, and the main data of a frame, which are cut out of the areas up
-- to its own.
use Rattle.std.proofs.Common.{arith, false, length, List, slice_get, Some, ℕ, ◌*◌, ◌+◌, ◌-◌, ◌≡◌}
use Rattle.std.proofs.Common.{◌≤◌}
use Rattle.bit_fields.specs.Bits.{AreBytes}
use Rattle.laying.proofs.ReadLemmas.{bits-least, bytes-are, cut-is, data-within, IsWithin}
use Rattle.laying.{proofs.ReadLemmas.{place-next, window-holds}, specs.Passing.IsWindowOverFrames}
use Rattle.outside.specs.Files.{Files}
use Rattle.reservoir.specs.Window.{AreBitsPacked, IsWindowOver, main_bits}
use Rattle.seamless_edits.{proofs.FramePlaceLemmas.get-one, specs.Reading.IsMainDataOf}
use Rattle.side_info.specs.Side.{payload_bits, payload_bytes}
use Rattle.sync_survey.specs.{Faults.SurveyFields, MainData.own_area, Row.Row}
use Rattle.sync_survey.specs.Survey.{IsSurveyLaidOut}

-- ---- one frame

-- where the area of a frame ends, a window holds its main data: `count` bits, which begin `begin`
-- bytes before the area
pub record HoldsData (window input : List ℕ) (files : Files) (s : SurveyFields)
    (i area begin count : ℕ) : Type 0 where
  pub held : area ≤ 1441 → area + begin ≤ length window
  pub ends : count ≤ 8 * (area + begin)
  pub is : (bytes : List ℕ) → ((main : List ℕ) → IsWindowOver window main
      → AreBitsPacked bytes count (main_bits main (length main - area - begin) count))
      → AreBytes bytes → IsMainDataOf input files s i bytes

module _ {window input : List ℕ} {files : Files} {s : SurveyFields} (i : ℕ) {r : Row}
    (found : slice_get s.frames i ≡ Some r) (kept : r.lost ≡ false) (laid : IsSurveyLaidOut s)
    (over : IsWindowOverFrames window input files s (i + 1)) {area begin count : ℕ}
    (area_is : area ≡ own_area r.header) (begin_is : begin ≡ r.side.main_data_begin)
    (count_is : count ≡ payload_bits r.side) where
  within : IsWithin s.head s.frames i r
  within = data-within (laid.placed i r found) kept

  least : count ≤ 8 * payload_bytes r.side
  least = grind (arith, bytes-are, bits-least)

  -- a window over the areas up to the frame's own holds its main data
  pub holds-data : HoldsData window input files s i area begin count
  holds-data = record {
    held = λ few.
        omega (
          arith,
          window-holds over.main over.held,
          over.long,
          place-next s.head s.frames i found,
          area_is,
          begin_is,
          within.begins,
          within.near,
          few,
        );
    ends = omega (arith, within.ends, area_is, begin_is, least);
    is = grind (arith, get-one, cut-is, within, least);
  }
