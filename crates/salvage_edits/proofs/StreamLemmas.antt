-- The stream of the file that is written for a damaged one: what is left, island by island.
use Rattle.std.proofs.Common.{ap, ap₂, arith, Bool, cond, false, length, List, map, Ok, Option}
use Rattle.std.proofs.Common.{refl, sym, true, ℕ, [], ◌++◌, ◌+◌, ◌∙◌, ◌∷◌, ◌≡◌}
use Rattle.std.specs.{List.enumerate_from, Prelude.{flat_map, slice_range}}
use Rattle.cut_edits.proofs.ChosenLemmas.{chosen-holds}
use Rattle.cut_edits.specs.Chosen.{chosen_stream, own_slots_plan}
use Rattle.laying.{proofs.PlacesLemmas.range-whole, specs.Relaid.stream_with_lead_ins}
use Rattle.salvage.proofs.{MendedLemmas.survey-mended, StreamLemmas.{payload_none, stream-told}}
use Rattle.salvage.specs.{DamagedFiles.{damaged_fields, DamagedFields}, Progress.IsDamagedLaidOut}
use Rattle.salvage.specs.Stream.{salvaged_stream}
use Rattle.salvage_edits.proofs.HadLemmas.{damaged_fields-relaid}
use Rattle.salvage_edits.specs.Salvaged.{all_chosen, left_stream, salvaged_file}
use Rattle.side_info.specs.{Side.no_side, declared.side.Side.Side}
use Rattle.sync_survey.proofs.EmptiedLemmas.{empty_row, place-same}
use Rattle.sync_survey.proofs.SurveyPartsLemmas.{stream-length}
use Rattle.sync_survey.specs.Faults.{HoldsStream, stream_of_survey, SurveyFields}
use Rattle.sync_survey.specs.HeadApart.{emptied_row, emptied_survey}
use Rattle.sync_survey.specs.MainData.{area_bytes, granule_lengths, head_bytes, main_bytes, no_slot}
use Rattle.sync_survey.specs.MainData.{payload_at, place, row_side, split_bits, start_of_data}
use Rattle.sync_survey.specs.{MainData.{stream_frame, stream_frames, StreamFrame}, Row.Row}
use Rattle.sync_survey.specs.declared.places.Head.{Head}

-- ---- a frame that becomes an empty one is empty already in the stream of what is left

-- a frame of the stream, given the place of its own area
abbrev frame_at : List ℕ → ℕ → Row → StreamFrame
frame_at main at r = record {
  header = record r.header { slot = no_slot };
  side = record (row_side r) { main_data_begin = 0 };
  payload = split_bits (granule_lengths r.header (row_side r))
      (payload_at main (start_of_data at r) (row_side r));
}

frame-by : (main : List ℕ) (at : ℕ) (r : Row) (lost : Bool) → r.lost ≡ lost
    → frame_at main at (cond lost (empty_row r) r) ≡ frame_at main at r
frame-by main at r false is = refl
frame-by main at r true is =
    let none : row_side r ≡ no_side = ap (λ b. cond b no_side r.side) is in
    ap (λ l. record {
      header = record r.header { slot = no_slot };
      side = record no_side { main_data_begin = 0 };
      payload = split_bits (granule_lengths r.header no_side) l;
    })
    (payload_none main (start_of_data at (empty_row r))
    ∙ sym (payload_none main (start_of_data at r)))
    ∙ ap (λ (s : Side). record {
      header = record r.header { slot = no_slot };
      side = record s { main_data_begin = 0 };
      payload = split_bits (granule_lengths r.header s) (payload_at main (start_of_data at r) s);
    }) (sym none)

frames-same : (main : List ℕ) (head : Option Head) (rows : List Row) (n : ℕ) (more : List Row)
    → map (λ (p : ℕ × Row). stream_frame main head (map emptied_row rows) p.0 p.1)
    (enumerate_from n (map emptied_row more))
    ≡ map (λ (p : ℕ × Row). stream_frame main head rows p.0 p.1) (enumerate_from n more)
frames-same main head rows n [] = refl
frames-same main head rows n (r ∷ more) =
    ap₂ (λ (f : StreamFrame) (l : List StreamFrame). f ∷ l)
    (ap (λ m. frame_at main m (emptied_row r)) (place-same head rows n)
    ∙ frame-by main (place head rows n) r r.lost refl)
    (frames-same main head rows (n + 1) more)

areas-same : (file : List ℕ) (rows : List Row)
    → flat_map (λ (r : Row). area_bytes file r.offset r.header) (map emptied_row rows)
    ≡ flat_map (λ (r : Row). area_bytes file r.offset r.header) rows
areas-same file [] = refl
areas-same file (r ∷ rows) = ap₂ (λ (a b : List ℕ). a ++ b) (area-by r.lost) (areas-same file rows)
  where
    area-by : (lost : Bool)
        → area_bytes file (cond lost (empty_row r) r).offset (cond lost (empty_row r) r).header
        ≡ area_bytes file r.offset r.header
    area-by true = refl
    area-by false = refl

main-same : (file : List ℕ) (head : Option Head) (rows : List Row)
    → main_bytes file head (map emptied_row rows) ≡ main_bytes file head rows
unfolding main_bytes
main-same file head rows = ap (λ (l : List ℕ). head_bytes file head ++ l) (areas-same file rows)

stream-same : (file : List ℕ) (s : SurveyFields)
    → stream_of_survey file (emptied_survey s) ≡ stream_of_survey file s
unfolding stream_of_survey stream_frames
stream-same file s =
    ap (λ main. map (λ (p : ℕ × Row). stream_frame main s.head (map emptied_row s.frames) p.0 p.1)
    (enumerate_from 0 (map emptied_row s.frames))) (main-same file s.head s.frames)
    ∙ frames-same (main_bytes file s.head s.frames) s.head s.frames 0 s.frames

-- ---- all frames

-- the stream from the first frame to the last is the whole
pub whole-stream : (file : List ℕ) (s : SurveyFields)
    → slice_range (stream_of_survey file s) 0 (length s.frames) ≡ stream_of_survey file s
whole-stream file s =
    ap (λ n. slice_range (stream_of_survey file s) 0 n) (sym (stream-length file s))
    ∙ range-whole (stream_of_survey file s)

module _ (file : List ℕ) {d : DamagedFields} (is : damaged_fields file ≡ Ok d)
    (laid : IsDamagedLaidOut d) where
  abbrev own : SurveyFields
  own = emptied_survey d.survey

  -- all frames that are laid are what is left of the file
  pub laid-left : slice_range (stream_of_survey file own) 0 (length own.frames)
      ≡ salvaged_stream file
  laid-left = whole-stream file own ∙ stream-same file d.survey ∙ stream-told file is laid

  left-is : left_stream file d ≡ chosen_stream (all_chosen own) file own
  unfolding left_stream chosen_stream
  left-is = ap (stream_with_lead_ins (own_slots_plan (all_chosen own) own)) (sym laid-left)

  -- the file that is written holds what is left
  pub salvaged-holds : HoldsStream (salvaged_file file d) (left_stream file d)
  unfolding salvaged_file
  salvaged-holds =
      rw left-is (chosen-holds (all_chosen own) (damaged_fields-relaid is laid)
      (survey-mended laid).some (omega arith) refl)
