-- The stream of the edited file is the file's, with the gains of each frame moved.
use Rattle.std.proofs.Common.{ap, ap₂, Bool, cond, drop, false, List, map, Ok, Option, option_map}
use Rattle.std.proofs.Common.{refl, subst, take, true, ℕ, ◌*◌, ◌-◌, ◌∙◌, ◌≡◌}
use Rattle.bit_fields.specs.Bits.{AreBytes, bits}
use Rattle.moved_gains.proofs.EditedChainLemmas.{gap_of, new_file}
use Rattle.moved_gains.proofs.{EditedSurveyLemmas.edited_image, ImageLemmas.stream-image}
use Rattle.moved_gains.proofs.MovedGainLemmas.{begin-unless, lengths-moved, payload_bits-moved}
use Rattle.moved_gains.proofs.MovedRowLemmas.{AreShaped, marked_shaped, place-by, rows_shaped}
use Rattle.moved_gains.specs.{Edited.edited_file, Gains.{moved_side, moved_side_unless_lost}}
use Rattle.moved_gains.specs.Streams.{edited_head, edited_row, edited_survey, moved_stream_frame}
use Rattle.moved_gains.specs.Streams.{moved_stream_of}
use Rattle.requests.specs.declared.shift.Steps.{Steps}
use Rattle.side_info.{proofs.SideLemmas.IsShaped, specs.Side.{no_side, payload_bits}}
use Rattle.side_info.specs.declared.side.Side.{Side}
use Rattle.sync_survey.proofs.SurveyPartsLemmas.{frames_from, IsRead, survey_fields-parts}
use Rattle.sync_survey.proofs.SurveyPartsLemmas.{told_from}
use Rattle.sync_survey.specs.Faults.{stream_of_survey, survey_fields, SurveyFields}
use Rattle.sync_survey.specs.MainData.{granule_lengths, row_side, rows_of, split_bits, stream_frame}
use Rattle.sync_survey.specs.{Row.Row, Walk.head_of, declared.places.{Head.Head, Start.Start}}

-- ---- a frame of the stream

side-moved : (steps : Steps) (s : Side) → record (moved_side steps s) { main_data_begin = 0 }
    ≡ moved_side steps (record s { main_data_begin = 0 })
unfolding moved_side
side-moved steps s = refl

-- the side information that matters; a lost frame has none
counts-moved : (steps : Steps) (lost : Bool) (s : Side)
    → cond lost no_side (moved_side_unless_lost lost steps s)
    ≡ moved_side steps (cond lost no_side s)
unfolding moved_side
counts-moved steps true s = refl
counts-moved steps false s = refl

none_shaped : IsShaped no_side
none_shaped = record { scfsi = refl; granules = refl; first = refl; second = refl }

-- the side information has lists as long as the arrays, whether or not the frame was lost
pub counts_shaped : (lost : Bool) {s : Side} → IsShaped s → IsShaped (cond lost no_side s)
counts_shaped true shaped = none_shaped
counts_shaped false shaped = shaped

module _ (steps : ℕ → Steps) (gap : ℕ) (main : List ℕ) (o : Option Head) (rows : List Row) where
  frame-moved : (i : ℕ) (r : Row) → IsShaped r.side
      → stream_frame main (option_map (edited_head gap) o) (map (edited_row steps gap) rows) i
      (edited_row steps gap r) ≡ moved_stream_frame (steps r.offset) (stream_frame main o rows i r)
  frame-moved i r shaped =
      let begin = ap₂ (λ m n. m - n) (place-by (λ at. at - gap)
      (λ (q : Row). moved_side_unless_lost q.lost (steps q.offset) q.side) o rows i)
      (begin-unless r.lost (steps r.offset) r.side) in
      let counts : row_side (edited_row steps gap r) ≡ moved_side (steps r.offset) (row_side r) =
      counts-moved (steps r.offset) r.lost r.side in
      let well = counts_shaped r.lost shaped in
      let side = ap (λ (s : Side). record s { main_data_begin = 0 }) counts
      ∙ side-moved (steps r.offset) (row_side r) in
      let lengths =
      ap (granule_lengths r.header) counts
      ∙ lengths-moved (steps r.offset) r.header well in
      let payload =
      ap payload_bits counts ∙ payload_bits-moved (steps r.offset) well in
      λ j. record (stream_frame main o rows i r) {
        side = side j;
        payload = split_bits (lengths j) (take (payload j) (drop (8 * begin j) (bits main)));
      }

-- ---- the stream

module _ (steps : ℕ → Steps) {file : List ℕ} {allowed : ℕ} {start : Start} (all : AreBytes file)
    (read : IsRead file allowed start) where
  abbrev new : List ℕ
  new = new_file steps all read

  abbrev head : Option Head
  head = head_of file start.first

  abbrev rows : List Row
  rows = (told_from file start).frames

  shaped : AreShaped rows
  shaped = marked_shaped head (rows_of file (frames_from file start))
      (rows_shaped file (frames_from file start))

  stream-from : stream_of_survey new (edited_survey steps (told_from file start))
      ≡ moved_stream_of steps file (told_from file start)
  unfolding stream_of_survey edited_survey moved_stream_of
  stream-from =
      stream-image (edited_image steps all read)
      (λ r. moved_side_unless_lost r.lost (steps r.offset) r.side)
      (λ r frame. moved_stream_frame (steps r.offset) frame)
      (λ main i r is. frame-moved steps (gap_of start) main head rows i r (shaped i r is))

-- The stream of the edited file: each frame with its gains moved, and all else unchanged.
pub stream-edited_file : (steps : ℕ → Steps) (file : List ℕ) (allowed : ℕ) {s : SurveyFields}
    → AreBytes file → survey_fields file allowed ≡ Ok s
    → stream_of_survey (edited_file steps file s) (edited_survey steps s)
    ≡ moved_stream_of steps file s
stream-edited_file steps file allowed {s} all e =
    let parts = survey_fields-parts e in
    subst (λ t. stream_of_survey (edited_file steps file t) (edited_survey steps t)
    ≡ moved_stream_of steps file t) parts.2 (stream-from steps all parts.1)
