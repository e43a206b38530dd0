-- The frames that a survey lists are whole in the file,
-- with their side information and with right check words.
use Rattle.std.proofs.Common.{ap, Bool, cond, drop, false, length, List, Ok, refl, subst, suc, sym}
use Rattle.std.proofs.Common.{take, true, ℕ, [], ◌-◌, ◌∙◌, ◌∷◌, ◌≡◌}
use Rattle.bit_fields.specs.Bits.{AreBytes}
use Rattle.frame_header.specs.Fields.{HeaderFields}
use Rattle.gain_laws.proofs.MovedTwiceLemmas.{gains_fit, IsNoStep, side_none}
use Rattle.moved_gains.proofs.EditedChainLemmas.{frames-moved, gap_of, lost_from, new_file}
use Rattle.moved_gains.proofs.ImageLemmas.{AreImages, AreRight, own-right, own-side}
use Rattle.moved_gains.proofs.LostOffsetLemmas.{rows_by, told_rows}
use Rattle.moved_gains.proofs.MovedFrameLemmas.{IsWhole, moved_whole, whole_class, whole_room}
use Rattle.moved_gains.{proofs.{MovedItemLemmas.no_steps, RowLemmas.Each}, specs.Edited.moved_frame}
use Rattle.moved_gains.specs.{Gains.moved_side, Moving.{moved_row_bytes, row_length}}
use Rattle.requests.specs.declared.shift.Steps.{Steps}
use Rattle.side_info.proofs.FrameLemmas.{fits-side_in, frame_with_side-own, IsRight, shaped-side_in}
use Rattle.side_info.{proofs.SideLemmas.IsShaped, specs.Frame.{frame_with_side, side_in}}
use Rattle.side_info.specs.declared.side.Side.{Side}
use Rattle.sync_survey.proofs.SurveyPartsLemmas.{all_faults-none_sound, frames_from, IsRead}
use Rattle.sync_survey.proofs.SurveyPartsLemmas.{survey_fields-parts, told_from}
use Rattle.sync_survey.specs.Faults.{class_from, survey_fields, SurveyFields}
use Rattle.sync_survey.specs.{MainData.{row_of, rows_of}, Row.Row, Walk.head_of}
use Rattle.sync_survey.specs.declared.places.{PlacedFrame.PlacedFrame, Start.Start}

-- the bytes of a frame of the file
abbrev pub frame_of : List ℕ → Row → List ℕ
frame_of file row = take (row_length row) (drop row.offset file)

-- the frame is whole, with this side information and the right check word
pub record IsFrameOf (file : List ℕ) (row : Row) : Type 0 where
  pub whole : IsWhole row.header (frame_of file row)
  pub side : row.side ≡ side_in row.header (frame_of file row)
  pub right : IsRight row.header (frame_of file row)

abbrev pub AreFramesOf : List ℕ → List Row → Type 0
AreFramesOf file rows = Each (IsFrameOf file) rows

-- its side information has lists as long as the arrays
pub row_shaped : {file : List ℕ} {row : Row} → IsFrameOf file row → IsShaped row.side
row_shaped {file} {row} here =
    subst IsShaped (sym here.side) (shaped-side_in row.header (frame_of file row))

-- a frame keeps its length when its gains move
pub row_sized : (steps : Steps) {file : List ℕ} {row : Row} → IsFrameOf file row
    → length (moved_row_bytes steps file row) ≡ row_length row
row_sized steps {file} {row} here = by_lost row.lost
  where
    by_lost : (lost : Bool) → length (cond lost (frame_of file row)
        (frame_with_side row.header (moved_side steps row.side) (frame_of file row)))
        ≡ row_length row
    by_lost true = here.whole.size
    by_lost false =
        ap
        (λ (s : Side). length (frame_with_side row.header (moved_side steps s) (frame_of file row)))
        here.side
        ∙ (moved_whole false steps here.whole).whole.size

each_there : (to : ℕ → ℕ) (steps : ℕ → Steps) (lost : ℕ → Bool) (file new : List ℕ)
    (ps : List PlacedFrame) → AreBytes file → AreImages to steps lost file new ps
    → AreRight file (rows_of file ps) → AreFramesOf file (rows_by lost file ps)
each_there to steps lost file new [] all are right = tt
each_there to steps lost file new (p ∷ ps) all are right = (
  record {
    whole = are.0.whole all;
    side = sym (own-side file p are.0.header);
    right =
        own-right file p are.0.header (right 0 (row_of file p) refl);
  },
  each_there to steps lost file new ps all are.1 (λ i r is. right (suc i) r is),
)

-- all frames of a surveyed file are whole, with their side information and right check words
pub frames_there : (file : List ℕ) (allowed : ℕ) {s : SurveyFields} → AreBytes file
    → survey_fields file allowed ≡ Ok s → AreFramesOf file s.frames
frames_there file allowed {s} all e =
    let parts = survey_fields-parts e in
    subst (λ (t : SurveyFields). AreFramesOf file t.frames) parts.2 (from parts.0 parts.1)
  where
    from : (start : Start) → IsRead file allowed start
        → AreFramesOf file (told_from file start).frames
    from start read =
        subst (AreFramesOf file) (sym (told_rows file start))
        (each_there (λ at. at - gap_of start) no_steps (lost_from file start) file
        (new_file no_steps all read) (frames_from file start) all
        (frames-moved no_steps all read)
        (λ i r is. (all_faults-none_sound file (head_of file start.first) (class_from start) allowed
        (rows_of file (frames_from file start)) read.frames i r is).word))

-- moved by no step, a frame with the right check word stays
pub frame_none : (steps : Steps) → IsNoStep steps → {h : HeaderFields} {frame : List ℕ}
    → IsWhole h frame → IsRight h frame → moved_frame steps h frame ≡ frame
frame_none steps none {h} {frame} whole right =
    let s = side_in h frame in
    let class = whole_class whole in
    let room = (whole_room whole).0 in
    ap (λ t. frame_with_side h t frame) (side_none steps none (shaped-side_in h frame)
    (gains_fit (fits-side_in h frame class)))
    ∙ frame_with_side-own h class whole.all room right
