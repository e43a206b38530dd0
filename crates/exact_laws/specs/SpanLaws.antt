-- Spans of one recording that are joined, whatever the code.
use Rattle.std.specs.List.{list_all}
use Rattle.std.specs.Prelude.{Bool, false, length, List, slice_range, Some, true, ℕ, [], ◌*◌, ◌++◌}
use Rattle.std.specs.Prelude.{◌+◌, ◌<◌, ◌∷◌, ◌≡◌, ◌≤◌}
use Rattle.exact_span.specs.{PlayedPositions.samples_in, declared.played.Played.Played}
use Rattle.frame_header.specs.{Fields.ClassFields, Tables.window_of}
use Rattle.seam_laws.specs.SpliceLaws.{AreHeadersKnown}
use Rattle.seam_plan.specs.{Frames.{Brought, needs_of, SpliceFrame}, Joins.fits_behind}
use Rattle.seam_plan.specs.{Seams.{JointFrames, joints_of, splice_with}, declared.seam.Seam.Seam}
use Rattle.seam_plan.specs.declared.seam.Seam.TheVariants.{Follows}

-- ---- spans of one recording whose neighbours share frames

-- the frames have no main data
abbrev pub AreEmptyFrames : List SpliceFrame → Type 0
AreEmptyFrames [] = Unit {0}
AreEmptyFrames (f ∷ frames) = (f.need.bytes ≡ 0) × AreEmptyFrames frames

-- The input is frames of a recording, from `from` to before `to`, after lead-ins. Its played
-- positions are the recording's from `begin` to before `end`, and are in these frames.
pub record IsSpanOf (class : ClassFields) (all : List SpliceFrame) (begin end : ℕ) (input : Brought)
    : Type 0 where
  pub lead_ins : List SpliceFrame
  pub from : ℕ
  pub to : ℕ
  pub frames_are : input.frames ≡ lead_ins ++ slice_range all from to
  pub some : from < to
  pub within : to ≤ length all
  pub empty : AreEmptyFrames lead_ins
  pub played : Played
  pub counted : input.played ≡ Some played
  pub start : played.start + from * samples_in class ≡ begin + length lead_ins * samples_in class
  pub ended : played.end + from * samples_in class ≡ end + length lead_ins * samples_in class
  pub before : from * samples_in class ≤ begin
  pub behind : end ≤ to * samples_in class

-- Each of these inputs plays from where the one before it ends, up to the point at its
-- place. None begins before the frame `low`, nor ends before the one before it; and each
-- has a frame before the one in which it begins to play, or begins to play within a frame.
abbrev pub AreSpansOf : ClassFields → List SpliceFrame → ℕ → ℕ → ℕ → List Brought → List ℕ → Type 0
AreSpansOf class all low last begin [] [] = Unit {0}
AreSpansOf class all low last begin (input ∷ inputs) (end ∷ points) =
    (is : IsSpanOf class all begin end input) × (low ≤ is.from)
    × (is.from * samples_in class < begin) × (last ≤ is.to)
    × AreSpansOf class all low is.to end inputs points
AreSpansOf class all low last begin _ _ = ⊥

-- the frame after the last frame of the last span
abbrev pub spans_end : (class : ClassFields) (all : List SpliceFrame) (low last begin : ℕ)
    (inputs : List Brought) (points : List ℕ)
    → AreSpansOf class all low last begin inputs points → ℕ
spans_end class all low last begin [] [] are = last
spans_end class all low last begin (input ∷ inputs) (end ∷ points) are =
    spans_end class all low are.0.to end inputs points are.4
spans_end class all low last begin [] (end ∷ points) are = last
spans_end class all low last begin (input ∷ inputs) [] are = last

-- the input follows the one before it
abbrev pub is_following_seam : Seam → Bool
is_following_seam (Follows frames) = true
is_following_seam _ = false

-- Each input follows, and the splice is the first input's lead-ins
-- and then the frames from its first to the last of all inputs.
abbrev pub SpansAreOneSplice : Type 0
SpansAreOneSplice =
    (class : ClassFields) (all : List SpliceFrame) (begin end : ℕ) (first : Brought)
    (inputs : List Brought) (points : List ℕ) →
    let window = window_of class.version in
    (is : IsSpanOf class all begin end first)
    (are : AreSpansOf class all is.from is.to end inputs points)
    → AreHeadersKnown all → fits_behind window window (needs_of all) ≡ true →
    let joints = joints_of class first inputs in
    (list_all (λ (j : JointFrames). is_following_seam j.seam) joints ≡ true)
    × (splice_with first joints
    ≡ is.lead_ins ++ slice_range all is.from
    (spans_end class all is.from is.to end inputs points are))
