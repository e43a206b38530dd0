-- Laws of the splice, whatever the code.
use Rattle.std.specs.Prelude.{false, flat_map, if◌then◌else◌, length, List, map, None, slice_get}
use Rattle.std.specs.Prelude.{Some, take, true, ℕ, [], ◌*◌, ◌++◌, ◌+◌, ◌-◌, ◌/◌, ◌∷◌, ◌≡◌, ◌≤◌}
use Rattle.exact_span.specs.{PlayedPositions.{rest_of, samples_in}, declared.played.Played.Played}
use Rattle.frame_header.specs.{Fields.{ClassFields, IsHeader}, Tables.window_of}
use Rattle.seam_plan.specs.Frames.{Brought, needs_of, SpliceFrame}
use Rattle.seam_plan.specs.Joins.{fits_behind, has_lead_in}
use Rattle.seam_plan.specs.Seams.{JointFrames, joints_of, seamless_join, SeamlessJoin, splice_of}
use Rattle.seam_plan.specs.{Seams.splice_with, declared.seam.Seam.Seam}
use Rattle.seam_plan.specs.declared.seam.Seam.TheVariants.{Follows, LeadIn, Whole}

-- ---- an input that follows the one before it

-- the splice after `count` of the later inputs
abbrev pub splice_after : Brought → List JointFrames → ℕ → List SpliceFrame
splice_after first joints count = splice_with first (take count joints)

-- From `from` on, the frames of an input are like the last frames
-- of a splice: each is like the one that is as far from the end.
pub record EndsAlike (splice input : List SpliceFrame) (from : ℕ) : Type 0 where
  pub within : length input ≤ from + length splice
  pub alike : (i : ℕ) (f : SpliceFrame) → from ≤ i → slice_get input i ≡ Some f
      → (g : SpliceFrame) × (slice_get splice (i + length splice - length input) ≡ Some g)
      × (g.sound ≡ f.sound)

-- The input follows the one before it, and `out` of its frames are left out. If the last
-- frame of the one before it is right before the frames that the input adds, the input's
-- first played position is where the played positions of that one end; and from the frame of
-- its first played position on, its frames are the last of the splice, except for their gains.
pub record InputGoesOn (class : ClassFields) (before input : Brought) (old new : List SpliceFrame)
    (out : ℕ)
    : Type 0 where
  pub ended : Played
  pub played : Played
  pub ended_is : before.played ≡ Some ended
  pub played_is : input.played ≡ Some played
  pub meets : played.start + rest_of class (length before.frames) ended ≡ out * samples_in class
  pub has : out ≤ length input.frames
  pub longer : length new + out ≡ length old + length input.frames
  pub alike : EndsAlike new input.frames (played.start / samples_in class)

-- each input that follows continues where the one before it ends
abbrev pub FollowersGoOn : Type 0
FollowersGoOn =
    (class : ClassFields) (first : Brought) (inputs : List Brought) (number : ℕ)
    (before input : Brought) (joint : JointFrames) (out : ℕ) →
    let joints = joints_of class first inputs in
    slice_get (first ∷ inputs) number ≡ Some before → slice_get inputs number ≡ Some input
    → slice_get joints number ≡ Some joint → joint.seam ≡ Follows out
    → InputGoesOn class before input (splice_after first joints number)
    (splice_after first joints (number + 1)) out

-- ---- frames of one recording, each part after the lead-in that it wants

-- the frames of all these lists, in order
abbrev pub concat_frames : List (List SpliceFrame) → List SpliceFrame
concat_frames more = flat_map (λ (frames : List SpliceFrame). frames) more

-- these frames after a lead-in, which has no main data
pub record IsLedPiece (window : ℕ) (frames : List SpliceFrame) (input : Brought) : Type 0 where
  pub lead_in : SpliceFrame
  pub frames_are : input.frames ≡ lead_in ∷ frames
  pub empty : lead_in.need.bytes ≡ 0
  pub has : has_lead_in window input ≡ true

-- these frames, whose first doesn't have the header and side information of a lead-in
pub record IsUnledPiece (window : ℕ) (frames : List SpliceFrame) (input : Brought) : Type 0 where
  pub frames_are : input.frames ≡ frames
  pub none : has_lead_in window input ≡ false

-- The input is these frames, after a lead-in if they
-- don't fit after no bytes; its head has no counts.
pub record IsPieceOf (window : ℕ) (frames : List SpliceFrame) (input : Brought) : Type 0 where
  pub led : fits_behind window 0 (needs_of frames) ≡ false → IsLedPiece window frames input
  pub unled : fits_behind window 0 (needs_of frames) ≡ true → IsUnledPiece window frames input
  pub uncounted : input.played ≡ None

-- each of these inputs is the frames at its place
abbrev pub ArePiecesOf : ℕ → List (List SpliceFrame) → List Brought → Type 0
ArePiecesOf window [] [] = Unit {0}
ArePiecesOf window (frames ∷ more) (input ∷ inputs) =
    IsPieceOf window frames input × ArePiecesOf window more inputs
ArePiecesOf window _ _ = ⊥

-- the headers of the frames are the standard's
abbrev pub AreHeadersKnown : List SpliceFrame → Type 0
AreHeadersKnown [] = Unit {0}
AreHeadersKnown (f ∷ frames) = IsHeader f.need.header × AreHeadersKnown frames

-- the seam of a piece: whole if its frames fit after no bytes, otherwise without its lead-in
abbrev pub piece_seam : ℕ → List SpliceFrame → Seam
piece_seam window frames = if fits_behind window 0 (needs_of frames) then Whole else LeadIn

-- Exactly the lead-ins are left out, and the splice is all frames.
pub record AreOneSplice (window : ℕ) (frames : List SpliceFrame) (more : List (List SpliceFrame))
    (first : Brought)
    (joined : SeamlessJoin) : Type 0 where
  pub splice : splice_of first joined ≡ frames ++ concat_frames more
  pub front : joined.front ≡ (if fits_behind window 0 (needs_of frames) then 0 else 1)
  pub seams : map (λ (j : JointFrames). j.seam) joined.joints ≡ map (piece_seam window) more

-- such pieces are one splice, if all frames fit after a whole window
abbrev pub PiecesAreOneSplice : Type 0
PiecesAreOneSplice =
    (class : ClassFields) (frames : List SpliceFrame) (more : List (List SpliceFrame))
    (first : Brought)
    (inputs : List Brought) →
    let window = window_of class.version in
    IsPieceOf window frames first → ArePiecesOf window more inputs
    → AreHeadersKnown (frames ++ concat_frames more)
    → fits_behind window window (needs_of (frames ++ concat_frames more)) ≡ true
    → AreOneSplice window frames more first (seamless_join class first inputs)
