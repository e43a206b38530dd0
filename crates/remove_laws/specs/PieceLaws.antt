-- The law of parts that are joined as pieces, whatever the code: lists of frames.
use Rattle.std.specs.Prelude.{false, List, map, None, Some, true, ℕ, [], ◌∷◌, ◌≡◌}
use Rattle.frame_header.specs.{Fields.{ClassFields, HeaderFields, IsClass}, Tables.window_of}
use Rattle.seam_laws.specs.SpliceLaws.{AreHeadersKnown, IsUnledPiece}
use Rattle.seam_plan.specs.Frames.{Brought, needs_of, SpliceFrame}
use Rattle.seam_plan.specs.Joins.{fits_behind, has_lead_in, lead_in_header}
use Rattle.seam_plan.specs.PartSplices.{IsPartNeeds, item_needs, splice_items}
use Rattle.seam_plan.specs.Seams.{seamless_join, splice_of}

-- these frames after the lead-in that they have alone
pub record IsLedPart (window : ℕ) (frames : List SpliceFrame) (input : Brought) : Type 0 where
  pub lead_in : SpliceFrame
  pub header : HeaderFields
  pub is : lead_in_header window (needs_of frames) ≡ Some header
  pub need : lead_in.need ≡ record { header = header; bytes = 0 }
  pub frames_are : input.frames ≡ lead_in ∷ frames
  pub has : has_lead_in window input ≡ true

-- The input is a piece of a file with these frames: it has them after their
-- lead-in if they don't fit after no bytes, and otherwise alone, and then
-- it doesn't begin with a look-alike of a lead-in. Its head has no counts.
pub record IsPartPiece (class : ClassFields) (frames : List SpliceFrame) (input : Brought)
    : Type 0 where
  pub led : fits_behind (window_of class.version) 0 (needs_of frames) ≡ false
      → IsLedPart (window_of class.version) frames input
  pub unled : fits_behind (window_of class.version) 0 (needs_of frames) ≡ true
      → IsUnledPiece (window_of class.version) frames input
  pub uncounted : input.played ≡ None
  pub needs : IsPartNeeds class (needs_of frames)
  pub known : AreHeadersKnown frames

-- each of these inputs is such a piece of the frames at its place
abbrev pub ArePartPieces : ClassFields → List (List SpliceFrame) → List Brought → Type 0
ArePartPieces class [] [] = Unit {0}
ArePartPieces class (frames ∷ more) (input ∷ inputs) =
    IsPartPiece class frames input × ArePartPieces class more inputs
ArePartPieces class _ _ = ⊥

-- Such pieces, joined without seams, are the splice of the
-- parts: the same frames and lead-ins, in the same slots.
abbrev pub PiecesJoinAsParts : Type 0
PiecesJoinAsParts =
    (class : ClassFields) (frames : List SpliceFrame) (more : List (List SpliceFrame))
    (first : Brought)
    (inputs : List Brought) → IsClass class → IsPartPiece class frames first
    → ArePartPieces class more inputs
    → needs_of (splice_of first (seamless_join class first inputs))
    ≡ item_needs (splice_items (window_of class.version) (map needs_of (frames ∷ more)))
