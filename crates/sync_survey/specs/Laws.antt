-- What the definitions of the survey say, without their recursions.
use Rattle.std.specs.Prelude.{drop, length, List, None, Ok, Option, slice_get, Some, true, ℕ, ◌++◌}
use Rattle.std.specs.Prelude.{◌+◌, ◌<◌, ◌↔◌, ◌≡◌, ◌≤◌, ◌⊎◌}
use Rattle.frame_header.specs.Fields.{ClassFields}
use Rattle.sync_survey.specs.Chains.{AreEndToEnd, bytes_of_items, item_chain, PlacedItem}
use Rattle.sync_survey.specs.Chains.{whole_item_at}
use Rattle.sync_survey.specs.Faults.{HoldsStream, stream_of_survey, survey_fields, SurveyFields}
use Rattle.sync_survey.specs.HeadApart.{emptied_survey, head_apart, rows_set_apart}
use Rattle.sync_survey.specs.Items.{IsItemFront, item_at, item_front, size_of}
use Rattle.sync_survey.specs.{MainData.{is_lost, is_silent, place, points_too_far}, Row.Row}
use Rattle.sync_survey.specs.Start.{IsLeastStart, start_of}
use Rattle.sync_survey.specs.Survey.{AreWellPlaced, IsSurveyLaidOut}
use Rattle.sync_survey.specs.declared.{chains.Region.Region, items.Item.{Item, TheVariants.Frame}}
use Rattle.sync_survey.specs.declared.places.{Head.Head, Start.Start}

-- bytes begin with one item, and with no other
abbrev pub OneItemStands : Type 0
OneItemStands = (bytes : List ℕ) (item : Item) → IsItemFront bytes item ↔ (item ≡ item_front bytes)

-- The items of a chain are whole and follow end to end, and none is after them; with the
-- bytes after them they are the file's bytes; and they are the only such items of the part.
pub record IsOnlyChain (part : Region) (file : List ℕ) (from : ℕ) : Type 0 where
  pub items : AreEndToEnd part file from
      (item_chain part file from).items (item_chain part file from).stop
  pub last : whole_item_at part file (item_chain part file from).stop ≡ None
  pub bytes : bytes_of_items file (item_chain part file from).items
      ++ drop (item_chain part file from).stop file
      ≡ drop from file
  pub only : (others : List PlacedItem) (stop : ℕ) → AreEndToEnd part file from others stop
      → whole_item_at part file stop ≡ None
      → item_chain part file from ≡ record { items = others; stop = stop }

-- this holds for every chain
abbrev pub ChainsAreOnly : Type 0
ChainsAreOnly = (part : Region) (file : List ℕ) (from : ℕ) → IsOnlyChain part file from

-- The first frame of a stream is whole. It is where the front ends, or, after junk, at the smallest
-- offset at which an anchored frame begins.
pub record IsFirstOfStream (file : List ℕ) (start : Start) : Type 0 where
  pub item : item_at file start.first.offset ≡ Frame start.first.header
  pub whole : start.first.offset + size_of (Frame start.first.header) ≤ length file
  pub least : IsLeastStart file start

-- this holds for the start of every file
abbrev pub StartsAreLeast : Type 0
StartsAreLeast =
    (file : List ℕ) (start : Start) → start_of file ≡ Ok start → IsFirstOfStream file start

-- every frame before frame i is silent or lost
abbrev pub AreSilentOrLost : Option Head → List Row → ℕ → Type 0
AreSilentOrLost head rows i = (j : ℕ) (q : Row) → j < i → slice_get rows j ≡ Some q
    → (is_silent q ≡ true) ⊎ (is_lost head rows j q ≡ true)

-- the lost frames are exactly those whose main data begin before the stream and that have only
-- silent and lost frames before them
abbrev pub LostFramesLead : Type 0
LostFramesLead =
    (head : Option Head) (rows : List Row) (i : ℕ) (r : Row) → (is_lost head rows i r ≡ true)
    ↔ ((points_too_far (place head rows i) r ≡ true) × AreSilentOrLost head rows i)

-- a file without fault holds the stream that its survey gives, and is well-formed whatever number
-- of frames was allowed
abbrev pub SurveysHoldStreams : Type 0
SurveysHoldStreams = (file : List ℕ) (allowed : ℕ) (s : SurveyFields)
    → survey_fields file allowed ≡ Ok s → HoldsStream file (stream_of_survey file s)

-- the main data of the frames of a file without fault are where they may be
abbrev pub SurveysArePlaced : Type 0
SurveysArePlaced = (file : List ℕ) (allowed : ℕ) (s : SurveyFields)
    → survey_fields file allowed ≡ Ok s → AreWellPlaced s.head s.class s.frames

-- In a file without fault, a frame whose main_data_begin is greater than the sum of the areas of
-- the frames before it, not counting the head's, is lost when the head is set apart: every frame
-- before it is silent or lost in this sense.
abbrev pub ApartFramesLead : Type 0
ApartFramesLead =
    (head : Option Head) (class : ClassFields) (rows : List Row) → AreWellPlaced head class rows
    → (i : ℕ) (r : Row) → slice_get rows i ≡ Some r → points_too_far (place None rows i) r ≡ true
    → (is_lost None rows i r ≡ true) × AreSilentOrLost None rows i

-- when the head of a file without fault is set apart, the main data of the frames are where they
-- may be in a file of the same frames without a head
abbrev pub HeadsApartArePlaced : Type 0
HeadsApartArePlaced = (head : Option Head) (class : ClassFields) (rows : List Row)
    → AreWellPlaced head class rows → AreWellPlaced None class (rows_set_apart head rows)

-- when the head is set apart and lost frames are empty ones, the main data are also where they may
-- be in a file with the head, and all else is laid out as it was
abbrev pub HeadsApartAreLaid : Type 0
HeadsApartAreLaid =
    (s : SurveyFields) → IsSurveyLaidOut s → IsSurveyLaidOut (emptied_survey (head_apart s))

-- the main data of each frame begin within the areas of the frames before it, not counting the
-- head's
abbrev pub AreNear : List Row → Type 0
AreNear rows =
    (i : ℕ) (r : Row) → slice_get rows i ≡ Some r → r.side.main_data_begin ≤ place None rows i

-- if they do, no frame is lost when the head is set apart
abbrev pub NearFramesStay : Type 0
NearFramesStay =
    (head : Option Head) (rows : List Row) → AreNear rows → rows_set_apart head rows ≡ rows
