-- Frames are in order, so a frame is lost if a lost frame is
-- at its offset, since no two frames are at the same offset.
use Rattle.std.proofs.Common.{ap, ap₂, arith, Bool, false, List, map, Option, refl, slice_get, Some}
use Rattle.std.proofs.Common.{subst, suc, sym, true, zero, zero-add, ℕ, [], ◌&&◌, ◌+◌, ◌<◌, ◌||◌}
use Rattle.std.proofs.{Common.{◌∙◌, ◌∷◌, ◌≡◌, ◌≤◌}, lemmas.Bool.{eq-eqb, ne_eqb}}
use Rattle.std.specs.List.{cons_option, enumerate_from}
use Rattle.moved_gains.specs.{Edited.is_lost_at, Moving.row_end}
use Rattle.sync_survey.proofs.ChainLemmas.{item_chain-ends, whole_item_at-is}
use Rattle.sync_survey.proofs.SurveyPartsLemmas.{frames_from, told_from}
use Rattle.sync_survey.specs.Chains.{AreEndToEnd, frame_of_item, frames_of, PlacedItem}
use Rattle.sync_survey.specs.Items.{size_of}
use Rattle.sync_survey.specs.{MainData.{is_lost, marked_row, marked_rows, row_of, rows_of}, Row.Row}
use Rattle.sync_survey.specs.Walk.{head_of, numbered_frames, stream_chain}
use Rattle.sync_survey.specs.declared.{chains.Region.{Region, TheVariants.Stream}, items.Item.Item}
use Rattle.sync_survey.specs.declared.places.{Head.Head, PlacedFrame.PlacedFrame, Start.Start}

-- ---- frames at rising offsets

-- the offsets of these frames rise, from an offset on
abbrev pub AreRising : ℕ → List Row → Type 0
AreRising at [] = Unit {0}
AreRising at (r ∷ rows) = (at ≤ r.offset) × AreRising (suc r.offset) rows

-- frames in order from an offset on are in order from any earlier one
pub rising_less : {low high : ℕ} (rows : List Row) → low ≤ high → AreRising high rows
    → AreRising low rows
rising_less [] le rise = tt
rising_less (r ∷ rows) le rise = (omega (arith, le, rise.0), rise.1)

-- no frame in order from an offset on is before it
pub rising_get : {from : ℕ} (rows : List Row) (i : ℕ) {r : Row} → AreRising from rows
    → slice_get rows i ≡ Some r → from ≤ r.offset
rising_get [] i rise is = absurd cc
rising_get (q ∷ rows) zero rise is = grind arith
rising_get (q ∷ rows) (suc i) {r} rise is = omega (arith, rise.0, rising_get rows i rise.1 is)

-- ---- frames between two offsets

-- these frames, none of which is empty, are in order between two offsets
abbrev pub EndBy : ℕ → List Row → ℕ → Type 0
EndBy from [] to = from ≤ to
EndBy from (row ∷ rows) to =
    (from ≤ row.offset) × (row.offset < row_end row) × EndBy (row_end row) rows to

-- frames between two offsets: the second offset isn't before the first
pub end_rises : (from : ℕ) (rows : List Row) {to : ℕ} → EndBy from rows to → from ≤ to
end_rises from [] ends = ends
end_rises from (row ∷ rows) {to} ends = grind (arith, end_rises (row_end row) rows ends.2)

-- frames in order between two offsets are in order from any earlier one
pub end_earlier : {from later : ℕ} (rows : List Row) (to : ℕ) → from ≤ later → EndBy later rows to
    → EndBy from rows to
end_earlier [] to low ends = omega (arith, low, ends)
end_earlier (row ∷ rows) to low ends = (omega (arith, low, ends.0), ends.1, ends.2)

-- frames in order between two offsets end before any later one
pub end_later : (from : ℕ) (rows : List Row) {to later : ℕ} → to ≤ later → EndBy from rows to
    → EndBy from rows later
end_later from [] up ends = omega (arith, ends, up)
end_later from (row ∷ rows) {to} {later} up ends =
    (ends.0, ends.1, end_later (row_end row) rows up ends.2)

end_rising : (from : ℕ) (rows : List Row) (to : ℕ) → EndBy from rows to → AreRising from rows
end_rising from [] to ends = tt
end_rising from (row ∷ rows) to ends =
    grind (arith, rising_less, end_rising (row_end row) rows to ends.2)

-- the rows of placed frames, marked as lost by offset
abbrev pub rows_by : (ℕ → Bool) → List ℕ → List PlacedFrame → List Row
rows_by lost file ps = map (λ (p : PlacedFrame). record (row_of file p) { lost = lost p.offset }) ps

module _ (lost : ℕ → Bool) (file : List ℕ) where
  end_more : (at : ℕ) (item : Item) (frames : List PlacedFrame) (to : ℕ) → 0 < size_of item
      → EndBy (at + size_of item) (rows_by lost file frames) to
      → EndBy at (rows_by lost file (cons_option (frame_of_item at item) frames)) to
  end_more at item frames to some ends = grind (arith, end_earlier)

  -- the frames of consecutive items
  pub items_end : (part : Region) (from : ℕ) (ps : List PlacedItem) (to : ℕ)
      → AreEndToEnd part file from ps to → EndBy from (rows_by lost file (frames_of ps)) to
  items_end part from [] to ends = omega (arith, ends)
  items_end part from (p ∷ ps) to ends =
      subst (λ n. EndBy n (rows_by lost file (frames_of (p ∷ ps))) to) ends.0
      (end_more p.offset p.item (frames_of ps) to
      (whole_item_at-is part file p.offset p.item ends.1).some
      (items_end part (p.offset + size_of p.item) ps to ends.2))

-- ---- the lost frame at an offset

not_there : (lost other : Bool) {same : Bool} → same ≡ false → ((lost && same) || other) ≡ other
not_there lost other is = grind arith

there_alone : (lost : Bool) {other same : Bool} → same ≡ true → other ≡ false
    → ((lost && same) || other) ≡ lost
there_alone lost is none = grind arith

none_lost : (rows : List Row) (at : ℕ) → AreRising (suc at) rows → is_lost_at rows at ≡ false
none_lost [] at rise = refl
none_lost (r ∷ rows) at rise = grind (arith, not_there, ne_eqb, rising_less, none_lost rows)

lost_get : (from : ℕ) (rows : List Row) (i : ℕ) {r : Row} → AreRising from rows
    → slice_get rows i ≡ Some r → is_lost_at rows r.offset ≡ r.lost
lost_get from [] i rise is = absurd cc
lost_get from (q ∷ rows) zero rise is = grind (arith, there_alone, eq-eqb, none_lost)
lost_get from (q ∷ rows) (suc i) {r} rise is =
    grind (arith, rising_get, not_there, ne_eqb, lost_get (suc q.offset) rows i rise.1 is)

-- ---- marked frames

each_rising : (head : Option Head) (all : List Row) (n from : ℕ) (rows : List Row)
    → AreRising from rows
    → AreRising from (map (λ (p : ℕ × Row). marked_row head all p.0 p.1) (enumerate_from n rows))
each_rising head all n from [] rise = tt
each_rising head all n from (r ∷ rows) rise =
    (rise.0, each_rising head all (n + 1) (suc r.offset) rows rise.1)

-- marks don't change their order
pub marked_rows-rising : (head : Option Head) (from : ℕ) (rows : List Row) → AreRising from rows
    → AreRising from (marked_rows head rows)
unfolding marked_rows
marked_rows-rising head from rows rise = each_rising head rows 0 from rows rise

each_get : (head : Option Head) (all : List Row) (n : ℕ) (rows : List Row) (i : ℕ) {r : Row}
    → slice_get rows i ≡ Some r
    → slice_get (map (λ (p : ℕ × Row). marked_row head all p.0 p.1) (enumerate_from n rows)) i
    ≡ Some (marked_row head all (n + i) r)
each_get head all n [] i is = absurd cc
each_get head all n (q ∷ rows) zero is = grind arith
each_get head all n (q ∷ rows) (suc i) {r} is = grind (arith, each_get head all (n + 1) rows i is)

marked_rows-get : (head : Option Head) (rows : List Row) (i : ℕ) {r : Row} → slice_get rows i
    ≡ Some r → slice_get (marked_rows head rows) i ≡ Some (marked_row head rows i r)
unfolding marked_rows
marked_rows-get head rows i {r} is = grind (arith, each_get head rows 0 rows i is, zero-add i)

-- frame i is lost exactly if a lost frame of them is at its offset
pub lost-at : (head : Option Head) (from : ℕ) (rows : List Row) → AreRising from rows
    → (i : ℕ) {r : Row} → slice_get rows i ≡ Some r
    → is_lost_at (marked_rows head rows) r.offset ≡ is_lost head rows i r
lost-at head from rows rise i {r} is =
    lost_get from (marked_rows head rows) i
    (marked_rows-rising head from rows rise) (marked_rows-get head rows i is)

by_each : (lost : ℕ → Bool) (file : List ℕ) (head : Option Head) (all : List Row) (n : ℕ)
    (ps : List PlacedFrame) → ((i : ℕ) (r : Row) → slice_get (rows_of file ps) i ≡ Some r
    → lost r.offset ≡ is_lost head all (n + i) r)
    → map (λ (p : ℕ × Row). marked_row head all p.0 p.1) (enumerate_from n (rows_of file ps))
    ≡ rows_by lost file ps
by_each lost file head all n [] each = refl
by_each lost file head all n (p ∷ ps) each =
    let none : n + 0 ≡ n = omega arith in
    let here : lost p.offset ≡ is_lost head all n (row_of file p) =
    each 0 (row_of file p) refl ∙ ap (λ m. is_lost head all m (row_of file p)) none in
    ap₂ (λ (b : Bool) (l : List Row). record (row_of file p) { lost = b } ∷ l) (sym here)
    (by_each lost file head all (n + 1) ps
    (λ i r is. each (suc i) r is ∙ ap (λ m. is_lost head all m r) (omega arith)))

-- the rows are marked as lost exactly at the offsets of lost frames
pub marked_rows-by : (file : List ℕ) (head : Option Head) (from : ℕ) (ps : List PlacedFrame)
    → AreRising from (rows_of file ps) → marked_rows head (rows_of file ps)
    ≡ rows_by (is_lost_at (marked_rows head (rows_of file ps))) file ps
unfolding marked_rows
marked_rows-by file head from ps rise =
    by_each (is_lost_at (marked_rows head (rows_of file ps))) file head (rows_of file ps) 0 ps
    (λ i r is. lost-at head from (rows_of file ps) rise i is
    ∙ ap (λ m. is_lost head (rows_of file ps) m r) (sym (zero-add i)))

-- ---- the frames of a walk

items_rising : (file : List ℕ) (part : Region) (from : ℕ) (ps : List PlacedItem) (to : ℕ)
    → AreEndToEnd part file from ps to → AreRising from (rows_of file (frames_of ps))
items_rising file part from ps to ends = end_rising from (rows_of file (frames_of ps)) to
    (items_end (λ at. false) file part from ps to ends)

numbered_frames-rising : (file : List ℕ) (from : ℕ) (o : Option Head) (ps : List PlacedFrame)
    → AreRising from (rows_of file ps) → AreRising from (rows_of file (numbered_frames o ps))
numbered_frames-rising file from o ps rise = grind (arith, rising_less)

-- the frames of a walk are in order
pub walk_rising : (file : List ℕ) (start : Start) (o : Option Head) → AreRising start.first.offset
    (rows_of file (numbered_frames o (frames_of (stream_chain file start).items)))
walk_rising file start o =
    let stream = stream_chain file start in
    numbered_frames-rising file start.first.offset o (frames_of stream.items)
    (items_rising file Stream
    start.first.offset stream.items stream.stop (item_chain-ends Stream file start.first.offset))

-- the frames that a survey tells are marked as lost exactly at the offsets of lost frames
pub told_rows : (file : List ℕ) (start : Start) → (told_from file start).frames
    ≡ rows_by (is_lost_at (told_from file start).frames) file (frames_from file start)
told_rows file start = marked_rows-by file (head_of file start.first) start.first.offset
    (frames_from file start) (walk_rising file start (head_of file start.first))
