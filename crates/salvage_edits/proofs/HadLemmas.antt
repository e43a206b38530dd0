-- What is left of a damaged file, where emptied frames have no main data, is in the file as its
-- survey says.
use Rattle.std.proofs.Common.{arith, Bool, cond, drop, false, length, List, ltb, map, None, Ok}
use Rattle.std.proofs.Common.{Option, refl, Some, suc, true, zero, ℕ, [], ◌++◌, ◌+◌, ◌∷◌, ◌≡◌, ◌≤◌}
use Rattle.std.{proofs.lemmas.List.map-append, specs.List.cons_option}
use Rattle.cut_edits.proofs.HeadLemmas.{emptied_whole}
use Rattle.frame_header.specs.{Fields.ClassFields, Tables.{class_of, length_of}}
use Rattle.laying.proofs.BlockLemmas.{block_more, blocks-append, ends-blocks}
use Rattle.laying.proofs.{ReadLemmas.laid-behind, SurveyFrameLemmas.{head-whole, shaped_pairs}}
use Rattle.laying.specs.LaidFiles.{AreBlocks, block_bytes, HasPairs}
use Rattle.laying.specs.Surveys.{AreWholeRows, CanBeRelaid, IsWholeFrameAt}
use Rattle.salvage.proofs.LaidOutLemmas.{damaged_fields-from, first_frame-is}
use Rattle.salvage.proofs.{MendedLemmas.survey-mended, SoundLemmas.islands-left}
use Rattle.salvage.proofs.WalkLemmas.{item_read-is}
use Rattle.salvage.specs.DamagedFiles.{damaged_fields, damaged_from, DamagedFields, things_from}
use Rattle.salvage.specs.JudgedFrames.{rows_left, state_after_thing, thing_rows}
use Rattle.salvage.specs.Progress.{IsDamagedLaidOut, RowsAreOfClass}
use Rattle.salvage.specs.SoundFrames.{islands_of, judged_islands}
use Rattle.salvage.specs.Walk.{block_of_thing, blocks_of_things, first_frame, IsItem, ItemOrGap}
use Rattle.salvage.specs.Walk.{PlacedThing, size_of_thing, thing_at, thing_or_gap, things}
use Rattle.salvage.specs.Walk.{things_up_to}
use Rattle.side_info.proofs.FrameLemmas.{shaped-side_in}
use Rattle.sync_survey.proofs.ChainLemmas.{IsItemOf, item_chain-ends}
use Rattle.sync_survey.proofs.ItemsLemmas.{header_front-in_range, stands-at}
use Rattle.sync_survey.specs.{Chains.{blocks_of, item_chain}, HeadApart.emptied_survey}
use Rattle.sync_survey.specs.{MainData.head_area, Row.Row, Start.front_end_of, Survey.FramesAreLaid}
use Rattle.sync_survey.specs.{Walk.head_of, declared.chains.Region.TheVariants.{Front, Stream}}
use Rattle.sync_survey.specs.declared.{items.Item.{Item, TheVariants.Frame}, places.Head.Head}
use Rattle.sync_survey.specs.declared.places.{Piece.Piece, PlacedFrame.PlacedFrame}
use Rattle.sync_survey.specs.declared.rows.ReservoirState.{ReservoirState}

-- ---- the first frame

module _ (file : List ℕ) where
  first-whole : (at : ℕ) {first : PlacedFrame} → first_frame file at ≡ Some first
      → IsWholeFrameAt file first.offset first.header
  first-whole at {first} e =
      let here = (first_frame-is file at first e).frame in
      record {
        header = header_front-in_range _
            (stands-at file first.offset (Frame first.header) here.is);
        within = here.within;
      }

  -- ---- the frames

  abbrev ArePaired : List Row → Type 0
  ArePaired [] = Unit {0}
  ArePaired (r ∷ rows) = HasPairs r.side × ArePaired rows

  paired-append : (xs ys : List Row) → ArePaired xs → ArePaired ys → ArePaired (xs ++ ys)
  paired-append [] ys front back = back
  paired-append (x ∷ xs) ys front back = (front.0, paired-append xs ys front.1 back)

  here-paired : (b : ReservoirState) (at : ℕ) (thing : ItemOrGap)
      → ArePaired (thing_rows file b at thing)
  here-paired b at (IsItem (Frame h)) = (shaped_pairs (shaped-side_in h (drop at file)), tt)
  here-paired b at _ = tt

  left-paired : (b : ReservoirState) (ts : List PlacedThing) → ArePaired (rows_left file b ts)
  left-paired b [] = tt
  left-paired b (t ∷ ts) =
      paired-append (thing_rows file b t.offset t.thing)
      (rows_left file (state_after_thing file b t.offset t.thing) ts)
      (here-paired b t.offset t.thing)
      (left-paired (state_after_thing file b t.offset t.thing) ts)

  islands-paired : (head : Option Head) (ts : List PlacedThing)
      → ArePaired (judged_islands file head (islands_of ts))
  islands-paired head ts =
      rw (islands-left file head ts) (left-paired (record { place = head_area head; ended = 0 }) ts)

  rows-whole : (class : ClassFields) (from : ℕ) {to : ℕ} (rows : List Row) → to ≤ length file
      → RowsAreOfClass class rows → FramesAreLaid from rows to → ArePaired rows
      → AreWholeRows file rows
  rows-whole class from [] within are laid pairs = tt
  rows-whole class from {to} (r ∷ rows) within are laid pairs =
      let size = length_of (class_of r.header) r.header.slot in (
        record {
          frame = record {
            header = are.0;
            within = omega (arith, within, laid-behind (r.offset + size) rows laid.2);
          };
          pairs = pairs.0;
        },
        rows-whole class (r.offset + size) rows within are.2 laid.2 pairs.1,
      )

  -- ---- the blocks

  module _ (class : ClassFields) where
    thing-blocks : {at : ℕ} (o : Option Item) (blocks : List Piece)
        → ((item : Item) → o ≡ Some item → IsItemOf Stream file at item)
        → AreBlocks (map (block_bytes file) blocks) → AreBlocks (map (block_bytes file)
        (cons_option (block_of_thing at (thing_or_gap file class at o)) blocks))
    thing-blocks None blocks is are = are
    thing-blocks {at} (Some item) blocks is are = let here = is item refl in
        block_more file at item blocks here.is here.within are

    here-blocks : (at : ℕ) (blocks : List Piece) → AreBlocks (map (block_bytes file) blocks)
        → AreBlocks (map (block_bytes file)
        (cons_option (block_of_thing at (thing_at file class at)) blocks))
    unfolding thing_at
    here-blocks at blocks are =
        thing-blocks _ blocks (λ item is. item_read-is file _ at item is) are

    next-blocks : (at : ℕ) (ts : List PlacedThing) (b : Bool)
        → AreBlocks (map (block_bytes file) (blocks_of_things ts))
        → AreBlocks (map (block_bytes file)
        (blocks_of_things (cond b
        (record { offset = at; thing = thing_at file class at } ∷ ts) [])))
    next-blocks at ts true are = here-blocks at (blocks_of_things ts) are
    next-blocks at ts false are = tt

    up-to-blocks : (most at : ℕ)
        → AreBlocks (map (block_bytes file) (blocks_of_things (things_up_to most file class at)))
    unfolding things_up_to
    up-to-blocks zero at = tt
    up-to-blocks (suc most) at =
        let size = size_of_thing (thing_at file class at) in
        next-blocks at (things_up_to most file class (at + size)) (ltb at (length file))
        (up-to-blocks most (at + size))

    things-blocks : (at : ℕ)
        → AreBlocks (map (block_bytes file) (blocks_of_things (things file class at)))
    unfolding things
    things-blocks at = up-to-blocks (length file) at

  all-blocks : (first : PlacedFrame) → AreBlocks (map (block_bytes file)
      (blocks_of (item_chain Front file 0).items ++ blocks_of_things (things_from file first)))
  all-blocks first =
      let front = item_chain Front file 0 in
      let found = things_from file first in
      rw (map-append (block_bytes file) (blocks_of front.items) (blocks_of_things found))
      (blocks-append (map (block_bytes file) (blocks_of front.items))
      (map (block_bytes file) (blocks_of_things found))
      (ends-blocks Front file 0 front.items front.stop (item_chain-ends Front file 0))
      (things-blocks (class_of first.header) _))

  -- ---- the whole file

  begun-had : (front_end : ℕ) {first : PlacedFrame} → IsWholeFrameAt file first.offset first.header
      → IsDamagedLaidOut (damaged_from file front_end first)
      → CanBeRelaid file (emptied_survey (damaged_from file front_end first).survey)
  unfolding damaged_from
  begun-had front_end {first} whole laid =
      let head = head_of file first in
      let rows = judged_islands file head (islands_of (things_from file first)) in
      record {
        long = refl;
        head = head-whole whole;
        rows = emptied_whole file rows (rows-whole (class_of first.header) first.offset rows
            (omega arith) laid.class laid.frames
            (islands-paired head (things_from file first)));
        placed = (survey-mended laid).placed;
        blocks = all-blocks first;
      }

-- what is left of a damaged file is in the file as its survey says
pub damaged_fields-relaid : {file : List ℕ} {d : DamagedFields} → damaged_fields file ≡ Ok d
    → IsDamagedLaidOut d → CanBeRelaid file (emptied_survey d.survey)
damaged_fields-relaid {file} {d} e laid =
    let is = damaged_fields-from e in
    rw (← is.same) (begun-had file (front_end_of file) (first-whole file
    (front_end_of file) is.first_is) (rw is.same laid))
