-- What is read of a damaged file is in order within it, by the definition alone.
use Rattle.std.proofs.Common.{ap, append-nil, append_assoc, arith, Bool, cond, drop, Err, false}
use Rattle.std.proofs.Common.{IfSome, inl, inr, length, List, ltb, None, Ok, Option}
use Rattle.std.proofs.Common.{option_and_then, option_map, refl, Result, Some, subst, suc, sym}
use Rattle.std.proofs.Common.{true, zero, ℕ, [], ◌++◌, ◌+◌, ◌-◌, ◌<◌, ◌∙◌, ◌∷◌, ◌≡◌, ◌≤◌}
use Rattle.std.proofs.lemmas.{Bool.{and_parts, ltb-false, ltb-true}, Option.slice_get_cases}
use Rattle.std.specs.{List.cons_option, Option.option_or}
use Rattle.frame_header.proofs.{ClassLemmas.same_class-is, HeaderLemmas.IsClass-class_of}
use Rattle.frame_header.specs.{Fields.{ClassFields, HeaderFields, IsHeader}, Tables.class_of}
use Rattle.salvage.proofs.KeptLemmas.{kept_frame, kept_gap, kept_none}
use Rattle.salvage.proofs.{ProgressLemmas.no_frame_or_damaged-few, ReadFaultLemmas.damaged_of-short}
use Rattle.salvage.proofs.SoundLemmas.{islands-left}
use Rattle.salvage.proofs.WalkLemmas.{gap_end-is, IsGapTo, IsNext, item_read-is}
use Rattle.salvage.proofs.WalkLemmas.{next_usable_frame-is}
use Rattle.salvage.specs.DamagedFiles.{damaged_by, damaged_fields, damaged_from, damaged_of}
use Rattle.salvage.specs.DamagedFiles.{DamagedFields, excess_or_damaged, most_frames}
use Rattle.salvage.specs.DamagedFiles.{no_frame_or_damaged, things_from}
use Rattle.salvage.specs.JudgedFrames.{empty_state, row_judged_in, rows_left, state_after_frame}
use Rattle.salvage.specs.JudgedFrames.{state_after_thing, thing_rows}
use Rattle.salvage.specs.KeptFrames.{AreKeptTo, AreKeptWell}
use Rattle.salvage.specs.Progress.{GapsAreLaid, IsDamagedLaidOut, RowsAreOfClass}
use Rattle.salvage.specs.{SoundFrames.{islands_of, judged_islands}, UsableFrames.next_usable_frame}
use Rattle.salvage.specs.Walk.{blocks_of_things, first_frame, frame_of_thing, frames_of_things}
use Rattle.salvage.specs.Walk.{gaps_of, is_item_read, IsGap, IsItem, item_if_read, item_read}
use Rattle.salvage.specs.Walk.{ItemOrGap, PlacedThing, size_of_thing, thing_at, thing_or_gap}
use Rattle.salvage.specs.{Walk.{things, things_up_to}, declared.{gap.Gap.Gap, usable.Role.Role}}
use Rattle.salvage.specs.declared.usable.Role.TheVariants.{First, Later}
use Rattle.side_info.proofs.FrameLemmas.{fits-side_in}
use Rattle.sync_survey.proofs.ChainLemmas.{IsItemOf, item_chain-ends}
use Rattle.sync_survey.proofs.ItemsLemmas.{header_front-in_range, stands-at}
use Rattle.sync_survey.specs.Chains.{AreEndToEnd, block_of_item, blocks_of, frame_of_item}
use Rattle.sync_survey.specs.{Chains.{item_chain, PlacedItem}, Faults.longest_file, Items.size_of}
use Rattle.sync_survey.specs.{MainData.{head_area, row_in}, Row.Row, Start.front_end_of}
use Rattle.sync_survey.specs.Survey.{BlocksAreLaid, FramesAreLaid, IsWholeHead}
use Rattle.sync_survey.specs.{Walk.{head_of, numbered_offset}, declared.chains.Region.Region}
use Rattle.sync_survey.specs.declared.{chains.Region.TheVariants.{Front, Stream}, items.Item.Item}
use Rattle.sync_survey.specs.declared.items.Item.TheVariants.{Block, Frame, Free}
use Rattle.sync_survey.specs.declared.places.{Head.Head, Piece.Piece, PlacedFrame.PlacedFrame}
use Rattle.sync_survey.specs.declared.rows.ReservoirState.{ReservoirState}
use Rattle.sync_survey.specs.declared.survey_fault.SurveyFault.{SurveyFault, TheVariants.TooLong}

-- ---- things in order from an earlier offset too

rows-earlier : {from later : ℕ} (rows : List Row) (to : ℕ) → from ≤ later
    → FramesAreLaid later rows to → FramesAreLaid from rows to
rows-earlier [] to low laid = omega (arith, low, laid)
rows-earlier (r ∷ rows) to low laid = (omega (arith, low, laid.0), laid.1, laid.2)

blocks-earlier : {from later : ℕ} (blocks : List Piece) (to : ℕ) → from ≤ later
    → BlocksAreLaid later blocks to → BlocksAreLaid from blocks to
blocks-earlier [] to low laid = omega (arith, low, laid)
blocks-earlier (b ∷ blocks) to low laid = (omega (arith, low, laid.0), laid.1)

gaps-earlier : {from later : ℕ} (gaps : List Gap) (to : ℕ) → from ≤ later
    → GapsAreLaid later gaps to → GapsAreLaid from gaps to
gaps-earlier [] to low laid = omega (arith, low, laid)
gaps-earlier (g ∷ gaps) to low laid = (omega (arith, low, laid.0), laid.1, laid.2)

-- ---- a thing that is met

-- an item that is read passes the test of what is read
read-by : (file : List ℕ) (role : Role) (at : ℕ) (o : Option Item) {item : Item}
    → item_if_read file role at o ≡ Some item → is_item_read file role at item ≡ true
read-by file role at o e = grind arith

frame-class : (file : List ℕ) {class : ClassFields} (at : ℕ) {h : HeaderFields}
    → item_read file (Later class) at ≡ Some (Frame h) → class_of h ≡ class
unfolding item_read
frame-class file {class} at {h} e =
    same_class-is (and_parts _ _ (read-by file (Later class) at _ e)).0

frame-known : (file : List ℕ) (class : ClassFields) (at : ℕ) {h : HeaderFields}
    → item_read file (Later class) at ≡ Some (Frame h) → IsHeader h
frame-known file class at {h} e = header_front-in_range (drop at file)
    (stands-at file at (Frame h) (item_read-is file (Later class) at (Frame h) e).is)

module _ (file : List ℕ) (class : ClassFields) where
  -- the item is read there, or a gap begins there
  abbrev IsMet : ℕ → ItemOrGap → Type 0
  IsMet at (IsItem item) = item_read file (Later class) at ≡ Some item
  IsMet at (IsGap n) = IsGapTo file at (at + n)

  met-by : {at : ℕ} {o : Option Item} → at < length file → item_read file (Later class) at ≡ o
      → IsMet at (thing_or_gap file class at o)
  met-by before is = grind (arith, gap_end-is)

  thing-met : {at : ℕ} → at < length file → IsMet at (thing_at file class at)
  unfolding thing_at
  thing-met {at} before = met-by before refl

  met-within : (at : ℕ) (thing : ItemOrGap) → IsMet at thing
      → at + size_of_thing thing ≤ length file
  met-within at thing met = grind (arith, item_read-is)

  -- ---- all things from an offset on

  -- frames, blocks and gaps are in order up to the file's end,
  -- and the main data that are kept are where they may be
  record AreInOrder (at : ℕ) (ts : List PlacedThing) : Type 0 where
    rows : (b : ReservoirState) → FramesAreLaid at (rows_left file b ts) (length file)
    same : (b : ReservoirState) → RowsAreOfClass class (rows_left file b ts)
    blocks : BlocksAreLaid at (blocks_of_things ts) (length file)
    gaps : GapsAreLaid at (gaps_of ts) (length file)
    kept : (head : Option Head) (rows : List Row) (b : ReservoirState) → AreKeptTo head rows b
        → AreKeptWell head (rows ++ rows_left file b ts)

  order-none : (at : ℕ) → at ≤ length file → AreInOrder at []
  order-none at within = record {
    rows = λ b. within;
    same = λ b. tt;
    blocks = within;
    gaps = within;
    kept = λ head rows b kept. subst (AreKeptWell head) (sym (append-nil rows)) kept.frames;
  }

  module _ (at : ℕ) (ts : List PlacedThing) where
    abbrev with_thing : ItemOrGap → List PlacedThing
    with_thing thing = record { offset = at; thing = thing } ∷ ts

    order-gap : {n : ℕ} → IsGapTo file at (at + n) → AreInOrder (at + n) ts
        → AreInOrder at (with_thing (IsGap n))
    order-gap ends order = record {
      rows = grind (arith, rows-earlier);
      same = λ b. order.same empty_state;
      blocks = grind (arith, blocks-earlier);
      gaps = (omega arith, omega (arith, ends.some), order.gaps);
      kept = λ head rows b kept. order.kept head rows empty_state (kept_gap head kept);
    }

    order-frame : {h : HeaderFields} → item_read file (Later class) at ≡ Some (Frame h)
        → AreInOrder (at + size_of (Frame h)) ts → AreInOrder at (with_thing (IsItem (Frame h)))
    order-frame {h} met order =
        let known = frame-known file class at met in
        let row = row_in at h (drop at file) in
        record {
          rows = grind (arith, fits-side_in, IsClass-class_of);
          same = grind (arith, frame-class);
          blocks = grind (arith, blocks-earlier);
          gaps = grind (arith, gaps-earlier);
          kept = λ head rows b kept.
              subst (AreKeptWell head)
              (append_assoc rows (row_judged_in b row ∷ [])
              (rows_left file (state_after_frame b row) ts))
              (order.kept head (rows ++ row_judged_in b row ∷ []) (state_after_frame b row)
              (kept_frame head kept row));
        }

    -- an item that is neither a frame nor a block
    order-other : {item : Item}
        → ((b : ReservoirState) → rows_left file b (with_thing (IsItem item)) ≡ rows_left file b ts)
        → blocks_of_things (with_thing (IsItem item)) ≡ blocks_of_things ts
        → AreInOrder (at + size_of item) ts → AreInOrder at (with_thing (IsItem item))
    order-other {item} rows_are blocks_are order =
        let later = at + size_of item in
        record {
          rows = grind (arith, rows-earlier);
          same = λ b. subst (RowsAreOfClass class) (sym (rows_are b)) (order.same b);
          blocks = grind (arith, blocks-earlier);
          gaps = gaps-earlier (gaps_of ts) (length file) (omega arith) order.gaps;
          kept = λ head rows b kept. subst (λ l. AreKeptWell head (rows ++ l)) (sym (rows_are b))
              (order.kept head rows b kept);
        }

    order-more : (thing : ItemOrGap) → IsMet at thing → AreInOrder (at + size_of_thing thing) ts
        → AreInOrder at (with_thing thing)
    order-more (IsGap n) met order = order-gap met order
    order-more (IsItem (Frame h)) met order = order-frame met order
    order-more (IsItem Free) met order = order-other (λ b. refl) refl order
    order-more (IsItem (Block block)) met order = record {
      rows = grind (arith, rows-earlier);
      same = order.same;
      blocks = (omega arith, order.blocks);
      gaps = grind (arith, gaps-earlier);
      kept = order.kept;
    }
    order-more (IsItem item) met order = order-other (λ b. refl) refl order

  order-by : (n at : ℕ) (b : Bool) → ltb at (length file) ≡ b → at ≤ length file
      → ((later : ℕ) → later ≤ length file → AreInOrder later (things_up_to n file class later))
      → AreInOrder at (cond b (record {
        offset = at;
        thing = thing_at file class at;
      } ∷ things_up_to n file class (at + size_of_thing (thing_at file class at))) [])
  order-by n at false is within next = order-none at within
  order-by n at true is within next =
      let met = thing-met (ltb-true at (length file) is) in
      let later = at + size_of_thing (thing_at file class at) in
      order-more at (things_up_to n file class later) (thing_at file class at) met
      (next later (met-within at (thing_at file class at) met))

  order-up-to : (n at : ℕ) → at ≤ length file → AreInOrder at (things_up_to n file class at)
  unfolding things_up_to
  order-up-to zero at within = order-none at within
  order-up-to (suc n) at within = order-by n at (ltb at (length file)) refl within (order-up-to n)

  things-order : {at : ℕ} → at ≤ length file → AreInOrder at (things file class at)
  unfolding things
  things-order {at} within = order-up-to (length file) at within

-- ---- the front, and the first frame

block-first : {from at : ℕ} (item : Item) (blocks : List Piece) (to : ℕ) → from ≤ at
    → BlocksAreLaid (at + size_of item) blocks to
    → BlocksAreLaid from (cons_option (block_of_item at item) blocks) to
block-first item blocks to low laid = grind (arith, blocks-earlier)

ends-order : (part : Region) (file : List ℕ) (from : ℕ) (ps : List PlacedItem) (to : ℕ)
    → AreEndToEnd part file from ps to → BlocksAreLaid from (blocks_of ps) to
ends-order part file from [] to ends = omega (arith, ends)
ends-order part file from (p ∷ ps) to ends = block-first p.item (blocks_of ps) to
    (omega (arith, ends.0)) (ends-order part file (p.offset + size_of p.item) ps to ends.2)

blocks-behind : (from : ℕ) (xs ys : List Piece) (mid to : ℕ) → BlocksAreLaid from xs mid
    → BlocksAreLaid mid ys to → BlocksAreLaid from (xs ++ ys) to
blocks-behind from [] ys mid to front back = blocks-earlier ys to front back
blocks-behind from (b ∷ xs) ys mid to front back =
    (front.0, blocks-behind (b.offset + b.block.length) xs ys mid to front.1 back)

gaps-behind : {from first : ℕ} (gaps : List Gap) (to : ℕ) {some : Bool} → ltb from first ≡ some
    → from ≤ first → GapsAreLaid first gaps to
    → GapsAreLaid 0 (cond some (record { offset = from; length = first - from } ∷ []) [] ++ gaps) to
gaps-behind gaps to is low laid = grind (arith, ltb-true, gaps-earlier)

first-by : (file : List ℕ) (at : ℕ) (o : Option Item) (next : Option PlacedFrame)
    (first : PlacedFrame) → ((item : Item) → o ≡ Some item → IsItemOf Stream file at item)
    → ((p : PlacedFrame) → next ≡ Some p → IsNext file (at + 1) p)
    → option_or (option_and_then (frame_of_item at) o) next ≡ Some first → IsNext file at first
first-by file at (Some (Frame h)) next first is follows e =
    let same : record { offset = at; header = h } ≡ first = cc in
    subst (IsNext file at) same (record { low = omega arith; frame = is (Frame h) refl })
first-by file at _ next first is follows e = let found = follows first e in
    record { low = omega (arith, found.low); frame = found.frame }

-- the first frame is whole in the file, and not before the end of the front
pub first_frame-is : (file : List ℕ) (at : ℕ) (first : PlacedFrame)
    → first_frame file at ≡ Some first → IsNext file at first
unfolding first_frame
first_frame-is file at first e =
    first-by file at (item_read file First at) (next_usable_frame file First
    (at + 1)) first (item_read-is file First at) (next_usable_frame-is file First (at + 1)) e

-- a head is whole in the file and is the first frame, and the numbered frames begin after it
record IsBehindHead (file : List ℕ) (first : PlacedFrame) (head : Option Head) : Type 0 where
  whole : IfSome head (IsWholeHead first.offset (class_of first.header) (length file))
  low : first.offset ≤ numbered_offset first head
  high : numbered_offset first head ≤ length file

head-by : {file : List ℕ} {first : PlacedFrame} (o : Option ℕ)
    → IsItemOf Stream file first.offset (Frame first.header) → IsBehindHead file first
    (option_map (λ at. record { offset = first.offset; header = first.header; text_at = at }) o)
head-by o is = grind arith

head-behind : {file : List ℕ} {first : PlacedFrame}
    → IsItemOf Stream file first.offset (Frame first.header)
    → IsBehindHead file first (head_of file first)
unfolding head_of
head-behind {file} {first} is = head-by _ is

-- ---- all that is read

-- the first frame, and how many frames there are
pub record IsFromFirst (file : List ℕ) (d : DamagedFields) : Type 0 where
  pub first : PlacedFrame
  pub first_is : first_frame file (front_end_of file) ≡ Some first
  pub same : damaged_from file (front_end_of file) first ≡ d
  pub some : 0 < length d.survey.frames
  pub few : length d.survey.frames ≤ most_frames

no_frame_or_damaged-is : (front_end : ℕ) (rows : List Row) {d e : DamagedFields}
    → no_frame_or_damaged front_end rows d ≡ Ok e
    → (d ≡ e) × (0 < length rows) × (length rows ≤ most_frames)
no_frame_or_damaged-is front_end [] is = absurd cc
no_frame_or_damaged-is front_end (r ∷ rows) {d} {e} is =
    elim (slice_get_cases (r ∷ rows) most_frames).1 as (λ _. (d ≡ e) × (0 < length (r ∷ rows))
    × (length (r ∷ rows) ≤ most_frames)) [
      | inl found ↦ absurd (not-ok found.0 (sym (ap (λ o. excess_or_damaged o d) found.2) ∙ is))
      | inr past ↦ (same (sym (ap (λ o. excess_or_damaged o d) past.1) ∙ is), omega arith, past.0)
    ]
  where
    not-ok : (q : Row) → excess_or_damaged (Some q) d ≡ Ok e → ⊥
    not-ok q is = absurd cc

    same : excess_or_damaged None d ≡ Ok e → d ≡ e
    same is = cc

from-first : {file : List ℕ} (o : Option PlacedFrame) {d : DamagedFields}
    → first_frame file (front_end_of file) ≡ o → damaged_by file (front_end_of file) o ≡ Ok d
    → IsFromFirst file d
from-first None is e = absurd cc
from-first {file} (Some first) {d} is e =
    let all = damaged_from file (front_end_of file) first in
    let found = no_frame_or_damaged-is (front_end_of file) all.survey.frames e in
    record {
      first = first;
      first_is = is;
      same = found.0;
      some = subst (λ (c : DamagedFields). 0 < length c.survey.frames) found.0 found.1;
      few = subst (λ (c : DamagedFields). length c.survey.frames ≤ most_frames) found.0 found.2;
    }

-- what is read of a file is read from its first frame on
pub damaged_fields-from : {file : List ℕ} {d : DamagedFields} → damaged_fields file ≡ Ok d
    → IsFromFirst file d
unfolding damaged_fields
damaged_fields-from {file} {d} e = from-first (first_frame file (front_end_of file)) refl e

front-order : (file : List ℕ)
    → BlocksAreLaid 0 (blocks_of (item_chain Front file 0).items) (front_end_of file)
unfolding front_end_of
front-order file =
    ends-order Front file 0
    (item_chain Front file 0).items (item_chain Front file 0).stop (item_chain-ends Front file 0)

module _ (file : List ℕ) {first : PlacedFrame}
    (is : first_frame file (front_end_of file) ≡ Some first) where
  next : IsNext file (front_end_of file) first
  next = first_frame-is file (front_end_of file) first is

  abbrev head : Option Head
  head = head_of file first

  behind : IsBehindHead file first head
  behind = head-behind next.frame

  order : AreInOrder file (class_of first.header) (numbered_offset first head)
      (things_from file first)
  order = things-order file (class_of first.header) behind.high

  -- before the first frame there is nothing, or the head's area
  abbrev begin : ReservoirState
  begin = record { place = head_area head; ended = 0 }

  rows-are : judged_islands file head (islands_of (things_from file first))
      ≡ rows_left file begin (things_from file first)
  rows-are = islands-left file head (things_from file first)

  from-laid : length file ≤ longest_file
      → 0 < length (damaged_from file (front_end_of file) first).survey.frames
      → length (damaged_from file (front_end_of file) first).survey.frames ≤ most_frames
      → IsDamagedLaidOut (damaged_from file (front_end_of file) first)
  unfolding damaged_from
  from-laid long some few = record {
    junk = next.low;
    first = omega (arith, next.frame.within);
    head = behind.whole;
    frames = subst (λ l. FramesAreLaid first.offset l (length file)) (sym rows-are)
        (rows-earlier (rows_left file begin
        (things_from file first)) (length file) behind.low (order.rows begin));
    class = subst (RowsAreOfClass (class_of first.header)) (sym rows-are) (order.same begin);
    blocks =
        blocks-behind 0 (blocks_of (item_chain Front file 0).items)
        (blocks_of_things (things_from file first))
        (front_end_of file) (length file) (front-order file)
        (blocks-earlier (blocks_of_things
        (things_from file first)) (length file) (omega (arith, next.low, behind.low)) order.blocks);
    gaps =
        gaps-behind (gaps_of (things_from file first))
        (length file) refl next.low
        (gaps-earlier (gaps_of (things_from file first))
        (length file) behind.low order.gaps);
    some = some;
    few = few;
    long = long;
    kept = subst (AreKeptWell head) (sym rows-are) (order.kept head [] begin (kept_none head));
  }

-- what is read of a file that isn't too long is in order within it
pub damaged_fields-laid : (file : List ℕ) {d : DamagedFields} → damaged_fields file ≡ Ok d
    → length file ≤ longest_file → IsDamagedLaidOut d
damaged_fields-laid file {d} e long =
    let is = damaged_fields-from e in
    subst IsDamagedLaidOut is.same
    (from-laid file is.first_is long
    (subst (λ (c : DamagedFields). 0 < length c.survey.frames) (sym is.same) is.some)
    (subst (λ (c : DamagedFields). length c.survey.frames ≤ most_frames) (sym is.same) is.few))

-- ---- files by length

length-by : {b : Bool} (n : ℕ) {r : Result DamagedFields SurveyFault} {d : DamagedFields}
    → cond b (Err (TooLong n)) r ≡ Ok d → (b ≡ false) × (r ≡ Ok d)
length-by n e = grind arith

-- a file of which something is read is no longer than allowed
pub damaged_of-is : (file : List ℕ) {d : DamagedFields} → damaged_of file ≡ Ok d
    → (length file ≤ longest_file) × (damaged_fields file ≡ Ok d)
unfolding damaged_of
damaged_of-is file {d} e =
    let read = length-by (length file) e in
    (ltb-false longest_file (length file) read.0, read.1)

-- what is read of any file is in order within it
pub read-laid : (file : List ℕ) {d : DamagedFields} → damaged_of file ≡ Ok d → IsDamagedLaidOut d
read-laid file {d} e = let read = damaged_of-is file e in damaged_fields-laid file read.1 read.0

-- ---- when something is read

row-many : (file : List ℕ) (b : ReservoirState) (at : ℕ) (thing : ItemOrGap) (rows : List Row)
    (frames : List PlacedFrame) → length rows ≡ length frames
    → length (thing_rows file b at thing ++ rows)
    ≡ length (cons_option (frame_of_thing at thing) frames)
row-many file b at thing rows frames same = grind arith

rows-many : (file : List ℕ) (b : ReservoirState) (ts : List PlacedThing)
    → length (rows_left file b ts) ≡ length (frames_of_things ts)
rows-many file b [] = refl
rows-many file b (t ∷ ts) = row-many file b t.offset t.thing _ (frames_of_things ts)
    (rows-many file (state_after_thing file b t.offset t.thing) ts)

frames-many : (file : List ℕ) (front_end : ℕ) (first : PlacedFrame)
    → length (damaged_from file front_end first).survey.frames
    ≡ length (frames_of_things (things_from file first))
unfolding damaged_from
frames-many file front_end first =
    ap length (islands-left file (head_of file first) (things_from file first)) ∙ rows-many file
    (record { place = head_area (head_of file first); ended = 0 }) (things_from file first)

-- a file that isn't too long, its first frame, and how
-- many frames are found from there on besides a head
pub record HasFrames (file : List ℕ) : Type 0 where
  pub long : length file ≤ longest_file
  pub first : PlacedFrame
  pub begins : first_frame file (front_end_of file) ≡ Some first
  pub some : 0 < length (frames_of_things (things_from file first))
  pub few : length (frames_of_things (things_from file first)) ≤ most_frames

-- if something is read, there is a first frame, and there are frames from it on, but not too many
pub read-frames : {file : List ℕ} {d : DamagedFields} → damaged_of file ≡ Ok d → HasFrames file
read-frames {file} {d} e =
    let read = damaged_of-is file e in
    let is = damaged_fields-from read.1 in
    let many : length d.survey.frames ≡ length (frames_of_things (things_from file is.first)) =
    grind (arith, frames-many) in
    record {
      long = read.0;
      first = is.first;
      begins = is.first_is;
      some = omega (arith, many, is.some);
      few = omega (arith, many, is.few);
    }

first-read : (file : List ℕ) {first : PlacedFrame} → first_frame file (front_end_of file)
    ≡ Some first → damaged_fields file ≡ no_frame_or_damaged (front_end_of file) (damaged_from file
    (front_end_of file) first).survey.frames (damaged_from file (front_end_of file) first)
unfolding damaged_fields
first-read file is = ap (damaged_by file (front_end_of file)) is

-- if there are such frames, they are what is read
pub frames-read : {file : List ℕ} (is : HasFrames file)
    → damaged_of file ≡ Ok (damaged_from file (front_end_of file) is.first)
frames-read {file} is =
    let all = damaged_from file (front_end_of file) is.first in
    let many = frames-many file (front_end_of file) is.first in
    damaged_of-short file is.long
    ∙ first-read file {first = is.first} is.begins
    ∙ no_frame_or_damaged-few (front_end_of file) {rows = all.survey.frames} all
    (λ none. absurd (omega (arith, ap length none, many, is.some))) (omega (arith, many, is.few))
