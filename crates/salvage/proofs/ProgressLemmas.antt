-- One more thing is read.
use Rattle.std.proofs.Common.{ap, append-nil, arith, Bool, cond, drop, Err, IfSome, length, List}
use Rattle.std.proofs.Common.{ltb, None, Ok, Option, refl, slice_get, Some, subst, sym, true, ℕ, []}
use Rattle.std.proofs.Common.{◌++◌, ◌+◌, ◌-◌, ◌<◌, ◌==◌, ◌∙◌, ◌∷◌, ◌≡◌, ◌≤◌}
use Rattle.std.{proofs.lemmas.{Bool.and_parts, Option.slice_get_past}, specs.List.prefix_len}
use Rattle.frame_header.proofs.{ClassLemmas.same_class-is, HeaderLemmas.IsClass-class_of}
use Rattle.frame_header.specs.{Fields.{ClassFields, HeaderFields, IsHeader}, Tables.class_of}
use Rattle.salvage.proofs.KeptLemmas.{kept_frame, kept_gap, kept_none}
use Rattle.salvage.proofs.{ReadFaultLemmas.damaged_of-short, SoundLemmas.islands-left}
use Rattle.salvage.proofs.WalkLemmas.{item_passed, things-gap, things-item, things-past}
use Rattle.salvage.specs.DamagedFiles.{damaged_fields, damaged_from, damaged_of, damaged_with_count}
use Rattle.salvage.specs.DamagedFiles.{DamagedFields, gap_between, most_frames, no_frame_or_damaged}
use Rattle.salvage.specs.JudgedFrames.{AddsGap, AddsItem, empty_state, IsPastMost, item_rows}
use Rattle.salvage.specs.JudgedFrames.{row_judged_in, rows_left, state_after_frame}
use Rattle.salvage.specs.{JudgedFrames.state_after_item, KeptFrames.AreKeptTo}
use Rattle.salvage.specs.Progress.{BeginsAsRead, begun_class, found_view, GapsAreLaid}
use Rattle.salvage.specs.Progress.{IsDamagedLaidOut, IsLaidTo, IsReadTo, RowsAreOfClass}
use Rattle.salvage.specs.{Progress.whole_damaged, Steps.admits_item}
use Rattle.salvage.specs.Walk.{blocks_of_things, first_frame, gap_end, gaps_of, item_read, things}
use Rattle.salvage.specs.declared.{begun.Begun.Begun, found.DamagedSoFar.DamagedSoFar, gap.Gap.Gap}
use Rattle.salvage.specs.declared.usable.Role.TheVariants.{Later}
use Rattle.side_info.proofs.FrameLemmas.{fits-side_in, overhead-few}
use Rattle.sync_survey.proofs.ChainLemmas.{kept_more, kept_whole}
use Rattle.sync_survey.proofs.FrontLemmas.{blocks_more, pieces_later}
use Rattle.sync_survey.proofs.StepLemmas.{area_within, item_header, laid_later, laid_push}
use Rattle.sync_survey.{proofs.StepLemmas.row_shown, specs.Chains.{blocks_of, item_chain}}
use Rattle.sync_survey.specs.{Faults.longest_file, Items.{item_front, size_of}, Looks.Shows}
use Rattle.sync_survey.specs.{MainData.{head_area, row_in}, Row.Row, Start.front_end_of}
use Rattle.sync_survey.specs.Survey.{BlocksAreLaid, FramesAreLaid, IsWholeHead}
use Rattle.sync_survey.specs.{SurveyFaultKinds.RefusesRightly, Walk.{IsFrameOf, numbered_offset}}
use Rattle.sync_survey.specs.declared.{chains.Region.TheVariants.Front, items.Item.Item}
use Rattle.sync_survey.specs.declared.{items.Item.TheVariants.{Frame, Zero}, places.Head.Head}
use Rattle.sync_survey.specs.declared.rows.ReservoirState.{ReservoirState}
use Rattle.sync_survey.specs.declared.survey_fault.SurveyFault.{SurveyFault}
use Rattle.sync_survey.specs.declared.survey_fault.SurveyFault.TheVariants.{NoFrame, TooManyFrames}

-- ---- what was found, and what is left

module _ (file : List ℕ) (b : Begun) (old new : DamagedSoFar) where
  left_by : {m : ReservoirState} {n : ℕ} → new.before ≡ m → new.at ≡ n
      → rows_left file new.before (things file (begun_class b) new.at)
      ≡ rows_left file m (things file (begun_class b) n)
  left_by before at = grind (arith, before)

  -- a gap up to the next usable frame is one more thing that was read
  pub gap_read : IsReadTo file b old → old.at < length file
      → item_read file (Later (begun_class b)) old.at ≡ None
      → AddsGap (gap_end file (begun_class b) old.at) old new → IsReadTo file b new
  gap_read so_far before none adds =
      let end = gap_end file (begun_class b) old.at in
      let here = things-gap file (begun_class b) before none in
      record {
        rows = grind (arith, left_by, kept_more);
        blocks = grind (arith, kept_more);
        gaps = grind (arith, kept_more);
      }

  rows_shown : (item : Item) {front : List ℕ} {left : ℕ} → Shows file old.at front left
      → item_rows old.before old.at front item ≡ item_rows old.before old.at (drop old.at file) item
  rows_shown (Frame h) {front} {left} shows =
      ap (λ (r : Row). row_judged_in old.before r ∷ [])
      (row_shown shows h (omega (arith, overhead-few (class_of h) h.protected)))
  rows_shown _ shows = refl

  before_shown : (item : Item) {front : List ℕ} {left : ℕ} → Shows file old.at front left
      → state_after_item old.before old.at front item
      ≡ state_after_item old.before old.at (drop old.at file) item
  before_shown (Frame h) {front} {left} shows =
      ap (state_after_frame old.before)
      (row_shown shows h (omega (arith, overhead-few (class_of h) h.protected)))
  before_shown _ shows = refl

  -- an item that is read is one more thing, whose frame or block is kept
  pub item_more : {item : Item} {size : ℕ} {front : List ℕ} {left : ℕ} → IsReadTo file b old
      → Shows file old.at front left → item_read file (Later (begun_class b)) old.at ≡ Some item
      → (item ≡ Zero → size ≡ prefix_len (λ b. b == 0) front)
      → ((item ≡ Zero → ⊥) → size ≡ size_of item) → AddsItem item size front old new
      → IsReadTo file b new
  item_more {item} {size} {front} {left} so_far shows is zeros own
      adds =
      let passed =
      item_passed file (begun_class b) item shows is zeros own in
      let end = old.at + size in
      let main = state_after_item old.before old.at (drop old.at file) item in
      record {
        rows =
            grind (
              arith,
              left_by (adds.before ∙ before_shown item shows)
                  adds.at,
              before_shown item shows,
              kept_more,
              rows_shown item
                  shows,
            );
        blocks = grind (arith, kept_more);
        gaps = grind (arith, kept_more);
      }

-- the file was read to its end
pub record IsReadWhole (file : List ℕ) (b : Begun) (found : DamagedSoFar) : Type 0 where
  pub rows : found.rows.items ≡ (whole_damaged file b).survey.frames
  pub blocks : found.pieces.items ≡ (whole_damaged file b).survey.blocks
  pub gaps : found.gaps.items ≡ (whole_damaged file b).gaps

-- at the end of the file, it was read whole
pub read_whole : {file : List ℕ} {b : Begun} {found : DamagedSoFar} → IsReadTo file b found
    → length file ≤ found.at → IsReadWhole file b found
read_whole {file} {b} {found} so_far end =
    let none = things-past file (begun_class b) end in
    record {
      rows = kept_whole (ap (rows_left file found.before) none) so_far.rows;
      blocks = kept_whole (ap blocks_of_things none) so_far.blocks;
      gaps = kept_whole (ap gaps_of none) so_far.gaps;
    }

-- ---- where things are

class_push : {class : ClassFields} (rows : List Row) (r : Row) → RowsAreOfClass class rows
    → IsHeader r.header → class_of r.header ≡ class → RowsAreOfClass class (rows ++ r ∷ [])
class_push [] r all known same = (known, same, tt)
class_push {class} (q ∷ rows) r all known same = (all.0, all.1, class_push rows r all.2 known same)

gaps_push : (from : ℕ) (gaps : List Gap) {to later : ℕ} {g : Gap} → GapsAreLaid from gaps to
    → to ≤ g.offset → 1 ≤ g.length → g.offset + g.length ≤ later
    → GapsAreLaid from (gaps ++ g ∷ []) later
gaps_push from [] laid low some high = (omega (arith, laid, low), some, high)
gaps_push from (q ∷ gaps) {to} {later} {g} laid low some high =
    (laid.0, laid.1, gaps_push (q.offset + q.length) gaps laid.2 low some high)

-- gaps that end before an offset end before any later one
pub gaps_later : (from : ℕ) (gaps : List Gap) {to later : ℕ} → GapsAreLaid from gaps to → to ≤ later
    → GapsAreLaid from gaps later
gaps_later from [] laid low = omega (arith, laid, low)
gaps_later from (q ∷ gaps) {to} {later} laid low =
    (laid.0, laid.1, gaps_later (q.offset + q.length) gaps laid.2 low)

same_items : {X : Type 0} (P : List X → Type 0) {old new : List X} → new ≡ old ++ [] → P old → P new
same_items P {old} same holds = subst P (sym (same ∙ append-nil old)) holds

module _ {b : Begun} {old : DamagedSoFar} (new : DamagedSoFar) (laid : IsLaidTo b old) where
  -- a gap that is added is after all that was read before it
  pub gap_laid : {to : ℕ} → old.at < to → to ≤ b.size → AddsGap to old new → IsLaidTo b new
  gap_laid {to} some within adds =
      let here : new.at ≡ to = adds.at in
      let later : old.at ≤ new.at = omega (arith, here, some) in
      record {
        rows = same_items (λ l. FramesAreLaid b.start.first.offset l new.at) adds.rows
            (laid_later b.start.first.offset old.rows.items laid.rows later);
        class = same_items (RowsAreOfClass (begun_class b)) adds.rows laid.class;
        pieces = same_items (λ l. BlocksAreLaid 0 l new.at)
            adds.pieces (pieces_later 0 old.pieces.items laid.pieces later);
        gaps = grind (arith, gaps_push);
        low = omega (arith, ap (λ m. m.place) adds.before);
        within = omega (arith, here, within);
        few = same_items (λ l. length l ≤ most_frames) adds.rows laid.few;
        kept = subst (AreKeptTo b.head new.rows.items) (sym adds.before)
            (same_items (λ l. AreKeptTo b.head l empty_state)
            adds.rows (kept_gap b.head laid.kept));
      }

  other_laid : (item : Item) {size : ℕ} (front : List ℕ) → size_of item ≤ size
      → old.at + size ≤ b.size → item_rows old.before old.at front item ≡ []
      → state_after_item old.before old.at front item ≡ old.before
      → AddsItem item size front old new → IsLaidTo b new
  other_laid item {size} front least within no_row same adds =
      let here : new.at ≡ old.at + size = adds.at in
      let later : old.at ≤ new.at = omega (arith, here) in
      let rows : new.rows.items ≡ old.rows.items ++ [] = grind arith in
      record {
        rows = same_items (λ l. FramesAreLaid b.start.first.offset l new.at)
            rows (laid_later b.start.first.offset old.rows.items laid.rows later);
        class = same_items (RowsAreOfClass (begun_class b)) rows
            laid.class;
        pieces = grind (arith, blocks_more);
        gaps = same_items (λ l. GapsAreLaid 0 l new.at) adds.gaps
            (gaps_later 0 old.gaps.items laid.gaps later);
        low = omega (arith, ap (λ m. m.place) (adds.before ∙ same), laid.low, here);
        within = omega (arith, here, within);
        few = same_items (λ l. length l ≤ most_frames) rows laid.few;
        kept = subst (AreKeptTo b.head new.rows.items) (sym (adds.before ∙ same)) (same_items
            (λ l. AreKeptTo b.head l old.before) rows laid.kept);
      }

  frame_laid : {h : HeaderFields} {size : ℕ} (front : List ℕ)
      → (length old.rows.items ≤ most_frames → length new.rows.items ≤ most_frames) → IsHeader h
      → class_of h ≡ begun_class b → size_of (Frame h) ≤ size → old.at + size ≤ b.size
      → AddsItem (Frame h) size front old new → IsLaidTo b new
  frame_laid {h} {size} front few known same least within adds =
      let here : new.at ≡ old.at + size = adds.at in
      let later : old.at ≤ new.at = omega (arith, here) in
      let row = row_judged_in old.before (row_in old.at h front) in
      record {
        rows = grind (arith, laid_push, fits-side_in, IsClass-class_of);
        class = grind (arith, class_push);
        pieces = same_items (λ l. BlocksAreLaid 0 l new.at)
            adds.pieces (pieces_later 0 old.pieces.items laid.pieces later);
        gaps = same_items (λ l. GapsAreLaid 0 l new.at) adds.gaps
            (gaps_later 0 old.gaps.items laid.gaps later);
        low = omega (arith, ap (λ m. m.place) adds.before, laid.low, here, least, area_within h);
        within = omega (arith, here, within);
        few = few laid.few;
        kept =
            grind (
              arith,
              kept_frame b.head laid.kept (row_in old.at h
                  front),
            );
      }

  -- any item that is kept is after all that was read before it
  pub item_laid : (item : Item) {size : ℕ} (front : List ℕ)
      → (length old.rows.items ≤ most_frames → length new.rows.items ≤ most_frames)
      → item ≡ item_front front → admits_item (Later (begun_class b)) old.at item front ≡ true
      → size_of item ≤ size → old.at + size ≤ b.size → AddsItem item size front old new
      → IsLaidTo b new
  item_laid (Frame h) {size} front few is admits least within adds =
      let same : class_of h ≡ begun_class b = grind (arith, same_class-is, and_parts) in
      frame_laid front few (item_header front (Frame h) is h refl) same least within adds
  item_laid item {size} front few is admits least within adds =
      other_laid item front least within refl refl adds

-- ---- what is read of the whole file

-- the file is read from its first frame on
pub damaged_fields-is : {file : List ℕ} {b : Begun} → BeginsAsRead file b
    → damaged_fields file ≡ damaged_with_count b.start.front_end (whole_damaged file b)
unfolding damaged_fields
damaged_fields-is begins = grind arith

get_first : (xs ys : List Row) (r : Row) {n : ℕ} → length xs ≡ n
    → slice_get (xs ++ r ∷ ys) n ≡ Some r
get_first [] ys r is = ap (slice_get (r ∷ ys)) (sym is)
get_first (x ∷ xs) ys r is = grind (arith, get_first xs ys r refl)

no_frame_or_damaged-many : (front_end : ℕ) (rows : List Row) (d : DamagedFields) {r : Row}
    → slice_get rows most_frames ≡ Some r
    → no_frame_or_damaged front_end rows d ≡ Err (TooManyFrames r.offset)
no_frame_or_damaged-many front_end rows d is = grind arith

-- a frame past the number that there may be is the fault of the file
pub past_most : {file : List ℕ} {b : Begun} {found : DamagedSoFar} (item : Item)
    {fault : SurveyFault} → BeginsAsRead file b → length file ≤ longest_file → IsReadTo file b found
    → item_read file (Later (begun_class b)) found.at ≡ Some item → IsPastMost item found fault
    → damaged_of file ≡ Err fault
past_most {file} {b} {found} (Frame h) begins few so_far is past =
    let here = things-item file (begun_class b) is in
    let row = row_judged_in found.before (row_in found.at h (drop found.at file)) in
    let rest =
    rows_left file (state_after_frame found.before (row_in found.at h (drop found.at file)))
    (things file (begun_class b) (found.at + size_of (Frame h))) in
    let rows : found.rows.items ++ row ∷ rest ≡ (whole_damaged file b).survey.frames =
    grind arith in
    damaged_of-short file few
    ∙ damaged_fields-is begins
    ∙ no_frame_or_damaged-many b.start.front_end (whole_damaged file b).survey.frames
    (whole_damaged file b)
    (ap (λ l.
    slice_get l most_frames) (sym rows) ∙ get_first found.rows.items rest row past.1)
    ∙ ap Err (sym past.0)
past_most _ begins few so_far is past = absurd past

-- rows without a frame besides the head have that fault
no_frame_or_damaged-none : (front_end : ℕ) {rows : List Row} (d : DamagedFields) → rows ≡ []
    → no_frame_or_damaged front_end rows d ≡ Err (NoFrame front_end)
no_frame_or_damaged-none front_end d is = ap (λ l. no_frame_or_damaged front_end l d) is

-- if no frame was found, the file is refused where its front ends
pub no_frames : {file : List ℕ} {b : Begun} {found : DamagedSoFar} → BeginsAsRead file b
    → length file ≤ longest_file → IsReadWhole file b found → found.rows.items ≡ []
    → damaged_of file ≡ Err (NoFrame b.start.front_end)
no_frames {file} {b} begins few read none =
    damaged_of-short file few ∙ damaged_fields-is begins
    ∙ no_frame_or_damaged-none b.start.front_end (whole_damaged file b) (sym read.rows ∙ none)

-- a file without a first frame has that fault
first_none : (file : List ℕ) {front_end : ℕ} → front_end ≡ front_end_of file
    → first_frame file front_end ≡ None → damaged_fields file ≡ Err (NoFrame front_end)
unfolding damaged_fields
first_none file front none = grind arith

-- a file without a first frame is refused where its front ends
pub no_first : (file : List ℕ) {front_end : ℕ} → front_end ≡ front_end_of file → length file
    ≤ longest_file → first_frame file front_end ≡ None → damaged_of file ≡ Err (NoFrame front_end)
no_first file front few none = grind (arith, damaged_of-short, first_none)

-- frames that are some, and not too many, have no fault by their number
pub no_frame_or_damaged-few : (front_end : ℕ) {rows : List Row} (d : DamagedFields)
    → (rows ≡ [] → ⊥) → length rows ≤ most_frames → no_frame_or_damaged front_end rows d ≡ Ok d
no_frame_or_damaged-few front_end d some few = grind (arith, slice_get_past)

-- what the code returns is what is read
told_is : {file : List ℕ} {b : Begun} {found : DamagedSoFar} → BeginsAsRead file b
    → length file ≡ b.size → IsReadWhole file b found → whole_damaged file b ≡ found_view b found
unfolding damaged_from
told_is {b = b} begins size read = λ i. record {
  survey = record {
    frames = sym read.rows i;
    blocks = sym read.blocks i;
    head = sym begins.head i;
    junk = b.start.front_end;
    first = b.start.first.offset;
    class = begun_class b;
    length = size i;
  };
  gaps = sym read.gaps i;
}

-- if frames were found, not too many, they are what is read
pub all_read : {file : List ℕ} {b : Begun} {found : DamagedSoFar} → BeginsAsRead file b
    → length file
    ≤ longest_file → length file ≡ b.size → IsReadWhole file b found → (found.rows.items ≡ [] → ⊥)
    → length found.rows.items ≤ most_frames → damaged_of file ≡ Ok (found_view b found)
all_read {file} {b} {found} begins few size read some most =
    damaged_of-short file few
    ∙ damaged_fields-is begins
    ∙ no_frame_or_damaged-few b.start.front_end
    (whole_damaged file b)
    (λ none. some (read.rows ∙ none)) (subst (λ l. length l ≤ most_frames) read.rows most)
    ∙ ap Ok (told_is begins size read)

-- a frame too many refuses the file, with the right numbers
pub past_rightly : (item : Item) (found : DamagedSoFar) (fault : SurveyFault)
    → IsPastMost item found fault → RefusesRightly fault
past_rightly item found fault past = grind arith

-- ---- where the reading begins

-- no frame was found yet, and no gap but the one before the first frame
pub record IsFirst (b : Begun) (found : DamagedSoFar) : Type 0 where
  pub rows : found.rows.items ≡ []
  pub gaps : found.gaps.items ≡ gap_between b.start.front_end b.start.first.offset
  pub before : found.before ≡ record { place = head_area b.head; ended = 0 }
  pub at : found.at ≡ numbered_offset b.start.first b.head

-- where the reading begins, the blocks of the front were read
pub begun_read : {file : List ℕ} {b : Begun} {found : DamagedSoFar} → BeginsAsRead file b
    → IsFirst b found → found.pieces.items ≡ blocks_of (item_chain Front file 0).items
    → IsReadTo file b found
unfolding damaged_from
begun_read {file} {b} begins first blocks =
    let ahead =
    λ (h : Option Head). things file (begun_class b) (numbered_offset b.start.first h) in
    record {
      rows = grind (arith, islands-left);
      blocks = grind (arith, blocks);
      gaps = grind arith;
    }

between_laid : {from to at : ℕ} {less : Bool} → ltb from to ≡ less → from ≤ to → to ≤ at
    → GapsAreLaid 0 (cond less (record { offset = from; length = to - from } ∷ []) []) at
between_laid is low high = grind arith

-- what was found where the reading begins is in order
pub begun_laid : {b : Begun} {found : DamagedSoFar} → IsFirst b found
    → b.start.front_end ≤ b.start.first.offset
    → BlocksAreLaid 0 found.pieces.items b.start.front_end → found.before.place ≤ 1441
    → b.start.first.offset ≤ found.at → found.at ≤ b.size → IsLaidTo b found
begun_laid {b} {found} first junk blocks low behind within = record {
  rows = subst (λ l. FramesAreLaid b.start.first.offset l found.at) (sym first.rows) behind;
  class = subst (RowsAreOfClass (begun_class b)) (sym first.rows) tt;
  pieces = grind (arith, pieces_later, blocks);
  gaps = grind (arith, between_laid);
  low = omega (arith, low);
  within = within;
  few = omega (arith, ap length first.rows);
  kept = grind (arith, kept_none);
}

-- ---- where it ends

head_within : (b : Begun) (head : Option Head)
    → b.start.first.offset + size_of (Frame b.start.first.header) ≤ b.size
    → IfSome head (IsFrameOf b.start.first)
    → IfSome head (IsWholeHead b.start.first.offset (begun_class b) b.size)
head_within b head whole same = grind arith

some_of : (rows : List Row) → (rows ≡ [] → ⊥) → 0 < length rows
some_of [] none = absurd (none refl)
some_of (r ∷ rows) none = omega arith

-- what was read to the end is laid out
pub laid_out : {b : Begun} {found : DamagedSoFar} → b.start.front_end ≤ b.start.first.offset
    → b.start.first.offset + size_of (Frame b.start.first.header) ≤ b.size
    → IfSome b.head (IsFrameOf b.start.first) → IsLaidTo b found → (found.rows.items ≡ [] → ⊥)
    → b.size ≤ longest_file → IsDamagedLaidOut (found_view b found)
laid_out {b} {found} junk whole same laid some long = record {
  junk = junk;
  first = omega (arith, whole);
  head = head_within b b.head whole same;
  frames = laid_later b.start.first.offset found.rows.items laid.rows laid.within;
  class = laid.class;
  blocks = pieces_later 0 found.pieces.items laid.pieces laid.within;
  gaps = gaps_later 0 found.gaps.items laid.gaps laid.within;
  some = some_of found.rows.items some;
  few = laid.few;
  long = long;
  kept = laid.kept.frames;
}
