-- Everything in the survey of a file without fault is read.
use Rattle.std.proofs.Common.{ap, append-nil, ap₂, arith, Bool, cond, drop, Err, false, is_some}
use Rattle.std.proofs.Common.{length, length-drop, List, map, None, not, Ok, Option}
use Rattle.std.proofs.Common.{option_and_then, option_to_list, refl, slice_get, Some, subst, suc}
use Rattle.std.proofs.Common.{sym, true, zero, ℕ, [], ◌&&◌, ◌++◌, ◌+◌, ◌<◌, ◌||◌, ◌∙◌, ◌∷◌, ◌≡◌}
use Rattle.std.proofs.{Common.◌≤◌, lemmas.Bool.{not-false, or_left, or_right}}
use Rattle.std.specs.List.{cons_option, enumerate_from}
use Rattle.frame_header.specs.{Fields.{ClassFields, HeaderFields, same_class}, Tables.class_of}
use Rattle.salvage.proofs.ProgressLemmas.{no_frame_or_damaged-few}
use Rattle.salvage.proofs.SearchLemmas.{first_here, first_later, next_usable_frame-some, not_usable}
use Rattle.salvage.proofs.UsableLemmas.{first_role, later_role}
use Rattle.salvage.proofs.WalkLemmas.{things-item, things-past}
use Rattle.salvage.specs.DamagedFiles.{damaged_by, damaged_fields, damaged_from, damaged_with_count}
use Rattle.salvage.specs.DamagedFiles.{DamagedFields, gap_between, things_from}
use Rattle.salvage.specs.SoundFrames.{end_of_sound, FrameIslands, is_sound, islands_of, judged_row}
use Rattle.salvage.specs.SoundFrames.{judged_rows, sound_end}
use Rattle.salvage.specs.UsableFrames.{has_right_crc, is_head, is_usable, usable_frame_at}
use Rattle.salvage.specs.Walk.{blocks_of_things, first_frame, gaps_of, is_item_read, IsItem}
use Rattle.salvage.specs.Walk.{item_read, PlacedThing, things}
use Rattle.salvage_laws.specs.Laws.{SalvageKeepsStreams}
use Rattle.side_info.specs.Frame.{stored_crc}
use Rattle.sync_survey.proofs.ChainLemmas.{frames-next, item_chain-ends, whole_item_at-is}
use Rattle.sync_survey.proofs.{FaultsLemmas.length-marked_rows, ProgressLemmas.first_of_stream}
use Rattle.sync_survey.proofs.StartLemmas.{anchored_frame-is, first_of-is, start-front, start_is}
use Rattle.sync_survey.proofs.SurveyPartsLemmas.{all_faults-none_sound, AreSound, frames_from}
use Rattle.sync_survey.proofs.SurveyPartsLemmas.{some_frames, StandWell, survey_fields-parts}
use Rattle.sync_survey.proofs.SurveyPartsLemmas.{told_from}
use Rattle.sync_survey.proofs.WalkLemmas.{no_fault, nothing_left, numbered-blocks, numbered-stop}
use Rattle.sync_survey.proofs.WalkLemmas.{numbered_frames-chain}
use Rattle.sync_survey.specs.Chains.{AreEndToEnd, block_of_item, blocks_of, frame_of_item}
use Rattle.sync_survey.specs.Chains.{frames_of, item_chain, PlacedItem, whole_item_at}
use Rattle.sync_survey.specs.Faults.{class_from, has_wrong_crc, SurveyFields}
use Rattle.sync_survey.specs.Items.{item_at, item_fits, size_of}
use Rattle.sync_survey.specs.MainData.{data_end_after, data_end_before, is_lost, lacks_data}
use Rattle.sync_survey.specs.{MainData.{marked_row, marked_rows, place, row_of, rows_of}, Row.Row}
use Rattle.sync_survey.specs.Start.{anchored_frame, first_anchored, front_end_of, longest_junk}
use Rattle.sync_survey.specs.Start.{start_after_junk, start_at}
use Rattle.sync_survey.specs.Walk.{head_of, numbered_frames, numbered_offset, stream_chain}
use Rattle.sync_survey.specs.declared.{chains.Region.TheVariants.Stream, items.Item.Item}
use Rattle.sync_survey.specs.declared.items.Item.TheVariants.{Block, Frame, Free}
use Rattle.sync_survey.specs.declared.places.{Head.Head, PlacedFrame.PlacedFrame, Start.Start}
use Rattle.sync_survey.specs.declared.survey_fault.SurveyFault.{SurveyFault}

-- ---- frames without fault are usable

right_by : (protected right : Bool) → (protected && not right) ≡ false
    → (not protected || right) ≡ true
right_by protected right is = grind arith

-- the frame is of the class, and its check word isn't wrong
pub record HasNoFault (file : List ℕ) (class : ClassFields) (r : Row) : Type 0 where
  pub same : not (same_class (class_of r.header) class) ≡ false
  pub word : has_wrong_crc (stored_crc (drop r.offset file)) r ≡ false

word_by : {file : List ℕ} {class : ClassFields} {p : PlacedFrame}
    → HasNoFault file class (row_of file p) → has_right_crc p.header (drop p.offset file) ≡ true
word_by sound = grind (arith, right_by)

usable_by : {file : List ℕ} {class : ClassFields} {p : PlacedFrame}
    → HasNoFault file class (row_of file p)
    → is_usable (later_role class) p (drop p.offset file) ≡ true
usable_by sound = grind (arith, not-false, word_by)

abbrev AreUsable : List ℕ → ClassFields → List PlacedFrame → Type 0
AreUsable file class [] = Unit {0}
AreUsable file class (p ∷ ps) =
    (is_usable (later_role class) p (drop p.offset file) ≡ true) × AreUsable file class ps

usable_all : (file : List ℕ) (class : ClassFields) (ps : List PlacedFrame)
    → ((i : ℕ) (r : Row) → slice_get (rows_of file ps) i ≡ Some r → HasNoFault file class r)
    → AreUsable file class ps
usable_all file class [] sound = tt
usable_all file class (p ∷ ps) sound = (
  usable_by (sound zero (row_of file p) refl),
  usable_all file class ps (λ i r is. sound (suc i) r is),
)

-- ---- the items of the survey are all that is read

abbrev as_thing : PlacedItem → PlacedThing
as_thing p = record { offset = p.offset; thing = IsItem p.item }

read_by : (file : List ℕ) (class : ClassFields) (at : ℕ) {item : Item}
    → whole_item_at Stream file at ≡ Some item → is_item_read file (later_role class) at item ≡ true
    → item_read file (later_role class) at ≡ Some item
unfolding item_read
read_by file class at here reads = grind arith

item_reads : (file : List ℕ) (class : ClassFields) (at : ℕ) (item : Item) (ps : List PlacedFrame)
    → AreUsable file class (cons_option (frame_of_item at item) ps)
    → is_item_read file (later_role class) at item ≡ true
item_reads file class at item ps usable = grind arith

rest_usable : (file : List ℕ) (class : ClassFields) (o : Option PlacedFrame) (ps : List PlacedFrame)
    → AreUsable file class (cons_option o ps) → AreUsable file class ps
rest_usable file class o ps usable = grind arith

things_are : (file : List ℕ) (class : ClassFields) (from : ℕ) (ps : List PlacedItem) (to : ℕ)
    → AreEndToEnd Stream file from ps to → AreUsable file class (frames_of ps) → length file ≤ to
    → things file class from ≡ map as_thing ps
things_are file class from [] to ends usable past = grind (arith, things-past)
things_are file class from (p ∷ ps) to ends usable past =
    ap (things file class) (sym ends.0)
    ∙ things-item file class (read_by file class
    p.offset ends.1 (item_reads file class p.offset p.item (frames_of ps) usable))
    ∙ ap (λ l. as_thing p ∷ l) (things_are file class (p.offset + size_of p.item) ps to
    ends.2 (rest_usable file class (frame_of_item p.offset p.item) (frames_of ps) usable) past)

no_gaps : (ps : List PlacedItem) → gaps_of (map as_thing ps) ≡ []
no_gaps [] = refl
no_gaps (p ∷ ps) = no_gaps ps

same_blocks : (ps : List PlacedItem) → blocks_of_things (map as_thing ps) ≡ blocks_of ps
same_blocks [] = refl
same_blocks (p ∷ ps) = ap (cons_option (block_of_item p.offset p.item)) (same_blocks ps)

abbrev islands_as : List PlacedFrame → List (List PlacedFrame) → FrameIslands
islands_as first later = record { first = first; later = later }

frame_island : (o : Option PlacedFrame) {islands : FrameIslands} {ps : List PlacedFrame}
    → islands ≡ islands_as ps [] → islands_as (option_to_list o ++ islands.first) islands.later
    ≡ islands_as (cons_option o ps) []
frame_island o is = grind arith

one_island : (ps : List PlacedItem) → islands_of (map as_thing ps) ≡ islands_as (frames_of ps) []
one_island [] = refl
one_island (p ∷ ps) = grind (arith, frame_island, one_island ps)

-- ---- the marks of the survey are the same

not_sound : {place ended : ℕ} {r : Row} {lost : Bool} → lacks_data place ended r ≡ lost
    → (lost ≡ false → StandWell place ended r) → not (is_sound place ended r) ≡ lost
not_sound is well = grind arith

module _ (file : List ℕ) (head : Option Head) {class : ClassFields} {allowed : ℕ} (rows : List Row)
    (sound : AreSound file head class allowed rows) where
  one_same : (i : ℕ) {r : Row} → slice_get rows i ≡ Some r
      → not (is_sound (place head rows i) (data_end_before head rows i) r) ≡ is_lost head rows i r
  one_same i is = grind (arith, not_sound)

  end_step : (i : ℕ) {o : Option Row} → slice_get rows i ≡ o → end_of_sound head rows i
      ≡ data_end_before head rows i → sound_end (place head rows i) (end_of_sound head rows i) o
      ≡ data_end_after (place head rows i) (data_end_before head rows i) o
  end_step i is so_far = grind arith

  ends_same : (i : ℕ) → end_of_sound head rows i ≡ data_end_before head rows i
  unfolding end_of_sound data_end_before
  ends_same zero = refl
  ends_same (suc i) = end_step i refl (ends_same i)

  row_same : (i : ℕ) {r : Row} → slice_get rows i ≡ Some r
      → judged_row head rows i r ≡ marked_row head rows i r
  row_same i is = grind (arith, ends_same, one_same)

each_same : (f g : ℕ → Row → Row) (n : ℕ) (xs : List Row)
    → ((i : ℕ) (x : Row) → slice_get xs i ≡ Some x → f (n + i) x ≡ g (n + i) x)
    → map (λ (p : ℕ × Row). f p.0 p.1) (enumerate_from n xs)
    ≡ map (λ (p : ℕ × Row). g p.0 p.1) (enumerate_from n xs)
each_same f g n [] same = refl
each_same f g n (x ∷ xs) same =
    let here : n + 0 ≡ n = omega arith in
    ap₂ (λ (a : Row) (l : List Row). a ∷ l) (subst (λ m. f m x ≡ g m x) here (same zero x refl))
    (each_same f g (n + 1) xs (λ i y is. let next : n + suc i ≡ n + 1 + i = omega arith in
    subst (λ m. f m y ≡ g m y) next (same (suc i) y is)))

judged_rows-marked_rows : (file : List ℕ) (head : Option Head) (class : ClassFields) (allowed : ℕ)
    (rows : List Row) → AreSound file head class allowed rows
    → judged_rows head rows ≡ marked_rows head rows
unfolding judged_rows marked_rows
judged_rows-marked_rows file head class allowed rows sound =
    each_same (judged_row head rows) (marked_row head rows) 0 rows
    (λ i r is. let same : i ≡ 0 + i = omega arith in subst (λ m. judged_row head rows m r
    ≡ marked_row head rows m r) same (row_same file head rows sound i is))

-- ---- the first frame of the survey is the first that is read

head_seen : (file : List ℕ) (p : PlacedFrame) {head : Head} → head_of file p ≡ Some head
    → is_head p (drop p.offset file) ≡ true
unfolding head_of
head_seen file p is = ap is_some is

first_usable : (file : List ℕ) (class : ClassFields) (start : Start) (o : Option Head)
    → whole_item_at Stream file start.first.offset ≡ Some (Frame start.first.header)
    → head_of file start.first ≡ o → ((i : ℕ) (r : Row) → slice_get (rows_of file (numbered_frames o
    (frames_of (stream_chain file start).items))) i ≡ Some r → HasNoFault file class r)
    → is_usable first_role start.first (drop start.first.offset file) ≡ true
first_usable file class start (Some head) here is sound = grind (arith, or_right, head_seen)
first_usable file class start None here is sound =
    let frames = frames-next Stream file start.first.offset here in
    or_left _ _ (word_by (sound zero (row_of file start.first)
    (ap (λ ps. slice_get (rows_of file ps) zero) frames)))

read_first : (file : List ℕ) {at : ℕ} {h : HeaderFields} → whole_item_at Stream file at
    ≡ Some (Frame h) → is_usable first_role (record { offset = at; header = h }) (drop at file)
    ≡ true → option_and_then (frame_of_item at) (item_read file first_role at)
    ≡ Some (record { offset = at; header = h })
unfolding item_read
read_first file here usable = grind (arith, option_and_then)

no_frame : (file : List ℕ) (at : ℕ) {item : Item} (b : Bool) → item_at file at ≡ item
    → ((h : HeaderFields) → item ≡ Frame h → ⊥)
    → option_and_then (frame_of_item at) (item_read file first_role at) ≡ None
unfolding item_read whole_item_at
no_frame file at b is none = grind arith

usable_here : (file : List ℕ) (at : ℕ) {p : PlacedFrame} → anchored_frame file at
    ≡ Some p → is_usable first_role p (drop p.offset file) ≡ true
    → usable_frame_at file first_role at ≡ Some p
unfolding usable_frame_at
usable_here file at here usable = grind arith

module _ (file : List ℕ) (at : ℕ) (start : Start)
    (within : start.first.offset + size_of (Frame start.first.header) ≤ length file)
    (usable : is_usable first_role start.first (drop start.first.offset file) ≡ true) where
  junk_first : {item : Item} → item_at file at ≡ item → ((h : HeaderFields) → item ≡ Frame h → ⊥)
      → first_anchored longest_junk file (at + 1) ≡ Some start.first
      → 0 < size_of (Frame start.first.header) → first_frame file at ≡ Some start.first
  unfolding first_anchored
  junk_first {item} is none found some =
      let first = first_of-is longest_junk found in
      let place = (anchored_frame-is first.1.here).offset in
      first_later file at (no_frame file at true is none)
      ∙ next_usable_frame-some file first_role first.1.low (omega
      (arith, place, within, some)) (usable_here file first.0 first.1.here usable)
      (λ k low high. not_usable file first_role k (first.1.none k low high))

  start_same : {o : Option PlacedFrame} → start_after_junk at o ≡ Ok start → o ≡ Some start.first
  start_same e = grind arith

  here_first : (h : HeaderFields) (b : Bool) (fault : SurveyFault)
      → whole_item_at Stream file start.first.offset ≡ Some (Frame start.first.header)
      → cond b (Ok (record { front_end = at; first = record { offset = at; header = h } }))
      (Err fault) ≡ Ok start → first_frame file at ≡ Some start.first
  here_first h b fault here e = grind (arith, first_here, read_first)

  first_by : (item : Item) → item_at file at ≡ item → start_at file at item ≡ Ok start
      → whole_item_at Stream file start.first.offset ≡ Some (Frame start.first.header)
      → 0 < size_of (Frame start.first.header) → first_frame file at ≡ Some start.first
  first_by (Frame h) is e here some = here_first h (item_fits file at (Frame h)) _ here e
  first_by Free is e here some = absurd cc
  first_by (Block b) is e here some = absurd cc
  first_by item is e here some = junk_first is (λ h e. absurd cc) (start_same e) some

-- ---- all that is read

damaged_fields-first : (file : List ℕ) (first : PlacedFrame)
    → first_frame file (front_end_of file) ≡ Some first → damaged_fields file
    ≡ damaged_with_count (front_end_of file) (damaged_from file (front_end_of file) first)
unfolding damaged_fields
damaged_fields-first file first is = ap (damaged_by file (front_end_of file)) is

-- what a survey says is read, and the junk is a gap
abbrev with_junk : SurveyFields → DamagedFields
with_junk s = record { survey = s; gaps = gap_between s.junk s.first }

told_read : (file : List ℕ) (start : Start) (ps : List PlacedItem)
    → start.front_end ≡ front_end_of file → things_from file start.first ≡ map as_thing ps
    → frames_of ps ≡ frames_from file start
    → blocks_of ps ≡ blocks_of (stream_chain file start).items
    → judged_rows (head_of file start.first) (rows_of file (frames_from file start))
    ≡ marked_rows (head_of file start.first) (rows_of file (frames_from file start))
    → damaged_from file (front_end_of file) start.first ≡ with_junk (told_from file start)
unfolding damaged_from
told_read file start ps front are frames blocks marks =
    grind (arith, frames_from, one_island, append-nil, same_blocks, no_gaps)

length_rows : (file : List ℕ) (ps : List PlacedFrame) → length (rows_of file ps) ≡ length ps
length_rows file [] = refl
length_rows file (p ∷ ps) = ap suc (length_rows file ps)

-- everything in the survey of a file without fault is read
pub keeps_streams : SalvageKeepsStreams
keeps_streams = λ file allowed s is few.
    let parts = survey_fields-parts {file = file} {allowed = allowed} {s = s} is in
    let start = parts.0 in
    let read = parts.1 in
    let told = parts.2 in
    let head = head_of file start.first in
    let rows = rows_of file (frames_from file start) in
    let sound = all_faults-none_sound file head (class_from start) allowed rows read.frames in
    let fine : (i : ℕ) (r : Row) → slice_get rows i ≡ Some r
    → HasNoFault file (class_from start) r =
    λ i r is. record { same = (sound i r is).same; word = (sound i r is).word } in
    let here = first_of_stream file {start = start} read.start_is in
    let item = whole_item_at-is Stream file start.first.offset (Frame start.first.header) here in
    let usable = first_usable file (class_from start) start head here refl fine in
    let at = front_end_of file in
    let first = first_by file at start item.within usable (item_at file at) refl
    (sym (start_is file at (item_at file at) refl refl) ∙ read.start_is) here item.some in
    let from = numbered_offset start.first head in
    let items = (item_chain Stream file from).items in
    let frames = numbered_frames-chain file start head here in
    let nothing = nothing_left file
    (stream_chain file start).stop (no_fault file (frames_from file start) {o = _} read.end) in
    let past : length file ≤ (item_chain Stream file from).stop = omega (
      arith,
      ap length nothing,
      length-drop (stream_chain file start).stop file,
      numbered-stop file start head here,
    ) in
    let are = things_are file (class_from start) from items (item_chain Stream file from).stop
    (item_chain-ends Stream file from) (subst (AreUsable file (class_from start)) (sym frames)
    (usable_all file (class_from start) (frames_from file start) fine)) past in
    let marks = judged_rows-marked_rows file head (class_from start) allowed rows sound in
    let all_read =
    told_read file start items (start-front file {s = start} read.start_is) are frames
    (numbered-blocks file start head here) marks ∙ ap with_junk told in
    let some : s.frames ≡ [] → ⊥ =
    grind (arith, some_frames, frames_from, length_rows, length-marked_rows) in
    damaged_fields-first file start.first first ∙ ap (damaged_with_count at) all_read
    ∙ no_frame_or_damaged-few at {rows = s.frames} (with_junk s) some few
