-- One more item is judged and kept.
use Rattle.std.proofs.Common.{ap, append-nil, ap₂, arith, drop, Err, false, inl, inr, length}
use Rattle.std.proofs.Common.{length-append, List, min, None, Option, option_to_list, refl, Some}
use Rattle.std.proofs.Common.{sym, ℕ, [], ◌++◌, ◌+◌, ◌<◌, ◌==◌, ◌∙◌, ◌∷◌, ◌≡◌, ◌≤◌}
use Rattle.std.proofs.lemmas.Bool.{cases_lt, eq-eqb, true≢false}
use Rattle.frame_header.proofs.{ClassLemmas.some_of_class, HeaderLemmas.IsClass-class_of}
use Rattle.frame_header.proofs.LengthLemmas.{length-most}
use Rattle.frame_header.specs.Fields.{ClassFields, HeaderFields, IsHeader}
use Rattle.frame_header.specs.Reading.{header_of_class}
use Rattle.frame_header.specs.Tables.{area_of, class_of, length_of, overhead_of}
use Rattle.outside.specs.{Counts.Counts, Files.{Files, Holds}}
use Rattle.side_info.{proofs.FrameLemmas.{side_in-take, stored_crc-take}, specs.Frame.stored_crc}
use Rattle.side_info.specs.Side.{SideFits}
use Rattle.sync_survey.proofs.BytesFaultLemmas.{frame_rightly}
use Rattle.sync_survey.proofs.FaultsLemmas.{length-marked_rows, marked_rows-push, none-of}
use Rattle.sync_survey.proofs.{FoldersLemmas.bytes_refusal, FrontLemmas.blocks_more}
use Rattle.sync_survey.proofs.ItemsLemmas.{frame_of_header, header_front-in_range, some_by, stands}
use Rattle.sync_survey.proofs.PlacedRowLemmas.{ArePlacedTo, placed_next, placed_same}
use Rattle.sync_survey.proofs.ProgressLemmas.{first_fault, IsBegun, IsMarkedTo, IsSurveyedTo}
use Rattle.sync_survey.proofs.ProgressLemmas.{passed_block, passed_frame, passed_zeros}
use Rattle.sync_survey.proofs.{SurveyLemmas.overhead-within, SurveyPartsLemmas.faults-none_sound}
use Rattle.sync_survey.specs.Chains.{block_of_item, frame_of_item}
use Rattle.sync_survey.specs.Faults.{class_from, faults_at, first_of, survey_fields}
use Rattle.sync_survey.specs.Items.{header_front, item_front, size_of}
use Rattle.sync_survey.specs.Looks.{IsFrameFault, IsNotPassed, KeepsBlocks, KeepsFrame, KeepsItem}
use Rattle.sync_survey.specs.Looks.{look_size, Passes, PassesFault, PassesFront, ReachArea, Shows}
use Rattle.sync_survey.specs.Looks.{StopsThere}
use Rattle.sync_survey.specs.MainData.{data_end_after, lacks_data, marked_row, marked_rows}
use Rattle.sync_survey.specs.{MainData.{own_area, row_in, row_of}, Row.Row}
use Rattle.sync_survey.specs.Survey.{BlocksAreLaid, FramesAreLaid, HasLength, IsSurveyRefusal}
use Rattle.sync_survey.specs.SurveyFaultKinds.{RefusesRightly}
use Rattle.sync_survey.specs.declared.chains.{Region.TheVariants.Stream, Step.Step}
use Rattle.sync_survey.specs.declared.{found.SurveySoFar.SurveySoFar, items.Item.Item}
use Rattle.sync_survey.specs.declared.items.Item.TheVariants.{Block, Frame, Free, Zero}
use Rattle.sync_survey.specs.declared.places.{Head.Head, Piece.Piece, Start.Start}
use Rattle.sync_survey.specs.declared.survey_fault.SurveyFault.{SurveyFault}

-- ---- a whole frame is shown up to its area

-- the header of a frame that was met has its fields in range
pub item_header : (front : List ℕ) (item : Item) → item ≡ item_front front → (h : HeaderFields)
    → item ≡ Frame h → IsHeader h
item_header front item is h frame = grind (arith, header_front-in_range, stands)

-- what precedes a frame's area is within the frame
pub overhead_few : (front : List ℕ) {item : Item} {h : HeaderFields} → item ≡ item_front front
    → item ≡ Frame h → overhead_of (class_of h) h.protected ≤ length_of (class_of h) h.slot
overhead_few front {item} {h} is frame = overhead-within (item_header front item is h frame)

-- a header anywhere is the header of a frame with few bytes
pub length_few : (front : List ℕ) {h : HeaderFields} → item_front front ≡ Frame h
    → length_of (class_of h) h.slot ≤ 1441
length_few front is = grind (arith, item_header, length-most, IsClass-class_of)

-- a look at a whole frame shows all that precedes the area
pub room_shown : (front : List ℕ) {h : HeaderFields} {left : ℕ} → item_front front ≡ Frame h
    → size_of (Frame h) ≤ left → length front ≡ min look_size left → ReachArea h front
room_shown front is within many = grind (arith, overhead_few, length_few)

-- a look at a frame that is passed shows all that precedes the area
pub room_passed : {front : List ℕ} {left : ℕ} {step : Step} → PassesFront front left step
    → length front ≡ min look_size left → (h : HeaderFields) → step.item ≡ Frame h
    → ReachArea h front
room_passed {front} {left} passes many h frame =
    room_shown front (sym passes.item ∙ frame)
    (omega (arith, ap size_of frame, passes.least, passes.within)) many

-- a frame of the class, if it is whole, is passed
pub frame_passes : (class : ClassFields) {front : List ℕ} {h : HeaderFields} {size left : ℕ}
    → header_of_class class (header_front front) ≡ Some h → size ≡ length_of class h.slot
    → size ≤ left → PassesFront front left (record { item = Frame h; size = size })
frame_passes class {front} {h} {size} is size_is within =
    let read = some_of_class (header_front front) is in
    let item : item_front front ≡ Frame h = frame_of_header front read.0 in
    let own : size ≡ size_of (Frame h) = size_is ∙ ap (λ d. length_of d h.slot) (sym read.1) in
    record {
      item = sym item;
      zeros = λ e. cc;
      own = λ _. own;
      least = omega (arith, own);
      most = λ g frame. omega (arith, length_few front item);
      some = omega (arith, own, some_by front Stream (Frame h) read.0 refl);
      within = within;
    }

-- ---- the side information and the check word that a look shows

module _ {file : List ℕ} {at : ℕ} {front : List ℕ} {left : ℕ} (shows : Shows file at front left)
    (h : HeaderFields) (few : overhead_of (class_of h) h.protected ≤ look_size) where
  -- the row of a frame that is read from a look is the row of the file
  pub row_shown : row_in at h front ≡ row_of file (record { offset = at; header = h })
  row_shown = grind (arith, side_in-take h (drop at file) few)

  word_shown : stored_crc front ≡ stored_crc (drop at file)
  word_shown =
      ap stored_crc shows.front_is ∙ stored_crc-take {len = look_size} (drop at file) (omega arith)

  faults_shown : (class : ClassFields) (allowed place ended count : ℕ)
      → first_of (faults_at (stored_crc front) class allowed place ended count (row_in at h front))
      ≡ first_of (faults_at (stored_crc (drop at file)) class allowed place ended count
      (row_of file (record { offset = at; header = h })))
  faults_shown class allowed place ended count = grind (arith, count, word_shown, row_shown)

-- ---- one more item

abbrev few_before : Item → Type 0
few_before (Frame h) = overhead_of (class_of h) h.protected ≤ look_size
few_before _ = Unit {0}

-- a frame of at most 1,441 bytes has few bytes before its area
pub few_by : (front : List ℕ) (item : Item) → item ≡ item_front front
    → ((h : HeaderFields) → item ≡ Frame h → size_of item ≤ 1441) → few_before item
few_by front item is few = grind (arith, overhead_few)

module _ {file : List ℕ} {start : Start} {head : Option Head} {allowed : ℕ} (old : SurveySoFar)
    {at : ℕ}
    (so_far : IsMarkedTo file start head allowed old.rows.items old.pieces.items old.before.place
    old.before.ended at) {front : List ℕ} {left : ℕ} (shows : Shows file at front left) where
  abbrev IsOn : SurveySoFar → ℕ → Type 0
  IsOn new size = IsMarkedTo file start head allowed
      new.rows.items new.pieces.items new.before.place new.before.ended (at + size)

  abbrev frames : List Row
  frames = so_far.frames

  count : length old.rows.items ≡ length frames
  count = ap length so_far.marks ∙ length-marked_rows head frames

  same : (rows : List Row) (pieces : List Piece) (place ended : ℕ) (new : SurveySoFar) (size : ℕ)
      → new.rows.items ≡ marked_rows head rows → new.pieces.items ≡ pieces
      → new.before.place ≡ place → new.before.ended ≡ ended
      → IsSurveyedTo file start head allowed rows pieces place ended (at + size) → IsOn new size
  same rows pieces place ended new size rows_are pieces_are place_is ended_is there = grind arith

  blocks_kept : {blocks : List Piece} {new : SurveySoFar} (size : ℕ) → KeepsBlocks blocks old new
      → IsSurveyedTo file start head allowed frames
      (old.pieces.items ++ blocks) old.before.place old.before.ended (at + size) → IsOn new size
  blocks_kept size keeps there = grind (arith, same)

  none_kept : (item : Item) {new : SurveySoFar} {size : ℕ} → Passes Stream file at Zero size
      → KeepsBlocks [] old new → IsOn new size
  none_kept item passes keeps = grind (arith, blocks_kept, append-nil, passed_zeros)

  -- the frame is kept with the mark that its number gives
  mark_is : (r : Row) → record r { lost = lacks_data old.before.place old.before.ended r }
      ≡ marked_row head frames (length frames) r
  mark_is r = grind arith

  frame_kept : (h : HeaderFields) (new : SurveySoFar) (size : ℕ)
      → overhead_of (class_of h) h.protected ≤ look_size → Passes Stream file at (Frame h) size
      → KeepsFrame (stored_crc front) (class_from start) allowed (row_in at h front) old new
      → IsOn new size
  frame_kept h new size few passes keeps =
      let row = row_shown shows h few in
      let r = row_of file (record { offset = at; header = h }) in
      same (frames ++ r ∷ []) old.pieces.items new.before.place new.before.ended new size
      (keeps.rows
      ∙ ap₂ (λ (l : List Row) (q : Row). l ++ q ∷ []) so_far.marks (ap (λ (q : Row). record q {
        lost = lacks_data old.before.place old.before.ended q;
      }) row ∙ mark_is r)
      ∙ sym (marked_rows-push head frames r))
      keeps.pieces refl refl
      (passed_frame so_far.surveyed h size new.before.place new.before.ended passes
      (ap (λ n. first_of (faults_at (stored_crc (drop at file))
      (class_from start) allowed old.before.place old.before.ended n r)) (sym count)
      ∙ sym (faults_shown shows h few
      (class_from start) allowed old.before.place old.before.ended (length old.rows.items))
      ∙ keeps.sound)
      keeps.place
      (keeps.ended ∙ ap (λ r. data_end_after old.before.place old.before.ended (Some r)) row))

  -- what is neither a frame nor a block is passed like a zero byte
  as_zero : {item : Item} {size : ℕ} → Passes Stream file at item size → frame_of_item at item
      ≡ None → block_of_item at item ≡ None → Passes Stream file at Zero size
  as_zero passes no_frame no_block = grind arith

  -- an item that is passed and kept takes the survey past it
  pub kept : (item : Item) (new : SurveySoFar) (size : ℕ) → few_before item
      → Passes Stream file at item size → KeepsItem (class_from start) allowed at item front old new
      → IsOn new size
  kept item new size few passes keeps =
      grind (arith, frame_kept, none_kept, as_zero, blocks_kept, passed_block)

  -- the first fault of a frame is the fault of the file
  pub refused : (begun : IsBegun file start head) (item : Item) (size : ℕ) (fault : SurveyFault)
      → few_before item → Passes Stream file at item size
      → IsFrameFault (class_from start) allowed at item front old fault
      → survey_fields file allowed ≡ Err fault
  refused begun (Frame h) size fault few passes is =
      first_fault so_far.surveyed begun h size fault passes
      (ap (λ n. first_of (faults_at (stored_crc (drop at file)) (class_from start) allowed
      old.before.place old.before.ended n (row_of file (record { offset = at; header = h }))))
      (sym count)
      ∙ sym (faults_shown shows h few
      (class_from start) allowed old.before.place old.before.ended (length old.rows.items))
      ∙ is)
  refused begun Free size fault few passes is = absurd is
  refused begun _ size fault few passes is = absurd is

-- the fault of a frame refuses the file, with the right numbers
pub fault_rightly : (class : ClassFields) (allowed at : ℕ) (item : Item) (front : List ℕ)
    (old : SurveySoFar) (fault : SurveyFault) → IsFrameFault class allowed at item front old fault
    → RefusesRightly fault
fault_rightly class allowed at (Frame h) front old fault is = search (arith, frame_rightly)
fault_rightly class allowed at Free front old fault is = absurd is
fault_rightly class allowed at _ front old fault is = absurd is

-- ---- where frames and blocks are

-- one more frame follows those before it
pub laid_push : (from : ℕ) (rows : List Row) (to later : ℕ) (r : Row) → FramesAreLaid from rows to
    → SideFits (class_of r.header) r.side → to ≤ r.offset
    → r.offset + length_of (class_of r.header) r.header.slot ≤ later
    → FramesAreLaid from (rows ++ r ∷ []) later
laid_push from [] to later r laid fits low high = (omega (arith, laid, low), fits, high)
laid_push from (q ∷ rows) to later r laid fits low high =
    grind (
      arith,
      rows,
      low,
      laid_push (q.offset + length_of (class_of q.header) q.header.slot) rows
          to later r laid.2 fits low high,
    )

-- frames that end before an offset end before any later one
pub laid_later : (from : ℕ) (rows : List Row) {to later : ℕ} → FramesAreLaid from rows to
    → to ≤ later → FramesAreLaid from rows later
laid_later from [] laid low = omega (arith, laid, low)
laid_later from (q ∷ rows) {to} {later} laid low =
    grind (
      arith,
      rows,
      low,
      laid_later (q.offset + length_of (class_of q.header) q.header.slot)
          rows laid.2 low,
    )

-- the area is within the frame
pub area_within : (h : HeaderFields) → own_area h ≤ length_of (class_of h) h.slot
unfolding area_of
area_within h = omega arith

-- what is known of the frames and blocks, whatever is known of the file
pub record IsLaidTo (head : Option Head) (class : ClassFields) (first : ℕ) (found : SurveySoFar)
    (at : ℕ) : Type 0 where
  pub rows : FramesAreLaid first found.rows.items at
  pub pieces : BlocksAreLaid 0 found.pieces.items at
  pub low : found.before.place ≤ 1441 + at
  pub placed : ArePlacedTo head class found.rows.items found.before.place found.before.ended

module _ {head : Option Head} {first : ℕ} {class : ClassFields} (allowed : ℕ) {at : ℕ}
    (front : List ℕ)
    {old : SurveySoFar} (new : SurveySoFar) (size : ℕ)
    (laid : IsLaidTo head class first old at) where
  laid_blocks : (item : Item) (blocks : List Piece)
      → option_to_list (block_of_item at item) ≡ blocks → size_of item ≤ size
      → KeepsBlocks blocks old new → IsLaidTo head class first new (at + size)
  laid_blocks item blocks are least keeps = grind (arith, laid_later, blocks_more, placed_same)

  -- what is kept follows what was there before
  pub laid_more : (item : Item) → ((h : HeaderFields) → item ≡ Frame h → IsHeader h) → size_of item
      ≤ size → KeepsItem class allowed at item front old new
      → IsLaidTo head class first new (at + size)
  laid_more (Frame h) known least keeps = record {
    rows = grind (arith, laid_push);
    pieces = blocks_more old.pieces.items new.pieces.items at size (Frame h) laid.pieces least
        (keeps.pieces ∙ sym (append-nil old.pieces.items));
    low = omega (arith, keeps.place, area_within h, laid.low, least);
    placed = placed_next head class (stored_crc front) allowed (row_in at h front) old new
        (known h refl) keeps laid.placed;
  }
  laid_more (Block b) known least keeps =
      laid_blocks (Block b) (record { offset = at; block = b } ∷ []) refl least keeps
  laid_more item known least keeps = laid_blocks item [] refl least keeps

-- ---- how many frames there are

-- a frame without fault is not the first past the number that is allowed
fewer : {n allowed : ℕ} → (n == allowed) ≡ false → n ≤ allowed → n < allowed
fewer differ few = grind (arith, cases_lt, true≢false, eq-eqb)

-- a frame that was kept leaves no more frames than are allowed
pub few_more : (class : ClassFields) (allowed at : ℕ) (front : List ℕ) (old new : SurveySoFar)
    (item : Item) → KeepsItem class allowed at item front old new → length old.rows.items ≤ allowed
    → length new.rows.items ≤ allowed
few_more class allowed at front old new item keeps few =
    grind (arith, faults-none_sound, none-of, fewer, length-append)

-- ---- the refusal of one item

-- an item that wasn't passed refuses the file, with its cause
pub pass_refusal : (name : List ℕ) (files : Files) (allowed : ℕ) (before after : Counts) (size : ℕ)
    (fault : SurveyFault) (class : ClassFields) (at : ℕ) (bytes : List ℕ) (left : ℕ)
    (old : SurveySoFar) → HasLength files name size → after ≡ before
    → ((file : List ℕ) → Holds files name file → PassesFault class allowed at bytes left old fault
    → survey_fields file allowed ≡ Err fault) → ((file : List ℕ) → Holds files name file
    → StopsThere at bytes left fault → survey_fields file allowed ≡ Err fault)
    → IsNotPassed class allowed at bytes left old fault
    → IsSurveyRefusal name files allowed before after fault
pass_refusal name files allowed before after size fault class at bytes left old known same faulty
    stops (inl memory) = grind arith
pass_refusal name files allowed before after size fault class at bytes left old known same faulty
    stops (inr (inl is)) = search (arith, bytes_refusal, same, fault_rightly)
pass_refusal name files allowed before after size fault class at bytes left old known same faulty
    stops (inr (inr is)) =
    bytes_refusal name files allowed before after known same
    is.rightly (λ file holds. stops file holds is)

-- rows that follow each other end after they begin
pub laid_end : (from : ℕ) (rows : List Row) {to : ℕ} → FramesAreLaid from rows to → from ≤ to
laid_end from [] laid = laid
laid_end from (r ∷ rows) {to} laid =
    grind (arith, laid_end (r.offset + length_of (class_of r.header) r.header.slot) rows laid.2)
