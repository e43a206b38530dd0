-- The frames of a file that was cut short: the first frames that it had, each as it was.
use Rattle.std.proofs.Common.{ap, arith, drop, false, inl, inr, length, List, None, Ok, Option}
use Rattle.std.proofs.Common.{refl, Some, suc, sym, zero, ℕ, [], ◌++◌, ◌+◌, ◌-◌, ◌∙◌, ◌∷◌, ◌≡◌, ◌≤◌}
use Rattle.std.proofs.lemmas.{Bool.ne_eqb, List.{drop_all, length-drop, map-append, take-take}}
use Rattle.std.{proofs.lemmas.Option.slice_get_within, specs.{List.cons_option, Prelude.slice_get}}
use Rattle.file_laws.proofs.CutChainLemmas.{cut-chain, IsCutChain, IsStop, MayBeCut, stop-fault}
use Rattle.file_laws.proofs.CutItemLemmas.{cut, cut-none, drop-cut, item-kept, length-cut}
use Rattle.frame_header.proofs.{HeaderLemmas.IsClass-class_of, LengthLemmas.area_some}
use Rattle.frame_header.specs.Fields.{ClassFields, HeaderFields, IsHeader}
use Rattle.frame_header.specs.Tables.{class_of, length_of, overhead_of}
use Rattle.side_info.proofs.FrameLemmas.{side_in-take, stored_crc-take}
use Rattle.side_info.specs.{Frame.{side_in, stored_crc}, declared.side.Side.Side}
use Rattle.sync_survey.proofs.ChainLemmas.{frames-append, IsItemOf, item_chain-ends}
use Rattle.sync_survey.proofs.ChainLemmas.{item_chain-next, item_chain-only, whole_item_at-is}
use Rattle.sync_survey.proofs.ChainLemmas.{whole_item_at-past, whole_item_at-whole}
use Rattle.sync_survey.proofs.FaultsLemmas.{end-more, get_more, place-more}
use Rattle.sync_survey.proofs.ItemsLemmas.{header_front-in_range, stands-at}
use Rattle.sync_survey.proofs.{OneItemLemmas.stands-only_at, StartLemmas.start-first}
use Rattle.sync_survey.proofs.SurveyLemmas.{overhead-within}
use Rattle.sync_survey.proofs.SurveyPartsLemmas.{all_faults-none_sound, AreSound, frames_from}
use Rattle.sync_survey.proofs.SurveyPartsLemmas.{IsRead, IsSound, sound-no_all_faults}
use Rattle.sync_survey.proofs.WalkLemmas.{IsFound, no_fault, nothing_left}
use Rattle.sync_survey.specs.Chains.{AreEndToEnd, frame_of_item, frames_of, item_chain, ItemChain}
use Rattle.sync_survey.specs.{Chains.{PlacedItem, whole_item_at}, Faults.{all_faults, class_from}}
use Rattle.sync_survey.specs.Items.{item_at, size_of}
use Rattle.sync_survey.specs.{MainData.{data_end_before, place, row_of, rows_of}, Row.Row}
use Rattle.sync_survey.specs.Start.{start_of}
use Rattle.sync_survey.specs.Walk.{all_blocks, end_fault, fault_at, frame_bytes, head_in_bytes}
use Rattle.sync_survey.specs.Walk.{head_of, numbered_frames, stream_chain}
use Rattle.sync_survey.specs.declared.{chains.Region.TheVariants.Stream, items.Item.Item}
use Rattle.sync_survey.specs.declared.items.Item.TheVariants.{Block, End, Frame, Free, Nothing}
use Rattle.sync_survey.specs.declared.{items.Item.TheVariants.Zero, places.Head.Head}
use Rattle.sync_survey.specs.declared.places.{PlacedFrame.PlacedFrame, Start.Start}
use Rattle.sync_survey.specs.declared.survey_fault.SurveyFault.{SurveyFault}

-- ---- lists

numbered_frames-append : (head : Option Head) (p : PlacedFrame) (xs ys : List PlacedFrame)
    → numbered_frames head (p ∷ (xs ++ ys)) ≡ numbered_frames head (p ∷ xs) ++ ys
numbered_frames-append head p xs ys = grind arith

-- ---- frames within the first bytes

module _ (file : List ℕ) {n : ℕ} (within : n ≤ length file) where
  abbrev now : List ℕ
  now = cut file within

  -- a frame with this header is whole within them
  pub record IsIn (at : ℕ) (h : HeaderFields) : Type 0 where
    pub header : IsHeader h
    pub high : at + length_of (class_of h) h.slot ≤ n

  abbrev pub AreIn : List Row → Type 0
  AreIn [] = Unit {0}
  AreIn (r ∷ rows) = IsIn r.offset r.header × AreIn rows

  in_cases : (at : ℕ) (item : Item) (ps : List PlacedFrame)
      → whole_item_at Stream now at ≡ Some item → AreIn (rows_of file ps)
      → AreIn (rows_of file (cons_option (frame_of_item at item) ps))
  in_cases at (Frame h) ps is are =
      let here = whole_item_at-is Stream now at (Frame h) is in (
        record {
          header = header_front-in_range (drop at now) (stands-at now at (Frame h) here.is);
          high = omega (arith, here.within, length-cut file within);
        },
        are,
      )
  in_cases at Free ps is are = are
  in_cases at (Block b) ps is are = are
  in_cases at Zero ps is are = are
  in_cases at End ps is are = are
  in_cases at Nothing ps is are = are

  frames-in : (from : ℕ) (ps : List PlacedItem) (to : ℕ) → AreEndToEnd Stream now from ps to
      → AreIn (rows_of file (frames_of ps))
  frames-in from [] to ends = tt
  frames-in from (p ∷ ps) to ends = in_cases p.offset p.item (frames_of ps)
      ends.1 (frames-in (p.offset + size_of p.item) ps to ends.2)

  module _ (p : PlacedFrame) (is : IsIn p.offset p.header) where
    low : p.offset ≤ n
    low = omega (arith, is.high)

    least : overhead_of (class_of p.header) p.header.protected ≤ n - p.offset
    least = omega (arith, overhead-within is.header, is.high)

    six : 6 ≤ n - p.offset
    six = grind (arith, area_some, IsClass-class_of)

    row-same : row_of now p ≡ row_of file p
    row-same =
        ap (λ (s : Side). record { offset = p.offset; header = p.header; side = s; lost = false })
        (ap (side_in p.header) (drop-cut file within low)
        ∙ side_in-take p.header (drop p.offset file) least)

    -- the check word of a frame that is still whole is the same
    pub word-same : stored_crc (drop p.offset now) ≡ stored_crc (drop p.offset file)
    word-same = grind (arith, drop-cut, low, stored_crc-take, six)

    -- the bytes of a frame that is still whole are the same
    pub bytes-same : frame_bytes now p ≡ frame_bytes file p
    bytes-same = grind (arith, drop-cut, low, take-take)

  -- the rows of frames that are still whole are the same
  pub rows-same : (ps : List PlacedFrame) → AreIn (rows_of file ps)
      → rows_of now ps ≡ rows_of file ps
  rows-same [] are = refl
  rows-same (p ∷ ps) are = grind (arith, row-same, rows-same ps are.1)

  -- each row belongs to a frame that is still whole
  pub row-in : (ps : List PlacedFrame) (i : ℕ) {r : Row} → AreIn (rows_of file ps)
      → slice_get (rows_of file ps) i ≡ Some r
      → (p : PlacedFrame) × IsIn p.offset p.header × (r ≡ row_of file p)
  row-in [] i are is = absurd cc
  row-in (p ∷ ps) zero {r} are is = let same : row_of file p ≡ r = cc in (p, are.0, sym same)
  row-in (p ∷ ps) (suc i) {r} are is = row-in ps i are.1 is

  -- ---- their faults

  -- the frames that are still whole are still sound
  pub sound-now : (head : Option Head) {class : ClassFields} {allowed many : ℕ}
      (ps : List PlacedFrame) (more : List Row) → AreIn (rows_of file ps)
      → AreSound file head class allowed (rows_of file ps ++ more) → length (rows_of file ps) ≤ many
      → AreSound now head class many (rows_of file ps)
  sound-now head {class} {allowed} ps more are sound few i r is =
      let rows = rows_of file ps in
      let low = slice_get_within rows i r is in
      let here = sound i r (get_more rows more i low ∙ is) in
      let found = row-in ps i are is in
      let word : stored_crc (drop r.offset now) ≡ stored_crc (drop r.offset file) =
      grind (arith, word-same) in
      let moved : IsSound (stored_crc (drop r.offset now)) class allowed (place head rows i)
      (data_end_before head rows i) i r = grind (arith, place-more, low, end-more, r) in
      record {
        same = moved.same;
        word = moved.word;
        main = moved.main;
        few = grind (arith, ne_eqb, low);
      }

-- ---- the stream

module _ {file : List ℕ} {n : ℕ} (within : n ≤ length file) {start : Start}
    (start_now : start_of (cut file within) ≡ Ok start)
    (kept : start.first.offset + size_of (Frame start.first.header) ≤ n) {allowed : ℕ}
    (read : IsRead file allowed start) where
  abbrev front : List ℕ
  front = cut file within

  abbrev at : ℕ
  at = start.first.offset

  abbrev h : HeaderFields
  h = start.first.header

  abbrev behind : ℕ
  behind = at + size_of (Frame h)

  frame : IsItemOf Stream file at (Frame h)
  frame = (start-first read.start_is).frame

  whole : whole_item_at Stream file at ≡ Some (Frame h)
  whole = whole_item_at-whole Stream file at (Frame h) frame.is refl frame.within

  whole_now : whole_item_at Stream front at ≡ Some (Frame h)
  whole_now = item-kept file within Stream at whole kept

  -- the first frame is still whole
  pub first_in : IsIn file within start.first.offset start.first.header
  first_in = record {
    header = header_front-in_range (drop at file) (stands-at file at (Frame h) frame.is);
    high = kept;
  }

  abbrev later : ItemChain
  later = item_chain Stream file behind

  -- the items after the first frame are the items that are still whole
  pub r : IsCutChain file within Stream behind later.items later.stop
  r = grind (arith, cut-chain, item_chain-ends)

  chain-on : stream_chain file start
      ≡ record { items = record { offset = at; item = Frame h } ∷ later.items; stop = later.stop }
  chain-on = item_chain-next Stream file whole

  to_end : length file ≤ later.stop
  to_end =
      let none = nothing_left file
      (stream_chain file start).stop (no_fault file (frames_from file start) read.end) in
      omega (
        arith,
        ap (λ (q : ItemChain). q.stop) chain-on,
        ap length none,
        length-drop (stream_chain file start).stop file,
      )

  stopped_by : IsStop file within Stream later.stop r.stop r.rest
      → whole_item_at Stream front r.stop ≡ None
  unfolding r
  stopped_by (inl end) = grind (arith, whole_item_at-past, to_end, length-cut)
  stopped_by (inr found) = cut-none file within found.1

  stopped : whole_item_at Stream front r.stop ≡ None
  stopped = stopped_by r.last

  -- the stream is the first frame and what is still whole after it
  pub chain-now : stream_chain front start
      ≡ record { items = record { offset = at; item = Frame h } ∷ r.front; stop = r.stop }
  chain-now =
      item_chain-next Stream front whole_now
      ∙ ap (λ (q : ItemChain). record {
        items = record { offset = at; item = Frame h } ∷ q.items;
        stop = q.stop;
      }) (item_chain-only Stream front behind r.front r.ends stopped)

  -- ---- its head and its frames

  abbrev pub head : Option Head
  head = head_of file start.first

  -- the head is the same
  pub head-same : head_of front start.first ≡ head
  unfolding head_of
  head-same = ap (head_in_bytes start.first) (bytes-same file within start.first first_in)

  abbrev pub frames : List PlacedFrame
  frames = numbered_frames head (record { offset = at; header = h } ∷ frames_of r.front)

  abbrev pub gone : List PlacedFrame
  gone = frames_of r.rest

  -- the frames are the frames that are still whole
  pub frames-now : frames ≡ numbered_frames head (frames_of (stream_chain front start).items)
  frames-now = sym (ap (λ (q : ItemChain). numbered_frames head (frames_of q.items)) chain-now)

  -- the file has these frames, and then others
  pub frames-were : frames_from file start ≡ frames ++ gone
  frames-were =
      ap (λ (q : ItemChain). numbered_frames head (frames_of q.items)) chain-on
      ∙ ap (λ (ps : List PlacedFrame). numbered_frames head
      (record { offset = at; header = h } ∷ ps))
      (ap frames_of (sym r.split) ∙ frames-append r.front r.rest)
      ∙ numbered_frames-append head (record { offset = at; header = h }) (frames_of r.front) gone

  numbered_frames-in : (o : Option Head) → AreIn file within
      (rows_of file (numbered_frames o (record { offset = at; header = h } ∷ frames_of r.front)))
  numbered_frames-in None = (first_in, frames-in file within behind r.front r.stop r.ends)
  numbered_frames-in (Some o) = frames-in file within behind r.front r.stop r.ends

  -- they are within the first bytes
  pub are-in : AreIn file within (rows_of file frames)
  are-in = numbered_frames-in head

  abbrev pub rows : List Row
  rows = rows_of file frames

  abbrev pub more : List Row
  more = rows_of file gone

  -- the file has the rows of these frames, and then others
  pub rows-were : rows_of file (frames_from file start) ≡ rows ++ more
  rows-were = ap (rows_of file) frames-were ∙ map-append (row_of file) frames gone

  -- the rows are the same in the cut file
  pub rows-now : rows_of front frames ≡ rows
  rows-now = rows-same file within frames are-in

  -- ---- their faults

  -- the frames were sound
  pub sound-were : AreSound file head (class_from start) allowed (rows ++ more)
  sound-were = all_faults-none_sound file head (class_from start) allowed (rows ++ more)
      (sym (ap (all_faults file head (class_from start) allowed) rows-were) ∙ read.frames)

  -- none has a fault
  pub no-faults : {many : ℕ} → length rows ≤ many
      → all_faults front head (class_from start) many (rows_of front frames) ≡ []
  no-faults {many} few =
      ap (all_faults front head (class_from start) many) rows-now
      ∙ sound-no_all_faults front head (class_from start) many rows
      (sound-now file within head frames more are-in sound-were few)

  -- ---- where the stream stops

  fault_now : IsStop file within Stream later.stop r.stop r.rest
      → MayBeCut file within (fault_at r.stop (item_at front r.stop))
  unfolding r
  fault_now (inl end) =
      inl (ap (fault_at r.stop) (sym (stands-only_at front r.stop End
      (drop_all r.stop front (omega (arith, end.0, to_end, within, length-cut file within))))))
  fault_now (inr found) = stop-fault file within found.1

  end_cases : (ps : List PlacedFrame) {o : Option SurveyFault} → MayBeCut file within o
      → MayBeCut file within (end_fault front ps o)
  end_cases ps h = grind arith

  -- the fault at the end is one of a file that was cut short
  pub end-now : MayBeCut file within
      (end_fault front frames (fault_at r.stop (item_at front r.stop)))
  end-now = end_cases frames (fault_now r.last)

  -- this is what the walk finds
  pub found-now : IsFound front start head frames (all_blocks front start) r.stop
  found-now = grind (arith, head-same, frames-now, chain-now)
