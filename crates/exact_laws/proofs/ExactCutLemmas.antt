-- Exact pieces, joined in order, are the file that is cut from the first place to the last, but for
-- its blocks after the frames, where the first piece doesn't begin with a look-alike.
use Rattle.std.proofs.Common.{ap, ap₂, arith, Bool, drop, false, find, inl, inr, length, List, map}
use Rattle.std.proofs.Common.{None, refl, Some, subst, sym, take, true, zero, ℕ, [], ◌++◌, ◌+◌, ◌∙◌}
use Rattle.std.proofs.{Common.{◌∷◌, ◌≡◌, ◌≤◌}, lemmas.Bool.{and_from, both_ways, cases_lt}}
use Rattle.std.{proofs.lemmas.{List.length-map, Slice.Eq.bytes_eq-Decides}, specs.List.list_all}
use Rattle.std.specs.Prelude.{bytes_eq, is_some, option_map, slice_get, slice_range}
use Rattle.cut_edits.proofs.{ChosenLemmas.the-plan, PieceLemmas.{head_long, plain-long}}
use Rattle.cut_edits.{proofs.SpanLemmas.{led-is, with-fitting}, specs.Chosen.first_plan}
use Rattle.cut_edits.specs.Exact.{IsSpanIn, quality_of, span_needs, span_plan}
use Rattle.exact_laws.proofs.ExactFileLemmas.{AreExact, choice, has-own, head, inside, IsExact}
use Rattle.exact_laws.proofs.ExactFileLemmas.{IsFound, laid, own, piece-by, plain, span}
use Rattle.exact_laws.proofs.ExactNumberLemmas.{delay, delay-is, frames-many, goal, led-same}
use Rattle.exact_laws.proofs.ExactNumberLemmas.{padding-is, whole-first, whole-found, whole-last}
use Rattle.exact_laws.proofs.ExactNumberLemmas.{whole_span}
use Rattle.exact_laws.proofs.ExactSpanLemmas.{has-led-span, has-own-span, has-span, read-head}
use Rattle.exact_laws.proofs.ExactSpliceLemmas.{at, ends-later, first_of, FirstSpan, high, inputs}
use Rattle.exact_laws.proofs.ExactSpliceLemmas.{low, mid, splice-fits, splice-frames, splice-stream}
use Rattle.exact_laws.proofs.ExactSpliceLemmas.{splice_frames, st, stays-fit, whole}
use Rattle.exact_laws.proofs.InfoFieldLemmas.{gain-same, Keeps, keeps-by, made-again, made-front}
use Rattle.exact_laws.proofs.InfoFieldLemmas.{quality-again, quality_bytes, sealed-front}
use Rattle.exact_laws.proofs.InfoFieldLemmas.{sealed-same}
use Rattle.exact_span.specs.Extensions.{extension_of, kept_extension}
use Rattle.exact_span.specs.{Spans.{delay_of, padding_of}, TagWord.sealed_info}
use Rattle.exact_span.specs.declared.{exact_place.ExactPlace.ExactPlace, span.Span.Span}
use Rattle.frame_header.proofs.HeaderLemmas.{IsClass-class_of}
use Rattle.frame_header.specs.{Fields.{ClassFields, HeaderFields, IsClass}, Limits.most_frames}
use Rattle.frame_header.specs.{Slots.all_slots, Tables.{area_of, class_of, window_of}}
use Rattle.frame_writer.specs.Frames.{Frame}
use Rattle.info_header.specs.{Info.number_or_zero, InfoFrame.{info_frame, info_header_of}}
use Rattle.laying.proofs.{HoldLemmas.{part-entries, part-stream}, LaidLemmas.laid-slots}
use Rattle.laying.proofs.PlannedFrameLemmas.{one, one-entry, one-stream, relaid_frames-cons}
use Rattle.laying.proofs.{PlannedFrameLemmas.slot_among, RelayLemmas.range-next}
use Rattle.laying.specs.Laid.{frames_laid, info_laid, LaidPart, source_part}
use Rattle.laying.specs.{LaidFiles.{AreStreamEntries, stream_entry}, Needs.need_of}
use Rattle.laying.specs.NeedsFit.{own_choice}
use Rattle.laying.specs.Relaid.{FilePart, IsPart, lead_in_with_place, part_frames, part_stream}
use Rattle.laying.specs.{Relaid.{relaid_frames, silent_lead_in}, Written.{info_for, slot_in}}
use Rattle.seam_laws.proofs.FrameRangeLemmas.{between-append, between-needs, range-append}
use Rattle.seam_laws.proofs.FrameRangeLemmas.{splice_between}
use Rattle.seam_laws.proofs.{LaidInputLemmas.{BringsLed, front-same}, LedLemmas.led-needed}
use Rattle.seam_laws.proofs.LedPlanLemmas.{IsLedAs, lead_need, led-as, own-same, OwnBegins}
use Rattle.seam_laws.proofs.LedPlanLemmas.{plan-begins}
use Rattle.seam_laws.proofs.OwnLeadInLemmas.{lead-where-wanted, own-none}
use Rattle.seam_laws.proofs.PieceListLemmas.{later-at, no_pieces, piece_then, Recording}
use Rattle.seam_laws.proofs.PiecePartLemmas.{frames-need, IsLed, IsPiece, IsPlain, IsUnled}
use Rattle.seam_laws.proofs.PiecePartLemmas.{laid-input, leads, own_frames, own_stream, read}
use Rattle.seam_laws.proofs.PiecePartLemmas.{read-extension, read-is, read-quality, row-after}
use Rattle.seam_laws.proofs.{PiecePartLemmas.{row-need, ways}, PieceSpliceLemmas.front-fits}
use Rattle.seam_laws.proofs.SeamlessSpliceLemmas.{front-few, front-parts, splice, splice-planned}
use Rattle.seam_laws.proofs.SeamlessSpliceLemmas.{stream}
use Rattle.seam_laws.proofs.SplitFileLemmas.{file-same, frames-by, frames-of-part}
use Rattle.seam_laws.specs.{LeadInLaws.{AreInOwnSlots, AreLedInOwnSlots}, SeamlessLaws.bare_file}
use Rattle.seam_plan.proofs.{FitLemmas.fits-tested, LeadInLemmas.lead-in-is}
use Rattle.seam_plan.specs.Frames.{needs_of, SpliceFrame}
use Rattle.seam_plan.specs.Joins.{fits_behind, has_lead_in, lead_in_header}
use Rattle.seamless_edits.specs.Seamless.{delay_of_splice, gain_of, join_of_parts, part_brought}
use Rattle.seamless_edits.specs.Seamless.{part_head, part_says_gain, replay_gain, seamless_file}
use Rattle.seamless_edits.specs.Seamless.{seamless_frames, seamless_info, seamless_padding}
use Rattle.seamless_edits.specs.Seamless.{splice_extension, splice_plan}
use Rattle.slot_plan.proofs.FreeByteLemmas.{more-behind}
use Rattle.slot_plan.specs.{FreeBytes.{FitsBehind, IsLeadInHeader}, Layouts.begins_of}
use Rattle.slot_plan.specs.{LeastPlan.led_plan, Lists.CanBeLaid, Parts.{open_frame, part_items}}
use Rattle.slot_plan.specs.{Plans.{AreItemSlots, IsLedPlan, IsPlan}, declared.needs.Need.Need}
use Rattle.slot_plan.specs.declared.needs.Placed.{Placed}
use Rattle.sync_survey.specs.{Faults.SurveyFields, MainData.StreamFrame, Row.Row}

-- ---- lists

find-same : {X : Type 0} {f g : X → Bool} (xs : List X) → ((x : X) → f x ≡ g x)
    → find f xs ≡ find g xs
find-same [] same = refl
find-same {f = f} {g = g} (x ∷ xs) same = grind (arith, find-same xs same)

-- ---- lead-ins

-- frames that fit with no free bytes before them and
-- begin with the same frame have the same lead-in
same-lead : (window : ℕ) (first : Need) (xs ys : List Need)
    → fits_behind window 0 (first ∷ xs) ≡ true → fits_behind window 0 (first ∷ ys) ≡ true
    → lead_in_header window (first ∷ xs) ≡ lead_in_header window (first ∷ ys)
unfolding lead_in_header
same-lead window first xs ys one two =
    let all : (needs : List Need) → fits_behind window 0 needs ≡ true → (n : ℕ)
    → fits_behind window n needs ≡ true = grind (arith, fits-tested, more-behind) in
    let class = class_of first.header in
    ap (option_map (λ slot. record first.header { protected = false; slot = slot }))
    (find-same all_slots
    (λ slot. all (first ∷ xs) one (area_of class slot false)
    ∙ sym (all (first ∷ ys) two (area_of class slot false))))

-- a lead-in has the header of the frame after it but for its slot and its check word
lead-header : (window : ℕ) (first : Need) (needs : List Need) {h : HeaderFields}
    → lead_in_header window (first ∷ needs) ≡ Some h
    → info_header_of h ≡ info_header_of first.header
unfolding lead_in_header
lead-header window first needs is = grind arith

-- ---- the plan after an unconditional lead-in

-- what the plan of frames after an unconditional lead-in
-- is, and the plan of the lead-in and the frames
record IsLedSplice (window : ℕ) (first : Need) (needs : List Need)
    (led splice : List Placed) : Type 0
  where
    lead : Placed
    rest : List Placed
    led_is : led ≡ lead ∷ rest
    leads : lead.lead_in ≡ true
    splice_is : splice ≡ record lead { lead_in = false } ∷ rest

led-splice : {window : ℕ} {first : Need} {needs : List Need} {led splice : List Placed}
    (is : IsLedAs window first needs led)
    → AreInOwnSlots (lead_need first.header is.lead.slot ∷ first ∷ needs) splice
    → OwnBegins window (lead_need first.header is.lead.slot ∷ first ∷ needs) splice
    → IsLedSplice window first needs led splice
unfolding AreItemSlots AreLedInOwnSlots
led-splice {window} {first} {needs} {splice = splice} is own begins =
    let lead : Placed = record is.lead { lead_in = false } in
    let all = lead_need first.header is.lead.slot ∷ first ∷ needs in
    let is_led = subst (AreLedInOwnSlots window (first ∷ needs)) is.are is.led in
    record {
      lead = is.lead;
      rest = is.rest;
      led_is = is.are;
      leads = is_led.0;
      splice_is =
          own-same all splice (lead ∷ is.rest) own (refl, (zero, omega arith, refl), is.own)
          (begins ∙ sym is.begins ∙ ap (map (λ (p : Placed). p.begin)) is.are);
    }

-- frames after a lead-in, in the slots of that plan, are relaid as the frames after a lead-in
led-relaid_frames : (lead : Placed) (rest : List Placed) (f : Frame) (fs : List Frame)
    → lead.lead_in ≡ true
    → relaid_frames (lead_in_with_place lead f ∷ f ∷ fs) (record lead { lead_in = false } ∷ rest)
    ≡ relaid_frames (f ∷ fs) (lead ∷ rest)
led-relaid_frames lead rest f fs leads = grind (arith, relaid_frames-cons, lead, one, leads)

-- ---- what the heads of pieces keep

module _ {file : List ℕ} {s : SurveyFields} (r : Recording file s) where
  -- each keeps what a piece keeps of the head of the recording
  piece-keeps : {from to : ExactPlace} {p : FilePart}
      (at : IsExact r from to p)
      → Keeps (head r) (read at.piece).extension
  piece-keeps {from} {to} at =
      let t = span r from to in
      let made = at.piece.made in
      let long = head_long file s.head in
      keeps-by (head r) long (delay_of s.class (leads at.piece) t) (padding_of t)
      (ap (take 28)
      (read-extension at.piece
      ∙ ap (λ (l : LaidPart). l.extension) (piece-by r at.there.there made.row_is))
      ∙ sealed-front made.row.header (info_laid (plain r t) file (own r))
      (plain-long (head r) long (has-own r) (inside r at.there.there)))
      (read-head r at).numbers.encoder

  -- all pieces have the same peak and gains
  gains-are : {gain : List ℕ} → gain ≡ replay_gain (kept_extension (head r))
      → {from : ExactPlace} {tos : List ExactPlace} {parts : List FilePart}
      → AreExact r from tos parts → list_all (part_says_gain gain) parts ≡ true
  gains-are is no_pieces = refl
  gains-are {gain} is (piece_then {p = p} {parts = parts} here more) =
      let own_gain = ap gain_of (read-is here.piece)
      ∙ gain-same (read here.piece).extension (kept_extension (head r)) (piece-keeps here).front
      ∙ sym is in
      and_from (part_says_gain gain p) (list_all (part_says_gain gain) parts)
      (and_from (is_some (part_brought p).played) (bytes_eq (gain_of (part_head p)) gain)
      (ap is_some (has-span r here).spans.counted)
      ((bytes_eq-Decides (gain_of (part_head p)) gain).1 own_gain))
      (gains-are is more)

-- ---- the join

module _ {file : List ℕ} {s : SurveyFields} (r : Recording file s) {place next : ExactPlace}
    {places : List ExactPlace} {first : FilePart} {parts : List FilePart}
    (pieces : AreExact r place (next ∷ places) (first ∷ parts)) where
  abbrev t : SurveyFields
  t = own r

  abbrev window : ℕ
  window = window_of s.class.version

  abbrev cut_span : Span
  cut_span = whole_span r pieces

  abbrev piece : IsPiece (first_of r pieces).led (choice r (first_of r pieces)) file t s.class first
  piece = (at r pieces).piece

  abbrev row : Row
  row = piece.made.row

  first-same : low r pieces ≡ cut_span.first
  first-same = whole-first r pieces

  last-same : high r pieces ≡ cut_span.last
  last-same = whole-last r pieces

  found : IsFound r place (goal r pieces)
  found = whole-found r pieces

  there : IsSpanIn t cut_span
  there = inside r found.there

  row-is : slice_get t.frames cut_span.first ≡ Some row
  row-is = ap (slice_get t.frames) (sym first-same) ∙ piece.made.row_is

  -- what is cut from the first place to the last
  abbrev pub cut : LaidPart
  cut = laid r cut_span

  abbrev part : FilePart
  part = source_part cut file t

  abbrev needs : List Need
  needs = span_needs cut_span t

  abbrev front : ℕ
  front = (join_of_parts first parts).front

  abbrev splice_all : List SpliceFrame
  splice_all = splice_frames r pieces

  abbrev stream_all : List StreamFrame
  stream_all = whole r pieces

  splice-needs : needs_of splice_all ≡ needs
  splice-needs =
      between-needs (has-own r) (low r pieces) (high r pieces)
      ∙ ap₂ (λ i j. map need_of (slice_range t.frames i j)) first-same last-same

  part-is : IsPart s.class part
  part-is = record { has = has-own r; class = refl; some = there.some; within = there.within }

  part-streams : stream_all ≡ part_stream part
  part-streams = ap₂ (λ i j. slice_range (st r) i j) first-same last-same

  abbrev placed : List Placed
  placed = cut.placed

  -- the frames of the join are the frames that are cut, and both Info frames have the same header
  pub record IsSame : Type 0 where
    pub frames : seamless_frames first parts ≡ relaid_frames (part_frames part) placed
    pub header : (q : Row) → slice_get first.survey.frames front ≡ Some q
        → info_header_of q.header ≡ info_header_of row.header

  -- ---- the plan

  abbrev least : List Placed
  least = first_plan own_choice s.class needs

  never-laid : fits_behind window 0 needs ≡ false
      → CanBeLaid window (map open_frame (part_items own_choice needs None)) → ⊥
  unfolding part_items
  never-laid lacks can = grind (arith, both_ways, fits-tested, own-none)

  plan-by : (led : Bool) → (led ≡ true → fits_behind window 0 needs ≡ false)
      → span_plan led s.class needs ≡ least
  plan-by false lacks = refl
  plan-by true lacks =
      let chosen = choice r cut_span in
      let plan =
      the-plan chosen t (has-own r).placed there.some there.within
      (inl refl) in
      sym ((led-is chosen t (has-own r).placed there.some there.within least).0
      (led-needed window own_choice needs least (never-laid (lacks refl)) plan))

  splice-least : needs_of (splice (inputs r pieces)) ≡ needs → splice_plan first parts ≡ least
  splice-least same =
      ap₂ (λ (d : ClassFields) (ns : List Need). first_plan own_choice d ns) piece.is.of_class same

  -- if the splice has the stream and the plan of the cut,
  -- the frames of the join are the frames that are cut
  bare-frames : stream (inputs r pieces) ≡ stream_all → splice_plan first parts ≡ placed
      → seamless_frames first parts ≡ relaid_frames (part_frames part) placed
  bare-frames streams plans =
      frames-of-part r.known (inputs r pieces) part-is (streams ∙ part-streams) plans

  headers : front ≡ leads piece → (q : Row) → slice_get first.survey.frames front ≡ Some q
      → info_header_of q.header ≡ info_header_of row.header
  headers same q found = ap (λ (n : Need). info_header_of n.header) (row-after piece same found)

  -- both the cut_span and the first piece must have a lead-in, or neither
  led-as-first : (first_of r pieces).led ≡ cut_span.led
  led-as-first = led-same r pieces

  -- ---- without a lead-in

  same-own : IsUnled piece → front ≡ 0 → IsSame
  same-own own stays =
      let sp = has-own-span r (at r pieces) own in
      let splice_is =
      ap needs_of (splice-frames r pieces sp ∙ ap (λ n. drop n splice_all) stays) ∙ splice-needs in
      let plans = ap (λ b. span_plan b s.class needs) (sym led-as-first ∙ own.unled) in
      record {
        frames =
            bare-frames (splice-stream r pieces sp ∙ ap (λ n. drop n stream_all) stays)
            (splice-least splice_is ∙ sym plans);
        header = headers (stays ∙ sym own.none);
      }

  -- ---- after a lead-in

  module _ (led : IsLed piece) where
    abbrev with_lead : FirstSpan r pieces
    with_lead = has-led-span r (at r pieces) led

    abbrev brought : BringsLed s.class first piece.is (own_frames piece) (own_stream piece)
    brought = led.brings

    -- where the lead-in leaves the splice, the splice gets it again
    same-again : front ≡ 1 → IsSame
    same-again out =
        let splice_is = ap needs_of
        (splice-frames r pieces with_lead ∙ ap (λ n. drop n (brought.lead_in ∷ splice_all)) out)
        ∙ splice-needs in
        let streams = splice-stream r pieces with_lead
        ∙ ap (λ n. drop n (silent_lead_in brought.first ∷ stream_all)) out in
        let lacks = ap (fits_behind window 0) (sym splice_is)
        ∙ (front-parts (inputs r pieces) (omega (arith, out))).1 in
        record {
          frames =
              bare-frames streams
              (splice-least splice_is ∙ sym (plan-by cut_span.led (λ led. lacks)));
          header = headers (out ∙ sym led.one);
        }

    -- ---- where the lead-in stays

    module _ (stays : front ≡ 0) where
      abbrev begin_at : ℕ
      begin_at = low r pieces

      abbrev middle : ℕ
      middle = mid r pieces

      abbrev high_end : ℕ
      high_end = high r pieces

      abbrev own_splice : List SpliceFrame
      own_splice = splice_between file t begin_at middle

      abbrev more : List Need
      more = map need_of (slice_range t.frames (cut_span.first + 1) cut_span.last)

      abbrev own_more : List Need
      own_more = map need_of (slice_range t.frames (begin_at + 1) middle)

      needs-cons : needs ≡ need_of row ∷ more
      needs-cons = ap (map need_of) (range-next t.frames row-is there.some)

      own-cons : needs_of own_splice ≡ need_of row ∷ own_more
      own-cons =
          between-needs (has-own r) begin_at middle
          ∙ ap (map need_of)
          (range-next t.frames piece.made.row_is piece.right.some)

      ends : middle ≤ high_end
      ends = ends-later r pieces

      all-fit : fits_behind window 0 needs ≡ true
      all-fit = ap (fits_behind window 0) (sym splice-needs) ∙ stays-fit r pieces led stays

      own-fit : fits_behind window 0 (needs_of own_splice) ≡ true
      own-fit =
          front-fits window 0 own_splice (splice_between file t middle high_end)
          (ap (λ l. fits_behind window 0 (needs_of l))
          (between-append (has-own r)
          (omega (arith, piece.right.some)) ends)
          ∙ ap (fits_behind window 0) splice-needs ∙ all-fit)

      is-led : cut_span.led ≡ true
      is-led =
          sym led-as-first
          ∙ elim led.lacks [
            | inl is ↦ is
            | inr lacks ↦
                absurd (both_ways (fits_behind window 0 (needs_of own_splice))
                (ap (fits_behind window 0) (frames-need piece) ∙ lacks) own-fit)
          ]

      abbrev led_places : List Placed
      led_places = led_plan window own_choice needs

      placed-led : placed ≡ led_places
      placed-led = ap (λ b. span_plan b s.class needs) is-led

      as-led : IsLedAs window (need_of row) more led_places
      as-led =
          let chosen = choice r cut_span in
          let plan =
          (led-is chosen t (has-own r).placed there.some there.within led_places).1
          refl in
          led-as window (need_of row) more
          (subst (λ ns. IsLedPlan window own_choice ns led_places) needs-cons plan)

      abbrev lead : Need
      lead = lead_need row.header as-led.lead.slot

      known-class : IsClass (class_of row.header)
      known-class = IsClass-class_of ((has-own r).placed cut_span.first row row-is).known

      lead-found : lead_in_header window (need_of row ∷ more) ≡ Some lead.header
      unfolding IsLeadInHeader
      lead-found = lead-in-is window (need_of row) more known-class (as-led.slot, refl)

      own-found : lead_in_header window (need_of row ∷ own_more)
          ≡ Some brought.lead_in.need.header
      own-found = ap (lead_in_header window) (sym own-cons) ∙ brought.header

      lead-is : brought.lead_in.need ≡ lead
      lead-is =
          let both = sym own-found
          ∙ same-lead window (need_of row) own_more more
          (ap (fits_behind window 0) (sym own-cons) ∙ own-fit)
          (ap (fits_behind window 0) (sym needs-cons) ∙ all-fit)
          ∙ lead-found in
          let header : brought.lead_in.need.header ≡ lead.header = cc in
          ap₂ (λ (h : HeaderFields) (n : ℕ). record { header = h; bytes = n }) header brought.empty

      splice-all : needs_of (splice (inputs r pieces)) ≡ lead ∷ need_of row ∷ more
      splice-all =
          ap needs_of
          (splice-frames r pieces with_lead
          ∙ ap (λ n. drop n (brought.lead_in ∷ splice_all)) stays)
          ∙ ap₂ ◌∷◌ lead-is (splice-needs ∙ needs-cons)

      splice-plan : IsPlan window own_choice ((lead ∷ need_of row ∷ more) ∷ [])
          (splice_plan first parts)
      splice-plan =
          subst (λ ns. IsPlan window own_choice (ns ∷ []) (splice_plan first parts))
          splice-all
          (splice-planned (inputs r pieces))

      splice-fit : FitsBehind window 0 (lead ∷ need_of row ∷ more)
      splice-fit =
          (fits-tested window 0 (lead ∷ need_of row ∷ more)).0
          (ap (fits_behind window 0) (sym splice-all) ∙ splice-fits r pieces led stays)

      as-splice : IsLedSplice window (need_of row) more led_places (splice_plan first parts)
      as-splice =
          led-splice as-led
          ((lead-where-wanted window (lead ∷ need_of row ∷ more) (splice_plan first parts)
          splice-plan).0 splice-fit)
          (plan-begins splice-plan splice-fit)

      lead-begins : as-led.lead.begin ≡ 0
      unfolding begins_of
      lead-begins = grind (arith, as-led.lead.begin, as-led.rest, as-led.are, as-led.begins)

      part-entry : map stream_entry (part_frames part) ≡ stream_all
      part-entry = part-stream part-is ∙ sym part-streams

      streams : stream (inputs r pieces) ≡ silent_lead_in brought.first ∷ stream_all
      streams =
          splice-stream r pieces with_lead
          ∙ ap (λ n. drop n (silent_lead_in brought.first ∷ stream_all)) stays

      stream-first : stream_all
          ≡ brought.first ∷ (brought.rest ++ slice_range (st r) middle high_end)
      stream-first =
          sym (range-append (st r)
          (omega (arith, piece.right.some)) ends)
          ∙ ap (λ l. l ++ slice_range (st r) middle high_end)
          brought.own_is

      frames-led : (all : List Frame) → part_frames part ≡ all
          → seamless_frames first parts ≡ relaid_frames (part_frames part) placed
      unfolding as-splice as-led led-splice
      frames-led [] are =
          let none = sym (ap (map stream_entry) are) ∙ part-entry ∙ stream-first in
          absurd cc
      frames-led (f ∷ fs) are =
          let entries = subst (AreStreamEntries s.class) are (part-entries part-is) in
          let all = sym (ap (map stream_entry) are) ∙ part-entry in
          let begins = all ∙ stream-first in
          let entry : stream_entry f ≡ brought.first = cc in
          let led_frame = lead_in_with_place as-splice.lead f in
          let near : as-led.lead.begin ≤ window = omega (arith, lead-begins) in
          let own_entry =
          one-entry as-led.lead (slot_among as-led.slot.chosen) near
          entries.0 true in
          let heard = ap₂ ◌∷◌
          (one-stream true as-splice.lead f ∙ ap silent_lead_in entry) all in
          frames-by r.known (inputs r pieces) (led_frame ∷ f ∷ fs) (own_entry, entries)
          (streams ∙ sym heard)
          ∙ ap (relaid_frames (led_frame ∷ f ∷ fs)) as-splice.splice_is
          ∙ led-relaid_frames as-splice.lead as-splice.rest f fs as-splice.leads
          ∙ ap₂ (λ (xs : List Frame) (ps : List Placed). relaid_frames xs ps) (sym are)
          (sym (placed-led ∙ as-splice.led_is))

      same-led : IsSame
      same-led = record {
        frames = frames-led (part_frames part) refl;
        header = λ q found.
            ap (λ (n : Need). info_header_of n.header)
            (row-need first.survey.frames front found
            (ap₂ (λ (ns : List Need) n. slice_get ns n) brought.rows_need stays))
            ∙ lead-header window (need_of row) own_more own-found;
      }

  -- the frames are the frames that are cut, unless the first piece begins with a look-alike
  pub is-same : IsPlain piece → IsSame
  is-same plain =
      elim (ways piece) [
        | inl own ↦
            elim (cases_lt 0 front) [
              | inl out ↦
                  absurd (both_ways (has_lead_in window (part_brought first)) (plain own.none)
                  (front-parts (inputs r pieces) out).0)
              | inr stays ↦ same-own own (omega (arith, stays))
            ]
        | inr led ↦
            elim (cases_lt 0 front) [
              | inl out ↦ same-again led (omega (arith, out, front-few (inputs r pieces)))
              | inr stays ↦ same-led led (omega (arith, stays))
            ]
      ]

  -- ---- the Info frame

  abbrev written : ℕ
  written = delay r pieces

  abbrev cut_frames : List Frame
  cut_frames = frames_laid cut file t

  abbrev made : List ℕ
  made = extension_of (part_head first) written (seamless_padding first parts)

  made-is : made ≡ extension_of (head r) written (padding_of cut_span)
  made-is =
      ap₂ (λ o n. extension_of o written n) (read-is piece) (padding-is r pieces)
      ∙ made-again (read piece) written (padding_of cut_span) (piece-keeps r (at r pieces))

  -- peak and gains stay as they are
  splice-made : splice_extension written first parts ≡ made
  splice-made =
      let gain = gain-same made (kept_extension (head r))
      (ap (take 21) made-is
      ∙ made-front (head r) (head_long file s.head) written (padding_of cut_span)) in
      grind (arith, gains-are, gain, later-at)

  placed-many : length cut_frames ≡ length placed
  placed-many =
      sym (length-map cut_frames slot_in)
      ∙ ap length
      (laid-slots cut (has-own r) there.some there.within
      (with-fitting (choice r cut_span) t (has-own r).placed there.some there.within cut_span.led))
      ∙ length-map placed (λ (p : Placed). p.slot)

  quality-same : quality_bytes (quality_of (part_head first)) ≡ quality_bytes (quality_of (head r))
  quality-same =
      ap (λ o. quality_bytes (quality_of o)) (read-is piece)
      ∙ ap quality_bytes (read-quality piece)
      ∙ quality-again (number_or_zero (quality_of (head r)))

  module _ (is : IsSame) where
    extension-is : splice_extension written first parts ≡ (plain r cut_span).extension
    extension-is = grind (arith, splice-made, made-is, s.class, is.frames, frames-many, placed-many)

    info-is : {q : Row} → slice_get first.survey.frames front ≡ Some q
        → info_frame q.header (seamless_info (delay_of_splice first parts) q first parts)
        ≡ info_frame row.header (info_laid cut file t)
    info-is {q} found_row =
        let quality = quality_of (part_head first) in
        ap (λ o. info_frame q.header (seamless_info o q first parts)) (delay-is r pieces)
        ∙ ap (λ e. info_frame q.header (sealed_info q.header
        (info_for first.survey.class (seamless_frames first parts) quality e))) extension-is
        ∙ ap₂ (λ (d : ClassFields) (fs : List Frame). info_frame q.header (sealed_info q.header
        (info_for d fs quality (plain r cut_span).extension))) piece.is.of_class is.frames
        ∙ sealed-same s.class cut_frames quality (quality_of (head r)) quality-same q.header
        row.header (plain r cut_span).extension (is.header q found_row)
        ∙ ap (λ e.
        info_frame row.header (info_laid (record (plain r cut_span) { extension = e }) file t))
        (sym (ap (λ (l : LaidPart). l.extension) (piece-by r found.there row-is)))

    -- the join is what is cut, without the blocks after the frames
    pub cut-file : seamless_file (first ∷ parts) ≡ bare_file cut file t
    cut-file =
        file-same r.known (inputs r pieces) cut file t row-is is.frames (λ q. info-is {q = q})
        (front-same (laid-input piece) most_frames {t = s} r.told refl)
