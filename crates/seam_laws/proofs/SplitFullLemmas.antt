-- The pieces of a split, joined in order, have all frames that were cut, but for empty ones.
use Rattle.std.proofs.Common.{ap, ap₂, arith, Bool, cond, drop, filter, flat_map, inl, inr, length}
use Rattle.std.proofs.Common.{List, map, None, not, refl, sym, true, ℕ, [], ◌++◌, ◌∙◌, ◌∷◌, ◌≡◌}
use Rattle.std.{proofs.lemmas.Bool.{and_parts, cases_lt}, specs.List.enumerate_from}
use Rattle.std.specs.Prelude.{slice_get, slice_range}
use Rattle.cue_sheet.specs.declared.place.Place.{Place}
use Rattle.cut_edits.specs.{Chosen.Chosen, Exact.survey_without_head}
use Rattle.frame_header.specs.{Fields.{ClassFields, IsClass}, Tables.window_of}
use Rattle.laying.specs.Relaid.{FilePart, part_stream, silent_lead_in}
use Rattle.seam_laws.proofs.FrameRangeLemmas.{all_stream, range-append, range-none}
use Rattle.seam_laws.proofs.PieceListLemmas.{first-at, IsAt, later-at, no_pieces, piece_then}
use Rattle.seam_laws.proofs.PieceListLemmas.{pieces-join, Recording}
use Rattle.seam_laws.proofs.PiecePartLemmas.{IsPiece, own_stream, ways}
use Rattle.seam_laws.proofs.PieceSpliceLemmas.{uncounted-joint}
use Rattle.seam_laws.proofs.SeamlessFrontLemmas.{blank-side, none-zero}
use Rattle.seam_laws.proofs.SeamlessInputLemmas.{IsInput, Joins, stream-from, whole_stream}
use Rattle.seam_laws.proofs.SeamlessSpliceLemmas.{front-few, front-parts, HasLeads, joints-are}
use Rattle.seam_laws.proofs.SeamlessSpliceLemmas.{seamless-is, splice-leads, stream}
use Rattle.seam_laws.proofs.SplitJoinLemmas.{AreWhole, number, rise, uncounted, whole_cuts}
use Rattle.seam_laws.specs.SeamlessLaws.{full_frames, is_empty_frame, last_place}
use Rattle.seam_plan.specs.Frames.{Brought, needs_of, SpliceFrame}
use Rattle.seam_plan.specs.Joins.{has_lead_in, leads_others}
use Rattle.seam_plan.specs.Seams.{joint_of, joints_from, left_out_count}
use Rattle.seamless_edits.specs.Seamless.{begins_blank, join_of_parts, later_parts, part_brought}
use Rattle.seamless_edits.specs.Seamless.{part_from, seamless_stream}
use Rattle.slot_plan.specs.declared.needs.{Need.Need, Placed.Placed}
use Rattle.sync_survey.specs.Faults.{stream_of_survey, SurveyFields}
use Rattle.sync_survey.specs.MainData.{main_bytes, stream_frame, stream_frames, StreamFrame}
use Rattle.sync_survey.specs.Row.{Row}

-- ---- lists

filter-append : {X : Type 0} (p : X → Bool) (xs ys : List X)
    → filter p (xs ++ ys) ≡ filter p xs ++ filter p ys
filter-append p [] ys = refl
filter-append p (x ∷ xs) ys = grind (arith, filter-append p xs ys)

module _ (c : ClassFields) (known : IsClass c) where
  abbrev full : List StreamFrame → List StreamFrame
  full stream = full_frames c stream

  full-append : (xs ys : List StreamFrame) → full (xs ++ ys) ≡ full xs ++ full ys
  full-append xs ys = filter-append (λ f. not (is_empty_frame c f)) xs ys

  full-empty : (f : StreamFrame) (fs : List StreamFrame) → is_empty_frame c f ≡ true
      → full (f ∷ fs) ≡ full fs
  full-empty f fs empty = ap (λ b. cond (not b) (f ∷ full fs) (full fs)) empty

  -- lead-ins are empty
  leads-full : {window : ℕ} {needs : List Need} {placed : List Placed} {frames : List StreamFrame}
      (leads : HasLeads window needs placed frames)
      → full leads.leads ≡ []
  leads-full leads = grind (arith, full-empty, none-zero)

  -- a lead-in is empty
  pub silent-empty : (f : StreamFrame) → is_empty_frame c (silent_lead_in f) ≡ true
  silent-empty f = grind (arith, none-zero)

  -- ---- one input

  module _ {p : FilePart} (is : IsInput c p) where
    -- the first frame of an input that begins blank is empty
    pub first-empty : {f : StreamFrame} {fs : List StreamFrame}
        → begins_blank p.survey.frames ≡ true
        → whole_stream is ≡ f ∷ fs → is_empty_frame c f ≡ true
    unfolding stream_of_survey stream_frames
    first-empty {f} blank begins = at (survey_without_head p.survey).frames refl
      where
        at : (rows : List Row) → (survey_without_head p.survey).frames ≡ rows
            → is_empty_frame c f ≡ true
        at [] are =
            let none = ap (λ l.
            length (map
            (λ (q : ℕ × Row).
            stream_frame (main_bytes p.file (survey_without_head p.survey).head
            (survey_without_head p.survey).frames)
            (survey_without_head p.survey).head (survey_without_head p.survey).frames q.0 q.1)
            (enumerate_from 0 l))) are in
            absurd (omega (arith, none, ap length begins))
        at (r ∷ rows) are =
            let main = main_bytes p.file (survey_without_head p.survey).head
            (survey_without_head p.survey).frames in
            let g : ℕ × Row → StreamFrame =
            λ q. stream_frame main
            (survey_without_head p.survey).head (survey_without_head p.survey).frames q.0 q.1 in
            let streams = sym (ap (λ l. map g (enumerate_from 0 l)) are) ∙ begins in
            let same : g (0, r) ≡ f = cc in
            let none = blank-side is blank (ap (λ l. slice_get l 0) are) in
            grind (arith, same, none, none-zero)

    drop-full : {stream : List StreamFrame} → whole_stream is ≡ stream
        → begins_blank p.survey.frames ≡ true → full (drop 1 stream) ≡ full stream
    drop-full begins blank = grind (arith, full-empty, first-empty)

    without-full : has_lead_in (window_of c.version) (part_brought p) ≡ true
        → full (part_stream (part_from 1 p)) ≡ full (whole_stream is)
    unfolding has_lead_in
    without-full has =
        ap full (stream-from is 1)
        ∙ drop-full refl
        (and_parts (part_brought p).blank
        (leads_others (window_of c.version) (needs_of (part_brought p).frames)) has).0

    whole-full : full (part_stream (part_from 0 p)) ≡ full (whole_stream is)
    whole-full = ap full (stream-from is 0)

    joint-full : (splice : List SpliceFrame) (before : Brought) → (part_brought p).played ≡ None
        → full
        (part_stream
        (part_from (left_out_count (joint_of c splice before (part_brought p)).seam) p))
        ≡ full (whole_stream is)
    joint-full splice before none =
        grind
        (arith, uncounted-joint c splice before (part_brought p) none, whole-full, without-full)

-- ---- the pieces

module _ {file : List ℕ} {s : SurveyFields} (r : Recording file s) where
  abbrev filled : List StreamFrame → List StreamFrame
  filled stream = full_frames s.class stream

  -- a piece has the full frames of its range
  piece-full : {led : Bool} {chosen : Chosen} {p : FilePart}
      (piece : IsPiece led chosen file s s.class p)
      → filled (whole_stream piece.is) ≡ filled (own_stream piece)
  piece-full {p = p} piece =
      elim (ways piece) [
        | inl own ↦ ap filled own.brings.stream_is
        | inr led ↦
            ap filled led.brings.stream_is
            ∙ full-empty s.class r.known (silent_lead_in led.brings.first) (own_stream piece)
            (silent-empty s.class r.known led.brings.first)
      ]

  pieces-full : (splice : List SpliceFrame) (before : Brought) {from : Place} {tos : List Place}
      {parts : List FilePart} → AreWhole file s from tos parts → filled (flat_map part_stream
      (later_parts (joints_from s.class splice before (map part_brought parts)) parts))
      ≡ filled
      (slice_range (all_stream file s) (number s from) (number s (last_place from tos)))
  unfolding joints_from
  pieces-full splice before {from} no_pieces =
      ap filled (sym (range-none (all_stream file s) (number s from)))
  pieces-full splice before {from}
      (piece_then {to = to} {tos = tos} {p = p} {parts = parts} here more) =
      let joint = joint_of s.class splice before (part_brought p) in
      let later =
      later_parts (joints_from s.class (splice ++ joint.frames) (part_brought p)
      (map part_brought parts))
      parts in
      let all = all_stream file s in
      let a = number s from in
      let b = number s to in
      let end = number s (last_place to tos) in
      full-append s.class r.known (part_stream (part_from (left_out_count joint.seam) p))
      (flat_map part_stream later)
      ∙ ap₂ ◌++◌
      (joint-full s.class r.known here.piece.is splice before (uncounted here.piece refl)
      ∙ piece-full here.piece)
      (pieces-full (splice ++ joint.frames) (part_brought p) more)
      ∙ sym (full-append s.class r.known (slice_range all a b) (slice_range all b end))
      ∙ ap filled
      (range-append all (omega (arith, here.piece.right.some)) (rise r more))

  module _ {from to : Place} {tos : List Place} {first : FilePart} {parts : List FilePart}
      (pieces : AreWhole file s from (to ∷ tos) (first ∷ parts)) where
    abbrev begin : IsAt (whole_cuts s) file s s.class from to first
    begin = first-at pieces

    abbrev later : AreWhole file s to tos parts
    later = later-at pieces

    inputs : Joins s.class first parts
    inputs = pieces-join (whole_cuts s) file s pieces

    abbrev front : ℕ
    front = (join_of_parts first parts).front

    first-full : filled (part_stream (part_from front first))
        ≡ filled (whole_stream begin.piece.is)
    first-full =
        elim (cases_lt 0 front) [
          | inl out ↦
              let one : front ≡ 1 = omega (arith, out, front-few inputs) in
              ap (λ n. filled (part_stream (part_from n first))) one
              ∙ without-full s.class r.known begin.piece.is (front-parts inputs out).0
          | inr none ↦
              let zero_is : front ≡ 0 = omega (arith, none) in
              ap (λ n. filled (part_stream (part_from n first))) zero_is
              ∙ whole-full s.class r.known begin.piece.is
        ]

    joints-full : filled
        (flat_map part_stream (later_parts (join_of_parts first parts).joints parts))
        ≡ filled
        (slice_range (all_stream file s) (number s to) (number s (last_place to tos)))
    joints-full =
        ap (λ js. filled (flat_map part_stream (later_parts js parts))) (joints-are inputs)
        ∙ pieces-full (part_brought first).frames (part_brought first) later

    -- the join has the full frames of the file from the first number to the last
    pub all-full : filled (seamless_stream (first ∷ parts))
        ≡ filled
        (slice_range (all_stream file s) (number s from) (number s (last_place to tos)))
    all-full =
        let more = splice-leads inputs in
        let all = all_stream file s in
        let a = number s from in
        let b = number s to in
        let end = number s (last_place to tos) in
        let behind = flat_map part_stream (later_parts (join_of_parts first parts).joints parts) in
        ap filled (seamless-is inputs)
        ∙ full-append s.class r.known more.leads (stream inputs)
        ∙ ap (λ l. l ++ filled (stream inputs))
        (leads-full s.class r.known more)
        ∙ full-append s.class r.known (part_stream (part_from front first)) behind
        ∙ ap₂ ◌++◌ (first-full ∙ piece-full begin.piece) joints-full
        ∙ sym (full-append s.class r.known (slice_range all a b) (slice_range all b end))
        ∙ ap filled
        (range-append all (omega (arith, begin.piece.right.some)) (rise r later))
