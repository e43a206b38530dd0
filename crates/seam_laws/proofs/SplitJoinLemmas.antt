-- The pieces of a split, joined in order, are the frames that were cut.
use Rattle.std.proofs.Common.{ap, ap₂, arith, Bool, false, flat_map, inl, inr, length, List, map}
use Rattle.std.proofs.Common.{None, Ok, refl, replicate, subst, sym, true, ℕ, [], ◌++◌, ◌<◌, ◌∙◌}
use Rattle.std.proofs.Common.{◌∷◌, ◌≡◌, ◌≤◌, ◌⊎◌}
use Rattle.std.proofs.lemmas.{Bool.{and_from, both_ways, le-leb, lt-ltb}, List.length-replicate}
use Rattle.std.specs.{List.concat, Prelude.{if◌then◌else◌, slice_range}}
use Rattle.commands.proofs.RefusingLemmas.{refusal_or-ok, then_ok}
use Rattle.cue_sheet.specs.{Places.frame_at, declared.place.Place.Place}
use Rattle.cut_edits.proofs.ChosenLemmas.{chosen-within, IsRight}
use Rattle.cut_edits.specs.Chosen.{Chosen, chosen_needs, cut_choice, laying_part}
use Rattle.exact_span.specs.PlayedPositions.{counted_positions}
use Rattle.frame_header.specs.Tables.{window_of}
use Rattle.laying.specs.{Laid.{LaidPart, stream_laid}, LaidFiles.head_at}
use Rattle.laying.specs.{Relaid.{FilePart, part_stream, stream_with_lead_ins}, Written.front_blocks}
use Rattle.seam_laws.proofs.FrameRangeLemmas.{all_stream, between-append, between-fits}
use Rattle.seam_laws.proofs.FrameRangeLemmas.{between-known, between-needs, between-none}
use Rattle.seam_laws.proofs.FrameRangeLemmas.{range-append, range-none, splice_between}
use Rattle.seam_laws.proofs.PieceHeadLemmas.{zero-counts}
use Rattle.seam_laws.proofs.PieceListLemmas.{AreAt, ArePieces, Cuts, first-at, IsLaidAs, IsPlainAt}
use Rattle.seam_laws.proofs.PieceListLemmas.{later-at, map-pieces, no_pieces, piece_then, Recording}
use Rattle.seam_laws.proofs.PiecePartLemmas.{frames-need, IsPiece, IsPlain, laid_piece, leads}
use Rattle.seam_laws.proofs.PiecePartLemmas.{left-own, own_frames, read-extension, read-is, ways}
use Rattle.seam_laws.{proofs.PieceSpliceLemmas.pieces-one-splice, specs.SeamlessLaws.last_place}
use Rattle.seam_laws.specs.SpliceLaws.{AreHeadersKnown, AreOneSplice, ArePiecesOf, concat_frames}
use Rattle.seam_laws.specs.SpliceLaws.{IsPieceOf, piece_seam}
use Rattle.seam_plan.specs.{Frames.{needs_of, SpliceFrame}, Joins.fits_behind}
use Rattle.seam_plan.specs.Seams.{JointFrames, left_out_count, seamless_join}
use Rattle.seam_plan.specs.declared.seam.Seam.TheVariants.{LeadIn, Whole}
use Rattle.seamless_edits.specs.Seamless.{join_of_parts, later_parts, part_brought, part_from}
use Rattle.seamless_edits.specs.Seamless.{seamless_stream, splice_parts, splice_plan}
use Rattle.split_edits.specs.Split.{cut_part}
use Rattle.sync_survey.specs.Faults.{SurveyFields}

-- ---- what is cut

abbrev pub chosen_between : ℕ → ℕ → Chosen
chosen_between a b = record { from = a; to = b; quality = None; extension = replicate 36 0 }

abbrev pub number : SurveyFields → Place → ℕ
number s place = frame_at s.class (length s.frames) place

-- the pieces of a split: the frames from one place to the next, with a lead-in where they need one
abbrev pub whole_cuts : SurveyFields → Cuts Place
whole_cuts s = record {
  led = λ from to. false;
  chosen = λ from to. chosen_between (number s from) (number s to);
  IsThere = λ from to. Unit {0};
}

-- a frame is between two numbers, and all frames up to the second are there
pub right-between : {s : SurveyFields} {a b : ℕ} → a < b → b ≤ length s.frames
    → IsRight (chosen_between a b) s
right-between some within =
    record { some = some; within = within; extension = length-replicate {A = ℕ} 36 0 }

module _ (file : List ℕ) (s : SurveyFields) (from to : Place) where
  abbrev laid : LaidPart
  laid = laid_piece false (chosen_between (number s from) (number s to)) s

  cut-one : {l : LaidPart} → cut_part from to file s ≡ Ok l
      → (number s from < number s to) × (number s to ≤ length s.frames) × (l ≡ laid)
  unfolding laying_part cut_choice
  cut-one e = grind (arith, then_ok, chosen-within, refusal_or-ok)

  -- what is cut from one place to another is their piece
  pub whole-laid : {l : LaidPart} → cut_part from to file s ≡ Ok l
      → IsLaidAs (whole_cuts s) file s from to l
  whole-laid {l} e =
      let cut = cut-one e in
      record {
        there = tt;
        right = right-between cut.0 cut.1;
        is = cut.2;
      }

  -- what is cut from the first place to the last
  pub whole-cut : number s from < number s to → number s to ≤ length s.frames
      → cut_part from to file s ≡ Ok laid
  unfolding laying_part cut_choice
  whole-cut some within = grind (arith, and_from, lt-ltb, le-leb)

-- ---- one piece

module _ {chosen : Chosen} {file : List ℕ} {s : SurveyFields} {p : FilePart}
    (piece : IsPiece false chosen file s s.class p) (zeros : chosen.extension ≡ replicate 36 0)
  where
    abbrev window : ℕ
    window = window_of s.class.version

    abbrev splice : List SpliceFrame
    splice = own_frames piece

    fits-splice : {b : Bool} → fits_behind window 0 (chosen_needs chosen s) ≡ b
        → fits_behind window 0 (needs_of splice) ≡ b
    fits-splice is = ap (fits_behind window 0) (frames-need piece) ∙ is

    lacked : (false ≡ true) ⊎ (fits_behind window 0 (chosen_needs chosen s) ≡ false)
        → fits_behind window 0 (needs_of splice) ≡ false
    lacked (inl never) = absurd cc
    lacked (inr lacks) = fits-splice lacks

    -- how many lead-ins it has follows from whether its frames fit with no free bytes before them
    pub by-fit : (f : Bool → ℕ) → f true ≡ 0 → f false ≡ 1
        → f (fits_behind window 0 (needs_of splice)) ≡ leads piece
    by-fit f without with =
        elim (ways piece) [
          | inl own ↦ ap f (fits-splice own.fits) ∙ without ∙ sym own.none
          | inr led ↦ ap f (lacked led.lacks) ∙ with ∙ sym led.one
        ]

    -- the head of the input counts nothing
    pub uncounted : (part_brought p).played ≡ None
    uncounted =
        ap (λ h. counted_positions h p.survey.class (length p.survey.frames)) (read-is piece)
        ∙ zero-counts p.file
        (head_at (length (concat (front_blocks file s))) piece.made.row.header) p.survey.class
        (length p.survey.frames) (read-extension piece ∙ zeros)

    -- the input is the piece, unless it has a lead-in at its front that it wasn't given
    pub piece-of : IsPlain piece → IsPieceOf window splice (part_brought p)
    piece-of plain = record {
      led = λ lacks.
          elim (ways piece) [
            | inl own ↦
                absurd (both_ways (fits_behind window 0 (needs_of splice)) lacks
                (fits-splice own.fits))
            | inr led ↦
                record {
                  lead_in = led.brings.lead_in;
                  frames_are = led.brings.frames_are;
                  empty = led.brings.empty;
                  has = led.brings.has;
                }
          ];
      unled = λ fits.
          elim (ways piece) [
            | inl own ↦ record { frames_are = own.brings.frames_are; none = plain own.none }
            | inr led ↦
                absurd (both_ways (fits_behind window 0 (needs_of splice)) (lacked led.lacks) fits)
          ];
      uncounted = uncounted;
    }

-- ---- the pieces

module _ (file : List ℕ) (s : SurveyFields) where
  -- these parts are the pieces between these places
  abbrev pub AreWhole : Place → List Place → List FilePart → Type 0
  AreWhole from tos parts = AreAt (whole_cuts s) file s s.class from tos parts

  -- these are, and none of them begins with a look-alike
  abbrev pub ArePlain : Place → List Place → List FilePart → Type 0
  ArePlain from tos parts =
      ArePieces (IsPlainAt (whole_cuts s) file s s.class (Unit {0})) from tos parts

  abbrev pub splices_from : Place → List Place → List (List SpliceFrame)
  splices_from from [] = []
  splices_from from (to ∷ tos) =
      splice_between file s (number s from) (number s to) ∷ splices_from to tos

module _ {file : List ℕ} {s : SurveyFields} (r : Recording file s) where
  abbrev frames_window : ℕ
  frames_window = window_of s.class.version

  -- the numbers of the places rise
  pub rise : {from : Place} {tos : List Place} {parts : List FilePart}
      → AreWhole file s from tos parts → number s from ≤ number s (last_place from tos)
  rise no_pieces = omega arith
  rise (piece_then here more) = omega (arith, here.piece.right.some, rise more)

  ends : {from : Place} {tos : List Place} {parts : List FilePart} → number s from ≤ length s.frames
      → AreWhole file s from tos parts → number s (last_place from tos) ≤ length s.frames
  ends within no_pieces = within
  ends within (piece_then here more) = ends here.piece.right.within more

  -- from the first place to the last there are frames
  pub whole-right : {from to : Place} {tos : List Place} {first : FilePart} {parts : List FilePart}
      → AreWhole file s from (to ∷ tos) (first ∷ parts)
      → IsRight (chosen_between (number s from) (number s (last_place to tos))) s
  whole-right (piece_then here more) =
      right-between (omega (arith, here.piece.right.some, rise more))
      (ends here.piece.right.within more)

  splices-all : {from : Place} {tos : List Place} {parts : List FilePart}
      → AreWhole file s from tos parts
      → concat_frames (splices_from file s from tos)
      ≡ splice_between file s (number s from) (number s (last_place from tos))
  splices-all {from} no_pieces = sym (between-none r.has (number s from))
  splices-all {from} (piece_then {to = to} {tos = tos} here more) =
      ap (splice_between file s (number s from) (number s to) ++◌)
      (splices-all more)
      ∙ between-append r.has
      (omega (arith, here.piece.right.some)) (rise more)

  pieces-of : {from : Place} {tos : List Place} {parts : List FilePart}
      → ArePlain file s from tos parts
      → ArePiecesOf frames_window (splices_from file s from tos) (map part_brought parts)
  pieces-of no_pieces = tt
  pieces-of (piece_then here more) = (piece-of here.0.piece refl (here.1 tt), pieces-of more)

  pieces-left : {from : Place} {tos : List Place} {parts : List FilePart}
      → AreWhole file s from tos parts → (joints : List JointFrames)
      → map (λ (j : JointFrames). j.seam) joints
      ≡ map (piece_seam frames_window) (splices_from file s from tos)
      → flat_map part_stream (later_parts joints parts)
      ≡ slice_range (all_stream file s) (number s from) (number s (last_place from tos))
  pieces-left {from} no_pieces [] seams = sym (range-none (all_stream file s) (number s from))
  pieces-left no_pieces (j ∷ joints) seams = absurd cc
  pieces-left (piece_then here more) [] seams = absurd cc
  pieces-left {from} (piece_then {to = to} {tos = tos} {p = p} {parts = parts} here more)
      (j ∷ joints) seams =
      let splice = splice_between file s (number s from) (number s to) in
      let seam : j.seam ≡ piece_seam frames_window splice = cc in
      let later : map (λ (j : JointFrames). j.seam) joints
      ≡ map (piece_seam frames_window) (splices_from file s to tos) =
      cc in
      let out = ap left_out_count seam
      ∙ by-fit here.piece refl (λ b. left_out_count (if b then Whole else LeadIn)) refl refl in
      ap₂ ◌++◌
      (ap (λ n. part_stream (part_from n p)) out ∙ left-own here.piece)
      (pieces-left more joints later)
      ∙ range-append (all_stream file s) (omega (arith, here.piece.right.some)) (rise more)

  -- ---- their join

  module _ {from to : Place} {tos : List Place} {first : FilePart} {parts : List FilePart}
      (plain : ArePlain file s from (to ∷ tos) (first ∷ parts)) where
    -- the inputs are the pieces
    pub pieces-are : AreWhole file s from (to ∷ tos) (first ∷ parts)
    pieces-are = map-pieces (λ a b p at. at.0) plain

    -- the first piece
    abbrev pub begin : IsPlainAt (whole_cuts s) file s s.class (Unit {0}) from to first
    begin = first-at plain

    abbrev splice_here : List SpliceFrame
    splice_here = splice_between file s (number s from) (number s to)

    -- what is cut from the first place to the last
    abbrev pub cut_whole : LaidPart
    cut_whole = laid_piece false (chosen_between (number s from) (number s (last_place to tos))) s

    -- the inputs are joined to one splice: the frames of the file
    pub one-splice : AreOneSplice frames_window splice_here (splices_from file s to tos)
        (part_brought first)
        (join_of_parts first parts)
    one-splice =
        let all = splices-all pieces-are in
        subst (λ d. AreOneSplice frames_window splice_here (splices_from file s to tos)
        (part_brought first) (seamless_join d (part_brought first) (map part_brought parts)))
        (sym begin.0.piece.is.of_class)
        (pieces-one-splice s.class splice_here (splices_from file s to tos) (part_brought first)
        (map part_brought parts) (piece-of begin.0.piece refl (begin.1 tt))
        (pieces-of (later-at plain))
        (subst AreHeadersKnown (sym all)
        (between-known r.has (number s from) (number s (last_place to tos))))
        (subst (λ l. fits_behind frames_window frames_window (needs_of l) ≡ true)
        (sym all) (between-fits r.has (number s from) (number s (last_place to tos)))))

    -- exactly the lead-ins of the first piece leave the splice at the end
    pub front-is : (join_of_parts first parts).front ≡ leads begin.0.piece
    front-is = one-splice.front ∙ by-fit begin.0.piece refl (λ b. if b then 0 else 1) refl refl

    -- the plan of the splice is the plan of the whole
    pub plan-is : splice_plan first parts ≡ cut_whole.placed
    plan-is =
        grind (
          arith,
          begin.0.piece.is.of_class,
          one-splice.splice,
          splices-all,
          pieces-are,
          between-needs,
          r.has,
        )

    -- the stream of the splice is the stream of the file from the first number to the last
    pub splice-stream : flat_map part_stream (splice_parts first parts)
        ≡ slice_range (all_stream file s) (number s from) (number s (last_place to tos))
    splice-stream =
        let later = later-at pieces-are in
        ap₂ ◌++◌
        (ap (λ n. part_stream (part_from n first)) front-is ∙ left-own begin.0.piece)
        (pieces-left later (join_of_parts first parts).joints one-splice.seams)
        ∙ range-append (all_stream file s) (omega (arith, begin.0.piece.right.some)) (rise later)

    -- the stream of the join is the stream that the whole is laid with
    pub seamless-stream : seamless_stream (first ∷ parts) ≡ stream_laid cut_whole file s
    unfolding seamless_stream
    seamless-stream = ap₂ stream_with_lead_ins plan-is splice-stream
