-- Files that are cut out of a file, part by part, are joined without seams as the parts are laid.
use Rattle.std.proofs.Common.{ap, ap₂, false, flat_map, inl, inr, length, List, map, refl, subst}
use Rattle.std.proofs.{Common.{sym, ℕ, [], ◌++◌, ◌∙◌, ◌∷◌, ◌≡◌}, lemmas.Bool.both_ways}
use Rattle.std.{proofs.lemmas.List.length-map, specs.Prelude.if◌then◌else◌}
use Rattle.frame_header.specs.Tables.{window_of}
use Rattle.laying.specs.{Needs.need_of, Relaid.{FilePart, part_stream, silent_lead_in}}
use Rattle.remove_edits.proofs.RemovalLemmas.{part-needs-are}
use Rattle.remove_edits.specs.Removed.{file_parts, part_needs_of, part_rows_of}
use Rattle.remove_laws.proofs.PieceLemmas.{alike-next, bare-known, FitAlike, IsBehindLeadIn}
use Rattle.remove_laws.proofs.PieceLemmas.{IsWithoutLeadIn, joins-as, JoinsAs, piece-joint}
use Rattle.remove_laws.proofs.SpliceStreamLemmas.{frames-streamed, item_stream, lead-streamed}
use Rattle.remove_laws.specs.{CutLaws.chosen_part, PieceLaws.{ArePartPieces, IsPartPiece}}
use Rattle.seam_laws.proofs.FrameRangeLemmas.{between-known, between-needs, same-many}
use Rattle.seam_laws.proofs.{FrameRangeLemmas.splice_between, PieceListLemmas.Recording}
use Rattle.seam_laws.proofs.PiecePartLemmas.{frames-need, IsPiece, IsPlain, leads, left-own}
use Rattle.seam_laws.proofs.{PiecePartLemmas.{own_stream, ways}, SeamlessInputLemmas.stream-from}
use Rattle.seam_laws.proofs.SplitJoinLemmas.{by-fit, piece-of}
use Rattle.seam_plan.proofs.PartSpliceLemmas.{part-added}
use Rattle.seam_plan.specs.{Frames.{Brought, needs_of, SpliceFrame}, Joins.fits_behind}
use Rattle.seam_plan.specs.PartSplices.{IsPartNeeds, item_needs, items_behind, splice_part_items}
use Rattle.seam_plan.specs.{PartSplices.SpliceItem, Seams.{joint_of, joints_from, left_out_count}}
use Rattle.seam_plan.specs.declared.stretches.Part.{Part}
use Rattle.seamless_edits.specs.Seamless.{later_parts, part_brought, part_from}
use Rattle.slot_plan.specs.{FreeBytes.FitsBehind, declared.needs.Need.Need}
use Rattle.sync_survey.specs.{Faults.SurveyFields, MainData.StreamFrame}

-- ---- one input

module _ (file : List ℕ) (s : SurveyFields) where
  -- the input is what is cut out of the file for this part, and doesn't begin with a look-alike
  pub record IsPartInput (part : Part) (p : FilePart) : Type 0 where
    pub piece : IsPiece false (chosen_part part) file s s.class p
    pub plain : IsPlain piece

  -- each of these inputs is, for the part at its place
  abbrev pub ArePartInputs : List Part → List FilePart → Type 0
  ArePartInputs [] [] = Unit {0}
  ArePartInputs (part ∷ parts) (p ∷ inputs) = IsPartInput part p × ArePartInputs parts inputs
  ArePartInputs _ _ = ⊥

  -- the frames of a part, as frames of a splice
  abbrev pub frames_in : Part → List SpliceFrame
  frames_in part = splice_between file s part.from part.to

module _ {file : List ℕ} {s : SurveyFields} (r : Recording file s) where
  abbrev window : ℕ
  window = window_of s.class.version

  module _ {part : Part} {p : FilePart} (is : IsPartInput file s part p) where
    abbrev frames : List SpliceFrame
    frames = frames_in file s part

    -- the frames of a part need what its rows do
    pub part-need : needs_of frames ≡ part_needs_of s part
    part-need = frames-need is.piece

    part-needs : IsPartNeeds s.class (needs_of frames)
    part-needs =
        subst (IsPartNeeds s.class) (sym part-need)
        (part-needs-are s r.has.placed is.piece.right.some is.piece.right.within)

    -- the input is a piece of the frames of the part
    pub part-piece : IsPartPiece s.class frames (part_brought p)
    part-piece =
        let of = piece-of is.piece refl is.plain in
        record {
          led = λ lacks.
              elim (ways is.piece) [
                | inl own ↦
                    absurd (both_ways (fits_behind window 0 (needs_of frames)) lacks
                    (ap (fits_behind window 0) (frames-need is.piece) ∙ own.fits))
                | inr led ↦
                    record {
                      lead_in = led.brings.lead_in;
                      header = led.brings.lead_in.need.header;
                      is = led.brings.header;
                      need =
                          ap (λ n. record { header = led.brings.lead_in.need.header; bytes = n })
                          led.brings.empty;
                      frames_are = led.brings.frames_are;
                      has = led.brings.has;
                    }
              ];
          unled = of.unled;
          uncounted = of.uncounted;
          needs = part-needs;
          known = between-known r.has part.from part.to;
        }

    -- its lead-ins are as many as its frames want
    pub leads-are : (if fits_behind window 0 (needs_of frames) then 0 else 1) ≡ leads is.piece
    leads-are = by-fit is.piece refl (λ b. if b then 0 else 1) refl refl

    abbrev own_part : List StreamFrame
    own_part = own_stream is.piece

    -- the stream of a part has a frame for each need of the part
    pub own-many : length (needs_of frames) ≡ length own_part
    own-many =
        ap length part-need
        ∙ length-map (part_rows_of s part) need_of
        ∙ sym (same-many r.has part.from part.to)

    without-streamed : {items : List SpliceItem} (more : List SpliceItem) (rest : List StreamFrame)
        {out : ℕ}
        → IsWithoutLeadIn (fits_behind window 0 (needs_of frames)) (needs_of frames) items out
        → item_stream (items ++ more) (own_part ++ rest)
        ≡ part_stream (part_from out p) ++ item_stream more rest
    without-streamed more rest alone =
        ap (λ l. item_stream (l ++ more) (own_part ++ rest)) alone.are
        ∙ frames-streamed alone.needs more own_part rest (alone.many ∙ own-many)
        ∙ ap (λ l. l ++ item_stream more rest)
        (sym (ap (λ n. part_stream (part_from n p)) (alone.out_is ∙ leads-are)
        ∙ left-own is.piece))

    behind-streamed : {items : List SpliceItem} (more : List SpliceItem) (rest : List StreamFrame)
        {out : ℕ}
        → IsBehindLeadIn (fits_behind window 0 (needs_of frames)) (needs_of frames) items out
        → item_stream (items ++ more) (own_part ++ rest)
        ≡ part_stream (part_from out p) ++ item_stream more rest
    behind-streamed more rest {out} behind =
        elim (ways is.piece) [
          | inl alone ↦
              absurd (both_ways (fits_behind window 0 (needs_of frames)) behind.lacks
              (ap (fits_behind window 0) (frames-need is.piece) ∙ alone.fits))
          | inr led ↦
              let first = led.brings.first in
              let left : part_stream (part_from out p) ≡ silent_lead_in first ∷ own_part =
              ap (λ n. part_stream (part_from n p)) behind.out_is
              ∙ stream-from is.piece.is 0 ∙ led.brings.stream_is in
              let own_is = led.brings.own_is in
              ap₂ (λ (l : List SpliceItem) (st : List StreamFrame). item_stream (l ++ more)
              (st ++ rest)) behind.are own_is
              ∙ lead-streamed behind.header (needs_of frames) more led.brings.rest rest
              (own-many ∙ ap length own_is)
              ∙ ap (λ l. l ++ item_stream more rest)
              (sym (left ∙ ap (silent_lead_in first ∷◌) own_is))
        ]

    -- what is left of the input is the stream of the items as which the part joins
    pub part-streamed : {items : List SpliceItem} (more : List SpliceItem) (rest : List StreamFrame)
        {out : ℕ} → JoinsAs (fits_behind window 0 (needs_of frames)) (needs_of frames) items out
        → item_stream (items ++ more) (own_part ++ rest)
        ≡ part_stream (part_from out p) ++ item_stream more rest
    part-streamed {items} more rest {out} (inl alone) = without-streamed more rest alone
    part-streamed {items} more rest {out} (inr behind) = behind-streamed more rest behind

  -- ---- all inputs

  -- the inputs are pieces of the frames of the parts
  pub part-pieces : (parts : List Part) (inputs : List FilePart) → ArePartInputs file s parts inputs
      → ArePartPieces s.class (map (frames_in file s) parts) (map part_brought inputs)
  part-pieces [] [] are = tt
  part-pieces [] (p ∷ inputs) are = absurd are
  part-pieces (part ∷ parts) [] are = absurd are
  part-pieces (part ∷ parts) (p ∷ inputs) are = (part-piece are.0, part-pieces parts inputs are.1)

  -- the frames of the parts need what their rows do
  pub parts-need : (parts : List Part)
      → map needs_of (map (frames_in file s) parts) ≡ map (part_needs_of s) parts
  parts-need [] = refl
  parts-need (part ∷ parts) = ap₂ ◌∷◌ (between-needs r.has part.from part.to) (parts-need parts)

  -- what is left of the inputs is the stream of the items of the parts
  pub later-streamed : (splice : List SpliceFrame) (own : List Need) (before : Brought)
      (parts : List Part) (inputs : List FilePart)
      → FitAlike window (needs_of splice) own × FitsBehind window window own
      → ArePartInputs file s parts inputs
      → flat_map part_stream
      (later_parts (joints_from s.class splice before (map part_brought inputs)) inputs)
      ≡ item_stream (items_behind window own (map needs_of (map (frames_in file s) parts)))
      (flat_map part_stream (file_parts file s parts))
  unfolding joints_from items_behind item_stream
  later-streamed splice own before [] [] fit are = refl
  later-streamed splice own before [] (p ∷ inputs) fit are = absurd are
  later-streamed splice own before (part ∷ parts) [] fit are = absurd are
  later-streamed splice own before (part ∷ parts) (p ∷ inputs) fit are =
      let input = part_brought p in
      let frames = frames_in file s part in
      let piece = part-piece are.0 in
      let headers = bare-known s.class r.known frames piece.known in
      let joint = joint_of s.class splice before input in
      let items = splice_part_items window own (needs_of frames) in
      let more = items_behind window (own ++ item_needs items)
      (map needs_of (map (frames_in file s) parts)) in
      let here = piece-joint s.class r.known splice own fit.0 fit.1 before input piece headers
      in
      let added = part-added s.class r.known (needs_of frames) piece.needs fit.1 in
      let rest = flat_map part_stream (file_parts file s parts) in
      ap (λ l. part_stream (part_from (left_out_count joint.seam) p) ++ l)
      (later-streamed (splice ++ joint.frames) (own ++ item_needs items) input parts inputs
      (alike-next s.class r.known splice joint.frames own items fit.0 here, added.fits) are.1)
      ∙ sym (part-streamed are.0 more rest
      (joins-as s.class r.known splice own fit.0 fit.1 before input piece headers))
