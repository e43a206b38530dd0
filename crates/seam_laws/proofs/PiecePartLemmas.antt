-- A piece of a file, whole or exact, as an input of a seamless join: it brings the frames that were
-- chosen, after the lead-in that it was given, if any.
use Rattle.std.proofs.Common.{ap, ap₂, arith, Bool, drop, false, inl, inr, length, List, map, refl}
use Rattle.std.proofs.Common.{Some, subst, true, ℕ, [], ◌%◌, ◌+◌, ◌-◌, ◌<◌, ◌^◌, ◌∙◌, ◌∷◌, ◌≡◌, ◌⊎◌}
use Rattle.std.{proofs.lemmas.{Bool.both_ways, Option.slice_get-map}, specs.List.concat}
use Rattle.std.specs.Prelude.{slice_get, slice_range}
use Rattle.cut_edits.proofs.{ChosenLemmas.{IsRight, the-plan}, SealedLemmas.for-whole}
use Rattle.cut_edits.proofs.SpanLemmas.{led-is, with-fitting}
use Rattle.cut_edits.specs.{Chosen.{Chosen, chosen_needs, placed_part}, Exact.span_plan}
use Rattle.exact_span.specs.Laws.{AreInfoFields}
use Rattle.frame_header.specs.{Fields.{ClassFields, IsHeader}, Tables.window_of}
use Rattle.frame_writer.specs.Frames.{Frame}
use Rattle.info_header.specs.{Info.number_or_zero, declared.fields.Info.Info}
use Rattle.laying.{proofs.RelayLemmas.range-next, specs.KeptFields.fields_of_head}
use Rattle.laying.specs.{Laid.{frames_laid, info_laid, LaidPart}, LaidFiles.head_at, Needs.need_of}
use Rattle.laying.specs.{NeedsFit.own_choice, Relaid.{FilePart, part_stream}, Surveys.CanBeRelaid}
use Rattle.laying.specs.Written.{front_blocks, head_info}
use Rattle.seam_laws.proofs.FrameRangeLemmas.{all_stream, between-needs, splice_between}
use Rattle.seam_laws.proofs.LaidInputLemmas.{brings-led, brings-own, BringsLed, BringsOwn, head-is}
use Rattle.seam_laws.proofs.LaidInputLemmas.{IsFileOf, IsLaidInput, needs-many}
use Rattle.seam_laws.proofs.{LedPlanLemmas.led-as, OwnLeadInLemmas.lead-where-wanted}
use Rattle.seam_laws.proofs.PieceHeadLemmas.{laid-count, laid-extension, laid-quality}
use Rattle.seam_laws.proofs.SeamlessInputLemmas.{IsInput, stream-from}
use Rattle.seam_laws.proofs.SeamlessSpliceLemmas.{own-many}
use Rattle.seam_laws.specs.LeadInLaws.{AreInOwnSlots, AreLedInOwnSlots}
use Rattle.seam_laws.specs.{PlayedParts.piece_lead_ins, SeamlessLaws.is_look_alike}
use Rattle.seam_plan.{proofs.FitLemmas.fits-tested, specs.Frames.{needs_of, SpliceFrame}}
use Rattle.seam_plan.specs.Joins.{fits_behind, has_lead_in}
use Rattle.seamless_edits.specs.Seamless.{part_brought, part_from, part_head}
use Rattle.slot_plan.specs.{Plans.IsLedPlan, declared.needs.{Need.Need, Placed.Placed}}
use Rattle.sync_survey.specs.{Faults.SurveyFields, MainData.StreamFrame, Row.Row}
use Rattle.sync_survey.specs.declared.places.Head.{Head}

-- ---- what is laid

-- what is laid of chosen frames, in the slots of their plan: after a lead-in, whether they need one
-- or not, or only where they need one
abbrev pub laid_piece : Bool → Chosen → SurveyFields → LaidPart
laid_piece led chosen s = placed_part chosen (span_plan led s.class (chosen_needs chosen s))

-- the file of such a piece as an input
pub record IsPiece (led : Bool) (chosen : Chosen) (file : List ℕ) (s : SurveyFields)
    (c : ClassFields) (p : FilePart) : Type 0 where
  pub has : CanBeRelaid file s
  pub right : IsRight chosen s
  pub made : IsFileOf (laid_piece led chosen s) file s p.file
  pub is : IsInput c p

-- a row needs what the list of needs has at its number
pub row-need : (rows : List Row) (i : ℕ) {r : Row} {n : Need} → slice_get rows i ≡ Some r
    → slice_get (map need_of rows) i ≡ Some n → need_of r ≡ n
row-need rows i found is = grind (arith, slice_get-map, found)

-- ---- one piece

module _ {led : Bool} {chosen : Chosen} {file : List ℕ} {s : SurveyFields} {c : ClassFields}
    {p : FilePart} (piece : IsPiece led chosen file s c p) where
  abbrev window : ℕ
  window = window_of s.class.version

  abbrev needs : List Need
  needs = chosen_needs chosen s

  abbrev placed_if : Bool → List Placed
  placed_if led = span_plan led s.class needs

  -- the chosen frames as frames of a splice, and in the stream
  abbrev pub own_frames : List SpliceFrame
  own_frames = splice_between file s chosen.from chosen.to

  abbrev pub own_stream : List StreamFrame
  own_stream = slice_range (all_stream file s) chosen.from chosen.to

  -- how many lead-ins it has
  abbrev pub leads : ℕ
  leads = piece_lead_ins (laid_piece led chosen s)

  -- the piece as an input that is the file of what is laid
  abbrev pub laid-input : IsLaidInput (laid_piece led chosen s) file s c p
  laid-input = record {
    has = piece.has;
    some = piece.right.some;
    within = piece.right.within;
    fitting = with-fitting chosen s piece.has.placed piece.right.some piece.right.within led;
    long = piece.right.extension;
    made = piece.made;
    is = piece.is;
  }

  -- there are as many needs as frames
  pub piece-many : length needs ≡ chosen.to - chosen.from
  piece-many = needs-many laid-input

  -- its frames are in their own slots without a lead-in, and fit with no free bytes before them
  pub record IsUnled : Type 0 where
    pub unled : led ≡ false
    pub fits : fits_behind window 0 needs ≡ true
    pub none : leads ≡ 0
    pub brings : BringsOwn c p piece.is own_frames own_stream

  -- its frames are after a lead-in, since they don't fit so or the piece has one in any case
  pub record IsLed : Type 0 where
    pub lacks : (led ≡ true) ⊎ (fits_behind window 0 needs ≡ false)
    pub one : leads ≡ 1
    pub brings : BringsLed c p piece.is own_frames own_stream

  led-by : (needs : List Need) {ps : List Placed} → 0 < length needs
      → IsLedPlan window own_choice needs ps → AreLedInOwnSlots window needs ps
  led-by [] some plan = absurd (omega (arith, some))
  led-by (first ∷ needs) {ps} some plan = (led-as window first needs plan).led

  led-more : (needs : List Need) (ps : List Placed) → AreLedInOwnSlots window needs ps
      → length ps ≡ length needs + 1
  unfolding AreLedInOwnSlots
  led-more needs ps led = grind (arith, own-many)

  laid-ways : (led fits : Bool) → fits_behind window 0 needs ≡ fits →
      (AreInOwnSlots needs (placed_if led) × (led ≡ false) × (fits_behind window 0 needs ≡ true))
      ⊎ (AreLedInOwnSlots window needs (placed_if led)
      × ((led ≡ true) ⊎ (fits_behind window 0 needs ≡ false)))
  laid-ways true fits test =
      inr (
        led-by needs (omega (arith, piece-many, piece.right.some))
            ((led-is chosen s
            piece.has.placed piece.right.some piece.right.within (placed_if true)).1 refl),
        inl refl,
      )
  laid-ways false true test =
      inl (
        (lead-where-wanted window needs (placed_if false)
            (the-plan chosen s piece.has.placed piece.right.some piece.right.within
            (inl refl))).0
            ((fits-tested window 0 needs).0 test),
        refl,
        test,
      )
  laid-ways false false test =
      inr (
        (lead-where-wanted window needs (placed_if false)
            (the-plan chosen s piece.has.placed piece.right.some piece.right.within
            (inl refl))).1
            (λ fits. both_ways (fits_behind window 0 needs) test
            ((fits-tested window 0 needs).1 fits)),
        inr test,
      )

  -- the piece is laid in one of two ways
  pub ways : IsUnled ⊎ IsLed
  ways =
      elim (laid-ways led (fits_behind window 0 needs) refl) [
        | inl own ↦
            inl (record {
              unled = own.1;
              fits = own.2;
              none = omega (arith, own-many needs (placed_if led) own.0, piece-many);
              brings = brings-own laid-input own.0;
            })
        | inr behind ↦
            inr (record {
              lacks = behind.1;
              one = omega (arith, led-more needs (placed_if led) behind.0, piece-many);
              brings = brings-led laid-input behind.0;
            })
      ]

  -- the frames of the piece need what the chosen rows do
  pub frames-need : needs_of own_frames ≡ needs
  frames-need = between-needs piece.has chosen.from chosen.to

  -- ---- what is left of it

  -- without its lead-ins, its stream is the stream of the chosen frames
  pub left-own : part_stream (part_from leads p) ≡ own_stream
  left-own =
      stream-from piece.is leads
      ∙ elim ways [
        | inl own ↦ ap₂ (λ (n : ℕ) (l : List StreamFrame). drop n l) own.none own.brings.stream_is
        | inr led ↦ ap₂ (λ (n : ℕ) (l : List StreamFrame). drop n l) led.one led.brings.stream_is
      ]

  -- after its lead-ins there is a row that needs what the row of its first chosen frame does
  pub row-after : {n : ℕ} {r : Row} → n ≡ leads → slice_get p.survey.frames n ≡ Some r
      → need_of r ≡ need_of piece.made.row
  row-after {n} {r} same found =
      let first = ap (λ l. slice_get l 0) frames-need
      ∙ ap (λ rows. slice_get (map need_of rows) 0)
      (range-next s.frames piece.made.row_is piece.right.some)
      in
      row-need p.survey.frames n found
      (elim ways [
        | inl own ↦
            ap₂ (λ (l : List Need) (k : ℕ). slice_get l k) own.brings.rows_need (same ∙ own.none)
            ∙ first
        | inr led ↦
            ap₂ (λ (l : List Need) (k : ℕ). slice_get l k) led.brings.rows_need (same ∙ led.one)
            ∙ first
      ])

  -- it has no lead-in that it wasn't given
  abbrev pub IsPlain : Type 0
  IsPlain = leads ≡ 0 → has_lead_in (window_of c.version) (part_brought p) ≡ false

  -- this holds if it doesn't begin with a look-alike
  pub plain-by : is_look_alike (laid_piece led chosen s) p ≡ false → IsPlain
  plain-by none no_leads =
      subst (λ (d : ClassFields). has_lead_in (window_of d.version) (part_brought p) ≡ false)
      piece.is.of_class (grind arith)

  -- ---- its head

  abbrev frames : List Frame
  frames = frames_laid (laid_piece led chosen s) file s

  abbrev info : Info
  info = info_laid (laid_piece led chosen s) file s

  abbrev at : Head
  at = head_at (length (concat (front_blocks file s))) piece.made.row.header

  -- the fields of its head
  abbrev pub read : Info
  read = head_info p.file (Some at)

  -- the fields of the head of the input
  pub read-is : part_head p ≡ Some read
  read-is = ap (fields_of_head p.file) (head-is laid-input)

  known : IsHeader piece.made.row.header
  known = (piece.has.placed chosen.from piece.made.row piece.made.row_is).known

  whole : AreInfoFields info
  whole = for-whole s.class frames chosen.quality piece.right.extension

  -- the extension is read as it was laid
  pub read-extension : read.extension ≡ chosen.extension
  read-extension =
      ap (λ l. (head_info l (Some at)).extension) piece.made.file_is
      ∙ laid-extension known whole (front_blocks file s) frames
      piece.made.back

  -- the number of frames is read as it was laid
  pub read-count : {n : ℕ} → info.frames ≡ Some n → n < 256 ^ 4 → read.frames ≡ Some n
  read-count {n} is small =
      ap (λ l. (head_info l (Some at)).frames) piece.made.file_is
      ∙ laid-count known whole (front_blocks file s) frames
      piece.made.back is small

  -- the quality is read as it was written
  pub read-quality : read.quality ≡ Some (number_or_zero chosen.quality % 256 ^ 4)
  read-quality =
      ap (λ l. (head_info l (Some at)).quality) piece.made.file_is
      ∙ laid-quality known whole (front_blocks file s) frames
      piece.made.back
