-- A file of laid frames as an input of a seamless join: it brings these frames, after the lead-in
-- that their plan gives them.
use Rattle.std.proofs.Common.{ap, ap₂, arith, Bool, cond, Contains, false, length, List, map, Ok}
use Rattle.std.proofs.Common.{refl, Some, subst, suc, sym, true, zip, ℕ, [], ◌+◌, ◌-◌, ◌<◌, ◌∙◌}
use Rattle.std.proofs.{Common.{◌∷◌, ◌≡◌, ◌≤◌}, lemmas.Bool.and_from}
use Rattle.std.proofs.lemmas.List.{length-drop, length-map, length-take-le}
use Rattle.std.proofs.lemmas.{List.FromFn.length-range_with_len, Slice.Eq.bytes_eq-Decides}
use Rattle.std.specs.{List.concat, Prelude.{slice_get, slice_range}}
use Rattle.chosen_streams.proofs.{CaseLemmas.stream-is, ExactLemmas.{one-on, part-sized}}
use Rattle.cut_edits.specs.Exact.{survey_without_head}
use Rattle.frame_header.proofs.HeaderLemmas.{IsClass-class_of}
use Rattle.frame_header.specs.{Fields.{ClassFields, HeaderFields, IsClass}, HeaderBits.header_bits}
use Rattle.frame_header.specs.Tables.{class_of, window_of}
use Rattle.frame_writer.specs.Frames.{Frame}
use Rattle.info_header.specs.declared.fields.Info.{Info}
use Rattle.laying.proofs.FittingFrameLemmas.{fitting-laid}
use Rattle.laying.proofs.HoldLemmas.{blocks-kept, part-entries, part-needs, part-stream}
use Rattle.laying.proofs.LaidFileLemmas.{laid-frames-stay, laid-stream, laid-survey}
use Rattle.laying.proofs.LaidLemmas.{first-there, laid-slots}
use Rattle.laying.proofs.PlannedFrameLemmas.{AreNeedsOf, one, relaid_frames-cons}
use Rattle.laying.specs.Fits.{FitsFromReach, IsFittingPlan}
use Rattle.laying.specs.Laid.{file_laid, file_with_first, frames_laid, info_laid, LaidPart}
use Rattle.laying.specs.Laid.{needs_laid, source_part}
use Rattle.laying.specs.LaidFiles.{AreBlocks, AreStreamEntries, frame_length, frames_offset}
use Rattle.laying.specs.LaidFiles.{head_at, IsLaidFile, IsStreamEntry, laid_fields, laid_file}
use Rattle.laying.specs.{LaidFiles.rows_from, LaidLaws.HasNoneLost, Laws.AreFramesOfStream}
use Rattle.laying.specs.{Needs.need_of, NeedsFit.own_choice}
use Rattle.laying.specs.Relaid.{FilePart, frame_with_place, IsPart, part_frames, part_stream}
use Rattle.laying.specs.Relaid.{relaid_frames, rest_behind, silent_lead_in, stream_with_lead_ins}
use Rattle.laying.specs.{Surveys.CanBeRelaid, Written.{back_blocks, front_blocks, slot_in}}
use Rattle.seam_laws.proofs.{FrontBlockLemmas.front-stays, SeamlessFrontLemmas.none-zero}
use Rattle.seam_laws.proofs.SeamlessInputLemmas.{brought-needs, brought-sounds, IsInput}
use Rattle.seam_laws.proofs.SeamlessInputLemmas.{splice-needs, splice-sounds, whole_stream}
use Rattle.seam_laws.proofs.SeamlessSpliceLemmas.{own-frames, own-many}
use Rattle.seam_laws.specs.LeadInLaws.{AreInOwnSlots, AreLedInOwnSlots}
use Rattle.seam_laws.specs.SeamlessLaws.{bare_file, bare_row_file}
use Rattle.seam_plan.proofs.{FollowLemmas.sounds, LeadInLemmas.lead-in-is}
use Rattle.seam_plan.specs.Frames.{needs_of, SpliceFrame}
use Rattle.seam_plan.specs.Joins.{has_lead_in, lead_in_header, leads_others, matches_header}
use Rattle.seamless_edits.specs.Seamless.{begins_blank, part_brought, sound_of, splice_frame}
use Rattle.side_info.specs.{Side.{no_side, payload_bits, payload_bytes}, declared.side.Side.Side}
use Rattle.slot_plan.{proofs.AreaLemmas.only_one, specs.FreeBytes.IsLeadInHeader}
use Rattle.slot_plan.specs.{Plans.AreItemSlots, declared.needs.{Need.Need, Placed.Placed}}
use Rattle.sync_survey.proofs.{EmptiedLemmas.no_bytes, SurveyPartsLemmas.survey_fields-allowed}
use Rattle.sync_survey.proofs.SurveyedFileLemmas.{survey_of-parts}
use Rattle.sync_survey.specs.Faults.{stream_of, stream_of_survey, survey_fields, SurveyFields}
use Rattle.sync_survey.specs.{HeadApart.{emptied_row, emptied_survey}, MainData.StreamFrame}
use Rattle.sync_survey.specs.Row.{Row}

-- ---- lists of frames

-- frames with the same needs and the same sounds are the same
pub frames-same : (xs ys : List SpliceFrame) → needs_of xs ≡ needs_of ys → sounds xs ≡ sounds ys
    → xs ≡ ys
frames-same [] [] needs sounding = refl
frames-same [] (y ∷ ys) needs sounding = grind arith
frames-same (x ∷ xs) [] needs sounding = grind arith
frames-same (x ∷ xs) (y ∷ ys) needs sounding =
    let need : x.need ≡ y.need = cc in
    let sound : x.sound ≡ y.sound = cc in
    let more_needs : needs_of xs ≡ needs_of ys = cc in
    let more_sounds : sounds xs ≡ sounds ys = cc in
    ap₂ ◌∷◌
    (ap₂ (λ (n : Need) (s : List ℕ). record { need = n; sound = s }) need sound)
    (frames-same xs ys more_needs more_sounds)

-- emptying the lost rows leaves the rows as they are, if none is lost
pub none-emptied : (rows : List Row)
    → ((i : ℕ) (r : Row) → slice_get rows i ≡ Some r → r.lost ≡ false) → map emptied_row rows ≡ rows
none-emptied [] kept = refl
none-emptied (r ∷ rows) kept =
    ap₂ ◌∷◌
    (ap (λ b. cond b (record r { side = no_side; lost = false }) r) (kept 0 r refl))
    (none-emptied rows (λ i q found. kept (suc i) q found))

-- ---- what laid frames need

-- what a frame needs as it is laid
abbrev pub frame_need : Frame → Need
frame_need f = record { header = f.kept.header; bytes = payload_bytes f.kept.side }

-- rows of laid frames need what the frames do
pub rows-needs : (at : ℕ) (fs : List Frame) → map need_of (rows_from at fs) ≡ map frame_need fs
rows-needs at [] = refl
rows-needs at (f ∷ fs) = grind (arith, rows-needs (at + frame_length f) fs)

begun-bytes : (s : Side) (begin : ℕ)
    → payload_bytes (record s { main_data_begin = begin }) ≡ payload_bytes s
unfolding payload_bytes payload_bits
begun-bytes s begin = refl

moved-need : {class : ClassFields} {need : Need} {f : Frame} (p : Placed) → IsStreamEntry class f
    → need.header ≡ f.kept.header
    → need.bytes ≡ length f.payload → Contains (own_choice need.header) p.slot
    → frame_need (frame_with_place p f) ≡ need
moved-need p entry header bytes slot = grind (arith, only_one, header, begun-bytes)

relaid_frames-cons-by : {b : Bool} (p : Placed) (placed : List Placed) (f : Frame) (fs : List Frame)
    → p.lead_in ≡ b
    → relaid_frames (f ∷ fs) (p ∷ placed) ≡ one b p f ∷ relaid_frames (rest_behind b f fs) placed
relaid_frames-cons-by p placed f fs is = grind (arith, relaid_frames-cons, one)

-- frames that are laid in their own slots need what the plan was made for
pub own-needs : (class : ClassFields) (needs : List Need) (fs : List Frame) (placed : List Placed)
    → AreStreamEntries class fs → AreNeedsOf needs fs
    → AreInOwnSlots needs placed → map frame_need (relaid_frames fs placed) ≡ needs
unfolding AreItemSlots relaid_frames
own-needs class [] [] placed entries are own = refl
own-needs class [] (f ∷ fs) placed entries are own = absurd are
own-needs class (need ∷ needs) [] placed entries are own = absurd are
own-needs class (need ∷ needs) (f ∷ fs) [] entries are own = absurd own
own-needs class (need ∷ needs) (f ∷ fs) (p ∷ placed) entries are own =
    ap (map frame_need) (relaid_frames-cons-by p placed f fs own.0)
    ∙ ap₂ ◌∷◌
    (moved-need p entries.0 are.0 are.1 own.1)
    (own-needs class needs fs placed entries.1 are.2 own.2)

-- what a lead-in and the frames after it need
pub record LedNeeds (window : ℕ) (needs : List Need) (at : ℕ) (fs : List Frame) : Type 0 where
  pub header : HeaderFields
  pub are : map frame_need fs ≡ record { header = header; bytes = 0 } ∷ needs
  pub lead : lead_in_header window needs ≡ Some header
  pub blank : begins_blank (rows_from at fs) ≡ true

-- frames that are laid after their lead-in need what the lead-in and they do
pub led-needs : (class : ClassFields) {window : ℕ} (at : ℕ) (needs : List Need) (fs : List Frame)
    (placed : List Placed) → IsClass class → AreStreamEntries class fs → AreNeedsOf needs fs
    → AreLedInOwnSlots window needs placed → FitsFromReach window 0 needs placed
    → LedNeeds window needs at (relaid_frames fs placed)
unfolding AreLedInOwnSlots FitsFromReach IsLeadInHeader
led-needs class at [] fs placed known entries are led fits = absurd led
led-needs class at (need ∷ needs) [] placed known entries are led fits = absurd are
led-needs class at (need ∷ needs) (f ∷ fs) [] known entries are led fits = absurd led
led-needs class {window} at (need ∷ needs) (f ∷ fs)
    (p ∷ placed) known entries are led fits =
    let header : HeaderFields = record need.header { protected = false; slot = p.slot } in
    let of_class = subst IsClass (sym entries.0.class) known in
    let cons = relaid_frames-cons-by p placed f fs led.0 in
    let none : p.begin ≡ 0 = omega (arith, fits.0) in
    record {
      header = header;
      are = ap (map frame_need) cons
          ∙ ap₂ ◌∷◌
          (ap₂ (λ (h : HeaderFields) (n : ℕ).
          record { header = record h { protected = false; slot = p.slot }; bytes = n })
          (sym are.0)
          (begun-bytes no_side p.begin ∙ no_bytes))
          (own-needs class (need ∷ needs) (f ∷ fs) placed entries are led.2);
      lead = lead-in-is window need needs
          (subst (λ h. IsClass (class_of h)) (sym are.0) of_class) (led.1, refl);
      blank = grind (arith, none-zero);
    }

-- ---- one file

placed-some : (window reach : ℕ) (needs : List Need) (placed : List Placed)
    → FitsFromReach window reach needs placed → 0 < length needs → 0 < length placed
unfolding FitsFromReach
placed-some window reach needs placed fits some = grind arith

-- the stream of frames after their lead-in
led-frames : (window : ℕ) (needs : List Need) (placed : List Placed) (stream : List StreamFrame)
    → length stream ≡ length needs → AreLedInOwnSlots window needs placed
    → (f : StreamFrame) × (fs : List StreamFrame) × (stream ≡ f ∷ fs)
    × (stream_with_lead_ins placed stream ≡ silent_lead_in f ∷ stream)
    × (length placed ≡ length needs + 1)
unfolding AreLedInOwnSlots
led-frames window [] placed stream same led = absurd led
led-frames window (need ∷ needs) [] stream same led = absurd led
led-frames window (need ∷ needs) (p ∷ placed) [] same led = absurd (omega (arith, same))
led-frames window (need ∷ needs) (p ∷ placed) (f ∷ fs) same led =
    grind (
      arith,
      one-on {b = true} p placed f fs led.0,
      own-frames (need ∷ needs) {stream = f ∷ fs} placed same
          led.2,
      own-many (need ∷ needs) placed led.2,
    )

-- these frames and no lead-in
pub record BringsOwn (class : ClassFields) (p : FilePart) (is : IsInput class p)
    (frames : List SpliceFrame) (own : List StreamFrame) : Type 0 where
  pub frames_are : (part_brought p).frames ≡ frames
  pub rows_need : map need_of p.survey.frames ≡ needs_of frames
  pub stream_is : whole_stream is ≡ own

-- these frames after a lead-in, which the input has at its front
pub record BringsLed (class : ClassFields) (p : FilePart) (is : IsInput class p)
    (frames : List SpliceFrame) (own : List StreamFrame) : Type 0 where
  pub lead_in : SpliceFrame
  pub frames_are : (part_brought p).frames ≡ lead_in ∷ frames
  pub empty : lead_in.need.bytes ≡ 0
  pub header : lead_in_header (window_of class.version) (needs_of frames)
      ≡ Some lead_in.need.header
  pub rows_need : map need_of p.survey.frames ≡ lead_in.need ∷ needs_of frames
  pub has : has_lead_in (window_of class.version) (part_brought p) ≡ true
  pub first : StreamFrame
  pub rest : List StreamFrame
  pub own_is : own ≡ first ∷ rest
  pub stream_is : whole_stream is ≡ silent_lead_in first ∷ own

-- the file of what is laid, with any blocks after its frames
pub record IsFileOf (laid : LaidPart) (file : List ℕ) (s : SurveyFields) (bytes : List ℕ) : Type 0
  where
    pub row : Row
    pub row_is : slice_get s.frames laid.from ≡ Some row
    pub back : List (List ℕ)
    pub blocks : AreBlocks back
    pub file_is : bytes
        ≡ laid_file (front_blocks file s) row.header (info_laid laid file s)
        (frames_laid laid file s) back

module _ (laid : LaidPart) {file : List ℕ} {s : SurveyFields} (has : CanBeRelaid file s)
    (within : laid.from < length s.frames) where
  -- a file that was laid is the file of what is laid
  pub laid-whole : IsFileOf laid file s (file_laid laid file s)
  laid-whole =
      let first = first-there s.frames laid.from within in
      record {
        row = first.0;
        row_is = first.1;
        back = back_blocks file s;
        blocks = (blocks-kept file s has).1;
        file_is = ap (λ o. file_with_first o laid file s) first.1;
      }

  -- so is the file without the blocks after the frames
  pub laid-bare : IsFileOf laid file s (bare_file laid file s)
  laid-bare =
      let first = first-there s.frames laid.from within in
      record {
        row = first.0;
        row_is = first.1;
        back = [];
        blocks = tt;
        file_is = ap (λ o. bare_row_file o laid file s) first.1;
      }

-- an input that is the file of what is laid, which can be laid
pub record IsLaidInput (laid : LaidPart) (file : List ℕ) (s : SurveyFields) (c : ClassFields)
    (p : FilePart) : Type 0 where
  pub has : CanBeRelaid file s
  pub some : laid.from < laid.to
  pub within : laid.to ≤ length s.frames
  pub fitting : IsFittingPlan (window_of s.class.version) (needs_laid laid s) laid.placed
  pub long : length laid.extension ≡ 36
  pub made : IsFileOf laid file s p.file
  pub is : IsInput c p

module _ {laid : LaidPart} {file : List ℕ} {s : SurveyFields} {c : ClassFields} {p : FilePart}
    (input : IsLaidInput laid file s c p) where
  abbrev window : ℕ
  window = window_of s.class.version

  abbrev needs : List Need
  needs = needs_laid laid s

  abbrev part : FilePart
  part = source_part laid file s

  abbrev frames : List Frame
  frames = frames_laid laid file s

  abbrev own : List StreamFrame
  own = part_stream part

  -- the chosen frames as frames of a splice
  abbrev pub own_splice : List SpliceFrame
  own_splice = map (splice_frame s.class) (zip (slice_range s.frames laid.from laid.to) own)

  abbrev info : Info
  info = info_laid laid file s

  part-is : IsPart s.class part
  part-is = record { has = input.has; class = refl; some = input.some; within = input.within }

  own-length : length own ≡ length needs
  own-length = (part-sized part-is).same

  -- there are as many needs as frames
  pub needs-many : length needs ≡ laid.to - laid.from
  needs-many = grind (arith, length-map, length-take-le, length-drop)

  frames-some : 0 < length frames
  frames-some =
      omega (
        arith,
        placed-some window 0 needs
            laid.placed input.fitting.fits (omega (arith, needs-many, input.some)),
        length-map frames slot_in,
        ap length
            (laid-slots laid input.has input.some input.within input.fitting),
        length-map laid.placed (λ (p : Placed). p.slot),
      )

  -- the frames can be laid, and are the frames of their stream with the lead-ins of the plan
  pub laid-as : AreFramesOfStream s.class frames (stream_with_lead_ins laid.placed own)
  laid-as =
      let are = fitting-laid part-is input.fitting in
      record {
        some = frames-some;
        entries = are.entries;
        fit = are.fit;
        stream_is = grind (arith, part-stream part-is, part-is);
      }

  class-known : IsClass s.class
  class-known =
      let first = first-there s.frames laid.from (omega (arith, input.some, input.within)) in
      let row = input.has.placed laid.from first.0 first.1 in
      subst IsClass row.class_is (IsClass-class_of row.known)

  needs-are : AreNeedsOf needs (part_frames part)
  needs-are = part-needs part-is

  entries-are : AreStreamEntries s.class (part_frames part)
  entries-are = part-entries part-is

  -- ---- as an input

  abbrev bytes : List ℕ
  bytes = laid_file (front_blocks file s) input.made.row.header info frames input.made.back

  abbrev fields : SurveyFields
  fields = laid_fields (front_blocks file s) input.made.row.header info frames input.made.back

  made-laid : IsLaidFile s.class (front_blocks file s) input.made.row.header info frames
      input.made.back
  made-laid =
      let placed_row = input.has.placed laid.from input.made.row input.made.row_is in
      record {
        blocks_before = (blocks-kept file s input.has).0;
        header = placed_row.known;
        class = placed_row.class_is;
        sizes = grind (arith, length-map, length-range_with_len);
        some = laid-as.some;
        entries = laid-as.entries;
        laid = laid-as.fit;
        blocks_behind = input.made.blocks;
      }

  told : fields ≡ p.survey
  told =
      let many = length bytes + length frames + 1 in
      let e = subst (λ l. survey_fields l input.is.allowed ≡ Ok p.survey) input.made.file_is
      (survey_of-parts p.file input.is.allowed input.is.surveyed).1 in
      let one = sym (survey_fields-allowed bytes input.is.allowed (omega arith) e)
      ∙ laid-survey s.class (front_blocks file s) input.made.row.header info frames input.made.back
      many made-laid (omega arith) in
      cc

  -- the class of the input is the class of the file
  pub class-same : c ≡ s.class
  unfolding laid_fields
  class-same =
      sym input.is.of_class ∙ ap (λ (t : SurveyFields). t.class) (sym told)
      ∙ (input.has.placed laid.from input.made.row input.made.row_is).class_is

  none-lost : HasNoneLost p.survey
  none-lost =
      (laid-frames-stay s.class (front_blocks file s) input.made.row.header info frames
      input.made.back
      made-laid).none
      input.is.allowed p.survey
      (subst (λ l. survey_fields l input.is.allowed ≡ Ok p.survey) input.made.file_is
      (survey_of-parts p.file input.is.allowed input.is.surveyed).1)

  survey_without_head-same : survey_without_head p.survey ≡ p.survey
  survey_without_head-same =
      ap emptied_survey none-lost.apart
      ∙ ap (λ rows. record p.survey { frames = rows })
      (none-emptied p.survey.frames none-lost.kept)

  -- the stream of the input is the stream of its frames
  pub input-stream : whole_stream input.is ≡ stream_with_lead_ins laid.placed own
  input-stream =
      ap (λ t. stream_of_survey p.file t) survey_without_head-same
      ∙ sym (stream-is p.file input.is.allowed input.is.surveyed)
      ∙ ap stream_of input.made.file_is
      ∙ (laid-stream s.class (front_blocks file s) input.made.row.header info frames input.made.back
      made-laid).stream_is
      ∙ laid-as.stream_is

  abbrev at : ℕ
  at = frames_offset (front_blocks file s) input.made.row.header info

  rows-are : p.survey.frames ≡ rows_from at frames
  unfolding laid_fields
  rows-are = ap (λ (t : SurveyFields). t.frames) (sym told)

  -- the rows of the input need what its frames do
  pub input-rows : map need_of p.survey.frames ≡ map frame_need frames
  input-rows = ap (map need_of) rows-are ∙ rows-needs at frames

  -- the frames that the input brings need what its frames do
  pub input-needs : needs_of (part_brought p).frames ≡ map frame_need frames
  input-needs =
      brought-needs input.is
      ∙ ap (λ (t : SurveyFields). map need_of t.frames) survey_without_head-same
      ∙ input-rows

  input-sounds : sounds (part_brought p).frames
      ≡ map (sound_of s.class) (stream_with_lead_ins laid.placed own)
  input-sounds = brought-sounds input.is ∙ ap (map (sound_of c)) input-stream
      ∙ ap (λ d. map (sound_of d) (stream_with_lead_ins laid.placed own)) class-same

  -- the head of the input is the Info frame
  pub head-is : p.survey.head
      ≡ Some (head_at (length (concat (front_blocks file s))) input.made.row.header)
  unfolding laid_fields
  head-is = ap (λ (t : SurveyFields). t.head) (sym told)

  -- the front blocks of the input are the front blocks of the file
  pub front-same : (many : ℕ) {t : SurveyFields} → survey_fields file many ≡ Ok t
      → front_blocks file t ≡ front_blocks file s
      → front_blocks p.file p.survey ≡ front_blocks file s
  front-same many {t} e same =
      ap₂ (λ (f : List ℕ) (t : SurveyFields). front_blocks f t) input.made.file_is (sym told)
      ∙ ap (λ front.
      front_blocks (laid_file front input.made.row.header info frames input.made.back)
      (laid_fields front input.made.row.header info frames input.made.back)) (sym same)
      ∙ front-stays file many e input.made.row.header info frames input.made.back
      ∙ same

  own-splice-needs : needs_of own_splice ≡ needs
  own-splice-needs =
      let rows = slice_range s.frames laid.from laid.to in
      splice-needs s.class rows own (own-length ∙ length-map rows need_of)

  own-splice-sounds : sounds own_splice ≡ map (sound_of s.class) own
  own-splice-sounds =
      let rows = slice_range s.frames laid.from laid.to in
      splice-sounds s.class rows own (own-length ∙ length-map rows need_of)

  -- in their own slots, the input brings the frames alone
  pub brings-own : AreInOwnSlots needs laid.placed → BringsOwn c p input.is own_splice own
  brings-own in_own =
      let all = own-frames needs laid.placed own-length in_own in
      record {
        frames_are =
            frames-same (part_brought p).frames own_splice
            (input-needs
            ∙ own-needs s.class needs
            (part_frames part) laid.placed entries-are needs-are in_own
            ∙ sym own-splice-needs)
            (input-sounds ∙ ap (map (sound_of s.class)) all ∙ sym own-splice-sounds);
        rows_need =
            input-rows
            ∙ own-needs s.class needs
            (part_frames part) laid.placed entries-are needs-are in_own
            ∙ sym own-splice-needs;
        stream_is = input-stream ∙ all;
      }

  -- after their lead-in, the input brings the frames after it
  pub brings-led : AreLedInOwnSlots window needs laid.placed → BringsLed c p input.is own_splice own
  unfolding has_lead_in
  brings-led led =
      let lead_needs =
      led-needs s.class at needs (part_frames part) laid.placed class-known entries-are
      needs-are led input.fitting.fits in
      let all = led-frames window needs laid.placed own own-length led in
      let lead_need : Need = record { header = lead_needs.header; bytes = 0 } in
      let lead_in : SpliceFrame =
      record { need = lead_need; sound = sound_of s.class (silent_lead_in all.0) } in
      let all_needs = input-needs ∙ lead_needs.are in
      let leads =
      ap (leads_others window) all_needs ∙ ap (matches_header lead_needs.header) lead_needs.lead
      ∙ (bytes_eq-Decides (header_bits lead_needs.header) (header_bits lead_needs.header)).1
      refl in
      record {
        lead_in = lead_in;
        frames_are =
            frames-same (part_brought p).frames (lead_in ∷ own_splice)
            (all_needs ∙ ap (lead_need ∷◌) (sym own-splice-needs))
            (input-sounds ∙ ap (map (sound_of s.class)) all.3
            ∙ ap (sound_of s.class (silent_lead_in all.0) ∷◌)
            (sym own-splice-sounds));
        empty = refl;
        header =
            subst (λ (d : ClassFields).
            lead_in_header (window_of d.version) (needs_of own_splice) ≡ Some lead_needs.header)
            (sym class-same)
            (ap (lead_in_header window) own-splice-needs ∙ lead_needs.lead);
        rows_need =
            input-rows ∙ lead_needs.are
            ∙ ap (lead_need ∷◌) (sym own-splice-needs);
        has = subst
            (λ (d : ClassFields). has_lead_in (window_of d.version) (part_brought p) ≡ true)
            (sym class-same)
            (and_from (part_brought p).blank
            (leads_others window (needs_of (part_brought p).frames))
            (ap begins_blank rows-are ∙ lead_needs.blank) leads);
        first = all.0;
        rest = all.1;
        own_is = all.2;
        stream_is = input-stream ∙ all.3;
      }
