-- Frames in the slots and with the main_data_begin of any plan that can be written frame by
-- frame: they can be laid, and are otherwise unchanged. So are those of parts as planned.
use Rattle.std.proofs.Common.{ap, ap₂, arith, Bool, cond, false, flat_map, length, List, map, refl}
use Rattle.std.proofs.Common.{subst, sym, ℕ, [], ◌+◌, ◌-◌, ◌<◌, ◌∙◌, ◌∷◌, ◌≡◌, ◌≤◌}
use Rattle.frame_header.specs.Fields.{ClassFields, HeaderFields, IsHeader, SlotFields}
use Rattle.frame_header.specs.Tables.{area_of, class_of, window_of}
use Rattle.frame_writer.specs.Frames.{Frame, frame_area}
use Rattle.info_header.specs.declared.fields.Info.{Info}
use Rattle.laying.proofs.FitLemmas.{parts-fit, parts-fitting}
use Rattle.laying.proofs.HoldLemmas.{part-entries, part-needs, part-some, part-stream}
use Rattle.laying.proofs.HoldLemmas.{parts-entries, parts-headers, parts-needs, parts-some}
use Rattle.laying.proofs.{HoldLemmas.parts-stream, LaidFileLemmas.{laid-frames-stay, laid-stream}}
use Rattle.laying.proofs.PlannedFrameLemmas.{AreLaidFrom, AreNeedsOf, laid_more, next-entries}
use Rattle.laying.proofs.PlannedFrameLemmas.{next-map, none_laid, one, one-entry, one-stream}
use Rattle.laying.proofs.PlannedFrameLemmas.{relaid_frames-cons, stream-cons}
use Rattle.laying.specs.Fits.{AreInSlots, FitsFromReach, IsFittingPlan, placed_area, placed_bytes}
use Rattle.laying.specs.{Fits.reach_behind, InfoLaws.SlotsArePlanned}
use Rattle.laying.specs.LaidFiles.{AreBlocks, AreStreamEntries, HasInfoSizes, IsLaidFile, laid_file}
use Rattle.laying.specs.{LaidFiles.stream_entry, LaidLaws.LosesNoFrame}
use Rattle.laying.specs.Laws.{AreFramesOfStream, EachLaidFile, EntriesHold, FilesHold}
use Rattle.laying.specs.Laws.{FittingFilesHold, FittingSlots, PlannedFramesStay}
use Rattle.laying.specs.Relaid.{AreParts, FilePart, IsPart, part_frames, part_needs, part_stream}
use Rattle.laying.specs.{Relaid.{relaid_frames, rest_behind, stream_with_lead_ins}, Written.slot_in}
use Rattle.slot_plan.specs.declared.needs.{Need.Need, Placed.Placed}
use Rattle.sync_survey.specs.{Faults.HoldsStream, MainData.StreamFrame}

-- ---- one frame

piece-by : (b : Bool) (p : Placed) {need : Need} (f : Frame) → need.header ≡ f.kept.header
    → need.bytes ≡ length f.payload → (length (one b p f).payload ≡ placed_bytes b need)
    × ((one b p f).kept.side.main_data_begin ≡ p.begin) × (frame_area (one b p f).kept
    ≡ area_of (class_of need.header) p.slot (cond b false need.header.protected))
piece-by b p f header bytes = grind arith

next-needs : (b : Bool) {need : Need} (needs : List Need) (f : Frame) (fs : List Frame)
    → AreNeedsOf (need ∷ needs) (f ∷ fs)
    → AreNeedsOf (rest_behind b need needs) (rest_behind b f fs)
next-needs b needs f fs are = grind arith

-- ---- all of them

-- from a place on after which `reach` free bytes are within reach
laid-fitting : {c : ClassFields} (needs : List Need) (fs : List Frame) (placed : List Placed)
    {reach end before : ℕ} → AreStreamEntries c fs → AreNeedsOf needs fs → AreInSlots placed
    → FitsFromReach (window_of c.version) reach needs placed → reach ≤ window_of c.version
    → end + reach
    ≤ before → AreLaidFrom c end before (relaid_frames fs placed)
    (stream_with_lead_ins placed (map stream_entry fs))
unfolding FitsFromReach
laid-fitting {c} [] [] placed {end = end} {before = before} are needs_are slots fits near room =
    none_laid c end before placed
laid-fitting (need ∷ needs) (f ∷ fs) [] are needs_are slots fits near room = absurd fits
laid-fitting {c} (need ∷ needs) (f ∷ fs) (p ∷ placed)
    {end = end} {before = before} are needs_are slots fits near room =
    let window = window_of c.version in
    let g = one p.lead_in p f in
    let bytes = placed_bytes p.lead_in need in
    let area = placed_area p need in
    let piece = piece-by p.lead_in p f needs_are.0 needs_are.1 in
    let begins : g.kept.side.main_data_begin ≡ p.begin = piece.1 in
    let behind =
    laid-fitting (rest_behind p.lead_in need needs) (rest_behind p.lead_in f fs) placed
    (next-entries p.lead_in fs are.0 are.1) (next-needs p.lead_in needs f fs needs_are)
    slots.1 fits.2 (omega arith) (omega (arith, begins, fits.0, fits.1, room)) in
    let there : AreLaidFrom c (before - g.kept.side.main_data_begin + bytes) (before + area)
    (relaid_frames (rest_behind p.lead_in f fs) placed)
    (stream_with_lead_ins placed (rest_behind p.lead_in (stream_entry f) (map stream_entry fs))) =
    subst (λ (l : List StreamFrame). AreLaidFrom c (before - g.kept.side.main_data_begin + bytes)
    (before + area) (relaid_frames (rest_behind p.lead_in f fs) placed)
    (stream_with_lead_ins placed l))
    (next-map stream_entry p.lead_in f fs) behind in
    subst (λ (l : List Frame). AreLaidFrom c end before l
    (stream_with_lead_ins (p ∷ placed) (map stream_entry (f ∷ fs))))
    (sym (relaid_frames-cons p placed f fs))
    (subst (λ (l : List StreamFrame). AreLaidFrom c end before
    (g ∷ relaid_frames (rest_behind p.lead_in f fs) placed) l)
    (sym (stream-cons p placed (stream_entry f) (map stream_entry fs)))
    (laid_more
    (one-entry p slots.0 (omega (arith, fits.0, near)) are.0 p.lead_in)
    (one-stream p.lead_in p f) piece.0 piece.2 (omega (arith, begins, fits.0, room))
    (omega (arith, begins, fits.0, fits.1, room)) there))
laid-fitting _ _ placed are needs_are slots fits near room = absurd needs_are

one-slot : (b : Bool) (p : Placed) (f : Frame) → slot_in (one b p f) ≡ p.slot
one-slot b p f = grind arith

slots-by : (window reach : ℕ) (needs : List Need) (fs : List Frame) (placed : List Placed)
    → AreNeedsOf needs fs → FitsFromReach window reach needs placed
    → map slot_in (relaid_frames fs placed) ≡ map (λ (p : Placed). p.slot) placed
unfolding FitsFromReach relaid_frames
slots-by window reach [] [] [] are fits = refl
slots-by window reach [] (f ∷ fs) placed are fits = absurd are
slots-by window reach (need ∷ needs) [] placed are fits = absurd are
slots-by window reach (need ∷ needs) (f ∷ fs) (p ∷ placed) are fits =
    ap (map slot_in) (relaid_frames-cons p placed f fs)
    ∙ ap₂ (λ (s : SlotFields) (l : List SlotFields). s ∷ l) (one-slot p.lead_in p f)
    (slots-by window (reach_behind window p need) (rest_behind p.lead_in need needs)
    (rest_behind p.lead_in f fs) placed (next-needs p.lead_in needs f fs are) fits.2)
slots-by window reach _ _ _ are fits = absurd fits

some-by : (window reach : ℕ) (needs : List Need) (fs : List Frame) (placed : List Placed)
    → AreNeedsOf needs fs → FitsFromReach window reach needs placed → 0 < length fs
    → 0 < length (relaid_frames fs placed)
unfolding FitsFromReach
some-by window reach needs fs placed are fits some = grind (arith, relaid_frames-cons)

-- ---- the frames of a part

-- the frames have the slots of their places
pub fitting-slots : FittingSlots
fitting-slots c part placed is fitting = search (arith, slots-by, part-needs)

-- frames that can be laid, in a file
module _ {c : ClassFields} {frames : List Frame} {stream : List StreamFrame}
    (hold : AreFramesOfStream c frames stream) (front : List (List ℕ)) {first : HeaderFields}
    {info : Info}
    (back : List (List ℕ))
    (before : AreBlocks front) (header : IsHeader first) (class : class_of first ≡ c)
    (sizes : HasInfoSizes info) (behind : AreBlocks back) where
  file_is : IsLaidFile c front first info frames back
  file_is = grind arith

  file-holds : HoldsStream (laid_file front first info frames back) stream
  file-holds = grind (arith, laid-stream c front first info frames back file_is, file_is)

  file-loses-none : LosesNoFrame (laid_file front first info frames back)
  file-loses-none = laid-frames-stay c front first info frames back file_is

module _ {c : ClassFields} {part : FilePart} {placed : List Placed} (is : IsPart c part)
    (fitting : IsFittingPlan (window_of c.version) (part_needs part) placed) where
  -- the frames of a part can be laid, and their stream is the part's with the lead-ins of the plan
  pub fitting-laid : AreLaidFrom c 0 0 (relaid_frames (part_frames part) placed)
      (stream_with_lead_ins placed (map stream_entry (part_frames part)))
  fitting-laid =
      laid-fitting (part_needs part) (part_frames part) placed (part-entries is)
      (part-needs is) fitting.slots fitting.fits (omega arith) (omega arith)

  fitting_as : AreFramesOfStream c
      (relaid_frames (part_frames part) placed) (stream_with_lead_ins placed (part_stream part))
  fitting_as = record {
    some = some-by (window_of c.version) 0 (part_needs part) (part_frames part) placed
        (part-needs is) fitting.fits (part-some is);
    entries = fitting-laid.entries;
    fit = fitting-laid.fit;
    stream_is = fitting-laid.stream_is ∙ ap (stream_with_lead_ins placed) (part-stream is);
  }

  -- no frame of a file of them is lost, whether or not its head is set apart
  pub fitting-loses-none : EachLaidFile c (relaid_frames (part_frames part) placed) LosesNoFrame
  fitting-loses-none = search (arith, file-loses-none, fitting_as)

-- the file of them holds their stream
pub fitting-files-hold : FittingFilesHold
fitting-files-hold c part placed is fitting = search (arith, file-holds, fitting_as)

-- ---- the frames of parts

module _ (c : ClassFields) (parts : List FilePart) {placed : List Placed}
    (some : 1 ≤ length parts) (are : AreParts c parts)
    (fitting : IsFittingPlan (window_of c.version)
    (flat_map (λ (part : List Need). part) (map part_needs parts)) placed) where
  abbrev needs : List Need
  needs = flat_map (λ (part : List Need). part) (map part_needs parts)

  -- the frames of parts in these places can be laid, and are otherwise unchanged
  pub parts-laid : AreFramesOfStream c (relaid_frames (flat_map part_frames parts) placed)
      (stream_with_lead_ins placed (flat_map part_stream parts))
  parts-laid =
      let laid = laid-fitting needs (flat_map part_frames parts) placed
      (parts-entries c parts are) (parts-needs c parts are) fitting.slots fitting.fits
      (omega arith) (omega arith) in
      record {
        some = grind (arith, some-by, flat_map, parts-needs, parts-some);
        entries = laid.entries;
        fit = laid.fit;
        stream_is = laid.stream_is ∙ ap (stream_with_lead_ins placed) (parts-stream c parts are);
      }

  -- they have the slots of their places
  pub parts-slots : map slot_in (relaid_frames (flat_map part_frames parts) placed)
      ≡ map (λ (p : Placed). p.slot) placed
  parts-slots = slots-by (window_of c.version) 0 needs (flat_map part_frames parts) placed
      (parts-needs c parts are) fitting.fits

-- frames in the places of their plan can be laid, and are otherwise unchanged
pub entries-hold : EntriesHold
entries-hold c choices parts placed some are slots plan =
    parts-laid c parts some are
    (parts-fitting (window_of c.version) choices slots
    (parts-headers c parts are) plan)

-- the file of them holds their stream
pub files-hold : FilesHold
files-hold c choices parts placed some are slots plan = search (arith, file-holds, entries-hold)

-- no frame of the file of them is lost
pub planned-frames-stay : PlannedFramesStay
planned-frames-stay c choices parts placed some are slots plan =
    file-loses-none (entries-hold c choices parts placed some are slots plan)

-- frames laid by a plan have the slots of the plan
pub slots-planned : SlotsArePlanned
slots-planned c choices parts placed are slots plan =
    search (arith, slots-by, parts-needs, parts-fit)
