-- The splice of inputs without seams: the frames of their parts, where the first frame of
-- an input may be in another slot, have a plan as one part, and can be laid in its slots.
use Rattle.std.proofs.Common.{ap, append-nil, arith, Bool, cond, drop, false, flat_map, inl, inr}
use Rattle.std.proofs.Common.{length, length-append, length-drop, List, map, None, refl}
use Rattle.std.proofs.Common.{slice_range, subst, sym, ℕ, [], ◌++◌, ◌+◌, ◌-◌, ◌<◌, ◌∙◌, ◌∷◌, ◌≡◌}
use Rattle.std.proofs.{Common.{◌≤◌, ◌⊎◌}, lemmas.Bool.{ltb-false, ltb-true}}
use Rattle.std.proofs.lemmas.List.{drop-map, length-map, map-append, take_all}
use Rattle.std.{proofs.lemmas.List.Elements.{All-cons, All-nil}, specs.List.All}
use Rattle.std.specs.Prelude.{Contains, nat_lt, zip}
use Rattle.cut_edits.proofs.HeadLemmas.{survey_without_head-had, survey_without_head-length}
use Rattle.cut_edits.{proofs.HeadLemmas.survey_without_head-placed, specs.Exact.survey_without_head}
use Rattle.frame_header.proofs.HeaderLemmas.{IsClass-class_of}
use Rattle.frame_header.specs.{Fields.{ClassFields, IsHeader, IsSlot}, Slots.all_slots}
use Rattle.frame_header.specs.Tables.{area_of, class_of, window_of}
use Rattle.frame_writer.specs.Frames.{Frame, frame_area}
use Rattle.laying.proofs.FitLemmas.{AreHeaders, parts-fitting}
use Rattle.laying.proofs.HoldLemmas.{part-some, parts-entries, parts-needs, parts-stream}
use Rattle.laying.proofs.{NeedsFitLemmas.rows-alone, PlacesLemmas.range-whole}
use Rattle.laying.proofs.PlannedFrameLemmas.{AreLaidFrom, AreNeedsOf, laid_more, next-entries}
use Rattle.laying.proofs.PlannedFrameLemmas.{next-map, none_laid, one, one-entry, one-stream}
use Rattle.laying.proofs.PlannedFrameLemmas.{one_in_stream, relaid_frames-cons, slot_among}
use Rattle.laying.proofs.PlannedFrameLemmas.{stream-cons}
use Rattle.laying.specs.Fits.{AreInSlots, FitsFromReach, IsFittingPlan, placed_area, placed_bytes}
use Rattle.laying.specs.{Fits.reach_behind, LaidFiles.{AreStreamEntries, stream_entry}}
use Rattle.laying.specs.{Laws.AreFramesOfStream, Needs.need_of, NeedsFit.own_choice}
use Rattle.laying.specs.Relaid.{AreParts, AreSlots, FilePart, IsPart, part_frames, part_needs}
use Rattle.laying.specs.Relaid.{part_rows, part_stream, relaid_frames, rest_behind}
use Rattle.laying.specs.{Relaid.stream_with_lead_ins, Surveys.CanBeRelaid}
use Rattle.seam_plan.proofs.FollowLemmas.{added}
use Rattle.seam_plan.proofs.SpliceFitLemmas.{AddOwn, AllFitAlone, AreMoved, FitsAlone}
use Rattle.seam_plan.proofs.SpliceFitLemmas.{inputs-joined, IsJoined, IsMoved, moved-append}
use Rattle.seam_plan.{proofs.SpliceFitLemmas.moved-same, specs.Frames.{needs_of, SpliceFrame}}
use Rattle.seam_plan.specs.Seams.{JointFrames, left_out_count, SeamlessJoin, splice_of}
use Rattle.seamless_edits.specs.Seamless.{join_of_parts, later_parts, part_brought, part_from}
use Rattle.seamless_edits.specs.Seamless.{part_without_head, seamless_frames, splice_frame}
use Rattle.seamless_edits.specs.Seamless.{splice_parts, splice_plan}
use Rattle.slot_plan.proofs.{AreaLemmas.only_one, LeastPlanLemmas.least-plan-is}
use Rattle.slot_plan.specs.{FreeBytes.FitsBehind, Laws.ChoosesInOrder}
use Rattle.slot_plan.specs.{Parts.{AreNeedsOfClass, ArePartsFeasible}, Plans.IsPlan}
use Rattle.slot_plan.specs.declared.needs.{Need.Need, Placed.Placed}
use Rattle.sync_survey.proofs.{ApartLemmas.placed-apart, EmptiedLemmas.placed-emptied}
use Rattle.sync_survey.{proofs.SurveyPartsLemmas.stream-length, specs.Faults.SurveyFields}
use Rattle.sync_survey.specs.{HeadApart.rows_set_apart, MainData.StreamFrame, Row.Row}

-- ---- frames in the slots of a plan that was made for them in other slots

-- the plan is given a header of the frame's class, with a check word if the frame has one, and the
-- number of bytes of its main data
record IsNeedOf (need : Need) (f : Frame) : Type 0 where
  class : class_of need.header ≡ class_of f.kept.header
  protected : need.header.protected ≡ f.kept.header.protected
  bytes : need.bytes ≡ length f.payload

abbrev AreGiven : List Need → List Frame → Type 0
AreGiven [] [] = Unit {0}
AreGiven (need ∷ needs) (f ∷ fs) = IsNeedOf need f × AreGiven needs fs
AreGiven _ _ = ⊥

piece-by : (b : Bool) (p : Placed) {need : Need} {f : Frame} → IsNeedOf need f
    → (length (one b p f).payload ≡ placed_bytes b need)
    × ((one b p f).kept.side.main_data_begin ≡ p.begin)
    × (frame_area (one b p f).kept
    ≡ area_of (class_of need.header) p.slot (cond b false need.header.protected))
piece-by b p is = grind arith

next-given : (b : Bool) {need : Need} (needs : List Need) {f : Frame} (fs : List Frame)
    → AreGiven (need ∷ needs) (f ∷ fs) → AreGiven (rest_behind b need needs) (rest_behind b f fs)
next-given b needs fs are = grind arith

-- from a place on after which there are `reach` free bytes within reach
laid-from : {c : ClassFields} (needs : List Need) (fs : List Frame) (placed : List Placed)
    {reach end before : ℕ} → AreStreamEntries c fs → AreGiven needs fs → AreInSlots placed
    → FitsFromReach (window_of c.version) reach needs placed → reach ≤ window_of c.version
    → end + reach ≤ before → AreLaidFrom c end before (relaid_frames fs placed)
    (stream_with_lead_ins placed (map stream_entry fs))
unfolding FitsFromReach
laid-from {c} [] [] placed {end = end} {before = before} are given slots fits near room =
    none_laid c end before placed
laid-from (need ∷ needs) (f ∷ fs) [] are given slots fits near room = absurd fits
laid-from {c} (need ∷ needs) (f ∷ fs) (p ∷ placed)
    {end = end} {before = before} are given slots fits near room =
    let window = window_of c.version in
    let g = one p.lead_in p f in
    let bytes = placed_bytes p.lead_in need in
    let area = placed_area p need in
    let piece = piece-by p.lead_in p {need = need} {f = f} given.0 in
    let begins : g.kept.side.main_data_begin ≡ p.begin = piece.1 in
    let ended : ℕ = before - g.kept.side.main_data_begin + bytes in
    let left : List Frame = rest_behind p.lead_in f fs in
    let others = next-entries {c = c} p.lead_in {f = f} fs are.0 are.1 in
    let more = next-given p.lead_in {need = need} needs {f = f} fs given in
    let behind = laid-from {c = c} (rest_behind p.lead_in need needs) left placed
    {reach = reach_behind window p need} {end = ended} {before = before + area} others more
    slots.1 fits.2 (omega arith)
    (omega (arith, begins, fits.0, fits.1, room)) in
    let Laid : List Frame → List StreamFrame → Type 0 =
    λ frames stream. AreLaidFrom c ended (before + area) frames stream in
    let stream : List StreamFrame = rest_behind p.lead_in (stream_entry f) (map stream_entry fs) in
    let there : Laid (relaid_frames left placed) (stream_with_lead_ins placed stream) =
    grind (arith, next-map) in
    let is = one-entry p slots.0 (omega (arith, fits.0, near)) are.0 p.lead_in in
    let all : List StreamFrame = stream_with_lead_ins (p ∷ placed) (map stream_entry (f ∷ fs)) in
    subst (λ (l : List Frame). AreLaidFrom c end before l all)
    (sym (relaid_frames-cons p placed f fs))
    (subst (λ (l : List StreamFrame). AreLaidFrom c end before (g ∷ relaid_frames left placed) l)
    (sym (stream-cons p placed (stream_entry f) (map stream_entry fs)))
    (laid_more {c = c} {end = end} {before = before} {bytes = bytes} {area = area} {g = g} {gs =
    relaid_frames left placed}
    {q = one_in_stream p.lead_in (stream_entry f)} {qs = stream_with_lead_ins placed stream} is
    (one-stream p.lead_in p f) piece.0 piece.2
    (omega (arith, begins, fits.0, room)) (omega (arith, begins, fits.0, fits.1, room)) there))
laid-from _ _ placed are given slots fits near room = absurd given

some-from : (window reach : ℕ) (needs : List Need) (fs : List Frame) (placed : List Placed)
    → AreGiven needs fs → FitsFromReach window reach needs placed → 0 < length fs
    → 0 < length (relaid_frames fs placed)
unfolding FitsFromReach
some-from window reach needs fs placed given fits some = grind (arith, relaid_frames-cons)

-- ---- frames in other slots

own_slots : AreSlots own_choice
own_slots h slot is has = subst IsSlot (only_one has) is.slot

-- what is known of the needs and of the frames
record AreKnown (c : ClassFields) (needs : List Need) (fs : List Frame) : Type 0 where
  given : AreGiven needs fs
  headers : AreHeaders needs
  classes : AreNeedsOfClass c needs
  order : All (ChoosesInOrder own_choice) needs

slot-by : {need moved : Need} → IsMoved need moved → IsHeader need.header → IsSlot moved.header.slot
slot-by {need} {moved} is known = at is.slot
  where
    at : (moved.header.slot ≡ need.header.slot) ⊎ Contains all_slots moved.header.slot
        → IsSlot moved.header.slot
    at (inl own) = subst IsSlot (sym own) known.slot
    at (inr other) = slot_among other

header-by : {need moved : Need} → IsMoved need moved → IsHeader need.header → IsHeader moved.header
header-by {need} {moved} is known = grind (arith, slot-by is known, known)

own-order : {need : Need} → IsHeader need.header → ChoosesInOrder own_choice need
own-order {need} known = record {
  class = IsClass-class_of known;
  ascending = λ i j d before lt. absurd (omega (arith, before, lt));
  own = (0, omega arith, refl);
}

moved-known : {c : ClassFields} (own needs : List Need) (fs : List Frame) → AreMoved own needs
    → AreNeedsOf own fs → AreStreamEntries c fs → AreKnown c needs fs
unfolding AreNeedsOfClass
moved-known [] [] [] moved are entries =
    record { given = tt; headers = tt; classes = tt; order = All-nil (ChoosesInOrder own_choice) }
moved-known [] [] (f ∷ fs) moved are entries = absurd are
moved-known [] (m ∷ needs) fs moved are entries = absurd moved
moved-known (n ∷ own) [] fs moved are entries = absurd moved
moved-known (n ∷ own) (m ∷ needs) [] moved are entries = absurd are
moved-known {c} (n ∷ own) (m ∷ needs) (f ∷ fs) moved are entries =
    let more = moved-known own needs fs moved.1 are.2 entries.1 in
    let known = header-by moved.0 (subst IsHeader (sym are.0) entries.0.header) in
    let class : class_of m.header ≡ class_of f.kept.header = grind arith in
    let word : m.header.protected ≡ f.kept.header.protected = grind arith in
    let bytes : m.bytes ≡ length f.payload = ap (λ (x : Need). x.bytes) moved.0.is ∙ are.1 in
    record {
      given = (record { class = class; protected = word; bytes = bytes }, more.given);
      headers = (known, more.headers);
      classes = (class ∙ entries.0.class, more.classes);
      order = All-cons (ChoosesInOrder own_choice) m needs (own-order known) more.order;
    }

-- ---- an input

-- all frames of a file with this survey, which are of the class
pub record IsWholeFile (c : ClassFields) (p : FilePart) : Type 0 where
  pub had : CanBeRelaid p.file p.survey
  pub same : p.survey.class ≡ c
  pub from : p.from ≡ 0
  pub to : p.to ≡ length p.survey.frames
  pub some : 0 < length p.survey.frames

abbrev pub AreWholeFiles : ClassFields → List FilePart → Type 0
AreWholeFiles c [] = Unit {0}
AreWholeFiles c (p ∷ parts) = IsWholeFile c p × AreWholeFiles c parts

zip-needs : (class : ClassFields) (rows : List Row) (stream : List StreamFrame)
    → length stream ≡ length rows
    → needs_of (map (splice_frame class) (zip rows stream)) ≡ map need_of rows
zip-needs class [] [] same = refl
zip-needs class [] (f ∷ stream) same = absurd (omega (arith, same))
zip-needs class (r ∷ rows) [] same = absurd (omega (arith, same))
zip-needs class (r ∷ rows) (f ∷ stream) same =
    ap (λ (l : List Need). need_of r ∷ l) (zip-needs class rows stream (omega (arith, same)))

range-behind : {X : Type 0} (xs : List X) (from : ℕ) {to : ℕ} → to ≡ length xs
    → slice_range xs from to ≡ drop from xs
range-behind xs from {to} is = grind (arith, take_all, to, from, length-drop)

module _ {c : ClassFields} {p : FilePart} (is : IsWholeFile c p) where
  abbrev own : SurveyFields
  own = survey_without_head p.survey

  has : CanBeRelaid p.file own
  has = survey_without_head-had is.had
      (survey_without_head-placed p.survey is.had.placed)

  end : p.to ≡ length own.frames
  end = is.to ∙ sym (survey_without_head-length p.survey)

  range-is : {X : Type 0} {xs : List X} → length xs ≡ length own.frames
      → slice_range xs p.from p.to ≡ xs
  range-is same = grind (arith, slice_range, end, same, range-whole)

  rows-are : part_rows (part_without_head p) ≡ own.frames
  rows-are = range-is refl

  stream-same : length (part_stream (part_without_head p))
      ≡ length (part_rows (part_without_head p))
  stream-same = grind (arith, stream-length, range-is, rows-are)

  -- the needs that the splice is given for the input
  pub needs-are : needs_of (part_brought p).frames ≡ map need_of own.frames
  needs-are = grind (arith, zip-needs, stream-same, rows-are)

  -- it brings as many frames as its survey has
  pub brought-many : length (part_brought p).frames ≡ length p.survey.frames
  brought-many = grind (arith, length-map, needs-are, survey_without_head-length)

  -- its frames fit after 0 free bytes
  pub brought-alone : FitsAlone c (part_brought p)
  brought-alone =
      let none = placed-apart p.survey.head is.had.placed in
      let rows = rows_set_apart p.survey.head p.survey.frames in
      let placed = placed-emptied None none in
      let fits = rows-alone placed in
      subst (λ (d : ClassFields). FitsAlone d (part_brought p)) is.same
      (subst (FitsBehind (window_of p.survey.class.version) 0) (sym needs-are) fits)

  -- the needs of its frames from one on
  own-needs : (from : ℕ)
      → part_needs (part_from from p) ≡ needs_of (drop from (part_brought p).frames)
  own-needs from =
      ap (map need_of) (range-behind own.frames from end)
      ∙ sym (drop-map need_of from own.frames) ∙ ap (drop from) (sym needs-are)
      ∙ drop-map (λ (f : SpliceFrame). f.need) from (part_brought p).frames

  part-is : {from : ℕ} → from < p.to → IsPart c (part_from from p)
  part-is some = record { has = has; class = is.same; some = some; within = omega (arith, end) }

-- ---- parts, some of which may have no frame

abbrev with-frames : List FilePart → List FilePart
with-frames [] = []
with-frames (p ∷ parts) = cond (nat_lt p.from p.to) (p ∷ with-frames parts) (with-frames parts)

range-none : {X : Type 0} (xs : List X) (from to : ℕ) → nat_lt from to ≡ false
    → slice_range xs from to ≡ []
range-none xs from to e = grind (arith, to, from, ltb-false)

flat-kept : {X : Type 0} {f : FilePart → List X}
    → ((p : FilePart) → nat_lt p.from p.to ≡ false → f p ≡ []) → (parts : List FilePart)
    → flat_map f (with-frames parts) ≡ flat_map f parts
flat-kept none [] = refl
flat-kept {f = f} none (p ∷ parts) = grind (arith, flat_map, flat-kept none parts)

-- each part that has a frame is a part of the class
abbrev AreIf : ClassFields → List FilePart → Type 0
AreIf c [] = Unit {0}
AreIf c (p ∷ parts) = (p.from < p.to → IsPart c p) × AreIf c parts

kept-are : (c : ClassFields) (parts : List FilePart) → AreIf c parts
    → AreParts c (with-frames parts)
kept-are c [] are = tt
kept-are c (p ∷ parts) are = grind (arith, ltb-true, kept-are c parts are.1)

flat-needs : (parts : List FilePart)
    → flat_map (λ (part : List Need). part) (map part_needs parts) ≡ flat_map part_needs parts
flat-needs [] = refl
flat-needs (p ∷ parts) = ap (λ l. part_needs p ++ l) (flat-needs parts)

-- what a plan is given for the frames of such parts, and the frames
record AreLaidParts (c : ClassFields) (parts : List FilePart) : Type 0 where
  needs : AreNeedsOf (flat_map part_needs parts) (flat_map part_frames parts)
  entries : AreStreamEntries c (flat_map part_frames parts)
  stream : map stream_entry (flat_map part_frames parts) ≡ flat_map part_stream parts

laid-parts : {c : ClassFields} {parts : List FilePart} → AreIf c parts → AreLaidParts c parts
laid-parts {c} {parts} are =
    let kept = with-frames parts in
    let is = kept-are c parts are in
    let frames = flat-kept {f = part_frames} (λ p e. range-none _ p.from p.to e) parts in
    let needs =
    flat-kept {f = part_needs} (λ p e. ap (map need_of) (range-none _ p.from p.to e)) parts in
    let stream = flat-kept {f = part_stream} (λ p e. range-none _ p.from p.to e) parts in
    record {
      needs = grind (arith, flat_map, flat-needs, needs, parts-needs);
      entries = subst (AreStreamEntries c) frames (parts-entries c kept is);
      stream = ap (map stream_entry) (sym frames) ∙ parts-stream c kept is ∙ stream;
    }

-- ---- the inputs after the first

all-alone : (c : ClassFields) (parts : List FilePart) → AreWholeFiles c parts
    → AllFitAlone c (map part_brought parts)
all-alone c [] are = tt
all-alone c (p ∷ parts) are = (brought-alone are.0, all-alone c parts are.1)

joints-are : (c : ClassFields) (joints : List JointFrames) (parts : List FilePart)
    → AreWholeFiles c parts → AddOwn joints (map part_brought parts)
    → AreIf c (later_parts joints parts)
joints-are c [] [] are add = tt
joints-are c [] (p ∷ parts) are add = absurd add
joints-are c (j ∷ joints) [] are add = absurd add
joints-are c (j ∷ joints) (p ∷ parts) are add =
    (part-is are.0, joints-are c joints parts are.1 add.1)

joints-moved : (c : ClassFields) (joints : List JointFrames) (parts : List FilePart)
    → AreWholeFiles c parts → AddOwn joints (map part_brought parts)
    → AreMoved (flat_map part_needs (later_parts joints parts)) (needs_of (added joints))
joints-moved c [] [] are add = tt
joints-moved c [] (p ∷ parts) are add = absurd add
joints-moved c (j ∷ joints) [] are add = absurd add
joints-moved c (j ∷ joints) (p ∷ parts) are add =
    let out = left_out_count j.seam in
    let own = part_needs (part_from out p) in
    let later = flat_map part_needs (later_parts joints parts) in
    let later_frames = added joints in
    let here : AreMoved own (needs_of j.frames) = grind (arith, own-needs are.0 out) in
    subst (AreMoved (own ++ later))
    (sym (map-append (λ (f : SpliceFrame). f.need) j.frames later_frames))
    (moved-append own later (needs_of j.frames) (needs_of later_frames) here
    (joints-moved c joints parts are.1 add.1))

-- ---- the splice

module _ {first : FilePart} (parts : List FilePart) (is : IsWholeFile first.survey.class first)
    (are : AreWholeFiles first.survey.class parts) where
  abbrev class : ClassFields
  class = first.survey.class

  abbrev window : ℕ
  window = window_of class.version

  abbrev joined : SeamlessJoin
  joined = join_of_parts first parts

  abbrev splice : List SpliceFrame
  splice = splice_of (part_brought first) joined

  abbrev all : List FilePart
  all = splice_parts first parts

  -- what becomes of the inputs
  pub splice-joined : IsJoined class (part_brought first) (map part_brought parts) joined
  splice-joined = grind (arith, brought-many, class, inputs-joined, brought-alone, all-alone)

  -- at least one frame of the first input is written
  pub front-within : joined.front < length first.survey.frames
  front-within = omega (arith, splice-joined.front, brought-many is)

  front-part : IsPart class (part_from joined.front first)
  front-part = part-is is (omega (arith, is.to, front-within))

  all-are : AreIf class all
  all-are = ((λ some. front-part), joints-are class joined.joints parts are splice-joined.own)

  laid-all : AreLaidParts class all
  laid-all = laid-parts all-are

  splice-moved : AreMoved (flat_map part_needs all) (needs_of splice)
  splice-moved =
      let front : List SpliceFrame = drop joined.front (part_brought first).frames in
      let others = added joined.joints in
      let needs : needs_of splice ≡ needs_of front ++ needs_of others =
      ap needs_of splice-joined.splice ∙ map-append (λ (f : SpliceFrame). f.need) front others in
      let own = part_needs (part_from joined.front first) in
      let begins : AreMoved own (needs_of front) = grind (arith, own-needs, class, moved-same) in
      let later = flat_map part_needs (later_parts joined.joints parts) in
      subst (AreMoved (flat_map part_needs all)) (sym needs)
      (moved-append own later (needs_of front) (needs_of others) begins
      (joints-moved class joined.joints parts are splice-joined.own))

  known : AreKnown class (needs_of splice) (flat_map part_frames all)
  known =
      moved-known (flat_map part_needs all) (needs_of splice) (flat_map part_frames all)
      splice-moved laid-all.needs laid-all.entries

  -- the plan is the first list of own slots in which the splice has a layout
  pub splice-planned : IsPlan window own_choice (needs_of splice ∷ []) (splice_plan first parts)
  unfolding ArePartsFeasible
  splice-planned =
      let OfClass : List Need → Type 0 = λ part. AreNeedsOfClass class part in
      let InOrder : List Need → Type 0 = λ part. All (ChoosesInOrder own_choice) part in
      (least-plan-is class (splice_plan first parts)
      (All-cons OfClass (needs_of splice) [] known.classes (All-nil OfClass))
      (All-cons InOrder (needs_of splice) [] known.order (All-nil InOrder))
      (splice-joined.fits, tt)).1 refl

  -- the splice fits in the slots of its plan
  pub splice-fitting : IsFittingPlan window (needs_of splice) (splice_plan first parts)
  splice-fitting =
      subst (λ (needs : List Need). IsFittingPlan window needs (splice_plan first parts))
      (append-nil (needs_of splice))
      (parts-fitting window own_choice own_slots
      (known.headers, tt) splice-planned)

  some-frames : 0 < length (flat_map part_frames all)
  some-frames =
      let part : FilePart = part_from joined.front first in
      let later = flat_map part_frames (later_parts joined.joints parts) in
      omega (arith, part-some front-part, length-append (part_frames part) later)

  given-length : (needs : List Need) (fs : List Frame) → AreGiven needs fs
      → length fs ≡ length needs
  given-length [] [] given = refl
  given-length [] (f ∷ fs) given = absurd given
  given-length (need ∷ needs) [] given = absurd given
  given-length (need ∷ needs) (f ∷ fs) given = omega (arith, given-length needs fs given.1)

  -- as many frames are planned as are written, at least one
  pub splice-some : 0 < length (needs_of splice)
  splice-some =
      let same = given-length (needs_of splice) (flat_map part_frames all) known.given in
      omega (arith, some-frames, same)

  -- the stream is as long as the splice
  pub splice-many : length (flat_map part_stream all) ≡ length (needs_of splice)
  splice-many =
      ap length (sym laid-all.stream) ∙ length-map (flat_map part_frames all) stream_entry
      ∙ given-length (needs_of splice) (flat_map part_frames all) known.given

  -- the frames can be laid in these slots, and the stream stays the same
  pub splice-laid : AreFramesOfStream class (seamless_frames first parts)
      (stream_with_lead_ins (splice_plan first parts) (flat_map part_stream all))
  splice-laid =
      let fs = flat_map part_frames all in
      let plan : List Placed = splice_plan first parts in
      let fits = splice-fitting in
      let laid = laid-from (needs_of splice) fs plan laid-all.entries known.given
      fits.slots fits.fits (omega arith) (omega arith) in
      record {
        some = some-from window 0 (needs_of splice) fs plan known.given fits.fits some-frames;
        entries = laid.entries;
        fit = laid.fit;
        stream_is = grind (arith, laid.stream_is, laid-all.stream);
      }
