-- The stream of what stays: the lead-ins among items as frames of a stream,
-- and that frames with the same stream in the same places are the same.
use Rattle.std.proofs.Common.{ap, ap₂, arith, Bool, false, inl, inr, length, List, map, refl, sym}
use Rattle.std.proofs.Common.{true, ℕ, [], ◌++◌, ◌∙◌, ◌∷◌, ◌≡◌, ◌≤◌, ◌⊎◌}
use Rattle.frame_header.specs.Fields.{ClassFields, HeaderFields, IsClass, SlotFields}
use Rattle.frame_writer.specs.Frames.{Frame}
use Rattle.laying.proofs.PlannedFrameLemmas.{one, one_in_stream, stream-cons}
use Rattle.laying.specs.LaidFiles.{AreStreamEntries, stream_entry}
use Rattle.laying.specs.Relaid.{relaid_frames, rest_behind, silent_lead_in, stream_with_lead_ins}
use Rattle.remove_edits.{proofs.MarkLemmas.AreFramePlaces, specs.Removed.{item_places, place_as}}
use Rattle.seam_laws.proofs.BareFrameLemmas.{bare, bare-same}
use Rattle.seam_plan.specs.PartSplices.{frame_item, IsFrameFirst, lead_in_splice_item, SpliceItem}
use Rattle.slot_plan.specs.declared.needs.{Need.Need, Placed.Placed}
use Rattle.sync_survey.specs.MainData.{StreamFrame}

-- ---- frames by their stream and their places

-- the slot of a frame, and where its main data begin
abbrev pub frame_place : Frame → SlotFields × ℕ
frame_place f = (f.kept.header.slot, f.kept.side.main_data_begin)

-- the slot of a place, and where the main data of what is there begin
abbrev pub place_of : Placed → SlotFields × ℕ
place_of p = (p.slot, p.begin)

-- a bare frame in a place
abbrev frame_at_place : Frame → SlotFields × ℕ → Frame
frame_at_place f place = record {
  kept = record {
    header = record f.kept.header { slot = place.0 };
    side = record f.kept.side { main_data_begin = place.1 };
  };
  payload = f.payload;
}

bare-placed : (fs gs : List Frame) → map bare fs ≡ map bare gs
    → map frame_place fs ≡ map frame_place gs → fs ≡ gs
bare-placed [] [] same places = refl
bare-placed [] (g ∷ gs) same places = absurd cc
bare-placed (f ∷ fs) [] same places = absurd cc
bare-placed (f ∷ fs) (g ∷ gs) same places =
    let here : bare f ≡ bare g = cc in
    let place : frame_place f ≡ frame_place g = cc in
    let more : map bare fs ≡ map bare gs = cc in
    let rest : map frame_place fs ≡ map frame_place gs = cc in
    ap₂ ◌∷◌ (ap₂ frame_at_place here place) (bare-placed fs gs more rest)

-- frames that are the same in a stream and in their places are the same
pub stream-placed : (c : ClassFields) → IsClass c → {fs gs : List Frame} → AreStreamEntries c fs
    → AreStreamEntries c gs → (map stream_entry fs ≡ map stream_entry gs)
    × (map frame_place fs ≡ map frame_place gs) → fs ≡ gs
stream-placed c known {fs} {gs} first second same =
    bare-placed fs gs (bare-same c known fs gs first second same.0) same.1

one-place : (b : Bool) (p : Placed) (f : Frame) → frame_place (one b p f) ≡ place_of p
one-place true p f = refl
one-place false p f = refl

-- frames of a plan are in its places, if there is one for each place
pub relaid-places : (fs : List Frame) (placed : List Placed)
    → length (relaid_frames fs placed) ≡ length placed
    → map frame_place (relaid_frames fs placed) ≡ map place_of placed
unfolding relaid_frames
relaid-places [] [] many = refl
relaid-places [] (p ∷ placed) many = absurd (omega (arith, many))
relaid-places (f ∷ fs) [] many = refl
relaid-places (f ∷ fs) (p ∷ placed) many =
    ap₂ ◌∷◌ (one-place p.lead_in p f)
    (relaid-places (rest_behind p.lead_in f fs) placed (omega (arith, many)))

-- ---- the places of items

as-place : (b : Bool) (p : Placed) → place_of (place_as b p) ≡ place_of p
as-place true p = refl
as-place false p = refl

-- to mark the lead-ins among places moves none
pub marked-places : (items : List SpliceItem) (placed : List Placed) → length placed ≡ length items
    → map place_of (item_places items placed) ≡ map place_of placed
unfolding item_places
marked-places [] placed many = refl
marked-places (item ∷ items) [] many = refl
marked-places (item ∷ items) (p ∷ placed) many =
    ap₂ ◌∷◌ (as-place item.lead_in p) (marked-places items placed (omega (arith, many)))

-- ---- the stream of items

-- these frames of a stream, with those of the lead-ins among the items
unfoldable pub item_stream : List SpliceItem → List StreamFrame → List StreamFrame
item_stream [] stream = []
item_stream (item ∷ items) [] = []
item_stream (item ∷ items) (f ∷ stream) =
    one_in_stream item.lead_in f ∷ item_stream items (rest_behind item.lead_in f stream)

-- frames first, and then other items
pub frames-streamed : (needs : List Need) (items : List SpliceItem) (own rest : List StreamFrame)
    → length needs ≡ length own
    → item_stream (map frame_item needs ++ items) (own ++ rest) ≡ own ++ item_stream items rest
unfolding item_stream
frames-streamed [] items [] rest many = refl
frames-streamed [] items (f ∷ own) rest many = absurd (omega (arith, many))
frames-streamed (n ∷ needs) items [] rest many = absurd (omega (arith, many))
frames-streamed (n ∷ needs) items (f ∷ own) rest many =
    ap (f ∷◌) (frames-streamed needs items own rest (omega (arith, many)))

-- a lead-in first, and then its part and other items
pub lead-streamed : (header : HeaderFields) (needs : List Need) (items : List SpliceItem)
    {f : StreamFrame} (own rest : List StreamFrame) → length needs ≡ length (f ∷ own)
    → item_stream ((lead_in_splice_item header ∷ map frame_item needs) ++ items) ((f ∷ own) ++ rest)
    ≡ (silent_lead_in f ∷ f ∷ own) ++ item_stream items rest
unfolding item_stream
lead-streamed header needs items {f} own rest many =
    ap (silent_lead_in f ∷◌) (frames-streamed needs items (f ∷ own) rest many)

-- ---- the stream in the places of a plan

items-few : (items : List SpliceItem) (stream : List StreamFrame)
    → length (item_stream items stream) ≤ length items
unfolding item_stream
items-few [] stream = omega arith
items-few (item ∷ items) [] = omega arith
items-few (item ∷ items) (f ∷ stream) =
    omega (arith, items-few items (rest_behind item.lead_in f stream))

plain-stream : (placed : List Placed) (stream : List StreamFrame) → AreFramePlaces placed
    → length stream ≤ length placed → stream_with_lead_ins placed stream ≡ stream
unfolding stream_with_lead_ins
plain-stream placed [] plain few = refl
plain-stream [] (f ∷ stream) plain few = absurd (omega (arith, few))
plain-stream (p ∷ placed) (f ∷ stream) plain few =
    stream-cons p placed f stream
    ∙ ap (λ b. one_in_stream b f ∷ stream_with_lead_ins placed (rest_behind b f stream)) plain.0
    ∙ ap (f ∷◌) (plain-stream placed stream plain.1 (omega (arith, few)))

as-lead : (b : Bool) (p : Placed) → p.lead_in ≡ false → (place_as b p).lead_in ≡ b
as-lead true p plain = refl
as-lead false p plain = plain

marked-stream : (items : List SpliceItem) (placed : List Placed) (stream : List StreamFrame)
    → AreFramePlaces placed → length placed ≡ length items
    → stream_with_lead_ins (item_places items placed) stream ≡ item_stream items stream
unfolding stream_with_lead_ins item_places item_stream
marked-stream [] [] [] plain many = refl
marked-stream [] [] (f ∷ stream) plain many = refl
marked-stream [] (p ∷ placed) stream plain many = absurd (omega (arith, many))
marked-stream (item ∷ items) [] stream plain many = absurd (omega (arith, many))
marked-stream (item ∷ items) (p ∷ placed) [] plain many = refl
marked-stream (item ∷ items) (p ∷ placed) (f ∷ stream) plain many =
    let b = item.lead_in in
    let marked = item_places items placed in
    stream-cons (place_as b p) marked f stream
    ∙ ap (λ b. one_in_stream b f ∷ stream_with_lead_ins marked (rest_behind b f stream))
    (as-lead b p plain.0)
    ∙ ap (one_in_stream b f ∷◌)
    (marked-stream items placed (rest_behind b f stream) plain.1 (omega (arith, many)))

module _ (items : List SpliceItem) (frames : List Placed) (plain : AreFramePlaces frames)
    (many : length frames ≡ length items) where
  both : (stream : List StreamFrame) → stream_with_lead_ins frames (item_stream items stream)
      ≡ stream_with_lead_ins (item_places items frames) stream
  both stream =
      plain-stream frames (item_stream items stream) plain
      (omega (arith, items-few items stream, many))
      ∙ sym (marked-stream items frames stream plain many)

  lead-first : (p : Placed) (placed : List Placed) (f : StreamFrame) (stream : List StreamFrame)
      → p.lead_in ≡ true → stream_with_lead_ins (p ∷ placed) (f ∷ stream)
      ≡ silent_lead_in f ∷ stream_with_lead_ins placed (f ∷ stream)
  lead-first p placed f stream lead =
      stream-cons p placed f stream
      ∙ ap (λ b. one_in_stream b f ∷ stream_with_lead_ins placed (rest_behind b f stream)) lead

  first-frame : (is : List SpliceItem) (f : StreamFrame) (stream : List StreamFrame)
      → IsFrameFirst is → (more : List StreamFrame) × (item_stream is (f ∷ stream) ≡ f ∷ more)
  unfolding item_stream
  first-frame [] f stream begins = absurd begins
  first-frame (item ∷ is) f stream begins = (
    item_stream is stream,
    ap (λ b. one_in_stream b f ∷ item_stream is (rest_behind b f stream)) begins,
  )

  no-stream : (is : List SpliceItem) → item_stream is [] ≡ []
  unfolding item_stream
  no-stream [] = refl
  no-stream (item ∷ is) = refl

  led-streamed : (p : Placed) (stream : List StreamFrame) → p.lead_in ≡ true
      → IsFrameFirst items
      → stream_with_lead_ins (p ∷ frames) (item_stream items stream)
      ≡ stream_with_lead_ins (p ∷ item_places items frames) stream
  unfolding stream_with_lead_ins
  led-streamed p [] lead begins = ap (stream_with_lead_ins (p ∷ frames)) (no-stream items)
  led-streamed p (f ∷ stream) lead begins =
      let first = first-frame items f stream begins in
      ap (stream_with_lead_ins (p ∷ frames)) first.1
      ∙ lead-first p frames f first.0 lead
      ∙ ap (silent_lead_in f ∷◌)
      (ap (stream_with_lead_ins frames) (sym first.1) ∙ both (f ∷ stream))
      ∙ sym (lead-first p (item_places items frames) f stream lead)

  -- the frames of a plan whose lead-ins are marked are
  -- those of the same plan with frames in their place
  pub items-streamed : {front : List Placed} (stream : List StreamFrame)
      → (front ≡ []) ⊎ ((p : Placed) × (front ≡ p ∷ []) × (p.lead_in ≡ true))
      → IsFrameFirst items
      → stream_with_lead_ins (front ++ frames) (item_stream items stream)
      ≡ stream_with_lead_ins (front ++ item_places items frames) stream
  items-streamed stream (inl none) begins = rw none (both stream)
  items-streamed stream (inr lead) begins = rw lead.1 (led-streamed lead.0 stream lead.2 begins)
