-- The lead-ins and frames of a plan, part by part.
use Rattle.std.proofs.Common.{ap, append-nil, arith, Bool, length, List, map, None, Option, refl}
use Rattle.std.proofs.Common.{Some, subst, sym, true, ℕ, [], ◌++◌, ◌∙◌, ◌∷◌, ◌≡◌}
use Rattle.std.{proofs.lemmas.List.length-map, specs.Prelude.{flat_map, ◌<◌}}
use Rattle.chosen_streams.specs.{Exact.{IsAtMostALeadIn, IsExactly}, Laws.PlannedStreamsAreExact}
use Rattle.frame_header.specs.Fields.{ClassFields, HeaderFields, SlotFields}
use Rattle.frame_writer.specs.Frames.{Frame}
use Rattle.laying.proofs.HoldLemmas.{part-needs, part-some, part-stream}
use Rattle.laying.proofs.PlannedFrameLemmas.{AreNeedsOf, one_in_stream, stream-cons}
use Rattle.laying.specs.LaidFiles.{stream_entry}
use Rattle.laying.specs.Relaid.{AreParts, FilePart, IsPart, part_frames, part_needs, part_stream}
use Rattle.laying.specs.Relaid.{rest_behind, silent_lead_in, stream_with_lead_ins}
use Rattle.slot_plan.specs.Parts.{all_items, AreLeadIns, need_item, part_items, PlanItem}
use Rattle.slot_plan.specs.{Plans.AreItemSlots, declared.needs.{Need.Need, Placed.Placed}}
use Rattle.sync_survey.specs.MainData.{StreamFrame}

-- ---- as many frames as are planned

needs-length : (needs : List Need) (fs : List Frame) → AreNeedsOf needs fs
    → length fs ≡ length needs
needs-length [] [] are = refl
needs-length [] (f ∷ fs) are = absurd are
needs-length (need ∷ needs) [] are = absurd are
needs-length (need ∷ needs) (f ∷ fs) are = omega (arith, needs-length needs fs are.2)

-- a part's stream has as many frames as were planned, and at least one
pub record IsSized (needs : List Need) (stream : List StreamFrame) : Type 0 where
  pub some : 0 < length needs
  pub same : length stream ≡ length needs

-- the frames of a part need the bytes of their main data
pub part-sized : {c : ClassFields} {p : FilePart} → IsPart c p
    → IsSized (part_needs p) (part_stream p)
part-sized {c} {p} is =
    let needs = needs-length (part_needs p) (part_frames p) (part-needs is) in
    let stream : length (part_stream p) ≡ length (part_frames p) =
    grind (arith, part-stream is, length-map (part_frames p) stream_entry) in
    record { some = omega (arith, needs, part-some is); same = stream ∙ needs }

-- ---- the stream from one place of the plan on

-- one place that is a lead-in, or isn't
pub one-on : {b : Bool} (p : Placed) (placed : List Placed) (f : StreamFrame)
    (fs : List StreamFrame) → p.lead_in ≡ b → stream_with_lead_ins (p ∷ placed) (f ∷ fs)
    ≡ one_in_stream b f ∷ stream_with_lead_ins placed (rest_behind b f fs)
one-on p placed f fs is = grind (arith, stream-cons, one_in_stream)

-- frames of a plan without lead-ins are as they are
pub frames-on : (choices : HeaderFields → List SlotFields) (items : List PlanItem)
    (needs : List Need)
    (fs tail : List StreamFrame) (placed : List Placed) → length fs ≡ length needs
    → AreItemSlots (map (need_item choices) needs ++ items) placed → (left : List Placed)
    × (stream_with_lead_ins placed (fs ++ tail) ≡ fs ++ stream_with_lead_ins left tail)
    × AreItemSlots items left
unfolding AreItemSlots
frames-on choices items [] [] tail placed same for_items = (placed, refl, for_items)
frames-on choices items [] (f ∷ fs) tail placed same for_items = absurd (omega (arith, same))
frames-on choices items (need ∷ needs) [] tail placed same for_items = absurd (omega (arith, same))
frames-on choices items (need ∷ needs) (f ∷ fs) tail [] same for_items = absurd for_items
frames-on choices items (need ∷ needs) (f ∷ fs) tail (p ∷ placed) same for_items =
    let on = frames-on choices items needs fs tail placed (omega (arith, same)) for_items.2 in (
      on.0,
      one-on p placed f (fs ++ tail) for_items.0 ∙ ap (λ (l : List StreamFrame). f ∷ l) on.1,
      on.2,
    )

-- a part is at most one lead-in and then its frames
pub part-on : (choices : HeaderFields → List SlotFields) (items : List PlanItem) (part : List Need)
    (lead_in : Option SlotFields) (fs tail : List StreamFrame) (placed : List Placed)
    → IsSized part fs → AreItemSlots (part_items choices part lead_in ++ items) placed
    → (lead : List StreamFrame) × (left : List Placed) × IsAtMostALeadIn lead fs ×
    (stream_with_lead_ins placed (fs ++ tail) ≡ lead ++ fs ++ stream_with_lead_ins left tail)
    × AreItemSlots items left
unfolding AreItemSlots part_items
part-on choices items part None fs tail placed sized for_items =
    let on = frames-on choices items part fs tail placed sized.same for_items in
    ([], on.0, tt, on.1, on.2)
part-on choices items [] (Some slot) fs tail placed sized for_items = grind arith
part-on choices items (first ∷ part) (Some slot) [] tail placed sized for_items = grind arith
part-on choices items (first ∷ part) (Some slot) (f ∷ fs) tail [] sized for_items = absurd for_items
part-on choices items (first ∷ part) (Some slot) (f ∷ fs) tail (p ∷ placed) sized for_items =
    let on = frames-on choices items (first ∷ part) (f ∷ fs) tail placed sized.same for_items.2 in (
      silent_lead_in f ∷ [],
      on.0,
      refl,
      one-on p placed f (fs ++ tail) for_items.0
          ∙ ap (λ (l : List StreamFrame). silent_lead_in f ∷ l) on.1,
      on.2,
    )

-- whatever the places, a stream of no frames is none
pub no-frames : (placed : List Placed) → stream_with_lead_ins placed [] ≡ []
unfolding stream_with_lead_ins
no-frames placed = refl

parts-on : (window : ℕ) (c : ClassFields) (choices : HeaderFields → List SlotFields)
    (parts : List FilePart) (lead_ins : List (Option SlotFields)) (placed : List Placed)
    → AreParts c parts → AreLeadIns window choices (map part_needs parts) lead_ins
    → AreItemSlots (all_items choices (map part_needs parts) lead_ins) placed
    → IsExactly (map part_stream parts) (stream_with_lead_ins placed (flat_map part_stream parts))
unfolding AreLeadIns all_items IsExactly
parts-on window c choices [] lead_ins placed are alone for_items = no-frames placed
parts-on window c choices (p ∷ parts) [] placed are alone for_items = absurd alone
parts-on window c choices (p ∷ parts) (lead_in ∷ lead_ins) placed are alone for_items =
    let on =
    part-on choices (all_items choices (map part_needs parts) lead_ins) (part_needs p) lead_in
    (part_stream p) (flat_map part_stream parts) placed (part-sized are.0) for_items in (
      on.0,
      stream_with_lead_ins on.1 (flat_map part_stream parts),
      on.2,
      on.3,
      parts-on window c choices parts lead_ins on.1 are.1 alone.1 on.4,
    )

-- the stream of planned frames is exactly these, after at most one lead-in a part
pub planned-exact : PlannedStreamsAreExact
planned-exact c choices parts placed are plan = grind (arith, parts-on)

-- ---- one part, whatever its frames choose among

-- all frames of a plan without a lead-in
own-on : (choices : HeaderFields → List SlotFields) (needs : List Need) (fs : List StreamFrame)
    (placed : List Placed) → length fs ≡ length needs
    → AreItemSlots (map (need_item choices) needs) placed
    → (rest : List StreamFrame) × (stream_with_lead_ins placed fs ≡ fs ++ rest) × (rest ≡ [])
own-on choices needs fs placed same for_items =
    let items = map (need_item choices) needs in
    let on = frames-on choices [] needs fs [] placed same
    (subst (λ (l : List PlanItem). AreItemSlots l placed) (sym (append-nil items)) for_items) in (
      stream_with_lead_ins on.0 [],
      ap (stream_with_lead_ins placed) (sym (append-nil fs)) ∙ on.1,
      no-frames on.0,
    )

module _ (choices : HeaderFields → List SlotFields) (needs : List Need) where
  -- the stream of places without a lead-in is exactly the frames
  pub own-exact : {fs : List StreamFrame} (placed : List Placed) → IsSized needs fs
      → AreItemSlots (map (need_item choices) needs) placed
      → IsExactly (fs ∷ []) (stream_with_lead_ins placed fs)
  unfolding IsExactly
  own-exact placed sized for_items = grind (arith, own-on)

  -- the stream of places that begin with a lead-in is exactly the frames, after that lead-in
  pub led-exact : (lead : PlanItem) → lead.lead_in ≡ true → (fs : List StreamFrame)
      (placed : List Placed) → IsSized needs fs
      → AreItemSlots (lead ∷ map (need_item choices) needs) placed
      → IsExactly (fs ∷ []) (stream_with_lead_ins placed fs)
  unfolding AreItemSlots IsExactly
  led-exact lead is [] placed sized for_items = absurd (omega (arith, sized.some, sized.same))
  led-exact lead is (f ∷ fs) [] sized for_items = absurd for_items
  led-exact lead is (f ∷ fs) (p ∷ placed) sized for_items =
      let on = own-on choices needs (f ∷ fs) placed sized.same for_items.2 in (
        silent_lead_in f ∷ [],
        on.0,
        refl,
        one-on p placed f fs (for_items.0 ∙ is)
            ∙ ap (λ (l : List StreamFrame). silent_lead_in f ∷ l) on.1,
        on.2,
      )
