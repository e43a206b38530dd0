-- The frames of a stream have a layout without a lead-in: the one in which they were drawn.
use Rattle.std.proofs.Common.{append-nil, arith, Contains, false, length, List, map, None, Option}
use Rattle.std.proofs.Common.{refl, Some, subst, suc, zero, ℕ, [], ◌+◌, ◌∷◌, ◌≡◌}
use Rattle.std.proofs.{Math.Path.transport, lemmas.List.Elements.{All-cons, All-nil}}
use Rattle.std.specs.List.{All}
use Rattle.drill.proofs.DrillLemmas.{bytes-is, ended-next, first-begin, from_on}
use Rattle.drill.proofs.MakingLemmas.{area-is, before-ended, length-payload, payload-within}
use Rattle.drill.specs.Drill.{area_start, data_begin, data_start, drawn_side, drill_frame_at}
use Rattle.drill.specs.Drill.{drill_frames, drill_header, drill_state_at}
use Rattle.drill.specs.StreamLaws.{drill_needs, StreamsNeedNoLeadIn}
use Rattle.frame_header.specs.{Fields.{HeaderFields, SlotFields}, Tables.class_of}
use Rattle.laying.specs.{LaidFiles.{frame_length, rows_from}, Needs.need_of}
use Rattle.side_info.specs.Side.{payload_bytes}
use Rattle.slot_plan.{proofs.AreaLemmas.Contains-area, specs.Layouts.{HasLayout, IsDataLayout}}
use Rattle.slot_plan.specs.Lists.{AreChosenAreas, CanBeLaid, frames_with_areas, OpenFrame}
use Rattle.slot_plan.specs.Parts.{all_items, AreLeadIns, header_areas, IsLeadIn, need_item}
use Rattle.slot_plan.specs.{Parts.{open_frame, part_items}, Plans.{AreItemSlots, IsPlan}}
use Rattle.slot_plan.specs.declared.needs.{Need.Need, Placed.Placed}

-- the needs of the frames from one on, wherever they are
abbrev needs_on : ℕ → ℕ → ℕ → ℕ → List Need
needs_on seed at i count = map need_of (rows_from at (from_on seed i count))

-- where the main data of these frames begin
abbrev starts_on : ℕ → ℕ → ℕ → List ℕ
starts_on seed i zero = []
starts_on seed i (suc count) = data_start i (drill_state_at seed i) ∷ starts_on seed (i + 1) count

-- the areas of these frames
abbrev areas_on : ℕ → List ℕ
areas_on zero = []
areas_on (suc count) = 381 ∷ areas_on count

-- the bytes that a frame needs are the bytes of its main data
need-bytes : (seed i : ℕ) → payload_bytes (drawn_side (data_begin i (drill_state_at seed i))
    (drill_state_at seed i).state)
    ≡ length (drill_frame_at seed i).payload
need-bytes seed i = grind (arith, bytes-is, length-payload)

module _ (choices : HeaderFields → List SlotFields)
    (own : Contains (choices drill_header) drill_header.slot) where
  abbrev opens : List Need → List OpenFrame
  opens needs = map open_frame (map (need_item choices) needs)

  own-area : Contains (header_areas choices drill_header) 381
  own-area = subst (Contains (header_areas choices drill_header)) area-is
      (Contains-area (class_of drill_header) false (choices drill_header) own)

  chosen : (seed at i count : ℕ)
      → AreChosenAreas (opens (needs_on seed at i count)) (areas_on count)
  unfolding AreChosenAreas
  chosen seed at i zero = tt
  chosen seed at i (suc count) =
      (own-area, chosen seed (at + frame_length (drill_frame_at seed i)) (i + 1) count)

  layout : (seed at i count : ℕ) → IsDataLayout 511 (drill_state_at seed i).ended (area_start i)
      (frames_with_areas (opens (needs_on seed at i count)) (areas_on count))
      (starts_on seed i count)
  unfolding IsDataLayout frames_with_areas
  layout seed at i zero = tt
  layout seed at i (suc count) =
      let b = drill_state_at seed i in
      let ended = before-ended seed i in
      let bytes = need-bytes seed i in
      let one : suc i ≡ i + 1 = omega arith in
      let later = at + frame_length (drill_frame_at seed i) in
      let next : (drill_state_at seed (suc i)).ended
      ≡ data_start i b + payload_bytes (drawn_side (data_begin i b) b.state) =
      omega (arith, ended-next seed i, bytes) in
      let place : area_start (suc i) ≡ area_start i + 381 = omega arith in (
        omega arith,
        omega arith,
        omega (arith, ended),
        omega (arith, ended, bytes, payload-within (data_begin i b) b.state),
        transport (λ j. IsDataLayout 511 (next j) (place j)
            (frames_with_areas (opens (needs_on seed later (one j) count)) (areas_on count))
            (starts_on seed (one j) count)) (layout seed later (suc i) count),
      )

  -- the layout is among the layouts for all lists of areas
  can-be : (seed count : ℕ)
      → CanBeLaid 511 (map open_frame (part_items choices (drill_needs seed count) None))
  unfolding CanBeLaid HasLayout part_items drill_frames
  can-be seed count = (
    areas_on count,
    chosen seed 0 0 count,
    (
      starts_on seed 0 count,
      subst (λ n. IsDataLayout 511 n 0
          (frames_with_areas (opens (needs_on seed 0 0 count)) (areas_on
          count)) (starts_on seed 0 count)) (first-begin seed) (layout seed 0 0 count),
    ),
  )

  -- if there is such a layout, there is no lead-in
  none-alone : (part : List Need) (lead_ins : List (Option SlotFields))
      → CanBeLaid 511 (map open_frame (part_items choices part None))
      → AreLeadIns 511 choices (part ∷ []) lead_ins → lead_ins ≡ None ∷ []
  unfolding AreLeadIns IsLeadIn
  none-alone part [] laid are = absurd are
  none-alone part (None ∷ []) laid are = refl
  none-alone part (None ∷ lead_in ∷ lead_ins) laid are = absurd are.1
  none-alone [] (Some slot ∷ lead_ins) laid are = absurd are.0
  none-alone (first ∷ part) (Some slot ∷ lead_ins) laid are = absurd (are.0.0 laid)

  none-placed : (needs : List Need) (placed : List Placed)
      → AreItemSlots (map (need_item choices) needs) placed → All (λ p. p.lead_in ≡ false) placed
  unfolding AreItemSlots
  none-placed [] [] are = All-nil (λ p. p.lead_in ≡ false)
  none-placed (need ∷ needs) (p ∷ placed) are =
      All-cons (λ q. q.lead_in ≡ false) p placed are.0 (none-placed needs placed are.2)
  none-placed _ _ are = absurd are

  items-alone : (part : List Need)
      → all_items choices (part ∷ []) (None ∷ []) ≡ map (need_item choices) part
  unfolding all_items part_items
  items-alone part = append-nil (map (need_item choices) part)

  -- no place of the plan is a lead-in
  pub no-lead_in : (seed count : ℕ) {placed : List Placed}
      → IsPlan 511 choices (drill_needs seed count ∷ []) placed
      → All (λ p. p.lead_in ≡ false) placed
  no-lead_in seed count plan = grind (arith, none-alone, can-be, items-alone, none-placed)

-- a drawn stream needs no lead-in
pub streams-need_no_lead_in : StreamsNeedNoLeadIn
streams-need_no_lead_in seed count choices placed own plan = no-lead_in choices own seed count plan
