-- The plan of the parts that stay, part by part.
use Rattle.std.proofs.Common.{All, ap, append-nil, append_assoc, ap₂, arith, drop, length, List}
use Rattle.std.proofs.Common.{map, None, Option, refl, Some, subst, suc, sym, take, true, ℕ, []}
use Rattle.std.proofs.Common.{◌++◌, ◌-◌, ◌<◌, ◌∙◌, ◌∷◌, ◌≡◌, ◌≤◌, ◌⊎◌}
use Rattle.std.proofs.lemmas.List.{length-append, length-map, map-append}
use Rattle.cut_edits.proofs.SpanLemmas.{for_length}
use Rattle.frame_header.specs.{Fields.{IsClass, SlotFields}, Tables.window_of}
use Rattle.joined_inputs.proofs.SplicePlanLemmas.{splice-planned}
use Rattle.laying.specs.NeedsFit.{own_choice}
use Rattle.remove_edits.proofs.CommandLemmas.{left-parts}
use Rattle.remove_edits.proofs.ItemLemmas.{left-more, left-one, needs-append}
use Rattle.remove_edits.proofs.RemovalLemmas.{all-needs, class-known, first-there-is, splice-needs}
use Rattle.remove_edits.specs.Ready.{ArePartsLeft}
use Rattle.remove_edits.specs.Removed.{item_places, items_left, part_needs_of, places_before}
use Rattle.remove_edits.specs.Removed.{plan_of_items}
use Rattle.remove_laws.proofs.OwnPlaceLemmas.{AreInTwo, in-two, marks-append, own-marked}
use Rattle.remove_laws.proofs.OwnPlaceLemmas.{part-marked}
use Rattle.remove_laws.specs.SlotLaws.{AreJoinedPlaces, AreLaterPlaces, AreLeadInPlaces}
use Rattle.remove_laws.specs.SlotLaws.{AreLedPlaces, FramesKeepTheirSlots, KeepTheirSlots}
use Rattle.remove_laws.specs.SlotLaws.{needs_written}
use Rattle.seam_plan.proofs.PartJointLemmas.{needs-items}
use Rattle.seam_plan.specs.PartSplices.{frame_item, IsPartNeeds, item_needs, items_behind}
use Rattle.seam_plan.specs.PartSplices.{splice_items, splice_part_items, SpliceItem}
use Rattle.seam_plan.specs.declared.stretches.Part.{Part}
use Rattle.slot_plan.specs.Parts.{all_items, AreLeadIns, need_item, part_items as planned_items}
use Rattle.slot_plan.specs.{Plans.{AreItemSlots, IsPlan}, declared.needs.{Need.Need, Placed.Placed}}
use Rattle.sync_survey.specs.Faults.{SurveyFields}

-- ---- the plan of a splice

-- the places of a splice: at most one lead-in, and then a place of its own slot for each need
record HasOwnPlaces (needs : List Need) (placed : List Placed) (at : ℕ) : Type 0 where
  lead_in : AreLeadInPlaces (take at placed)
  own : AreItemSlots (map (need_item own_choice) needs) (drop at placed)

-- how many places a plan has before those of these needs
abbrev before_needs : List Need → List Placed → ℕ
before_needs needs placed = length placed - length needs

own-alone : {needs : List Need} {placed : List Placed}
    → AreItemSlots (map (need_item own_choice) needs) placed
    → HasOwnPlaces needs placed (before_needs needs placed)
own-alone {needs} {placed} are =
    let none : before_needs needs placed ≡ 0 = omega (
      arith,
      for_length (map (need_item own_choice) needs) placed are,
      length-map needs (need_item own_choice),
    ) in
    subst (HasOwnPlaces needs placed) (sym none) (record { lead_in = tt; own = are })

own-led : {needs : List Need} {p : Placed} {placed : List Placed} → p.lead_in ≡ true
    → AreItemSlots (map (need_item own_choice) needs) placed
    → HasOwnPlaces needs (p ∷ placed) (before_needs needs (p ∷ placed))
own-led {needs} {p} {placed} lead are =
    let one : before_needs needs (p ∷ placed) ≡ 1 = omega (
      arith,
      for_length (map (need_item own_choice) needs) placed are,
      length-map needs (need_item own_choice),
    ) in
    subst (HasOwnPlaces needs (p ∷ placed)) (sym one) (record { lead_in = lead; own = are })

own-by : (needs : List Need) (lead : Option SlotFields) (placed : List Placed)
    → 0 < length needs → AreItemSlots (planned_items own_choice needs lead ++ []) placed
    → HasOwnPlaces needs placed (before_needs needs placed)
unfolding planned_items AreItemSlots
own-by needs None placed some are =
    own-alone
    (subst (λ l. AreItemSlots l placed) (append-nil (map (need_item own_choice) needs)) are)
own-by [] (Some slot) placed some are = absurd (omega (arith, some))
own-by (n ∷ needs) (Some slot) [] some are = absurd are
own-by (n ∷ needs) (Some slot) (p ∷ placed) some are =
    own-led are.0
    (subst (λ l. AreItemSlots l placed) (append-nil (map (need_item own_choice) (n ∷ needs)))
    are.2)

own-places : (window : ℕ) {needs : List Need} (leads : List (Option SlotFields))
    {placed : List Placed} → 0 < length needs → AreLeadIns window own_choice (needs ∷ []) leads
    → AreItemSlots (all_items own_choice (needs ∷ []) leads) placed
    → HasOwnPlaces needs placed (before_needs needs placed)
unfolding AreLeadIns all_items
own-places window [] some leads are = absurd leads
own-places window {needs} (lead ∷ leads) {placed} some both are = own-by needs lead placed some are

-- ---- the parts

module _ (s : SurveyFields) (known : IsClass s.class) where
  abbrev window : ℕ
  window = window_of s.class.version

  abbrev slots : List SpliceItem → List Placed → Type 0
  slots items placed = AreItemSlots (map (need_item own_choice) (item_needs items)) placed

  abbrev needs_in : List Part → List (List Need)
  needs_in parts = map (part_needs_of s) parts

  two-slots : (xs ys : List SpliceItem) (placed : List Placed) → slots (xs ++ ys) placed
      → AreItemSlots (map (need_item own_choice) (item_needs xs)
      ++ map (need_item own_choice) (item_needs ys)) placed
  two-slots xs ys placed are =
      subst (λ l. AreItemSlots l placed)
      (ap (map (need_item own_choice)) (needs-append xs ys)
      ∙ map-append (need_item own_choice) (item_needs xs) (item_needs ys))
      are

  no-places : (placed : List Placed) → AreItemSlots [] placed → placed ≡ []
  unfolding AreItemSlots
  no-places [] are = refl
  no-places (p ∷ placed) are = absurd are

  later-marked : (before parts : List Part) {splice : List Need} (placed : List Placed)
      → 1 ≤ length before → needs_written s before ≡ splice
      → All (IsPartNeeds s.class) (needs_in parts)
      → slots (items_behind window splice (needs_in parts)) placed
      → AreLaterPlaces s before parts
      (item_places (items_behind window splice (needs_in parts)) placed)
  unfolding items_behind item_places
  later-marked before [] placed some is all are = no-places placed are
  later-marked before (part ∷ parts) {splice} placed some is all are =
      let needs = part_needs_of s part in
      let items = splice_part_items window splice needs in
      let later = items_behind window (splice ++ item_needs items) (needs_in parts) in
      let two = in-two (map (need_item own_choice) (item_needs items)) placed
      (two-slots items later placed are) in
      let long : length two.first ≡ length items =
      two.long ∙ length-map (item_needs items) (need_item own_choice)
      ∙ length-map items (λ (i : SpliceItem). i.need) in
      let here = part-marked splice needs two.first known (all 0 needs (omega arith))
      two.firsts in
      let next : needs_written s (before ++ part ∷ []) ≡ splice ++ item_needs items =
      ap item_needs (left-more s before part some)
      ∙ needs-append (items_left s before)
      (splice_part_items window (needs_written s before) needs)
      ∙ ap (λ r. r ++ item_needs (splice_part_items window r needs)) is in (
        item_places items two.first,
        item_places later two.second,
        record {
          are = ap (item_places (items ++ later)) two.are
              ∙ marks-append items later two.first two.second long;
          stand = subst (λ r. AreJoinedPlaces needs (item_places items two.first)
              ⊎ AreLedPlaces window r needs (item_places items two.first)) (sym is) here;
        },
        later-marked (before ++ part ∷ []) parts two.second
            (omega (arith, length-append before (part ∷ []))) next
            (λ k d within. all (suc k) d (omega (arith, within))) two.seconds,
      )

module _ {s : SurveyFields} {first : Part} {later : List Part}
    (can : ArePartsLeft s (first ∷ later)) where
  known : IsClass s.class
  known = class-known s can.placed (omega (arith, first-there-is can))

  all : All (IsPartNeeds s.class) (map (part_needs_of s) (first ∷ later))
  all = all-needs s can.placed 0 (first ∷ later) can.order

  abbrev items : List SpliceItem
  items = items_left s (first ∷ later)

  abbrev plan : List Placed
  plan = plan_of_items s items

  planned : IsPlan (window_of s.class.version) own_choice (item_needs items ∷ []) plan
  planned =
      let splice = splice-needs can in
      splice-planned s.class (item_needs items) splice.known splice.same splice.some splice.fits

  own : HasOwnPlaces (item_needs items) plan (places_before items plan)
  own =
      let long : before_needs (item_needs items) plan ≡ places_before items plan =
      ap (λ n. length plan - n) (length-map items (λ (i : SpliceItem). i.need)) in
      subst (HasOwnPlaces (item_needs items) plan) long
      (own-places (window_of s.class.version) planned.lead_ins
      (splice-needs can).some planned.alone planned.whole.slots)

  abbrev needs : List Need
  needs = part_needs_of s first

  abbrev behind : List SpliceItem
  behind = items_behind (window_of s.class.version) needs (map (part_needs_of s) later)

  items-are : items ≡ map frame_item needs ++ behind
  unfolding splice_items
  items-are = refl

  abbrev frames : List Placed
  frames = drop (places_before items plan) plan

  two : AreInTwo (map (need_item own_choice) (item_needs (map frame_item needs)))
      (map (need_item own_choice) (item_needs behind)) frames
  two = in-two (map (need_item own_choice) (item_needs (map frame_item needs))) frames
      (two-slots s known (map frame_item needs) behind frames
      (subst (λ l. AreItemSlots (map (need_item own_choice) (item_needs l)) frames) items-are
      own.own))

  -- the plan of parts, part by part
  pub parts-keep : KeepTheirSlots s first later
  parts-keep =
      let long : length two.first ≡ length (map frame_item needs) =
      two.long ∙ length-map (item_needs (map frame_item needs)) (need_item own_choice)
      ∙ length-map (map frame_item needs) (λ (i : SpliceItem). i.need) in
      let marked : item_places items frames ≡ item_places (map frame_item needs) two.first
      ++ item_places behind two.second =
      ap₂ item_places items-are two.are
      ∙ marks-append (map frame_item needs) behind two.first two.second long in
      record {
        front = take (places_before items plan) plan;
        own = item_places (map frame_item needs) two.first;
        rest = item_places behind two.second;
        are = ap (λ l. take (places_before items plan) plan ++ l) marked
            ∙ sym (append_assoc (take (places_before items plan) plan)
            (item_places (map frame_item needs) two.first) (item_places behind two.second));
        lead_in = own.lead_in;
        frames = own-marked needs two.first two.firsts;
        others = later-marked s known (first ∷ []) later two.second (omega arith)
            (ap item_needs (left-one s first) ∙ needs-items needs)
            (λ k d within. all (suc k) d (omega (arith, within))) two.seconds;
      }

-- the law of the parts that `remove` leaves
pub keep-slots : FramesKeepTheirSlots
keep-slots stretches file s first later is left =
    parts-keep
    (left-parts stretches file is left)
