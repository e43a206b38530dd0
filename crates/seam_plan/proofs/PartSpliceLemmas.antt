-- The splice of the parts of one file fits after a whole window, and is
-- the frames of the parts and some lead-ins.
use Rattle.std.proofs.Common.{All, ap, append-nil, append_assoc, arith, Contains, false, flat_map}
use Rattle.std.proofs.Common.{inl, inr, List, map, None, Option, option_to_list, refl, Some, subst}
use Rattle.std.proofs.Common.{suc, sym, true, ℕ, [], ◌++◌, ◌∙◌, ◌∷◌, ◌≡◌, ◌≤◌}
use Rattle.std.proofs.lemmas.{Bool.and_parts, List.map-append}
use Rattle.std.specs.Prelude.{Bool, find, option_map, ◌&&◌}
use Rattle.frame_header.proofs.SlotLemmas.{Contains-all_slots, window-spanned}
use Rattle.frame_header.specs.Fields.{ClassFields, HeaderFields, IsClass, SlotFields}
use Rattle.frame_header.specs.Slots.{all_slots, largest_slot}
use Rattle.frame_header.specs.Tables.{area_of, class_of, window_of}
use Rattle.seam_plan.proofs.FitLemmas.{fits-tested}
use Rattle.seam_plan.proofs.PartJointLemmas.{first-known, joined_in, lead-fits, needs-items}
use Rattle.seam_plan.proofs.{PartJointLemmas.splice_part_items-is, SpliceFitLemmas.found-passes}
use Rattle.seam_plan.proofs.SpliceSoundLemmas.{class-append}
use Rattle.seam_plan.specs.Joins.{fits_behind, is_area_no_less, join_slot, lead_in_header}
use Rattle.seam_plan.specs.Joins.{lead_in_slot}
use Rattle.seam_plan.specs.PartSplices.{AreSpliceItemsOf, frame_item, IsFrameFirst, IsLeadInBefore}
use Rattle.seam_plan.specs.PartSplices.{IsPartNeeds, item_needs, items_behind, lead_in_splice_item}
use Rattle.seam_plan.specs.PartSplices.{splice_items, splice_part_items, SpliceItem}
use Rattle.slot_plan.proofs.FreeByteLemmas.{more-behind, nothing-fits, own-left, then-fits}
use Rattle.slot_plan.specs.FreeBytes.{FitsBehind, need_in_slot}
use Rattle.slot_plan.specs.{Parts.{AreNeedsOfClass, own_slot_area}, declared.needs.Need.Need}

-- ---- the lead-in of a part

-- if no slot is found, none of the slots passes the test
pub none-passes : (test : SlotFields → Bool) (slots : List SlotFields) → find test slots ≡ None
    → {slot : SlotFields} → Contains slots slot → test slot ≡ false
none-passes test [] none has = absurd (omega (arith, has.1))
none-passes test (s ∷ slots) none has = grind (arith, none-passes test slots)

false-not-true : false ≡ true → ⊥
false-not-true is = absurd cc

-- the header of the lead-in before these frames, after whose area they fit
pub record HasLeadIn (window : ℕ) (first : Need) (needs : List Need) : Type 0 where
  pub header : HeaderFields
  pub is : lead_in_header window (first ∷ needs) ≡ Some header
  pub before : IsLeadInBefore first header
  pub fits : FitsBehind window (area_of (class_of first.header) header.slot false) (first ∷ needs)

-- frames that fit after a whole window have a lead-in
pub has-lead-in : {class : ClassFields} {first : Need} {needs : List Need} → IsClass class
    → IsPartNeeds class (first ∷ needs) → HasLeadIn (window_of class.version) first needs
unfolding lead_in_header AreNeedsOfClass
has-lead-in {class} {first} {needs} known part =
    at (lead_in_slot window (class_of first.header) (first ∷ needs)) refl
  where
    window : ℕ
    window = window_of class.version

    test : SlotFields → Bool
    test slot = fits_behind window (area_of (class_of first.header) slot false) (first ∷ needs)

    at : (o : Option SlotFields)
        → lead_in_slot window (class_of first.header) (first ∷ needs) ≡ o
        → HasLeadIn window first needs
    at None is =
        let fails = none-passes test all_slots is
        (Contains-all_slots largest_slot (omega arith, omega arith)) in
        let own : ClassFields = class_of first.header in
        let area : ℕ = area_of own largest_slot false in
        let spanned : window ≤ area = subst (λ (k : ClassFields). window_of k.version ≤ area)
        part.same.0 (window-spanned own (first-known class first needs part.same known)) in
        let fits = (fits-tested window area (first ∷ needs)).1
        (more-behind window (first ∷ needs) spanned part.fits) in
        absurd (false-not-true (sym fails ∙ fits))
    at (Some slot) is =
        let found = found-passes test all_slots is in
        record {
          header = record first.header { protected = false; slot = slot };
          is = ap (option_map (λ s. record first.header { protected = false; slot = s })) is;
          before = (refl, found.1);
          fits = (fits-tested window (area_of (class_of first.header) slot false)
              (first ∷ needs)).0 found.0;
        }

-- ---- items of frames

-- frames in their own slots are items of themselves
pub items-same : (needs : List Need) → AreSpliceItemsOf (map frame_item needs) needs
unfolding AreSpliceItemsOf
items-same [] = tt
items-same (need ∷ needs) =
    inl (record { frame = refl; moved = refl; slot = inl refl }, items-same needs)

frame-first-append : (xs ys : List SpliceItem) → IsFrameFirst xs → IsFrameFirst (xs ++ ys)
frame-first-append [] ys first = absurd first
frame-first-append (x ∷ xs) ys first = first

-- items of two lists of frames make one list of items
pub items-append : (xs ys : List SpliceItem) (ms ns : List Need) → AreSpliceItemsOf xs ms
    → AreSpliceItemsOf ys ns → AreSpliceItemsOf (xs ++ ys) (ms ++ ns)
unfolding AreSpliceItemsOf
items-append [] ys [] ns front behind = behind
items-append [] ys (m ∷ ms) ns front behind = absurd front
items-append (x ∷ xs) ys [] ns front behind = absurd front
items-append (x ∷ xs) ys (m ∷ ms) ns (inl own) behind =
    inl (own.0, items-append xs ys ms ns own.1 behind)
items-append (x ∷ xs) ys (m ∷ ms) ns (inr lead) behind =
    inr (
      lead.0,
      frame-first-append xs ys lead.1,
      items-append xs ys (m ∷ ms) ns lead.2 behind,
    )

-- ---- one part

-- what is known of the items of a part behind a splice
pub record IsPartAdded (class : ClassFields) (splice needs : List Need) (items : List SpliceItem)
    : Type 0 where
  pub fits : FitsBehind (window_of class.version) (window_of class.version)
      (splice ++ item_needs items)
  pub same : AreNeedsOfClass class (item_needs items)
  pub own : AreSpliceItemsOf items needs

module _ (class : ClassFields) (known : IsClass class) where
  abbrev window : ℕ
  window = window_of class.version

  -- frames that fit after what a splice leaves fit after the splice
  behind : (splice needs : List Need) → FitsBehind window window splice
      → ((left : ℕ) → left ≤ window → FitsBehind window left needs)
      → FitsBehind window window (splice ++ needs)
  behind splice needs fits all = grind (arith, own-left, then-fits)

  in-slot-added : {splice : List Need} {first : Need} {needs : List Need} {slot : SlotFields}
      → AreNeedsOfClass class (first ∷ needs) → join_slot window splice first needs ≡ Some slot
      → IsPartAdded class splice (first ∷ needs) (map frame_item (need_in_slot slot first ∷ needs))
  unfolding AreNeedsOfClass AreSpliceItemsOf
  in-slot-added {splice} {first} {needs} {slot} same is =
      let all : List Need = need_in_slot slot first ∷ needs in
      let found = found-passes (λ s. is_area_no_less first s
      && fits_behind window window (splice ++ need_in_slot s first ∷ needs)) all_slots is in
      let fits = (fits-tested window window (splice ++ all)).0
      (and_parts (is_area_no_less first slot) (fits_behind window window (splice ++ all)) found.0).1
      in
      record {
        fits = subst (λ l. FitsBehind window window (splice ++ l)) (sym (needs-items all)) fits;
        same = subst (AreNeedsOfClass class) (sym (needs-items all)) same;
        own = inl (record { frame = refl; moved = refl; slot = inr found.1 }, items-same needs);
      }

  led-added : {splice : List Need} {first : Need} {needs : List Need}
      → IsPartNeeds class (first ∷ needs) → FitsBehind window window splice
      → (lead : HasLeadIn window first needs)
      → IsPartAdded class splice (first ∷ needs) (lead_in_splice_item lead.header ∷ map frame_item
      (first ∷ needs))
  unfolding AreNeedsOfClass AreSpliceItemsOf
  led-added {splice} {first} {needs} part fits lead =
      let need : Need = record { header = lead.header; bytes = 0 } in
      let area : area_of (class_of first.header) lead.header.slot false ≡ own_slot_area need =
      grind arith in
      let same_needs = needs-items (first ∷ needs) in
      let room = subst (λ n. FitsBehind window n (first ∷ needs)) area lead.fits in
      let all = behind splice (need ∷ first ∷ needs) fits
      (λ left within. lead-fits need (first ∷ needs) within refl room part.fits) in
      record {
        fits = subst (λ l. FitsBehind window window (splice ++ need ∷ l)) (sym same_needs) all;
        same = grind arith;
        own = inr (
          record { lead_in = refl; empty = refl; before = lead.before },
          refl,
          items-same (first ∷ needs),
        );
      }

  -- a part behind a splice that fits is its frames and
  -- at most one lead-in, with which the splice fits
  pub part-added : {splice : List Need} (needs : List Need) → IsPartNeeds class needs
      → FitsBehind window window splice
      → IsPartAdded class splice needs (splice_part_items window splice needs)
  part-added [] part fits = absurd (omega (arith, part.some))
  part-added {splice} (first ∷ needs) part fits =
      subst (IsPartAdded class splice (first ∷ needs))
      (sym (splice_part_items-is window splice first needs))
      (at (join_slot window splice first needs) refl)
    where
      at : (o : Option SlotFields) → join_slot window splice first needs ≡ o
          → IsPartAdded class splice (first ∷ needs) (joined_in window first needs o)
      at None is =
          let lead = has-lead-in known part in
          subst (λ o. IsPartAdded class splice (first ∷ needs)
          (option_to_list (option_map lead_in_splice_item o) ++ map frame_item (first ∷ needs)))
          (sym lead.is) (led-added part fits lead)
      at (Some slot) is = in-slot-added part.same is

  -- ---- all parts

  first-of-all : {needs : List Need} (parts : List (List Need))
      → All (IsPartNeeds class) (needs ∷ parts) → IsPartNeeds class needs
  first-of-all {needs} parts all = all 0 needs (omega arith)

  others-of-all : {needs : List Need} (parts : List (List Need))
      → All (IsPartNeeds class) (needs ∷ parts) → All (IsPartNeeds class) parts
  others-of-all parts all = λ k d within. all (suc k) d (omega (arith, within))

  behind-added : (splice : List Need) (parts : List (List Need)) → All (IsPartNeeds class) parts
      → FitsBehind window window splice
      → IsPartAdded class splice (flat_map (λ (needs : List Need). needs) parts)
      (items_behind window splice parts)
  unfolding items_behind AreSpliceItemsOf AreNeedsOfClass
  behind-added splice [] all fits = record {
    fits = subst (FitsBehind window window) (sym (append-nil splice)) fits;
    same = tt;
    own = tt;
  }
  behind-added splice (needs ∷ parts) all fits =
      let items = splice_part_items window splice needs in
      let here = part-added needs (first-of-all parts all) fits in
      let later = items_behind window (splice ++ item_needs items) parts in
      let more = behind-added (splice ++ item_needs items) parts (others-of-all parts all)
      here.fits in
      let both : item_needs (items ++ later) ≡ item_needs items ++ item_needs later =
      map-append (λ (item : SpliceItem). item.need) items later in
      record {
        fits = subst (λ l. FitsBehind window window (splice ++ l)) (sym both)
            (subst (FitsBehind window window)
            (append_assoc splice (item_needs items) (item_needs later)) more.fits);
        same = subst (AreNeedsOfClass class) (sym both)
            (class-append class (item_needs items) (item_needs later) here.same more.same);
        own = items-append items later needs (flat_map (λ (part : List Need). part) parts) here.own
            more.own;
      }

  splice-added : (parts : List (List Need)) → All (IsPartNeeds class) parts
      → IsPartAdded class [] (flat_map (λ (needs : List Need). needs) parts)
      (splice_items window parts)
  unfolding splice_items AreSpliceItemsOf AreNeedsOfClass
  splice-added [] all = record { fits = nothing-fits window window; same = tt; own = tt }
  splice-added (first ∷ parts) all =
      let part = first-of-all parts all in
      let later = items_behind window first parts in
      let more = behind-added first parts (others-of-all parts all) part.fits in
      let both : item_needs (map frame_item first ++ later) ≡ first ++ item_needs later =
      map-append (λ (item : SpliceItem). item.need) (map frame_item first) later
      ∙ ap (λ l. l ++ item_needs later) (needs-items first) in
      record {
        fits = subst (FitsBehind window window) (sym both) more.fits;
        same = subst (AreNeedsOfClass class) (sym both)
            (class-append class first (item_needs later) part.same more.same);
        own = items-append (map frame_item first) later first
            (flat_map (λ (needs : List Need). needs) parts) (items-same first) more.own;
      }

-- the splice of parts of one class that fit after a whole window fits so, and is of the class
pub splice-items-fit : {class : ClassFields} (parts : List (List Need)) → IsClass class
    → All (IsPartNeeds class) parts
    → FitsBehind (window_of class.version) (window_of class.version)
    (item_needs (splice_items (window_of class.version) parts))
    × AreNeedsOfClass class (item_needs (splice_items (window_of class.version) parts))
splice-items-fit {class} parts known all =
    let added = splice-added class known parts all in
    (added.fits, added.same)

-- the splice of parts is the frames of the parts in order, each in its own slot or
-- in another, and some lead-ins, each of them right before a frame
pub items-are-parts : {class : ClassFields} (parts : List (List Need)) → IsClass class
    → All (IsPartNeeds class) parts
    → AreSpliceItemsOf (splice_items (window_of class.version) parts)
    (flat_map (λ (needs : List Need). needs) parts)
items-are-parts {class} parts known all = (splice-added class known parts all).own
