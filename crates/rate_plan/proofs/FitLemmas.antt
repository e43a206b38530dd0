-- Which frames fit: those that fit in the largest slots, after a lead-in in the largest slot.
use Rattle.std.proofs.Common.{ap, arith, Bool, Contains, drop, false, get_or, length, List, map}
use Rattle.std.proofs.Common.{refl, subst, sym, take, true, ℕ, [], ◌++◌, ◌+◌, ◌<◌, ◌∙◌, ◌∷◌, ◌≡◌}
use Rattle.std.proofs.Common.{◌≤◌}
use Rattle.std.proofs.lemmas.List.{length-take-le, map-append, map_more, take-append-drop}
use Rattle.std.proofs.lemmas.List.{take-take, take_all}
use Rattle.frame_header.specs.{Fields.{ClassFields, SlotFields}, Tables.class_of}
use Rattle.rate_plan.specs.Menus.{CanBeLaidFromMenu, IsFirstUnfitFrame, menu_choices, menu_items}
use Rattle.slot_plan.proofs.{AreaLemmas.Contains-area, PartLemmas.{class-at, class-take}}
use Rattle.slot_plan.proofs.ReserveLemmas.{AllFit, Contains-greatest_number, fit-layout}
use Rattle.slot_plan.proofs.ReserveLemmas.{greatest_number-most, layout-fit, starts_of}
use Rattle.slot_plan.specs.Layouts.{FrameLengths, HasLayout}
use Rattle.slot_plan.specs.Lists.{AreChosenAreas, CanBeLaid, frames_with_areas, OpenFrame}
use Rattle.slot_plan.specs.Parts.{AreNeedsOfClass, lead_in_item, open_frame, slot_areas}
use Rattle.slot_plan.specs.Reserve.{free_bytes_behind, greatest_number, open_frames}
use Rattle.slot_plan.specs.declared.needs.Need.{Need}

-- the largest area that a frame can have
abbrev pub most_area : List SlotFields → Need → ℕ
most_area menu need = greatest_number (slot_areas (class_of need.header) need.header.protected menu)

-- the free bytes after a lead-in with the largest area
abbrev pub start_of : ℕ → ClassFields → List SlotFields → ℕ
start_of window class menu =
    free_bytes_behind window 0 0 (greatest_number (slot_areas class false menu))

-- ---- each in its largest area

unfoldable pub tops_of : List OpenFrame → List ℕ
tops_of [] = []
tops_of (o ∷ opens) = greatest_number o.areas ∷ tops_of opens

-- no other choice leaves more free bytes
fit-tops : (window free : ℕ) {more : ℕ} (opens : List OpenFrame) (areas : List ℕ) → free ≤ more
    → AreChosenAreas opens areas → AllFit window free (frames_with_areas opens areas)
    → AllFit window more (frames_with_areas opens (tops_of opens))
unfolding AreChosenAreas AllFit frames_with_areas tops_of
fit-tops window free [] areas less chosen fit = tt
fit-tops window free (o ∷ opens) [] less chosen fit = absurd chosen
fit-tops window free {more} (o ∷ opens) (area ∷ areas) less chosen fit =
    let most = greatest_number-most o.areas chosen.0 in
    let room : o.bytes ≤ free + area = fit.0 in (
      omega (arith, most, room, less),
      fit-tops window (free_bytes_behind window free o.bytes area) opens areas
          (omega (arith, most, less)) chosen.1 fit.1,
    )

can-tops : (window more : ℕ) (opens : List OpenFrame) → CanBeLaid window opens
    → AllFit window more (frames_with_areas opens (tops_of opens))
unfolding CanBeLaid HasLayout
can-tops window more opens can =
    fit-tops window 0 opens can.0 (omega arith)
    can.1 (fit-layout window 0 0 (frames_with_areas opens can.0) can.2.0 (omega arith) can.2.1)

tops-can : (window : ℕ) (opens : List OpenFrame) → AreChosenAreas opens (tops_of opens)
    → AllFit window 0 (frames_with_areas opens (tops_of opens)) → CanBeLaid window opens
unfolding CanBeLaid HasLayout
tops-can window opens chosen fit =
    let frames : List FrameLengths = frames_with_areas opens (tops_of opens) in (
      tops_of opens,
      chosen,
      (starts_of window 0 0 frames, layout-fit window 0 frames (omega arith) (omega arith) fit),
    )

-- ---- the frames of a menu

abbrev pub top_frame : List SlotFields → Need → FrameLengths
top_frame menu need = record { bytes = need.bytes; area = most_area menu need }

frames-top : (menu : List SlotFields) (needs : List Need) → frames_with_areas
    (open_frames (menu_choices menu) needs) (tops_of (open_frames (menu_choices menu) needs))
    ≡ map (top_frame menu) needs
unfolding frames_with_areas tops_of
frames-top menu [] = refl
frames-top menu (need ∷ needs) = ap (λ l. top_frame menu need ∷ l) (frames-top menu needs)

-- the largest area of a menu is the area of one of its slots
pub has-greatest_number : (class : ClassFields) (menu : List SlotFields) (protected : Bool)
    → 1 ≤ length menu
    → Contains (slot_areas class protected menu) (greatest_number (slot_areas class protected menu))
has-greatest_number class [] protected some = absurd (omega (arith, some))
has-greatest_number class (slot ∷ slots) protected some =
    Contains-greatest_number (slot_areas class protected (slot ∷ slots))
    (Contains-area class protected (slot ∷ slots) (0, omega arith, refl))

-- the largest areas are a choice
pub tops-chosen : (menu : List SlotFields) (needs : List Need) → 1 ≤ length menu → AreChosenAreas
    (open_frames (menu_choices menu) needs) (tops_of (open_frames (menu_choices menu) needs))
unfolding AreChosenAreas tops_of
tops-chosen menu [] some = tt
tops-chosen menu (need ∷ needs) some =
    grind (arith, has-greatest_number, tops-chosen menu needs some)

-- ---- after a lead-in

fit-behind : (window : ℕ) (o : OpenFrame) (opens : List OpenFrame)
    → AllFit window 0 (frames_with_areas (o ∷ opens) (tops_of (o ∷ opens))) → AllFit window
    (free_bytes_behind window 0 o.bytes (greatest_number o.areas))
    (frames_with_areas opens (tops_of opens))
unfolding AllFit frames_with_areas tops_of
fit-behind window o opens fit = fit.1

lead-fit : (window : ℕ) (class : ClassFields) (menu : List SlotFields) (opens : List OpenFrame)
    → AllFit window (start_of window class menu) (frames_with_areas opens (tops_of opens))
    → AllFit window 0 (frames_with_areas (open_frame (lead_in_item class menu) ∷ opens)
    (tops_of (open_frame (lead_in_item class menu) ∷ opens)))
unfolding AllFit frames_with_areas tops_of
lead-fit window class menu opens fit = (omega arith, fit)

lead-chosen : (class : ClassFields) (menu : List SlotFields) (opens : List OpenFrame)
    → 1 ≤ length menu → AreChosenAreas opens (tops_of opens)
    → AreChosenAreas (open_frame (lead_in_item class menu) ∷ opens)
    (tops_of (open_frame (lead_in_item class menu) ∷ opens))
unfolding AreChosenAreas tops_of
lead-chosen class menu opens some chosen = (has-greatest_number class menu false some, chosen)

-- frames with a layout after a lead-in fit in their largest slots after the largest lead-in
pub laid-fit : (window : ℕ) (class : ClassFields) (menu : List SlotFields) (needs : List Need)
    → AreNeedsOfClass class needs → 1 ≤ length needs → CanBeLaidFromMenu window true menu needs
    → AllFit window (start_of window class menu) (map (top_frame menu) needs)
unfolding AreNeedsOfClass menu_items
laid-fit window class menu [] same some can = absurd (omega (arith, some))
laid-fit window class menu (first ∷ needs) same some can =
    let lead : OpenFrame = open_frame (lead_in_item (class_of first.header) menu) in
    let opens : List OpenFrame = open_frames (menu_choices menu) (first ∷ needs) in
    let fit = fit-behind window lead opens (can-tops window 0 (lead ∷ opens) can) in
    subst (λ c. AllFit window (start_of window c menu) (map (top_frame menu) (first ∷ needs)))
    same.0
    (subst (AllFit window (start_of window (class_of first.header) menu))
    (frames-top menu (first ∷ needs)) fit)

-- frames that fit in their largest slots after the largest lead-in have a layout after a lead-in
pub fit-laid : (window : ℕ) (class : ClassFields) (menu : List SlotFields) (needs : List Need)
    → AreNeedsOfClass class needs → 1 ≤ length needs → 1 ≤ length menu
    → AllFit window (start_of window class menu) (map (top_frame menu) needs)
    → CanBeLaidFromMenu window true menu needs
unfolding AreNeedsOfClass menu_items
fit-laid window class menu [] same some slots fit = absurd (omega (arith, some))
fit-laid window class menu (first ∷ needs) same some slots fit =
    grind (
      arith,
      fit,
      frames-top menu (first ∷ needs),
      tops-can,
      lead-chosen,
      tops-chosen menu
          (first ∷ needs) slots,
      lead-fit,
    )

-- frames with a layout after a lead-in can be placed
pub laid-feasible : (window : ℕ) (class : ClassFields) (menu : List SlotFields) (needs : List Need)
    → AreNeedsOfClass class needs → 1 ≤ length needs → CanBeLaidFromMenu window true menu needs
    → HasLayout window (greatest_number (slot_areas class false menu)) (map (top_frame menu) needs)
unfolding HasLayout
laid-feasible window class menu needs same some can =
    let before : ℕ = greatest_number (slot_areas class false menu) in
    let frames : List FrameLengths = map (top_frame menu) needs in (
      starts_of window 0 before frames,
      layout-fit window 0 frames (omega arith) (omega arith)
          (laid-fit window class menu needs same some can),
    )

-- frames with a layout without a lead-in fit after the largest one
pub without-fit : (window : ℕ) (class : ClassFields) (menu : List SlotFields) (needs : List Need)
    → CanBeLaidFromMenu window false menu needs
    → AllFit window (start_of window class menu) (map (top_frame menu) needs)
unfolding menu_items
without-fit window class menu needs can =
    subst (AllFit window (start_of window class menu)) (frames-top menu needs)
    (can-tops window (start_of window class menu) (open_frames (menu_choices menu) needs) can)

-- ---- one more frame

-- the free bytes after some frames
unfoldable pub left_of : ℕ → ℕ → List FrameLengths → ℕ
left_of window free [] = free
left_of window free (frame ∷ frames) =
    left_of window (free_bytes_behind window free frame.bytes frame.area) frames

left-more : (window free : ℕ) (frames : List FrameLengths) (frame : FrameLengths)
    → left_of window free (frames ++ frame ∷ [])
    ≡ free_bytes_behind window (left_of window free frames) frame.bytes frame.area
unfolding left_of
left-more window free [] frame = refl
left-more window free (first ∷ frames) frame =
    left-more window (free_bytes_behind window free first.bytes first.area) frames frame

fit-more : (window free : ℕ) (frames : List FrameLengths) (frame : FrameLengths)
    → AllFit window free frames → frame.bytes ≤ left_of window free frames + frame.area
    → AllFit window free (frames ++ frame ∷ [])
unfolding AllFit left_of
fit-more window free [] frame fit room = (room, tt)
fit-more window free (first ∷ frames) frame fit room =
    grind (
      arith,
      fit-more window (free_bytes_behind window free first.bytes first.area) frames
          frame fit.1 room,
    )

fit-last : (window free : ℕ) (frames : List FrameLengths) (frame : FrameLengths)
    → AllFit window free (frames ++ frame ∷ [])
    → frame.bytes ≤ left_of window free frames + frame.area
unfolding AllFit left_of
fit-last window free [] frame fit = fit.0
fit-last window free (first ∷ frames) frame fit =
    fit-last window (free_bytes_behind window free first.bytes first.area) frames frame fit.1

fit-front : (window free : ℕ) (xs ys : List FrameLengths) → AllFit window free (xs ++ ys)
    → AllFit window free xs
unfolding AllFit
fit-front window free [] ys fit = tt
fit-front window free (x ∷ xs) ys fit =
    (fit.0, fit-front window (free_bytes_behind window free x.bytes x.area) xs ys fit.1)

fit-take : (window free : ℕ) (menu : List SlotFields) (needs : List Need) (k : ℕ)
    → AllFit window free (map (top_frame menu) needs)
    → AllFit window free (map (top_frame menu) (take k needs))
fit-take window free menu needs k fit =
    grind (
      arith,
      take-append-drop k needs,
      map-append (top_frame menu) (take k needs) (drop k
          needs),
      fit-front,
      fit,
    )

-- the largest area for the class is the largest area for the frame
pub area-at : (class : ClassFields) (menu : List SlotFields) (needs : List Need) {i : ℕ}
    {need : Need} → AreNeedsOfClass class needs → i < length needs → need ≡ get_or needs i need
    → greatest_number (slot_areas class need.header.protected menu) ≡ most_area menu need
area-at class menu needs same within is = grind (arith, class-at)

-- ---- the frames before i fit

-- the frames so far fit in their largest slots, and `free` bytes are free after them
pub record FitTo (window : ℕ) (class : ClassFields) (menu : List SlotFields) (needs : List Need)
    (i free : ℕ) : Type 0 where
  pub fit : AllFit window (start_of window class menu) (map (top_frame menu) (take i needs))
  pub left : free
      ≡ left_of window (start_of window class menu) (map (top_frame menu) (take i needs))

-- before the first frame the bytes of the largest lead-in are free
pub to-begun : {window : ℕ} {class : ClassFields} {menu : List SlotFields} (needs : List Need)
    {free : ℕ} → free ≡ start_of window class menu → FitTo window class menu needs 0 free
unfolding AllFit left_of
to-begun needs is = record { fit = tt; left = is }

next_frame : (menu : List SlotFields) (needs : List Need) {i : ℕ} {need : Need} → i < length needs
    → need ≡ get_or needs i need → map (top_frame menu) (take (i + 1) needs)
    ≡ map (top_frame menu) (take i needs) ++ top_frame menu need ∷ []
next_frame menu needs {i} {need} within is =
    grind (arith, map_more (top_frame menu) needs i need within)

module _ (window : ℕ) (class : ClassFields) (menu : List SlotFields) (needs : List Need)
    (i : ℕ) where
  -- a frame that fits in the free bytes and its largest area is one more that fits
  pub to-more : {need : Need} {free next : ℕ} → i < length needs → need ≡ get_or needs i need
      → need.bytes ≤ free + most_area menu need
      → next ≡ free_bytes_behind window free need.bytes (most_area menu need)
      → FitTo window class menu needs i free → FitTo window class menu needs (i + 1) next
  to-more {need} within is room gives to =
      let start : ℕ = start_of window class menu in
      let frames : List FrameLengths = map (top_frame menu) (take i needs) in
      let more = next_frame menu needs within is in
      record {
        fit = subst (AllFit window start) (sym more) (fit-more window start frames
            (top_frame menu need) to.fit (omega (arith, room, to.left)));
        left = gives ∙ ap (λ n. free_bytes_behind window n need.bytes (most_area menu need)) to.left
            ∙ sym (left-more window start frames (top_frame menu need))
            ∙ ap (left_of window start) (sym more);
      }

  -- if all of them fit, they have a layout
  pub to-all : {free : ℕ} → length needs ≤ i → AreNeedsOfClass class needs → 1 ≤ length needs → 1
      ≤ length menu → FitTo window class menu needs i free
      → CanBeLaidFromMenu window true menu needs
  to-all all same some slots to = grind (arith, fit-laid, take_all)

  -- a frame that doesn't fit is the first up to which no list has a layout
  pub to-unfit : {need : Need} {free : ℕ} → i < length needs → need ≡ get_or needs i need
      → free + most_area menu need < need.bytes → AreNeedsOfClass class needs → 1 ≤ length menu
      → FitTo window class menu needs i free → IsFirstUnfitFrame window menu needs i
  to-unfit {need} within is small same slots to =
      let start : ℕ = start_of window class menu in
      let frames : List FrameLengths = map (top_frame menu) (take i needs) in
      let some : 1 ≤ length needs = omega (arith, within) in
      let many : length (take (i + 1) needs) ≡ i + 1 =
      length-take-le (i + 1) needs (omega (arith, within)) in
      let never : AllFit window start (map (top_frame menu) (take (i + 1) needs)) → ⊥ =
      λ fit. omega (
        arith,
        small,
        to.left,
        fit-last window start frames (top_frame menu need)
            (subst (AllFit window start) (next_frame menu needs within is) fit),
      ) in
      let whole : AllFit window start (map (top_frame menu) needs) → ⊥ =
      λ fit. never (fit-take window start menu needs (i + 1) fit) in
      record {
        never = λ lead_in. elim lead_in as (λ b. CanBeLaidFromMenu window b menu needs → ⊥) [
          | true ↦ (λ can. whole (laid-fit window class menu needs same some can))
          | false ↦ (λ can. whole (without-fit window class menu needs can))
        ];
        within = within;
        here = λ can. never (laid-fit window class menu (take (i + 1) needs)
            (class-take class needs (i + 1) same) (omega (arith, many)) can);
        before = λ k lt.
            let few : length (take (k + 1) needs) ≡ k + 1 =
            length-take-le (k + 1) needs (omega (arith, within, lt)) in
            let fit = fit-take window start menu (take i needs) (k + 1) to.fit in
            fit-laid window class menu (take (k + 1) needs) (class-take class needs (k + 1) same)
            (omega (arith, few)) slots
            (subst (λ l. AllFit window start (map (top_frame menu) l))
            (take-take (k + 1) i needs (omega (arith, lt))) fit);
      }
