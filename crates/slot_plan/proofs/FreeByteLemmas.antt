-- Frames in their own slots fit after some free bytes exactly if these are at least what
-- the frames need, and what the frames leave is what is free after the last of them.
use Rattle.std.proofs.Common.{arith, drop, get_or, length, List, map, refl, subst, sym, zero, ℕ, []}
use Rattle.std.proofs.Common.{◌++◌, ◌+◌, ◌-◌, ◌<◌, ◌∷◌, ◌≡◌, ◌≤◌}
use Rattle.std.{proofs.lemmas.List.{drop-map, drop_all, map-append}, specs.Prelude.◌↔◌}
use Rattle.frame_header.specs.Fields.{ClassFields, HeaderFields, SlotFields}
use Rattle.frame_header.specs.{Tables.{class_of, window_of}, declared.version.Version.Version}
use Rattle.slot_plan.proofs.AreaLemmas.{greatest_number-one}
use Rattle.slot_plan.proofs.PartLemmas.{next_need, reserve_before-first, reserve_before-from}
use Rattle.slot_plan.proofs.PartLemmas.{reserve_before-nothing, same-class}
use Rattle.slot_plan.proofs.ReserveLemmas.{AllFit, fit-after, fit-layout, fit-more, layout-fit}
use Rattle.slot_plan.proofs.ReserveLemmas.{starts_of}
use Rattle.slot_plan.specs.FreeBytes.{FitsBehind, frame_without_area, IsLeastWanted, IsMostLeft}
use Rattle.slot_plan.specs.FreeBytes.{LeavesFree}
use Rattle.slot_plan.specs.Laws.{FitsBehindWhatIsLeft, FitsWhereWanted, LeavesGoOn}
use Rattle.slot_plan.specs.{Layouts.{FrameLengths, HasLayout, IsDataLayout}, Lists.AreChosenAreas}
use Rattle.slot_plan.specs.Parts.{AreNeedsOfClass, own_frame, own_slot_area}
use Rattle.slot_plan.specs.Reserve.{area_by_header, AreReservesInWindow, free_bytes_behind}
use Rattle.slot_plan.specs.Reserve.{open_frames, own_area_of, reserve_before}
use Rattle.slot_plan.specs.declared.needs.Need.{Need}

-- each frame keeps its own slot
abbrev pub own_slot : HeaderFields → List SlotFields
own_slot h = h.slot ∷ []

-- ---- a layout after free bytes

-- frames with a layout after free bytes fit in as many of these as a window holds
pub fit-feasible : (window free : ℕ) (frames : List FrameLengths) → HasLayout window free frames
    → AllFit window (free - (free - window)) frames
unfolding HasLayout
fit-feasible window free frames (starts, layout) =
    fit-layout window 0 free frames starts (omega arith) layout

-- frames that fit in as many of the free bytes as a window holds have a layout after all of them
pub feasible-fit : (window free : ℕ) (frames : List FrameLengths)
    → AllFit window (free - (free - window)) frames → HasLayout window free frames
unfolding HasLayout
feasible-fit window free frames fit =
    grind (
      arith,
      starts_of window 0 free frames,
      layout-fit window 0 {before = free} {free = free - (free - window)}
          frames (omega arith) (omega arith) fit,
    )

-- frames with a layout after at most a window of free bytes fit in these
pub fit-within : {window free : ℕ} (frames : List FrameLengths) → free ≤ window
    → HasLayout window free frames → AllFit window free frames
fit-within frames within feasible = grind (arith, fit-feasible)

-- frames that fit in at most a window of free bytes have a layout after these
pub within-fit : {window free : ℕ} (frames : List FrameLengths) → free ≤ window
    → AllFit window free frames → HasLayout window free frames
within-fit frames within fit = grind (arith, feasible-fit)

-- frames with a layout after free bytes have one after more
pub feasible-more : (window : ℕ) {free more : ℕ} (frames : List FrameLengths) → free ≤ more
    → HasLayout window free frames → HasLayout window more frames
feasible-more window frames less feasible = grind (arith, feasible-fit, fit-more, fit-feasible)

-- frames that fit after free bytes fit after more
pub more-behind : (window : ℕ) {free more : ℕ} (needs : List Need) → free ≤ more
    → FitsBehind window free needs → FitsBehind window more needs
more-behind window needs less fits = grind (arith, feasible-more, fits)

-- a frame and then others fit if its main data have room in the
-- free bytes and its own area, and the others fit in what it leaves
pub cons-fits : {window free : ℕ} (need : Need) (needs : List Need) → free ≤ window
    → need.bytes ≤ free + own_slot_area need
    → FitsBehind window (free_bytes_behind window free need.bytes (own_slot_area need)) needs
    → FitsBehind window free (need ∷ needs)
unfolding AllFit
cons-fits need needs within room fits = grind (arith, within-fit, fit-within)

-- if a frame and then others fit, the frame has room, and the others fit after what it leaves
pub fits-cons : {window free : ℕ} (need : Need) (needs : List Need) → free ≤ window
    → FitsBehind window free (need ∷ needs) → (need.bytes ≤ free + own_slot_area need)
    × FitsBehind window (free_bytes_behind window free need.bytes (own_slot_area need)) needs
unfolding AllFit
fits-cons need needs within fits = grind (arith, fit-within, within, fits, within-fit)

-- ---- how many bytes frames want

-- what frames in their own slots need
abbrev pub own_needed : List Need → ℕ
own_needed needs = reserve_before (open_frames own_slot needs)

-- a frame's own area is its choice
pub chosen-own : (needs : List Need)
    → AreChosenAreas (open_frames own_slot needs) (map (area_by_header own_area_of) needs)
unfolding AreChosenAreas
chosen-own [] = tt
chosen-own (need ∷ needs) = ((zero, omega arith, refl), chosen-own needs)

-- frames need the first one's bytes and what the others need, less the area of the first
pub own-cons : (need : Need) (needs : List Need)
    → own_needed (need ∷ needs) ≡ (need.bytes + own_needed needs) - own_slot_area need
unfolding reserve_before
own-cons need needs = omega (arith, greatest_number-one (own_slot_area need))

-- frames fit if what they need is free
pub fit-own : (window free : ℕ) (needs : List Need) → own_needed needs ≤ free
    → AreReservesInWindow window (open_frames own_slot needs)
    → AllFit window free (map own_frame needs)
unfolding AllFit AreReservesInWindow
fit-own window free [] enough within = tt
fit-own window free (need ∷ needs) enough within =
    let here = own-cons need needs in
    let behind : own_needed needs ≤ window = within.0 in (
      omega (arith, here, enough),
      fit-own window (free_bytes_behind window free need.bytes (own_slot_area need)) needs
          (omega (arith, here, enough, behind)) within.1,
    )

-- from any frame on at most the window is needed
pub own-from : {window : ℕ} (free k : ℕ) (needs : List Need) → FitsBehind window free needs
    → (own_needed (drop k needs) ≤ window)
    × AreReservesInWindow window (open_frames own_slot (drop k needs))
own-from {window} free k needs fits =
    reserve_before-from free k own_slot own_area_of needs fits (chosen-own (drop k needs))

-- What frames need is the least number of bytes after which they fit.
pub own-wanted : {window : ℕ} (free : ℕ) {needs : List Need} → FitsBehind window free needs
    → IsLeastWanted window needs (own_needed needs)
own-wanted {window} free {needs} fits =
    let all = own-from free 0 needs fits in
    record {
      fits = grind (arith, within-fit, fit-own);
      least = λ other behind. reserve_before-first window own_slot own_area_of needs behind
          (chosen-own needs);
    }

-- an empty list of frames fits after any number of bytes
pub nothing-fits : (window free : ℕ) → FitsBehind window free []
unfolding HasLayout IsDataLayout
nothing-fits window free = ([], tt)

-- Frames fit after exactly the numbers of bytes that are at least what they want.
pub fits-wanted : {window : ℕ} (free : ℕ) {wanted : ℕ} {needs : List Need}
    → IsLeastWanted window needs wanted → FitsBehind window free needs ↔ (wanted ≤ free)
fits-wanted free is = grind (arith, more-behind)

-- ---- how many bytes frames leave

-- what is free after frames
unfoldable pub left_after : ℕ → ℕ → List FrameLengths → ℕ
left_after window free [] = free
left_after window free (frame ∷ frames) =
    left_after window (free_bytes_behind window free frame.bytes frame.area) frames

-- at most the window is free after frames
pub left-within : {window : ℕ} (free : ℕ) (frames : List FrameLengths) → free ≤ window
    → left_after window free frames ≤ window
unfolding left_after
left-within free [] within = within
left-within {window} free (frame ∷ frames) within =
    left-within (free_bytes_behind window free frame.bytes frame.area) frames (omega arith)

-- what is free after frames and then others is what is free after
-- the others, beginning with what is free after the first
pub left-append : (window free : ℕ) (xs ys : List FrameLengths)
    → left_after window free (xs ++ ys) ≡ left_after window (left_after window free xs) ys
unfolding left_after
left-append window free [] ys = refl
left-append window free (x ∷ xs) ys =
    left-append window (free_bytes_behind window free x.bytes x.area) xs ys

-- if frames fit, and others in what is free after them, all of them fit
pub append-fit : (window free : ℕ) (xs ys : List FrameLengths) → AllFit window free xs
    → AllFit window (left_after window free xs) ys → AllFit window free (xs ++ ys)
unfolding AllFit left_after
append-fit window free [] ys first second = second
append-fit window free (x ∷ xs) ys first second =
    (first.0, append-fit window (free_bytes_behind window free x.bytes x.area) xs ys first.1 second)

-- if frames and then others fit, so do the first, and the others after what these leave
pub fit-append : (window free : ℕ) (xs ys : List FrameLengths) → AllFit window free (xs ++ ys)
    → AllFit window free xs × AllFit window (left_after window free xs) ys
unfolding AllFit left_after
fit-append window free [] ys all = (tt, all)
fit-append window free (x ∷ xs) ys all =
    grind (arith, fit-append window (free_bytes_behind window free x.bytes x.area) xs ys all.1)

-- a frame without an area fits if its main data are at most the free bytes
before-fits : (window : ℕ) {left bytes : ℕ} → bytes ≤ left
    → AllFit window left (frame_without_area bytes ∷ [])
unfolding AllFit
before-fits window within = (omega (arith, within), tt)

fits-before : (window : ℕ) {left bytes : ℕ} → AllFit window left (frame_without_area bytes ∷ [])
    → bytes ≤ left
unfolding AllFit
fits-before window fit = omega (arith, fit.0)

-- frames that leave bytes fit, and leave at most what is free after them
pub leaves-fit : {window free left : ℕ} (needs : List Need) → free ≤ window
    → LeavesFree window free needs left
    → FitsBehind window free needs × (left ≤ left_after window free (map own_frame needs))
leaves-fit needs within leaves =
    grind (arith, fit-append, fit-within, within, within-fit, fits-before)

-- What is free after frames is the most that they leave.
pub own-left : {window free : ℕ} {needs : List Need} → free ≤ window → FitsBehind window free needs
    → IsMostLeft window free needs (left_after window free (map own_frame needs))
own-left within fits =
    grind (arith, left-within, within-fit, append-fit, fit-within, before-fits, leaves-fit)

-- there is only one greatest number of bytes that frames leave
pub one-left : {window free m n : ℕ} {needs : List Need} → IsMostLeft window free needs m
    → IsMostLeft window free needs n → m ≡ n
one-left first second = grind arith

-- the most that frames leave is what is free after them
pub left-value : {window free left : ℕ} {needs : List Need} → free ≤ window
    → IsMostLeft window free needs left → left ≡ left_after window free (map own_frame needs)
left-value within is = grind (arith, one-left, own-left, within, leaves-fit)

-- a frame and then others leave what the others leave after what the frame leaves
pub left-cons : {window free left : ℕ} {need : Need} {needs : List Need} → free ≤ window
    → need.bytes ≤ free + own_slot_area need
    → IsMostLeft window (free_bytes_behind window free need.bytes (own_slot_area need)) needs left
    → IsMostLeft window free (need ∷ needs) left
unfolding left_after
left-cons {window} {free} {left} {need} {needs} within room
    is =
    let behind : ℕ = free_bytes_behind window free need.bytes (own_slot_area need) in
    let less : behind ≤ window = omega arith in
    let fits = cons-fits need needs within room
    (leaves-fit needs less is.leaves).0 in
    subst (IsMostLeft window free (need ∷ needs))
    (sym (left-value less is))
    (own-left within fits)

-- ---- frames and then others

-- if frames and then others fit, so do the first
pub fits-front : (window free : ℕ) (first others : List Need)
    → FitsBehind window free (first ++ others) → FitsBehind window free first
fits-front window free first others fits =
    grind (arith, fit-feasible, fits, map-append, feasible-fit, fit-append)

module _ {window free mid : ℕ} {first : List Need} (others : List Need) (within : free ≤ window)
    (is : IsMostLeft window free first mid) where
  mid-is : mid ≡ left_after window free (map own_frame first)
  mid-is = left-value within is

  -- If all fit, the others fit after what the first leave.
  pub fits-then : FitsBehind window free (first ++ others) → FitsBehind window mid others
  fits-then fits = grind (arith, map-append, fit-within, fit-append, within-fit, mid-is)

  -- if the others fit after what the first leave, all fit
  pub then-fits : FitsBehind window mid others → FitsBehind window free (first ++ others)
  then-fits fits = grind (arith, fit-within, leaves-fit, mid-is, within-fit, map-append, append-fit)

  -- what is free after all is what is free after the others, beginning with what the first leave
  left-both : left_after window free (map own_frame (first ++ others))
      ≡ left_after window mid (map own_frame others)
  left-both = grind (arith, map-append, left-append, mid-is)

  -- what all leave is what the others leave after what the first leave
  pub left-then : {left : ℕ} → IsMostLeft window free (first ++ others) left
      → IsMostLeft window mid others left
  left-then all = grind (arith, fits-then, leaves-fit, within, left-value, left-both, own-left)

  -- what the others leave after what the first leave is what all leave
  pub then-left : {left : ℕ} → IsMostLeft window mid others left
      → IsMostLeft window free (first ++ others) left
  then-left behind = grind (arith, then-fits, leaves-fit, left-both, left-value, own-left)

-- ---- from frame to frame

-- the frames from each place on fit after a whole window
pub fits-drop : (window free k : ℕ) (needs : List Need) → FitsBehind window free needs
    → FitsBehind window window (drop k needs)
fits-drop window free k needs fits =
    within-fit (map own_frame (drop k needs)) (omega arith) (subst (AllFit window
    window) (drop-map own_frame k needs) (fit-after window free k (map own_frame needs) fits))

-- frames that are of two classes fit with the window of
-- the second if they fit with the window of the first
pub fits-in : (c d : ClassFields) (needs : List Need) (free : ℕ → ℕ) → AreNeedsOfClass c needs
    → AreNeedsOfClass d needs → FitsBehind (window_of c.version) (free (window_of c.version)) needs
    → FitsBehind (window_of d.version) (free (window_of d.version)) needs
unfolding AreNeedsOfClass
fits-in c d [] free first second fits = grind (arith, nothing-fits)
fits-in c d (need ∷ needs) free first second fits = grind (arith, fits)

-- the window of a frame that the code reads is the window of all
pub window-read : (class : ClassFields) {own : ClassFields} (needs : List Need) {i window : ℕ}
    {need : Need} → AreNeedsOfClass class needs → i < length needs → need ≡ get_or needs i need
    → own ≡ class_of need.header → window ≡ window_of own.version → window ≡ window_of class.version
window-read class needs all within is reads gives = grind (arith, same-class)

-- no window is longer than 511 bytes
pub window-most : (version : Version) → window_of version ≤ 511
window-most version = grind arith

-- after the last frame nothing is wanted
pub wanted-none : (needs : List Need) → 0 ≡ own_needed (drop (length needs) needs)
wanted-none needs =
    grind (arith, drop_all (length needs) needs (omega arith), reserve_before-nothing own_slot)

-- the place after the one before is the place itself
pub wanted-before : (needs : List Need) {at wanted : ℕ} → 0 < at
    → wanted ≡ own_needed (drop at needs) → wanted ≡ own_needed (drop (at - 1 + 1) needs)
wanted-before needs some is = grind arith

-- at the first frame what is wanted from it on is what all want
pub wanted-all : {window : ℕ} {needs : List Need} {at wanted : ℕ} → at ≡ 0
    → FitsBehind window window needs → wanted ≡ own_needed (drop at needs)
    → IsLeastWanted window needs wanted
wanted-all none fits is = grind (arith, own-wanted, fits)

module _ (window : ℕ) (needs : List Need) {i : ℕ} {need : Need} (within : i < length needs)
    (is : need ≡ get_or needs i need) where
  -- what the frames from one on want
  pub wanted-next : {after area : ℕ} → after ≡ own_needed (drop (i + 1) needs)
      → area ≡ own_slot_area need → own_needed (drop i needs) ≡ (need.bytes + after) - area
  wanted-next same own = grind (arith, next_need, within, own-cons, same)

  -- if frames fit, a frame and what is wanted after it have room in its area and a window
  pub wanted-most : (free : ℕ) {after area : ℕ} → FitsBehind window free needs → after
      ≡ own_needed (drop (i + 1) needs) → area ≡ own_slot_area need
      → need.bytes + after ≤ window + area
  wanted-most free {after} {area} fits same own =
      omega (arith, wanted-next same own, (own-from free i needs fits).0)

-- `left` bytes are left before the frame at i, after which it and the
-- others fit, and what is free after these is what is free after all.
pub record LeavesFrom (window free : ℕ) (needs : List Need) (i left : ℕ) : Type 0 where
  pub within : left ≤ window
  pub fits : FitsBehind window left (drop i needs)
  pub same : left_after window left (map own_frame (drop i needs))
      ≡ left_after window free (map own_frame needs)

-- the bytes left before the frame at i, for the window of each class that the frames have
abbrev pub LeavesIn : ℕ → List Need → ℕ → ℕ → Type 0
LeavesIn free needs i left =
    (c : ClassFields) → AreNeedsOfClass c needs → free ≤ window_of c.version
    → FitsBehind (window_of c.version) free needs
    → LeavesFrom (window_of c.version) free needs i left

-- before the first frame all free bytes are left
pub leaves-none : (free : ℕ) (needs : List Need) → LeavesIn free needs 0 free
leaves-none free needs = grind arith

module _ {window free : ℕ} {needs : List Need} {i : ℕ} {need : Need} {left area : ℕ}
    (within : i < length needs) (is : need ≡ get_or needs i need) (own : area ≡ own_slot_area need)
    (from : LeavesFrom window free needs i left) where
  -- the frame has room in what is left and its own area
  pub leaves-room : need.bytes ≤ left + area
  leaves-room = grind (arith, next_need, within, fits-cons)

  -- what is left after the frame is left before the next one
  pub leaves-more : {next : ℕ} → next ≡ free_bytes_behind window left need.bytes area
      → LeavesFrom window free needs (i + 1) next
  unfolding left_after
  leaves-more gives = grind (arith, fits-cons, next_need)

-- after the last frame what is left is what all frames leave
pub leaves-all : {window free : ℕ} {needs : List Need} {i left : ℕ} → length needs ≤ i
    → free ≤ window → FitsBehind window free needs → LeavesFrom window free needs i left
    → IsMostLeft window free needs left
unfolding left_after
leaves-all all within fits from = grind (arith, drop_all, own-left)

-- ---- the laws

-- others fit after frames exactly if they fit after what these leave
pub behind-left : FitsBehindWhatIsLeft
behind-left = λ window free first others within some. (
  (λ fits. (
    fits-front window free first others fits,
    (λ left wanted is wants. wants.least left
        (fits-then others within is fits)),
  )),
  (λ parts.
      let is = own-left within parts.0 in
      let wants = own-wanted window some in
      let left : ℕ = left_after window free (map own_frame first) in
      then-fits others within is
      (more-behind window others (parts.1 left (own_needed others) is wants) wants.fits)),
)

-- what frames and then others leave is what the others leave after what the first leave
pub left-on : LeavesGoOn
left-on = search (arith, left-then, then-left)

-- frames fit after exactly the numbers of bytes that are at least what they want
pub where-wanted : FitsWhereWanted
where-wanted = λ window free wanted needs is. fits-wanted free is
