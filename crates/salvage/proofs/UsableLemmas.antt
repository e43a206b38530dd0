-- A look shows whether a frame is usable.
use Rattle.std.proofs.Common.{ap, arith, Bool, cond, drop, Err, is_some, length, List, None, Ok}
use Rattle.std.proofs.Common.{Option, refl, Result, Some, sym, take, true, ℕ, ◌+◌, ◌-◌, ◌<◌, ◌∙◌}
use Rattle.std.proofs.{Common.{◌≡◌, ◌≤◌}, lemmas.Bool.leb-true}
use Rattle.std.proofs.lemmas.List.{drop-drop, drop-take, take-take}
use Rattle.bit_fields.specs.Bits.{bits}
use Rattle.frame_header.specs.{Fields.{ClassFields, HeaderFields}, Reading.header_at}
use Rattle.frame_header.specs.Tables.{class_of, length_of, overhead_of, side_size_of}
use Rattle.frame_header.specs.declared.header.NotHeader.{NotHeader, TheVariants.No}
use Rattle.salvage.specs.Steps.{admits_item}
use Rattle.salvage.specs.UsableFrames.{frame_if_usable, has_right_crc, is_head, is_usable}
use Rattle.salvage.specs.UsableFrames.{usable_frame_at}
use Rattle.salvage.specs.{Walk.{is_item_read, item_if_read, item_read}, declared.usable.Role.Role}
use Rattle.salvage.specs.declared.usable.Role.TheVariants.{First, Later}
use Rattle.side_info.proofs.FrameLemmas.{overhead-few, side_in-take, stored_crc-take}
use Rattle.side_info.specs.{Frame.{side_in, side_part}, Side.side_at}
use Rattle.sync_survey.proofs.{ChainLemmas.whole_item_at-whole, LooksLemmas.item_at-shown}
use Rattle.sync_survey.proofs.StepLemmas.{length_few, overhead_few}
use Rattle.sync_survey.specs.Chains.{belongs, whole_item_at}
use Rattle.sync_survey.specs.Items.{header_front, item_front, size_of}
use Rattle.sync_survey.specs.{Looks.{look_size, PassesFront, Shows}, Start.anchored_frame}
use Rattle.sync_survey.specs.declared.chains.{Region.TheVariants.Stream, Step.Step}
use Rattle.sync_survey.specs.declared.items.Item.{Item, TheVariants.{Block, Frame, Zero}}
use Rattle.sync_survey.specs.declared.places.PlacedFrame.{PlacedFrame}

-- ---- the roles, which other crates can't name

-- the role of a first frame
abbrev pub first_role : Role
first_role = First

-- the role of a later frame, after a first one of this class
abbrev pub later_role : ClassFields → Role
later_role class = Later class

-- ---- the check word of the bytes

header_cases : {b : Bool} {r : Result HeaderFields NotHeader} {h : HeaderFields}
    → cond b r (Err No) ≡ Ok h → (b ≡ true) × (r ≡ Ok h)
header_cases e = grind arith

-- a header with which bytes begin is read from four bytes
pub header_four : (bytes : List ℕ) {h : HeaderFields} → header_front bytes ≡ Ok h
    → (4 ≤ length bytes) × (header_at (take 4 bytes) ≡ Ok h)
unfolding header_front
header_four bytes e = grind (arith, header_cases, leb-true)

-- the side information of a protected frame is after its check word
pub side_protected : (h : HeaderFields) (bytes : List ℕ) → h.protected ≡ true → side_in h bytes
    ≡ side_at (class_of h) (bits (take (side_size_of (class_of h)) (drop 6 bytes)))
unfolding side_in side_part
side_protected h bytes is = grind arith

-- ---- fewer bytes show what is judged, too

word-take : (h : HeaderFields) {n : ℕ} (bytes : List ℕ) → 6 ≤ n
    → overhead_of (class_of h) h.protected ≤ n
    → has_right_crc h (take n bytes) ≡ has_right_crc h bytes
word-take h bytes six room = grind (arith, stored_crc-take, side_in-take)

head-take : (p : PlacedFrame) {n : ℕ} (bytes : List ℕ)
    → length_of (class_of p.header) p.header.slot ≤ n → is_head p (take n bytes) ≡ is_head p bytes
head-take p bytes few = grind (arith, is_some, take-take)

usable-take : (role : Role) (p : PlacedFrame) (n : ℕ) (bytes : List ℕ) → 6 ≤ n
    → overhead_of (class_of p.header) p.header.protected ≤ n
    → length_of (class_of p.header) p.header.slot ≤ n
    → is_usable role p (take n bytes) ≡ is_usable role p bytes
usable-take role p n bytes six room few = grind (arith, word-take, head-take)

module _ {file : List ℕ} {at : ℕ} {front : List ℕ} {left : ℕ}
    (shows : Shows file at front left) where
  -- the look shows whether a frame is usable
  pub usable_shown : (role : Role) {p : PlacedFrame} → p.offset ≡ at → item_front front
      ≡ Frame p.header → is_usable role p front ≡ is_usable role p (drop p.offset file)
  usable_shown role {p} here is =
      grind (
        arith,
        usable-take role p look_size (drop at file) (omega arith) (omega (
          arith,
          overhead-few (class_of p.header) p.header.protected,
        )) (omega (
          arith,
          length_few front is,
        )),
        overhead-few (class_of p.header) p.header.protected,
        length_few front
            is,
      )

  -- the look shows whether a frame that is at a later place of it, and ends within it, is usable
  pub usable_behind : (role : Role) (k : ℕ) {h : HeaderFields}
      → k + length_of (class_of h) h.slot ≤ 4064 → item_front (drop k front) ≡ Frame h
      → is_usable role (record { offset = at + k; header = h }) (drop k front)
      ≡ is_usable role (record { offset = at + k; header = h }) (drop (at + k) file)
  usable_behind role k {h} near is =
      let n = look_size - k in
      let split : look_size ≡ k + n = omega (arith, near) in
      let room = overhead_few (drop k front) (sym is) refl in
      let seen : drop k front ≡ take n (drop (at + k) file) =
      ap (drop k) shows.front_is ∙ ap (λ m. drop k (take m (drop at file))) split
      ∙ drop-take k n (drop at file) ∙ ap (take n) (drop-drop k at file) in
      ap (is_usable role (record { offset = at + k; header = h })) seen
      ∙ usable-take role (record { offset = at + k; header = h }) n (drop (at + k) file)
      (omega (arith, near)) (omega (arith, near, room)) (omega (arith, near))

  -- ---- an anchored frame

  usable_by : (role : Role) {o : Option PlacedFrame} → o ≡ anchored_frame file at
      → frame_if_usable file role o ≡ usable_frame_at file role at
  unfolding usable_frame_at
  usable_by role is = ap (frame_if_usable file role) is

  -- if no frame is anchored, none is usable
  pub none_anchored : (role : Role) → None ≡ anchored_frame file at
      → None ≡ usable_frame_at file role at
  none_anchored role is = usable_by role is

  -- an anchored frame is usable if it passes the test
  pub frame_judged : (role : Role) {p : PlacedFrame} → Some p ≡ anchored_frame file at
      → p.offset ≡ at → item_front front ≡ Frame p.header → {b : Bool} → is_usable role p front ≡ b
      → cond b (Some p) None ≡ usable_frame_at file role at
  frame_judged role {p} anchored here is usable =
      grind (arith, usable_shown role here is, usable_by role anchored)

  -- ---- an item that is read

  read_by : (role : Role) {o : Option Item} → whole_item_at Stream file at ≡ o
      → item_read file role at ≡ item_if_read file role at o
  unfolding item_read
  read_by role is = ap (item_if_read file role at) is

  -- if no whole item is there, none is read
  pub none_read : (role : Role) → whole_item_at Stream file at ≡ None
      → item_read file role at ≡ None
  none_read role is = read_by role is

  read_shown : (role : Role) {item : Item} → item_front front ≡ item
      → admits_item role at item front ≡ is_item_read file role at item
  read_shown role is = grind (arith, usable_shown)

  whole_by : {item : Item} {size : ℕ} → item ≡ item_front front → belongs Stream item ≡ true → 0
      < size_of item → size_of item ≤ size → size ≤ left → whole_item_at Stream file at ≡ Some item
  whole_by {item} is here some least within =
      whole_item_at-whole Stream file at item
      (sym (item_at-shown shows) ∙ sym is) here
      (omega (arith, some, least, within, shows.left_is))

  step_whole : (item : Item) {size : ℕ} → item ≡ item_front front
      → ((item ≡ Zero → ⊥) → size ≡ size_of item) → 0 < size → size_of item ≤ size → size ≤ left
      → whole_item_at Stream file at ≡ Some item
  step_whole (Frame h) {size} is own some least within =
      whole_by is refl (omega (arith, own (λ e. cc), some)) least within
  step_whole (Block b) {size} is own some least within =
      whole_by is refl (omega (arith, own (λ e. cc), some)) least within
  step_whole Zero {size} is own some least within = whole_by is refl (omega arith) least within
  step_whole _ is own some least within = absurd (omega (arith, own (λ e. cc), some))

  -- the item that is passed is whole, so it is read if it is admitted
  pub item_judged : (role : Role) {step : Step} → PassesFront front left step → {b : Bool}
      → admits_item role at step.item front ≡ b
      → item_read file role at ≡ cond b (Some step.item) None
  item_judged role {step} passes {b} admits =
      read_by role (step_whole
      step.item passes.item passes.own passes.some passes.least passes.within)
      ∙ ap (λ b. cond b (Some step.item) None)
      (sym (read_shown role (sym passes.item)) ∙ admits)
