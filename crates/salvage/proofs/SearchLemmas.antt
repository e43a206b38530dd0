-- The next usable frame.
use Rattle.std.proofs.Common.{ap, arith, Bool, cond, drop, false, get_or, IfOk, leb, length, List}
use Rattle.std.proofs.Common.{None, Ok, Option, option_and_then, refl, Result, Some, subst, suc}
use Rattle.std.proofs.Common.{sym, zero, ℕ, [], ◌+◌, ◌-◌, ◌<◌, ◌∙◌, ◌∷◌, ◌≡◌, ◌≤◌, ◌⊎◌}
use Rattle.std.proofs.lemmas.Bool.{and_right, false≢true, leb-false, leb-true}
use Rattle.frame_header.specs.{Fields.HeaderFields, Tables.{class_of, length_of}}
use Rattle.outside.specs.Files.{Files, Holds}
use Rattle.salvage.proofs.{RawHeaderLemmas.header_begins, UsableLemmas.usable_behind}
use Rattle.salvage.specs.Steps.{HasNoUsableFrame, may_begin_header}
use Rattle.salvage.specs.UsableFrames.{frame_if_usable, is_usable, next_usable_frame}
use Rattle.salvage.specs.{UsableFrames.usable_frame_at, Walk.{first_frame, item_read}}
use Rattle.salvage.specs.declared.usable.Role.{Role, TheVariants.First}
use Rattle.sync_survey.proofs.{ItemsLemmas.stands, LooksLemmas.item_at-behind}
use Rattle.sync_survey.proofs.StartLemmas.{anchored_frame-past, first_of-none, first_of-some}
use Rattle.sync_survey.specs.Chains.{frame_of_item}
use Rattle.sync_survey.specs.Items.{header_front, IsItemFront, item_at, item_fits, item_front}
use Rattle.sync_survey.specs.Looks.{Shows}
use Rattle.sync_survey.specs.Start.{anchored_frame, anchored_item, has_anchor, is_anchor}
use Rattle.sync_survey.specs.declared.items.Item.{Item, TheVariants.Frame}
use Rattle.sync_survey.specs.declared.places.PlacedFrame.{PlacedFrame}
use Rattle.sync_survey.specs.declared.survey_fault.SurveyFault.{SurveyFault}

-- ---- no usable anchored frame

-- a frame that isn't anchored isn't usable
pub not_usable : (file : List ℕ) (role : Role) (at : ℕ) → anchored_frame file at ≡ None
    → usable_frame_at file role at ≡ None
unfolding usable_frame_at
not_usable file role at none = ap (frame_if_usable file role) none

get_drop : (xs : List ℕ) (k i : ℕ) → get_or (drop k xs) i 0 ≡ get_or xs (k + i) 0
get_drop xs zero i = ap (λ n. get_or xs n 0) (omega arith)
get_drop [] (suc k) i = refl
get_drop (x ∷ xs) (suc k) i = grind (arith, get_drop xs k i)

-- where no header may begin, no frame does
pub bare_at : (front : List ℕ) → ((i : ℕ) → get_or front i 0 < 256) → (k : ℕ)
    → may_begin_header (get_or front k 0) (get_or front (k + 1) 0) ≡ false → {h : HeaderFields}
    → item_front (drop k front) ≡ Frame h → ⊥
bare_at front few k bare is = grind (arith, stands, header_begins, get_drop, false≢true)

-- ---- where there is no anchored frame

-- the header of a frame here is this one
pub header_same : (bytes : List ℕ) {h g : HeaderFields} → header_front bytes ≡ Ok h
    → item_front bytes ≡ Frame g → h ≡ g
header_same bytes read is = grind (arith, stands)

-- the header of an item that is a frame is the one with which the bytes begin
pub header_of : (bytes : List ℕ) {g : HeaderFields} → item_front bytes ≡ Frame g
    → header_front bytes ≡ Ok g
header_of bytes is = subst (IsItemFront bytes) is (stands bytes)

-- a frame that has no anchor, or isn't usable, isn't a usable anchored one
pub bare_here : (role : Role) (offset : ℕ) (front : List ℕ) (k : ℕ) {g : HeaderFields}
    → header_front (drop k front) ≡ Ok g → k + length_of (class_of g) g.slot ≤ 4064
    → (is_anchor (class_of g) (item_front (drop (k + length_of (class_of g) g.slot) front)) ≡ false)
    ⊎ (is_usable role (record { offset = offset + k; header = g }) (drop k front) ≡ false)
    → HasNoUsableFrame role offset front k
bare_here role offset front k here near none = search (arith, header_same)

-- what holds at the places up to one, and there, holds before the next
pub bare_more : (P : ℕ → Type 0) (from at : ℕ) → ((k : ℕ) → from ≤ k → k < at → P k) → P at
    → (k : ℕ) → from ≤ k → k < at + 1 → P k
bare_more P from at before here k some low = grind (arith, leb-true, leb-false)

-- what holds up to one place, and from there to another, holds up to the other
pub bare_joined : (P : ℕ → Type 0) (from mid to : ℕ) → ((k : ℕ) → from ≤ k → k < mid → P k)
    → ((k : ℕ) → mid ≤ k → k < to → P k) → (k : ℕ) → from ≤ k → k < to → P k
bare_joined P from mid to before behind k low high = grind (arith, leb-true, leb-false)

-- a frame that isn't usable isn't found, anchored or not
unusable : (file : List ℕ) (role : Role) (p : PlacedFrame) (b : Bool)
    → is_usable role p (drop p.offset file) ≡ false
    → frame_if_usable file role (cond b (Some p) None) ≡ None
unusable file role p b is = grind arith

module _ {file : List ℕ} {at : ℕ} {front : List ℕ} {left : ℕ}
    (shows : Shows file at front left) where
  no_anchor : (k : ℕ) (h : HeaderFields) → k + length_of (class_of h) h.slot ≤ 4064
      → is_anchor (class_of h) (item_front (drop (k + length_of (class_of h) h.slot) front)) ≡ false
      → has_anchor file (at + k) h ≡ false
  no_anchor k h near none =
      let size = length_of (class_of h) h.slot in
      let place : at + (k + size) ≡ (at + k) + size = omega arith in
      let behind : item_front (drop (k + size) front) ≡ item_at file ((at + k) + size) =
      item_at-behind shows near ∙ ap (item_at file) place in
      and_right (item_fits file (at + k) (Frame h)) (is_anchor (class_of h)
      (item_at file ((at + k) + size))) (sym (ap (is_anchor (class_of h)) behind) ∙ none)

  bare_frame : (role : Role) (k : ℕ) {h : HeaderFields} → item_front (drop k front) ≡ Frame h
      → k + length_of (class_of h) h.slot ≤ 4064
      → (is_anchor (class_of h) (item_front (drop (k + length_of (class_of h) h.slot) front))
      ≡ false) ⊎ (is_usable role (record { offset = at + k; header = h }) (drop k front) ≡ false)
      → frame_if_usable file role (anchored_item file (at + k) (Frame h)) ≡ None
  bare_frame role k shown near h5 = grind (arith, no_anchor, unusable, usable_behind)

  bare_by : (role : Role) (k : ℕ) {item : Item} → item_front (drop k front) ≡ item
      → HasNoUsableFrame role at front k
      → frame_if_usable file role (anchored_item file (at + k) item) ≡ None
  bare_by role k shown bare = grind (arith, bare_frame)

  bare_usable : (role : Role) {k : ℕ} → k ≤ 4064 → HasNoUsableFrame role at front k
      → usable_frame_at file role (at + k) ≡ None
  unfolding usable_frame_at anchored_frame
  bare_usable role near bare = search (arith, item_at-behind, bare_by)

  -- there is no usable frame at the offsets that are passed
  pub passed_bare : (role : Role) {n earlier : ℕ} → n ≤ 4064
      → ((k : ℕ) → 0 < k → k < n → HasNoUsableFrame role at front k) → at < earlier
      → earlier < at + n → usable_frame_at file role earlier ≡ None
  passed_bare role {earlier = earlier} near bare low high =
      let k = earlier - at in
      let same : at + k ≡ earlier = omega (arith, low) in
      subst (λ m. usable_frame_at file role m ≡ None) same (bare_usable role
      (omega (arith, near, high, low)) (bare k (omega (arith, low)) (omega (arith, high, low))))

-- there is no usable frame before a later offset
pub none_later : (file : List ℕ) (role : Role) {from at later earlier : ℕ}
    → ((k : ℕ) → from ≤ k → k < at → usable_frame_at file role k ≡ None)
    → usable_frame_at file role at ≡ None
    → ((k : ℕ) → at < k → k < later → usable_frame_at file role k ≡ None) → from ≤ earlier
    → earlier < later → usable_frame_at file role earlier ≡ None
none_later file role before here behind low high = grind (arith, leb-true, leb-false)

-- ---- the search

-- a usable frame with none before it is the next one
pub next_usable_frame-some : (file : List ℕ) (role : Role) {from at : ℕ} {p : PlacedFrame}
    → from ≤ at → at < length file → usable_frame_at file role at ≡ Some p
    → ((k : ℕ) → from ≤ k → k < at → usable_frame_at file role k ≡ None)
    → next_usable_frame file role from ≡ Some p
unfolding next_usable_frame
next_usable_frame-some file role {from} low high here none =
    grind (arith, first_of-some (usable_frame_at file role) (length file) from)

none_by_end : (file : List ℕ) (role : Role) {from to at : ℕ} → length file ≤ to
    → ((k : ℕ) → from ≤ k → k < to → usable_frame_at file role k ≡ None) → from ≤ at → {b : Bool}
    → leb to at ≡ b → usable_frame_at file role at ≡ None
none_by_end file role end none low e =
    grind (arith, not_usable, anchored_frame-past, leb-true, leb-false)

-- if there is no usable frame before the end of the file, there is no next one
pub next_usable_frame-none : (file : List ℕ) (role : Role) {from to : ℕ} → length file ≤ to
    → ((k : ℕ) → from ≤ k → k < to → usable_frame_at file role k ≡ None)
    → next_usable_frame file role from ≡ None
unfolding next_usable_frame
next_usable_frame-none file role end none = grind (arith, first_of-none, none_by_end)

-- ---- the first frame

-- a frame where the front ends is the first
pub first_here : (file : List ℕ) (front_end : ℕ) {p : PlacedFrame}
    → option_and_then (frame_of_item front_end) (item_read file First front_end) ≡ Some p
    → first_frame file front_end ≡ Some p
unfolding first_frame
first_here file front_end here = grind arith

-- if none is there, the first frame is the next usable one after it
pub first_later : (file : List ℕ) (front_end : ℕ)
    → option_and_then (frame_of_item front_end) (item_read file First front_end) ≡ None
    → first_frame file front_end ≡ next_usable_frame file First (front_end + 1)
unfolding first_frame
first_later file front_end none = grind arith

-- the first frame is what the search after it finds
pub first_behind : (name : List ℕ) {files mid : Files} (front_end : ℕ)
    (r : Result (Option PlacedFrame) SurveyFault) → mid ≡ files
    → ((bytes : List ℕ) → Holds files name bytes
    → option_and_then (frame_of_item front_end) (item_read bytes First front_end) ≡ None) → IfOk r
    (λ o. (bytes : List ℕ) → Holds mid name bytes
    → o ≡ next_usable_frame bytes First (front_end + 1))
    → IfOk r (λ o. (bytes : List ℕ) → Holds files name bytes → o ≡ first_frame bytes front_end)
first_behind name front_end r same none next = grind (arith, first_later)
