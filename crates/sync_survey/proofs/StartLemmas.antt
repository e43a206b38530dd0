-- The first anchored frame, and the start of the stream.
use Rattle.std.proofs.Common.{ap, arith, Bool, cond, drop, Err, false, filter_map, inr, is_some}
use Rattle.std.proofs.Common.{leb, length, List, MatchOption, min, None, Ok, Option, refl}
use Rattle.std.proofs.Common.{slice_get, Some, subst, suc, sym, true, zero, ℕ, ◌&&◌, ◌+◌, ◌<◌, ◌∙◌}
use Rattle.std.proofs.Common.{◌≡◌, ◌≤◌}
use Rattle.std.proofs.lemmas.{Bool.{and_parts, le-leb, leb-false, leb-true, lt-leb}, List.drop_all}
use Rattle.std.specs.List.{cons_option, range_with_len}
use Rattle.frame_header.specs.{Fields.HeaderFields, Tables.{class_of, length_of}}
use Rattle.sync_survey.proofs.ChainLemmas.{IsItemOf, within_file}
use Rattle.sync_survey.proofs.LooksLemmas.{item_at-behind, item_at-shown, item_fits-left}
use Rattle.sync_survey.proofs.OneItemLemmas.{stands-only_at}
use Rattle.sync_survey.specs.{Items.{item_at, item_fits, item_front}, Looks.Shows}
use Rattle.sync_survey.specs.Start.{anchored_frame, anchored_item, first_anchored, front_end_of}
use Rattle.sync_survey.specs.Start.{has_anchor, is_anchor, is_anchored, IsLeastOffset, IsLeastStart}
use Rattle.sync_survey.specs.Start.{longest_junk, start_after_junk, start_at, start_of}
use Rattle.sync_survey.specs.declared.{chains.Region.TheVariants.Stream, items.Item.Item}
use Rattle.sync_survey.specs.declared.items.Item.TheVariants.{Block, End, Frame, Free}
use Rattle.sync_survey.specs.declared.places.{PlacedFrame.PlacedFrame, Start.Start}
use Rattle.sync_survey.specs.declared.survey_fault.SurveyFault.{SurveyFault}

-- ---- the first of `count` offsets

-- what is at the first of `count` offsets, from `from` on, at which there is something
abbrev pub first_of : (ℕ → Option PlacedFrame) → ℕ → ℕ → Option PlacedFrame
first_of stands count from = slice_get (filter_map stands (range_with_len from count)) 0

-- nothing is at the first offset
nothing_here : {o : Option PlacedFrame} (rest : List PlacedFrame) → o ≡ None
    → slice_get (cons_option o rest) 0 ≡ slice_get rest 0
nothing_here rest none = ap (λ x. slice_get (cons_option x rest) 0) none

-- if nothing is found at any offset, there is no first
pub first_of-none : {stands : ℕ → Option PlacedFrame} (count : ℕ) {from : ℕ}
    → ((at : ℕ) → from ≤ at → at < from + count → stands at ≡ None)
    → first_of stands count from ≡ None
first_of-none zero none = refl
first_of-none {stands} (suc n) {from} none =
    nothing_here (filter_map stands (range_with_len (from + 1) n))
    (none from (omega arith) (omega arith))
    ∙ first_of-none n
    (λ at low high. none at (omega (arith, low)) (omega (arith, high)))

-- this is at an offset, and there is nothing at an earlier one
pub record IsFirstAt (stands : ℕ → Option PlacedFrame) (from to at : ℕ)
    (p : PlacedFrame) : Type 0 where
  pub low : from ≤ at
  pub high : at < to
  pub here : stands at ≡ Some p
  pub none : (earlier : ℕ) → from ≤ earlier → earlier < at → stands earlier ≡ None

first_cases : (stands : ℕ → Option PlacedFrame) (n from at : ℕ) (p : PlacedFrame)
    (o : Option PlacedFrame) → stands from ≡ o → IsFirstAt stands from (from + suc n) at p →
    (IsFirstAt stands (from + 1) ((from + 1) + n) at p → first_of stands n (from + 1) ≡ Some p)
    → slice_get (cons_option o (filter_map stands (range_with_len (from + 1) n))) 0 ≡ Some p
first_cases stands n from at p o is first behind = grind arith

-- what is at an offset, with nothing before it, is the first
pub first_of-some : (stands : ℕ → Option PlacedFrame) (count from at : ℕ) (p : PlacedFrame)
    → IsFirstAt stands from (from + count) at p → first_of stands count from ≡ Some p
first_of-some stands zero from at p first = absurd (omega (arith, first.low, first.high))
first_of-some stands (suc n) from at p first =
    first_cases stands n from at p (stands from) refl first (first_of-some stands n (from + 1) at p)

-- if nothing was found, there is nothing
is_nothing : (stands : ℕ → Option PlacedFrame) (n from at : ℕ) (o : Option PlacedFrame)
    → stands from ≡ o
    → slice_get (cons_option o (filter_map stands (range_with_len (from + 1) n))) 0 ≡ None →
    (first_of stands n (from + 1) ≡ None → from + 1 ≤ at → at < (from + 1) + n → stands at ≡ None)
    → (x : Option PlacedFrame) → stands at ≡ x → from ≤ at → at < from + suc n → stands at ≡ None
is_nothing stands n from at o is found behind x here low high = grind arith

-- if there is no first, there is nothing at any offset
pub first_of-nothing : (stands : ℕ → Option PlacedFrame) (count from : ℕ)
    → first_of stands count from ≡ None → (at : ℕ) → from ≤ at → at < from + count
    → stands at ≡ None
first_of-nothing stands zero from found at low high = absurd (omega (arith, low, high))
first_of-nothing stands (suc n) from found at low high = is_nothing stands n from at (stands from)
    refl found (λ later. first_of-nothing stands n (from + 1) later at) (stands at) refl low high

is_found : {stands : ℕ → Option PlacedFrame} (n : ℕ) {from : ℕ} {p : PlacedFrame}
    {o : Option PlacedFrame} → stands from ≡ o
    → slice_get (cons_option o (filter_map stands (range_with_len (from + 1) n))) 0 ≡ Some p →
    (first_of stands n (from + 1) ≡ Some p
    → (at : ℕ) × IsFirstAt stands (from + 1) ((from + 1) + n) at p)
    → (at : ℕ) × IsFirstAt stands from (from + suc n) at p
is_found n is found behind = grind arith

-- the first is at its offset, with nothing before it
pub first_of-is : {stands : ℕ → Option PlacedFrame} (count : ℕ) {from : ℕ} {p : PlacedFrame}
    → first_of stands count from ≡ Some p → (at : ℕ) × IsFirstAt stands from (from + count) at p
first_of-is zero found = absurd cc
first_of-is {stands} (suc n) {from} {p} found =
    grind (arith, is_found, first_of-is {stands = stands} n {from = from + 1} {p = p})

-- ---- anchored frames

-- an anchored frame is at the offset
pub record IsAnchoredAt (file : List ℕ) (at : ℕ) (p : PlacedFrame) : Type 0 where
  pub offset : p.offset ≡ at
  pub frame : IsItemOf Stream file p.offset (Frame p.header)

anchor_cases : (file : List ℕ) (at : ℕ) (h : HeaderFields) (b : Bool) (p : PlacedFrame)
    → item_at file at ≡ Frame h → has_anchor file at h ≡ b
    → cond b (Some (record { offset = at; header = h })) None ≡ Some p → IsAnchoredAt file at p
anchor_cases file at h true p is anchor e =
    let same : record { offset = at; header = h } ≡ p = cc in
    subst (IsAnchoredAt file at) same (record {
      offset = refl;
      frame = within_file Stream file at (Frame h) is refl (and_parts _ _ anchor).0;
    })
anchor_cases file at h false p is anchor e = absurd cc

anchored_item-cases : (file : List ℕ) (at : ℕ) (item : Item) (p : PlacedFrame)
    → item_at file at ≡ item → anchored_item file at item ≡ Some p → IsAnchoredAt file at p
anchored_item-cases file at (Frame h) p is e = anchor_cases file at h _ p is refl e
anchored_item-cases file at _ p is e = absurd cc

-- what passes the test of anchored frames is one
pub anchored_frame-is : {file : List ℕ} {at : ℕ} {p : PlacedFrame} → anchored_frame file at ≡ Some p
    → IsAnchoredAt file at p
unfolding anchored_frame
anchored_frame-is {file} {at} {p} e = anchored_item-cases file at (item_at file at) p refl e

-- the anchored frame that the code meets first is the one that is defined
pub first_anchored-some : (count : ℕ) (file : List ℕ) {from at : ℕ} {p : PlacedFrame} → from ≤ at
    → at < from + count → anchored_frame file at ≡ Some p
    → ((earlier : ℕ) → from ≤ earlier → earlier < at → anchored_frame file earlier ≡ None) →
    first_anchored count file from ≡ Some p
unfolding first_anchored
first_anchored-some count file {from} {at} {p} low high here none =
    first_of-some (anchored_frame file)
    count from at p (record { low = low; high = high; here = here; none = none })

-- without an anchored frame at any offset there is no first one
pub first_anchored-none : (count : ℕ) (file : List ℕ) {from : ℕ}
    → ((at : ℕ) → from ≤ at → at < from + count → anchored_frame file at ≡ None)
    → first_anchored count file from ≡ None
unfolding first_anchored
first_anchored-none count file {from} none = first_of-none count none

-- the frame at the smallest offset of the range at which there is an anchored one; none if there is
-- none
abbrev IsFirstAnchored : List ℕ → ℕ → ℕ → Option PlacedFrame → Type 0
IsFirstAnchored file from to r = MatchOption r ((at : ℕ) → from ≤ at → at < to
    → is_anchored file at ≡ false) (λ p. IsLeastOffset (is_anchored file) from to p.offset)

-- the first anchored frame is at the smallest offset
least_at : (file : List ℕ) {from to at : ℕ} {p : PlacedFrame}
    → IsFirstAt (anchored_frame file) from to at p → IsLeastOffset (is_anchored file) from to at
least_at file first = grind (arith, is_some)

-- the first anchored frame has no other before it
pub first_anchored-least : (count : ℕ) (file : List ℕ) (from : ℕ) (r : Option PlacedFrame)
    → first_anchored count file from ≡ r → IsFirstAnchored file from (from + count) r
unfolding first_anchored
first_anchored-least count file from None found =
    λ at low high. ap is_some (first_of-nothing (anchored_frame file) count from found at low high)
first_anchored-least count file from (Some p) found =
    let first = first_of-is count found in
    subst (IsLeastOffset (is_anchored file) from (from + count))
    (sym (anchored_frame-is first.1.here).offset)
    (least_at file first.1)

-- the first anchored frame is a whole frame of the stream
pub first_anchored-frame : (count : ℕ) {file : List ℕ} (from : ℕ) {p : PlacedFrame}
    → first_anchored count file from ≡ Some p → IsItemOf Stream file p.offset (Frame p.header)
unfolding first_anchored
first_anchored-frame count {file} from {p} found =
    let first = first_of-is count found in
    (anchored_frame-is first.1.here).frame

-- ---- the first frame

-- the start of a stream: its frame is whole, and none is before it
pub record IsFirstFrame (file : List ℕ) (s : Start) : Type 0 where
  pub frame : IsItemOf Stream file s.first.offset (Frame s.first.header)
  pub least : IsLeastStart file s

item_fits-cases : (file : List ℕ) (at : ℕ) (h : HeaderFields) (b : Bool) (fault : SurveyFault)
    (s : Start) → item_at file at ≡ Frame h → item_fits file at (Frame h) ≡ b →
    cond b (Ok (record { front_end = at; first = record { offset = at; header = h } })) (Err fault)
    ≡ Ok s → IsFirstFrame file s
item_fits-cases file at h true fault s is fit e =
    grind (arith, within_file Stream file at (Frame h) is refl fit)
item_fits-cases file at h false fault s is fit e = absurd cc

behind_cases : (file : List ℕ) (front_end : ℕ) (o : Option PlacedFrame) (s : Start)
    → first_anchored longest_junk file (front_end + 1) ≡ o → start_after_junk front_end o ≡ Ok s
    → IsFirstFrame file s
behind_cases file front_end None s is e = absurd cc
behind_cases file front_end (Some p) s is e =
    let same : record { front_end = front_end; first = p } ≡ s = cc in
    subst (IsFirstFrame file) same (record {
      frame = first_anchored-frame longest_junk (front_end + 1) is;
      least = inr (first_anchored-least longest_junk file (front_end + 1) (Some p) is);
    })

start_cases : (file : List ℕ) (at : ℕ) (item : Item) (s : Start) → item_at file at ≡ item
    → start_at file at item ≡ Ok s → IsFirstFrame file s
start_cases file at (Frame h) s is e = item_fits-cases file at h _ _ s is refl e
start_cases file at Free s is e = absurd cc
start_cases file at (Block b) s is e = absurd cc
start_cases file at _ s is e = behind_cases file at _ s refl e

-- the first frame of a stream is whole, and none is before it
pub start-first : {file : List ℕ} {s : Start} → start_of file ≡ Ok s → IsFirstFrame file s
unfolding start_of
start-first e = search (arith, start_cases)

-- ---- where the front ends

front_cases : (file : List ℕ) {at : ℕ} (item : Item) {s : Start} → start_at file at item ≡ Ok s
    → s.front_end ≡ at
front_cases file item e = grind arith

-- the start says where the front of the file ends
pub start-front : (file : List ℕ) {s : Start} → start_of file ≡ Ok s
    → s.front_end ≡ front_end_of file
unfolding start_of
start-front file {s} e = front_cases file (item_at file (front_end_of file)) e

-- ---- a frame that a look shows

module _ {file : List ℕ} {at : ℕ} {front : List ℕ} {left : ℕ}
    (shows : Shows file at front left) where
  none_by : {item : Item} → item_at file at ≡ item
      → ((h : HeaderFields) → item ≡ Frame h → has_anchor file at h ≡ false)
      → anchored_frame file at ≡ None
  unfolding anchored_frame
  none_by is without = grind arith

  -- if no frame is here, none is anchored
  pub shown_none : {item : Item} → item ≡ item_front front
      → ((h : HeaderFields) → item ≡ Frame h → ⊥) → anchored_frame file at ≡ None
  shown_none {item} is none = none_by (sym (item_at-shown shows) ∙ sym is)
      (λ h e. absurd (none h e))

  -- a frame that isn't whole isn't anchored
  pub shown_over : {h : HeaderFields} → item_front front ≡ Frame h
      → left < length_of (class_of h) h.slot → anchored_frame file at ≡ None
  shown_over {h} is past =
      none_by (sym (item_at-shown shows) ∙ is) (λ g e.
      let same : h ≡ g = cc in
      let over : item_fits file at (Frame h) ≡ false =
      grind (arith, item_fits-left, lt-leb) in
      subst (λ x. has_anchor file at x ≡ false) same (ap (λ b. b
      && is_anchor (class_of h) (item_at file (at + length_of (class_of h) h.slot))) over))

  -- a whole frame with this item after it is anchored if the item is an anchor
  pub shown_before : {h : HeaderFields} {behind : Item} → item_front front ≡ Frame h
      → length_of (class_of h) h.slot ≤ left → length_of (class_of h) h.slot ≤ 4064
      → behind ≡ item_front (drop (length_of (class_of h) h.slot) front)
      → anchored_frame file at ≡ cond (is_anchor (class_of h) behind)
      (Some (record { offset = at; header = h })) None
  unfolding anchored_frame
  shown_before is within few end =
      grind (arith, item_fits-left, le-leb, item_at-behind, item_at-shown shows)

-- ---- where the search ends

-- no frame is anchored past the end of the file
pub anchored_frame-past : (file : List ℕ) (at : ℕ) → length file ≤ at
    → anchored_frame file at ≡ None
unfolding anchored_frame
anchored_frame-past file at past = grind (arith, stands-only_at file at End (drop_all at file past))

none_by_end : (file : List ℕ) {from to at : ℕ}
    → ((earlier : ℕ) → from ≤ earlier → earlier < to → anchored_frame file earlier ≡ None) → from
    ≤ at → (to ≤ at → length file ≤ at) → (b : Bool) → leb to at ≡ b → anchored_frame file at ≡ None
none_by_end file none low end true e = grind (arith, anchored_frame-past, leb-true)
none_by_end file {to = to} {at = at} none low end false e = none at low (leb-false to at e)

-- no anchored frame is before the end of the file or of the search
pub none_anchored : (file : List ℕ) {size from to : ℕ} → size ≡ length file
    → min size (from + longest_junk) ≤ to
    → ((earlier : ℕ) → from ≤ earlier → earlier < to → anchored_frame file earlier ≡ None)
    → first_anchored longest_junk file from ≡ None
none_anchored file {from = from} {to = to} is end none =
    grind (arith, first_anchored-none, none_by_end file {from = from} {to = to}, none)

-- ---- the start, given what is where the front ends

-- the start of a file is found from the item with which its front ends
pub start_is : (file : List ℕ) (at : ℕ) (item : Item) → at ≡ front_end_of file
    → item_at file at ≡ item → start_of file ≡ start_at file at item
unfolding start_of
start_is file at item end here = grind (arith, here)
