-- Pieces of a file that are joined without seams join as parts of the file do.
use Rattle.std.proofs.Common.{ap, append_assoc, ap₂, arith, Bool, drop, false, flat_map, inl, inr}
use Rattle.std.proofs.Common.{length, List, map, None, Option, refl, Some, subst, sym, true, ℕ, []}
use Rattle.std.proofs.Common.{◌++◌, ◌∙◌, ◌∷◌, ◌≡◌, ◌⊎◌}
use Rattle.std.proofs.lemmas.{Bool.{and_from, and_left, both_ways}, List.map-append}
use Rattle.std.specs.Option.{option_or, option_to_list}
use Rattle.std.specs.Prelude.{find, if◌then◌else◌, not, option_map, unwrap_or, ◌&&◌}
use Rattle.frame_header.specs.Fields.{ClassFields, HeaderFields, IsClass, SlotFields}
use Rattle.frame_header.specs.{Slots.all_slots, Tables.window_of}
use Rattle.remove_edits.proofs.ItemLemmas.{needs-append}
use Rattle.remove_laws.specs.PieceLaws.{ArePartPieces, IsLedPart, IsPartPiece, PiecesJoinAsParts}
use Rattle.seam_laws.proofs.PieceSpliceLemmas.{front-lacks, joining_frames-own, none-follows}
use Rattle.seam_laws.proofs.PieceSpliceLemmas.{unled-without}
use Rattle.seam_laws.specs.SpliceLaws.{AreHeadersKnown, IsUnledPiece}
use Rattle.seam_plan.proofs.FitLemmas.{fits-tested}
use Rattle.seam_plan.proofs.PartJointLemmas.{joined_in, needs-bare, needs-items}
use Rattle.seam_plan.proofs.{PartJointLemmas.splice_part_items-is, PartSpliceLemmas.part-added}
use Rattle.seam_plan.specs.Frames.{Brought, needs_of, SpliceFrame}
use Rattle.seam_plan.specs.Joins.{fits_behind, frame_in_slot, has_lead_in, is_area_no_less}
use Rattle.seam_plan.specs.Joins.{join_slot, joining_frames}
use Rattle.seam_plan.specs.PartSplices.{bare_frames, frame_item, IsPartNeeds, item_needs}
use Rattle.seam_plan.specs.PartSplices.{items_behind, joined_items, lead_in_splice_item}
use Rattle.seam_plan.specs.PartSplices.{splice_items, splice_part_items, SpliceItem}
use Rattle.seam_plan.specs.Seams.{front_left_out_count, joint_of, joint_with, joint_without_lead_in}
use Rattle.seam_plan.specs.Seams.{JointFrames, joints_from, left_out_count, seamless_join}
use Rattle.seam_plan.specs.Seams.{splice_of, whole_joint}
use Rattle.seam_plan.specs.declared.seam.Seam.TheVariants.{LeadIn, Whole}
use Rattle.slot_plan.proofs.FreeByteLemmas.{cons-fits, fits-cons, more-behind, own-left, then-fits}
use Rattle.slot_plan.specs.{FreeBytes.{FitsBehind, need_in_slot}, Parts.own_slot_area}
use Rattle.slot_plan.specs.{Reserve.free_bytes_behind, declared.needs.Need.Need}

-- ---- splices behind which the same frames fit

-- the same frames fit behind both splices
abbrev pub FitAlike : ℕ → List Need → List Need → Type 0
FitAlike window splice other =
    (more : List Need) → fits_behind window window (splice ++ more)
    ≡ fits_behind window window (other ++ more)

empty-behind : (window : ℕ) (need : Need) → need.bytes ≡ 0
    → free_bytes_behind window window need.bytes (own_slot_area need) ≡ window
empty-behind window need empty = omega (arith, empty)

-- a frame without main data before a splice changes nothing
empty-alike : (window : ℕ) (need : Need) (splice : List Need) → need.bytes ≡ 0
    → FitAlike window (need ∷ splice) splice
empty-alike window need splice empty more =
    grind (arith, both_ways, with-empty, without-empty)
  where
    with-empty : fits_behind window window (splice ++ more) ≡ true
        → fits_behind window window (need ∷ (splice ++ more)) ≡ true
    with-empty is =
        (fits-tested window window (need ∷ (splice ++ more))).1
        (cons-fits need (splice ++ more) (omega arith) (omega (arith, empty))
        (subst (λ n. FitsBehind window n (splice ++ more)) (sym (empty-behind window need empty))
        ((fits-tested window window (splice ++ more)).0 is)))

    without-empty : fits_behind window window (need ∷ (splice ++ more)) ≡ true
        → fits_behind window window (splice ++ more) ≡ true
    without-empty is =
        (fits-tested window window (splice ++ more)).1
        (subst (λ n. FitsBehind window n (splice ++ more)) (empty-behind window need empty)
        (fits-cons need (splice ++ more) (omega arith)
        ((fits-tested window window (need ∷ (splice ++ more))).0 is)).1)

find-same : {test other : SlotFields → Bool} (slots : List SlotFields)
    → ((slot : SlotFields) → test slot ≡ other slot) → find test slots ≡ find other slots
find-same [] same = refl
find-same {test} {other} (s ∷ slots) same =
    rw (same s) (ap (λ o. if other s then Some s else o) (find-same slots same))

slot-alike : (window : ℕ) (splice other : List Need) (first : Need) (needs : List Need)
    → FitAlike window splice other → join_slot window splice first needs
    ≡ join_slot window other first needs
slot-alike window splice other first needs alike =
    find-same all_slots
    (λ s. ap (λ b. is_area_no_less first s && b) (alike (need_in_slot s first ∷ needs)))

-- ---- how a piece and its part join

-- a part joins without a lead-in, and so does its piece: none of
-- its frames is left out if it fits after no bytes, otherwise one
pub record IsWithoutLeadIn (fits : Bool) (own : List Need) (items : List SpliceItem) (out : ℕ)
    : Type 0 where
  pub needs : List Need
  pub many : length needs ≡ length own
  pub are : items ≡ map frame_item needs
  pub out_is : out ≡ (if fits then 0 else 1)

-- a part joins behind a lead-in, and its piece, which has one, with all its frames
pub record IsBehindLeadIn (fits : Bool) (own : List Need) (items : List SpliceItem) (out : ℕ)
    : Type 0 where
  pub header : HeaderFields
  pub are : items ≡ lead_in_splice_item header ∷ map frame_item own
  pub lacks : fits ≡ false
  pub out_is : out ≡ 0

-- a part with these needs joins as these items, and its
-- piece without so many frames at its front
abbrev pub JoinsAs : Bool → List Need → List SpliceItem → ℕ → Type 0
JoinsAs fits own items out = IsWithoutLeadIn fits own items out ⊎ IsBehindLeadIn fits own items out

-- ---- one piece

module _ (class : ClassFields) (known : IsClass class) where
  abbrev window : ℕ
  window = window_of class.version

  module _ (splice : List SpliceFrame) (own : List Need)
      (alike : FitAlike window (needs_of splice) own)
      (fits : FitsBehind window window own) (before input : Brought) where
    frames-fit : (needs : List Need) → fits_behind window 0 needs ≡ true
        → FitsBehind window window (own ++ needs)
    frames-fit needs fit = grind (arith, own-left, then-fits, more-behind, fits-tested)

    -- a piece that fits after no bytes joins with all its frames
    unled-whole : {frames : List SpliceFrame} → IsUnledPiece window frames input
        → input.played ≡ None → joint_of class splice before input ≡ joint_with Whole input.frames
    unled-whole unled uncounted = grind (arith, none-follows, unled-without)

    -- the items of its part are its frames
    unled-items : (frames : List SpliceFrame) → fits_behind window 0 (needs_of frames) ≡ true
        → AreHeadersKnown (bare_frames (needs_of frames))
        → splice_part_items window own (needs_of frames) ≡ map frame_item (needs_of frames)
    unled-items frames fit headers =
        let needs = needs_of frames in
        let both : needs_of (bare_frames own ++ bare_frames needs) ≡ own ++ needs =
        map-append (λ (f : SpliceFrame). f.need) (bare_frames own) (bare_frames needs)
        ∙ ap₂ (λ (x y : List Need). x ++ y) (needs-bare own) (needs-bare needs) in
        let joined = joining_frames-own window (bare_frames own) headers
        (ap (fits_behind window window) both
        ∙ (fits-tested window window (own ++ needs)).1 (frames-fit needs fit)) in
        ap (joined_items window needs) joined ∙ ap (map frame_item) (needs-bare needs)

    unled-joint : {frames : List SpliceFrame} → IsUnledPiece window frames input
        → input.played ≡ None → fits_behind window 0 (needs_of frames) ≡ true
        → AreHeadersKnown (bare_frames (needs_of frames))
        → needs_of (joint_of class splice before input).frames
        ≡ item_needs (splice_part_items window own (needs_of frames))
    unled-joint {frames} unled uncounted fit headers =
        ap (λ (j : JointFrames). needs_of j.frames) (unled-whole unled uncounted)
        ∙ ap needs_of unled.frames_are
        ∙ sym (ap item_needs (unled-items frames fit headers) ∙ needs-items (needs_of frames))

    led-without : {frames : List SpliceFrame} → IsLedPart window frames input
        → fits_behind window 0 (needs_of frames) ≡ false
        → joint_without_lead_in class splice input
        ≡ option_map (joint_with LeadIn) (joining_frames window splice frames)
    unfolding joint_without_lead_in
    led-without led lacks = grind (arith, and_from, led.has, led.frames_are)

    led-by : {f : SpliceFrame} {fs : List SpliceFrame} → IsLedPart window (f ∷ fs) input
        → (o : Option SlotFields)
        → needs_of (unwrap_or (option_map (joint_with LeadIn)
        (option_map (λ slot. frame_in_slot slot f ∷ fs) o)) (whole_joint input)).frames
        ≡ item_needs (joined_in window f.need (needs_of fs) o)
    led-by {f} {fs} led None =
        let needs = needs_of (f ∷ fs) in
        ap needs_of led.frames_are
        ∙ ap (λ (n : Need). n ∷ needs) led.need
        ∙ sym (ap (λ o. item_needs (option_to_list (option_map lead_in_splice_item o)
        ++ map frame_item needs)) led.is
        ∙ ap (λ (l : List Need). record { header = led.header; bytes = 0 } ∷ l)
        (needs-items needs))
    led-by {f} {fs} led (Some slot) = sym (needs-items (need_in_slot slot f.need ∷ needs_of fs))

    -- a piece that doesn't fit after no bytes joins in the slot in which its part does
    led-is : {f : SpliceFrame} {fs : List SpliceFrame} → IsLedPart window (f ∷ fs) input
        → input.played ≡ None → fits_behind window 0 (needs_of (f ∷ fs)) ≡ false
        → joint_of class splice before input
        ≡ unwrap_or (option_map (joint_with LeadIn) (option_map (λ slot. frame_in_slot slot f ∷ fs)
        (join_slot window own f.need (needs_of fs)))) (whole_joint input)
    unfolding joining_frames
    led-is {f} {fs} led uncounted lacks =
        ap₂ (λ a b. unwrap_or (option_or a b) (whole_joint input))
        (none-follows class splice before input uncounted) (led-without led lacks)
        ∙ ap (λ s. unwrap_or (option_map (joint_with LeadIn)
        (option_map (λ slot. frame_in_slot slot f ∷ fs) s)) (whole_joint input))
        (slot-alike window (needs_of splice) own f.need (needs_of fs) alike)

    led-joint : (frames : List SpliceFrame) → IsLedPart window frames input
        → input.played ≡ None → fits_behind window 0 (needs_of frames) ≡ false
        → IsPartNeeds class (needs_of frames)
        → needs_of (joint_of class splice before input).frames
        ≡ item_needs (splice_part_items window own (needs_of frames))
    led-joint [] led uncounted lacks part = absurd (omega (arith, part.some))
    led-joint (f ∷ fs) led uncounted lacks part =
        ap (λ (j : JointFrames). needs_of j.frames) (led-is led uncounted lacks)
        ∙ led-by led (join_slot window own f.need (needs_of fs))
        ∙ sym (ap item_needs (splice_part_items-is window own f.need (needs_of fs)))

    -- a piece joins as the part does
    pub piece-joint : {frames : List SpliceFrame} → IsPartPiece class frames input
        → AreHeadersKnown (bare_frames (needs_of frames))
        → needs_of (joint_of class splice before input).frames
        ≡ item_needs (splice_part_items window own (needs_of frames))
    piece-joint {frames} piece headers = by (fits_behind window 0 (needs_of frames)) refl
      where
        by : (b : Bool) → fits_behind window 0 (needs_of frames) ≡ b
            → needs_of (joint_of class splice before input).frames
            ≡ item_needs (splice_part_items window own (needs_of frames))
        by true fit = unled-joint (piece.unled fit) piece.uncounted fit headers
        by false lacks = led-joint frames (piece.led lacks) piece.uncounted lacks piece.needs

    -- ---- how its lead-in and the items belong together

    led-way : {f : SpliceFrame} {fs : List SpliceFrame} → IsLedPart window (f ∷ fs) input
        → (o : Option SlotFields)
        → JoinsAs false (needs_of (f ∷ fs)) (joined_in window f.need (needs_of fs) o)
        (left_out_count (unwrap_or (option_map (joint_with LeadIn)
        (option_map (λ slot. frame_in_slot slot f ∷ fs) o)) (whole_joint input)).seam)
    led-way {f} {fs} led None =
        inr (record {
          header = led.header;
          are = ap (λ o. option_to_list (option_map lead_in_splice_item o)
              ++ map frame_item (needs_of (f ∷ fs))) led.is;
          lacks = refl;
          out_is = refl;
        })
    led-way {f} {fs} led (Some slot) =
        inl (record {
          needs = need_in_slot slot f.need ∷ needs_of fs;
          many = refl;
          are = refl;
          out_is = refl;
        })

    led-as : (frames : List SpliceFrame) → IsLedPart window frames input → input.played ≡ None
        → fits_behind window 0 (needs_of frames) ≡ false → IsPartNeeds class (needs_of frames)
        → JoinsAs false (needs_of frames) (splice_part_items window own (needs_of frames))
        (left_out_count (joint_of class splice before input).seam)
    led-as [] led uncounted lacks part = absurd (omega (arith, part.some))
    led-as (f ∷ fs) led uncounted lacks part =
        subst (λ items. JoinsAs false (needs_of (f ∷ fs)) items
        (left_out_count (joint_of class splice before input).seam))
        (sym (splice_part_items-is window own f.need (needs_of fs)))
        (subst (λ (j : JointFrames). JoinsAs false (needs_of (f ∷ fs))
        (joined_in window f.need (needs_of fs) (join_slot window own f.need (needs_of fs)))
        (left_out_count j.seam)) (sym (led-is led uncounted lacks))
        (led-way led (join_slot window own f.need (needs_of fs))))

    -- a piece joins without its lead-in exactly if its part joins without one
    pub joins-as : {frames : List SpliceFrame} → IsPartPiece class frames input
        → AreHeadersKnown (bare_frames (needs_of frames))
        → JoinsAs (fits_behind window 0 (needs_of frames)) (needs_of frames)
        (splice_part_items window own (needs_of frames))
        (left_out_count (joint_of class splice before input).seam)
    joins-as {frames} piece headers = by (fits_behind window 0 (needs_of frames)) refl
      where
        by : (b : Bool) → fits_behind window 0 (needs_of frames) ≡ b
            → JoinsAs (fits_behind window 0 (needs_of frames)) (needs_of frames)
            (splice_part_items window own (needs_of frames))
            (left_out_count (joint_of class splice before input).seam)
        by true fit =
            inl (record {
              needs = needs_of frames;
              many = refl;
              are = unled-items frames fit headers;
              out_is = ap (λ (j : JointFrames). left_out_count j.seam)
                  (unled-whole (piece.unled fit) piece.uncounted)
                  ∙ sym (ap (λ b. if b then 0 else 1) fit);
            })
        by false lacks =
            subst (λ b. JoinsAs b (needs_of frames) (splice_part_items window own (needs_of frames))
            (left_out_count (joint_of class splice before input).seam)) (sym lacks)
            (led-as frames (piece.led lacks) piece.uncounted lacks piece.needs)

  -- frames of which only the needs are known have known headers if the frames do
  pub bare-known : (frames : List SpliceFrame) → AreHeadersKnown frames
      → AreHeadersKnown (bare_frames (needs_of frames))
  bare-known [] are = tt
  bare-known (f ∷ frames) are = (are.0, bare-known frames are.1)

  frames-append : (xs ys : List SpliceFrame) → needs_of (xs ++ ys) ≡ needs_of xs ++ needs_of ys
  frames-append xs ys = map-append (λ (f : SpliceFrame). f.need) xs ys

  -- behind a piece and its part the same frames fit
  pub alike-next : (splice more : List SpliceFrame) (own : List Need) (items : List SpliceItem)
      → FitAlike window (needs_of splice) own → needs_of more ≡ item_needs items
      → FitAlike window (needs_of (splice ++ more)) (own ++ item_needs items)
  alike-next splice more own items alike here l =
      ap (λ (n : List Need). fits_behind window window (n ++ l))
      (frames-append splice more ∙ ap (λ (n : List Need). needs_of splice ++ n) here)
      ∙ ap (fits_behind window window) (append_assoc (needs_of splice) (item_needs items) l)
      ∙ alike (item_needs items ++ l)
      ∙ ap (fits_behind window window) (sym (append_assoc own (item_needs items) l))

  -- ---- all later pieces

  pieces-join : (splice : List SpliceFrame) (own : List Need) (before : Brought)
      (more : List (List SpliceFrame)) (inputs : List Brought)
      → FitAlike window (needs_of splice) own → FitsBehind window window own
      → ArePartPieces class more inputs
      → needs_of (flat_map (λ (j : JointFrames). j.frames) (joints_from class splice before inputs))
      ≡ item_needs (items_behind window own (map needs_of more))
  unfolding joints_from items_behind
  pieces-join splice own before [] [] alike fits are = refl
  pieces-join splice own before [] (input ∷ inputs) alike fits are = absurd are
  pieces-join splice own before (frames ∷ more) [] alike fits are = absurd are
  pieces-join splice own before (frames ∷ more) (input ∷ inputs) alike fits are =
      let joint = joint_of class splice before input in
      let items = splice_part_items window own (needs_of frames) in
      let later = items_behind window (own ++ item_needs items) (map needs_of more) in
      let here = piece-joint splice own alike fits before input are.0
      (bare-known frames are.0.known) in
      let next = alike-next splice joint.frames own items alike here in
      let added = part-added class known (needs_of frames) are.0.needs fits in
      frames-append joint.frames (flat_map (λ (j : JointFrames). j.frames)
      (joints_from class (splice ++ joint.frames) input inputs))
      ∙ ap₂ (λ (x y : List Need). x ++ y) here
      (pieces-join (splice ++ joint.frames) (own ++ item_needs items) input more inputs next
      added.fits are.1)
      ∙ sym (needs-append items later)

  module _ {frames : List SpliceFrame} (more : List (List SpliceFrame)) {first : Brought}
      (inputs : List Brought) (piece : IsPartPiece class frames first)
      (are : ArePartPieces class more inputs) where
    abbrev rest : List SpliceFrame
    rest = flat_map (λ (j : JointFrames). j.frames) (joints_from class first.frames first inputs)

    abbrev behind : List Need
    behind = item_needs (items_behind window (needs_of frames) (map needs_of more))

    rest-is : FitAlike window (needs_of first.frames) (needs_of frames)
        → needs_of rest ≡ behind
    rest-is alike =
        pieces-join first.frames (needs_of frames) first more inputs alike piece.needs.fits are

    items-are : item_needs (splice_items window (map needs_of (frames ∷ more)))
        ≡ needs_of frames ++ behind
    unfolding splice_items
    items-are =
        needs-append (map frame_item (needs_of frames))
        (items_behind window (needs_of frames) (map needs_of more))
        ∙ ap (λ (l : List Need). l ++ behind) (needs-items (needs_of frames))

    splice-by : {begin : List SpliceFrame} {count : ℕ} → first.frames ≡ begin
        → front_left_out_count class first (begin ++ rest) ≡ count
        → drop count (begin ++ rest) ≡ frames ++ rest → needs_of rest ≡ behind
        → needs_of (splice_of first (seamless_join class first inputs))
        ≡ item_needs (splice_items window (map needs_of (frames ∷ more)))
    unfolding seamless_join
    splice-by {begin} is front dropped same =
        ap (λ (l : List SpliceFrame). needs_of (drop (front_left_out_count class first (l ++ rest))
        (l ++ rest))) is
        ∙ ap (λ n. needs_of (drop n (begin ++ rest))) front
        ∙ ap needs_of dropped ∙ frames-append frames rest
        ∙ ap (λ (l : List Need). needs_of frames ++ l) same ∙ sym items-are

    unled-front : IsUnledPiece window frames first
        → front_left_out_count class first (frames ++ rest) ≡ 0
    unfolding front_left_out_count
    unled-front unled =
        ap (λ b. if b then 1 else 0) (and_left (has_lead_in window first)
        (not (fits_behind window 0 (needs_of (drop 1 (frames ++ rest))))) unled.none)

    unled-alike : IsUnledPiece window frames first
        → FitAlike window (needs_of first.frames) (needs_of frames)
    unled-alike unled l =
        ap (λ (fs : List SpliceFrame). fits_behind window window (needs_of fs ++ l))
        unled.frames_are

    unled-splice : IsUnledPiece window frames first
        → needs_of (splice_of first (seamless_join class first inputs))
        ≡ item_needs (splice_items window (map needs_of (frames ∷ more)))
    unled-splice unled =
        splice-by unled.frames_are (unled-front unled) refl (rest-is (unled-alike unled))

    led-front : fits_behind window 0 (needs_of frames) ≡ false
        → (led : IsLedPart window frames first)
        → front_left_out_count class first (led.lead_in ∷ frames ++ rest) ≡ 1
    unfolding front_left_out_count
    led-front lacks led =
        ap (λ b. if b then 1 else 0) (and_from (has_lead_in window first)
        (not (fits_behind window 0 (needs_of (frames ++ rest)))) led.has
        (ap not (front-lacks window 0 frames rest lacks)))

    led-alike : IsLedPart window frames first
        → FitAlike window (needs_of first.frames) (needs_of frames)
    led-alike led l =
        ap (λ (fs : List SpliceFrame). fits_behind window window (needs_of fs ++ l)) led.frames_are
        ∙ empty-alike window led.lead_in.need (needs_of frames)
        (ap (λ (n : Need). n.bytes) led.need) l

    led-splice : fits_behind window 0 (needs_of frames) ≡ false → IsLedPart window frames first
        → needs_of (splice_of first (seamless_join class first inputs))
        ≡ item_needs (splice_items window (map needs_of (frames ∷ more)))
    led-splice lacks led =
        splice-by led.frames_are (led-front lacks led) refl
        (rest-is (led-alike led))

    -- the same frames fit behind the first piece and behind its part
    pub first-alike : FitAlike window (needs_of first.frames) (needs_of frames)
    first-alike = by (fits_behind window 0 (needs_of frames)) refl
      where
        by : (b : Bool) → fits_behind window 0 (needs_of frames) ≡ b
            → FitAlike window (needs_of first.frames) (needs_of frames)
        by true fit = unled-alike (piece.unled fit)
        by false lacks = led-alike (piece.led lacks)

    -- exactly its lead-in leaves the splice at the end
    pub front-out : (seamless_join class first inputs).front
        ≡ (if fits_behind window 0 (needs_of frames) then 0 else 1)
    unfolding seamless_join
    front-out = by (fits_behind window 0 (needs_of frames)) refl
      where
        by : (b : Bool) → fits_behind window 0 (needs_of frames) ≡ b
            → front_left_out_count class first (first.frames ++ rest)
            ≡ (if fits_behind window 0 (needs_of frames) then 0 else 1)
        by true fit =
            ap (λ (l : List SpliceFrame). front_left_out_count class first (l ++ rest))
            (piece.unled fit).frames_are
            ∙ unled-front (piece.unled fit) ∙ sym (ap (λ b. if b then 0 else 1) fit)
        by false lacks =
            ap (λ (l : List SpliceFrame). front_left_out_count class first (l ++ rest))
            (piece.led lacks).frames_are
            ∙ led-front lacks (piece.led lacks) ∙ sym (ap (λ b. if b then 0 else 1) lacks)

    joined-splice : needs_of (splice_of first (seamless_join class first inputs))
        ≡ item_needs (splice_items window (map needs_of (frames ∷ more)))
    joined-splice = by (fits_behind window 0 (needs_of frames)) refl
      where
        by : (b : Bool) → fits_behind window 0 (needs_of frames) ≡ b
            → needs_of (splice_of first (seamless_join class first inputs))
            ≡ item_needs (splice_items window (map needs_of (frames ∷ more)))
        by true fit = unled-splice (piece.unled fit)
        by false lacks = led-splice lacks (piece.led lacks)

-- the law of such pieces
pub pieces-as-parts : PiecesJoinAsParts
pieces-as-parts class frames more first inputs known piece are =
    joined-splice class known more inputs piece are
