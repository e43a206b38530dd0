-- The pieces of a split at the numbers of stretches that are in no stretch are the parts that stay.
use Rattle.std.proofs.Common.{ap, ap₂, arith, Bool, cond, false, length, List, None, Ok, refl}
use Rattle.std.proofs.Common.{subst, sym, true, ℕ, [], ◌++◌, ◌<◌, ◌∙◌, ◌∷◌, ◌≡◌, ◌≤◌}
use Rattle.std.proofs.lemmas.Bool.{leb-false, leb-true, ltb-false, ltb-true}
use Rattle.std.specs.Prelude.{nat_le, nat_lt, not, ◌&&◌}
use Rattle.commands.proofs.RefusingLemmas.{then_ok}
use Rattle.cue_sheet.specs.{Places.frame_at, declared.place.Place.Place}
use Rattle.laying.specs.Laid.{LaidPart}
use Rattle.remove_edits.proofs.CommandLemmas.{ok-parts}
use Rattle.remove_edits.specs.Removed.{all_stretch_frames, parts_left}
use Rattle.remove_laws.proofs.{JoinRemovalLemmas.parts-join, StayLemmas.{found, in-order}}
use Rattle.remove_laws.specs.JoinLaws.{all_parts_laid, each_once, ends_of, frame_stays}
use Rattle.remove_laws.specs.JoinLaws.{numbers_named, part_laid, pieces_left, RemoveIsJoin}
use Rattle.seam_laws.proofs.SplitJoinLemmas.{whole-laid}
use Rattle.seam_laws.specs.SeamlessLaws.{ArePieceInputs, has_no_look_alike}
use Rattle.seam_plan.specs.Stretches.{disorder_from, part_between, staying_from, staying_parts}
use Rattle.seam_plan.specs.declared.stretches.Part.{Part}
use Rattle.split_edits.{proofs.CommandLemmas.first-parts, specs.Cutting.piece_parts_from}
use Rattle.split_edits.specs.{Split.cutting_of, declared.points.Points.Points}
use Rattle.sync_survey.specs.Faults.{SurveyFields}

-- ---- what a split lays

-- what is laid between a number and the first of these, and between each of these and the next
abbrev laid_at : SurveyFields → ℕ → List ℕ → List LaidPart
laid_at s from [] = []
laid_at s from (to ∷ tos) = part_laid s (record { from = from; to = to }) ∷ laid_at s to tos

module _ (points : Points) (file : List ℕ) (s : SurveyFields) where
  -- what a split lays between the frames that its places name
  split-laid : (from : Place) (places : List Place) {laid : List LaidPart}
      → piece_parts_from (cutting_of points) file s from places ≡ Ok laid
      → laid ≡ laid_at s (frame_at s.class (length s.frames) from) (numbers_named s places)
  split-laid from [] e = cc
  split-laid from (to ∷ places) {laid} e =
      let one =
      then_ok e in
      let more = first-parts
      one.2 in
      sym more.2
      ∙ ap₂ ◌∷◌ (whole-laid file s from to one.1).is (split-laid to places more.1)

-- ---- which frames stay

-- a frame before all stretches stays
stays-before : (frames : ℕ) {at : ℕ} (stretches : List (ℕ × ℕ)) {i : ℕ}
    → disorder_from frames at stretches ≡ None → i < at → frame_stays stretches i ≡ true
stays-before frames [] none less = refl
stays-before frames {at} (st ∷ stretches) {i} none less =
    let order = in-order stretches none in
    let rest = stays-before frames stretches order.3 (omega (arith, less, order.0, order.1))
    in
    by (nat_le st.0 i) refl rest
  where
    by : (b : Bool) → nat_le st.0 i ≡ b → frame_stays stretches i ≡ true
        → not (b && nat_lt i st.1) && frame_stays stretches i ≡ true
    by true is rest =
        let order = in-order stretches none in
        absurd (omega (arith, leb-true st.0 i is, less, order.0))
    by false is rest = rest

-- a frame of the first stretch doesn't
goes-first : {st : ℕ × ℕ} (stretches : List (ℕ × ℕ)) {i : ℕ} → st.0 ≤ i → i < st.1
    → frame_stays (st ∷ stretches) i ≡ false
goes-first {st} stretches {i} least most = by (nat_le st.0 i) refl (nat_lt i st.1) refl
  where
    by : (b : Bool) → nat_le st.0 i ≡ b → (c : Bool) → nat_lt i st.1 ≡ c
        → not (b && c) && frame_stays stretches i ≡ false
    by true is true in_it = refl
    by true is false out = absurd (omega (arith, ltb-false i st.1 out, most))
    by false is c any = absurd (omega (arith, leb-false st.0 i is, least))

-- for a frame behind the first stretch, only the others matter
stays-behind : (st : ℕ × ℕ) (stretches : List (ℕ × ℕ)) {i : ℕ} → st.1 ≤ i
    → frame_stays (st ∷ stretches) i ≡ frame_stays stretches i
stays-behind st stretches {i} behind = by (nat_le st.0 i) (nat_lt i st.1) refl
  where
    by : (b c : Bool) → nat_lt i st.1 ≡ c
        → not (b && c) && frame_stays stretches i ≡ frame_stays stretches i
    by b true in_it = absurd (omega (arith, ltb-true i st.1 in_it, behind))
    by true false out = refl
    by false false out = refl

-- ---- the pieces that stay

module _ (s : SurveyFields) (frames : ℕ) (all : List (ℕ × ℕ)) where
  abbrev left : List LaidPart → List LaidPart
  left laid = pieces_left all laid

  keeps : (p : LaidPart) (laid : List LaidPart) (b : Bool) → frame_stays all p.from ≡ b
      → left (p ∷ laid) ≡ cond b (p ∷ left laid) (left laid)
  keeps p laid b is = ap (λ b. cond b (p ∷ left laid) (left laid)) is

  step : (before next : ℕ) (numbers : List ℕ) {b : Bool} → nat_lt before next ≡ b
      → each_once before (next ∷ numbers)
      ≡ cond b (next ∷ each_once next numbers) (each_once before numbers)
  step before next numbers {b} is =
      ap (λ b. cond b (next ∷ each_once next numbers) (each_once before numbers)) is

  between : (before next : ℕ) {b : Bool} → nat_lt before next ≡ b
      → part_between before next ≡ cond b (record { from = before; to = next } ∷ []) []
  between before next {b} is = ap (λ b. cond b (record { from = before; to = next } ∷ []) []) is

  less-is : {m n : ℕ} → m < n → nat_lt m n ≡ true
  less-is less = grind (arith)

  -- stretches in order are so from the first on
  from-first : (before : ℕ) (st : ℕ × ℕ) (stretches : List (ℕ × ℕ))
      → disorder_from frames before (st ∷ stretches) ≡ None
      → disorder_from frames st.0 (st ∷ stretches) ≡ None
  unfolding disorder_from
  from-first before st stretches none =
      let order = in-order {frames = frames} {at = before} {stretch = st} stretches none in
      grind (arith, order)

  -- for frames from a number on, only these stretches matter
  abbrev StayAlike : ℕ → List (ℕ × ℕ) → Type 0
  StayAlike before stretches = (i : ℕ) → before ≤ i → frame_stays all i ≡ frame_stays stretches i

  -- the pieces from a number on that stay are the parts from this number on
  abbrev StayAsParts : ℕ → List (ℕ × ℕ) → Type 0
  StayAsParts before stretches =
      left (laid_at s before (each_once before (ends_of stretches ++ frames ∷ [])))
      ≡ all_parts_laid s (staying_from frames before stretches)

  last-stay : {before : ℕ} → StayAlike before [] → StayAsParts before []
  unfolding staying_from
  last-stay {before} alike = by (nat_lt before frames) refl
    where
      by : (b : Bool) → nat_lt before frames ≡ b
          → left (laid_at s before (each_once before (frames ∷ [])))
          ≡ all_parts_laid s (part_between before frames)
      by true is =
          ap (λ l. left (laid_at s before l)) (step before frames [] is)
          ∙ keeps (part_laid s (record { from = before; to = frames })) [] true
          (alike before (omega arith))
          ∙ sym (ap (all_parts_laid s) (between before frames is))
      by false is =
          ap (λ l. left (laid_at s before l)) (step before frames [] is)
          ∙ sym (ap (all_parts_laid s) (between before frames is))

  module _ {before : ℕ} (st : ℕ × ℕ) (stretches : List (ℕ × ℕ))
      (none : disorder_from frames before (st ∷ stretches) ≡ None)
      (alike : StayAlike before (st ∷ stretches)) where
    order : (before ≤ st.0) × (st.0 < st.1) × (st.1 ≤ frames)
        × (disorder_from frames st.1 stretches ≡ None)
    order = in-order stretches none

    abbrev later : List ℕ
    later = ends_of stretches ++ frames ∷ []

    alike-behind : StayAlike st.1 stretches
    alike-behind i behind =
        alike i (omega (arith, behind, order.0, order.1)) ∙ stays-behind st stretches behind

    -- the piece from a frame of the stretch to its end goes
    gone : {from : ℕ} → before ≤ from → st.0 ≤ from → from < st.1 → StayAsParts st.1 stretches
        → left (laid_at s from (each_once from (st.1 ∷ later)))
        ≡ all_parts_laid s (staying_from frames st.1 stretches)
    gone {from} least begun less rest =
        ap (λ l. left (laid_at s from l)) (step from st.1 later (less-is less))
        ∙ keeps (part_laid s (record { from = from; to = st.1 }))
        (laid_at s st.1 (each_once st.1 later)) false
        (alike from least ∙ goes-first stretches begun less)
        ∙ rest

    next-stay : StayAsParts st.1 stretches → StayAsParts before (st ∷ stretches)
    unfolding staying_from
    next-stay rest = by (nat_lt before st.0) refl
      where
        by : (b : Bool) → nat_lt before st.0 ≡ b
            → left (laid_at s before (each_once before (st.0 ∷ st.1 ∷ later)))
            ≡ all_parts_laid s (part_between before st.0 ++ staying_from frames st.1 stretches)
        by true is =
            let less = ltb-true before st.0 is in
            ap (λ l. left (laid_at s before l)) (step before st.0 (st.1 ∷ later) is)
            ∙ keeps (part_laid s (record { from = before; to = st.0 }))
            (laid_at s st.0 (each_once st.0 (st.1 ∷ later))) true
            (alike before (omega arith)
            ∙ stays-before frames (st ∷ stretches)
            (from-first before st stretches none) less)
            ∙ ap (λ l. part_laid s (record { from = before; to = st.0 }) ∷ l)
            (gone order.0 (omega arith) order.1 rest)
            ∙ sym (ap (λ l. all_parts_laid s (l ++ staying_from frames st.1 stretches))
            (between before st.0 is))
        by false is =
            let more = ltb-false before st.0 is in
            ap (λ l. left (laid_at s before l)) (step before st.0 (st.1 ∷ later) is)
            ∙ gone (omega arith) (omega (arith, more))
            (omega (arith, order.0, order.1, more)) rest
            ∙ sym (ap (λ l. all_parts_laid s (l ++ staying_from frames st.1 stretches))
            (between before st.0 is))

  pieces-stay : {before : ℕ} (stretches : List (ℕ × ℕ))
      → disorder_from frames before stretches ≡ None → StayAlike before stretches
      → StayAsParts before stretches
  pieces-stay {before} [] none alike = last-stay alike
  pieces-stay {before} (st ∷ stretches) none alike =
      next-stay st stretches none alike
      (pieces-stay stretches (order st stretches none alike).3
      (alike-behind st stretches none alike))

-- ---- the law

-- the pieces that stay are what is laid of the parts
parts-are : (stretches : List (ℕ × ℕ)) (s : SurveyFields) {parts : List Part}
    → staying_parts (length s.frames) stretches ≡ Ok parts
    → pieces_left stretches
    (laid_at s 0 (each_once 0 (ends_of stretches ++ length s.frames ∷ [])))
    ≡ all_parts_laid s parts
parts-are stretches s {parts} is =
    let by = found is in
    pieces-stay s (length s.frames) stretches stretches by.order (λ i least. refl)
    ∙ ap (all_parts_laid s) by.are

-- to remove stretches is to join the pieces that stay
pub removal-joins : RemoveIsJoin
unfolding parts_left
removal-joins stretches points file s parts place places laid first others read apart left named e
    inputs none =
    let frames = length s.frames in
    let numbers = all_stretch_frames s.class frames stretches in
    let from : frame_at s.class frames place ≡ 0 = cc in
    let tos : numbers_named s places ≡ each_once 0 (ends_of numbers ++ frames ∷ []) = cc in
    let are : pieces_left numbers laid ≡ all_parts_laid s parts =
    ap (pieces_left numbers)
    (split-laid points file s place places e ∙ ap₂ (laid_at s) from tos)
    ∙ parts-are numbers s (ok-parts frames (staying_parts frames numbers) left) in
    parts-join stretches file s parts first others read apart left
    (subst (λ l. ArePieceInputs l file s first others) are inputs)
    (subst (λ l. has_no_look_alike l (first ∷ others) ≡ true) are none)
