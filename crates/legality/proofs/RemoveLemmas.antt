-- Stretches that are taken out: parts stay exactly where the stretches are in order within the file
-- and a frame is in none of them.
use Rattle.std.proofs.Common.{ap, append-nil, arith, Bool, false, inl, inr, length, length-append}
use Rattle.std.proofs.Common.{List, map, None, Ok, Option, refl, Some, subst, suc, true, zero, ℕ}
use Rattle.std.proofs.Common.{[], ◌++◌, ◌<◌, ◌∙◌, ◌∷◌, ◌≡◌, ◌≤◌, ◌⊎◌}
use Rattle.std.{proofs.lemmas.Bool.{lt-ltb, ltb-false, ltb-true}, specs.Prelude.{nat_lt, slice_get}}
use Rattle.command_table.specs.Choices.{exact_frame_number, IsBesideStretch, IsLegalRemoval}
use Rattle.command_table.specs.{Choices.IsStretchWithin, Inputs.{HoldsOfEach, HoldsOfEachNext}}
use Rattle.commands.proofs.RefusingLemmas.{then_ok}
use Rattle.exact_span.specs.declared.exact_place.ExactPlace.{ExactPlace}
use Rattle.remove_edits.proofs.CommandLemmas.{ok-parts, remove-is}
use Rattle.remove_edits.specs.Removed.{parts_left, parts_or_range, remove_making, stretch_frames}
use Rattle.seam_plan.specs.Stretches.{disorder_from, part_between, parts_in_order, parts_or_none}
use Rattle.seam_plan.specs.{Stretches.{staying_from, staying_parts}, declared.stretches.Part.Part}
use Rattle.sync_survey.specs.Faults.{SurveyFields}

-- ---- in order

-- each of these stretches has a frame, begins no earlier than the one before it
-- ends, the first at `before` or later, and ends within the file
abbrev Rise : ℕ → ℕ → List (ℕ × ℕ) → Type 0
Rise frames before [] = Unit {0}
Rise frames before (x ∷ xs) = (before ≤ x.0) × (x.0 < x.1) × (x.1 ≤ frames) × Rise frames x.1 xs

-- without disorder they rise
none-rise : (frames before : ℕ) (xs : List (ℕ × ℕ)) → disorder_from frames before xs ≡ None
    → Rise frames before xs
unfolding disorder_from
none-rise frames before [] e = tt
none-rise frames before (x ∷ xs) e = grind (arith, none-rise frames x.1 xs)

-- where they rise there is no disorder
rise-none : (frames before : ℕ) (xs : List (ℕ × ℕ)) → Rise frames before xs
    → disorder_from frames before xs ≡ None
unfolding disorder_from
rise-none frames before [] rise = refl
rise-none frames before (x ∷ xs) rise = grind (arith, rise-none frames x.1 xs)

-- ---- a frame that stays

-- the frame is in none of these stretches
abbrev IsOutside : ℕ → List (ℕ × ℕ) → Type 0
IsOutside i [] = Unit {0}
IsOutside i (x ∷ xs) = (x.0 ≤ i → i < x.1 → ⊥) × IsOutside i xs

-- a frame before stretches that rise is in none of them
outside-before : (frames : ℕ) {before i : ℕ} (xs : List (ℕ × ℕ)) → i < before
    → Rise frames before xs → IsOutside i xs
outside-before frames [] early rise = tt
outside-before frames {i = i} (x ∷ xs) early rise = (
  (λ from to. absurd (omega (arith, early, rise.0, from))),
  outside-before frames xs (omega (arith, early, rise.0, rise.1)) rise.3,
)

-- no part
abbrev no_parts : List Part
no_parts = []

-- a frame from a number on is in none of the stretches
record StaysFrom (frames before : ℕ) (xs : List (ℕ × ℕ)) : Type 0 where
  frame : ℕ
  behind : before ≤ frame
  within : frame < frames
  outside : IsOutside frame xs

-- there is a part between two numbers that rise
between-some : {from to : ℕ} (parts : List Part) → from < to
    → 0 < length (part_between from to ++ parts)
between-some {from} {to} parts some = grind (arith, lt-ltb from to some)

-- there is a part where there is one after the others
behind-some : (from to : ℕ) (parts : List Part) → 0 < length parts
    → 0 < length (part_between from to ++ parts)
behind-some from to parts some = grind (arith, length-append)

-- the first of these parts is between the numbers, or there is another
some-parts : {from to : ℕ} (parts : List Part) → 0 < length (part_between from to ++ parts)
    → (from < to) ⊎ (0 < length parts)
some-parts {from} {to} parts some = at (nat_lt from to) refl
  where
    at : (b : Bool) → nat_lt from to ≡ b → (from < to) ⊎ (0 < length parts)
    at true e = inl (ltb-true from to e)
    at false e = inr (grind arith)

-- between rising stretches a frame stays where a part stays
stays-frame : {frames before : ℕ} (xs : List (ℕ × ℕ)) → Rise frames before xs
    → 0 < length (staying_from frames before xs) → StaysFrom frames before xs
unfolding staying_from
stays-frame {frames} {before} [] rise some =
    at (some-parts [] (grind (arith, append-nil)))
  where
    at : (before < frames) ⊎ (0 < length no_parts) → StaysFrom frames before []
    at (inl there) = record { frame = before; behind = omega arith; within = there; outside = tt }
    at (inr none) = absurd (omega (arith, none))
stays-frame {frames} {before} (x ∷ xs) rise some =
    at (stays-frame xs rise.3)
    (some-parts (staying_from frames x.1 xs) some)
  where
    at : (0 < length (staying_from frames x.1 xs) → StaysFrom frames x.1 xs)
        → (before < x.0) ⊎ (0 < length (staying_from frames x.1 xs))
        → StaysFrom frames before (x ∷ xs)
    at behind (inl early) = record {
      frame = before;
      behind = omega arith;
      within = omega (arith, early, rise.1, rise.2);
      outside = (
        (λ from to. absurd (omega (arith, early, from))),
        outside-before frames xs (omega (arith, early, rise.1)) rise.3,
      );
    }
    at behind (inr more) =
        let later = behind more in
        record {
          frame = later.frame;
          behind = omega (arith, rise.0, rise.1, later.behind);
          within = later.within;
          outside = ((λ from to. absurd (omega (arith, later.behind, to))), later.outside);
        }

-- a part stays where a frame is in none of the stretches
frame-stays : {frames : ℕ} (before : ℕ) (xs : List (ℕ × ℕ)) → StaysFrom frames before xs
    → 0 < length (staying_from frames before xs)
unfolding staying_from
frame-stays before [] is = grind (arith, lt-ltb, is.behind, is.within)
frame-stays {frames} before (x ∷ xs) is =
    at (frame-stays x.1 xs) (nat_lt is.frame x.0) refl (nat_lt is.frame x.1) refl
  where
    at : (StaysFrom frames x.1 xs → 0 < length (staying_from frames x.1 xs)) → (b : Bool)
        → nat_lt is.frame x.0 ≡ b → (c : Bool) → nat_lt is.frame x.1 ≡ c
        → 0 < length (staying_from frames before (x ∷ xs))
    at behind true e c f = between-some (staying_from frames x.1 xs)
        (omega (arith, is.behind, ltb-true is.frame x.0 e))
    at behind false e true f = absurd
        (is.outside.0 (ltb-false is.frame x.0 e) (ltb-true is.frame x.1 f))
    at behind false e false f =
        behind-some before x.0 (staying_from frames x.1 xs) (behind (record {
          frame = is.frame;
          behind = ltb-false is.frame x.1 f;
          within = is.within;
          outside = is.outside.1;
        }))

-- ---- what stays

-- parts of which there is one aren't refused
parts-or-none : (frames : ℕ) (parts : List Part) → 0 < length parts
    → parts_or_none frames parts ≡ Ok parts
parts-or-none frames [] some = absurd (omega (arith, some))
parts-or-none frames (part ∷ parts) some = refl

-- of parts that aren't refused there is one
none-or-parts : (frames : ℕ) (parts : List Part) {all : List Part}
    → parts_or_none frames parts ≡ Ok all → 0 < length parts
none-or-parts frames [] e = absurd cc
none-or-parts frames (part ∷ parts) e = omega arith

-- parts stay of stretches that rise, if a frame is in none of them
rise-stay : {frames : ℕ} {xs : List (ℕ × ℕ)} → Rise frames 0 xs → StaysFrom frames 0 xs
    → (parts : List Part) × (staying_parts frames xs ≡ Ok parts)
unfolding staying_parts
rise-stay {frames} {xs} rise is = (
  staying_from frames 0 xs,
  ap (λ o. parts_in_order frames o (staying_from frames 0 xs)) (rise-none frames 0 xs rise)
      ∙ parts-or-none frames (staying_from frames 0 xs) (frame-stays 0 xs is),
)

-- stretches of which parts stay rise, and a frame is in none of them
stay-rise : {frames : ℕ} {xs : List (ℕ × ℕ)} {parts : List Part}
    → staying_parts frames xs ≡ Ok parts → Rise frames 0 xs × StaysFrom frames 0 xs
unfolding staying_parts
stay-rise {frames} {xs} {parts} e = at (disorder_from frames 0 xs) refl e
  where
    at : (o : Option (ℕ × ℕ)) → disorder_from frames 0 xs ≡ o
        → parts_in_order frames o (staying_from frames 0 xs) ≡ Ok parts
        → Rise frames 0 xs × StaysFrom frames 0 xs
    at (Some pair) none is = absurd cc
    at None none is =
        let rise = none-rise frames 0 xs none in
        let some = none-or-parts frames (staying_from frames 0 xs) is in
        (rise, stays-frame xs rise some)

-- ---- stretch by stretch

module _ (s : SurveyFields) where
  -- a stretch by its places
  abbrev Stretch : Type 0
  Stretch = ExactPlace × ExactPlace

  -- how many frames the file has
  abbrev frames : ℕ
  frames = length s.frames

  -- the numbers of stretches
  abbrev numbers : List Stretch → List (ℕ × ℕ)
  numbers stretches = map (stretch_frames s.class frames) stretches

  -- a stretch has a frame, and ends within the file
  abbrev Within : ℕ → Stretch → Type 0
  Within k stretch = IsStretchWithin s stretch

  -- a stretch begins no earlier than another ends
  abbrev Follows : Stretch → Stretch → Type 0
  Follows p q = exact_frame_number s p.1 ≤ exact_frame_number s q.0

  -- stretches that are legal one by one rise
  legal-rise : (before : ℕ) (stretches : List Stretch) → HoldsOfEach stretches Within
      → HoldsOfEachNext stretches Follows
      → ((x : Stretch) → slice_get stretches 0 ≡ Some x → before ≤ exact_frame_number s x.0)
      → Rise frames before (numbers stretches)
  legal-rise before [] within order first = tt
  legal-rise before (x ∷ stretches) within order first =
      let here = within 0 x refl in (
        first x refl,
        here.0,
        here.1,
        legal-rise (exact_frame_number s x.1) stretches (λ k y is. within (suc k) y is)
            (λ k y z is next. order (suc k) y z is next)
            (λ y is. order 0 x y refl is),
      )

  -- stretches that rise begin at the number or later
  rise-first : {before : ℕ} (stretches : List Stretch) → Rise frames before (numbers stretches)
      → {x : Stretch} → slice_get stretches 0 ≡ Some x → before ≤ exact_frame_number s x.0
  rise-first [] rise is = absurd cc
  rise-first (y ∷ stretches) rise is = grind arith

  -- each of them has a frame, and ends within the file
  rise-within : (before : ℕ) (stretches : List Stretch) → Rise frames before (numbers stretches)
      → HoldsOfEach stretches Within
  rise-within before [] rise k x is = absurd cc
  rise-within before (y ∷ stretches) rise zero x is = grind arith
  rise-within before (y ∷ stretches) rise (suc k) x is =
      rise-within (exact_frame_number s y.1) stretches rise.3 k x is

  -- none of them begins before the end of the one before it
  rise-order : (before : ℕ) (stretches : List Stretch) → Rise frames before (numbers stretches)
      → HoldsOfEachNext stretches Follows
  rise-order before [] rise k x y is next = absurd cc
  rise-order before (z ∷ stretches) rise zero x y is next =
      let first = rise-first stretches rise.3 next in grind arith
  rise-order before (z ∷ stretches) rise (suc k) x y is next =
      rise-order (exact_frame_number s z.1) stretches rise.3 k x y is next

  -- the frame is before the stretch or after it
  abbrev Beside : ℕ → ℕ → Stretch → Type 0
  Beside frame k stretch = IsBesideStretch s frame stretch

  -- a frame before or after two numbers isn't between them
  beside-one : {frame from to : ℕ} → (frame < from) ⊎ (to ≤ frame) → from ≤ frame → frame < to → ⊥
  beside-one (inl early) begun goes = omega (arith, early, begun)
  beside-one (inr late) begun goes = omega (arith, late, goes)

  -- a frame that isn't between two numbers is before or after them
  outside-one : {frame from to : ℕ} → (from ≤ frame → frame < to → ⊥)
      → (frame < from) ⊎ (to ≤ frame)
  outside-one {frame} {from} {to} outside =
      at (nat_lt frame from) refl (nat_lt frame to) refl
    where
      at : (b : Bool) → nat_lt frame from ≡ b → (c : Bool) → nat_lt frame to ≡ c
          → (frame < from) ⊎ (to ≤ frame)
      at true e c f = inl (ltb-true frame from e)
      at false e false f = inr (ltb-false frame to f)
      at false e true f = absurd (outside (ltb-false frame from e) (ltb-true frame to f))

  -- a frame before or after each stretch is in none of them
  beside-outside : {frame : ℕ} (stretches : List Stretch) → HoldsOfEach stretches (Beside frame)
      → IsOutside frame (numbers stretches)
  beside-outside [] stays = tt
  beside-outside {frame} (x ∷ stretches) stays = (
    beside-one (stays 0 x refl),
    beside-outside stretches (λ k y is. stays (suc k) y is),
  )

  -- a frame that is in none of the stretches is before or after each
  outside-beside : {frame : ℕ} (stretches : List Stretch) → IsOutside frame (numbers stretches)
      → HoldsOfEach stretches (Beside frame)
  outside-beside [] outside k x is = absurd cc
  outside-beside {frame} (y ∷ stretches) outside zero x is =
      let one = outside-one outside.0 in
      let same : y ≡ x = cc in
      subst (IsBesideStretch s frame) same one
  outside-beside {frame} (y ∷ stretches) outside (suc k) x is =
      outside-beside stretches outside.1 k x is

  -- ---- what stays of a file

  module _ (stretches : List Stretch) where
    -- parts stay of a file if the stretches are legal for it
    pub legal-left : IsLegalRemoval stretches s
        → (parts : List Part) × (parts_left stretches s ≡ Ok parts)
    unfolding parts_left
    legal-left is =
        let rise = legal-rise 0 stretches is.within is.order (λ x first. omega arith) in
        let stays = rise-stay rise (record {
          frame = is.frame;
          behind = omega arith;
          within = is.there;
          outside = beside-outside stretches is.stays;
        }) in
        (stays.0, ap (parts_or_range frames) stays.1)

    -- the stretches are legal for a file of which parts stay
    pub left-legal : {parts : List Part} → parts_left stretches s ≡ Ok parts
        → IsLegalRemoval stretches s
    unfolding parts_left
    left-legal {parts} e =
        let is = stay-rise
        (ok-parts frames (staying_parts frames (numbers stretches)) e) in
        record {
          within = rise-within 0 stretches is.0;
          order = rise-order 0 stretches is.0;
          frame = is.1.frame;
          there = is.1.within;
          stays = outside-beside stretches is.1.outside;
        }

    module _ (file : List ℕ) where
      -- a file is made if the stretches are legal for the input
      pub legal-removed : IsLegalRemoval stretches s
          → (bytes : List ℕ) × (remove_making stretches file s ≡ Ok bytes)
      legal-removed is =
          let left = legal-left is in (_, remove-is stretches file s left.1)

      -- the stretches are legal for an input of which a file is made
      pub removed-legal : (bytes : List ℕ) → remove_making stretches file s ≡ Ok bytes
          → IsLegalRemoval stretches s
      unfolding remove_making
      removed-legal bytes e =
          let left = then_ok e in
          left-legal left.1
