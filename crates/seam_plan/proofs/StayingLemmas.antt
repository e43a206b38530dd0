-- Parts that stay are in order, and how they are found stretch by stretch.
use Rattle.std.proofs.Common.{append_assoc, arith, drop, length, List, None, refl, ℕ, [], ◌++◌, ◌+◌}
use Rattle.std.proofs.{Common.{◌<◌, ◌∷◌, ◌≡◌, ◌≤◌, ◌⊎◌}, Math.Seq.drop-cons, lemmas.List.drop_all}
use Rattle.std.specs.Prelude.{Err, Ok, slice_index_or}
use Rattle.seam_plan.specs.Stretches.{AreInOrder, disorder_from, part_between, parts_or_none}
use Rattle.seam_plan.specs.{Stretches.{staying_from, staying_parts}, declared.stretches.Part.Part}

-- ---- the parts are in order

-- parts that begin at a number or later begin at each smaller number or later
order-less : (frames : ℕ) {m n : ℕ} (parts : List Part) → n ≤ m → AreInOrder m frames parts
    → AreInOrder n frames parts
unfolding AreInOrder
order-less frames [] less order = tt
order-less frames (part ∷ parts) less order = grind arith

-- the frames between two numbers are in order before parts that begin after a later number
order-between : {frames from to next : ℕ} (parts : List Part) → from ≤ to → to < next → to ≤ frames
    → AreInOrder next frames parts → AreInOrder from frames (part_between from to ++ parts)
unfolding AreInOrder
order-between parts rising less within order = grind (arith, order-less)

-- if stretches are in order, so are the parts that stay
order-from : {frames before : ℕ} (stretches : List (ℕ × ℕ)) → before ≤ frames
    → disorder_from frames before stretches ≡ None
    → AreInOrder before frames (staying_from frames before stretches)
unfolding disorder_from staying_from AreInOrder
order-from [] within none = grind arith
order-from {frames} (stretch ∷ stretches) within none =
    grind (arith, order-between, order-from {frames = frames} {before = stretch.1} stretches)

-- the parts that stay are in order, and there is at least one
pub staying-order : (frames : ℕ) (stretches : List (ℕ × ℕ)) {parts : List Part}
    → staying_parts frames stretches ≡ Ok parts
    → (1 ≤ length parts) × AreInOrder 0 frames parts
unfolding staying_parts
staying-order frames stretches is = grind (arith, order-from)

-- ---- stretch by stretch

-- Of the first `k` stretches, the last of which ends at `before`, these parts
-- were found, and nothing that isn't in order. So what is found of all is
-- what is found of the others.
pub record StaysTo (frames : ℕ) (stretches : List (ℕ × ℕ)) (k before : ℕ)
    (parts : List Part) : Type 0 where
  pub within : before ≤ frames
  pub few : length parts ≤ k
  pub found : parts ++ staying_from frames before (drop k stretches)
      ≡ staying_from frames 0 stretches
  pub order : disorder_from frames before (drop k stretches) ≡ disorder_from frames 0 stretches

-- before the first stretch no part was found
pub stays-none : (frames : ℕ) (stretches : List (ℕ × ℕ)) → StaysTo frames stretches 0 0 []
stays-none frames stretches =
    record { within = omega arith; few = omega arith; found = refl; order = refl }

module _ {frames : ℕ} {stretches : List (ℕ × ℕ)} {k before : ℕ} {parts : List Part}
    {stretch : ℕ × ℕ} (to : StaysTo frames stretches k before parts) (some : k < length stretches)
    (is : stretch ≡ slice_index_or stretches k (0, 0)) where
  next : drop k stretches ≡ stretch ∷ drop (k + 1) stretches
  next = search (arith, drop-cons)

  -- behind a stretch that is in order one more part may stay
  pub stays-more : (more : List Part) → before ≤ stretch.0 → stretch.0 < stretch.1
      → stretch.1 ≤ frames → more ≡ parts ++ part_between before stretch.0
      → length more ≤ length parts + 1 → StaysTo frames stretches (k + 1) stretch.1 more
  unfolding staying_from disorder_from
  stays-more more order some within added few = grind (arith, next, append_assoc)

  -- a stretch that begins before the end of the one before it isn't in order
  pub stays-early : stretch.0 < before
      → staying_parts frames stretches ≡ Err (before, stretch.0)
  unfolding staying_parts disorder_from
  stays-early early = grind (arith, next)

  -- a stretch that has no frame, or ends after the last frame, isn't in order
  pub stays-wrong : before ≤ stretch.0 → (stretch.1 ≤ stretch.0) ⊎ (frames < stretch.1)
      → staying_parts frames stretches ≡ Err stretch
  unfolding staying_parts disorder_from
  stays-wrong order wrong = grind (arith, next)

-- behind the last stretch all parts are found
pub stays-all : {frames : ℕ} {stretches : List (ℕ × ℕ)} {k before : ℕ} {parts last : List Part}
    → StaysTo frames stretches k before parts → length stretches ≤ k
    → last ≡ parts ++ part_between before frames
    → staying_parts frames stretches ≡ parts_or_none frames last
unfolding staying_parts staying_from disorder_from
stays-all to all added = grind (arith, drop_all)

-- if there are parts, they are the answer
pub parts-some : (frames : ℕ) {parts : List Part} → 0 < length parts
    → parts_or_none frames parts ≡ Ok parts
parts-some frames some = grind arith

-- if there are no parts, 0 and the number of frames are the answer
pub parts-none : (frames : ℕ) (parts : List Part) → length parts ≡ 0
    → parts_or_none frames parts ≡ Err (0, frames)
parts-none frames parts none = grind arith
