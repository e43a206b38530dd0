-- What is in a damaged file, thing by thing.
use Rattle.std.proofs.Common.{ap, arith, Bool, cond, drop, length, List, ltb, None, Option}
use Rattle.std.proofs.Common.{option_to_list, refl, Some, subst, suc, sym, true, zero, ℕ, [], ◌++◌}
use Rattle.std.proofs.Common.{◌+◌, ◌-◌, ◌<◌, ◌∙◌, ◌∷◌, ◌≡◌, ◌≤◌}
use Rattle.std.{proofs.lemmas.Bool.{le-ltb, lt-ltb, ltb-true}, specs.List.prefix_len}
use Rattle.frame_header.specs.Fields.{ClassFields}
use Rattle.salvage.specs.JudgedFrames.{item_rows, rows_left, state_after_item}
use Rattle.salvage.specs.UsableFrames.{frame_if_usable, next_usable_frame, usable_frame_at}
use Rattle.salvage.specs.Walk.{blocks_of_things, gap_end, gaps_of, IsGap, IsItem, item_if_read}
use Rattle.salvage.specs.Walk.{item_read, ItemOrGap, offset_or_end, PlacedThing, size_of_thing}
use Rattle.salvage.specs.Walk.{thing_at, thing_or_gap, things, things_up_to}
use Rattle.salvage.specs.declared.usable.Role.{Role, TheVariants.Later}
use Rattle.sync_survey.proofs.ChainLemmas.{cons_list, IsItemOf, whole_item_at-is}
use Rattle.sync_survey.proofs.LooksLemmas.{zero_at, zero_test, zeros_shown}
use Rattle.sync_survey.proofs.StartLemmas.{anchored_frame-is, first_of-is, IsAnchoredAt}
use Rattle.sync_survey.specs.{Chains.{block_of_item, whole_item_at}, Items.size_of, Looks.Shows}
use Rattle.sync_survey.specs.{Start.anchored_frame, declared.chains.Region.TheVariants.Stream}
use Rattle.sync_survey.specs.declared.items.Item.{Item, TheVariants.{Frame, Zero}}
use Rattle.sync_survey.specs.declared.places.PlacedFrame.{PlacedFrame}
use Rattle.sync_survey.specs.declared.rows.ReservoirState.{ReservoirState}

-- ---- an item that is read

read_by : (file : List ℕ) (role : Role) (at : ℕ) {o : Option Item} {item : Item}
    → whole_item_at Stream file at ≡ o → item_if_read file role at o ≡ Some item
    → whole_item_at Stream file at ≡ Some item
read_by file role at is e = grind arith

-- an item that is read at an offset is a whole one of the stream
pub item_read-is : (file : List ℕ) (role : Role) (at : ℕ) (item : Item)
    → item_read file role at ≡ Some item → IsItemOf Stream file at item
unfolding item_read
item_read-is file role at item e = search (arith, whole_item_at-is, read_by)

-- ---- the next frame

usable_by : (file : List ℕ) (role : Role) (at : ℕ) {o : Option PlacedFrame} {p : PlacedFrame}
    → anchored_frame file at ≡ o → frame_if_usable file role o ≡ Some p
    → anchored_frame file at ≡ Some p
usable_by file role at is e = grind arith

usable_frame_at-is : {file : List ℕ} (role : Role) {at : ℕ} {p : PlacedFrame}
    → usable_frame_at file role at ≡ Some p → IsAnchoredAt file at p
unfolding usable_frame_at
usable_frame_at-is role e = search (arith, anchored_frame-is, usable_by)

-- a frame is within the file, and not before the offset from which it is looked for
pub record IsNext (file : List ℕ) (from : ℕ) (p : PlacedFrame) : Type 0 where
  pub low : from ≤ p.offset
  pub frame : IsItemOf Stream file p.offset (Frame p.header)

-- the next usable frame is within the file, and not before the offset from which it is looked for
pub next_usable_frame-is : (file : List ℕ) (role : Role) (from : ℕ) (p : PlacedFrame)
    → next_usable_frame file role from ≡ Some p → IsNext file from p
unfolding next_usable_frame
next_usable_frame-is file role from p e =
    let first = first_of-is (length file) e in
    let there = usable_frame_at-is role first.1.here in
    record { low = omega (arith, first.1.low, there.offset); frame = there.frame }

-- ---- a gap

-- a gap has some bytes, and ends within the file
pub record IsGapTo (file : List ℕ) (at to : ℕ) : Type 0 where
  pub some : at < to
  pub within : to ≤ length file

gap_by : {file : List ℕ} (class : ClassFields) {at : ℕ} (o : Option PlacedFrame) → at < length file
    → next_usable_frame file (Later class) (at + 1) ≡ o → IsGapTo file at (offset_or_end file o)
gap_by class None before is = record { some = before; within = omega arith }
gap_by {file} class {at} (Some p) before is =
    let next = next_usable_frame-is file (Later class) (at + 1) p is in
    record { some = omega (arith, next.low); within = omega (arith, next.frame.within) }

-- a gap has at least one byte, and ends within the file
pub gap_end-is : {file : List ℕ} (class : ClassFields) {at : ℕ} → at < length file
    → IsGapTo file at (gap_end file class at)
unfolding gap_end
gap_end-is class before = grind (arith, gap_by)

-- a gap ends at the next usable frame after its first byte, or at the end of the file
pub gap_end-by : (file : List ℕ) (class : ClassFields) (at : ℕ)
    → offset_or_end file (next_usable_frame file (Later class) (at + 1)) ≡ gap_end file class at
unfolding gap_end
gap_end-by file class at = refl

-- ---- things in order

module _ (file : List ℕ) (class : ClassFields) where
  thing_read : (at : ℕ) {o : Option Item} → item_read file (Later class) at ≡ o
      → thing_at file class at ≡ thing_or_gap file class at o
  unfolding thing_at
  thing_read at is = ap (thing_or_gap file class at) is

  some_by : {at : ℕ} {o : Option Item} → at < length file → item_read file (Later class) at ≡ o
      → 0 < size_of_thing (thing_or_gap file class at o)
  some_by before is = grind (arith, gap_end-is, item_read-is)

  thing_some : {at : ℕ} → at < length file → 0 < size_of_thing (thing_at file class at)
  unfolding thing_at
  thing_some {at} before = some_by before refl

  abbrev onward : ℕ → (ℕ → List PlacedThing) → Bool → List PlacedThing
  onward at next more = cond more (record { offset = at; thing = thing_at file class at }
      ∷ next (at + size_of_thing (thing_at file class at))) []

  one_more : (n at : ℕ) → things_up_to (suc n) file class at
      ≡ onward at (things_up_to n file class) (ltb at (length file))
  unfolding things_up_to
  one_more n at = refl

  none_more : (at : ℕ) → things_up_to zero file class at ≡ []
  unfolding things_up_to
  none_more at = refl

  past : (n : ℕ) {at : ℕ} → length file ≤ at → things_up_to n file class at ≡ []
  past zero {at} le = none_more at
  past (suc n) le = grind (arith, one_more, le-ltb)

  onward-same : (at : ℕ) (next later : ℕ → List PlacedThing) {b : Bool}
      → (b ≡ true → next (at + size_of_thing (thing_at file class at))
      ≡ later (at + size_of_thing (thing_at file class at))) → onward at next b ≡ onward at later b
  onward-same at next later same = grind arith

  -- any bound that is at least the number of bytes left gives the same things
  enough : (m n at : ℕ) → length file ≤ m + at → length file ≤ n + at
      → things_up_to m file class at ≡ things_up_to n file class at
  enough zero n at le le' = past zero (omega (arith, le)) ∙ sym (past n (omega (arith, le)))
  enough (suc m) zero at le le' = grind (arith, past)
  enough (suc m) (suc n) at le le' =
      one_more m at
      ∙ onward-same at (things_up_to m file class) (things_up_to n file class) (λ before.
      let some = thing_some (ltb-true at (length file) before) in
      enough m n (at + size_of_thing (thing_at file class at)) (omega (arith, le, some))
      (omega (arith, le', some)))
      ∙ sym (one_more n at)

  things-step : (at : ℕ)
      → things file class at ≡ onward at (things file class) (ltb at (length file))
  unfolding things
  things-step at = grind (arith, enough (length file) (suc (length file)), one_more (length file))

  -- past the end of the file there is nothing
  pub things-past : {at : ℕ} → length file ≤ at → things file class at ≡ []
  things-past le = grind (arith, things-step, le-ltb)

  things-next : {at : ℕ} {thing : ItemOrGap} → at < length file → thing_at file class at ≡ thing
      → things file class at
      ≡ record { offset = at; thing = thing } ∷ things file class (at + size_of_thing thing)
  things-next before is = grind (arith, things-step, lt-ltb)

  -- where an item is read, it is the first thing, and the others follow it
  pub things-item : {at : ℕ} {item : Item} → item_read file (Later class) at ≡ Some item
      → things file class at
      ≡ record { offset = at; thing = IsItem item } ∷ things file class (at + size_of item)
  things-item {at} {item} is =
      let here = item_read-is file (Later class) at item is in
      things-next (omega (arith, here.within, here.some))
      (thing_read at is)

  -- where none is read, a gap is the first thing, and the others follow it
  pub things-gap : {at : ℕ} → at < length file → item_read file (Later class) at ≡ None
      → things file class at ≡ record { offset = at; thing = IsGap (gap_end file class at - at) }
      ∷ things file class (gap_end file class at)
  things-gap {at} before is =
      let ends = gap_end-is class before in
      let end : at + (gap_end file class at - at) ≡ gap_end file class at =
      omega (arith, ends.some) in
      things-next before (thing_read at is) ∙ ap (λ n.
      record { offset = at; thing = IsGap (gap_end file class at - at) } ∷ things file class n) end

  zero_next : {bytes : List ℕ} {at : ℕ} → drop at file ≡ 0 ∷ bytes → things file class at
      ≡ record { offset = at; thing = IsItem Zero } ∷ things file class (at + 1)
  unfolding item_read
  zero_next {bytes} {at} is =
      things-item
      (ap (item_if_read file (Later class) at) (zero_at Stream file bytes at is))

  -- ---- what is passed with an item

  -- an item is the first of what is left, and the others follow `size` bytes later
  pub record IsPassed (at : ℕ) (item : Item) (size : ℕ) : Type 0 where
    pub rows : (b : ReservoirState)
        → rows_left file b (things file class at) ≡ item_rows b at (drop at file) item
        ++ rows_left file (state_after_item b at (drop at file) item)
        (things file class (at + size))
    pub blocks : blocks_of_things (things file class at)
        ≡ option_to_list (block_of_item at item) ++ blocks_of_things (things file class (at + size))
    pub gaps : gaps_of (things file class at) ≡ gaps_of (things file class (at + size))

  passed_own : {at : ℕ} {item : Item} {size : ℕ} → item_read file (Later class) at ≡ Some item
      → size ≡ size_of item → IsPassed at item size
  passed_own {at} {item} is own =
      let here = things-item is in
      subst (IsPassed at item) (sym own)
      (record {
        rows = λ b. ap (rows_left file b) here;
        blocks = grind (arith, cons_list);
        gaps = ap gaps_of here;
      })

  passed_zeros : {at : ℕ} {front : List ℕ} {left : ℕ} {size : ℕ} → Shows file at front left
      → size ≡ prefix_len zero_test front → IsPassed at Zero size
  passed_zeros {at} {front} {left} {size} shows many = record {
    rows = λ b. zeros_shown shows (λ n. rows_left file b (things file class n))
        size many (λ bytes n zero. ap (rows_left file b) (zero_next zero));
    blocks =
        zeros_shown shows (λ n. blocks_of_things (things file class n)) size many
        (λ bytes n zero. ap blocks_of_things (zero_next zero));
    gaps = zeros_shown shows (λ n. gaps_of (things file class n)) size many
        (λ bytes n zero. ap gaps_of (zero_next zero));
  }

  -- an item that is read is passed, and with a zero byte all zero bytes that are shown
  pub item_passed : {at : ℕ} {front : List ℕ} {left : ℕ} (item : Item) {size : ℕ}
      → Shows file at front left → item_read file (Later class) at ≡ Some item
      → (item ≡ Zero → size ≡ prefix_len zero_test front)
      → ((item ≡ Zero → ⊥) → size ≡ size_of item) → IsPassed at item size
  item_passed Zero shows is zeros own = search (arith, passed_zeros)
  item_passed {at} item {size} shows is zeros own = passed_own is (own (λ e. cc))
