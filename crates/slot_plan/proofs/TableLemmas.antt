-- The table of slots by the length of a frame: one more slot, and what is found in it.
use Rattle.std.proofs.Common.{ap, ap₂, arith, Bool, Contains, false, get_or, inl, inr, length}
use Rattle.std.proofs.Common.{length-append, List, replicate, sym, take, ℕ, [], ◌++◌, ◌+◌, ◌-◌, ◌<◌}
use Rattle.std.proofs.{Common.{◌∙◌, ◌≡◌, ◌≤◌}, lemmas.Bool.cases_lt}
use Rattle.std.proofs.lemmas.List.{get_or-append-add, get_or-replicate, get_or_append_left}
use Rattle.std.proofs.lemmas.List.{get_or_default, length-replicate, take_all}
use Rattle.frame_header.specs.{Fields.{ClassFields, SlotFields}, Slots.slot_of}
use Rattle.frame_header.specs.Tables.{area_of, length_of, overhead_of, side_size_of}
use Rattle.slot_plan.proofs.AreaLemmas.{area-at, areas-many, Ascend, Contains-area, slot-area}
use Rattle.slot_plan.proofs.LengthLemmas.{overhead-side}
use Rattle.slot_plan.proofs.ReserveLemmas.{Contains-greatest_number, greatest_number-most}
use Rattle.slot_plan.specs.{Parts.slot_areas, Reserve.{greatest_number, IsLeastSlot}}
use Rattle.slot_plan.specs.SlotTables.{IsShortestSlot, IsSlotTable}
use Rattle.slot_plan.specs.declared.table.SlotTable.{SlotTable}

-- the slot at a place, and its length
abbrev pub nth : List SlotFields → ℕ → SlotFields
nth slots k = get_or slots k (slot_of 1 false)

abbrev pub long : ClassFields → List SlotFields → ℕ → ℕ
long c slots k = length_of c (nth slots k)

abbrev pub Rise : ClassFields → List SlotFields → Type 0
Rise c slots = (i j : ℕ) → i < j → j < length slots → long c slots i < long c slots j

-- lengths rise where areas do
pub rise-areas : (c : ClassFields) (slots : List SlotFields) → Ascend (slot_areas c false slots)
    → Rise c slots
unfolding area_of
rise-areas c slots ascend i j before within =
    grind (
      arith,
      areas-many c false slots,
      before,
      area-at c false slots {i = i} 0 (slot_of 1 false)
          (omega (arith, before, within)),
      area-at c false slots {i = j} 0 (slot_of 1 false) within,
    )

-- before a place, the first slot that is long enough
pub record IsFirstLong (c : ClassFields) (slots : List SlotFields) (to wanted : ℕ)
    (slot : SlotFields) : Type 0 where
  pub place : ℕ
  pub before : place < to
  pub is : nth slots place ≡ slot
  pub enough : wanted ≤ long c slots place
  pub small : (k : ℕ) → k < place → long c slots k < wanted

-- the table has the slots before a place, by the lengths of their frames
pub record IsTableTo (c : ClassFields) (slots : List SlotFields) (to : ℕ)
    (items : List SlotFields) : Type 0 where
  pub none : to ≡ 0 → length items ≡ 0
  pub many : 0 < to → length items ≡ long c slots (to - 1) + 1
  pub room : (k : ℕ) → k < to → 6 + side_size_of c < long c slots k
  pub first : (wanted : ℕ) (d : SlotFields) → wanted < length items
      → IsFirstLong c slots to wanted (get_or items wanted d)

-- before the first slot the table is empty
pub table-none : (c : ClassFields) (slots : List SlotFields) {items : List SlotFields} → items ≡ []
    → IsTableTo c slots 0 items
table-none c slots empty = grind arith

-- the table of the slots before a place is no longer than the frames of the slot there
below : (c : ClassFields) (slots items : List SlotFields) (to : ℕ) → to < length slots
    → Rise c slots → IsTableTo c slots to items → length items ≤ long c slots to
below c slots items to within rise so_far = grind (arith, cases_lt)

-- the slots before a place are too short for a length that the table doesn't have
short : (c : ClassFields) (slots items : List SlotFields) (to wanted : ℕ) → to < length slots
    → Rise c slots → IsTableTo c slots to items → length items ≤ wanted → (k : ℕ) → k < to
    → long c slots k < wanted
short c slots items to wanted within rise so_far from k before = grind (arith, before, cases_lt)

-- one more slot fills the table up to the length of its frames
pub table-more : (c : ClassFields) (slots items next : List SlotFields) (to many : ℕ)
    (slot : SlotFields) → to < length slots → slot ≡ get_or slots to slot → many ≡ length_of c slot
    → 6 + side_size_of c < many
    → next ≡ take (many + 1) items ++ replicate (many + 1 - length items) slot → Rise c slots
    → IsTableTo c slots to items → IsTableTo c slots (to + 1) next
table-more c slots items next to many slot within at is room gives rise so_far =
    let here : nth slots to ≡ slot = grind (arith, get_or_default) in
    let length_here : long c slots to ≡ many = ap (length_of c) here ∙ sym is in
    let last : to + 1 - 1 ≡ to = omega arith in
    let before = below c slots items to within rise so_far in
    let left : ℕ = many + 1 - length items in
    let whole : next ≡ items ++ replicate left slot = grind (arith, take_all, many, before) in
    let count : length next ≡ many + 1 = grind (arith, length-append, length-replicate, before) in
    record {
      none = λ none. absurd (omega (arith, none));
      many = λ _. count ∙ omega (arith, length_here, ap (long c slots) last);
      room = grind (arith, cases_lt, room);
      first = λ wanted d less.
          elim (cases_lt wanted (length items))
          as (λ _. IsFirstLong c slots (to + 1) wanted (get_or next wanted d)) [
            | inl early ↦
                let found = so_far.first wanted d early in
                let same : get_or next wanted d ≡ get_or items wanted d =
                ap (λ l. get_or l wanted d) whole
                ∙ get_or_append_left items (replicate left slot) d wanted early in
                record {
                  place = found.place;
                  before = omega (arith, found.before);
                  is = found.is ∙ sym same;
                  enough = found.enough;
                  small = found.small;
                }
            | inr from ↦
                let behind : ℕ = wanted - length items in
                let there : wanted ≡ length items + behind = omega (arith, from) in
                let same : get_or next wanted d ≡ slot =
                ap₂ (λ l n. get_or l n d) whole there
                ∙ get_or-append-add items (replicate left slot) behind d
                ∙ get_or-replicate left behind slot d (omega (arith, less, count, from)) in
                record {
                  place = to;
                  before = omega arith;
                  is = here ∙ sym same;
                  enough = omega (arith, less, count, length_here);
                  small = short c slots items to wanted within rise so_far from;
                }
          ];
    }

-- a slot that doesn't come after another is no longer
not_longer : (c : ClassFields) (slots : List SlotFields) {i j : ℕ} → i ≤ j → j < length slots
    → Rise c slots → long c slots i ≤ long c slots j
not_longer c slots before within rise = grind (arith, cases_lt, before)

-- where the list contains a slot, it has a frame of that slot's length
found-at : (c : ClassFields) (slots : List SlotFields) {slot : SlotFields}
    (has : Contains slots slot) → long c slots has.0 ≡ length_of c slot
found-at c slots has = grind (arith, get_or_default)

-- after the last slot it is the table of all slots
pub table-all : {slots : List SlotFields} {to : ℕ} {table : SlotTable} → 1 ≤ length slots
    → to ≡ length slots → Rise table.lengths slots
    → IsTableTo table.lengths slots to table.by_length.items → IsSlotTable slots table
table-all {slots} {to} {table} some all rise whole =
    let c : ClassFields = table.lengths in
    record {
      some = some;
      room = λ slot has.
          omega
          (arith, whole.room has.0 (omega (arith, all, has.1)), found-at c slots {slot = slot} has);
      all = λ slot has.
          omega (
            arith,
            found-at c slots {slot = slot} has,
            whole.many (omega (arith, all, has.1)),
            all,
            not_longer c slots {i = has.0} {j = to - 1} (omega (arith, all, has.1))
                (omega (arith, all, has.1)) rise,
          );
      least = λ wanted d less.
          let first = whole.first wanted d less in
          let slot : SlotFields = get_or table.by_length.items wanted d in
          let within : first.place < length slots = omega (arith, first.before, all) in
          let here : long c slots first.place ≡ length_of c slot = ap (length_of c) first.is in
          record {
            chosen = (
              first.place,
              within,
              get_or_default slots first.place slot (slot_of 1 false) within ∙ first.is,
            );
            enough = omega (arith, first.enough, here);
            least = λ other has fits.
                let there = found-at c slots {slot = other} has in
                elim (cases_lt has.0 first.place) as (λ _. length_of c slot ≤ length_of c other) [
                  | inl earlier ↦ absurd (omega (arith, first.small has.0 earlier, there, fits))
                  | inr from ↦ omega (
                    arith,
                    not_longer c slots {i = first.place} {j = has.0} from has.1 rise,
                    here,
                    there,
                  )
                ];
          };
    }

-- the shortest frame whose area has at least `wanted` bytes has the least such area
pub least-looked : {table : SlotTable} {slots : List SlotFields} {p : Bool} {wanted : ℕ}
    {slot : SlotFields} → IsSlotTable slots table
    → IsShortestSlot table.lengths slots (wanted + overhead_of table.lengths p) slot
    → IsLeastSlot wanted table.lengths p slots slot
unfolding area_of
least-looked is shortest = grind (arith, overhead-side)

-- the table has an entry
table-some : {table : SlotTable} {slots : List SlotFields} → IsSlotTable slots table
    → 0 < length table.by_length.items
table-some {slots = slots} is =
    let some : 0 < length slots = omega (arith, is.some) in
    omega (
      arith,
      is.all (nth slots 0) (0, some, get_or_default slots 0 (nth slots 0) (slot_of 1 false) some),
    )

-- the last entry has the largest area
pub last-looked : {table : SlotTable} {slots : List SlotFields} (p : Bool) → IsSlotTable slots table
    → length table.by_length.items - 1 - overhead_of table.lengths p
    ≡ greatest_number (slot_areas table.lengths p slots)
unfolding area_of
last-looked {table} {slots} p is =
    let c : ClassFields = table.lengths in
    let areas : List ℕ = slot_areas c p slots in
    let many : ℕ = length table.by_length.items in
    let last : SlotFields = get_or table.by_length.items (many - 1) (slot_of 1 false) in
    let longest =
    is.least (many - 1) (slot_of 1 false) (omega (arith, table-some is)) in
    let has = Contains-area c p slots longest.chosen in
    let found =
    slot-area c p slots
    (Contains-greatest_number areas has) in
    omega (
      arith,
      greatest_number-most areas has,
      found.2,
      is.all found.0 found.1,
      is.all last longest.chosen,
      longest.enough,
    )

-- the table has an entry for the length of a frame whose area is at most the largest
pub table-within : {table : SlotTable} {slots : List SlotFields} (p : Bool) {wanted : ℕ}
    → IsSlotTable slots table → wanted ≤ greatest_number (slot_areas table.lengths p slots)
    → wanted + overhead_of table.lengths p < length table.by_length.items
unfolding area_of
table-within {table} {slots} p is enough =
    let c : ClassFields = table.lengths in
    let areas : List ℕ = slot_areas c p slots in
    let first : ℕ = get_or areas 0 0 in
    let within : 0 < length areas = omega (arith, is.some, areas-many c p slots) in
    let has =
    Contains-greatest_number areas (0, within, get_or_default areas 0 first 0 within) in
    let found = slot-area c p slots has in
    omega
    (arith, enough, found.2, is.room found.0 found.1, is.all found.0 found.1, overhead-side c p)
