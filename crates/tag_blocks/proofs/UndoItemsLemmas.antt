-- The undo item among the items: where it is, what the items are with another one or without it,
-- and that all others stay.
use Rattle.std.proofs.Common.{ap, arith, Bool, cond, drop, false, get_or, length, List, None, pos}
use Rattle.std.proofs.Common.{refl, set, Some, subst, sym, take, true, ℕ, [], ◌++◌, ◌+◌, ◌<◌, ◌∙◌}
use Rattle.std.proofs.Common.{◌∷◌, ◌≡◌, ◌≤◌}
use Rattle.std.proofs.lemmas.Bool.{and_from, and_parts, ltb-false, ltb-true}
use Rattle.std.proofs.lemmas.{List.{length-map, nil_from_length}, Slice.Eq.bytes_eq-Decides}
use Rattle.std.specs.{List.{list_all, position_or_len}, Prelude.position}
use Rattle.tag_blocks.proofs.ItemsLemmas.{items_length-cons}
use Rattle.tag_blocks.specs.Items.{is_item, is_undo, item_length, items_length, TagItem}
use Rattle.tag_blocks.specs.Tags.{IsTag, other_items, TagFields, undo_items}
use Rattle.tag_blocks.specs.UndoItems.{new_undo_item, undo_from, with_undo, without_undo}
use Rattle.tag_blocks.specs.{UndoText.{undo_of, undo_text}, declared.undo.Undo.Undo}
use Rattle.tag_blocks.specs.declared.undo.UndoItem.TheVariants.{Found, Missing}

-- ---- where it is

found_cases : (b : Bool) {k at : ℕ} → cond b (Some k) None ≡ Some at → (b ≡ true) × (k ≡ at)
found_cases true e = (refl, cc)
found_cases false e = absurd cc

missed_cases : (b : Bool) (k : ℕ) → cond b (Some k) None ≡ None → b ≡ false
missed_cases true k e = absurd cc
missed_cases false k e = refl

-- the index of the undo item is among the items
pub position-some : (items : List TagItem) {at : ℕ} → position is_undo items ≡ Some at
    → (position_or_len is_undo items < length items) × (position_or_len is_undo items ≡ at)
position-some items e = grind (arith, found_cases, ltb-true)

-- if there is no undo item, its index is past the items
pub position-none : (items : List TagItem) → position is_undo items ≡ None
    → length items ≤ position_or_len is_undo items
position-none items e = grind (arith, ltb-false, missed_cases)

-- ---- the items with another undo item or without one, by its index

set_cases : (undo : Undo) (item : TagItem) (items : List TagItem) (d : TagItem) (is : Bool)
    → is_undo item ≡ is → position_or_len is_undo (item ∷ items) < length (item ∷ items)
    → (position_or_len is_undo items < length items → with_undo undo items ≡ set items
    (position_or_len is_undo items) (record (get_or items (position_or_len is_undo items) d) {
      value = undo_text undo;
    })) → with_undo undo (item ∷ items)
    ≡ set (item ∷ items) (position_or_len is_undo (item ∷ items)) (record (get_or (item ∷ items)
    (position_or_len is_undo (item ∷ items)) d) { value = undo_text undo })
set_cases undo item items d true own within rest = rw own refl
set_cases undo item items d false own within rest = grind (arith, own)

-- the undo item gets another value in its place, and keeps its key and flags
pub with_undo-set : (undo : Undo) (items : List TagItem) (d : TagItem)
    → position_or_len is_undo items < length items
    → with_undo undo items ≡ set items (position_or_len is_undo items)
    (record (get_or items (position_or_len is_undo items) d) { value = undo_text undo })
with_undo-set undo [] d within = absurd (omega (arith, within))
with_undo-set undo (item ∷ items) d within =
    set_cases undo item items d (is_undo item) refl within (λ less. with_undo-set undo items d less)

add_cases : (undo : Undo) {item : TagItem} {items : List TagItem} (is : Bool) → is_undo item ≡ is
    → length (item ∷ items) ≤ position_or_len is_undo (item ∷ items)
    → (length items ≤ position_or_len is_undo items
    → (with_undo undo items ≡ items ++ (new_undo_item undo ∷ [])) × (without_undo items ≡ items))
    → (with_undo undo (item ∷ items) ≡ (item ∷ items) ++ (new_undo_item undo ∷ []))
    × (without_undo (item ∷ items) ≡ item ∷ items)
add_cases undo true own past rest = grind (arith, own)
add_cases undo false own past rest = grind (arith, own)

-- if there is no undo item, a new one is added, and none is removed
pub with_undo-added : (undo : Undo) (items : List TagItem)
    → length items ≤ position_or_len is_undo items
    → (with_undo undo items ≡ items ++ (new_undo_item undo ∷ [])) × (without_undo items ≡ items)
with_undo-added undo [] past = (refl, refl)
with_undo-added undo (item ∷ items) past =
    add_cases undo (is_undo item) refl past (λ more. with_undo-added undo items more)

remove_cases : (item : TagItem) (items : List TagItem) (is : Bool) → is_undo item ≡ is
    → position_or_len is_undo (item ∷ items) < length (item ∷ items)
    → (position_or_len is_undo items < length items → without_undo items
    ≡ take (position_or_len is_undo items) items ++ drop (position_or_len is_undo items + 1) items)
    → without_undo (item ∷ items) ≡ take (position_or_len is_undo (item ∷ items)) (item ∷ items)
    ++ drop (position_or_len is_undo (item ∷ items) + 1) (item ∷ items)
remove_cases item items true own within rest = rw own refl
remove_cases item items false own within rest = grind (arith, own)

-- without the undo item the items are the ones before it and the ones after it
pub without_undo-removed : (items : List TagItem) → position_or_len is_undo items < length items
    → without_undo items
    ≡ take (position_or_len is_undo items) items ++ drop (position_or_len is_undo items + 1) items
without_undo-removed [] within = absurd (omega (arith, within))
without_undo-removed (item ∷ items) within =
    remove_cases item items (is_undo item) refl within (λ less. without_undo-removed items less)

-- ---- one item more in a filtered list

-- the first item is among the other items unless it is an undo item
pub other-cons : (item : TagItem) (items : List TagItem) (is : Bool) → is_undo item ≡ is
    → other_items (item ∷ items) ≡ cond is (other_items items) (item ∷ other_items items)
other-cons item items true own = rw own refl
other-cons item items false own = rw own refl

-- the first item is among the undo items if it is one
pub undo-cons : (item : TagItem) (items : List TagItem) (is : Bool) → is_undo item ≡ is
    → undo_items (item ∷ items) ≡ cond is (item ∷ undo_items items) (undo_items items)
undo-cons item items true own = rw own refl
undo-cons item items false own = rw own refl

-- the lengths of the other items and of the undo items add up to the length of all, with one item
-- more
sum_cases : (item : TagItem) (items : List TagItem) (is : Bool) → is_undo item ≡ is
    → items_length items ≡ items_length (other_items items) + items_length (undo_items items)
    → items_length (item ∷ items)
    ≡ items_length (other_items (item ∷ items)) + items_length (undo_items (item ∷ items))
sum_cases item items true own rest = grind (arith, items_length-cons, other-cons, own, undo-cons)
sum_cases item items false own rest = grind (arith, items_length-cons, other-cons, own, undo-cons)

-- the length of the items is the length of the other items plus the length of the undo items
pub items_length-parts : (items : List TagItem)
    → items_length items ≡ items_length (other_items items) + items_length (undo_items items)
items_length-parts [] = omega arith
items_length-parts (item ∷ items) = grind (arith, sum_cases, items_length-parts items)

-- ---- the undo item itself

-- the key of the undo item has 12 characters
pub undo-key : (item : TagItem) → is_undo item ≡ true → length item.key ≡ 12
unfolding is_undo
undo-key item is = grind (arith, bytes_eq-Decides, length-map)

new-is : (undo : Undo) → is_undo (new_undo_item undo) ≡ true
unfolding is_undo
new-is undo = refl

new-item : (undo : Undo) → is_item (new_undo_item undo) ≡ true
unfolding is_item
new-item undo = refl

changed-is : (undo : Undo) (item : TagItem)
    → is_undo (record item { value = undo_text undo }) ≡ is_undo item
unfolding is_undo
changed-is undo item = refl

changed-item : (undo : Undo) (item : TagItem) → is_item item ≡ true
    → is_item (record item { value = undo_text undo }) ≡ true
unfolding is_item
changed-item undo item is = grind (arith, and_parts, and_from)

-- ---- a tag with another undo item

all_cases : (undo : Undo) (item : TagItem) (items : List TagItem) (is : Bool) → is_undo item ≡ is
    → list_all is_item (item ∷ items) ≡ true
    → (list_all is_item items ≡ true → list_all is_item (with_undo undo items) ≡ true)
    → list_all is_item (with_undo undo (item ∷ items)) ≡ true
all_cases undo item items true own all rest = grind (arith, and_parts, own, and_from, changed-item)
all_cases undo item items false own all rest = grind (arith, and_parts, own, and_from)

with_undo-all : (undo : Undo) (items : List TagItem) → list_all is_item items ≡ true
    → list_all is_item (with_undo undo items) ≡ true
with_undo-all undo [] all = and_from (is_item (new_undo_item undo)) true (new-item undo) refl
with_undo-all undo (item ∷ items) all =
    all_cases undo item items (is_undo item) refl all (λ rest. with_undo-all undo items rest)

-- after an undo item was put in, there is at most one, of at most 32 bytes
pub record HasOne (items : List TagItem) : Type 0 where
  pub one : length (undo_items items) ≤ 1
  pub own : items_length (undo_items items) ≤ 32

others_cases : (undo : Undo) (item : TagItem) (items : List TagItem) (is : Bool) → is_undo item ≡ is
    → other_items (with_undo undo items) ≡ other_items items
    → other_items (with_undo undo (item ∷ items)) ≡ other_items (item ∷ items)
others_cases undo item items true own rest = grind (arith, own, other-cons, changed-is)
others_cases undo item items false own rest = grind (arith, own, other-cons)

-- all other items stay when an undo item is put in
pub others-with_undo : (undo : Undo) (items : List TagItem)
    → other_items (with_undo undo items) ≡ other_items items
others-with_undo undo [] = other-cons (new_undo_item undo) [] true (new-is undo)
others-with_undo undo (item ∷ items) = grind (arith, others_cases, others-with_undo undo items)

one_item : {item : TagItem} {items : List TagItem} → is_undo item ≡ true → length item.value ≡ 11
    → undo_items items ≡ [] → HasOne (item ∷ items)
one_item {item} {items} own value none =
    let here : undo_items (item ∷ items) ≡ item ∷ [] = grind (arith, undo-cons, own, none) in
    record {
      one = omega (arith, ap length here);
      own =
          omega (arith, ap items_length here, items_length-cons item [], undo-key item own, value);
    }

own_cases : (undo : Undo) (item : TagItem) (items : List TagItem) (is : Bool) → is_undo item ≡ is
    → length (undo_items (item ∷ items)) ≤ 1
    → (length (undo_items items) ≤ 1 → HasOne (with_undo undo items))
    → HasOne (with_undo undo (item ∷ items))
own_cases undo item items true own few rest =
    let none : undo_items items ≡ [] = grind (arith, nil_from_length, undo-cons, own) in
    rw own
    (one_item (changed-is undo item ∙ own) refl none)
own_cases undo item items false own few rest =
    let behind = rest (omega (arith, few, ap length (undo-cons item items false own))) in
    let same : undo_items (item ∷ with_undo undo items) ≡ undo_items (with_undo undo items) =
    undo-cons item (with_undo undo items) false own in
    rw own (record {
      one = omega (arith, behind.one, ap length same);
      own = omega (arith, behind.own, ap items_length same);
    })

with_undo-one : (undo : Undo) (items : List TagItem) → length (undo_items items) ≤ 1
    → HasOne (with_undo undo items)
with_undo-one undo [] few = one_item (new-is undo) refl refl
with_undo-one undo (item ∷ items) few =
    own_cases undo item items (is_undo item) refl few (λ less. with_undo-one undo items less)

-- a tag with an undo item put in is a tag
pub IsTag-with_undo : (undo : Undo) {tag : TagFields} → IsTag tag
    → IsTag (record tag { items = with_undo undo tag.items })
IsTag-with_undo undo {tag} is =
    let one = with_undo-one undo tag.items is.one in
    record {
      items = with_undo-all undo tag.items is.items;
      one = one.one;
      others = grind (arith, others-with_undo);
      own = omega (arith, one.own);
      header_bits = is.header_bits;
      footer_bits = is.footer_bits;
      header_number = is.header_number;
      footer_number = is.footer_number;
    }

-- ---- a tag without its undo item

-- all are items, none is an undo item, and the other items are the same
pub record AreWithout (items left : List TagItem) : Type 0 where
  pub all : list_all is_item left ≡ true
  pub others : other_items left ≡ other_items items
  pub none : undo_items left ≡ []

without_cases : {item : TagItem} {items : List TagItem} (is : Bool) → is_undo item ≡ is
    → list_all is_item (item ∷ items) ≡ true → length (undo_items (item ∷ items)) ≤ 1
    → (list_all is_item items ≡ true → length (undo_items items) ≤ 1
    → AreWithout items (without_undo items))
    → AreWithout (item ∷ items) (without_undo (item ∷ items))
without_cases {item} {items} true own all few rest =
    let parts = and_parts (is_item item) (list_all is_item items) all in
    rw own (record {
      all = parts.1;
      others = sym (other-cons item items true own);
      none = grind (arith, nil_from_length, undo-cons, own);
    })
without_cases {item} {items} false own all few rest =
    let parts = and_parts (is_item item) (list_all is_item items) all in
    let behind = rest parts.1 (omega (arith, few, ap length (undo-cons item items false own))) in
    rw own (record {
      all = and_from (is_item item) (list_all is_item (without_undo items)) parts.0 behind.all;
      others = grind (arith, other-cons, own);
      none = undo-cons item (without_undo items) false own ∙ behind.none;
    })

-- taking the undo item out of items with at most one leaves all others
pub without_undo-parts : (items : List TagItem) → list_all is_item items ≡ true
    → length (undo_items items) ≤ 1 → AreWithout items (without_undo items)
without_undo-parts [] all few = record { all = refl; others = refl; none = refl }
without_undo-parts (item ∷ items) all few = without_cases (is_undo item) refl all few
    (λ rest less. without_undo-parts items rest less)

-- a tag without its undo item is a tag
pub IsTag-without_undo : {tag : TagFields} → IsTag tag
    → IsTag (record tag { items = without_undo tag.items })
IsTag-without_undo {tag} is =
    let left = without_undo-parts tag.items is.items is.one in
    record {
      items = left.all;
      one = omega (arith, ap length left.none);
      others = subst (λ l. items_length l ≤ 1048512) (sym left.others) is.others;
      own = omega (arith, ap items_length left.none);
      header_bits = is.header_bits;
      footer_bits = is.footer_bits;
      header_number = is.header_number;
      footer_number = is.footer_number;
    }

-- ---- by the index that was found

-- removing the item at the index of the undo item gives the items without it
pub removed : (items : List TagItem) {left : List TagItem} {at : ℕ} → position is_undo items
    ≡ Some at → left ≡ take at items ++ drop (at + 1) items → left ≡ without_undo items
removed items found is = grind (arith, position-some, without_undo-removed)

-- items without an undo item stay as they are
pub none_removed : {items : List TagItem} → position is_undo items ≡ None
    → items ≡ without_undo items
none_removed {items} none = sym ((with_undo-added
    (record { left = pos 0; right = pos 0; wrap = false }) items (position-none items none)).1)

-- setting the value at the index of the undo item puts the undo in
pub replaced : (undo : Undo) (items : List TagItem) {changed : List TagItem} {at : ℕ}
    {item : TagItem} → position is_undo items ≡ Some at → item ≡ get_or items at item → changed
    ≡ set items at (record item { value = undo_text undo }) → changed ≡ with_undo undo items
replaced undo items found own is =
    grind (arith, position-some items, own, set items, set, with_undo-set)

-- if there is no undo item, adding a new one at the end puts the undo in
pub added : (undo : Undo) (items : List TagItem) {more : List TagItem} → position is_undo items
    ≡ None → more ≡ items ++ (new_undo_item undo ∷ []) → more ≡ with_undo undo items
added undo items none is = is ∙ sym ((with_undo-added undo items (position-none items none)).0)

-- ---- what the tag says then

put_cases : {undo : Undo} (item : TagItem) (items : List TagItem) (offset : ℕ) (is : Bool)
    → is_undo item ≡ is → undo_of (undo_text undo) ≡ Some undo
    → ((p : ℕ) → undo_from p (with_undo undo items) ≡ Found undo)
    → undo_from offset (with_undo undo (item ∷ items)) ≡ Found undo
put_cases {undo} item items offset true own text rest =
    rw (own, changed-is undo item, own, text) refl
put_cases item items offset false own text rest = grind (arith, own)

-- an undo that was put in is found
pub undo_from-with_undo : {undo : Undo} (items : List TagItem) (offset : ℕ)
    → undo_of (undo_text undo) ≡ Some undo → undo_from offset (with_undo undo items) ≡ Found undo
undo_from-with_undo {undo} [] offset text = rw (new-is undo, text) refl
undo_from-with_undo {undo} (item ∷ items) offset text = put_cases item items offset
    (is_undo item) refl text (λ p. undo_from-with_undo items p text)

missing_cases : (item : TagItem) (items : List TagItem) (offset : ℕ) (is : Bool) → is_undo item ≡ is
    → undo_items (item ∷ items) ≡ []
    → (undo_items items ≡ [] → undo_from (offset + item_length item) items ≡ Missing)
    → undo_from offset (item ∷ items) ≡ Missing
missing_cases item items offset true own none rest = grind (arith, undo-cons, own, none)
missing_cases item items offset false own none rest = grind (arith, own, undo-cons, none)

-- if there is no undo item, none is found
pub undo_from-missing : (items : List TagItem) (offset : ℕ) → undo_items items ≡ []
    → undo_from offset items ≡ Missing
undo_from-missing [] offset none = refl
undo_from-missing (item ∷ items) offset none = missing_cases item items offset
    (is_undo item) refl none (λ rest. undo_from-missing items (offset + item_length item) rest)

back_cases : (undo : Undo) (item : TagItem) (items : List TagItem) (is : Bool) → is_undo item ≡ is
    → without_undo (with_undo undo items) ≡ without_undo items
    → without_undo (with_undo undo (item ∷ items)) ≡ without_undo (item ∷ items)
back_cases undo item items true own rest = rw (own, changed-is undo item, own) refl
back_cases undo item items false own rest = rw (own, own) (ap (λ l. item ∷ l) rest)

-- putting in an undo item and removing it has the same result as removing it
pub without_undo-with_undo : (undo : Undo) (items : List TagItem)
    → without_undo (with_undo undo items) ≡ without_undo items
without_undo-with_undo undo [] = rw (new-is undo) refl
without_undo-with_undo undo (item ∷ items) =
    back_cases undo item items (is_undo item) refl (without_undo-with_undo undo items)

none_cases : (item : TagItem) (items : List TagItem) (is : Bool) → is_undo item ≡ is
    → length (undo_items (item ∷ items)) ≤ 1
    → (length (undo_items items) ≤ 1 → undo_items (without_undo items) ≡ [])
    → undo_items (without_undo (item ∷ items)) ≡ []
none_cases item items true own few rest = grind (arith, own, nil_from_length, undo-cons)
none_cases item items false own few rest = grind (arith, own, undo-cons)

-- without the one undo item there is none
pub undos-without_undo : (items : List TagItem) → length (undo_items items) ≤ 1
    → undo_items (without_undo items) ≡ []
undos-without_undo [] few = refl
undos-without_undo (item ∷ items) few =
    none_cases item items (is_undo item) refl few (λ less. undos-without_undo items less)

stay_cases : (item : TagItem) (items : List TagItem) (is : Bool) → is_undo item ≡ is
    → other_items (without_undo items) ≡ other_items items
    → other_items (without_undo (item ∷ items)) ≡ other_items (item ∷ items)
stay_cases item items true own rest = rw own refl
stay_cases item items false own rest = grind (arith, own, other-cons)

-- all other items stay when the undo item is taken out
pub others-without_undo : (items : List TagItem)
    → other_items (without_undo items) ≡ other_items items
others-without_undo [] = refl
others-without_undo (item ∷ items) = grind (arith, stay_cases, others-without_undo items)
