-- Items and their bytes give each other back: one item with which bytes begin, and items with
-- nothing between them.
use Rattle.std.proofs.Common.{ap, append-nil, append_assoc, arith, Bool, cond, drop, false, get_or}
use Rattle.std.proofs.Common.{length, length-append, length-drop, length-take, List, None, Option}
use Rattle.std.proofs.Common.{refl, Some, subst, suc, sym, take, take-append-drop, true, zero, ℕ}
use Rattle.std.proofs.Common.{[], ◌&&◌, ◌++◌, ◌+◌, ◌-◌, ◌<◌, ◌^◌, ◌||◌, ◌∙◌, ◌∷◌, ◌≡◌, ◌≤◌}
use Rattle.std.proofs.lemmas.Bool.{and_from, and_parts, eq-eqb, eqb-true, false_from_ne_true}
use Rattle.std.proofs.lemmas.Bool.{le-leb, leb-true, lt-ltb, ltb-true, true≢false}
use Rattle.std.proofs.lemmas.List.{drop-drop, drop_at, drop_more, flat_map_more, get_or-drop}
use Rattle.std.proofs.lemmas.List.{get_or-take, get_or_at, length-take-le, take_at, take_more}
use Rattle.std.proofs.lemmas.List.Folds.{length-prefix_len}
use Rattle.std.proofs.lemmas.List.Sums.{list_all-from_AllPass, prefix_len_passes, sum_by-cons}
use Rattle.std.{proofs.lemmas.Option.cond_some, specs.List.{list_all, list_any, prefix_len}}
use Rattle.std.specs.Prelude.{filter}
use Rattle.byteorder.specs.{Endian.{little_bytes, little_number}, Numbers.little_from-lt}
use Rattle.tag_blocks.{proofs.NumbersLemmas.little_bytes-little_number, specs.Blocks.ape_number}
use Rattle.tag_blocks.specs.Items.{has_whole_item, is_item, is_key_char, is_undo, item_and_more}
use Rattle.tag_blocks.specs.Items.{item_bytes, item_length, items_bytes, items_length, key_length}
use Rattle.tag_blocks.specs.Items.{next_if_admitted, next_item, tag_item_front, tag_item_of}
use Rattle.tag_blocks.specs.{Items.{tag_items_from, TagItem, value_offset}, Laws.AreByteValues}

-- ---- lengths

-- an item has as many bytes as its length says
pub length-item_bytes : (item : TagItem) → length (item_bytes item) ≡ item_length item
unfolding item_bytes
length-item_bytes item = omega (arith, length-append item.key (0 ∷ item.value))

-- the length of items is the length of the first plus the length of the rest
pub items_length-cons : (item : TagItem) (items : List TagItem)
    → items_length (item ∷ items) ≡ item_length item + items_length items
items_length-cons item items = sum_by-cons item_length item items

-- one item more adds its bytes
pub items_more : (items : List TagItem) {i : ℕ} (d : TagItem) {item : TagItem} (old : List ℕ)
    {before new : List ℕ} → item ≡ get_or items i d → i < length items
    → before ≡ old ++ items_bytes (take i items) → new ≡ before ++ item_bytes item
    → new ≡ old ++ items_bytes (take (i + 1) items)
items_more items d old is less so_far added = grind (arith, flat_map_more, is, take_more)

-- items have as many bytes as their lengths say together
pub length-items_bytes : (items : List TagItem) → length (items_bytes items) ≡ items_length items
length-items_bytes [] = refl
length-items_bytes (item ∷ items) =
    grind (arith, length-append, length-item_bytes, items_length-cons, length-items_bytes items)

-- ---- numbers of 32 bits

-- dropping some of a list of bytes leaves bytes
pub octets-drop : (n : ℕ) (bytes : List ℕ) → AreByteValues bytes → AreByteValues (drop n bytes)
octets-drop n bytes octets = grind (arith, get_or-drop)

-- the first of some bytes are bytes
pub octets-take : (n : ℕ) (bytes : List ℕ) → AreByteValues bytes → (i : ℕ)
    → get_or (take n bytes) i 0 < 256
octets-take (suc n) (b ∷ bytes) octets zero = octets 0
octets-take (suc n) (b ∷ bytes) octets (suc i) = octets-take n bytes (λ k. octets (suc k)) i
octets-take _ _ octets i = omega arith

-- the number of four bytes of a tag is written as these bytes
pub little_bytes-ape_number : (at : ℕ) (bytes : List ℕ) → AreByteValues bytes
    → at + 4 ≤ length bytes → little_bytes 4 (ape_number at bytes) ≡ take 4 (drop at bytes)
little_bytes-ape_number at bytes octets within =
    little_bytes-little_number
    (length-take-le 4 (drop at bytes) (omega (arith, length-drop at bytes)))
    (octets-take 4 (drop at bytes) (octets-drop at bytes octets))

-- a number of 32 bits is read from the bytes that it is written as
pub little_number-little_bytes : {n : ℕ} → n < 2 ^ 32 → little_number 4 (little_bytes 4 n) ≡ n
little_number-little_bytes below = grind (arith, append-nil)

-- ---- an item with which bytes begin

-- the conditions for a whole item, one by one
pub record Stands (bytes : List ℕ) : Type 0 where
  pub least : 2 ≤ key_length bytes
  pub most : key_length bytes ≤ 255
  pub within : value_offset bytes + ape_number 0 bytes ≤ length bytes
  pub zero_behind : get_or bytes (8 + key_length bytes) 0 ≡ 0

-- if an item is whole, all the conditions hold
pub has_whole_item-parts : {bytes : List ℕ} → has_whole_item bytes ≡ true → Stands bytes
unfolding has_whole_item
has_whole_item-parts is =
    let three = and_parts _ _ is in
    let two = and_parts _ _ three.0 in
    let one = and_parts _ _ two.0 in
    record {
      least = leb-true _ _ one.0;
      most = leb-true _ _ one.1;
      within = leb-true _ _ two.1;
      zero_behind = eqb-true _ _ three.1;
    }

-- if all the conditions hold, an item is whole
pub has_whole_item-from : {bytes : List ℕ} → Stands bytes → true ≡ has_whole_item bytes
unfolding has_whole_item
has_whole_item-from s = grind (arith, and_from, le-leb, eq-eqb)

-- if not all the conditions hold, no item is whole
pub has_whole_item-not : {bytes : List ℕ} → (Stands bytes → ⊥) → false ≡ has_whole_item bytes
has_whole_item-not none = grind (arith, false_from_ne_true, has_whole_item-parts)

-- an item is as long as the bytes before its value plus its value
pub length-front : (bytes : List ℕ) → has_whole_item bytes ≡ true
    → item_length (tag_item_front bytes) ≡ value_offset bytes + ape_number 0 bytes
unfolding tag_item_front
length-front bytes is =
    grind (arith, has_whole_item-parts, is, length-prefix_len, length-take-le, length-drop)

-- an item that is whole is within the bytes
pub within-front : (bytes : List ℕ) → has_whole_item bytes ≡ true
    → item_length (tag_item_front bytes) ≤ length bytes
within-front bytes is = omega (arith, length-front bytes is, (has_whole_item-parts is).within)

joined : (a b key value rest : List ℕ)
    → (a ++ (b ++ (key ++ (0 ∷ value)))) ++ rest ≡ a ++ (b ++ (key ++ (0 ∷ (value ++ rest))))
joined a b key value rest = grind (arith, append_assoc, value)

split : (n : ℕ) (bytes : List ℕ) → bytes ≡ take n bytes ++ drop n bytes
split n bytes = sym (take-append-drop n bytes)

-- the parts of an item and what is after it, in order
parts_of : {bytes : List ℕ} → has_whole_item bytes ≡ true
    → bytes ≡ take 4 bytes ++ (take 4 (drop 4 bytes)
    ++ (take (key_length bytes) (drop 8 bytes) ++ (0 ∷ (take (ape_number 0 bytes)
    (drop (value_offset bytes) bytes) ++ drop (value_offset bytes + ape_number 0 bytes) bytes))))
parts_of {bytes} is =
    let k : ℕ = key_length bytes in
    let parts = has_whole_item-parts is in
    let value : drop (9 + k) bytes
    ≡ take (ape_number 0 bytes) (drop (9 + k) bytes) ++ drop (9 + k + ape_number 0 bytes) bytes =
    grind (
      arith,
      split (ape_number 0 bytes) (drop (9 + k) bytes),
      drop-drop (ape_number 0
          bytes) (9 + k) bytes,
    ) in
    let next : 8 + k + 1 ≡ 9 + k = omega arith in
    let zeroed : drop (8 + k) bytes ≡ 0 ∷ drop (9 + k) bytes = grind (arith, drop_more) in
    let key : drop 8 bytes ≡ take k (drop 8 bytes) ++ drop (8 + k) bytes =
    split k (drop 8 bytes) ∙ ap (λ l. take k (drop 8 bytes) ++ l) (drop-drop k 8 bytes) in
    let flags : drop 4 bytes ≡ take 4 (drop 4 bytes) ++ drop 8 bytes =
    split 4 (drop 4 bytes) ∙ ap (λ l. take 4 (drop 4 bytes) ++ l) (drop-drop 4 4 bytes) in
    split 4 bytes ∙ ap (λ l. take 4 bytes ++ l) (flags ∙ ap (λ l. take 4 (drop 4 bytes) ++ l)
    (key ∙ ap (λ l. take k (drop 8 bytes) ++ l) (zeroed ∙ ap (λ l. 0 ∷ l) value)))

-- the bytes begin with the bytes of the item that is read from them
pub bytes-front : {bytes : List ℕ} → AreByteValues bytes → has_whole_item bytes ≡ true
    → bytes ≡ item_bytes (tag_item_front bytes) ++ drop (item_length (tag_item_front bytes)) bytes
unfolding item_bytes tag_item_front
bytes-front {bytes} octets is =
    let parts = has_whole_item-parts is in
    let size : little_bytes 4 (length (take (ape_number 0 bytes) (drop (value_offset bytes) bytes)))
    ≡ take 4 bytes =
    ap (little_bytes 4) (length-take-le (ape_number 0 bytes) (drop (value_offset bytes) bytes)
    (omega (arith, parts.within, length-drop (value_offset bytes) bytes)))
    ∙ little_bytes-ape_number 0 bytes octets (omega (arith, parts.within)) in
    let flags : little_bytes 4 (ape_number 4 bytes) ≡ take 4 (drop 4 bytes) =
    little_bytes-ape_number 4 bytes octets (omega (arith, parts.within, parts.least)) in
    let key : List ℕ = take (key_length bytes) (drop 8 bytes) in
    let value : List ℕ = take (ape_number 0 bytes) (drop (value_offset bytes) bytes) in
    let rest : drop (value_offset bytes + ape_number 0 bytes) bytes
    ≡ drop (item_length (tag_item_front bytes)) bytes = grind (arith, length-front, is) in
    parts_of is
    ∙ ap (λ l. take 4 bytes ++ (take 4 (drop 4 bytes) ++ (key ++ (0 ∷ (value ++ l))))) rest
    ∙ sym (joined (take 4 bytes) (take 4 (drop 4 bytes)) key value
    (drop (item_length (tag_item_front bytes)) bytes))
    ∙ ap (λ l. (l ++ (take 4 (drop 4 bytes) ++ (key ++ (0 ∷ value))))
    ++ drop (item_length (tag_item_front bytes)) bytes) (sym size)
    ∙ ap (λ l. (little_bytes 4 (length value) ++ (l ++ (key ++ (0 ∷ value))))
    ++ drop (item_length (tag_item_front bytes)) bytes) (sym flags)

key_passes : (bytes : List ℕ)
    → list_all is_key_char (take (prefix_len is_key_char bytes) bytes) ≡ true
key_passes bytes =
    grind (arith, list_all-from_AllPass, length-prefix_len, get_or-take, prefix_len_passes)

-- a number of a tag is below 2 ^ 32
pub ape_number-below : (at : ℕ) (bytes : List ℕ) → AreByteValues bytes
    → ape_number at bytes < 2 ^ 32
ape_number-below at bytes octets = little_from-lt 0 4 (take 4 (drop at bytes))
    (octets-take 4 (drop at bytes) (octets-drop at bytes octets))

-- what is read is an item
pub is_item-front : (bytes : List ℕ) → AreByteValues bytes → has_whole_item bytes ≡ true
    → is_item (tag_item_front bytes) ≡ true
unfolding is_item tag_item_front
is_item-front bytes octets is =
    grind (
      arith,
      has_whole_item-parts is,
      is,
      length-prefix_len is_key_char (drop 8 bytes),
      length-take (ape_number 0 bytes) (drop (value_offset bytes) bytes),
      and_from,
      le-leb,
      key_passes
          (drop 8 bytes),
      lt-ltb,
      ape_number-below 0 bytes octets,
      lt-ltb (ape_number 4 bytes) (2 ^ 32)
          (ape_number-below 4 bytes octets),
      ape_number-below 4 bytes octets,
    )

-- ---- an item read from its bytes

-- an item has a legal key of 2 to 255 characters, and a value length and flags of 32 bits
pub record IsItem (item : TagItem) : Type 0 where
  pub least : 2 ≤ length item.key
  pub most : length item.key ≤ 255
  pub chars : list_all is_key_char item.key ≡ true
  pub value : length item.value < 2 ^ 32
  pub flags : item.flags < 2 ^ 32

-- what passes the test of items is an item
pub is_item-parts : {item : TagItem} → is_item item ≡ true → IsItem item
unfolding is_item
is_item-parts is =
    let two = and_parts _ _ is in
    let one = and_parts _ _ two.0 in
    let key = and_parts _ _ one.0 in
    let long = and_parts _ _ key.0 in
    record {
      least = leb-true _ _ long.0;
      most = leb-true _ _ long.1;
      chars = key.1;
      value = ltb-true _ _ one.1;
      flags = ltb-true _ _ two.1;
    }

prefix_len-key : (key behind : List ℕ) → list_all is_key_char key ≡ true
    → prefix_len is_key_char (key ++ (0 ∷ behind)) ≡ length key
prefix_len-key [] behind all = refl
prefix_len-key (c ∷ key) behind all =
    let parts = and_parts (is_key_char c) (list_all is_key_char key) all in
    rw parts.0 (omega (arith, prefix_len-key key behind parts.1))

-- the bytes of an item, followed by what is after them
shown : TagItem → List ℕ → List ℕ
shown item rest = little_bytes 4 (length item.value)
    ++ (little_bytes 4 item.flags ++ (item.key ++ (0 ∷ (item.value ++ rest))))

shown-is : (item : TagItem) (rest : List ℕ) → item_bytes item ++ rest ≡ shown item rest
unfolding item_bytes shown
shown-is item rest =
    joined (little_bytes 4 (length item.value)) (little_bytes 4 item.flags) item.key item.value rest

drop-shown : (item : TagItem) (rest : List ℕ)
    → drop 8 (shown item rest) ≡ item.key ++ (0 ∷ (item.value ++ rest))
unfolding shown
drop-shown item rest = refl

key-shown : {item : TagItem} (rest : List ℕ) → IsItem item
    → key_length (shown item rest) ≡ length item.key
key-shown rest is = grind (arith, drop-shown, prefix_len-key)

size-shown : {item : TagItem} (rest : List ℕ) → IsItem item
    → ape_number 0 (shown item rest) ≡ length item.value
unfolding shown
size-shown {item} rest is = little_number-little_bytes is.value

flags-shown : {item : TagItem} (rest : List ℕ) → IsItem item
    → ape_number 4 (shown item rest) ≡ item.flags
unfolding shown
flags-shown {item} rest is = little_number-little_bytes is.flags

length-shown : (item : TagItem) (rest : List ℕ)
    → length (shown item rest) ≡ item_length item + length rest
length-shown item rest =
    grind (arith, shown-is item rest, length-append (item_bytes item) rest, length-item_bytes item)

zero-shown : (item : TagItem) (rest : List ℕ) → get_or (shown item rest) (8 + length item.key) 0 ≡ 0
zero-shown item rest =
    grind (
      arith,
      get_or-drop 8 (shown item rest) (length item.key) 0,
      drop-shown item rest,
      get_or_at item.key 0 (item.value ++ rest) 0 (length item.key) refl,
    )

value-shown : (item : TagItem) (rest : List ℕ)
    → drop (9 + length item.key) (shown item rest) ≡ item.value ++ rest
value-shown item rest =
    grind (
      arith,
      drop-drop (length item.key + 1) 8 (shown item rest),
      drop-shown item rest,
      drop-drop 1 (length item.key) (item.key ++ (0 ∷ (item.value ++ rest))),
      drop_at item.key (0 ∷
          (item.value ++ rest)) (length item.key) refl,
    )

has_whole_item-shown : {item : TagItem} (rest : List ℕ) → IsItem item
    → has_whole_item (shown item rest) ≡ true
unfolding has_whole_item
has_whole_item-shown rest is =
    grind (arith, key-shown, is, size-shown, zero-shown, and_from, le-leb, length-shown)

front-shown : {item : TagItem} (rest : List ℕ) → IsItem item
    → tag_item_front (shown item rest) ≡ item
unfolding tag_item_front
front-shown rest is =
    grind (arith, key-shown, is, size-shown, flags-shown, value-shown, drop-shown, take_at)

-- an item is read from its bytes, whatever follows
pub tag_item_of-item_bytes : {item : TagItem} (rest : List ℕ) → is_item item ≡ true
    → tag_item_of (item_bytes item ++ rest) ≡ Some item
tag_item_of-item_bytes rest is =
    grind (arith, is_item-parts, is, shown-is, has_whole_item-shown, front-shown)

-- ---- the next item

admitted_cases : (met is : Bool) {other item : TagItem} → is_undo other ≡ is
    → cond (met && is) None (Some other) ≡ Some item
    → (Some other ≡ Some item) × ((met && is) ≡ false)
admitted_cases true true own e = absurd cc
admitted_cases _ _ own e = (e, refl)

some_same : {a b : TagItem} → Some a ≡ Some b → a ≡ b
some_same e = cc

next_cases : (met : Bool) (o : Option TagItem) {item : TagItem} → next_if_admitted met o ≡ Some item
    → (o ≡ Some item) × ((met && is_undo item) ≡ false)
next_cases met None e = absurd cc
next_cases met (Some other) e = grind (arith, admitted_cases, some_same)

-- the next item is there, and isn't a second undo item
pub record IsNext (met : Bool) (bytes : List ℕ) (item : TagItem) : Type 0 where
  pub stands_there : has_whole_item bytes ≡ true
  pub is : tag_item_front bytes ≡ item
  pub admitted : (met && is_undo item) ≡ false

-- if there is a next item, it is whole and not a second undo item
pub next_item-is : {met : Bool} {bytes : List ℕ} {item : TagItem} → next_item met bytes ≡ Some item
    → IsNext met bytes item
next_item-is {met} {bytes} {item} next =
    let cases = next_cases met (tag_item_of bytes) next in
    let here = cond_some (has_whole_item bytes) (tag_item_front bytes) item cases.0 in
    record { stands_there = here.0; is = here.1; admitted = cases.1 }

-- the next item is within the bytes
pub next_item-within : (met : Bool) (bytes : List ℕ) {item : TagItem}
    → next_item met bytes ≡ Some item → item_length item ≤ length bytes
next_item-within met bytes next = grind (arith, next_item-is, within-front)

admit : (met : Bool) {item : TagItem} {o : Option TagItem} → o ≡ Some item
    → (met && is_undo item) ≡ false → next_if_admitted met o ≡ Some item
admit met is none = ap (next_if_admitted met) is ∙ rw none refl

-- ---- items end to end

one_more : (most : ℕ) (met : Bool) (bytes : List ℕ) → tag_items_from (suc most) met bytes
    ≡ item_and_more (λ item. tag_items_from most (met || is_undo item)
    (drop (item_length item) bytes)) (next_item met bytes)
unfolding tag_items_from
one_more most met bytes = refl

-- the items from here on are the next one and the items after it
pub tag_items_from-next : (most : ℕ) (met : Bool) (bytes : List ℕ) {item : TagItem}
    → next_item met bytes ≡ Some item → tag_items_from (suc most) met bytes
    ≡ item ∷ tag_items_from most (met || is_undo item) (drop (item_length item) bytes)
tag_items_from-next most met bytes next = grind (arith, one_more, most)

-- if there is no next item, there are no items
pub tag_items_from-none : (most : ℕ) (met : Bool) (bytes : List ℕ) → next_item met bytes ≡ None
    → tag_items_from most met bytes ≡ []
unfolding tag_items_from
tag_items_from-none zero met bytes none = refl
tag_items_from-none (suc most) met bytes none = grind (arith, one_more, most)

-- if no more items may follow, there are none
pub tag_items_from-zero : (met : Bool) (bytes : List ℕ) → tag_items_from 0 met bytes ≡ []
unfolding tag_items_from
tag_items_from-zero met bytes = refl

-- a step of the loop over items, with one item more
pub read_more : {whole : List TagItem} (items : List TagItem) {count at : ℕ} (passed : ℕ)
    (met : Bool) (bytes : List ℕ)
    {item : TagItem} → at < count
    → whole ≡ items ++ tag_items_from (count - at) met (drop passed bytes)
    → next_item met (drop passed bytes) ≡ Some item → whole ≡ (items ++ (item ∷ []))
    ++ tag_items_from (count - (at + 1)) (met || is_undo item)
    (drop (passed + item_length item) bytes)
read_more items {count} {at} passed met bytes {item} more is next =
    let left : count - at ≡ suc (count - (at + 1)) = omega (arith, more) in
    is ∙ ap (λ n. items ++ tag_items_from n met (drop passed bytes)) left
    ∙ ap (λ l. items ++ l) (tag_items_from-next (count - (at + 1)) met (drop passed bytes) next
    ∙ ap (λ b. item ∷ tag_items_from (count - (at + 1)) (met || is_undo item) b)
    (drop-drop (item_length item) passed bytes))
    ∙ sym (append_assoc items (item ∷ [])
    (tag_items_from (count - (at + 1)) (met || is_undo item)
    (drop (passed + item_length item) bytes)))

-- if there is no next item, the items so far are all
pub read_none : {whole items : List TagItem} (left : ℕ) (met : Bool) (bytes : List ℕ)
    → whole ≡ items ++ tag_items_from left met bytes → next_item met bytes ≡ None → items ≡ whole
read_none left met bytes is none = grind (arith, is, tag_items_from-none, append-nil)

-- if as many items were read as there may be, they are all
pub read_all : {whole items : List TagItem} {count at : ℕ} (met : Bool) (bytes : List ℕ)
    → count ≤ at → whole ≡ items ++ tag_items_from (count - at) met bytes → items ≡ whole
read_all met bytes done is = grind (arith, is, tag_items_from-zero, append-nil)

-- ---- what items that follow end to end are

undo_cases : (items : List TagItem) (item : TagItem) (is : Bool) → is_undo item ≡ is
    → length (cond is (item ∷ filter is_undo items) (filter is_undo items))
    ≡ cond is 1 0 + length (filter is_undo items)
undo_cases items item true own = omega arith
undo_cases items item false own = omega arith

-- there is one undo item more if the first item is one
pub undos-cons : (item : TagItem) (items : List TagItem) → length (filter is_undo (item ∷ items))
    ≡ cond (is_undo item) 1 0 + length (filter is_undo items)
undos-cons item items = undo_cases items item (is_undo item) refl

few_more : (met is : Bool) (k : ℕ) → (met && is) ≡ false → cond (met || is) 1 0 + k ≤ 1
    → cond met 1 0 + (cond is 1 0 + k) ≤ 1
few_more true true k both few = absurd (true≢false both)
few_more true false k both few = omega (arith, few)
few_more false true k both few = omega (arith, few)
few_more false false k both few = omega (arith, few)

few_less : (met is : Bool) (k : ℕ) → cond met 1 0 + (cond is 1 0 + k) ≤ 1
    → ((met && is) ≡ false) × (cond (met || is) 1 0 + k ≤ 1)
few_less true true k few = absurd (omega (arith, few))
few_less true false k few = (refl, omega (arith, few))
few_less false true k few = (refl, omega (arith, few))
few_less false false k few = (refl, omega (arith, few))

at_most_one : (met : Bool) → cond met 1 0 + 0 ≤ 1
at_most_one true = omega arith
at_most_one false = omega arith

-- all are items, the bytes begin with theirs, and at most one is an undo item, or none where one
-- was found before
pub record AreRead (met : Bool) (bytes : List ℕ) (items : List TagItem) : Type 0 where
  pub all : list_all is_item items ≡ true
  pub front : bytes ≡ items_bytes items ++ drop (items_length items) bytes
  pub few : cond met 1 0 + length (filter is_undo items) ≤ 1

read_nothing : (met : Bool) (bytes : List ℕ) → AreRead met bytes []
read_nothing met bytes = record { all = refl; front = refl; few = at_most_one met }

read_one : {met : Bool} {bytes : List ℕ} {item : TagItem} {items : List TagItem}
    → AreByteValues bytes → IsNext met bytes item
    → AreRead (met || is_undo item) (drop (item_length item) bytes) items
    → AreRead met bytes (item ∷ items)
read_one {met} {bytes} {item} {items} octets next rest =
    let here : is_item item ≡ true = grind (arith, is_item-front) in
    let front : bytes ≡ item_bytes item ++ drop (item_length item) bytes =
    grind (arith, bytes-front) in
    let behind : drop (items_length items) (drop (item_length item) bytes)
    ≡ drop (items_length (item ∷ items)) bytes = grind (arith, drop-drop, items_length-cons) in
    record {
      all = and_from (is_item item) (list_all is_item items) here rest.all;
      front = grind (arith, front, append_assoc);
      few = omega (
        arith,
        undos-cons item items,
        few_more met (is_undo item) (length (filter is_undo items)) next.admitted rest.few,
      );
    }

read_cases : (most : ℕ) {met : Bool} {bytes : List ℕ} → AreByteValues bytes
    → ((m : Bool) (b : List ℕ) → AreByteValues b → AreRead m b (tag_items_from most m b))
    → (o : Option TagItem) → next_item met bytes ≡ o
    → AreRead met bytes (tag_items_from (suc most) met bytes)
read_cases most {met} {bytes} octets fewer None none = subst (AreRead met bytes)
    (sym (tag_items_from-none (suc most) met bytes none)) (read_nothing met bytes)
read_cases most {met} {bytes} octets fewer (Some item) next =
    subst (AreRead met bytes) (sym (tag_items_from-next most met bytes next))
    (read_one
    octets (next_item-is next)
    (fewer (met || is_undo item) (drop (item_length item) bytes)
    (octets-drop (item_length item) bytes octets)))

-- what is read are items with whose bytes the bytes begin, and at most one is an undo item
pub tag_items_from-read : (most : ℕ) (met : Bool) {bytes : List ℕ} → AreByteValues bytes
    → AreRead met bytes (tag_items_from most met bytes)
tag_items_from-read zero met octets = grind (arith, tag_items_from-zero, read_nothing)
tag_items_from-read (suc most) met {bytes} octets = read_cases most octets
    (λ m b all. tag_items_from-read most m all) (next_item met bytes) refl

-- items are read from their bytes
pub tag_items_from-items_bytes : (met : Bool) (items : List TagItem) → list_all is_item items ≡ true
    → cond met 1 0 + length (filter is_undo items) ≤ 1
    → tag_items_from (length items) met (items_bytes items) ≡ items
tag_items_from-items_bytes met [] all few = tag_items_from-zero met []
tag_items_from-items_bytes met (item ∷ items) all few =
    let parts = and_parts (is_item item) (list_all is_item items) all in
    let less = few_less met (is_undo item) (length (filter is_undo items))
    (omega (arith, few, undos-cons item items)) in
    let next : next_item met (items_bytes (item ∷ items)) ≡ Some item =
    grind (arith, admit, tag_item_of-item_bytes) in
    tag_items_from-next (length items) met (items_bytes (item ∷ items)) next
    ∙ ap (λ l. item ∷ l) (ap (tag_items_from (length items) (met || is_undo item))
    (drop_at (item_bytes item) (items_bytes items) (item_length item) (length-item_bytes item))
    ∙ tag_items_from-items_bytes (met || is_undo item) items parts.1 less.1)

-- the items that are read are within the bytes
pub tag_items_from-within : (most : ℕ) (met : Bool) (bytes : List ℕ) → AreByteValues bytes
    → items_length (tag_items_from most met bytes) ≤ length bytes
tag_items_from-within most met bytes octets =
    let items : List TagItem = tag_items_from most met bytes in
    let read = tag_items_from-read most met octets in
    omega (
      arith,
      ap length read.front,
      length-append (items_bytes items) (drop (items_length items) bytes),
      length-items_bytes items,
    )

-- ---- reading ends only where it has to

-- there are as many items as there may be, or there is no next one
pub record IsStopped (most : ℕ) (met : Bool) (bytes : List ℕ) (items : List TagItem) : Type 0 where
  pub few : length items ≤ most
  pub last : length items < most
      → next_item (met || list_any is_undo items) (drop (items_length items) bytes) ≡ None

or_false : (m : Bool) → (m || false) ≡ m
or_false true = refl
or_false false = refl

or_assoc : (a b c : Bool) → ((a || b) || c) ≡ (a || (b || c))
or_assoc true b c = refl
or_assoc false b c = refl

stopped_here : {most : ℕ} {met : Bool} {bytes : List ℕ} → (0 < most → next_item met bytes ≡ None)
    → IsStopped most met bytes []
stopped_here {met = met} {bytes = bytes} none = record {
  few = omega arith;
  last = λ less. ap (λ m. next_item m bytes) (or_false met) ∙ none less;
}

stopped_later : {most : ℕ} {met : Bool} {bytes : List ℕ} {item : TagItem} {items : List TagItem}
    → IsStopped most (met || is_undo item) (drop (item_length item) bytes) items
    → IsStopped (suc most) met bytes (item ∷ items)
stopped_later rest = record {
  few = omega (arith, rest.few);
  last = grind (arith, or_assoc, items_length-cons, drop-drop);
}

stop_cases : {most : ℕ} {met : Bool} {bytes : List ℕ}
    → ((m : Bool) (b : List ℕ) → IsStopped most m b (tag_items_from most m b))
    → (o : Option TagItem) → next_item met bytes ≡ o
    → IsStopped (suc most) met bytes (tag_items_from (suc most) met bytes)
stop_cases {most} fewer None none = grind (arith, most, tag_items_from-none, stopped_here)
stop_cases {most} {met} {bytes} fewer (Some item) next =
    subst (IsStopped (suc most) met bytes) (sym (tag_items_from-next most met bytes next))
    (stopped_later (fewer (met || is_undo item) (drop (item_length item) bytes)))

-- reading continues up to the most items there may be, or until there is no next one
pub tag_items_from-stopped : (most : ℕ) (met : Bool) (bytes : List ℕ)
    → IsStopped most met bytes (tag_items_from most met bytes)
tag_items_from-stopped zero met bytes = grind (arith, tag_items_from-zero, stopped_here)
tag_items_from-stopped (suc most) met bytes =
    stop_cases (λ m b. tag_items_from-stopped most m b) (next_item met bytes) refl

-- ---- no other items are read

only_none : (most : ℕ) (met : Bool) (bytes : List ℕ) → (0 < most → next_item met bytes ≡ None)
    → tag_items_from most met bytes ≡ []
only_none zero met bytes last = tag_items_from-zero met bytes
only_none (suc most) met bytes last = tag_items_from-none (suc most) met bytes (last (omega arith))

-- items with whose bytes the bytes begin, and after which there is no next one, are the items that
-- are read
pub tag_items_from-only : (most : ℕ) (met : Bool) (items : List TagItem) {bytes : List ℕ}
    (rest : List ℕ) → list_all is_item items ≡ true → length items ≤ most
    → cond met 1 0 + length (filter is_undo items) ≤ 1 → bytes ≡ items_bytes items ++ rest
    → (length items < most → next_item (met || list_any is_undo items) rest ≡ None)
    → tag_items_from most met bytes ≡ items
tag_items_from-only most met [] rest all few one front last =
    grind (arith, only_none, most, front, or_false)
tag_items_from-only zero met (item ∷ items) rest all few one front last = grind (arith, few)
tag_items_from-only (suc most) met (item ∷ items) {bytes} rest all few one front last =
    let parts = and_parts (is_item item) (list_all is_item items) all in
    let less = few_less met (is_undo item) (length (filter is_undo items))
    (omega (arith, one, undos-cons item items)) in
    let shape : bytes ≡ item_bytes item ++ (items_bytes items ++ rest) =
    front ∙ append_assoc (item_bytes item) (items_bytes items) rest in
    let next : next_item met bytes ≡ Some item = grind (arith, admit, tag_item_of-item_bytes) in
    let behind : drop (item_length item) bytes ≡ items_bytes items ++ rest =
    grind (arith, drop_at, length-item_bytes) in
    tag_items_from-next most met bytes next
    ∙ ap (λ l. item ∷ l) (tag_items_from-only most
    (met || is_undo item) items rest parts.1 (omega (arith, few)) less.1 behind
    (λ fewer. ap (λ m. next_item m rest) (or_assoc met (is_undo item) (list_any is_undo items))
    ∙ last (omega (arith, fewer))))
