-- Bytes begin with at most one item.
use Rattle.std.proofs.Common.{arith, Bool, cond, drop, Err, get_or, length, List, None, Option}
use Rattle.std.proofs.Common.{refl, Result, Some, sym, take, true, ℕ, [], ◌*◌, ◌++◌, ◌+◌, ◌<◌, ◌∙◌}
use Rattle.std.proofs.{Common.{◌∷◌, ◌≡◌, ◌≢◌, ◌≤◌}, Math.Seq.take-append-add}
use Rattle.std.proofs.lemmas.{Bool.{and_parts, eqb-true, leb-true}, List.length-take}
use Rattle.bit_fields.proofs.BitsLemmas.{AreBelow-take, AreBits-bits, bits-cons, length-bits}
use Rattle.bit_fields.proofs.BitsLemmas.{length-bits_of, number-append, number-below}
use Rattle.bit_fields.{proofs.BitsLemmas.number-bits_of-below, specs.Bits.{bits, bits_of, number}}
use Rattle.bit_fields.specs.Groups.{group}
use Rattle.frame_header.{proofs.HeaderLemmas.header_in-no, specs.Fields.HeaderFields}
use Rattle.frame_header.specs.Reading.{header_at, header_in, is_readable}
use Rattle.frame_header.specs.declared.header.NotHeader.{NotHeader, TheVariants.No}
use Rattle.sync_survey.specs.Items.{byte_item, header_front, IsItemFront, item_at, item_front}
use Rattle.sync_survey.specs.declared.items.Item.{Item, TheVariants.{Nothing, Zero}}
use Rattle.tag_blocks.proofs.BlocksLemmas.{block_front-first, block_front-not_zero, first_byte}
use Rattle.tag_blocks.specs.{Blocks.block_front, declared.block.Block.Block as TagBlock}
use Rattle.tag_blocks.specs.declared.block.Kind.{Kind}

-- ---- the first byte of a header

-- eleven ones begin with a byte of ones
sync_byte : {byte : ℕ} (next : ℕ) (rest : List ℕ) → byte < 256
    → group 0 11 (bits (byte ∷ next ∷ rest)) ≡ 2047 → byte ≡ 255
unfolding group
sync_byte {byte} next rest below sync =
    let eight : length (bits_of 8 byte) ≡ 8 = length-bits_of 8 byte in
    let behind = bits (next ∷ rest) in
    let front : take 11 (bits (byte ∷ next ∷ rest)) ≡ bits_of 8 byte ++ take 3 behind =
    grind (arith, bits-cons byte (next ∷ rest), take-append-add (bits_of 8 byte) behind 3) steps
    400000 in
    let three : length (take 3 behind) ≡ 3 =
    omega (arith, length-take 3 behind, length-bits (next ∷ rest)) in
    let whole : number (take 11 (bits (byte ∷ next ∷ rest))) ≡ byte * 8 + number (take 3 behind) =
    grind (arith, number-append, number-bits_of-below) in
    let few : number (take 3 behind) < 8 =
    grind (arith, number-below, AreBelow-take, AreBits-bits) in
    omega (arith, few, sym whole ∙ sync)

readable_sync : (h : List ℕ) → is_readable h ≡ true → group 0 11 h ≡ 2047
unfolding is_readable
readable_sync h is = grind (arith, eqb-true, and_parts)

readable_cases : (h : List ℕ) {b : Bool} → is_readable h ≡ b → header_in h ≢ Err No
    → is_readable h ≡ true
readable_cases h is header = grind (arith, header_in-no)

-- bytes that don't begin with ff are no header
no_header_by : {b : Bool} {r : Result HeaderFields NotHeader} → (b ≡ true → r ≡ Err No)
    → cond b r (Err No) ≡ Err No
no_header_by none = grind arith

result_cases : {r : Result HeaderFields NotHeader} → (r ≢ Err No → ⊥) → r ≡ Err No
result_cases not = grind arith

four_bytes : (bytes : List ℕ) → get_or bytes 0 0 < 255 → 4 ≤ length bytes
    → header_at (take 4 bytes) ≡ Err No
unfolding header_at
four_bytes (a ∷ b ∷ rest) below long =
    result_cases (λ header. let ones = sync_byte b (take 2 rest) (omega (arith, below))
    (readable_sync _ (readable_cases _ refl header)) in omega (arith, ones, below))
four_bytes _ below long = absurd (omega (arith, long))

-- bytes that don't begin with ff begin with no header
pub no_header : (bytes : List ℕ) → get_or bytes 0 0 < 255 → header_front bytes ≡ Err No
unfolding header_front
no_header bytes below = grind (arith, no_header_by, four_bytes, leb-true)

-- ---- the first byte of a block

below_ones : (kind : Kind) → first_byte kind < 255
below_ones kind = grind arith

block_front-below : (bytes : List ℕ) {b : TagBlock} → block_front bytes ≡ Some b
    → get_or bytes 0 0 < 255
block_front-below bytes {b} is = omega (arith, block_front-first bytes is, below_ones b.kind)

option_cases : {o : Option TagBlock} → ((b : TagBlock) → o ≡ Some b → ⊥) → o ≡ None
option_cases not = grind arith

no_block : (bytes : List ℕ) → get_or bytes 0 0 ≡ 0 → block_front bytes ≡ None
no_block bytes first = grind (arith, option_cases, block_front-not_zero)

-- ---- one item

byte_item-nothing : {bytes : List ℕ} → bytes ≢ [] → take 1 bytes ≢ 0 ∷ []
    → byte_item bytes ≡ Nothing
byte_item-nothing some other = grind arith

byte_item-zero : (bytes : List ℕ) → take 1 bytes ≡ 0 ∷ []
    → (get_or bytes 0 0 ≡ 0) × (byte_item bytes ≡ Zero)
byte_item-zero bytes first = grind arith

-- an item with which bytes begin is the one that the definition finds
pub stands-only : (bytes : List ℕ) {item : Item} → IsItemFront bytes item → item ≡ item_front bytes
unfolding item_front
stands-only bytes here =
    grind (arith, no_header, block_front-below, byte_item-zero, no_block, byte_item-nothing)

-- an item at an offset of a file is the one that the definition finds there
pub stands-only_at : (file : List ℕ) (at : ℕ) (item : Item) → IsItemFront (drop at file) item
    → item ≡ item_at file at
unfolding item_at
stands-only_at file at item here = stands-only (drop at file) here
