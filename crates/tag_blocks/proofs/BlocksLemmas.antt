-- What a block's first bytes say: 32 of them decide, and the first of them depends on the kind, so
-- bytes begin with one kind at most.
use Rattle.std.proofs.Common.{ap, arith, Bool, codes, drop, false, get_or, leb, length, List, lit<}
use Rattle.std.proofs.Common.{None, Option, refl, Some, subst, sym, take, true, ℕ, ◌+◌, ◌-◌, ◌<◌}
use Rattle.std.proofs.{Common.{◌∙◌, ◌≡◌, ◌≢◌, ◌≤◌}, lemmas.Bool.{and_parts, leb-false, leb-true}}
use Rattle.std.proofs.lemmas.List.{drop-take, get_or-take, length-take, take-take}
use Rattle.std.{proofs.lemmas.{Option.cond_some, Slice.Eq.bytes_eq-Decides}, specs.Option.option_or}
use Rattle.std.specs.Str.{bytes_eq}
use Rattle.tag_blocks.specs.Blocks.{ape_length, begins, begins_with, block_front, block_of_kind}
use Rattle.tag_blocks.specs.Blocks.{id3v2_length, is_ape, is_id3v1, is_id3v2, length_of_kind}
use Rattle.tag_blocks.specs.declared.block.{Block.Block, Kind.Kind}
use Rattle.tag_blocks.specs.declared.block.Kind.TheVariants.{Ape, Id3v1, Id3v2}

-- ---- the first byte

-- the first byte of a block of this kind: `I`, `T` or `A`
abbrev pub first_byte : Kind → ℕ
first_byte Id3v2 = 73
first_byte Id3v1 = 84
first_byte Ape = 65

-- bytes that begin with a text have its first byte
first_of : (text bytes : List ℕ) → 0 < length text → begins_with text bytes ≡ true
    → get_or bytes 0 0 ≡ get_or text 0 0
first_of text bytes some is =
    let same : text ≡ take (length text) bytes = grind (arith, bytes_eq-Decides) in
    sym (get_or-take (length text) bytes 0 0 some) ∙ ap (λ t. get_or t 0 0) (sym same)

id3v2_first : (bytes : List ℕ) → is_id3v2 bytes ≡ true → get_or bytes 0 0 ≡ 73
unfolding is_id3v2
id3v2_first bytes is = first_of (codes "ID3") bytes (lit< tt)
    (and_parts _ _ (and_parts _ _ (and_parts _ _ (and_parts _ _ is).0).0).0).1

id3v1_first : (bytes : List ℕ) → is_id3v1 bytes ≡ true → get_or bytes 0 0 ≡ 84
unfolding is_id3v1
id3v1_first bytes is = first_of (codes "TAG") bytes (lit< tt) is

ape_first : (bytes : List ℕ) → is_ape bytes ≡ true → get_or bytes 0 0 ≡ 65
unfolding is_ape
ape_first bytes is = first_of (codes "APETAGEX") bytes (lit< tt)
    (and_parts _ _ (and_parts _ _ (and_parts _ _ (and_parts _ _ (and_parts _ _ is).0).0).0).0).1

-- bytes that begin with a kind of block have its first byte
pub begins-first : (kind : Kind) (bytes : List ℕ) → begins kind bytes ≡ true
    → get_or bytes 0 0 ≡ first_byte kind
begins-first Id3v2 bytes is = id3v2_first bytes is
begins-first Id3v1 bytes is = id3v1_first bytes is
begins-first Ape bytes is = ape_first bytes is

kinds : (j k : Kind) → first_byte j ≡ first_byte k → j ≡ k
kinds Id3v2 Id3v2 e = refl
kinds Id3v1 Id3v1 e = refl
kinds Ape Ape e = refl
kinds _ _ e = absurd (omega arith)

-- bytes begin with one kind at most
pub one_kind : {j k : Kind} (bytes : List ℕ) → begins j bytes ≡ true → begins k bytes ≡ true → j ≡ k
one_kind {j} {k} bytes is also =
    kinds j k (sym (begins-first j bytes is) ∙ begins-first k bytes also)

-- ---- the block of a kind

block_of_kind-kind : {kind : Kind} (bytes : List ℕ) {b : Block} → block_of_kind kind bytes ≡ Some b
    → (begins kind bytes ≡ true) × (record { kind = kind; length = length_of_kind kind bytes } ≡ b)
block_of_kind-kind {kind} bytes {b} is = cond_some (begins kind bytes) _ b is

-- a block of this kind with which bytes begin is the block of its own kind
block_of_kind-own : (kind : Kind) (bytes : List ℕ) {b : Block} → block_of_kind kind bytes ≡ Some b
    → block_of_kind b.kind bytes ≡ Some b
block_of_kind-own kind bytes {b} is = subst (λ k. block_of_kind k bytes ≡ Some b)
    (ap (λ (x : Block). x.kind) (block_of_kind-kind bytes is).1) is

some_cases : (bytes : List ℕ) {b : Block} (x y : Option Block) {z : Option Block}
    → block_of_kind Id3v2 bytes ≡ x → block_of_kind Id3v1 bytes ≡ y → block_of_kind Ape bytes ≡ z
    → option_or (option_or x y) z ≡ Some b → block_of_kind b.kind bytes ≡ Some b
some_cases bytes {b} (Some x) y first second third is = block_of_kind-own Id3v2 bytes (first ∙ is)
some_cases bytes {b} None (Some y) first second third is =
    block_of_kind-own Id3v1 bytes (second ∙ is)
some_cases bytes {b} None None first second third is = block_of_kind-own Ape bytes (third ∙ is)

-- the block with which bytes begin is the block of its kind
pub block_front-own : (bytes : List ℕ) {b : Block} → block_front bytes ≡ Some b
    → block_of_kind b.kind bytes ≡ Some b
unfolding block_front
block_front-own bytes {b} is =
    some_cases bytes (block_of_kind Id3v2 bytes) (block_of_kind Id3v1 bytes) refl refl refl is

-- the block with which bytes begin is of a kind with which they begin, and has the length of this
-- kind
pub block_front-begins : (bytes : List ℕ) {b : Block} → block_front bytes ≡ Some b
    → (begins b.kind bytes ≡ true) × (length_of_kind b.kind bytes ≡ b.length)
block_front-begins bytes {b} is =
    let parts = block_of_kind-kind bytes (block_front-own bytes is) in
    (parts.0, ap (λ (x : Block). x.length) parts.1)

none_cases : (x y : Option Block) {z : Option Block} → option_or (option_or x y) z ≡ None
    → (x ≡ None) × (y ≡ None) × (z ≡ None)
none_cases (Some b) y e = absurd cc
none_cases None (Some b) e = absurd cc
none_cases None None e = (refl, refl, e)

none_of : (bytes : List ℕ) → block_front bytes ≡ None → (block_of_kind Id3v2 bytes ≡ None)
    × (block_of_kind Id3v1 bytes ≡ None) × (block_of_kind Ape bytes ≡ None)
unfolding block_front
none_of bytes none = none_cases (block_of_kind Id3v2 bytes) (block_of_kind Id3v1 bytes) none

-- where no block begins, none of any kind does
pub block_front-none : (kind : Kind) (bytes : List ℕ) → block_front bytes ≡ None
    → block_of_kind kind bytes ≡ None
block_front-none Id3v2 bytes none = (none_of bytes none).0
block_front-none Id3v1 bytes none = (none_of bytes none).1
block_front-none Ape bytes none = (none_of bytes none).2

any_cases : (kind : Kind) (bytes : List ℕ) {b : Block} → block_of_kind kind bytes ≡ Some b
    → (o : Option Block) → block_front bytes ≡ o → o ≡ Some b
any_cases kind bytes is None none = sym (block_front-none kind bytes none) ∙ is
any_cases kind bytes is (Some other) some =
    let own = block_front-own bytes some in
    let same : other.kind ≡ kind = grind (arith, one_kind, block_of_kind-kind) in
    sym own ∙ ap (λ k. block_of_kind k bytes) same ∙ is

-- a block of any kind with which bytes begin is their block: the order in which kinds are tried
-- doesn't matter
pub block_front-any : (kind : Kind) (bytes : List ℕ) {b : Block} → block_of_kind kind bytes ≡ Some b
    → block_front bytes ≡ Some b
block_front-any kind bytes {b} is = any_cases kind bytes is (block_front bytes) refl

-- a block begins with the first byte of its kind
pub block_front-first : (bytes : List ℕ) {b : Block} → block_front bytes ≡ Some b
    → get_or bytes 0 0 ≡ first_byte b.kind
block_front-first bytes {b} is = begins-first b.kind bytes (block_front-begins bytes is).0

first_byte-below : (kind : Kind) → (0 < first_byte kind) × (first_byte kind < 255)
first_byte-below Id3v2 = (omega arith, omega arith)
first_byte-below _ = (omega arith, omega arith)

-- no block begins with a zero
pub block_front-not_zero : (bytes : List ℕ) {b : Block} → block_front bytes ≡ Some b
    → get_or bytes 0 0 ≢ 0
block_front-not_zero bytes {b} is =
    λ zero. omega (arith, zero, block_front-first bytes is, (first_byte-below b.kind).0)

-- ---- the length

least_as : (kind : Kind) (bytes : List ℕ) → 10 ≤ length_of_kind kind bytes
unfolding id3v2_length ape_length
least_as Id3v2 bytes = omega arith
least_as _ bytes = omega arith

-- a block has at least 10 bytes
pub block_front-least : (bytes : List ℕ) {b : Block} → block_front bytes ≡ Some b → 10 ≤ b.length
block_front-least bytes {b} is =
    omega (arith, (block_front-begins bytes is).1, least_as b.kind bytes)

-- ---- only the first 32 bytes matter

long_cases : {k n : ℕ} (bytes : List ℕ) → k ≤ n → (a b : Bool) → leb k (length (take n bytes)) ≡ a
    → leb k (length bytes) ≡ b → a ≡ b
long_cases {k} {n} bytes within true false e f = absurd (omega (
  arith,
  leb-true k (length (take n bytes)) e,
  leb-false k (length bytes) f,
  length-take n bytes,
))
long_cases {k} {n} bytes within false true e f = absurd (omega (
  arith,
  leb-false k (length (take n bytes)) e,
  leb-true k (length bytes) f,
  length-take n bytes,
))
long_cases bytes within _ _ e f = refl

-- whether bytes are long enough is seen from their first bytes, if there are enough of these
pub long_take : {k n : ℕ} (bytes : List ℕ) → k ≤ n
    → leb k (length (take n bytes)) ≡ leb k (length bytes)
long_take {k} {n} bytes within = long_cases bytes within _ _ refl refl

-- bytes within the first n are the same in these n alone
pub part_take : (at many : ℕ) {n : ℕ} (bytes : List ℕ) → at + many ≤ n
    → take many (drop at (take n bytes)) ≡ take many (drop at bytes)
part_take at many {n} bytes within =
    let split : n ≡ at + (n - at) = omega arith in
    ap (λ k. take many (drop at (take k bytes))) split ∙ ap (take many)
    (drop-take at (n - at) bytes) ∙ take-take many (n - at) (drop at bytes) (omega arith)

-- whether bytes begin with a text is seen from the first bytes
pub text_take : (text : List ℕ) {n : ℕ} (bytes : List ℕ) → length text ≤ n
    → begins_with text (take n bytes) ≡ begins_with text bytes
text_take text {n} bytes within = ap (bytes_eq text) (take-take (length text) n bytes within)

begins-take : (kind : Kind) {n : ℕ} (bytes : List ℕ) → 32 ≤ n
    → begins kind (take n bytes) ≡ begins kind bytes
unfolding is_id3v2 is_id3v1 is_ape
begins-take Id3v2 {n} bytes within =
    rw (
      long_take {k = 10} {n = n} bytes (omega arith),
      text_take (codes "ID3") {n = n} bytes (omega arith),
      get_or-take n bytes 3 0 (omega arith),
      get_or-take n bytes 4 0 (omega arith),
      part_take 6 4 {n = n} bytes (omega arith),
    ) refl
begins-take Id3v1 {n} bytes within = text_take (codes "TAG") {n = n} bytes (omega arith)
begins-take Ape {n} bytes within =
    rw (
      long_take {k = 32} {n = n} bytes within,
      text_take (codes "APETAGEX") {n = n} bytes (omega arith),
      part_take 8 4 {n = n} bytes (omega arith),
      part_take 12 4 {n = n} bytes (omega arith),
      part_take 20 4 {n = n} bytes (omega arith),
    ) refl

length_of_kind-take : (kind : Kind) {n : ℕ} (bytes : List ℕ) → 32 ≤ n
    → length_of_kind kind (take n bytes) ≡ length_of_kind kind bytes
unfolding id3v2_length ape_length
length_of_kind-take Id3v2 {n} bytes within =
    rw (part_take 6 4 {n = n} bytes (omega arith), get_or-take n bytes 5 0 (omega arith)) refl
length_of_kind-take Id3v1 bytes within = refl
length_of_kind-take Ape {n} bytes within = rw (part_take 12 4 {n = n} bytes (omega arith)) refl

block_of_kind-take : (kind : Kind) {n : ℕ} (bytes : List ℕ) → 32 ≤ n
    → block_of_kind kind (take n bytes) ≡ block_of_kind kind bytes
block_of_kind-take kind {n} bytes within =
    rw (begins-take kind bytes within, length_of_kind-take kind bytes within) refl

-- only the first 32 bytes matter
pub block_front-take : {n : ℕ} (bytes : List ℕ) → 32 ≤ n
    → block_front (take n bytes) ≡ block_front bytes
unfolding block_front
block_front-take {n} bytes within = rw (
  block_of_kind-take Id3v2 bytes within,
  block_of_kind-take Id3v1 bytes within,
  block_of_kind-take Ape bytes within,
) refl
