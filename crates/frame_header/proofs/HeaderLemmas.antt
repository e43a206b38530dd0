-- The laws of a header: its fields are within their bits, and fields and bits give each other back.
use Rattle.std.proofs.Common.{ap, arith, Bool, cond, drop, eq-eqb, eqb, Err, false, get_or, length}
use Rattle.std.proofs.Common.{List, lit<, not, Ok, refl, Result, sym, true, ℕ, [], ◌%◌, ◌*◌, ◌+◌}
use Rattle.std.proofs.Common.{◌-◌, ◌/◌, ◌<◌, ◌^◌, ◌∙◌, ◌∷◌, ◌≡◌, ◌≢◌, ◌≤◌}
use Rattle.std.proofs.lemmas.Bool.{and_parts, eqb-false, eqb-true, ne_eqb, not-true, true≢false}
use Rattle.std.proofs.lemmas.{List.drop-drop, Nat.{from_be_bytes-to_be_bytes_4, mod_below}}
use Rattle.std.specs.Int.{to_be_bytes, w32}
use Rattle.bit_fields.proofs.BitsLemmas.{AreBits-bits, bits-be_bytes, bits-injective, length-bits}
use Rattle.bit_fields.proofs.BitsLemmas.{number-middle_of}
use Rattle.bit_fields.proofs.GroupsLemmas.{AreBits-group_bits, group-below, group_bits-joined}
use Rattle.bit_fields.proofs.GroupsLemmas.{group_bits-numbers_at, joined, length-group_bits}
use Rattle.bit_fields.proofs.GroupsLemmas.{numbers_at-group_bits}
use Rattle.bit_fields.specs.Bits.{AreBits, AreBytes, bits, bits_of}
use Rattle.bit_fields.specs.Groups.{group, numbers_at, NumbersFit}
use Rattle.frame_header.specs.Fields.{HeaderFields, IsClass, IsHeader, version_number}
use Rattle.frame_header.specs.HeaderBits.{flag_of, header_bits, header_numbers, header_widths}
use Rattle.frame_header.specs.HeaderBits.{protection_of}
use Rattle.frame_header.specs.Reading.{frequency_bits, header_at, header_fields, header_in}
use Rattle.frame_header.specs.Reading.{is_readable, protection_bit, rate_bits, version_of}
use Rattle.frame_header.specs.{Tables.class_of, declared.header.NotHeader.NotHeader}
use Rattle.frame_header.specs.declared.header.NotHeader.TheVariants.{Free, No}
use Rattle.frame_header.specs.declared.version.Version.{Version, TheVariants.{One, Two, TwoFive}}
use mir.Val.{bool_byte}

abbrev pub good : HeaderFields → Result HeaderFields NotHeader
good fields = Ok fields

-- a group of a number's bits is a shift and a remainder
pub group-bits_of : {whole : ℕ} (from width n : ℕ) → from + width ≤ whole
    → group from width (bits_of whole n) ≡ n / 2 ^ (whole - from - width) % 2 ^ width
unfolding group
group-bits_of {whole} from width n within = number-middle_of from width n within

-- readable bits with a bit rate other than free are a header with these fields
pub header_in-good : (h : List ℕ) → is_readable h ≡ true → rate_bits h ≢ 0
    → header_in h ≡ Ok (header_fields h)
unfolding header_in
header_in-good h readable some = grind (arith, ne_eqb, some, readable)

-- unreadable bits are no header
pub header_in-no : (h : List ℕ) → is_readable h ≡ false → header_in h ≡ Err No
unfolding header_in
header_in-no h fails = rw fails refl

-- the header's fields, made of its groups
pub header_fields-groups : (h : List ℕ) {v : Version} {p : Bool} {rate : ℕ} {padding : Bool}
    {frequency : ℕ} {private : Bool} {mode extension : ℕ} {copyright original : Bool} {emphasis : ℕ}
    → v ≡ version_of h → p ≡ eqb (protection_bit h) 0 → rate ≡ rate_bits h
    → padding ≡ eqb (group 22 1 h) 1 → frequency ≡ frequency_bits h → private ≡ eqb (group 23 1 h) 1
    → mode ≡ group 24 2 h → extension ≡ group 26 2 h → copyright ≡ eqb (group 28 1 h) 1
    → original ≡ eqb (group 29 1 h) 1 → emphasis ≡ group 30 2 h → record {
      version = v;
      protected = p;
      slot = record { rate_index = rate; padding = padding };
      frequency_index = frequency;
      private_bit = private;
      mode = mode;
      mode_extension = extension;
      copyright = copyright;
      original = original;
      emphasis = emphasis;
    } ≡ header_fields h
unfolding header_fields
header_fields-groups h {padding = padding} {mode = mode} {copyright = copyright} {original =
    original} {emphasis = emphasis} e0 e1 e2 e3 e4 e5 e6 e7 e8 e9 e10 =
    λ i. record {
      version = e0 i;
      protected = e1 i;
      slot = record { rate_index = e2 i; padding = e3 i };
      frequency_index = e4 i;
      private_bit = e5 i;
      mode = e6 i;
      mode_extension = e7 i;
      copyright = e8 i;
      original = e9 i;
      emphasis = e10 i;
    }

-- ---- what is read is within its ranges

ok_is : {a b : HeaderFields} → good a ≡ good b → a ≡ b
ok_is e = cc

header_in-ok : (h : List ℕ) {fields : HeaderFields} → header_in h ≡ good fields
    → (is_readable h ≡ true) × (rate_bits h ≢ 0) × (header_fields h ≡ fields)
unfolding header_in
header_in-ok h {fields} is = by_cases (is_readable h) (eqb (rate_bits h) 0) refl refl is
  where
    by_cases : (r z : Bool) → is_readable h ≡ r → eqb (rate_bits h) 0 ≡ z
        → cond r (cond z (Err Free) (good (header_fields h))) (Err No) ≡ good fields
        → (is_readable h ≡ true) × (rate_bits h ≢ 0) × (header_fields h ≡ fields)
    by_cases true false readable some e =
        (readable, (λ none. true≢false (sym (eq-eqb _ _ none) ∙ some)), ok_is e)
    by_cases _ _ readable none e = absurd cc

-- the single tests of a readable header
record IsReadable (h : List ℕ) : Type 0 where
  pub sync : group 0 11 h ≡ 2047
  pub version : group 11 2 h ≢ 1
  pub layer : group 13 2 h ≡ 1
  pub rate : rate_bits h ≢ 15
  pub frequency : frequency_bits h ≢ 3

readable : (h : List ℕ) → is_readable h ≡ true → IsReadable h
unfolding is_readable
readable h passes =
    let parts = and_parts _ _ passes in
    let first = and_parts _ _ parts.0 in
    let front = and_parts _ _ first.0 in
    let marks = and_parts _ _ front.0 in
    record {
      sync = eqb-true _ _ marks.0;
      version = eqb-false _ _ (not-true _ marks.1);
      layer = eqb-true _ _ front.1;
      rate = eqb-false _ _ (not-true _ first.1);
      frequency = eqb-false _ _ (not-true _ parts.1);
    }

fields_in_range : {h : List ℕ} → AreBits h → IsReadable h → rate_bits h ≢ 0
    → IsHeader (header_fields h)
unfolding header_fields
fields_in_range bits tests some = grind (arith, some, group-below)

-- each field of a header that was read is in its range
pub IsHeader-read : (h : List ℕ) {fields : HeaderFields} → AreBits h → header_in h ≡ good fields
    → IsHeader fields
IsHeader-read h bits is = grind (arith, header_in-ok, fields_in_range, readable)

version_again : {n : ℕ} → n < 4 → n ≢ 1
    → version_number (cond (eqb n 3) One (cond (eqb n 2) Two TwoFive)) ≡ n
version_again h some = grind arith

-- the bits of a header give its version, its frequency and its bit rate
pub record SaysClass (h : List ℕ) (fields : HeaderFields) : Type 0 where
  pub sync : group 0 11 h ≡ 2047
  pub layer : group 13 2 h ≡ 1
  pub version : group 11 2 h ≡ version_number fields.version
  pub frequency : frequency_bits h ≡ fields.frequency_index
  pub some : 1 ≤ rate_bits h
  pub most : rate_bits h ≤ 14

-- the bits of a header that was read give its version, its frequency and its bit rate
pub says_class : (h : List ℕ) (fields : HeaderFields) → AreBits h → header_in h ≡ good fields
    → SaysClass h fields
unfolding header_fields
says_class h fields bits is =
    let ok = header_in-ok h is in
    let tests = readable h ok.0 in
    record {
      sync = tests.sync;
      layer = tests.layer;
      version = grind (arith, version_again, group-below);
      frequency = ap (λ (f : HeaderFields). f.frequency_index) ok.2;
      some = omega (arith, ok.1);
      most = omega (arith, tests.rate, group-below 16 4 h bits);
    }

-- a header that is read from four bytes has each field in its range
pub IsHeader-header_at : (four : List ℕ) {fields : HeaderFields} → header_at four ≡ good fields
    → IsHeader fields
unfolding header_at
IsHeader-header_at four {fields} is = IsHeader-read (bits four) (AreBits-bits four) is

-- what was read is what the bits say
pub header_fields-header_at : (four : List ℕ) {fields : HeaderFields} → header_at four ≡ good fields
    → header_fields (bits four) ≡ fields
unfolding header_at
header_fields-header_at four {fields} is = (header_in-ok (bits four) is).2

channels_in_range : (mono : Bool) → (1 ≤ cond mono 1 2) × (cond mono 1 2 ≤ 2)
channels_in_range mono = grind arith

-- the class of a header has a frequency index and a number of channels in range
pub IsClass-class_of : {h : HeaderFields} → IsHeader h → IsClass (class_of h)
IsClass-class_of is = grind (arith, channels_in_range)

-- ---- the bits that a header is written as
-- the numbers of groups that follow each other from a bit on
abbrev groups_from : ℕ → List ℕ → List ℕ → List ℕ
groups_from at [] bs = []
groups_from at (width ∷ widths) bs = group at width bs ∷ groups_from (at + width) widths bs

numbers_at-groups : (at : ℕ) (widths bs : List ℕ)
    → numbers_at widths (drop at bs) ≡ groups_from at widths bs
unfolding numbers_at group
numbers_at-groups at [] bs = refl
numbers_at-groups at (width ∷ widths) bs =
    grind (arith, drop-drop, numbers_at-groups (at + width) widths bs)

version_number-below : (v : Version) → version_number v < 4
version_number-below v = grind arith

flag-below : (flag : Bool) → flag_of flag < 2
flag-below flag = grind arith

protection-below : (protected : Bool) → protection_of protected < 2
protection-below protected = grind arith

-- each number is within its bits
pub NumbersFit-header_numbers : {h : HeaderFields} → IsHeader h
    → NumbersFit header_widths (header_numbers h)
unfolding header_numbers
NumbersFit-header_numbers is =
    grind (arith, lit<, version_number-below, protection-below, flag-below)

-- a header is written as zeros and ones
pub AreBits-header_bits : (h : HeaderFields) → AreBits (header_bits h)
unfolding header_bits
AreBits-header_bits h = AreBits-group_bits header_widths (header_numbers h)

-- a header is written as 32 bits
pub length-header_bits : (h : HeaderFields) → length (header_bits h) ≡ 32
unfolding header_bits header_numbers
length-header_bits h = length-group_bits header_widths (header_numbers h) refl

protection-not : (protected : Bool) → protection_of protected ≡ bool_byte (not protected)
protection-not protected = grind arith

flag-byte : (flag : Bool) → flag_of flag ≡ bool_byte flag
flag-byte flag = grind arith

-- the number that has the header's numbers in its groups
abbrev pub header_number : HeaderFields → ℕ
header_number h =
    4292870144 + version_number h.version * 524288 + 131072 + bool_byte (not h.protected) * 65536
    + h.slot.rate_index * 4096 + h.frequency_index * 1024 + bool_byte h.slot.padding * 512
    + bool_byte h.private_bit * 256 + h.mode * 64 + h.mode_extension * 16
    + bool_byte h.copyright * 8 + bool_byte h.original * 4 + h.emphasis

header_number-joined : (h : HeaderFields)
    → header_number h ≡ joined header_widths (header_numbers h)
unfolding joined header_numbers
header_number-joined h = grind (arith, protection-not, flag-byte)

-- the one number of a header has the header's 32 bits
pub bits_of-header_number : {h : HeaderFields} → IsHeader h
    → bits_of 32 (header_number h) ≡ header_bits h
unfolding header_bits
bits_of-header_number {h} is = ap (bits_of 32) (header_number-joined h)
    ∙ sym (group_bits-joined header_widths (header_numbers h) (NumbersFit-header_numbers is))

groups_written : {h : HeaderFields} → IsHeader h
    → groups_from 0 header_widths (header_bits h) ≡ header_numbers h
unfolding header_bits
groups_written {h} is = sym (numbers_at-groups 0 header_widths (header_bits h))
    ∙ numbers_at-group_bits header_widths (NumbersFit-header_numbers is)

version_back : (v : Version)
    → v ≡ cond (eqb (version_number v) 3) One (cond (eqb (version_number v) 2) Two TwoFive)
version_back v = grind arith

version_some : (v : Version) → eqb (version_number v) 1 ≡ false
version_some v = grind arith

flag_back : (flag : Bool) → flag ≡ eqb (flag_of flag) 1
flag_back flag = grind arith

protection_back : (protected : Bool) → protected ≡ eqb (protection_of protected) 0
protection_back protected = grind arith

-- bits that give a header's version, its frequency and a bit rate are readable
pub readable_by : {h : List ℕ} {fields : HeaderFields} → IsHeader fields → SaysClass h fields
    → is_readable h ≡ true
unfolding is_readable
readable_by is says = grind (arith, version_some, ne_eqb)

-- the version that bits give is the header's
pub version_by : {h : List ℕ} {fields : HeaderFields} → SaysClass h fields
    → fields.version ≡ version_of h
version_by says = grind (arith, version_back)

-- bits with the sync bits, the layer, the version and the frequency
-- of others, and a bit rate, give the same as these
pub says_same : {h own : List ℕ} {fields : HeaderFields} → SaysClass own fields
    → group 0 11 h ≡ group 0 11 own → group 13 2 h ≡ group 13 2 own → group 11 2 h ≡ group 11 2 own
    → group 20 2 h ≡ group 20 2 own → 1 ≤ rate_bits h → rate_bits h ≤ 14 → SaysClass h fields
says_same says sync layer version frequency some most =
    grind (arith, sync, layer, version, frequency, some, most)

-- the bits of a header are read as that header
pub header_in-header_bits : {h : HeaderFields} → IsHeader h → header_in (header_bits h) ≡ good h
unfolding is_readable header_numbers
header_in-header_bits {h} is =
    let bs : List ℕ = header_bits h in
    let g = λ (k : ℕ). ap (λ ns. get_or ns k 0) (groups_written is) in
    let sync : group 0 11 bs ≡ 2047 = g 0 in
    let version : group 11 2 bs ≡ version_number h.version = g 1 in
    let layer : group 13 2 bs ≡ 1 = g 2 in
    let rate : group 16 4 bs ≡ h.slot.rate_index = g 4 in
    let frequency : group 20 2 bs ≡ h.frequency_index = g 5 in
    let readable : is_readable bs ≡ true = readable_by is (record {
      sync = sync;
      layer = layer;
      version = version;
      frequency = frequency;
      some = omega (arith, rate, is.slot.0);
      most = omega (arith, rate, is.slot.1);
    }) in
    header_in-good bs readable (omega (arith, is.slot.0))
    ∙ ap good (sym (header_fields-groups bs
    (version_back h.version ∙ ap (λ n. cond (eqb n 3) One (cond (eqb n 2) Two TwoFive)) (sym (g 1)))
    (protection_back h.protected ∙ ap (λ n. eqb n 0) (sym (g 3)))
    (sym rate)
    (flag_back h.slot.padding ∙ ap (λ n. eqb n 1) (sym (g 6)))
    (sym frequency)
    (flag_back h.private_bit ∙ ap (λ n. eqb n 1) (sym (g 7)))
    (sym (g 8))
    (sym (g 9))
    (flag_back h.copyright ∙ ap (λ n. eqb n 1) (sym (g 10)))
    (flag_back h.original ∙ ap (λ n. eqb n 1) (sym (g 11)))
    (sym (g 12))))

flag_again : {bit : ℕ} → bit < 2 → flag_of (eqb bit 1) ≡ bit
flag_again h = grind arith

protection_again : {bit : ℕ} → bit < 2 → protection_of (eqb bit 0) ≡ bit
protection_again h = grind arith

numbers_read : {bs : List ℕ} → AreBits bs → IsReadable bs
    → header_numbers (header_fields bs) ≡ groups_from 0 header_widths bs
unfolding header_numbers header_fields
numbers_read all is = grind (arith, group-below, version_again, protection_again, flag_again)

-- a header that was read is written as the bits that it was read from
pub header_bits-header_in : {bs : List ℕ} {fields : HeaderFields} → AreBits bs → length bs ≡ 32
    → header_in bs ≡ good fields → header_bits fields ≡ bs
unfolding header_bits
header_bits-header_in {bs} {fields} all l is =
    grind (
      arith,
      header_in-ok bs is,
      numbers_read,
      readable,
      numbers_at-groups 0
          header_widths bs,
      group_bits-numbers_at header_widths all l,
    )

-- ---- the four bytes
-- the bytes of a header are read as that header
pub header_at-bytes : (four : List ℕ) {h : HeaderFields} → IsHeader h → bits four ≡ header_bits h
    → header_at four ≡ good h
unfolding header_at
header_at-bytes four {h} is e = ap header_in e ∙ header_in-header_bits is

-- a header that was read has the bits of the bytes that it was read from
pub header_bits-header_at : (four : List ℕ) {h : HeaderFields} → length four ≡ 4
    → header_at four ≡ good h → header_bits h ≡ bits four
unfolding header_at
header_bits-header_at four l is = grind (arith, header_bits-header_in, AreBits-bits, length-bits)

-- bytes with these bits are these bytes
pub header_bytes-same : {xs four : List ℕ} {h : HeaderFields} → bits xs ≡ header_bits h
    → AreBytes xs → AreBytes four → length four ≡ 4 → header_at four ≡ good h → xs ≡ four
header_bytes-same e hx hy l is = grind (arith, bits-injective, header_bits-header_at)

-- ---- a number as four bytes
-- a number is written as four bytes
pub AreBytes-to_be_bytes : (n : ℕ) → AreBytes (to_be_bytes w32 n)
AreBytes-to_be_bytes n = grind (arith, mod_below, lit<)

-- a number as four big-endian bytes has the 32 bits of the number
pub bits-to_be_bytes : {n : ℕ} → n < 2 ^ 32 → bits (to_be_bytes w32 n) ≡ bits_of 32 n
bits-to_be_bytes {n} h = bits-be_bytes (to_be_bytes w32 n) refl (AreBytes-to_be_bytes n)
    ∙ ap (bits_of 32) (from_be_bytes-to_be_bytes_4 n h)
