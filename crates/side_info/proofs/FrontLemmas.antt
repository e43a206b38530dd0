-- A frame's header and side information as bytes: what they are read as, and that they are written
-- back.
use Rattle.std.proofs.Common.{ap, append-nil, append_assoc, ap₂, arith, Bool, cond, drop, false}
use Rattle.std.proofs.Common.{length, length-append, List, refl, replicate, subst, sym, take}
use Rattle.std.proofs.Common.{take-append-drop, true, ℕ, [], ◌++◌, ◌+◌, ◌<◌, ◌==◌, ◌^◌, ◌∙◌, ◌≡◌}
use Rattle.std.{proofs.lemmas.List.{drop_at, take_at}, specs.Int.{from_be_bytes, w32}}
use Rattle.bit_fields.proofs.BitsLemmas.{AreBits-bits, AreBytes-bytes, bits-be_bytes, bits-bytes}
use Rattle.bit_fields.proofs.BitsLemmas.{bytes-bits, length-bits, length-bits_of, length-bytes}
use Rattle.bit_fields.specs.Bits.{AreBytes, bits, bits_of, bytes}
use Rattle.bit_fields.specs.Groups.{group, group_bits, numbers_at}
use Rattle.frame_header.proofs.HeaderLemmas.{AreBits-header_bits, good, header_at-bytes}
use Rattle.frame_header.proofs.HeaderLemmas.{header_fields-header_at, IsClass-class_of}
use Rattle.frame_header.proofs.HeaderLemmas.{length-header_bits}
use Rattle.frame_header.specs.Fields.{ClassFields, HeaderFields, IsClass, IsHeader, SlotFields}
use Rattle.frame_header.specs.HeaderBits.{flag_of, header_bits, header_numbers}
use Rattle.frame_header.specs.{Reading.{header_at, header_fields}, Tables.{class_of, side_size_of}}
use Rattle.frame_header.specs.declared.version.Version.TheVariants.{One, Two, TwoFive}
use Rattle.side_info.proofs.FrameLemmas.{length-crc_part}
use Rattle.side_info.proofs.SideLemmas.{AreBits-side_bits, each_class, IsShaped, IsShaped-side_at}
use Rattle.side_info.proofs.SideLemmas.{length-side_bits, side_at-side_bits, side_bits-side_at}
use Rattle.side_info.{proofs.SideLemmas.SideFits-side_at, specs.CheckWord.check_word_of}
use Rattle.side_info.specs.{Frame.{crc_part, side_offset}, FrameFields.header_like}
use Rattle.side_info.specs.FrontBytes.{AreFrontBytes, AreHeadersAlike, begin_width, front_view}
use Rattle.side_info.specs.FrontBytes.{header_of, own_side, padded_side, side_of}
use Rattle.side_info.specs.Granule.{granule_bits}
use Rattle.side_info.specs.Side.{front_width, granules_in, side_at, side_bits, SideFits}
use Rattle.side_info.specs.declared.{frame_front.FrameFront.TheInside.Inside, side.Side.Side}

abbrev pub front_with : List ℕ → List ℕ → Inside
front_with four room = record { header = four; side = room }

-- four bytes of a header, and side information with zeros after it
module _ {h : HeaderFields} (known : IsHeader h) (four part : List ℕ) {room : List ℕ}
    (head : bits four
    ≡ header_bits h) (octets : AreBytes four) (size : length part ≡ side_size_of (class_of h))
    (all : AreBytes part) (is : room ≡ padded_side part) where
  header_is : header_of (front_with four room) ≡ h
  unfolding header_of
  header_is = header_fields-header_at four (header_at-bytes four known head)

  own : own_side (class_of h) room ≡ part
  unfolding own_side padded_side
  own = grind (arith, take_at, size)

  side_is : side_of (front_with four room) ≡ side_at (class_of h) (bits part)
  unfolding side_of
  side_is = grind (arith, header_is, own)

  written_back : side_bits (class_of h) (side_at (class_of h) (bits part)) ≡ bits part
  written_back = grind (arith, side_bits-side_at, IsClass-class_of, AreBits-bits, length-bits, size)

  -- the fields of these bytes are that header and that side information
  pub written_fields : front_view (front_with four room)
      ≡ record { header = h; side = side_at (class_of h) (bits part) }
  written_fields i = record { header = header_is i; side = side_is i }

  -- these bytes are the ones that their fields are written as
  pub are_written : AreFrontBytes (front_with four room)
  are_written = grind (arith, header_is, bytes-bits, octets, side_is, written_back)

-- ---- the header
-- a header that is read from its four bytes is the header of the front
pub header_read : (a : Inside) {h : HeaderFields} → header_at a.header ≡ good h → header_of a ≡ h
unfolding header_of
header_read a {h} is = header_fields-header_at a.header is

-- the side information of a front is the side information of its class in its own bytes
pub side_read : (a : Inside)
    → side_of a ≡ side_at (class_of (header_of a)) (bits (own_side (class_of (header_of a)) a.side))
unfolding side_of
side_read a = refl

-- the slot is read from its groups of bits
pub slot_read : (a : Inside) → (header_of a).slot
    ≡ record { rate_index = group 16 4 (bits a.header); padding = group 22 1 (bits a.header) == 1 }
unfolding header_of header_fields
slot_read a = refl

-- version, frequency index and channels are read from their groups of bits
pub class_read : (a : Inside) → class_of (header_of a) ≡ record {
  version = cond (group 11 2 (bits a.header) == 3) One
      (cond (group 11 2 (bits a.header) == 2) Two TwoFive);
  frequency_index = group 20 2 (bits a.header);
  channels = cond (group 24 2 (bits a.header) == 3) 1 2;
}
unfolding header_of header_fields
class_read a = refl

-- a frame is protected where its protection bit is 0
pub protected_read : (a : Inside) → (header_of a).protected ≡ (group 15 1 (bits a.header) == 0)
unfolding header_of header_fields
protected_read a = refl

-- the mode extension is read from its two bits
pub mode_extension_read : (a : Inside) → (header_of a).mode_extension ≡ group 26 2 (bits a.header)
unfolding header_of header_fields
mode_extension_read a = refl

-- the fields of headers whose bits are alike are the same but for slot and mode extension
pub fields-alike : {bs cs : List ℕ} → AreHeadersAlike bs cs
    → header_fields bs ≡ header_like (header_fields cs) (header_fields bs)
unfolding header_fields
fields-alike same = grind arith

-- a header that differs from another only in slot and mode extension has bits alike the other's
pub alike-fields : (h other : HeaderFields)
    → AreHeadersAlike (header_bits (header_like h other)) (header_bits h)
unfolding header_bits header_numbers group_bits group bits_of
alike-fields h other = grind arith

-- what is known of a front whose bytes are the ones that its fields are written as
pub record Written (a : Inside) : Type 0 where
  pub head : bits a.header ≡ header_bits (header_of a)
  pub octets : AreBytes a.header
  pub at : header_at a.header ≡ good (header_of a)
  pub class : IsClass (class_of (header_of a))
  pub size : length (own_side (class_of (header_of a)) a.side)
      ≡ side_size_of (class_of (header_of a))
  pub all : AreBytes (own_side (class_of (header_of a)) a.side)
  pub side : bits (own_side (class_of (header_of a)) a.side)
      ≡ side_bits (class_of (header_of a)) (side_of a)
  pub rest : drop (side_size_of (class_of (header_of a))) a.side
      ≡ drop (side_size_of (class_of (header_of a))) (replicate 32 0)

-- the lists in the side information of a front are as long as the arrays
pub shaped : (a : Inside) → IsShaped (side_of a)
unfolding side_of
shaped a = search (arith, IsShaped-side_at)

-- the fields of the side information of a front are within their bits
pub fits : {a : Inside} → AreFrontBytes a → SideFits (class_of (header_of a)) (side_of a)
unfolding side_of
fits w = grind (arith, SideFits-side_at, IsClass-class_of, AreBits-bits)

-- what is known of a front holds if its bytes are the ones that its fields are written as
pub written : {a : Inside} → AreFrontBytes a → Written a
unfolding own_side padded_side
written {a} w =
    let h = header_of a in
    let c = class_of h in
    let n = side_size_of c in
    let class = IsClass-class_of w.known in
    let part = bytes (side_bits c (side_of a)) in
    let long = length-side_bits c class (side_of a) (shaped a) in
    let size : length part ≡ n = length-bytes n (side_bits c (side_of a)) long in
    let header : bytes (header_bits h) ≡ a.header = ap (λ b. b.header) w.same in
    let head : bits a.header ≡ header_bits h = ap bits (sym header)
    ∙ bits-bytes 4 (AreBits-header_bits h) (length-header_bits h) in
    let room : a.side ≡ part ++ drop (length part) (replicate 32 0) =
    sym (ap (λ b. b.side) w.same) in
    let own : take n a.side ≡ part =
    ap (take n) room ∙ take_at part (drop (length part) (replicate 32 0)) n size in
    record {
      head = head;
      octets = subst AreBytes header (AreBytes-bytes (header_bits h) (AreBits-header_bits h));
      at = header_at-bytes a.header w.known head;
      class = class;
      size = ap length own ∙ size;
      all = subst AreBytes (sym own)
          (AreBytes-bytes (side_bits c (side_of a)) (AreBits-side_bits c (side_of a)));
      side = ap bits own
          ∙ bits-bytes n (AreBits-side_bits c (side_of a)) long;
      rest = ap (drop n) room ∙ drop_at part (drop (length part) (replicate 32 0)) n size
          ∙ ap (λ k. drop k (replicate 32 0)) size;
    }

-- the big-endian number of the four bytes has the bits of these bytes
pub word_bits : {a : Inside} → AreFrontBytes a → {word : ℕ} → word ≡ from_be_bytes w32 a.header
    → bits_of 32 word ≡ bits a.header
word_bits {a} w is =
    let h = header_of a in
    let four : length a.header ≡ 4 = ap length (sym (ap (λ b. b.header) w.same))
    ∙ length-bytes 4 (header_bits h) (length-header_bits h) in
    ap (bits_of 32) is ∙ sym (bits-be_bytes a.header four (written w).octets)

-- the big-endian number of the four bytes has the bits of the header
pub word_fields : {a : Inside} → AreFrontBytes a → {word : ℕ} → word ≡ from_be_bytes w32 a.header
    → header_fields (bits_of 32 word) ≡ header_of a
unfolding header_of
word_fields {a} w {word} is = ap header_fields (word_bits w is)

-- the side information is as many of the 32 bytes as the class has
pub written_size : {a : Inside} → AreFrontBytes a
    → length (take (side_size_of (class_of (header_of a))) a.side)
    ≡ side_size_of (class_of (header_of a))
unfolding own_side
written_size {a} w = (written w).size

-- other side bytes of the same length are followed by zeros too
pub padded_side-other : {a : Inside} → AreFrontBytes a → (part : List ℕ)
    → length part ≡ side_size_of (class_of (header_of a))
    → part ++ drop (side_size_of (class_of (header_of a))) a.side ≡ padded_side part
unfolding padded_side
padded_side-other {a} w part size = grind (arith, written w, size)

-- the 32 bytes are the side information, with zeros after it
pub padded_side-own : {a : Inside} → AreFrontBytes a
    → a.side ≡ padded_side (own_side (class_of (header_of a)) a.side)
unfolding own_side
padded_side-own {a} w =
    sym (take-append-drop (side_size_of (class_of (header_of a))) a.side)
    ∙ padded_side-other w (take (side_size_of (class_of (header_of a))) a.side) (written_size w)

-- another header of the same class before the same side information
module _ {a : Inside} (w : AreFrontBytes a) {h : HeaderFields} (known : IsHeader h) (four : List ℕ)
    (head : bits four ≡ header_bits h) (octets : AreBytes four)
    (same : class_of h ≡ class_of (header_of a)) where
  -- these bytes are the ones that their fields are written as
  pub header_written : AreFrontBytes (front_with four a.side)
  header_written = are_written known four (own_side (class_of (header_of a)) a.side) head
      octets ((written w).size ∙ ap side_size_of (sym same))
      (written w).all (padded_side-own w)

  -- their fields are that header and the side information from before
  pub header_fields-written : front_view (front_with four a.side)
      ≡ record { header = h; side = side_of a }
  header_fields-written =
      written_fields known four (own_side (class_of (header_of a)) a.side) head octets
      ((written w).size ∙ ap side_size_of (sym same)) (written w).all (padded_side-own w)
      ∙ ap (λ (s : Side). record { header = h; side = s }) (ap (λ k. side_at k
      (bits (own_side (class_of (header_of a)) a.side))) same ∙ sym (side_read a))

-- other side information after the same header
module _ {a : Inside} (w : AreFrontBytes a) (part : List ℕ)
    (size : length part ≡ side_size_of (class_of (header_of a))) (all : AreBytes part) where
  -- these bytes are the ones that their fields are written as
  pub side_written : AreFrontBytes
      (front_with a.header (part ++ drop (side_size_of (class_of (header_of a))) a.side))
  side_written = grind (arith, are_written, written, size, padded_side-other)

  -- their fields are the header from before and that side information
  pub side_fields-written : front_view
      (front_with a.header (part ++ drop (side_size_of (class_of (header_of a))) a.side))
      ≡ record { header = header_of a; side = side_at (class_of (header_of a)) (bits part) }
  side_fields-written = grind (arith, written_fields, written, size, padded_side-other)

-- ---- main_data_begin
-- main_data_begin takes up the first bits and nothing more
abbrev BeginsSide : ClassFields → Type 0
BeginsSide c = (s : Side) (begin : ℕ) → side_bits c (record s { main_data_begin = begin })
    ≡ bits_of (begin_width c.version) begin ++ drop (begin_width c.version) (side_bits c s)

first_bits : (width m n : ℕ) (xs ys : List ℕ)
    → (bits_of width n ++ xs) ++ ys ≡ bits_of width n ++ drop width ((bits_of width m ++ xs) ++ ys)
first_bits width m n xs ys = grind (arith, append_assoc, drop_at, length-bits_of)

-- in every class side information begins with main_data_begin
pub begin_first : (c : ClassFields) → IsClass c → BeginsSide c
unfolding side_bits group_bits granules_in granule_bits
begin_first = grind (arith, each_class, first_bits)

-- the first bits of side information are its main_data_begin
pub begin-read : (c : ClassFields) → IsClass c → (bs : List ℕ)
    → group 0 (begin_width c.version) bs ≡ (side_at c bs).main_data_begin
unfolding side_at numbers_at group
begin-read = grind (arith, each_class)

-- main_data_begin has the width of the first field
pub begin_width-is : (c : ClassFields) → IsClass c → begin_width c.version ≡ front_width c 0
begin_width-is = grind (arith, each_class)

-- all fields still fit with another main_data_begin
pub fits-begin : {c : ClassFields} {s : Side} {begin : ℕ} → SideFits c s
    → begin < 2 ^ front_width c 0 → SideFits c (record s { main_data_begin = begin })
fits-begin fit small = grind arith

shaped-begin : {s : Side} (begin : ℕ) → IsShaped s → IsShaped (record s { main_data_begin = begin })
shaped-begin begin shape = grind arith

-- changing the bits of main_data_begin changes this field alone
pub side_at-begin : {c : ClassFields} → IsClass c → {s : Side} {begin : ℕ} {old new : List ℕ}
    → IsShaped s → SideFits c s → begin < 2 ^ front_width c 0 → old ≡ side_bits c s
    → new ≡ bits_of (begin_width c.version) begin ++ drop (begin_width c.version) old
    → side_at c new ≡ record s { main_data_begin = begin }
side_at-begin {c} class {s} {begin} shape fit small was is =
    ap (side_at c)
    (is ∙ ap (λ bs. bits_of (begin_width c.version) begin ++ drop (begin_width c.version) bs) was
    ∙ sym (begin_first c class s begin))
    ∙ side_at-side_bits c class (record s { main_data_begin = begin }) (shaped-begin begin shape)
    (fits-begin fit small)

-- ---- the bytes before the area, with other bytes after them

four_long : (h : HeaderFields) {four : List ℕ} → four ≡ bytes (header_bits h) → length four ≡ 4
four_long h is = ap length is ∙ length-bytes 4 (header_bits h) (length-header_bits h)

-- without a check word, only the header is before the side information
pub head-alone : (h : HeaderFields) (s : Side) {four : List ℕ} (rest : List ℕ)
    → four ≡ bytes (header_bits h) → h.protected ≡ false
    → take 4 (four ++ rest) ≡ bytes (header_bits h) ++ crc_part h s
head-alone h s {four} rest is open_frame =
    grind (arith, take_at four rest 4 (four_long h is), append-nil (bytes (header_bits h)))

-- a check word is put right after the header
pub head-word : (h : HeaderFields) (s : Side) {word : ℕ} {four : List ℕ} (frame : List ℕ)
    {new : List ℕ} → four ≡ bytes (header_bits h) → h.protected ≡ true → word ≡ check_word_of h s →
    new
    ≡ take 4 (four ++ drop 4 frame) ++ (bytes (bits_of 16 word) ++ drop 6 (four ++ drop 4 frame))
    → take 6 new ≡ bytes (header_bits h) ++ crc_part h s
head-word h s {word} {four} frame is protected right put =
    let header = bytes (header_bits h) in
    let rest = drop 6 (four ++ drop 4 frame) in
    let part : bytes (bits_of 16 word) ≡ crc_part h s =
    ap (λ n. bytes (bits_of 16 n)) right
    ∙ ap (λ b. cond b (bytes (bits_of 16 (check_word_of h s))) []) (sym protected) in
    let size : length (crc_part h s) + 4 ≡ 6 =
    length-crc_part h s h.protected ∙ ap side_offset protected in
    ap (take 6)
    (put
    ∙ ap₂ (λ (xs ys : List ℕ). xs ++ (ys ++ rest))
    (take_at four (drop 4 frame) 4 (four_long h is) ∙ is) part
    ∙ sym (append_assoc header (crc_part h s) rest))
    ∙ take_at (header ++ crc_part h s) rest 6
    (omega (
      arith,
      length-append header (crc_part h s),
      length-bytes 4 (header_bits h) (length-header_bits h),
      size,
    ))

-- the first n bytes are the front and the part that was put after it
pub put-first : {n : ℕ} (front part zeros rest : List ℕ) {new : List ℕ}
    → new ≡ front ++ ((part ++ zeros) ++ rest) → length front + length part ≡ n
    → take n new ≡ front ++ part
put-first front part zeros rest is long = grind (arith, append_assoc, take_at, length-append)

-- the 32 bytes begin with the side information
pub room-is : {a : Inside} → AreFrontBytes a
    → a.side ≡ bytes (side_bits (class_of (header_of a)) (side_of a))
    ++ drop (length (bytes (side_bits (class_of (header_of a)) (side_of a)))) (replicate 32 0)
unfolding padded_side
room-is w = sym (ap (λ b. b.side) w.same)

-- the side information is written in as many bytes as the class has
pub part-size : {a : Inside} → AreFrontBytes a
    → length (bytes (side_bits (class_of (header_of a)) (side_of a)))
    ≡ side_size_of (class_of (header_of a))
part-size {a} w =
    let c = class_of (header_of a) in
    length-bytes (side_size_of c) (side_bits c (side_of a))
    (length-side_bits c (written w).class (side_of a) (shaped a))

-- ---- the slot in a header's bits
rate_put : (h : HeaderFields) (rate : ℕ)
    → header_bits (record h { slot = record { rate_index = rate; padding = h.slot.padding } })
    ≡ take 16 (header_bits h) ++ bits_of 4 rate ++ drop 20 (header_bits h)
unfolding header_bits group_bits header_numbers bits_of
rate_put h rate = refl

padding_put : (h : HeaderFields) (padding : Bool)
    → header_bits (record h { slot = record { rate_index = h.slot.rate_index; padding = padding } })
    ≡ take 22 (header_bits h) ++ bits_of 1 (flag_of padding) ++ drop 23 (header_bits h)
unfolding header_bits group_bits header_numbers bits_of
padding_put h padding = refl

-- putting in bit rate index and then padding bit puts in the slot
pub slot_put : (h : HeaderFields) (slot : SlotFields) {old middle new : List ℕ}
    → old ≡ header_bits h → middle ≡ take 16 old ++ bits_of 4 slot.rate_index ++ drop 20 old
    → new ≡ take 22 middle ++ bits_of 1 (flag_of slot.padding) ++ drop 23 middle
    → new ≡ header_bits (record h { slot = slot })
slot_put h slot {middle = middle} was first second =
    let rated : HeaderFields =
    record h { slot = record { rate_index = slot.rate_index; padding = h.slot.padding } } in
    let one : middle ≡ header_bits rated =
    first ∙ ap (λ bs. take 16 bs ++ bits_of 4 slot.rate_index ++ drop 20 bs) was
    ∙ sym (rate_put h slot.rate_index) in
    second ∙ ap (λ bs. take 22 bs ++ bits_of 1 (flag_of slot.padding) ++ drop 23 bs) one
    ∙ sym (padding_put rated slot.padding)
