-- What stays, and what is read back, when other side information is put into a frame.
use Rattle.std.proofs.Common.{ap, append_assoc, ap₂, arith, bit_xor, Bool, cond, drop, false}
use Rattle.std.proofs.Common.{get_or, length, length-append, length-drop, List, lit<, refl, suc}
use Rattle.std.proofs.Common.{sym, take, take-append-drop, true, zero, ℕ, [], ◌*◌, ◌++◌, ◌+◌, ◌<◌}
use Rattle.std.proofs.Common.{◌^◌, ◌∙◌, ◌∷◌, ◌≡◌, ◌≤◌}
use Rattle.std.proofs.lemmas.List.{drop-drop, drop_at, length-take, take-take, take_at}
use Rattle.std.proofs.lemmas.Nat.{from_be_bytes-to_be_bytes_2, mod_below, xor_lt}
use Rattle.std.specs.Int.{from_be_bytes, to_be_bytes, w16}
use Rattle.bit_fields.proofs.BitsLemmas.{AreBelow-drop, AreBelow-take, AreBits-bits}
use Rattle.bit_fields.proofs.BitsLemmas.{AreBits-bits_of, bits-bits_of, bits-bytes, bits-one}
use Rattle.bit_fields.proofs.BitsLemmas.{bytes-bits, length-bits, length-bits_of, length-bytes}
use Rattle.bit_fields.proofs.BitsLemmas.{number-bits-push, number-bits_of-below}
use Rattle.bit_fields.specs.Bits.{AreBytes, bits, bits_of, bytes, number}
use Rattle.frame_header.specs.Fields.{ClassFields, HeaderFields, IsClass}
use Rattle.frame_header.specs.Tables.{class_of, overhead_of, side_size_of}
use Rattle.side_info.proofs.ReadLemmas.{side_size-small}
use Rattle.side_info.proofs.SideLemmas.{AreBits-side_bits, IsShaped, IsShaped-side_at}
use Rattle.side_info.proofs.SideLemmas.{length-side_bits, side_at-side_bits, side_bits-side_at}
use Rattle.side_info.proofs.SideLemmas.{SideFits-side_at}
use Rattle.side_info.specs.CheckWord.{check_word_of, crc_bit, crc_start, polynomial, remainder}
use Rattle.side_info.specs.Frame.{crc_part, frame_with_side, side_in, side_offset, side_part}
use Rattle.side_info.specs.{Frame.stored_crc, Side.{side_at, side_bits, SideFits}}
use Rattle.side_info.specs.declared.side.Side.{Side}

-- ---- a word of two bytes

number-two : {a b : ℕ} → AreBytes (a ∷ b ∷ [])
    → number (bits (a ∷ b ∷ [])) ≡ from_be_bytes w16 (a ∷ b ∷ [])
number-two {a} {b} h =
    grind (arith, bits-one a, number-bits_of-below 8 h.0, number-bits-push (a ∷ []) h.1.0)

-- two bytes are the big-endian number that their bits spell
pub number-word : (xs : List ℕ) → length xs ≡ 2 → AreBytes xs
    → number (bits xs) ≡ from_be_bytes w16 xs
number-word (a ∷ b ∷ []) l h = number-two h
number-word xs l h = absurd (omega arith)

AreBytes-word : (n : ℕ) → AreBytes (to_be_bytes w16 n)
AreBytes-word n = (mod_below _ 256 (lit< tt), (mod_below _ 256 (lit< tt), tt))

bits-word : {n : ℕ} → n < 2 ^ 16 → bits (to_be_bytes w16 n) ≡ bits_of 16 n
bits-word h = grind (arith, bits-bits_of, number-word, AreBytes-word, from_be_bytes-to_be_bytes_2)

-- a number of 16 bits is written as the two bytes of its bits
pub bytes-word : {n : ℕ} → n < 2 ^ 16 → to_be_bytes w16 n ≡ bytes (bits_of 16 n)
bytes-word {n} h = sym (bytes-bits (to_be_bytes w16 n) (AreBytes-word n)) ∙ ap bytes (bits-word h)

-- ---- bytes between others

-- ---- the check word that is in a frame

-- the number of a frame's fifth and sixth byte is the number of the 16 bits after the header
pub word_at : (frame : List ℕ) → 6 ≤ length frame → AreBytes frame
    → get_or frame 4 0 * 256 + get_or frame 5 0 ≡ number (bits (take 2 (drop 4 frame)))
word_at frame long all = grind (arith, number-two)

-- ---- room for what is before the area

-- the frame is long enough for what is before its area
abbrev pub HasRoom : HeaderFields → List ℕ → Type 0
HasRoom h frame = overhead_of (class_of h) h.protected ≤ length frame

-- the bytes before the area are the bytes before the side information plus the side information
pub overhead-is : (c : ClassFields) (protected : Bool)
    → overhead_of c protected ≡ side_offset protected + side_size_of c
unfolding overhead_of
overhead-is c protected = refl

-- in a protected frame these are six bytes and the side information
pub overhead-protected : (h : HeaderFields) → h.protected ≡ true
    → overhead_of (class_of h) h.protected ≡ 6 + side_size_of (class_of h)
overhead-protected h is = grind (arith, overhead-is)

-- in an unprotected frame these are four bytes and the side information
pub overhead-unprotected : (h : HeaderFields) → h.protected ≡ false
    → overhead_of (class_of h) h.protected ≡ 4 + side_size_of (class_of h)
overhead-unprotected h is = grind (arith, overhead-is)

offset-least : (protected : Bool) → 4 ≤ side_offset protected
offset-least protected = grind arith

offset-most : (protected : Bool) → side_offset protected ≤ 6
offset-most protected = grind arith

-- the area never begins before the fifth byte
pub overhead-least : (c : ClassFields) (protected : Bool) → 4 ≤ overhead_of c protected
overhead-least c protected = omega (arith, overhead-is c protected, offset-least protected)

-- there are at most six bytes and the side information before the area
pub overhead-most : (c : ClassFields) (protected : Bool)
    → overhead_of c protected ≤ 6 + side_size_of c
overhead-most c protected = omega (arith, overhead-is c protected, offset-most protected)

-- there are at most 38 bytes before the area
pub overhead-few : (c : ClassFields) (protected : Bool) → overhead_of c protected ≤ 38
overhead-few c protected = omega (arith, overhead-most c protected, side_size-small c)

-- a frame with room has at least the header and the side information
pub room-least : (h : HeaderFields) (frame : List ℕ) → HasRoom h frame
    → 4 + side_size_of (class_of h) ≤ length frame
room-least h frame room = grind (arith, overhead-is, offset-least)

-- a protected frame with room has a header and a check word
pub room-protected : (h : HeaderFields) (frame : List ℕ) → h.protected ≡ true → HasRoom h frame
    → 6 ≤ length frame
room-protected h frame is room = grind (arith, overhead-is)

-- ---- the parts of a frame with other side information

-- a check word has two bytes
pub length-word : (n : ℕ) → length (bytes (bits_of 16 n)) ≡ 2
length-word n = length-bytes 2 (bits_of 16 n) (length-bits_of 16 n)

-- a protected frame gets the side information and the right check word, and keeps its header and
-- area
pub frame_with_side-protected : (h : HeaderFields) (s : Side) (frame : List ℕ) → h.protected ≡ true
    → frame_with_side h s frame ≡ take 4 frame ++ (bytes (bits_of 16 (check_word_of h s))
    ++ (bytes (side_bits (class_of h) s) ++ drop (6 + side_size_of (class_of h)) frame))
unfolding frame_with_side overhead_of
frame_with_side-protected h s frame is = rw is refl

-- an unprotected frame gets the side information, and keeps its header and area
pub frame_with_side-unprotected : (h : HeaderFields) (s : Side) (frame : List ℕ)
    → h.protected ≡ false → frame_with_side h s frame ≡ take 4 frame
    ++ (bytes (side_bits (class_of h) s) ++ drop (4 + side_size_of (class_of h)) frame)
unfolding frame_with_side overhead_of
frame_with_side-unprotected h s frame is = rw is refl

-- the header and the check word, where there is one, are the bytes before the side information
pub length-crc_part : (h : HeaderFields) (s : Side) (b : Bool)
    → length (cond b (bytes (bits_of 16 (check_word_of h s))) []) + 4 ≡ side_offset b
length-crc_part h s b = grind (arith, length-word)

-- the parts of a frame with other side information
record IsMade (h : HeaderFields) (s : Side) (frame : List ℕ) : Type 0 where
  front : length (take 4 frame) ≡ 4
  word : length (crc_part h s) + 4 ≡ side_offset h.protected
  part : length (bytes (side_bits (class_of h) s)) ≡ side_size_of (class_of h)
  whole : frame_with_side h s frame
      ≡ ((take 4 frame ++ crc_part h s) ++ bytes (side_bits (class_of h) s))
      ++ drop (overhead_of (class_of h) h.protected) frame

made : {h : HeaderFields} {s : Side} {frame : List ℕ} → IsClass (class_of h) → IsShaped s
    → HasRoom h frame → IsMade h s frame
unfolding frame_with_side
made {h} {s} {frame} class shaped room =
    let c = class_of h in
    let part = bytes (side_bits c s) in
    let rest = drop (overhead_of c h.protected) frame in
    record {
      front = omega
          (arith, room, overhead-is c h.protected, offset-least h.protected, length-take 4 frame);
      word = length-crc_part h s h.protected;
      part = length-bytes (side_size_of c) (side_bits c s) (length-side_bits c class s shaped);
      whole = grind (arith, append_assoc, part);
    }

-- ---- what stays

-- a frame with other side information is as long as before
pub length-frame_with_side : (h : HeaderFields) {s : Side} (frame : List ℕ) → IsClass (class_of h)
    → IsShaped s → HasRoom h frame → length (frame_with_side h s frame) ≡ length frame
length-frame_with_side h frame class shaped room =
    grind (arith, made, overhead-is, length-append, length-drop)

-- a frame with other side information keeps its header
pub header-frame_with_side : (h : HeaderFields) (s : Side) (frame : List ℕ) → HasRoom h frame
    → take 4 (frame_with_side h s frame) ≡ take 4 frame
unfolding frame_with_side
header-frame_with_side h s frame room = grind (arith, room-least h frame room, length-take 4 frame)

-- the bytes before the area of a frame with other side information
front_length : {h : HeaderFields} {s : Side} {frame : List ℕ} → IsMade h s frame
    → length ((take 4 frame ++ crc_part h s) ++ bytes (side_bits (class_of h) s))
    ≡ overhead_of (class_of h) h.protected
front_length is = grind (arith, overhead-is, length-append)

-- a frame with other side information keeps its area
pub area-frame_with_side : (h : HeaderFields) {s : Side} (frame : List ℕ) → IsClass (class_of h)
    → IsShaped s → HasRoom h frame
    → drop (overhead_of (class_of h) h.protected) (frame_with_side h s frame)
    ≡ drop (overhead_of (class_of h) h.protected) frame
area-frame_with_side h frame class shaped room = grind (arith, made, drop_at, front_length)

-- ---- what is read back

-- the side information of the frame is the bytes that were put in
pub side_part-frame_with_side : (h : HeaderFields) {s : Side} (frame : List ℕ)
    → IsClass (class_of h) → IsShaped s → HasRoom h frame
    → side_part h (frame_with_side h s frame) ≡ bytes (side_bits (class_of h) s)
unfolding side_part
side_part-frame_with_side h frame class shaped room =
    grind (arith, made, length-append, append_assoc, drop_at, take_at)

-- the side information that was put in is read from the frame
pub side_in-frame_with_side : (h : HeaderFields) {s : Side} (frame : List ℕ) → IsClass (class_of h)
    → IsShaped s → SideFits (class_of h) s → HasRoom h frame
    → side_in h (frame_with_side h s frame) ≡ s
unfolding side_in
side_in-frame_with_side h {s} frame class shaped fits room =
    let c = class_of h in
    let long = length-side_bits c class s shaped in
    ap (λ (l : List ℕ). side_at c (bits l)) (side_part-frame_with_side h frame class shaped room)
    ∙ ap (side_at c) (bits-bytes (side_size_of c) (AreBits-side_bits c s) long)
    ∙ side_at-side_bits c class s shaped fits

step_below : (b : Bool) {word : ℕ} → word < 65536 → cond b word (bit_xor word polynomial) < 65536
step_below true few = few
step_below false {word} few = xor_lt 16 word polynomial few (lit< tt)

crc_bit-below : (word bit : ℕ) → crc_bit word bit < 65536
unfolding crc_bit
crc_bit-below word bit = step_below _ (mod_below (word * 2) 65536 (lit< tt))

remainder-below : (word : ℕ) (bs : List ℕ) → word < 65536 → remainder word bs < 65536
unfolding remainder
remainder-below word [] few = few
remainder-below word (bit ∷ bs) few = remainder-below (crc_bit word bit) bs (crc_bit-below word bit)

-- a check word has 16 bits
pub check_word-below : (h : HeaderFields) (s : Side) → check_word_of h s < 65536
unfolding check_word_of
check_word-below h s = remainder-below crc_start _ (lit< tt)

stored_crc-protected : (h : HeaderFields) (s : Side) (frame : List ℕ) → h.protected ≡ true
    → HasRoom h frame → stored_crc (frame_with_side h s frame)
    ≡ number (bits (bytes (bits_of 16 (check_word_of h s))))
unfolding stored_crc
stored_crc-protected h s frame is room =
    let word = bytes (bits_of 16 (check_word_of h s)) in
    let rest = bytes (side_bits (class_of h) s) ++ drop (6 + side_size_of (class_of h)) frame in
    ap (λ (l : List ℕ). number (bits (take 2 (drop 4 l)))) (frame_with_side-protected h s frame is)
    ∙ ap (λ (l : List ℕ). number (bits (take 2 l))) (drop_at (take 4 frame) (word ++ rest) 4
    (omega (arith, room-least h frame room, length-take 4 frame)))
    ∙ ap (λ (l : List ℕ). number (bits l)) (take_at word rest 2 (length-word (check_word_of h s)))

-- the check word that was put in is the right one
pub stored_crc-frame_with_side : (h : HeaderFields) (s : Side) (frame : List ℕ) → h.protected ≡ true
    → HasRoom h frame → stored_crc (frame_with_side h s frame) ≡ check_word_of h s
stored_crc-frame_with_side h s frame is room =
    let word = check_word_of h s in
    stored_crc-protected h s frame is room
    ∙ ap number (bits-bytes 2 (AreBits-bits_of 16 word) (length-bits_of 16 word))
    ∙ number-bits_of-below 16 (check_word-below h s)

-- ---- a frame whose side information is put in again

-- if side information is put into a frame twice, the last one counts
pub frame_with_side-again : (h : HeaderFields) (s : Side) {t : Side} (frame : List ℕ)
    → IsClass (class_of h) → IsShaped t → HasRoom h frame
    → frame_with_side h s (frame_with_side h t frame) ≡ frame_with_side h s frame
unfolding frame_with_side
frame_with_side-again h s frame class shaped room =
    grind (arith, header-frame_with_side, area-frame_with_side)

-- the check word of a protected frame is right
abbrev pub IsRight : HeaderFields → List ℕ → Type 0
IsRight h frame = h.protected ≡ true → stored_crc frame ≡ check_word_of h (side_in h frame)

word_of-said : (frame : List ℕ) → AreBytes frame → 6 ≤ length frame
    → bytes (bits_of 16 (stored_crc frame)) ≡ take 2 (drop 4 frame)
unfolding stored_crc
word_of-said frame all long =
    grind (arith, length-take, length-drop, bits-bits_of, bytes-bits, AreBelow-take, AreBelow-drop)

word_cases : (h : HeaderFields) (s : Side) (frame : List ℕ) {b : Bool} → h.protected ≡ b
    → AreBytes frame → HasRoom h frame → (h.protected ≡ true → stored_crc frame ≡ check_word_of h s)
    → cond b (bytes (bits_of 16 (check_word_of h s))) [] ++ drop (side_offset b) frame
    ≡ drop 4 frame
word_cases h s frame is all room right =
    grind (arith, word_of-said, room-protected, drop-drop, take-append-drop)

-- the side information that is read from a frame is written as the bytes that are there
pub side_there : (h : HeaderFields) (frame : List ℕ) → IsClass (class_of h) → AreBytes frame
    → HasRoom h frame → bytes (side_bits (class_of h) (side_in h frame)) ≡ side_part h frame
unfolding side_in side_part
side_there h frame class all room =
    grind (
      arith,
      overhead-is,
      length-take,
      length-drop,
      side_bits-side_at,
      AreBits-bits,
      length-bits,
      bytes-bits,
      AreBelow-take,
      AreBelow-drop,
    )

-- putting a frame's own side information into it doesn't change the frame, if its check word is
-- right
pub frame_with_side-own : (h : HeaderFields) {frame : List ℕ} → IsClass (class_of h)
    → AreBytes frame → HasRoom h frame → IsRight h frame
    → frame_with_side h (side_in h frame) frame ≡ frame
unfolding frame_with_side side_part
frame_with_side-own h {frame} class all room right =
    let c = class_of h in
    let s = side_in h frame in
    let offset = side_offset h.protected in
    let size = side_size_of c in
    let behind = drop offset frame in
    let rest : drop (overhead_of c h.protected) frame ≡ drop size behind =
    ap (λ n. drop n frame) (overhead-is c h.protected) ∙ sym (drop-drop size offset frame) in
    ap₂ (λ (xs ys : List ℕ). take 4 frame ++ (crc_part h s ++ (xs ++ ys)))
    (side_there h frame class all room) rest
    ∙ ap (λ (l : List ℕ). take 4 frame ++ (crc_part h s ++ l)) (take-append-drop size behind)
    ∙ ap (λ (l : List ℕ). take 4 frame ++ l) (word_cases h s frame refl all room right)
    ∙ take-append-drop 4 frame

-- the lists in side information read from a frame are as long as the arrays
pub shaped-side_in : (h : HeaderFields) (frame : List ℕ) → IsShaped (side_in h frame)
unfolding side_in
shaped-side_in h frame = IsShaped-side_at (class_of h) (bits (side_part h frame))

-- the fields of side information read from a frame are within their bits
pub fits-side_in : (h : HeaderFields) (frame : List ℕ) → IsClass (class_of h)
    → SideFits (class_of h) (side_in h frame)
unfolding side_in
fits-side_in h frame class = grind (arith, SideFits-side_at, AreBits-bits)

-- ---- a frame with more bytes after it

take-drop-take : (size from len : ℕ) (xs : List ℕ) → from + size ≤ len
    → take size (drop from (take len xs)) ≡ take size (drop from xs)
take-drop-take size zero len xs le = take-take size len xs (omega (arith, le))
take-drop-take size (suc from) zero xs le = absurd (omega (arith, le))
take-drop-take size (suc from) (suc len) [] le = refl
take-drop-take size (suc from) (suc len) (x ∷ xs) le =
    take-drop-take size from len xs (omega (arith, le))

-- the bytes between two offsets, followed by those from the later offset on, are the bytes from the
-- earlier offset on
pub drop-take-append : (m n : ℕ) (xs : List ℕ) → m ≤ n → drop m (take n xs) ++ drop n xs ≡ drop m xs
drop-take-append zero n xs le = take-append-drop n xs
drop-take-append (suc m) zero xs le = absurd (omega (arith, le))
drop-take-append (suc m) (suc n) [] le = refl
drop-take-append (suc m) (suc n) (x ∷ xs) le = drop-take-append m n xs (omega (arith, le))

-- the side information is the same in any first bytes of the frame that contain it
pub side_in-take : (h : HeaderFields) {len : ℕ} (xs : List ℕ)
    → overhead_of (class_of h) h.protected ≤ len → side_in h (take len xs) ≡ side_in h xs
unfolding side_in side_part
side_in-take h xs room = grind (arith, take-drop-take, overhead-is)

-- the check word is the same in any first bytes of the frame, at least six
pub stored_crc-take : {len : ℕ} (xs : List ℕ) → 6 ≤ len → stored_crc (take len xs) ≡ stored_crc xs
unfolding stored_crc
stored_crc-take {len} xs room = grind (arith, take-drop-take 2 4 len xs (omega (arith, room)))
