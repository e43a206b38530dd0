-- Laws of an Info frame with music length and tag CRC.
use Rattle.std.proofs.Common.{ap, append_assoc, ap₂, arith, Bool, drop, false, length, List, None}
use Rattle.std.proofs.Common.{Option, refl, replicate, Some, sym, take, true, ℕ, ◌++◌, ◌+◌, ◌-◌}
use Rattle.std.proofs.{Common.{◌∙◌, ◌≡◌, ◌≤◌}, Math.Seq.{drop-append-add, take-append-add}}
use Rattle.std.proofs.lemmas.List.{drop-append-le, drop_at, length-append, length-drop}
use Rattle.std.proofs.lemmas.List.{length-replicate, length-take-le, take-append-le, take-take}
use Rattle.std.{proofs.lemmas.List.take_at, specs.Prelude.IfSome}
use Rattle.bit_fields.{proofs.BitsLemmas.length-bytes, specs.Bits.bytes}
use Rattle.byteorder.specs.Endian.{big_bytes}
use Rattle.exact_span.{proofs.ExtensionLemmas.says-front, specs.Laws.{AreInfoFields, IsInfoSealed}}
use Rattle.exact_span.specs.TagWord.{arc_of, bytes_offset, crc_offset, music_offset, sealed_info}
use Rattle.exact_span.specs.TagWord.{tag_crc_of, text_offset, with_crc_field, with_length_field}
use Rattle.exact_span.specs.TagWord.{with_music_length, with_tag_crc}
use Rattle.frame_header.proofs.HeaderLemmas.{length-header_bits}
use Rattle.frame_header.specs.{Fields.{ClassFields, HeaderFields}, HeaderBits.header_bits}
use Rattle.frame_header.specs.Tables.{area_of, class_of, side_size_of}
use Rattle.info_header.specs.Info.{info_bytes, number_or_zero, table_or_zeros, vbr_text}
use Rattle.info_header.specs.InfoFrame.{info_frame, info_header_of, info_slot_of}
use Rattle.info_header.specs.declared.fields.Info.{Info}

-- ---- parts of a list

-- taking more than the first part takes all of it and some of the second
take-behind : (xs ys : List ℕ) (k : ℕ) {n : ℕ} → n ≡ length xs + k
    → take n (xs ++ ys) ≡ xs ++ take k ys
take-behind xs ys k is = ap (λ i. take i (xs ++ ys)) is ∙ take-append-add xs ys k

drop-behind : (xs ys : List ℕ) (k : ℕ) {n : ℕ} → n ≡ length xs + k → drop n (xs ++ ys) ≡ drop k ys
drop-behind xs ys k is = ap (λ i. drop i (xs ++ ys)) is ∙ drop-append-add xs ys k

-- ---- the parts of an Info frame

-- the header and the side information
front_of : HeaderFields → List ℕ
front_of first =
    bytes (header_bits (info_header_of first)) ++ replicate (side_size_of (class_of first)) 0

-- the text, the flags and the number of frames
head_of : Info → List ℕ
head_of info = vbr_text info.vbr ++ (big_bytes 4 15 ++ big_bytes 4 (number_or_zero info.frames))

-- the number of bytes
number_of : Info → List ℕ
number_of info = big_bytes 4 (number_or_zero info.bytes)

-- the table and the quality
tail_of : Info → List ℕ
tail_of info = table_or_zeros info.table ++ big_bytes 4 (number_or_zero info.quality)

rest_of : HeaderFields → List ℕ
rest_of first = replicate (area_of (class_of first) (info_slot_of (class_of first)) false - 156) 0

-- the frame with these parts and an extension
framed : HeaderFields → Info → List ℕ → List ℕ
framed first info extension = (front_of first ++ head_of info)
    ++ (number_of info ++ (tail_of info ++ (extension ++ rest_of first)))

frame-parts : (first : HeaderFields) (info : Info) (extension : List ℕ)
    → info_frame first (record info { extension = extension }) ≡ framed first info extension
unfolding info_frame info_bytes framed front_of head_of number_of tail_of rest_of
frame-parts first info extension = simp append_assoc

front-length : (first : HeaderFields) → length (front_of first) ≡ text_offset (class_of first)
unfolding front_of
front-length first =
    let header = bytes (header_bits (info_header_of first)) in
    omega (
      arith,
      length-append header (replicate (side_size_of (class_of first)) 0),
      length-bytes 4 (header_bits (info_header_of first))
          (length-header_bits (info_header_of first)),
      length-replicate {A = ℕ} (side_size_of (class_of first)) 0,
    )

text-length : (vbr : Bool) → length (vbr_text vbr) ≡ 4
text-length true = refl
text-length false = refl

head-length : (info : Info) → length (head_of info) ≡ 12
unfolding head_of
head-length info =
    omega (
      arith,
      length-append (vbr_text info.vbr)
          (big_bytes 4 15 ++ big_bytes 4 (number_or_zero info.frames)),
      text-length info.vbr,
    )

number-length : (info : Info) → length (number_of info) ≡ 4
unfolding number_of
number-length info = refl

table-length : (table : Option (List ℕ)) → IfSome table (λ table. length table ≡ 100)
    → length (table_or_zeros table) ≡ 100
table-length None long = length-replicate {A = ℕ} 100 0
table-length (Some table) long = long

tail-length : {info : Info} → AreInfoFields info → length (tail_of info) ≡ 104
unfolding tail_of
tail-length {info} whole =
    omega (
      arith,
      length-append (table_or_zeros info.table) (big_bytes 4 (number_or_zero info.quality)),
      table-length info.table whole.table,
    )

-- ---- the music length and the tag CRC

module _ (c : ClassFields) (front number tail extension rest : List ℕ)
    (at : length front ≡ bytes_offset c) (four : length number ≡ 4) (middle : length tail ≡ 104)
    (long : length extension ≡ 36) where
  put-length : with_music_length c (front ++ (number ++ (tail ++ (extension ++ rest)))) ≡ front
      ++ (number ++ (tail ++ ((take 28 extension ++ (number ++ drop 32 extension)) ++ rest)))
  unfolding with_music_length
  put-length =
      let whole = front ++ (number ++ (tail ++ (extension ++ rest))) in
      let before : take (music_offset c) whole ≡ front ++ (number ++ (tail ++ take 28 extension)) =
      take-behind front _ 136 {n = music_offset c} (omega (arith, at))
      ∙ ap (λ (xs : List ℕ). front ++ xs) (take-behind number _ 132 {n = 136} (omega (arith, four))
      ∙ ap (λ (xs : List ℕ). number ++ xs) (take-behind tail _ 28 {n = 132} (omega (arith, middle))
      ∙ ap (λ (xs : List ℕ). tail ++ xs) (take-append-le 28 extension rest (omega (arith, long)))))
      in
      let own : take 4 (drop (bytes_offset c) whole) ≡ number =
      ap (take 4) (drop_at front _ (bytes_offset c) at) ∙ take_at number _ 4 four in
      let behind : drop (music_offset c + 4) whole ≡ drop 32 extension ++ rest =
      drop-behind front _ 140 {n = music_offset c + 4} (omega (arith, at))
      ∙ drop-behind number _ 136 {n = 140} (omega (arith, four))
      ∙ drop-behind tail _ 32 {n = 136} (omega (arith, middle))
      ∙ drop-append-le 32 extension rest (omega (arith, long)) in
      ap₂ (λ (xs ys : List ℕ). xs ++ ys) before (ap₂ (λ (xs ys : List ℕ). xs ++ ys) own behind)
      ∙ simp append_assoc

  put-crc : let whole = front ++ (number ++ (tail ++ (extension ++ rest))) in
      with_tag_crc c whole ≡ front ++ (number ++ (tail
      ++ ((take 34 extension ++ big_bytes 2 (arc_of 0 (take (crc_offset c) whole))) ++ rest)))
  unfolding with_tag_crc
  put-crc =
      let whole = front ++ (number ++ (tail ++ (extension ++ rest))) in
      let word = big_bytes 2 (arc_of 0 (take (crc_offset c) whole)) in
      let before : take (crc_offset c) whole ≡ front ++ (number ++ (tail ++ take 34 extension)) =
      take-behind front _ 142 {n = crc_offset c} (omega (arith, at))
      ∙ ap (λ (xs : List ℕ). front ++ xs) (take-behind number _ 138 {n = 142} (omega (arith, four))
      ∙ ap (λ (xs : List ℕ). number ++ xs) (take-behind tail _ 34 {n = 138} (omega (arith, middle))
      ∙ ap (λ (xs : List ℕ). tail ++ xs) (take-append-le 34 extension rest (omega (arith, long)))))
      in
      let behind : drop (crc_offset c + 2) whole ≡ rest =
      drop-behind front _ 144 {n = crc_offset c + 2} (omega (arith, at))
      ∙ drop-behind number _ 140 {n = 144} (omega (arith, four))
      ∙ drop-behind tail _ 36 {n = 140} (omega (arith, middle))
      ∙ drop_at extension rest 36 long in
      ap₂ (λ (xs ys : List ℕ). xs ++ (word ++ ys)) before behind ∙ simp append_assoc

-- ---- both

front-place : (first : HeaderFields) (info : Info)
    → length (front_of first ++ head_of info) ≡ bytes_offset (class_of first)
front-place first info = omega
    (arith, length-append (front_of first) (head_of info), front-length first, head-length info)

field-length : {info : Info} → AreInfoFields info → length (with_length_field info).extension ≡ 36
field-length {info} whole =
    let long = whole.extension in
    omega (
      arith,
      length-append (take 28 info.extension)
          (big_bytes 4 (number_or_zero info.bytes) ++ drop 32 info.extension),
      length-take-le 28 info.extension (omega (arith, long)),
      length-append (big_bytes 4 (number_or_zero info.bytes)) (drop 32 info.extension),
      length-drop 32 info.extension,
    )

music-put : (first : HeaderFields) {info : Info} → AreInfoFields info
    → with_music_length (class_of first) (info_frame first info)
    ≡ info_frame first (with_length_field info)
unfolding framed number_of
music-put first {info} whole =
    ap (with_music_length (class_of first)) (frame-parts first info info.extension)
    ∙ put-length (class_of first) (front_of first ++ head_of info) (number_of info)
    (tail_of info) info.extension (rest_of first)
    (front-place first info) (number-length info) (tail-length whole) whole.extension
    ∙ sym (frame-parts first info (with_length_field info).extension)

crc-put : (first : HeaderFields) {info : Info} → AreInfoFields info
    → with_tag_crc (class_of first) (info_frame first info)
    ≡ info_frame first (with_crc_field first info)
unfolding framed
crc-put first {info} whole =
    let is = frame-parts first info info.extension in
    let word =
    λ (frame : List ℕ). big_bytes 2 (arc_of 0 (take (crc_offset (class_of first)) frame)) in
    ap (with_tag_crc (class_of first)) is
    ∙ put-crc (class_of first) (front_of first ++ head_of info) (number_of info)
    (tail_of info) info.extension (rest_of first)
    (front-place first info) (number-length info) (tail-length whole) whole.extension
    ∙ ap (λ (frame : List ℕ). framed first info (take 34 info.extension ++ word frame)) (sym is)
    ∙ sym (frame-parts first info (with_crc_field first info).extension)

frame-room : (first : HeaderFields) {info : Info} → AreInfoFields info
    → text_offset (class_of first) + 156 ≤ length (info_frame first info)
unfolding framed
frame-room first {info} whole =
    let front = front_of first ++ head_of info in
    let rest = rest_of first in
    omega (
      arith,
      ap length (frame-parts first info info.extension),
      front-place first info,
      number-length info,
      tail-length whole,
      whole.extension,
      length-append front (number_of info ++ (tail_of info ++ (info.extension ++ rest))),
      length-append (number_of info) (tail_of info ++ (info.extension ++ rest)),
      length-append (tail_of info) (info.extension ++ rest),
      length-append info.extension rest,
    )

-- sealing doesn't change the first 28 bytes of the extension
field-front : (first : HeaderFields) {info : Info} → AreInfoFields info
    → take 28 (sealed_info first info).extension ≡ take 28 info.extension
field-front first {info} whole =
    let long = whole.extension in
    let extension = (with_length_field info).extension in
    let many : length (take 34 extension) ≡ 34 =
    length-take-le 34 extension (omega (arith, field-length whole)) in
    let few : length (take 28 info.extension) ≡ 28 =
    length-take-le 28 info.extension (omega (arith, long)) in
    take-append-le 28 (take 34 extension) (big_bytes 2 (tag_crc_of first (with_length_field info)))
    (omega (arith, many))
    ∙ take-take 28 34 extension (omega arith)
    ∙ take-append-le 28 (take 28 info.extension)
    (big_bytes 4 (number_or_zero info.bytes) ++ drop 32 info.extension) (omega (arith, few))
    ∙ take-take 28 28 info.extension (omega arith)

-- a sealed Info frame is the Info frame of fields that differ in music length and tag CRC alone
pub frames-sealed : (first : HeaderFields) {info : Info} → AreInfoFields info
    → IsInfoSealed first info
frames-sealed first {info} whole = record {
  room = frame-room first whole;
  is = ap (with_tag_crc (class_of first)) (music-put first whole)
      ∙ crc-put first
      (record { table = whole.table; extension = field-length whole });
  says = λ d p. says-front
      (field-front first whole);
}

-- the fields of a sealed frame are fields that a struct can have
pub sealed-whole : (first : HeaderFields) {info : Info} → AreInfoFields info
    → AreInfoFields (sealed_info first info)
sealed-whole first {info} whole =
    let extension = (with_length_field info).extension in
    record {
      table = whole.table;
      extension = omega (
        arith,
        length-append (take 34 extension) (big_bytes 2 (tag_crc_of first (with_length_field info))),
        length-take-le 34 extension (omega (arith, field-length whole)),
      );
    }

-- where the extension is in an Info frame
pub extension-there : (first : HeaderFields) {info : Info} → AreInfoFields info
    → take 36 (drop (text_offset (class_of first) + 120) (info_frame first info)) ≡ info.extension
unfolding framed
extension-there first {info} whole =
    let front = front_of first ++ head_of info in
    ap (λ (l : List ℕ). take 36 (drop (text_offset (class_of first) + 120) l))
    (frame-parts first info info.extension)
    ∙ ap (λ (l : List ℕ). take 36 l)
    (drop-behind front _ 108 {n = text_offset (class_of first) + 120}
    (omega (arith, front-place first info))
    ∙ drop-behind (number_of info) _ 104 {n = 108} (omega (arith, number-length info))
    ∙ drop_at (tail_of info) _ 104 (tail-length {info = info} whole))
    ∙ take_at info.extension (rest_of first) 36 whole.extension
