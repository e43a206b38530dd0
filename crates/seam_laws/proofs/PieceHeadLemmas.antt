-- The head of a written file has the extension of its
-- Info frame. An extension of zeros counts nothing.
use Rattle.std.proofs.Common.{ap, append_assoc, arith, Bool, drop, false, length, List, None}
use Rattle.std.proofs.Common.{Option, refl, replicate, Some, sym, take, ℕ, ◌%◌, ◌++◌, ◌-◌, ◌<◌, ◌^◌}
use Rattle.std.proofs.{Common.{◌∙◌, ◌≡◌, ◌≤◌}, lemmas.Bool.le-leb}
use Rattle.std.proofs.lemmas.List.{drop-drop, drop_at, length-append, length-replicate, length-take}
use Rattle.std.{proofs.lemmas.List.{take-append-le, take_at}, specs.{List.concat, Prelude.IfSome}}
use Rattle.bit_fields.specs.Bits.{bytes}
use Rattle.byteorder.specs.{Endian.big_bytes, Numbers.big_from-bytes}
use Rattle.exact_span.proofs.SealLemmas.{extension-there}
use Rattle.exact_span.specs.{Extensions.{counts_with_frames, has_encoder}, Laws.AreInfoFields}
use Rattle.exact_span.specs.PlayedPositions.{counted_positions}
use Rattle.frame_header.specs.{Fields.{ClassFields, HeaderFields, IsHeader}, HeaderBits.header_bits}
use Rattle.frame_header.specs.Tables.{area_of, class_of, length_of, side_size_of}
use Rattle.frame_writer.specs.Frames.{Frame}
use Rattle.info_header.specs.HeadText.{low_offset}
use Rattle.info_header.specs.Info.{field_in, field_offset, flags_in, info_bytes, info_in}
use Rattle.info_header.specs.Info.{number_or_zero, padded_bytes, table_or_zeros, vbr_text}
use Rattle.info_header.specs.InfoFrame.{info_frame, info_header_of, info_slot_of}
use Rattle.info_header.specs.declared.fields.Info.{Info}
use Rattle.laying.proofs.EntryByteLemmas.{length-header}
use Rattle.laying.proofs.InfoByteLemmas.{length-info, length-info_frame}
use Rattle.laying.specs.{KeptFields.fields_of_head, LaidFiles.{HasInfoSizes, head_at, laid_file}}
use Rattle.laying.specs.Written.{head_info}
use Rattle.sync_survey.specs.declared.places.Head.{Head}

-- ---- the fields of an Info frame

flags-by : (vbr : Bool) (rest : List ℕ)
    → take 4 (drop 4 (vbr_text vbr ++ (big_bytes 4 15 ++ rest))) ≡ big_bytes 4 15
flags-by vbr rest = grind arith

module _ {first : HeaderFields} {info : Info} (known : IsHeader first)
    (whole : AreInfoFields info) where
  abbrev c : ClassFields
  c = class_of first

  abbrev zeros : List ℕ
  zeros = replicate (area_of c (info_slot_of c) false - 156) 0

  abbrev fields : List ℕ
  fields = info_bytes info ++ zeros

  sizes : HasInfoSizes info
  sizes = record { table = whole.table; extension = whole.extension }

  fields-there : drop (low_offset (info_header_of first)) (info_frame first info) ≡ fields
  unfolding info_frame low_offset
  fields-there =
      let four = bytes (header_bits (info_header_of first)) in
      let side = replicate (side_size_of c) 0 in
      sym (drop-drop (side_size_of c) 4 (four ++ (side ++ fields)))
      ∙ ap (drop (side_size_of c))
      (drop_at four (side ++ fields) 4 (length-header (info_header_of first)))
      ∙ drop_at side fields (side_size_of c) (length-replicate (side_size_of c) 0)

  fields-long : 8 ≤ length fields
  fields-long = omega (arith, length-append (info_bytes info) zeros, length-info sizes)

  flags-is : flags_in fields ≡ 15
  unfolding info_bytes
  flags-is = grind (arith, le-leb, fields-long, append_assoc, flags-by)

  place-is : field_offset 15 4 ≡ 120
  unfolding field_offset
  place-is = refl

  extension-at : take 36 (drop 120 fields) ≡ info.extension
  unfolding low_offset
  extension-at =
      ap (λ l. take 36 (drop 120 l)) (sym fields-there)
      ∙ ap (take 36) (drop-drop 120 (low_offset (info_header_of first)) (info_frame first info))
      ∙ extension-there first whole

  extension-in : (info_in fields).extension ≡ info.extension
  unfolding info_in
  extension-in =
      let rest = drop 120 fields in
      let long : 36 ≤ length rest =
      omega (
        arith,
        ap length extension-at,
        length-take 36 rest,
        whole.extension,
      ) in
      ap (λ n. padded_bytes 36 (drop n fields))
      (ap (λ flags. field_offset flags 4) flags-is ∙ place-is)
      ∙ take-append-le 36 rest (replicate 36 0) long ∙ extension-at

  -- the number of frames, which has four bytes
  frames-by : (vbr : Bool) (n : ℕ) (rest : List ℕ)
      → take 4 (drop 8 (vbr_text vbr ++ (big_bytes 4 15 ++ (big_bytes 4 n ++ rest))))
      ≡ big_bytes 4 n
  frames-by vbr n rest = grind arith

  frames-long : 12 ≤ length fields
  frames-long = omega (arith, length-append (info_bytes info) zeros, length-info sizes)

  frames-at : take 4 (drop 8 fields) ≡ big_bytes 4 (number_or_zero info.frames)
  unfolding info_bytes
  frames-at = grind (arith, append_assoc, frames-by)

  -- the number of frames of an Info frame is read back
  frames-in : {n : ℕ} → info.frames ≡ Some n → n < 256 ^ 4 → (info_in fields).frames ≡ Some n
  unfolding info_in field_in field_offset
  frames-in is small = grind (arith, flags-is, le-leb, frames-long, frames-at)

  -- the number of bytes, which has four bytes
  bytes-by : (vbr : Bool) (m n : ℕ) (rest : List ℕ)
      → take 4 (drop 12
      (vbr_text vbr ++ (big_bytes 4 15 ++ (big_bytes 4 m ++ (big_bytes 4 n ++ rest)))))
      ≡ big_bytes 4 n
  bytes-by vbr m n rest = grind arith

  bytes-long : 16 ≤ length fields
  bytes-long = omega (arith, length-append (info_bytes info) zeros, length-info sizes)

  bytes-at : take 4 (drop 12 fields) ≡ big_bytes 4 (number_or_zero info.bytes)
  unfolding info_bytes
  bytes-at = grind (arith, append_assoc, bytes-by)

  -- the number of bytes of an Info frame is read back
  bytes-in : {n : ℕ} → info.bytes ≡ Some n → n < 256 ^ 4 → (info_in fields).bytes ≡ Some n
  unfolding info_in field_in field_offset
  bytes-in is small = grind (arith, flags-is, le-leb, bytes-long, bytes-at)

  -- the quality, after the table
  behind-by : (vbr : Bool) (m n : ℕ) (rest : List ℕ)
      → drop 16
      (vbr_text vbr ++ (big_bytes 4 15 ++ (big_bytes 4 m ++ (big_bytes 4 n ++ rest)))) ≡ rest
  behind-by vbr m n rest = grind arith

  table-long : (table : Option (List ℕ)) → IfSome table (λ t. length t ≡ 100)
      → length (table_or_zeros table) ≡ 100
  table-long table long = grind arith

  quality-at : take 4 (drop 116 fields) ≡ big_bytes 4 (number_or_zero info.quality)
  unfolding info_bytes
  quality-at =
      let frames = big_bytes 4 (number_or_zero info.frames) in
      let bytes = big_bytes 4 (number_or_zero info.bytes) in
      let table = table_or_zeros info.table in
      let four = big_bytes 4 (number_or_zero info.quality) in
      let last = table ++ (four ++ info.extension) in
      let rest = table ++ (four ++ (info.extension ++ zeros)) in
      let assoc : fields
      ≡ vbr_text info.vbr ++ (big_bytes 4 15 ++ (frames ++ (bytes ++ rest))) =
      grind (arith, append_assoc) in
      ap (λ l. take 4 (drop 116 l)) assoc
      ∙ ap (take 4)
      (sym (drop-drop 100 16 (vbr_text info.vbr ++ (big_bytes 4 15 ++ (frames ++ (bytes ++ rest)))))
      ∙ ap (drop 100)
      (behind-by info.vbr (number_or_zero info.frames) (number_or_zero info.bytes) rest)
      ∙ drop_at table (four ++ (info.extension ++ zeros)) 100 (table-long info.table whole.table))
      ∙ take_at four (info.extension ++ zeros) 4 refl

  quality-long : 120 ≤ length fields
  quality-long = omega (arith, length-append (info_bytes info) zeros, length-info sizes)

  -- the quality of an Info frame is read back, as a number of four bytes
  quality-in : (info_in fields).quality ≡ Some (number_or_zero info.quality % 256 ^ 4)
  unfolding info_in field_in field_offset
  quality-in =
      grind (arith, flags-is, le-leb, quality-long, quality-at, big_from-bytes, info.quality)

  -- ---- in a file

  module _ (front : List (List ℕ)) (frames : List Frame) (back : List (List ℕ)) where
    abbrev file : List ℕ
    file = laid_file front first info frames back

    head-there : take (length_of (class_of (info_header_of first)) (info_slot_of c))
        (drop (length (concat front)) file) ≡ info_frame first info
    unfolding laid_file
    head-there = grind (arith, drop_at, take_at, length-info_frame, sizes)

    -- the head of the file has the extension that it was laid with
    pub laid-extension : (head_info file (Some (head_at (length (concat front)) first))).extension
        ≡ info.extension
    unfolding head_info
    laid-extension = grind (arith, head-there, fields-there, extension-in)

    -- the head of the file has the number of frames that it was laid with
    pub laid-count : {n : ℕ} → info.frames ≡ Some n → n < 256 ^ 4
        → (head_info file (Some (head_at (length (concat front)) first))).frames ≡ Some n
    unfolding head_info
    laid-count is small = grind (arith, head-there, fields-there, frames-in)

    -- the head of the file has the number of bytes that it was laid with
    pub laid-bytes : {n : ℕ} → info.bytes ≡ Some n → n < 256 ^ 4
        → (head_info file (Some (head_at (length (concat front)) first))).bytes ≡ Some n
    unfolding head_info
    laid-bytes is small = grind (arith, head-there, fields-there, bytes-in)

    -- the head of the file has the quality that it was laid with
    pub laid-quality
        : (head_info file (Some (head_at (length (concat front)) first))).quality
        ≡ Some (number_or_zero info.quality % 256 ^ 4)
    unfolding head_info
    laid-quality =
        ap (λ (l : List ℕ). (info_in (drop (low_offset (info_header_of first)) l)).quality)
        head-there
        ∙ ap (λ (l : List ℕ). (info_in l).quality) fields-there ∙ quality-in

-- ---- an extension without the name of an encoder

none-counted : (info : Info) (frames : Option ℕ) → has_encoder info.extension ≡ false
    → counts_with_frames info frames ≡ None
none-counted info frames none = grind arith

-- a head whose extension is all zeros counts nothing
pub zero-counts : (file : List ℕ) (head : Head) (class : ClassFields) (frames : ℕ)
    → (head_info file (Some head)).extension ≡ replicate 36 0
    → counted_positions (fields_of_head file (Some head)) class frames ≡ None
unfolding counted_positions has_encoder
zero-counts file head class frames is = grind (arith, none-counted)
