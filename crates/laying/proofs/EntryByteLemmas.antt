-- One frame: its bytes are an item, and its side information and its check word are read back.
use Rattle.std.proofs.Common.{ap, append_assoc, arith, cond, Err, leb, length, length-append, List}
use Rattle.std.proofs.{Common.{Ok, take, true, ℕ, ◌++◌, ◌∙◌, ◌≡◌}, lemmas.Bool.le-leb}
use Rattle.std.proofs.lemmas.List.{drop_at, take_at}
use Rattle.bit_fields.{proofs.BitsLemmas.{bits-bytes, length-bytes}, specs.Bits.bytes}
use Rattle.frame_header.proofs.HeaderLemmas.{AreBits-header_bits, header_at-bytes, IsClass-class_of}
use Rattle.frame_header.proofs.{HeaderLemmas.length-header_bits, SlotLemmas.area-is}
use Rattle.frame_header.specs.{Fields.{HeaderFields, IsHeader}, HeaderBits.header_bits}
use Rattle.frame_header.specs.Reading.{header_at}
use Rattle.frame_header.specs.Tables.{area_of, class_of, length_of, overhead_of, side_size_of}
use Rattle.frame_header.specs.declared.header.NotHeader.TheVariants.{No}
use Rattle.laying.specs.LaidFiles.{HasPairs}
use Rattle.side_info.proofs.FrameLemmas.{HasRoom, length-crc_part, overhead-is}
use Rattle.side_info.proofs.FrameLemmas.{side_in-frame_with_side, stored_crc-frame_with_side}
use Rattle.side_info.{proofs.SideLemmas.{IsShaped, length-side_bits}, specs.CheckWord.check_word_of}
use Rattle.side_info.specs.Frame.{crc_part, frame_front_bytes, frame_with_side, side_in, stored_crc}
use Rattle.side_info.specs.{Side.{side_bits, SideFits}, declared.side.Side.Side}
use Rattle.sync_survey.proofs.ItemBytesLemmas.{frame-least, frame_item, IsItem}
use Rattle.sync_survey.specs.{Items.header_front, declared.items.Item.TheVariants.Frame}

-- side information with pairs has lists as long as the arrays
pub shaped : {s : Side} → HasPairs s → IsShaped s
shaped pairs = grind arith

-- ---- a header

-- a header has four bytes
pub length-header : (h : HeaderFields) → length (bytes (header_bits h)) ≡ 4
length-header h = length-bytes 4 (header_bits h) (length-header_bits h)

-- a header is read from its bytes, whatever follows
pub header_front-is : {h : HeaderFields} (rest : List ℕ) → IsHeader h
    → header_front (bytes (header_bits h) ++ rest) ≡ Ok h
unfolding header_front
header_front-is {h} rest is =
    let four = bytes (header_bits h) in
    let long : leb 4 (length (four ++ rest)) ≡ true =
    le-leb _ _ (omega (arith, length-header h, length-append four rest)) in
    ap (λ b. cond b (header_at (take 4 (four ++ rest))) (Err No)) long
    ∙ ap header_at (take_at four rest 4 (length-header h))
    ∙ header_at-bytes four is
    (bits-bytes 4 (AreBits-header_bits h) (length-header_bits h))

-- ---- what is before the area

-- the front of a frame has as many bytes as its overhead
pub length-front : {h : HeaderFields} {s : Side} → IsHeader h → IsShaped s
    → length (frame_front_bytes h s) ≡ overhead_of (class_of h) h.protected
unfolding frame_front_bytes
length-front {h} {s} is pairs =
    let c = class_of h in
    let side = bytes (side_bits c s) in
    omega (
      arith,
      length-header h,
      length-append (bytes (header_bits h)) (crc_part h s ++ side),
      length-append (crc_part h s) side,
      length-crc_part h s h.protected,
      length-bytes (side_size_of c) (side_bits c s)
          (length-side_bits c (IsClass-class_of is) s pairs),
      overhead-is c h.protected,
    )

front-four : (h : HeaderFields) (s : Side) (rest : List ℕ)
    → take 4 (frame_front_bytes h s ++ rest) ≡ bytes (header_bits h)
unfolding frame_front_bytes
front-four h s rest = search (arith, append_assoc, take_at, length-header)

front_header : {h : HeaderFields} (s : Side) (rest : List ℕ) → IsHeader h
    → header_front (frame_front_bytes h s ++ rest) ≡ Ok h
unfolding frame_front_bytes
front_header s rest is = grind (arith, append_assoc, header_front-is)

module _ {h : HeaderFields} {s : Side} (rest : List ℕ) (is : IsHeader h) (pairs : IsShaped s) where
  -- putting the side information into the frame again changes nothing
  put_again : frame_with_side h s (frame_front_bytes h s ++ rest) ≡ frame_front_bytes h s ++ rest
  unfolding frame_with_side frame_front_bytes
  put_again = grind (arith, front-four, drop_at, length-front, append_assoc)

  room : HasRoom h (frame_front_bytes h s ++ rest)
  room = omega (arith, length-front is pairs, length-append (frame_front_bytes h s) rest)

  -- the side information is read back
  pub front-side : SideFits (class_of h) s → side_in h (frame_front_bytes h s ++ rest) ≡ s
  front-side fits = grind (arith, put_again, side_in-frame_with_side, IsClass-class_of, room)

  -- the check word of the frame is right
  pub front-word : h.protected ≡ true
      → stored_crc (frame_front_bytes h s ++ rest) ≡ check_word_of h s
  front-word protected = grind (arith, put_again, stored_crc-frame_with_side, room)

-- ---- the frame

module _ {h : HeaderFields} {s : Side} (area : List ℕ) (is : IsHeader h) (pairs : IsShaped s)
    (many : length area ≡ area_of (class_of h) h.slot h.protected) where
  -- with its area the frame is as long as its header says
  pub length-entry : length (frame_front_bytes h s ++ area) ≡ length_of (class_of h) h.slot
  length-entry = grind (arith, length-append, length-front, area-is, IsClass-class_of)

  -- the frame's bytes are an item
  pub entry_item : IsItem (Frame h) (frame_front_bytes h s ++ area)
  entry_item = grind (arith, frame_item, front_header, length-entry, frame-least)
