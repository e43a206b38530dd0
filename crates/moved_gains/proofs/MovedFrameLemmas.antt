-- A frame with moved gains, and what it has in common with the frame.
use Rattle.std.proofs.Common.{arith, Bool, cond, drop, false, length, List, Ok, refl, take, true, ℕ}
use Rattle.std.proofs.Common.{ℤ, [], ◌++◌, ◌+◌, ◌-◌, ◌<◌, ◌∙◌, ◌≡◌}
use Rattle.bit_fields.proofs.BitsLemmas.{AreBelow-append, AreBelow-drop, AreBelow-take}
use Rattle.bit_fields.proofs.BitsLemmas.{AreBits-bits_of, AreBytes-bytes}
use Rattle.bit_fields.specs.Bits.{AreBytes, bits_of, bytes}
use Rattle.frame_header.proofs.{HeaderLemmas.IsClass-class_of, LengthLemmas.area_some}
use Rattle.frame_header.specs.Fields.{ClassFields, HeaderFields, IsClass}
use Rattle.frame_header.specs.Tables.{class_of, length_of, overhead_of, side_size_of}
use Rattle.moved_gains.proofs.{GainsLemmas.SideFits-moved_side, MovedGainLemmas.IsShaped-moved}
use Rattle.moved_gains.specs.Edited.{moved_frame, moved_frame_unless_lost}
use Rattle.moved_gains.specs.Gains.{moved_granule, moved_side, moved_side_unless_lost}
use Rattle.requests.specs.declared.shift.Steps.{Steps}
use Rattle.side_info.proofs.FrameLemmas.{area-frame_with_side, fits-side_in, HasRoom}
use Rattle.side_info.proofs.FrameLemmas.{header-frame_with_side, IsRight, length-frame_with_side}
use Rattle.side_info.proofs.FrameLemmas.{overhead-most, shaped-side_in, side_in-frame_with_side}
use Rattle.side_info.proofs.FrameLemmas.{stored_crc-frame_with_side}
use Rattle.side_info.proofs.LastBytesLemmas.{AreGranulesAlike, last_bytes-frame_with_side}
use Rattle.side_info.proofs.LastBytesLemmas.{last_granule}
use Rattle.side_info.proofs.SideLemmas.{AreBits-side_bits, each_class, each_shaped, IsShaped}
use Rattle.side_info.{proofs.SideLemmas.side_with, specs.CheckWord.check_word_of}
use Rattle.side_info.specs.Frame.{crc_part, frame_with_side, side_in}
use Rattle.side_info.specs.Side.{granule_in, HasOtherGains, side_bits}
use Rattle.side_info.specs.declared.{granule.Granule.Granule, side.Side.Side}
use Rattle.sync_survey.proofs.ItemBytesLemmas.{frame_item, header_front-four, IsItem}
use Rattle.sync_survey.{proofs.ItemsLemmas.header_front-in_range, specs.Items.header_front}
use Rattle.sync_survey.specs.declared.items.Item.TheVariants.{Frame}

-- ---- the last two bytes of the side information

-- a moved granule differs in no field but global_gain
moved_granule-alike : (steps : ℤ) (g : Granule) → AreGranulesAlike g (moved_granule steps g)
moved_granule-alike steps g = grind arith

moved_granules : (steps : Steps) (m p a b : ℕ) (g h k l : Granule) (granule channel : ℕ)
    → AreGranulesAlike (granule_in (side_with m p a b g h k l) granule channel)
    (granule_in (moved_side steps (side_with m p a b g h k l)) granule channel)
unfolding moved_side
moved_granules steps m p a b g h k l granule channel = grind arith

-- moved side information differs only in gains
pub other_gains : (steps : Steps) (s : Side) → IsShaped s → HasOtherGains s (moved_side steps s)
unfolding moved_side
other_gains steps =
    each_shaped (λ s. HasOtherGains s (moved_side steps s))
    (λ m p a b g h k l. record {
      main_data_begin = refl;
      private_bits = refl;
      scfsi = refl;
      granules = moved_granules steps m p a b g h k l;
    })

-- the last granule and channel of moved side information differs only in its gain
last_granule-moved : (steps : Steps) (c : ClassFields) → IsClass c → (s : Side)
    → AreGranulesAlike (last_granule c s) (last_granule c (moved_side steps s))
unfolding moved_side
last_granule-moved steps = grind (arith, each_class, last_granule, moved_granule-alike)

-- moved gains leave a frame as it is from two bytes before its area on
last_bytes-moved : (steps : Steps) (h : HeaderFields) (frame : List ℕ) → IsClass (class_of h)
    → AreBytes frame → HasRoom h frame
    → drop (overhead_of (class_of h) h.protected - 2) (moved_frame steps h frame)
    ≡ drop (overhead_of (class_of h) h.protected - 2) frame
last_bytes-moved steps h frame class all room =
    let s = side_in h frame in
    last_bytes-frame_with_side h frame class all (IsShaped-moved steps
    (shaped-side_in h frame)) room (last_granule-moved steps (class_of h) class s)

-- ---- a frame with other side information is bytes

word_bytes : (h : HeaderFields) (s : Side) (b : Bool)
    → AreBytes (cond b (bytes (bits_of 16 (check_word_of h s))) [])
word_bytes h s b = grind (arith, AreBytes-bytes, AreBits-bits_of)

frame_bytes : (h : HeaderFields) (s : Side) (frame : List ℕ) → AreBytes frame
    → AreBytes (frame_with_side h s frame)
unfolding frame_with_side
frame_bytes h s frame all =
    let side = bytes (side_bits (class_of h) s) in
    let rest = drop (overhead_of (class_of h) h.protected) frame in
    AreBelow-append 256 (take 4 frame) (crc_part h s ++ (side ++ rest))
    (AreBelow-take 256 4 frame all)
    (AreBelow-append 256 (crc_part h s) (side ++ rest) (word_bytes h s h.protected)
    (AreBelow-append 256 side rest
    (AreBytes-bytes (side_bits (class_of h) s) (AreBits-side_bits (class_of h) s))
    (AreBelow-drop 256 (overhead_of (class_of h) h.protected) frame all)))

-- ---- a whole frame

-- a frame with this header that is whole
pub record IsWhole (h : HeaderFields) (frame : List ℕ) : Type 0 where
  pub header : header_front frame ≡ Ok h
  pub size : length frame ≡ length_of (class_of h) h.slot
  pub all : AreBytes frame

-- a whole frame is of a class of the standard
pub whole_class : {h : HeaderFields} {frame : List ℕ} → IsWhole h frame → IsClass (class_of h)
whole_class {h} {frame} whole = IsClass-class_of (header_front-in_range frame whole.header)

-- a whole frame has room for side information, and more after it
pub whole_room : {h : HeaderFields} {frame : List ℕ} → IsWhole h frame
    → (HasRoom h frame) × (6 + side_size_of (class_of h) < length frame)
whole_room whole = grind (arith, header_front-in_range, area_some, IsClass-class_of, overhead-most)

-- ---- with moved gains

-- what it has in common with the frame, its side information, and that its
-- check word is right, if a lost frame, which stays, has the right one
pub record IsMoved (lost : Bool) (steps : Steps) (h : HeaderFields)
    (frame new : List ℕ) : Type 0 where
  pub whole : IsWhole h new
  pub same_end : drop (overhead_of (class_of h) h.protected - 2) new
      ≡ drop (overhead_of (class_of h) h.protected - 2) frame
  pub same_area : drop (overhead_of (class_of h) h.protected) new
      ≡ drop (overhead_of (class_of h) h.protected) frame
  pub side : side_in h new ≡ moved_side_unless_lost lost steps (side_in h frame)
  pub right : (lost ≡ true → IsRight h frame) → IsRight h new

-- a whole frame with moved gains is whole, and keeps its header, its length and its area
pub moved_whole : (lost : Bool) (steps : Steps) {h : HeaderFields} {frame : List ℕ}
    → IsWhole h frame → IsMoved lost steps h frame (moved_frame_unless_lost lost steps h frame)
moved_whole true steps whole = record {
  whole = whole;
  same_end = refl;
  same_area = refl;
  side = refl;
  right = λ was. was refl;
}
moved_whole false steps {h} {frame} whole =
    let s = moved_side steps (side_in h frame) in
    let class = whole_class whole in
    let room = (whole_room whole).0 in
    let shaped = IsShaped-moved steps (shaped-side_in h frame) in
    let fits =
    SideFits-moved_side steps (fits-side_in h frame class) in
    let side : side_in h (frame_with_side h s frame) ≡ s = grind (arith, side_in-frame_with_side) in
    record {
      whole = record {
        header = grind (arith, header_front-four, header-frame_with_side);
        size = length-frame_with_side h frame class shaped room ∙ whole.size;
        all = frame_bytes h s frame whole.all;
      };
      same_end = last_bytes-moved steps h frame class whole.all room;
      same_area = area-frame_with_side h frame class shaped room;
      side = side;
      right = grind (arith, stored_crc-frame_with_side, side);
    }

-- a whole frame is an item by itself
pub whole_item : {h : HeaderFields} {frame : List ℕ} → IsWhole h frame → IsItem (Frame h) frame
whole_item {h} {frame} whole =
    frame_item whole.header whole.size (omega (arith, (whole_room whole).1))
