-- The Info frame: its bytes are an item, its text is after
-- its side information, and the length of its area is known.
use Rattle.std.proofs.Common.{ap, append_assoc, arith, Bool, cond, drop, false, get_or, IfSome}
use Rattle.std.proofs.Common.{length, length-append, List, Option, refl, replicate, Some, suc, sym}
use Rattle.std.proofs.Common.{true, ℕ, [], ◌++◌, ◌+◌, ◌-◌, ◌<◌, ◌∙◌, ◌∷◌, ◌≡◌}
use Rattle.std.proofs.lemmas.List.{drop-drop, drop_at, length-replicate}
use Rattle.std.specs.Int.{bytes_high_first}
use Rattle.bit_fields.specs.Bits.{bytes}
use Rattle.frame_header.proofs.HeaderLemmas.{IsClass-class_of}
use Rattle.frame_header.proofs.SlotLemmas.{area-is, IsSlot-nth_slot, length-all_slots}
use Rattle.frame_header.specs.Fields.{ClassFields, HeaderFields, IsClass, IsHeader, IsSlot}
use Rattle.frame_header.specs.{Fields.SlotFields, HeaderBits.header_bits}
use Rattle.frame_header.specs.Slots.{all_slots, slot_of}
use Rattle.frame_header.specs.Tables.{area_of, class_of, length_of, overhead_of, side_size_of}
use Rattle.info_header.proofs.FrameLemmas.{info_slot-room}
use Rattle.info_header.specs.HeadText.{has_text, head_text_of, low_offset}
use Rattle.info_header.specs.Info.{info_bytes, table_or_zeros, vbr_text}
use Rattle.info_header.specs.InfoFrame.{first_with_room, info_frame, info_header_of, info_slot_of}
use Rattle.info_header.specs.declared.fields.Info.{Info}
use Rattle.laying.proofs.EntryByteLemmas.{header_front-is, length-header}
use Rattle.laying.specs.LaidFiles.{HasInfoSizes}
use Rattle.sync_survey.proofs.ItemBytesLemmas.{frame-least, frame_item, IsItem}
use Rattle.sync_survey.specs.Items.{header_front}
use Rattle.sync_survey.specs.declared.items.Item.TheVariants.{Frame as FrameItem}

-- ---- its fields

length-text : (vbr : Bool) → length (vbr_text vbr) ≡ 4
length-text vbr = grind arith

length-table : (table : Option (List ℕ)) → IfSome table (λ t. length t ≡ 100)
    → length (table_or_zeros table) ≡ 100
length-table table sizes = grind arith

length-number : (n : ℕ) → length (bytes_high_first 4 n) ≡ 4
length-number n = refl

-- the fields of an Info frame have 156 bytes
pub length-info : {info : Info} → HasInfoSizes info → length (info_bytes info) ≡ 156
unfolding info_bytes
length-info sizes = grind (arith, length-text, length-table, length-append, length-number)

-- ---- its slot

slot_if : (b : Bool) (slot other : SlotFields) → IsSlot slot → IsSlot other
    → IsSlot (cond b slot other)
slot_if b slot other is behind = grind arith

slot_in : (c : ClassFields) (d : SlotFields) (slots : List SlotFields)
    → ((i : ℕ) → i < length slots → IsSlot (get_or slots i d)) → IsSlot (first_with_room c slots)
unfolding first_with_room
slot_in c d [] each = (omega arith, omega arith)
slot_in c d (slot ∷ slots) each = slot_if _ slot (first_with_room c slots) (each 0 (omega arith))
    (slot_in c d slots (λ i within. each (suc i) (omega (arith, within))))

-- the smallest slot with room is a slot
info_slot-is : (c : ClassFields) → IsSlot (info_slot_of c)
unfolding info_slot_of
info_slot-is c = slot_in c (slot_of 1 false) all_slots
    (λ i within. IsSlot-nth_slot (omega (arith, within, length-all_slots)))

-- ---- its text

text_found : (at : ℕ) (vbr : Bool) (frame behind : List ℕ) → drop at frame ≡ vbr_text vbr ++ behind
    → has_text at frame ≡ true
unfolding has_text
text_found at vbr frame behind is = grind arith

head_text-low : (h : HeaderFields) (frame : List ℕ) → has_text (low_offset h) frame ≡ true
    → head_text_of h frame ≡ Some (low_offset h)
unfolding head_text_of
head_text-low h frame is = rw is refl

-- ---- its bytes

module _ {first : HeaderFields} {info : Info} (header : IsHeader first)
    (sizes : HasInfoSizes info) where
  abbrev c : ClassFields
  c = class_of first

  abbrev h : HeaderFields
  h = info_header_of first

  abbrev four : List ℕ
  four = bytes (header_bits h)

  abbrev side : List ℕ
  side = replicate (side_size_of c) 0

  abbrev fields : List ℕ
  fields = info_bytes info ++ replicate (area_of c (info_slot_of c) false - 156) 0

  -- its header is one of the standard
  pub info_header : IsHeader h
  info_header = grind (arith, info_slot-is)

  class : IsClass c
  class = IsClass-class_of header

  frame-parts : info_frame first info ≡ four ++ (side ++ fields)
  unfolding info_frame
  frame-parts = refl

  over : overhead_of c false ≡ 4 + side_size_of c
  unfolding overhead_of
  over = refl

  long_fields : length fields ≡ area_of c (info_slot_of c) false
  long_fields = grind (arith, info_slot-room, class, length-info, length-append, length-replicate)

  -- it is as long as its header says
  pub length-info_frame : length (info_frame first info) ≡ length_of (class_of h) h.slot
  length-info_frame =
      omega (
        arith,
        ap length frame-parts,
        length-append four (side ++ fields),
        length-append side fields,
        length-header h,
        length-replicate {A = ℕ} (side_size_of c) 0,
        long_fields,
        over,
        (area-is c (info_slot_of c) false class (info_slot-is c)).0,
      )

  -- it is an item
  pub info_item : IsItem (FrameItem h) (info_frame first info)
  info_item =
      frame_item (ap header_front frame-parts
      ∙ header_front-is (side ++ fields) info_header) length-info_frame
      (omega (arith, length-info_frame, frame-least info_header))

  behind_side : drop (4 + side_size_of c) (info_frame first info) ≡ fields
  behind_side =
      ap (drop (4 + side_size_of c)) frame-parts
      ∙ sym (drop-drop (side_size_of c) 4 (four ++ (side ++ fields)))
      ∙ ap (drop (side_size_of c)) (drop_at four (side ++ fields) 4 (length-header h))
      ∙ drop_at side fields (side_size_of c) (length-replicate (side_size_of c) 0)

  text_behind : (behind : List ℕ) × (fields ≡ vbr_text info.vbr ++ behind)
  unfolding info_bytes
  text_behind =
      (_, append_assoc (vbr_text info.vbr) _ (replicate (area_of c (info_slot_of c) false - 156) 0))

  low-is : low_offset h ≡ 4 + side_size_of c
  unfolding low_offset
  low-is = refl

  -- its text is right after the side information
  pub info_text : head_text_of h (info_frame first info) ≡ Some (low_offset h)
  info_text =
      head_text-low h (info_frame first info)
      (text_found (low_offset h) info.vbr (info_frame first info)
      text_behind.0 (ap (λ n. drop n (info_frame first info)) low-is ∙ behind_side ∙ text_behind.1))

  -- its area is as long as its slot says
  pub length-info_area : length (drop (overhead_of c false) (info_frame first info))
      ≡ area_of c (info_slot_of c) false
  length-info_area = grind (arith, over, behind_side, long_fields)
