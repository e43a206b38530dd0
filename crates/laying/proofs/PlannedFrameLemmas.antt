-- Frames in the slots and with the main_data_begin of
-- their plan can be laid, and are otherwise unchanged.
use Rattle.std.proofs.Common.{ap, arith, Bool, cond, Contains, drop, false, length, List, map, refl}
use Rattle.std.proofs.Common.{slice_index, subst, sym, ℕ, [], ◌*◌, ◌+◌, ◌-◌, ◌/◌, ◌<◌, ◌^◌, ◌∙◌}
use Rattle.std.proofs.{Common.{◌∷◌, ◌≡◌, ◌≤◌}, lemmas.List.get_or_default}
use Rattle.bit_fields.specs.Bits.{bits}
use Rattle.frame_header.proofs.SlotLemmas.{IsSlot-nth_slot, length-all_slots}
use Rattle.frame_header.specs.Fields.{ClassFields, HeaderFields, IsHeader, IsSlot, SlotFields}
use Rattle.frame_header.specs.{Slots.{all_slots, slot_of}, Tables.window_of}
use Rattle.frame_header.specs.declared.version.Version.{Version}
use Rattle.frame_writer.specs.Frames.{all_frame_data, Frame, frame_area}
use Rattle.frame_writer.specs.Laid.{CanDataBeLaidFrom, zeros}
use Rattle.laying.specs.LaidFiles.{AreStreamEntries, IsStreamEntry, stream_entry}
use Rattle.laying.specs.Relaid.{frame_with_place, lead_in_with_place, relaid_frames, rest_behind}
use Rattle.laying.specs.Relaid.{silent_lead_in, stream_with_lead_ins}
use Rattle.side_info.proofs.SideLemmas.{SideFits-no_side}
use Rattle.side_info.specs.Side.{front_widths_of, granules_in, no_side, payload_bits, payload_bytes}
use Rattle.side_info.specs.{Side.SideFits, declared.side.Side.Side}
use Rattle.slot_plan.specs.declared.needs.{Need.Need, Placed.Placed}
use Rattle.sync_survey.proofs.EmptiedLemmas.{no_bits, no_bytes}
use Rattle.sync_survey.specs.MainData.{granule_lengths, StreamFrame}

-- ---- one frame of a plan

abbrev pub one : Bool → Placed → Frame → Frame
one lead_in p f = cond lead_in (lead_in_with_place p f) (frame_with_place p f)

abbrev pub one_in_stream : Bool → StreamFrame → StreamFrame
one_in_stream lead_in f = cond lead_in (silent_lead_in f) f

-- the first place has the first frame or a lead-in, and the others have the frames that are left
pub relaid_frames-cons : (p : Placed) (placed : List Placed) (f : Frame) (fs : List Frame)
    → relaid_frames (f ∷ fs) (p ∷ placed)
    ≡ one p.lead_in p f ∷ relaid_frames (rest_behind p.lead_in f fs) placed
unfolding relaid_frames
relaid_frames-cons p placed f fs = refl

-- the same in the stream
pub stream-cons : (p : Placed) (placed : List Placed) (f : StreamFrame) (fs : List StreamFrame)
    → stream_with_lead_ins (p ∷ placed) (f ∷ fs)
    ≡ one_in_stream p.lead_in f ∷ stream_with_lead_ins placed (rest_behind p.lead_in f fs)
unfolding stream_with_lead_ins
stream-cons p placed f fs = refl

-- ---- it is of the class

window_below : (v : Version) (channels : ℕ)
    → window_of v < 2 ^ slice_index (front_widths_of v channels) 0
window_below v channels = grind arith

-- side information with another main_data_begin within the window still fits
pub begun_fits : {c : ClassFields} {s : Side} {begin : ℕ} → SideFits c s
    → begin ≤ window_of c.version → SideFits c (record s { main_data_begin = begin })
begun_fits fits within = grind (arith, window_below)

bits_begun : (s : Side) (begin : ℕ)
    → payload_bits (record s { main_data_begin = begin }) ≡ payload_bits s
unfolding payload_bits
bits_begun s begin = refl

bytes_begun : (s : Side) (begin : ℕ)
    → payload_bytes (record s { main_data_begin = begin }) ≡ payload_bytes s
unfolding payload_bytes
bytes_begun s begin = ap (λ n. (n + 7) / 8) (bits_begun s begin)

nothing_filled : {n m : ℕ} → n ≡ 0 → m ≡ 0 → drop n (bits []) ≡ zeros (8 * m - n)
unfolding bits
nothing_filled none few = grind arith

module _ {c : ClassFields} (p : Placed) {f : Frame} (slot : IsSlot p.slot)
    (near : p.begin ≤ window_of c.version) (is : IsStreamEntry c f) where
  header-there : (guarded : Bool)
      → IsHeader (record f.kept.header { protected = guarded; slot = p.slot })
  header-there guarded = grind arith

  lead_in-entry : IsStreamEntry c (lead_in_with_place p f)
  lead_in-entry =
      let none = bits_begun no_side p.begin ∙ no_bits in
      let few = bytes_begun no_side p.begin ∙ no_bytes in
      record {
        header = header-there false;
        class = is.class;
        pairs = record { scfsi = refl; granules = refl; first = refl; second = refl };
        fits = begun_fits (SideFits-no_side c) near;
        octets = tt;
        size = sym few;
        filled = nothing_filled none few;
      }

  moved-entry : IsStreamEntry c (frame_with_place p f)
  moved-entry = grind (arith, header-there, begun_fits, bytes_begun, bits_begun)

  -- the frame at the place can be laid
  pub one-entry : (b : Bool) → IsStreamEntry c (one b p f)
  one-entry b = grind (arith, lead_in-entry, moved-entry)

-- ---- it is unchanged in a stream

lengths_begun : (h : HeaderFields) (s : Side) (begin : ℕ)
    → granule_lengths h (record s { main_data_begin = begin }) ≡ granule_lengths h s
unfolding granules_in
lengths_begun h s begin = refl

-- in the stream, the frame at a place is the frame or an empty one
pub one-stream : (b : Bool) (p : Placed) (f : Frame)
    → stream_entry (one b p f) ≡ one_in_stream b (stream_entry f)
unfolding bits payload_bits
one-stream b p f = grind (arith, lengths_begun, bits_begun)

-- mapping what is left after a place is what is left of the mapped items
pub next-map : {X Y : Type 0} (g : X → Y) (b : Bool) (x : X) (xs : List X)
    → map g (rest_behind b x xs) ≡ rest_behind b (g x) (map g xs)
next-map g b x xs = grind arith

-- what is left after a place can still be laid
pub next-entries : {c : ClassFields} (b : Bool) {f : Frame} (fs : List Frame) → IsStreamEntry c f
    → AreStreamEntries c fs → AreStreamEntries c (rest_behind b f fs)
next-entries b fs is are = grind arith

-- ---- all of them

-- these frames can be laid from here on, and are otherwise unchanged
pub record AreLaidFrom (c : ClassFields) (end before : ℕ) (fs : List Frame)
    (stream : List StreamFrame) : Type 0 where
  pub entries : AreStreamEntries c fs
  pub fit : CanDataBeLaidFrom end before (all_frame_data fs)
  pub stream_is : map stream_entry fs ≡ stream

-- no frames are laid in no bytes
pub none_laid : (c : ClassFields) (end before : ℕ) (placed : List Placed)
    → AreLaidFrom c end before (relaid_frames [] placed) (stream_with_lead_ins placed [])
unfolding relaid_frames stream_with_lead_ins
none_laid c end before placed = record { entries = tt; fit = tt; stream_is = refl }

-- one more frame before others that are laid is laid
pub laid_more : {c : ClassFields} {end before bytes area : ℕ} {g : Frame} {gs : List Frame}
    {q : StreamFrame} {qs : List StreamFrame} → IsStreamEntry c g → stream_entry g ≡ q
    → length g.payload
    ≡ bytes → frame_area g.kept ≡ area → end + g.kept.side.main_data_begin ≤ before
    → before - g.kept.side.main_data_begin + bytes ≤ before + area
    → AreLaidFrom c (before - g.kept.side.main_data_begin + bytes) (before + area) gs qs
    → AreLaidFrom c end before (g ∷ gs) (q ∷ qs)
laid_more is same long wide starts ends behind = grind arith

-- ---- the frames that the plan was made for

-- the needs of these frames, as a plan is given them
abbrev pub AreNeedsOf : List Need → List Frame → Type 0
AreNeedsOf [] [] = Unit {0}
AreNeedsOf (need ∷ needs) (f ∷ fs) =
    (need.header ≡ f.kept.header) × (need.bytes ≡ length f.payload) × AreNeedsOf needs fs
AreNeedsOf _ _ = ⊥

-- each of the 28 is a slot
pub slot_among : {slot : SlotFields} → Contains all_slots slot → IsSlot slot
slot_among {slot} has =
    let within : has.0 < 28 = omega (arith, has.1, length-all_slots) in
    subst IsSlot (get_or_default all_slots has.0 (slot_of 1 false) slot has.1 ∙ has.2)
    (IsSlot-nth_slot within)
