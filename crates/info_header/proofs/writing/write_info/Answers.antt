-- Header, side information, fields and zeros.
use Rattle.std.proofs.Common.{ap, ap₂, arith, false, length, ◌+◌, ◌-◌, ◌∙◌, ◌≡◌}
use Rattle.bit_fields.specs.Bits.{bytes}
use Rattle.frame_header.specs.{HeaderBits.header_bits, Tables.{area_of, class_of, side_size_of}}
use Rattle.info_header.proofs.FrameLemmas.{fields-fit, frame-is, header_bytes-is, zeros-left}
use Rattle.info_header.proofs.InfoLemmas.{piece-before}
use Rattle.info_header.specs.InfoFrame.{info_header_of, info_slot_of}
use Rattle.info_header.proofs.writing.write_info.Goals as goal

pub overflow_sub-length_of : goal.overflow_sub-length_of
overflow_sub-length_of c =
    let fit =
    fields-fit c.class-class.result c.info_slot-slot.result
    c.info_slot-slot.ensures.room c.length_of.ensures.length c.side_size.ensures.size in
    omega (
      arith,
      fit,
      c.len.ensures.value,
      c.append_info.ensures.length,
      c.append_zeros.ensures.length,
      c.append.ensures.length,
      ap length c.clear.ensures,
    )

pub returns : goal.returns
returns c =
    let first = c.args.first.now in
    let new = c.append_zeros-2.new.into.items in
    let cleared = c.clear.new.self.items in
    let front = c.append.new.into.items in
    let side = c.append_zeros.new.into.items in
    let fields = c.append_info.new.into.items in
    let slot : c.info_slot-slot.result ≡ info_slot_of (class_of first) =
    c.info_slot-slot.ensures.slot ∙ ap info_slot_of c.class-class.ensures in
    let header : c.unprotected.result ≡ info_header_of first =
    c.unprotected.ensures ∙ ap (λ s. record first { protected = false; slot = s }) slot in
    let front_is : c.bytes.result ≡ bytes (header_bits (info_header_of first)) =
    header_bytes-is c.bytes.ensures.back c.bytes.ensures.same
    ∙ ap (λ h. bytes (header_bits h)) header in
    let many : c.len.result ≡ 4 + c.side_size.result + 156 =
    omega (
      arith,
      c.len.ensures.value,
      c.append_info.ensures.length,
      c.append_zeros.ensures.length,
      c.append.ensures.length,
      ap length c.clear.ensures,
    ) in
    let left : c.length_of.result - c.len.result
    ≡ area_of (class_of first) (info_slot_of (class_of first)) false - 156 =
    ap (λ k. c.length_of.result - k) many
    ∙ zeros-left c.class-class.result c.info_slot-slot.result
    c.length_of.ensures.length c.side_size.ensures.size
    ∙ ap₂ (λ k s. area_of k s false - 156) c.class-class.ensures slot in
    frame-is first c.args.info.now c.clear.ensures front_is
    (c.side_size.ensures.size ∙ ap side_size_of c.class-class.ensures) left
    (piece-before cleared _ _ c.append.ensures.bytes
    (piece-before front _ _ c.append_zeros.ensures.bytes
    (piece-before side _ _ c.append_info.ensures.bytes c.append_zeros-2.ensures.bytes)))
