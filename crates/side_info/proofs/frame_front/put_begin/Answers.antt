-- The first bits are replaced.
use Rattle.std.proofs.Common.{ap, drop, inl, inr, sym, ◌++◌, ◌∙◌, ◌≡◌, ◌⊎◌}
use Rattle.bit_fields.specs.Bits.{bits, bits_of}
use Rattle.frame_header.specs.declared.version.Version.{Version, TheVariants.{Two, TwoFive}}
use Rattle.side_info.specs.FrontBytes.{begin_width}
use Rattle.side_info.proofs.frame_front.put_begin.Goals as goal

eight : (v : Version) → (v ≡ Two) ⊎ (v ≡ TwoFive) → 8 ≡ begin_width v
eight v (inl two) = sym (ap begin_width two)
eight v (inr two_five) = sym (ap begin_width two_five)

pub returns-in-Two : goal.returns-in-Two
returns-in-Two c = record {
  bits = c.put_first-in-Two.ensures.bits ∙ ap (λ width. bits_of width c.args.begin
      ++ drop width (bits c.args.part.now)) (eight c.args.version c.in-Two.is);
  octets = c.put_first-in-Two.ensures.octets;
}
