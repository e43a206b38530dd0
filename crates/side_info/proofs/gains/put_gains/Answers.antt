-- The side information has the other gains, and the check word, where there is one, is right for
-- it.
use Rattle.std.proofs.Common.{ap, arith, drop, false, List, rules, subst, sym, take, true, ℕ, ◌++◌}
use Rattle.std.proofs.{Common.{◌+◌, ◌∙◌, ◌≡◌}, lemmas.List.drop-drop}
use Rattle.bit_fields.proofs.BitsLemmas.{AreBelow-drop, AreBytes-from_places}
use Rattle.bit_fields.specs.Bits.{AreBytes, bits, bits_of, bytes}
use Rattle.frame_header.specs.{Fields.{ClassFields, HeaderFields}, Tables.{class_of, side_size_of}}
use Rattle.side_info.proofs.FrameLemmas.{overhead-protected, overhead-unprotected}
use Rattle.side_info.proofs.GainsLemmas.{gains-protected, gains-unprotected}
use Rattle.side_info.specs.{CheckWord.check_word_of, Frame.{side_in, side_offset, side_part}}
use Rattle.side_info.specs.Side.{HasOtherGains, side_at, side_bits}
use Rattle.side_info.proofs.gains.put_gains.Goals as goal

pub put_at_offset-requires : goal.put_at_offset-requires
put_at_offset-requires c = grind (arith, overhead-protected)

pub put_right_crc-requires : goal.put_right_crc-requires
put_right_crc-requires c = grind (arith, overhead-protected)

pub put_at_offset-requires-else-protected : goal.put_at_offset-requires-else-protected
put_at_offset-requires-else-protected c = grind (arith, overhead-unprotected)

-- the side information of a frame, read at its offset
side_read : (h : HeaderFields) (d : ClassFields) (offset : ℕ) (frame : List ℕ) → d ≡ class_of h
    → side_offset h.protected ≡ offset
    → side_in h frame ≡ side_at d (bits (take (side_size_of d) (drop offset frame)))
unfolding side_in side_part
side_read h d offset frame class at = grind arith

pub returns-then-protected : goal.returns-then-protected
returns-then-protected c = record {
  length = search rules;
  header = search rules;
  behind = grind (arith, overhead-protected, drop-drop);
  gains = λ other. let h = c.args.front.now.header in
      let t = c.args.side.now in
      let old = c.args.frame.now in
      let middle = c.put_at_offset.new.frame in
      let new = c.put_right_crc.new.frame in
      let class = c.requires.class in
      let is : h.protected ≡ true = sym c.protected.ensures ∙ c.if-protected.true in
      let same = side_read h c.args.class 6 old class (ap side_offset is) in
      let side = subst (λ d. bits (take (side_size_of d) (drop 6 middle)) ≡ side_bits d t) class
      (c.put_at_offset.ensures.side (subst (λ s. HasOtherGains s t) same other)) in
      let all : AreBytes (drop 6 middle) =
      subst AreBytes c.put_right_crc.ensures.behind (AreBelow-drop 256 6 new
      (AreBytes-from_places new (λ i. omega (arith, c.type_inv.frame i)))) in
      gains-protected h t old middle is all c.put_at_offset.ensures.before
      (subst (λ d. drop (6 + side_size_of d) middle ≡ drop (6 + side_size_of d) old) class
      c.put_at_offset.ensures.behind)
      side (subst
      (λ k. bits (take (side_size_of (class_of k)) (drop 6 middle)) ≡ side_bits (class_of k) t
      → new ≡ take 4 middle ++ (bytes (bits_of 16 (check_word_of k t)) ++ drop 6 middle))
      c.header.ensures (c.put_right_crc.ensures.word t) side);
}

pub returns-else-protected : goal.returns-else-protected
returns-else-protected c = record {
  length = search rules;
  header = search rules;
  behind = grind (arith, overhead-unprotected);
  gains = λ other. let h = c.args.front.now.header in
      let t = c.args.side.now in
      let old = c.args.frame.now in
      let new = c.put_at_offset-else-protected.new.frame in
      let class = c.requires.class in
      let is : h.protected ≡ false = sym c.protected.ensures ∙ c.if-protected.false in
      let same = side_read h c.args.class 4 old class (ap side_offset is) in
      let all : AreBytes new = AreBytes-from_places new (λ i. omega (arith, c.type_inv.frame i)) in
      gains-unprotected h t old is all c.put_at_offset-else-protected.ensures.before
      (subst (λ d. drop (4 + side_size_of d) new ≡ drop (4 + side_size_of d) old) class
      c.put_at_offset-else-protected.ensures.behind)
      (subst (λ d. bits (take (side_size_of d) (drop 4 new)) ≡ side_bits d t) class
      (c.put_at_offset-else-protected.ensures.side (subst (λ s. HasOtherGains s t) same other)));
}
