-- The right word is another.
use Rattle.std.proofs.Common.{ap, arith, drop, length-drop, sym, take, ◌+◌, ◌-◌, ◌∙◌, ◌≡◌}
use Rattle.std.proofs.lemmas.{Bool.{eqb-false, not-true}, List.length-take}
use Rattle.bit_fields.specs.Bits.{bits}
use Rattle.frame_header.specs.Tables.{class_of}
use Rattle.salvage.proofs.RawHeaderLemmas.{unusable_word}
use Rattle.side_info.specs.{CheckWord.check_word_of, Side.side_at}
use Rattle.salvage.proofs.raw_header.has_wrong_crc.Goals as goal

pub returns : goal.returns
returns c = λ told.
    let own = c.args.own.now in
    let side = c.raw_side_size-side.result in
    let many : 6 + side - 6 ≡ side = omega arith in
    unusable_word own (λ i. omega (arith, c.type_inv.own i)) c.raw_side_size-side.ensures.size
    (omega (arith, c.if-own-eq1.false))
    (sym c.may_begin_text.ensures ∙ c.if-may_begin_text.false)
    (sym c.may_begin_text-else-may_begin_text.ensures ∙ c.if-may_begin_text-2.false)
    (λ h read same.
    c.check_word_of_bytes.ensures.read h read (omega (
      arith,
      same,
      c.if-size-side.false,
      c.requires.within,
      length-take (6 + side - 6) (drop 6 own),
      length-drop 6 own,
    ))
    ∙ ap (λ n. check_word_of h (side_at (class_of h) (bits (take n (drop 6 own))))) many)
    (λ same. eqb-false _ _ (not-true _ told) (c.stored_crc.ensures ∙ same))
