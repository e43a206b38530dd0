-- Byte by byte.
use Rattle.std.proofs.{Common.{ap, arith, length, take, ◌<◌, ◌==◌, ◌∙◌}, lemmas.List.take_more}
use Rattle.std.specs.List.{list_all}
use Rattle.bit_fields.proofs.BitsLemmas.{AreBytes-from_slice, bits-nil, places_below}
use Rattle.bit_fields.specs.Bits.{bits}
use Rattle.seamless_edits.proofs.KnownLemmas.{zeros-next, zeros-not}
use Rattle.seamless_edits.proofs.beginnings.are_zeros.Goals as goal

pub loop-byte-init : goal.loop-byte-init
loop-byte-init c = ap (list_all (λ bit. bit == 0)) bits-nil

pub returns-then-byte-ne0 : goal.returns-then-byte-ne0
returns-then-byte-ne0 c = grind (arith, zeros-not, places_below, AreBytes-from_slice)

pub loop-byte-preserved : goal.loop-byte-preserved
loop-byte-preserved c =
    let i = c.loop-byte.byte-index in
    let bytes = c.args.bytes.now in
    let within : i < length bytes = omega (arith, c.loop-byte-test.true) in
    ap (λ l. list_all (λ bit. bit == 0) (bits l)) (take_more bytes i 0 within)
    ∙ zeros-next (take i bytes) c.loop-byte.invariant c.if-byte-ne0.false
