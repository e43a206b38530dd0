-- Two bytes are written, and the others stay.
use Rattle.std.proofs.Common.{append_assoc, arith, drop, length, List, take, take-append-drop, ℕ}
use Rattle.std.proofs.{Common.{◌++◌, ◌≡◌, ◌≤◌}, lemmas.List.{drop-append-le, length-take-le}}
use Rattle.bit_fields.proofs.BitsLemmas.{AreBytes-from_places, bits-append, length-bits}
use Rattle.bit_fields.specs.Bits.{bits}
use Rattle.side_info.proofs.frame_front.put_first.Goals as goal

-- the bits after the first `width` of two bytes, and the bits of all other bytes
left : (width : ℕ) (old : List ℕ) → width ≤ 16 → 2 ≤ length old
    → drop width (bits (take 2 old)) ++ bits (drop 2 old) ≡ drop width (bits old)
left width old few room =
    grind (
      arith,
      drop-append-le width (bits (take 2 old)) (bits (drop 2 old)) (omega (
        arith,
        few,
        length-bits (take 2 old),
        length-take-le 2 old room,
      )),
      length-bits (take 2 old),
      length-take-le
          2 old room,
      bits-append (take 2 old) (drop 2 old),
      take-append-drop 2 old,
    )

pub returns-clause-bits : goal.returns-clause-bits
returns-clause-bits c = grind (arith, bits-append, append_assoc, left)

pub returns-clause-octets : goal.returns-clause-octets
returns-clause-octets c = grind (arith, AreBytes-from_places)
