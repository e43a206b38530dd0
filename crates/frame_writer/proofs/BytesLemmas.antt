-- Laws of the queue.
use Rattle.std.proofs.Common.{arith, drop, length, length-drop, List, take, ℕ, ◌++◌, ◌+◌, ◌-◌, ◌≡◌}
use Rattle.std.proofs.{Common.◌≤◌, Math.Seq.{take-append-add, take-append_seam}}
use Rattle.std.proofs.lemmas.List.{drop-append-le, drop-drop, drop-take, length-take-le}

-- bytes put after the bytes of a queue
pub put-behind : {from to l : ℕ} (room rest : List ℕ) {part bytes held : List ℕ} → from ≤ to
    → to ≤ length room → take (to - from) (drop from room) ≡ held → part ≡ bytes → length bytes ≡ l
    → take (to + l - from) (drop from (take to room ++ (part ++ rest))) ≡ held ++ bytes
put-behind {from} {to} room rest
    {part} {bytes} {held} order within holds is long =
    grind (
      arith,
      length-take-le (to - from) (drop from room) (omega (
        arith,
        within,
        length-drop
            from room,
      )),
      length-drop from room,
      drop-append-le from (take to room) (part ++ rest) (omega
          (arith, length-take-le to room within)),
      length-take-le to room within,
      drop-take from (to -
          from) room,
      take-append-add held (bytes ++ rest) (length bytes),
      take-append_seam bytes rest,
    )

-- bytes without the first that are dropped
pub dropped : (from : ℕ) {to : ℕ} (count : ℕ) (room : List ℕ) {held : List ℕ}
    → take (to - from) (drop from room) ≡ held → from + count ≤ to
    → take (to - (from + count)) (drop (from + count) room) ≡ drop count held
dropped from {to} count room is within =
    grind (arith, drop-drop count from room, drop-take count (to - (from + count)) (drop from room))
