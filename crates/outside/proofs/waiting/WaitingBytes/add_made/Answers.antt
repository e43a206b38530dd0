-- The bytes that were made are after those that wait.
use Rattle.std.proofs.Common.{arith, length, length-take, List, take, ℕ, ◌++◌, ◌+◌, ◌≡◌, ◌≤◌}
use Rattle.std.proofs.Math.Seq.{take-append-add}
use Rattle.std.proofs.lemmas.List.{length-take-le, take-append-le, with_items_is}
use Rattle.outside.proofs.waiting.WaitingBytes.add_made.Goals as goal

-- more bytes than were made may have changed
made_added : (waiting count : ℕ) (room put rest held made : List ℕ) → waiting ≤ length room
    → take waiting room ≡ held → take count put ≡ made → count ≤ length put →
    take (waiting + count) (take waiting room ++ (put ++ rest)) ≡ held ++ made
made_added waiting count room put rest held made within holds is few =
    grind (arith, length-take-le, take-append-add, take-append-le)

pub returns-clause-added : goal.returns-clause-added
returns-clause-added g c = grind (arith, with_items_is, made_added)

pub returns-clause-few : goal.returns-clause-few
returns-clause-few g c = grind (arith, with_items_is, length-take)
