-- Needs behind others in one list: those before them, and those that are lent.
use Rattle.std.proofs.Common.{arith, drop, length, length-append, List, take, ℕ, ◌++◌, ◌-◌, ◌≡◌}
use Rattle.std.proofs.lemmas.List.{drop_at, take_all, take_at}
use Rattle.slot_plan.specs.declared.needs.Need.{Need}

-- the needs up to where the new ones begin
pub front-needs : {old all : List Need} (new : List Need) {from : ℕ} → from ≡ length old
    → all ≡ old ++ new → take from all ≡ old
front-needs new begins is = grind (arith, begins, take_at)

-- the needs from where the new ones begin
pub back-needs : (old : List Need) {all new : List Need} {from : ℕ} → from ≡ length old
    → all ≡ old ++ new → drop from all ≡ new
back-needs old begins is = grind (arith, begins, drop_at)

-- what is borrowed from there on are the new ones
pub borrowed-needs : (old : List Need) {all new part : List Need} {from : ℕ} → from ≡ length old
    → all ≡ old ++ new → part ≡ all → take (length part - from) (drop from part) ≡ new
borrowed-needs old begins is here = grind (arith, back-needs, begins, length-append, take_all)
