-- What the Info frame keeps of the heads.
use Rattle.std.proofs.Common.{arith, get_or, length, List, None, Option, option_map, refl, Some}
use Rattle.std.proofs.Common.{suc, zero, ℕ, [], ◌+◌, ◌<◌, ◌∷◌, ◌≡◌}
use Rattle.exact_span.specs.PlayedPositions.{counted_positions, played_of, rest_of}
use Rattle.exact_span.specs.declared.played.Played.{Played}
use Rattle.frame_header.specs.Fields.{ClassFields}
use Rattle.info_header.specs.declared.fields.Info.{Info}
use Rattle.seamless_edits.specs.Numbers.{first_head, last_head}
use Rattle.seamless_edits.specs.declared.beginnings.Beginning.{Beginning}

-- a head that counts says what is after the last played position
pub rest-counted : (head : Option Info) (class : ClassFields) (frames : ℕ) {p : Played}
    → Some p ≡ counted_positions head class frames
    → rest_of class frames (played_of head class frames) ≡ rest_of class frames p
unfolding counted_positions played_of
rest-counted head class frames is = grind (arith, option_map)

-- if the head doesn't count, nothing is after the last played position
pub rest-none : (head : Option Info) (class : ClassFields) (frames : ℕ) → None
    ≡ counted_positions head class frames → rest_of class frames (played_of head class frames) ≡ 0
unfolding counted_positions played_of
rest-none head class frames is = grind (arith, option_map)

-- ---- the first and the last head

-- the head of the first beginning is the head of the first input
pub first-head : (bs : List Beginning) (d : Beginning) → 0 < length bs
    → (get_or bs 0 d).head ≡ first_head bs
first-head bs d some = grind arith

-- the head of the last beginning is the head of the last input
pub last-head : (bs : List Beginning) (n : ℕ) (d : Beginning) → n + 1 ≡ length bs
    → (get_or bs n d).head ≡ last_head bs
last-head [] n d some = absurd (omega (arith, some))
last-head (b ∷ []) zero d some = refl
last-head (b ∷ []) (suc n) d some = absurd (omega (arith, some))
last-head (b ∷ c ∷ bs) zero d some = absurd (omega (arith, some))
last-head (b ∷ c ∷ bs) (suc n) d some = last-head (c ∷ bs) n d (omega (arith, some))
