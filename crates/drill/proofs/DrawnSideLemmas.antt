-- The side information that was drawn: each field is within its bits, and there is room for the
-- main data.
use Rattle.std.proofs.Common.{arith, List, lit<, map, refl, ℕ, [], ◌%◌, ◌*◌, ◌+◌, ◌<◌, ◌∷◌, ◌≡◌}
use Rattle.std.proofs.{Common.◌≤◌, lemmas.Nat.mod_below}
use Rattle.drill.specs.Draws.{draws, state_after}
use Rattle.drill.specs.Drill.{drawn_side, drill_header, drill_room, granule_with, side_with}
use Rattle.frame_header.specs.{Tables.class_of, declared.version.Version.TheVariants.One}
use Rattle.laying.specs.LaidFiles.{HasPairs}
use Rattle.side_info.{proofs.SideLemmas.SideFits-from_parts, specs.Granule.GranuleFits}
use Rattle.side_info.specs.{Side.{payload_bits, SideFits}, declared.side.Side.Side}

-- four draws and four more are eight draws
pub behind-twice : (state : ℕ) → state_after 4 (state_after 4 state) ≡ state_after 8 state
unfolding state_after
behind-twice state = refl

-- ---- with any draws

granule-fits : {bit_count gain : ℕ} → bit_count < 4096 → gain < 256
    → GranuleFits One (granule_with bit_count gain)
granule-fits few low = grind (arith, lit<)

length-few : {begin : ℕ} (draw : ℕ) → begin ≤ 511 → draw % (2 * drill_room begin + 1) < 4096
length-few draw few = grind (arith, mod_below)

gain-few : (draw : ℕ) → 100 + draw % 100 < 256
gain-few draw = omega (arith, mod_below draw 100 (lit< tt))

length-most : (begin draw : ℕ) → draw % (2 * drill_room begin + 1) ≤ 2 * drill_room begin
length-most begin draw = omega (arith, mod_below draw (2 * drill_room begin + 1) (omega arith))

-- the side information with these draws
abbrev side_by : ℕ → List ℕ → List ℕ → Side
side_by begin ds es = side_with begin (map (λ draw. draw % (2 * drill_room begin + 1)) ds)
    (map (λ draw. 100 + draw % 100) es)

module _ (begin a b c d e f g h : ℕ) where
  by-fits : begin ≤ 511
      → SideFits (class_of drill_header) (side_by begin (a ∷ b ∷ c ∷ d ∷ []) (e ∷ f ∷ g ∷ h ∷ []))
  by-fits few = search (arith, SideFits-from_parts, lit<, granule-fits, length-few, gain-few)

  by-room : payload_bits (side_by begin (a ∷ b ∷ c ∷ d ∷ []) (e ∷ f ∷ g ∷ h ∷ []))
      ≤ 8 * drill_room begin
  unfolding payload_bits
  by-room = grind (arith, length-most)

  by-pairs : HasPairs (side_by begin (a ∷ b ∷ c ∷ d ∷ []) (e ∷ f ∷ g ∷ h ∷ []))
  by-pairs = record { scfsi = refl; granules = refl; first = refl; second = refl }

-- ---- with draws of the generator

-- the drawn side information has pairs of granules and channels
pub drawn_side-pairs : (begin state : ℕ) → HasPairs (drawn_side begin state)
unfolding drawn_side draws
drawn_side-pairs begin state = by-pairs begin _ _ _ _ _ _ _ _

-- the fields of the drawn side information are within their bits
pub drawn_side-fits : {begin : ℕ} (state : ℕ) → begin ≤ 511
    → SideFits (class_of drill_header) (drawn_side begin state)
unfolding drawn_side draws
drawn_side-fits {begin} state few = by-fits begin _ _ _ _ _ _ _ _ few

-- there is room for the main data
pub drawn_side-room : (begin state : ℕ)
    → payload_bits (drawn_side begin state) ≤ 8 * drill_room begin
unfolding drawn_side draws
drawn_side-room begin state = by-room begin _ _ _ _ _ _ _ _

-- main_data_begin is the one that was given
pub drawn_side-begin : (begin state : ℕ) → (drawn_side begin state).main_data_begin ≡ begin
unfolding drawn_side
drawn_side-begin begin state = refl

-- the code's draws, in two arrays of four, make the drawn side information
pub side-drawn : (begin state : ℕ) {ls gs : List ℕ} → ls ≡ draws 4 state
    → gs ≡ draws 4 (state_after 4 state) → side_by begin ls gs ≡ drawn_side begin state
unfolding drawn_side
side-drawn begin state is are = λ i. side_by begin (is i) (are i)
