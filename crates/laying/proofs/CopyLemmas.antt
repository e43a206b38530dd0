-- Blocks copied in order.
use Rattle.std.proofs.Common.{append-nil, arith, Bool, cond, drop, false, length, List, map, refl}
use Rattle.std.proofs.Common.{slice_index_or, suc, zero, ℕ, [], ◌++◌, ◌+◌, ◌<◌, ◌∷◌, ◌≡◌, ◌≤◌}
use Rattle.std.specs.List.{concat}
use Rattle.laying.specs.{Copying.{chosen_bytes, is_chosen_block}, LaidFiles.block_bytes}
use Rattle.laying.specs.Written.{goes_in_front}
use Rattle.sync_survey.specs.{Faults.SurveyFields, Survey.BlocksAreLaid}
use Rattle.sync_survey.specs.declared.places.Piece.{Piece}
use mathlib.Core.Bool.{beq}

-- ---- chosen blocks

chosen-by : (b : Bool) (file : List ℕ) (p : Piece) (ps : List Piece)
    → concat (map (block_bytes file) (cond b (p ∷ ps) ps))
    ≡ concat (map (block_bytes file) (cond b (p ∷ []) [])) ++ concat (map (block_bytes file) ps)
chosen-by b file p ps = grind (arith, append-nil)

-- the bytes of chosen blocks are the bytes of the first, then of the others
pub chosen-next : (in_front : Bool) (s : SurveyFields) (p : Piece) (ps : List Piece) (file : List ℕ)
    → chosen_bytes in_front s (p ∷ ps) file
    ≡ chosen_bytes in_front s (p ∷ []) file ++ chosen_bytes in_front s ps file
chosen-next in_front s p ps file = grind (arith, chosen-by)

-- the blocks from a place on are the one there and those after it
pub block-at : (ps : List Piece) (i : ℕ) (none : Piece) → i < length ps
    → drop i ps ≡ slice_index_or ps i none ∷ drop (i + 1) ps
block-at [] i none within = absurd (omega (arith, within))
block-at (p ∷ ps) zero none within = refl
block-at (p ∷ ps) (suc i) none within = grind (arith, block-at ps i none (omega (arith, within)))

none-by : {b : Bool} (file : List ℕ) (p : Piece) → b ≡ false
    → concat (map (block_bytes file) (cond b (p ∷ []) [])) ≡ []
none-by file p is = grind arith

not-chosen : (in_front : Bool) (s : SurveyFields) (p : Piece)
    → beq (goes_in_front s p) in_front ≡ false → is_chosen_block in_front s p ≡ false
not-chosen in_front s p other = grind arith

-- a block that isn't chosen adds nothing
pub chosen-none : (in_front : Bool) (s : SurveyFields) (p : Piece) (file : List ℕ)
    → beq (goes_in_front s p) in_front ≡ false → chosen_bytes in_front s (p ∷ []) file ≡ []
chosen-none in_front s p file other = grind (arith, none-by, not-chosen)

-- consecutive blocks end no earlier than they begin
pub block-behind : (from : ℕ) {to : ℕ} (ps : List Piece) → BlocksAreLaid from ps to → from ≤ to
block-behind from [] laid = laid
block-behind from {to} (p ∷ ps) laid =
    omega (arith, laid.0, block-behind (p.offset + p.block.length) ps laid.1)

-- each of consecutive blocks ends no later than the last
pub block-within : (from : ℕ) {to : ℕ} (ps : List Piece) (i : ℕ) {p : Piece} {more : List Piece}
    → drop i ps ≡ p ∷ more → BlocksAreLaid from ps to → p.offset + p.block.length ≤ to
block-within from [] zero is laid = absurd cc
block-within from [] (suc i) is laid = absurd cc
block-within from (q ∷ ps) zero is laid = grind (arith, block-behind)
block-within from {to} (q ∷ ps) (suc i) {p} {more} is laid =
    block-within (q.offset + q.block.length) ps i is laid.1
