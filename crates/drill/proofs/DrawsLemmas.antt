-- Draws, in order, and the main data that are made from them.
use Rattle.std.proofs.Common.{ap, append_assoc, arith, drop, get_or, length, List, map, refl, set}
use Rattle.std.proofs.Common.{suc, sym, zero, zero-add, ℕ, [], ◌%◌, ◌++◌, ◌+◌, ◌/◌, ◌<◌, ◌∙◌, ◌∷◌}
use Rattle.std.proofs.{Common.◌≡◌, lemmas.List.{drop_more, length-map, map-append, set_at}}
use Rattle.bit_fields.{proofs.BitsLemmas.bytes-bits, specs.Bits.AreBytes}
use Rattle.drill.specs.Draws.{drawn_number, draws, next_state, state_after}
use Rattle.drill.specs.Drill.{drawn_bytes, first_bits}
use Rattle.reservoir.specs.Window.{AreBitsPacked, main_bits}

-- ---- one more draw

-- after no draws the state is the same
pub behind-none : (state : ℕ) → state_after 0 state ≡ state
unfolding state_after
behind-none state = refl

-- after one more draw it is the next state
pub behind-more : (count state : ℕ)
    → state_after (suc count) state ≡ next_state (state_after count state)
unfolding state_after
behind-more zero state = refl
behind-more (suc count) state = behind-more count (next_state state)

-- some draws and then more lead to the same state as all of them together
pub behind-sum : (first second state : ℕ)
    → state_after second (state_after first state) ≡ state_after (first + second) state
unfolding state_after
behind-sum zero second state = ap (λ n. state_after n state) (sym (zero-add second))
behind-sum (suc first) second state =
    behind-sum first second (next_state state) ∙ ap (λ n. state_after n state)
    (let e : suc (first + second) ≡ suc first + second = omega arith in e)

-- there are as many draws as were asked for
pub length-draws : (count state : ℕ) → length (draws count state) ≡ count
unfolding draws
length-draws zero state = refl
length-draws (suc count) state = ap suc (length-draws count (next_state state))

draws-more : (count state : ℕ) → draws (suc count) state
    ≡ draws count state ++ drawn_number (next_state (state_after count state)) ∷ []
unfolding draws state_after
draws-more zero state = refl
draws-more (suc count) state = grind (arith, draws-more count (next_state state))

-- there are as many bytes as were asked for
pub length-drawn : (count state : ℕ) → length (drawn_bytes count state) ≡ count
length-drawn count state = grind (arith, length-map, length-draws)

-- ---- bytes written in order

-- before the first byte none was drawn
pub no-byte : (state : ℕ) (octets : List ℕ) → octets ≡ drawn_bytes 0 state ++ octets
unfolding draws
no-byte state octets = refl

-- the byte at i is drawn from the next state
pub byte-more : (octets : List ℕ) {now : List ℕ} {i : ℕ} (state : ℕ) → i < length octets
    → now ≡ drawn_bytes i state ++ drop i octets
    → set now i (drawn_number (next_state (state_after i state)) % 64)
    ≡ drawn_bytes (i + 1) state ++ drop (i + 1) octets
byte-more octets {i = i} state within is =
    let this = drawn_number (next_state (state_after i state)) % 64 in
    let one : i + 1 ≡ suc i = omega arith in
    ap (λ (xs : List ℕ). set xs i this)
    (is ∙ ap (λ (xs : List ℕ). drawn_bytes i state ++ xs) (drop_more octets i 0 within))
    ∙ set_at (drawn_bytes i state) (get_or octets i 0) (drop (i + 1) octets) this i
    (length-drawn i state)
    ∙ sym (append_assoc (drawn_bytes i state) (this ∷ []) (drop (i + 1) octets))
    ∙ ap (λ (xs : List ℕ). xs ++ drop (i + 1) octets)
    (sym (map-append (λ draw. draw % 64) (draws i state)
    (drawn_number (next_state (state_after i state)) ∷ []))
    ∙ ap (map (λ draw. draw % 64)) (sym (draws-more i state))
    ∙ ap (λ n. drawn_bytes n state) (sym one))

-- ---- the main data

-- the first bits of bytes that begin where the window does
pub packed-first : {packed : List ℕ} (octets : List ℕ) {count from : ℕ} → AreBytes packed → from ≡ 0
    → length octets ≡ (count + 7) / 8 → AreBitsPacked packed count (main_bits octets from count)
    → packed ≡ first_bits count octets
packed-first octets are none long is = grind (arith, bytes-bits)
