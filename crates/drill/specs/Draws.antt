-- Pseudo-random numbers, from a linear congruential generator modulo 2 ^ 31.
use Rattle.std.specs.Prelude.{List, suc, zero, ℕ, [], ◌%◌, ◌*◌, ◌+◌, ◌/◌, ◌∷◌}

-- the state after one draw
abbrev pub next_state : ℕ → ℕ
next_state state = (state * 1103515245 + 12345) % 2147483648

-- the number that was drawn when this state was reached:
-- its bits except the lowest 16, from 0 to 32,767
abbrev pub drawn_number : ℕ → ℕ
drawn_number state = state / 65536

-- the state after `count` draws
unfoldable pub state_after : ℕ → ℕ → ℕ
state_after zero state = state
state_after (suc count) state = state_after count (next_state state)

-- `count` draws from a state on, in order
unfoldable pub draws : ℕ → ℕ → List ℕ
draws zero state = []
draws (suc count) state = drawn_number (next_state state) ∷ draws count (next_state state)
