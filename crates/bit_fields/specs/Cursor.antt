-- A place among the bits of bytes.
use Rattle.std.specs.Prelude.{drop, IfNone, IfSome, IsNone, IsSome, length, List, Option, take, ℕ}
use Rattle.std.specs.Prelude.{◌+◌, ◌<◌, ◌^◌, ◌↔◌, ◌≡◌, ◌≤◌}
use Rattle.bit_fields.specs.Bits.{number}

-- how many bits were taken, and the bits that are left
pub record Cursor : Type 0 where
  pub place : ℕ
  pub left : List ℕ

-- the same place n bits further on
abbrev pub advanced_cursor : Cursor → ℕ → Cursor
advanced_cursor c n = record { place = c.place + n; left = drop n c.left }

-- taking the next n bits gives their number, or nothing where fewer are left
pub record TakeAnswer (n : ℕ) (old new : Cursor) (result : Option ℕ) : Type 0 where
  -- it fails exactly where fewer are left
  pub short : IsNone result ↔ (length old.left < n)
  pub enough : n ≤ length old.left → IsSome result
  pub value : IfSome result (λ v. v ≡ number (take n old.left))
  pub below : IfSome result (λ v. v < 2 ^ n)
  pub moves : IfSome result (λ v. new ≡ advanced_cursor old n)
  -- and then the place doesn't change
  pub stays : IfNone result (new ≡ old)
