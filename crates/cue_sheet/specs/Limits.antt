-- Limits of a sheet.
use Rattle.std.specs.Prelude.{ℕ}

-- the greatest length of a sheet in bytes
abbrev pub longest_sheet : ℕ
longest_sheet = 65536
