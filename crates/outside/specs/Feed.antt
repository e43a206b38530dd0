-- What a feed of a file's bytes shows.
use Rattle.std.specs.Prelude.{drop, length, List, take, ℕ, ◌^◌, ◌≡◌, ◌≤◌}
use Rattle.outside.specs.Files.{Files, Holds}

-- the size of a buffer in bytes
abbrev pub buffer_size : ℕ
buffer_size = 65536

-- how many bytes can be made where they wait
abbrev pub most_in_place : ℕ
most_in_place = 64

-- the most bytes that a feed gives at once
abbrev pub most_given : ℕ
most_given = 4096

-- what a feed holds of a file, from which offset, and what it gave last
pub record Fed : Type 0 where
  -- the offset in the file of the first byte that is held
  pub file_offset : ℕ
  pub held : List ℕ
  -- the bytes that the last `fill` gave
  pub given : List ℕ

-- where the content of the files is known, the bytes held are the bytes of the name's file from
-- `file_offset` on
pub record IsFedFrom (fed : Fed) (files : Files) (name : List ℕ) : Type 0 where
  pub same : (bytes : List ℕ) → Holds files name bytes
      → take (length fed.held) (drop fed.file_offset bytes) ≡ fed.held

-- the buffer of a feed, and the bounds of what is held and given
pub record AreFeedBounds (room : List ℕ) (file_offset held from to : ℕ) : Type 0 where
  pub size : length room ≡ buffer_size
  pub few : held ≤ buffer_size
  pub among : to ≤ held
  pub ordered : from ≤ to
  pub early : file_offset ≤ 2 ^ 32
