-- Why bytes that a file had when it was found aren't read.
use Rattle.std.specs.Prelude.{false, List, ℕ, ◌<◌, ◌≡◌}
use Rattle.outside.specs.Counts.{Counts, EndedAt, HappenedTo, NothingFailed, OnlyReads}
use Rattle.outside.specs.{Files.{Files, is_told}, declared.exact.ReadFault.ReadFault}
use Rattle.outside.specs.declared.exact.ReadFault.TheVariants.{Failed, Shrunk}

-- The cause of a fault of a file that was found with `size` bytes: a call for this file failed; or
-- its content isn't known, and a read at the second length, which is less, returned no byte.
abbrev pub HasReadCause : List ℕ → ℕ → Files → Counts → Counts → ReadFault → Type 0
HasReadCause name size files before after Failed =
    HappenedTo name before.read_faults after.read_faults × OnlyReads before after
HasReadCause name size files before after (Shrunk first second) =
    (is_told files ≡ false)
    × (first ≡ size)
    × (second < first)
    × EndedAt name second before.ends after.ends
    × NothingFailed before after
    × OnlyReads before after
