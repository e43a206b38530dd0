-- The last frame ends within the file.
use Rattle.std.proofs.Common.{subst, sym, ◌≤◌}
use Rattle.moved_gains.{proofs.FoundTagLemmas.last-within, specs.TagExtent.last_end}
use Rattle.sync_survey.specs.Faults.{longest_file}
use Rattle.moved_gains.proofs.tag_extents.tag_extent.Goals as goal

pub last_end-requires : goal.last_end-requires
last_end-requires c = subst (λ l. last_end l ≤ longest_file) (sym c.frames.ensures)
    (last-within c.requires)
