-- The tag is within the file.
use Rattle.std.proofs.Common.{arith}
use Rattle.moved_gains.proofs.TagEndLemmas.{tag_end-most}
use Rattle.moved_gains.proofs.moving.new_tag.Goals as goal

pub overflow_add-result : goal.overflow_add-result
overflow_add-result c = grind (arith, tag_end-most c.requires)
