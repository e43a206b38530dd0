-- The bytes are after those that were there.
use Rattle.std.proofs.{Common.arith, lemmas.List.with_items_is}
use Rattle.frame_writer.proofs.BytesLemmas.{put-behind}
use Rattle.frame_writer.proofs.bytes.ByteQueue.push.Goals as goal

pub returns : goal.returns
returns c = grind (arith, with_items_is, put-behind)
