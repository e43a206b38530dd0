use Rattle.std.proofs.{Common.{arith, length-drop}, lemmas.List.{drop-drop, length-take-le}}
use Rattle.outside.proofs.FeedLemmas.{fed_front, parts_same}
use Rattle.outside.proofs.feed.Feed.fill.Goals as goal

pub returns-then-at-n : goal.returns-then-at-n
returns-then-at-n g c =
    search (arith, length-take-le, length-drop, fed_front, parts_same, drop-drop)
