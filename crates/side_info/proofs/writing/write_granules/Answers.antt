-- The granules that a class has, as words.
use Rattle.std.proofs.Common.{append-nil, arith}
use Rattle.frame_header.specs.Tables.{side_size_of}
use Rattle.side_info.proofs.WriteLemmas.{one_mono, one_stereo, size_of_two, size_one, size_two}
use Rattle.side_info.proofs.WriteLemmas.{two_channels, two_mono, two_stereo}
use Rattle.side_info.proofs.writing.write_granules.Goals as goal

pub put_two-requires-clause-room : goal.put_two-requires-clause-room
unfolding side_size_of
put_two-requires-clause-room c = grind (arith, size_one)

pub put_four-requires-clause-room : goal.put_four-requires-clause-room
unfolding side_size_of
put_four-requires-clause-room c = grind (arith, size_one, two_channels)

pub put_one-requires : goal.put_one-requires
unfolding side_size_of
put_one-requires c = grind (arith, size_of_two, size_two)

pub put_two-requires-in-Two-false : goal.put_two-requires-in-Two-false
unfolding side_size_of
put_two-requires-in-Two-false c = grind (arith, size_of_two, size_two, two_channels)

pub returns-in-One-true-clause-written : goal.returns-in-One-true-clause-written
returns-in-One-true-clause-written c = grind (arith, one_mono)

pub returns-in-One-false-clause-written : goal.returns-in-One-false-clause-written
returns-in-One-false-clause-written c = grind (arith, append-nil, one_stereo, two_channels)

pub returns-in-Two-true-clause-written : goal.returns-in-Two-true-clause-written
returns-in-Two-true-clause-written c = grind (arith, two_mono, size_of_two)

pub returns-in-Two-false-clause-written : goal.returns-in-Two-false-clause-written
returns-in-Two-false-clause-written c = grind (arith, size_of_two, two_stereo, two_channels)
