-- The row that is kept is the row of the frame's bytes, marked.
use Rattle.std.proofs.Common.{append-nil, arith, length, ◌≡◌}
use Rattle.salvage.proofs.found.DamagedSoFar.judge.Goals.{After-index_mut-row}
use Rattle.sync_survey.{proofs.FaultsLemmas.{get_last, set_last}, specs.MainData.row_in}
use Rattle.salvage.proofs.found.DamagedSoFar.judge.Goals as goal

count_is : (c : After-index_mut-row) → c.len-count.result ≡ length c.args.self.now.rows.items
count_is c = omega (arith, c.len-count.ensures, c.args.self.now.rows.ok.0)

-- the row that is judged is the one that was pushed
pushed : (c : After-index_mut-row)
    → c.index_mut-row.result.now ≡ row_in c.args.self.now.at c.args.header c.args.bytes.now
pushed c = grind (arith, count_is, get_last)

pub returns-clause-kept : goal.returns-clause-kept
returns-clause-kept c = grind (arith, pushed, count_is, set_last, append-nil)
