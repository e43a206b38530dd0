-- The first of all faults, kind by kind.
use Rattle.std.proofs.{Common.{sym, ◌∙◌}, lemmas.Result.err_from_is_err_and}
use Rattle.side_info.specs.Frame.{stored_crc}
use Rattle.sync_survey.proofs.FaultsLemmas.{first-count, first-data, first-word}
use Rattle.sync_survey.proofs.rows.ReservoirState.step.Goals as goal

pub returns-in-Some-clause-fault : goal.returns-in-Some-clause-fault
returns-in-Some-clause-fault c =
    first-word (stored_crc c.args.bytes.now)
    c.args.limit.now.allowed c.args.self.now.place c.args.self.now.ended c.args.limit.now.count
    c.args.row.now (sym c.crc_fault.ensures ∙ c.in-Some.is)

pub returns-in_err-behind-clause-fault : goal.returns-in_err-behind-clause-fault
returns-in_err-behind-clause-fault c =
    let p = err_from_is_err_and c.from_residual.result c.from_residual.ensures.1 in
    rw (p.1, p.2)
    (first-data (stored_crc c.args.bytes.now) c.args.limit.now.allowed c.args.self.now.place
    c.args.self.now.ended c.args.limit.now.count c.args.row.now
    (sym c.crc_fault.ensures ∙ c.in_default.is) c.in_err-behind.ensures.fault)

pub returns-in-Some-count_fault-clause-fault : goal.returns-in-Some-count_fault-clause-fault
returns-in-Some-count_fault-clause-fault c =
    first-count (stored_crc c.args.bytes.now)
    c.args.limit.now.allowed c.args.self.now.place c.args.self.now.ended c.args.limit.now.count
    c.args.row.now (sym c.crc_fault.ensures ∙ c.in_default.is) c.in_ok-behind.ensures.sound
    ∙ sym c.count_fault.ensures
    ∙ c.in-Some-count_fault.is

pub returns-in-None-clause-sound : goal.returns-in-None-clause-sound
returns-in-None-clause-sound c =
    first-count (stored_crc c.args.bytes.now)
    c.args.limit.now.allowed c.args.self.now.place c.args.self.now.ended c.args.limit.now.count
    c.args.row.now (sym c.crc_fault.ensures ∙ c.in_default.is) c.in_ok-behind.ensures.sound
    ∙ sym c.count_fault.ensures
    ∙ c.in-None.is
