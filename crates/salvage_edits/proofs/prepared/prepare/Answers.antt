-- The reading, and the memory, each with its faults.
use Rattle.std.proofs.Common.{ap₂}
use Rattle.outside.specs.Seen.{seen_folder}
use Rattle.salvage_edits.proofs.CommandLemmas.{fault-on, memory-on}
use Rattle.salvage_edits.proofs.prepared.prepare.Goals as goal

pub returns-in_err-mended-clause-reads : goal.returns-in_err-mended-clause-reads
returns-in_err-mended-clause-reads g c =
    fault-on c.args.input.now _ c.from_residual.ensures.1 c.in_err-mended.ensures.reads

pub returns-in_err-work-clause-reads : goal.returns-in_err-work-clause-reads
returns-in_err-work-clause-reads g c =
    let reads = c.in_ok-mended.ensures.reads in
    memory-on c.args.input.now c.from_residual-in_err-work.ensures.1
    c.in_ok-mended.ensures.there c.in_ok-mended.ensures.mended
    (ap₂ seen_folder reads.files reads.done)
    reads

pub returns-clause-ready : goal.returns-clause-ready
returns-clause-ready g c =
    c.in_ok-work.ensures c.args.input.now (g.D.Folder.seen c.args.folder.now).files
    c.in_ok-mended.ensures.mended c.in_ok-mended.ensures.there c.in_ok-mended.ensures.octets
