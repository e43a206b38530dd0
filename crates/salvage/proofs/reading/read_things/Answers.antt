-- One more thing is read.
use Rattle.std.proofs.Common.{subst}
use Rattle.salvage.specs.Progress.{IsDamagedReading}
use Rattle.sync_survey.proofs.FoldersLemmas.{read_more}
use Rattle.salvage.proofs.reading.read_things.Goals as goal

pub loop-found-preserved : goal.loop-found-preserved
loop-found-preserved g c = record {
  reading = subst
      (λ files. IsDamagedReading files c.args.name.now c.args.begun.now c.read_thing.new.found)
      c.loop-found.invariant.read.files c.in_ok-read_thing.ensures.reading.reading;
  read = read_more c.loop-found.invariant.read c.in_ok-read_thing.ensures.reads;
}
