-- A fault of reading is one of the only input; what was read is mended.
use Rattle.std.proofs.{Common.{ap, ap₂, arith, length}, lemmas.List.length-map}
use Rattle.outside.specs.Seen.{seen_folder}
use Rattle.salvage.specs.DamagedFiles.{damaged_view}
use Rattle.salvage_edits.proofs.CommandLemmas.{early-fault, early-memory, early-numbers}
use Rattle.sync_survey.specs.{Faults.SurveyFields, HeadApart.emptied_row}
use Rattle.salvage_edits.proofs.prepared.read_input.Goals as goal

pub returns-in-Err-clause-reads : goal.returns-in-Err-clause-reads
returns-in-Err-clause-reads g c =
    let state = g.D.Folder.seen in
    record {
      refused = rw c.into.ensures
          (early-fault c.args.input.now (state c.args.folder.now).counts
          (state c.read_damaged.new.folder).counts c.read_damaged.ensures.files c.in-Err.fault
          c.in-Err.ensures.refused);
      numbers =
          rw c.into.ensures
          (early-numbers c.args.input.now c.in-Err.fault c.in-Err.ensures.numbers);
      done = tt;
      files = c.read_damaged.ensures.files;
      counts = c.read_damaged.ensures.counts;
    }

pub returns-in-Err-mend-clause-reads : goal.returns-in-Err-mend-clause-reads
returns-in-Err-mend-clause-reads g c = record {
  refused = early-memory c.args.input.now c.in-Ok.ensures.there
      c.in-Ok.ensures.exact (ap₂ seen_folder c.read_damaged.ensures.files c.in-Ok.ensures.done);
  numbers = tt;
  done = tt;
  files = c.read_damaged.ensures.files;
  counts = c.read_damaged.ensures.counts;
}

-- there is a mended frame for each that was read
pub returns-in-Ok-mend-clause-few : goal.returns-in-Ok-mend-clause-few
returns-in-Ok-mend-clause-few g c =
    let frames = (damaged_view c.in-Ok.damaged).survey.frames in
    omega (
      arith,
      ap (λ (s : SurveyFields). length s.frames) c.in-Ok-mend.ensures.survey,
      length-map frames emptied_row,
      c.in-Ok.ensures.laid.few,
    )
