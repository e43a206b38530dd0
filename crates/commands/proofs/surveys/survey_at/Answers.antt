-- The fault is that of the survey.
use Rattle.commands.proofs.InputLemmas.{file_fault, survey_numbers}
use Rattle.commands.proofs.surveys.survey_at.Goals as goal

pub returns-in-Err : goal.returns-in-Err
returns-in-Err g c =
    let old = g.D.Folder.seen c.args.folder.now in
    let new = g.D.Folder.seen c.survey.new.folder in
    record {
      there = tt;
      surveyed = tt;
      laid = tt;
      few = tt;
      octets = tt;
      refused =
          rw c.of_survey.ensures (file_fault c.args.number c.args.allowed c.args.name.now old new
          c.in-Err.fault c.survey.ensures.files c.in-Err.ensures.refused);
      numbers = rw c.of_survey.ensures
          (survey_numbers c.args.number c.in-Err.fault c.in-Err.ensures.numbers);
      reads = search;
    }
