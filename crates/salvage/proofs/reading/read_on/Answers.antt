-- What was found up to the end is all that is read.
use Rattle.std.proofs.Common.{arith, refl, rules, subst, sym, [], ◌∙◌, ◌≡◌}
use Rattle.std.proofs.lemmas.Result.{IfErr-weaker}
use Rattle.salvage.proofs.ProgressLemmas.{all_read, begun_laid, begun_read, IsFirst, laid_out}
use Rattle.salvage.proofs.{ProgressLemmas.{no_frames, read_whole}, ReadFaultLemmas.bytes_refusal}
use Rattle.salvage.{proofs.ResultLemmas.{if_ok, on_ok}, specs.DamagedFiles.IsDamagedFault}
use Rattle.sync_survey.specs.declared.survey_fault.SurveyFault.TheVariants.{NoFrame}
use Rattle.salvage.proofs.reading.read_on.Goals as goal

pub read_things-requires-clause-reading : goal.read_things-requires-clause-reading
read_things-requires-clause-reading g c =
    let begun = c.args.begun.now in
    let found = c.in-Ok.found in
    let first : IsFirst begun found = grind arith in
    record {
      told = λ bytes holds. begun_read (c.requires.begun.told bytes holds) first
          (c.in-Ok.ensures.pieces ∙ c.requires.blocks bytes holds);
      laid = search (arith, begun_laid);
    }

pub returns : goal.returns
returns g c = record {
  exact = grind (arith, if_ok, all_read, read_whole);
  laid = grind (arith, if_ok, laid_out);
  there = on_ok c.damaged_by.result _ c.requires.begun.known.there;
  octets = on_ok c.damaged_by.result _ c.requires.octets;
  done = search rules;
  refused = let begun = c.args.begun.now in
      let found = c.read_things.new.found in
      let name = c.args.name.now in
      let files = (g.D.Folder.seen c.args.folder.now).files in
      let before = (g.D.Folder.seen c.args.folder.now).counts in
      let after = (g.D.Folder.seen c.read_things.new.folder).counts in
      IfErr-weaker c.damaged_by.result (λ fault. (fault ≡ NoFrame begun.start.front_end)
      × (found.rows.items ≡ [])) (IsDamagedFault name files before after) (λ fault is.
      subst (IsDamagedFault name files before after) (sym is.0)
      (bytes_refusal name files before after (NoFrame begun.start.front_end)
      c.requires.begun.known c.in_ok-read_things.ensures.done (refl, tt) (λ bytes holds.
      let known = c.requires.begun.known.long bytes holds in
      no_frames (c.requires.begun.told bytes holds)
      (omega (arith, known, c.requires.begun.known.few))
      (read_whole (c.in_ok-read_things.ensures.reading.told bytes holds)
      (omega (arith, known, c.in_ok-read_things.ensures.end))) is.1)).cause)
      c.damaged_by.ensures.none;
  numbers = grind (arith, IfErr-weaker);
  files = search rules;
  counts = search rules;
}
