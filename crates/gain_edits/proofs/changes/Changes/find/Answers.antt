-- The tag is read, and then the change is decided with it; without tags it is decided at once.
use Rattle.std.proofs.Common.{ap₂, None, refl, rules, Some, sym, ◌∙◌}
use Rattle.gain_edits.proofs.RefusalLemmas.{answered, decided-may, noted-is, plain-is, tag_is_input}
use Rattle.outside.specs.Seen.{seen_folder}
use Rattle.sync_survey.specs.Faults.{survey_view}
use Rattle.gain_edits.proofs.changes.Changes.find.Goals as goal

pub returns-then-not-noted : goal.returns-then-not-noted
returns-then-not-noted g c =
    let changes = c.args.self.now in
    let s = survey_view c.args.survey.now in
    let asks = sym c.are_noted-noted.ensures ∙ c.if-not-noted.true in
    answered {changes = changes} {name = c.args.name.now} {old = g.D.Folder.seen c.args.folder.now}
    (record {
      source = record { there = c.requires.there; surveyed = c.requires.surveyed };
      may = decided-may changes s None asks;
      whole = λ bytes holds. plain-is changes bytes s asks;
    }) refl (search rules) c.decide.result c.decide.ensures

pub returns-in-Ok : goal.returns-in-Ok
returns-in-Ok g c =
    let changes = c.args.self.now in
    let s = survey_view c.args.survey.now in
    let asks = sym c.are_noted-noted.ensures ∙ c.if-not-noted.false in
    answered {changes = changes} {name = c.args.name.now} {old = g.D.Folder.seen c.args.folder.now}
    (record {
      source = record { there = c.requires.there; surveyed = c.requires.surveyed };
      may = decided-may changes s (Some c.in-Ok.tag) asks;
      whole = λ bytes holds.
          noted-is changes bytes s asks (c.in-Ok.ensures.exact bytes holds);
    }) (ap₂ seen_folder c.read_tag.ensures.files c.in-Ok.ensures.done)
    c.read_tag.ensures.counts c.decide-in-Ok.result c.decide-in-Ok.ensures

pub returns-in-Err : goal.returns-in-Err
returns-in-Err g c = record {
  change = tt;
  refused = rw c.of_tag.ensures
      (tag_is_input c.args.self.now {name = c.args.name.now} {s = survey_view c.args.survey.now}
      {old = g.D.Folder.seen c.args.folder.now} _
      (record { there = c.requires.there; surveyed = c.requires.surveyed })
      (sym c.are_noted-noted.ensures ∙ c.if-not-noted.false)
      c.read_tag.ensures.files c.in-Err.fault c.in-Err.ensures.cause);
  numbers = search rules;
  done = tt;
  files = c.read_tag.ensures.files;
  counts = c.read_tag.ensures.counts;
}
