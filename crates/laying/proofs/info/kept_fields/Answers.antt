-- What is kept are fields of the head; without a head there is none.
use Rattle.std.proofs.Common.{ap, rules, sym, ◌∙◌}
use Rattle.info_header.specs.declared.fields.Info.{Info}
use Rattle.laying.proofs.KeptLemmas.{extension-none, info-some, quality-none}
use Rattle.laying.specs.declared.info.Kept.{Kept}
use Rattle.sync_survey.specs.Faults.{survey_view}
use Rattle.laying.proofs.info.kept_fields.Goals as goal

pub returns-in-Some : goal.returns-in-Some
returns-in-Some g c = record {
  kept = λ file holds.
      let same = info-some file (survey_view c.args.survey.now).head
      (sym c.in-Some.is ∙ c.in_ok-info.ensures.fields file holds) in (
        c.of.ensures.quality ∙ ap (λ (i : Info). i.quality) same,
        c.of.ensures.extension ∙ ap (λ (i : Info). i.extension) same,
      );
  none = search rules;
  done = search rules;
  cause = search rules;
  reads = search rules;
  files = search rules;
  counts = search rules;
}

pub returns-in-None : goal.returns-in-None
returns-in-None g c = record {
  kept = λ file holds.
      let head = (survey_view c.args.survey.now).head in
      let none = sym c.in-None.is ∙ c.in_ok-info.ensures.fields file holds in (
        ap (λ (k : Kept). k.quality) c.none.ensures ∙ quality-none file head none,
        ap (λ (k : Kept). k.extension) c.none.ensures ∙ extension-none file head none,
      );
  none = search rules;
  done = search rules;
  cause = search rules;
  reads = search rules;
  files = search rules;
  counts = search rules;
}
