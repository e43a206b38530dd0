-- The files that are there, and the frame, which is one of the survey's frames.
use Rattle.std.proofs.Common.{ap, arith, get_or, length, List, subst, sym, ℕ, [], ◌∙◌, ◌∷◌, ◌≡◌}
use Rattle.laying.{proofs.SurveyFrameLemmas.survey-had, specs.Surveys.CanBeRelaid}
use Rattle.outside.{proofs.FilesLemmas.emptied_there, specs.Files.{Holds, IsFileThere}}
use Rattle.sync_survey.specs.Faults.{survey_view}
use Rattle.laying_tests.proofs.tests.relays.lay_frame.Goals as goal

pub plan_file-requires : goal.plan_file-requires
plan_file-requires g c =
    let count : 2 ≡ length (survey_view c.in-Ok-survey.survey).frames =
    sym c.if-assert.false ∙ ap length c.frames.ensures in
    record {
      laid = c.in-Ok-survey.ensures.laid;
      few = omega (arith, count);
      some = omega arith;
      within = omega (arith, count, c.requires.one);
    }

pub write-requires-clause-ready : goal.write-requires-clause-ready
write-requires-clause-ready g c =
    let seen = g.D.Folder.seen in
    let s = survey_view c.in-Ok-survey.survey in
    let held : (file : List ℕ) → Holds (seen c.survey.new.folder).files (97 ∷ []) file
    → CanBeRelaid file s = λ file holds. survey-had 2 (c.in-Ok-survey.ensures.exact file
    (subst (λ f. Holds f (97 ∷ []) file) c.survey.ensures.files holds)) in
    record {
      pass = record {
        apart = λ e. let same : 97 ≡ 98 = ap (λ (l : List ℕ). get_or l 0 0) e in
            absurd (omega (arith, same));
        source = subst (λ f. IsFileThere f (97 ∷ []))
            (sym c.survey.ensures.files) c.in-Ok-survey.ensures.there;
        target = subst (λ f. IsFileThere f (98 ∷ []))
            (sym (c.survey.ensures.files ∙ c.in-Ok.ensures.answer.created))
            (emptied_there (seen c.args.folder.now).files (98 ∷ []));
        length_is = λ file holds. (held file holds).long ∙ sym c.length.ensures;
        few = omega (arith, c.length.ensures, c.in-Ok-survey.ensures.laid.few);
        fed_from = c.in_ok-buffers.ensures.fed (seen c.survey.new.folder).files (97 ∷ []);
      };
      length_is = c.length.ensures;
      exact = held;
      laid = c.in-Ok-survey.ensures.laid;
    }
