-- The survey is the file's.
use Rattle.std.proofs.Common.{subst, [], ◌∷◌}
use Rattle.laying.proofs.SurveyFrameLemmas.{survey-had}
use Rattle.outside.specs.Files.{Holds}
use Rattle.laying_tests.proofs.tests.infos.kept_of.Goals as goal

pub kept_fields-requires-clause-exact : goal.kept_fields-requires-clause-exact
kept_fields-requires-clause-exact g c = λ file holds.
    survey-had 100
    (c.in-Ok.ensures.exact file (subst (λ f. Holds f (97 ∷ []) file) c.survey.ensures.files holds))
