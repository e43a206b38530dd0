-- All frames, with the quality and extension of the head.
use Rattle.std.proofs.Common.{ap, length, List, Ok, Option, refl, rules, sym, true, ℕ, ◌&&◌, ◌<◌}
use Rattle.std.{proofs.Common.◌≡◌, specs.Prelude.{nat_le, nat_lt}}
use Rattle.commands.specs.SingleOutput.{most_frames}
use Rattle.cut_edits.specs.Chosen.{all_choice}
use Rattle.laying.{proofs.SurveyFrameLemmas.survey-had, specs.Written.head_info}
use Rattle.sync_survey.specs.Faults.{survey_view, SurveyFields}
use Rattle.cut_edits.proofs.choice.all_choice.Goals as goal

inside : (n : ℕ) → 0 < n → (nat_lt 0 n && nat_le n n) ≡ true
inside n some = search rules

with_all : (bytes : List ℕ) (s : SurveyFields) (quality : Option ℕ) (extension : List ℕ) (n : ℕ)
    → 0 < length s.frames → quality ≡ (head_info bytes s.head).quality
    → extension ≡ (head_info bytes s.head).extension → length s.frames ≡ n → all_choice bytes s
    ≡ Ok (record { from = 0; to = n; quality = quality; extension = extension })
unfolding all_choice
with_all bytes s quality extension n some same kept count =
    rw (← same, ← kept, inside (length s.frames) some, count) refl

pub kept_fields-requires-clause-exact : goal.kept_fields-requires-clause-exact
kept_fields-requires-clause-exact g c =
    λ file holds. survey-had most_frames (c.requires.surveyed file holds)

pub returns-clause-chosen : goal.returns-clause-chosen
returns-clause-chosen g c bytes holds =
    let kept = c.in-Ok.ensures.kept bytes holds in
    with_all bytes (survey_view c.args.survey.now) c.in-Ok.kept.quality c.in-Ok.kept.extension _
    c.requires.laid.some kept.0 kept.1 (sym (ap length c.frames.ensures))
