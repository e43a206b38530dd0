-- Input by input.
use Rattle.std.proofs.Common.{ap, ap₂, arith, drop, length, length-append, List, map, None}
use Rattle.std.proofs.Common.{string_bytes, take, [], ◌++◌, ◌+◌, ◌∙◌, ◌∷◌, ◌≡◌}
use Rattle.std.proofs.lemmas.List.{length-map, length-take, map-append, take-append-drop}
use Rattle.commands.{proofs.RefusingLemmas.err_with, specs.SingleOutput.most_frames}
use Rattle.joined_inputs.proofs.InputLemmas.{after-none, found-input, frames-more, inputs-more}
use Rattle.joined_inputs.proofs.InputLemmas.{part-early, take-next}
use Rattle.joined_inputs.proofs.surveys.survey_all.Goals.{In_ok-push, In_ok-survey}
use Rattle.joined_inputs.specs.Inputs.{AreJoinInputs, class_of_first, frames_together, input_names}
use Rattle.joined_inputs.specs.Inputs.{input_view, InputFields}
use Rattle.outside.specs.Seen.{seen_folder}
use Rattle.sync_survey.specs.{Faults.survey_view, Row.Row}
use Rattle.joined_inputs.proofs.surveys.survey_all.Given as given
use Rattle.joined_inputs.proofs.surveys.survey_all.Goals as goal

pub loop-number-init : goal.loop-number-init
unfolding frames_together
loop-number-init g c = grind arith

pub returns-in_err-survey-clause-refused : goal.returns-in_err-survey-clause-refused
returns-in_err-survey-clause-refused g c =
    let names = map string_bytes c.args.names.now in
    let number = c.loop-number.number in
    let inv = c.loop-number.invariant in
    let before = map input_view c.loop-number.inputs.items in
    let long : length before ≡ number = omega (
      arith,
      length-map before (λ (i : InputFields). i.name),
      ap length inv.named,
      length-take number names,
      length-map c.args.names.now string_bytes,
      c.loop-number-test.true,
    ) in
    let whole : input_names before ++ c.name_at-name.result.now ∷ drop (number + 1) names ≡ names =
    rw (inv.named, ← c.name_at-name.ensures) (take-append-drop number names) in
    err_with _ _ c.from_residual.ensures.1
    (part-early {before = before} {name = c.name_at-name.result.now} {names = names}
    {old = g.D.Folder.seen c.args.folder.now} {allowed = c.loop-number.left} _ _ (record {
      before_it = record { after = drop (number + 1) names; is = whole; are = inv.surveyed };
      long = long;
      class = c.first_class-first.ensures
          ∙ ap (λ l. class_of_first (map input_view l)) c.deref.ensures.value;
      many = inv.allowed;
    }) (ap₂ seen_folder inv.files inv.counts) c.in_err-survey.ensures.refused)

-- the inputs so far, including this one
module _ (g : given.Over) (c : In_ok-survey g) where
  abbrev next : InputFields
  next = record {
    name = c.name_at-name.result.now;
    survey = survey_view c.in_ok-survey.survey;
    from = 0;
  }

  abbrev inputs : List InputFields
  inputs = map input_view c.loop-number.inputs.items ++ next ∷ []

  are : AreJoinInputs None most_frames (g.D.Folder.seen c.args.folder.now).files inputs
  are = grind (arith, inputs-more, after-none)

  named : input_names inputs ≡ take (c.loop-number.number + 1) (map string_bytes c.args.names.now)
  named =
      grind (arith, map-append, take-next, c.loop-number.invariant.named, c.name_at-name.ensures)

pub returns-in_err-push-clause-refused : goal.returns-in_err-push-clause-refused
returns-in_err-push-clause-refused g c =
    let names = map string_bytes c.args.names.now in
    let number = c.loop-number.number in
    let inv = c.loop-number.invariant in
    let at = (goal.at.returns-in_err-push-clause-refused g c).In_ok-survey in
    let whole : input_names (inputs g at) ++ drop (number + 1) names ≡ names =
    rw (named g at) (take-append-drop (number + 1) names) in
    err_with _ _ c.from_residual-in_err-push.ensures.1
    (λ _ _. rw whole at
    (found-input most_frames (inputs g at) (drop (number + 1) names) (are g at)
    (omega (arith, length-append (map input_view c.loop-number.inputs.items) (next g at ∷ [])))
    (ap₂ seen_folder (c.survey_part.ensures.reads.files ∙ inv.files)
    (c.in_ok-survey.ensures.reads.done ∙ inv.counts))))

-- one more input was added
now : (g : given.Over) (c : In_ok-push g) → map input_view c.push.new.self.items
    ≡ inputs g (goal.at.loop-number-preserved g c).In_ok-survey
now g c =
    ap (map input_view) c.in_ok-push.ensures.items
    ∙ map-append input_view c.loop-number.inputs.items _

pub loop-number-preserved : goal.loop-number-preserved
loop-number-preserved g c =
    let at = (goal.at.loop-number-preserved g c).In_ok-survey in
    let before = map input_view c.loop-number.inputs.items in
    let frames = ap (λ (l : List Row). length l) c.frames.ensures in
    record {
      surveyed = rw (now g c) (are g at);
      named = rw (now g c) (named g at);
      allowed = rw (now g c) (omega (
        arith,
        frames-more before (next g at),
        c.loop-number.invariant.allowed,
        c.in_ok-survey.ensures.input.few,
        frames,
      ));
      files = c.survey_part.ensures.reads.files ∙ c.loop-number.invariant.files;
      counts = c.in_ok-survey.ensures.reads.done ∙ c.loop-number.invariant.counts;
    }
