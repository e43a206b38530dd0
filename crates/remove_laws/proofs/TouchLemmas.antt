-- Two stretches that touch are in order exactly if one in their place is, and nothing stays between
-- them.
use Rattle.std.proofs.Common.{ap, ap₂, arith, Err, length, List, None, Ok, Option, refl, Result}
use Rattle.std.proofs.Common.{Some, subst, sym, ℕ, [], ◌++◌, ◌<◌, ◌∙◌, ◌∷◌, ◌≡◌, ◌≤◌}
use Rattle.std.proofs.lemmas.List.{map-append}
use Rattle.commands.specs.{Command.clash_from, Refusing.then_made}
use Rattle.commands.specs.SingleOutput.{clash_or, command_result, input_result, made_file}
use Rattle.commands.specs.SingleOutput.{most_frames, surveyed_result, task_result}
use Rattle.cut_edits.specs.Exact.{survey_without_head}
use Rattle.exact_span.specs.declared.exact_place.ExactPlace.{ExactPlace}
use Rattle.laying.specs.KeptFields.{fields_of_head}
use Rattle.outside.specs.Files.{Contents}
use Rattle.remove_edits.proofs.CommandLemmas.{ok-parts}
use Rattle.remove_edits.specs.Removed.{all_stretch_frames, parts_left, parts_or_range, removal_file}
use Rattle.remove_edits.specs.Removed.{remove_command, remove_making, stretch_frames}
use Rattle.remove_laws.specs.StretchLaws.{DoTouch, frame_named, Neighbours, stretches_as_one}
use Rattle.remove_laws.specs.StretchLaws.{stretches_as_two, TouchingStretchesAreOne}
use Rattle.seam_plan.specs.Stretches.{disorder_from, parts_in_order, staying_from, staying_parts}
use Rattle.seam_plan.specs.declared.stretches.Part.{Part}
use Rattle.sync_survey.specs.{Faults.SurveyFields, Survey.survey_of}
use Rattle.sync_survey.specs.declared.survey_fault.SurveyFault.{SurveyFault}

-- ---- numbers of stretches

module _ (frames : ℕ) (a b c : ℕ) (behind : List (ℕ × ℕ)) where
  module _ (first : a < b) (second : b < c) (within : c ≤ frames) where
    same-disorder : (at : ℕ) (before : List (ℕ × ℕ))
        → disorder_from frames at (before ++ (a, b) ∷ (b, c) ∷ behind)
        ≡ disorder_from frames at (before ++ (a, c) ∷ behind)
    unfolding disorder_from
    same-disorder at [] = grind (arith, first, second, within)
    same-disorder at (s ∷ before) = grind (arith, same-disorder s.1 before)

    same-staying : (at : ℕ) (before : List (ℕ × ℕ))
        → staying_from frames at (before ++ (a, b) ∷ (b, c) ∷ behind)
        ≡ staying_from frames at (before ++ (a, c) ∷ behind)
    unfolding staying_from
    same-staying at [] = grind (arith)
    same-staying at (s ∷ before) = grind (arith, same-staying s.1 before)

    -- the same parts stay
    pub same-parts : (before : List (ℕ × ℕ))
        → staying_parts frames (before ++ (a, b) ∷ (b, c) ∷ behind)
        ≡ staying_parts frames (before ++ (a, c) ∷ behind)
    unfolding staying_parts
    same-parts before = ap₂ (parts_in_order frames) (same-disorder 0 before) (same-staying 0 before)

  none-touch : (at : ℕ) (before : List (ℕ × ℕ))
      → disorder_from frames at (before ++ (a, b) ∷ (b, c) ∷ behind) ≡ None
      → (a < b) × (b < c) × (c ≤ frames)
  unfolding disorder_from
  none-touch at [] none = grind arith
  none-touch at (s ∷ before) none = grind (arith, none-touch s.1 before)

  -- accepted stretches have frames of the file
  pub accepted-touch : (before : List (ℕ × ℕ)) {parts : List Part}
      → staying_parts frames (before ++ (a, b) ∷ (b, c) ∷ behind) ≡ Ok parts
      → (a < b) × (b < c) × (c ≤ frames)
  unfolding staying_parts
  accepted-touch before {parts} is =
      none-touch 0 before (ordered (disorder_from frames 0 _) (staying_from frames 0 _) is)
    where
      ordered : (o : Option (ℕ × ℕ)) (all : List Part) → parts_in_order frames o all ≡ Ok parts
          → o ≡ None
      ordered None all e = refl
      ordered (Some pair) all e = absurd cc

-- ---- stretches of a file

module _ (pair : Neighbours) where
  module _ (s : SurveyFields) where
    abbrev frames : ℕ
    frames = length s.frames

    abbrev numbers : List (ExactPlace × ExactPlace) → List (ℕ × ℕ)
    numbers stretches = all_stretch_frames s.class frames stretches

    as-two : frame_named s pair.first.1 ≡ frame_named s pair.second.0
        → numbers (stretches_as_two pair)
        ≡ numbers pair.before ++ (frame_named s pair.first.0, frame_named s pair.first.1)
        ∷ (frame_named s pair.first.1, frame_named s pair.second.1) ∷ numbers pair.behind
    as-two meet =
        map-append (stretch_frames s.class frames) pair.before
        (pair.first ∷ pair.second ∷ pair.behind)
        ∙ ap (λ n. numbers pair.before ++ (frame_named s pair.first.0, frame_named s pair.first.1)
        ∷ (n, frame_named s pair.second.1) ∷ numbers pair.behind) (sym meet)

    as-one : numbers (stretches_as_one pair)
        ≡ numbers pair.before ++ (frame_named s pair.first.0, frame_named s pair.second.1)
        ∷ numbers pair.behind
    as-one =
        map-append (stretch_frames s.class frames) pair.before
        ((pair.first.0, pair.second.1) ∷ pair.behind)

    same-left : DoTouch s pair
        → parts_left (stretches_as_two pair) s ≡ parts_left (stretches_as_one pair) s
    unfolding parts_left
    same-left touch =
        ap (λ l. parts_or_range frames (staying_parts frames l)) (as-two touch.meet)
        ∙ ap (parts_or_range frames)
        (same-parts frames (frame_named s pair.first.0) (frame_named s pair.first.1)
        (frame_named s pair.second.1) (numbers pair.behind) touch.first
        (subst (λ n. n < frame_named s pair.second.1) (sym touch.meet) touch.second) touch.within
        (numbers pair.before))
        ∙ sym (ap (λ l. parts_or_range frames (staying_parts frames l)) as-one)

    do-touch : {parts : List Part} → frame_named s pair.first.1 ≡ frame_named s pair.second.0
        → parts_left (stretches_as_two pair) s ≡ Ok parts → DoTouch s pair
    unfolding parts_left
    do-touch {parts} meet is =
        let found =
        ok-parts frames (staying_parts frames (numbers (stretches_as_two pair))) is in
        let order = accepted-touch frames (frame_named s pair.first.0) (frame_named s pair.first.1)
        (frame_named s pair.second.1) (numbers pair.behind) (numbers pair.before)
        (subst (λ l. staying_parts frames l ≡ Ok parts) (as-two meet) found) in
        record {
          meet = meet;
          first = order.0;
          second = subst (λ n. n < frame_named s pair.second.1) meet order.1;
          within = order.2;
        }

  -- ---- the commands

  same-made : {s : SurveyFields} (file : List ℕ) → DoTouch s pair
      → remove_making (stretches_as_two pair) file s
      ≡ remove_making (stretches_as_one pair) file s
  unfolding remove_making
  same-made {s} file touch =
      ap (λ r. then_made r (λ parts. Ok (removal_file parts (fields_of_head file s.head) file
      (survey_without_head s)))) (same-left s touch)

  module _ {input : List ℕ} (output : List ℕ) (files : Contents)
      (touch : (file : List ℕ) (s : SurveyFields) → files input ≡ Some file
      → survey_of file most_frames ≡ Ok s → DoTouch s pair) where
    surveyed : (file : List ℕ) (r : Result SurveyFields SurveyFault)
        → ((s : SurveyFields) → r ≡ Ok s → DoTouch s pair)
        → surveyed_result (remove_making (stretches_as_two pair)) file r
        ≡ surveyed_result (remove_making (stretches_as_one pair)) file r
    surveyed file (Ok s) all = same-made file (all s refl)
    surveyed file (Err fault) all = refl

    made-of : (o : Option (List ℕ)) → files input ≡ o
        → input_result (remove_making (stretches_as_two pair)) o
        ≡ input_result (remove_making (stretches_as_one pair)) o
    unfolding made_file
    made-of (Some file) is = surveyed file (survey_of file most_frames) (λ s e. touch file s is e)
    made-of None is = refl

    -- the commands make the same
    pub same-commands : (remove_command (stretches_as_two pair) input output).makes files
        ≡ (remove_command (stretches_as_one pair) input output).makes files
    unfolding task_result
    same-commands =
        ap (λ r. command_result output (clash_or (clash_from (output ∷ []) 0 (input ∷ [])) r))
        (made-of (files input) refl)

-- the law of any two neighbours
pub touching-one : TouchingStretchesAreOne
touching-one pair = record {
  parts = λ s touch. same-left pair s touch;
  accepted = λ s parts meet is. do-touch pair s meet is;
  commands = λ input output files touch. same-commands pair output files touch;
}
