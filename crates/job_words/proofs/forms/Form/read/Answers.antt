-- What is found of the form.
use Rattle.std.proofs.Common.{ap, arith, drop, length, List, map, refl, string_bytes, ◌-◌, ◌<◌, ◌∙◌}
use Rattle.std.proofs.{Common.{◌≡◌, ◌⊎◌}, lemmas.List.{length-drop, length-map}}
use Rattle.std.specs.List.{drop-map}
use Rattle.job_words.proofs.ReadingLemmas.{accepts, few, Found, refuses}
use Rattle.job_words.proofs.forms.Form.read.Goals.{After-as_slice-values}
use Rattle.job_words.specs.{Code.{form_given, value_said, word_kind}, Kinds.values_of}
use Rattle.job_words.specs.declared.kinds.WordKind.{WordKind}
use Rattle.job_words.proofs.forms.Form.read.Goals as goal

-- what was found of the form
found : (c : After-as_slice-values) → Found (form_given c.args.self.now)
    (map string_bytes c.args.words.now) c.as_slice-given.result.now c.len-front.result
    (map word_kind c.append_behind.new.kinds.items) (map value_said c.as_slice-values.result.now)
found c =
    let left : c.saturating_sub.result
    ≡ length (map string_bytes c.args.words.now) - c.len-front.result =
    omega (arith, c.saturating_sub.ensures, length-map c.args.words.now string_bytes) in
    record {
      given-is = c.as_slice-given.ensures.value ∙ c.leading_flags-flags.ensures.given;
      front-is = omega (
        arith,
        c.len-front.ensures.value,
        length-map c.front_kinds-kinds.result.items word_kind,
        ap length c.front_kinds-kinds.ensures.items,
      );
      kinds-is = c.append_behind.ensures ∙ rw (c.front_kinds-kinds.ensures.items, left) refl;
      values-is =
          ap (map value_said) c.as_slice-values.ensures.value ∙ c.read_while_fits-read.ensures
          ∙ ap (λ (kinds : List WordKind). values_of (map word_kind kinds)
          (map string_bytes c.args.words.now)) c.as_slice.ensures.value;
    }

pub returns-then-count-words-clause-answer : goal.returns-then-count-words-clause-answer
returns-then-count-words-clause-answer c =
    let words = map string_bytes c.args.words.now in
    let kinds = map word_kind c.append_behind.new.kinds.items in
    let values = map value_said c.as_slice-values.result.now in
    let many : length values ≡ length c.as_slice-values.result.now = grind (arith, length-map) in
    let short : (length values < length words) ⊎ (length values < length kinds) =
    grind (arith, length-map) in
    rw (← many) (refuses c.requires
    (found (goal.at.returns-then-count-words-clause-answer c).After-as_slice-values) short)

pub job-requires : goal.job-requires
job-requires c =
    let values = c.as_slice-values.result.now in
    omega (
      arith,
      ap length c.skip.ensures,
      length-drop c.len-front.result values,
      length-drop c.len-front.result (map value_said values),
      length-map values value_said,
      few c.requires (found (goal.at.job-requires c).After-as_slice-values),
    )

pub returns-clause-answer : goal.returns-clause-answer
returns-clause-answer c =
    let words = map string_bytes c.args.words.now in
    let values = map value_said c.as_slice-values.result.now in
    let values-are : map value_said c.skip.result.now ≡ drop c.len-front.result values =
    rw (c.skip.ensures, drop-map) refl in
    let words-are : map string_bytes c.skip-2.result.now ≡ drop c.len-front.result words =
    rw (c.skip-2.ensures, drop-map) refl in
    accepts c.requires
    (found (goal.at.returns-clause-answer c).After-as_slice-values)
    (omega (
      arith,
      length-map c.args.words.now string_bytes,
      length-map c.as_slice-values.result.now value_said,
      c.if-count-words.false,
    ))
    (omega (
      arith,
      length-map c.append_behind.new.kinds.items word_kind,
      length-map c.as_slice-values.result.now value_said,
      c.if-count-len.false,
      c.len.ensures.value,
    ))
    (c.job.ensures ∙ rw (values-are, words-are) refl)
