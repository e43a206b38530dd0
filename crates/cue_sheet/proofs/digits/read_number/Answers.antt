-- One digit more, and what isn't read.
use Rattle.std.proofs.Common.{ap, arith, get_or, Some, subst, sym, ◌+◌, ◌∙◌, ◌≡◌}
use Rattle.std.proofs.lemmas.{Int.Digits.{digits_more, digits_value_more}, List.take_all}
use Rattle.std.{proofs.lemmas.Str.digit_value_digit, specs.Char.digit_value}
use Rattle.std.specs.Str.Parse.{AllDigits, digits_value}
use Rattle.cue_sheet.proofs.NumbersLemmas.{number_of_digits, number_of_few, number_of_great}
use Rattle.cue_sheet.proofs.NumbersLemmas.{number_of_many, number_of_others, value_of_few}
use Rattle.cue_sheet.proofs.digits.read_number.Goals.{then-digits-least-via-else-digits-least+then-digits-most}
use Rattle.cue_sheet.proofs.digits.read_number.Goals.{then-digits-least-via-then-digits-least}
use Rattle.cue_sheet.proofs.digits.read_number.Goals as goal

pub returns-then-digits-least-clause-number : goal.returns-then-digits-least-clause-number
returns-then-digits-least-clause-number c =
    elim c.then-digits-least.branch [
      | then-digits-least-via-then-digits-least w ↦ sym (number_of_few c.args.most
          c.args.greatest c.args.digits.now w.if-digits-least.true)
      | then-digits-least-via-else-digits-least+then-digits-most w ↦ sym (number_of_many
          c.args.least c.args.greatest c.args.digits.now w.if-digits-most.true)
    ]

pub returns-then-not-is_ascii_digit-clause-number :
    goal.returns-then-not-is_ascii_digit-clause-number
returns-then-not-is_ascii_digit-clause-number c =
    sym (number_of_others c.args.least c.args.most c.args.greatest c.args.digits.now
    c.loop-digit-test.true
    (λ within. omega (arith, c.if-not-is_ascii_digit.ensures.cases)))

pub overflow_mul-number : goal.overflow_mul-number
overflow_mul-number c =
    omega (
      arith,
      c.requires,
      c.loop-digit.invariant.1,
      c.loop-digit.invariant.3,
      value_of_few c.args.digits.now c.loop-digit-test.true
          (omega (arith, c.requires, c.loop-digit.invariant.1)) c.loop-digit.invariant.2,
    )

pub overflow_add-number : goal.overflow_add-number
overflow_add-number c =
    omega (
      arith,
      c.from.ensures,
      c.if-not-is_ascii_digit.ensures.cases,
      c.loop-digit.invariant.3,
      value_of_few c.args.digits.now c.loop-digit-test.true
          (omega (arith, c.requires, c.loop-digit.invariant.1)) c.loop-digit.invariant.2,
    )

pub loop-digit-preserved : goal.loop-digit-preserved
loop-digit-preserved c =
    let digits = c.args.digits.now in
    let i = c.loop-digit.digit-index in
    let before = c.loop-digit.invariant in
    let value : digit_value (get_or digits i 0) + 48 ≡ get_or digits i 0 =
    digit_value_digit (get_or digits i 0) c.if-not-is_ascii_digit.ensures.cases in (
      before.0,
      before.1,
      digits_more 10 digits i c.loop-digit-test.true before.2 c.if-not-is_ascii_digit.ensures.bound,
      omega (
        arith,
        c.from.ensures,
        before.3,
        value,
        digits_value_more 10 digits i c.loop-digit-test.true,
      ),
    )

pub returns-then-number-from-clause-number : goal.returns-then-number-from-clause-number
returns-then-number-from-clause-number c =
    let digits = c.args.digits.now in
    let whole = take_all c.loop-digit.digit-index digits c.loop-digit-test.false in
    let value : c.loop-digit.number ≡ digits_value 10 digits =
    c.loop-digit.invariant.3 ∙ ap (digits_value 10) whole in
    ap Some value
    ∙ sym (number_of_digits digits c.loop-digit.invariant.0
    c.loop-digit.invariant.1 (subst (AllDigits 10) whole c.loop-digit.invariant.2)
    (omega (arith, value, c.from-2.ensures, c.if-number-from.true)))

pub returns-else-number-from-clause-number : goal.returns-else-number-from-clause-number
returns-else-number-from-clause-number c =
    let digits = c.args.digits.now in
    let value : c.loop-digit.number ≡ digits_value 10 digits = c.loop-digit.invariant.3
    ∙ ap (digits_value 10) (take_all c.loop-digit.digit-index digits c.loop-digit-test.false) in
    sym (number_of_great c.args.least c.args.most digits
    (omega (arith, value, c.from-2.ensures, c.if-number-from.false)))
