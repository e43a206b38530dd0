-- One more stretch, of the next two values.
use Rattle.std.proofs.Common.{ap, append-nil, append_assoc, arith, length, length-append, List, map}
use Rattle.std.proofs.Common.{refl, slice_index_or, sym, [], ◌++◌, ◌<◌, ◌∙◌, ◌∷◌, ◌≡◌}
use Rattle.std.specs.Slice.Iter.{chunks_exact_rest}
use Rattle.exact_span.specs.declared.exact_place.ExactPlace.{ExactPlace}
use Rattle.job_words.specs.{Code.value_said, Forms.pairs_of, Kinds.exact_said}
use Rattle.job_words.specs.declared.kinds.Value.{Value, TheVariants.Fixed}
use Rattle.job_words.proofs.forms.stretches_of.Goals as goal

-- the first pair is that of the first two values
first_pair : (two rest : List Value) (d : Value) → length two ≡ 2
    → pairs_of (map exact_said (map value_said (two ++ rest)))
    ≡ (
      exact_said (value_said (slice_index_or two 0 d)),
      exact_said (value_said (slice_index_or two 1 d)),
    )
    ∷ pairs_of (map exact_said (map value_said rest))
first_pair [] rest d two-is = absurd cc
first_pair (a ∷ []) rest d two-is = absurd cc
first_pair (a ∷ b ∷ []) rest d two-is = refl
first_pair (a ∷ b ∷ c ∷ more) rest d two-is = absurd cc

-- fewer than two values have no pair
no_pair : (values : List Value) → length values < 2
    → pairs_of (map exact_said (map value_said values)) ≡ []
no_pair [] few = refl
no_pair (a ∷ []) few = refl
no_pair (a ∷ b ∷ more) few = absurd (omega (arith, few))

pub loop-pair-init : goal.loop-pair-init
loop-pair-init c = grind arith

pub push-requires : goal.push-requires
push-requires c =
    let step = c.in-Some.ensures.steps.1 in (
      omega arith,
      omega (
        arith,
        ap length step.0,
        length-append c.in-Some.pair.now (chunks_exact_rest c.next.new.self),
        step.1,
        c.loop-pair.invariant.2,
        c.loop-pair.invariant.4,
      ),
    )

pub loop-pair-preserved : goal.loop-pair-preserved
loop-pair-preserved c =
    let steps = c.in-Some.ensures.steps in
    let pair = c.in-Some.pair.now in
    let left = chunks_exact_rest c.next.new.self in
    let two : length pair ≡ 2 = steps.1.1 ∙ c.loop-pair.invariant.2 in
    let same = steps.0 ∙ c.loop-pair.invariant.2 in
    let first = first_pair pair left Fixed two in (
      omega (arith, same),
      tt,
      same,
      rw (c.push.ensures.items, c.exact.ensures, c.exact-in-loop-pair.ensures)
          (append_assoc c.loop-pair.stretches.items _ _
          ∙ ap (λ (l : List (ExactPlace × ExactPlace)). c.loop-pair.stretches.items ++ l)
          (sym first ∙ ap (λ l. pairs_of (map exact_said (map value_said l))) (sym steps.1.0))
          ∙ c.loop-pair.invariant.3),
      omega (
        arith,
        c.push.ensures.len,
        ap length steps.1.0,
        length-append pair left,
        two,
        c.loop-pair.invariant.4,
      ),
    )

pub returns : goal.returns
returns c =
    let step = c.in-None.ensures.steps.1 in
    let none = no_pair (chunks_exact_rest c.loop-pair.pair-iterator)
    (omega (arith, step.0, c.loop-pair.invariant.2)) in
    sym (append-nil c.loop-pair.stretches.items)
    ∙ ap (λ (l : List (ExactPlace × ExactPlace)). c.loop-pair.stretches.items ++ l) (sym none)
    ∙ c.loop-pair.invariant.3
