-- One more flag.
use Rattle.std.proofs.Common.{ap, append_assoc, arith, Bor, drop, length, List, map, Some}
use Rattle.std.proofs.Common.{string_bytes, subst, suc, sym, ℕ, [], ◌++◌, ◌+◌, ◌-◌, ◌∙◌, ◌∷◌, ◌≡◌}
use Rattle.std.proofs.lemmas.List.{length-map}
use Rattle.job_words.specs.Flags.{flag_words, leading_flags, leading_flags_up_to, next_flag}
use Rattle.job_words.specs.{Flags.without_flag, declared.flags.Flag.Flag}
use Rattle.job_words.proofs.flags.leading_flags.Goals as goal

pub loop-preserved : goal.loop-preserved
loop-preserved c =
    let left = c.loop.left.items in
    let rest = map string_bytes c.loop.rest.now in
    let n = length c.args.flags.now - (c.loop.counter + 1) in
    let next : length c.args.flags.now - c.loop.counter ≡ suc n = omega (arith, c.loop-test.true) in
    let flag-is : next_flag left rest ≡ Some c.in-Some.flag = grind arith in
    let many : length c.words.result.now ≡ length (flag_words c.in-Some.flag) = omega (
      arith,
      length-map c.words.result.now (λ (word : Bor (List ℕ)). word.now),
      ap length c.words.ensures.words,
    ) in
    let behind-is : map string_bytes c.skip-rest-in-loop.result.now
    ≡ drop (length (flag_words c.in-Some.flag)) rest = grind arith in
    let others-are : c.without_flag-left.result.items ≡ without_flag c.in-Some.flag left =
    grind arith in
    let more : leading_flags_up_to (suc n) left rest ≡ c.in-Some.flag ∷ leading_flags_up_to n
    c.without_flag-left.result.items (map string_bytes c.skip-rest-in-loop.result.now) =
    grind arith in (
      rw c.push.ensures.items (append_assoc c.loop.given.items (c.in-Some.flag ∷ []) _
          ∙ ap (λ (rest : List Flag). c.loop.given.items ++ rest) (sym more)
          ∙ subst (λ (m : ℕ). c.loop.given.items ++ leading_flags_up_to m left rest ≡ leading_flags
          c.args.flags.now (drop 1 (map string_bytes c.args.words.now))) next c.loop.invariant.0),
      omega (arith, c.push.ensures.len, c.loop.invariant.1),
      c.loop.invariant.2,
    )
