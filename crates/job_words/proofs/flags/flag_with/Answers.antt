-- What is left decides.
use Rattle.std.proofs.{Common.{refl, sym, ◌∙◌}, lemmas.List.drop_more}
use Rattle.job_words.specs.declared.flags.Flag.TheVariants.{Tagless}
use Rattle.job_words.proofs.flags.flag_with.Goals as goal

pub returns-then-begins : goal.returns-then-begins
returns-then-begins c = sym (c.loop-flag.invariant ∙ rw (
  drop_more c.args.flags.now c.loop-flag.flag-index Tagless c.loop-flag-test.true,
  ← c.if-begins.ensures,
) refl)

pub loop-flag-preserved : goal.loop-flag-preserved
loop-flag-preserved c = c.loop-flag.invariant ∙ rw (
  drop_more c.args.flags.now c.loop-flag.flag-index Tagless c.loop-flag-test.true,
  ← c.if-begins.ensures,
) refl
