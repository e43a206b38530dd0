-- The output of a fade differs from its input in gains, check words and junk that is left out.
use Rattle.std.proofs.Common.{ap, List, None, Some, ℕ, ◌∙◌, ◌≡◌}
use Rattle.gain_edits.proofs.{FadeProperLemmas.faded-parts, ProperLemmas.made_of}
use Rattle.gain_edits.specs.Fade.{fade_change}
use Rattle.gain_laws.{proofs.KeptGainLemmas.made_kept, specs.FadeKept.FadeKeepsAll}
use Rattle.moved_gains.specs.Change.{FileChange}

-- a fade changes only gains and check words, and leaves junk out
pub fade_kept : FadeKeepsAll
fade_kept sheet back file new s all is e =
    let c = made_of {of = fade_change sheet back} {file = file} {new = new} {s = s} is e in
    let parts = faded-parts {sheet = sheet} {back = back} {s = s} {change = c.change} c.made in
    made_kept (λ tag. ⊥) c all is
    (λ tag now. none tag (ap (λ (d : FileChange). d.tag) parts.made ∙ now))
  where
    none : (tag : List ℕ) → None ≡ Some tag → ⊥
    none tag e = absurd cc
