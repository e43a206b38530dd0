-- Past the end there is no text.
use Rattle.std.proofs.Common.{arith, inl, inr, length, sym, ℕ, ◌+◌, ◌<◌, ◌⊎◌}
use Rattle.info_header.proofs.HeadTextLemmas.{has_text-short}
use Rattle.info_header.proofs.text.has_text.Goals as goal

past : (at end : ℕ) → (at + 4 < at) ⊎ (end < at + 4) → end < at + 4
past at end (inl none) = absurd (omega arith)
past at end (inr short) = short

pub returns-in-None-clause-text : goal.returns-in-None-clause-text
returns-in-None-clause-text c = sym (has_text-short c.args.at c.args.frame.now
    (past c.args.at (length c.args.frame.now) c.in-None.ensures.lookup.0))
