-- Each text of the tables is the text of its bit rate.
use Rattle.std.proofs.Common.{arith, refl, ◌-◌}
use Rattle.frame_header.specs.{Tables.rates, declared.version.Version.TheVariants.{One, Two}}
use Rattle.list_edits.proofs.RateLemmas.{text_at}
use Rattle.list_edits.specs.declared.rate_text.TheConstants.{MPEG_1_TEXTS, MPEG_2_TEXTS}
use Rattle.list_edits.proofs.rate_text.spaced_text.Goals as goal

pub returns-in-One-clause-text : goal.returns-in-One-clause-text
returns-in-One-clause-text c =
    grind (
      arith,
      text_at MPEG_1_TEXTS (rates One) (c.slot.inside.rate_index - 1) refl (omega
          (arith, c.slot.invariant)),
    )

pub returns-in-Two-clause-text : goal.returns-in-Two-clause-text
returns-in-Two-clause-text c =
    grind (
      arith,
      text_at MPEG_2_TEXTS (rates Two) (c.slot.inside.rate_index - 1) refl (omega
          (arith, c.slot.invariant)),
    )
