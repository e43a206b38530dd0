-- The gains of both channels are the gains of the one and of the other.
use Rattle.std.{proofs.Common.{ap, Option, ◌++◌, ◌∙◌}, specs.Prelude.codes}
use Rattle.list_edits.{proofs.InfoLemmas.three-lines, specs.InfoText.both_text}
use Rattle.moved_gains.specs.declared.gain_extremes.Gains.{Gains}
use Rattle.list_edits.proofs.info_lines.stereo_lines.Goals as goal

pub returns : goal.returns
returns c =
    three-lines c.channel_line.ensures c.channel_line-2.ensures
    (c.both_line.ensures
    ∙ ap (λ (g : Option Gains). codes "both: " ++ both_text g) c.joined.ensures)
