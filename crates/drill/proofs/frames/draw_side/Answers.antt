-- Eight draws are the side information.
use Rattle.std.proofs.Common.{ap, ◌∙◌}
use Rattle.drill.proofs.DrawnSideLemmas.{behind-twice, side-drawn}
use Rattle.drill.specs.Draws.{draws, state_after}
use Rattle.side_info.specs.declared.side.Side.{Side}
use Rattle.drill.proofs.frames.draw_side.Goals as goal

pub returns-clause-side : goal.returns-clause-side
returns-clause-side c =
    let begin = c.args.begin in
    let state = c.args.draws.now.state in
    let empty = c.with_begin-side.ensures
    ∙ ap (λ (s : Side). record s { main_data_begin = begin }) c.empty.ensures in
    (λ i. record {
      main_data_begin = (empty i).main_data_begin;
      private_bits = (empty i).private_bits;
      scfsi = (empty i).scfsi;
      granules = c.granules-side.ensures i;
    })
    ∙ side-drawn begin state c.four-lengths.ensures.draws
    (c.four-gains.ensures.draws ∙ ap (draws 4) c.four-lengths.ensures.state)

pub returns-clause-state : goal.returns-clause-state
returns-clause-state c = c.four-gains.ensures.state
    ∙ ap (state_after 4) c.four-lengths.ensures.state ∙ behind-twice c.args.draws.now.state
