-- A main_data_begin within reach fits its bits.
use Rattle.std.proofs.Common.{ap, arith, rules, subst, sym, ◌∙◌, ◌≡◌}
use Rattle.frame_header.specs.Tables.{class_of}
use Rattle.laying.proofs.PlannedFrameLemmas.{begun_fits}
use Rattle.laying.proofs.relay.Relay.lead_in.Goals.{After-with_begin-side}
use Rattle.side_info.{proofs.SideLemmas.SideFits-no_side, specs.Side.SideFits}
use Rattle.side_info.specs.declared.side.Side.{Side}
use Rattle.laying.proofs.relay.Relay.lead_in.Given as given
use Rattle.laying.proofs.relay.Relay.lead_in.Goals as goal

fits : (g : given.Over) (c : After-with_begin-side g)
    → SideFits c.args.writer.now.class c.with_begin-side.result
fits g c =
    let class = c.args.writer.now.class in
    subst (SideFits class) (sym (c.with_begin-side.ensures
    ∙ ap (λ (s : Side). record s { main_data_begin = c.args.place.now.begin }) c.empty.ensures))
    (begun_fits (SideFits-no_side class)
    (omega (arith, c.requires.begin)))

class : (g : given.Over) (c : After-with_begin-side g)
    → class_of c.unprotected-header.result ≡ c.args.writer.now.class
class g c = grind arith

pub new-front-requires : goal.new-front-requires
new-front-requires g c = search (rules, class, fits)

pub write_frame-requires-clause-next : goal.write_frame-requires-clause-next
write_frame-requires-clause-next g c =
    let at = (goal.at.write_frame-requires-clause-next g c).After-with_begin-side in
    record {
      class = search rules;
      fits = subst (SideFits c.args.writer.now.class)
          (sym (ap (λ f. f.kept.side) c.new-frame.ensures ∙ ap (λ k. k.side) c.new-front.ensures))
          (fits g at);
      begin = search rules;
      within = search rules;
      few = search rules;
      unsettled = c.requires.unsettled;
    }
