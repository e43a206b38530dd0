-- The curve has the points at their frames.
use Rattle.std.proofs.Common.{ap, map, Ok, sym, ◌∙◌}
use Rattle.fade_plan.proofs.LowLemmas.{curve_made, curve_refused, written_again}
use Rattle.fade_plan.specs.{Curves.curve_of, Points.curve_point_of}
use Rattle.fade_plan.proofs.envelope.Envelope.place_on.Goals as goal

pub returns-in-Some : goal.returns-in-Some
returns-in-Some c =
    let points = c.self.inside.points in
    let is = written_again c.args.class c.args.frames
    points.ok.0 c.deref_mut.ensures.value c.place_all.ensures.placed c.deref.ensures.value in
    curve_refused c.args.class c.args.frames points.items is
    c.in-Some.ensures.line ∙ ap (curve_of c.args.class c.args.frames) c.self.view_is

pub returns-in-None : goal.returns-in-None
returns-in-None c =
    let points = c.self.inside.points in
    let is = written_again c.args.class c.args.frames
    points.ok.0 c.deref_mut.ensures.value c.place_all.ensures.placed c.deref.ensures.value in
    ap Ok (c.of.ensures ∙ ap (map curve_point_of) (sym c.deref.ensures.value))
    ∙ curve_made c.args.class c.args.frames points.items is
    c.in-None.ensures.line ∙ ap (curve_of c.args.class c.args.frames) c.self.view_is
