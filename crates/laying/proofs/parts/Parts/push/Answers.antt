-- One more part after those before.
use Rattle.std.proofs.Common.{ap, arith, length, length-append, map, rules, [], ◌++◌, ◌∙◌, ◌∷◌}
use Rattle.std.proofs.lemmas.List.{length-map}
use Rattle.laying.{proofs.PartsLemmas.asked-push, specs.Needs.{need_of, PlanInput}}
use Rattle.laying.proofs.parts.Parts.push.Goals as goal

pub returns : goal.returns
returns c = record {
  added = λ parts is.
      asked-push parts c.args.rows.now
      (c.self.view_is ∙ is) (omega (arith, c.len-place.ensures, c.self.inside.needs.ok.0))
      c.in_ok-append_needs.ensures.added (c.push_reserved.ensures.items
      ∙ ap (λ l. l ++ c.len-place.result ∷ []) c.in_ok-reserve.ensures.items);
  needs = omega (
    arith,
    ap length c.in_ok-append_needs.ensures.added,
    length-append c.self.inside.needs.items (map need_of c.args.rows.now),
    length-map c.args.rows.now need_of,
    ap (λ (a : PlanInput). length a.needs) c.self.view_is,
  );
  places = search rules;
  stays = search rules;
}
