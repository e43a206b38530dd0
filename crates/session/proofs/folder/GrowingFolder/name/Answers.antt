use Rattle.std.proofs.Common.{ap, arith, List, map, string_bytes, sym, ℕ, ◌∙◌}
use Rattle.std.specs.{BTreeMap.keys, Prelude.Some}
use Rattle.session.proofs.NamesLemmas.{are_names, name_at, no_name_at}
use Rattle.session.proofs.folder.GrowingFolder.name.Goals as goal

pub returns-in-Some : goal.returns-in-Some
returns-in-Some c =
    let run = c.in-Some.ensures.runs in
    let items = c.keys.ensures.runs run.0 run.0.seen in
    let files = c.args.self.now.by_name in (
      map string_bytes (keys files),
      are_names (λ content. content.items) files c.keys.ensures.ordered,
      name_at (keys files) c.args.number c.in-Some.name.now
          (grind (arith, items.0, run.1, run.2, c.keys.ensures.rest))
          (grind (arith, items.8 c.args.number, run.1, run.2, c.keys.ensures.rest))
          ∙ ap (λ (bytes : List ℕ). Some bytes) (sym c.as_str.ensures.value),
    )

pub returns-in-None : goal.returns-in-None
returns-in-None c =
    let run = c.in-None.ensures.runs in
    let items = c.keys.ensures.runs run.0 run.0.seen in
    let files = c.args.self.now.by_name in (
      map string_bytes (keys files),
      are_names (λ content. content.items) files c.keys.ensures.ordered,
      no_name_at (keys files) c.args.number
          (grind (arith, items.1, run.1, run.2, c.keys.ensures.rest)),
    )
