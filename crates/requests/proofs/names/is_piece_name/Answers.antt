-- One name more, a name that is this one, and no name.
use Rattle.std.proofs.Common.{ap, arith, bytes_eq, false, sym, [], ◌+◌, ◌∙◌, ◌≡◌}
use Rattle.std.proofs.lemmas.List.Folds.{list_any_at, list_any_none}
use Rattle.requests.proofs.NamesLemmas.{name-at, names-length}
use Rattle.requests.specs.Names.{piece_name, piece_names}
use borrow.Author.Count.{below_more}
use Rattle.requests.proofs.names.is_piece_name.Goals as goal

pub returns-then-is_name_of : goal.returns-then-is_name_of
returns-then-is_name_of c =
    let k = c.loop-before.before in
    let prefix = c.args.prefix.now in
    sym (list_any_at (bytes_eq c.args.name.now) (piece_names prefix) k []
    (omega (arith, names-length prefix)) (ap (bytes_eq c.args.name.now)
    (name-at prefix [] (omega arith)) ∙ sym c.is_name_of.ensures ∙ c.if-is_name_of.true))

pub loop-before-preserved : goal.loop-before-preserved
loop-before-preserved c =
    below_more (λ k. bytes_eq c.args.name.now (piece_name c.args.prefix.now (k + 1)) ≡ false)
    c.loop-before.before c.loop-before.invariant (sym c.is_name_of.ensures ∙ c.if-is_name_of.false)

pub returns : goal.returns
returns c =
    let prefix = c.args.prefix.now in
    sym (list_any_none (bytes_eq c.args.name.now) (piece_names prefix) (λ k d within.
    ap (bytes_eq c.args.name.now) (name-at prefix d (omega (arith, within, names-length prefix)))
    ∙ c.loop-before.invariant k (omega (arith, within, names-length prefix))))
