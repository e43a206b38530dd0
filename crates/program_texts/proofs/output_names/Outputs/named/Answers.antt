-- Which name is at the place.
use Rattle.std.proofs.{Common.{ap, arith, length, sym, [], ◌≤◌}, lemmas.List.get_or_past}
use Rattle.program_texts.proofs.NameLemmas.{piece_at}
use Rattle.program_texts.proofs.output_names.Outputs.named.Goals.{in_default-via-in-One+else-place-eq0}
use Rattle.program_texts.proofs.output_names.Outputs.named.Goals.{in_default-via-in-Pieces+else-place-lt99}
use Rattle.program_texts.proofs.output_names.Outputs.named.Goals.{in_default-via-in_default}
use Rattle.program_texts.specs.{Lines.Name, Names.names_of_outputs}
use Rattle.requests.proofs.NamesLemmas.{names-length}
use Rattle.program_texts.proofs.output_names.Outputs.named.Goals as goal

pub returns-in-Pieces : goal.returns-in-Pieces
returns-in-Pieces c = rw c.in-Pieces.is (ap Name
    (sym (piece_at c.in-Pieces.prefix.now c.if-place-lt99.true)))

pub returns-in_default : goal.returns-in_default
returns-in_default c =
    let past : length (names_of_outputs c.args.self) ≤ c.args.place =
    elim c.in_default.branch [
      | in_default-via-in-One+else-place-eq0 w ↦
          rw w.in-One.is (omega (arith, w.if-place-eq0.false))
      | in_default-via-in-Pieces+else-place-lt99 w ↦ rw w.in-Pieces.is
          (omega (arith, w.if-place-lt99.false, names-length w.in-Pieces.prefix.now))
      | in_default-via-in_default w ↦ rw w.in_default.is (omega arith)
    ] in
    ap Name (sym (get_or_past (names_of_outputs c.args.self) c.args.place [] past))
