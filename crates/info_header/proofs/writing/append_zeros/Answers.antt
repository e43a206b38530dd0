-- The first zeros of many.
use Rattle.std.proofs.{Common.{ap, arith, List, ℕ, ◌++◌, ◌∙◌}, lemmas.List.take-replicate}
use Rattle.info_header.proofs.writing.append_zeros.Goals as goal

pub returns-clause-bytes : goal.returns-clause-bytes
returns-clause-bytes c = c.append.ensures.bytes ∙ ap (λ (zeros : List ℕ). c.args.into.now.items
    ++ zeros) (take-replicate c.args.count 1441 0 (omega (arith, c.requires)))
