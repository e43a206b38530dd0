-- The output was created, and the input stayed.
use Rattle.cut_edits.proofs.LaidPassLemmas.{relay-ready}
use Rattle.remove_edits.proofs.work.RemovalWorkOutputPass.append.Goals as goal

pub write_left-requires-clause-ready : goal.write_left-requires-clause-ready
write_left-requires-clause-ready g c =
    let old = c.requires.created in
    relay-ready old.0
    c.requires.apart old.1.there old.1.laid old.1.has c.length.ensures old.2
    (old.1.fresh.fed _ _)
