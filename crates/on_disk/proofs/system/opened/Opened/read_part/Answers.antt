use Rattle.std.proofs.Common.{ap, arith, drop, length, length-take, sym, ◌++◌, ◌∙◌, ◌≡◌}
use Rattle.std.proofs.Math.Seq.{drop-append_seam}
use Rattle.on_disk.proofs.system.opened.Opened.read_part.Goals as goal

pub returns-clause-rest : goal.returns-clause-rest
returns-clause-rest g c =
    let k = c.min-count.result in
    let into = c.args.into.now in
    let size : length c.read_exact.new.buf ≡ k =
    omega (arith, c.read_exact.auto.buf, c.min-count.ensures, length-take k into) in
    ap (λ n. drop n (c.read_exact.new.buf ++ drop k into)) (sym size)
    ∙ drop-append_seam c.read_exact.new.buf (drop k into)
