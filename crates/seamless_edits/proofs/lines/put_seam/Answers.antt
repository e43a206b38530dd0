-- The text is put together from its end.
use Rattle.std.{proofs.Common.{ap, codes, List, sym, ℕ, ◌++◌, ◌∙◌}, specs.Prelude.decimal}
use Rattle.seamless_edits.{proofs.LineLemmas.follows-line, specs.Seamless.seam_text}
use Rattle.seamless_edits.proofs.lines.put_seam.Goals as goal

pub returns-in-Follows : goal.returns-in-Follows
returns-in-Follows c =
    let frames = c.in-Follows.frames in
    let end = c.args.line.now in
    let counted =
    c.put_counted.ensures.number
    ∙ ap (λ n. decimal n ++ (codes " frames left out" ++ end)) c.from.ensures in
    c.put.ensures
    ∙ ap (λ (l : List ℕ). codes ": follows, " ++ l) counted
    ∙ follows-line frames end
    ∙ ap (λ seam. codes ": " ++ (seam_text seam ++ end)) (sym c.in-Follows.is)
