-- The name, and then the rest of the line.
use Rattle.std.proofs.Common.{ap, codes, List, ℕ, ◌++◌, ◌∙◌, ◌≡◌}
use Rattle.std.proofs.lemmas.Result.{on_err_weaker, on_ok_weaker}
use Rattle.seamless_edits.proofs.LineLemmas.{line-on, line-part}
use Rattle.seamless_edits.proofs.lines.push_line.Goals.{After-push-2}
use Rattle.seamless_edits.specs.Seamless.{lost_frames_text, seam_text}
use Rattle.seamless_edits.proofs.lines.push_line.Given as given
use Rattle.seamless_edits.proofs.lines.push_line.Goals as goal

-- the line after its name
line-is : (g : given.Over) (c : After-push-2 g) → c.bytes.result.now
    ≡ codes ": " ++ (seam_text c.args.seam ++ (lost_frames_text c.args.lost ++ codes "\n"))
line-is g c =
    c.bytes.ensures ∙ c.put_seam.ensures
    ∙ ap (λ (l : List ℕ). codes ": " ++ (seam_text c.args.seam ++ l)) c.set_lost.ensures.text

pub returns-clause-passed : goal.returns-clause-passed
returns-clause-passed g c =
    let at = (goal.at.returns-clause-passed g c).After-push-2 in
    on_ok_weaker c.push-2.result
    (line-on c.args.buffer.now
    c.push.new.self _ _ _
    c.as_bytes.ensures.value (line-is g at)
    c.in_ok-push.ensures.passed)
    c.push-2.ensures.passed

pub returns-clause-prefix : goal.returns-clause-prefix
returns-clause-prefix g c =
    let at = (goal.at.returns-clause-prefix g c).After-push-2 in
    on_err_weaker c.push-2.result
    (line-part c.args.buffer.now
    c.push.new.self _ _ _
    c.as_bytes.ensures.value (line-is g at) c.in_ok-push.ensures.passed)
    c.push-2.ensures.prefix
