-- Headers are the same in one slot exactly if they are in any other.
use Rattle.std.proofs.Common.{ap, ◌∙◌}
use Rattle.frame_header.specs.Fields.{HeaderFields}
use Rattle.seam_plan.specs.Joins.{is_same_header}
use Rattle.seamless_edits.proofs.SoundLemmas.{header-alike}
use Rattle.seamless_edits.proofs.sounds.same_header.Goals as goal

pub returns : goal.returns
returns c =
    c.is_same_header.ensures
    ∙ ap (λ (h : HeaderFields). is_same_header h c.args.second.now)
    (c.with_slot.ensures ∙ ap (λ (h : HeaderFields). record c.args.first.now { slot = h.slot })
    c.second.view_is)
    ∙ header-alike c.args.first.now c.args.second.now
