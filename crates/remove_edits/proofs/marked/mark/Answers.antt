-- One more place is marked.
use Rattle.std.proofs.Common.{ap, arith, drop, length, List, refl, slice_index_or, slice_set, suc}
use Rattle.std.proofs.{Common.{sym, true, zero, ℕ, [], ◌+◌, ◌<◌, ◌∙◌, ◌∷◌, ◌≡◌}, Math.Seq.drop-cons}
use Rattle.std.proofs.lemmas.List.{drop_all}
use Rattle.remove_edits.specs.{Ready.{with_lead_in, with_lead_ins}, Removed.place_as}
use Rattle.slot_plan.specs.declared.needs.Placed.{Placed}
use Rattle.remove_edits.proofs.marked.mark.Goals as goal

set-lead : (at : ℕ) (placed : List Placed) (p : Placed) → at < length placed
    → slice_set placed at (place_as true (slice_index_or placed at p)) ≡ with_lead_in at placed
unfolding with_lead_in
set-lead at [] p within = absurd (omega (arith, within))
set-lead zero (q ∷ placed) p within = refl
set-lead (suc at) (q ∷ placed) p within =
    ap (λ l. q ∷ l) (set-lead at placed p (omega (arith, within)))

next : (ats : List ℕ) (i : ℕ) → i < length ats
    → drop i ats ≡ slice_index_or ats i 0 ∷ drop (i + 1) ats
next ats i within = search (arith, drop-cons)

pub loop-at-preserved : goal.loop-at-preserved
loop-at-preserved c =
    let i = c.loop-at.at-index in
    let ats = c.args.lead_ins.now in
    let placed = c.loop-at.placed in
    let at = slice_index_or ats i 0 in
    let within : at < length placed =
    omega (arith, c.requires i 0 c.loop-at-test.true, c.loop-at.auto.placed) in
    ap (with_lead_ins (drop (i + 1) ats)) (set-lead at placed c.index-placed-at.result within)
    ∙ sym (ap (λ l. with_lead_ins l placed) (next ats i c.loop-at-test.true))
    ∙ c.loop-at.invariant

pub returns : goal.returns
returns c =
    ap (λ l. with_lead_ins l c.loop-at.placed)
    (sym (drop_all c.loop-at.at-index c.args.lead_ins.now c.loop-at-test.false))
    ∙ c.loop-at.invariant
