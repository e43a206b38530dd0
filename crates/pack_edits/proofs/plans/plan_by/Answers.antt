-- What each planner requires, and that it returns the plan of the mode.
use Rattle.std.proofs.Common.{ap, arith, inr, length, List, map, None, Ok, refl, subst, sym, ℕ, ◌∙◌}
use Rattle.std.proofs.{Common.{◌≡◌, ◌≤◌, ◌⊎◌}, lemmas.List.length-map}
use Rattle.best_plan.specs.Best.{IsBestPlan}
use Rattle.cut_edits.proofs.ChosenLemmas.{plan_is, rows-fit}
use Rattle.cut_edits.specs.Chosen.{Chosen, chosen_in, chosen_needs, chosen_rows}
use Rattle.frame_header.specs.{Fields.ClassFields, Tables.window_of}
use Rattle.laying.specs.{Needs.need_of, NeedsFit.any_choice}
use Rattle.pack_edits.proofs.BestLemmas.{best-answer, needs-feasible, needs-of-one}
use Rattle.pack_edits.proofs.ModeLemmas.{allowed-most}
use Rattle.pack_edits.proofs.PlanLemmas.{given-needs, IsNamed, menu-fault, menu-plan, needs-some}
use Rattle.pack_edits.proofs.PlanLemmas.{rows-few, rows-same}
use Rattle.pack_edits.{proofs.plans.plan_by.Goals.After-needs-needs, specs.Answers.IsPlanFault}
use Rattle.pack_edits.specs.Modes.{allowed_frames, mode_planning, mode_refuses}
use Rattle.pack_edits.specs.Rates.{menu_in, no_rate}
use Rattle.rate_plan.specs.LeastMenuPlan.{IsMenuFault, least_menu_plan}
use Rattle.requests.specs.declared.mode.PackMode.{PackMode, TheVariants.{Constant, Floor}}
use Rattle.slot_plan.specs.Layouts.{HasLayout}
use Rattle.slot_plan.specs.Parts.{AreNeedsOfClass, AreNeedsOfOneClass, own_frame, window_in}
use Rattle.slot_plan.specs.{Plans.entries, declared.needs.Need.Need}
use Rattle.sync_survey.specs.Faults.{survey_view, SurveyFields}
use Rattle.pack_edits.proofs.plans.plan_by.Goals as goal

pub plan-requires-clause-planned : goal.plan-requires-clause-planned
plan-requires-clause-planned c =
    let s = survey_view c.args.survey.now in
    let chosen = chosen_in c.args.chosen.now in
    rw (c.needs-needs.ensures, c.places.ensures, c.in_ok-parts.ensures.parts)
    (rows-fit chosen s c.requires.laid.placed c.requires.some c.requires.within).planned

-- the chosen frames, and their needs as the planners get them
module _ (c : After-needs-needs) where
  abbrev s : SurveyFields
  s = survey_view c.args.survey.now

  abbrev chosen : Chosen
  chosen = chosen_in c.args.chosen.now

  given : c.needs-needs.result.now ≡ chosen_needs chosen s
  given = given-needs (chosen_rows chosen s)
      c.in_ok-parts.ensures.parts c.needs-needs.ensures

  some : 1 ≤ length c.needs-needs.result.now
  some =
      omega (
        arith,
        needs-some chosen s c.requires.laid.placed c.requires.some c.requires.within,
        ap length given,
      )

  few : length c.needs-needs.result.now ≤ length s.frames
  few =
      omega (
        arith,
        rows-few chosen s c.requires.laid.placed c.requires.some c.requires.within,
        length-map (chosen_rows chosen s) need_of,
        ap length given,
      )

  -- the class has the bit rate that the mode names
  none : no_rate c.args.mode s.class ≡ None
  none = subst (λ k. no_rate c.args.mode k ≡ None) c.class-class.ensures
      (sym c.no_rate.ensures ∙ c.in_default.is)

pub best-requires-clause-class : goal.best-requires-clause-class
best-requires-clause-class c =
    let at = (goal.at.best-requires-clause-class c).After-needs-needs in
    subst AreNeedsOfOneClass (sym (given at))
    (needs-of-one (chosen at) (s at) c.requires.laid.placed c.requires.some c.requires.within)

pub best-requires-clause-some : goal.best-requires-clause-some
best-requires-clause-some c = some (goal.at.best-requires-clause-some c).After-needs-needs

pub best-requires-clause-few : goal.best-requires-clause-few
best-requires-clause-few c =
    let at = (goal.at.best-requires-clause-few c).After-needs-needs in
    omega (
      arith,
      few at,
      subst (λ mode. length (s at).frames ≤ allowed_frames mode) c.in-Best.is c.requires.few,
    )

pub best-requires-clause-feasible : goal.best-requires-clause-feasible
best-requires-clause-feasible c =
    let at = (goal.at.best-requires-clause-feasible c).After-needs-needs in
    subst (λ (l : List Need). HasLayout (window_in l) (window_in l) (map own_frame l))
    (sym (given at))
    (needs-feasible (chosen at) (s at) c.requires.laid.placed c.requires.some c.requires.within)

pub plan_menu-requires-clause-class : goal.plan_menu-requires-clause-class
plan_menu-requires-clause-class c =
    let at = (goal.at.plan_menu-requires-clause-class c).After-needs-needs in
    subst (AreNeedsOfClass c.class-class.result) (sym (given at))
    (subst (λ k. AreNeedsOfClass k (chosen_needs (chosen at) (s at))) (sym c.class-class.ensures)
    (rows-same (chosen at) (s at) c.requires.laid.placed c.requires.some c.requires.within))

pub plan_menu-requires-clause-some : goal.plan_menu-requires-clause-some
plan_menu-requires-clause-some c = some (goal.at.plan_menu-requires-clause-some c).After-needs-needs

pub plan_menu-requires-clause-few : goal.plan_menu-requires-clause-few
plan_menu-requires-clause-few c =
    omega (
      arith,
      few (goal.at.plan_menu-requires-clause-few c).After-needs-needs,
      c.requires.few,
      allowed-most c.args.mode,
    )

pub returns-in-Least : goal.returns-in-Least
returns-in-Least c =
    let s = survey_view c.args.survey.now in
    let chosen = chosen_in c.args.chosen.now in
    let plan = c.in_ok-plan-in-Least in
    let asked =
    rw (c.needs-needs.ensures, c.places.ensures, c.in_ok-parts.ensures.parts) at plan.ensures in
    subst (λ mode. mode_planning mode s.class (chosen_needs chosen s) ≡ Ok (entries plan.plan))
    (sym c.in-Least.is)
    (ap Ok (sym (plan_is chosen s
    c.requires.laid.placed c.requires.some c.requires.within (inr refl) asked.plan)))

pub returns-in-Best : goal.returns-in-Best
returns-in-Best c =
    let at = (goal.at.returns-in-Best c).After-needs-needs in
    let shortest = entries c.in_ok-shortest-in-Best.shortest in
    subst (λ mode. mode_planning mode (s at).class (chosen_needs (chosen at) (s at)) ≡ Ok shortest)
    (sym c.in-Best.is)
    (best-answer (chosen at) (s at)
    c.requires.laid.placed c.requires.some c.requires.within
    (subst (λ (l : List Need). IsBestPlan (window_in l) any_choice l shortest)
    (given at) c.in_ok-shortest-in-Best.ensures))

named-in : (mode : PackMode)
    → ((rate : ℕ) × (mode ≡ Constant rate)) ⊎ ((rate : ℕ) × (mode ≡ Floor rate)) → IsNamed mode
named-in mode h = grind arith

pub returns-in-Ok : goal.returns-in-Ok
returns-in-Ok c =
    let at = (goal.at.returns-in-Ok c).After-needs-needs in
    menu-plan (chosen at) (s at)
    c.requires.laid.placed c.requires.some c.requires.within c.args.mode
    (named-in c.args.mode c.in-Constant.is) (none at)
    (subst (λ (l : List Need). least_menu_plan (window_of (s at).class.version)
    (menu_in c.args.mode (s at).class) l ≡ Ok (entries c.in-Ok.plan)) (given at)
    (subst (λ (k : ClassFields). least_menu_plan (window_of k.version) (menu_in c.args.mode k)
    c.needs-needs.result.now ≡ Ok (entries c.in-Ok.plan)) c.class-class.ensures c.in-Ok.ensures))

pub returns : goal.returns
returns c =
    let at = (goal.at.returns c).After-needs-needs in
    subst (IsPlanFault (mode_planning c.args.mode)
    (mode_refuses c.args.mode) (s at).class (chosen_needs (chosen at) (s at)))
    (sym c.of_rate.ensures)
    (menu-fault (chosen at) (s at)
    c.requires.laid.placed c.requires.some c.requires.within c.args.mode
    c.in-Err.fault (named-in c.args.mode c.in-Constant.is) (none at)
    (subst (λ (l : List Need). IsMenuFault (least_menu_plan (window_of (s at).class.version)
    (menu_in c.args.mode (s at).class) l) c.in-Err.fault) (given at)
    (subst (λ (k : ClassFields). IsMenuFault (least_menu_plan (window_of k.version)
    (menu_in c.args.mode k) c.needs-needs.result.now) c.in-Err.fault)
    c.class-class.ensures c.in-Err.ensures)))
