-- A packing, in each of its modes.
use Rattle.std.proofs.Common.{arith, Bool, false, length, List, Ok, refl, subst, sym, true, ℕ, []}
use Rattle.std.{proofs.Common.{◌∷◌, ◌≡◌}, specs.Prelude.{◌<◌, ◌≤◌}}
use Rattle.best_plan.specs.Best.{items_with_lead_in}
use Rattle.chosen_streams.proofs.CaseLemmas.{chosen-part, had-exact, own-stream}
use Rattle.chosen_streams.proofs.ExactLemmas.{IsSized, led-exact, own-exact, part-sized}
use Rattle.chosen_streams.specs.{Exact.IsExactly, Laws.PackedStreamsAreExact}
use Rattle.commands.{proofs.RefusingLemmas.{refusal_or-ok, then_ok}, specs.SingleOutput.most_frames}
use Rattle.cut_edits.specs.Chosen.{Chosen, chosen_file_part, chosen_needs}
use Rattle.frame_header.specs.{Fields.{ClassFields, IsClass, SlotFields}, Slots.all_slots}
use Rattle.frame_header.specs.Tables.{class_of, window_of}
use Rattle.laying.{proofs.SurveyFrameLemmas.survey-had, specs.NeedsFit.{any_choice, IsPlacedSurvey}}
use Rattle.laying.specs.Relaid.{part_stream, stream_with_lead_ins}
use Rattle.pack_edits.proofs.{BestLemmas.best-is, MenuLemmas.{menu-ascends, menu-some}}
use Rattle.pack_edits.proofs.PlanLemmas.{fitted_plan-ok, needs-some, rows-same, rows-sound}
use Rattle.pack_edits.specs.{Modes.mode_planning, Rates.{menu_in, rates_plan}}
use Rattle.rate_plan.proofs.LeastMenuPlanLemmas.{least_menu_plan-is}
use Rattle.rate_plan.specs.LeastMenuPlan.{least_menu_plan}
use Rattle.rate_plan.specs.Menus.{IsMenuPlan, menu_choices, menu_items}
use Rattle.requests.specs.declared.mode.PackMode.{PackMode}
use Rattle.requests.specs.declared.mode.PackMode.TheVariants.{Best, Constant, Floor, Least}
use Rattle.slot_plan.specs.{Parts.{AreNeedsOfClass, lead_in_item}, Plans.AreItemSlots}
use Rattle.slot_plan.specs.declared.needs.{Need.Need, Placed.Placed}
use Rattle.sync_survey.proofs.PlacedRowLemmas.{survey_fields-placed}
use Rattle.sync_survey.{proofs.SurveyedFileLemmas.survey_of-parts, specs.Faults.SurveyFields}
use Rattle.sync_survey.specs.{MainData.StreamFrame, Survey.survey_of}

-- ---- the plan from a menu

rates-menu : (mode : PackMode) (class : ClassFields) {needs : List Need} {placed : List Placed}
    → IsClass class → AreNeedsOfClass class needs → 1 ≤ length needs → rates_plan mode class needs
    ≡ Ok placed → IsMenuPlan (window_of class.version) (menu_in mode class) needs placed
rates-menu mode class {needs} {placed} sound same some planned =
    let window = window_of class.version in
    let made = then_ok planned in
    let ok = refusal_or-ok made.1 in
    let is : least_menu_plan window (menu_in mode class) needs ≡ Ok placed =
    grind (arith, fitted_plan-ok) in
    ((least_menu_plan-is window class (menu_in mode class) needs same some
    (menu-ascends mode class sound) (menu-some mode class ok.0)).0 placed).1 is

-- ---- the stream of that plan

menu-exact : (lead_in : Bool) (menu : List SlotFields) (needs : List Need) {fs : List StreamFrame}
    (placed : List Placed) → IsSized needs fs → AreItemSlots (menu_items lead_in menu needs) placed
    → IsExactly (fs ∷ []) (stream_with_lead_ins placed fs)
unfolding menu_items
menu-exact false menu needs placed sized for_items = grind (arith, own-exact, sized)
menu-exact true menu [] placed sized for_items = absurd (omega (arith, sized.some))
menu-exact true menu (first ∷ needs) {fs} placed sized for_items =
    led-exact (menu_choices menu)
    (first ∷ needs) (lead_in_item (class_of first.header) menu) refl fs placed sized for_items

-- a best plan is a plan of the menu of all slots, and its stream is exactly the frames
behind-exact : (lead_in : Bool) (needs : List Need) {fs : List StreamFrame} (placed : List Placed)
    → IsSized needs fs → AreItemSlots (items_with_lead_in lead_in any_choice needs) placed
    → IsExactly (fs ∷ []) (stream_with_lead_ins placed fs)
unfolding items_with_lead_in
behind-exact false needs placed sized for_items = grind (arith, own-exact, sized)
behind-exact true [] placed sized for_items = absurd (omega (arith, sized.some))
behind-exact true (first ∷ needs) {fs} placed sized for_items =
    led-exact any_choice (first ∷ needs)
    (lead_in_item (class_of first.header) all_slots) refl fs placed sized for_items

module _ (chosen : Chosen) (file : List ℕ) {s : SurveyFields} (is : survey_of file most_frames
    ≡ Ok s) (some : chosen.from < chosen.to) (within : chosen.to ≤ length s.frames) where
  abbrev placed_rows : IsPlacedSurvey s
  placed_rows = survey_fields-placed file most_frames (survey_of-parts file most_frames is).1

  sized : IsSized (chosen_needs chosen s) (part_stream (chosen_file_part chosen file s))
  sized = part-sized (chosen-part chosen file is some within)

  abbrev fs : List StreamFrame
  fs = part_stream (chosen_file_part chosen file s)

  rates-exact : (mode : PackMode) {placed : List Placed}
      → rates_plan mode s.class (chosen_needs chosen s) ≡ Ok placed
      → IsExactly (fs ∷ []) (stream_with_lead_ins placed fs)
  rates-exact mode {placed} planned =
      let plan = rates-menu mode s.class
      (rows-sound chosen s placed_rows some within) (rows-same chosen s placed_rows some within)
      (needs-some chosen s placed_rows some within) planned in
      menu-exact plan.lead_in (menu_in mode s.class)
      (chosen_needs chosen s) placed sized plan.whole.slots

  mode-exact : (mode : PackMode) {placed : List Placed}
      → mode_planning mode s.class (chosen_needs chosen s)
      ≡ Ok placed → IsExactly (fs ∷ []) (stream_with_lead_ins placed fs)
  mode-exact Least planned = grind (arith, had-exact, survey-had)
  mode-exact Best {placed} planned =
      grind (arith, best-is chosen s placed_rows some within planned, behind-exact, sized)
  mode-exact (Constant rate) {placed} planned = rates-exact (Constant rate) planned
  mode-exact (Floor rate) {placed} planned = rates-exact (Floor rate) planned

-- the stream of a packing is exactly the frames, after at most one lead-in
pub packed-exact : PackedStreamsAreExact
packed-exact mode chosen file s placed is some within planned =
    subst (λ (l : List StreamFrame). IsExactly (l ∷ []) (stream_with_lead_ins placed l))
    (sym (own-stream chosen file is some within))
    (mode-exact chosen file is some within mode planned)
