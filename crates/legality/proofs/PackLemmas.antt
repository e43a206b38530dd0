-- A packing: with the least slots, the fewest bytes, and the slots of some bit rates.
use Rattle.std.proofs.Common.{ap, arith, Bool, cond, Contains, Err, false, get_or, inl, inr, length}
use Rattle.std.proofs.Common.{List, map, None, Ok, refl, Result, Some, subst, suc, sym, true, zero}
use Rattle.std.proofs.Common.{ℕ, [], ◌<◌, ◌∙◌, ◌∷◌, ◌≡◌, ◌≤◌}
use Rattle.std.proofs.lemmas.{Bool.{eq-eqb, eqb-true, lt-ltb, ltb-true}, List.length-map}
use Rattle.std.specs.Prelude.{filter, ◌↔◌}
use Rattle.command_table.specs.Choices.{HasRateRoom, IsFirstUnfit, IsRate}
use Rattle.commands.proofs.{MadeLemmas.some-frames, RefusingLemmas.{refusal_or-ok, then_ok}}
use Rattle.commands.specs.{Refusing.{refusal_or, then_made}, SingleOutput.most_frames}
use Rattle.commands.specs.declared.fault.EditFault.{EditFault, TheVariants.Refused}
use Rattle.commands.specs.declared.fault.Refusal.TheVariants.{NoRate, Unfit}
use Rattle.cut_edits.proofs.ChosenLemmas.{laid-fault, laid-parts, laying-is}
use Rattle.cut_edits.specs.Chosen.{all_choice, Chosen, chosen_needs, laying_making, placed_part}
use Rattle.cut_edits.specs.Chosen.{Planning}
use Rattle.frame_header.specs.{Fields.{ClassFields, SlotFields}, Slots.all_slots}
use Rattle.frame_header.specs.Tables.{rate_of, window_of}
use Rattle.laying.{proofs.PlacesLemmas.range-whole, specs.{Laid.file_laid, Needs.need_of}}
use Rattle.laying.specs.{NeedsFit.IsPlacedSurvey, Written.head_info}
use Rattle.legality.proofs.SplitLemmas.{within-ok}
use Rattle.pack_edits.proofs.MenuLemmas.{menu-ascends, menu-some}
use Rattle.pack_edits.proofs.PlanLemmas.{fitted_plan-ok, floor-unfit, plan-is, rows-same, rows-some}
use Rattle.pack_edits.proofs.PlanLemmas.{rows-sound}
use Rattle.pack_edits.specs.Rates.{fitted_plan, is_rate, menu_in, no_rate, rate_refusal, rates_plan}
use Rattle.rate_plan.proofs.LeastMenuPlanLemmas.{least_menu_plan-is}
use Rattle.rate_plan.specs.LeastMenuPlan.{least_menu_plan}
use Rattle.rate_plan.specs.Menus.{CanBeLaidFromMenu, IsFirstUnfitFrame, IsMenuPlan}
use Rattle.requests.specs.declared.mode.PackMode.{PackMode, TheVariants.{Constant, Floor}}
use Rattle.slot_plan.specs.{Lists.CanBeLaid, declared.needs.{Need.Need, Placed.Placed}}
use Rattle.sync_survey.proofs.PlacedRowLemmas.{survey_fields-placed}
use Rattle.sync_survey.{proofs.SurveyedFileLemmas.survey_of-parts, specs.Faults.SurveyFields}
use Rattle.sync_survey.specs.Survey.{survey_of}

-- ---- a bit rate of the class

some-kept : {p : SlotFields → Bool} (xs : List SlotFields) → 0 < length (filter p xs)
    → (x : SlotFields) × Contains xs x × (p x ≡ true)
some-kept [] some = absurd (omega (arith, some))
some-kept {p} (x ∷ xs) some = at (p x) refl some (λ more. some-kept xs more)
  where
    later : (y : SlotFields) × Contains xs y × (p y ≡ true)
        → (y : SlotFields) × Contains (x ∷ xs) y × (p y ≡ true)
    later found = (found.0, (suc found.1.0, omega (arith, found.1.1), found.1.2), found.2)

    at : (b : Bool) → p x ≡ b → 0 < length (cond b (x ∷ filter p xs) (filter p xs))
        → (0 < length (filter p xs) → (y : SlotFields) × Contains xs y × (p y ≡ true))
        → (y : SlotFields) × Contains (x ∷ xs) y × (p y ≡ true)
    at true is some rest = (x, (0, omega arith, refl), is)
    at false is some rest = later (rest some)

kept-some : (p : SlotFields → Bool) {x : SlotFields} → p x ≡ true → (xs : List SlotFields) (k : ℕ)
    → k < length xs → get_or xs k x ≡ x → 0 < length (filter p xs)
kept-some p is [] k within same = absurd (omega (arith, within))
kept-some p is (y ∷ ys) zero within same = ap-kept (p y) (ap p same ∙ is)
  where
    ap-kept : (b : Bool) → b ≡ true → 0 < length (cond b (y ∷ filter p ys) (filter p ys))
    ap-kept true e = omega arith
    ap-kept false e = absurd cc
kept-some p {x} is (y ∷ ys) (suc k) within same =
    at (p y) (kept-some p is ys k (omega (arith, within)) same)
  where
    at : (b : Bool) → 0 < length (filter p ys) → 0 < length (cond b (y ∷ filter p ys) (filter p ys))
    at true some = omega arith
    at false some = some

-- a bit rate that isn't refused is a bit rate of the class
pub no-rate_none : {rate : ℕ} (class : ClassFields) → rate_refusal rate class ≡ None
    → IsRate rate class
no-rate_none {rate} class none = at (is_rate rate class) refl none
  where
    found : is_rate rate class ≡ true → IsRate rate class
    found is =
        let kept = some-kept all_slots
        (ltb-true 0 (length (menu_in (Constant rate) class)) is) in
        (kept.0, kept.1, eqb-true (rate_of class kept.0) rate kept.2)

    at : (b : Bool) → is_rate rate class ≡ b → cond b None (Some (NoRate rate)) ≡ None
        → IsRate rate class
    at true is e = found is
    at false is e = absurd cc

-- a bit rate of the class isn't refused
pub rate-none : {rate : ℕ} (class : ClassFields) → IsRate rate class
    → rate_refusal rate class ≡ None
rate-none class is = grind (arith, lt-ltb, kept-some, eq-eqb)

-- ---- a plan

laid : {window : ℕ} {menu : List SlotFields} {needs : List Need} {placed : List Placed}
    → IsMenuPlan window menu needs placed
    → (lead_in : Bool) × CanBeLaidFromMenu window lead_in menu needs
unfolding CanBeLaid
laid {placed = placed} plan = grind (arith, placed)

-- all frames are chosen
same-chosen : {a b : Chosen} {r : Result Chosen EditFault} → r ≡ Ok a → r ≡ Ok b → a ≡ b
same-chosen e d = cc

both-answers : {a : Chosen} {fault : EditFault} {r : Result Chosen EditFault} → r ≡ Ok a
    → r ≡ Err fault → ⊥
both-answers e d = absurd cc

module _ (file : List ℕ) {s : SurveyFields} (is : survey_of file most_frames ≡ Ok s) where
  abbrev chosen : Chosen
  chosen = record {
    from = 0;
    to = length s.frames;
    quality = (head_info file s.head).quality;
    extension =
        (head_info file s.head).extension;
  }

  choose-all : all_choice file s ≡ Ok chosen
  unfolding all_choice
  choose-all = grind (arith, within-ok, some-frames)

  abbrev needs : List Need
  needs = chosen_needs chosen s

  needs-all : needs ≡ map need_of s.frames
  needs-all = ap (map need_of) (range-whole s.frames)

  -- frames that have a plan are laid
  pub planned-made : (plan : Planning) {placed : List Placed} → plan s.class needs ≡ Ok placed
      → (bytes : List ℕ) × (laying_making all_choice plan file s ≡ Ok bytes)
  planned-made plan {placed} planned = (
    file_laid (placed_part chosen placed) file s,
    laying-is all_choice plan choose-all planned,
  )

  made-planned : (plan : Planning) {bytes : List ℕ}
      → laying_making all_choice plan file s ≡ Ok bytes
      → (placed : List Placed) × (plan s.class needs ≡ Ok placed)
  made-planned plan {bytes} made =
      grind (arith, laid-parts all_choice plan made, same-chosen, choose-all)

  -- ---- from a menu

  some : 0 < length s.frames
  some = some-frames file most_frames is

  placed : IsPlacedSurvey s
  placed = survey_fields-placed file most_frames (survey_of-parts file most_frames is).1

  needs-some : 1 ≤ length needs
  needs-some = grind (arith, rows-some, placed, some, length-map)

  module _ (mode : PackMode) (none : no_rate mode s.class ≡ None) where
    abbrev menu : List SlotFields
    menu = menu_in mode s.class

    abbrev window : ℕ
    window = window_of s.class.version

    menu-law : ((placed : List Placed)
        → IsMenuPlan window menu needs placed ↔ (least_menu_plan window menu needs ≡ Ok placed))
        × ((i : ℕ)
        → IsFirstUnfitFrame window menu needs i ↔ (least_menu_plan window menu needs ≡ Err i))
    menu-law =
        least_menu_plan-is window s.class menu needs (rows-same chosen s placed some (omega arith))
        needs-some (menu-ascends mode s.class (rows-sound chosen s placed some (omega arith)))
        (menu-some mode s.class none)

    -- where no frame is unfit
    fit-made : ((i : ℕ) → least_menu_plan window menu needs ≡ Err i → ⊥)
        → (bytes : List ℕ) × (laying_making all_choice (rates_plan mode) file s ≡ Ok bytes)
    fit-made fits = at (least_menu_plan window menu needs) refl
      where
        at : (r : Result (List Placed) ℕ) → least_menu_plan window menu needs ≡ r
            → (bytes : List ℕ) × (laying_making all_choice (rates_plan mode) file s ≡ Ok bytes)
        at (Ok found) e = planned-made (rates_plan mode)
            (plan-is chosen s placed some (omega arith) mode none e)
        at (Err i) e = absurd (fits i e)

    room-made : (lead_in : Bool) → CanBeLaidFromMenu window lead_in menu (map need_of s.frames)
        → (bytes : List ℕ) × (laying_making all_choice (rates_plan mode) file s ≡ Ok bytes)
    room-made lead_in can = fit-made (λ i e. ((menu-law.1 i).1 e).never lead_in
        (subst (CanBeLaidFromMenu window lead_in menu) (sym needs-all) can))

    plan-room : {found : List Placed} → least_menu_plan window menu needs ≡ Ok found
        → (lead_in : Bool) × CanBeLaidFromMenu window lead_in menu (map need_of s.frames)
    plan-room {found} e =
        let room = laid ((menu-law.0 found).1 e) in
        (room.0, subst (CanBeLaidFromMenu window room.0 menu) needs-all room.1)

  rates-parts : (mode : PackMode) {bytes : List ℕ}
      → laying_making all_choice (rates_plan mode) file s ≡ Ok bytes
      → (none : no_rate mode s.class ≡ None) × (found : List Placed)
      × (least_menu_plan (window_of s.class.version) (menu_in mode s.class) needs ≡ Ok found)
  rates-parts mode made = grind (arith, made-planned, then_ok, refusal_or-ok, fitted_plan-ok)

  -- a packing with one bit rate that isn't refused has a bit rate of the class, and room
  pub constant-legal : {rate : ℕ} {bytes : List ℕ}
      → laying_making all_choice (rates_plan (Constant rate)) file s ≡ Ok bytes
      → IsRate rate s.class × HasRateRoom rate s
  constant-legal {rate} {bytes} made =
      let parts = rates-parts (Constant rate) made in
      (no-rate_none s.class parts.0, plan-room (Constant rate) parts.0 parts.2)

  -- with such a bit rate and room, the packing isn't refused
  pub legal-constant : {rate : ℕ} → IsRate rate s.class × HasRateRoom rate s
      → (bytes : List ℕ) × (laying_making all_choice (rates_plan (Constant rate)) file s ≡ Ok bytes)
  legal-constant {rate} legal =
      room-made (Constant rate) (rate-none s.class legal.0) legal.1.0 legal.1.1

  -- a packing with bit rates from one on that isn't refused has a bit rate of the class
  pub floor-legal : {rate : ℕ} {bytes : List ℕ}
      → laying_making all_choice (rates_plan (Floor rate)) file s ≡ Ok bytes → IsRate rate s.class
  floor-legal {rate} {bytes} made = no-rate_none s.class (rates-parts (Floor rate) made).0

  -- with such a bit rate, the packing isn't refused
  pub legal-floor : {rate : ℕ} → IsRate rate s.class
      → (bytes : List ℕ) × (laying_making all_choice (rates_plan (Floor rate)) file s ≡ Ok bytes)
  legal-floor {rate} legal =
      let none = rate-none s.class legal in
      fit-made (Floor rate) none
      (λ i e. floor-unfit chosen s placed some (omega arith) rate none e)

  -- ---- no room in slots of one bit rate

  -- a packing with a bit rate of the class is refused with the first frame that has no room
  pub unfit-made : (rate : ℕ) {i : ℕ} → no_rate (Constant rate) s.class ≡ None
      → IsFirstUnfit rate s i
      → laying_making all_choice (rates_plan (Constant rate)) file s ≡ Err (Refused (Unfit i))
  unfit-made rate {i} none unfit =
      let window = window_of s.class.version in
      let is_unfit : IsFirstUnfitFrame window (menu_in (Constant rate) s.class) needs i =
      grind (arith, needs-all) in
      let least = ((menu-law (Constant rate) none).1 i).0 is_unfit in
      laying-is all_choice (rates_plan (Constant rate))
      choose-all (plan-is chosen s placed some (omega arith) (Constant rate) none least)

  plan-unfit : (rate : ℕ) {i : ℕ}
      → rates_plan (Constant rate) s.class needs ≡ Err (Refused (Unfit i))
      → (none : no_rate (Constant rate) s.class ≡ None) ×
      (least_menu_plan (window_of s.class.version) (menu_in (Constant rate) s.class) needs ≡ Err i)
  plan-unfit rate {i} e = at (is_rate rate s.class) refl e
    where
      menu : (r : Result (List Placed) ℕ) → fitted_plan r ≡ Err (Refused (Unfit i)) → r ≡ Err i
      menu (Ok placed) e = absurd cc
      menu (Err k) e = cc

      at : (b : Bool) → is_rate rate s.class ≡ b → then_made
          (refusal_or (cond b None (Some (NoRate rate))) (menu_in (Constant rate) s.class))
          (λ menu. fitted_plan (least_menu_plan (window_of s.class.version) menu needs))
          ≡ Err (Refused (Unfit i)) → (none : no_rate (Constant rate) s.class ≡ None)
          × (least_menu_plan (window_of s.class.version) (menu_in (Constant rate) s.class) needs
          ≡ Err i)
      at b is e = grind arith

  -- a packing that is refused with `Unfit` has a bit rate of the class, and names that frame
  pub made-unfit : {rate i : ℕ}
      → laying_making all_choice (rates_plan (Constant rate)) file s ≡ Err (Refused (Unfit i))
      → IsRate rate s.class × IsFirstUnfit rate s i
  made-unfit {rate} {i} e =
      elim (laid-fault all_choice (rates_plan (Constant rate)) e)
      as (λ _. IsRate rate s.class × IsFirstUnfit rate s i) [
        | inl refused ↦ grind (arith, both-answers, choose-all)
        | inr no_plan ↦
            let same = same-chosen no_plan.1 choose-all in
            let plan = plan-unfit rate (subst (λ (c : Chosen). rates_plan (Constant rate)
            s.class (chosen_needs c s) ≡ Err (Refused (Unfit i))) same no_plan.2) in
            let unfit = ((menu-law (Constant rate) plan.0).1 i).1 plan.1 in (
              no-rate_none s.class plan.0,
              subst (λ l. IsFirstUnfitFrame (window_of s.class.version)
                  (menu_in (Constant rate) s.class) l i)
                  needs-all unfit,
            )
      ]
