-- A whole frame of the class is the item that is passed.
use Rattle.std.proofs.Common.{ap, arith, inl, inr, List, refl, subst, sym, ℕ, ◌∙◌, ◌≡◌, ◌⊎◌}
use Rattle.std.proofs.lemmas.Result.{err_from_is_err_and}
use Rattle.frame_header.specs.{Fields.HeaderFields, Tables.length_of}
use Rattle.sync_survey.proofs.{LooksLemmas.step_passes, StepLemmas.{frame_passes, room_passed}}
use Rattle.sync_survey.{proofs.found.SurveySoFar.pass.Goals.Then-size-left, specs.Items.item_front}
use Rattle.sync_survey.specs.Looks.{IsFrameFault, IsNotPassed, KeepsItem, Passes, PassesFront}
use Rattle.sync_survey.specs.{Looks.Shows, declared.chains.Region.TheVariants.Stream}
use Rattle.sync_survey.specs.declared.items.Item.{Item, TheVariants.Frame}
use Rattle.sync_survey.specs.declared.survey_fault.SurveyFault.{SurveyFault, TheVariants.Memory}
use Rattle.sync_survey.proofs.found.SurveySoFar.pass.Goals as goal

-- a whole frame of the class is passed
own : (c : Then-size-left) → PassesFront c.args.bytes.now c.args.left
    (record { item = Frame c.in-Some.header; size = c.from-size.result })
own c =
    frame_passes c.args.class
    (sym c.header_of_class.ensures ∙ c.in-Some.is)
    (c.from-size.ensures ∙ c.length_of.ensures.length
    ∙ ap (λ (h : HeaderFields). length_of c.args.class h.slot) c.header.view_is) c.if-size-left.true

passes : (c : Then-size-left) → (file : List ℕ)
    → Shows file c.args.offset c.args.bytes.now c.args.left
    → Passes Stream file c.args.offset (item_front c.args.bytes.now) c.from-size.result
passes c file shows =
    let own = own c in
    subst (λ (i : Item). Passes Stream file c.args.offset i c.from-size.result) own.item
    (step_passes shows Stream
    c.from-size.result (Frame c.in-Some.header) own.item refl
    (omega (arith, own.least, own.within)) own.zeros own.own)

front : (c : Then-size-left) → PassesFront c.args.bytes.now c.args.left
    (record { item = item_front c.args.bytes.now; size = c.from-size.result })
front c = grind (arith, own)

pub judge-requires-clause-heads : goal.judge-requires-clause-heads
judge-requires-clause-heads c = grind arith

pub judge-requires-clause-room : goal.judge-requires-clause-room
judge-requires-clause-room c =
    room_passed (own (goal.at.judge-requires-clause-room c).Then-size-left)
    c.requires.many c.in-Some.header refl

pub returns-in_err-judge : goal.returns-in_err-judge
returns-in_err-judge c =
    let at = (goal.at.returns-in_err-judge c).Then-size-left in
    let p = err_from_is_err_and c.from_residual.result c.from_residual.ensures.1 in
    let a = c.args in
    let by : (fault : SurveyFault) → (fault ≡ Memory)
    ⊎ IsFrameFault a.class a.allowed a.offset (Frame c.in-Some.header) a.bytes.now a.self.now fault
    → IsNotPassed a.class a.allowed a.offset a.bytes.now a.left a.self.now fault =
    λ fault why. elim why [
      | inl memory ↦ inl memory
      | inr faulty ↦ inr (inl (record {
        size = c.from-size.result;
        passes = passes at;
        front = front at;
        faulty = subst (λ (i : Item). IsFrameFault a.class a.allowed a.offset i
            a.bytes.now a.self.now fault) (own at).item faulty;
      }))
    ] in
    rw (p.1, p.2) (by c.in_err-judge.field-0.0 c.in_err-judge.ensures)

pub returns-then-size-left : goal.returns-then-size-left
returns-then-size-left c =
    let at = (goal.at.returns-then-size-left c).Then-size-left in
    record {
      passes = passes at;
      front = front at;
      keeps = subst (λ (i : Item). KeepsItem c.args.class c.args.allowed c.args.offset i
          c.args.bytes.now c.args.self.now c.judge.new.self) (own at).item c.in_ok-judge.ensures;
    }
