-- What becomes of one more input.
use Rattle.std.proofs.Common.{ap, arith, drop, false, get_or, IfSome, length, List, map, None, Some}
use Rattle.std.proofs.{Common.{sym, take, ◌++◌, ◌-◌, ◌<◌, ◌∙◌, ◌≡◌}, lemmas.List.length-map}
use Rattle.std.{proofs.lemmas.Slice.Zip.AllZip-long, specs.Prelude.slice_get}
use Rattle.exact_span.specs.PlayedPositions.{AreCounted, counted_positions}
use Rattle.joined_inputs.proofs.BorrowLemmas.{back-needs, borrowed-needs, front-needs}
use Rattle.joined_inputs.specs.Inputs.{input_view, InputFields}
use Rattle.laying.specs.Needs.{need_of}
use Rattle.seamless_edits.proofs.DecideAllLemmas.{all-of-one, get-here, input-few, input-of}
use Rattle.seamless_edits.proofs.DecideAllLemmas.{is-next}
use Rattle.seamless_edits.proofs.{DecideStepLemmas.{decided-step, IsInputOf}, KnownLemmas.get-at}
use Rattle.seamless_edits.proofs.decided.Deciding.add.Goals.{After-brought-input}
use Rattle.seamless_edits.specs.Deciding.{input_needs, IsNextInput}
use Rattle.seamless_edits.specs.declared.beginnings.Beginning.{Beginning}
use Rattle.slot_plan.specs.declared.needs.Need.{Need}
use Rattle.sync_survey.specs.Faults.{SurveyFields}
use Rattle.seamless_edits.proofs.decided.Deciding.add.Given as given
use Rattle.seamless_edits.proofs.decided.Deciding.add.Goals as goal

pub input_at-requires : goal.input_at-requires
input_at-requires g c = grind (arith, length-map)

pub brought-input-requires : goal.brought-input-requires
brought-input-requires g c =
    let found =
    get-at (map input_view c.args.inputs.now)
    c.args.number c.input_at.ensures in
    let own : c.append_needs.new.needs.items
    ≡ c.args.self.now.needs.items ++ input_needs (input_view c.input_at.result.now).survey =
    grind arith in
    omega (
      arith,
      input-few c.args.number c.requires.can found,
      ap length (borrowed-needs c.args.self.now.needs.items (c.len-from.ensures
          ∙ c.args.self.now.needs.ok.0) own
          c.deref.ensures.value),
    )

pub alike-requires-clause-one : goal.alike-requires-clause-one
alike-requires-clause-one g c = all-of-one c.requires.can.joined

abbrev no-beginning : Beginning
no-beginning = record { head = None; blank = false }

-- what the input is
module _ (g : given.Over) (c : After-brought-input g) where
  abbrev i : InputFields
  i = input_view c.input_at.result.now

  abbrev s : SurveyFields
  s = i.survey

  found : slice_get (map input_view c.args.inputs.now) c.args.number ≡ Some i
  found = get-at (map input_view c.args.inputs.now)
      c.args.number c.input_at.ensures

  abbrev old : List Need
  old = c.args.self.now.needs.items

  abbrev all : List Need
  all = c.append_needs.new.needs.items

  begins : c.len-from.result ≡ length old
  begins = c.len-from.ensures ∙ c.args.self.now.needs.ok.0

  own : all ≡ old ++ input_needs s
  own = grind arith

  abbrev borrowed : List Need
  borrowed = take (length c.deref.result.now - c.len-from.result)
      (drop c.len-from.result c.deref.result.now)

  borrowed_is : borrowed ≡ input_needs s
  borrowed_is = grind (arith, borrowed-needs, begins, own)

  parts : c.brought-input.result.needs.now ≡ input_needs s
  parts = c.brought-input.ensures.needs ∙ borrowed_is

  long : length borrowed ≡ length s.frames
  long = ap length borrowed_is ∙ length-map s.frames need_of

  front : take c.len-from.result all ≡ old
  front = front-needs (input_needs s) begins own

  back : drop c.len-from.result all ≡ c.brought-input.result.needs.now
  back = back-needs old begins own ∙ sym parts

  begun-within : c.args.number < length c.args.beginnings.now
  begun-within = grind (arith, AllZip-long, length-map)

  counted : IfSome c.brought-input.result.played (AreCounted s.class (length s.frames))
  counted = grind (arith, long)

  abbrev beginning : Beginning
  beginning = get_or c.args.beginnings.now c.args.number no-beginning

  begun-here : slice_get c.args.beginnings.now c.args.number ≡ Some beginning
  begun-here = get-here c.args.beginnings.now c.args.number _ begun-within

  played : c.brought-input.result.played
      ≡ counted_positions beginning.head s.class (length s.frames)
  played = grind (arith, long)

  next-of : IsNextInput (map input_view c.args.inputs.now)
      c.args.number c.args.self.now.splice c.brought-input.result
  next-of =
      is-next c.requires.can c.requires.before found
      begun-here c.brought-input.result parts c.brought-input.ensures.blank played counted

  of : IsInputOf (map input_view c.args.inputs.now)
      c.args.beginnings.now c.args.number c.requires.before.class c.brought-input.result
  of =
      input-of c.requires.can c.requires.before found
      begun-here c.brought-input.result parts c.brought-input.ensures.blank played counted

pub alike-requires-clause-next : goal.alike-requires-clause-next
alike-requires-clause-next g c =
    next-of g (goal.at.alike-requires-clause-next g c).After-brought-input

pub join-joint-requires-clause-input : goal.join-joint-requires-clause-input
join-joint-requires-clause-input g c =
    (next-of g (goal.at.join-joint-requires-clause-input g c).After-brought-input).can

pub returns-clause-decided : goal.returns-clause-decided
returns-clause-decided g c =
    let here = (goal.at.returns-clause-decided g c).After-brought-input in
    decided-step (g.D.Folder.seen c.args.folder.now).files c.requires.before (of g here)
    (record {
      joints = c.in_ok-push.ensures.items;
      needs = grind (arith, front g here, back g here);
      out = c.join-joint.ensures.fits.out;
      sound = c.join-joint.ensures.sound;
      goes = c.join-joint.ensures.goes_on;
      joins = c.join-joint.ensures.joint;
    })
    c.in_ok-alike.ensures.alike
