-- The first input begins, and each of the others is decided after those before it.
use Rattle.std.proofs.Common.{ap₂, arith, false, get_or, length, List, map, None, refl, ◌<◌, ◌≡◌}
use Rattle.std.proofs.lemmas.List.{length-map}
use Rattle.commands.proofs.RefusingLemmas.{err_with}
use Rattle.joined_inputs.proofs.InputLemmas.{can-some}
use Rattle.joined_inputs.specs.Inputs.{input_names, input_view, InputFields}
use Rattle.outside.specs.Seen.{seen_folder}
use Rattle.seamless_edits.proofs.DecideAllLemmas.{AreAllDecided, at-end, begun-at, can-begin-at}
use Rattle.seamless_edits.proofs.{DecideAllLemmas.get-here, KnownLemmas.get-at}
use Rattle.seamless_edits.proofs.ReadFaultLemmas.{fault-later}
use Rattle.seamless_edits.proofs.decided.decide_all.Goals.{After-as_slice}
use Rattle.seamless_edits.specs.declared.beginnings.Beginning.{Beginning}
use Rattle.seamless_edits.proofs.decided.decide_all.Given as given
use Rattle.seamless_edits.proofs.decided.decide_all.Goals as goal

abbrev no-beginning : Beginning
no-beginning = record { head = None; blank = false }

pub begin-requires : goal.begin-requires
begin-requires g c = can-begin-at _ c.requires.can c.input_at.ensures

pub loop-number-init : goal.loop-number-init
loop-number-init g c =
    let inputs = map input_view c.args.inputs.now in
    let some = can-some c.requires.can.joined in
    let within : 0 < length c.args.beginnings.now = omega (arith, some, c.requires.can.begun) in
    record {
      within = omega (arith, some, length-map c.args.inputs.now input_view);
      decided = begun-at inputs c.args.beginnings.now c.requires.can
          (get-at inputs 0 c.input_at.ensures)
          (get-here c.args.beginnings.now 0 _ within) c.in_ok-deciding.ensures;
      files = refl;
      counts = refl;
    }

pub overflow_cast-number : goal.overflow_cast-number
overflow_cast-number g c =
    omega (
      arith,
      c.loop-number-test.true,
      c.requires.can.joined.few,
      length-map c.args.inputs.now input_view,
    )

pub returns-in_err-add-clause-refused : goal.returns-in_err-add-clause-refused
returns-in_err-add-clause-refused g c =
    err_with _ _ c.from_residual-in_err-add.ensures.1
    (fault-later (input_names (map input_view c.args.inputs.now)) _ _ (ap₂ seen_folder
    c.loop-number.invariant.files c.loop-number.invariant.counts) c.in_err-add.ensures.refused)

pub front_of-front-requires-clause-begin : goal.front_of-front-requires-clause-begin
front_of-front-requires-clause-begin g c = can-begin-at _ c.requires.can c.input_at.ensures

-- all inputs are decided
module _ (g : given.Over) (c : After-as_slice g) where
  abbrev inputs : List InputFields
  inputs = map input_view c.args.inputs.now

  abbrev bs : List Beginning
  bs = c.args.beginnings.now

  count : c.loop-number.number ≡ length inputs
  count = grind (arith, length-map)

  within : 0 < length bs
  within = omega (arith, can-some c.requires.can.joined, c.requires.can.begun)

  decided : AreAllDecided (g.D.Folder.seen c.args.folder.now).files inputs bs
      (input_view c.input_at.result.now).survey (get_or bs 0 no-beginning) c.loop-number.deciding
  decided =
      at-end _ c.loop-number.deciding inputs bs c.requires.can c.input_at.ensures (get-here bs 0
      no-beginning within) c.loop-number.number count c.loop-number.invariant.decided

pub front_of-front-requires-clause-fits : goal.front_of-front-requires-clause-fits
front_of-front-requires-clause-fits g c =
    rw (c.as_slice.ensures.value)
    (decided g (goal.at.front_of-front-requires-clause-fits g c).After-as_slice).fits

pub front_of-front-requires-clause-first : goal.front_of-front-requires-clause-first
front_of-front-requires-clause-first g c =
    rw (c.as_slice.ensures.value)
    (decided g (goal.at.front_of-front-requires-clause-first g c).After-as_slice).first

pub returns-clause-decided : goal.returns-clause-decided
returns-clause-decided g c =
    (decided g (goal.at.returns-clause-decided g c).After-as_slice).joined c.front_of-front.result
    (record {
      is = grind arith;
      behind = c.front_of-front.ensures.behind;
    })
