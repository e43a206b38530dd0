-- One part after the other.
use Rattle.std.proofs.{Common.◌-◌, lemmas.List.take_rest}
use Rattle.bit_fields.proofs.BitsLemmas.{AreBelow-drop, AreBelow-take, AreBytes-from_slice}
use Rattle.reservoir.proofs.WindowLemmas.{part_of_two}
use Rattle.reservoir.proofs.window.part.Goals as goal

pub returns-clause-part : goal.returns-clause-part
returns-clause-part c =
    let passed = c.min-passed.result in
    part_of_two c.args.from c.args.count c.args.front.now c.args.back.now
    (take_rest c.args.front.now passed)
    (take_rest c.args.back.now (c.args.from - passed)) c.min-passed.ensures c.min-first.ensures

pub returns-clause-bytes : goal.returns-clause-bytes
returns-clause-bytes c = (
  AreBelow-take 256 c.min-first.result _
      (AreBelow-take 256 _ _ (AreBelow-drop 256 c.min-passed.result c.args.front.now
      (AreBytes-from_slice c.args.front.now c.type_inv.front))),
  AreBelow-take 256 _ _ (AreBelow-take 256 _ _
      (AreBelow-drop 256 _ c.args.back.now (AreBytes-from_slice c.args.back.now c.type_inv.back))),
)
