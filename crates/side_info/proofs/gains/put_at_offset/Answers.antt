-- What is after the side information stays.
use Rattle.std.proofs.{Common.{arith, drop, length-drop, ◌+◌, ◌-◌, ◌∙◌}, lemmas.Grind.common_steps}
use Rattle.std.proofs.lemmas.{List.length-take-le, Slice.drop-put_mid}
use Rattle.frame_header.specs.Tables.{side_size_of}
use Rattle.side_info.proofs.gains.put_at_offset.Goals as goal

pub returns : goal.returns
returns c = record {
  before = grind (arith, common_steps);
  behind = drop-put_mid c.args.offset (c.args.offset + c.side_size.result - c.args.offset)
      c.args.frame.now c.put_by_class.new.bytes (c.args.offset + side_size_of c.args.class)
      (omega (arith, c.side_size.ensures.size)) (omega (arith, c.requires.room))
      (c.put_by_class.auto.bytes
      ∙ length-take-le (c.args.offset + c.side_size.result - c.args.offset)
      (drop c.args.offset c.args.frame.now)
      (simp length-drop (omega (arith, c.requires.room, c.side_size.ensures.size))));
  side = grind (arith, common_steps);
}
