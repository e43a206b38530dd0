-- The header, and the check word after it.
use Rattle.std.proofs.Common.{drop, rules, sym, ◌∙◌}
use Rattle.side_info.proofs.FrontLemmas.{head-alone, head-word}
use Rattle.side_info.proofs.frame_front.FrameFront.put_head.Goals as goal

pub returns-then-protected : goal.returns-then-protected
returns-then-protected c = record {
  offset = search rules;
  head = let f = c.args.self.now in
      head-word f.header f.side c.args.room.now (c.copy_from_slice.ensures.after ∙ c.four.ensures)
      (sym c.protected.ensures ∙ c.if-protected.true) c.right_crc.ensures
      c.put_crc.ensures;
}

pub returns-else-protected : goal.returns-else-protected
returns-else-protected c = record {
  offset = search rules;
  head = let f = c.args.self.now in
      head-alone f.header f.side (drop 4 c.args.room.now)
      (c.copy_from_slice.ensures.after ∙ c.four.ensures)
      (sym c.protected.ensures ∙ c.if-protected.false);
}
