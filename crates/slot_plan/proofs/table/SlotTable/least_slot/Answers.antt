-- The entry of the table is the slot.
use Rattle.std.proofs.Common.{ap, get_or, subst, sym, ℕ, ◌+◌, ◌∙◌, ◌≡◌}
use Rattle.frame_header.specs.{Fields.SlotFields, Tables.overhead_of}
use Rattle.slot_plan.{proofs.TableLemmas.least-looked, specs.SlotTables.IsShortestSlot}
use Rattle.slot_plan.proofs.table.SlotTable.least_slot.Goals as goal

pub returns : goal.returns
returns c = record {
  least = λ slots is.
      let length : ℕ = c.args.wanted + overhead_of c.args.self.now.lengths c.args.protected in
      let slot : SlotFields = c.index.result.now in
      let at : get_or c.args.self.now.by_length.items length slot ≡ slot =
      ap (λ n. get_or c.args.self.now.by_length.items (c.args.wanted + n) slot)
      (sym c.overhead_of-overhead.ensures.overhead) ∙ sym c.index.ensures in
      least-looked is
      (subst (IsShortestSlot c.args.self.now.lengths slots length) at
      (is.least length slot c.requires.within));
}
