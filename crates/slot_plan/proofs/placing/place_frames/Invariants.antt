-- The frames so far are placed, and what the frames from here on need is free.
use Rattle.std.proofs.Common.{drop, length, map, ◌+◌, ◌≡◌, ◌≤◌}
use Rattle.std.specs.Prelude.{vec_capacity, vec_len}
use Rattle.slot_plan.specs.Parts.{need_item}
use Rattle.slot_plan.specs.Reserve.{AreReservesInWindow, open_frames, PlacesMore, reserve_before}
use Rattle.slot_plan.specs.Reserve.{reserves_behind}
use Rattle.slot_plan.proofs.placing.place_frames.Given as goal

abbrev pub invariant-loop-need : goal.invariant-loop-need
invariant-loop-need g l = record {
  room : vec_len l.placed + length (drop l.need-index l.part) ≤ vec_capacity l.placed;
  free : l.free ≤ l.window;
  enough : reserve_before (open_frames (g.O.Offer.slots_of l.offer) (drop l.need-index l.part))
      ≤ l.free;
  within : AreReservesInWindow
      l.window (open_frames (g.O.Offer.slots_of l.offer) (drop l.need-index l.part));
  behind : l.behind.items
      ≡ reserves_behind (open_frames (g.O.Offer.slots_of l.offer) (drop l.need-index l.part));
  placed : PlacesMore l.window l.initial.free l.free (map (need_item (g.O.Offer.slots_of l.offer))
      l.part) (map (need_item (g.O.Offer.slots_of l.offer)) (drop l.need-index l.part))
      l.initial.placed.items l.placed.items;
}
