-- The front of the first frame that waits, and after it the first bytes of the areas.
use Rattle.std.proofs.Common.{ap, arith, drop, length, List, option_copied, rules, subst, sym, take}
use Rattle.std.proofs.{Common.{ℕ, ◌++◌, ◌∙◌, ◌∷◌, ◌≡◌, ◌≤◌}, lemmas.Grind.common_steps}
use Rattle.circular_buffer.specs.Buffer.{Buffer}
use Rattle.frame_writer.proofs.FrameLemmas.{first-framed_bytes, first-kept}
use Rattle.frame_writer.proofs.WritingLemmas.{err-map, first-handed, first-part, prefix-piece}
use Rattle.frame_writer.proofs.queue.FrameQueue.take_first.Goals.{After-drop_first}
use Rattle.frame_writer.proofs.queue.FrameQueue.take_first.Goals.{After-unwrap-first}
use Rattle.frame_writer.specs.Frames.{AreFieldsOfClass, first_bytes, frame_area, framed_bytes}
use Rattle.frame_writer.specs.{Frames.held_bytes, Laid.{AreAreasLaid, FrameData}}
use Rattle.side_info.specs.FrameFields.{FrameFields}
use Rattle.frame_writer.proofs.queue.FrameQueue.take_first.Given as given
use Rattle.frame_writer.proofs.queue.FrameQueue.take_first.Goals as goal

-- the first frame that waits, and the others
first : (g : given.Over) (c : After-unwrap-first g)
    → c.self.inside.kept.items ≡ c.unwrap-first.result.now ∷ drop 1 c.self.inside.kept.items
first g c = grind (arith, first-kept, option_copied)

pub of_class-first-requires : goal.of_class-first-requires
of_class-first-requires g c =
    sym (subst (AreFieldsOfClass c.self.inside.class) (first g
    (goal.at.of_class-first-requires g c).After-unwrap-first) c.self.invariant.3).1

-- its area is there, and is dropped
within : (g : given.Over) (c : After-unwrap-first g)
    → frame_area c.unwrap-first.result.now ≤ length c.self.inside.areas.bytes
within g c = grind (arith, first g c)

pub add_frame-added-requires-clause-within : goal.add_frame-added-requires-clause-within
add_frame-added-requires-clause-within g c =
    rw c.of_class-first.ensures
    (within g (goal.at.add_frame-added-requires-clause-within g c).After-unwrap-first)

drops : (g : given.Over) (c : After-drop_first g) → c.drop_first.new.self.bytes
    ≡ drop (frame_area c.unwrap-first.result.now) c.self.inside.areas.bytes
drops g c = grind arith

step : (g : given.Over) (c : After-drop_first g) (given : List ℕ) (ps : List FrameData)
    → AreAreasLaid given c.self.inside.areas ps → AreAreasLaid (given
    ++ take (frame_area c.unwrap-first.result.now) c.self.inside.areas.bytes)
    c.drop_first.new.self ps
step g c =
    subst (λ n. (given : List ℕ) (ps : List FrameData) → AreAreasLaid given c.self.inside.areas ps
    → AreAreasLaid (given ++ take n c.self.inside.areas.bytes) c.drop_first.new.self ps)
    c.area-area.ensures.area c.drop_first.ensures.laid

pub returns : goal.returns
returns g c = record {
  passed = grind (arith, common_steps);
  moved = first-handed
      c.self.view_is (first g (goal.at.returns g c).After-unwrap-first)
      (ap (λ (b : Buffer FrameFields). b.items) c.pop_front.ensures.items) (drops g c) (step g c)
      (within g (goal.at.returns g c).After-unwrap-first);
  part = err-map c.add_frame-added.result
      (first-part
      c.self.view_is (first g (goal.at.returns g c).After-unwrap-first)
      (ap (λ (b : Buffer FrameFields). b.items) c.pop_front.ensures.items) (drops g c) (step g c)
      (within g (goal.at.returns g c).After-unwrap-first))
      (rw c.of_class-first.ensures at c.add_frame-added.ensures.prefix);
  prefix = let k = c.unwrap-first.result.now in
      let items = c.self.inside.kept.items in
      let bytes = c.self.inside.areas.bytes in
      err-map c.add_frame-added.result
      (prefix-piece c.args.unsent.now (first_bytes k bytes)
      (framed_bytes (drop 1 items) (drop (frame_area k) bytes))
      (first-framed_bytes k (drop 1 items) bytes
      ∙ ap (λ (js : List FrameFields). framed_bytes js bytes)
      (sym (first g (goal.at.returns g c).After-unwrap-first)) ∙ ap held_bytes c.self.view_is))
      (rw c.of_class-first.ensures at c.add_frame-added.ensures.prefix);
  class = search rules;
  kept = search rules;
  left = search rules;
  free = search rules;
  reach = grind (arith, common_steps);
  failed = search rules;
  done = search rules;
  counts = search rules;
}
