-- One item more, until there is no next one or as many were read as are counted.
use Rattle.std.proofs.Common.{ap, arith, drop, length-drop, Some, sym, ◌-◌, ◌||◌, ◌∙◌, ◌≡◌}
use Rattle.std.proofs.lemmas.List.{take_rest}
use Rattle.tag_blocks.proofs.ItemsLemmas.{next_item-within, read_all, read_more, read_none}
use Rattle.tag_blocks.proofs.items.read_items.Goals.{else-loop-test, else-met}
use Rattle.tag_blocks.proofs.items.read_items.Goals.{then-loop-test+in_ok-item+in_default, then-met}
use Rattle.tag_blocks.specs.Items.{is_undo, next_item}
use Rattle.tag_blocks.proofs.items.read_items.Goals as goal

pub length-passed-requires : goal.length-passed-requires
length-passed-requires c = grind (arith, take_rest, next_item-within, length-drop)

pub overflow_add-passed : goal.overflow_add-passed
overflow_add-passed c = grind (arith, take_rest, next_item-within, length-drop)

pub loop-preserved : goal.loop-preserved
loop-preserved c =
    let bytes = c.args.bytes.now in
    let item = c.in-Some.item in
    let next : next_item c.loop.met (drop c.loop.passed bytes) ≡ Some item =
    grind (arith, take_rest) in
    let met : c.if-met.met ≡ (c.loop.met || is_undo item) =
    elim c.if-met.branch [
      | then-met w ↦ w.met-is ∙ w.if-met.true ∙ sym (ap (λ m. m || is_undo item) w.if-met.true)
      | else-met w ↦ grind arith
    ] in
    rw (met, c.length-passed.ensures, c.in_ok-push.ensures.items)
    record {
      read = grind (arith, read_more);
      within = omega (
        arith,
        next_item-within c.loop.met (drop c.loop.passed bytes) next,
        length-drop c.loop.passed bytes,
        c.loop.invariant.within,
      );
    }

pub returns : goal.returns
returns c =
    let bytes = c.args.bytes.now in
    elim c.loop-test.branch [
      | else-loop-test w ↦ read_all c.loop.met (drop c.loop.passed bytes)
          w.loop-test.false c.loop.invariant.read
      | then-loop-test+in_ok-item+in_default w ↦
          read_none (c.args.count
          - c.loop.counter) c.loop.met (drop c.loop.passed bytes) c.loop.invariant.read
          (ap (next_item c.loop.met) (sym (take_rest bytes c.loop.passed))
          ∙ sym w.in_ok-item.ensures ∙ w.in_default.is)
    ]
