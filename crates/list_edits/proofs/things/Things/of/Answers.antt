-- All things of the file are left, in order.
use Rattle.std.proofs.Common.{ap, append_assoc, map, sym, ◌∙◌}
use Rattle.list_edits.proofs.ThingsLemmas.{ordered_things-is}
use Rattle.list_edits.specs.Things.{frames_from, head_thing, junk_of, offset_of, things_left}
use Rattle.list_edits.specs.declared.things.Thing.TheVariants.{Block}
use Rattle.sync_survey.specs.{Faults.survey_view, Order.merged_list}
use Rattle.list_edits.proofs.things.Things.of.Goals as goal

pub returns : goal.returns
unfolding things_left
returns c =
    let s = survey_view c.args.survey.now in
    rw (
      c.new.ensures.firsts,
      c.new.ensures.seconds,
      c.new.ensures.number,
      c.blocks-2.ensures,
      c.frames.ensures,
      c.junk_of.ensures,
      c.head_of.ensures,
    )
    (ap (merged_list offset_of (map Block s.blocks))
    (append_assoc (junk_of s) (head_thing s.first s.head) (frames_from 0 s.frames)))
    ∙ sym (ordered_things-is c.requires)
