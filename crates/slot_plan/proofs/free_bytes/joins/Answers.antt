-- The least slot, not less than the first's own, that
-- has what is missing; `None` if no slot has it.
use Rattle.std.proofs.Common.{ap, ap₂, arith, max, ◌∙◌}
use Rattle.frame_header.specs.Tables.{window_of}
use Rattle.slot_plan.proofs.FreeByteLemmas.{window-most}
use Rattle.slot_plan.proofs.JoinLemmas.{first-joins, first-none, first-of, first-room}
use Rattle.slot_plan.proofs.JoinLemmas.{greatest_number-in, least-in, others-fit, rising-all}
use Rattle.slot_plan.proofs.free_bytes.joins.Goals as goal

pub wants-requires : goal.wants-requires
wants-requires c = others-fit c.requires

pub overflow_add-first : goal.overflow_add-first
overflow_add-first c =
    let class = c.requires.class in
    let first = first-of class
    c.requires c.requires.same c.index-needs-0.is c.wants.ensures in
    omega (
      arith,
      first-room (window_of class.version) c.args.free c.wants.result c.area-own.result
          c.index-needs-0.result c.args.needs.now first c.area-own.ensures.area,
      window-most class.version,
      c.area-own.ensures.most,
    )

pub largest_area_of-requires : goal.largest_area_of-requires
largest_area_of-requires c =
    grind (
      arith,
      rising-all
          (c.as_slice.ensures.value ∙ c.slots-slots.ensures.slots) (c.slots-slots.ensures.ascending
          c.header.inside.protected),
    )

pub returns-then-largest_area_of-wanted : goal.returns-then-largest_area_of-wanted
returns-then-largest_area_of-wanted c = λ class same.
    let need = c.index-needs-0.result in
    let first = first-of class c.requires same
    c.index-needs-0.is c.wants.ensures in
    let gives =
    c.max-wanted.ensures ∙ ap₂ max c.saturating_sub-missing.ensures c.area-own.ensures.area in
    let largest =
    greatest_number-in c.class-class.ensures (ap (λ h. h.protected)
    c.header.view_is) (c.as_slice.ensures.value ∙ c.slots-slots.ensures.slots) in
    first-none (window_of class.version) c.args.free c.wants.result c.max-wanted.result need
    c.args.needs.now first gives
    (omega (arith, c.largest_area_of.ensures.largest, largest, c.if-largest_area_of-wanted.true))

pub least_slot_among-requires-clause-rising : goal.least_slot_among-requires-clause-rising
least_slot_among-requires-clause-rising c =
    rising-all
    (c.as_slice-2.ensures.value ∙ c.slots-slots.ensures.slots)
    (c.slots-slots.ensures.ascending c.header.inside.protected)

pub returns : goal.returns
returns c = λ class same.
    let need = c.index-needs-0.result in
    let first = first-of class c.requires same
    c.index-needs-0.is c.wants.ensures in
    let gives =
    c.max-wanted.ensures ∙ ap₂ max c.saturating_sub-missing.ensures c.area-own.ensures.area in
    let least = least-in
    c.from.ensures c.class-class.ensures (ap (λ h. h.protected) c.header.view_is)
    (c.as_slice-2.ensures.value ∙ c.slots-slots.ensures.slots) c.least_slot_among.ensures in
    first-joins (window_of class.version) c.args.free c.wants.result c.max-wanted.result need
    c.args.needs.now first gives least
