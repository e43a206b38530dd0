-- The only area is the greatest.
use Rattle.std.proofs.Common.{ap₂, rules, sym, ◌∙◌}
use Rattle.frame_header.specs.Tables.{area_of}
use Rattle.slot_plan.proofs.AreaLemmas.{greatest_number-one}
use Rattle.slot_plan.proofs.policy.KeepPolicy.largest_area_by.Goals as goal

pub returns : goal.returns
returns c = record {
  largest = c.area_of.ensures.area
      ∙ ap₂ (λ k h. area_of k h.slot h.protected) c.requires.class c.header.view_is
      ∙ sym (greatest_number-one _);
  own = search rules;
}
