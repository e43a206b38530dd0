-- The need that is copied is the last, and is written over.
use Rattle.std.proofs.Common.{ap, ap₂, length, List, rules, slice_index_or, slice_set, ℕ, [], ◌++◌}
use Rattle.std.proofs.{Common.{◌∙◌, ◌∷◌, ◌≡◌}, Math.Seq.{get_or-append_seam, set-append_seam}}
use Rattle.slot_plan.specs.declared.needs.Need.{Need}
use Rattle.laying.proofs.parts.push_like.Goals as goal

-- the last of a list, and another instead of it
last : (xs : List Need) (x d : Need) (all : List Need) (n : ℕ) → all ≡ xs ++ x ∷ [] → n ≡ length xs
    → slice_index_or all n d ≡ x
last xs x d all n is at = ap₂ (λ l k. slice_index_or l k d) is at ∙ get_or-append_seam xs x [] d

other_last : (xs : List Need) (x y : Need) (all : List Need) (n : ℕ) → all ≡ xs ++ x ∷ []
    → n ≡ length xs → slice_set all n y ≡ xs ++ y ∷ []
other_last xs x y all n is at = ap₂ (λ l k. slice_set l k y) is at ∙ set-append_seam xs x [] y

pub returns : goal.returns
returns c = record {
  pushed = let needs = c.args.needs.now.items in
      let all = c.push_reserved.new.self.items in
      let at = c.len-place.ensures ∙ c.args.needs.now.ok.0 in
      let header = ap (λ n. n.header) (c.need.view_is ∙ c.index_mut-need.ensures.value
      ∙ last needs c.args.like.now _ all c.len-place.result c.push_reserved.ensures.items at) in
      other_last needs c.args.like.now _ all c.len-place.result c.push_reserved.ensures.items at
      ∙ ap (λ (n : Need). needs ++ n ∷ []) (λ i. record {
        header = record (header i) {
          slot = c.slot-slot.ensures i;
          mode_extension = c.mode_extension-mode_extension.ensures.value i;
        };
        bytes = c.args.bytes;
      });
  len = search rules;
  capacity = search rules;
}
