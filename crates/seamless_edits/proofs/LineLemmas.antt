-- The lines of the inputs, in order.
use Rattle.std.proofs.Common.{append_assoc, ap₂, arith, drop, length, List, refl, subst, ℕ, []}
use Rattle.std.proofs.{Common.{◌++◌, ◌+◌, ◌∙◌, ◌∷◌, ◌≡◌, ◌≤◌}, lemmas.List.{drop-map, drop_all}}
use Rattle.std.specs.Prelude.{codes, decimal}
use Rattle.joined_inputs.specs.Inputs.{input_names, InputFields}
use Rattle.outside.proofs.SentLemmas.{sent_more_on, sent_more_prefix}
use Rattle.outside.specs.{BufferOutput.{SendsWaiting, SentPrefix}, Files.Sent}
use Rattle.seam_plan.specs.{Seams.left_out_count, declared.seam.Seam.TheVariants.Follows}
use Rattle.seam_plan.specs.declared.splice.Joint.{Joint}
use Rattle.seamless_edits.specs.{Lines.told_by, LostFrames.lost_from, Seamless.seam_text}

-- ---- what is told

-- an input is told before those after it
pub told-cons : {names ns : List (List ℕ)} {joints js : List Joint} {lost ls : List (List ℕ)}
    {name : List ℕ} {joint : Joint} {numbers : List ℕ} → names ≡ name ∷ ns → joints ≡ joint ∷ js
    → lost ≡ numbers ∷ ls → told_by names joints lost ≡ record {
      name = name;
      seam = joint.seam;
      lost = lost_from (left_out_count joint.seam) numbers;
    } ∷ told_by ns js ls
told-cons named joined counted = rw (named, joined, counted) refl

told-none : (names : List (List ℕ)) (lost : List (List ℕ)) → told_by names [] lost ≡ []
told-none [] lost = refl
told-none (name ∷ names) lost = refl

-- past the last joint nothing is told
pub told-past : (names : List (List ℕ)) (joints : List Joint) (lost : List (List ℕ)) {i : ℕ}
    → length joints ≤ i → told_by names (drop i joints) lost ≡ []
told-past names joints lost {i} past = rw (drop_all i joints past) (told-none names lost)

-- the name of an input comes before the names of those after it
pub name-next : (inputs : List InputFields) (n : ℕ) {i : InputFields}
    → drop n inputs ≡ i ∷ drop (n + 1) inputs
    → drop n (input_names inputs) ≡ i.name ∷ drop (n + 1) (input_names inputs)
name-next inputs n is = grind (arith, drop-map)

-- ---- one line

-- an input that follows
pub follows-line : (n : ℕ) (end : List ℕ)
    → codes ": follows, " ++ (decimal n ++ (codes " frames left out" ++ end))
    ≡ codes ": " ++ (seam_text (Follows n) ++ end)
follows-line n end = grind (arith, append_assoc)

-- the name, and the rest of the line after it
module _ (waits : List ℕ) {name piece rest line : List ℕ} (mid : List ℕ) (s t u : Sent)
    (named : piece ≡ name)
    (is : line ≡ rest) where
  line-whole : (waits ++ piece) ++ line ≡ waits ++ (name ++ rest)
  line-whole = append_assoc waits piece line ∙ ap₂ (λ (a b : List ℕ). waits ++ (a ++ b)) named is

  -- if the name was passed on and then the rest, the whole line was
  pub line-on : {after : List ℕ} → SendsWaiting (waits ++ piece) mid s t
      → SendsWaiting (mid ++ line) after t u → SendsWaiting (waits ++ (name ++ rest)) after s u
  line-on first more = grind (arith, line-whole, sent_more_on)

  -- if only a part of the rest was passed on, a part of the line was
  pub line-part : SendsWaiting (waits ++ piece) mid s t → SentPrefix (mid ++ line) t u
      → SentPrefix (waits ++ (name ++ rest)) s u
  line-part first part =
      subst (λ text. SentPrefix text s u) line-whole (sent_more_prefix line first part)
