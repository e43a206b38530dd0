-- Whether the shared frames are alike, where the inputs' contents are known.
use Rattle.std.proofs.Common.{arith, Bool, cond, false, length, List, None, Option, Some, sym, ℕ}
use Rattle.std.proofs.{Common.{◌-◌, ◌∙◌, ◌∷◌, ◌≡◌, ◌≤◌}, lemmas.List.length-map}
use Rattle.exact_span.specs.declared.overlap.Overlap.{Overlap}
use Rattle.frame_header.specs.Fields.{ClassFields}
use Rattle.joined_inputs.specs.Inputs.{InputFields}
use Rattle.outside.specs.Files.{Contents, Files, IfTold, Told, Untold}
use Rattle.seam_plan.specs.Decisions.{CanFollow, frame_place, IsBroughtInput, IsSplice, last_places}
use Rattle.seam_plan.specs.{Frames.{Brought, SpliceFrame}, Seams.overlap_of}
use Rattle.seam_plan.specs.declared.{input.Input.Input, splice.{FramePlace.FramePlace, Run.Run}}
use Rattle.seamless_edits.proofs.DecideLemmas.{alike-few, alike-tested, sounds_from}
use Rattle.seamless_edits.specs.{Deciding.IsSharedOverlap, Sounds.{all_splice_frames, same_sounds}}

-- the input shares these frames with the one before it
abbrev pub Finds : Run → Input → Overlap → Type 0
Finds splice input overlap =
    (class : ClassFields) (frames : List SpliceFrame) (places : List FramePlace)
    (before brought : Brought) → IsSplice class frames places before splice
    → IsBroughtInput input brought → Some overlap ≡ overlap_of class before brought

-- these frames are the last of the splice
abbrev pub HasLast : Run → ℕ → Option (List FramePlace) → Type 0
HasLast splice count last =
    (class : ClassFields) (frames : List SpliceFrame) (places : List FramePlace) (before : Brought)
    → IsSplice class frames places before splice → count ≤ 7 → last ≡ last_places places count

module _ (inputs : List InputFields) (number : ℕ) {splice : Run} {input : Input}
    {overlap : Overlap} (finds : Finds splice input overlap) (can : CanFollow input overlap) where
  within-brought : {brought : Brought} → IsBroughtInput input brought
      → overlap.frames ≤ length brought.frames
  within-brought brings = grind (arith, length-map)

  few-count : overlap.frames - overlap.first_alike ≤ 7
  few-count = omega (arith, can.few)

  -- if the splice has no such last frames, the overlap isn't alike
  pub none-alike : (files : Files) {last : Option (List FramePlace)}
      → HasLast splice (overlap.frames - overlap.first_alike) last → last ≡ None
      → IsSharedOverlap files inputs number splice input None
  none-alike (Untold touched) has none = tt
  none-alike (Told f) has none = λ class frames places before brought is brings sounds there.
      alike-few class (all_splice_frames f inputs) number frames places before brought
      is.same (within-brought brings) can.some sounds there
      (finds class frames places before brought is brings)
      (sym none ∙ has class frames places before is few-count)

  -- if the splice has such last frames, the test of their sounds decides
  pub tested-alike : (files : Files) {last : List FramePlace} (b : Bool)
      → HasLast splice (overlap.frames - overlap.first_alike) (Some last) → IfTold files
      (λ f. sounds_from (all_splice_frames f inputs) number overlap.first_alike last ≡ b)
      → IsSharedOverlap files inputs number splice input (cond b (Some overlap) None)
  tested-alike files b has test = grind (arith, alike-tested, within-brought, few-count)

-- one more frame is compared
module _ (inputs : List InputFields) (number frame : ℕ) {p : FramePlace}
    {places rest : List FramePlace} (is : places ≡ p ∷ rest) where
  abbrev Same : Files → Bool → Type 0
  Same files b =
      IfTold files (λ f. b ≡ same_sounds (all_splice_frames f inputs) p (frame_place number frame))

  -- if a frame doesn't sound the same, not all do
  pub ends-here : (files : Files) (all : Contents → Bool) {b : Bool} → b ≡ false → Same files b
      → IfTold files (λ f. sounds_from (all_splice_frames f inputs) number frame places ≡ all f)
      → IfTold files (λ f. all f ≡ false)
  ends-here files all so same before = grind arith
