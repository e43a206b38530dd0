-- A splice of inputs of one class that fit after no bytes sounds like the frames that they bring.
use Rattle.std.proofs.Common.{ap, arith, drop, List, refl, ℕ, [], ◌++◌, ◌∙◌, ◌∷◌, ◌≡◌}
use Rattle.std.proofs.lemmas.List.{map-append}
use Rattle.frame_header.specs.{Fields.ClassFields, Tables.window_of}
use Rattle.seam_plan.proofs.FollowLemmas.{added, sounds}
use Rattle.seam_plan.proofs.SpliceFitLemmas.{AddOwn, AllFitAlone, FitsWindow, joints-added}
use Rattle.seam_plan.specs.Frames.{Brought, needs_of, SpliceFrame}
use Rattle.seam_plan.specs.Seams.{JointFrames, joints_of, left_out_count, splice_with}
use Rattle.slot_plan.{proofs.FreeByteLemmas.more-behind, specs.FreeBytes.FitsBehind}
use Rattle.slot_plan.specs.{Parts.AreNeedsOfClass, declared.needs.Need.Need}

-- two lists of needs of a class make one list of that class
pub class-append : (class : ClassFields) (xs ys : List Need) → AreNeedsOfClass class xs
    → AreNeedsOfClass class ys → AreNeedsOfClass class (xs ++ ys)
unfolding AreNeedsOfClass
class-append class [] ys first second = second
class-append class (x ∷ xs) ys first second = (first.0, class-append class xs ys first.1 second)

-- the sounds of the frames that inputs bring, except those that are left out
abbrev pub sounds_left : List JointFrames → List Brought → List (List ℕ)
sounds_left [] inputs = []
sounds_left (joint ∷ joints) [] = []
sounds_left (joint ∷ joints) (input ∷ inputs) =
    sounds (drop (left_out_count joint.seam) input.frames) ++ sounds_left joints inputs

-- ---- the inputs

-- what is known of an input: its frames are of the class and fit after no bytes
pub record IsFit (class : ClassFields) (input : Brought) : Type 0 where
  pub same : AreNeedsOfClass class (needs_of input.frames)
  pub fits : FitsBehind (window_of class.version) 0 (needs_of input.frames)

abbrev pub AreFit : ClassFields → List Brought → Type 0
AreFit class [] = Unit {0}
AreFit class (input ∷ inputs) = IsFit class input × AreFit class inputs

module _ (class : ClassFields) where
  all-alone : (inputs : List Brought) → AreFit class inputs → AllFitAlone class inputs
  all-alone [] are = tt
  all-alone (input ∷ inputs) are = (are.0.fits, all-alone inputs are.1)

  added-sounds : (joints : List JointFrames) (inputs : List Brought) → AddOwn joints inputs
      → sounds (added joints) ≡ sounds_left joints inputs
  added-sounds [] [] own = refl
  added-sounds [] (input ∷ inputs) own = absurd own
  added-sounds (joint ∷ joints) [] own = absurd own
  added-sounds (joint ∷ joints) (input ∷ inputs) own =
      grind (arith, map-append, added, added-sounds joints inputs own.1)

  -- ---- the splice

  module _ {first : Brought} (inputs : List Brought) (fit : IsFit class first)
      (are : AreFit class inputs) where
    abbrev joints : List JointFrames
    joints = joints_of class first inputs

    abbrev window : ℕ
    window = window_of class.version

    whole : AddOwn joints inputs × FitsWindow class (splice_with first joints)
    whole =
        joints-added class first.frames first inputs
        (more-behind window (needs_of first.frames) (omega arith) fit.fits)
        (all-alone inputs are)

    -- the splice sounds like the first input, and then like what is left of the others
    pub splice-sounds : sounds (splice_with first joints)
        ≡ sounds first.frames ++ sounds_left joints inputs
    splice-sounds =
        map-append (λ (f : SpliceFrame). f.sound) first.frames (added joints)
        ∙ ap (λ (l : List (List ℕ)). sounds first.frames ++ l) (added-sounds joints inputs whole.0)
