-- Lists of areas, one for each frame: which there are, and which is the least.
use Rattle.std.specs.Prelude.{Contains, List, ℕ, [], ◌<◌, ◌∷◌, ◌≡◌, ◌⊎◌}
use Rattle.slot_plan.specs.Layouts.{FrameLengths, HasLayout}

-- a frame whose slot isn't decided: the length of its main
-- data in bytes, and the areas among which it may choose
pub record OpenFrame : Type 0 where
  pub bytes : ℕ
  pub areas : List ℕ

-- an area for each frame, one of those among which it may choose
unfoldable pub AreChosenAreas : List OpenFrame → List ℕ → Type 0
AreChosenAreas [] [] = Unit {0}
AreChosenAreas [] (area ∷ areas) = ⊥
AreChosenAreas (o ∷ opens) [] = ⊥
AreChosenAreas (o ∷ opens) (area ∷ areas) = Contains o.areas area × AreChosenAreas opens areas

-- the frames with these areas
unfoldable pub frames_with_areas : List OpenFrame → List ℕ → List FrameLengths
frames_with_areas [] areas = []
frames_with_areas (o ∷ opens) [] = []
frames_with_areas (o ∷ opens) (area ∷ areas) =
    record { bytes = o.bytes; area = area } ∷ frames_with_areas opens areas

-- some choice of areas has a layout
unfoldable pub CanBeLaid : ℕ → List OpenFrame → Type 0
CanBeLaid window opens =
    (areas : List ℕ) × AreChosenAreas opens areas
    × HasLayout window 0 (frames_with_areas opens areas)

-- in lexicographic order, the first list doesn't come after the second
unfoldable pub IsNotBehind : List ℕ → List ℕ → Type 0
IsNotBehind [] [] = Unit {0}
IsNotBehind [] (n ∷ ns) = Unit {0}
IsNotBehind (m ∷ ms) [] = ⊥
IsNotBehind (m ∷ ms) (n ∷ ns) = (m < n) ⊎ ((m ≡ n) × IsNotBehind ms ns)

-- the lexicographically least list among the choices that have a layout
pub record IsLeastList (window : ℕ) (opens : List OpenFrame) (areas : List ℕ) : Type 0 where
  pub chosen : AreChosenAreas opens areas
  pub feasible : HasLayout window 0 (frames_with_areas opens areas)
  pub least : (others : List ℕ) → AreChosenAreas opens others
      → HasLayout window 0 (frames_with_areas opens others) → IsNotBehind areas others
