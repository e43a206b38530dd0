-- The least and the greatest of gains: for two lists together, and that they are two of the gains.
use Rattle.std.proofs.Common.{arith, Contains, drop, fold, get_or, inl, inr, length, List, max, min}
use Rattle.std.proofs.Common.{None, Option, refl, Some, suc, zero, ℕ, [], ◌++◌, ◌+◌, ◌<◌, ◌∷◌, ◌≡◌}
use Rattle.std.proofs.{Common.◌≤◌, lemmas.{Bool.cases_lt, List.{append-nil, drop_all, drop_more}}}
use Rattle.std.proofs.lemmas.List.Sums.{fold-append}
use Rattle.std.specs.Prelude.{IfNone, IfSome, slice_get, slice_index_or}
use Rattle.moved_gains.proofs.CourseLemmas.{out_classed}
use Rattle.moved_gains.specs.GainExtremes.{AreExtremes, extremes, extremes_of, HasChannel}
use Rattle.moved_gains.specs.GainExtremes.{joined_extremes, moving_gains, row_gains}
use Rattle.moved_gains.specs.declared.gain_extremes.Gains.{Gains}
use Rattle.sync_survey.specs.{Faults.SurveyFields, Row.Row, Survey.IsSurveyLaidOut}

-- ---- two lists together

fold-min : (a b : ℕ) (xs : List ℕ) → fold min (min a b) xs ≡ min a (fold min b xs)
fold-min a b [] = refl
fold-min a b (x ∷ xs) = grind (arith, fold-min a (min b x) xs)

fold-max : (a b : ℕ) (xs : List ℕ) → fold max (max a b) xs ≡ max a (fold max b xs)
fold-max a b [] = refl
fold-max a b (x ∷ xs) = grind (arith, fold-max a (max b x) xs)

-- the extreme gains of two lists, joined, are those of both lists together
pub joined_extremes-append : (xs ys : List ℕ)
    → joined_extremes (extremes xs) (extremes ys) ≡ extremes (xs ++ ys)
unfolding extremes
joined_extremes-append xs ys = grind (arith, append-nil, fold-append, fold-min, fold-max)

-- joining extreme gains is associative
pub joined_extremes-assoc : (f g h : Option Gains)
    → joined_extremes (joined_extremes f g) h ≡ joined_extremes f (joined_extremes g h)
joined_extremes-assoc f g h = grind arith

-- joining with no gains changes nothing
pub joined_extremes-None : (g : Option Gains) → joined_extremes g None ≡ g
joined_extremes-None g = grind arith

-- ---- frames

-- without frames no gain moves
pub moving-nil : (channel : ℕ) → moving_gains channel [] ≡ []
unfolding moving_gains
moving-nil channel = refl

-- the gains of frames are those of the first frame, then of the others
pub moving-cons : (channel : ℕ) (row : Row) (rows : List Row)
    → moving_gains channel (row ∷ rows) ≡ row_gains channel row ++ moving_gains channel rows
unfolding moving_gains
moving-cons channel row rows = refl

-- no gains have no least and no greatest
pub extremes-nil : extremes [] ≡ None
unfolding extremes
extremes-nil = refl

-- the extreme gains of frames are those of the first frame and of the others, joined
pub extremes-cons : (channel : ℕ) (row : Row) (rows : List Row) → extremes_of channel (row ∷ rows)
    ≡ joined_extremes (extremes (row_gains channel row)) (extremes_of channel rows)
extremes-cons channel row rows = grind (arith, moving-cons, joined_extremes-append)

-- ---- what they are

-- if there are no extreme gains, there are no gains
pub extremes-None : {xs : List ℕ} → extremes xs ≡ None → xs ≡ []
unfolding extremes
extremes-None e = grind arith

module _ (a x : ℕ) (xs : List ℕ) (n : ℕ) where
  min_there : (k : ℕ) → k < length (min a x ∷ xs) → slice_index_or (min a x ∷ xs) k n ≡ n
      → Contains (a ∷ x ∷ xs) n
  min_there zero lt is =
      elim (cases_lt a x) as (λ _. Contains (a ∷ x ∷ xs) n) [
        | inl less ↦ (0, omega arith, omega (arith, less, is))
        | inr more ↦ (1, omega arith, omega (arith, more, is))
      ]
  min_there (suc k) lt is = (suc (suc k), omega (arith, lt), is)

  max_there : (k : ℕ) → k < length (max a x ∷ xs) → slice_index_or (max a x ∷ xs) k n ≡ n
      → Contains (a ∷ x ∷ xs) n
  max_there zero lt is =
      elim (cases_lt a x) as (λ _. Contains (a ∷ x ∷ xs) n) [
        | inl less ↦ (1, omega arith, omega (arith, less, is))
        | inr more ↦ (0, omega arith, omega (arith, more, is))
      ]
  max_there (suc k) lt is = (suc (suc k), omega (arith, lt), is)

least_there : (a : ℕ) (xs : List ℕ) → Contains (a ∷ xs) (fold min a xs)
least_there a [] = (0, omega arith, refl)
least_there a (x ∷ xs) = grind (arith, min_there, least_there (min a x) xs)

greatest_there : (a : ℕ) (xs : List ℕ) → Contains (a ∷ xs) (fold max a xs)
greatest_there a [] = (0, omega arith, refl)
greatest_there a (x ∷ xs) = grind (arith, max_there, greatest_there (max a x) xs)

least_first : (a : ℕ) (xs : List ℕ) → fold min a xs ≤ a
least_first a [] = omega arith
least_first a (x ∷ xs) = omega (arith, least_first (min a x) xs)

greatest_first : (a : ℕ) (xs : List ℕ) → a ≤ fold max a xs
greatest_first a [] = omega arith
greatest_first a (x ∷ xs) = omega (arith, greatest_first (max a x) xs)

between : (a : ℕ) (xs : List ℕ) (k d : ℕ) → k < length (a ∷ xs)
    → (fold min a xs ≤ slice_index_or (a ∷ xs) k d) × (slice_index_or (a ∷ xs) k d ≤ fold max a xs)
between a xs zero d lt = (least_first a xs, greatest_first a xs)
between a [] (suc k) d lt = absurd (omega (arith, lt))
between a (x ∷ xs) (suc zero) d lt = grind (arith, least_first, greatest_first)
between a (x ∷ xs) (suc (suc k)) d lt =
    let less : suc k < suc (length xs) = omega (arith, lt) in
    ((between (min a x) xs (suc k) d less).0, (between (max a x) xs (suc k) d less).1)

are_extremes : (a : ℕ) (xs : List ℕ)
    → AreExtremes (a ∷ xs) (record { least = fold min a xs; greatest = fold max a xs })
are_extremes a xs = grind (arith, least_there, greatest_there, between)

-- if there are extreme gains, they are the least and the greatest
pub extremes-Some : (xs : List ℕ) {g : Gains} → extremes xs ≡ Some g → AreExtremes xs g
unfolding extremes
extremes-Some [] e = absurd cc
extremes-Some (x ∷ xs) e = grind (arith, are_extremes x xs)

-- the two gains that a call returns are the least and the greatest
pub some_extremes : (xs : List ℕ) {o : Option Gains} → o ≡ extremes xs → IfSome o (AreExtremes xs)
some_extremes xs is = grind (arith, extremes-Some)

-- if a call returns no gains, there are none
pub no_extremes : (xs : List ℕ) {o : Option Gains} → o ≡ extremes xs → IfNone o (xs ≡ [])
no_extremes xs is = grind (arith, extremes-None)

-- ---- frame by frame

-- frames without a first frame are none
pub no_first : (rows : List Row) → None ≡ slice_get rows 0 → rows ≡ []
no_first [] is = refl
no_first (row ∷ rows) is = absurd cc

-- without a frame there are no extreme gains
pub extremes-empty : (channel : ℕ) (rows : List Row) → None ≡ slice_get rows 0
    → None ≡ extremes_of channel rows
extremes-empty channel rows is = grind (arith, no_first, moving-nil, extremes-nil)

-- the extreme gains from frame i on are those of frame i and of the frames after it, joined
pub extremes-from : (channel : ℕ) (rows : List Row) {i : ℕ} {row : Row} → i < length rows
    → row ≡ get_or rows i row → extremes_of channel (drop i rows)
    ≡ joined_extremes (extremes (row_gains channel row)) (extremes_of channel (drop (i + 1) rows))
extremes-from channel rows lt is = grind (arith, drop_more, extremes-cons)

-- after the last frame what was found is all
pub extremes-all : (channel : ℕ) (rows : List Row) {i : ℕ} {found : Option Gains} → length rows ≤ i
    → extremes_of channel rows ≡ joined_extremes found (extremes_of channel (drop i rows))
    → extremes_of channel rows ≡ found
extremes-all channel rows end is =
    grind (arith, drop_all, moving-nil, extremes-nil, joined_extremes-None)

-- ---- the channels of frames

-- the channels of a survey's frames are those of its class
pub has_channel : {channel : ℕ} {s : SurveyFields} → IsSurveyLaidOut s → channel < s.class.channels
    → HasChannel channel s.frames
has_channel {s = s} laid below = record { class = s.class; same = out_classed laid; below = below }
