-- Heard positions of frames, one stretch of frames after another.
use Rattle.std.proofs.Common.{arith, drop, get_or, length, List, max, None, Option, refl, Some, ℕ}
use Rattle.std.proofs.Common.{[], ◌*◌, ◌++◌, ◌+◌, ◌-◌, ◌<◌, ◌∷◌, ◌≡◌, ◌≤◌}
use Rattle.std.proofs.lemmas.{Grind.flat_map-append, List.{append-nil, drop_all, drop_more}}
use Rattle.exact_span.specs.Heard.{end_of_last, first_to_last, heard_in, heard_numbers, heard_of}
use Rattle.exact_span.specs.{Heard.joined_heard, PlayedPositions.{decoder_delay, samples_in}}
use Rattle.exact_span.specs.declared.{played.Played.Played, written.Heard.Heard}
use Rattle.exact_span.specs.declared.written.WrittenFrames.{WrittenFrames}
use Rattle.frame_header.specs.Fields.{ClassFields}

-- ---- two lists together

end_of_last-append : (end : ℕ) (xs ys : List Heard)
    → end_of_last end (xs ++ ys) ≡ end_of_last (end_of_last end xs) ys
end_of_last-append end [] ys = refl
end_of_last-append end (x ∷ xs) ys = end_of_last-append x.end xs ys

-- two lists of heard positions, joined, go from the first of both lists together to the last
pub joined_heard-append : (xs ys : List Heard)
    → joined_heard (first_to_last xs) (first_to_last ys) ≡ first_to_last (xs ++ ys)
unfolding first_to_last
joined_heard-append [] ys = refl
joined_heard-append (x ∷ xs) [] = grind (arith, append-nil)
joined_heard-append (x ∷ xs) (y ∷ ys) = grind (arith, end_of_last-append)

-- joining heard positions is associative
pub joined_heard-assoc : (f g h : Option Heard)
    → joined_heard (joined_heard f g) h ≡ joined_heard f (joined_heard g h)
joined_heard-assoc f g h = grind arith

-- joining with no heard positions changes nothing
pub joined_heard-None : (h : Option Heard) → joined_heard h None ≡ h
joined_heard-None h = grind arith

-- ---- stretches of frames

module _ (class : ClassFields) (played : Played) where
  -- where no frame is written nothing is heard
  pub heard-nil : heard_of class played [] ≡ None
  unfolding heard_of first_to_last
  heard-nil = refl

  -- what is heard of stretches is what is heard of the first and of the others, joined
  pub heard-cons : (x : WrittenFrames) (xs : List WrittenFrames) → heard_of class played (x ∷ xs)
      ≡ joined_heard (first_to_last (heard_in (samples_in class) played x))
      (heard_of class played xs)
  unfolding heard_of
  heard-cons x xs = grind (arith, joined_heard-append)

  -- what is heard from stretch i on is what is heard of it and of those after it, joined
  pub heard-from : (xs : List WrittenFrames) {i : ℕ} (d : WrittenFrames) → i < length xs
      → heard_of class played (drop i xs)
      ≡ joined_heard (first_to_last (heard_in (samples_in class) played (get_or xs i d)))
      (heard_of class played (drop (i + 1) xs))
  heard-from xs d lt = grind (arith, drop_more, heard-cons)

  -- after the last stretch what was found is all
  pub heard-all : (xs : List WrittenFrames) {i : ℕ} {found : Option Heard} → length xs ≤ i
      → heard_of class played xs ≡ joined_heard found (heard_of class played (drop i xs))
      → heard_of class played xs ≡ found
  heard-all xs end is = grind (arith, drop_all, heard-nil, joined_heard-None)

  -- what is heard of two lists of stretches is what is heard of one and of the other, joined
  pub heard-append : (xs ys : List WrittenFrames) → heard_of class played (xs ++ ys)
      ≡ joined_heard (heard_of class played xs) (heard_of class played ys)
  unfolding heard_of
  heard-append xs ys = grind (arith, flat_map-append, joined_heard-append)

-- ---- numbers

module _ (class : ClassFields) (frames : ℕ) (heard : Heard) (delay padding : ℕ) where
  -- with their numbers, players play the heard positions from the first on, or from the decoder's
  -- delay on if that is later
  pub numbers-first : heard_numbers class frames heard ≡ Some (delay, padding)
      → delay + decoder_delay ≡ max decoder_delay heard.first
  unfolding heard_numbers
  numbers-first are = grind arith

  -- with their numbers, players play the heard positions up to the last
  pub numbers-end : heard_numbers class frames heard ≡ Some (delay, padding)
      → heard.end ≤ frames * samples_in class
      → frames * samples_in class + decoder_delay - padding ≡ heard.end
  unfolding heard_numbers
  numbers-end are within = grind arith
