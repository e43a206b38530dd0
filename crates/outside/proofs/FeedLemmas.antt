-- What a feed holds and gives, from what was read into its buffer.
use Rattle.std.proofs.Common.{ap, arith, drop, inl, inr, length, length-drop, List, min, sym, take}
use Rattle.std.proofs.Common.{ℕ, [], ◌++◌, ◌+◌, ◌-◌, ◌<◌, ◌^◌, ◌∙◌, ◌≡◌, ◌≤◌, ◌⊎◌}
use Rattle.std.proofs.{Math.Seq.take-append_seam, lemmas.Bool.cases_lt}
use Rattle.std.proofs.lemmas.List.{drop-take, length-take-le, take-take, take_all, Edits.take-paste}
use Rattle.std.specs.List.{copy_within}
use Rattle.outside.specs.{Feed.{AreFeedBounds, Fed, IsFedFrom}, Files.Files}

module _ {X : Type 0} (before n held : ℕ) where
  -- a part of a prefix is that part of the whole
  pub part_of_front : (xs : List X) → before + n ≤ held
      → take n (drop before (take held xs)) ≡ take n (drop before xs)
  part_of_front xs within =
      grind (
        arith,
        drop-take before (held - before) xs,
        take-take n (held - before) (drop before
            xs) (omega arith),
      )

  -- two lists with the same prefix have the same parts of it
  pub parts_same : (xs ys : List X) → before + n ≤ held
      → take held xs ≡ take held ys → take n (drop before xs) ≡ take n (drop before ys)
  parts_same xs ys within same = grind (arith, part_of_front xs within, part_of_front ys within)

-- what is given is the part of the file that was asked for, as far as there is one
pub given_is : {n k : ℕ} (room rest : List ℕ) → take k room ≡ take k rest
    → (k < n → length rest ≤ k) → take (min n k) room ≡ take n rest
given_is {n} {k} room rest same ended = by_order (cases_lt k n)
  where
    by_order : (k < n) ⊎ (n ≤ k) → take (min n k) room ≡ take n rest
    by_order (inr fits) =
        let e : min n k ≡ n = omega arith in
        ap (λ m. take m room) e ∙ sym (take-take n k room fits) ∙ ap (take n) same
        ∙ take-take n k rest fits
    by_order (inl short) =
        let e : min n k ≡ k = omega arith in
        ap (λ m. take m room) e ∙ same ∙ take_all k rest (ended short)
        ∙ sym (take_all n rest (omega (arith, ended short)))

-- a part that was moved to the beginning
pub moved_front : {before held : ℕ} (xs : List ℕ) → held ≤ length xs → before ≤ held
    → take (held - before) (copy_within xs before held 0) ≡ take (held - before) (drop before xs)
moved_front {before} {held} xs within ordered =
    grind (
      arith,
      take-paste xs 0 (drop before xs) (held - before) (omega arith) (omega (
        arith,
        length-drop before xs,
      )),
      length-drop before xs,
    )

-- a list that fills a room is all that is in it
pub fills : {n : ℕ} {xs : List ℕ} (rest : List ℕ) → length xs ≡ n → take n (xs ++ rest) ≡ xs
fills {xs = xs} rest size = ap (λ k. take k (xs ++ rest)) (sym size) ∙ take-append_seam xs rest

-- a buffer that was filled has the bounds of a feed
pub within_filled : {n file_offset held to : ℕ} (xs rest : List ℕ) → length xs ≡ n → n ≡ 65536
    → held
    ≤ 65536 → to ≤ held → file_offset ≤ 2 ^ 32
    → AreFeedBounds (take n (xs ++ rest)) file_offset held 0 to
within_filled xs rest size whole few among early = grind (arith, fills)

-- what was read is held
pub fed_by : {k : ℕ} (at : ℕ) (room bytes : List ℕ) → k ≤ length room → take k room
    ≡ take k (drop at bytes) → take (length (take k room)) (drop at bytes) ≡ take k room
fed_by at room bytes within same = grind (arith, length-take-le)

-- what is held was read
pub fed_front : {held : ℕ} (at : ℕ) (room bytes : List ℕ) → held ≤ length room
    → take (length (take held room)) (drop at bytes) ≡ take held room
    → take held (drop at bytes) ≡ take held room
fed_front at room bytes within same = grind (arith, length-take-le)

-- a feed that holds nothing is fed from any file
pub fed_nothing : {fed : Fed} (files : Files) (name : List ℕ) → fed.held ≡ []
    → IsFedFrom fed files name
fed_nothing files name none = grind arith
