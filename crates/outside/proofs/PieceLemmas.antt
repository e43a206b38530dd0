-- A piece that is written or read in several calls.
use Rattle.std.proofs.Common.{ap, arith, drop, length, length-append, length-drop, List, sym, take}
use Rattle.std.proofs.Common.{ℕ, ◌++◌, ◌+◌, ◌-◌, ◌∙◌, ◌≡◌, ◌≤◌}
use Rattle.std.proofs.Math.Seq.{drop-append-add, take-append-add, take-append_seam}
use Rattle.std.proofs.lemmas.List.{append-nil, drop-drop, drop-take, drop_all, length-take-le}
use Rattle.std.proofs.lemmas.List.{take-append-drop, take-take, take_all}
use Rattle.outside.proofs.FilesLemmas.{appended_twice, sent_twice}
use Rattle.outside.specs.Files.{Files, Sent, sent_and_more, with_appended_bytes}
use borrow.Rule.Slice.PartMut.{put_mid}

-- a prefix and what follows it
pub take_then : {X : Type 0} (m n : ℕ) (xs : List X)
    → take (m + n) xs ≡ take m xs ++ take n (drop m xs)
take_then m n xs =
    grind (
      arith,
      take-append-drop m (take (m + n) xs),
      take-take m (m + n) xs (omega arith),
      drop-take m n xs,
    )

-- the part from m on, as code that slices it says
pub part_from : {X : Type 0} (m : ℕ) (xs : List X) → take (length xs - m) (drop m xs) ≡ drop m xs
part_from m xs = take_all (length xs - m) (drop m xs) (omega (arith, length-drop m xs))

-- files to which a prefix was appended, and then the next part of the bytes
pub with_appended_bytes-then : (old : Files) {before now : Files} (name bytes : List ℕ) (m n : ℕ)
    → before ≡ with_appended_bytes old name (take m bytes)
    → now ≡ with_appended_bytes before name (take n (drop m bytes))
    → now ≡ with_appended_bytes old name (take (m + n) bytes)
with_appended_bytes-then old name bytes m n first then = grind (arith, appended_twice, take_then)

-- a prefix that was sent and the next part of the bytes are a longer prefix
pub sent_then : (old : Sent) {before now : Sent} (bytes : List ℕ) (m n : ℕ)
    → before ≡ sent_and_more old (take m bytes) → now ≡ sent_and_more before (take n (drop m bytes))
    → now ≡ sent_and_more old (take (m + n) bytes)
sent_then old bytes m n first then = grind (arith, sent_twice, take_then)

-- what precedes the part that was put in is kept
pub front_kept : {m : ℕ} (n : ℕ) (xs ys : List ℕ) → m ≤ length xs
    → take m (put_mid m n xs ys) ≡ take m xs
front_kept {m} n xs ys in_range =
    ap (λ k. take k (put_mid m n xs ys)) (sym (length-take-le m xs in_range))
    ∙ take-append_seam (take m xs) (ys ++ drop n (drop m xs))

-- a list whose end, from m on, was filled again
module _ {m : ℕ} (n : ℕ) (xs ys : List ℕ) (in_range : m ≤ length xs)
    (as_many : length ys ≡ length xs - m) where
  -- it has what it had before m, and then what was filled in
  pub refilled : put_mid m (length xs - m) xs ys ≡ take m xs ++ ys
  refilled = grind (arith, drop_all, length-drop, append-nil)

  front : length (take m xs) ≡ m
  front = length-take-le m xs in_range

  take_front : take (m + n) (take m xs ++ ys) ≡ take m xs ++ take n ys
  take_front = grind (arith, front, take-append-add)

  drop_front : drop (m + n) (take m xs ++ ys) ≡ drop n ys
  drop_front = grind (arith, front, drop-append-add)

  -- it is as long as before
  pub length_refilled : length (put_mid m (length xs - m) xs ys) ≡ length xs
  length_refilled = ap length refilled ∙ length-append (take m xs) ys ∙ omega (arith, front)

  -- the first m bytes are there, and n more follow
  pub take_refilled : (all : List ℕ) → take m xs ≡ take m all → take n ys ≡ take n (drop m all)
      → take (m + n) (put_mid m (length xs - m) xs ys) ≡ take (m + n) all
  take_refilled all here more = grind (arith, refilled, take_front, take_then)

  -- what comes after them is unchanged
  pub drop_refilled : (old : List ℕ) → drop m xs ≡ drop m old → drop n ys ≡ drop n (drop m xs)
      → drop (m + n) (put_mid m (length xs - m) xs ys) ≡ drop (m + n) old
  drop_refilled old here more = grind (arith, refilled, drop_front, drop-drop)

  -- if no more bytes came, the rest is unchanged
  pub drop_unread : (old : List ℕ) → n ≡ 0 → drop m xs ≡ drop m old → drop n ys ≡ drop n (drop m xs)
      → drop m (put_mid m (length xs - m) xs ys) ≡ drop m old
  drop_unread old none here more =
      grind (arith, put_mid m (length xs - m) xs ys, drop_refilled old here more)
