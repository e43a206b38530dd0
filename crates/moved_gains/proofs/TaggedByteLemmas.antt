-- The bytes of a file with another tag: those before the tag and those after it are unchanged.
use Rattle.std.proofs.Common.{ap, arith, drop, length, length-append, length-drop, List, refl, sym}
use Rattle.std.proofs.Common.{take, ℕ, ◌++◌, ◌+◌, ◌-◌, ◌<◌, ◌∙◌, ◌≡◌, ◌≤◌}
use Rattle.std.proofs.lemmas.Bool.{le-ltb, lt-ltb}
use Rattle.std.proofs.lemmas.List.{drop-drop, drop-take, drop_at, length-take-le, take-append-le}
use Rattle.std.proofs.lemmas.List.{take-take, take_at}
use Rattle.bit_fields.proofs.BitsLemmas.{AreBelow-append, AreBelow-drop, AreBelow-take}
use Rattle.bit_fields.specs.Bits.{AreBytes}
use Rattle.moved_gains.proofs.MovedItemLemmas.{IsMovedTo}
use Rattle.moved_gains.specs.TagExtent.{file_with_tag, retagged_offset, tag_length, tag_offset}
use Rattle.sync_survey.specs.Faults.{SurveyFields}

-- the file with another tag is what is before its tag, the new bytes, and what is after the old tag
pub file_with_tag-is : (bytes : List ℕ) (s : SurveyFields) (file : List ℕ)
    → file_with_tag bytes s file
    ≡ take (tag_offset s) file ++ (bytes ++ drop (tag_offset s + tag_length s) file)
unfolding file_with_tag
file_with_tag-is bytes s file = refl

module _ (n : ℕ) (s : SurveyFields) where
  -- the offset of what was before the tag stays
  pub stays : (x : ℕ) → x < tag_offset s → retagged_offset n s x ≡ x
  stays x low = grind (arith, lt-ltb)

  -- the offset of what was after the tag changes by the difference in length
  pub follows : {x : ℕ} → tag_offset s ≤ x → retagged_offset n s x ≡ x - tag_length s + n
  follows high = grind (arith, le-ltb)

module _ (bytes file : List ℕ) (s : SurveyFields)
    (room : tag_offset s + tag_length s ≤ length file) where
  abbrev new : List ℕ
  new = file_with_tag bytes s file

  abbrev n : ℕ
  n = length bytes

  abbrev later : List ℕ
  later = drop (tag_offset s + tag_length s) file

  -- the file with another tag is what is before its
  -- tag, the new bytes, and what is after the old tag
  pub new-is : new ≡ take (tag_offset s) file ++ (bytes ++ later)
  new-is = file_with_tag-is bytes s file

  -- what is before the tag is as long as its offset
  pub front-long : length (take (tag_offset s) file) ≡ tag_offset s
  front-long = length-take-le (tag_offset s) file (omega (arith, room))

  -- the file is shorter by the old tag, and longer by the new bytes
  pub new-length : length new ≡ length file - tag_length s + n
  new-length = grind (arith, new-is, length-append, front-long, length-drop)

  -- the new file is bytes if the file and the new tag are
  pub new-bytes : AreBytes file → AreBytes bytes → AreBytes new
  new-bytes all more = grind (arith, new-is, AreBelow-append, AreBelow-take, AreBelow-drop)

  -- what is before the tag stays
  pub new-front : take (tag_offset s) new ≡ take (tag_offset s) file
  new-front = grind (arith, new-is, take_at, front-long)

  -- the new bytes are where the tag was
  pub new-tag : drop (tag_offset s) new ≡ bytes ++ later
  new-tag = grind (arith, new-is, drop_at, front-long)

  -- the new bytes are all there
  pub new-own : take n (drop (tag_offset s) new) ≡ bytes
  new-own = ap (take n) new-tag ∙ take_at bytes later n refl

  -- what was after the tag is after the new bytes
  pub new-later : drop (tag_offset s + n) new ≡ later
  new-later = grind (arith, drop-drop n (tag_offset s) new, new-tag, drop_at bytes later n refl)

  take_both : (x k : ℕ) (l : List ℕ) → take k (drop x l) ≡ drop x (take (x + k) l)
  take_both x k l = sym (drop-take x k l)

  front_same : (x k : ℕ) → x + k ≤ tag_offset s → take k (drop x new) ≡ take k (drop x file)
  front_same x k within = grind (arith, take_both, new-is, take-append-le, front-long, take-take)

  -- what is before the tag is where it was
  pub front-moved : IsMovedTo (retagged_offset n s) file new 0 (tag_offset s) 0
  front-moved = grind (arith, stays, front_same)

  later_same : {x : ℕ} → tag_offset s + tag_length s ≤ x
      → drop (x - tag_length s + n) new ≡ drop x file
  later_same {x} above =
      let off = x - (tag_offset s + tag_length s) in
      let split : x - tag_length s + n ≡ (tag_offset s + n) + off = omega (arith, above) in
      let back : (tag_offset s + tag_length s) + off ≡ x = omega (arith, above) in
      ap (λ y. drop y new) split ∙ sym (drop-drop off (tag_offset s + n) new)
      ∙ ap (drop off) new-later
      ∙ drop-drop off (tag_offset s + tag_length s) file ∙ ap (λ y. drop y file) back

  -- what is after the tag is further on by the difference in length
  pub later-moved : IsMovedTo (retagged_offset n s) file new (tag_offset s + tag_length s)
      (length file)
      (tag_offset s + n)
  later-moved = grind (arith, follows, later_same)
