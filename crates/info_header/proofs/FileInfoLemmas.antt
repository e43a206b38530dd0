-- Laws of the fields for some frames.
use Rattle.std.proofs.Common.{ap, arith, drop, inl, inr, length, List, slice_index, slice_set, sym}
use Rattle.std.proofs.{Common.{take, ℕ, ◌*◌, ◌+◌, ◌-◌, ◌/◌, ◌<◌, ◌∙◌, ◌≡◌, ◌≤◌}, Math.Nat.add-mul}
use Rattle.std.proofs.{Math.Seq.take-add, lemmas.Bool.cases_lt}
use Rattle.std.proofs.lemmas.List.{get_or-set_other, get_or-set_same, Sums.sum_by-append}
use Rattle.std.proofs.lemmas.Nat.{mul-le}
use Rattle.frame_header.specs.{Fields.{ClassFields, SlotFields}, Tables.length_of}
use Rattle.info_header.specs.{FileInfo.frames_length, Info.seek_table_entry}

module _ {X : Type 0} (c : ClassFields) (slot_of : X → SlotFields) where
  -- the bytes of the frames up to `next` are the bytes of those up to `at` plus the bytes of those
  -- between
  pub bytes-between : (frames : List X) (at next : ℕ) → at ≤ next →
      frames_length c slot_of (take next frames)
      ≡ frames_length c slot_of (take at frames)
      + frames_length c slot_of (take (next - at) (drop at frames))
  bytes-between frames at next ordered =
      let split : next ≡ at + (next - at) = omega arith in
      ap (λ k. frames_length c slot_of (take k frames)) split
      ∙ ap (frames_length c slot_of) (take-add at (next - at) frames)
      ∙ sum_by-append (λ f. length_of c (slot_of f)) (take at frames)
      (take (next - at) (drop at frames))

-- ---- places

-- the place of an entry is at most the number of frames
pub place-within : (i n : ℕ) → i ≤ 100 → i * n / 100 ≤ n
place-within i n few = omega (arith, mul-le i n 100 n few (omega arith))

-- the frame of the next entry isn't earlier
pub offset-rises : (i n : ℕ) → i * n / 100 ≤ (i + 1) * n / 100
offset-rises i n = omega (arith, add-mul i 1 n)

-- ---- entries

-- with one entry more, the entries so far are the entries of the definition
pub entries-more : (offset : ℕ → ℕ) (all i value : ℕ) (table : List ℕ) → length table ≡ 100
    → i < 100 → value ≡ seek_table_entry (offset i) all →
    ((k : ℕ) → k < i → slice_index table k ≡ seek_table_entry (offset k) all) → (k : ℕ) → k < i + 1
    → slice_index (slice_set table i value) k ≡ seek_table_entry (offset k) all
entries-more offset all i value table many below is before k within =
    elim (cases_lt k i)
    as (λ _. slice_index (slice_set table i value) k ≡ seek_table_entry (offset k) all) [
      | inl earlier ↦ get_or-set_other table i k value 0
          (λ same. absurd (omega (arith, ap (λ (n : ℕ). n) same, earlier))) ∙ before k earlier
      | inr last ↦
          let here : k ≡ i = omega (arith, within, last) in
          ap (slice_index (slice_set table i value)) here ∙ get_or-set_same table i value 0
          (omega (arith, many, below)) ∙ is ∙ ap (λ n. seek_table_entry (offset n) all) (sym here)
    ]
