-- The fields of an Info frame by the slots of the frames after it.
use Rattle.std.proofs.Common.{ap, arith, length, List, map, Option, refl, slice_index, Some, sym}
use Rattle.std.proofs.Common.{take, ℕ, [], ◌&&◌, ◌*◌, ◌+◌, ◌/◌, ◌<◌, ◌==◌, ◌∙◌, ◌∷◌, ◌≡◌}
use Rattle.std.proofs.lemmas.{Grind.same_number_lists, List.{length-map, take-map}}
use Rattle.std.proofs.lemmas.List.FromFn.{get_or-map-range_with_len, length-map-range_with_len}
use Rattle.std.{proofs.lemmas.List.Sums.sum_by-cons, specs.List.{list_all, range_with_len}}
use Rattle.frame_header.specs.{Fields.{ClassFields, SlotFields}, Tables.rate_of}
use Rattle.frame_writer.specs.Frames.{Frame}
use Rattle.info_header.specs.FileInfo.{all_bytes, frames_length, has_one_rate, info_length}
use Rattle.info_header.specs.{FileInfo.IsInfoOver, Info.seek_table_entry, declared.fields.Info.Info}
use Rattle.laying.specs.Written.{info_for, slot_in, table_entry}

-- ---- only the slots count

abbrev same : SlotFields → SlotFields
same s = s

module _ {X : Type 0} (c : ClassFields) (f : X → SlotFields) where
  bytes-map : (xs : List X) → frames_length c f xs ≡ frames_length c same (map f xs)
  bytes-map [] = refl
  bytes-map (x ∷ xs) = omega (arith, bytes-map xs, sum_by-cons)

  rates-map : (rate : ℕ) (xs : List X)
      → list_all (λ x. rate_of c (f x) == rate) xs ≡ list_all (λ s. rate_of c s == rate) (map f xs)
  rates-map rate [] = refl
  rates-map rate (x ∷ xs) = ap (λ b. (rate_of c (f x) == rate) && b) (rates-map rate xs)

  rate-map : (xs : List X) → has_one_rate c f xs ≡ has_one_rate c same (map f xs)
  rate-map [] = refl
  rate-map (x ∷ xs) = rates-map (rate_of c (f x)) (x ∷ xs)

module _ {X Y : Type 0} (c : ClassFields) (f : X → SlotFields) (g : Y → SlotFields) (xs : List X)
    (ys : List Y) (slots : map f xs ≡ map g ys) where
  same-length : length xs ≡ length ys
  same-length = sym (length-map xs f) ∙ ap length slots ∙ length-map ys g

  same-rate : has_one_rate c f xs ≡ has_one_rate c g ys
  same-rate = rate-map c f xs ∙ ap (has_one_rate c same) slots ∙ sym (rate-map c g ys)

  same-bytes : (n : ℕ) → frames_length c f (take n xs) ≡ frames_length c g (take n ys)
  same-bytes n =
      bytes-map c f (take n xs)
      ∙ ap (frames_length c same) (sym (take-map f n xs) ∙ ap (take n) slots ∙ take-map g n ys)
      ∙ sym (bytes-map c g (take n ys))

  same-all : all_bytes c f xs ≡ all_bytes c g ys
  same-all = grind (arith, bytes-map)

-- ---- the fields

module _ {X : Type 0} (c : ClassFields) (slot_of : X → SlotFields) (placed : List X)
    (frames : List Frame) (slots : map slot_in frames ≡ map slot_of placed) where
  entry-is : (i : ℕ) → seek_table_entry
      (info_length c + frames_length c slot_of (take (i * length placed / 100) placed))
      (all_bytes c slot_of placed) ≡ table_entry c frames i
  entry-is i = grind (arith, same-length, same-bytes, same-all)

  table-is : {table : List ℕ} → length table ≡ 100
      → ((i : ℕ) → i < 100 → slice_index table i ≡ seek_table_entry (info_length c
      + frames_length c slot_of (take (i * length placed / 100) placed))
      (all_bytes c slot_of placed)) → table ≡ map (table_entry c frames) (range_with_len 0 100)
  table-is {table} many entries =
      same_number_lists table (map (table_entry c frames) (range_with_len 0 100))
      (many ∙ sym (length-map-range_with_len (table_entry c frames) 0 100))
      (λ k within.
      let below : k < 100 = omega (arith, within, many) in
      entries k below ∙ entry-is k
      ∙ sym (get_or-map-range_with_len (table_entry c frames) 0 100 k k 0 below (omega arith)))

  -- the fields over the places are those over the frames in them
  pub fields-are : {info : Info} (quality : Option ℕ) (extension : List ℕ)
      → IsInfoOver c slot_of placed info
      → ((table : List ℕ) → info.table ≡ Some table → length table ≡ 100) → record {
        vbr = info.vbr;
        frames = info.frames;
        bytes = info.bytes;
        table = info.table;
        quality = quality;
        extension = extension;
      } ≡ info_for c frames quality extension
  fields-are quality extension is sized =
      grind (
        arith,
        same-rate c slot_in slot_of frames placed slots,
        same-length c slot_in slot_of frames placed slots,
        same-all c slot_in slot_of frames placed slots,
        table-is (sized is.table is.has_table) is.entries,
      )
