-- Bounds on the tables and on the lengths that follow from them.
use Rattle.std.proofs.Common.{arith, Bool, cond, get_or, length, List, map, refl, suc, true, ℕ, []}
use Rattle.std.proofs.Common.{◌*◌, ◌+◌, ◌-◌, ◌/◌, ◌<◌, ◌≡◌, ◌≤◌}
use Rattle.std.proofs.lemmas.Bool.{eqb-true, leb-true, true_from_ne_false, true≢false}
use Rattle.std.proofs.lemmas.{List.{get_or-map, Folds.list_all_at}, Nat.le-div}
use Rattle.std.specs.List.{list_all}
use Rattle.frame_header.specs.Fields.{ClassFields, IsClass, IsSlot, SlotFields}
use Rattle.frame_header.specs.Tables.{frequencies, frequency_of, length_factor, length_of, rate_of}
use Rattle.frame_header.specs.Tables.{rates, side_bytes_of, side_size_of, version_index}
use Rattle.frame_header.specs.declared.{class.TheConstants.LENGTHS, version.Version.Version}
use Rattle.frame_header.specs.declared.version.Version.TheVariants.{One, Two, TwoFive}
use mir.Val.{bool_byte}

-- a version's lowest bit rate in kbit/s, the first in its table, and its highest frequency in Hz,
-- the second in its table
abbrev pub least_rate : Version → ℕ
least_rate version = get_or (rates version) 0 0

abbrev pub highest_frequency : Version → ℕ
highest_frequency version = get_or (frequencies version) 1 0

-- if a test passes for a whole table, it passes at each of its places
all_pass : (p : ℕ → Bool) (xs : List ℕ) {i : ℕ} → list_all p xs ≡ true → i < length xs
    → p (get_or xs i 0) ≡ true
all_pass p xs all lt = grind (arith, true_from_ne_false, true≢false, list_all_at)

least : (version : Version) {i : ℕ} → i < 14 → least_rate version ≤ get_or (rates version) i 0
least version lt = grind arith

greatest : (version : Version) {i : ℕ} → i < 14 → get_or (rates version) i 0 ≤ 320
greatest version lt = grind arith

lowest : (version : Version) → 8 ≤ least_rate version
lowest version = grind arith

-- no bit rate is below 8 kbit/s
pub rate-least : (c : ClassFields) (s : SlotFields) → IsSlot s → 8 ≤ rate_of c s
unfolding rate_of
rate-least c s slot = grind (arith, lowest, least)

-- no bit rate is above 320 kbit/s
pub rate-most : (c : ClassFields) (s : SlotFields) → IsSlot s → rate_of c s ≤ 320
unfolding rate_of
rate-most c s slot = greatest c.version (omega (arith, slot.0, slot.1))

highest : (version : Version) {i : ℕ} → i < 3
    → (get_or (frequencies version) i 0 ≤ highest_frequency version)
    × (8000 ≤ get_or (frequencies version) i 0)
highest version lt = grind arith

-- the shortest frame of a version
abbrev pub least_length : Version → ℕ
least_length One = 96
least_length Two = 24
least_length TwoFive = 48

shortest : (version : Version) {rate frequency : ℕ} → least_rate version ≤ rate → 0 < frequency
    → frequency ≤ highest_frequency version
    → least_length version ≤ (length_factor version * (1000 * rate)) / frequency
shortest version most some few = grind (arith, le-div)

-- no frame is shorter than the least length of its version
pub length-least : (c : ClassFields) (s : SlotFields) → IsClass c → IsSlot s
    → least_length c.version ≤ length_of c s
unfolding length_of rate_of frequency_of
length-least c s class slot = grind (arith, least, highest, shortest)

room : (version : Version) (channels : ℕ)
    → 6 + side_bytes_of version channels < least_length version
room version channels = grind arith

-- header, check word and side information leave room for main data
pub area_some : (c : ClassFields) (s : SlotFields) → IsClass c → IsSlot s
    → 6 + side_size_of c < length_of c s
unfolding side_size_of
area_some c s class slot = omega (arith, length-least c s class slot, room c.version c.channels)

-- ---- the table of lengths
row_is : (version : Version) (frequency : ℕ) → frequency < 3
    → get_or LENGTHS (3 * version_index version + frequency) []
    ≡ map (λ rate. (length_factor version * (1000 * rate))
    / get_or (frequencies version) frequency 0) (rates version)
row_is One (suc (suc (suc frequency))) h = absurd (omega arith)
row_is Two (suc (suc (suc frequency))) h = absurd (omega arith)
row_is TwoFive (suc (suc (suc frequency))) h = absurd (omega arith)
row_is _ _ h = refl

length-rates : (version : Version) → length (rates version) ≡ 14
length-rates version = grind arith

flag_byte : (flag : Bool) → bool_byte flag ≡ cond flag 1 0
flag_byte flag = grind arith

-- an entry of the table, plus the padding
abbrev pub length_in_table : ClassFields → SlotFields → ℕ
length_in_table c s = get_or (get_or LENGTHS (3 * version_index c.version + c.frequency_index) [])
    (s.rate_index - 1) 0 + bool_byte s.padding

-- the length in the table is the length by the rule
pub length_in_table-is : (c : ClassFields) (s : SlotFields) → IsClass c → IsSlot s
    → length_in_table c s ≡ length_of c s
unfolding length_of rate_of frequency_of
length_in_table-is c s class slot =
    grind (
      arith,
      length-rates c.version,
      row_is c.version c.frequency_index (omega (
        arith,
        class.0,
      )),
      flag_byte s.padding,
      get_or-map,
    )

-- no entry is above 1,440
entries_most : {row i : ℕ} → row < 9 → i < 14 → get_or (get_or LENGTHS row []) i 0 ≤ 1440
entries_most lt within =
    search (arith, eqb-true, true_from_ne_false, true≢false, list_all_at, leb-true, all_pass)

row_below : (version : Version) {frequency : ℕ} → frequency < 3
    → 3 * version_index version + frequency < 9
row_below version h = grind arith

bool_byte-most : (flag : Bool) → bool_byte flag ≤ 1
bool_byte-most flag = grind arith

-- no frame is longer than 1,441 bytes
pub length-most : (c : ClassFields) (s : SlotFields) → IsClass c → IsSlot s → length_of c s ≤ 1441
length-most c s class slot =
    search (arith, entries_most, row_below, bool_byte-most, length_in_table-is)
