-- What moved gains are, and what moving leaves unchanged.
use Rattle.std.proofs.Common.{ap, arith, Bool, cond, false, flat_map, List, map, pos, refl, take, ℕ}
use Rattle.std.proofs.Common.{ℤ, ◌+◌, ◌/◌, ◌<◌, ◌==◌, ◌≡◌}
use Rattle.frame_header.specs.{Fields.HeaderFields, Tables.granules_of}
use Rattle.frame_header.specs.declared.version.Version.{Version}
use Rattle.moved_gains.specs.Gains.{is_out_of_range, moved_granule, moved_side}
use Rattle.moved_gains.specs.Gains.{moved_side_unless_lost}
use Rattle.requests.specs.declared.shift.Steps.{Steps}
use Rattle.side_info.proofs.SideLemmas.{each_shaped, IsShaped, side_with}
use Rattle.side_info.specs.Side.{granules_in, payload_bits, payload_bytes}
use Rattle.side_info.specs.declared.{granule.Granule.Granule, side.Side.Side}
use Rattle.sync_survey.specs.MainData.{granule_lengths}

-- a sum within the range is a gain
pub record IsGain (sum : ℤ) : Type 0 where
  pub gain : ℕ
  pub is : sum ≡ pos gain
  pub small : gain < 256

-- a sum that isn't outside the range is a gain
pub within : {sum : ℤ} → is_out_of_range sum ≡ false → IsGain sum
within inside = grind arith

-- ---- what moved gains leave unchanged

moved_granule-payload : (steps : ℤ) (g : Granule)
    → (moved_granule steps g).part2_3_length ≡ g.part2_3_length
moved_granule-payload steps g = grind arith

module _ (steps : Steps) (m p a b : ℕ) (g h k l : Granule) where
  payload-with : payload_bits (moved_side steps (side_with m p a b g h k l))
      ≡ payload_bits (side_with m p a b g h k l)
  unfolding payload_bits moved_side
  payload-with = grind (arith, moved_granule-payload)

-- the main data have as many bits as before
pub payload_bits-moved : (steps : Steps) {s : Side} → IsShaped s
    → payload_bits (moved_side steps s) ≡ payload_bits s
payload_bits-moved steps {s} shaped = each_shaped (λ t. payload_bits (moved_side steps t)
    ≡ payload_bits t) (payload-with steps) s shaped

-- the lists are as long as before
pub IsShaped-moved : (steps : Steps) {s : Side} → IsShaped s → IsShaped (moved_side steps s)
unfolding moved_side
IsShaped-moved steps shaped =
    record { scfsi = shaped.scfsi; granules = refl; first = refl; second = refl }

-- the main data have as many bits as before, also if a lost frame stays
pub payload_bits-unless : (lost : Bool) (steps : Steps) {s : Side} → IsShaped s
    → payload_bits (moved_side_unless_lost lost steps s) ≡ payload_bits s
payload_bits-unless lost steps shaped = grind (arith, payload_bits-moved)

-- the main data have as many bytes as before, moved or lost
pub payload-unless : (lost : Bool) (steps : Steps) {s : Side} → IsShaped s
    → payload_bytes (moved_side_unless_lost lost steps s) ≡ payload_bytes s
unfolding payload_bytes
payload-unless lost steps {s} shaped = ap (λ n. (n + 7) / 8) (payload_bits-unless lost steps shaped)

-- the main data begin where they did, moved or lost
pub begin-unless : (lost : Bool) (steps : Steps) (s : Side)
    → (moved_side_unless_lost lost steps s).main_data_begin ≡ s.main_data_begin
unfolding moved_side
begin-unless lost steps s = grind arith

-- the lengths of the main data of each granule and channel that a class has
abbrev lengths_of : Version → Bool → Side → List ℕ
lengths_of version mono s = map (λ (g : Granule). g.part2_3_length)
    (flat_map (take (cond mono 1 2)) (take (granules_of version) s.granules))

lengths-with : (steps : Steps) (version : Version) (mono : Bool) (m p a b : ℕ) (g h k l : Granule)
    → lengths_of version mono (moved_side steps (side_with m p a b g h k l))
    ≡ lengths_of version mono (side_with m p a b g h k l)
unfolding moved_side
lengths-with steps version mono m p a b g h k l = grind arith

-- the lengths of all parts of main data stay
pub lengths-moved : (steps : Steps) (h : HeaderFields) {s : Side} → IsShaped s
    → granule_lengths h (moved_side steps s) ≡ granule_lengths h s
unfolding granules_in
lengths-moved steps h {s} shaped =
    each_shaped (λ t. lengths_of h.version (h.mode == 3) (moved_side steps t)
    ≡ lengths_of h.version (h.mode == 3) t) (lengths-with steps h.version (h.mode == 3)) s shaped
