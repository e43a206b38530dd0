-- What a frame with all main data is in a stream
-- determines the frame, but for its slot and its begin.
use Rattle.std.proofs.Common.{ap, ap₂, arith, Bool, drop, false, length, List, map, refl, sum, sym}
use Rattle.std.proofs.Common.{take, ℕ, [], ◌++◌, ◌+◌, ◌/◌, ◌∙◌, ◌∷◌, ◌≡◌}
use Rattle.std.proofs.lemmas.List.{length-drop, length-take-le, take-append-drop, Sums.sum_by-cons}
use Rattle.std.specs.List.{concat}
use Rattle.bit_fields.{proofs.BitsLemmas.{bits-injective, length-bits}, specs.Bits.bits}
use Rattle.frame_header.specs.Fields.{ClassFields, IsClass}
use Rattle.frame_writer.specs.Frames.{Frame}
use Rattle.laying.proofs.{EntryByteLemmas.shaped, PlannedFrameLemmas.{next-map, one}}
use Rattle.laying.specs.LaidFiles.{AreStreamEntries, IsStreamEntry, stream_entry}
use Rattle.laying.specs.Relaid.{relaid_frames, rest_behind}
use Rattle.side_info.{proofs.SideLemmas.{bits_least, each_side, IsShaped}, specs.Granule.no_granule}
use Rattle.side_info.specs.Side.{granule_in, granules_in, has_granule, payload_bits, payload_bytes}
use Rattle.side_info.specs.{Side.SideFits, declared.{granule.Granule.Granule, side.Side.Side}}
use Rattle.slot_plan.specs.declared.needs.Placed.{Placed}
use Rattle.sync_survey.specs.MainData.{no_slot, split_bits}

-- ---- the parts of main data

concat-parts : (lengths bs : List ℕ) → length bs ≡ sum lengths → concat (split_bits lengths bs) ≡ bs
unfolding split_bits
concat-parts [] [] same = refl
concat-parts [] (b ∷ bs) same = absurd (omega (arith, same))
concat-parts (n ∷ lengths) bs same =
    ap (λ l. take n bs ++ l)
    (concat-parts lengths (drop n bs)
    (omega (arith, same, length-drop n bs, sum_by-cons (λ x. x) n lengths)))
    ∙ take-append-drop n bs

-- a granule and channel that the class lacks is all 0
abbrev LacksOthers : ClassFields → Side → Type 0
LacksOthers c s = (granule channel : ℕ) → has_granule c granule channel ≡ false
    → granule_in s granule channel ≡ no_granule

lacks-others : {c : ClassFields} {s : Side} → SideFits c s → LacksOthers c s
lacks-others fits granule channel lacks = grind arith

-- the lengths of the granules add up to the length of the main data
abbrev AreParts : ClassFields → Side → Type 0
AreParts c s = LacksOthers c s
    → sum (map (λ (g : Granule). g.part2_3_length) (granules_in c s)) ≡ payload_bits s

parts-sum : (c : ClassFields) → IsClass c → (s : Side) → IsShaped s → AreParts c s
unfolding granules_in payload_bits
parts-sum =
    each_side AreParts
    (λ f m p a b g h k l lacks.
    let second = lacks 0 1 refl in
    let fourth = lacks 1 1 refl in
    omega (
      arith,
      ap (λ (x : Granule). x.part2_3_length) second,
      ap (λ (x : Granule). x.part2_3_length) fourth,
    ))
    (λ f m p a b g h k l lacks. omega arith)
    (λ f m p a b g h k l lacks.
    let second = lacks 0 1 refl in
    let third = lacks 1 0 refl in
    let fourth = lacks 1 1 refl in
    omega (
      arith,
      ap (λ (x : Granule). x.part2_3_length) second,
      ap (λ (x : Granule). x.part2_3_length) third,
      ap (λ (x : Granule). x.part2_3_length) fourth,
    ))
    (λ f m p a b g h k l lacks.
    let third = lacks 1 0 refl in
    let fourth = lacks 1 1 refl in
    omega (
      arith,
      ap (λ (x : Granule). x.part2_3_length) third,
      ap (λ (x : Granule). x.part2_3_length) fourth,
    ))
    (λ f channels s two lacks. two lacks)

-- ---- one frame

-- a frame without its slot and its main_data_begin
abbrev pub bare : Frame → Frame
bare f = record {
  kept = record {
    header = record f.kept.header { slot = no_slot };
    side =
        record f.kept.side { main_data_begin = 0 };
  };
  payload = f.payload;
}

module _ (c : ClassFields) (known : IsClass c) where
  abbrev own_bits : Frame → List ℕ
  own_bits f = take (payload_bits f.kept.side) (bits f.payload)

  bits-long : {f : Frame} → IsStreamEntry c f → length (own_bits f) ≡ payload_bits f.kept.side
  bits-long is = grind (arith, length-take-le, bits_least, length-bits)

  entry-bits : {f : Frame} → IsStreamEntry c f → concat (stream_entry f).payload ≡ own_bits f
  entry-bits is = grind (arith, parts-sum, shaped, lacks-others, concat-parts, bits-long)

  -- the payload bits of side information don't depend on its main_data_begin
  begun-bits : (s : Side) → payload_bits (record s { main_data_begin = 0 }) ≡ payload_bits s
  unfolding payload_bits
  begun-bits s = refl

  begun-bytes : (s : Side) → payload_bytes (record s { main_data_begin = 0 }) ≡ payload_bytes s
  unfolding payload_bytes
  begun-bytes s = ap (λ n. (n + 7) / 8) (begun-bits s)

  same-payload : {f g : Frame} → IsStreamEntry c f → IsStreamEntry c g
      → stream_entry f ≡ stream_entry g → f.payload ≡ g.payload
  same-payload {f} {g} first second same =
      grind (
        arith,
        begun-bits f.kept.side,
        begun-bits g.kept.side,
        begun-bytes f.kept.side,
        begun-bytes g.kept.side,
        entry-bits first,
        entry-bits second,
        take-append-drop
            (payload_bits f.kept.side) (bits f.payload),
        take-append-drop (payload_bits g.kept.side) (bits
            g.payload),
        bits-injective,
      )

  same-bare : {f g : Frame} → IsStreamEntry c f → IsStreamEntry c g
      → stream_entry f ≡ stream_entry g → bare f ≡ bare g
  same-bare first second same = grind (arith, same-payload)

  -- ---- all frames

  -- frames that are the same in a stream are the same but for slots and where their main data begin
  pub bare-same : (fs gs : List Frame) → AreStreamEntries c fs → AreStreamEntries c gs
      → map stream_entry fs ≡ map stream_entry gs → map bare fs ≡ map bare gs
  bare-same [] [] first second same = refl
  bare-same [] (g ∷ gs) first second same = absurd cc
  bare-same (f ∷ fs) [] first second same = absurd cc
  bare-same (f ∷ fs) (g ∷ gs) first second same =
      let here : stream_entry f ≡ stream_entry g = cc in
      let more : map stream_entry fs ≡ map stream_entry gs = cc in
      ap₂ ◌∷◌ (same-bare first.0 second.0 here)
      (bare-same fs gs first.1 second.1 more)

-- In the slots of a plan, bare frames are the same as the frames themselves.
one-bare : (b : Bool) (p : Placed) (f : Frame) → one b p (bare f) ≡ one b p f
one-bare b p f = grind arith

relaid_frames-bare : (fs : List Frame) (placed : List Placed)
    → relaid_frames (map bare fs) placed ≡ relaid_frames fs placed
unfolding relaid_frames
relaid_frames-bare [] placed = refl
relaid_frames-bare (f ∷ fs) [] = refl
relaid_frames-bare (f ∷ fs) (p ∷ placed) =
    grind (arith, one-bare, next-map, relaid_frames-bare (rest_behind p.lead_in f fs) placed)

-- frames that are the same when bare are relaid the same
pub relaid_frames-same : (fs gs : List Frame) (placed : List Placed) → map bare fs ≡ map bare gs
    → relaid_frames fs placed ≡ relaid_frames gs placed
relaid_frames-same fs gs placed same = sym (relaid_frames-bare fs placed)
    ∙ ap (λ l. relaid_frames l placed) same ∙ relaid_frames-bare gs placed
