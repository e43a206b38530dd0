-- The sealed Info frame of a piece: it is the Info frame of the fields with the extension that is
-- in it.
use Rattle.std.proofs.Common.{ap, drop, length, List, map, Option, refl, Some, subst, sym, take, ℕ}
use Rattle.std.proofs.{Common.{[], ◌+◌, ◌∙◌, ◌∷◌, ◌≡◌, ◌≤◌}, lemmas.List.length-map}
use Rattle.std.{proofs.lemmas.List.FromFn.length-range_with_len, specs.List.range_with_len}
use Rattle.std.specs.Prelude.{slice_get, ◌<◌}
use Rattle.exact_span.proofs.SealLemmas.{extension-there, frames-sealed, sealed-whole}
use Rattle.exact_span.specs.{Laws.AreInfoFields, TagWord.{sealed_frame, sealed_info, text_offset}}
use Rattle.frame_header.specs.{Fields.{ClassFields, HeaderFields, SlotFields}, Tables.class_of}
use Rattle.frame_writer.specs.Frames.{Frame}
use Rattle.info_header.specs.{InfoFrame.info_frame, declared.fields.Info.Info}
use Rattle.laying.{proofs.LaidLemmas.first-there, specs.NeedsFit.IsPlacedSurvey}
use Rattle.laying.specs.{Relaid.lead_in_before, Written.{info_for, slot_in, table_entry}}
use Rattle.slot_plan.specs.declared.needs.Placed.{Placed}
use Rattle.sync_survey.specs.{Faults.SurveyFields, Row.Row}

-- frames in the slots of any plan
slots_of : (h : HeaderFields) (placed : List Placed)
    → map slot_in (map (λ (p : Placed). lead_in_before p h) placed)
    ≡ map (λ (p : Placed). p.slot) placed
slots_of h [] = refl
slots_of h (p ∷ placed) = ap (λ (l : List SlotFields). p.slot ∷ l) (slots_of h placed)

-- the fields of an Info frame with an extension of 36 bytes are whole
pub for-whole : (c : ClassFields) (frames : List Frame) (quality : Option ℕ) {extension : List ℕ}
    → length extension ≡ 36 → AreInfoFields (info_for c frames quality extension)
for-whole c frames quality {extension} long = record {
  table = length-map (range_with_len 0 100) (table_entry c frames) ∙ length-range_with_len 0 100;
  extension = long;
}

-- the Info frame before frames in these slots, which depends on the slots alone
abbrev pub IsInfoFor : (SurveyFields) → ℕ → List Placed → Option ℕ → List ℕ → List ℕ → Type 0
IsInfoFor s from placed quality extension bytes =
    (first : Row) (frames : List Frame) → slice_get s.frames from ≡ Some first
    → map slot_in frames ≡ map (λ (p : Placed). p.slot) placed
    → bytes ≡ info_frame first.header (info_for s.class frames quality extension)

module _ (s : SurveyFields) (well : IsPlacedSurvey s) {from : ℕ} (inside : from < length s.frames)
    (placed : List Placed) (quality : Option ℕ) (extension : List ℕ) (long : length extension ≡ 36)
    {old : List ℕ} (is : IsInfoFor s from placed quality extension old) where
  class_is : {first : Row} → slice_get s.frames from ≡ Some first → class_of first.header ≡ s.class
  class_is {first} found = (well from first found).class_is

  -- an Info frame with any fields that a head can have has room for all of them
  room-with : (fields : HeaderFields → List Frame → Info) (bytes : List ℕ)
      → ((h : HeaderFields) (frames : List Frame) → AreInfoFields (fields h frames))
      → ((first : Row) (frames : List Frame) → slice_get s.frames from ≡ Some first
      → map slot_in frames ≡ map (λ (p : Placed). p.slot) placed
      → bytes ≡ info_frame first.header (fields first.header frames))
      → text_offset s.class + 156 ≤ length bytes
  room-with fields bytes whole are =
      let found = first-there s.frames from inside in
      let h = found.0.header in
      let frames = map (λ (p : Placed). lead_in_before p h) placed in
      subst (λ (c : ClassFields). text_offset c + 156 ≤ length bytes) (class_is found.1)
      (subst (λ (l : List ℕ). text_offset (class_of h) + 156 ≤ length l)
      (sym (are found.0 frames found.1 (slots_of h placed)))
      (frames-sealed h (whole h frames)).room)

  whole-for : (frames : List Frame) → AreInfoFields (info_for s.class frames quality extension)
  whole-for frames = for-whole s.class frames quality long

  -- the Info frame of the piece has room for the fields
  pub info-room : text_offset s.class + 156 ≤ length old
  info-room =
      room-with (λ h frames. info_for s.class frames quality extension) old (λ h. whole-for) is

  module _ {new : List ℕ} (seals : new ≡ sealed_frame s.class old) where
    -- the sealed frame is the Info frame of the sealed fields
    pub sealed-is : (first : Row) (frames : List Frame) → slice_get s.frames from ≡ Some first
        → map slot_in frames ≡ map (λ (p : Placed). p.slot) placed → new ≡ info_frame first.header
        (sealed_info first.header (info_for s.class frames quality extension))
    sealed-is first frames found slots =
        seals
        ∙ ap (λ (c : ClassFields). sealed_frame c old) (sym (class_is found))
        ∙ ap (sealed_frame (class_of first.header)) (is first frames found slots)
        ∙ (frames-sealed first.header
        (whole-for frames)).is

    -- the sealed frame has room for the fields
    pub sealed-room : text_offset s.class + 156 ≤ length new
    sealed-room =
        room-with (λ h frames. sealed_info h (info_for s.class frames quality extension)) new
        (λ h frames. sealed-whole h
        {info = info_for s.class frames quality extension} (whole-for frames))
        sealed-is

-- the extension that is read from a sealed Info frame is the extension of the sealed fields
pub sealed-read : {c : ClassFields} (first : HeaderFields) {info : Info} {bytes : List ℕ}
    → AreInfoFields info → class_of first ≡ c → bytes ≡ info_frame first (sealed_info first info)
    → take 36 (drop (text_offset c + 120) bytes) ≡ (sealed_info first info).extension
sealed-read first {info} {bytes} whole same is =
    ap (λ (k : ClassFields). take 36 (drop (text_offset k + 120) bytes)) (sym same)
    ∙ ap (λ (l : List ℕ). take 36 (drop (text_offset (class_of first) + 120) l)) is
    ∙ extension-there first (sealed-whole first whole)
