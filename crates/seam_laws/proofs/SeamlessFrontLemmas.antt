-- The lead-in that a splice gets again is like the one that left it.
use Rattle.std.proofs.Common.{ap, ap₂, arith, Bool, cond, Contains, false, find, flat_map, length}
use Rattle.std.proofs.Common.{List, map, None, Option, refl, Some, subst, suc, sym, true, zero, ℕ}
use Rattle.std.proofs.Common.{[], ◌++◌, ◌<◌, ◌==◌, ◌∙◌, ◌∷◌, ◌≡◌}
use Rattle.std.proofs.lemmas.{Bool.{and_parts, eqb-true}, Option.slice_get-map}
use Rattle.std.{proofs.lemmas.Slice.Eq.bytes_eq-Decides, specs.List.{concat, list_all}}
use Rattle.std.specs.Prelude.{option_map, slice_get}
use Rattle.bit_fields.specs.{Bits.bits_of, Groups.group_bits}
use Rattle.cut_edits.specs.Exact.{survey_without_head}
use Rattle.frame_header.proofs.HeaderLemmas.{header_in-header_bits, IsClass-class_of}
use Rattle.frame_header.specs.Fields.{ClassFields, HeaderFields, IsClass, IsHeader, SlotFields}
use Rattle.frame_header.specs.{HeaderBits.header_bits, Slots.all_slots, Tables.{area_of, class_of}}
use Rattle.laying.proofs.{EntryByteLemmas.shaped, LaidLemmas.first-there}
use Rattle.laying.{proofs.PlannedFrameLemmas.slot_among, specs.Needs.need_of}
use Rattle.laying.specs.{Relaid.{FilePart, silent_lead_in}, Surveys.{AreWholeRows, IsWholeRow}}
use Rattle.seam_laws.proofs.SeamlessInputLemmas.{brought-fit, brought-needs, brought-sounds}
use Rattle.seam_laws.proofs.SeamlessInputLemmas.{has-apart, inputs-fit, IsInput, Joins, stream-from}
use Rattle.seam_laws.proofs.SeamlessInputLemmas.{whole_stream}
use Rattle.seam_laws.proofs.SeamlessSpliceLemmas.{all, brought, front-few, front-parts, joined}
use Rattle.seam_laws.proofs.SeamlessSpliceLemmas.{others, stream, window}
use Rattle.seam_plan.proofs.SpliceSoundLemmas.{sounds_left, splice-sounds}
use Rattle.seam_plan.specs.Frames.{needs_of, SpliceFrame}
use Rattle.seam_plan.specs.Joins.{fits_behind, has_lead_in, lead_in_header, lead_in_slot}
use Rattle.seam_plan.specs.{Joins.{leads_others, matches_header}, Seams.joints_of}
use Rattle.seamless_edits.specs.Seamless.{begins_blank, is_side_blank, sound_of, without_gains}
use Rattle.side_info.proofs.SideLemmas.{each_class, IsShaped, length-side_bits, side_at-side_bits}
use Rattle.side_info.proofs.SideLemmas.{SideFits-no_side}
use Rattle.side_info.specs.Granule.{granule_bits, granule_numbers}
use Rattle.side_info.specs.Side.{granules_in, no_side, side_at, side_bits, SideFits}
use Rattle.side_info.specs.declared.side.Side.{Side}
use Rattle.sync_survey.{proofs.EmptiedLemmas.no_bits, specs.Faults.{stream_of_survey, SurveyFields}}
use Rattle.sync_survey.specs.HeadApart.{apart_rows, emptied_row, rows_set_apart}
use Rattle.sync_survey.specs.MainData.{granule_lengths, main_bytes, no_slot, row_side, split_bits}
use Rattle.sync_survey.specs.{MainData.{stream_frame, stream_frames, StreamFrame}, Row.Row}
use Rattle.sync_survey.specs.declared.places.Head.{Head}

-- ---- side information that is all 0

abbrev pub AllZero : List ℕ → Type 0
AllZero xs = list_all (λ bit. bit == 0) xs ≡ true

zeros-are : (xs ys : List ℕ) → length xs ≡ length ys → AllZero xs → AllZero ys → xs ≡ ys
zeros-are [] [] same first second = refl
zeros-are [] (y ∷ ys) same first second = absurd (omega (arith, same))
zeros-are (x ∷ xs) [] same first second = absurd (omega (arith, same))
zeros-are (x ∷ xs) (y ∷ ys) same first second =
    let one = and_parts (x == 0) (list_all (λ bit. bit == 0) xs) first in
    let two = and_parts (y == 0) (list_all (λ bit. bit == 0) ys) second in
    let here : x ≡ y = omega (arith, eqb-true x 0 one.0, eqb-true y 0 two.0) in
    ap₂ ◌∷◌ here (zeros-are xs ys (omega (arith, same)) one.1 two.1)

-- side information with nothing in it is spelled in zeros
pub none-zero : (c : ClassFields) → IsClass c → AllZero (side_bits c no_side)
unfolding side_bits granules_in granule_bits granule_numbers group_bits bits_of
none-zero c known =
    each_class (λ d. AllZero (side_bits d no_side)) (λ f. refl) (λ f. refl) (λ f. refl) (λ f. refl)
    (λ f channels is. is) c known

none-shaped : IsShaped no_side
none-shaped = record { scfsi = refl; granules = refl; first = refl; second = refl }

-- side information that is spelled in zeros has nothing in it
pub zero-side : {c : ClassFields} {s : Side} → IsClass c → IsShaped s → SideFits c s
    → AllZero (side_bits c s) → s ≡ no_side
zero-side {c} {s} known is fits zeros =
    sym (side_at-side_bits c known s is fits)
    ∙ ap (side_at c)
    (zeros-are (side_bits c s) (side_bits c no_side)
    (length-side_bits c known s is ∙ sym (length-side_bits c known no_side none-shaped)) zeros
    (none-zero c known))
    ∙ side_at-side_bits c known no_side none-shaped (SideFits-no_side c)

-- ---- the first frame of an input

-- rows begin blank exactly where the first of them is blank
pub begins-first : (rows : List Row) {r : Row} → slice_get rows 0 ≡ Some r
    → begins_blank rows ≡ is_side_blank r
begins-first rows is = grind arith

-- the first of rows that are whole is whole
pub whole-first : {file : List ℕ} (rows : List Row) {r : Row} → AreWholeRows file rows
    → slice_get rows 0 ≡ Some r → IsWholeRow file r
whole-first [] are is = absurd cc
whole-first {file} (q ∷ rows) {r} are is = let same : q ≡ r = cc in
    subst (IsWholeRow file) same are.0

emptied-side : (r : Row) {lost : Bool} → r.lost ≡ lost → r.side ≡ no_side
    → row_side (emptied_row r) ≡ no_side
emptied-side r is none = grind arith

apart-side : (head : Option Head) (rows : List Row) {q r : Row} → slice_get rows 0 ≡ Some q
    → q.side ≡ no_side
    → slice_get (map emptied_row (rows_set_apart head rows)) 0 ≡ Some r → row_side r ≡ no_side
unfolding apart_rows
apart-side head [] first none is = absurd cc
apart-side None (p ∷ rows) first none is = grind (arith, emptied-side)
apart-side (Some head) (p ∷ rows) first none is = grind (arith, emptied-side)

-- ---- its header

find-contains : (test : SlotFields → Bool) (slots : List SlotFields) {slot : SlotFields}
    → find test slots ≡ Some slot → Contains slots slot
find-contains test [] is = absurd cc
find-contains test (s ∷ slots) {slot} is = at (test s) (find-contains test slots) is
  where
    at : (b : Bool) → (find test slots ≡ Some slot → Contains slots slot)
        → cond b (Some s) (find test slots) ≡ Some slot → Contains (s ∷ slots) slot
    at true later found = let same : s ≡ slot = cc in (zero, omega arith, same)
    at false later found = let has = later found in (suc has.0, omega (arith, has.1), has.2)

one-header : {g h : HeaderFields} → IsHeader g → IsHeader h → header_bits g ≡ header_bits h → g ≡ h
one-header {g} {h} first second same =
    grind (arith, header_in-header_bits first, header_in-header_bits second, second)

-- two frames, where the first has the header of a lead-in before the second, but for its slot
record AreLed (rows : List Row) : Type 0 where
  first : Row
  second : Row
  rest : List Row
  are : rows ≡ first ∷ second ∷ rest
  like : record first.header { slot = no_slot }
      ≡ record second.header { protected = false; slot = no_slot }

rows-led : (window : ℕ) (rows : List Row)
    → ((i : ℕ) (r : Row) → slice_get rows i ≡ Some r → IsHeader r.header)
    → leads_others window (map need_of rows) ≡ true → AreLed rows
unfolding lead_in_header
rows-led window [] known leads = absurd cc
rows-led window (r ∷ []) known leads = absurd cc
rows-led window (r ∷ q ∷ rows) known leads =
    at (lead_in_slot window (class_of q.header) (map need_of (q ∷ rows))) refl leads
  where
    at : (o : Option SlotFields)
        → lead_in_slot window (class_of q.header) (map need_of (q ∷ rows)) ≡ o
        → matches_header r.header
        (option_map (λ slot. record q.header { protected = false; slot = slot }) o) ≡ true
        → AreLed (r ∷ q ∷ rows)
    at None found none = absurd cc
    at (Some slot) found same =
        let fits : SlotFields → Bool =
        λ s. fits_behind window (area_of (class_of q.header) s false)
        (map need_of (q ∷ rows)) in
        let is_slot = slot_among (find-contains fits all_slots found) in
        let of = known 1 q refl in
        let lead : HeaderFields = record q.header { protected = false; slot = slot } in
        let lead_known : IsHeader lead = grind arith in
        let equal = one-header (known 0 r refl) lead_known
        ((bytes_eq-Decides (header_bits r.header) (header_bits lead)).0 same) in
        record {
          first = r;
          second = q;
          rest = rows;
          are = refl;
          like = grind arith;
        }

-- ---- sounds

-- parts of no main data are empty
pub no-parts : (lengths : List ℕ) → concat (split_bits lengths []) ≡ []
unfolding split_bits
no-parts [] = refl
no-parts (zero ∷ lengths) = no-parts lengths
no-parts (suc n ∷ lengths) = no-parts lengths

abbrev silent_sound : ClassFields → HeaderFields → List ℕ
silent_sound c h = header_bits h ++ (side_bits c (without_gains no_side) ++ [])

-- a frame whose side information is all 0
empty-sound : (c : ClassFields) (main : List ℕ) (head : Option Head) (rows : List Row) (i : ℕ)
    (r : Row) → row_side r ≡ no_side
    → sound_of c (stream_frame main head rows i r)
    ≡ silent_sound c (record r.header { slot = no_slot })
empty-sound c main head rows i r none = grind (arith, no_bits, no-parts)

-- a frame without main data, with this header
abbrev pub silent_frame : HeaderFields → StreamFrame
silent_frame h =
    record { header = h; side = no_side; payload = split_bits (granule_lengths h no_side) [] }

-- a frame whose side information is all 0, as it is in the stream
pub empty-frame : (main : List ℕ) (head : Option Head) (rows : List Row) (i : ℕ)
    (r : Row) → row_side r ≡ no_side
    → stream_frame main head rows i r ≡ silent_frame (record r.header { slot = no_slot })
empty-frame main head rows i r none = grind (arith, no_bits)

silent-sound : (c : ClassFields) (f : StreamFrame)
    → sound_of c (silent_lead_in f) ≡ silent_sound c (record f.header { protected = false })
silent-sound c f = grind (arith, no-parts)

-- an input that begins with side information that is all 0
module _ {c : ClassFields} {p : FilePart} (is : IsInput c p)
    (blank : begins_blank p.survey.frames ≡ true) where
  -- when the head is set apart, the first frame of
  -- the input has side information with nothing in it
  pub blank-side : {r : Row} → slice_get (survey_without_head p.survey).frames 0 ≡ Some r
      → row_side r ≡ no_side
  blank-side {r} found =
      let q = first-there p.survey.frames 0 is.some in
      let placed = is.has.placed 0 q.0 q.1 in
      let pairs = (whole-first p.survey.frames is.has.rows q.1).pairs in
      let known = IsClass-class_of placed.known in
      let none = zero-side known (shaped pairs)
      (subst (λ d. SideFits d q.0.side) (sym placed.class_is) placed.fits)
      (sym (begins-first p.survey.frames q.1) ∙ blank) in
      apart-side p.survey.head p.survey.frames q.1 none found

module _ {c : ClassFields} {first : FilePart} {parts : List FilePart} (are : Joins c first parts)
    (out : 0 < (joined are).front) where
  abbrev survey : SurveyFields
  survey = survey_without_head first.survey

  abbrev main : List ℕ
  main = main_bytes first.file survey.head survey.frames

  leads : (((brought are).blank) ≡ true)
      × (leads_others (window are) (needs_of (brought are).frames) ≡ true)
  unfolding has_lead_in
  leads =
      and_parts (brought are).blank
      (leads_others (window are) (needs_of (brought are).frames))
      (front-parts are out).0

  two : AreLed survey.frames
  two =
      rows-led (window are) survey.frames
      (λ i r found. ((has-apart are.head).placed i r found).known)
      (subst (λ l. leads_others (window are) l ≡ true)
      (brought-needs are.head) leads.1)

  first-none : row_side two.first ≡ no_side
  first-none =
      blank-side are.head leads.0
      (ap (λ l. slice_get l 0) two.are)

  -- the first two frames of the first input
  abbrev w : StreamFrame
  w = stream_frame main survey.head survey.frames 0 two.first

  begins-two : (n : ℕ) × (more : List StreamFrame)
      × (whole_stream are.head
      ≡ w ∷ stream_frame main survey.head survey.frames n two.second ∷ more)
  unfolding stream_of_survey stream_frames
  begins-two = grind (arith, survey.head, survey.frames, two.rest, two.are)

  abbrev v : StreamFrame
  v = stream_frame main survey.head survey.frames begins-two.0 two.second

  -- the stream of the splice begins with the second
  second : (f : StreamFrame) (fs : List StreamFrame) → stream are ≡ f ∷ fs → v ≡ f
  second f fs streams =
      let one : (joined are).front ≡ 1 = omega (arith, out, front-few are) in
      grind (arith, one, flat_map, stream-from are.head 1, begins-two.2)

  -- what the splice begins with, and what its stream begins with
  pub front-alike : {g : SpliceFrame} {f : StreamFrame} {fs : List StreamFrame}
      → slice_get (all are) 0 ≡ Some g → stream are ≡ f ∷ fs
      → sound_of c (silent_lead_in f) ≡ g.sound
  front-alike {g} {f} {fs} begins streams =
      let others_sounds =
      sounds_left (joints_of c (brought are) (others are))
      (others are) in
      let sounding = splice-sounds c (others are) (brought-fit are.head)
      (inputs-fit c parts are.others)
      ∙ ap (λ l. l ++ others_sounds)
      (brought-sounds are.head ∙ ap (map (sound_of c)) begins-two.2) in
      let own : Some g.sound ≡ Some (sound_of c w) = search (arith, slice_get-map, are) in
      let sound : g.sound ≡ sound_of c w = cc in
      silent-sound c f
      ∙ ap (λ (x : StreamFrame). silent_sound c (record x.header { protected = false }))
      (sym (second f fs streams))
      ∙ ap (silent_sound c) (sym two.like)
      ∙ sym (empty-sound c main survey.head survey.frames 0 two.first first-none)
      ∙ sym sound

  -- where the lead-in of the first input leaves the
  -- splice, it is the one that the splice gets again
  pub front-silent : {f : StreamFrame} {fs : List StreamFrame} → stream are ≡ f ∷ fs
      → (more : List StreamFrame)
      × (whole_stream are.head ≡ silent_lead_in f ∷ more)
  front-silent streams = grind (arith, empty-frame, first-none, second)
