-- Laws of main data laid into areas.
use Rattle.std.proofs.Common.{ap, append-nil, append_assoc, ap₂, arith, drop, inl, inr, length}
use Rattle.std.proofs.Common.{length-append, List, min, refl, sym, take, ℕ, [], ◌++◌, ◌+◌, ◌-◌, ◌<◌}
use Rattle.std.proofs.{Common.{◌∙◌, ◌∷◌, ◌≡◌, ◌≤◌, ◌⊎◌}, Math.Nat.{min-eq_left, min-eq_right}}
use Rattle.std.proofs.Math.Seq.{drop-append-add, drop-length, take-append-add, take-length}
use Rattle.std.proofs.lemmas.Bool.{cases_lt}
use Rattle.std.proofs.lemmas.List.{append_cancel_right, drop-append-le, drop-replicate}
use Rattle.std.proofs.lemmas.List.{length-replicate, replicate-append-replicate, take-append-drop}
use Rattle.std.proofs.lemmas.List.{take-append-le, take-replicate}
use Rattle.frame_writer.specs.Laid.{AreAreasLaid, areas_end, BeginsWithin, CanDataBeLaidFrom}
use Rattle.frame_writer.specs.Laid.{data_end, frame_data_end, frame_data_start, FrameData}
use Rattle.frame_writer.specs.Laid.{laid_count, laid_data, laid_data_from, overwritten_bytes}
use Rattle.frame_writer.specs.Laid.{WaitingAreas, zeros}
use Rattle.reservoir.proofs.WindowLemmas.{take_two}

-- ---- lists of zeros

-- n zeros have n bytes
pub length-zeros : (n : ℕ) → length (zeros n) ≡ n
length-zeros n = length-replicate n 0

zeros_split : {n m : ℕ} → m ≤ n → zeros n ≡ zeros (n - m) ++ zeros m
zeros_split {n} {m} le = ap zeros (omega (arith, le)) ∙ sym (replicate-append-replicate (n - m) m 0)

-- ---- main data up to the last, and one more frame

abbrev pub up_to : ℕ → ℕ → List FrameData → List ℕ
up_to end area_start [] = []
up_to end area_start (p ∷ ps) = zeros (frame_data_start area_start p - end)
    ++ (p.payload ++ up_to (frame_data_end area_start p) (area_start + p.area) ps)

-- after the last main data all is 0
laid_up_to : (end area_start : ℕ) (ps : List FrameData) → laid_data_from end area_start ps
    ≡ up_to end area_start ps ++ zeros (areas_end area_start ps - data_end end area_start ps)
laid_up_to end area_start [] = refl
laid_up_to end area_start (p ∷ ps) =
    grind (arith, append_assoc, laid_up_to (frame_data_end area_start p) (area_start + p.area) ps)

-- one more frame adds zeros and its main data
up_to-more : (end area_start : ℕ) (ps : List FrameData) (p : FrameData) →
    up_to end area_start (ps ++ p ∷ []) ≡ up_to end area_start ps
    ++ (zeros (frame_data_start (areas_end area_start ps) p - data_end end area_start ps)
    ++ p.payload)
up_to-more end area_start [] p = grind (arith, append-nil)
up_to-more end area_start (q ∷ ps) p =
    grind (arith, append_assoc, up_to-more (frame_data_end area_start q) (area_start + q.area) ps p)

areas_end-more : (area_start : ℕ) (ps : List FrameData) (p : FrameData)
    → areas_end area_start (ps ++ p ∷ []) ≡ areas_end area_start ps + p.area
areas_end-more area_start [] p = refl
areas_end-more area_start (q ∷ ps) p = areas_end-more (area_start + q.area) ps p

data_end-more : (end area_start : ℕ) (ps : List FrameData) (p : FrameData)
    → data_end end area_start (ps ++ p ∷ []) ≡ frame_data_end (areas_end area_start ps) p
data_end-more end area_start [] p = refl
data_end-more end area_start (q ∷ ps) p =
    data_end-more (frame_data_end area_start q) (area_start + q.area) ps p

fit-more : (end area_start : ℕ) (ps : List FrameData) (p : FrameData)
    → CanDataBeLaidFrom end area_start ps →
    data_end end area_start ps + p.begin ≤ areas_end area_start ps
    → frame_data_end (areas_end area_start ps) p ≤ areas_end area_start ps + p.area →
    CanDataBeLaidFrom end area_start (ps ++ p ∷ [])
fit-more end area_start [] p fits from to = (from, to, tt)
fit-more end area_start (q ∷ ps) p fits from to =
    grind (arith, fit-more (frame_data_end area_start q) (area_start + q.area) ps p fits.2 from to)

-- ---- a queue of the bytes up to the end of the last main data, with zeros after it

-- where the forwarded bytes and those in the queue end
stored : (given items : List ℕ) (free : ℕ) (ps : List FrameData)
    → given ++ (items ++ zeros free) ≡ laid_data ps → free + data_end 0 0 ps ≤ areas_end 0 ps →
    given ++ items ≡ up_to 0 0 ps ++ zeros (areas_end 0 ps - data_end 0 0 ps - free)
stored given items free ps same within =
    let all = areas_end 0 ps - data_end 0 0 ps in
    append_cancel_right (given ++ items) (up_to 0 0 ps ++ zeros (all - free)) (zeros free)
    (append_assoc given items (zeros free)
    ∙ same
    ∙ laid_up_to 0 0 ps
    ∙ ap (λ (xs : List ℕ). up_to 0 0 ps ++ xs) (zeros_split (omega (arith, within)))
    ∙ sym (append_assoc (up_to 0 0 ps) (zeros (all - free)) (zeros free)))

-- the zeros between two main data
gap_joined : (front payload : List ℕ) (n m : ℕ) {k : ℕ} → n + m ≡ k
    → (front ++ zeros n) ++ (zeros m ++ payload) ≡ front ++ (zeros k ++ payload)
gap_joined front payload n m is =
    append_assoc front (zeros n) (zeros m ++ payload)
    ∙ ap (λ (xs : List ℕ). front ++ xs) (sym (append_assoc (zeros n) (zeros m) payload)
    ∙ ap (λ (xs : List ℕ). xs ++ payload) (replicate-append-replicate n m 0 ∙ ap zeros is))

abbrev pub waits : List ℕ → ℕ → WaitingAreas
waits items free = record { bytes = items ++ zeros free; free = free }

module _ (given items payload : List ℕ) (begin free gap rest area : ℕ) (ps : List FrameData) where
  -- the main data of one more frame
  more_same : given ++ (items ++ zeros free) ≡ laid_data ps → free + data_end 0 0 ps
      ≤ areas_end 0 ps → begin ≤ free → gap ≡ free - begin → length payload ≤ begin + area → rest
      ≡ begin + area - length payload → given ++ ((items ++ (zeros gap ++ payload)) ++ zeros rest)
      ≡ laid_data (ps ++ record { payload = payload; begin = begin; area = area } ∷ [])
  more_same same within reach gaps fits rests =
      grind (
        arith,
        append_assoc given items (zeros gap ++ payload),
        stored given items free ps same
            within,
        gap_joined,
        up_to-more,
        areas_end-more,
        data_end-more,
        append_assoc given (items ++
            (zeros gap ++ payload)) (zeros rest),
        laid_up_to,
      )

  -- main data laid after those before them are laid among all
  pub more-laid : begin ≤ free → gap ≡ free - begin → length payload ≤ begin + area
      → rest ≡ begin + area - length payload → AreAreasLaid given (waits items free) ps
      → AreAreasLaid given (waits (items ++ (zeros gap ++ payload)) rest)
      (ps ++ record { payload = payload; begin = begin; area = area } ∷ [])
  more-laid reach gaps fits rests are =
      grind (arith, fit-more, more_same, areas_end-more, data_end-more, length-append, length-zeros)

-- where the main data are put into the bytes that wait and a new area of zeros
pub more-put : (items payload : List ℕ) {begin free gap rest : ℕ} (area : ℕ) →
    begin ≤ free → gap ≡ free - begin → length payload ≤ begin + area
    → rest ≡ begin + area - length payload →
    (items ++ (zeros gap ++ payload)) ++ zeros rest
    ≡ overwritten_bytes (length (items ++ zeros free) - begin) payload
    ((items ++ zeros free) ++ zeros area)
more-put items payload
    {begin} {free} {gap} {rest} area reach gaps fits rests =
    let n = length items in
    let place : length (items ++ zeros free) - begin ≡ n + gap =
    omega (arith, length-append items (zeros free), length-zeros free, reach, gaps) in
    let whole : (items ++ zeros free) ++ zeros area ≡ items ++ zeros (free + area) =
    append_assoc items (zeros free) (zeros area)
    ∙ ap (λ (xs : List ℕ). items ++ xs) (replicate-append-replicate free area 0) in
    let front : take (n + gap) (items ++ zeros (free + area)) ≡ items ++ zeros gap =
    take-append-add items (zeros (free + area)) gap ∙ ap (λ (xs : List ℕ). items ++ xs)
    (take-replicate gap (free + area) 0 (omega (arith, reach, gaps))) in
    let together : n + gap + length payload ≡ n + (gap + length payload) = omega arith in
    let back : drop (n + gap + length payload) (items ++ zeros (free + area)) ≡ zeros rest =
    ap (λ k. drop k (items ++ zeros (free + area))) together
    ∙ drop-append-add items (zeros (free + area)) (gap + length payload)
    ∙ drop-replicate (gap + length payload) (free + area) 0
    ∙ ap zeros (omega (arith, reach, gaps, fits, rests)) in
    ap (λ (xs : List ℕ). xs ++ zeros rest) (sym (append_assoc items (zeros gap) payload))
    ∙ append_assoc (items ++ zeros gap) payload (zeros rest)
    ∙ sym (rw (place, whole) (ap₂ (λ (xs ys : List ℕ). xs ++ (payload ++ ys)) front back))

-- ---- the first bytes taken

first_cases : {n : ℕ} (free : ℕ) (items : List ℕ) → n ≤ length items + free
    → (n < length items) ⊎ (length items ≤ n) →
    (take (min n (length items)) items ++ zeros (n - min n (length items))
    ≡ take n (items ++ zeros free))
    × (drop (min n (length items)) items ++ zeros (free - (n - min n (length items)))
    ≡ drop n (items ++ zeros free))
first_cases free items within (inl few) =
    grind (arith, min-eq_left, append-nil, take-append-le, drop-append-le)
first_cases {n} free items within (inr many) =
    let least : min n (length items) ≡ length items = min-eq_right many in
    let split : n ≡ length items + (n - length items) = omega arith in
    rw (least) (
      ap₂ (λ (xs ys : List ℕ). xs ++ ys) (take-length items)
          (sym (take-replicate (n - length items) free 0 (omega arith)))
          ∙ sym (ap (λ k. take k (items ++ zeros free)) split
          ∙ take-append-add items (zeros free) (n - length items)),
      ap (λ (xs : List ℕ). xs ++ zeros (free - (n - length items))) (drop-length items)
          ∙ sym (ap (λ k. drop k (items ++ zeros free)) split ∙ drop-append-add items (zeros free)
          (n - length items) ∙ drop-replicate (n - length items) free 0),
    )

-- dropping bytes from what is stored, and the others
-- from the zeros after it, drops them from both together
pub first-left : {n : ℕ} (free : ℕ) (items : List ℕ) → n ≤ length items + free →
    drop (min n (length items)) items ++ zeros (free - (n - min n (length items)))
    ≡ drop n (items ++ zeros free)
first-left {n} free items within = (first_cases free items within (cases_lt n (length items))).1

-- what was forwarded and what waits stay the same together
pub taken-laid : {given bytes taken left : List ℕ} (n : ℕ) {free less : ℕ} {ps : List FrameData}
    → taken ≡ take n bytes → left ≡ drop n bytes → less ≤ free → less ≤ length left →
    AreAreasLaid given (record { bytes = bytes; free = free }) ps
    → AreAreasLaid (given ++ taken) (record { bytes = left; free = less }) ps
taken-laid n takes leaves fewer some are = grind (arith, append_assoc, take-append-drop)

-- ---- frames that follow

laid_data_from-append : (end area_start : ℕ) (ps qs : List FrameData)
    → laid_data_from end area_start (ps ++ qs)
    ≡ up_to end area_start ps
    ++ laid_data_from (data_end end area_start ps) (areas_end area_start ps) qs
laid_data_from-append end area_start [] qs = refl
laid_data_from-append end area_start (p ∷ ps) qs =
    grind (
      arith,
      append_assoc,
      laid_data_from-append (frame_data_end area_start p) (area_start +
          p.area) ps qs,
    )

-- zeros are before the main data of the first of these frames
zeros_first : (end area_start : ℕ) {free : ℕ} (qs : List FrameData) → BeginsWithin free qs
    → (begin : ℕ) × (begin ≤ free) ×
    (rest : List ℕ) × (laid_data_from end area_start qs ≡ zeros (area_start - begin - end) ++ rest)
zeros_first end area_start [] within = grind (arith, append-nil (zeros (area_start - 0 - end)))
zeros_first end area_start (q ∷ qs) within = (
  q.begin,
  within,
  q.payload ++ laid_data_from (frame_data_end area_start q) (area_start + q.area) qs,
  refl,
)

-- a prefix of a list with zeros after it is a prefix of the list with fewer zeros
front_of_zeros : (given bytes front rest : List ℕ) {n m : ℕ} → given ++ bytes ≡ front ++ zeros n
    → m ≤ n → n - m ≤ length bytes → (more : List ℕ) × (front ++ (zeros m ++ rest) ≡ given ++ more)
front_of_zeros given bytes front rest {n} {m} same few many =
    let all : given ++ bytes ≡ (front ++ zeros m) ++ zeros (n - m) =
    same ∙ ap (λ (xs : List ℕ). front ++ xs)
    (ap zeros (omega (arith, few)) ∙ sym (replicate-append-replicate m (n - m) 0))
    ∙ sym (append_assoc front (zeros m) (zeros (n - m))) in
    let short : length given ≤ length (front ++ zeros m) =
    omega (
      arith,
      ap length all,
      length-append given bytes,
      length-append (front ++ zeros m) (zeros (n - m)),
      length-zeros (n - m),
      many,
    ) in
    let is : given ≡ take (length given) (front ++ zeros m) =
    sym (take-length given) ∙ sym (take-append-le (length given) given bytes (omega arith))
    ∙ ap (take (length given)) all
    ∙ take-append-le (length given) (front ++ zeros m) (zeros (n - m)) short in (
      drop (length given) (front ++ zeros m) ++ rest,
      sym (append_assoc front (zeros m) rest)
          ∙ ap (λ (xs : List ℕ). xs ++ rest)
          (sym (take-append-drop (length given) (front ++ zeros m))
          ∙ ap (λ (xs : List ℕ). xs ++ drop (length given) (front ++ zeros m)) (sym is))
          ∙ append_assoc given (drop (length given) (front ++ zeros m)) rest,
    )

-- what was forwarded stays, whatever is laid after it within what is free
pub laid_data-later : {given : List ℕ} {waiting : WaitingAreas} {ps : List FrameData}
    (qs : List FrameData) → AreAreasLaid given waiting ps → BeginsWithin waiting.free qs
    → (rest : List ℕ) × (laid_data (ps ++ qs) ≡ given ++ rest)
laid_data-later {given} {waiting} {ps} qs are within =
    let end = data_end 0 0 ps in
    let all = areas_end 0 ps in
    let first = zeros_first end all qs within in
    let found =
    front_of_zeros given waiting.bytes (up_to 0 0 ps) first.2
    (are.same ∙ laid_up_to 0 0 ps) (omega arith) (omega (arith, first.1, are.free, are.room)) in (
      found.0,
      laid_data_from-append 0 0 ps qs ∙ ap (λ (xs : List ℕ). up_to 0 0 ps ++ xs) first.3 ∙ found.1,
    )

-- ---- the queue

-- ---- the first bytes of what waits

-- the first bytes of what waits are those that are stored, and zeros
pub first-parts : {n : ℕ} (free : ℕ) {stored : ℕ} (items : List ℕ) {now : List ℕ}
    → items ++ zeros free ≡ now → n ≤ length now → stored ≡ min n (length items)
    → take stored items ++ zeros (n - stored) ≡ take n now
first-parts free {stored} items views within stores =
    grind (arith, stored, length-append, length-zeros, take-replicate, take_two)

-- the bytes before the free ones are those of the queue
pub laid_count-queue : (count : ℕ) {free stored : ℕ} (items : List ℕ) {w : WaitingAreas}
    → waits items free ≡ w → stored ≡ laid_count count w → stored ≡ min count (length items)
laid_count-queue count items views is = grind (arith, length-append, length-zeros)

-- what is left after the first bytes of what waits
pub left-is : {n : ℕ} (free : ℕ) {stored : ℕ} (items : List ℕ) {left now : List ℕ}
    → stored ≡ min n (length items) → left ≡ drop stored items → items ++ zeros free ≡ now
    → n ≤ length now → left ++ zeros (free - (n - stored)) ≡ drop n now
left-is free {stored} items stores leaves views within =
    grind (arith, stored, first-left, length-append, length-zeros)
