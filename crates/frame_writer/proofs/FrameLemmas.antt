-- Laws of frames that wait.
use Rattle.std.proofs.Common.{ap, append-nil, append_assoc, ap₂, arith, Bool, drop, Err, false, inl}
use Rattle.std.proofs.Common.{inr, IsOk, length, length-append, List, lit≤, min, mul-suc, Ok, OnOk}
use Rattle.std.proofs.Common.{refl, Result, slice_get, Some, subst, sym, take, true, unwrap_or, ℕ}
use Rattle.std.proofs.Common.{[], ◌*◌, ◌++◌, ◌+◌, ◌<◌, ◌↔◌, ◌∙◌, ◌∷◌, ◌≡◌, ◌≤◌, ◌⊎◌}
use Rattle.std.proofs.Math.{Nat.{min-eq_left, min-eq_right}, Seq.take-length}
use Rattle.std.proofs.lemmas.Bool.{cases_lt, false≢true}
use Rattle.std.proofs.lemmas.List.{drop-append-le, length-drop, map-append, take-append-le}
use Rattle.circular_buffer.specs.Buffer.{Buffer, buffer}
use Rattle.frame_header.proofs.HeaderLemmas.{IsClass-class_of}
use Rattle.frame_header.proofs.LengthLemmas.{least_length, length-least}
use Rattle.frame_header.proofs.SlotLemmas.{area-is, area-most}
use Rattle.frame_header.specs.Fields.{ClassFields, IsClass, IsHeader, IsSlot, SlotFields}
use Rattle.frame_header.specs.Tables.{area_of, class_of, overhead_of, side_bytes_of, side_size_of}
use Rattle.frame_header.specs.{Tables.window_of, declared.version.Version.Version}
use Rattle.frame_header.specs.declared.version.Version.TheVariants.{One, Two, TwoFive}
use Rattle.frame_writer.proofs.LaidLemmas.{laid_data-later}
use Rattle.frame_writer.specs.Frames.{all_frame_data, areas_length, AreFieldsOfClass}
use Rattle.frame_writer.specs.Frames.{AreFramesWritten, bytes_of_frames, fields_of_frames}
use Rattle.frame_writer.specs.Frames.{first_bytes, Frame, frame_area, frame_data, framed_bytes}
use Rattle.frame_writer.specs.Frames.{IsNextSettled, WaitingFrames}
use Rattle.frame_writer.specs.Laid.{AreAreasLaid, BeginsWithin, FrameData, laid_data, WaitingAreas}
use Rattle.frame_writer.specs.{Laws.{FewFramesWait, HasFrameRoom, LaidSteps}, Writing.IsNewQueue}
use Rattle.side_info.specs.{Frame.frame_front_bytes, FrameFields.FrameFields, Side.SideFits}

-- ---- areas cut in order

-- frames and then others are framed in order
pub framed_bytes-more : (ks js : List FrameFields) (xs ys : List ℕ) → length xs ≡ areas_length ks
    → framed_bytes (ks ++ js) (xs ++ ys) ≡ framed_bytes ks xs ++ framed_bytes js ys
framed_bytes-more [] js [] ys long = refl
framed_bytes-more [] js (x ∷ xs) ys long = absurd (omega (arith, long))
framed_bytes-more (k ∷ ks) js xs ys long =
    let n = frame_area k in
    let front = frame_front_bytes k.header k.side in
    let within : n ≤ length xs = omega (arith, long) in
    let rest : length (drop n xs) ≡ areas_length ks = omega (arith, length-drop n xs, long) in
    ap₂ (λ (ps qs : List ℕ). front ++ (ps ++ framed_bytes (ks ++ js) qs))
    (take-append-le n xs ys within)
    (drop-append-le n xs ys within)
    ∙ ap (λ (qs : List ℕ). front ++ (take n xs ++ qs)) (framed_bytes-more ks js (drop n xs) ys rest)
    ∙ ap (λ (qs : List ℕ). front ++ qs)
    (sym (append_assoc (take n xs) (framed_bytes ks (drop n xs)) (framed_bytes js ys)))
    ∙ sym (append_assoc front (take n xs ++ framed_bytes ks (drop n xs)) (framed_bytes js ys))

areas_length-more : (xs : List FrameFields) (k : FrameFields)
    → areas_length (xs ++ k ∷ []) ≡ areas_length xs + frame_area k
areas_length-more [] k = omega arith
areas_length-more (x ∷ xs) k = omega (arith, areas_length-more xs k)

-- what was taken, and then what waits, are the bytes of all frames that were given
pub laid-steps : LaidSteps
laid-steps taken held fs are = grind (arith, framed_bytes-more)

-- if no frame was given, none was taken
pub none-written : (c : ClassFields) → AreAreasLaid [] (record { bytes = []; free = 0 }) []
    → AreFramesWritten []
    (record { class = c; kept = []; waiting = record { bytes = []; free = 0 } }) []
none-written c are =
    record { done = []; given = []; all = refl; long = refl; laid = are; bytes = refl }

-- a queue in which nothing waits is new
pub none-new : (c : ClassFields) → AreAreasLaid [] (record { bytes = []; free = 0 }) []
    → IsNewQueue c (record { class = c; kept = []; waiting = record { bytes = []; free = 0 } })
none-new c are = grind (arith, none-written)

-- a frame that is given is one more of the frames taken and waiting
pub more-written : {taken : List ℕ} {c : ClassFields} {kept : List FrameFields}
    {waiting more : WaitingAreas} {fs : List Frame} (f : Frame) →
    ((given : List ℕ) (ps : List FrameData) → AreAreasLaid given waiting ps
    → AreAreasLaid given more (ps ++ frame_data f ∷ [])) →
    AreFramesWritten taken (record { class = c; kept = kept; waiting = waiting }) fs →
    AreFramesWritten taken (record { class = c; kept = kept ++ f.kept ∷ []; waiting = more })
    (fs ++ f ∷ [])
more-written {kept = kept} {more = more} {fs = fs} f step are = record {
  done = are.done;
  given = are.given;
  all = sym (append_assoc are.done kept (f.kept ∷ []))
      ∙ ap (λ (ks : List FrameFields). ks ++ f.kept ∷ []) are.all
      ∙ sym (map-append (λ (g : Frame). g.kept) fs (f ∷ []));
  long = are.long;
  laid = subst (AreAreasLaid are.given more) (sym (map-append frame_data fs (f ∷ [])))
      (step are.given (all_frame_data fs) are.laid);
  bytes = are.bytes;
}

-- when the first frame is taken, the bytes of all frames stay the same
pub first-written : {taken area_bytes : List ℕ} {c : ClassFields} {k : FrameFields}
    {ks : List FrameFields} {waiting less : WaitingAreas} {fs : List Frame} →
    length area_bytes ≡ frame_area k →
    ((given : List ℕ) (ps : List FrameData) → AreAreasLaid given waiting ps
    → AreAreasLaid (given ++ area_bytes) less ps) →
    AreFramesWritten taken (record { class = c; kept = k ∷ ks; waiting = waiting }) fs →
    AreFramesWritten (taken ++ (frame_front_bytes k.header k.side ++ area_bytes))
    (record { class = c; kept = ks; waiting = less }) fs
first-written {area_bytes = area_bytes} {k = k} {ks = ks} {fs = fs} long step are =
    let cut : frame_front_bytes k.header k.side ++ area_bytes ≡ framed_bytes (k ∷ []) area_bytes =
    ap (λ (xs : List ℕ). frame_front_bytes k.header k.side ++ xs)
    (sym (append-nil area_bytes) ∙ ap (λ (xs : List ℕ). xs ++ [])
    (sym (take-length area_bytes) ∙ ap (λ n. take n area_bytes) long)) in
    record {
      done = are.done ++ k ∷ [];
      given = are.given ++ area_bytes;
      all = append_assoc are.done (k ∷ []) ks ∙ are.all;
      long = omega
          (arith, length-append are.given area_bytes, are.long, long, areas_length-more are.done k);
      laid = step are.given (all_frame_data fs) are.laid;
      bytes = ap₂ (λ (xs ys : List ℕ). xs ++ ys) are.bytes cut
          ∙ sym (framed_bytes-more are.done (k ∷ []) are.given area_bytes are.long);
    }

-- what was taken stays whatever frames follow, if the first of them begins within what is free
pub later-frames : {taken : List ℕ} {held : WaitingFrames} {fs : List Frame} (more : List Frame)
    → AreFramesWritten taken held fs → BeginsWithin held.waiting.free (all_frame_data more)
    → (rest : List ℕ) × (bytes_of_frames (fs ++ more) ≡ taken ++ rest)
later-frames {held = held} {fs = fs} more are within =
    let found =
    laid_data-later
    (all_frame_data more) are.laid within in
    let all : fields_of_frames (fs ++ more) ≡ are.done ++ (held.kept ++ fields_of_frames more) =
    map-append (λ (f : Frame). f.kept) fs more
    ∙ ap (λ (ks : List FrameFields). ks ++ fields_of_frames more)
    (sym are.all) ∙ append_assoc are.done held.kept (fields_of_frames more) in (
      framed_bytes (held.kept ++ fields_of_frames more) found.0,
      ap₂ framed_bytes all (ap laid_data (map-append frame_data fs more) ∙ found.1)
          ∙ framed_bytes-more are.done (held.kept ++ fields_of_frames more)
          are.given found.0 are.long
          ∙ ap (λ (xs : List ℕ). xs ++ framed_bytes (held.kept ++ fields_of_frames more) found.0)
          (sym are.bytes),
    )

-- ---- frames in their queue

-- frames of a class and one more of it are of the class
pub AreFieldsOfClass-more : {c : ClassFields} (ks : List FrameFields) {k : FrameFields}
    → AreFieldsOfClass c ks → IsHeader k.header → class_of k.header ≡ c → SideFits c k.side
    → AreFieldsOfClass c (ks ++ k ∷ [])
AreFieldsOfClass-more [] are is same fits = (is, same, fits, tt)
AreFieldsOfClass-more {c} (j ∷ ks) {k} are is same fits =
    (are.0, are.1, are.2, AreFieldsOfClass-more ks are.3 is same fits)

-- if areas are as long as bytes, they still are with one more area and its bytes
pub areas_length-pushed : (ks : List FrameFields) (k : FrameFields) (bytes more : List ℕ)
    → areas_length ks ≡ length bytes → length more ≡ length bytes + frame_area k →
    areas_length (ks ++ k ∷ []) ≡ length more
areas_length-pushed ks k bytes more same long = omega (arith, areas_length-more ks k, same, long)

-- a frame that is added where there is room is the last of the queue
pub pushed-kept : {R : Type 0} (old : Buffer FrameFields) {new : Buffer FrameFields}
    (k : FrameFields)
    (r : Result R FrameFields) → old.capacity ≡ 256 → length old.items < 256
    → (IsOk r ↔ (length old.items < old.capacity)) →
    OnOk r (new ≡ buffer (old.items ++ k ∷ []) old.capacity)
    → (new.capacity ≡ 256) × (new.items ≡ old.items ++ k ∷ [])
pushed-kept old k (Ok x) many few when is = grind (arith, many)
pushed-kept old k (Err e) many few when is = grind (arith, false≢true, many)

-- a queue with frames has a first one, and the others after it
pub first-kept : (ks : List FrameFields) {k : FrameFields} → 0 < length ks → slice_get ks 0 ≡ Some k
    → ks ≡ k ∷ drop 1 ks
first-kept [] some is = absurd (omega (arith, some))
first-kept (j ∷ ks) some is = ap (λ (i : FrameFields). i ∷ ks) (ap (λ o. unwrap_or o j) is)

-- ---- the bytes of a frame

-- how long the area of a frame is
pub area-range : (k : FrameFields) → IsHeader k.header → (1 ≤ frame_area k) × (frame_area k ≤ 1441)
area-range k is = grind (arith, IsClass-class_of, area-is, area-most)

-- framed bytes are the bytes of the first frame and then of the frames after it
pub first-framed_bytes : (k : FrameFields) (ks : List FrameFields) (bytes : List ℕ)
    → first_bytes k bytes ++ framed_bytes ks (drop (frame_area k) bytes)
    ≡ framed_bytes (k ∷ ks) bytes
first-framed_bytes k ks bytes = grind (arith, append_assoc)

-- ---- how many can wait

-- a lower bound of the areas of all frames of a version, in bytes
abbrev pub least_of : Version → ℕ
least_of One = 3
least_of Two = 1
least_of TwoFive = 1

-- the shortest frames have at least such areas, also with a check word
least_room : (version : Version) (channels : ℕ)
    → least_of version + 6 + side_bytes_of version channels ≤ least_length version
least_room One channels = grind (arith, lit≤)
least_room Two channels = grind (arith, lit≤)
least_room TwoFive channels = grind (arith, lit≤)

area-least : (c : ClassFields) (s : SlotFields) (protected : Bool) → IsClass c → IsSlot s
    → least_of c.version ≤ area_of c s protected
unfolding area_of overhead_of side_size_of
area-least c s true class is = grind (arith, length-least, least_room)
area-least c s false class is = grind (arith, length-least, least_room)

kept-least : {c : ClassFields} (k : FrameFields) → IsClass c → IsHeader k.header
    → class_of k.header ≡ c → least_of c.version ≤ frame_area k
kept-least k class is same = grind (arith, area-least)

many : (c : ClassFields) (m : ℕ) (ks : List FrameFields) → IsClass c → AreFieldsOfClass c ks
    → m ≡ least_of c.version → m * length ks ≤ areas_length ks
many c m [] class are is = omega arith
many c m (k ∷ ks) class are is = grind (arith, mul-suc, kept-least, many c m ks class are.3 is)

-- if less than a window of areas is after the first frame, fewer than 255 frames are
few_behind : (version : Version) (n : ℕ) {bytes : ℕ} → least_of version * n ≤ bytes
    → bytes < window_of version → n + 1 < 256
few_behind One n all behind = omega (arith, all, behind)
few_behind Two n all behind = omega (arith, all, behind)
few_behind TwoFive n all behind = omega (arith, all, behind)

window-most : (version : Version) → window_of version ≤ 511
window-most One = lit≤ tt
window-most Two = lit≤ tt
window-most TwoFive = lit≤ tt

least_left : {m n : ℕ} → (n < m) ⊎ (m ≤ n) → min m n ≤ m
least_left (inl less) = grind (arith, min-eq_right)
least_left {m} {n} (inr more) = let is : min m n ≡ m = min-eq_left more in omega (arith, is)

have_room : {c : ClassFields} (kept : List FrameFields) {waiting : WaitingAreas}
    → AreFieldsOfClass c kept → areas_length kept ≡ length waiting.bytes →
    (IsNextSettled (record { class = c; kept = kept; waiting = waiting }) → ⊥)
    → HasFrameRoom (record { class = c; kept = kept; waiting = waiting })
have_room [] are same unsettled = record { few = lit≤ tt; room = omega (arith, same) }
have_room {c} (k ∷ ks) {waiting} are same unsettled =
    let class : IsClass c = subst IsClass are.1 (IsClass-class_of are.0) in
    let held : WaitingFrames = record { class = c; kept = k ∷ ks; waiting = waiting } in
    let behind : areas_length ks < window_of c.version =
    elim (cases_lt (areas_length ks) (window_of c.version))
    as (λ _. areas_length ks < window_of c.version) [
      | inl less ↦ less
      | inr more ↦ absurd (unsettled (record {
        some = omega arith;
        behind = omega (
          arith,
          same,
          more,
          least_left (cases_lt waiting.free (window_of c.version)),
        );
      }))
    ] in
    let first : frame_area k ≤ 1428 = subst (λ d. area_of d k.header.slot k.header.protected ≤ 1428)
    (sym are.1) (area-most c k.header.slot k.header.protected class are.0.slot) in
    record {
      few = omega (
        arith,
        few_behind c.version (length ks)
            (many c (least_of c.version) ks class are.3 refl) behind,
      );
      room = omega (arith, same, first, behind, window-most c.version);
    }

-- while later main data can reach the area of the first frame that waits, one more has room
pub few-wait : FewFramesWait
few-wait held are same unsettled = have_room held.kept are same unsettled
