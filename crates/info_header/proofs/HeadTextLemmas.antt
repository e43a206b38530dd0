-- Where a head's text is: within the frame, and at one of two offsets.
use Rattle.std.proofs.Common.{ap, arith, Bool, codes, drop, false, inl, inr, length, List, None}
use Rattle.std.proofs.Common.{refl, take, true, ℕ, ◌&&◌, ◌+◌, ◌<◌, ◌∙◌, ◌≡◌, ◌≤◌, ◌⊎◌}
use Rattle.std.proofs.lemmas.{Bool.or_cases, List.{length-drop, length-take}}
use Rattle.std.{proofs.lemmas.Slice.Eq.bytes_eq-Decides, specs.Str.bytes_eq}
use Rattle.frame_header.specs.Fields.{HeaderFields}
use Rattle.info_header.specs.HeadText.{has_text, head_text_of, high_offset, low_offset}

-- ---- the whole text is in the frame

long_part : (at : ℕ) (frame text : List ℕ) → length text ≡ 4
    → bytes_eq (take 4 (drop at frame)) text ≡ true → at + 4 ≤ length frame
long_part at frame text four is =
    let same : take 4 (drop at frame) ≡ text =
    (bytes_eq-Decides (take 4 (drop at frame)) text).0 is in
    let whole : length (take 4 (drop at frame)) ≡ 4 = ap length same ∙ four in
    omega (arith, whole, length-take 4 (drop at frame), length-drop at frame)

either_long : (at : ℕ) (frame : List ℕ) → (bytes_eq (take 4 (drop at frame)) (codes "Xing") ≡ true)
    ⊎ (bytes_eq (take 4 (drop at frame)) (codes "Info") ≡ true) → at + 4 ≤ length frame
either_long at frame (inl xing) = long_part at frame (codes "Xing") refl xing
either_long at frame (inr info) = long_part at frame (codes "Info") refl info

-- the four bytes of a text are within the frame
pub has_text-within : (at : ℕ) (frame : List ℕ) → has_text at frame ≡ true → at + 4 ≤ length frame
unfolding has_text
has_text-within at frame is = either_long at frame (or_cases _ _ is)

short_cases : (at : ℕ) (frame : List ℕ) → length frame < at + 4 → (b : Bool) → has_text at frame ≡ b
    → b ≡ false
short_cases at frame short true is = absurd (omega (arith, has_text-within at frame is))
short_cases at frame short false is = refl

-- past the end there is no text
pub has_text-short : (at : ℕ) (frame : List ℕ) → length frame < at + 4 → has_text at frame ≡ false
has_text-short at frame short = short_cases at frame short (has_text at frame) refl

-- ---- a text is at one of two offsets that are two bytes apart

-- ---- only the bytes up to the end of the text decide

-- ---- the offset

-- a frame without a text at either offset is no head
pub head_text_of-none : (h : HeaderFields) (frame : List ℕ) → has_text (low_offset h) frame ≡ false
    → (h.protected && has_text (high_offset h) frame) ≡ false → head_text_of h frame ≡ None
unfolding head_text_of
head_text_of-none h frame low high = rw (low, high) refl
