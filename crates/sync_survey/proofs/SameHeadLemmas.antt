-- A frame that is the same from two bytes before its area on is still a head, or still none.
use Rattle.std.proofs.Common.{ap, arith, codes, drop, List, Option, option_map, refl, sym, take, ℕ}
use Rattle.std.proofs.{Common.{◌+◌, ◌-◌, ◌∙◌, ◌≡◌, ◌≤◌}, lemmas.List.{drop-drop, drop-take}}
use Rattle.frame_header.specs.Fields.{HeaderFields}
use Rattle.frame_header.specs.Tables.{area_of, class_of, length_of, overhead_of}
use Rattle.info_header.specs.HeadText.{has_text, head_text_of, high_offset, low_offset}
use Rattle.side_info.proofs.FrameLemmas.{overhead-most}
use Rattle.sync_survey.{proofs.ItemListLemmas.nearer_frame, specs.MainData.{area_bytes, head_bytes}}
use Rattle.sync_survey.specs.{Walk.{frame_bytes, head_of}, declared.places.Head.Head}
use Rattle.sync_survey.specs.declared.places.PlacedFrame.{PlacedFrame}

-- what is the same from one place on is the same from each later one
drop_later : {place from : ℕ} (xs ys : List ℕ) → from ≤ place → drop from xs ≡ drop from ys
    → drop place xs ≡ drop place ys
drop_later {place} {from} xs ys within same =
    let split : place ≡ from + (place - from) = omega (arith, within) in
    let there : (l : List ℕ) → drop place l ≡ drop (place - from) (drop from l) =
    λ l. ap (λ n. drop n l) split ∙ sym (drop-drop (place - from) from l) in
    there xs ∙ ap (drop (place - from)) same ∙ sym (there ys)

text_same : (place : ℕ) (xs ys : List ℕ) → drop place xs ≡ drop place ys
    → has_text place xs ≡ has_text place ys
unfolding has_text
text_same place xs ys same = grind (arith, codes)

text_by : (h : HeaderFields) (xs ys : List ℕ) → has_text (low_offset h) xs
    ≡ has_text (low_offset h) ys → has_text (high_offset h) xs ≡ has_text (high_offset h) ys
    → head_text_of h xs ≡ head_text_of h ys
unfolding head_text_of
text_by h xs ys low high = rw (low, high) refl

-- both places at which a text may be are after the first bytes of the side information
places : (h : HeaderFields) → (overhead_of (class_of h) h.protected - 2 ≤ low_offset h)
    × (overhead_of (class_of h) h.protected - 2 ≤ high_offset h)
unfolding low_offset high_offset
places h = grind (arith, overhead-most)

text-same : (h : HeaderFields) (xs ys : List ℕ) → drop (overhead_of (class_of h) h.protected - 2) xs
    ≡ drop (overhead_of (class_of h) h.protected - 2) ys → head_text_of h xs ≡ head_text_of h ys
text-same h xs ys same = grind (arith, text_by, text_same, drop_later, places)

-- a head, `gap` bytes nearer to the beginning of the file
abbrev pub nearer_head : ℕ → Head → Head
nearer_head gap head = record head { offset = head.offset - gap }

placed : (gap : ℕ) (p : PlacedFrame) (o : Option ℕ)
    → option_map (λ at. record { offset = p.offset - gap; header = p.header; text_at = at }) o
    ≡ option_map (nearer_head gap)
    (option_map (λ at. record { offset = p.offset; header = p.header; text_at = at }) o)
placed gap p o = grind arith

-- a frame that is `gap` bytes nearer to the beginning of another file, and is the same there from
-- two bytes before its area on, is a head there exactly if it was one
pub head_of-nearer : (old file : List ℕ) (gap : ℕ) (p : PlacedFrame) → drop
    (overhead_of (class_of p.header) p.header.protected - 2) (frame_bytes file (nearer_frame gap p))
    ≡ drop (overhead_of (class_of p.header) p.header.protected - 2) (frame_bytes old p)
    → head_of file (nearer_frame gap p) ≡ option_map (nearer_head gap) (head_of old p)
unfolding head_of
head_of-nearer old file gap p same = grind (arith, option_map, text-same, nearer_frame, placed)

area_placed : (old file : List ℕ) (gap : ℕ) (p : PlacedFrame) (o : Option ℕ)
    → area_bytes file (p.offset - gap) p.header ≡ area_bytes old p.offset p.header
    → head_bytes file (option_map (nearer_head gap) (option_map (λ at. record {
      offset = p.offset;
      header = p.header;
      text_at = at;
    }) o)) ≡ head_bytes old
    (option_map (λ at. record { offset = p.offset; header = p.header; text_at = at }) o)
area_placed old file gap p o same = grind arith

-- a head's area is unchanged if the frame's area is the same `gap` bytes nearer to the beginning of
-- another file
pub head_bytes-nearer : (old file : List ℕ) (gap : ℕ) (p : PlacedFrame)
    → area_bytes file (p.offset - gap) p.header ≡ area_bytes old p.offset p.header
    → head_bytes file (option_map (nearer_head gap) (head_of old p))
    ≡ head_bytes old (head_of old p)
unfolding head_of
head_bytes-nearer old file gap p same = grind (arith, area_placed)

-- the area of a frame is what follows its side information
pub area-frame : (file : List ℕ) (p : PlacedFrame)
    → overhead_of (class_of p.header) p.header.protected
    ≤ length_of (class_of p.header) p.header.slot → area_bytes file p.offset p.header
    ≡ drop (overhead_of (class_of p.header) p.header.protected) (frame_bytes file p)
unfolding area_of
area-frame file p room =
    let over = overhead_of (class_of p.header) p.header.protected in
    let size = length_of (class_of p.header) p.header.slot in
    let split : over + (size - over) ≡ size = omega (arith, room) in
    sym (drop-take over (size - over) (drop p.offset file))
    ∙ ap (λ n. drop over (take n (drop p.offset file))) split
