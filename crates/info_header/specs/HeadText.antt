-- Where the text of a head is in a frame. The layout of Xing and Info heads is in no standard:
-- encoders write the text right after the side information (ISO/IEC 11172-3, 2.4.1), some leaving
-- two bytes for the check word of a protected frame and some not.
use Rattle.std.specs.Prelude.{Bool, bytes_eq, codes, drop, if◌then◌else◌, List, None, Option, Some}
use Rattle.std.specs.Prelude.{take, ℕ, ◌&&◌, ◌+◌, ◌||◌}
use Rattle.frame_header.specs.{Fields.HeaderFields, Tables.{class_of, side_size_of}}

-- `Xing` or `Info` is at this offset of the frame; a text that the frame's end cuts short doesn't
-- count
unfoldable pub has_text : ℕ → List ℕ → Bool
has_text at frame = let text = take 4 (drop at frame) in
    bytes_eq text (codes "Xing") || bytes_eq text (codes "Info")

-- after the header and the side information, as if there were no check word
unfoldable pub low_offset : HeaderFields → ℕ
low_offset h = 4 + side_size_of (class_of h)

-- after the header, the check word and the side information
unfoldable pub high_offset : HeaderFields → ℕ
high_offset h = 6 + side_size_of (class_of h)

-- the offset of the text in bytes from the frame's first byte: the lower one where the text is
-- there, otherwise, in a protected frame, the higher one; none where it is at neither
unfoldable pub head_text_of : HeaderFields → List ℕ → Option ℕ
head_text_of h frame =
    if has_text (low_offset h) frame then Some (low_offset h)
    else if h.protected && has_text (high_offset h) frame then Some (high_offset h)
    else None
