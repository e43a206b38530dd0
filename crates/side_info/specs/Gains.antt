-- Gains that are changed in place, in side information and in a frame.
use Rattle.std.specs.Prelude.{drop, length, List, slice_index_or, take, ℕ, [], ◌++◌, ◌+◌, ◌≡◌}
use Rattle.bit_fields.specs.Bits.{bits, bits_of, bytes}
use Rattle.frame_header.specs.Fields.{ClassFields, HeaderFields}
use Rattle.frame_header.specs.Tables.{class_of, overhead_of, side_size_of}
use Rattle.side_info.specs.{CheckWord.check_word_of, Frame.{frame_with_side, side_in}}
use Rattle.side_info.specs.{Side.{HasOtherGains, side_at, side_bits}, declared.side.Side.Side}

-- side bytes get the gains of `s`, if their side information differs from `s` in gains alone; both
-- granules of `s` have two channels
pub record PutsSide (class : ClassFields) (s : Side) (old new : List ℕ) : Type 0 where
  pub put : HasOtherGains (side_at class (bits old)) s → bits new ≡ side_bits class s
  pub first : length (slice_index_or s.granules 0 []) ≡ 2
  pub second : length (slice_index_or s.granules 1 []) ≡ 2

-- the side bytes from byte `offset` of a frame on get the gains of `s` likewise; what is before and
-- after them stays
pub record PutsSideAt (class : ClassFields) (offset : ℕ) (s : Side)
    (old new : List ℕ) : Type 0 where
  pub before : take offset new ≡ take offset old
  pub behind : drop (offset + side_size_of class) new ≡ drop (offset + side_size_of class) old
  pub side : HasOtherGains (side_at class (bits (take (side_size_of class) (drop offset old)))) s
      → bits (take (side_size_of class) (drop offset new)) ≡ side_bits class s

-- a frame gets the check word that is right for its side bytes; everything else stays
pub record PutsCrc (h : HeaderFields) (old new : List ℕ) : Type 0 where
  pub before : take 4 new ≡ take 4 old
  pub behind : drop 6 new ≡ drop 6 old
  pub word : (s : Side)
      → bits (take (side_size_of (class_of h)) (drop 6 old)) ≡ side_bits (class_of h) s
      → new ≡ take 4 old ++ (bytes (bits_of 16 (check_word_of h s)) ++ drop 6 old)

-- a frame with this header gets the gains of this side information, and the check word that is then
-- right
pub record PutsGains (h : HeaderFields) (s : Side) (old new : List ℕ) : Type 0 where
  pub length : length new ≡ length old
  pub header : take 4 new ≡ take 4 old
  pub behind : drop (overhead_of (class_of h) h.protected) new
      ≡ drop (overhead_of (class_of h) h.protected) old
  pub gains : HasOtherGains (side_in h old) s → new ≡ frame_with_side h s old
