-- What the bytes of a frame say before its header is read.
use Rattle.std.proofs.Common.{ap, arith, Bool, codes, cond, drop, eqb, Err, false, get_or, inl, inr}
use Rattle.std.proofs.Common.{is_some, length, List, lit<, not, Ok, option_map, refl, subst, sym}
use Rattle.std.proofs.Common.{take, true, ℕ, [], ◌%◌, ◌*◌, ◌+◌, ◌-◌, ◌/◌, ◌<◌, ◌^◌, ◌∙◌, ◌∷◌, ◌≡◌}
use Rattle.std.proofs.Common.{◌≢◌, ◌≤◌, ◌⊎◌}
use Rattle.std.proofs.lemmas.Bool.{and_from, and_parts, and_right, eq-eqb, eqb-false, eqb-true}
use Rattle.std.proofs.lemmas.Bool.{false≢true, ne_eqb, not-true, or_cases}
use Rattle.std.proofs.lemmas.List.{drop-drop, get_or-drop, get_or-take, length-take}
use Rattle.std.{proofs.lemmas.Slice.Eq.bytes_eq-Decides, specs.Str.bytes_eq}
use Rattle.bit_fields.proofs.BitsLemmas.{AreBits-bits, bits-nil, length-bits, number-bits-push}
use Rattle.bit_fields.{proofs.BitsLemmas.{number-nil, number-within}, specs.Bits.{bits, number}}
use Rattle.bit_fields.specs.Groups.{group}
use Rattle.frame_header.proofs.BelowLemmas.{all_below, all_below-pass}
use Rattle.frame_header.specs.Fields.{ClassFields, HeaderFields, same_class, version_number}
use Rattle.frame_header.specs.Reading.{header_at, header_fields, header_in, is_readable, rate_bits}
use Rattle.frame_header.specs.Tables.{class_of, frequency_of, length_of, rate_of, side_bytes_of}
use Rattle.frame_header.specs.Tables.{side_size_of}
use Rattle.frame_header.specs.declared.header.NotHeader.TheVariants.{Free as FreeHeader, No}
use Rattle.frame_header.specs.declared.version.Version.{Version, TheVariants.{One, Two, TwoFive}}
use Rattle.info_header.proofs.HeadTextLemmas.{has_text-within, head_text_of-none}
use Rattle.info_header.specs.HeadText.{has_text, high_offset, low_offset}
use Rattle.salvage.proofs.UsableLemmas.{header_four, side_protected}
use Rattle.salvage.specs.RawHeader.{may_begin_block, may_begin_text, may_follow_header}
use Rattle.salvage.specs.RawHeader.{raw_frame_length, raw_side_size, raw_version}
use Rattle.salvage.specs.Steps.{IsRuledOut, IsUnusable, may_begin_header, search_reach}
use Rattle.salvage.specs.UsableFrames.{has_right_crc, is_head}
use Rattle.salvage.specs.declared.raw_header.TheConstants.{LENGTHS}
use Rattle.salvage.specs.declared.usable.Role.TheVariants.{First, Later}
use Rattle.side_info.specs.{CheckWord.check_word_of, Frame.stored_crc, Side.side_at}
use Rattle.sync_survey.proofs.ItemsLemmas.{stands}
use Rattle.sync_survey.specs.{Items.{header_front, IsItemFront, item_front}, Start.is_anchor}
use Rattle.sync_survey.specs.declared.items.Item.{Item, TheVariants.{Block, End, Frame}}
use Rattle.tag_blocks.proofs.BlocksLemmas.{block_front-begins}
use Rattle.tag_blocks.specs.Blocks.{begins, begins_with, is_ape, is_id3v1, is_id3v2}
use Rattle.tag_blocks.specs.declared.block.Kind.{Kind, TheVariants.{Ape, Id3v1, Id3v2}}

-- ---- the first four bytes of a header

module _ {a b c d : ℕ} (a_few : a < 256) (b_few : b < 256) (c_few : c < 256) (d_few : d < 256) where
  abbrev four : List ℕ
  four = a ∷ b ∷ c ∷ d ∷ []

  number_four : number (bits four) ≡ ((a * 256 + b) * 256 + c) * 256 + d
  number_four =
      number-bits-push (a ∷ b ∷ c ∷ []) d_few
      ∙ ap (λ n. n * 256 + d) (number-bits-push (a ∷ b ∷ []) c_few)
      ∙ ap (λ n. (n * 256 + c) * 256 + d) (number-bits-push (a ∷ []) b_few)
      ∙ ap (λ n. ((n * 256 + b) * 256 + c) * 256 + d) (number-bits-push [] a_few
      ∙ ap (λ n. n * 256 + a) (ap number bits-nil ∙ number-nil) ∙ nothing_more)
    where
      nothing_more : 0 * 256 + a ≡ a
      nothing_more = omega arith

  group_four : (from width : ℕ) → from + width ≤ 32 → group from width (bits four)
      ≡ (((a * 256 + b) * 256 + c) * 256 + d) / 2 ^ (32 - from - width) % 2 ^ width
  unfolding group
  group_four from width within =
      grind (arith, number-within, AreBits-bits, length-bits, number_four)

  sync_is : group 0 11 (bits four) ≡ a * 8 + b / 32
  sync_is = omega (arith, group_four 0 11 (omega arith), a_few, b_few, c_few, d_few)

  version_is : group 11 2 (bits four) ≡ b / 8 % 4
  version_is = omega (arith, group_four 11 2 (omega arith), a_few, b_few, c_few, d_few)

  layer_is : group 13 2 (bits four) ≡ b / 2 % 4
  layer_is = omega (arith, group_four 13 2 (omega arith), a_few, b_few, c_few, d_few)

  rate_is : group 16 4 (bits four) ≡ c / 16
  rate_is = omega (arith, group_four 16 4 (omega arith), a_few, b_few, c_few, d_few)

  frequency_is : group 20 2 (bits four) ≡ c / 4 % 4
  frequency_is = omega (arith, group_four 20 2 (omega arith), a_few, b_few, c_few, d_few)

  padding_is : group 22 1 (bits four) ≡ c / 2 % 2
  padding_is = omega (arith, group_four 22 1 (omega arith), a_few, b_few, c_few, d_few)

  protection_is : group 15 1 (bits four) ≡ b % 2
  protection_is = omega (arith, group_four 15 1 (omega arith), a_few, b_few, c_few, d_few)

  mode_is : group 24 2 (bits four) ≡ d / 64
  mode_is = omega (arith, group_four 24 2 (omega arith), a_few, b_few, c_few, d_few)

-- what the bytes say of a header that they begin with
record Says (bytes : List ℕ) (h : HeaderFields) : Type 0 where
  pub first : get_or bytes 0 0 ≡ 255
  pub sync : get_or bytes 1 0 / 32 ≡ 7
  pub version_not : get_or bytes 1 0 / 8 % 4 ≢ 1
  pub layer : get_or bytes 1 0 / 2 % 4 ≡ 1
  pub rate_not : get_or bytes 2 0 / 16 ≢ 15
  pub rate_some : get_or bytes 2 0 / 16 ≢ 0
  pub version : h.version ≡ raw_version (get_or bytes 1 0 / 8 % 4)
  pub rate : h.slot.rate_index ≡ get_or bytes 2 0 / 16
  pub padding : h.slot.padding ≡ eqb (get_or bytes 2 0 / 2 % 2) 1
  pub frequency : h.frequency_index ≡ get_or bytes 2 0 / 4 % 4
  pub protected : h.protected ≡ eqb (get_or bytes 1 0 % 2) 0
  pub mode : h.mode ≡ get_or bytes 3 0 / 64

record Read (h : List ℕ) (fields : HeaderFields) : Type 0 where
  pub readable : is_readable h ≡ true
  pub some : rate_bits h ≢ 0
  pub is : header_fields h ≡ fields

read_cases : {h : List ℕ} {r z : Bool} {fields : HeaderFields} → is_readable h ≡ r
    → eqb (rate_bits h) 0 ≡ z
    → cond r (cond z (Err FreeHeader) (Ok (header_fields h))) (Err No) ≡ Ok fields → Read h fields
read_cases is none e = grind arith

read_in : {h : List ℕ} {fields : HeaderFields} → header_in h ≡ Ok fields → Read h fields
unfolding header_in
read_in {h} {fields} e = read_cases refl refl e

read_at : (four : List ℕ) {fields : HeaderFields} → header_at four ≡ Ok fields
    → Read (bits four) fields
unfolding header_at
read_at four {fields} e = read_in e

module _ {a b c d : ℕ} (rest : List ℕ) (a_few : a < 256) (b_few : b < 256) (c_few : c < 256)
    (d_few : d < 256) {h : HeaderFields} (read : Read (bits (a ∷ b ∷ c ∷ d ∷ [])) h) where
  says_four : Says (a ∷ b ∷ c ∷ d ∷ rest) h
  unfolding is_readable header_fields
  says_four =
      let parts = and_parts _ _ read.readable in
      let first = and_parts _ _ parts.0 in
      let front = and_parts _ _ first.0 in
      let marks = and_parts _ _ front.0 in
      let sync = sym (sync_is a_few b_few c_few d_few) ∙ eqb-true _ _ marks.0 in
      let version = version_is a_few b_few c_few d_few in
      let rate = rate_is a_few b_few c_few d_few in record {
        first = omega (arith, sync, a_few, b_few);
        sync = omega (arith, sync, a_few, b_few);
        version_not = λ e. eqb-false _ _ (not-true _ marks.1) (version ∙ e);
        layer = sym (layer_is a_few b_few c_few d_few) ∙ eqb-true _ _ front.1;
        rate_not = λ e. eqb-false _ _ (not-true _ first.1) (rate ∙ e);
        rate_some = λ e. read.some (rate ∙ e);
        version = ap (λ (f : HeaderFields). f.version) (sym read.is) ∙ ap raw_version version;
        rate = ap (λ (f : HeaderFields). f.slot.rate_index) (sym read.is) ∙ rate;
        padding = grind (arith, padding_is);
        frequency = grind (arith, frequency_is);
        protected = grind (arith, protection_is);
        mode = grind (arith, mode_is);
      }

abbrev pub AreFew : List ℕ → Type 0
AreFew bytes = (i : ℕ) → get_or bytes i 0 < 256

-- bytes without their first ones are bytes
pub few_behind : (xs : List ℕ) (k : ℕ) → AreFew xs → AreFew (drop k xs)
few_behind xs k few = λ i. subst (λ n. n < 256) (sym (get_or-drop k xs i 0)) (few (k + i))

says : (bytes : List ℕ) {h : HeaderFields} → AreFew bytes → 4 ≤ length bytes
    → header_at (take 4 bytes) ≡ Ok h → Says bytes h
says (a ∷ b ∷ c ∷ d ∷ rest) {h} few many e =
    says_four rest (few 0) (few 1) (few 2) (few 3) (read_at (a ∷ b ∷ c ∷ d ∷ []) e)
says _ few many e = absurd (omega (arith, many))

header_says : {bytes : List ℕ} {h : HeaderFields} → AreFew bytes → header_front bytes ≡ Ok h
    → Says bytes h
header_says {bytes} {h} few e =
    let read = header_four bytes e in
    says bytes few read.0 read.1

-- where there is a header, one may begin
pub header_begins : (bytes : List ℕ) {h : HeaderFields} → AreFew bytes → header_front bytes ≡ Ok h
    → may_begin_header (get_or bytes 0 0) (get_or bytes 1 0) ≡ true
header_begins bytes few e = grind (arith, header_says, eq-eqb)

-- ---- the length of the frame

abbrev length_by : Version → ℕ → ℕ → Bool → ℕ
length_by v f r p = length_of (record { version = v; frequency_index = f; channels = 2 })
    (record { rate_index = r; padding = p })

any_channels : (v : Version) (f channels r : ℕ) (p : Bool)
    → length_of (record { version = v; frequency_index = f; channels = channels })
    (record { rate_index = r; padding = p }) ≡ length_by v f r p
unfolding length_of rate_of frequency_of
any_channels v f channels r p = refl

length_of_header : (h : HeaderFields) → length_of (class_of h) h.slot
    ≡ length_by h.version h.frequency_index h.slot.rate_index h.slot.padding
length_of_header h = grind (arith, any_channels)

-- the length that the second and third bytes of a header give is the frame's
pub length_is : (bytes : List ℕ) {h : HeaderFields} → AreFew bytes → header_front bytes ≡ Ok h
    → length_of (class_of h) h.slot ≡ raw_frame_length (get_or bytes 1 0) (get_or bytes 2 0)
unfolding raw_frame_length
length_is bytes {h} few e = grind (arith, header_says few e, length_of_header h)

-- the table has the lengths without padding
abbrev bare_length : ℕ → ℕ → ℕ
bare_length v t = length_by (raw_version v) (t % 4) (t / 4) false

tabled : all_below 4
    (λ v. all_below 64 (λ t. eqb (get_or LENGTHS (v * 64 + t) 0) (bare_length v t))) ≡ true
unfolding length_of rate_of frequency_of
tabled = refl

entry : {v t : ℕ} → v < 4 → t < 64 → get_or LENGTHS (v * 64 + t) 0 ≡ bare_length v t
entry {v} {t} v_few t_few =
    eqb-true _ _ (all_below-pass 64 (λ t. eqb (get_or LENGTHS (v * 64 + t) 0) (bare_length v t))
    (all_below-pass 4 (λ v. all_below 64
    (λ t. eqb (get_or LENGTHS (v * 64 + t) 0) (bare_length v t))) tabled v_few) t_few)

padded : (v : Version) (f r : ℕ) {n : ℕ} → n < 2
    → length_by v f r (eqb n 1) ≡ length_by v f r false + n
unfolding length_of rate_of frequency_of
padded v f r few = grind arith

-- the table of 256 lengths gives this length
pub length_told : {second third : ℕ} → second < 256 → third < 256
    → get_or LENGTHS (second / 8 % 4 * 64 + third / 4) 0 + third / 2 % 2
    ≡ raw_frame_length second third
unfolding raw_frame_length
length_told {second} {third} second_few third_few =
    let v : ℕ = second / 8 % 4 in
    let rate : third / 4 / 4 ≡ third / 16 = omega arith in
    ap (λ n. n + third / 2 % 2)
    (entry {v = v} {t = third / 4} (omega arith) (omega (arith, third_few))
    ∙ ap (λ r. length_by (raw_version v) (third / 4 % 4) r false) rate)
    ∙ sym (padded (raw_version v) (third / 4 % 4) (third / 16) {n = third / 2 % 2} (omega arith))

-- ---- what may be an anchor

numbered : {n : ℕ} → n < 4 → n ≢ 1 → version_number (raw_version n) ≡ n
numbered few not_one = grind arith

version_number_said : {bytes : List ℕ} {h : HeaderFields} → Says bytes h
    → version_number h.version ≡ get_or bytes 1 0 / 8 % 4
version_number_said s = grind (arith, numbered)

not_zero : {m n : ℕ} → m ≢ n → not (eqb m n) ≡ true
not_zero {m} {n} e = ap not (ne_eqb m n e)

same_parts : (c d : ClassFields) → same_class c d ≡ true
    → (version_number c.version ≡ version_number d.version)
    × (c.frequency_index ≡ d.frequency_index) × (c.channels ≡ d.channels)
unfolding same_class
same_parts c d e = grind (arith, and_parts, eqb-true)

follows : {own next : List ℕ} {h g : HeaderFields} → Says own h → Says next g
    → same_class (class_of g) (class_of h) ≡ true → may_follow_header own next ≡ true
unfolding may_follow_header
follows o n e = grind (arith, same_parts, version_number_said, and_from, eq-eqb, not_zero)

-- a byte of a text that the bytes begin with
byte_of : (text bytes : List ℕ) {i : ℕ} → i < length text → begins_with text bytes ≡ true
    → get_or bytes i 0 ≡ get_or text i 0
byte_of text bytes within is = grind (arith, bytes_eq-Decides, is, get_or-take)

named : (bytes text : List ℕ) → 2 < length text → begins_with text bytes ≡ true
    → may_begin_block (get_or text 0 0) (get_or text 1 0) (get_or text 2 0) ≡ true
    → may_begin_block (get_or bytes 0 0) (get_or bytes 1 0) (get_or bytes 2 0) ≡ true
named bytes text long is e = grind (arith, byte_of, is)

id3v2_named : (bytes : List ℕ) → is_id3v2 bytes ≡ true → begins_with (codes "ID3") bytes ≡ true
unfolding is_id3v2
id3v2_named bytes is = (and_parts _ _ (and_parts _ _ (and_parts _ _ (and_parts _ _ is).0).0).0).1

id3v1_named : (bytes : List ℕ) → is_id3v1 bytes ≡ true → begins_with (codes "TAG") bytes ≡ true
unfolding is_id3v1
id3v1_named bytes is = is

ape_named : (bytes : List ℕ) → is_ape bytes ≡ true → begins_with (codes "APETAGEX") bytes ≡ true
unfolding is_ape
ape_named bytes is = grind (arith, and_parts, is)

block_named : (kind : Kind) (bytes : List ℕ) → begins kind bytes ≡ true
    → may_begin_block (get_or bytes 0 0) (get_or bytes 1 0) (get_or bytes 2 0) ≡ true
block_named Id3v2 bytes is = named bytes (codes "ID3") (lit< tt) (id3v2_named bytes is) refl
block_named Id3v1 bytes is = named bytes (codes "TAG") (lit< tt) (id3v1_named bytes is) refl
block_named Ape bytes is = named bytes (codes "APETAGEX") (lit< tt) (ape_named bytes is) refl

not_same : {own next : List ℕ} {h g : HeaderFields} → Says own h → Says next g
    → may_follow_header own next
    ≡ false → {b : Bool} → same_class (class_of g) (class_of h) ≡ b → b ≡ false
not_same o n bare e = grind (arith, false≢true, follows)

-- there is no anchor if neither a header of the class nor a block begins with these bytes, and
-- there are some
pub not_anchor : (own next : List ℕ) {h : HeaderFields} → AreFew own → AreFew next → 4 ≤ length next
    → header_front own ≡ Ok h → may_follow_header own next ≡ false
    → may_begin_block (get_or next 0 0) (get_or next 1 0) (get_or next 2 0) ≡ false
    → is_anchor (class_of h) (item_front next) ≡ false
not_anchor own next {h} own_few next_few many is bare letters =
    by_item (item_front next) refl (stands next)
  where
    by_item : (item : Item) → item_front next ≡ item → IsItemFront next item
        → is_anchor (class_of h) item ≡ false
    by_item (Frame g) at here = not_same (header_says own_few is)
        (header_says next_few here) bare refl
    by_item (Block b) at here = absurd
        (false≢true (sym letters ∙ block_named b.kind next (block_front-begins next here).0))
    by_item End at here = absurd (omega (arith, ap length here, many))
    by_item _ at here = refl

-- ---- a check word that is wrong

side_cases : (first lower : Bool) (channels : ℕ)
    → side_bytes_of (cond first One (cond lower Two TwoFive)) channels
    ≡ cond first (cond (eqb channels 1) 17 32) (cond (eqb channels 1) 9 17)
side_cases first lower channels = grind arith

side_is : {bytes : List ℕ} {h : HeaderFields} → Says bytes h
    → side_size_of (class_of h) ≡ raw_side_size (get_or bytes 1 0) (get_or bytes 3 0)
unfolding side_size_of
side_is s = grind (arith, side_cases)

letter_of : (at : ℕ) (frame text : List ℕ) → 0 < length text
    → bytes_eq (take 4 (drop at frame)) text ≡ true → get_or frame at 0 ≡ get_or text 0 0
letter_of at frame text some is =
    let same : take 4 (drop at frame) ≡ text = grind (arith, bytes_eq-Decides, is) in
    let here : at + 0 ≡ at = omega arith in
    sym (sym (ap (λ t. get_or t 0 0) same) ∙ get_or-take 4 (drop at frame) 0 0 (lit< tt)
    ∙ get_or-drop at frame 0 0 ∙ ap (λ n. get_or frame n 0) here)

letter_by : (at : ℕ) (frame : List ℕ) → (bytes_eq (take 4 (drop at frame)) (codes "Xing") ≡ true)
    ⊎ (bytes_eq (take 4 (drop at frame)) (codes "Info") ≡ true)
    → may_begin_text (get_or frame at 0) ≡ true
letter_by at frame (inl xing) = ap may_begin_text (letter_of at frame (codes "Xing") (lit< tt) xing)
letter_by at frame (inr info) = ap may_begin_text (letter_of at frame (codes "Info") (lit< tt) info)

text_begins : (at : ℕ) (frame : List ℕ) → has_text at frame ≡ true
    → may_begin_text (get_or frame at 0) ≡ true
unfolding has_text
text_begins at frame is = letter_by at frame (or_cases _ _ is)

text_cases : (at size : ℕ) (own : List ℕ) → may_begin_text (get_or own at 0) ≡ false → {b : Bool}
    → has_text at (take size own) ≡ b → b ≡ false
text_cases at size own none is =
    grind (arith, has_text-within, get_or-take, length-take, false≢true, text_begins)

no_text : (at size : ℕ) (own : List ℕ) → may_begin_text (get_or own at 0) ≡ false
    → has_text at (take size own) ≡ false
no_text at size own none = text_cases at size own none refl

low_is : {side : ℕ} (h : HeaderFields) → side_size_of (class_of h) ≡ side → low_offset h ≡ 4 + side
unfolding low_offset
low_is h same = ap (λ n. 4 + n) same

high_is : {side : ℕ} (h : HeaderFields) → side_size_of (class_of h) ≡ side
    → high_offset h ≡ 6 + side
unfolding high_offset
high_is h same = ap (λ n. 6 + n) same

module _ (own : List ℕ) (few : AreFew own) {side right : ℕ} (side_said_is : side
    ≡ raw_side_size (get_or own 1 0) (get_or own 3 0)) (even : get_or own 1 0 % 2 ≡ 0)
    (low : may_begin_text (get_or own (4 + side) 0) ≡ false)
    (high : may_begin_text (get_or own (6 + side) 0) ≡ false)
    (right_is : (h : HeaderFields) → header_at (take 4 own) ≡ Ok h
    → side ≡ side_size_of (class_of h)
    → right ≡ check_word_of h (side_at (class_of h) (bits (take side (drop 6 own)))))
    (wrong : stored_crc own ≢ right) where
  is_protected : {h : HeaderFields} → Says own h → h.protected ≡ true
  is_protected s = s.protected ∙ ap (λ n. eqb n 0) even

  wrong_word : {h : HeaderFields} → header_front own ≡ Ok h → Says own h
      → has_right_crc h own ≡ false
  wrong_word {h} e s =
      grind (
        arith,
        side_is s,
        header_four own e,
        side_protected h own (is_protected s),
        is_protected s,
        ne_eqb (stored_crc own) right wrong,
      )

  no_head : (offset : ℕ) {h : HeaderFields} → Says own h
      → is_head (record { offset = offset; header = h }) own ≡ false
  no_head offset s =
      grind (
        arith,
        side_is,
        head_text_of-none,
        no_text,
        low_is,
        and_right,
        high_is,
        is_some,
        option_map,
      )

  -- a frame with a wrong check word, and no text of a head, isn't usable
  pub unusable_word : IsUnusable own
  unusable_word First offset h e = grind (arith, header_says few e, wrong_word, no_head)
  unusable_word (Later class) offset h e = search (arith, and_right, wrong_word, header_says)

-- ---- a frame that has no anchor, or isn't usable

module _ (front : List ℕ) (k : ℕ) {size : ℕ} (few : AreFew (drop k front))
    (said : size ≡ raw_frame_length (get_or (drop k front) 1 0) (get_or (drop k front) 2 0))
    (near : k + size ≤ search_reach) where
  here : (h : HeaderFields) → item_front (drop k front) ≡ Frame h
      → header_front (drop k front) ≡ Ok h
  here h is = subst (IsItemFront (drop k front)) is (stands (drop k front))

  same : (h : HeaderFields) → item_front (drop k front) ≡ Frame h
      → size ≡ length_of (class_of h) h.slot
  same h is = said ∙ sym (length_is (drop k front) few (here h is))

  -- a place where no frame has an anchor at its end is ruled out
  pub plain_unanchored : ((h : HeaderFields) → header_front (drop k front) ≡ Ok h
      → is_anchor (class_of h) (item_front (drop size (drop k front))) ≡ false)
      → IsRuledOut front k
  plain_unanchored none = grind (arith, same, drop-drop, here)

  -- a place where the frame isn't usable is ruled out
  pub plain_unusable : IsUnusable (drop k front) → IsRuledOut front k
  plain_unusable none = grind (arith, same, here)
