-- Info frames of the same fields, and what an extension keeps of the head that it is made from.
use Rattle.std.proofs.Common.{ap, arith, drop, length, List, Option, Some, sym, take, ℕ, ◌%◌, ◌++◌}
use Rattle.std.proofs.Common.{◌^◌, ◌∙◌, ◌≡◌}
use Rattle.std.proofs.lemmas.List.{drop-drop, drop-take, drop_at, length-append, length-drop}
use Rattle.std.proofs.lemmas.List.{length-take-le, take-append-le, take-take, take_at}
use Rattle.std.specs.Prelude.{IfSome, IsTrue}
use Rattle.byteorder.specs.Endian.{big_bytes}
use Rattle.exact_span.specs.Extensions.{extension_of, has_encoder, kept_extension}
use Rattle.exact_span.specs.TagWord.{sealed_info, tag_crc_of, with_length_field}
use Rattle.frame_header.specs.Fields.{ClassFields, HeaderFields}
use Rattle.frame_writer.specs.Frames.{Frame}
use Rattle.info_header.specs.Info.{info_bytes, number_or_zero}
use Rattle.info_header.specs.{InfoFrame.{info_frame, info_header_of}, declared.fields.Info.Info}
use Rattle.laying.specs.Written.{info_for}
use Rattle.seamless_edits.specs.Seamless.{replay_gain}

-- ---- the bytes of an Info frame

-- Info frames with the same header and the same fields are the same
frame-same : (g h : HeaderFields) (a b : Info) → info_header_of g ≡ info_header_of h
    → info_bytes a ≡ info_bytes b → info_frame g a ≡ info_frame h b
unfolding info_frame
frame-same g h a b headers same = grind arith

-- the bytes that are written for a quality
abbrev pub quality_bytes : Option ℕ → List ℕ
quality_bytes quality = big_bytes 4 (number_or_zero quality)

abbrev with_extension : Info → List ℕ → Info
with_extension info extension = record info { extension = extension }

module _ (c : ClassFields) (frames : List Frame) (first second : Option ℕ)
    (quality : quality_bytes first ≡ quality_bytes second) where
  fields-same : (x : List ℕ) {a b : List ℕ} → a ≡ b
      → info_bytes (with_extension (info_for c frames first x) a)
      ≡ info_bytes (with_extension (info_for c frames second x) b)
  unfolding info_bytes
  fields-same x same = grind (arith)

  -- sealed Info frames whose qualities are written alike are the same
  pub sealed-same : (g h : HeaderFields) (extension : List ℕ)
      → info_header_of g ≡ info_header_of h
      → info_frame g (sealed_info g (info_for c frames first extension))
      ≡ info_frame h (sealed_info h (info_for c frames second extension))
  sealed-same g h extension headers = grind (arith, frame-same, fields-same)

-- a quality that was read back is written alike
pub quality-again : (q : ℕ) → big_bytes 4 (q % 256 ^ 4) ≡ big_bytes 4 q
quality-again q = grind arith

-- ---- what an extension keeps

kept_extension-long : (head : Option Info) → IfSome head (λ (i : Info). length i.extension ≡ 36)
    → length (kept_extension head) ≡ 36
kept_extension-long head long = grind arith

-- music length and tag CRC are after the first 28 bytes
pub sealed-front : (first : HeaderFields) (info : Info) → length info.extension ≡ 36
    → take 28 (sealed_info first info).extension ≡ take 28 info.extension
sealed-front first info long =
    let number = big_bytes 4 (number_or_zero info.bytes) in
    let extension = (with_length_field info).extension in
    let few = length-take-le 28 info.extension (omega (arith, long)) in
    let all : length extension ≡ 36 =
    omega (
      arith,
      length-append (take 28 info.extension) (number ++ drop 32 info.extension),
      length-append number (drop 32 info.extension),
      few,
      length-drop 32 info.extension,
      long,
    ) in
    let most = length-take-le 34 extension (omega (arith, all)) in
    take-append-le 28 (take 34 extension) (big_bytes 2 (tag_crc_of first (with_length_field info)))
    (omega (arith, most))
    ∙ take-take 28 34 extension (omega arith)
    ∙ take-append-le 28 (take 28 info.extension) (number ++ drop 32 info.extension)
    (omega (arith, few))
    ∙ take-take 28 28 info.extension (omega arith)

-- this extension has the bytes that are kept from a head's extension
-- (the first 21, and 24 to 27), and the name of an encoder that counts
pub record Keeps (head : Option Info) (extension : List ℕ) : Type 0 where
  pub front : take 21 extension ≡ take 21 (kept_extension head)
  pub mid : take 4 (drop 24 extension) ≡ take 4 (drop 24 (kept_extension head))
  pub encoder : IsTrue (has_encoder extension)

module _ (head : Option Info) (long : IfSome head (λ (i : Info). length i.extension ≡ 36))
    (delay padding : ℕ) where
  abbrev made : List ℕ
  made = extension_of head delay padding

  front-long : length (take 21 (kept_extension head)) ≡ 21
  front-long = search (arith, length-take-le, kept_extension-long)

  mid-long : length (take 4 (drop 24 (kept_extension head))) ≡ 4
  mid-long =
      length-take-le 4 (drop 24 (kept_extension head))
      (omega (arith, length-drop 24 (kept_extension head), kept_extension-long head long))

  -- what is made from a head keeps its first 21 bytes
  pub made-front : take 21 made ≡ take 21 (kept_extension head)
  unfolding extension_of
  made-front = grind (arith, take-append-le, front-long, take-take)

  -- what is made from a head keeps its bytes 24 to 27
  pub made-mid : take 4 (drop 24 made) ≡ take 4 (drop 24 (kept_extension head))
  unfolding extension_of
  made-mid = grind (arith, drop-drop, drop_at, front-long, take_at, mid-long)

  -- any extension that begins with the same 28 bytes keeps them
  pub keeps-by : {extension : List ℕ} → take 28 extension ≡ take 28 made
      → IsTrue (has_encoder extension) → Keeps head extension
  keeps-by {extension} same encoder = record {
    front =
        sym (take-take 21 28 extension (omega arith)) ∙ ap (take 21) same
        ∙ take-take 21 28 made (omega arith) ∙ made-front;
    mid = sym (drop-take 24 4 extension) ∙ ap (drop 24) same ∙ drop-take 24 4 made ∙ made-mid;
    encoder = encoder;
  }

-- what is made from an extension that keeps the bytes of a head is made from the head
pub made-again : {head : Option Info} (fields : Info) (delay padding : ℕ)
    → Keeps head fields.extension
    → extension_of (Some fields) delay padding ≡ extension_of head delay padding
unfolding extension_of
made-again fields delay padding keeps = grind arith

-- peak and gains are in the first 21 bytes
pub gain-same : (x y : List ℕ) → take 21 x ≡ take 21 y → replay_gain x ≡ replay_gain y
gain-same x y same =
    let of : (z : List ℕ) → replay_gain z ≡ take 8 (drop 11 (take 21 z)) =
    λ z. sym (ap (take 8) (drop-take 11 10 z) ∙ take-take 8 10 (drop 11 z) (omega arith)) in
    of x ∙ ap (λ l. take 8 (drop 11 l)) same ∙ sym (of y)
