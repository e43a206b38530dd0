-- Laws of the extension that is written.
use Rattle.std.proofs.Common.{ap, ap₂, arith, Bool, cond, drop, false, get_or, length, List, None}
use Rattle.std.proofs.Common.{Option, refl, replicate, Some, sym, take, true, ℕ, ◌%◌, ◌*◌, ◌++◌}
use Rattle.std.proofs.Common.{◌+◌, ◌/◌, ◌<◌, ◌||◌, ◌∙◌, ◌≡◌}
use Rattle.std.proofs.lemmas.List.{get_or-append-add, get_or-take, length-append, length-drop}
use Rattle.std.proofs.lemmas.List.{length-replicate, length-take-le, take-append-le, take-take}
use Rattle.std.specs.Prelude.{bytes_eq, codes, IfSome}
use Rattle.exact_span.specs.Extensions.{delay_in, extension_of, has_encoder, kept_extension}
use Rattle.exact_span.specs.Extensions.{padding_in, plain_extension, three_bytes}
use Rattle.exact_span.specs.Laws.{AreInfoFields, SaysNumbers}
use Rattle.info_header.specs.declared.fields.Info.{Info}

-- ---- what is kept

-- an extension without numbers has 36 bytes
pub plain_extension-length : length plain_extension ≡ 36
plain_extension-length = refl

plain_extension-encoder : has_encoder plain_extension ≡ true
unfolding has_encoder
plain_extension-encoder = refl

kept-if : (extension : List ℕ) (b : Bool) → has_encoder extension ≡ b → length extension ≡ 36 →
    (length (cond b extension plain_extension) ≡ 36)
    × (has_encoder (cond b extension plain_extension) ≡ true)
kept-if extension true is long = (long, is)
kept-if extension false is long = (plain_extension-length, plain_extension-encoder)

kept_extension-is : (info : Option Info) → IfSome info AreInfoFields
    → (length (kept_extension info) ≡ 36) × (has_encoder (kept_extension info) ≡ true)
kept_extension-is None whole = (plain_extension-length, plain_extension-encoder)
kept_extension-is (Some info) whole =
    kept-if info.extension (has_encoder info.extension) refl whole.extension

-- ---- the numbers

-- the encoder's name is in the first four bytes
same-encoder : (xs ys : List ℕ) → take 4 xs ≡ take 4 ys → has_encoder xs ≡ has_encoder ys
unfolding has_encoder
same-encoder xs ys same = ap (λ (text : List ℕ). bytes_eq text (codes "LAME")
    || bytes_eq text (codes "Lavf") || bytes_eq text (codes "Lavc")) same

byte-of : (front rest : List ℕ) (k : ℕ) {n : ℕ} → length front ≡ 21 → n ≡ 21 + k
    → get_or (front ++ rest) n 0 ≡ get_or rest k 0
byte-of front rest k long is = ap (λ i. get_or (front ++ rest) i 0) (omega (arith, long, is))
    ∙ get_or-append-add front rest k 0

delay-said : (front rest : List ℕ) (delay : ℕ) {padding : ℕ} → length front ≡ 21 → padding < 4096
    → delay_in (front ++ (three_bytes delay padding ++ rest)) ≡ delay
delay-said front rest delay {padding} long small =
    let three = three_bytes delay padding ++ rest in
    omega (arith, byte-of front three 0 long refl, byte-of front three 1 long refl)

padding-said : (front rest : List ℕ) (delay : ℕ) {padding : ℕ} → length front ≡ 21 → padding < 4096
    → padding_in (front ++ (three_bytes delay padding ++ rest)) ≡ padding
padding-said front rest delay {padding} long small =
    let three = three_bytes delay padding ++ rest in
    omega (arith, byte-of front three 1 long refl, byte-of front three 2 long refl)

-- encoder, delay and padding are in the first 28 bytes
pub says-front : {xs ys : List ℕ} {d p : ℕ} → take 28 xs ≡ take 28 ys → SaysNumbers d p ys
    → SaysNumbers d p xs
says-front {xs} {ys} same says =
    let byte = λ (i : ℕ) (below : i < 28). sym (get_or-take 28 xs i 0 below)
    ∙ ap (λ (zs : List ℕ). get_or zs i 0) same ∙ get_or-take 28 ys i 0 below in
    let text : take 4 xs ≡ take 4 ys = sym (take-take 4 28 xs (omega arith))
    ∙ ap (λ (zs : List ℕ). take 4 zs) same ∙ take-take 4 28 ys (omega arith) in
    let first : get_or xs 21 0 ≡ get_or ys 21 0 = byte 21 (omega arith) in
    let second : get_or xs 22 0 ≡ get_or ys 22 0 = byte 22 (omega arith) in
    let third : get_or xs 23 0 ≡ get_or ys 23 0 = byte 23 (omega arith) in
    record {
      encoder = same-encoder xs ys text ∙ says.encoder;
      delay = ap₂ (λ a b. 16 * a + b / 16) first second ∙ says.delay;
      padding = ap₂ (λ a b. 256 * (a % 16) + b) second third ∙ says.padding;
    }

says-by : (old : List ℕ) (delay : ℕ) {padding : ℕ} → length old ≡ 36 → has_encoder old ≡ true
    → padding < 4096 →
    SaysNumbers delay padding
    (take 21 old ++ (three_bytes delay padding ++ (take 4 (drop 24 old) ++ replicate 8 0)))
says-by old delay {padding} long encoder small =
    let front = take 21 old in
    let rest : List ℕ = take 4 (drop 24 old) ++ replicate 8 0 in
    let many : length front ≡ 21 = length-take-le 21 old (omega (arith, long)) in
    let text : take 4 (front ++ (three_bytes delay padding ++ rest)) ≡ take 4 old =
    take-append-le 4 front (three_bytes delay padding ++ rest) (omega (arith, many))
    ∙ take-take 4 21 old (omega arith) in
    record {
      encoder = same-encoder (front ++ (three_bytes delay padding ++ rest)) old text ∙ encoder;
      delay = delay-said front rest delay many small;
      padding = padding-said front rest delay many small;
    }

-- an extension has the delay and the padding that it was written with
pub extension-says : (info : Option Info) {delay padding : ℕ} → IfSome info AreInfoFields
    → delay < 4096 → padding < 4096 →
    SaysNumbers delay padding (extension_of info delay padding)
unfolding extension_of
extension-says info {delay} {padding} whole short small =
    let old = kept_extension-is info whole in
    says-by (kept_extension info) delay old.0 old.1 small

kept_extension-length : (info : Option Info) → IfSome info (λ (i : Info). length i.extension ≡ 36)
    → length (kept_extension info) ≡ 36
kept_extension-length None long = plain_extension-length
kept_extension-length (Some info) long =
    (kept-if info.extension (has_encoder info.extension) refl long).0

-- an extension that is written has 36 bytes
pub extension-length : (info : Option Info) (delay padding : ℕ)
    → IfSome info (λ (i : Info). length i.extension ≡ 36)
    → length (extension_of info delay padding) ≡ 36
unfolding extension_of
extension-length info delay padding long =
    let old = kept_extension info in
    let many = kept_extension-length info long in
    let rest : List ℕ = take 4 (drop 24 old) ++ replicate 8 0 in
    omega (
      arith,
      length-append (take 21 old) (three_bytes delay padding ++ rest),
      length-append (three_bytes delay padding) rest,
      length-append (take 4 (drop 24 old)) (replicate 8 0),
      length-take-le 21 old (omega (arith, many)),
      length-take-le 4 (drop 24 old) (omega (arith, many, length-drop 24 old)),
      length-drop 24 old,
      many,
      length-replicate {A = ℕ} 8 0,
    )
