-- Laws of the fields of a head: where they are, and what is after them.
use Rattle.std.proofs.Common.{ap, append-nil, append_assoc, arith, cond, drop, inl, inr, length}
use Rattle.std.proofs.Common.{List, min, replicate, suc, sym, take, true, ℕ, [], ◌++◌, ◌+◌, ◌-◌}
use Rattle.std.proofs.{Common.{◌<◌, ◌∙◌, ◌≡◌, ◌≤◌, ◌⊎◌}, Math.Nat.{min-eq_left, min-eq_right}}
use Rattle.std.proofs.{Math.Seq.{take-append-add, take-length}, lemmas.Bool.cases_lt}
use Rattle.std.proofs.lemmas.List.{drop-replicate, take-append-le, take-replicate}
use Rattle.info_header.specs.Info.{field_offset, field_size, is_flagged, padded_bytes}

-- ---- offsets

field_next : (flags : ℕ) {field next : ℕ} → next ≡ suc field → field_offset flags next
    ≡ field_offset flags field + cond (is_flagged flags field) (field_size field) 0
unfolding field_offset
field_next flags is = ap (field_offset flags) is

-- the offset after a field that is present
pub offset-set : (flags field : ℕ) {at : ℕ} → at ≡ field_offset flags field
    → is_flagged flags field ≡ true → at + field_size field ≡ field_offset flags (field + 1)
offset-set flags field is set =
    ap (λ k. k + field_size field) is ∙ sym (field_next flags (omega arith)
    ∙ ap (λ b. field_offset flags field + cond b (field_size field) 0) set)

-- ---- the extension

padded_bytes-cases : {n : ℕ} (bytes : List ℕ) → (length bytes < n) ⊎ (n ≤ length bytes)
    → take (min (length bytes) n) bytes ++ drop (min (length bytes) n) (replicate n 0)
    ≡ padded_bytes n bytes
padded_bytes-cases {n} bytes (inl few) =
    let least : min (length bytes) n ≡ length bytes = min-eq_left (omega arith) in
    let split : n ≡ length bytes + (n - length bytes) = omega arith in
    rw (least, take-length bytes)
    (ap (λ (zeros : List ℕ). bytes ++ zeros)
    (drop-replicate (length bytes) n 0 ∙ sym (take-replicate (n - length bytes) n 0 (omega arith)))
    ∙ sym (ap (λ k. take k (bytes ++ replicate n 0)) split
    ∙ take-append-add bytes (replicate n 0) (n - length bytes)))
padded_bytes-cases {n} bytes (inr many) =
    let least : min (length bytes) n ≡ n = min-eq_right many in
    let nothing : n - n ≡ 0 = omega arith in
    let none : drop {A = ℕ} n (replicate n 0) ≡ [] =
    drop-replicate n n 0 ∙ ap (λ k. replicate {A = ℕ} k 0) nothing in
    rw (least, none) (append-nil (take n bytes) ∙ sym (take-append-le n bytes (replicate n 0) many))

-- as many bytes as there are, up to n, and zeros after them
pub padded_bytes-parts : (n : ℕ) (bytes : List ℕ)
    → take (min (length bytes) n) bytes ++ drop (min (length bytes) n) (replicate n 0)
    ≡ padded_bytes n bytes
padded_bytes-parts n bytes = padded_bytes-cases bytes (cases_lt (length bytes) n)

-- ---- bytes added in order

-- adding bytes and then others adds both, joined
pub piece-before : (old : List ℕ) {mid new : List ℕ} (piece rest : List ℕ) → mid ≡ old ++ piece
    → new ≡ mid ++ rest → new ≡ old ++ (piece ++ rest)
piece-before old piece rest first then =
    then ∙ ap (λ (xs : List ℕ). xs ++ rest) first ∙ append_assoc old piece rest
