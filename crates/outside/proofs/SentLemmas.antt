-- Laws of what a buffer passed on to a sink.
use Rattle.std.proofs.Common.{append_assoc, arith, length, length-append, List, refl, sym, take, ℕ}
use Rattle.std.proofs.{Common.{[], ◌++◌, ◌≡◌, ◌≤◌}, Math.Seq.take-append-add}
use Rattle.std.proofs.lemmas.List.{append-nil, take-append-le}
use Rattle.std.specs.Prelude.{Err, Ok, OnErr, OnOk, Result}
use Rattle.outside.proofs.FilesLemmas.{sent_nothing, sent_twice}
use Rattle.outside.specs.{BufferOutput.{SendsWaiting, SentPrefix}, Files.{Sent, sent_and_more}}

-- nothing was sent
pub sent_none : (sent : Sent) (bytes : List ℕ) → SendsWaiting bytes bytes sent sent
sent_none sent bytes = record { passed = []; split = refl; sent = sym (sent_nothing sent) }

-- all that waited was sent, and this piece waits after it
pub sent_all : {sent new : Sent} (waits piece : List ℕ) → new ≡ sent_and_more sent waits
    → SendsWaiting (waits ++ piece) piece sent new
sent_all {sent} waits piece is = record { passed = waits; split = refl; sent = is }

-- all was sent, and nothing waits
pub sent_out : {sent new : Sent} {bytes : List ℕ} → new ≡ sent_and_more sent bytes
    → SendsWaiting bytes [] sent new
sent_out {sent} {bytes = bytes} is =
    record { passed = bytes; split = sym (append-nil bytes); sent = is }

-- more waits after
pub sent_with : {before after : List ℕ} {s t : Sent} (piece : List ℕ)
    → SendsWaiting before after s t → SendsWaiting (before ++ piece) (after ++ piece) s t
sent_with {before} {after} {s} {t} piece p = grind (arith, append_assoc)

-- what was sent in two steps was sent in one
pub sent_then : {before mid after : List ℕ} {s t u : Sent} → SendsWaiting before mid s t
    → SendsWaiting mid after t u → SendsWaiting before after s u
sent_then {before} {mid} {after} {s} {t} {u} p q = grind (arith, append_assoc, sent_twice)

-- two pieces that were sent in order were sent together
pub sent_more_on : {before mid after : List ℕ} {s t u : Sent} (piece : List ℕ)
    → SendsWaiting before mid s t → SendsWaiting (mid ++ piece) after t u
    → SendsWaiting (before ++ piece) after s u
sent_more_on piece p q = sent_then (sent_with piece p) q

module _ {before mid : List ℕ} {s t u : Sent} (p : SendsWaiting before mid s t) where
  -- what was sent, and then a prefix of the rest, is a prefix of the whole
  pub sent_then_prefix : SentPrefix mid t u → SentPrefix before s u
  sent_then_prefix q =
      grind (
        arith,
        length-append p.passed mid,
        sent_twice s p.passed (take q.count mid),
        take-append-add p.passed mid q.count,
      )

  -- what was sent, and then all the rest, is the whole
  pub sent_then_all : u ≡ sent_and_more t mid → u ≡ sent_and_more s before
  sent_then_all all = grind (arith, sent_twice)

-- if only a prefix of the second of two pieces was sent, a prefix of both was
pub sent_more_prefix : {before mid : List ℕ} {s t u : Sent} (piece : List ℕ)
    → SendsWaiting before mid s t → SentPrefix (mid ++ piece) t u → SentPrefix (before ++ piece) s u
sent_more_prefix piece p q = sent_then_prefix (sent_with piece p) q

-- a prefix of the first bytes is a prefix of the whole
pub sent_prefix_of : {bytes : List ℕ} {s t : Sent} (behind : List ℕ) → SentPrefix bytes s t
    → SentPrefix (bytes ++ behind) s t
sent_prefix_of {bytes} {s} {t} behind p = grind (arith, length-append, take-append-le)

-- ---- a piece that is sent at once, after what waited

-- if what waited and then a piece were sent, nothing waits
pub sent_over : {T E : Type 0} (r : Result T E) (waits piece : List ℕ) {after : List ℕ} (s : Sent)
    {t : Sent} (u : Sent) → t ≡ sent_and_more s waits → after ≡ []
    → OnOk r (u ≡ sent_and_more t piece) → OnOk r (SendsWaiting (waits ++ piece) after s u)
sent_over r waits piece s u first none more = grind (arith, sent_out, sent_twice)

-- if a write of the piece failed, a prefix of what waited and the piece was sent
pub sent_over_prefix : {T E : Type 0} (r : Result T E) (waits piece : List ℕ) (s : Sent) {t : Sent}
    (u : Sent) → t
    ≡ sent_and_more s waits
    → OnErr r ((k : ℕ) × (k ≤ length piece) × (u ≡ sent_and_more t (take k piece)))
    → OnErr r (SentPrefix (waits ++ piece) s u)
sent_over_prefix (Ok x) waits piece s u first part = tt
sent_over_prefix (Err e) waits piece s {t} u first part =
    sent_then_prefix (sent_all waits piece first)
    (record { count = part.0; within = part.1; sent = part.2 })
