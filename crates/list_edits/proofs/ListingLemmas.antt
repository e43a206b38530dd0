-- The lines of a text, line by line, and what is sent of them: the lines of entries, and a last
-- one.
use Rattle.std.proofs.Common.{ap, append-nil, append_assoc, List, sym, ℕ, [], ◌++◌, ◌∙◌, ◌∷◌, ◌≡◌}
use Rattle.std.proofs.lemmas.Result.{on_err_weaker, on_ok_weaker}
use Rattle.std.specs.Prelude.{flat_map, OnErr, OnOk, Result}
use Rattle.outside.proofs.SentLemmas.{sent_more_on, sent_more_prefix, sent_none, sent_prefix_of}
use Rattle.outside.proofs.SentLemmas.{sent_then_all, sent_then_prefix}
use Rattle.outside.specs.{BufferOutput.{SendsWaiting, SentPrefix}, Files.{Sent, sent_and_more}}

-- the lines so far, some of which wait, and the entries whose lines are left, of all before the
-- last line
pub record IsSaidTo {A : Type 0} (line : A → List ℕ) (all left : List A) (waits : List ℕ)
    (old now : Sent) : Type 0 where
  pub done : List ℕ
  pub lines : flat_map line all ≡ done ++ flat_map line left
  pub sent : SendsWaiting done waits old now

module _ {A : Type 0} (line : A → List ℕ) (all : List A) where
  -- before the first entry nothing was said
  pub said_none : {left : List A} (sent : Sent) → left ≡ all → IsSaidTo line all left [] sent sent
  said_none sent is =
      record { done = []; lines = ap (flat_map line) (sym is); sent = sent_none sent [] }

  lines_split : {left rest : List A} {t : A} (done : List ℕ) → left ≡ t ∷ rest → flat_map line all
      ≡ done ++ flat_map line left → flat_map line all ≡ (done ++ line t) ++ flat_map line rest
  lines_split {rest = rest} {t = t} done is lines = lines ∙ ap (λ ts. done ++ flat_map line ts) is
      ∙ sym (append_assoc done (line t) (flat_map line rest))

  -- an entry whose line was sent is one more that was said
  pub said_more : {left rest : List A} {t : A} {waits after : List ℕ} {old now new : Sent}
      → IsSaidTo line all left waits old now → left ≡ t ∷ rest
      → SendsWaiting (waits ++ line t) after now new → IsSaidTo line all rest after old new
  said_more {left} {rest} {t} h is more = record {
    done = h.done ++ line t;
    lines = lines_split h.done is h.lines;
    sent = sent_more_on (line t) h.sent more;
  }

  -- if nothing is left, all lines were sent or wait
  pub all_lines : {left : List A} {waits : List ℕ} {old now : Sent}
      → IsSaidTo line all left waits old now → left ≡ []
      → SendsWaiting (flat_map line all) waits old now
  all_lines h is =
      rw (h.lines ∙ ap (λ ts. h.done ++ flat_map line ts) is ∙ append-nil h.done) h.sent

  -- if a line failed, a prefix of all lines was sent
  pub line_failed : {left rest : List A} {t : A} {waits : List ℕ} {old now new : Sent}
      → IsSaidTo line all left waits old now → left ≡ t ∷ rest
      → SentPrefix (waits ++ line t) now new → SentPrefix (flat_map line all) old new
  line_failed {left} {rest} {t} h is part =
      rw (lines_split h.done is h.lines)
      (sent_prefix_of (flat_map line rest) (sent_more_prefix (line t) h.sent part))

  module _ (last : List ℕ) where
    text_is : (done : List ℕ) (left : List A) → flat_map line all ≡ done ++ flat_map line left
        → flat_map line all ++ last ≡ done ++ (flat_map line left ++ last)
    text_is done left is =
        ap (λ front. front ++ last) is ∙ append_assoc done (flat_map line left) last

    -- if a line failed, a prefix of the text was sent
    pub said_failed : {left rest : List A} {t : A} {waits : List ℕ} {old now new : Sent}
        → IsSaidTo line all left waits old now → left ≡ t ∷ rest
        → SentPrefix (waits ++ line t) now new → SentPrefix (flat_map line all ++ last) old new
    said_failed {left} {rest} {t} {waits} {old} {now} {new} h is part =
        sent_prefix_of last (line_failed h is part)

    -- if only the last line is left, the text is all lines and this one
    all_said : {left : List A} {waits : List ℕ} {old now : Sent}
        → IsSaidTo line all left waits old now → left ≡ [] → (done : List ℕ)
        × (flat_map line all ++ last ≡ done ++ last) × SendsWaiting done waits old now
    all_said {left} h is = (
      h.done,
      text_is h.done left h.lines ∙ ap (λ ts. h.done ++ (flat_map line ts ++ last)) is,
      h.sent,
    )

    -- if the last line failed, a prefix of the text was sent
    pub last_failed : {left : List A} {waits : List ℕ} {old now new : Sent}
        → IsSaidTo line all left waits old now → left ≡ [] → SentPrefix (waits ++ last) now new
        → SentPrefix (flat_map line all ++ last) old new
    last_failed {left} {waits} {old} {now} h is part =
        let said = all_said h is in
        rw said.1 (sent_more_prefix last said.2 part)

    -- with the last line the whole text was sent or waits
    pub last_more : {left : List A} {waits after : List ℕ} {old now new : Sent}
        → IsSaidTo line all left waits old now → left ≡ []
        → SendsWaiting (waits ++ last) after now new
        → SendsWaiting (flat_map line all ++ last) after old new
    last_more {left} {waits} {old = old} {now = now} h is more =
        let said = all_said h is in
        rw said.1 (sent_more_on last said.2 more)

module _ {T E : Type 0} (r : Result T E) {text waits : List ℕ} {old now : Sent} (new : Sent)
    (so_far : SendsWaiting text waits old now) where
  -- all that waited was sent
  pub sent_behind : OnOk r (new ≡ sent_and_more now waits) → OnOk r (new ≡ sent_and_more old text)
  sent_behind = on_ok_weaker r (sent_then_all so_far)

  -- after what was sent a prefix of what waits is a prefix of the text
  pub prefix_behind : OnErr r (SentPrefix waits now new) → OnErr r (SentPrefix text old new)
  prefix_behind = on_err_weaker r (sent_then_prefix so_far)
