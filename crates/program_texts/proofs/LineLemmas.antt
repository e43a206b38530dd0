-- A line that is sent text by text.
use Rattle.std.proofs.Common.{ap, arith, drop, Err, flat_map, get_or, inl, inr, length}
use Rattle.std.proofs.Common.{length-append, List, map, Ok, OnErr, OnOk, refl, Result, subst, sym}
use Rattle.std.proofs.Common.{take, ℕ, [], ◌++◌, ◌+◌, ◌<◌, ◌∙◌, ◌∷◌, ◌≡◌, ◌≤◌}
use Rattle.std.proofs.{Math.Seq.take-append-add, lemmas.Grind.flat_map-append}
use Rattle.std.proofs.lemmas.List.{append-nil, drop_more, take-append-drop, take-append-le}
use Rattle.std.proofs.lemmas.List.{take_more}
use Rattle.outside.{proofs.FilesLemmas.{sent_nothing, sent_twice}, specs.Counts.Rose}
use Rattle.outside.specs.Files.{Sent, sent_and_more}
use Rattle.program_texts.specs.Lines.{line_part_of, part_text, text_of_line}
use Rattle.program_texts.specs.Texts.{GotLine, GotPrefix, GotWhole}
use Rattle.program_texts.specs.declared.parts.LinePart.{LinePart as CodePart}

-- nothing was sent yet
pub got_nothing : (sent : Sent) (faults : ℕ) → GotWhole sent sent faults faults []
got_nothing sent faults = record { sent = sym (sent_nothing sent); done = refl }

-- the texts of the first i items were sent
module _ {X : Type 0} (f : X → List ℕ) (xs : List X) {i : ℕ} (d : X) (lt : i < length xs)
    {sent_first sent_before sent_after : Sent} {faults_first faults_before faults_after : ℕ}
    (before : GotWhole sent_first sent_before faults_first faults_before
    (flat_map f (take i xs))) where
  -- the text of the next item was sent too
  pub got_more : GotWhole sent_before sent_after faults_before faults_after (f (get_or xs i d))
      → GotWhole sent_first sent_after faults_first faults_after (flat_map f (take (i + 1) xs))
  got_more next =
      let texts : flat_map f (take (i + 1) xs) ≡ flat_map f (take i xs) ++ f (get_or xs i d) =
      rw (take_more xs i d lt, flat_map-append f (take i xs) (get_or xs i d ∷ []))
      (ap (λ (last : List ℕ). flat_map f (take i xs) ++ last) (append-nil (f (get_or xs i d)))) in
      record {
        sent = next.sent ∙ ap (λ (sent : Sent). sent_and_more sent (f (get_or xs i d))) before.sent
            ∙ sent_twice sent_first (flat_map f (take i xs)) (f (get_or xs i d))
            ∙ ap (sent_and_more sent_first) (sym texts);
        done = next.done ∙ before.done;
      }

  -- a prefix of the next text was sent, and a write failed
  pub got_front : GotPrefix sent_before sent_after faults_before faults_after (f (get_or xs i d))
      → GotPrefix sent_first sent_after faults_first faults_after (flat_map f xs)
  got_front next =
      let front = flat_map f (take i xs) in
      let text = f (get_or xs i d) in
      let rest = flat_map f (drop (i + 1) xs) in
      let texts : flat_map f xs ≡ front ++ (text ++ rest) =
      ap (flat_map f) (sym (take-append-drop i xs)) ∙ flat_map-append f (take i xs) (drop i xs)
      ∙ ap (λ (items : List X). front ++ flat_map f items) (drop_more xs i d lt) in
      let prefix : front ++ take next.count text
      ≡ take (length front + next.count) (flat_map f xs) =
      ap (λ (more : List ℕ). front ++ more)
      (sym (take-append-le next.count text rest next.in_range))
      ∙ sym (take-append-add front (text ++ rest) next.count)
      ∙ ap (take (length front + next.count)) (sym texts) in
      record {
        count = length front + next.count;
        in_range = omega (
          arith,
          ap length texts,
          length-append front (text ++ rest),
          length-append text rest,
          next.in_range,
        );
        sent =
            next.sent ∙ ap (λ (sent : Sent). sent_and_more sent (take next.count text)) before.sent
            ∙ sent_twice sent_first front (take next.count text)
            ∙ ap (sent_and_more sent_first) prefix;
        failed = subst (λ (faults : ℕ). Rose faults faults_after) before.done next.failed;
      }

-- a text that was sent, or a prefix of it
pub got_either : {T E : Type 0} (r : Result T E) {sent_before sent_after : Sent}
    {faults_before faults_after : ℕ} {text : List ℕ} → faults_before ≤ faults_after
    → OnOk r (GotWhole sent_before sent_after faults_before faults_after text)
    → OnErr r (GotPrefix sent_before sent_after faults_before faults_after text)
    → GotLine sent_before sent_after faults_before faults_after text
got_either (Ok x) later whole front = record { later = later; got = inl whole }
got_either (Err e) later whole front = record { later = later; got = inr front }

-- the parts of the code, joined, spell what the parts of the definition spell
pub text_of_line-parts : (parts : List CodePart)
    → flat_map (λ part. part_text (line_part_of part)) parts ≡ text_of_line (map line_part_of parts)
text_of_line-parts [] = refl
text_of_line-parts (part ∷ parts) =
    ap (λ (rest : List ℕ). part_text (line_part_of part) ++ rest) (text_of_line-parts parts)
