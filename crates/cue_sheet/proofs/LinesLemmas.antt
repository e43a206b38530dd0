-- The lines of a text one by one.
use Rattle.std.proofs.Common.{ap, ap₂, arith, Bool, cond, drop, inl, inr, length, length-drop, List}
use Rattle.std.proofs.Common.{map, sym, ℕ, [], ◌+◌, ◌<◌, ◌==◌, ◌∙◌, ◌∷◌, ◌≡◌, ◌≤◌}
use Rattle.std.proofs.lemmas.Bool.{cases_lt, le-leb, lt-leb}
use Rattle.std.proofs.lemmas.List.{drop-drop, drop_all, drop_more, length-take-le}
use Rattle.std.proofs.lemmas.List.Sums.{prefix_len-le-length}
use Rattle.std.specs.{List.{before_first, position_or_len}, Str.Lines.strip_carriage_return}
use Rattle.cue_sheet.proofs.PartsLemmas.{other_parts, parts_are}
use Rattle.cue_sheet.specs.Lines.{lines_from, lines_in}

abbrev is_end : ℕ → Bool
is_end byte = byte == 10

-- no line begins after the end
pub no_lines : (text : List ℕ) (at : ℕ) → length text < at → lines_from text at ≡ []
no_lines text at end = ap (λ b. cond b (lines_in (drop at text)) []) (lt-leb at (length text) end)

-- the lines after the first, from the place after its line feed
others_are : (text : List ℕ) (at n : ℕ) → at ≤ length text → n ≤ length (drop at text)
    → map strip_carriage_return (other_parts is_end (drop n (drop at text)))
    ≡ lines_from text (at + n + 1)
others_are text at n within most =
    elim (cases_lt n (length (drop at text))) [
      | inl less ↦
          let on : drop n (drop at text) ≡ _ = drop_more (drop at text) n 0 less in
          let there =
          le-leb (at + n + 1) (length text) (omega (arith, less, length-drop at text)) in
          ap (λ t. map strip_carriage_return (other_parts is_end t)) on
          ∙ ap lines_in (drop-drop (n + 1) at text ∙ ap (λ m. drop m text) (omega arith))
          ∙ ap (λ b. cond b (lines_in (drop (at + n + 1) text)) []) (sym there)
      | inr end ↦
          let none = lt-leb (at + n + 1) (length text) (omega (arith, end, length-drop at text)) in
          ap (λ t. map strip_carriage_return (other_parts is_end t)) (drop_all n (drop at text) end)
          ∙ ap (λ b. cond b (lines_in (drop (at + n + 1) text)) []) (sym none)
    ]

-- the line that begins there ends at the first line feed
pub line_is : (text line : List ℕ) (at : ℕ) → at ≤ length text
    → line ≡ before_first is_end (drop at text)
    → lines_from text at ≡ strip_carriage_return line ∷ lines_from text (at + length line + 1)
line_is text line at within is =
    let here = le-leb at (length text) within in
    let n = position_or_len is_end (drop at text) in
    let most : n ≤ length (drop at text) = prefix_len-le-length _ (drop at text) in
    let size : length line ≡ n = ap length is ∙ length-take-le n (drop at text) most in
    ap (λ b. cond b (lines_in (drop at text)) []) here
    ∙ ap (map strip_carriage_return) (parts_are is_end (drop at text))
    ∙ ap₂ (λ l more. strip_carriage_return l ∷ more) (sym is)
    (others_are text at n within most ∙ ap (λ m. lines_from text (at + m + 1)) (sym size))

-- what the lines say is what the first line says, followed by what the others say
pub first_said : {X : Type 0} (said : List ℕ → X) (text : List ℕ) (at next : ℕ) {line : List ℕ}
    {entry : X} → lines_from text at ≡ line ∷ lines_from text next → entry ≡ said line
    → map said (lines_from text at) ≡ entry ∷ map said (lines_from text next)
first_said said text at next lines is =
    ap (map said) lines ∙ ap (λ e. e ∷ map said (lines_from text next)) (sym is)
