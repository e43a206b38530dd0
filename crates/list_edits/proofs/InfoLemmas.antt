-- The lines about a file, one of which may be absent, and the frames that they are about.
use Rattle.std.proofs.Common.{arith, Bool, drop, fold, get_or, length, List, max, min, Option, Some}
use Rattle.std.proofs.{Common.{ℕ, [], ◌++◌, ◌+◌, ◌<◌, ◌∷◌, ◌≡◌}, Math.Seq.drop-cons}
use Rattle.std.{proofs.lemmas.List.drop_more, specs.Prelude.{flat_map, if◌then◌else◌, slice_get}}
use Rattle.list_edits.specs.InfoText.{gain_lines}
use Rattle.list_edits.specs.Totals.{greatest_rate, least_rate, row_rate, row_rates}
use Rattle.moved_gains.proofs.ExtremesLemmas.{joined_extremes-append}
use Rattle.moved_gains.specs.GainExtremes.{extremes_of, extremes_of_both, joined_extremes}
use Rattle.moved_gains.specs.declared.gain_extremes.Gains.{Gains}
use Rattle.sync_survey.specs.Row.{Row}

-- ---- lines

-- a line that may be absent, and the lines after it
pub unless-lines : (none : Bool) (line : List ℕ) (others : List (List ℕ))
    → flat_map (λ l. l) ((if none then [] else line ∷ []) ++ others)
    ≡ (if none then [] else line) ++ flat_map (λ l. l) others
unless-lines none line others = grind arith

-- the line that is met, and the lines that are left
pub line-at : (lines : List (List ℕ)) {i : ℕ} {line : List ℕ} → i < length lines
    → line ≡ get_or lines i line → drop i lines ≡ line ∷ drop (i + 1) lines
line-at lines within is = grind (arith, drop-cons)

-- ---- bit rates

-- the frame that is met, and the frames that are left
pub row-at : (rows : List Row) {i : ℕ} {row : Row} → i < length rows → row ≡ get_or rows i row
    → drop i rows ≡ row ∷ drop (i + 1) rows
row-at rows within is = grind (arith, drop_more)

-- the least bit rate is the same with the first frame's once more
pub least-again : (rows : List Row) {first : Row} → slice_get rows 0 ≡ Some first
    → fold min (row_rate first) (row_rates rows) ≡ least_rate rows
least-again [] is = absurd cc
least-again (r ∷ rows) is = grind arith

-- the greatest bit rate is the same with the first frame's once more
pub greatest-again : (rows : List Row) {first : Row} → slice_get rows 0 ≡ Some first
    → fold max (row_rate first) (row_rates rows) ≡ greatest_rate rows
greatest-again [] is = absurd cc
greatest-again (r ∷ rows) is = grind arith

-- three texts, joined, are the same if each is
pub three-lines : {a b d : List ℕ} {x y z : List ℕ} → a ≡ x → b ≡ y → d ≡ z
    → flat_map (λ (l : List ℕ). l) (a ∷ b ∷ d ∷ []) ≡ flat_map (λ (l : List ℕ). l) (x ∷ y ∷ z ∷ [])
three-lines {a} {b} {d} p q r = grind arith

-- the lines before the lines of the gains, one of which may be absent, and these
pub all-lines : {a b c d e f g h : List ℕ} {class frames rates main head : List ℕ} (none : Bool)
    (here : List ℕ) {played : List ℕ} (gains : List (List ℕ)) → a ≡ class → b ≡ frames → c ≡ rates
    → d ≡ main → e ≡ head → f ≡ (if none then [] else here) → g ≡ played
    → h ≡ flat_map (λ (l : List ℕ). l) gains → a ++ (b ++ (c ++ (d ++ (e ++ (f ++ (g ++ h))))))
    ≡ flat_map (λ (l : List ℕ). l)
    (class ∷ frames ∷ rates ∷ main ∷ head ∷ ((if none then [] else here ∷ []) ++ (played ∷ gains)))
all-lines none here gains p q r s t u v w = grind (arith, unless-lines)

-- the gains of both channels are the gains of the one and of the other
pub gains-said : (rows : List Row) {n channels : ℕ} {left right : Option Gains}
    → n ≡ channels → left ≡ extremes_of 0 rows → right ≡ extremes_of 1 rows
    → flat_map (λ (l : List ℕ). l) (gain_lines n left right (joined_extremes left right))
    ≡ flat_map (λ (l : List ℕ). l)
    (gain_lines channels (extremes_of 0 rows) (extremes_of 1 rows) (extremes_of_both rows))
gains-said rows p q r = grind (arith, joined_extremes-append)
