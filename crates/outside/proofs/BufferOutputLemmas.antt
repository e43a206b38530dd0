-- Laws of what a buffer passed on to a file.
use Rattle.std.proofs.Common.{append_assoc, arith, drop, length, length-append, List, take, ℕ, ◌++◌}
use Rattle.std.proofs.{Common.{◌≡◌, ◌≤◌}, Math.Seq.take-append-add}
use Rattle.std.proofs.lemmas.List.{length-take, take-append-drop, take-append-le, take-take}
use Rattle.std.specs.Prelude.{IfErr, IsErrAnd, Ok, OnErr, Result}
use Rattle.outside.proofs.FilesLemmas.{appended_nothing, appended_there, appended_twice}
use Rattle.outside.specs.{Answers.PushAnswer, BufferOutput.{AppendedPrefix, AppendsWaiting}}
use Rattle.outside.specs.{Files.{Files, IsFileThere, with_appended_bytes}, Seen.Seen}

-- a fact that holds on every error
pub on_err : {T E P : Type 0} (r : Result T E) → P → OnErr r P
on_err r p = grind arith

-- a fact of the error that is returned
pub err_at : {T E : Type 0} (r : Result T E) (P : E → Type 0) {e : E} → IsErrAnd r (λ y. y ≡ e)
    → P e → IfErr r P
err_at r P is p = grind arith

-- what follows from a fact of every error holds of every error
pub err_by : {T E : Type 0} {P Q : E → Type 0} (r : Result T E) → ((e : E) → P e → Q e) → IfErr r P
    → IfErr r Q
err_by r f p = grind arith

-- a buffer that passed on nothing
pub passed_nothing : {files : Files} {name : List ℕ} (bytes : List ℕ) → IsFileThere files name
    → AppendsWaiting name bytes bytes files files
passed_nothing bytes there = grind (arith, appended_nothing)

-- a buffer that passed on a prefix
pub passed_front : {name bytes : List ℕ} (n : ℕ) {f g : Files}
    → g ≡ with_appended_bytes f name (take n bytes) → AppendsWaiting name bytes (drop n bytes) f g
passed_front n is = grind (arith, take-append-drop)

module _ {name before after : List ℕ} {f g : Files} where
  -- more waits after it
  pub passed_with : (piece : List ℕ) → AppendsWaiting name before after f g
      → AppendsWaiting name (before ++ piece) (after ++ piece) f g
  passed_with piece p = grind (arith, append_assoc)

  -- the name is there afterwards
  pub passed_there : AppendsWaiting name before after f g → IsFileThere g name
  passed_there p = grind (arith, appended_there)

-- a piece that fits waits after what waited, and nothing is passed on
pub piece_waits : {name waits after : List ℕ} {piece : List ℕ} {seen : Seen}
    → IsFileThere seen.files name → after ≡ waits ++ piece → length after ≤ 65536
    → PushAnswer name waits piece after seen seen (Ok tt)
piece_waits {name} {waits} there is few = grind (arith, passed_nothing)

-- what was passed on in two steps was passed on in one
pub passed_then : {name before mid after : List ℕ} {f g h : Files}
    → AppendsWaiting name before mid f g → AppendsWaiting name mid after g h
    → AppendsWaiting name before after f h
passed_then {name} {before} {mid} {after} {f} {g} {h} p q =
    grind (arith, append_assoc, appended_twice)

-- two pieces that were passed on in order were passed on together
pub passed_more : {name before mid after : List ℕ} {f g h : Files} (piece : List ℕ)
    → AppendsWaiting name before mid f g → AppendsWaiting name (mid ++ piece) after g h
    → AppendsWaiting name (before ++ piece) after f h
passed_more piece p q = passed_then (passed_with piece p) q

module _ {name before mid : List ℕ} {f g h : Files} (p : AppendsWaiting name before mid f g) where
  -- what was passed on, and then a prefix of the rest, is a prefix of the whole
  pub passed_then_prefix : AppendedPrefix name mid g h → AppendedPrefix name before f h
  passed_then_prefix q =
      grind (
        arith,
        length-append p.passed mid,
        appended_twice f name p.passed (take q.count mid),
        take-append-add p.passed mid q.count,
      )

  -- what was passed on, and then all the rest, is the whole
  pub passed_then_all : h ≡ with_appended_bytes g name mid → h ≡ with_appended_bytes f name before
  passed_then_all all = grind (arith, appended_twice)

-- if only a prefix of the second of two pieces was passed on, a prefix of both was
pub passed_more_prefix : {name before mid : List ℕ} {f g h : Files} (piece : List ℕ)
    → AppendsWaiting name before mid f g → AppendedPrefix name (mid ++ piece) g h
    → AppendedPrefix name (before ++ piece) f h
passed_more_prefix piece p q = passed_then_prefix (passed_with piece p) q

-- a prefix of a prefix is a prefix of the whole
pub prefix_of_front : {name bytes : List ℕ} {f g : Files} (n : ℕ)
    → AppendedPrefix name (take n bytes) f g → AppendedPrefix name bytes f g
prefix_of_front {name} {bytes} {f} {g} n p = grind (arith, length-take, take-take)

-- what waits and a piece, split at a prefix of the piece
pub piece_in_two : (waits piece : List ℕ) (n : ℕ)
    → (waits ++ take n piece) ++ drop n piece ≡ waits ++ piece
piece_in_two waits piece n = grind (arith, append_assoc, take-append-drop)

module _ (name waits piece : List ℕ) (n : ℕ) (f g : Files) where
  -- what waited and a prefix of the piece were appended
  pub passed_waiting : g ≡ with_appended_bytes f name (waits ++ take n piece)
      → AppendsWaiting name (waits ++ piece) (drop n piece) f g
  passed_waiting is = grind (arith, piece_in_two)

  -- a prefix of what waited and a prefix of the piece is a prefix of both
  pub prefix_waiting : AppendedPrefix name (waits ++ take n piece) f g
      → AppendedPrefix name (waits ++ piece) f g
  prefix_waiting p = grind (arith, piece_in_two, length-append, take-append-le)

-- a prefix of what waited and a piece is one of these and another piece after them
pub prefix_in_front : {name : List ℕ} (waits front rest : List ℕ) {f g : Files}
    → AppendedPrefix name (waits ++ front) f g → AppendedPrefix name (waits ++ (front ++ rest)) f g
prefix_in_front {name} waits front rest {f} {g} p =
    grind (arith, append_assoc, length-append, take-append-le)
