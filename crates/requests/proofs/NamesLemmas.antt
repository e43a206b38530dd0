-- The names of pieces, byte for byte.
use Rattle.std.proofs.Common.{ap, ap₂, arith, Bool, bytes_eq, drop, false, flat_map, get_or, length}
use Rattle.std.proofs.Common.{List, refl, sym, take, true, ℕ, ◌++◌, ◌+◌, ◌<◌, ◌∙◌, ◌≡◌}
use Rattle.std.proofs.Math.Seq.{drop-append_seam, take-append_seam}
use Rattle.std.proofs.lemmas.List.{drop_more, take-append-drop}
use Rattle.std.proofs.lemmas.List.FromFn.{get_or-map-range_with_len, length-map-range_with_len}
use Rattle.std.{proofs.lemmas.Slice.Eq.bytes_eq-Decides, specs.Bool.one_answer}
use Rattle.requests.specs.Names.{piece_name, piece_names}

-- ---- a name in two parts

tested : {name whole : List ℕ} {r : Bool} → (r ≡ true → name ≡ whole) → (name ≡ whole → r ≡ true)
    → r ≡ bytes_eq name whole
tested {name} {whole} {r} there back =
    one_answer r (bytes_eq name whole) (there, back) (bytes_eq-Decides name whole)

-- a name that doesn't begin with the prefix is no piece's name with this prefix
pub front-is_other : {front : List ℕ} (name prefix tail : List ℕ)
    → front ≡ take (length prefix) name → bytes_eq front prefix ≡ false
    → false ≡ bytes_eq name (prefix ++ tail)
front-is_other {front} name prefix tail is differ =
    tested (λ e. absurd cc)
    (λ e. sym differ ∙ (bytes_eq-Decides front prefix).1 (is ∙ ap (take (length prefix)) e
    ∙ take-append_seam prefix tail))

-- if a name begins with the prefix, the rest of the name decides
pub back-decides : {front back : List ℕ} (name prefix tail : List ℕ) {r : Bool}
    → front ≡ take (length prefix) name → back ≡ drop (length prefix) name
    → bytes_eq front prefix ≡ true → r ≡ bytes_eq back tail → r ≡ bytes_eq name (prefix ++ tail)
back-decides {front} {back} name prefix tail {r} front_is back_is same is =
    tested
    (λ e. sym (take-append-drop (length prefix) name)
    ∙ ap₂ (λ xs ys. xs ++ ys) (sym front_is ∙ (bytes_eq-Decides front prefix).0 same)
    (sym back_is ∙ (bytes_eq-Decides back tail).0 (sym is ∙ e)))
    (λ e. is ∙ (bytes_eq-Decides back tail).1 (back_is ∙ ap (drop (length prefix)) e
    ∙ drop-append_seam prefix tail))

-- ---- a name in many parts, read one text at a time

-- Up to part `i` the joined name and the name that is read are the same, and `rest` of it is left:
-- `was` says whether it is the rest of the joined name, which goes on with `text`.
pub record IsReadTo {X : Type 0} (f : X → List ℕ) (xs : List X) (i : ℕ) (text rest : List ℕ)
    (was : Bool) : Type 0 where
  pub default : X
  pub within : i < length xs
  pub is : text ≡ f (get_or xs i default)
  pub before : was ≡ bytes_eq rest (flat_map f (drop i xs))

module _ {X : Type 0} {f : X → List ℕ} {xs : List X} {i : ℕ} {text rest : List ℕ} {was : Bool}
    (read : IsReadTo f xs i text rest was) where
  abbrev more : List ℕ
  more = flat_map f (drop (i + 1) xs)

  left : flat_map f (drop i xs) ≡ text ++ more
  left =
      ap (flat_map f) (drop_more xs i read.default read.within)
      ∙ ap (λ (l : List ℕ). l ++ more) (sym read.is)

  -- if the rest of the name doesn't begin with the next text, the name isn't the joined one
  pub joined-other : bytes_eq (take (length text) rest) text ≡ false → false ≡ was
  joined-other differ =
      front-is_other rest text more refl differ
      ∙ ap (bytes_eq rest) (sym left) ∙ sym read.before

  -- if it does, what is after that text decides
  pub joined-more : {behind : List ℕ} → bytes_eq (take (length text) rest) text ≡ true
      → behind ≡ drop (length text) rest → was ≡ bytes_eq behind (flat_map f (drop (i + 1) xs))
  joined-more {behind} same behind_is =
      read.before
      ∙ ap (bytes_eq rest) left
      ∙ sym (back-decides rest text more refl behind_is same refl)

-- ---- all names

-- a prefix gives 99 names
pub names-length : (prefix : List ℕ) → length (piece_names prefix) ≡ 99
unfolding piece_names
names-length prefix = length-map-range_with_len (piece_name prefix) 1 99

-- the name at each place is the name of the piece whose number is one greater than the place
pub name-at : (prefix : List ℕ) {k : ℕ} (d : List ℕ) → k < 99
    → get_or (piece_names prefix) k d ≡ piece_name prefix (k + 1)
unfolding piece_names
name-at prefix {k} d within = get_or-map-range_with_len (piece_name prefix) 1 99 k (k + 1) d
    (omega (arith, within)) (omega arith)
