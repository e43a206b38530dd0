-- Pieces, one more at a time, made from the places and written to the outputs.
use Rattle.std.proofs.Common.{ap, append-nil, append_assoc, arith, bytes_eq, drop, Err, false}
use Rattle.std.proofs.Common.{get_or, length, List, map, Ok, refl, Result, slice_index_or}
use Rattle.std.proofs.Common.{string_bytes, suc, sym, take, true, zero, ℕ, [], ◌++◌, ◌+◌, ◌-◌, ◌<◌}
use Rattle.std.proofs.Common.{◌∙◌, ◌∷◌, ◌≡◌, ◌≢◌, ◌≤◌}
use Rattle.std.proofs.lemmas.List.{drop_all, get_or-take, length-map, take_all}
use Rattle.std.proofs.lemmas.List.Elements.{All-cons, All-head, All-nil, All-tail, All-take}
use Rattle.std.proofs.lemmas.List.{Folds.list_any_at, FromFn.take-map-range_with_len}
use Rattle.std.specs.{List.{All, list_any, range_with_len}, Prelude.{MatchResult, ◌⊎◌}}
use Rattle.std.specs.Result.{IsErrAnd}
use Rattle.commands.specs.declared.fault.EditFault.{EditFault}
use Rattle.laying.specs.Laid.{IsWritableSelection, LaidPart}
use Rattle.outside.proofs.FilesLemmas.{bytes_eq_same}
use Rattle.requests.proofs.NamesLemmas.{name-at, names-length}
use Rattle.requests.specs.Names.{piece_name, piece_names}
use Rattle.split_edits.specs.Cutting.{Cutting, piece_parts, piece_parts_from, pieces_from}
use Rattle.split_edits.specs.Cutting.{with_first}
use Rattle.split_edits.specs.Steps.{ArePieces, CanPiecesBeWritten, names_of_pieces, piece_outputs}
use Rattle.split_edits.specs.{Steps.piece_part, declared.piece.PlannedPiece.PlannedPiece}
use Rattle.sync_survey.specs.Faults.{SurveyFields}

-- ---- what is laid

-- what was laid, and then what is laid after it
abbrev pub laid_before : List LaidPart → Result (List LaidPart) EditFault
    → Result (List LaidPart) EditFault
laid_before done (Ok more) = Ok (done ++ more)
laid_before done (Err fault) = Err fault

before-first : (done : List LaidPart) (first : LaidPart) (r : Result (List LaidPart) EditFault)
    → laid_before done (with_first first r) ≡ laid_before (done ++ first ∷ []) r
before-first done first r = grind (arith, append_assoc)

module _ {P : Type 0} (cut : Cutting P) (file : List ℕ) (s : SurveyFields) (index : ℕ) (from : P)
    (rest : List P) (done : List LaidPart) {whole : Result (List LaidPart) EditFault}
    (before : laid_before done (piece_parts_from cut file s from (drop index rest)) ≡ whole) where
  module _ {to : P} (next : drop index rest ≡ to ∷ drop (index + 1) rest) where
    -- one more pair of places is laid
    pub place-laid : {first : LaidPart} → cut.between from to file s ≡ Ok first
        → laid_before (done ++ first ∷ []) (piece_parts_from cut file s to (drop (index + 1) rest))
        ≡ whole
    place-laid is = grind (arith, before-first)

    -- a pair of places that is refused refuses all
    pub place-refused : {fault : EditFault} → cut.between from to file s ≡ Err fault
        → whole ≡ Err fault
    place-refused is = sym (rw (next, is) at before)

  -- if no place is left, all pieces are laid
  pub places-laid : length rest ≤ index → whole ≡ Ok done
  places-laid all = sym (rw (drop_all index rest all) at before) ∙ ap Ok (append-nil done)

-- all pieces are what is laid from the first place on
pub laid-is : {P : Type 0} (cut : Cutting P) (file : List ℕ) (s : SurveyFields) {from : P}
    (places : List P) → 2 ≤ length places → from ≡ get_or places 0 from
    → piece_parts cut file s places
    ≡ piece_parts_from cut file s from (take (length places - 1) (drop 1 places))
laid-is cut file s places some is = grind (arith, take_all)

-- a fault of a pair of places is a fault of all
pub fault-of-all : {M A B C : Type 0} → (B → C) → M ⊎ (A × B) → M ⊎ (A × C)
fault-of-all all h = grind arith

-- what holds of an error holds of the result with it
pub match_err : {T E : Type 0} (r : Result T E) (P : T → Type 0) (Q : E → Type 0) {e : E}
    → IsErrAnd r (λ y. y ≡ e) → Q e → MatchResult r P Q
match_err r P Q is q = grind arith

-- ---- the names

-- one more piece has the next number in its name
pub pieces-push : (prefix : List ℕ) {s : SurveyFields} (k : ℕ) {n : ℕ} (pieces : List PlannedPiece)
    (piece : PlannedPiece) → ArePieces prefix s k pieces → n ≡ k + length pieces
    → string_bytes piece.name ≡ piece_name prefix n → IsWritableSelection s piece.selected
    → ArePieces prefix s k (pieces ++ piece ∷ [])
pieces-push prefix k [] piece are is named writable = grind arith
pieces-push prefix {s} k {n} (first ∷ pieces) piece are is named writable =
    grind (
      arith,
      pieces-push prefix (k + 1) pieces piece are.2 (omega (arith, is)) named
          writable,
    )

-- the files of pieces are the files of what is laid for them
pub outputs-are : (prefix : List ℕ) (s : SurveyFields) (k : ℕ) (pieces : List PlannedPiece)
    (bytes : List ℕ) → ArePieces prefix s k pieces
    → piece_outputs s pieces bytes ≡ pieces_from prefix k bytes s (map piece_part pieces)
outputs-are prefix s k [] bytes are = refl
outputs-are prefix s k (piece ∷ pieces) bytes are =
    grind (arith, outputs-are prefix s (k + 1) pieces bytes are.2)

-- an input that has no piece's name
other-name : (prefix : List ℕ) {input : List ℕ} {k : ℕ}
    → list_any (bytes_eq input) (piece_names prefix)
    ≡ false → 1 ≤ k → k ≤ 99 → input ≢ piece_name prefix k
other-name prefix {input} {k} none from to same =
    let before : k - 1 + 1 ≡ k = omega arith in
    let found = list_any_at (bytes_eq input) (piece_names prefix) (k - 1) []
    (omega (arith, names-length prefix)) (ap (bytes_eq input) (name-at prefix []
    (omega arith) ∙ ap (piece_name prefix) before ∙ sym same) ∙ bytes_eq_same input) in
    let both : true ≡ false = sym found ∙ none in
    absurd cc

-- pieces none of which has the input's name can be written
pub can-be-written : (prefix : List ℕ) {input : List ℕ} {s : SurveyFields} (k : ℕ)
    (pieces : List PlannedPiece) → list_any (bytes_eq input) (piece_names prefix) ≡ false → 1 ≤ k
    → k + length pieces ≤ 100 → ArePieces prefix s k pieces → CanPiecesBeWritten input s pieces
can-be-written prefix k [] none from to are = grind (arith, All-nil)
can-be-written prefix {input} {s} k (piece ∷ pieces) none from to are =
    grind (
      arith,
      All-cons,
      other-name,
      can-be-written prefix (k + 1) pieces none (omega
          arith) (omega (arith, to)) are.2,
    )

-- ---- the names are the first of the 99

names-are : (prefix : List ℕ) (s : SurveyFields) (k : ℕ) (pieces : List PlannedPiece)
    → ArePieces prefix s k pieces
    → names_of_pieces pieces ≡ map (piece_name prefix) (range_with_len k (length pieces))
names-are prefix s k [] are = refl
names-are prefix s k (piece ∷ pieces) are = grind (arith, names-are prefix s (k + 1) pieces are.2)

-- the names of the pieces are the first that the prefix gives
pub names-prefix : (prefix : List ℕ) (s : SurveyFields) (pieces : List PlannedPiece)
    → length pieces ≤ 99 → ArePieces prefix s 1 pieces
    → names_of_pieces pieces ≡ take (length pieces) (piece_names prefix)
unfolding piece_names
names-prefix prefix s pieces few are = search (arith, names-are, take-map-range_with_len)

-- the name of the piece at a place is the one that the prefix gives it
pub name-here : (prefix : List ℕ) (s : SurveyFields) (pieces : List PlannedPiece) {k : ℕ}
    → length pieces ≤ 99 → k < length (names_of_pieces pieces) → ArePieces prefix s 1 pieces
    → slice_index_or (names_of_pieces pieces) k [] ≡ slice_index_or (piece_names prefix) k []
name-here prefix s pieces few within are = grind (arith, names-prefix, get_or-take, length-map)

All-first : {X : Type 0} (P : X → Type 0) (m n : ℕ) (xs : List X) → All P (take m xs)
    → All P (take m (take n xs))
All-first P zero n xs all = All-nil P
All-first P (suc m) zero xs all = All-nil P
All-first P (suc m) (suc n) [] all = All-nil P
All-first P (suc m) (suc n) (x ∷ xs) all = All-cons P x (take m (take n xs))
    (All-head P x (take m xs) all) (All-first P m n xs (All-tail P x (take m xs) all))

module _ (prefix : List ℕ) (s : SurveyFields) (pieces : List PlannedPiece)
    (P : List ℕ → Type 0) where
  -- what holds of the first names of a prefix holds of the names of the first pieces
  pub names-first : (k : ℕ) → length pieces ≤ 99 → ArePieces prefix s 1 pieces
      → All P (take (k + 1) (piece_names prefix)) → All P (take (k + 1) (names_of_pieces pieces))
  names-first k few are all =
      rw (names-prefix prefix s pieces few are)
      (All-first P (k + 1) (length pieces) (piece_names prefix) all)

  -- what holds of all names of a prefix holds of the names of all pieces
  pub names-all : length pieces ≤ 99 → ArePieces prefix s 1 pieces → All P (piece_names prefix)
      → All P (names_of_pieces pieces)
  names-all few are all = rw (names-prefix prefix s pieces few are)
      (All-take P (length pieces) (piece_names prefix) all)
