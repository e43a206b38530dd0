-- Pieces of one file in order, whole or exact: from each place to the next.
-- What is joined of them is a piece too, so they can be joined in two steps.
use Rattle.std.proofs.Common.{ap, ap₂, arith, Bool, false, length, List, map, None, not, Ok, Option}
use Rattle.std.proofs.Common.{refl, Some, subst, sym, true, unwrap_or, ℕ, [], ◌++◌, ◌+◌, ◌-◌, ◌∙◌}
use Rattle.std.proofs.{Common.{◌∷◌, ◌≡◌, ◌≤◌}, lemmas.Bool.and_parts}
use Rattle.chosen_streams.proofs.JoinCaseLemmas.{more-inputs}
use Rattle.commands.proofs.{MadeLemmas.some-frames, RefusingLemmas.then_ok}
use Rattle.cut_edits.{proofs.ChosenLemmas.IsRight, specs.Chosen.Chosen}
use Rattle.frame_header.{proofs.HeaderLemmas.IsClass-class_of, specs.Fields.{ClassFields, IsClass}}
use Rattle.frame_header.specs.Limits.{most_frames}
use Rattle.joined_inputs.{proofs.PartLemmas.part-is, specs.Parts.join_parts_from}
use Rattle.laying.proofs.{LaidLemmas.first-there, SurveyFrameLemmas.survey-had}
use Rattle.laying.specs.{Laid.{file_laid, LaidPart}, Relaid.FilePart, Surveys.CanBeRelaid}
use Rattle.outside.specs.Files.{Contents}
use Rattle.seam_laws.proofs.JoinEndLemmas.{frames-few}
use Rattle.seam_laws.proofs.LaidInputLemmas.{class-same, IsFileOf, laid-bare, laid-whole}
use Rattle.seam_laws.proofs.PiecePartLemmas.{IsPiece, IsPlain, laid-input, laid_piece, plain-by}
use Rattle.seam_laws.proofs.SeamlessInputLemmas.{AreInputs, inputs-are, IsInput, Joins}
use Rattle.seam_laws.proofs.SeamlessSpliceLemmas.{not-true}
use Rattle.seam_laws.specs.SeamlessLaws.{ArePieceInputs, bare_file, has_no_look_alike}
use Rattle.seam_laws.specs.SeamlessLaws.{is_look_alike, IsJoinedInSteps, last_place}
use Rattle.seamless_edits.specs.Seamless.{seamless_file}
use Rattle.split_edits.proofs.CommandLemmas.{first-parts}
use Rattle.split_edits.specs.Cutting.{Cutting, piece_parts, piece_parts_from}
use Rattle.sync_survey.proofs.SurveyedFileLemmas.{survey_of-parts}
use Rattle.sync_survey.specs.{Faults.{survey_fields, SurveyFields}, Survey.survey_of}

-- ---- the file that is cut

-- what is known of a file without fault
pub record Recording (file : List ℕ) (s : SurveyFields) : Type 0 where
  pub has : CanBeRelaid file s
  pub few : length s.frames ≤ most_frames
  pub known : IsClass s.class
  pub told : survey_fields file most_frames ≡ Ok s

-- a file without fault is a recording that can be cut
pub recording : {file : List ℕ} {s : SurveyFields} → survey_of file most_frames ≡ Ok s
    → Recording file s
recording {file} {s} read =
    let has = survey-had most_frames read in
    let told = (survey_of-parts file most_frames read).1 in
    let row = first-there s.frames 0 (some-frames file most_frames read) in
    let placed = has.placed 0 row.0 row.1 in
    record {
      has = has;
      few = frames-few file told;
      known = subst IsClass placed.class_is (IsClass-class_of placed.known);
      told = told;
    }

-- ---- pieces in order

-- Each of these parts is a piece: from a place to the first of others, and from each of these to
-- the next.
pub data ArePieces {P : Type 0} (IsAt : P → P → FilePart → Type 0)
    : P → List P → List FilePart → Type 0
  where
    no_pieces : {from : P} → ArePieces IsAt from [] []
    piece_then : {from to : P} {tos : List P} {p : FilePart} {parts : List FilePart}
        → IsAt from to p → ArePieces IsAt to tos parts → ArePieces IsAt from (to ∷ tos) (p ∷ parts)

-- what holds of each piece
pub map-pieces : {P : Type 0} {A B : P → P → FilePart → Type 0} {from : P} {tos : List P}
    {parts : List FilePart} → ((from to : P) (p : FilePart) → A from to p → B from to p)
    → ArePieces A from tos parts → ArePieces B from tos parts
map-pieces f no_pieces = no_pieces
map-pieces f (piece_then {from = a} {to = b} {p = p} here more) =
    piece_then (f a b p here) (map-pieces f more)

module _ {P : Type 0} {IsAt : P → P → FilePart → Type 0} {from to : P} {tos : List P}
    {p : FilePart} {parts : List FilePart} where
  -- the first of some pieces
  pub first-at : ArePieces IsAt from (to ∷ tos) (p ∷ parts) → IsAt from to p
  first-at (piece_then here more) = here

  -- the pieces after the first
  pub later-at : ArePieces IsAt from (to ∷ tos) (p ∷ parts) → ArePieces IsAt to tos parts
  later-at (piece_then here more) = more

module _ {P : Type 0} (IsAt : P → P → FilePart → Type 0) where
  -- the pieces of the first list end at a place, and the pieces of the second continue from it
  pub record AreCut (from : P) (tos : List P) (parts others : List FilePart) : Type 0 where
    pub first : List P
    pub second : List P
    pub last : last_place (last_place from first) second ≡ last_place from tos
    pub pieces : ArePieces IsAt from first parts
    pub pieces_on : ArePieces IsAt (last_place from first) second others

  cut-pieces : (from : P) {tos : List P} (parts : List FilePart) {others : List FilePart}
      → ArePieces IsAt from tos (parts ++ others) → AreCut from tos parts others
  cut-pieces from {tos} [] pieces = record {
    first = [];
    second = tos;
    last = refl;
    pieces = no_pieces;
    pieces_on = pieces;
  }
  cut-pieces from (p ∷ parts) {others} (piece_then {to = b} {tos = bs} here more) =
      let rest = cut-pieces b parts more in
      record {
        first = b ∷ rest.first;
        second = rest.second;
        last = rest.last;
        pieces = piece_then here rest.pieces;
        pieces_on = rest.pieces_on;
      }

-- ---- the inputs of a join

-- the files of these parts
abbrev pub files_of : List FilePart → List (Option (List ℕ))
files_of parts = map (λ (p : FilePart). Some p.file) parts

-- the files that are read as parts are the files of these parts
pub parts-files : (contents : Contents) (place : ℕ) (class : Option ClassFields) (allowed : ℕ)
    (names : List (List ℕ)) {parts : List FilePart}
    → join_parts_from place class allowed contents names ≡ Ok parts
    → map contents names ≡ files_of parts
unfolding join_parts_from
parts-files contents place class allowed [] e = grind arith
parts-files contents place class allowed (name ∷ names) {parts} e =
    let one = then_ok e in
    let part = one.0 in
    let more = more-inputs one.2 in
    let is = part-is place (contents name) one.1 in
    ap₂ (λ (x : Option (List ℕ)) (xs : List (Option (List ℕ))). x ∷ xs)
    (is.there ∙ ap (λ (p : FilePart). Some p.file) is.whole)
    (parts-files contents (place + 1) (Some (unwrap_or class part.survey.class))
    (allowed - length part.survey.frames) names more.1)
    ∙ ap files_of more.2

-- in a join in two steps, the first file is the join of the first
-- pieces, and the files after it are those of the other pieces
step-files : {first : FilePart} {parts others : List FilePart}
    → (steps : IsJoinedInSteps first parts others)
    → (steps.joined.file ≡ seamless_file (first ∷ parts))
    × (files_of others ≡ files_of steps.more)
step-files steps =
    grind (
      arith,
      parts-files steps.files 0 None most_frames steps.names
          steps.taken,
    )

-- ---- how a file is cut

-- how a piece of a file follows from the places where it begins and ends: which frames are chosen,
-- whether they have a lead-in in any case, and what else the places must satisfy
pub record Cuts (P : Type 0) : Type 1 where
  pub led : P → P → Bool
  pub chosen : P → P → Chosen
  pub IsThere : P → P → Type 0

module _ {P : Type 0} (cuts : Cuts P) (file : List ℕ) (t : SurveyFields) where
  -- the part is the piece from one place to another
  pub record IsAt (c : ClassFields) (from to : P) (p : FilePart) : Type 0 where
    pub there : cuts.IsThere from to
    pub piece : IsPiece (cuts.led from to) (cuts.chosen from to) file t c p

  -- it is, and in that case it doesn't begin with a look-alike
  abbrev pub IsPlainAt : ClassFields → Type 0 → P → P → FilePart → Type 0
  IsPlainAt c NoneAlike from to p = (at : IsAt c from to p) × (NoneAlike → IsPlain at.piece)

  -- what is laid from one place to another is a piece
  pub record IsLaidAs (from to : P) (l : LaidPart) : Type 0 where
    pub there : cuts.IsThere from to
    pub right : IsRight (cuts.chosen from to) t
    pub is : l ≡ laid_piece (cuts.led from to) (cuts.chosen from to) t

  abbrev pub AreAt : ClassFields → P → List P → List FilePart → Type 0
  AreAt c from tos parts = ArePieces (IsAt c) from tos parts

  -- the file of what is laid from one place to another, without the blocks after the frames
  abbrev pub cut_between : P → P → List ℕ
  cut_between from to = bare_file (laid_piece (cuts.led from to) (cuts.chosen from to) t) file t

  -- pieces are inputs
  pub pieces-inputs : {c : ClassFields} {from : P} {tos : List P} {parts : List FilePart}
      → AreAt c from tos parts → AreInputs c parts
  pieces-inputs no_pieces = tt
  pieces-inputs {c} (piece_then here more) = (here.piece.is, pieces-inputs more)

  -- and the inputs of a join
  pub pieces-join : {c : ClassFields} {from to : P} {tos : List P} {first : FilePart}
      {parts : List FilePart} → AreAt c from (to ∷ tos) (first ∷ parts) → Joins c first parts
  pieces-join {c} pieces =
      let are = pieces-inputs pieces in record { head = are.0; others = are.1 }

  -- pieces in order, joined again, are what is cut from
  -- the first place to the last, which can be laid
  pub record IsCutAgain (from to : P) (parts : List FilePart) : Type 0 where
    pub there : cuts.IsThere from to
    pub right : IsRight (cuts.chosen from to) t
    pub joins : seamless_file parts ≡ cut_between from to

  abbrev pub AreCutAgain : Type 0
  AreCutAgain =
      (from to : P) (tos : List P) (first : FilePart) (parts : List FilePart)
      → AreAt t.class from (to ∷ tos) (first ∷ parts)
      → IsCutAgain from (last_place to tos) (first ∷ parts)

module _ {P : Type 0} {cuts : Cuts P} {file : List ℕ} {t : SurveyFields} where
  -- the same files are the same pieces
  same-pieces : {c : ClassFields} {from : P} {tos : List P} {xs : List FilePart}
      → AreAt cuts file t c from tos xs → (ys : List FilePart)
      → files_of xs ≡ files_of ys
      → AreInputs c ys → AreAt cuts file t c from tos ys
  same-pieces no_pieces [] same inputs = no_pieces
  same-pieces no_pieces (y ∷ ys) same inputs = absurd cc
  same-pieces (piece_then here more) [] same inputs = absurd cc
  same-pieces {c} (piece_then {p = x} {parts = xs} here more) (y ∷ ys) same inputs =
      let file_is : x.file ≡ y.file = cc in
      let rest : files_of xs ≡ files_of ys =
      cc in
      let piece = here.piece in
      piece_then
      (record {
        there = here.there;
        piece = record {
          has = piece.has;
          right = piece.right;
          made = subst (IsFileOf _ file t) file_is piece.made;
          is = inputs.0;
        };
      })
      (same-pieces more ys rest inputs.1)

  -- ---- in two steps

  -- pieces that are cut again by a join can be joined in two
  -- steps, since the file of the first step is a piece too
  pub two-steps : CanBeRelaid file t → AreCutAgain cuts file t
      → {from to : P} {tos : List P} {first : FilePart}
      {parts others : List FilePart}
      → AreAt cuts file t t.class from (to ∷ tos) (first ∷ (parts ++ others))
      → (steps : IsJoinedInSteps first parts others)
      → seamless_file (steps.joined ∷ steps.more) ≡ seamless_file (first ∷ (parts ++ others))
  two-steps has again {from} {to} {tos} {first} {parts}
      {others} pieces steps =
      let cut = cut-pieces (IsAt cuts file t t.class) to parts (later-at pieces) in
      let mid = last_place to cut.first in
      let front = again from to cut.first first parts
      (piece_then (first-at pieces) cut.pieces) in
      let right = front.right in
      let stepped = step-files steps in
      let inputs = inputs-are steps.files steps.names steps.taken in
      let laid = laid_piece (cuts.led from mid) (cuts.chosen from mid) t in
      let made = subst (IsFileOf laid file t) (sym (stepped.0 ∙ front.joins))
      (laid-bare laid has (omega (arith, right.some, right.within))) in
      let joined : IsPiece (cuts.led from mid) (cuts.chosen from mid) file t
      steps.joined.survey.class steps.joined =
      record { has = has; right = right; made = made; is = inputs.head } in
      let all =
      subst (λ d. Joins d steps.joined steps.more) (class-same (laid-input joined)) inputs in
      let begin : IsAt cuts file t t.class from mid steps.joined =
      record {
        there = front.there;
        piece = record { has = has; right = right; made = made; is = all.head };
      } in
      (again from mid cut.second steps.joined steps.more
      (piece_then begin (same-pieces cut.pieces_on steps.more stepped.1 all.others))).joins
      ∙ ap (cut_between cuts file t from) cut.last
      ∙ sym (again from to tos first (parts ++ others) pieces).joins

-- ---- what a split lays

-- The file can be laid anew, and what is laid between two places is the piece between them.
pub record LaysPieces {P : Type 0} (cut : Cutting P) (cuts : Cuts P) (file : List ℕ)
    (s : SurveyFields) : Type 0 where
  pub has : CanBeRelaid file (cut.survey s)
  pub lays : (from to : P) (l : LaidPart) → cut.between from to file s ≡ Ok l
      → IsLaidAs cuts file (cut.survey s) from to l

module _ {P : Type 0} {cut : Cutting P} {cuts : Cuts P} {file : List ℕ} {s : SurveyFields}
    (by : LaysPieces cut cuts file s) where
  abbrev t : SurveyFields
  t = cut.survey s

  -- what is laid first, and after it
  record IsLaidFirst (from to : P) (tos : List P) (laid : List LaidPart) : Type 0 where
    first : LaidPart
    more : List LaidPart
    how : IsLaidAs cuts file t from to first
    later : piece_parts_from cut file s to tos ≡ Ok more
    are : first ∷ more ≡ laid

  laid-first : {from to : P} {tos : List P} {laid : List LaidPart}
      → piece_parts_from cut file s from (to ∷ tos) ≡ Ok laid → IsLaidFirst from to tos laid
  laid-first {from} {to} {tos} {laid} e =
      let one =
      then_ok e in
      let more = first-parts one.2 in
      record {
        first = one.0;
        more = more.0;
        how = by.lays from to one.0 one.1;
        later = more.1;
        are = more.2;
      }

  alike-first : (l : LaidPart) (laid : List LaidPart) (p : FilePart) (parts : List FilePart)
      → has_no_look_alike (l ∷ laid) (p ∷ parts) ≡ true
      → (is_look_alike l p ≡ false) × (has_no_look_alike laid parts ≡ true)
  alike-first l laid p parts none =
      let both = and_parts (not (is_look_alike l p)) (has_no_look_alike laid parts) none in
      (not-true both.0, both.1)

  piece-at : {c : ClassFields} {NoneAlike : Type 0} {from to : P} {l : LaidPart} {p : FilePart}
      → IsLaidAs cuts file t from to l → IsInput c p → p.file ≡ file_laid l file t
      → (NoneAlike → is_look_alike l p ≡ false) → IsPlainAt cuts file t c NoneAlike from to p
  piece-at {c} {from = from} {to = to} {l = l} {p = p} how is same none =
      let laid = laid_piece (cuts.led from to) (cuts.chosen from to) t in
      let piece : IsPiece (cuts.led from to) (cuts.chosen from to) file t c p =
      record {
        has = by.has;
        right = how.right;
        made =
            subst (IsFileOf laid file t)
            (sym (same ∙ ap (λ l. file_laid l file t) how.is))
            (laid-whole laid by.has (omega (arith, how.right.some, how.right.within)));
        is = is;
      } in (
        record { there = how.there; piece = piece },
        λ n. plain-by piece (ap (λ l. is_look_alike l p) (sym how.is) ∙ none n),
      )

  abbrev files : List LaidPart → List (Option (List ℕ))
  files laid = map (λ l. Some (file_laid l file t)) laid

  -- These inputs are the files that are laid from one place to the first of others, and from each
  -- of these to the next. In that case none of them begins with a look-alike.
  record AreLaid (c : ClassFields) (NoneAlike : Type 0) (from : P) (tos : List P)
      (laid : List LaidPart) (parts : List FilePart) : Type 0 where
    is : piece_parts_from cut file s from tos ≡ Ok laid
    inputs : AreInputs c parts
    same : files_of parts ≡ files laid
    none : NoneAlike → has_no_look_alike laid parts ≡ true

  pieces-from : {c : ClassFields} {NoneAlike : Type 0} (from : P) (tos : List P)
      (laid : List LaidPart) (parts : List FilePart) → AreLaid c NoneAlike from tos laid parts
      → ArePieces (IsPlainAt cuts file t c NoneAlike) from tos parts
  pieces-from from [] [] [] are = no_pieces
  pieces-from from [] [] (p ∷ parts) are = let same = are.same in absurd cc
  pieces-from from [] (l ∷ laid) parts are = let e = are.is in absurd cc
  pieces-from from (to ∷ tos) laid [] are =
      let first = laid-first are.is in
      let never = are.same ∙ ap files (sym first.are) in
      absurd cc
  pieces-from {c} {NoneAlike} from (to ∷ tos) laid (p ∷ parts) are =
      let first = laid-first are.is in
      let l = first.first in
      let all = are.same ∙ ap files (sym first.are) in
      let here : p.file ≡ file_laid l file t = cc in
      let more : files_of parts ≡ files first.more = cc in
      let tests : NoneAlike
      → (is_look_alike l p ≡ false) × (has_no_look_alike first.more parts ≡ true) =
      λ n.
      alike-first l first.more p parts
      (ap (λ ls. has_no_look_alike ls (p ∷ parts)) first.are ∙ are.none n) in
      let rest : AreLaid c NoneAlike to tos first.more parts =
      record {
        is = first.later;
        inputs = are.inputs.1;
        same = more;
        none = λ n. (tests n).1;
      } in
      piece_then
      (piece-at first.how are.inputs.0 here (λ n. (tests n).0))
      (pieces-from to tos first.more parts rest)

  module _ {from to : P} (tos : List P) {laid : List LaidPart}
      (e : piece_parts cut file s (from ∷ to ∷ tos) ≡ Ok laid) where
    -- the files that a split lays, as the inputs of a join, are the pieces between its places
    pub laid-pieces : {first : FilePart} {parts : List FilePart} (NoneAlike : Type 0)
        → ArePieceInputs laid file t first parts
        → (NoneAlike → has_no_look_alike laid (first ∷ parts) ≡ true)
        → ArePieces (IsPlainAt cuts file t t.class NoneAlike) from (to ∷ tos) (first ∷ parts)
    laid-pieces {first} {parts} NoneAlike inputs none =
        let c = first.survey.class in
        let are = inputs-are inputs.files inputs.inputs inputs.taken in
        let here : AreLaid c NoneAlike from (to ∷ tos) laid (first ∷ parts) =
        record {
          is = e;
          inputs = (are.head, are.others);
          same =
              sym (parts-files inputs.files 0 None most_frames inputs.inputs inputs.taken)
              ∙ inputs.are;
          none = none;
        } in
        let pieces = pieces-from from (to ∷ tos) laid (first ∷ parts) here in
        subst (λ d. ArePieces (IsPlainAt cuts file t d NoneAlike) from (to ∷ tos) (first ∷ parts))
        (class-same (laid-input (first-at pieces).0.piece))
        pieces

    -- the first of them doesn't begin with a look-alike, if that is tested alone
    pub first-plain : {first : FilePart} → has_no_look_alike laid (first ∷ []) ≡ true
        → (piece : IsPiece (cuts.led from to) (cuts.chosen from to) file t t.class first)
        → IsPlain piece
    first-plain none piece = grind (arith, laid-first, plain-by, alike-first)
