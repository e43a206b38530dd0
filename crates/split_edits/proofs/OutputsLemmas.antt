-- Outputs that are written in order.
use Rattle.std.proofs.Common.{ap, append-nil, arith, drop, inl, inr, length, length-drop, List, map}
use Rattle.std.proofs.Common.{None, Option, refl, slice_index_or, Some, string_bytes, sym, take, ℕ}
use Rattle.std.proofs.{Common.{[], ◌++◌, ◌+◌, ◌<◌, ◌∙◌, ◌∷◌, ◌≡◌, ◌≢◌}, Math.Seq.take-add}
use Rattle.std.proofs.lemmas.List.{drop-map, get_or-drop, length-map, length-take, map-append}
use Rattle.std.proofs.lemmas.List.{take-map, Elements.All-take}
use Rattle.commands.specs.Command.{begun_output, LacksBytes, Output, written_files}
use Rattle.commands.specs.PassFaults.{pass_edit_fault}
use Rattle.commands.specs.SingleOutput.{HoldsLess, HoldsPrefix, IsPassFault}
use Rattle.laying.specs.Laid.{file_laid, selected_part}
use Rattle.outside.proofs.FilesLemmas.{touches_both, touches_more, touches_none, touches_told}
use Rattle.outside.specs.Counts.{Counts}
use Rattle.outside.specs.Files.{Contents, Files, files_holding, Holds, IsFileThere, LeavesAllBut}
use Rattle.outside.specs.{Files.{OnlyTouches, with_file}, Seen.seen_folder}
use Rattle.outside.specs.declared.pass.PassFault.{PassFault, TheVariants.{Read, Shrunk, Write}}
use Rattle.split_edits.specs.Steps.{IsPiecesFault, IsUnfinishedPart, IsWrittenPart, names_of_pieces}
use Rattle.split_edits.specs.Steps.{output_of, piece_outputs, pieces_of, with_outputs, with_part}
use Rattle.split_edits.specs.declared.piece.PlannedPiece.{PlannedPiece}
use Rattle.sync_survey.specs.Faults.{SurveyFields}

-- ---- one more output

written-append : (xs ys : List Output) (f : Contents)
    → written_files (xs ++ ys) f ≡ written_files ys (written_files xs f)
written-append [] ys f = refl
written-append (x ∷ xs) ys f = written-append xs ys (with_file f x.name x.bytes)

none-written : (files : Files) → files ≡ with_outputs [] files
unfolding with_outputs
none-written files = grind arith

more-written : (xs : List Output) (name bytes : List ℕ) (files : Files) (input file : List ℕ)
    → Holds files input file → files_holding (with_outputs xs files) name bytes
    ≡ with_outputs (xs ++ record { name = name; bytes = bytes } ∷ []) files
unfolding with_outputs files_holding
more-written xs name bytes files input file holds = grind (arith, written-append)

-- These outputs begin with k whole ones, and this one is next.
pub record IsNextOutput (k : ℕ) (outputs rest : List Output) (o : Output) (input file : List ℕ)
    (old now : Files) : Type 0 where
  pub next : drop k outputs ≡ o ∷ rest
  pub holds : Holds old input file
  pub is : now ≡ with_outputs (take k outputs) old

-- after k whole outputs the next one wasn't created, or holds a prefix
module _ {k : ℕ} {outputs rest : List Output} {o : Output} {input file : List ℕ} {old now : Files}
    (at : IsNextOutput k outputs rest o input file old now) where
  not-created : {new : Files} → new ≡ now → new ≡ with_part k None outputs old
  unfolding with_outputs with_part
  not-created stays = grind (arith, append-nil, at.next, at.holds, at.is)

  begun-with : {new : Files} (n : ℕ) → new ≡ files_holding now o.name (take n o.bytes)
      → new ≡ with_part k (Some n) outputs old
  unfolding with_outputs with_part files_holding
  begun-with n part = grind (arith, written-append, at.next, at.holds, at.is)

  -- a prefix of the next output is a part of all outputs
  pub part-of : (new : Files) → HoldsPrefix o.name o.bytes now new
      → (count : Option ℕ) × (new ≡ with_part k count outputs old)
  part-of new (inl stays) = (None, not-created stays)
  part-of new (inr part) = (Some part.0, begun-with part.0 part.1)

  -- if the next output was created and a write failed, it lacks bytes
  pub less-of : (new : Files) → HoldsLess o.name o.bytes now new → (count : Option ℕ)
      × LacksBytes count (drop k outputs) × (new ≡ with_part k count outputs old)
  less-of new (inl stays) = (None, tt, not-created stays)
  less-of new (inr part) = (Some part.0, rw at.next part.1, begun-with part.0 part.2)

-- ---- the input, beside an output that was written

-- the input is there as it was
pub record Stands (input : List ℕ) (old new : Files) : Type 0 where
  pub there : IsFileThere new input
  pub before : (bytes : List ℕ) → Holds new input bytes → Holds old input bytes
  pub after : (bytes : List ℕ) → Holds old input bytes → Holds new input bytes

stands-beside : {input name : List ℕ} {old new : Files} → input ≢ name → IsFileThere old input
    → LeavesAllBut (name ∷ []) old new → Stands input old new
stands-beside apart there only = grind arith

-- ---- pieces that were written

-- These pieces are whole, and the input is as it was.
pub record Wrote (s : SurveyFields) (input : List ℕ) (done : List PlannedPiece)
    (old now : Files) : Type 0 where
  pub files : (bytes : List ℕ) → Holds old input bytes
      → now ≡ with_outputs (piece_outputs s done bytes) old
  pub touches : OnlyTouches (names_of_pieces done) old now
  pub stands : Stands input old now

-- before the first output nothing was written
pub none-wrote : (s : SurveyFields) {input : List ℕ} {files : Files} → IsFileThere files input
    → Wrote s input [] files files
none-wrote s {files = files} there = record {
  files = λ bytes holds. none-written files;
  touches = touches_none [] files;
  stands =
      record { there = there; before = λ bytes holds. holds; after = λ bytes holds. holds };
}

abbrev pub piece_made : SurveyFields → PlannedPiece → List ℕ → List ℕ
piece_made s piece file = file_laid (selected_part piece.selected) file s

-- The pieces before this one are whole, and only its name was touched since.
pub record IsNextPiece (s : SurveyFields) (input : List ℕ) (all : List PlannedPiece) (k : ℕ)
    (piece : PlannedPiece) (old now new : Files) : Type 0 where
  pub next : drop k all ≡ piece ∷ drop (k + 1) all
  pub wrote : Wrote s input (take k all) old now
  pub touches : OnlyTouches (string_bytes piece.name ∷ []) now new

-- the next piece was written, or begun
module _ {s : SurveyFields} {input : List ℕ} {all : List PlannedPiece} {k : ℕ}
    {piece : PlannedPiece} {old now new : Files}
    (at : IsNextPiece s input all k piece old now new) where
  abbrev done : List PlannedPiece
  done = take k all

  more : take (k + 1) all ≡ done ++ piece ∷ []
  more = take-add k 1 all ∙ ap (λ (ps : List PlannedPiece). done ++ take 1 ps) at.next

  touched : OnlyTouches (names_of_pieces (take (k + 1) all)) old new
  touched = rw (
    more,
    map-append (λ (p : PlannedPiece). string_bytes p.name) done (piece ∷ []),
  ) (touches_both at.wrote.touches at.touches)

  touched-here : OnlyTouches (take (k + 1) (names_of_pieces all)) old new
  touched-here = rw (take-map (λ (p : PlannedPiece). string_bytes p.name) (k + 1) all) touched

  -- only the names of the pieces were touched
  pub all-touched : OnlyTouches (names_of_pieces all) old new
  all-touched = touches_more
      (λ other apart. All-take (λ name. other ≢ name) (k + 1) (names_of_pieces all) apart)
      touched-here

  -- if the next piece was written whole, one more piece is whole
  pub more-wrote : input ≢ string_bytes piece.name → ((bytes : List ℕ) → Holds now input bytes
      → new ≡ files_holding now (string_bytes piece.name) (piece_made s piece bytes))
      → Wrote s input (take (k + 1) all) old new
  more-wrote apart whole =
      let beside =
      stands-beside apart at.wrote.stands.there
      at.touches.others in
      record {
        files = grind (arith, more-written, more, map-append, at.wrote.files);
        touches = touched;
        stands = record {
          there = beside.there;
          before = λ bytes holds. at.wrote.stands.before bytes (beside.before bytes holds);
          after = λ bytes holds. beside.after bytes (at.wrote.stands.after bytes holds);
        };
      }

  out : (bytes : List ℕ) → drop k (piece_outputs s all bytes)
      ≡ output_of bytes s piece ∷ piece_outputs s (drop (k + 1) all) bytes
  out bytes = drop-map (output_of bytes s) k all ∙ ap (map (output_of bytes s)) at.next

  now-is : (bytes : List ℕ) → Holds old input bytes
      → now ≡ with_outputs (take k (piece_outputs s all bytes)) old
  now-is bytes holds = at.wrote.files bytes holds
      ∙ ap (λ os. with_outputs os old) (sym (take-map (output_of bytes s) k all))

  next-output : (bytes : List ℕ) → Holds old input bytes
      → IsNextOutput k (piece_outputs s all bytes) (piece_outputs s (drop (k + 1) all) bytes)
      (output_of bytes s piece) input bytes old now
  next-output bytes holds = record { next = out bytes; holds = holds; is = now-is bytes holds }

  few : (bytes : List ℕ) → k < length (piece_outputs s all bytes)
  few bytes = omega (arith, ap length (out bytes), length-drop k (piece_outputs s all bytes))

  place-is : {place : ℕ} → place ≡ length done → place ≡ k
  place-is is = omega (arith, is, length-take k all, ap length at.next, length-drop k all)

  name-here : {place : ℕ} → place ≡ length done
      → slice_index_or (names_of_pieces all) place [] ≡ string_bytes piece.name
  name-here {place} is =
      let here : place ≡ k + 0 = omega (arith, place-is is) in
      ap (λ n. slice_index_or (names_of_pieces all) n []) here
      ∙ sym (get_or-drop k (names_of_pieces all) 0 [])
      ∙ ap (λ (l : List (List ℕ)). slice_index_or l 0 [])
      (drop-map (λ (p : PlannedPiece). string_bytes p.name) k all ∙ ap names_of_pieces at.next)

  part-written : ((bytes : List ℕ) → Holds now input bytes
      → HoldsPrefix (string_bytes piece.name) (piece_made s piece bytes) now new) → {place : ℕ}
      → place ≡ length done → IsWrittenPart (pieces_of input s all) place old new
  part-written begun_output {place} is = rw (place-is is) (record {
    files = λ bytes holds. let part = part-of (next-output bytes holds) new
        (begun_output bytes (at.wrote.stands.after bytes holds)) in
        (few bytes, part.0, part.1);
    touches = touched-here;
  })

  part-unfinished : ((bytes : List ℕ) → Holds now input bytes
      → HoldsLess (string_bytes piece.name) (piece_made s piece bytes) now new) → {place : ℕ}
      → place ≡ length done → IsUnfinishedPart (pieces_of input s all) place old new
  part-unfinished begun_output {place} is = rw (place-is is) (record {
    files = λ bytes holds. let part = less-of (next-output bytes holds) new
        (begun_output bytes (at.wrote.stands.after bytes holds)) in
        (few bytes, part.0, part.1, part.2);
    touches = touched-here;
  })

  -- if the pass of the next piece failed, the fault is one of the pieces, and the pieces before it
  -- are whole
  pub pieces-fault : (fault : PassFault) {place : ℕ} {before between : Counts} (after : Counts)
      → place ≡ length done → between ≡ before → IsPassFault (piece_made s piece) (input ∷ [])
      (string_bytes piece.name) (seen_folder now between) (seen_folder new after)
      (pass_edit_fault 0 0 fault)
      → IsPiecesFault (pieces_of input s all) (seen_folder old before) (seen_folder new after)
      (pass_edit_fault 0 place fault)
  pieces-fault Read {place} after is same h =
      record {
        is = refl;
        rose = grind arith;
        place = place;
        files = part-written h.files is;
      }
  pieces-fault (Shrunk first second) after is same h = record {
    first = first;
    second = second;
    is = refl;
    ended = grind (arith, after, touches_told);
  }
  pieces-fault Write {place} after is same h =
      record {
        within = omega (
          arith,
          place-is is,
          ap length at.next,
          length-drop k all,
          length-map all (λ (p : PlannedPiece). string_bytes p.name),
        );
        rose = grind (arith, name-here);
        files = part-unfinished h.1.files is;
      }
