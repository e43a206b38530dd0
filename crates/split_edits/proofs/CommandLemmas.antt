-- What the command leaves, given its steps.
use Rattle.std.proofs.Common.{ap, arith, Err, inl, inr, length, List, map, None, Ok, Option, refl}
use Rattle.std.proofs.Common.{Result, Some, string_bytes, subst, sym, take, ℕ, [], ◌+◌, ◌<◌, ◌∙◌}
use Rattle.std.proofs.{Common.{◌∷◌, ◌≡◌, ◌≢◌, ◌≤◌}, lemmas.List.length-map}
use Rattle.std.specs.Prelude.{IfErr, ◌⊎◌}
use Rattle.bit_fields.specs.Bits.{AreBytes}
use Rattle.commands.proofs.KeptLemmas.{IsBeforeOutputs, IsToWrite}
use Rattle.commands.proofs.NamedLemmas.{first_at, lost_name, missed_name, unread_name}
use Rattle.commands.proofs.RefusingLemmas.{then_all, then_ok}
use Rattle.commands.proofs.{SurveyedLemmas.{BeginsWithSurvey, survey_left}, WhyLemmas.each_why}
use Rattle.commands.specs.AfterCall.{HasNumbers, HasSurveyNumbers, IsCommandDone, IsCommandFault}
use Rattle.commands.specs.AfterCall.{IsEditRefusal, IsLateFault, IsNotBefore, IsOutputUnfinished}
use Rattle.commands.specs.AfterCall.{IsWrittenTo, TakesMemory, why_of}
use Rattle.commands.specs.Command.{AreStreams, clash_from, clash_of, Command, HasAnswer}
use Rattle.commands.specs.{Command.{HoldsStreams, Made, Output, written_files}, Refusing.then_made}
use Rattle.commands.specs.{SingleOutput.most_frames, declared.fault.EditFault.EditFault}
use Rattle.commands.specs.declared.fault.EditFault.TheVariants.{EqualNames, Input, Memory}
use Rattle.cut_edits.{proofs.HeadLemmas.head_is_file, specs.Heads.{HasHeadNumbers, IsHeadFault}}
use Rattle.laying.specs.Laid.{LaidPart, stream_laid}
use Rattle.outside.proofs.FilesLemmas.{there_holds, touches_more, touches_none}
use Rattle.outside.specs.Files.{Contents, Files, Holds, IfTold, IsFileThere, OnlyTouches, Told}
use Rattle.outside.specs.Seen.{Seen}
use Rattle.requests.{proofs.NamesLemmas.names-length, specs.Names.piece_names}
use Rattle.split_edits.proofs.PiecesLemmas.{name-here, names-all, names-first, names-prefix}
use Rattle.split_edits.proofs.PiecesLemmas.{outputs-are}
use Rattle.split_edits.specs.Cutting.{Cutting, equal_names_or, input_pieces, input_streams}
use Rattle.split_edits.specs.Cutting.{IsProperCutting, laid_streams, piece_parts, piece_parts_from}
use Rattle.split_edits.specs.Cutting.{pieces_from, pieces_result, places_result, places_streams}
use Rattle.split_edits.specs.Cutting.{split_command, split_result, surveyed_pieces}
use Rattle.split_edits.specs.Cutting.{surveyed_streams, with_first}
use Rattle.split_edits.specs.Steps.{ArePieces, HasPiecesNumbers, HasPlacesNumbers, IsPiecesFault}
use Rattle.split_edits.specs.Steps.{IsPlacesFault, IsUnfinishedPart, IsWrittenPart, names_of_pieces}
use Rattle.split_edits.specs.Steps.{piece_outputs, piece_part, pieces_of, SaysPlaces, with_outputs}
use Rattle.split_edits.specs.{Steps.with_part, declared.piece.PlannedPiece.PlannedPiece}
use Rattle.sync_survey.{proofs.SurveyedFileLemmas.survey_of-sound, specs.Faults.SurveyFields}
use Rattle.sync_survey.specs.{Survey.survey_of, declared.survey_fault.SurveyFault.SurveyFault}
use Rattle.sync_survey.specs.declared.survey_fault.SurveyFault.TheVariants.{Read}

-- ---- what is laid from one place on

-- what is laid with a first piece is that piece, and then what is laid for the others
pub first-parts : {first : LaidPart} {r : Result (List LaidPart) EditFault} {ls : List LaidPart}
    → with_first first r ≡ Ok ls → (more : List LaidPart) × (r ≡ Ok more) × (first ∷ more ≡ ls)
first-parts e = grind arith

-- ---- what holds of every refusal once the input was surveyed

module _ {X : Type 0} (cut : Cutting X) (P : EditFault → Type 0) (between : (from to : X)
    (file : List ℕ) (s : SurveyFields) → IfErr (cut.between from to file s) P) where
  first-all : (first : LaidPart) (r : Result (List LaidPart) EditFault) → IfErr r P
      → IfErr (with_first first r) P
  first-all first r is = grind arith

  laid-all : (file : List ℕ) (s : SurveyFields) (from : X) (tos : List X)
      → IfErr (piece_parts_from cut file s from tos) P
  laid-all file s from [] = tt
  laid-all file s from (to ∷ more) = grind (arith, then_all, first-all, laid-all file s to more)

  at-all : (file : List ℕ) (s : SurveyFields) (places : List X)
      → IfErr (piece_parts cut file s places) P
  at-all file s places = grind (arith, laid-all)

  made-all : (prefix file : List ℕ) (s : SurveyFields) (places : Result (List X) EditFault)
      → IfErr places P → IfErr (then_made places (places_result cut prefix file s)) P
  made-all prefix file s places is = grind (arith, then_all, at-all)

takes : (r : Result Made EditFault) → IfErr r IsLateFault → TakesMemory r
takes r late = grind arith

module _ {X : Type 0} {cut : Cutting X} (proper : IsProperCutting cut) where
  -- ---- refusals that come after memory was taken

  made-late : (prefix file : List ℕ) (s : SurveyFields) (f : Contents)
      → IfErr (then_made (cut.places f) (places_result cut prefix file s)) IsLateFault
  made-late prefix file s f = grind (arith, made-all)

  -- ---- no refusal comes before the sheet is read

  made-before : (prefix file : List ℕ) (s : SurveyFields) (f : Contents) → IfErr
      (then_made (cut.places f) (places_result cut prefix file s)) (IsNotBefore (Input 1 Read))
  made-before prefix file s f = grind (arith, made-all)

-- ---- the streams of the pieces

-- The cutting is proper, and this survey is that of a file of bytes.
pub record IsCutFile {X : Type 0} (cut : Cutting X) (file : List ℕ) (s : SurveyFields) : Type 0
  where
    pub proper : IsProperCutting cut
    pub octets : AreBytes file
    pub survey_is : survey_of file most_frames ≡ Ok s

module _ {X : Type 0} {cut : Cutting X} {file : List ℕ} {s : SurveyFields}
    (source : IsCutFile cut file s) (prefix : List ℕ) where
  abbrev Hold : ℕ → List LaidPart → Type 0
  Hold k ls = AreStreams (pieces_from prefix k file (cut.survey s) ls)
      (map (λ (l : LaidPart). stream_laid l file (cut.survey s)) ls)

  from-hold : (k : ℕ) (from : X) (tos : List X) {ls : List LaidPart}
      → piece_parts_from cut file s from tos ≡ Ok ls → Hold k ls
  from-hold k from [] {ls} e = let none : [] ≡ ls = cc in subst (Hold k) none tt
  from-hold k from (to ∷ tos) {ls} e =
      let parts = then_ok e in
      let more = first-parts parts.2 in
      rw (← more.2) (
        source.proper.streams from to file s parts.0 source.octets source.survey_is parts.1,
        from-hold (k + 1) to tos more.1,
      )

  -- all pieces that are laid hold their streams
  pub at-hold : (places : List X) {ls : List LaidPart} → piece_parts cut file s places ≡ Ok ls
      → Hold 1 ls
  at-hold places e = grind (arith, from-hold)

names-made : (s : SurveyFields) (bytes : List ℕ) (pieces : List PlannedPiece)
    → map (λ (o : Output). o.name) (piece_outputs s pieces bytes) ≡ names_of_pieces pieces
names-made s bytes [] = refl
names-made s bytes (piece ∷ pieces) =
    ap (λ (names : List (List ℕ)). string_bytes piece.name ∷ names) (names-made s bytes pieces)

-- ---- what the contents of the files make of the command

if-told : {files : Files} {P : Contents → Type 0} → ((f : Contents) → files ≡ Told f → P f)
    → IfTold files P
if-told at = grind arith

none-equal : {o : Option ℕ} (r : Result Made EditFault) → o ≡ None → equal_names_or o r ≡ r
none-equal r e = grind arith

-- the first input that has the name of a piece
pub clash-found : {X : Type 0} (cut : Cutting X) (input prefix : List ℕ) {sheets : List (List ℕ)}
    {found other : Option ℕ} → sheets ≡ cut.more
    → found ≡ clash_from (piece_names prefix) 0 (input ∷ sheets) → found ≡ other
    → clash_of (split_command cut input prefix) ≡ other
clash-found cut input prefix is clash e = grind arith

module _ {X : Type 0} (cut : Cutting X) (input prefix : List ℕ) where
  abbrev command : Command
  command = split_command cut input prefix

  gives-equal : (files : Files) {place : ℕ} → clash_of command ≡ Some place
      → HasAnswer command files (Err (EqualNames place))
  unfolding split_result
  gives-equal files e = grind arith

  -- if the name of an input is one of the 99, the command leaves everything as it was
  pub equal-left : {place : ℕ} (now : Seen) → clash_of command ≡ Some place
      → IsCommandFault command now now (EqualNames place)
  equal-left {place} now e = record { defined = gives-equal now.files e; stays = refl }

  makes-where : (f : Contents) {o : Option (List ℕ)} → clash_of command ≡ None → f input ≡ o
      → command.makes f ≡ input_pieces cut prefix (cut.places f) o
  unfolding split_result
  makes-where f apart is = grind (arith, none-equal)

stays-touched : (prefix : List ℕ) {old new : Files} → new ≡ old
    → OnlyTouches (piece_names prefix) old new
stays-touched prefix {old} stays = rw stays (touches_none (piece_names prefix) old)

-- ---- no input has the name of a piece

-- The cutting is proper, and no input has the name of a piece.
pub record CanSplit {X : Type 0} (cut : Cutting X) (input prefix : List ℕ) : Type 0 where
  pub proper : IsProperCutting cut
  pub apart : clash_of (split_command cut input prefix) ≡ None

module _ {X : Type 0} {cut : Cutting X} {input prefix : List ℕ}
    (can : CanSplit cut input prefix) where
  makes-bytes : (f : Contents) {bytes : List ℕ} {r : Result SurveyFields SurveyFault}
      → f input ≡ Some bytes → survey_of bytes most_frames ≡ r
      → (split_command cut input prefix).makes f ≡ surveyed_pieces cut prefix (cut.places f) bytes r
  makes-bytes f {bytes} held is = makes-where cut input prefix f can.apart held
      ∙ ap (surveyed_pieces cut prefix (cut.places f) bytes) is

  -- the command begins with the survey of its input
  pub begins : BeginsWithSurvey (split_command cut input prefix) input
  begins = record {
    first = refl;
    names = can.apart;
    absent = λ f is. makes-where cut input prefix f can.apart is;
    refused = λ f bytes fault held is. makes-bytes f held is;
    takes = λ f bytes s held is.
        rw (makes-bytes f held is) (takes _ (made-late can.proper prefix bytes s f));
  }

  -- a head that could not be read leaves everything as it was
  pub head-left : {old mid : Seen} (new : Seen) (fault : EditFault) → mid ≡ old
      → IsHeadFault input mid new fault
      → IsCommandFault (split_command cut input prefix) old new fault
  head-left {old} new fault stays h =
      survey_left begins old new fault (head_is_file input old new fault (rw stays at h))

-- ---- a surveyed input

-- The input can be split, is there, and has this survey.
pub record IsSplitSurveyed {X : Type 0} (cut : Cutting X) (input prefix : List ℕ)
    (s : SurveyFields) (old : Seen) : Type 0 where
  pub can : CanSplit cut input prefix
  pub there : IsFileThere old.files input
  pub surveyed : (bytes : List ℕ) → Holds old.files input bytes
      → survey_of bytes most_frames ≡ Ok s

module _ {X : Type 0} {cut : Cutting X} {input prefix : List ℕ} {s : SurveyFields} {old : Seen}
    (source : IsSplitSurveyed cut input prefix s old) where
  makes-then : {f : Contents} → old.files ≡ Told f
      → (bytes : List ℕ) × (f input ≡ Some bytes) × (survey_of bytes most_frames ≡ Ok s)
      × ((split_command cut input prefix).makes f
      ≡ then_made (cut.places f) (places_result cut prefix bytes s))
  makes-then {f} told =
      let held = there_holds f (rw told at source.there) in
      let sound = source.surveyed held.0 (rw told held.1) in
      (held.0, held.1, sound, makes-bytes source.can f held.1 sound)

  behind-takes : IfTold old.files (λ f. TakesMemory ((split_command cut input prefix).makes f))
  behind-takes = if-told (λ f told. let made = makes-then told in
      rw made.3 (takes _ (made-late source.can.proper prefix made.0 s f)))

  -- no fault of the definition comes before the sheet that could not be read
  behind-before : IfTold old.files (λ f.
      IfErr ((split_command cut input prefix).makes f) (IsNotBefore (Input 1 Read)))
  behind-before = if-told (λ f told. let made = makes-then told in
      rw made.3 (made-before source.can.proper prefix made.0 s f))

  -- if there are no places, the command is refused
  places-refused : (fault : EditFault) → SaysPlaces cut old.files (Err fault)
      → HasAnswer (split_command cut input prefix) old.files (Err fault)
  places-refused fault none =
      if-told (λ f told.
      let made = makes-then told in
      made.3 ∙ ap (λ p. then_made p (places_result cut prefix made.0 s)) (rw told at none))

  places-left-here : (new : Seen) (fault : EditFault) → IsPlacesFault cut old new fault
      → IsCommandFault (split_command cut input prefix) old new fault
  places-left-here new fault h = each_why (why_of fault) h (record {
    rejected = λ r. record { defined = places-refused fault r.0; stays = r.1 };
    missing = λ m. record {
      defined = places-refused fault m.0;
      rose = missed_name (input ∷ cut.more) (first_at cut.more) m.1;
      files = m.1.files;
    };
    unread = λ u. record {
      names = source.can.apart;
      before = rw u.is behind-before;
      rose = unread_name (input ∷ cut.more) (first_at cut.more) u;
      files = inl u.files;
    };
    shorter = λ l. record {
      ended = lost_name (input ∷ cut.more) (first_at cut.more) l;
      touches = stays-touched prefix l.files;
    };
    unwritten = λ k w. absurd w;
    unsent = λ w. absurd w;
    no_memory = λ same. record { names = source.can.apart; takes = behind-takes; stays = same };
  })

  -- if there are no places, everything stays as it was
  pub places-left : {mid : Seen} (new : Seen) (fault : EditFault) → mid ≡ old
      → IsPlacesFault cut mid new fault
      → IsCommandFault (split_command cut input prefix) old new fault
  places-left new fault stays h = places-left-here new fault (rw stays at h)

  -- if memory runs out, everything stays as it was
  pub memory-left : {new : Seen} → new ≡ old
      → IsCommandFault (split_command cut input prefix) old new Memory
  memory-left same = record { names = source.can.apart; takes = behind-takes; stays = same }

-- ---- these positions

-- The input is split at these places.
pub record IsSplitAt {X : Type 0} (cut : Cutting X) (input prefix : List ℕ) (s : SurveyFields)
    (old : Seen) (places : List X) : Type 0 where
  pub source : IsSplitSurveyed cut input prefix s old
  pub are : SaysPlaces cut old.files (Ok places)

module _ {X : Type 0} {cut : Cutting X} {input prefix : List ℕ} {s : SurveyFields} {old : Seen}
    {places : List X} (split : IsSplitAt cut input prefix s old places) where
  makes-at : {f : Contents} → old.files ≡ Told f
      → (bytes : List ℕ) × (f input ≡ Some bytes) × (survey_of bytes most_frames ≡ Ok s)
      × (cut.places f ≡ Ok places)
      × ((split_command cut input prefix).makes f ≡ places_result cut prefix bytes s places)
  makes-at {f} told =
      let made = makes-then split.source told in
      let here : cut.places f ≡ Ok places = rw told at split.are in (
        made.0,
        made.1,
        made.2,
        here,
        made.3 ∙ ap (λ p. then_made p (places_result cut prefix made.0 s)) here,
      )

  range-refused : {fault : EditFault} → ((bytes : List ℕ) → Holds old.files input bytes
      → piece_parts cut bytes s places ≡ Err fault)
      → HasAnswer (split_command cut input prefix) old.files (Err fault)
  range-refused none =
      if-told (λ f told.
      let made = makes-at told in
      made.4 ∙ ap (λ r. then_made r (pieces_result prefix made.0 (cut.survey s)))
      (none made.0 (subst (λ fs. Holds fs input made.0) (sym told) made.1)))

  -- if places give no pieces, everything stays as it was
  pub range-left : {new : Seen} (fault : EditFault) → new ≡ old → (fault ≡ Memory)
      ⊎ (IsEditRefusal cut.refuses fault × ((bytes : List ℕ) → Holds old.files input bytes
      → piece_parts cut bytes s places ≡ Err fault))
      → IsCommandFault (split_command cut input prefix) old new fault
  range-left fault same h = grind (arith, memory-left split.source, range-refused)

  -- the outputs hold their streams
  pub split-streams : ((bytes : List ℕ) → Holds old.files input bytes → AreBytes bytes)
      → HoldsStreams (split_command cut input prefix) old.files
  unfolding input_streams
  split-streams octets =
      if-told {files = old.files} (λ f told. λ whole is.
      let made = makes-at {f = f} told in
      let t = cut.survey s in
      let parts =
      then_ok {r = piece_parts cut made.0 s places} {make =
      pieces_result prefix made.0 t} {b = whole}
      (sym made.4 ∙ is) in
      let same : record { outputs = pieces_from prefix 1 made.0 t parts.0; text = [] }
      ≡ whole = cc in
      let streams : (split_command cut input prefix).streams f
      ≡ map (λ (l : LaidPart). stream_laid l made.0 t) parts.0 =
      ap (input_streams cut (cut.places f)) made.1
      ∙ ap (surveyed_streams cut (cut.places f) made.0) made.2
      ∙ ap (places_streams cut made.0 s) made.3
      ∙ ap (laid_streams made.0 t) parts.1 in
      let cut_file : IsCutFile cut made.0 s = record {
        proper = split.source.can.proper;
        octets = octets made.0 (subst (λ fs. Holds fs input made.0) (sym told) made.1);
        survey_is = made.2;
      } in
      record {
        sources = ((made.0, made.1, survey_of-sound made.0 most_frames {s = s} made.2), tt);
        streams = subst
            (λ (m : Made). AreStreams m.outputs ((split_command cut input prefix).streams f)) same
            (subst (AreStreams (pieces_from prefix 1 made.0 t parts.0)) (sym streams)
            (at-hold cut_file prefix places {ls = parts.0} parts.1));
      })

-- ---- the pieces, all or some of which were written

-- The input is split at these places, and these are the pieces between them.
pub record AreSplitPieces {X : Type 0} (cut : Cutting X) (input prefix : List ℕ)
    (s : SurveyFields) (old : Seen) (places : List X) (pieces : List PlannedPiece) : Type 0 where
  pub split : IsSplitAt cut input prefix s old places
  pub named : ArePieces prefix (cut.survey s) 1 pieces
  pub laid : (bytes : List ℕ) → Holds old.files input bytes
      → piece_parts cut bytes s places ≡ Ok (map piece_part pieces)
  pub few : length pieces ≤ 99

-- what is made of an input with these bytes and this survey
abbrev made_of : SurveyFields → List PlannedPiece → List ℕ → Made
made_of s pieces bytes = record { outputs = piece_outputs s pieces bytes; text = [] }

module _ {X : Type 0} {cut : Cutting X} {input prefix : List ℕ} {s : SurveyFields} {old : Seen}
    {places : List X} {pieces : List PlannedPiece}
    (are : AreSplitPieces cut input prefix s old places pieces) where
  makes-pieces : {f : Contents} → old.files ≡ Told f
      → (bytes : List ℕ) × (Holds old.files input bytes)
      × ((split_command cut input prefix).makes f ≡ Ok (made_of (cut.survey s) pieces bytes))
  makes-pieces {f} told =
      let at = makes-at are.split told in
      let holds = subst (λ fs. Holds fs input at.0) (sym told) at.1 in (
        at.0,
        holds,
        at.4 ∙ ap (λ r. then_made r (pieces_result prefix at.0 (cut.survey s)))
            (are.laid at.0 holds)
            ∙ ap (λ (outputs : List Output). Ok (record { outputs = outputs; text = [] }))
            (sym (outputs-are prefix (cut.survey s) 1 pieces at.0 are.named)),
      )

  none-before : (P : EditFault → Type 0)
      → IfTold old.files (λ f. IfErr ((split_command cut input prefix).makes f) P)
  none-before P = if-told (λ f told. rw (makes-pieces told).2 tt)

  whole : (new : Files) → ((bytes : List ℕ) → Holds old.files input bytes
      → new ≡ with_outputs (piece_outputs (cut.survey s) pieces bytes) old.files)
      → IfTold old.files (λ f. (made : Made) × ((split_command cut input prefix).makes f ≡ Ok made)
      × (new ≡ Told (written_files made.outputs f)))
  unfolding with_outputs
  whole new all = if-told (λ f told. let makes = makes-pieces told in (
    made_of (cut.survey s) pieces makes.0,
    makes.2,
    subst (λ fs. new ≡ with_outputs (piece_outputs (cut.survey s) pieces makes.0) fs) told
        (all makes.0 makes.1),
  ))

  -- the names of these pieces are those that are about to be written
  pub pieces-to-write :
      IsToWrite (split_command cut input prefix) (names_of_pieces pieces) old.files
  pieces-to-write = record {
    free = are.split.source.can.apart;
    made = if-told (λ f told. let makes = makes-pieces told in (
      made_of (cut.survey s) pieces makes.0,
      makes.2,
      names-made (cut.survey s) makes.0 pieces,
    ));
    front = ap (λ n. take n (piece_names prefix))
        (length-map pieces (λ (p : PlannedPiece). string_bytes p.name))
        ∙ sym (names-prefix prefix (cut.survey s) pieces are.few are.named);
  }

  names-touched : {before after : Files} → OnlyTouches (names_of_pieces pieces) before after
      → OnlyTouches (piece_names prefix) before after
  names-touched only = touches_more
      (λ other. names-all prefix (cut.survey s) pieces (λ name. other ≢ name) are.few are.named)
      only

  first-touched : (k : ℕ) {new : Files}
      → OnlyTouches (take (k + 1) (names_of_pieces pieces)) old.files new
      → OnlyTouches (take (k + 1) (piece_names prefix)) old.files new
  first-touched k touches = touches_more (λ other. names-first prefix
      (cut.survey s) pieces (λ name. other ≢ name) k are.few are.named) touches

  part : (k : ℕ) (new : Files)
      → IsWrittenPart (pieces_of input (cut.survey s) pieces) k old.files new
      → IsWrittenTo (split_command cut input prefix) k old.files new
  unfolding with_part
  part k new h = record {
    made = if-told (λ f told. let makes = makes-pieces told in
        let part = h.files makes.0 makes.1 in (
          made_of (cut.survey s) pieces makes.0,
          makes.2,
          part.0,
          part.1,
          subst (λ fs. new
              ≡ with_part k part.1 (piece_outputs (cut.survey s) pieces makes.0) fs)
              told part.2,
        ));
    touches = first-touched k h.touches;
  }

  unfinished : {k : ℕ} {new : Files}
      → IsUnfinishedPart (pieces_of input (cut.survey s) pieces) k old.files new
      → IsOutputUnfinished (split_command cut input prefix) k old.files new
  unfolding with_part
  unfinished {k} {new} h = record {
    made = if-told (λ f told. let makes = makes-pieces told in
        let part = h.files makes.0 makes.1 in (
          made_of (cut.survey s) pieces makes.0,
          makes.2,
          part.0,
          part.1,
          part.2,
          subst (λ fs. new
              ≡ with_part k part.1 (piece_outputs (cut.survey s) pieces makes.0) fs)
              told part.3,
        ));
    touches = first-touched k h.touches;
  }

  split-left-here : (new : Seen) (fault : EditFault)
      → OnlyTouches (names_of_pieces pieces) old.files new.files
      → IsPiecesFault (pieces_of input (cut.survey s) pieces) old new fault
      → IsCommandFault (split_command cut input prefix) old new fault
  split-left-here new fault only h = each_why (why_of fault) h (record {
    rejected = λ w. absurd w;
    missing = λ w. absurd w;
    unread = λ u. record {
      names = are.split.source.can.apart;
      before = none-before (IsNotBefore fault);
      rose = rw u.is u.rose;
      files = inr (u.place, part u.place new.files u.files);
    };
    shorter = λ l. let ended = rw l.is at l.ended in record {
      ended = rw l.is
          (record { rose = ended.rose; counts = ended.counts; untold = ended.untold });
      touches = names-touched only;
    };
    unwritten = λ k w. record {
      rose = rw (← (name-here prefix (cut.survey s) pieces are.few w.within are.named)) w.rose;
      files = inl (unfinished w.files);
    };
    unsent = λ w. absurd w;
    no_memory = λ w. absurd w;
  })

  -- if all pieces were written, and no count changed, the command is done
  pub split-done : {mid new : Seen} → mid ≡ old
      → ((bytes : List ℕ) → Holds mid.files input bytes
      → new.files ≡ with_outputs (piece_outputs (cut.survey s) pieces bytes) mid.files)
      → OnlyTouches (names_of_pieces pieces) mid.files new.files → new.counts ≡ mid.counts
      → IsCommandDone (split_command cut input prefix) old new
  split-done {new = new} stays wrote touches counts = record {
    made = whole new.files (rw stays at wrote);
    touches = names-touched (rw stays at touches);
    counts = counts ∙ ap (λ (m : Seen). m.counts) stays;
  }

  -- a fault of the second pass leaves the pieces before it whole
  pub split-left : {mid : Seen} (new : Seen) → mid ≡ old
      → OnlyTouches (names_of_pieces pieces) mid.files new.files → (fault : EditFault)
      → IsPiecesFault (pieces_of input (cut.survey s) pieces) mid new fault
      → IsCommandFault (split_command cut input prefix) old new fault
  split-left new stays touches fault h =
      split-left-here new fault (rw stays at touches) (rw stays at h)

-- ---- faults that come before the outputs are asked for

-- a fault of the survey comes before
pub survey-before : (fault : EditFault) → HasSurveyNumbers 0 fault → IsBeforeOutputs fault
survey-before fault is = grind arith

-- so does one of the head
pub head-before : (fault : EditFault) → HasHeadNumbers fault → IsBeforeOutputs fault
head-before fault is = grind arith

-- one of the places
pub places-before : {X : Type 0} (cut : Cutting X) (fault : EditFault) → HasPlacesNumbers cut fault
    → IsBeforeOutputs fault
places-before cut fault is = grind arith

-- and one of places between which there is nothing
pub range-before : {X Y : Type 0} (cut : Cutting X) (fault : EditFault) → (fault ≡ Memory)
    ⊎ (IsEditRefusal cut.refuses fault × Y) → IsBeforeOutputs fault
range-before cut fault is = grind arith

-- ---- the numbers of a fault, whatever is known of the files

module _ {X : Type 0} (cut : Cutting X) (input prefix : List ℕ) where
  -- a fault that was met while the places were found has the right numbers
  pub places-numbers : (fault : EditFault) → HasPlacesNumbers cut fault
      → HasNumbers (split_command cut input prefix) fault
  places-numbers fault is = grind arith

  -- a fault of the survey has the right numbers
  pub survey-numbers : (fault : EditFault) → HasSurveyNumbers 0 fault
      → HasNumbers (split_command cut input prefix) fault
  survey-numbers fault is = grind arith

  -- a fault of the head has the right numbers
  pub head-numbers : (fault : EditFault) → HasHeadNumbers fault
      → HasNumbers (split_command cut input prefix) fault
  head-numbers fault is = grind arith

  -- a fault of places between which there is nothing has the right numbers
  pub range-numbers : {Y : Type 0} (fault : EditFault) → (fault ≡ Memory)
      ⊎ (IsEditRefusal cut.refuses fault × Y) → HasNumbers (split_command cut input prefix) fault
  range-numbers fault h = grind arith

  -- a fault of the second pass has the right numbers
  pub pieces-numbers : {count : ℕ} (fault : EditFault) → count < 100 → HasPiecesNumbers count fault
      → HasNumbers (split_command cut input prefix) fault
  pieces-numbers fault most is = grind (arith, names-length)
