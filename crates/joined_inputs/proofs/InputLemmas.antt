-- The surveys of the inputs, in order, and what is made of the inputs that have them.
use Rattle.std.proofs.Common.{ap, arith, drop, Err, length, List, map, None, Ok, Option, refl}
use Rattle.std.proofs.Common.{Result, slice_index_or, Some, sym, take, true, ℕ, [], ◌++◌, ◌+◌, ◌-◌}
use Rattle.std.proofs.{Common.{◌<◌, ◌∙◌, ◌∷◌, ◌≡◌, ◌≤◌}, Math.Seq.take-add}
use Rattle.std.{proofs.lemmas.List.{get_or_at, length-map}, specs.Prelude.{IfErr, unwrap_or}}
use Rattle.commands.proofs.InputLemmas.{of_bytes_behind}
use Rattle.commands.proofs.NamedLemmas.{lost_name, missed_name, unread_name}
use Rattle.commands.proofs.{RefusingLemmas.then_all, WhyLemmas.each_why}
use Rattle.commands.specs.{AfterCall.{IsLateFault, IsNotBefore, why_of}, Refusing.then_made}
use Rattle.commands.specs.SingleOutput.{first_input, most_frames, NeedsMemory, TaskRefuses}
use Rattle.commands.specs.declared.fault.EditFault.{EditFault, TheVariants.{Input, Refused}}
use Rattle.commands.specs.declared.fault.Refusal.TheVariants.{Differ}
use Rattle.frame_header.specs.Fields.{ClassFields}
use Rattle.joined_inputs.specs.Inputs.{AreInputsOfClass, AreJoinInputs, CanInputsBeJoined}
use Rattle.joined_inputs.specs.Inputs.{class_of_first, frames_together, HasClassOfFirst}
use Rattle.joined_inputs.specs.Inputs.{input_names, InputFields, IsEarlyInputFault, IsPartFault}
use Rattle.joined_inputs.specs.Inputs.{IsSurveyed, part_in}
use Rattle.joined_inputs.specs.Parts.{join_part, join_parts, join_parts_from, may_join, parts_task}
use Rattle.joined_inputs.specs.Parts.{surveyed_part}
use Rattle.laying.{proofs.LaidFrameLemmas.same-class, specs.Relaid.FilePart}
use Rattle.outside.proofs.FilesLemmas.{there_holds}
use Rattle.outside.specs.{Files.{Contents, Files, IfTold, Told, Untold}, Seen.Seen}
use Rattle.sync_survey.proofs.BytesFaultLemmas.{survey_fields-of_bytes}
use Rattle.sync_survey.proofs.{FoldersLemmas.survey_of-short, SurveyedFileLemmas.survey_of-parts}
use Rattle.sync_survey.specs.Faults.{longest_file, survey_fields, SurveyFields}
use Rattle.sync_survey.specs.{MainData.StreamFrame, declared.survey_fault.SurveyFault.SurveyFault}
use Rattle.sync_survey.specs.declared.survey_fault.SurveyFault.TheVariants.{Read}

-- ---- one more input

-- the class that an input after these has to have
abbrev pub class_after : Option ClassFields → List InputFields → Option ClassFields
class_after first [] = first
class_after first (i ∷ inputs) = class_after (Some (unwrap_or first i.survey.class)) inputs

-- an input that may follow those before it is one more
pub inputs-more : (first : Option ClassFields) (allowed : ℕ) {files : Files}
    (inputs : List InputFields) {i : InputFields} → AreJoinInputs first allowed files inputs
    → IsSurveyed (allowed - frames_together inputs) files i.name i.survey
    → HasClassOfFirst (class_after first inputs) i.survey.class → i.from ≡ 0
    → AreJoinInputs first allowed files (inputs ++ i ∷ [])
unfolding frames_together
inputs-more first allowed [] are is follows whole = grind arith
inputs-more first allowed {files} (n ∷ inputs) {i} are is follows whole =
    let left : allowed - (length n.survey.frames + frames_together inputs)
    ≡ (allowed - length n.survey.frames) - frames_together inputs = omega arith in (
      are.0,
      are.1,
      are.2,
      inputs-more (Some (unwrap_or first n.survey.class))
          (allowed - length n.survey.frames) inputs are.3 (rw left at is) follows whole,
    )

after-some : (class : ClassFields) (inputs : List InputFields)
    → class_after (Some class) inputs ≡ Some class
after-some class [] = refl
after-some class (i ∷ inputs) = after-some class inputs

-- the class after inputs is the class of the first
pub after-none : (inputs : List InputFields) → class_after None inputs ≡ class_of_first inputs
after-none inputs = grind (arith, after-some)

-- the items before a number and the one with it are the items before the next number
pub take-next : {X : Type 0} (xs : List X) (i : ℕ) {x : X} {rest : List X} → drop i xs ≡ x ∷ rest
    → take (i + 1) xs ≡ take i xs ++ x ∷ []
take-next xs i is = take-add i 1 xs ∙ ap (λ l. take i xs ++ take 1 l) is

-- one more input adds its frames
pub frames-more : (inputs : List InputFields) (i : InputFields)
    → frames_together (inputs ++ i ∷ []) ≡ frames_together inputs + length i.survey.frames
unfolding frames_together
frames-more [] i = omega arith
frames-more (n ∷ inputs) i = omega (arith, frames-more inputs i)

-- ---- all inputs

alike-inputs : (class : ClassFields) (allowed : ℕ) (files : Files) (inputs : List InputFields)
    → AreJoinInputs (Some class) allowed files inputs
    → AreInputsOfClass class inputs × (frames_together inputs ≤ allowed)
unfolding frames_together
alike-inputs class allowed files [] are = (tt, omega arith)
alike-inputs class allowed files (i ∷ inputs) are =
    grind (arith, alike-inputs class (allowed - length i.survey.frames) files inputs are.3)

-- 1 to 64 inputs that were read can be joined
pub inputs-join : (files : Files) (inputs : List InputFields)
    → AreJoinInputs None most_frames files inputs → 1 ≤ length inputs → length inputs ≤ 64
    → CanInputsBeJoined inputs
unfolding frames_together
inputs-join files [] are some few = absurd (omega (arith, some))
inputs-join files (i ∷ inputs) are some few = grind (arith, alike-inputs)

-- there are as many inputs as names
pub named-long : (inputs : List InputFields) {names : List (List ℕ)} → input_names inputs ≡ names
    → length inputs ≡ length names
named-long inputs is =
    sym (length-map inputs (λ (i : InputFields). i.name)) ∙ ap (λ (l : List (List ℕ)). length l) is

-- inputs that can be joined are at least one
pub can-some : {inputs : List InputFields} → CanInputsBeJoined inputs → 0 < length inputs
can-some can = grind arith

-- all inputs are of the first one's class
pub alike-first : {i : InputFields} {inputs : List InputFields} → CanInputsBeJoined (i ∷ inputs)
    → AreInputsOfClass i.survey.class (i ∷ inputs)
alike-first can = grind arith

-- ---- inputs whose contents are known

-- an input that follows may join
pub follows-may : (first : Option ClassFields) (class : ClassFields) → HasClassOfFirst first class
    → may_join first class ≡ true
follows-may first class follows = grind (arith, same-class)

part-ok : (number : ℕ) (first : Option ClassFields) {allowed : ℕ} {f : Contents} {i : InputFields}
    → IsSurveyed allowed (Told f) i.name i.survey → HasClassOfFirst first i.survey.class
    → i.from ≡ 0 → join_part number first allowed (f i.name) ≡ Ok (part_in f i)
part-ok number first is follows whole = grind (arith, there_holds, follows-may)

-- the parts of inputs that were surveyed are all there
pub parts-all : (number : ℕ) (first : Option ClassFields) (allowed : ℕ) (f : Contents)
    (inputs : List InputFields) → AreJoinInputs first allowed (Told f) inputs
    → join_parts_from number first allowed f (input_names inputs) ≡ Ok (map (part_in f) inputs)
unfolding join_parts_from
parts-all number first allowed f [] are = refl
parts-all number first allowed f (i ∷ inputs) are =
    rw (
      part-ok number first are.0 are.1 are.2,
      parts-all (number + 1) (Some (unwrap_or first i.survey.class))
          (allowed - length i.survey.frames) f inputs are.3,
    ) refl

-- what holds of the parts from an input on holds of all parts, if those before it have their
-- surveys
module _ {Q : Result (List FilePart) EditFault → Type 0}
    (more : (p : FilePart) (r : Result (List FilePart) EditFault) → Q r
    → Q (then_made r (λ parts. Ok (p ∷ parts)))) (f : Contents) (after : List (List ℕ)) where
  parts-behind : (number : ℕ) (first : Option ClassFields) (allowed : ℕ) (before : List InputFields)
      → AreJoinInputs first allowed (Told f) before → Q
      (join_parts_from (number + length before) (class_after first before)
      (allowed - frames_together before) f after)
      → Q (join_parts_from number first allowed f (input_names before ++ after))
  unfolding join_parts_from frames_together
  parts-behind number first allowed [] are q = grind arith
  parts-behind number first allowed (i ∷ before) are q =
      let next : number + length (i ∷ before) ≡ number + 1 + length before = omega arith in
      let left : allowed - (length i.survey.frames + frames_together before)
      ≡ (allowed - length i.survey.frames) - frames_together before = omega arith in
      rw (part-ok number first are.0 are.1 are.2)
      (more _ _ (parts-behind (number + 1) (Some (unwrap_or first i.survey.class))
      (allowed - length i.survey.frames) before are.3 (rw (next, left) at q)))

-- ---- what holds of every refusal

module _ (P : EditFault → Type 0) where
  by-all : (number : ℕ) (first : Option ClassFields) (file : List ℕ)
      (r : Result SurveyFields SurveyFault)
      → ((fault : SurveyFault) → r ≡ Err fault → P (Input number fault))
      → P (Refused (Differ number)) → IfErr (surveyed_part number first file r) P
  by-all number first file (Err fault) faults differ = faults fault refl
  by-all number first file (Ok s) faults differ = grind arith

  -- refusals of the inputs from one on
  module _ {from : ℕ} (faults : (at : ℕ) (fault : SurveyFault) → from ≤ at → P (Input at fault))
      (differ : (at : ℕ) → from ≤ at → P (Refused (Differ at))) where
    part-all : {at : ℕ} (first : Option ClassFields) (allowed : ℕ) (o : Option (List ℕ)) → from ≤ at
        → IfErr (join_part at first allowed o) P
    part-all first allowed o behind = grind arith

    from-all : (at : ℕ) (first : Option ClassFields) (allowed : ℕ) (f : Contents)
        (names : List (List ℕ)) → from ≤ at → IfErr (join_parts_from at first allowed f names) P
    unfolding join_parts_from
    from-all at first allowed f [] behind = tt
    from-all at first allowed f (name ∷ names) behind =
        then_all P (join_part at first allowed (f name)) _
        (part-all first allowed (f name) behind)
        (λ p. then_all P (join_parts_from (at + 1) _ _ f names) (λ parts. Ok (p ∷ parts))
        (from-all (at + 1) _ _ f names (omega (arith, behind))) (λ parts. tt))

-- ---- memory

-- a refusal of an input after the first is found after memory was taken
later-late : (at : ℕ) (fault : SurveyFault) → 1 ≤ at → IsLateFault (Input at fault)
later-late at fault behind = grind arith

-- if the first input is no longer than allowed, every refusal is found after memory was taken
pub join-late : (file : List FilePart → List ℕ) (names : List (List ℕ)) (f : Contents)
    (bytes : List ℕ) → f (first_input names) ≡ Some bytes → length bytes ≤ longest_file
    → IfErr (then_made (join_parts f names) (λ parts. Ok (file parts))) IsLateFault
unfolding join_parts_from
join-late file [] f bytes held few = tt
join-late file (name ∷ rest) f bytes held few =
    rw (held, survey_of-short bytes most_frames few)
    (then_all IsLateFault _ (λ parts. Ok (file parts))
    (then_all IsLateFault (surveyed_part 0 None bytes (survey_fields bytes most_frames)) _
    (by-all IsLateFault 0 None bytes (survey_fields bytes most_frames)
    (λ fault is. of_bytes_behind fault
    (survey_fields-of_bytes bytes most_frames {fault = fault} is)) refl)
    (λ p. then_all IsLateFault (join_parts_from (0 + 1) _ _ f rest) (λ parts. Ok (p ∷ parts))
    (from-all IsLateFault later-late (λ at behind. refl) (0 + 1) _ _ f rest (omega arith))
    (λ parts. tt)))
    (λ parts. tt))

-- the first input is there with a length that it may have
pub found-input : (allowed : ℕ) (before : List InputFields) (after : List (List ℕ)) {old new : Seen}
    → AreJoinInputs None allowed old.files before → 1 ≤ length before → new ≡ old
    → NeedsMemory (first_input (input_names before ++ after)) old new
found-input allowed [] after are some stays = absurd (omega (arith, some))
found-input allowed (i ∷ before) after are some stays = grind (arith, survey_of-parts)

-- ---- a fault of an input after those before it

-- Of the inputs with these names, those before this one were read.
pub record AreBefore (before : List InputFields) (name : List ℕ) (names : List (List ℕ))
    (files : Files) : Type 0 where
  pub after : List (List ℕ)
  pub is : input_names before ++ name ∷ after ≡ names
  pub are : AreJoinInputs None most_frames files before

named : {before : List InputFields} {name : List ℕ} {names : List (List ℕ)} {files : Files}
    → AreBefore before name names files → name ≡ slice_index_or names (length before) []
named {before} {name} b =
    sym (get_or_at (input_names before) name b.after [] (length before)
    (length-map before (λ (i : InputFields). i.name)))
    ∙ ap (λ (l : List (List ℕ)). slice_index_or l (length before) []) b.is

module _ (file : List FilePart → List ℕ) (stream : List FilePart → List StreamFrame) where
  refuses-by : {before : List InputFields} {name : List ℕ} {names : List (List ℕ)} (files : Files)
      (fault : EditFault) → AreBefore before name names files
      → IfTold files (λ f. join_part (length before) (class_after None before)
      (most_frames - frames_together before) (f name) ≡ Err fault)
      → TaskRefuses (parts_task file stream names) files fault
  unfolding join_parts_from
  refuses-by (Untold touched) fault b is = tt
  refuses-by {before} {name} (Told f) fault b is =
      let here : 0 + length before ≡ length before = omega arith in
      rw (← b.is)
      (ap (λ (r : Result (List FilePart) EditFault). then_made r (λ parts. Ok (file parts)))
      (parts-behind {Q = λ r. r ≡ Err fault}
      (λ p r e. ap (λ (q : Result (List FilePart) EditFault). then_made q (λ parts. Ok (p ∷ parts)))
      e)
      f (name ∷ b.after) 0 None most_frames before b.are (rw (here, is) refl)))

  unread-by : {before : List InputFields} {name : List ℕ} {names : List (List ℕ)} (files : Files)
      → AreBefore before name names files → IfTold files (λ f.
      IfErr ((parts_task file stream names).makes f) (IsNotBefore (Input (length before) Read)))
  unread-by (Untold touched) b = tt
  unread-by {before} {name} (Told f) b =
      let P = IsNotBefore (Input (length before) Read) in
      rw (← b.is)
      (then_all P (join_parts f (input_names before ++ name ∷ b.after)) (λ parts. Ok (file parts))
      (parts-behind (λ p r h. then_all P r (λ parts. Ok (p ∷ parts)) h
      (λ parts. tt)) f (name ∷ b.after) 0 None most_frames before b.are
      (from-all P (λ at fault behind. behind) (λ at behind. behind)
      (0 + length before) (class_after None before) (most_frames - frames_together before) f
      (name ∷ b.after) (omega arith)))
      (λ parts. tt))

module _ {before : List InputFields} {name : List ℕ} {names : List (List ℕ)} (old new : Seen)
    (b : AreBefore before name names old.files) where
  needs-first : NeedsMemory name old new → NeedsMemory (first_input names) old new
  needs-first n = rw (← b.is) (first before b.are)
    where
      first : (bs : List InputFields) → AreJoinInputs None most_frames old.files bs
          → NeedsMemory (first_input (input_names bs ++ name ∷ b.after)) old new
      first [] are = n
      first (i ∷ bs) are =
          found-input most_frames (i ∷ bs) (name ∷ b.after) are (omega arith) n.stays

  early-here : (fault : EditFault) → IsPartFault (length before) (class_after None before)
      (most_frames - frames_together before) name old new fault
      → IsEarlyInputFault names old new fault
  early-here fault h = λ file stream. each_why (why_of fault) h (record {
    rejected = λ r.
        record { defined = refuses-by file stream old.files fault b r.0; stays = r.1 };
    missing = λ m. record {
      defined = refuses-by file stream old.files fault b m.0;
      rose = missed_name names (named b) m.1;
      files = m.1.files;
    };
    unread = λ u. record {
      before = rw u.is (unread-by file stream old.files b);
      rose = unread_name names (named b) u;
      files = u.files;
    };
    shorter = λ l.
        record { ended = lost_name names (named b) l; files = l.files };
    unwritten = λ k w. absurd w;
    unsent = λ w. absurd w;
    no_memory = needs-first;
  })

-- This input is the next: its number, the class that it has to have, and how many frames are left.
pub record IsNextInput (before : List InputFields) (name : List ℕ) (names : List (List ℕ))
    (old : Seen) (number allowed : ℕ) (first : Option ClassFields) : Type 0 where
  pub before_it : AreBefore before name names old.files
  pub long : length before ≡ number
  pub class : first ≡ class_of_first before
  pub many : allowed + frames_together before ≡ most_frames

-- a fault of the next input is one met before the output is created
pub part-early : {before : List InputFields} {name : List ℕ} {names : List (List ℕ)}
    {old mid : Seen} {number allowed : ℕ} {first : Option ClassFields} (new : Seen)
    (fault : EditFault) → IsNextInput before name names old number allowed first → mid ≡ old
    → IsPartFault number first allowed name mid new fault
    → IsEarlyInputFault names old new fault
part-early {before} {old = old} {allowed = allowed} new fault next stays h =
    let left : allowed ≡ most_frames - frames_together before = omega (arith, next.many) in
    early-here old new next.before_it fault
    (rw (← next.long, next.class, ← after-none before, left, stays) at h)
