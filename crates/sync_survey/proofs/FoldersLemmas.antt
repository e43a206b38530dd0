-- The refusals of a survey of a file in a folder.
use Rattle.std.proofs.Common.{ap, arith, Bool, drop, Err, IfErr, IfOk, leb, length, length-drop}
use Rattle.std.proofs.Common.{List, min, Ok, refl, Result, subst, sym, take, ℕ, ◌-◌, ◌<◌, ◌∙◌, ◌≡◌}
use Rattle.std.proofs.{Common.◌≤◌, lemmas.{Bool.{leb-false, leb-true}, List.take_all}}
use Rattle.std.specs.Prelude.{IsErrAnd}
use Rattle.bit_fields.{proofs.BitsLemmas.AreBytes-from_slice, specs.Bits.AreBytes}
use Rattle.outside.{proofs.CountsLemmas.only_reads_same, specs.Counts.{Counts, OnlyReads}}
use Rattle.outside.specs.{Feed.{Fed, IsFedFrom}, Files.{AreOctets, Files, Holds, IsFileThere}}
use Rattle.outside.specs.Seen.{Seen, seen_folder}
use Rattle.sync_survey.specs.Answers.{FramesAnswer}
use Rattle.sync_survey.specs.Faults.{longest_file, survey_fields, survey_from_start}
use Rattle.sync_survey.specs.{Items.size_of, Looks.{look_size, Shows}, Start.start_of}
use Rattle.sync_survey.specs.Survey.{HasLength, IsSurveyRefusal, IsWholeFrom, ReadsBy, RefusesBytes}
use Rattle.sync_survey.specs.{Survey.survey_of, SurveyFaultKinds.RefusesRightly}
use Rattle.sync_survey.specs.declared.{items.Item.TheVariants.Frame, places.PlacedFrame.PlacedFrame}
use Rattle.sync_survey.specs.declared.{places.Start.Start, survey_fault.SurveyFault.SurveyFault}
use Rattle.sync_survey.specs.declared.survey_fault.SurveyFault.TheVariants.{Memory, TooLong}
use Rattle.sync_survey.specs.declared.surveys.Survey.{Survey}

-- ---- the survey of a short file, and of one that is too long

too_long : (file : List ℕ) (allowed : ℕ) {size : ℕ} → size ≡ length file → longest_file < size
    → survey_of file allowed ≡ Err (TooLong size)
unfolding survey_of
too_long file allowed is long = grind arith

-- the survey of a file that isn't too long is the survey of its bytes
pub survey_of-short : (file : List ℕ) (allowed : ℕ) → length file ≤ longest_file
    → survey_of file allowed ≡ survey_fields file allowed
unfolding survey_of
survey_of-short file allowed few = grind arith

-- octets are bytes, as a list
pub octets_bytes : (bytes : List ℕ) → AreOctets bytes → AreBytes bytes
octets_bytes bytes all = AreBytes-from_slice bytes (λ i. record { fits = all i })

-- ---- what a look shows

take_fewer : (m : ℕ) {n : ℕ} (xs : List ℕ) → n ≡ min (length xs) m → {short : Bool}
    → leb (length xs) m ≡ short → take n xs ≡ take m xs
take_fewer m xs is e = grind (arith, leb-true, take_all, leb-false)

-- what was read at an offset shows the file there
pub shown : {file : List ℕ} {at left wanted size : ℕ} {given : List ℕ} → size ≡ length file
    → left ≡ size - at → wanted ≡ min left look_size → given ≡ take wanted (drop at file)
    → Shows file at given left
shown {file} {at} {wanted = wanted} whole is many bytes = record {
  front_is = bytes ∙ take_fewer look_size (drop at file) (omega
      (arith, whole, is, many, length-drop at file)) refl;
  left_is = omega (arith, whole, is);
}

-- equal bytes show the file, too
pub shown_in : {file front given : List ℕ} {at left : ℕ} → front ≡ given → Shows file at given left
    → Shows file at front left
shown_in {file} {at = at} {left = left} same shows =
    subst (λ front. Shows file at front left) (sym same) shows

-- ---- after calls that left the files and all counts

-- the feed is fed from the name's file, and the files and all counts are as they were
pub record HasRead (feed : Fed) (name : List ℕ) (before after : Files)
    (old new : Counts) : Type 0 where
  pub fed : IsFedFrom feed after name
  pub files : after ≡ before
  pub counts : new ≡ old

-- if nothing was read yet, files and counts are what they were
pub none_read : {feed : Fed} {name : List ℕ} {files : Files} {counts : Counts}
    → IsFedFrom feed files name → HasRead feed name files files counts counts
none_read fed = record { fed = fed; files = refl; counts = refl }

-- one more read that succeeded leaves files and counts as they were, too
pub read_more : {T : Type 0} {x : T} {feed next : Fed} {name : List ℕ} {files mid now : Files}
    {old between new : Counts} → HasRead feed name files mid old between
    → ReadsBy next name (Ok x) (seen_folder mid between) (seen_folder now new)
    → HasRead next name files now old new
read_more before reads = grind arith

-- what a look showed after the reads, it showed of the file as it was before them
pub still_shown : {feed : Fed} {name : List ℕ} {files now : Files} {old new : Counts}
    {front given : List ℕ} {at left : ℕ} → HasRead feed name files now old new → front ≡ given
    → ((bytes : List ℕ) → Holds now name bytes → Shows bytes at given left) → {bytes : List ℕ}
    → Holds files name bytes → Shows bytes at front left
still_shown {name = name} before same shows {bytes} holds =
    shown_in same (shows bytes (subst (λ f. Holds f name bytes) (sym before.files) holds))

-- a frame that is whole in what is left at an offset is whole from any earlier offset on
pub whole_from : {from at left size : ℕ} {p : PlacedFrame} → p.offset ≡ at
    → size_of (Frame p.header) ≤ left → left ≡ size - at → at ≤ size → from ≤ at
    → IsWholeFrom from size p
whole_from offset within left few low = grind arith

-- a refusal after reads that succeeded is a refusal by all calls together
pub refusal_after : {feed : Fed} {name : List ℕ} {files mid : Files} {allowed : ℕ}
    {before between after : Counts} {fault : SurveyFault}
    → HasRead feed name files mid before between
    → IsSurveyRefusal name mid allowed between after fault
    → IsSurveyRefusal name files allowed before after fault
refusal_after {name = name} {mid = mid} {allowed = allowed} {before = before} {after =
    after} {fault = fault} read is =
    subst (λ f. IsSurveyRefusal name f allowed before after fault) read.files
    (subst (λ n. IsSurveyRefusal name mid allowed n after fault) read.counts is)

-- a survey that a call ends after reads that succeeded is refused as the call is
pub survey_ends : {feed : Fed} {name : List ℕ} {allowed : ℕ} {old mid new : Seen}
    {fault : SurveyFault} (r : Result Survey SurveyFault) → IsErrAnd r (λ f. f ≡ fault)
    → HasRead feed name old.files mid.files old.counts mid.counts → new.files ≡ mid.files
    → OnlyReads mid.counts new.counts
    → IsSurveyRefusal name mid.files allowed mid.counts new.counts fault
    → FramesAnswer name allowed old new r
survey_ends (Ok s) is read files counts refused = absurd is
survey_ends {name = name} {allowed = allowed} {old = old} {new = new} (Err f) is read files counts
    refused = record {
      surveyed = tt;
      done = tt;
      refused = subst (IsSurveyRefusal name old.files allowed old.counts new.counts) (sym is)
          (refusal_after read refused);
      files = files ∙ read.files;
      counts = subst (λ n. OnlyReads n new.counts) read.counts counts;
    }

-- if no count changed, only reads were counted
pub only_reads_equal : {before after : Counts} → after ≡ before → OnlyReads before after
only_reads_equal {before} same = subst (OnlyReads before) (sym same) (only_reads_same before)

-- a file whose stream doesn't begin has the fault of its start
pub survey_fields-by : (file : List ℕ) (allowed : ℕ) {fault : SurveyFault}
    → start_of file ≡ Err fault → survey_fields file allowed ≡ Err fault
unfolding survey_fields
survey_fields-by file allowed is = ap (survey_from_start file allowed) is

-- ---- the refusals

module _ (name : List ℕ) (files : Files) (allowed : ℕ) (before after : Counts) where
  -- a file that is too long is refused with its length
  pub long_refusal : {size : ℕ} → IsFileThere files name
      → ((bytes : List ℕ) → Holds files name bytes → size ≡ length bytes) → longest_file < size
      → after ≡ before → IsSurveyRefusal name files allowed before after (TooLong size)
  long_refusal there is long same = grind (arith, too_long)

  -- any file may be refused when out of memory
  pub memory_refusal : {size : ℕ} → HasLength files name size → after ≡ before
      → IsSurveyRefusal name files allowed before after Memory
  memory_refusal known same = grind arith

  kind_refusal : {fault : SurveyFault} → RefusesRightly fault
      → RefusesBytes name files allowed before after fault
      → IsSurveyRefusal name files allowed before after fault
  kind_refusal rightly refuses = grind arith

  -- a fault of the file's bytes refuses it
  pub bytes_refusal : {size : ℕ} {fault : SurveyFault} → HasLength files name size → after ≡ before
      → RefusesRightly fault
      → ((bytes : List ℕ) → Holds files name bytes → survey_fields bytes allowed ≡ Err fault)
      → IsSurveyRefusal name files allowed before after fault
  bytes_refusal known same rightly refused = grind (arith, kind_refusal, survey_of-short)

  -- a fault before the first frame refuses the file
  pub start_refusal : {size : ℕ} {fault : SurveyFault} → HasLength files name size → after ≡ before
      → RefusesRightly fault
      → ((bytes : List ℕ) → Holds files name bytes → start_of bytes ≡ Err fault)
      → IsSurveyRefusal name files allowed before after fault
  start_refusal known same rightly none = search (arith, bytes_refusal, survey_fields-by)

-- a result that is a start is the start of the file
pub start_ok : {r : Result Start SurveyFault} (files : Files) (name : List ℕ)
    → ((bytes : List ℕ) → Holds files name bytes → start_of bytes ≡ r)
    → IfOk r (λ s. (bytes : List ℕ) → Holds files name bytes → start_of bytes ≡ Ok s)
start_ok files name is = grind arith

-- a result that is an error is such a refusal
pub start_err : (r : Result Start SurveyFault) {name : List ℕ} {files : Files}
    {before after : Counts} {size : ℕ} → HasLength files name size → after ≡ before
    → IfErr r RefusesRightly → ((bytes : List ℕ) → Holds files name bytes → start_of bytes ≡ r)
    → IfErr r (λ fault. (allowed : ℕ) → IsSurveyRefusal name files allowed before after fault)
start_err (Ok s) known same rightly is = tt
start_err (Err fault) {name} {files} {before} {after} {size} known same rightly is =
    λ allowed. start_refusal name files allowed before after known same rightly is
