-- What `run` promises, from how a command ends.
use Rattle.std.proofs.Common.{ap, arith, Bool, Err, false, inl, inr, List, None, Ok, Option, refl}
use Rattle.std.proofs.Common.{Result, Some, subst, sym, true, ℕ, [], ◌↔◌, ◌∙◌, ◌≡◌, ◌≢◌, ◌≤◌, ◌⊎◌}
use Rattle.std.proofs.{Math.Seq.take-nil, lemmas.Option.same_Some}
use Rattle.std.specs.Prelude.{IfErr, IfSome, IsErrOf, OnOk}
use Rattle.chosen_streams.proofs.NamedLemmas.{one_made}
use Rattle.command_table.specs.Table.{command_of}
use Rattle.commands.proofs.KeptLemmas.{as_kept, asked_says, kept_numbers, none_like, unless-ok}
use Rattle.commands.proofs.{LikeLemmas.{done-like, left-like, streams-like}, MakeLemmas.made-same}
use Rattle.commands.proofs.TouchLemmas.{left_touched}
use Rattle.commands.specs.AfterCall.{by_why, HasNumbers, IsCommandDone, IsCommandFault}
use Rattle.commands.specs.AfterCall.{IsCommandRefused, left_cases, Missing, NoMemory, Rejected}
use Rattle.commands.specs.AfterCall.{Shorter, Unread, Unsent, Unwritten, Why, why_of}
use Rattle.commands.specs.Command.{AreStreams, clash_of, Command, HasAnswer, HoldsStreams, Made}
use Rattle.commands.specs.Command.{Output, written_files}
use Rattle.commands.specs.{FaultKinds.{by_kind, InputKind, IsAbsent, kind_of}, Kept.asked_of}
use Rattle.commands.specs.{Runs.IsRunOf, SentText.{answer_fault, IsCommandText, SaysText}}
use Rattle.commands.specs.SingleOutput.{most_frames, one_command, Task, task_result}
use Rattle.commands.specs.declared.fault.EditFault.{EditFault}
use Rattle.commands.specs.declared.fault.EditFault.TheVariants.{EqualNames, Input, Memory}
use Rattle.commands.specs.declared.fault.EditFault.TheVariants.{Sent as NotSent}
use Rattle.drill.specs.Drilled.{IsDrillFault}
use Rattle.job_words.specs.{Request.Request, Words.job_of}
use Rattle.list_edits.specs.TextCommand.{input_text, IsTextRun, surveyed_text, text_command}
use Rattle.mp3_cli.proofs.{KeptRunLemmas.kept-accepts, LegalLemmas.legal-by}
use Rattle.mp3_cli.specs.Run.{AllOrNothing, command_fault_line, command_outcome, CommandAnswers}
use Rattle.mp3_cli.specs.Run.{CommandEnds, fault_status, GetsLine, IsLegalBy, IsLegalKept}
use Rattle.mp3_cli.specs.Run.{IsOutcome, job_outcome, kept_command_of, made_outcome, NoCallFailed}
use Rattle.mp3_cli.specs.Run.{outcome, OutputsAreMissing, world}
use Rattle.outside.{proofs.FilesLemmas.{sent_nothing, touches_none}, specs.Counts.Rose}
use Rattle.outside.specs.Files.{Contents, Files, IfTold, is_told, OnlyTouches, Sent, sent_and_more}
use Rattle.outside.specs.{Files.{Told, Untold}, Seen.{Heard, Seen}}
use Rattle.program_texts.specs.Texts.{bad_word_line, cause_status, fixed_text_command, GotLine}
use Rattle.program_texts.specs.Texts.{GotPrefix, GotWhole}
use Rattle.split_edits.{proofs.PartsLemmas.split-parts, specs.Cutting.{Cutting, split_command}}
use Rattle.sync_survey.specs.{Faults.SurveyFields, Survey.survey_of}
use Rattle.sync_survey.specs.declared.survey_fault.SurveyFault.{SurveyFault}

-- ---- statuses

by_status : (why : Why) → (1 ≤ cause_status why) × (cause_status why ≤ 4) × (cause_status why ≢ 2)
by_status Rejected = (omega arith, omega arith, λ e. absurd (omega (arith, e)))
by_status _ = (omega arith, omega arith, λ e. absurd (omega (arith, e)))

-- ---- a failed write to standard output

input_sent : (kind : InputKind) → by_kind (record {
  absent = Missing;
  unread = Unread;
  shorter = Shorter;
  too_much = NoMemory;
  refused = Rejected;
}) kind ≡ Unsent → ⊥
input_sent IsAbsent e = absurd cc
input_sent _ e = absurd cc

-- the only fault after which standard output may have got something
module _ (command : Command) (files : Files) (old new : Heard) where
  -- if there is this fault, a failed write was counted
  pub sent_rose : (fault : EditFault) → why_of fault ≡ Unsent
      → SaysText command files old new (Some fault) → Rose old.faults new.faults
  sent_rose (Input place fault) is says = absurd (input_sent (kind_of fault) is)
  sent_rose NotSent is says = says.rose
  sent_rose _ is says = absurd cc

  -- with any other fault nothing was sent
  pub sent_none : (fault : EditFault) → (why_of fault ≡ Unsent → ⊥)
      → SaysText command files old new (Some fault) → new ≡ old
  sent_none NotSent other says = absurd (other refl)
  sent_none _ other says = says

-- ---- no line

-- where nothing was sent, no line was sent
pub sent_no_line : (sent : Sent) (faults : ℕ) → GotLine sent sent faults faults []
sent_no_line sent faults = grind (arith, sent_nothing)

got_nothing : {old new : Heard} → GetsLine old new [] → new.sent ≡ old.sent
got_nothing {old} {new} line = at line.got
  where
    at : GotWhole old.sent new.sent old.faults new.faults []
        ⊎ GotPrefix old.sent new.sent old.faults new.faults [] → new.sent ≡ old.sent
    at (inl whole) = whole.sent ∙ sent_nothing old.sent
    at (inr part) =
        part.sent ∙ ap (sent_and_more old.sent) (take-nil part.count) ∙ sent_nothing old.sent

-- ---- of one command

module _ {command : Command} {old new : Seen} {out_old out_new err_old err_new : Heard} {status : ℕ}
    (all : CommandAnswers command (world old out_old err_old)
    (world new out_new err_new) status) where
  -- what follows if the command succeeded, and what follows if it ended with a fault of this kind
  by_case : {P : Type 0} → (status ≡ 0 → all.fault ≡ None → P)
      → ((fault : EditFault) (why : Why) → all.fault ≡ Some fault → status ≡ cause_status why
      → why_of fault ≡ why → by_why (left_cases command old new fault) why → P) → P
  by_case {P} done failed = at all.fault refl all.status_is all.ends.left
    where
      at : (o : Option EditFault) → all.fault ≡ o → status ≡ fault_status o
          → IfSome o (IsCommandFault command old new) → P
      at None e is left = done is e
      at (Some fault) e is left = failed fault (why_of fault) e is refl left

  -- no name but the names of its outputs was touched
  pub touched : OnlyTouches command.outputs old.files new.files
  touched = by_case (λ is e. (all.ends.done e).touches) (λ fault why e is w left. left_touched
      command old new fault (subst (by_why (left_cases command old new fault)) (sym w) left))

  done_at : status ≡ 0 → all.fault ≡ None
  done_at zero_is = grind (arith, by_case, by_status)

  -- with status 0 the command was done
  pub is_done : status ≡ 0 → IsCommandDone command old new
  is_done zero_is = all.ends.done (done_at zero_is)

  line_here : {o : Option EditFault} → all.fault ≡ o
      → GetsLine err_old err_new (command_fault_line command o)
  line_here {o} e = subst (λ o. GetsLine err_old err_new (command_fault_line command o)) e all.line

  -- with status 0 standard error got nothing
  pub quiet : status ≡ 0 → err_new.sent ≡ err_old.sent
  quiet zero_is = got_nothing (line_here (done_at zero_is))

  -- what standard output got
  says_here : {o : Option EditFault} → all.fault ≡ o → SaysText command old.files out_old out_new o
  says_here e = subst (SaysText command old.files out_old out_new) e all.ends.says

  nothing_by : {fault : EditFault} {why : Why} → all.fault ≡ Some fault → status ≡ cause_status why
      → status ≢ 3 → why_of fault ≡ why → out_new ≡ out_old
  nothing_by e is other w = grind (arith, sent_none, says_here)

  -- ---- by its status

  -- no status is above 4
  pub at_most : status ≤ 4
  at_most = grind (arith, by_case, by_status)

  -- no command ends with status 2
  pub not_two : status ≢ 2
  not_two two = grind (arith, by_case, by_status)

  -- a refusal and running out of memory leave all as it was
  stays_by : (fault : EditFault) (why : Why) → status ≡ cause_status why → status ≢ 3
      → by_why (left_cases command old new fault) why → new ≡ old
  stays_by fault Rejected is other left = left.stays
  stays_by fault NoMemory is other left = left.stays
  stays_by fault _ is other left = absurd (other is)

  -- other statuses than 0 and 3 leave the files
  pub kept : status ≢ 0 → status ≢ 3 → new.files ≡ old.files
  kept some other = grind (arith, by_case, stays_by)

  -- other statuses than 3 leave the counts
  pub counts_kept : status ≢ 3 → new.counts ≡ old.counts
  counts_kept other = grind (arith, by_case, stays_by)

  -- other statuses than 0 and 3 leave standard output
  pub silent : status ≢ 0 → status ≢ 3 → out_new.sent ≡ out_old.sent
  silent some other = grind (arith, by_case, nothing_by)

  -- with status 0 a text that a command always sends was sent
  pub says_always : status ≡ 0
      → IfSome command.always (λ text. out_new.sent ≡ sent_and_more out_old.sent text)
  says_always zero_is = at command.always refl
    where
      at : (o : Option (List ℕ)) → command.always ≡ o
          → IfSome o (λ text. out_new.sent ≡ sent_and_more out_old.sent text)
      at None e = tt
      at (Some text) e = (says_here (done_at zero_is)).text text (inl e)

  -- ---- over a folder whose contents are known
  module _ {f : Contents} (told : old.files ≡ Told f) where
    gives : {r : Result Made EditFault} → HasAnswer command old.files r → command.makes f ≡ r
    gives {r} h = subst (λ files. HasAnswer command files r) told h

    made_here : all.fault ≡ None → (made : Made) × (command.makes f ≡ Ok made)
        × (new.files ≡ Told (written_files made.outputs f))
    made_here e = grind arith

    abbrev IsAsDefinedBy : Result Made EditFault → Type 0
    IsAsDefinedBy r = IsOutcome (made_outcome command f r) (world old out_old err_old)
        (world new out_new err_new) status

    -- with status 0, 1 or 2 all is as defined
    refused_here : {fault : EditFault} → all.fault ≡ Some fault → status ≡ 1 → why_of fault
        ≡ Rejected → IsCommandRefused command old new fault → IsAsDefinedBy (command.makes f)
    refused_here {fault} e is w left =
        subst IsAsDefinedBy (sym (gives left.defined))
        (record {
          status_is = is ∙ sym (ap cause_status w);
          files_are = ap (λ (s : Seen). s.files) left.stays ∙ told;
          text_is = ap (λ (h : Heard). h.sent) (nothing_by e is
              (λ three. absurd (omega (arith, is, three))) w) ∙ sym (sent_nothing out_old.sent);
          line_is = line_here e;
        })

    failed_here : {fault : EditFault} (why : Why) → all.fault ≡ Some fault
        → status ≡ cause_status why → status ≤ 2 → why_of fault ≡ why
        → by_why (left_cases command old new fault) why → IsAsDefinedBy (command.makes f)
    failed_here {fault} Rejected e is low w left = refused_here e is w left
    failed_here _ e is low w left = absurd (omega (arith, is, low))

    -- up to status 2 the outcome is what the definition says
    pub as_defined : status ≤ 2 → IsOutcome (command_outcome command f) (world old out_old err_old)
        (world new out_new err_new) status
    as_defined low =
        by_case
        (λ is e.
        let made = made_here e in
        subst IsAsDefinedBy (sym made.1)
        (record {
          status_is = is;
          files_are = made.2;
          text_is = (says_here e).text made.0.text (inr (f, made.0, told, made.1, refl));
          line_is = line_here e;
        }))
        (λ fault why e is w left. failed_here why e is low w left)

    -- where no call of the folder and no write to standard output failed, and memory didn't run
    -- out, the command succeeds exactly where it isn't refused
    not_made : {made : Made} {fault : EditFault} → command.makes f ≡ Ok made
        → command.makes f ≡ Err fault → ⊥
    not_made ok err = cc

    told_twice : is_told old.files ≡ false → ⊥
    told_twice e = grind arith

    not_failed : {made : Made} {fault : EditFault} (why : Why) → command.makes f ≡ Ok made
        → NoCallFailed (world old out_old err_old) (world new out_new err_new) → status ≢ 4
        → all.fault ≡ Some fault → why_of fault ≡ why → status ≡ cause_status why
        → by_why (left_cases command old new fault) why → ⊥
    not_failed Unread ok calls found e w is left = calls.0 left.rose.0
    not_failed Shorter ok calls found e w is left = told_twice left.ended.untold
    not_failed (Unwritten k) ok calls found e w is left = calls.1 left.rose.0
    not_failed NoMemory ok calls found e w is left = found is
    not_failed {fault = fault} Unsent ok calls found e w is left =
        calls.2 (sent_rose command old.files out_old out_new fault w (says_here e))
    not_failed _ ok calls found e w is left = grind (arith, not_made, gives)

    -- where the command succeeded, the files are those from before and all that it makes
    pub files_where_done : status ≡ 0 → (made : Made) × (command.makes f ≡ Ok made)
        × (new.files ≡ Told (written_files made.outputs f))
    files_where_done zero_is = made_here (done_at zero_is)

    -- with status 0 the command makes something
    pub made_where_done : status ≡ 0 → (made : Made) × (command.makes f ≡ Ok made)
    made_where_done zero_is = let made = files_where_done zero_is in (made.0, made.1)

    -- where no call failed and memory didn't run out, a
    -- command that makes something ends with status 0
    pub done_where_made : NoCallFailed (world old out_old err_old) (world new out_new err_new)
        → status ≢ 4 → (made : Made) × (command.makes f ≡ Ok made) → status ≡ 0
    done_where_made calls found made = by_case (λ zero_is e. zero_is)
        (λ fault why e is w left. absurd (not_failed why made.1 calls found e w is left))

-- ---- of words

contents-same : {f g : Contents} → Told f ≡ Told g → f ≡ g
contents-same e = cc

-- what follows where the folder's contents are known
pub if_told : (files : Files) {P : Contents → Type 0} → ((f : Contents) → files ≡ Told f → P f)
    → IfTold files P
if_told (Untold names) each = tt
if_told (Told f) each = each f refl

outcome-words : (keeps : Bool) (words : List (List ℕ)) (f : Contents) {r : Result Request ℕ}
    → job_of words ≡ r → outcome keeps words f ≡ job_outcome keeps f r
unfolding outcome
outcome-words keeps words f is = ap (job_outcome keeps f) is

-- for a bad word, the outcome is what the definition says
pub bad_word_defined : (keeps : Bool) (words : List (List ℕ)) (old : Seen) {place : ℕ}
    (out : Heard) {err_old err_new : Heard} → job_of words ≡ Err place
    → GetsLine err_old err_new (bad_word_line place) → IfTold old.files
    (λ f. IsOutcome (outcome keeps words f) (world old out err_old) (world old out err_new) 2)
bad_word_defined keeps words old {place} out
    {err_old} {err_new} is line =
    if_told old.files (λ f told.
    subst (λ o. IsOutcome o (world old out err_old) (world old out err_new) 2)
    (sym (outcome-words keeps words f is))
    (record {
      status_is = refl;
      files_are = told;
      text_is = sym (sent_nothing out.sent);
      line_is = line;
    }))

module _ (keeps : Bool) (words : List (List ℕ)) {asked : Request} (is : job_of words ≡ Ok asked)
    {old new : Seen} {out_old out_new err_old err_new : Heard} {status : ℕ}
    (all : CommandAnswers (kept_command_of keeps asked) (world old out_old err_old)
    (world new out_new err_new) status) where
  -- up to status 2 the outcome is what the definition says
  pub is_defined : status ≤ 2 → IfTold old.files (λ f. IsOutcome (outcome keeps words f)
      (world old out_old err_old) (world new out_new err_new) status)
  is_defined low =
      if_told old.files (λ f told.
      subst (λ o. IsOutcome o (world old out_old err_old) (world new out_new err_new) status)
      (sym (outcome-words keeps words f is))
      (as_defined all told low))

  -- where no call failed and memory didn't run out, status 0 comes exactly if words and files are
  -- legal, and no output is there where what is there is kept
  pub is_accepted : {f : Contents} → old.files ≡ Told f
      → NoCallFailed (world old out_old err_old) (world new out_new err_new) → status ≢ 4
      → (status ≡ 0) ↔ IsLegalKept keeps words f
  is_accepted {f} told calls found =
      let law = legal-by (Ok asked) f in
      let command = command_of asked in
      let takes = kept-accepts keeps command f in (
        (λ zero_is.
            let kept = takes.1 (made_where_done all told zero_is) in record {
              legal = subst (IsLegalBy f) (sym is) (law.1 kept.0);
              missing = λ keep. subst (OutputsAreMissing f) (sym is) (kept.1 keep);
            }),
        (λ legal. done_where_made all told calls found (takes.0 (
          law.0 (subst (IsLegalBy f) is legal.legal),
          λ keep. subst (OutputsAreMissing f) is (legal.missing keep),
        ))),
      )

  -- ---- where what is there is kept

  -- either the command was done, and none of its outputs was there, or nothing was created
  pub all-or-nothing : {before : Contents} → old.files ≡ Told before → keeps ≡ true
      → {after : Contents} → new.files ≡ Told after
      → NoCallFailed (world old out_old err_old) (world new out_new err_new)
      → AllOrNothing words before after status
  all-or-nothing {before} told keep {after} now calls =
      by_case all
      (λ zero_is e.
      let made =
      made_where_done all told zero_is in
      let made-kept = (kept-accepts keeps (command_of asked) before).1 made in
      inl (zero_is, subst (OutputsAreMissing before) (sym is) (made-kept.1 keep)))
      (λ fault why e w reason left. nothing-by fault why e reason left)
    where
      same : new.files ≡ old.files → AllOrNothing words before after status
      same stays = inr (contents-same (sym now ∙ stays ∙ told))

      nothing-by : (fault : EditFault) (why : Why) → all.fault ≡ Some fault → why_of fault ≡ why
          → by_why (left_cases (kept_command_of keeps asked) old new fault) why
          → AllOrNothing words before after status
      nothing-by fault Rejected e reason left = same (ap (λ (s : Seen). s.files) left.stays)
      nothing-by fault Missing e reason left = same left.files
      nothing-by fault Unread e reason left = absurd (calls.0 left.rose.0)
      nothing-by fault Shorter e reason left = absurd (told_twice all told left.ended.untold)
      nothing-by fault (Unwritten k) e reason left = absurd (calls.1 left.rose.0)
      nothing-by fault Unsent e reason left =
          absurd (calls.2 (sent_rose (kept_command_of keeps asked)
          old.files out_old out_new fault reason (says_here all e)))
      nothing-by fault NoMemory e reason left = same (ap (λ (s : Seen). s.files) left.stays)

-- ---- a command that makes no file

-- what such a command is where what is there is kept
module _ (keeps : Bool) (command : Command)
    (none : (f : Contents) (made : Made) → command.makes f ≡ Ok made → made.outputs ≡ []) where
  -- it ends in the same way
  pub asked_ends : {old new : Seen} {out_old out_new : Heard} {fault : Option EditFault}
      → CommandEnds command old new out_old out_new fault
      → CommandEnds (asked_of keeps command) old new out_old out_new fault
  asked_ends {old} {new} {out_old} {out_new} {fault} ends =
      at keeps
    where
      at : (keeps : Bool) → CommandEnds (asked_of keeps command) old new out_old out_new fault
      at false = ends
      at true = record {
        says = asked_says true command old.files out_old out_new fault ends.says;
        done = λ e. done-like command (as_kept command) (λ keep. refl) old new
            (none_like command none old.files) (ends.done e);
        left = left-where fault ends.left;
        numbers = numbers-where fault ends.numbers;
        names = ends.names;
      }
        where
          left-where : (fault : Option EditFault) → IfSome fault (IsCommandFault command old new)
              → IfSome fault (IsCommandFault (asked_of true command) old new)
          left-where None left = tt
          left-where (Some e) left = left-like command (as_kept command) (λ keep. refl) old new
              (none_like command none old.files) e left

          numbers-where : (fault : Option EditFault) → IfSome fault (HasNumbers command)
              → IfSome fault (HasNumbers (asked_of true command))
          numbers-where None numbers = tt
          numbers-where (Some e) numbers = kept_numbers command e numbers

  -- it holds the same streams
  pub asked_holds : (files : Files) → HoldsStreams command files
      → HoldsStreams (asked_of keeps command) files
  asked_holds files holds = at keeps
    where
      at : (keeps : Bool) → HoldsStreams (asked_of keeps command) files
      at false = holds
      at true = streams-like command (as_kept command) files (none_like command none files) holds

-- a command that sends a text of one file makes no file
pub text_makes-none : (text : List ℕ → SurveyFields → List ℕ) (input : List ℕ) (f : Contents)
    {made : Made} → (text_command text input).makes f ≡ Ok made → made.outputs ≡ []
text_makes-none text input f {made} is = of (f input) is
  where
    by : (file : List ℕ) (r : Result SurveyFields SurveyFault)
        → surveyed_text (text file) r ≡ Ok made → made.outputs ≡ []
    by file (Ok s) e = sym (ap (λ (m : Made). m.outputs) (made-same e))
    by file (Err fault) e = absurd cc

    of : (o : Option (List ℕ)) → input_text text o ≡ Ok made → made.outputs ≡ []
    of None e = absurd cc
    of (Some file) e = by file (survey_of file most_frames) e

-- a command that only sends a text makes no file
pub fixed_makes-none : {text : List ℕ} (f : Contents) {made : Made}
    → (fixed_text_command text).makes f ≡ Ok made → made.outputs ≡ []
fixed_makes-none f {made} is = sym (ap (λ (m : Made). m.outputs) (made-same is))

-- a command that only sends a text holds no stream
pub fixed_streams : {T E : Type 0} (keeps : Bool) (text : List ℕ) (files : Files) (r : Result T E)
    → OnOk r (HoldsStreams (asked_of keeps (fixed_text_command text)) files)
fixed_streams keeps text files (Err fault) = tt
fixed_streams keeps text files (Ok x) = asked_holds keeps (fixed_text_command text)
    (fixed_makes-none) files (at files)
  where
    at : (files : Files) → HoldsStreams (fixed_text_command text) files
    at (Untold t) = tt
    at (Told f) = λ made is. record {
      sources = tt;
      streams = subst (λ (outputs : List Output). AreStreams outputs [])
          (sym (fixed_makes-none f is)) tt;
    }

-- ---- a command without a text

-- a command that has no text, whatever the files are
pub record IsSilent (command : Command) : Type 0 where
  pub always : command.always ≡ Some []
  pub silent : (f : Contents) (made : Made) → command.makes f ≡ Ok made → made.text ≡ []

module _ {command : Command} (no_text : IsSilent command) (files : Files) (out : Heard) where
  text_is : {text : List ℕ} → IsCommandText command files text → text ≡ []
  text_is {text} (inl always) = same_Some text [] (sym always ∙ no_text.always)
  text_is (inr told) = sym told.4 ∙ no_text.silent told.0 told.1 told.3

  -- such a command sends nothing, whatever fault it ends with
  says_nothing : {T : Type 0} (r : Result T EditFault) → IfErr r (HasNumbers command)
      → SaysText command files out out (answer_fault r)
  says_nothing (Ok x) numbers = grind (arith, text_is, sent_nothing)
  says_nothing (Err NotSent) numbers = absurd (numbers no_text.always)
  says_nothing (Err _) numbers = refl

-- a command without a text has none where what is there is kept
pub asked_silent : (keeps : Bool) {command : Command} → IsSilent command
    → IsSilent (asked_of keeps command)
asked_silent false silent = silent
asked_silent true {command} silent = record {
  always = silent.always;
  silent = λ f made is. silent.silent f made (unless-ok f (command.makes f) is);
}

-- how a command ends, from what it promises
pub told_ends : {T : Type 0} {command : Command} (r : Result T EditFault) {old new : Seen}
    {out_old out_new : Heard} → OnOk r (IsCommandDone command old new)
    → IfErr r (IsCommandFault command old new)
    → SaysText command old.files out_old out_new (answer_fault r) → IfErr r (HasNumbers command)
    → ((place : ℕ) → IsErrOf r (EqualNames place) ↔ (clash_of command ≡ Some place))
    → CommandEnds command old new out_old out_new (answer_fault r)
told_ends (Ok x) done left says numbers names =
    record {
      says = says;
      done = λ e. done;
      left = tt;
      numbers = tt;
      names =
          λ place clash. ap answer_fault ((names place).1 clash);
    }
told_ends (Err fault) done left says numbers names =
    record {
      says = says;
      done = λ e. absurd cc;
      left = left;
      numbers = numbers;
      names =
          λ place clash. ap answer_fault ((names place).1 clash);
    }

-- how a command without a text ends, from what it promises
pub silent_ends : {T : Type 0} {command : Command} → IsSilent command → {r : Result T EditFault}
    {old new : Seen} (out : Heard) → OnOk r (IsCommandDone command old new)
    → IfErr r (IsCommandFault command old new) → IfErr r (HasNumbers command)
    → ((place : ℕ) → IsErrOf r (EqualNames place) ↔ (clash_of command ≡ Some place))
    → CommandEnds command old new out out (answer_fault r)
silent_ends {command = command} no_text
    {r} {old} {new} out done left numbers names =
    told_ends r done left (says_nothing no_text old.files out r numbers) numbers names

-- ---- a command that sends a text of one file

-- what each call of such a command promises; no name is an output's, since there are no outputs
pub text_ends : (text : List ℕ → SurveyFields → List ℕ) {input : List ℕ}
    (r : Result (Unit {0}) EditFault) {old new : Seen} {out_old out_new : Heard}
    → IsTextRun (text_command text input) old new out_old out_new r
    → CommandEnds (text_command text input) old new out_old out_new (answer_fault r)
text_ends text (Ok x) run = grind arith
text_ends text (Err fault) run = grind arith

-- ---- a command that makes one file

-- what each call of a command that makes files promises
pub run_ends : {command : Command} → IsSilent command
    → {r : Result (Unit {0}) EditFault} {old new : Seen} (out : Heard) → IsRunOf command old new r
    → CommandEnds command old new out out (answer_fault r)
run_ends {command} no_text {r} {old} {new} out run =
    silent_ends no_text out run.done run.left run.numbers run.names

-- a command that makes one file sends nothing
pub one_silent : (task : Task) (output : List ℕ) → IsSilent (one_command task output)
one_silent task output = record {
  always = refl;
  silent = λ f made is.
      sym (ap (λ (made : Made). made.text) (one_made (task_result task output f) is).1);
}

-- ---- a command that splits a file

-- a split sends nothing
pub split_silent : {P : Type 0} (cut : Cutting P) (prefix input : List ℕ)
    → IsSilent (split_command cut input prefix)
split_silent cut prefix input = record {
  always = refl;
  silent = λ f made is.
      sym (ap (λ (made : Made). made.text) (split-parts cut f prefix input is).1.1);
}

-- ---- a command that only sends a text

module _ {text : List ℕ} (some : Some text ≢ Some []) (now : Seen) where
  text_made : IfTold now.files (λ f. (made : Made) × ((fixed_text_command text).makes f ≡ Ok made)
      × (now.files ≡ Told (written_files made.outputs f)))
  text_made = if_told now.files (λ f told. (record { outputs = []; text = text }, refl, told))

  said_left : (fault : EditFault) → IsDrillFault fault
      → IsCommandFault (fixed_text_command text) now now fault
      × HasNumbers (fixed_text_command text) fault
  said_left NotSent is = grind (arith, text_made, touches_none)
  said_left Memory is = grind (arith, if_told)
  said_left _ is = absurd is

  -- a command that only sends a text ends as its fault says
  pub said_ends : {T : Type 0} (r : Result T EditFault) {out_old out_new : Heard}
      → SaysText (fixed_text_command text) now.files out_old out_new (answer_fault r)
      → IfErr r IsDrillFault
      → CommandEnds (fixed_text_command text) now now out_old out_new (answer_fault r)
  said_ends (Ok x) says is = grind (arith, text_made, touches_none)
  said_ends (Err fault) says is = grind (arith, said_left)

-- a failed write to standard output is one of the faults of a drill
pub sent_alone : {T : Type 0} (r : Result T EditFault) → IfErr r (λ fault. fault ≡ NotSent)
    → IfErr r IsDrillFault
sent_alone (Ok x) is = tt
sent_alone (Err fault) is = subst IsDrillFault (sym is) tt

-- with status 0 the command was done
pub done_where_zero : {T P : Type 0} (r : Result T EditFault) → fault_status (answer_fault r) ≡ 0
    → OnOk r P → P
done_where_zero (Ok x) zero_is p = p
done_where_zero (Err fault) zero_is p = grind (arith, by_status)
