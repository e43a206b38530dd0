-- What a run is follows from how its command ends, or from a bad word.
use Rattle.std.proofs.Common.{ap, arith, Bool, Err, inr, List, lit≤, Ok, refl, subst, sym, ℕ, []}
use Rattle.std.{proofs.Common.{◌||◌, ◌∙◌, ◌≡◌}, specs.Prelude.{IfSome, IsErr, ◌↔◌}}
use Rattle.command_table.specs.Table.{command_of}
use Rattle.commands.proofs.KeptLemmas.{asked_done, asked_streams}
use Rattle.commands.specs.Command.{Command, HoldsStreams}
use Rattle.job_words.specs.{Request.{IsSoundRequest, Request}, Words.{job_of, keeps_of}}
use Rattle.mp3_cli.proofs.FewestLemmas.{fewest-bytes}
use Rattle.mp3_cli.proofs.KeptRunLemmas.{asked-always, asked-outputs, keeps-all, keeps-same}
use Rattle.mp3_cli.proofs.KeptRunLemmas.{only-new}
use Rattle.mp3_cli.proofs.RunLemmas.{all-or-nothing, at_most, bad_word_defined, counts_kept}
use Rattle.mp3_cli.proofs.RunLemmas.{is_accepted, is_defined, is_done, kept, not_two, quiet}
use Rattle.mp3_cli.proofs.{RunLemmas.{says_always, silent, touched}, WrittenLemmas.written-streams}
use Rattle.mp3_cli.specs.Run.{always_of, AnswersBadWord, AnswersWords, CommandAnswers, CommandEnds}
use Rattle.mp3_cli.specs.Run.{IsLegalBy, IsOutcome, kept_command_of, outcome, outputs_asked}
use Rattle.mp3_cli.specs.Run.{ProgramRun, RunOfWords, World, world, world_kept}
use Rattle.outside.{proofs.FilesLemmas.touches_none, specs.Counts.NoneFell}
use Rattle.outside.specs.Files.{Contents, IfTold, OnlyTouches, sent_and_more, Told}
use Rattle.outside.specs.Seen.{Heard, Seen}

told-same : {f g : Contents} → Told f ≡ Told g → f ≡ g
told-same e = cc

-- a run with the words of a command ends as the command does
module _ (keeps : Bool) (words : List (List ℕ)) {asked : Request} (is : job_of words ≡ Ok asked)
    {old new : World} {status : ℕ}
    (all : CommandAnswers (kept_command_of keeps asked) old new status) where
  abbrev command : Command
  command = kept_command_of keeps asked

  -- so it is a run of these words
  pub command_ran : IsSoundRequest asked → (status ≡ 0 → HoldsStreams command old.folder.files)
      → NoneFell old.folder.counts new.folder.counts → RunOfWords keeps words old new status
  command_ran sound streams fell =
      let folder = old.folder in
      let after = new.folder in
      let done = is_done all in
      record {
        statuses = at_most all;
        bad_word = subst (λ r. (status ≡ 2) ↔ IsErr r) (sym is) (
          (λ two. absurd
              (not_two all two)),
          (λ bad. absurd cc),
        );
        answers = subst (AnswersWords keeps old new status) (sym is) all;
        defined = is_defined keeps words is all;
        accepted = λ files told calls found. is_accepted keeps words is all told calls found;
        streams = λ zero_is. written-streams words is sound
            (asked_done (command_of asked) keeps (done zero_is))
            (asked_streams (command_of asked) keeps (done zero_is) (streams zero_is));
        fewest = λ zero_is. fewest-bytes words is
            (asked_done (command_of asked) keeps (done zero_is));
        touches = subst (λ r. OnlyTouches (outputs_asked r) folder.files after.files) (sym is)
            (subst (λ names. OnlyTouches names folder.files after.files)
            (asked-outputs keeps (command_of asked))
            (touched all));
        kept = kept all;
        failed = counts_kept all;
        quiet = quiet all;
        silent = silent all;
        text = λ zero_is.
            subst (λ r. IfSome (always_of r)
            (λ text. new.out.sent ≡ sent_and_more old.out.sent text)) (sym is)
            (subst (λ o. IfSome o (λ text. new.out.sent ≡ sent_and_more old.out.sent text))
            (asked-always keeps (command_of asked))
            (says_always all zero_is));
        counts = fell;
        keeps_all = λ keep. keeps-all (command_of asked) folder after all.fault
            (subst
            (λ k. CommandEnds (kept_command_of k asked) folder after old.out new.out all.fault)
            keep all.ends);
        all_or_nothing = λ keep before now told is_now calls.
            all-or-nothing keeps words is
            all told keep is_now calls;
      }

-- a run with a bad word ends as a bad word does
pub word_refused : (keeps : Bool) {words : List (List ℕ)} {place : ℕ} → job_of words ≡ Err place
    → {old new : World} → AnswersBadWord place old new 2
    → NoneFell old.folder.counts new.folder.counts → RunOfWords keeps words old new 2
word_refused keeps {words} {place} is {old} {new} all fell = record {
  statuses = lit≤ tt;
  bad_word = subst (λ r. (◌≡◌ {A = ℕ} 2 2) ↔ IsErr r) (sym is) ((λ two. refl), (λ bad. refl));
  answers = subst (AnswersWords keeps old new 2) (sym is) all;
  defined = λ low.
      subst
      (λ (f : Seen). IfTold old.folder.files (λ files. IsOutcome (outcome keeps words files) old
      (world f new.out new.err) 2)) (sym all.stays)
      (subst (λ (h : Heard). IfTold old.folder.files (λ files. IsOutcome (outcome keeps words files)
      old (world old.folder h new.err) 2)) (sym all.silent)
      (bad_word_defined keeps words old.folder old.out is all.line));
  accepted = λ files told calls found. (
    (λ zero_is. absurd (omega (arith, zero_is))),
    (λ legal. absurd (subst (IsLegalBy files) is legal.legal)),
  );
  streams = λ zero_is. absurd (omega (arith, zero_is));
  fewest = λ zero_is. absurd (omega (arith, zero_is));
  touches =
      subst (λ r. OnlyTouches (outputs_asked r) old.folder.files new.folder.files) (sym is)
      (subst (λ (f : Seen). OnlyTouches [] old.folder.files f.files) (sym all.stays)
      (touches_none [] old.folder.files));
  kept = λ some other. ap (λ (s : Seen). s.files) all.stays;
  failed = λ other. ap (λ (s : Seen). s.counts) all.stays;
  quiet = λ zero_is. absurd (omega (arith, zero_is));
  silent = λ some other. ap (λ (h : Heard). h.sent) all.silent;
  text = λ zero_is. absurd (omega (arith, zero_is));
  counts = fell;
  keeps_all = λ keep.
      keeps-same old.folder.files (ap (λ (s : Seen). s.files) all.stays);
  all_or_nothing = λ keep before after told is_now calls.
      inr (told-same
      (sym is_now ∙ ap (λ (s : Seen). s.files) all.stays ∙ told));
}

-- with `-n` no name is touched but by making a new file
pub program_ran : {keeping : Bool} {words : List (List ℕ)} {old new : World} {status : ℕ}
    → RunOfWords (keeping || keeps_of words) words (world_kept (keeps_of words) old)
    (world_kept (keeps_of words) new) status → ProgramRun keeping words old new status
program_ran {words = words} {old = old} {new = new} ran = record {
  run = ran;
  only_new = λ keep. only-new old.folder.files new.folder.files
      (subst (λ k. OnlyTouches (outputs_asked (job_of words)) (world_kept k old).folder.files
      (world_kept k new).folder.files) keep ran.touches);
}
