-- The answers of a folder that keeps what is there are those of the folder inside.
use Rattle.std.proofs.Common.{ap, Bool, inl, inr, List, OnOk, refl, Result, take, ℕ, ◌∙◌, ◌∷◌, ◌≡◌}
use Rattle.std.{proofs.lemmas.Result.{IfOk-weaker, on_err_weaker, on_ok_weaker}, specs.Borrow.GName}
use Rattle.outside.specs.Answers.{CreateAnswer, FindAnswer, MakeAnswer, ReadAnswer, ThereAnswer}
use Rattle.outside.specs.Answers.{WriteAnswer}
use Rattle.outside.specs.Counts.{Counts, NothingFailed, OnlyReads, OnlyWrites}
use Rattle.outside.specs.Files.{Contents, FailsToCreate, FailsToMake, Files, Holds, IfTold}
use Rattle.outside.specs.Files.{IsFileMissing, IsFileThere, keeping_files, Told, Untold}
use Rattle.outside.specs.Files.{with_appended_bytes, with_empty_file, with_new_file}
use Rattle.outside.specs.{Files.{with_tried_create, with_tried_make}, Seen.{kept_seen, Seen}}
use Rattle.outside.specs.declared.folder.{Failed.Failed as FailedCall, FindFault.FindFault}

-- a name is there in the one where it is in the other
pub kept_there : (files : Files) (name : List ℕ) → IsFileThere (keeping_files files) name
    → IsFileThere files name
unfolding keeping_files
kept_there (Told f) name there = there
kept_there (Untold t) name there = tt

-- what holds where the contents are known holds of the same contents
kept_told : (files : Files) (P : Contents → Type 0) → IfTold files P
    → IfTold (keeping_files files) P
unfolding keeping_files
kept_told (Told f) P h = h
kept_told (Untold t) P h = tt

kept_on : (files : Files) (name : List ℕ) (P : List ℕ → Type 0)
    → ((bytes : List ℕ) → Holds files name bytes → P bytes)
    → (bytes : List ℕ) → Holds (keeping_files files) name bytes → P bytes
unfolding keeping_files
kept_on (Told f) name P h = h
kept_on (Untold t) name P h = λ bytes held. absurd held

kept_created : (files : Files) (name : List ℕ)
    → keeping_files (with_new_file files name) ≡ with_empty_file (keeping_files files) name
unfolding keeping_files with_new_file with_empty_file
kept_created (Told f) name = refl
kept_created (Untold t) name = refl

kept_made : (files : Files) (name : List ℕ)
    → keeping_files (with_new_file files name) ≡ with_new_file (keeping_files files) name
unfolding keeping_files with_new_file
kept_made (Told f) name = refl
kept_made (Untold t) name = refl

kept_tried : (files : Files) (name : List ℕ)
    → keeping_files (with_tried_make files name) ≡ with_tried_create (keeping_files files) name
unfolding keeping_files with_tried_make with_tried_create
kept_tried (Told f) name = refl
kept_tried (Untold t) name = refl

kept_tried-made : (files : Files) (name : List ℕ)
    → keeping_files (with_tried_make files name) ≡ with_tried_make (keeping_files files) name
unfolding keeping_files with_tried_make
kept_tried-made (Told f) name = refl
kept_tried-made (Untold t) name = refl

kept_appended : (files : Files) (name more : List ℕ)
    → keeping_files (with_appended_bytes files name more)
    ≡ with_appended_bytes (keeping_files files) name more
unfolding keeping_files with_appended_bytes
kept_appended (Told f) name more = refl
kept_appended (Untold t) name more = refl

fails_created : (name : List ℕ) {old new : Files} → FailsToMake name old new
    → FailsToCreate name (keeping_files old) (keeping_files new)
fails_created name (inl same) = inl (ap keeping_files same)
fails_created name {old} (inr tried) = inr (ap keeping_files tried ∙ kept_tried old name)

fails_made : (name : List ℕ) {old new : Files} → FailsToMake name old new
    → FailsToMake name (keeping_files old) (keeping_files new)
fails_made name (inl same) = inl (ap keeping_files same)
fails_made name {old} (inr tried) = inr (ap keeping_files tried ∙ kept_tried-made old name)

-- ---- the counts of a folder that is lent

module _ (by : GName) where
  abbrev lent_counts : Counts → Counts
  lent_counts c = record c { lent = by ∷ c.lent }

  module _ {old new : Counts} where
    reads_lent : OnlyReads old new → OnlyReads (lent_counts old) (lent_counts new)
    reads_lent h = record {
      misses = h.misses;
      ends = h.ends;
      read_faults = h.read_faults;
      write_faults = h.write_faults;
      lent = ap (λ names. by ∷ names) h.lent;
    }

    writes_lent : OnlyWrites old new → OnlyWrites (lent_counts old) (lent_counts new)
    writes_lent h = record {
      misses = h.misses;
      ends = h.ends;
      read_faults = h.read_faults;
      write_faults = h.write_faults;
      lent = ap (λ names. by ∷ names) h.lent;
    }

    nothing_lent : NothingFailed old new → NothingFailed (lent_counts old) (lent_counts new)
    nothing_lent h = record {
      misses = h.misses;
      read_faults = h.read_faults;
      write_faults = h.write_faults;
      lent = ap (λ names. by ∷ names) h.lent;
    }

  -- ---- the answers

  module _ {name : List ℕ} {old new : Seen} where
    -- what it finds
    pub kept_finds : {r : Result ℕ FindFault} → FindAnswer name old new r
        → FindAnswer name (kept_seen by old) (kept_seen by new) r
    kept_finds {r} a = record {
      found = IfOk-weaker r _ _ (λ n. kept_on old.files name _) a.found;
      there = on_ok_weaker r (kept_told old.files _) a.there;
      octets = on_ok_weaker r (kept_on old.files name _) a.octets;
      missing = λ absent. kept_told old.files _ (a.missing absent);
      absent = a.absent;
      failed = a.failed;
      files = ap keeping_files a.files;
      ends = a.ends;
      done = on_ok_weaker r (ap lent_counts) a.done;
      counts = reads_lent a.counts;
    }

    -- what it reads
    pub kept_reads : {at : ℕ} {before after : List ℕ} {r : Result ℕ FailedCall}
        → ReadAnswer name at before after old new r
        → ReadAnswer name at before after (kept_seen by old) (kept_seen by new) r
    kept_reads {r = r} a = record {
      bound = a.bound;
      bytes = IfOk-weaker r _ _ (λ k. kept_on old.files name _) a.bytes;
      rest = a.rest;
      end = IfOk-weaker r _ _ (λ k. kept_on old.files name _) a.end;
      within = IfOk-weaker r _ _ (λ k. kept_on old.files name _) a.within;
      ended = a.ended;
      failed = a.failed;
      files = ap keeping_files a.files;
      got = IfOk-weaker r _ _ (λ k h got. ap lent_counts (h got)) a.got;
      done = on_ok_weaker r nothing_lent a.done;
      counts = reads_lent a.counts;
    }

    -- what it says is there
    pub kept_asks : {r : Result Bool FailedCall} → ThereAnswer name old new r
        → ThereAnswer name (kept_seen by old) (kept_seen by new) r
    kept_asks {r} a = record {
      there = IfOk-weaker r _ _ (λ is. kept_told old.files _) a.there;
      failed = a.failed;
      files = ap keeping_files a.files;
      done = on_ok_weaker r (ap lent_counts) a.done;
      counts = writes_lent a.counts;
    }

    module _ {r : Result (Unit {0}) FailedCall} (a : MakeAnswer name old new r) where
      -- what it creates, which the other makes
      pub kept_creates : CreateAnswer name (kept_seen by old) (kept_seen by new) r
      kept_creates = record {
        created =
            on_ok_weaker r (λ is. ap keeping_files is ∙ kept_created old.files name) a.created;
        kept = on_err_weaker r (fails_created name) a.kept;
        failed = a.failed;
        done = on_ok_weaker r (ap lent_counts) a.done;
        counts = writes_lent a.counts;
      }

      -- what is created wasn't there
      pub kept_fresh : OnOk r (IsFileMissing (keeping_files old.files) name)
      kept_fresh = on_ok_weaker r (kept_told old.files _) a.missing

      -- what it makes
      pub kept_makes : MakeAnswer name (kept_seen by old) (kept_seen by new) r
      kept_makes = record {
        missing = kept_fresh;
        created = on_ok_weaker r (λ is. ap keeping_files is ∙ kept_made old.files name) a.created;
        kept = on_err_weaker r (fails_made name) a.kept;
        failed = a.failed;
        done = on_ok_weaker r (ap lent_counts) a.done;
        counts = writes_lent a.counts;
      }

    -- what it writes
    pub kept_writes : {bytes : List ℕ} {r : Result ℕ FailedCall} → WriteAnswer name bytes old new r
        → WriteAnswer name bytes (kept_seen by old) (kept_seen by new) r
    kept_writes {bytes} {r} a = record {
      bound = a.bound;
      some = a.some;
      written = IfOk-weaker r _ _
          (λ k is. ap keeping_files is ∙ kept_appended old.files name (take k bytes)) a.written;
      kept = on_err_weaker r (ap keeping_files) a.kept;
      failed = a.failed;
      done = on_ok_weaker r (ap lent_counts) a.done;
      counts = writes_lent a.counts;
    }
