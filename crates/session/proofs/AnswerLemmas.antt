-- What calls that make a name answer, by what they leave.
use Rattle.std.proofs.Common.{ap, arith, inl, List, ℕ, [], ◌≡◌}
use Rattle.std.specs.Prelude.{Err, None, Ok, OnErr, OnOk, Result}
use Rattle.outside.proofs.FilesLemmas.{emptied_is, new_is}
use Rattle.outside.specs.{Answers.{CreateAnswer, MakeAnswer}, Counts.{OnlyWrites, with_write_fault}}
use Rattle.outside.specs.{Files.{Told, with_file}, declared.folder.Failed.Failed}
use Rattle.session.specs.Shown.{grown_counts, grown_files, grown_seen}
use Rattle.session.specs.declared.folder.GrowingFolder.{GrowingFolder}

-- The name was made to hold no bytes, or memory was refused, which was counted.
pub record Empties (name : List ℕ) (old new : GrowingFolder)
    (result : Result (Unit {0}) Failed) : Type 0 where
  pub emptied : OnOk result (grown_files new ≡ with_file (grown_files old) name [])
  pub kept : OnErr result (grown_files new ≡ grown_files old)
  pub done : OnOk result (grown_counts new ≡ grown_counts old)
  pub counted : OnErr result (grown_counts new ≡ with_write_fault name (grown_counts old))
  pub counts : OnlyWrites (grown_counts old) (grown_counts new)

-- that is what `create` answers
pub creates : {name : List ℕ} (old new : GrowingFolder) (r : Result (Unit {0}) Failed)
    → Empties name old new r → CreateAnswer name (grown_seen old) (grown_seen new) r
creates {name} old new (Ok x) e = record {
  created = emptied_is (grown_files old) name e.emptied;
  kept = tt;
  failed = tt;
  done = e.done;
  counts = e.counts;
}
creates old new (Err fault) e = record {
  created = tt;
  kept = inl (ap Told e.kept);
  failed = grind arith;
  done = tt;
  counts = e.counts;
}

-- it is what `create_new` answers, if the name wasn't there
pub makes : {name : List ℕ} (old new : GrowingFolder) (r : Result (Unit {0}) Failed)
    → OnOk r (grown_files old name ≡ None) → Empties name old new r
    → MakeAnswer name (grown_seen old) (grown_seen new) r
makes {name} old new (Ok x) missing e = record {
  missing = missing;
  created = new_is (grown_files old) name e.emptied;
  kept = tt;
  failed = tt;
  done = e.done;
  counts = e.counts;
}
makes old new (Err fault) missing e = record {
  missing = tt;
  created = tt;
  kept = inl (ap Told e.kept);
  failed = grind arith;
  done = tt;
  counts = e.counts;
}
