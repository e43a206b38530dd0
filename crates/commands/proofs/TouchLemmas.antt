-- The names that a command touches, however it ends: only those of its outputs.
use Rattle.std.proofs.Common.{ap, inl, inr, take, ℕ, ◌+◌, ◌≡◌, ◌≢◌, ◌⊎◌}
use Rattle.std.proofs.lemmas.List.Elements.{All-take}
use Rattle.commands.proofs.WhyLemmas.{of_why}
use Rattle.commands.specs.AfterCall.{IsCommandFault, IsOutputUnasked, IsOutputUnfinished}
use Rattle.commands.specs.{AfterCall.{IsOutputUnwritten, IsWrittenTo, why_of}, Command.Command}
use Rattle.commands.specs.declared.fault.EditFault.{EditFault}
use Rattle.outside.proofs.FilesLemmas.{touches_more, touches_none}
use Rattle.outside.specs.{Files.{Files, OnlyTouches}, Seen.Seen}

module _ (command : Command) where
  stays_touched : (old new : Files) → new ≡ old → OnlyTouches command.outputs old new
  stays_touched old new same = rw same (touches_none command.outputs old)

  first_touched : (k : ℕ) {old new : Files} → OnlyTouches (take (k + 1) command.outputs) old new
      → OnlyTouches command.outputs old new
  first_touched k {old} {new} touches =
      touches_more
      (λ other apart. All-take (λ name. other ≢ name) (k + 1) command.outputs apart) touches

  module _ (old new : Seen) (fault : EditFault) where
    unread_touched : (new.files ≡ old.files) ⊎ ((k : ℕ) × IsWrittenTo command k old.files new.files)
        → OnlyTouches command.outputs old.files new.files
    unread_touched (inl same) = stays_touched old.files new.files same
    unread_touched (inr wrote) = first_touched wrote.0 wrote.1.touches

    unwritten_touched : (k : ℕ) → IsOutputUnwritten command k old new
        → OnlyTouches command.outputs old.files new.files
    unwritten_touched k w = at w.files
      where
        at : IsOutputUnfinished command k old.files new.files
            ⊎ IsOutputUnasked command k old.files new.files
            → OnlyTouches command.outputs old.files new.files
        at (inl part) = first_touched k part.touches
        at (inr none) = stays_touched old.files new.files none.stays

    -- a command that fails touches only its outputs
    pub left_touched : IsCommandFault command old new fault
        → OnlyTouches command.outputs old.files new.files
    left_touched h = of_why (why_of fault) h (record {
      rejected = λ l. stays_touched old.files new.files (ap (λ (s : Seen). s.files) l.stays);
      missing = λ l. stays_touched old.files new.files l.files;
      unread = λ l. unread_touched l.files;
      shorter = λ l. l.touches;
      unwritten = unwritten_touched;
      unsent = λ l. l.touches;
      no_memory = λ l. stays_touched old.files new.files (ap (λ (s : Seen). s.files) l.stays);
    })
