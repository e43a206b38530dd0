-- What calls of parts return and leave.
use Rattle.std.specs.Prelude.{length, List, OnErr, OnOk, Result, Vec, vec_capacity, vec_len, []}
use Rattle.std.specs.Prelude.{◌++◌, ◌+◌, ◌∷◌, ◌≡◌}
use Rattle.laying.specs.Needs.{plan_input, PlanInput}
use Rattle.sync_survey.specs.Row.{Row}

-- A part was added, or memory ran out and nothing changed.
pub record PushPartAnswer {E : Type 0} (rows : List Row) (old new : PlanInput)
    (result : Result (Unit {0}) E) : Type 0 where
  pub added : (parts : List (List Row)) → old ≡ plan_input parts
      → OnOk result (new ≡ plan_input (parts ++ rows ∷ []))
  pub needs : OnOk result (length new.needs ≡ length old.needs + length rows)
  pub places : OnOk result (length new.places ≡ length old.places + 1)
  pub stays : OnErr result (new ≡ old)

-- One item was added, within the capacity that was there.
pub record IsItemPushed {X Z : Type 0} (old new : Vec X Z) (x : X) : Type 0 where
  pub pushed : new.items ≡ old.items ++ x ∷ []
  pub len : vec_len new ≡ vec_len old + 1
  pub capacity : vec_capacity new ≡ vec_capacity old
