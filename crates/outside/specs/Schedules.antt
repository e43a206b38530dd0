-- Which calls of a kind are to fail.
use Rattle.std.specs.{List.list_any, Prelude.{Bool, List, ℕ, ◌==◌}}
use Rattle.outside.specs.Counts.{one_more}

-- how many calls of a kind were made, and which are to fail
pub record ScheduleFields : Type 0 where
  -- the calls so far
  pub made : ℕ
  -- the numbers of the calls that are to fail, counted from 1
  pub failing : List ℕ

-- the next call is to fail
abbrev pub is_next_to_fail : ScheduleFields → Bool
is_next_to_fail plan = list_any (λ number. number == one_more plan.made) plan.failing

-- the schedule after one more call
abbrev pub schedule_after_call : ScheduleFields → ScheduleFields
schedule_after_call plan = record plan { made = one_more plan.made }
