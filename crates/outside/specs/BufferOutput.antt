-- What a buffer for a file or a sink passed on to it.
use Rattle.std.specs.Prelude.{length, List, take, ℕ, ◌++◌, ◌<◌, ◌≡◌, ◌≤◌}
use Rattle.outside.specs.Files.{Files, Sent, sent_and_more, with_appended_bytes}

-- `before` waited, and now its end `after` waits; what precedes that end was appended
pub record AppendsWaiting (name before after : List ℕ) (old new : Files) : Type 0 where
  pub passed : List ℕ
  pub split : before ≡ passed ++ after
  pub files : new ≡ with_appended_bytes old name passed

-- a prefix was appended, and not all of the bytes: a write is asked for only while there are any
-- left
pub record AppendedPrefix (name bytes : List ℕ) (old new : Files) : Type 0 where
  pub count : ℕ
  pub short : count < length bytes
  pub files : new ≡ with_appended_bytes old name (take count bytes)

-- ---- the same for a buffer for a sink

-- `before` waited, and now its end `after` waits; what precedes that end was sent
pub record SendsWaiting (before after : List ℕ) (old new : Sent) : Type 0 where
  pub passed : List ℕ
  pub split : before ≡ passed ++ after
  pub sent : new ≡ sent_and_more old passed

-- a prefix was sent
pub record SentPrefix (bytes : List ℕ) (old new : Sent) : Type 0 where
  pub count : ℕ
  pub within : count ≤ length bytes
  pub sent : new ≡ sent_and_more old (take count bytes)
