-- What a folder and a sink in memory show.
use Rattle.std.specs.Map.{update}
use Rattle.std.specs.Prelude.{Bool, bytes_eq, Err, IfOk, if◌then◌else◌, is_err, is_some, IsErrOf}
use Rattle.std.specs.Prelude.{length, List, max, min, nat_lt, None, not, Ok, OnErr, OnOk, Option}
use Rattle.std.specs.Prelude.{Result, Some, unwrap_or, ℕ, [], ◌&&◌, ◌+◌, ◌-◌, ◌==◌, ◌||◌, ◌≡◌, ◌≢◌}
use Rattle.outside.specs.Counts.{Counts, one_more, with_end, with_miss, with_read_fault}
use Rattle.outside.specs.{Counts.with_write_fault, FileRooms.{contents_in, rooms_in}}
use Rattle.outside.specs.{Files.{Contents, Told}, Schedules.{is_next_to_fail, ScheduleFields}}
use Rattle.outside.specs.Seen.{Heard, heard_sink, Seen, seen_folder}
use Rattle.outside.specs.declared.folder.{Failed.Failed as FailedCall, FindFault.FindFault}
use Rattle.outside.specs.declared.folder.FindFault.TheVariants.{Absent, Failed}
use Rattle.outside.specs.declared.memory.folder.Call.{Call}
use Rattle.outside.specs.declared.memory.folder.Call.TheVariants.{Create, Find, Read, There, Write}
use Rattle.outside.specs.declared.memory.{folder.MemFolder.MemFolder, sink.MemSink.MemSink}

-- the files of a folder
abbrev pub contents_of : MemFolder → Contents
contents_of folder = contents_in folder.slots

-- the bytes of a name, or none if it isn't there
abbrev pub mem_bytes : MemFolder → List ℕ → List ℕ
mem_bytes folder name = unwrap_or (contents_of folder name) []

-- the room for each name that was put or reserved
abbrev pub rooms_of : MemFolder → List ℕ → Option ℕ
rooms_of folder = rooms_in folder.slots

-- the room for a name, or 0 if it has none
abbrev pub mem_room : MemFolder → List ℕ → ℕ
mem_room folder name = unwrap_or (rooms_of folder name) 0

-- the name's room is the greater of its old room and this
abbrev pub with_room : (List ℕ → Option ℕ) → List ℕ → ℕ → List ℕ → Option ℕ
with_room rooms name room = update bytes_eq rooms name (Some (max (unwrap_or (rooms name) 0) room))

-- the folder's counts
abbrev pub mem_counts : MemFolder → Counts
mem_counts folder = folder.tally

-- which calls of a kind are to fail
abbrev pub schedule_of : MemFolder → Call → ScheduleFields
schedule_of folder Find = folder.finds
schedule_of folder Read = folder.reads
schedule_of folder There = folder.theres
schedule_of folder Create = folder.creates
schedule_of folder Write = folder.writes

-- how many calls of a kind there were
abbrev pub calls_made : MemFolder → Call → ℕ
calls_made folder call = (schedule_of folder call).made

-- the numbers of the calls of a kind that are to fail
abbrev pub calls_to_fail : MemFolder → Call → List ℕ
calls_to_fail folder call = (schedule_of folder call).failing

-- the next call of a kind is on the list of those that are to fail
abbrev pub is_to_fail : MemFolder → Call → Bool
is_to_fail folder call = is_next_to_fail (schedule_of folder call)

-- one call of a kind was made, and the rooms and what is to fail are unchanged
pub record MakesCall (old new : MemFolder) (call : Call) : Type 0 where
  pub made : calls_made new call ≡ one_more (calls_made old call)
  pub others_made : (other : Call) → other ≢ call → calls_made new other ≡ calls_made old other
  pub failing : (kind : Call) → calls_to_fail new kind ≡ calls_to_fail old kind
  pub rooms : rooms_of new ≡ rooms_of old

-- no call was made, nothing was counted, and what is to fail is unchanged
pub record MakesNoCall (old new : MemFolder) : Type 0 where
  pub counts : mem_counts new ≡ mem_counts old
  pub made : (kind : Call) → calls_made new kind ≡ calls_made old kind
  pub failing : (kind : Call) → calls_to_fail new kind ≡ calls_to_fail old kind

-- what `find` returns
abbrev pub find_answer : MemFolder → List ℕ → Result ℕ FindFault
find_answer folder name =
    if is_to_fail folder Find then Err Failed else length_or_absent (contents_of folder name)
  where
    length_or_absent : Option (List ℕ) → Result ℕ FindFault
    length_or_absent None = Err Absent
    length_or_absent (Some bytes) = Ok (length bytes)

-- a `create` of this name fails
abbrev pub create_fails : MemFolder → List ℕ → Bool
create_fails folder name = is_to_fail folder Create || not (is_some (rooms_of folder name))

-- a `create_new` of this name fails
abbrev pub make_fails : MemFolder → List ℕ → Bool
make_fails folder name = create_fails folder name || is_some (contents_of folder name)

-- a `write` of these bytes to this name fails
abbrev pub write_fails : MemFolder → List ℕ → List ℕ → Bool
write_fails folder name bytes = is_to_fail folder Write
    || nat_lt (mem_room folder name) (length (mem_bytes folder name) + length bytes)

-- the bytes of a sink
abbrev pub bytes_sent : MemSink → List ℕ
bytes_sent sink = sink.buffer.bytes

-- how many bytes a sink has room for
abbrev pub sink_room : MemSink → ℕ
sink_room sink = sink.buffer.room

-- how many writes to the sink failed
abbrev pub sink_faults : MemSink → ℕ
sink_faults sink = sink.faults

-- how many writes were made
abbrev pub writes_made : MemSink → ℕ
writes_made sink = sink.writes.made

-- the numbers of the writes that are to fail
abbrev pub writes_to_fail : MemSink → List ℕ
writes_to_fail sink = sink.writes.failing

-- a `write` of these bytes to the sink fails
abbrev pub send_fails : MemSink → List ℕ → Bool
send_fails sink bytes =
    is_next_to_fail sink.writes || nat_lt (sink_room sink) (length (bytes_sent sink) + length bytes)

-- what is seen of a folder in memory
abbrev pub seen_of : MemFolder → Seen
seen_of folder = seen_folder (Told (contents_of folder)) (mem_counts folder)

-- what is seen of a sink in memory
abbrev pub sink_heard : MemSink → Heard
sink_heard sink = heard_sink (Some (bytes_sent sink)) (sink_faults sink)

-- A folder in memory finds what it has, or fails as scheduled; each is counted.
pub record MemFinds (name : List ℕ) (was now : MemFolder)
    (result : Result ℕ FindFault) : Type 0 where
  pub exact : result ≡ find_answer was name
  pub called : MakesCall was now Find
  pub absent_counts : IsErrOf result Absent → mem_counts now ≡ with_miss name (mem_counts was)
  pub failed_counts : IsErrOf result Failed → mem_counts now ≡ with_read_fault name (mem_counts was)

-- It returns all that is there and fits, or fails as scheduled; each is counted.
pub record MemReads (name : List ℕ) (at : ℕ) (before after : List ℕ) (was now : MemFolder)
    (result : Result ℕ FailedCall) : Type 0 where
  pub fails : is_err result ≡ is_to_fail was Read
  pub whole : IfOk result (λ k. k ≡ min (length before) (length (mem_bytes was name) - at))
  pub called : MakesCall was now Read
  pub kept : OnErr result (after ≡ before)
  pub read_counts : IfOk result (λ k. mem_counts now ≡ (if k == 0 && nat_lt 0 (length before)
      then with_end name at (mem_counts was) else mem_counts was))
  pub failed_counts : OnErr result (mem_counts now ≡ with_read_fault name (mem_counts was))

-- It says whether a name is there, or fails as scheduled.
pub record MemAsks (name : List ℕ) (was now : MemFolder)
    (result : Result Bool FailedCall) : Type 0 where
  pub fails : is_err result ≡ is_to_fail was There
  pub called : MakesCall was now There
  pub failed_counts : OnErr result (mem_counts now ≡ with_write_fault name (mem_counts was))

-- It makes a name hold no bytes if it has room for it, or fails as scheduled.
pub record MemCreates (name : List ℕ) (was now : MemFolder)
    (result : Result (Unit {0}) FailedCall) : Type 0 where
  pub stays : OnErr result (contents_of now ≡ contents_of was)
  pub fails : is_err result ≡ create_fails was name
  pub called : MakesCall was now Create
  pub failed_counts : OnErr result (mem_counts now ≡ with_write_fault name (mem_counts was))

-- It makes a name that isn't there hold no bytes if it has room for it, or fails as scheduled. It
-- counts as a `create`.
pub record MemMakes (name : List ℕ) (was now : MemFolder)
    (result : Result (Unit {0}) FailedCall) : Type 0 where
  pub stays : OnErr result (contents_of now ≡ contents_of was)
  pub fails : is_err result ≡ make_fails was name
  pub called : MakesCall was now Create
  pub failed_counts : OnErr result (mem_counts now ≡ with_write_fault name (mem_counts was))

-- It takes all the bytes if it has room for them, or fails as scheduled.
pub record MemWrites (name bytes : List ℕ) (was now : MemFolder)
    (result : Result ℕ FailedCall) : Type 0 where
  pub fails : is_err result ≡ write_fails was name bytes
  pub whole : IfOk result (λ k. k ≡ length bytes)
  pub called : MakesCall was now Write
  pub failed_counts : OnErr result (mem_counts now ≡ with_write_fault name (mem_counts was))

-- A sink in memory takes all the bytes if it has room for them, or fails as scheduled; each is
-- counted.
pub record MemSends (bytes : List ℕ) (was now : MemSink)
    (result : Result ℕ FailedCall) : Type 0 where
  pub fails : is_err result ≡ send_fails was bytes
  pub whole : IfOk result (λ k. k ≡ length bytes)
  pub room : sink_room now ≡ sink_room was
  pub made : writes_made now ≡ one_more (writes_made was)
  pub failing : writes_to_fail now ≡ writes_to_fail was
  pub written_faults : OnOk result (sink_faults now ≡ sink_faults was)
  pub failed_faults : OnErr result (sink_faults now ≡ one_more (sink_faults was))
