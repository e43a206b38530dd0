-- What a session shows, and what its calls make of it.
use Rattle.std.specs.{BTreeMap.get_by_text, Map.update}
use Rattle.std.specs.Prelude.{bytes_eq, List, map, None, option_map, Some, string_bytes, ℕ, []}
use Rattle.std.specs.Prelude.{◌++◌, ◌∷◌}
use Rattle.mp3_cli.specs.Run.{World, world}
use Rattle.outside.specs.{Counts.{Counts, no_counts}, Files.{Contents, Told, with_file}}
use Rattle.outside.specs.Seen.{Heard, heard_sink, Seen, seen_folder}
use Rattle.session.specs.declared.{folder.GrowingFolder.GrowingFolder, held.Session.Session}
use Rattle.session.specs.declared.sink.GrowingSink.{GrowingSink}

-- ---- a folder and a sink

-- the files of a folder
abbrev pub grown_files : GrowingFolder → Contents
grown_files folder = λ name. option_map (λ content. content.items) (get_by_text folder.by_name name)

-- the counts of a folder
abbrev pub grown_counts : GrowingFolder → Counts
grown_counts folder = folder.tally

-- what is seen of a folder: its files are told
abbrev pub grown_seen : GrowingFolder → Seen
grown_seen folder = seen_folder (Told (grown_files folder)) (grown_counts folder)

-- the same files, but the name isn't there
unfoldable pub without_file : Contents → List ℕ → Contents
without_file files name = update bytes_eq files name None

-- the bytes that a sink got, and how often a write failed
pub record Text : Type 0 where
  pub bytes : List ℕ
  pub faults : ℕ

-- no bytes, and no fault
abbrev pub no_text : Text
no_text = record { bytes = []; faults = 0 }

-- the text of a sink
abbrev pub grown_text : GrowingSink → Text
grown_text sink = record { bytes = sink.bytes.items; faults = sink.faults }

-- the same count of faults, without the bytes
abbrev pub with_no_bytes : Text → Text
with_no_bytes text = record text { bytes = [] }

-- what is heard of a sink with this text: its bytes are told
abbrev pub text_heard : Text → Heard
text_heard text = heard_sink (Some text.bytes) text.faults

-- what is heard of a sink
abbrev pub grown_heard : GrowingSink → Heard
grown_heard sink = text_heard (grown_text sink)

-- ---- a session

-- What a session shows: its files, the counts of its folder, what the last command sent to
-- standard output and to standard error, and the words so far.
pub record Shown : Type 0 where
  pub files : Contents
  pub counts : Counts
  pub text : Text
  pub line : Text
  pub words : List (List ℕ)

-- an empty session: no files, no sent bytes, all counts 0, no words
abbrev pub empty_session : Shown
empty_session = record {
  files = λ _. None;
  counts = no_counts;
  text = no_text;
  line = no_text;
  words = [];
}

-- what this session shows
abbrev pub shown : Session → Shown
shown session = record {
  files = grown_files session.folder;
  counts = grown_counts session.folder;
  text = grown_text session.text;
  line = grown_text session.line;
  words = map string_bytes session.words.items;
}

-- the world of a session: a folder whose files are told, and two sinks whose bytes are told
abbrev pub world_of : Shown → World
world_of s = world (seen_folder (Told s.files) s.counts) (text_heard s.text) (text_heard s.line)

-- the name's file is these bytes
abbrev pub with_bytes : List ℕ → List ℕ → Shown → Shown
with_bytes name bytes s = record s { files = with_file s.files name bytes }

-- the name isn't there
abbrev pub without_name : List ℕ → Shown → Shown
without_name name s = record s { files = without_file s.files name }

-- one more word, at the end
abbrev pub with_word : List ℕ → Shown → Shown
with_word word s = record s { words = s.words ++ word ∷ [] }

-- the sinks hold no bytes
abbrev pub with_empty_sinks : Shown → Shown
with_empty_sinks s = record s { text = with_no_bytes s.text; line = with_no_bytes s.line }
