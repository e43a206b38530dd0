-- Which files a folder noted, and what `create` does with a file that it opened.
use Rattle.std.specs.List.{list_any}
use Rattle.std.specs.Prelude.{Bool, false, if◌then◌else◌, nat_lt, true, ℕ, ◌&&◌, ◌==◌}
use Rattle.on_disk.specs.declared.noted.CreateAction.{CreateAction}
use Rattle.on_disk.specs.declared.noted.CreateAction.TheVariants.{Emptied, Kept, Refused}
use Rattle.on_disk.specs.declared.{noted.NotedFiles.NotedFiles, system.FileId.FileId}

-- the device and the inode number of a file
abbrev pub numbers_of : FileId → ℕ × ℕ
numbers_of file = (file.device, file.inode)

-- a file was noted, by whatever name: its device and its inode number were
abbrev pub is_noted : NotedFiles → FileId → Bool
is_noted noted file =
    list_any (λ found. found.0 == file.device && found.1 == file.inode) noted.files.items

-- what `create` does with a file: it is refused if the folder found it before; otherwise a regular
-- one with bytes is emptied, and all else is left as it is
abbrev pub create_action : Bool → Bool → ℕ → CreateAction
create_action true regular length = Refused
create_action false true length = if nat_lt 0 length then Emptied else Kept
create_action false false length = Kept
