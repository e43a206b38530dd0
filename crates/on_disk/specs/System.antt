-- How files are opened.
use Rattle.std.specs.{Fs.new_options, Prelude.true, declared.fs.OpenOptions.OpenOptions}
use Rattle.on_disk.specs.declared.system.Purpose.{Purpose}
use Rattle.on_disk.specs.declared.system.Purpose.TheVariants.{Appending, Creating, Making, Reading}

-- how a file is opened: each write goes to its end, opening it empties nothing, and only a file
-- that is to be created or made is made; to make one fails where anything has its name
abbrev pub options_for : Purpose → OpenOptions
options_for Reading = record new_options { read = true }
options_for Creating = record new_options { append = true; create = true }
options_for Making = record new_options { append = true; create_new = true }
options_for Appending = record new_options { append = true }
