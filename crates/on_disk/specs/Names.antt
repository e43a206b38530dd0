-- Which names a folder of real files may have touched.
use Rattle.std.specs.{BTreeSet.contains_text, Prelude.{Bool, false, true}}
use Rattle.on_disk.specs.declared.touched.TouchedNames.{TouchedNames as TouchedNames}
use Rattle.outside.specs.Files.{MayBeLost, NotTouched, OnlyMade, Touch, Touched}

-- how a name was touched, by whether it was to be created, and whether it was to be made
abbrev pub noted_touch : Bool → Bool → Touch
noted_touch true made = MayBeLost
noted_touch false true = OnlyMade
noted_touch false false = NotTouched

-- how each name was touched, by what was noted
abbrev pub touched_in : TouchedNames → Touched
touched_in touched =
    λ name. noted_touch (contains_text touched.created name) (contains_text touched.made name)

-- whether a name was touched at all
abbrev pub is_touched : Touch → Bool
is_touched NotTouched = false
is_touched touch = true
