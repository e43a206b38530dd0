-- What holds of packing, whatever the code: with the slots of some bit rates, and in the fewest
-- bytes.
use Rattle.std.specs.Prelude.{Err, length, List, Ok, Some, ℕ, ◌≡◌, ◌≤◌}
use Rattle.commands.specs.SingleOutput.{made_file, task_result}
use Rattle.commands.specs.declared.fault.{EditFault.TheVariants.Refused, Refusal.TheVariants.Unfit}
use Rattle.cut_edits.specs.Chosen.{all_choice, laying_making}
use Rattle.outside.specs.Files.{Contents}
use Rattle.pack_edits.specs.{Fewest.IsFewestBytes, Modes.{mode_planning, pack_task}}
use Rattle.requests.specs.declared.mode.PackMode.TheVariants.{Best, Floor, Least}

-- if all bit rates from one on are allowed, no file is refused with `Unfit`
abbrev pub FloorsFit : Type 0
FloorsFit =
    (rate i : ℕ) (file : List ℕ)
    → made_file (laying_making all_choice (mode_planning (Floor rate))) file
    ≡ Err (Refused (Unfit i)) → ⊥

-- If `pack --best` writes a file, `pack` writes one for the same input, and the file of `pack
-- --best` is at most as long.
abbrev pub NeverLonger : Type 0
NeverLonger =
    (input output : List ℕ) (files : Contents) (best : List ℕ)
    → task_result (pack_task Best input) output files ≡ Ok best
    → (plain : List ℕ) × (task_result (pack_task Least input) output files ≡ Ok plain)
    × (length best ≤ length plain)

-- What `pack --best` writes has the fewest bytes of all files of the frames of its input, in any
-- slots with room for their main data.
abbrev pub FewestBytes : Type 0
FewestBytes =
    (input output : List ℕ) (files : Contents) (best : List ℕ)
    → task_result (pack_task Best input) output files ≡ Ok best
    → (file : List ℕ) × (files input ≡ Some file) × IsFewestBytes file best
