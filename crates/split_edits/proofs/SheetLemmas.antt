-- What the bytes of a sheet list.
use Rattle.std.proofs.{Common.{ap, arith, Err, List, map, ℕ, [], ◌∷◌, ◌≡◌}, lemmas.List.length-map}
use Rattle.std.{proofs.lemmas.List.Elements.{All-cons, All-head, All-nil, All-tail}, specs.List.All}
use Rattle.commands.{proofs.WhyLemmas.{each_refusal, each_why}, specs.Refusing.then_made}
use Rattle.commands.specs.Sheet.{HasSheetNumbers, IsSheetFault, sheet_read}
use Rattle.commands.specs.declared.fault.EditFault.{EditFault}
use Rattle.cue_sheet.specs.{Cues.cue_of, Places.IsPlace, declared.place.Place.Place}
use Rattle.exact_span.specs.Places.{IsExactPlace}
use Rattle.exact_span.specs.declared.exact_place.ExactPlace.TheVariants.{Place as Position}
use Rattle.outside.specs.Seen.{Seen}
use Rattle.split_edits.specs.{Cutting.ArePlaces, Split.{places_in, places_to_end}}
use Rattle.split_edits.specs.Steps.{HasCueSheetNumbers, IsCueSheetFault}

-- a sheet whose bytes can't be read lists no positions
read-places : (bytes : List ℕ) {fault : EditFault} → sheet_read bytes ≡ Err fault
    → places_in bytes ≡ Err fault
read-places bytes is = ap (λ r. then_made r (λ read. places_to_end (cue_of read))) is

module _ (name : List ℕ) (old new : Seen) (fault : EditFault) where
  -- a sheet that can't be read is a fault of the sheet
  pub unread-fault : IsSheetFault name old new fault → IsCueSheetFault name old new fault
  unread-fault h = grind (arith, each_why, each_refusal, read-places)

-- a fault of a sheet that can't be read has the number of the sheet
pub unread-number : (fault : EditFault) → HasSheetNumbers fault → HasCueSheetNumbers fault
unread-number fault h = grind arith

-- ---- places of samples that a sheet lists

all-exact : (positions : List Place) → All IsPlace positions
    → All IsExactPlace (map Position positions)
all-exact [] all = All-nil IsExactPlace
all-exact (p ∷ positions) all = All-cons IsExactPlace (Position p) (map Position positions)
    (All-head IsPlace p positions all) (all-exact positions (All-tail IsPlace p positions all))

-- positions are places of samples
pub exact-sound : (positions : List Place) → ArePlaces IsPlace positions
    → ArePlaces IsExactPlace (map Position positions)
exact-sound positions are = grind (arith, all-exact, length-map)
