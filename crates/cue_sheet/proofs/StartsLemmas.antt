-- A cue sheet has at most 99 starts, since it has at most 99 tracks and each track has at most one.
use Rattle.std.proofs.Common.{ap, append-nil, append_assoc, arith, Bool, cond, false, length}
use Rattle.std.proofs.Common.{length-append, List, nat_le, None, not, Ok, Option, refl, Some, subst}
use Rattle.std.proofs.Common.{sym, true, ℕ, [], ◌++◌, ◌+◌, ◌<◌, ◌||◌, ◌∙◌, ◌∷◌, ◌≡◌, ◌≤◌}
use Rattle.std.proofs.lemmas.{Bool.{leb-false, leb-true, or_parts}, List.length-map}
use Rattle.std.{proofs.lemmas.List.Elements.filter_map-append, specs.List.{count_by, last_or}}
use Rattle.std.specs.Option.{option_or}
use Rattle.cue_sheet.proofs.CuesLemmas.{first_of, seen_more}
use Rattle.cue_sheet.specs.Cues.{cue_fault_of, cue_in, fault_or_cue, first_cue_fault, has_track}
use Rattle.cue_sheet.specs.Cues.{is_file, is_start, is_started, is_track, IsSheetState, line_fault}
use Rattle.cue_sheet.specs.Cues.{place_at, places_of, some_starts, start_time, times_of}
use Rattle.cue_sheet.specs.declared.{cue_fault.CueFault.CueFault, entry.CueEntry.CueEntry}
use Rattle.cue_sheet.specs.declared.entry.CueEntry.TheVariants.{Broken, File, Index, Passed, Start}
use Rattle.cue_sheet.specs.declared.{entry.CueEntry.TheVariants.Track, place.Place.Place}
use Rattle.cue_sheet.specs.declared.sheet_state.SheetState.{SheetState}

-- what the lines so far and one line more say together
behind : SheetState → CueEntry → SheetState
behind s e = record {
  lines = s.lines + 1;
  file = is_file e || s.file;
  tracks = s.tracks + cond (is_track e) 1 0;
  started = cond (is_track e || is_start e) (is_start e) s.started;
  last = last_or s.last (times_of (e ∷ []));
}

seen_behind : {before : List CueEntry} (e : CueEntry) {s : SheetState} → IsSheetState before s
    → IsSheetState (before ++ (e ∷ [])) (behind s e)
unfolding behind
seen_behind {before} e {s} is = seen_more e is refl refl refl refl refl

-- there are at most 99 tracks and at most as many starts, and fewer starts than tracks while the
-- last track has none
record IsFew (count : ℕ) (s : SheetState) : Type 0 where
  most : s.tracks ≤ 99
  few : count ≤ s.tracks
  open_track : s.started ≡ false → 0 < s.tracks → count < s.tracks

at_front : IsFew 0 (record { lines = 0; file = false; tracks = 0; started = false; last = None })
at_front = record { most = omega arith; few = omega arith; open_track = λ e some. some }

if_fault : (b : Bool) (line : ℕ) → line_fault b line ≡ None → b ≡ false
if_fault true line e = absurd cc
if_fault false line e = refl

unless_fault : (b : Bool) (fault : CueFault) (later : Option CueFault)
    → cond b (Some fault) later ≡ None → b ≡ false
unless_fault true fault later e = absurd cc
unless_fault false fault later e = refl

has_one : {n : ℕ} → not (nat_le 1 n) ≡ false → 0 < n
has_one {n} e = at (nat_le 1 n) refl e
  where
    at : (b : Bool) → nat_le 1 n ≡ b → not b ≡ false → 0 < n
    at true is e = omega (arith, leb-true 1 n is)
    at false is e = absurd cc

-- the same with one line more that has no fault
few_more : {before : List CueEntry} (e : CueEntry) {s : SheetState} → IsSheetState before s
    → IsFew (length (times_of before)) s → cue_fault_of before e ≡ None
    → IsFew (length (times_of before) + length (times_of (e ∷ []))) (behind s e)
unfolding behind cue_fault_of
few_more Passed is few none = record {
  most = omega (arith, few.most);
  few = omega (arith, few.few);
  open_track =
      λ e some. omega (arith, few.open_track e (omega (arith, some)));
}
few_more File is few none = record {
  most = omega (arith, few.most);
  few = omega (arith, few.few);
  open_track =
      λ e some. omega (arith, few.open_track e (omega (arith, some)));
}
few_more Index is few none = record {
  most = omega (arith, few.most);
  few = omega (arith, few.few);
  open_track =
      λ e some. omega (arith, few.open_track e (omega (arith, some)));
}
few_more Broken is few none = absurd cc
few_more {before} Track is few none =
    let less = leb-false 99 (count_by is_track before)
    (if_fault (nat_le 99 (count_by is_track before)) (length before + 1) none) in
    record {
      most = omega (arith, less, is.tracks);
      few = omega (arith, few.few);
      open_track =
          λ e some. omega (arith, few.few);
    }
few_more {before} (Start time) is few none =
    let parts = or_parts (not (has_track before)) (is_started before)
    (unless_fault (not (has_track before) || is_started before) _ _ none) in
    let some = has_one parts.0 in
    let less = few.open_track (is.started ∙ parts.1) (omega (arith, some, is.tracks)) in
    record {
      most = omega (arith, few.most);
      few = omega (arith, less);
      open_track = λ e there. absurd cc;
    }

or_none : (o : Option CueFault) {later : Option CueFault} → option_or o later ≡ None
    → (o ≡ None) × (later ≡ None)
or_none (Some fault) e = absurd cc
or_none None e = (refl, e)

few_starts : (before more : List CueEntry) {s : SheetState} → IsSheetState before s
    → IsFew (length (times_of before)) s → first_cue_fault before more ≡ None
    → length (times_of (before ++ more)) ≤ 99
few_starts before [] is few none =
    omega (arith, few.most, few.few, ap (λ es. length (times_of es)) (append-nil before))
few_starts before (e ∷ more) {s} is few none =
    let parts = or_none (cue_fault_of before e)
    (sym (first_of before more e) ∙ none) in
    let size : length (times_of before) + length (times_of (e ∷ []))
    ≡ length (times_of (before ++ (e ∷ []))) =
    sym (ap length (filter_map-append start_time before (e ∷ []))
    ∙ length-append (times_of before) (times_of (e ∷ []))) in
    let rest = few_starts (before ++ (e ∷ [])) more (seen_behind e is)
    (subst (λ n. IsFew n (behind s e)) size (few_more e is few parts.0)) parts.1 in
    subst (λ es. length (times_of es) ≤ 99) (append_assoc before (e ∷ []) more) rest

starts_parts : (o : Option CueFault) (places : List Place) {starts : List Place}
    → fault_or_cue o (some_starts places) ≡ Ok starts
    → (o ≡ None) × (places ≡ starts) × (1 ≤ length starts)
starts_parts (Some fault) places e = absurd cc
starts_parts None [] e = absurd cc
starts_parts None (place ∷ more) {starts} e =
    let same : place ∷ more ≡ starts = cc in
    (refl, same, omega (arith, ap length same))

-- there are 1 to 99 starts if no line is at fault
pub starts-few : (entries : List CueEntry) {starts : List Place} → cue_in entries ≡ Ok starts
    → (1 ≤ length starts) × (length starts ≤ 99)
starts-few entries {starts} e =
    let parts = starts_parts (first_cue_fault [] entries) (places_of entries) e in
    let seen : IsSheetState []
    (record { lines = 0; file = false; tracks = 0; started = false; last = None }) =
    record { lines = refl; file = refl; tracks = refl; started = refl; last = refl } in
    let few = few_starts [] entries seen at_front parts.0 in
    (parts.2, omega (arith, few, length-map (times_of entries) place_at, ap length parts.1))
