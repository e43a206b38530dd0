-- The lines of a sheet one by one.
use Rattle.std.proofs.Common.{ap, append-nil, append_assoc, arith, Bool, cond, Err, false, find}
use Rattle.std.proofs.Common.{length, length-append, List, map, None, Ok, Option, refl, reverse}
use Rattle.std.proofs.Common.{Some, subst, sym, true, ℕ, [], ◌++◌, ◌+◌, ◌<◌, ◌||◌, ◌∙◌, ◌∷◌, ◌≡◌}
use Rattle.std.proofs.lemmas.List.{map-append, reverse-append}
use Rattle.std.proofs.lemmas.List.Elements.{All-from_get_or, All-map, filter_map-append}
use Rattle.std.proofs.lemmas.List.{Folds.list_any-append, Sums.sum_by_push}
use Rattle.std.specs.{List.{All, last_or, list_any}, Option.option_or}
use Rattle.cue_sheet.proofs.{LinesLemmas.no_lines, RisingLemmas.rises}
use Rattle.cue_sheet.specs.Cues.{AreStarts, cue_entries_from, cue_entry_in, cue_fault_of, cue_in}
use Rattle.cue_sheet.specs.Cues.{fault_or_cue, first_cue_fault, is_file, is_start, is_start_there}
use Rattle.cue_sheet.specs.Cues.{is_track, IsRising, IsSheetState, place_at, places_of, some_starts}
use Rattle.cue_sheet.specs.{Cues.{start_time, times_of}, Places.IsPlace}
use Rattle.cue_sheet.specs.declared.cue_fault.CueFault.{CueFault, TheVariants.NoTracks}
use Rattle.cue_sheet.specs.declared.{entry.CueEntry.CueEntry, place.Place.Place}
use Rattle.cue_sheet.specs.declared.sheet_state.SheetState.{SheetState}

-- ---- what the lines say together, with one line more

or_swapped : (a b : Bool) → (a || b) ≡ (b || a)
or_swapped true true = refl
or_swapped true false = refl
or_swapped false true = refl
or_swapped false false = refl

or_false : (a : Bool) → (a || false) ≡ a
or_false true = refl
or_false false = refl

there_is : (b : Bool) (e : CueEntry) (o : Option CueEntry)
    → cond b (is_start e) (is_start_there o) ≡ is_start_there (cond b (Some e) o)
there_is true e o = refl
there_is false e o = refl

last_of_both : (o : Option ℕ) (xs ys : List ℕ) → last_or o (xs ++ ys) ≡ last_or (last_or o xs) ys
last_of_both o [] ys = refl
last_of_both o (x ∷ xs) ys = last_of_both (Some x) xs ys

-- the state after lines and one line more, by what that line says
pub seen_more : {before : List CueEntry} (e : CueEntry) {s t : SheetState} → IsSheetState before s
    → t.lines
    ≡ s.lines + 1 → t.file ≡ (is_file e || s.file) → t.tracks ≡ s.tracks + cond (is_track e) 1 0
    → t.started ≡ cond (is_track e || is_start e) (is_start e) s.started
    → t.last ≡ last_or s.last (times_of (e ∷ [])) → IsSheetState (before ++ (e ∷ [])) t
seen_more {before} e is lines file tracks started last = record {
  lines = lines ∙ ap (λ n. n + 1) is.lines ∙ sym (length-append before (e ∷ []));
  file = file ∙ ap (λ b. is_file e || b) is.file ∙ or_swapped (is_file e) (list_any is_file before)
      ∙ ap (λ b. list_any is_file before || b) (sym (or_false (is_file e)))
      ∙ sym (list_any-append is_file before (e ∷ []));
  tracks = tracks ∙ ap (λ n. n + cond (is_track e) 1 0) is.tracks
      ∙ sym (sum_by_push (λ x. cond (is_track x) 1 0) before e);
  started = started ∙ ap (cond (is_track e || is_start e) (is_start e)) is.started
      ∙ there_is (is_track e || is_start e) e
      (find (λ entry. is_track entry || is_start entry) (reverse before))
      ∙ ap (λ es. is_start_there (find (λ entry. is_track entry || is_start entry) es))
      (sym (reverse-append before (e ∷ [])));
  last = last ∙ ap (λ o. last_or o (times_of (e ∷ []))) is.last
      ∙ sym (last_of_both None (times_of before) (times_of (e ∷ [])))
      ∙ ap (last_or None) (sym (filter_map-append start_time before (e ∷ [])));
}

-- the state after lines and one line more, where that line is given
pub seen_with : {before : List CueEntry} {entry e : CueEntry} {s t : SheetState} → entry ≡ e
    → IsSheetState before s → t.lines ≡ s.lines + 1 → t.file ≡ (is_file e || s.file)
    → t.tracks ≡ s.tracks + cond (is_track e) 1 0
    → t.started ≡ cond (is_track e || is_start e) (is_start e) s.started
    → t.last ≡ last_or s.last (times_of (e ∷ [])) → IsSheetState (before ++ (entry ∷ [])) t
seen_with {before} {e = e} {s = s} {t = t} same is lines file tracks started last =
    subst (λ x. IsSheetState (before ++ (x ∷ [])) t) (sym same)
    (seen_more e is lines file tracks started last)

-- adding nothing to a number gives the same number
pub no_more : (n : ℕ) → n ≡ n + 0
no_more n = omega arith

-- ---- the lines that were read

-- these lines were read, and no fault was found
pub record HaveRead (text : List ℕ) (at : ℕ) (now : SheetState) (places : List Place) : Type 0 where
  pub before : List CueEntry
  pub lines : cue_entries_from text 0 ≡ before ++ cue_entries_from text at
  pub first : first_cue_fault [] (cue_entries_from text 0)
      ≡ first_cue_fault before (cue_entries_from text at)
  pub seen : IsSheetState before now
  pub starts : places ≡ places_of before
  pub rising : IsRising (times_of before)

-- the first fault is the fault of this line or, if it has none, the first fault of the lines after
-- it
pub first_of : (before more : List CueEntry) (e : CueEntry) → first_cue_fault before (e ∷ more)
    ≡ option_or (cue_fault_of before e) (first_cue_fault (before ++ (e ∷ [])) more)
unfolding first_cue_fault
first_of before more e = refl

-- if the next line has a fault, it is the fault of the sheet
pub refused : {text : List ℕ} {at : ℕ} {now : SheetState} {places : List Place} {e : CueEntry}
    {more : List CueEntry} {fault : CueFault} → HaveRead text at now places
    → cue_entries_from text at
    ≡ e ∷ more
    → ((before : List CueEntry) → IsSheetState before now → Some fault ≡ cue_fault_of before e)
    → cue_in (cue_entries_from text 0) ≡ Err fault
refused {text} {e = e} {more = more} read line found =
    ap (λ o. fault_or_cue o (some_starts (places_of (cue_entries_from text 0))))
    (read.first ∙ ap (first_cue_fault read.before) line ∙ first_of read.before more e ∙ ap (λ o.
    option_or o (first_cue_fault (read.before ++ (e ∷ [])) more))
    (sym (found read.before read.seen)))

-- if the next line has no fault, it is read too, and if it is a start, there is one start more
pub goes_on : {text : List ℕ} {at next : ℕ} {now then : SheetState} {places : List Place}
    {e : CueEntry} → HaveRead text at now places
    → cue_entries_from text at ≡ e ∷ cue_entries_from text next
    → ((before : List CueEntry) → IsSheetState before now → None ≡ cue_fault_of before e)
    → ((before : List CueEntry) → IsSheetState before now → IsSheetState (before ++ (e ∷ [])) then)
    → HaveRead text next then (places ++ places_of (e ∷ []))
goes_on {text} {next = next} {e = e} read line found behind = record {
  before = read.before ++ (e ∷ []);
  lines = read.lines ∙ ap (λ es. read.before ++ es) line
      ∙ sym (append_assoc read.before (e ∷ []) (cue_entries_from text next));
  first = read.first ∙ ap (first_cue_fault read.before) line
      ∙ first_of read.before (cue_entries_from text next) e
      ∙ ap (λ o. option_or o
      (first_cue_fault (read.before ++ (e ∷ [])) (cue_entries_from text next)))
      (sym (found read.before read.seen));
  seen = behind read.before read.seen;
  starts = ap (λ p. p ++ places_of (e ∷ [])) read.starts
      ∙ sym (ap (map place_at) (filter_map-append start_time read.before (e ∷ []))
      ∙ map-append place_at (times_of read.before) (times_of (e ∷ [])));
  rising = subst IsRising (sym (filter_map-append start_time read.before (e ∷ [])))
      (rises read.before e read.rising (found read.before read.seen));
}

none_left : (text : List ℕ) (at : ℕ) → length text < at → cue_entries_from text at ≡ []
none_left text at end = ap (map cue_entry_in) (no_lines text at end)

no_fault : (before : List CueEntry) → first_cue_fault before [] ≡ None
unfolding first_cue_fault
no_fault before = refl

-- after the last line, the starts that were read are the starts of the sheet
pub ends : {text : List ℕ} {at : ℕ} {now : SheetState} {places : List Place}
    → HaveRead text at now places → length text < at
    → cue_in (cue_entries_from text 0) ≡ some_starts places
ends {text} {at} read end =
    let none = none_left text at end in
    ap (λ o. fault_or_cue o (some_starts (places_of (cue_entries_from text 0))))
    (read.first ∙ ap (first_cue_fault read.before) none ∙ no_fault read.before)
    ∙ ap (λ es. some_starts (places_of es))
    (read.lines ∙ ap (λ es. read.before ++ es) none ∙ append-nil read.before)
    ∙ ap some_starts (sym read.starts)

-- if there is a start, these are the starts of the sheet
pub some_are : (places : List Place) → 0 < length places → some_starts places ≡ Ok places
some_are [] some = absurd (omega (arith, some))
some_are (place ∷ more) some = refl

-- if there is no start, the sheet has no tracks
pub none_are : (places : List Place) → length places ≡ 0 → some_starts places ≡ Err NoTracks
none_are [] none = refl
none_are (place ∷ more) none = absurd (omega (arith, none))

-- the starts so far rise and are positions
pub are_starts : {text : List ℕ} {at : ℕ} {now : SheetState} {places : List Place}
    → HaveRead text at now places → AreStarts places
are_starts read = record {
  times = times_of read.before;
  all = read.starts;
  rising = read.rising;
  sound = subst (All IsPlace) (sym read.starts) (All-map IsPlace place_at (times_of read.before)
      (All-from_get_or (λ time. IsPlace (place_at time)) (times_of read.before) 0
      (λ i within. (omega arith, omega arith))));
}
