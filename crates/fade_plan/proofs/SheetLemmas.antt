-- The lines of a sheet one by one.
use Rattle.std.proofs.Common.{ap, append-nil, append_assoc, arith, cond, Err, false, length}
use Rattle.std.proofs.Common.{length-append, List, map, None, Ok, refl, Some, sym, true, ℕ, []}
use Rattle.std.proofs.{Common.{◌++◌, ◌+◌, ◌<◌, ◌∙◌, ◌∷◌, ◌≡◌}, lemmas.List.length-map}
use Rattle.std.{proofs.lemmas.List.Sums.sum_by_push, specs.List.count_by}
use Rattle.cue_sheet.proofs.LinesLemmas.{no_lines}
use Rattle.fade_plan.specs.Points.{envelope_point_of}
use Rattle.fade_plan.specs.Sheets.{envelope_in, fade_entries_from, fade_entry_in, first_faulty_line}
use Rattle.fade_plan.specs.Sheets.{is_at_fault, is_point, point_at, points_from, some_points}
use Rattle.fade_plan.specs.declared.entry.FadeEntry.{FadeEntry}
use Rattle.fade_plan.specs.declared.envelope_fault.EnvelopeFault.TheVariants.{Line, NoPoints}
use Rattle.fade_plan.specs.declared.point.Point.{Point}

fault_of : (before more : List FadeEntry) (e : FadeEntry)
    → first_faulty_line before (e ∷ more) ≡ cond (is_at_fault (count_by is_point before) e)
    (Some (length before + 1)) (first_faulty_line (before ++ (e ∷ [])) more)
unfolding first_faulty_line
fault_of before more e = refl

no_fault : (before : List FadeEntry) → first_faulty_line before [] ≡ None
unfolding first_faulty_line
no_fault before = refl

no_points : (line : ℕ) → points_from line [] ≡ []
unfolding points_from
no_points line = refl

points_are : (line : ℕ) (e : FadeEntry) (more : List FadeEntry)
    → points_from line (e ∷ more) ≡ point_at line e ++ points_from (line + 1) more
unfolding points_from
points_are line e more = refl

-- the points of lines, with one line more
points_more : (line : ℕ) (before : List FadeEntry) (e : FadeEntry)
    → points_from line (before ++ (e ∷ []))
    ≡ points_from line before ++ point_at (line + length before) e
points_more line [] e = grind (arith, points_are, no_points, append-nil)
points_more line (x ∷ xs) e = grind (arith, points_are, append_assoc, points_more (line + 1) xs e)

point_count : (line : ℕ) (e : FadeEntry) → length (point_at line e) ≡ cond (is_point e) 1 0
point_count line e = grind arith

-- these lines were read, and none is at fault
pub record HaveRead (text : List ℕ) (at line : ℕ) (points : List Point) : Type 0 where
  pub before : List FadeEntry
  pub lines : fade_entries_from text 0 ≡ before ++ fade_entries_from text at
  pub first : first_faulty_line [] (fade_entries_from text 0)
      ≡ first_faulty_line before (fade_entries_from text at)
  pub number : line ≡ length before + 1
  pub count : length points ≡ count_by is_point before
  pub kept : map envelope_point_of points ≡ points_from 1 before

-- at the beginning, no line was read
pub at_front : (text : List ℕ) → HaveRead text 0 1 []
at_front text = record {
  before = [];
  lines = refl;
  first = refl;
  number = refl;
  count = refl;
  kept = sym (no_points 1);
}

-- if the next line is at fault, the sheet is refused with the number of this line
pub refused : {text : List ℕ} {at line : ℕ} {points : List Point} {e : FadeEntry}
    {more : List FadeEntry} → HaveRead text at line points → fade_entries_from text at ≡ e ∷ more
    → is_at_fault (length points) e ≡ true
    → envelope_in (fade_entries_from text 0) ≡ Err (Line line)
refused read here wrong = grind (arith, fault_of)

-- if the next line isn't at fault, it is read, and if it is a point, there is one point more
pub goes_on : {text : List ℕ} {at next line : ℕ} {points then : List Point} {e : FadeEntry}
    → HaveRead text at line points → fade_entries_from text at ≡ e ∷ fade_entries_from text next
    → is_at_fault (length points) e ≡ false → map envelope_point_of
    then ≡ map envelope_point_of points ++ point_at line e → HaveRead text next (line + 1) then
goes_on {e = e} read here right kept = record {
  before = read.before ++ (e ∷ []);
  lines = grind (arith, append_assoc);
  first = grind (arith, fault_of);
  number = ap (λ n. n + 1) (read.number ∙ sym (length-append read.before (e ∷ [])));
  count = grind (arith, length-map, kept, length-append, point_count, sum_by_push);
  kept = grind (arith, kept, points_more);
}

none_left : (text : List ℕ) {at : ℕ} → length text < at → fade_entries_from text at ≡ []
none_left text {at} end = ap (map fade_entry_in) (no_lines text at end)

-- after the last line, the sheet has the points so far
pub ends : {text : List ℕ} {at line : ℕ} {points : List Point} → HaveRead text at line points
    → length text < at
    → envelope_in (fade_entries_from text 0) ≡ some_points (map envelope_point_of points)
ends read end = grind (arith, none_left, no_fault, append-nil)

-- if there is a point, these are the points of the sheet
pub some_are : (points : List Point) → 0 < length points
    → some_points (map envelope_point_of points) ≡ Ok (map envelope_point_of points)
some_are [] some = absurd (omega (arith, some))
some_are (point ∷ more) some = refl

-- if there is no point, the sheet is refused for having none
pub none_are : (points : List Point) → length points ≡ 0
    → some_points (map envelope_point_of points) ≡ Err NoPoints
none_are [] none = refl
none_are (point ∷ more) none = absurd (omega (arith, none))
