-- The words have no form so far, and this is the place of the bad word by those forms.
use Rattle.std.{proofs.Common.{Err, map, string_bytes, take, ◌≡◌, ◌≤◌}, specs.List.All}
use Rattle.job_words.specs.{Code.form_given, Forms.{IsReadable, shapes}, Words.table_reading}
use Rattle.job_words.proofs.words.read_by.Given as goal

abbrev pub invariant-loop-form : goal.invariant-loop-form
invariant-loop-form l =
    (table_reading (shapes (take l.form-index (map form_given l.forms))) (map string_bytes l.words)
    ≡ Err l.place) × (l.place ≤ 113) × All IsReadable (map form_given l.forms)
