-- The forms of the code are the forms of the definition,
-- and the words behind `-n` are read by them.
use Rattle.std.proofs.Common.{ap, Err, map, Ok, Result, string_bytes, subst, sym, ℕ, ◌+◌, ◌∙◌, ◌≡◌}
use Rattle.std.proofs.lemmas.List.{drop-map}
use Rattle.job_words.proofs.PlaceLemmas.{code_is, IsAnswer, job_is, read_later}
use Rattle.job_words.proofs.{ReadingLemmas.forms_are_readable, words.job.Goals.After-read_by}
use Rattle.job_words.specs.{Request.request_result, Words.{job_of, later_by, plain_job_of}}
use Rattle.job_words.specs.declared.jobs.Job.{Job}
use Rattle.job_words.proofs.words.job.Goals as goal

pub read_by-requires : goal.read_by-requires
read_by-requires c = forms_are_readable

-- what was read, later by the words before the form
here : (c : After-read_by) → later_by c.count_before-front.result (request_result c.read_by.result)
    ≡ job_of (map string_bytes c.args.words.now)
unfolding plain_job_of
here c =
    let reading : request_result c.read_by.result
    ≡ plain_job_of (map string_bytes c.skip.result.now)
    = c.read_by.ensures.reading in
    ap (later_by c.count_before-front.result) reading
    ∙ read_later (map string_bytes c.args.words.now) {given = map string_bytes c.skip.result.now}
    {count = c.count_before-front.result} c.count_before-front.ensures.count
    (rw c.skip.ensures (sym (drop-map string_bytes c.count_before-front.result c.args.words.now)))

pub returns-in-Ok : goal.returns-in-Ok
returns-in-Ok c =
    let words = map string_bytes c.args.words.now in
    let exact : request_result (Ok c.in-Ok.job) ≡ job_of words =
    sym
    (ap (λ (r : Result Job ℕ). later_by c.count_before-front.result (request_result r)) c.in-Ok.is)
    ∙ here (goal.at.returns-in-Ok c).After-read_by in
    let is = code_is words (Ok c.in-Ok.job) (subst (IsAnswer words) (sym exact) (job_is words)) in
    record { exact = exact; read = is.0; bad = is.1; sound = is.2 }

pub returns-in-Err : goal.returns-in-Err
returns-in-Err c =
    let words = map string_bytes c.args.words.now in
    let exact : request_result (Err (c.in-Err.place + c.count_before-front.result)) ≡ job_of words =
    sym
    (ap (λ (r : Result Job ℕ). later_by c.count_before-front.result (request_result r)) c.in-Err.is)
    ∙ here (goal.at.returns-in-Err c).After-read_by in
    let is = code_is words (Err (c.in-Err.place + c.count_before-front.result))
    (subst (IsAnswer words) (sym exact) (job_is words)) in
    record { exact = exact; read = is.0; bad = is.1; sound = is.2 }
