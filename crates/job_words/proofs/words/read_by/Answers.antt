-- A form that the words have ends the loop; otherwise it
-- continues, and the place of the bad word stays known.
use Rattle.std.proofs.Common.{ap, arith, Err, get_or, List, map, max, string_bytes, subst, sym}
use Rattle.std.proofs.{Common.{take, ◌∙◌, ◌≡◌}, lemmas.Grind.common_steps}
use Rattle.std.proofs.lemmas.List.{get_or-map, length-map, take_all}
use Rattle.job_words.proofs.ReadingLemmas.{accepted, table_reading-more}
use Rattle.job_words.{proofs.words.read_by.Goals.After-read, specs.Code.form_given}
use Rattle.job_words.specs.Forms.{Form, help_form, IsReadable, shapes, shapes_of}
use Rattle.job_words.specs.{Request.request_result, Words.table_reading}
use Rattle.job_words.proofs.words.read_by.Goals as goal

pub read-requires : goal.read-requires
read-requires c =
    subst IsReadable
    (get_or-map form_given c.args.forms.now c.loop-form.form-index _ help_form
    c.loop-form-test.true)
    (c.requires c.loop-form.form-index help_form (rw length-map c.loop-form-test.true))

-- what the form returns
here : (c : After-read) → request_result c.read.result
    ≡ table_reading
    (shapes_of (get_or (map form_given c.args.forms.now) c.loop-form.form-index help_form))
    (map string_bytes c.args.words.now)
here c = c.read.ensures.answer
    ∙ ap (λ (form : Form). table_reading (shapes_of form) (map string_bytes c.args.words.now)) (sym
    (get_or-map form_given c.args.forms.now c.loop-form.form-index _ help_form
    c.loop-form-test.true))

pub returns-in-Ok : goal.returns-in-Ok
returns-in-Ok c =
    record {
      reading = accepted (map form_given c.args.forms.now)
          (map string_bytes c.args.words.now) help_form
          (rw length-map c.loop-form-test.true) c.loop-form.invariant.0
          (sym (ap request_result c.in-Ok.is) ∙ here (goal.at.returns-in-Ok c).After-read);
      few = tt;
    }

pub loop-form-preserved : goal.loop-form-preserved
loop-form-preserved c =
    let max-is : c.max-place.result ≡ max c.loop-form.place c.in-Err.bad =
    grind (arith, common_steps) in (
      table_reading-more (map form_given c.args.forms.now)
          (map string_bytes c.args.words.now) help_form
          (rw length-map c.loop-form-test.true) c.loop-form.invariant.0
          (sym (ap request_result c.in-Err.is) ∙ here (goal.at.loop-form-preserved c).After-read)
          ∙ sym (ap Err max-is),
      omega (arith, max-is, c.in-Err.ensures.few, c.loop-form.invariant.1),
      c.loop-form.invariant.2,
    )

pub returns : goal.returns
returns c =
    let table = map form_given c.args.forms.now in
    let whole : take c.loop-form.form-index table ≡ table = grind (arith, take_all, length-map) in
    record {
      reading = sym c.loop-form.invariant.0
          ∙ ap
          (λ (table : List Form). table_reading (shapes table) (map string_bytes c.args.words.now))
          whole;
      few = c.loop-form.invariant.1;
    }
