-- Gains that can move: when a change of gains is refused, and when it isn't.
use Rattle.std.proofs.Common.{ap, arith, Bool, cond, false, length, List, None, not, Ok, Option}
use Rattle.std.proofs.Common.{pos, refl, Result, rules, Some, subst, suc, sym, true, ℕ, ℤ, [], ◌&&◌}
use Rattle.std.proofs.Common.{◌<◌, ◌==◌, ◌∙◌, ◌∷◌, ◌≡◌, ◌≢◌, ◌≤◌, ◌⊎◌}
use Rattle.std.{proofs.lemmas.Bool.{le-ltb, ltb-false, ne_eqb}, specs.Option.option_or}
use Rattle.std.specs.Prelude.{nat_lt, unsigned_abs}
use Rattle.command_table.specs.Choices.{AreSeparate, CanChange, CanMove, channel_steps, IsLegalGain}
use Rattle.command_table.specs.{Choices.{IsLegalUndo, StaysGain}, Inputs.{FileInput, HoldsOfEach}}
use Rattle.commands.proofs.RefusingLemmas.{first-cons, first-nil, none_both, none_first}
use Rattle.commands.{proofs.RefusingLemmas.refusal_or-ok, specs.Refusing.{refusal_or, then_made}}
use Rattle.commands.specs.declared.fault.{EditFault.EditFault, Refusal.Refusal}
use Rattle.commands.specs.declared.fault.Refusal.TheVariants.{Joint, Mono}
use Rattle.gain_edits.proofs.ProperLemmas.{read_ok, tagged-parts, undone-parts}
use Rattle.gain_edits.proofs.{RangeFaultLemmas.{frame-none, none-frame}, RefusalLemmas.not_there}
use Rattle.gain_edits.specs.Change.{changed_or_fault}
use Rattle.gain_edits.specs.Channels.{are_both, joint_fault, joint_refusal, single_channel_fault}
use Rattle.gain_edits.specs.Gain.{gain_change, noted_change, tagged_change}
use Rattle.gain_edits.specs.GainRange.{range_fault, row_range_fault}
use Rattle.gain_edits.specs.Undo.{undo_change, undone_change}
use Rattle.gain_edits.specs.UndoItem.{bytes_unless_empty, found_undo, next_undo, no_undo}
use Rattle.gain_edits.specs.UndoItem.{noted_undo, number_fault, output_fault, output_length}
use Rattle.gain_edits.specs.UndoItem.{size_fault, tag_result, tag_with_undo, tag_without_undo}
use Rattle.gain_edits.specs.UndoItem.{undo_fault, undo_steps}
use Rattle.legality.proofs.InputLemmas.{each-cons}
use Rattle.moved_gains.{proofs.MovedGainLemmas.within, specs.Change.FileChange}
use Rattle.moved_gains.specs.{Course.constant_steps, Edited.row_out_of_range}
use Rattle.moved_gains.specs.Gains.{gain_out_of_range, is_out_of_range, side_out_of_range}
use Rattle.moved_gains.specs.{TagExtent.tag_offset, TagReading.{file_tag, longest_tag}}
use Rattle.moved_gains.specs.declared.gains.OutOfRange.{OutOfRange}
use Rattle.moved_gains.specs.declared.tag_fault.FileTagFault.{FileTagFault}
use Rattle.requests.specs.{Shifts.steps_of, declared.shift.{Channels.Channels, Shift.Shift}}
use Rattle.requests.specs.declared.shift.Steps.{Steps}
use Rattle.side_info.specs.{Side.granule_in, declared.side.Side.Side}
use Rattle.sync_survey.specs.{Faults.{longest_file, SurveyFields}, Row.Row}
use Rattle.tag_blocks.specs.{Tags.{tag_bytes, TagFields}, UndoItems.undo_from}
use Rattle.tag_blocks.specs.declared.undo.{Undo.Undo, UndoItem.UndoItem}
use Rattle.tag_blocks.specs.declared.undo.UndoItem.TheVariants.{Found, Missing}

-- ---- one gain

stays : {sum : ℤ} → is_out_of_range sum ≡ false → (moved : ℕ) × (moved ≤ 255) × (sum ≡ pos moved)
stays {sum} inside = let gain = within inside in
    (gain.gain, omega (arith, gain.small), gain.is)

stays-inside : {sum : ℤ} → (moved : ℕ) × (moved ≤ 255) × (sum ≡ pos moved)
    → is_out_of_range sum ≡ false
stays-inside gain = ap is_out_of_range gain.2 ∙ le-ltb 255 gain.0 gain.1

loud-inside : {silent outside : Bool} (x : OutOfRange)
    → cond (not silent && outside) (Some x) None ≡ None → silent ≡ false → outside ≡ false
loud-inside x e loud = grind arith

inside-none : {silent outside : Bool} (x : OutOfRange) → (silent ≡ false → outside ≡ false)
    → cond (not silent && outside) (Some x) None ≡ None
inside-none x inside = grind arith

is-some : {n : ℕ} → (n == 0) ≡ false → 0 < n
is-some e = grind arith

-- the gain of a granule and channel can move
abbrev GranuleMoves : ℤ → Side → ℕ → ℕ → Type 0
GranuleMoves steps s granule channel = 0 < (granule_in s granule channel).part2_3_length
    → StaysGain steps (granule_in s granule channel).global_gain

granule-moves : (steps : ℤ) (s : Side) (granule channel : ℕ)
    → gain_out_of_range steps s granule channel ≡ None → GranuleMoves steps s granule channel
granule-moves steps s granule channel none loud = grind (arith, stays, pos, loud-inside, ne_eqb)

moves-granule : (steps : ℤ) (s : Side) (granule channel : ℕ) → GranuleMoves steps s granule channel
    → gain_out_of_range steps s granule channel ≡ None
moves-granule steps s granule channel moves = grind (arith, inside-none, pos, stays-inside, is-some)

-- ---- one frame

none-or : {A : Type 0} {a b : Option A} → option_or a b ≡ None → (a ≡ None) × (b ≡ None)
none-or e = grind arith

or-none : {A : Type 0} {a b : Option A} → a ≡ None → b ≡ None → option_or a b ≡ None
or-none {b = b} e d = ap (λ o. option_or o b) e ∙ d

strict : {wrap : Bool} {o : Option OutOfRange} → cond wrap None o ≡ None → wrap ≡ false → o ≡ None
strict e is = grind arith

unless-wrap : {wrap : Bool} {o : Option OutOfRange} → (wrap ≡ false → o ≡ None)
    → cond wrap None o ≡ None
unless-wrap none = grind arith

-- each of the four gains of a frame can move
abbrev SideMoves : Steps → Side → Type 0
SideMoves steps s = (granule channel : ℕ) → granule < 2 → channel < 2
    → GranuleMoves (channel_steps steps channel) s granule channel

side-moves : (steps : Steps) (s : Side) → side_out_of_range steps s ≡ None → steps.wrap ≡ false
    → SideMoves steps s
unfolding side_out_of_range
side-moves steps s none is = λ granule channel g c. at granule channel g c
  where
    first : (gain_out_of_range steps.left s 0 0 ≡ None)
        × (option_or (gain_out_of_range steps.right s 0 1)
        (option_or (gain_out_of_range steps.left s 1 0) (gain_out_of_range steps.right s 1 1))
        ≡ None)
    first = none-or (strict none is)

    second : (gain_out_of_range steps.right s 0 1 ≡ None)
        × (option_or (gain_out_of_range steps.left s 1 0) (gain_out_of_range steps.right s 1 1)
        ≡ None)
    second = none-or first.1

    third : (gain_out_of_range steps.left s 1 0 ≡ None)
        × (gain_out_of_range steps.right s 1 1 ≡ None)
    third = none-or second.1

    at : (granule channel : ℕ) → granule < 2 → channel < 2
        → GranuleMoves (channel_steps steps channel) s granule channel
    at granule channel g c = search (rules, granule-moves)

moves-side : {steps : Steps} (s : Side) → (steps.wrap ≡ false → SideMoves steps s)
    → side_out_of_range steps s ≡ None
unfolding side_out_of_range
moves-side {steps} s moves =
    unless-wrap (λ is.
    or-none (moves-granule steps.left s 0 0 (moves is 0 0 (omega arith) (omega arith)))
    (or-none (moves-granule steps.right s 0 1 (moves is 0 1 (omega arith) (omega arith)))
    (or-none (moves-granule steps.left s 1 0 (moves is 1 0 (omega arith) (omega arith)))
    (moves-granule steps.right s 1 1 (moves is 1 1 (omega arith) (omega arith))))))

row-moves : (steps : Steps) (row : Row) → row_out_of_range steps row ≡ None → CanMove steps row
row-moves steps row none wraps = at row.lost none
  where
    at : (lost : Bool) → cond lost None (side_out_of_range steps row.side) ≡ None → lost ≡ false
        → SideMoves steps row.side
    at true e kept = absurd cc
    at false e kept = side-moves steps row.side e wraps

moves-row : {steps : Steps} (row : Row) → CanMove steps row → row_out_of_range steps row ≡ None
moves-row {steps} row moves = at row.lost (λ wraps. moves wraps)
  where
    at : (lost : Bool) → (steps.wrap ≡ false → lost ≡ false → SideMoves steps row.side)
        → cond lost None (side_out_of_range steps row.side) ≡ None
    at true moves = refl
    at false moves = moves-side row.side (λ wraps. moves wraps refl)

-- ---- all frames

-- the steps at the number of a frame are the steps at its offset
abbrev pub Agree : (ℕ → Steps) → (ℕ → Steps) → List Row → Type 0
Agree at_offset at_number rows = HoldsOfEach rows (λ i row. at_offset row.offset ≡ at_number i)

-- if no gain leaves its range, the gains of each frame can move
pub free-moves : (f : ℕ → Steps) {g : ℕ → Steps} (rows : List Row) → Agree f g rows
    → range_fault f rows ≡ None → HoldsOfEach rows (λ i row. CanMove (g i) row)
free-moves f [] agree none = λ i row is. absurd cc
free-moves f {g} (q ∷ rows) agree none =
    let parts = frame-none f q rows none in
    each-cons (λ i row. CanMove (g i) row) rows
    (subst (λ (x : Steps). CanMove x q) (agree 0 q refl) (row-moves (f q.offset) q parts.0))
    (free-moves f rows (λ n r here. agree (suc n) r here) parts.1)

-- if the gains of each frame can move, no gain leaves its range
pub moves-free : (f : ℕ → Steps) {g : ℕ → Steps} (rows : List Row) → Agree f g rows
    → HoldsOfEach rows (λ i row. CanMove (g i) row) → range_fault f rows ≡ None
moves-free f [] agree moves = first-nil (row_range_fault f)
moves-free f {g} (q ∷ rows) agree moves =
    none-frame f q rows
    (moves-row q
    (subst (λ (x : Steps). CanMove x q) (sym (agree 0 q refl)) (moves 0 q refl)))
    (moves-free f rows (λ n r here. agree (suc n) r here)
    (λ n r here. moves (suc n) r here))

constant_steps-agree : (steps : Steps) (rows : List Row)
    → Agree (constant_steps steps) (λ i. steps) rows
constant_steps-agree steps rows = λ i row is. refl

-- ---- channels

test-no : {b : Bool} (x : Refusal) → b ≡ false → cond b (Some x) None ≡ None
test-no x e = ap (λ c. cond c (Some x) None) e

differ : {m n : ℕ} → (m == n) ≡ false → m ≢ n
differ e same = let both : true ≡ false = sym (search rules) ∙ e in absurd cc

each-apart : (rows : List Row) → joint_fault rows ≡ None
    → HoldsOfEach rows (λ i row. row.header.mode ≢ 1)
each-apart [] none = λ i row is. absurd cc
each-apart (q ∷ rows) none =
    let parts =
    none_first
    (sym (first-cons joint_refusal q rows) ∙ none) in
    each-cons (λ i row. row.header.mode ≢ 1) rows (differ
    (not_there (Joint q.offset) parts.0)) (each-apart rows parts.1)

apart-each : (rows : List Row) → HoldsOfEach rows (λ i row. row.header.mode ≢ 1)
    → joint_fault rows ≡ None
apart-each [] apart = first-nil joint_refusal
apart-each (q ∷ rows) apart =
    first-cons joint_refusal q rows
    ∙ none_both (test-no (Joint q.offset)
    (ne_eqb q.header.mode 1 (apart 0 q refl))) (apart-each rows (λ i row is. apart (suc i) row is))

separate : {s : SurveyFields} → single_channel_fault s ≡ None → AreSeparate s
separate {s} none = at (s.class.channels == 1) refl none
  where
    at : (b : Bool) → (s.class.channels == 1) ≡ b → cond b (Some Mono) (joint_fault s.frames) ≡ None
        → AreSeparate s
    at true is e = absurd cc
    at false is e = record { two = differ is; each = each-apart s.frames e }

separate-none : {s : SurveyFields} → AreSeparate s → single_channel_fault s ≡ None
separate-none are = grind (arith, ne_eqb, apart-each)

can-change : (channels : Channels) (s : SurveyFields)
    → cond (are_both channels) None (single_channel_fault s) ≡ None → CanChange channels s
can-change channels s none = search (rules, separate)

change-none : (channels : Channels) (s : SurveyFields) → CanChange channels s
    → cond (are_both channels) None (single_channel_fault s) ≡ None
change-none channels s can = search (rules, separate-none)

-- ---- the tag

noted-ok : (at : ℕ) {item : UndoItem} {undo : Undo} → noted_undo at item ≡ Ok undo
    → (item ≡ Found undo) ⊎ ((item ≡ Missing) × (undo ≡ no_undo))
noted-ok at e = grind arith

ok-noted : (at : ℕ) {item : UndoItem} {undo : Undo}
    → (item ≡ Found undo) ⊎ ((item ≡ Missing) × (undo ≡ no_undo)) → noted_undo at item ≡ Ok undo
ok-noted at h = grind arith

found-ok : (at : ℕ) {item : UndoItem} {undo : Undo} → found_undo at item ≡ Ok undo
    → item ≡ Found undo
found-ok at e = grind arith

-- a number that isn't refused is at most what it may be
most : {n m : ℕ} (x : Refusal) → cond (nat_lt m n) (Some x) None ≡ None → n ≤ m
most {n} {m} x e = ltb-false m n (not_there x e)

most-none : {n m : ℕ} (x : Refusal) → n ≤ m → cond (nat_lt m n) (Some x) None ≡ None
most-none {n} {m} x low = test-no x (le-ltb m n low)

-- ---- gain

module _ (shift : Shift) (file : List ℕ) (s : SurveyFields) where
  abbrev input : FileInput
  input = record { bytes = file; survey = s }

  noted-legal : {change : FileChange} → tagged_change shift file s ≡ Ok change
      → IsLegalGain shift true input
  noted-legal {change} e =
      let parts = tagged-parts {shift = shift} {file = file} {s = s} {change = change} e in
      let next = next_undo shift parts.undo in
      let bytes = tag_bytes (tag_with_undo next parts.tag) in
      let one = none_first {o = _} {later = _} parts.free in
      let two = none_first {o = undo_fault next} {later = _} one.1 in
      let numbers =
      none_first {o = number_fault next.left} {later = number_fault next.right} two.0 in
      let three = none_first {o = size_fault bytes} {later = _} two.1 in
      let four = none_first {o = output_fault s bytes} {later = _} three.1 in
      record {
        channels = can-change shift.channels s one.0;
        gains = grind (arith, free-moves, constant_steps-agree (steps_of shift) s.frames);
        noted = λ tags. record {
          tag = parts.tag;
          read = read_ok {r = file_tag file s} {tag = parts.tag} parts.read;
          undo = parts.undo;
          item = noted-ok (tag_offset s)
              {item = undo_from 32 parts.tag.items} {undo = parts.undo} parts.item;
          left = most {n = unsigned_abs next.left} {m = 999} _ numbers.0;
          right = most {n = unsigned_abs next.right} {m = 999} _ numbers.1;
          tag_fits = most {n = length bytes} {m = longest_tag} _ three.0;
          file_fits = most {n = output_length s bytes} {m = longest_file} _ four.0;
        };
      }

  plain-legal : {change : FileChange} → gain_change shift false file s ≡ Ok change
      → IsLegalGain shift false input
  unfolding gain_change
  plain-legal e =
      grind (arith, refusal_or-ok, none_first, can-change, free-moves, constant_steps-agree)

  -- a gain that isn't refused is legal
  pub gain-legal : (tags : Bool) (change : FileChange) → gain_change shift tags file s ≡ Ok change
      → IsLegalGain shift tags input
  unfolding gain_change
  gain-legal tags change e = search (rules, noted-legal, plain-legal)

  free : {tags : Bool} → IsLegalGain shift tags input
      → range_fault (constant_steps (steps_of shift)) s.frames ≡ None
  free legal = grind (arith, moves-free, constant_steps-agree)

  legal-noted : IsLegalGain shift true input
      → (change : FileChange) × (tagged_change shift file s ≡ Ok change)
  legal-noted legal =
      let noted = legal.noted refl in
      let next = next_undo shift noted.undo in
      let bytes = tag_bytes (tag_with_undo next noted.tag) in
      let none =
      none_both (change-none shift.channels s legal.channels)
      (none_both (none_both
      (most-none _ noted.left)
      (most-none _ noted.right))
      (none_both (most-none _ noted.tag_fits)
      (none_both
      (most-none _ noted.file_fits) (free legal)))) in
      let change : FileChange =
      record { steps = constant_steps (steps_of shift); tag = Some bytes } in (
        change,
        ap (λ (r : Result TagFields FileTagFault). then_made (tag_result r) (λ tag. then_made
            (noted_undo (tag_offset s) (undo_from 32 tag.items))
            (noted_change shift s tag))) noted.read
            ∙ ap (λ (r : Result Undo EditFault). then_made r (noted_change shift s noted.tag))
            (ok-noted (tag_offset s) noted.item)
            ∙ ap (λ (o : Option Refusal). refusal_or o change) none,
      )

  legal-plain : IsLegalGain shift false input
      → (change : FileChange) × (gain_change shift false file s ≡ Ok change)
  unfolding gain_change
  legal-plain legal =
      let change : FileChange = record { steps = constant_steps (steps_of shift); tag = None } in (
        change,
        ap (λ (o : Option Refusal). refusal_or o change)
            (none_both
            (change-none shift.channels s legal.channels) (free legal)),
      )

  -- a legal gain isn't refused
  pub legal-gain : (tags : Bool) → IsLegalGain shift tags input
      → (change : FileChange) × (gain_change shift tags file s ≡ Ok change)
  unfolding gain_change
  legal-gain tags legal = search (rules, legal-noted, legal-plain)

-- ---- undo

-- an undo that isn't refused is legal
pub undo-legal : (file : List ℕ) (s : SurveyFields) (change : FileChange)
    → undo_change file s ≡ Ok change → IsLegalUndo (record { bytes = file; survey = s })
undo-legal file s change e =
    grind (arith, undone-parts e, read_ok, found-ok, free-moves, constant_steps-agree)

-- a legal undo isn't refused
pub legal-undo : (file : List ℕ) (s : SurveyFields)
    → IsLegalUndo (record { bytes = file; survey = s })
    → (change : FileChange) × (undo_change file s ≡ Ok change)
unfolding undo_change
legal-undo file s legal =
    let steps = undo_steps legal.undo in
    let change : FileChange =
    record {
      steps = constant_steps steps;
      tag = Some (bytes_unless_empty (tag_without_undo legal.tag));
    } in (
      change,
      ap (λ (r : Result TagFields FileTagFault). then_made (tag_result r)
          (λ tag. then_made (found_undo (tag_offset s) (undo_from 32 tag.items))
          (undone_change s tag)))
          legal.read
          ∙ ap (λ (item : UndoItem). then_made (found_undo (tag_offset s) item)
          (undone_change s legal.tag)) legal.item
          ∙ ap (λ (o : Option Refusal). refusal_or o change)
          (moves-free (constant_steps steps) s.frames (constant_steps-agree steps s.frames)
          legal.gains),
    )

-- ---- a changed file

-- a changed file has a change
pub with-parts : (file : List ℕ) (s : SurveyFields) {r : Result FileChange EditFault}
    {bytes : List ℕ} → changed_or_fault file s r ≡ Ok bytes
    → (change : FileChange) × (r ≡ Ok change)
with-parts file s e = grind arith
