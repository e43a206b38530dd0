-- The frames that are shared, and whether they are alike.
use Rattle.std.proofs.Common.{ap, arith, Bool, cond, drop, false, get_or, length, List, map, None}
use Rattle.std.proofs.Common.{refl, rules, Some, subst, suc, sym, true, zero, ℕ, [], ◌+◌, ◌-◌, ◌<◌}
use Rattle.std.proofs.{Common.{◌∙◌, ◌∷◌, ◌≡◌, ◌≤◌}, lemmas.Bool.leb-true}
use Rattle.std.proofs.lemmas.List.{drop_all, length-drop, length-map, Elements.All-drop}
use Rattle.std.specs.Prelude.{nat_le}
use Rattle.joined_inputs.specs.Inputs.{input_view, InputFields}
use Rattle.laying.specs.Needs.{need_of}
use Rattle.outside.specs.Files.{Contents, Files, IfTold}
use Rattle.seam_plan.specs.Decisions.{frame_place, last_places}
use Rattle.seam_plan.specs.declared.splice.FramePlace.{FramePlace}
use Rattle.seamless_edits.proofs.AlikeLemmas.{ends-here, none-alike, tested-alike}
use Rattle.seamless_edits.proofs.{DecideLemmas.sounds_from, decided.alike.Goals.In-loop-place}
use Rattle.seamless_edits.specs.Sounds.{all_splice_frames, AreFramePlaces, IsFramePlace}
use Rattle.seamless_edits.specs.Sounds.{same_sounds}
use Rattle.seamless_edits.proofs.decided.alike.Given as given
use Rattle.seamless_edits.proofs.decided.alike.Goals as goal

last-places : (places last : List FramePlace) (count : ℕ) → Some last ≡ last_places places count
    → (count ≤ length places) × (last ≡ drop (length places - count) places)
last-places places last count is = at (nat_le count (length places)) refl is
  where
    at : (b : Bool) → nat_le count (length places) ≡ b
        → Some last ≡ cond b (Some (drop (length places - count) places)) None
        → (count ≤ length places) × (last ≡ drop (length places - count) places)
    at true test e = (leb-true count (length places) test, cc)
    at false test e = absurd cc

drop-here : (n : ℕ) (places : List FramePlace) (d : FramePlace) → n < length places
    → drop n places ≡ get_or places n d ∷ drop (n + 1) places
drop-here n [] d within = absurd (omega (arith, within))
drop-here zero (p ∷ places) d within = refl
drop-here (suc n) (p ∷ places) d within =
    grind (arith, drop-here n places d (omega (arith, within)))

all-compared : (files : Files) (inputs : List InputFields) (number frame n : ℕ)
    (places : List FramePlace) (all : Contents → Bool) → length places ≤ n → IfTold files
    (λ f. sounds_from (all_splice_frames f inputs) number frame (drop n places) ≡ all f)
    → IfTold files (λ f. all f ≡ true)
all-compared files inputs number frame n places all past is = search (rules, drop_all)

pub returns-in_default-last-clause-alike : goal.returns-in_default-last-clause-alike
returns-in_default-last-clause-alike g c =
    none-alike (map input_view c.args.inputs.now)
    c.args.number c.in-Some.ensures.overlap c.in-Some.ensures.can
    (g.D.Folder.seen c.args.folder.now).files c.in_default-last.ensures refl

-- the places of the frames that are compared, and how many they are
module _ (g : given.Over) (c : In-loop-place g) where
  abbrev shared : ℕ
  shared = c.in-Some.overlap.frames - c.in-Some.overlap.first_alike

  last : (shared ≤ length c.requires.next.places) × (c.in-Some-last.places.now
      ≡ drop (length c.requires.next.places - shared) c.requires.next.places)
  last =
      let next = c.requires.next in
      last-places next.places c.in-Some-last.places.now shared
      (c.in-Some-last.ensures next.class next.frames next.places next.before next.is_splice
      (omega (arith, c.in-Some.ensures.can.few)))

  many : length c.in-Some-last.places.now ≡ shared
  many = grind (arith, length-drop, c.requires.next.places, last.1, last.0)

pub sound_alike-requires-clause-first : goal.sound_alike-requires-clause-first
sound_alike-requires-clause-first g c =
    let next = c.requires.next in
    let inputs = map input_view c.args.inputs.now in
    let compared = (goal.at.sound_alike-requires-clause-first g c).In-loop-place in
    let at : AreFramePlaces inputs c.in-Some-last.places.now =
    subst (AreFramePlaces inputs) (sym (last g compared).1)
    (All-drop (IsFramePlace inputs)
    (length next.places - shared g compared) next.places next.at) in
    at c.loop-place.place-index _ (omega (arith, c.loop-place-test.true))

pub sound_alike-requires-clause-second : goal.sound_alike-requires-clause-second
sound_alike-requires-clause-second g c =
    let next = c.requires.next in
    let needs : length c.args.input.now.needs.now ≡ length next.item.survey.frames =
    ap length next.needs ∙ length-map next.item.survey.frames need_of in
    record {
      item = next.item;
      input = next.found;
      frame = omega (
        arith,
        c.loop-place.invariant.frame,
        c.loop-place-test.true,
        many g (goal.at.sound_alike-requires-clause-second g c).In-loop-place,
        c.in-Some.ensures.can.within,
        needs,
      );
    }

pub returns-then-not-branch-clause-alike : goal.returns-then-not-branch-clause-alike
returns-then-not-branch-clause-alike g c =
    let inputs = map input_view c.args.inputs.now in
    let o = c.in-Some.overlap in
    let places = c.in-Some-last.places.now in
    let files = (g.D.Folder.seen c.args.folder.now).files in
    let n = c.loop-place.place-index in
    let p = get_or places n (record { input = 0; frame = 0 }) in
    let no : c.in_ok-sound_alike.field-0 ≡ false = search rules in
    let same =
    subst (λ fs. IfTold fs (λ f. c.in_ok-sound_alike.field-0 ≡ same_sounds (all_splice_frames f
    inputs) p (frame_place c.args.number c.loop-place.frame))) c.loop-place.invariant.files
    c.in_ok-sound_alike.ensures.same in
    tested-alike inputs c.args.number
    c.in-Some.ensures.overlap c.in-Some.ensures.can files false c.in-Some-last.ensures
    (ends-here inputs c.args.number c.loop-place.frame
    (drop-here n places (record { input = 0; frame = 0 }) (omega (arith, c.loop-place-test.true)))
    files (λ f. sounds_from (all_splice_frames f inputs) c.args.number o.first_alike places) no same
    c.loop-place.invariant.alike)

pub overflow_add-frame : goal.overflow_add-frame
overflow_add-frame g c =
    omega (
      arith,
      c.loop-place.invariant.frame,
      c.loop-place-test.true,
      many g (goal.at.overflow_add-frame g c).In-loop-place,
      c.in-Some.ensures.can.within,
      c.requires.next.can.few,
    )

pub returns-clause-alike : goal.returns-clause-alike
returns-clause-alike g c =
    let inputs = map input_view c.args.inputs.now in
    let o = c.in-Some.overlap in
    let places = c.in-Some-last.places.now in
    let files = (g.D.Folder.seen c.args.folder.now).files in
    tested-alike inputs c.args.number
    c.in-Some.ensures.overlap c.in-Some.ensures.can files true c.in-Some-last.ensures
    (all-compared files inputs c.args.number c.loop-place.frame c.loop-place.place-index places
    (λ f. sounds_from (all_splice_frames f inputs) c.args.number o.first_alike places)
    (omega (arith, c.loop-place-test.false)) c.loop-place.invariant.alike)
