-- The stream of a seamless join: at most one lead-in, and the frames of the splice.
use Rattle.std.proofs.Common.{ap, append-nil, ap₂, arith, Bool, cond, drop, false, flat_map, length}
use Rattle.std.proofs.Common.{List, map, not, refl, subst, sym, true, ℕ, [], ◌++◌, ◌-◌, ◌<◌, ◌∙◌}
use Rattle.std.proofs.{Common.{◌∷◌, ◌≡◌, ◌≤◌}, lemmas.Bool.{and_parts, both_ways}}
use Rattle.std.proofs.lemmas.List.{drop-append-le, drop-map, length-map, map-append}
use Rattle.chosen_streams.proofs.ExactLemmas.{frames-on, no-frames, one-on}
use Rattle.cut_edits.proofs.SpanLemmas.{for_length}
use Rattle.frame_header.specs.{Fields.ClassFields, Tables.window_of}
use Rattle.laying.specs.NeedsFit.{own_choice}
use Rattle.laying.specs.Relaid.{FilePart, part_stream, silent_lead_in, stream_with_lead_ins}
use Rattle.seam_laws.proofs.OwnLeadInLemmas.{lead-where-wanted}
use Rattle.seam_laws.proofs.SeamlessInputLemmas.{AreInputs, brought-fit, brought-many}
use Rattle.seam_laws.proofs.SeamlessInputLemmas.{brought-sounds, input-whole, inputs-fit}
use Rattle.seam_laws.proofs.SeamlessInputLemmas.{inputs-whole, Joins, stream-from, whole_stream}
use Rattle.seam_laws.specs.LeadInLaws.{AreInOwnSlots, AreLedInOwnSlots}
use Rattle.seam_plan.proofs.{FitLemmas.fits-tested, FollowLemmas.sounds}
use Rattle.seam_plan.proofs.SpliceSoundLemmas.{sounds_left, splice-sounds}
use Rattle.seam_plan.specs.Frames.{Brought, needs_of, SpliceFrame}
use Rattle.seam_plan.specs.Joins.{fits_behind, has_lead_in}
use Rattle.seam_plan.specs.Seams.{front_left_out_count, JointFrames, joints_of, left_out_count}
use Rattle.seam_plan.specs.Seams.{seamless_join, SeamlessJoin, splice_of, splice_with}
use Rattle.seamless_edits.proofs.SplicePartLemmas.{splice-planned as files-planned}
use Rattle.seamless_edits.specs.Seamless.{join_of_parts, later_parts, part_brought, part_from}
use Rattle.seamless_edits.specs.Seamless.{seamless_stream, sound_of, splice_lead_ins, splice_parts}
use Rattle.seamless_edits.specs.Seamless.{splice_plan}
use Rattle.slot_plan.specs.{Parts.need_item, Plans.{AreItemSlots, IsPlan}, declared.needs.Need.Need}
use Rattle.slot_plan.specs.declared.needs.Placed.{Placed}
use Rattle.sync_survey.specs.MainData.{StreamFrame}

-- a value whose negation is true is false
pub not-true : {b : Bool} → not b ≡ true → b ≡ false
not-true is = grind arith

-- ---- its lead-ins

-- The lead-ins of a plan: none where the frames fit with no free bytes before them, otherwise one.
pub record HasLeads (window : ℕ) (needs : List Need) (placed : List Placed)
    (stream : List StreamFrame) : Type 0 where
  pub leads : List StreamFrame
  pub is : stream_with_lead_ins placed stream ≡ leads ++ stream
  pub many : length placed - length needs ≡ length leads
  pub own : fits_behind window 0 needs ≡ true → leads ≡ []
  pub led : fits_behind window 0 needs ≡ false
      → (f : StreamFrame) × (fs : List StreamFrame) × (stream ≡ f ∷ fs)
      × (leads ≡ silent_lead_in f ∷ [])

-- in a plan of frames in their own slots, all frames are there, and nothing else
pub own-frames : (needs : List Need) {stream : List StreamFrame} (placed : List Placed)
    → length stream ≡ length needs → AreInOwnSlots needs placed
    → stream_with_lead_ins placed stream ≡ stream
own-frames needs {stream} placed same own =
    let for_all =
    subst (λ l. AreItemSlots l placed) (sym (append-nil (map (need_item own_choice) needs))) own in
    let on = frames-on own_choice [] needs stream [] placed same for_all in
    ap (stream_with_lead_ins placed) (sym (append-nil stream)) ∙ on.1
    ∙ ap (stream ++◌) (no-frames on.0)
    ∙ append-nil stream

-- a plan of frames in their own slots has a place for each
pub own-many : (needs : List Need) (placed : List Placed) → AreInOwnSlots needs placed
    → length placed ≡ length needs
own-many needs placed own = grind (arith, for_length, own, length-map)

led-leads : {window : ℕ} (needs : List Need) (placed : List Placed) (stream : List StreamFrame)
    → length stream ≡ length needs
    → fits_behind window 0 needs ≡ false → AreLedInOwnSlots window needs placed
    → HasLeads window needs placed stream
unfolding AreLedInOwnSlots
led-leads [] placed stream same lacks led = absurd led
led-leads (need ∷ needs) [] stream same lacks led = absurd led
led-leads (need ∷ needs) (p ∷ placed) [] same lacks led = absurd (omega (arith, same))
led-leads {window} (need ∷ needs) (p ∷ placed) (f ∷ stream) same lacks led = record {
  leads = silent_lead_in f ∷ [];
  is = one-on p placed f stream led.0
      ∙ ap (silent_lead_in f ∷◌)
      (own-frames (need ∷ needs) placed same led.2);
  many = omega (arith, own-many (need ∷ needs) placed led.2);
  own = λ fits. absurd (both_ways (fits_behind window 0 (need ∷ needs)) lacks fits);
  led = λ lacks. (f, stream, refl, refl);
}

-- a stream with one frame for each need has the lead-ins of a plan of these needs
pub has-leads : {window : ℕ} {needs : List Need} {placed : List Placed} {stream : List StreamFrame}
    → IsPlan window own_choice (needs ∷ []) placed
    → length stream ≡ length needs → HasLeads window needs placed stream
has-leads {window} {needs} {placed} {stream} plan same =
    at (fits_behind window 0 needs) refl
  where
    at : (b : Bool) → fits_behind window 0 needs ≡ b → HasLeads window needs placed stream
    at true fits =
        let own =
        (lead-where-wanted window needs placed plan).0 ((fits-tested window 0 needs).0 fits) in
        record {
          leads = [];
          is = own-frames needs placed same own;
          many = omega (arith, own-many needs placed own);
          own = λ fits. refl;
          led = λ lacks. absurd (both_ways (fits_behind window 0 needs) lacks fits);
        }
    at false lacks =
        led-leads needs placed stream same lacks
        ((lead-where-wanted window needs placed plan).1
        (λ fits. both_ways (fits_behind window 0 needs) lacks
        ((fits-tested window 0 needs).1 fits)))

-- ---- the splice and its stream

left-sounds : (class : ClassFields) (joints : List JointFrames) (parts : List FilePart)
    → AreInputs class parts
    → map (sound_of class) (flat_map part_stream (later_parts joints parts))
    ≡ sounds_left joints (map part_brought parts)
left-sounds class [] parts are = refl
left-sounds class (j ∷ joints) [] are = refl
left-sounds class (j ∷ joints) (p ∷ parts) are =
    let k = left_out_count j.seam in
    map-append (sound_of class) (part_stream (part_from k p))
    (flat_map part_stream (later_parts joints parts))
    ∙ ap₂ ◌++◌
    (ap (map (sound_of class)) (stream-from are.0 k)
    ∙ sym (drop-map (sound_of class) k (whole_stream are.0))
    ∙ ap (drop k) (sym (brought-sounds are.0))
    ∙ drop-map (λ (f : SpliceFrame). f.sound) k (part_brought p).frames)
    (left-sounds class joints parts are.1)

cond-few : (b : Bool) → cond b 1 0 ≤ 1
cond-few b = grind arith

cond-some : {b : Bool} → 0 < cond b 1 0 → b ≡ true
cond-some some = grind arith

module _ {class : ClassFields} {first : FilePart} {parts : List FilePart}
    (are : Joins class first parts) where
  abbrev pub window : ℕ
  window = window_of class.version

  abbrev pub brought : Brought
  brought = part_brought first

  abbrev pub others : List Brought
  others = map part_brought parts

  abbrev pub joined : SeamlessJoin
  joined = join_of_parts first parts

  -- all frames of the splice, with those that leave it at the end
  abbrev pub all : List SpliceFrame
  all = splice_with brought (joints_of class brought others)

  abbrev pub splice : List SpliceFrame
  splice = splice_of brought joined

  -- its joints are the joints of the inputs after the first
  pub joints-are : joined.joints ≡ joints_of class brought others
  unfolding seamless_join
  joints-are = ap (λ d. joints_of d brought others) are.head.of_class

  -- how many frames leave the splice at the end
  pub front-is : joined.front ≡ front_left_out_count class brought all
  unfolding seamless_join
  front-is =
      ap (λ d. front_left_out_count d brought (splice_with brought (joints_of d brought others)))
      are.head.of_class

  -- the splice is all of these frames but for those that leave it at the end
  pub splice-is : splice ≡ drop joined.front all
  splice-is = grind (arith, joints-are)

  -- no more than one frame leaves it
  pub front-few : joined.front ≤ 1
  unfolding front_left_out_count
  front-few = grind (arith, front-is, cond-few)

  -- where a frame leaves the splice, the first input has a
  -- lead-in at its front, and the frames that stay need one
  pub front-parts : 0 < joined.front
      → (has_lead_in window brought ≡ true) × (fits_behind window 0 (needs_of splice) ≡ false)
  unfolding front_left_out_count
  front-parts some = grind (arith, and_parts, cond-some, front-is, front-few, splice-is, not-true)

  -- its plan
  pub splice-planned : IsPlan window own_choice (needs_of splice ∷ []) (splice_plan first parts)
  splice-planned = grind (arith, files-planned, input-whole, inputs-whole)

  abbrev pub stream : List StreamFrame
  stream = flat_map part_stream (splice_parts first parts)

  first-many : 1 ≤ length brought.frames
  first-many = omega (arith, brought-many are.head, are.head.some)

  -- the stream sounds as the splice does
  pub stream-sounds : map (sound_of class) stream ≡ sounds splice
  stream-sounds =
      let k = joined.front in
      map-append (sound_of class) (part_stream (part_from k first))
      (flat_map part_stream (later_parts joined.joints parts))
      ∙ ap₂ ◌++◌
      (ap (map (sound_of class)) (stream-from are.head k)
      ∙ sym (drop-map (sound_of class) k (whole_stream are.head))
      ∙ ap (drop k) (sym (brought-sounds are.head)))
      (left-sounds class joined.joints parts are.others
      ∙ ap (λ js. sounds_left js others) joints-are)
      ∙ sym (drop-append-le k (sounds brought.frames)
      (sounds_left (joints_of class brought others) others)
      (omega
      (arith, front-few, first-many, length-map brought.frames (λ (f : SpliceFrame). f.sound))))
      ∙ ap (drop k)
      (sym (splice-sounds class others (brought-fit are.head)
      (inputs-fit class parts are.others)))
      ∙ drop-map (λ (f : SpliceFrame). f.sound) k all
      ∙ ap sounds (sym splice-is)

  -- the stream is as long as the splice
  pub stream-length : length stream ≡ length (needs_of splice)
  stream-length = grind (arith, length-map, stream-sounds)

  -- the lead-ins that the plan of the splice puts before the stream
  pub splice-leads : HasLeads window (needs_of splice) (splice_plan first parts) stream
  splice-leads = grind (arith, has-leads, splice-planned, stream-length)

  -- the stream of the join is these lead-ins, and then the stream of the splice
  pub seamless-is : seamless_stream (first ∷ parts) ≡ splice-leads.leads ++ stream
  unfolding seamless_stream
  seamless-is = splice-leads.is

  -- this is the number of lead-ins of the splice
  pub leads-many : splice_lead_ins first parts ≡ length splice-leads.leads
  leads-many = grind (arith, length-map)
