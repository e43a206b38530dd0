use Rattle.std.proofs.Common.{ap, arith, drop, length, length-drop, List, min, rules, take, ℕ, ◌++◌}
use Rattle.std.proofs.{Common.{◌-◌, ◌∙◌, ◌≡◌}, lemmas.List.length-take-le}
use Rattle.outside.proofs.FeedLemmas.{fed_by, fed_front, fills, given_is, within_filled}
use Rattle.outside.{proofs.feed.Feed.refill.Given.Over, specs.Files.Holds}
use Rattle.outside.proofs.feed.Feed.refill.Goals as goal

-- the buffer is what was read into it
room_is : (g : Over) (c : goal.After-self-3-1 g) → take c.self.inside.room.len (c.read_on.new.into
    ++ drop (length c.read_on.new.into) c.self.inside.room.items) ≡ c.read_on.new.into
room_is g c = grind (arith, fills)

read : (g : Over) (c : goal.After-self-3-1 g) (bytes : List ℕ)
    → Holds (g.D.Folder.seen c.args.folder.now).files c.args.name.now bytes
    → take c.in_ok-self-inside.field-0 c.read_on.new.into
    ≡ take c.in_ok-self-inside.field-0 (drop c.args.at bytes)
read g c bytes holds = search (arith, fed_front)

pub invariant_of-self : goal.invariant_of-self
invariant_of-self g c =
    within_filled c.read_on.new.into _ (omega
    (arith, c.read_on.auto.into, c.keep_from-kept.auto.room, c.as_mut_slice-room.ensures.len))
    (omega (
      arith,
      c.as_mut_slice-room.ensures.len,
      ap length c.as_mut_slice-room.ensures.value,
      c.self.invariant.size,
    )) (omega arith) (omega arith) (omega (arith, c.requires.short))

pub invariant_of-self-2 : goal.invariant_of-self-2
invariant_of-self-2 g c =
    let size : length c.keep_from-kept.new.room ≡ 65536 = omega (
      arith,
      c.keep_from-kept.auto.room,
      ap length c.as_mut_slice-room.ensures.value,
      c.self.invariant.size,
    ) in
    within_filled c.read_on.new.into _
    (omega
    (arith, c.read_on.auto.into, c.keep_from-kept.auto.room, c.as_mut_slice-room.ensures.len))
    (omega (arith, size, c.keep_from-kept.auto.room, c.as_mut_slice-room.ensures.len))
    (omega (arith, size, c.in_ok-self-inside.ensures.bound))
    (omega (arith, c.min-self-inside.ensures)) (omega (arith, c.requires.short))

pub returns : goal.returns
returns g c = record {
  bound = search rules;
  given = grind (arith, room_is g c, length-take-le);
  bytes = λ bytes holds.
      let k = c.in_ok-self-inside.field-0 in
      let count : c.min-self-inside.result - 0 ≡ min c.args.n k =
      omega (arith, c.min-self-inside.ensures) in
      ap (λ n. take n (take c.self.inside.room.len (c.read_on.new.into
      ++ drop (length c.read_on.new.into) c.self.inside.room.items))) count
      ∙ ap (take (min c.args.n k)) (room_is g c)
      ∙ given_is c.read_on.new.into (drop c.args.at bytes) (read g c bytes holds)
      (λ short. omega
      (arith, length-drop c.args.at bytes, c.in_ok-self-inside.ensures.end bytes holds short));
  whole = search rules;
  ended = search rules;
  failed = search rules;
  none = search rules;
  fed = grind (arith, room_is g c, fed_by, read);
  files = search rules;
  done = search rules;
  counts = search rules;
}
