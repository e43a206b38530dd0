-- The texts are equal exactly if their letters are, ignoring case.
use Rattle.std.proofs.{Common.{rules, ◌≡◌}, lemmas.Bool.Decides.same_from_decides}
use Rattle.std.{proofs.lemmas.Slice.Eq.bytes_eq-Decides, specs.Char.to_ascii_lowercase}
use Rattle.std.specs.Prelude.{codes, map}
use Rattle.tag_blocks.specs.Items.{is_undo}
use Rattle.tag_blocks.proofs.item.ApeItem.is_undo.Goals as goal

pub returns : goal.returns
unfolding is_undo
returns c =
    let test = c.eq_ignore_ascii_case.ensures.test in
    let key : c.deref.result.now ≡ c.args.self.now.key = search rules in
    same_from_decides _ _ test (rw key (bytes_eq-Decides
    (map to_ascii_lowercase c.args.self.now.key) (map to_ascii_lowercase (codes "MP3GAIN_UNDO"))))
