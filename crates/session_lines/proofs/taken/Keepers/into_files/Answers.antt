use Rattle.std.proofs.Common.{List, sym, subst}
use Rattle.std.specs.Prelude.{reverse}
use Rattle.std.specs.Option.{option_map}
use Rattle.std.proofs.lemmas.Result.{IfOk-weaker}
use Rattle.hfs_volume.specs.TreeOf.{tree_of}
use Rattle.session_lines.specs.Keepers.{FindsFiles, left_by}
use Rattle.session_lines.specs.declared.taken.Told.{Told}
use Rattle.session_lines.proofs.KeptFound.{finds_of, look_finds}
use Rattle.session_lines.proofs.taken.Keepers.into_files.Goals as goal

pub returns : goal.returns
returns c capacity start sound few ends right =
    let tree = tree_of start in
    let found = subst (λ (l : List Told). FindsFiles tree (option_map reverse (left_by l))) (sym c.as_slice.ensures.value) (look_finds capacity start (c.sound_content_has_tree.ensures start sound) few c.args.self.heard.items c.args.self.waiting ends right) in
    IfOk-weaker c.files_left.result _ _ (λ given is. finds_of tree (left_by c.as_slice.result.now) (λ files. files.items) given found is) c.files_left.ensures
