-- `rwrite`: a sound volume stays sound, and its tree is the step's.
use Rattle.std.proofs.Common.{◌≡◌, ◌<◌, ℕ, ◌+◌, List, [], ◌∷◌, length, refl, sym, ◌∙◌, ap, arith}
use Rattle.std.specs.Prelude.{◌||◌, nat_lt, Result, Ok}
use Rattle.hfs_language.specs.declared.refusal.Refusal.{Refusal}
use Rattle.hfs_language.specs.declared.refusal.Refusal.TheVariants as refusal
use Rattle.hfs_language.specs.declared.reply.Reply.TheVariants as reply
use Rattle.hfs_model.specs.declared.plain.PlainNode.{PlainNode}
use Rattle.hfs_model.specs.declared.plain.PlainTree.{PlainTree}
use Rattle.hfs_model.specs.Kinds.{resource_written, with_resource}
use Rattle.hfs_model.specs.Step.{most_bytes, most_size, on, to_file, unless}
use Rattle.hfs_volume.specs.Forks.{resource_kind}
use Rattle.hfs_volume.specs.Kinds.{ResourceWriteDoes}
use Rattle.hfs_volume.specs.TreeOf.{tree_in}
use Rattle.hfs_volume.specs.Writing.{written_bytes}
use Rattle.hfs_volume.proofs.Reaching.{then_ok, unless_ok}
use Rattle.hfs_volume.proofs.WritLaw.{reaches_file, resource_alone, rewritten_forks, rewritten_sound}

abbrev stepped : PlainTree → ℕ → List ℕ → Result PlainNode Refusal → PlainTree
stepped tree at value r = (on tree r (λ file. (reply.Ok, resource_written file at value tree))).1

written_is : (file : PlainNode) (at : ℕ) (value : List ℕ) (tree : PlainTree) → 0 < length value → resource_written file at value tree ≡ with_resource file.id (written_bytes at value file.resource) tree
written_is file at [] tree some = absurd (omega (arith, some))
written_is file at (byte ∷ value) tree some = refl

pub resource_write_law : ResourceWriteDoes
resource_write_law path at value file from count fresh old new bytes_of bytes_after are sound some allowed does makes =
    let tree = tree_in old bytes_of in
    let first = then_ok (to_file tree path) (unless (nat_lt most_size (at + length value) || nat_lt most_bytes (length value)) refusal.TooLarge) file allowed in
    let same : first.0 ≡ file = (unless_ok (nat_lt most_size (at + length value) || nat_lt most_bytes (length value)) refusal.TooLarge first.0 file first.2).1 in
    let it = reaches_file old bytes_of path file (first.1 ∙ ap Ok same) in (
      rewritten_sound (written_bytes at value) file resource_kind from count fresh old new bytes_of bytes_after are sound it does makes,
      rewritten_forks (written_bytes at value) file resource_kind from count fresh old new bytes_of bytes_after are sound it does makes
          ∙ resource_alone (written_bytes at value) file resource_kind from count fresh old new bytes_of bytes_after are sound it does makes
          ∙ sym (written_is file at value tree some)
          ∙ sym (ap (stepped tree at value) allowed),
    )
