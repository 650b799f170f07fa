use Rattle.std.proofs.Common.{◌≡◌, ◌/◌, ℕ, List, length, sym, ◌∙◌, ap, subst}
use Rattle.std.specs.Prelude.{OnOk}
use Rattle.fork_map.specs.Blocks.{fork_sectors}
use Rattle.volume_repair.specs.Repair.{leaf_mended}
use Rattle.fsck_repair.specs.Changing.{Notes}
use Rattle.fsck_repair.specs.Leaf.{IsGoodLeaf, IsOfNode, MendsNode}
use Rattle.fsck_repair.proofs.RightLaws.{right_noted}
use Rattle.fsck_repair.proofs.leaves.mend_read.Goals as goal

pub returns-then-stays-clause-notes : goal.returns-then-stays-clause-notes
returns-then-stays-clause-notes g c content records shows skipped are was good mends =
    right_noted content c.args.fork.now.limit c.args.n (fork_sectors c.args.fork.now.extents.now c.args.fork.now.per_block) c.args.node.now records c.args.changes.now.items was
    (c.in_ok-stays.ensures.inside c.if-stays.true) (c.in_ok-stays.ensures.right records are good c.if-stays.true) mends

pub returns-clause-notes : goal.returns-clause-notes
returns-clause-notes g c content records shows skipped are was good mends =
    let sectors : List ℕ = fork_sectors c.args.fork.now.extents.now c.args.fork.now.per_block in
    let node : List ℕ = c.args.node.now in
    let size : ℕ = length node in
    let bytes : c.bytes.result.now ≡ node = c.bytes.ensures.value in
    let done : c.in_ok-bytes.bytes.items ≡ leaf_mended records node = c.in_ok-bytes.ensures.counted records are (subst IsGoodLeaf (sym bytes) good) ∙ ap (leaf_mended records) bytes in
    let shown : c.deref.result.now ≡ leaf_mended records node = c.deref.ensures.value ∙ done in
    let long : length c.deref.result.now ≡ size = ap (λ (l : List ℕ). length l) c.deref.ensures.value ∙ c.in_ok-bytes.ensures.size ∙ ap (λ (l : List ℕ). length l) bytes in
    subst (λ m. OnOk c.note_node.result (Notes content (IsOfNode content sectors (m / 512) c.args.n) c.args.changes.now.items c.note_node.new.changes.items)) long
    (c.note_node.ensures.notes content shows skipped (subst (λ m. MendsNode content sectors (m / 512) c.args.n c.deref.result.now) (sym long) (subst (λ (l : List ℕ). MendsNode content sectors (size / 512) c.args.n l) (sym shown) mends)))
