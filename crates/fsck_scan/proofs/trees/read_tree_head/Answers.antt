use Rattle.std.proofs.Common.{◌≡◌, ℕ, ◌-◌, ◌/◌, ◌%◌, List, refl, sym, ◌∙◌, ap}
use Rattle.std.specs.Prelude.{Result, Ok, Err, IfOk}
use Rattle.sector_disk.specs.Space.{Space}
use Rattle.jnl_format.specs.Recovery.{Content}
use Rattle.btree_node.specs.TreeFile.{TreeHead, tree_head}
use Rattle.fork_map.specs.Blocks.{fork_sectors}
use Rattle.hfs_volume.specs.Content.{node_of_fork, tree_of_fork}
use Rattle.fsck_scan.specs.Form.{head_in, tree_in}
use Rattle.fsck_scan.specs.declared.form.Head.{Head}
use Rattle.fsck_scan.proofs.trees.read_tree_head.Goals as goal

-- the header record of a tree in a fork is that of its first sector
head_is : (content : Content) (limit : ℕ) (sectors : List ℕ) → tree_head (node_of_fork content limit sectors 512 0) ≡ (tree_of_fork content limit sectors).head
unfolding tree_of_fork
head_is content limit sectors = refl

then_is : {E : Type 0} (result : Result Head E) (one other : TreeHead) → one ≡ other → IfOk result (λ head. head_in head ≡ one) → IfOk result (λ head. head_in head ≡ other)
then_is (Ok head) one other same holds = holds ∙ same
then_is (Err e) one other same holds = holds

pub returns-clause-head : goal.returns-clause-head
returns-clause-head g c tells =
    let old : Space = g.V.SectorView.space c.args.view.now in
    let limit_is : c.whole_blocks-limit.result ≡ old.sectors - old.sectors % (c.args.block / 512) = c.whole_blocks-limit.ensures ∙ ap (λ n. n - n % (c.args.block / 512)) c.sectors.ensures in
    then_is c.find_head.result (tree_head (node_of_fork old.content c.whole_blocks-limit.result (fork_sectors c.in_ok-extents.extents (c.args.block / 512)) 512 0)) (tree_in old.content old.sectors c.args.block c.args.fork.now).head
    (head_is old.content c.whole_blocks-limit.result (fork_sectors c.in_ok-extents.extents (c.args.block / 512))
    ∙ (λ i. (tree_of_fork old.content (limit_is i) (fork_sectors (c.in_ok-extents.ensures i) (c.args.block / 512))).head)) (c.find_head.ensures.head tells)
