use Rattle.std.proofs.Common.{◌≡◌, ℕ, ◌/◌, List, length, sym, ◌∙◌, ap}
use Rattle.std.proofs.lemmas.List.{length-replicate}
use Rattle.fork_map.specs.Nodes.{node_of}
use Rattle.sector_disk.specs.Space.{Space}
use Rattle.btree_node.specs.TreeFile.{tree_head, shape_of}
use Rattle.fork_map.specs.Blocks.{fork_sectors}
use Rattle.btree_file.proofs.attaching.read_shape.Goals as goal

pub returns-clause-long : goal.returns-clause-long
returns-clause-long g c = λ tells.
    let old : Space = g.V.SectorView.space c.args.view.now in
    let size_is : length c.in_ok-page.page ≡ 512 = ap (λ (l : List ℕ). length l) c.in_ok-page.ensures ∙ length-replicate {A = ℕ} 512 0 in
    let read : c.get_node.new.into ≡ node_of old.content (fork_sectors c.args.fork.now c.args.per_block) 1 0 = c.in_ok-get_node.ensures.value tells ∙ ap (λ n. node_of old.content (fork_sectors c.args.fork.now c.args.per_block) (n / 512) 0) size_is in
    ap (λ (l : List ℕ). length l) (sym read) ∙ c.in_ok-get_node.ensures.length ∙ size_is

pub returns-clause-value : goal.returns-clause-value
returns-clause-value g c = λ tells.
    let old : Space = g.V.SectorView.space c.args.view.now in
    let size_is : length c.in_ok-page.page ≡ 512 = ap (λ (l : List ℕ). length l) c.in_ok-page.ensures ∙ length-replicate {A = ℕ} 512 0 in
    let read : c.get_node.new.into ≡ node_of old.content (fork_sectors c.args.fork.now c.args.per_block) 1 0 = c.in_ok-get_node.ensures.value tells ∙ ap (λ n. node_of old.content (fork_sectors c.args.fork.now c.args.per_block) (n / 512) 0) size_is in
    c.shape.ensures ∙ ap (λ (l : List ℕ). shape_of (tree_head l)) read
