use Rattle.std.proofs.Common.{◌≡◌, ◌≤◌, ◌+◌, ◌*◌, ◌/◌, List, ℕ, length, ◌∙◌, ap, sym, subst}
use Rattle.fork_map.specs.Blocks.{fork_sectors}
use Rattle.fork_map.specs.Nodes.{node_of}
use Rattle.sector_disk.specs.Space.{Space}
use Rattle.btree_file.proofs.putting.take_held.Goals as goal

pub held_node-requires-clause-whole : goal.held_node-requires-clause-whole
held_node-requires-clause-whole g c =
    subst (λ (b : List ℕ). (c.args.node + 1) * (length b / 512) ≤ length (fork_sectors c.args.fork.now c.args.per_block)) (sym c.bytes.ensures.value) c.requires.whole

pub returns-clause-value : goal.returns-clause-value
returns-clause-value g c = λ held tells.
    let now : Space = g.V.SectorView.space c.args.space.now in
    c.take_over.ensures ∙ c.in-Some.ensures.value tells
    ∙ ap (λ (b : List ℕ). node_of now.content (fork_sectors c.args.fork.now c.args.per_block) (length b / 512) c.args.node) c.bytes.ensures.value
