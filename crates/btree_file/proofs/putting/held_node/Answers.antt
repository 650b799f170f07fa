use Rattle.std.proofs.Common.{◌/◌, refl, ◌∙◌}
use Rattle.fork_map.specs.Blocks.{fork_sectors}
use Rattle.sector_disk.specs.Space.{Space}
use Rattle.btree_file.proofs.HeldNodes.{run_is_node}
use Rattle.btree_file.proofs.putting.held_node.Goals as goal

pub returns-clause-value : goal.returns-clause-value
returns-clause-value g c = λ tells.
    let now : Space = g.V.SectorView.space c.args.space.now in
    let per = c.args.size / 512 in
    c.in-Some-held.ensures tells ∙ run_is_node now.content (fork_sectors c.args.fork.now c.args.per_block) c.args.node c.in-Some.first per per refl c.requires.whole c.in-Some.ensures.following
