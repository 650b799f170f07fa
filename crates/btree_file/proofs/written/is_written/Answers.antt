use Rattle.std.proofs.Common.{◌+◌, ◌&&◌, ℕ, List, Bool, drop, sym, ◌∙◌, ap, arith}
use Rattle.std.specs.List.{list_all}
use Rattle.fork_map.specs.Blocks.{fork_sectors}
use Rattle.btree_file.specs.Place.{sectors_at}
use Rattle.btree_file.proofs.PlaceLaws.{next_sector, end_of_fork}
use Rattle.btree_file.proofs.written.is_written.Goals as goal

pub returns-in_default : goal.returns-in_default
returns-in_default g c =
    let fork = fork_sectors c.args.fork.now c.args.per_block in
    let put = (g.P.SectorView.space c.args.space.now).put in
    sym (c.loop-k.invariant ∙ ap (λ (l : List ℕ). list_all put l) (end_of_fork fork c.args.per_node c.args.node c.loop-k.k c.in_default.ensures))

pub returns-then-not-is_put : goal.returns-then-not-is_put
returns-then-not-is_put g c =
    let fork = fork_sectors c.args.fork.now c.args.per_block in
    let put = (g.P.SectorView.space c.args.space.now).put in
    sym (c.loop-k.invariant ∙ ap (λ (l : List ℕ). list_all put l) (next_sector fork c.args.per_node c.args.node c.loop-k.k c.in-Some.at (omega arith) (sym c.in-Some.ensures))
    ∙ ap (λ (b : Bool). b && list_all put (drop (c.loop-k.k + 1) (sectors_at fork c.args.per_node c.args.node))) (sym c.is_put.ensures ∙ c.if-not-is_put.true))

pub loop-k-preserved : goal.loop-k-preserved
loop-k-preserved g c =
    let fork = fork_sectors c.args.fork.now c.args.per_block in
    let put = (g.P.SectorView.space c.args.space.now).put in
    c.loop-k.invariant ∙ ap (λ (l : List ℕ). list_all put l) (next_sector fork c.args.per_node c.args.node c.loop-k.k c.in-Some.at (omega arith) (sym c.in-Some.ensures))
    ∙ ap (λ (b : Bool). b && list_all put (drop (c.loop-k.k + 1) (sectors_at fork c.args.per_node c.args.node))) (sym c.is_put.ensures ∙ c.if-not-is_put.false)
