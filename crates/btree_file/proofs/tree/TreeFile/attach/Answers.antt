use Rattle.std.proofs.Common.{◌≡◌, ◌/◌, ℕ, List, sym, subst}
use Rattle.std.specs.Prelude.{IfOk}
use Rattle.hx_bytes.specs.declared.extents.Extent.{Extent}
use Rattle.btree_node.specs.TreeFile.{shape_of}
use Rattle.sector_disk.specs.Space.{Space}
use Rattle.btree_file.specs.Held.{HoldsNodes, file_in}
use Rattle.btree_file.specs.Place.{IsInside, AreApart}
use Rattle.fork_map.specs.Blocks.{fork_sectors}
use Rattle.btree_file.proofs.Edited.{stands_read}
use Rattle.btree_file.proofs.tree.TreeFile.attach.Goals as goal

-- what holds of a fork holds of its copy
apart_copy : (fork own : List Extent) (per : ℕ) → own ≡ fork → AreApart (fork_sectors fork per) → AreApart (fork_sectors own per)
apart_copy fork own per same = subst (λ (f : List Extent). AreApart (fork_sectors f per)) (sym same)

holds_copy : (fork own : List Extent) (per : ℕ) (content : List (List ℕ)) → own ≡ fork → HoldsNodes (fork_sectors fork per) (file_in (fork_sectors fork per) content) → HoldsNodes (fork_sectors own per) (file_in (fork_sectors own per) content)
holds_copy fork own per content same = subst (λ (f : List Extent). HoldsNodes (fork_sectors f per) (file_in (fork_sectors f per) content)) (sym same)

pub read_fork-requires-clause-inside : goal.read_fork-requires-clause-inside
read_fork-requires-clause-inside g c = subst (λ (f : List Extent). IsInside f (c.args.block / 512) (g.V.SectorView.space c.args.view.now)) (sym c.in_ok-own.ensures) c.requires.inside

pub returns-clause-stands : goal.returns-clause-stands
returns-clause-stands g c = λ tells apart holds.
    let old : Space = g.V.SectorView.space c.args.view.now in
    let own : List Extent = c.in_ok-own.own in
    let apart_own = apart_copy c.args.fork.now own (c.args.block / 512) c.in_ok-own.ensures apart in
    let holds_own = holds_copy c.args.fork.now own (c.args.block / 512) old.content c.in_ok-own.ensures holds in
    stands_read own (c.args.block / 512) old.content holds_own c.read_fork.result (c.read_fork.ensures.agrees tells apart_own holds_own) (c.read_fork.ensures.settled tells apart_own holds_own) (c.read_fork.ensures.file tells apart_own holds_own)
    (c.read_fork.ensures.first tells apart_own holds_own)

pub returns-clause-file : goal.returns-clause-file
returns-clause-file g c = λ tells apart holds.
    let old : Space = g.V.SectorView.space c.args.view.now in
    let own : List Extent = c.in_ok-own.own in
    subst (λ (f : List Extent). IfOk c.read_fork.result (λ tree. (tree.shape ≡ shape_of (file_in (fork_sectors f (c.args.block / 512)) old.content).head) × (tree.fork ≡ f) × (tree.per_block ≡ c.args.block / 512))) c.in_ok-own.ensures
    (c.read_fork.ensures.file tells (apart_copy c.args.fork.now own (c.args.block / 512) c.in_ok-own.ensures apart) (holds_copy c.args.fork.now own (c.args.block / 512) old.content c.in_ok-own.ensures holds))
