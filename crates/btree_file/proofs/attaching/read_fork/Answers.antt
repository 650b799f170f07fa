use Rattle.std.proofs.Common.{◌/◌, sym}
use Rattle.std.proofs.lemmas.Bool.{true≢false}
use Rattle.sector_disk.specs.Space.{Space}
use Rattle.btree_file.specs.FrameLaws.{reads_both}
use Rattle.fork_map.specs.Blocks.{fork_sectors}
use Rattle.btree_file.proofs.Holding.{shape_holds, some_held}
use Rattle.btree_file.proofs.attaching.read_fork.Goals as goal

pub returns-then-not-has_sectors-clause-agrees : goal.returns-then-not-has_sectors-clause-agrees
returns-then-not-has_sectors-clause-agrees g c = λ tells apart holds.
    let old : Space = g.V.SectorView.space c.args.view.now in
    absurd (true≢false (sym (c.if-not-has_sectors.ensures.1 (some_held (fork_sectors c.args.fork (c.args.block / 512)) old.content holds))))

pub returns-then-not-has_sectors-clause-settled : goal.returns-then-not-has_sectors-clause-settled
returns-then-not-has_sectors-clause-settled g c = λ tells apart holds.
    let old : Space = g.V.SectorView.space c.args.view.now in
    absurd (true≢false (sym (c.if-not-has_sectors.ensures.1 (some_held (fork_sectors c.args.fork (c.args.block / 512)) old.content holds))))

pub returns-then-not-has_sectors-clause-file : goal.returns-then-not-has_sectors-clause-file
returns-then-not-has_sectors-clause-file g c = λ tells apart holds.
    let old : Space = g.V.SectorView.space c.args.view.now in
    absurd (true≢false (sym (c.if-not-has_sectors.ensures.1 (some_held (fork_sectors c.args.fork (c.args.block / 512)) old.content holds))))

pub returns-then-not-has_nodes-clause-agrees : goal.returns-then-not-has_nodes-clause-agrees
returns-then-not-has_nodes-clause-agrees g c = λ tells apart holds.
    let old : Space = g.V.SectorView.space c.args.view.now in
    absurd (true≢false (sym (c.if-not-has_nodes.ensures.1 (shape_holds (fork_sectors c.args.fork (c.args.block / 512)) old.content c.in_ok-shape.shape (c.in_ok-shape.ensures.value tells) holds))))

pub returns-then-not-has_nodes-clause-settled : goal.returns-then-not-has_nodes-clause-settled
returns-then-not-has_nodes-clause-settled g c = λ tells apart holds.
    let old : Space = g.V.SectorView.space c.args.view.now in
    absurd (true≢false (sym (c.if-not-has_nodes.ensures.1 (shape_holds (fork_sectors c.args.fork (c.args.block / 512)) old.content c.in_ok-shape.shape (c.in_ok-shape.ensures.value tells) holds))))

pub returns-then-not-has_nodes-clause-file : goal.returns-then-not-has_nodes-clause-file
returns-then-not-has_nodes-clause-file g c = λ tells apart holds.
    let old : Space = g.V.SectorView.space c.args.view.now in
    absurd (true≢false (sym (c.if-not-has_nodes.ensures.1 (shape_holds (fork_sectors c.args.fork (c.args.block / 512)) old.content c.in_ok-shape.shape (c.in_ok-shape.ensures.value tells) holds))))

pub returns-clause-below : goal.returns-clause-below
returns-clause-below g c = g.met.V.SectorView.follows_trans c.args.view.now c.read_shape.new.view c.read_tree.new.view c.read_shape.ensures.below c.read_tree.ensures.below

pub returns-clause-reads : goal.returns-clause-reads
returns-clause-reads g c =
    reads_both (g.V.SectorView.space c.args.view.now) (g.V.SectorView.space c.read_shape.new.view) (g.V.SectorView.space c.read_tree.new.view) c.read_shape.ensures.reads c.read_tree.ensures.reads

pub returns-then-not-has_sectors-clause-first : goal.returns-then-not-has_sectors-clause-first
returns-then-not-has_sectors-clause-first g c = λ tells apart holds.
    let old : Space = g.V.SectorView.space c.args.view.now in
    absurd (true≢false (sym (c.if-not-has_sectors.ensures.1 (some_held (fork_sectors c.args.fork (c.args.block / 512)) old.content holds))))

pub returns-then-not-sectors_differ-clause-below : goal.returns-then-not-sectors_differ-clause-below
returns-then-not-sectors_differ-clause-below g c = g.met.V.SectorView.follows_refl c.args.view.now
