use Rattle.std.proofs.Common.{◌≡◌, ◌⊎◌, ◌<◌, ◌≤◌, ℕ, Bool, true, false, List, length, get_or, sym, ◌∙◌, ap, subst, arith}
use Rattle.sector_disk.specs.Space.{Space}
use Rattle.btree_node.specs.Levels.{Nodes}
use Rattle.btree_file.specs.FrameLaws.{reads_both}
use Rattle.fork_map.specs.Blocks.{fork_sectors}
use Rattle.hfs_volume.specs.Content.{node_of_fork}
use Rattle.fsck_scan.specs.Map.{IsMap, TakesMap}
use Rattle.fsck_scan.proofs.MapLaws.{first_taken, next_taken, first_not_taken, not_taken, chained_all, chain_ends}
use Rattle.fsck_scan.proofs.map.read_map.Goals as goal

pub returns-then-not-first-clause-wrong : goal.returns-then-not-first-clause-wrong
returns-then-not-first-clause-wrong g c tells =
    let old : Space = g.V.SectorView.space c.args.view.now in
    let nodes : Nodes = λ n. node_of_fork old.content c.args.fork.now.limit (fork_sectors c.args.fork.now.extents.now c.args.fork.now.per_block) (length c.args.node.now) n in
    first_not_taken nodes (length c.args.node.now) c.args.total c.args.marks.now (c.requires.blank tells) c.requires.some c.requires.unmarked (c.in_ok-first.ensures.refused tells c.if-not-first.true)

pub loop-read-init : goal.loop-read-init
loop-read-init g c = record {
  few = omega (arith, c.in_ok-first.ensures.few, ap (λ (l : List ℕ). length l) c.requires.no_bit);
  long = c.read_first.ensures.length;
  below = c.read_first.ensures.below;
  reads = c.read_first.ensures.reads;
  so_far = λ tells.
      let old : Space = g.V.SectorView.space c.args.view.now in
      let nodes : Nodes = λ n. node_of_fork old.content c.args.fork.now.limit (fork_sectors c.args.fork.now.extents.now c.args.fork.now.per_block) (length c.args.node.now) n in
      first_taken nodes (length c.args.node.now) c.args.total c.args.marks.now c.read_first.new.marks c.read_first.new.bits.items c.read_first.new.node c.links-next.result.0 (c.in_ok-first.ensures.taken tells c.if-not-first.false) c.links-next.ensures.next;
}

pub returns-then-next-eq0-clause-read : goal.returns-then-next-eq0-clause-read
returns-then-next-eq0-clause-read g c tells =
    let old : Space = g.V.SectorView.space c.args.view.now in
    let now : Space = g.V.SectorView.space c.loop-read.view in
    let limit : ℕ = c.args.fork.now.limit in
    let fork : List ℕ = fork_sectors c.args.fork.now.extents.now c.args.fork.now.per_block in
    let size : ℕ = length c.args.node.now in
    let nodes : Nodes = λ n. node_of_fork old.content limit fork size n in
    let later : Nodes = λ n. node_of_fork now.content limit fork (length c.loop-read.node) n in
    let same : later ≡ nodes = λ i. λ n. node_of_fork ((c.loop-read.invariant.reads.sectors tells).content i) limit fork (c.loop-read.invariant.long i) n in
    chained_all nodes size c.args.total c.args.marks.now c.loop-read.marks c.loop-read.bits.items c.loop-read.next c.loop-read._read c.if-next-eq0.true (c.loop-read.invariant.so_far tells)

pub returns-in_err-taken-clause-reads : goal.returns-in_err-taken-clause-reads
returns-in_err-taken-clause-reads g c =
    reads_both (g.V.SectorView.space c.args.view.now) (g.V.SectorView.space c.loop-read.view) (g.V.SectorView.space c.read_next.new.view) c.loop-read.invariant.reads c.read_next.ensures.reads

pub returns-in_err-taken-clause-below : goal.returns-in_err-taken-clause-below
returns-in_err-taken-clause-below g c = g.met.V.SectorView.follows_trans c.args.view.now c.loop-read.view c.read_next.new.view c.loop-read.invariant.below c.read_next.ensures.below

pub returns-then-not-taken-clause-reads : goal.returns-then-not-taken-clause-reads
returns-then-not-taken-clause-reads g c =
    reads_both (g.V.SectorView.space c.args.view.now) (g.V.SectorView.space c.loop-read.view) (g.V.SectorView.space c.read_next.new.view) c.loop-read.invariant.reads c.read_next.ensures.reads

pub returns-then-not-taken-clause-below : goal.returns-then-not-taken-clause-below
returns-then-not-taken-clause-below g c = g.met.V.SectorView.follows_trans c.args.view.now c.loop-read.view c.read_next.new.view c.loop-read.invariant.below c.read_next.ensures.below

pub returns-then-not-taken-clause-wrong : goal.returns-then-not-taken-clause-wrong
returns-then-not-taken-clause-wrong g c tells =
    let old : Space = g.V.SectorView.space c.args.view.now in
    let now : Space = g.V.SectorView.space c.loop-read.view in
    let limit : ℕ = c.args.fork.now.limit in
    let fork : List ℕ = fork_sectors c.args.fork.now.extents.now c.args.fork.now.per_block in
    let size : ℕ = length c.args.node.now in
    let nodes : Nodes = λ n. node_of_fork old.content limit fork size n in
    let later : Nodes = λ n. node_of_fork now.content limit fork (length c.loop-read.node) n in
    let same : later ≡ nodes = λ i. λ n. node_of_fork ((c.loop-read.invariant.reads.sectors tells).content i) limit fork (c.loop-read.invariant.long i) n in
    not_taken nodes size c.args.total c.args.marks.now c.loop-read.marks c.loop-read.bits.items c.loop-read.next c.loop-read._read c.loop-read-test.true c.if-next-eq0.false (c.loop-read.invariant.so_far tells) (c.requires.blank tells) c.requires.unmarked
    (subst (λ (f : Nodes). (IsMap f c.args.total c.loop-read.next → ⊥) ⊎ ((get_or c.loop-read.marks c.loop-read.next true ≡ true) × IsMap f c.args.total c.loop-read.next)) same
    (c.in_ok-taken.ensures.refused (c.loop-read.invariant.reads.same.tells ∙ tells) c.if-not-taken.true))

pub loop-read-preserved : goal.loop-read-preserved
loop-read-preserved g c = record {
  few = omega (arith, c.in_ok-taken.ensures.few, c.loop-read.invariant.few);
  long = c.read_next.ensures.length ∙ c.loop-read.invariant.long;
  below = g.met.V.SectorView.follows_trans c.args.view.now c.loop-read.view c.read_next.new.view c.loop-read.invariant.below c.read_next.ensures.below;
  reads = reads_both (g.V.SectorView.space c.args.view.now) (g.V.SectorView.space c.loop-read.view) (g.V.SectorView.space c.read_next.new.view) c.loop-read.invariant.reads c.read_next.ensures.reads;
  so_far = λ tells.
      let old : Space = g.V.SectorView.space c.args.view.now in
      let now : Space = g.V.SectorView.space c.loop-read.view in
      let limit : ℕ = c.args.fork.now.limit in
      let fork : List ℕ = fork_sectors c.args.fork.now.extents.now c.args.fork.now.per_block in
      let size : ℕ = length c.args.node.now in
      let nodes : Nodes = λ n. node_of_fork old.content limit fork size n in
      let later : Nodes = λ n. node_of_fork now.content limit fork (length c.loop-read.node) n in
      let same : later ≡ nodes = λ i. λ n. node_of_fork ((c.loop-read.invariant.reads.sectors tells).content i) limit fork (c.loop-read.invariant.long i) n in
      next_taken nodes size c.args.total c.args.marks.now c.loop-read.marks c.read_next.new.marks c.loop-read.bits.items c.read_next.new.bits.items c.read_next.new.node c.loop-read.next c.links-next-in-loop-read.result.0 c.loop-read._read c.loop-read-test.true c.if-next-eq0.false
      (c.loop-read.invariant.so_far tells)
      (subst (λ (f : Nodes). TakesMap f c.args.total c.loop-read.next c.loop-read.marks c.read_next.new.marks c.loop-read.bits.items c.read_next.new.bits.items c.read_next.new.node) same
      (c.in_ok-taken.ensures.taken (c.loop-read.invariant.reads.same.tells ∙ tells) c.if-not-taken.false)) c.links-next-in-loop-read.ensures.next;
}

pub returns-clause-read : goal.returns-clause-read
returns-clause-read g c tells =
    let old : Space = g.V.SectorView.space c.args.view.now in
    let now : Space = g.V.SectorView.space c.loop-read.view in
    let limit : ℕ = c.args.fork.now.limit in
    let fork : List ℕ = fork_sectors c.args.fork.now.extents.now c.args.fork.now.per_block in
    let size : ℕ = length c.args.node.now in
    let nodes : Nodes = λ n. node_of_fork old.content limit fork size n in
    let later : Nodes = λ n. node_of_fork now.content limit fork (length c.loop-read.node) n in
    let same : later ≡ nodes = λ i. λ n. node_of_fork ((c.loop-read.invariant.reads.sectors tells).content i) limit fork (c.loop-read.invariant.long i) n in
    absurd (chain_ends nodes size c.args.total c.args.marks.now c.loop-read.marks c.loop-read.bits.items c.loop-read.next c.loop-read._read c.requires.places c.loop-read-test.false (c.loop-read.invariant.so_far tells))
