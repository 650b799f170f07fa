use Rattle.std.proofs.Common.{◌≡◌, ◌⊎◌, ◌<◌, ◌≤◌, ℕ, ◌-◌, pos, Bool, true, false, List, ◌++◌, length, get_or, set, inl, inr, refl, sym, ◌∙◌, ap, subst, arith, if◌then◌else◌}
use Rattle.std.specs.Prelude.{slice_range}
use Rattle.sector_disk.specs.Space.{Space}
use Rattle.btree_node.specs.Node.{IsNodeOf, record_count}
use Rattle.btree_node.specs.TreeFile.{IsHeaderNode, map_record}
use Rattle.fork_map.specs.Blocks.{fork_sectors}
use Rattle.hfs_volume.specs.Content.{node_of_fork}
use Rattle.fsck_scan.proofs.MarkLaws.{not_true, not_false}
use Rattle.fsck_scan.proofs.map.read_next.Goals as goal

pub returns-then-n-total-clause-refused : goal.returns-then-n-total-clause-refused
returns-then-n-total-clause-refused g c tells same = inl (λ is. omega (arith, is.0, c.if-n-total.true))

pub returns-then-not-is_map-clause-refused : goal.returns-then-not-is_map-clause-refused
returns-then-not-is_map-clause-refused g c tells same =
    let old : Space = g.V.SectorView.space c.args.view.now in
    let node : List ℕ = node_of_fork old.content c.args.fork.now.limit (fork_sectors c.args.fork.now.extents.now c.args.fork.now.per_block) (length c.args.node.now) c.args.n in
    let is : c.read_node.new.into ≡ node = c.in_ok-read_node.ensures.value tells in
    inl (λ map. let found : true ≡ false = sym (c.in_ok-is_map.ensures.is.1 (subst (λ (l : List ℕ). IsNodeOf (pos 2) 0 l) (sym is) map.1, subst (λ (l : List ℕ). 0 < record_count l) (sym is) map.2)) ∙ c.if-not-is_map.true in cc)

pub returns-clause-taken : goal.returns-clause-taken
returns-clause-taken g c tells marked =
    let old : Space = g.V.SectorView.space c.args.view.now in
    let node : List ℕ = node_of_fork old.content c.args.fork.now.limit (fork_sectors c.args.fork.now.extents.now c.args.fork.now.per_block) (length c.args.node.now) c.args.n in
    let is : c.read_node.new.into ≡ node = c.in_ok-read_node.ensures.value tells in
    let map = c.in_ok-is_map.ensures.is.0 c.if-not-is_map.false in
    record {
      is = (c.if-n-total.false, subst (λ (l : List ℕ). IsNodeOf (pos 2) 0 l) is map.0, subst (λ (l : List ℕ). 0 < record_count l) is map.1);
      clear = not_true (get_or c.args.marks.now c.args.n true) (sym marked ∙ c.in_ok-taken.ensures.could);
      marked = c.in_ok-taken.ensures.marks ∙ ap (λ b. if b then set c.args.marks.now c.args.n true else c.args.marks.now) marked;
      bits_are = c.in_ok-is_map.ensures.bits c.if-not-is_map.false ∙ ap (λ (l : List ℕ). c.args.bits.now.items ++ map_record l) is;
      node_is = is;
    }

pub returns-clause-refused : goal.returns-clause-refused
returns-clause-refused g c tells not =
    let old : Space = g.V.SectorView.space c.args.view.now in
    let node : List ℕ = node_of_fork old.content c.args.fork.now.limit (fork_sectors c.args.fork.now.extents.now c.args.fork.now.per_block) (length c.args.node.now) c.args.n in
    let is : c.read_node.new.into ≡ node = c.in_ok-read_node.ensures.value tells in
    let map = c.in_ok-is_map.ensures.is.0 c.if-not-is_map.false in
    inr (not_false (get_or c.args.marks.now c.args.n true) (sym not ∙ c.in_ok-taken.ensures.could), (c.if-n-total.false, subst (λ (l : List ℕ). IsNodeOf (pos 2) 0 l) is map.0, subst (λ (l : List ℕ). 0 < record_count l) is map.1))
