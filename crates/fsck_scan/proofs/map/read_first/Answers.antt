use Rattle.std.proofs.Common.{◌≡◌, ◌⊎◌, ◌<◌, ◌≤◌, ℕ, ◌-◌, pos, Bool, true, false, List, ◌++◌, length, get_or, set, inl, inr, refl, sym, ◌∙◌, ap, subst, arith, if◌then◌else◌}
use Rattle.std.specs.Prelude.{slice_range}
use Rattle.sector_disk.specs.Space.{Space}
use Rattle.btree_node.specs.Node.{IsNodeOf, record_count}
use Rattle.btree_node.specs.TreeFile.{IsHeaderNode, map_record}
use Rattle.fork_map.specs.Blocks.{fork_sectors}
use Rattle.hfs_volume.specs.Content.{node_of_fork}
use Rattle.fsck_scan.proofs.MarkLaws.{not_true, not_false}
use Rattle.fsck_scan.proofs.map.read_first.Goals as goal

pub returns-then-not-is_header-clause-refused : goal.returns-then-not-is_header-clause-refused
returns-then-not-is_header-clause-refused g c tells same header =
    let old : Space = g.V.SectorView.space c.args.view.now in
    let node : List ℕ = node_of_fork old.content c.args.fork.now.limit (fork_sectors c.args.fork.now.extents.now c.args.fork.now.per_block) (length c.args.node.now) 0 in
    let is : c.read_node.new.into ≡ node = c.in_ok-read_node.ensures.value tells in
    let found : true ≡ false = sym (c.in_ok-is_header.ensures.is.1 (subst IsHeaderNode (sym is) header)) ∙ c.if-not-is_header.true in
    cc

pub returns-clause-taken : goal.returns-clause-taken
returns-clause-taken g c tells marked =
    let old : Space = g.V.SectorView.space c.args.view.now in
    let node : List ℕ = node_of_fork old.content c.args.fork.now.limit (fork_sectors c.args.fork.now.extents.now c.args.fork.now.per_block) (length c.args.node.now) 0 in
    let is : c.read_node.new.into ≡ node = c.in_ok-read_node.ensures.value tells in
    record {
      is = subst IsHeaderNode is (c.in_ok-is_header.ensures.is.0 c.if-not-is_header.false);
      clear = not_true (get_or c.args.marks.now 0 true) (sym marked ∙ c.in_ok-taken.ensures.could);
      marked = c.in_ok-taken.ensures.marks ∙ ap (λ b. if b then set c.args.marks.now 0 true else c.args.marks.now) marked;
      bits_are =
          c.in_ok-is_header.ensures.bits c.if-not-is_header.false ∙ ap (λ (l : List ℕ). l ++ slice_range c.read_node.new.into 248 (length c.read_node.new.into - 8)) c.requires.no_bit
          ∙ ap (λ n. slice_range c.read_node.new.into 248 (n - 8)) c.read_node.ensures.length ∙ ap (λ (l : List ℕ). slice_range l 248 (length c.args.node.now - 8)) is;
      node_is = is;
    }

pub returns-clause-refused : goal.returns-clause-refused
returns-clause-refused g c tells not header = not_false (get_or c.args.marks.now 0 true) (sym not ∙ c.in_ok-taken.ensures.could)
