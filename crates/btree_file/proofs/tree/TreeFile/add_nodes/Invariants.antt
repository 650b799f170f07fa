use Rattle.std.proofs.Common.{◌≡◌, ◌+◌, ◌-◌, ◌*◌, ◌≤◌, IsTrue, length, min, vec_len, vec_capacity}
use Rattle.btree_file.specs.Frame.{PutsWithin}
use Rattle.btree_file.specs.Growth.{ExtendsMap, IsGrowing, KeepsTree, CountsMore, SpendsRoom, HasRoomFor, bits_each}
use Rattle.btree_file.specs.Map.{bits_of}
use Rattle.btree_file.specs.State.{sectors_of_tree}
use Rattle.btree_file.proofs.tree.TreeFile.add_nodes.Given as goal

-- so many map nodes were added
abbrev pub invariant-loop-stage : goal.invariant-loop-stage
invariant-loop-stage g l = record {
  growing : IsGrowing l.goal l.self (g.P.SectorView.space l.space);
  tree : IsTrue (g.P.SectorView.space l.fn.space).tells → KeepsTree l.fn.self l.self (g.P.SectorView.space l.fn.space).content (g.P.SectorView.space l.space).content;
  counts : CountsMore l.fn.self l.self;
  full : IsTrue (g.P.SectorView.space l.fn.space).tells → l.self.shape.total ≡ min l.goal (bits_of l.self.map.items);
  map : IsTrue (g.P.SectorView.space l.fn.space).tells → length l.self.map.items ≡ length l.fn.self.map.items + l._stage;
  bits : IsTrue (g.P.SectorView.space l.fn.space).tells → bits_of l.self.map.items ≡ bits_of l.fn.self.map.items + l._stage * bits_each l.fn.self.shape.node_size;
  extends : ExtendsMap l.fn.self.shape.total l.fn.self.map.items l.self.map.items;
  most : vec_len l.self.map ≤ vec_len l.fn.self.map + l._stage;
  memory : vec_len l.self.map + (l.count - l._stage) ≤ vec_capacity l.self.map;
  frame : PutsWithin (sectors_of_tree l.fn.self) (g.P.SectorView.space l.fn.space) (g.P.SectorView.space l.space);
  room : SpendsRoom l.goal l.fn.self l.self (g.P.SectorView.space l.fn.space) (g.P.SectorView.space l.space);
  left : HasRoomFor (l.count - l._stage) l.goal l.self (g.P.SectorView.space l.space);
  below : g.P.SectorView.follows l.fn.space l.space;
  faults : (g.P.SectorView.space l.space).faults ≡ (g.P.SectorView.space l.fn.space).faults;
}
