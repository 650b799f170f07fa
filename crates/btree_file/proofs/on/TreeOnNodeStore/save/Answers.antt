use Rattle.std.proofs.Common.{◌≡◌, ◌<◌, ◌≤◌, ◌*◌, ◌/◌, ℕ, List, IsTrue, length, get_or, refl, sym, ◌∙◌, ap, subst}
use Rattle.sector_disk.specs.Space.{Space}
use Rattle.btree_node.specs.MemLaws.{legal_size, whole_sectors}
use Rattle.btree_node.specs.Store.{unwritten_sectors}
use Rattle.btree_file.specs.Place.{sectors_at}
use Rattle.btree_file.specs.Putting.{unput, PutsNode, TakesRoomFor}
use Rattle.btree_file.specs.FrameLaws.{form_none}
use Rattle.btree_file.specs.Map.{is_reserved}
use Rattle.btree_file.specs.State.{sectors_of_tree}
use Rattle.btree_file.specs.declared.tree.TreeFile.{TreeFile}
use Rattle.btree_node.specs.TreeFile.{tree_head}
use Rattle.btree_file.proofs.Changing.{saved_used, saved_map}
use Rattle.btree_file.proofs.Frames.{put_within}
use Rattle.btree_file.proofs.NodeLaws.{node_put, node_kept}
use Rattle.btree_file.proofs.Rooms.{may_put, put_here, puts_again, puts_once, whole_node}
use Rattle.btree_file.proofs.on.TreeOnNodeStore.save.Goals as goal

whole_size : (tree : TreeFile) → (0 < tree.shape.node_size / 512) × (tree.shape.node_size / 512 * 512 ≡ tree.shape.node_size)
whole_size tree = whole_sectors tree.shape.node_size (legal_size tree.shape.node_size tree.kept.size)

pub put_node-requires-clause-room : goal.put_node-requires-clause-room
put_node-requires-clause-room g c =
    let tree = c.args.self.now.tree.now in
    let old : Space = g.P.SectorView.space c.args.self.now.space.now in
    subst (λ long. unput old.put (sectors_at (sectors_of_tree tree) (long / 512) c.args.node) ≤ old.spare) (sym c.requires.size)
    (may_put (sectors_of_tree tree) (tree.shape.node_size / 512) tree.shape.total old c.args.node tree.kept.whole (whole_size tree).0 c.requires.inside c.requires.room)

-- what was put, in the tree's own words
puts_of : (tree : TreeFile) (node long : ℕ) (bytes : List ℕ) (old new : Space) → long ≡ tree.shape.node_size → PutsNode (sectors_at (sectors_of_tree tree) (long / 512) node) bytes old new → PutsNode (sectors_at (sectors_of_tree tree) (tree.shape.node_size / 512) node) bytes old new
puts_of tree node long bytes old new is puts = subst (λ n. PutsNode (sectors_at (sectors_of_tree tree) (n / 512) node) bytes old new) is puts

room_of : (tree : TreeFile) (node long : ℕ) (old new : Space) → long ≡ tree.shape.node_size → TakesRoomFor (sectors_at (sectors_of_tree tree) (long / 512) node) old new → TakesRoomFor (sectors_at (sectors_of_tree tree) (tree.shape.node_size / 512) node) old new
room_of tree node long old new is room = subst (λ n. TakesRoomFor (sectors_at (sectors_of_tree tree) (n / 512) node) old new) is room

pub returns-clause-tree : goal.returns-clause-tree
returns-clause-tree g c tells unreserved =
    let tree = c.args.self.now.tree.now in
    let old : Space = g.P.SectorView.space c.args.self.now.space.now in
    let new : Space = g.P.SectorView.space c.put_node.new.space in
    let puts = puts_of tree c.args.node (length c.args.from.now) c.args.from.now old new c.requires.size (c.put_node.ensures.puts tells) in
    record {
      here = node_put (sectors_of_tree tree) (tree.shape.node_size / 512) c.args.node c.args.from.now old new puts (whole_node tree.shape.total (tree.shape.node_size / 512) c.args.node (length (sectors_of_tree tree)) tree.kept.whole c.requires.inside) (c.requires.size ∙ sym (whole_size tree).1);
      others = λ n other. node_kept (sectors_of_tree tree) (tree.shape.node_size / 512) c.args.node n c.args.from.now old new puts tree.kept.apart other;
      used = saved_used (sectors_of_tree tree) tree.shape.node_size tree.shape.total tree.shape.free tree.map.items tree.header old new c.args.node c.args.from.now tree.kept.apart puts unreserved;
      header = refl;
    }

pub returns-clause-writes : goal.returns-clause-writes
unfolding unwritten_sectors
returns-clause-writes g c =
    let tree = c.args.self.now.tree.now in
    let old : Space = g.P.SectorView.space c.args.self.now.space.now in
    let new : Space = g.P.SectorView.space c.put_node.new.space in
    let room = room_of tree c.args.node (length c.args.from.now) old new c.requires.size c.put_node.ensures.room in
    let once = puts_once (sectors_of_tree tree) (tree.shape.node_size / 512) tree.shape.total tree.kept.apart tree.kept.whole (whole_size tree).0 old new c.args.node c.requires.inside room in
    record { still = once.still; fewer = once.fewer; some = once.some; left = once.writes; sectors = once.room }

pub returns-clause-again : goal.returns-clause-again
unfolding unwritten_sectors
returns-clause-again g c was =
    let tree = c.args.self.now.tree.now in
    let old : Space = g.P.SectorView.space c.args.self.now.space.now in
    let new : Space = g.P.SectorView.space c.put_node.new.space in
    let room = room_of tree c.args.node (length c.args.from.now) old new c.requires.size c.put_node.ensures.room in
    let same = puts_again (sectors_of_tree tree) (tree.shape.node_size / 512) tree.shape.total tree.kept.apart tree.kept.whole (whole_size tree).0 old new c.args.node c.requires.inside room was in
    record {
      written = same.written;
      unwritten = same.unwritten;
      writes_left = ap (λ k. k / (tree.shape.node_size / 512)) same.spare;
      sectors_left = same.spare;
      sectors = ap (λ k. k * (tree.shape.node_size / 512)) same.unwritten;
    }

pub returns-clause-written : goal.returns-clause-written
returns-clause-written g c unreserved =
    let tree = c.args.self.now.tree.now in
    let old : Space = g.P.SectorView.space c.args.self.now.space.now in
    let new : Space = g.P.SectorView.space c.put_node.new.space in
    put_here (sectors_of_tree tree) (tree.shape.node_size / 512) tree.shape.total tree.kept.apart tree.kept.whole (whole_size tree).0 old new c.args.node c.requires.inside
    (room_of tree c.args.node (length c.args.from.now) old new c.requires.size c.put_node.ensures.room)

pub returns-clause-below : goal.returns-clause-below
returns-clause-below g c =
    let tree = c.args.self.now.tree.now in
    let old : Space = g.P.SectorView.space c.args.self.now.space.now in
    let new : Space = g.P.SectorView.space c.put_node.new.space in (
      record {
        file = record { fork = refl; per_block = refl; map = refl; node_size = refl; total = refl };
        form = λ tells. form_none (tree_head tree.header);
        space = put_within (sectors_of_tree tree) (tree.shape.node_size / 512) c.args.node c.args.from.now old new (c.requires.size ∙ sym (whole_size tree).1)
            (λ tells. puts_of tree c.args.node (length c.args.from.now) c.args.from.now old new c.requires.size (c.put_node.ensures.puts tells))
            (room_of tree c.args.node (length c.args.from.now) old new c.requires.size c.put_node.ensures.room) c.put_node.ensures.same c.put_node.ensures.time c.put_node.ensures.faults;
      },
      c.put_node.ensures.below,
    )

pub invariant_of-self-2 : goal.invariant_of-self-2
invariant_of-self-2 g c =
    let tree = c.args.self.now.tree.now in
    let old : Space = g.P.SectorView.space c.args.self.now.space.now in
    let new : Space = g.P.SectorView.space c.put_node.new.space in
    let told : IsTrue new.tells → IsTrue old.tells = λ tells. sym c.put_node.ensures.same.tells ∙ tells in
    record {
      inside = λ k low. subst (λ n. get_or (sectors_of_tree tree) k 0 < n) (sym c.put_node.ensures.same.sectors) (c.args.self.now.inside k low);
      open_sectors = λ tells k low shut. c.args.self.now.open_sectors (told tells) k low (((c.put_node.ensures.puts (told tells)).these.closed (get_or (sectors_of_tree tree) k 0)).0 shut);
      agrees = λ tells. saved_map (sectors_of_tree tree) tree.shape.node_size tree.shape.total tree.shape.free tree.map.items tree.header old new c.args.node c.args.from.now tree.kept.apart
          (puts_of tree c.args.node (length c.args.from.now) c.args.from.now old new c.requires.size (c.put_node.ensures.puts (told tells)))
          (ap (λ map. is_reserved map c.args.node) (sym c.deref.ensures.value) ∙ sym c.is_reserved.ensures ∙ c.if-is_reserved.false) (c.args.self.now.agrees (told tells));
    }
