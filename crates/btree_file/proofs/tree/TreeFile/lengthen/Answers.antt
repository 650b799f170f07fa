use Rattle.std.proofs.Common.{◌≡◌, ◌≢◌, ℕ, ◌+◌, ◌-◌, ◌*◌, ◌/◌, ◌≤◌, ◌<◌, true, false, List, IsTrue, length, get_or, refl, sym, ◌∙◌, ap, subst, arith, ⊎_elim}
use Rattle.std.proofs.lemmas.Bool.{cases_Bool}
use Rattle.sector_disk.specs.Space.{Space}
use Rattle.btree_node.specs.TreeFile.{SetsShape}
use Rattle.btree_node.specs.declared.store.TreeShape.{TreeShape}
use Rattle.btree_file.specs.Frame.{PutsWithin}
use Rattle.btree_file.specs.Growth.{IsGrowing, last_node}
use Rattle.btree_file.specs.Map.{bits_of, used_in, is_reserved}
use Rattle.btree_file.specs.Place.{sectors_at}
use Rattle.btree_file.specs.Putting.{unput, PutsNode}
use Rattle.btree_file.specs.State.{sectors_of_tree, nodes_on, HasMap}
use Rattle.btree_file.specs.declared.tree.TreeFile.{TreeFile}
use Rattle.btree_file.proofs.Changing.{form_kept, not_header, shaped_bytes, shaped_grammar, shaped_used}
use Rattle.btree_file.proofs.Frames.{put_within}
use Rattle.btree_file.proofs.MoreNodes.{more_nodes, reserved_below}
use Rattle.btree_file.proofs.NodeLaws.{node_put, node_kept}
use Rattle.btree_file.proofs.Sizes.{tree_size, tree_large}
use Rattle.btree_file.proofs.Rooms.{whole_node}
use Rattle.btree_file.proofs.Spending.{puts_as, room_as, unput_as, fits, gone, fewer, spends}
use Rattle.btree_file.proofs.tree.TreeFile.lengthen.Given.{Over}
use Rattle.btree_file.proofs.tree.TreeFile.lengthen.Goals as goal

-- there is a node, and a goal
some_node : (tree : TreeFile) (nodes : ℕ) (space : Space) → IsGrowing nodes tree space → 0 < tree.shape.total
some_node tree nodes space growing = omega (arith, tree.kept.map_inside 0 (record { node = 0; at = 0; len = 0 }) growing.some)

pub write_header-requires-clause-room : goal.write_header-requires-clause-room
write_header-requires-clause-room g c =
    let tree = c.args.self.now in
    let old : Space = g.P.SectorView.space c.args.space.now in
    let some = some_node tree c.args.goal old c.requires.growing in
    unput_as (sectors_of_tree tree) (length tree.header) tree.shape.node_size 0 old tree.long
    (⊎_elim
    (λ (both : unput old.put (sectors_at (sectors_of_tree tree) (tree.shape.node_size / 512) 0) + unput old.put (sectors_at (sectors_of_tree tree) (tree.shape.node_size / 512) (last_node tree.map.items)) + 0 * (tree.shape.node_size / 512) ≤ old.spare). omega (arith, both))
    (λ all. fits (sectors_of_tree tree) (tree.shape.node_size / 512) c.args.goal old 0 c.requires.growing.whole (tree_size tree).0 (omega (arith, some, c.requires.growing.order)) all)
    c.requires.room)

-- the header node is put
frame_here : (g : Over) (c : goal.After-self-3-1 g) → PutsWithin (sectors_of_tree c.args.self.now) (g.P.SectorView.space c.args.space.now) (g.P.SectorView.space c.write_header.new.space)
frame_here g c =
    let tree = c.args.self.now in
    let old : Space = g.P.SectorView.space c.args.space.now in
    let new : Space = g.P.SectorView.space c.write_header.new.space in
    put_within (sectors_of_tree tree) (tree.shape.node_size / 512) 0 c.write_header.new.header old new (c.write_header.ensures.header.size ∙ tree.long ∙ sym (tree_size tree).1)
    (λ tells. puts_as (sectors_of_tree tree) (length tree.header) tree.shape.node_size 0 c.write_header.new.header old new tree.long (c.write_header.ensures.puts tells))
    (room_as (sectors_of_tree tree) (length tree.header) tree.shape.node_size 0 old new tree.long c.write_header.ensures.room) c.write_header.ensures.same c.write_header.ensures.time c.write_header.ensures.faults

-- what a tree is over a content whose header node counts more nodes
module _ (tree : TreeFile) (nodes now : ℕ) (header : List ℕ) (old new : Space) (growing : IsGrowing nodes tree old) (tells : IsTrue old.tells) (order : tree.shape.total < now) (enough : now ≤ bits_of tree.map.items)
    (sets : SetsShape
    (record { node_size = tree.shape.node_size; depth = tree.shape.depth; root = tree.shape.root; first = tree.shape.first; last = tree.shape.last; leaf_records = tree.shape.leaf_records; total = now; free = tree.shape.free + (now - tree.shape.total) })
    tree.header header)
    (puts : PutsNode (sectors_at (sectors_of_tree tree) (tree.shape.node_size / 512) 0) header old new)
  where
    abbrev shape : TreeShape
    shape = record { node_size = tree.shape.node_size; depth = tree.shape.depth; root = tree.shape.root; first = tree.shape.first; last = tree.shape.last; leaf_records = tree.shape.leaf_records; total = now; free = tree.shape.free + (now - tree.shape.total) }

    was : HasMap (sectors_of_tree tree) tree.shape.node_size tree.shape.total tree.shape.free tree.map.items tree.header old.content
    was = growing.agrees tells

    one : 1 * (tree.shape.node_size / 512) ≤ length (sectors_of_tree tree)
    one = whole_node nodes (tree.shape.node_size / 512) 0 (length (sectors_of_tree tree)) growing.whole (omega (arith, some_node tree nodes old growing, growing.order))

    node_stays : (m : ℕ) → m ≢ 0 → nodes_on (sectors_of_tree tree) tree.shape.node_size new.content m ≡ nodes_on (sectors_of_tree tree) tree.shape.node_size old.content m
    node_stays m other = node_kept (sectors_of_tree tree) (tree.shape.node_size / 512) 0 m header old new puts tree.kept.apart other

    node_there : nodes_on (sectors_of_tree tree) tree.shape.node_size new.content 0 ≡ header
    node_there = node_put (sectors_of_tree tree) (tree.shape.node_size / 512) 0 header old new puts one (sets.size ∙ tree.long ∙ sym (tree_size tree).1)

    used_stays : (n : ℕ) → used_in (nodes_on (sectors_of_tree tree) tree.shape.node_size new.content) tree.map.items n ≡ used_in (nodes_on (sectors_of_tree tree) tree.shape.node_size old.content) tree.map.items n
    used_stays = shaped_used (sectors_of_tree tree) tree.shape.node_size tree.shape.total tree.shape.free tree.map.items tree.header header shape old new (tree_large tree) tree.long refl sets node_stays node_there tree.kept.map_header was

    map_now : HasMap (sectors_of_tree tree) tree.shape.node_size now (tree.shape.free + (now - tree.shape.total)) tree.map.items header new.content
    map_now = more_nodes (sectors_of_tree tree) tree.shape.node_size tree.shape.total now tree.shape.free tree.map.items tree.header header old.content new.content
        (shaped_bytes (sectors_of_tree tree) tree.shape.node_size tree.shape.total tree.shape.free tree.map.items tree.header header shape old new (tree_large tree) tree.long refl sets node_stays node_there tree.kept.map_header was)
        (shaped_grammar (sectors_of_tree tree) tree.shape.node_size tree.shape.total tree.shape.free tree.map.items tree.header header shape old new (tree_large tree) tree.long refl sets node_stays node_there tree.kept.map_header was)
        node_there
        (ap (λ (s : TreeShape). s.node_size) sets.numbers) (ap (λ (s : TreeShape). s.total) sets.numbers) (omega (arith, order)) enough tree.kept.map_inside tree.kept.map_header was

    new_free : (n : ℕ) → tree.shape.total ≤ n → n < now → used_in (nodes_on (sectors_of_tree tree) tree.shape.node_size new.content) tree.map.items n ≡ is_reserved tree.map.items n
    new_free n high low =
        let unused : used_in (nodes_on (sectors_of_tree tree) tree.shape.node_size new.content) tree.map.items n ≡ false = used_stays n ∙ was.behind n high (omega (arith, low, enough)) in
        ⊎_elim
        (λ (is : is_reserved tree.map.items n ≡ true). absurd (omega (arith, reserved_below tree.map.items tree.shape.total n was.some tree.kept.map_inside is, high)))
        (λ (no : is_reserved tree.map.items n ≡ false). unused ∙ sym no)
        (cases_Bool (is_reserved tree.map.items n))

pub returns-clause-growing : goal.returns-clause-growing
returns-clause-growing g c =
    let tree = c.args.self.now in
    let frame = frame_here g c in
    let old : Space = g.P.SectorView.space c.args.space.now in
    let new : Space = g.P.SectorView.space c.write_header.new.space in
    let told : IsTrue new.tells → IsTrue old.tells = λ tells. sym frame.same.tells ∙ tells in
    record {
      inside = λ k low. subst (λ n. get_or (sectors_of_tree tree) k 0 < n) (sym frame.same.sectors) (c.requires.growing.inside k low);
      open_sectors = λ tells k low shut. c.requires.growing.open_sectors (told tells) k low ((frame.closed (told tells) (get_or (sectors_of_tree tree) k 0)).0 shut);
      few = c.requires.growing.few;
      whole = c.requires.growing.whole;
      some = c.requires.growing.some;
      order = omega (arith, c.min-to.ensures);
      agrees = λ tells. map_now tree c.args.goal c.min-to.result c.write_header.new.header old new c.requires.growing (told tells) (omega (arith, c.if-to-self.false)) (omega (arith, c.min-to.ensures, c.map_bits.ensures)) c.write_header.ensures.header
          (puts_as (sectors_of_tree tree) (length tree.header) tree.shape.node_size 0 c.write_header.new.header old new tree.long (c.write_header.ensures.puts (told tells)));
      settled = λ tells. c.write_header.ensures.header.numbers;
      page = λ tells other. c.requires.growing.page (told tells) other
          ∙ sym (node_stays tree c.args.goal c.min-to.result c.write_header.new.header old new c.requires.growing (told tells) (omega (arith, c.if-to-self.false)) (omega (arith, c.min-to.ensures, c.map_bits.ensures)) c.write_header.ensures.header
          (puts_as (sectors_of_tree tree) (length tree.header) tree.shape.node_size 0 c.write_header.new.header old new tree.long (c.write_header.ensures.puts (told tells))) (last_node tree.map.items) other);
    }

pub returns-clause-tree : goal.returns-clause-tree
returns-clause-tree g c tells =
    let tree = c.args.self.now in
    let old : Space = g.P.SectorView.space c.args.space.now in
    let new : Space = g.P.SectorView.space c.write_header.new.space in
    let puts = puts_as (sectors_of_tree tree) (length tree.header) tree.shape.node_size 0 c.write_header.new.header old new tree.long (c.write_header.ensures.puts tells) in
    let enough : c.min-to.result ≤ bits_of tree.map.items = omega (arith, c.min-to.ensures, c.map_bits.ensures) in
    let order : tree.shape.total < c.min-to.result = omega (arith, c.if-to-self.false) in
    record {
      order = omega (arith, order);
      numbers = refl;
      form = form_kept (shape tree c.args.goal c.min-to.result c.write_header.new.header old new c.requires.growing tells order enough c.write_header.ensures.header puts) tree.header c.write_header.new.header c.write_header.ensures.header;
      nodes = λ n low unreserved. node_stays tree c.args.goal c.min-to.result c.write_header.new.header old new c.requires.growing tells order enough c.write_header.ensures.header puts n (λ e. not_header tree.map.items n unreserved (sym e));
      used = λ n low. used_stays tree c.args.goal c.min-to.result c.write_header.new.header old new c.requires.growing tells order enough c.write_header.ensures.header puts n;
      reserved = λ n low. refl;
      fresh = λ n high low. new_free tree c.args.goal c.min-to.result c.write_header.new.header old new c.requires.growing tells order enough c.write_header.ensures.header puts n high low;
    }

pub returns-clause-frame : goal.returns-clause-frame
returns-clause-frame g c = frame_here g c

pub returns-clause-room : goal.returns-clause-room
returns-clause-room g c =
    let tree = c.args.self.now in
    let old : Space = g.P.SectorView.space c.args.space.now in
    let new : Space = g.P.SectorView.space c.write_header.new.space in
    let low : 0 < c.args.goal = omega (arith, some_node tree c.args.goal old c.requires.growing, c.requires.growing.order) in
    let room = room_as (sectors_of_tree tree) (length tree.header) tree.shape.node_size 0 old new tree.long c.write_header.ensures.room in
    record {
      written = omega (
        arith,
        room.spare,
        gone (sectors_of_tree tree) (tree.shape.node_size / 512) c.args.goal tree.kept.apart c.requires.growing.whole (tree_size tree).0 old new 0 low room,
        fewer (sectors_of_tree tree) (tree.shape.node_size / 512) c.args.goal tree.kept.apart c.requires.growing.whole (tree_size tree).0 old new 0 low room (last_node tree.map.items),
      );
      unwritten = spends (sectors_of_tree tree) (tree.shape.node_size / 512) c.args.goal tree.kept.apart c.requires.growing.whole (tree_size tree).0 old new 0 low room;
    }
