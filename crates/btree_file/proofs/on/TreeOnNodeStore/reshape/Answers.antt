use Rattle.std.proofs.Common.{◌≡◌, ◌≢◌, ℕ, List, drop, ◌<◌, ◌≤◌, ◌/◌, IsTrue, get_or, inl, refl, sym, ◌∙◌, ap, subst, arith}
use Rattle.sector_disk.specs.Space.{Space}
use Rattle.fork_map.specs.Nodes.{node_of}
use Rattle.btree_node.specs.Store.{unwritten_sectors}
use Rattle.btree_file.specs.Map.{used_in}
use Rattle.btree_file.specs.Place.{sectors_at}
use Rattle.btree_file.specs.Putting.{unput, TakesRoomFor}
use Rattle.btree_file.specs.State.{nodes_on, sectors_of_tree, HasMap}
use Rattle.btree_file.proofs.Changing.{form_kept, shaped_rest, shaped_used, shaped_map, not_header}
use Rattle.btree_file.proofs.Rooms.{may_put, puts_once, once_read, once_again, writes_shaped}
use Rattle.btree_file.proofs.Sizes.{tree_size, tree_large}
use Rattle.btree_file.proofs.on.TreeOnNodeStore.reshape.Goals as goal

pub returns-then-shape-eq0-clause-writes : goal.returns-then-shape-eq0-clause-writes
unfolding unwritten_sectors
returns-then-shape-eq0-clause-writes g c =
    let tree = c.args.self.now.tree.now in
    let old : Space = g.P.SectorView.space c.args.self.now.space.now in
    let again = once_read (sectors_of_tree tree) (tree.shape.node_size / 512) tree.shape.total old.put old.put old.spare old.spare (λ s. refl) refl in
    let once = writes_shaped (sectors_of_tree tree) tree.shape.node_size tree.shape.total c.args.shape.now.node_size c.args.shape.now.total old.put old.spare old.put old.spare c.requires.size c.requires.total
    (once_again (sectors_of_tree tree) (tree.shape.node_size / 512) tree.shape.total old.put old.put old.spare old.spare again) in
    record { still = once.still; fewer = once.fewer; some = once.some; left = once.writes; sectors = once.room }

pub put_header-requires-clause-room : goal.put_header-requires-clause-room
put_header-requires-clause-room g c =
    let tree = c.args.self.now.tree.now in
    let old : Space = g.P.SectorView.space c.args.self.now.space.now in
    subst (λ long. unput old.put (sectors_at (sectors_of_tree tree) (long / 512) 0) ≤ old.spare) (sym (c.set_shape.ensures.size ∙ tree.long))
    (may_put (sectors_of_tree tree) (tree.shape.node_size / 512) tree.shape.total old 0 tree.kept.whole (tree_size tree).0 (omega (arith, c.requires.total)) (inl c.requires.room))

pub returns-clause-writes : goal.returns-clause-writes
unfolding unwritten_sectors
returns-clause-writes g c =
    let tree = c.args.self.now.tree.now in
    let old : Space = g.P.SectorView.space c.args.self.now.space.now in
    let new : Space = g.P.SectorView.space c.put_header.new.space in
    let room = subst (λ long. TakesRoomFor (sectors_at (sectors_of_tree tree) (long / 512) 0) old new) (c.set_shape.ensures.size ∙ tree.long) c.put_header.ensures.room in
    let once = writes_shaped (sectors_of_tree tree) tree.shape.node_size tree.shape.total c.args.shape.now.node_size c.args.shape.now.total old.put old.spare new.put new.spare c.requires.size c.requires.total
    (puts_once (sectors_of_tree tree) (tree.shape.node_size / 512) tree.shape.total tree.kept.apart tree.kept.whole (tree_size tree).0 old new 0 (omega (arith, c.requires.total)) room) in
    record { still = once.still; fewer = once.fewer; some = once.some; left = once.writes; sectors = once.room }

pub put_header-requires-clause-rest : goal.put_header-requires-clause-rest
put_header-requires-clause-rest g c = λ tells.
    let tree = c.args.self.now.tree.now in
    let old : Space = g.P.SectorView.space c.args.self.now.space.now in
    subst (λ long. drop 512 (node_of old.content (sectors_of_tree tree) (long / 512) 0) ≡ drop 512 c.set_shape.new.self) (sym (c.set_shape.ensures.size ∙ tree.long))
    (ap (λ (l : List ℕ). drop 512 l) (c.args.self.now.agrees tells).header_is ∙ shaped_rest c.args.shape.now tree.header c.set_shape.new.self c.set_shape.ensures)

pub returns-clause-below : goal.returns-clause-below
returns-clause-below g c =
    let tree = c.args.self.now.tree.now in (
      record {
        file = record { fork = refl; per_block = refl; map = refl; node_size = c.requires.size; total = c.requires.total };
        form = λ tells. form_kept c.args.shape.now tree.header c.set_shape.new.self c.set_shape.ensures;
        space = c.put_header.ensures.within;
      },
      c.put_header.ensures.below,
    )

pub returns-clause-tree : goal.returns-clause-tree
returns-clause-tree g c tells =
    let tree = c.args.self.now.tree.now in
    let sectors = sectors_of_tree tree in
    let old : Space = g.P.SectorView.space c.args.self.now.space.now in
    let new : Space = g.P.SectorView.space c.put_header.new.space in
    let long = c.set_shape.ensures.size ∙ tree.long in
    let node : nodes_on sectors tree.shape.node_size new.content 0 ≡ c.set_shape.new.self = subst (λ n. node_of new.content sectors (n / 512) 0 ≡ c.set_shape.new.self) long (c.put_header.ensures.node tells) in
    let others : (m : ℕ) → m ≢ 0 → nodes_on sectors tree.shape.node_size new.content m ≡ nodes_on sectors tree.shape.node_size old.content m =
    subst (λ n. (m : ℕ) → m ≢ 0 → node_of new.content sectors (n / 512) m ≡ node_of old.content sectors (n / 512) m) long (c.put_header.ensures.others tells) in
    record {
      nodes = λ n unreserved. ap (λ s. nodes_on sectors s new.content n) c.requires.size ∙ others n (λ e. not_header tree.map.items n unreserved (sym e));
      used = λ n. ap (λ s. used_in (nodes_on sectors s new.content) tree.map.items n) c.requires.size
          ∙ shaped_used sectors tree.shape.node_size tree.shape.total tree.shape.free tree.map.items tree.header c.set_shape.new.self c.args.shape.now old new (tree_large tree) tree.long c.requires.size c.set_shape.ensures others node tree.kept.map_header (c.args.self.now.agrees tells) n;
      header = c.set_shape.ensures.numbers;
    }

pub invariant_of-self-2 : goal.invariant_of-self-2
invariant_of-self-2 g c =
    let tree = c.args.self.now.tree.now in
    let sectors = sectors_of_tree tree in
    let old : Space = g.P.SectorView.space c.args.self.now.space.now in
    let new : Space = g.P.SectorView.space c.put_header.new.space in
    let within = c.put_header.ensures.within in
    let told : IsTrue new.tells → IsTrue old.tells = λ tells. sym within.same.tells ∙ tells in
    let long = c.set_shape.ensures.size ∙ tree.long in
    record {
      inside = λ k low. subst (λ n. get_or sectors k 0 < n) (sym within.same.sectors) (c.args.self.now.inside k low);
      open_sectors = λ tells k low shut. c.args.self.now.open_sectors (told tells) k low ((within.closed (told tells) (get_or sectors k 0)).0 shut);
      agrees = λ tells.
          let node : nodes_on sectors tree.shape.node_size new.content 0 ≡ c.set_shape.new.self = subst (λ n. node_of new.content sectors (n / 512) 0 ≡ c.set_shape.new.self) long (c.put_header.ensures.node (told tells)) in
          let others : (m : ℕ) → m ≢ 0 → nodes_on sectors tree.shape.node_size new.content m ≡ nodes_on sectors tree.shape.node_size old.content m =
          subst (λ n. (m : ℕ) → m ≢ 0 → node_of new.content sectors (n / 512) m ≡ node_of old.content sectors (n / 512) m) long (c.put_header.ensures.others (told tells)) in
          subst (λ s. HasMap sectors s c.args.shape.now.total c.args.shape.now.free tree.map.items c.set_shape.new.self new.content) (sym c.requires.size)
          (subst (λ t. HasMap sectors tree.shape.node_size t c.args.shape.now.free tree.map.items c.set_shape.new.self new.content) (sym c.requires.total)
          (subst (λ f. HasMap sectors tree.shape.node_size tree.shape.total f tree.map.items c.set_shape.new.self new.content) (sym c.requires.free)
          (shaped_map sectors tree.shape.node_size tree.shape.total tree.shape.free tree.map.items tree.header c.set_shape.new.self c.args.shape.now old new (tree_large tree) tree.long c.requires.size c.set_shape.ensures others node tree.kept.map_header (c.args.self.now.agrees (told tells)) c.requires.total)));
    }
