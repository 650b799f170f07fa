use Rattle.std.proofs.Common.{◌≡◌, ◌≢◌, ◌⊎◌, ℕ, ◌+◌, ◌-◌, ◌*◌, ◌/◌, ◌≤◌, ◌<◌, List, [], ◌∷◌, ◌++◌, IsTrue, length, get_or, inl, inr, refl, sym, ◌∙◌, ap, subst, arith, ⊎_elim}
use Rattle.std.specs.List.{All}
use Rattle.std.proofs.Math.Nat.{mul-le-mul_right}
use Rattle.std.proofs.lemmas.Bool.{cases_lt, cases_eq}
use Rattle.std.proofs.lemmas.List.{get_or_default}
use Rattle.sector_disk.specs.Space.{Space}
use Rattle.btree_node.specs.Node.{back_of}
use Rattle.btree_file.specs.Frame.{PutsWithin}
use Rattle.btree_file.specs.FrameLaws.{within_both}
use Rattle.btree_file.specs.Growth.{IsGrowing, HasRoomFor, last_node, unwritten_in}
use Rattle.btree_file.specs.Map.{bits_of, used_in, is_reserved}
use Rattle.btree_file.specs.Place.{sectors_at}
use Rattle.btree_file.specs.Putting.{unput}
use Rattle.btree_file.specs.State.{sectors_of_tree, nodes_on, HasMap}
use Rattle.btree_file.specs.declared.tree.Stretch.{Stretch}
use Rattle.btree_file.specs.declared.tree.TreeFile.{TreeFile}
use Rattle.btree_file.proofs.Adding.{IsAdded, is_added, last_pushed}
use Rattle.btree_file.proofs.Changing.{record_fits}
use Rattle.btree_file.proofs.Frames.{put_within}
use Rattle.btree_file.proofs.MapNodes.{bits_more}
use Rattle.btree_file.proofs.Sizes.{tree_size, tree_large}
use Rattle.btree_file.proofs.Spending.{puts_as, room_as, unput_as, room_first, room_second, room_third, spends_three, written_three}
use Rattle.btree_file.proofs.Stages.{extends_pushed}
use Rattle.btree_file.proofs.Walking.{early_at, last_at, longer}
use Rattle.btree_file.proofs.tree.TreeFile.add_map_node.Given.{Over}
use Rattle.btree_file.proofs.tree.TreeFile.add_map_node.Goals as goal

-- the last node of a map is one of the nodes
last_low : (tree : TreeFile) (nodes : ℕ) (space : Space) → IsGrowing nodes tree space → last_node tree.map.items < tree.shape.total
last_low tree nodes space growing = tree.kept.map_inside (length tree.map.items - 1) (record { node = 0; at = 0; len = 0 }) (omega (arith, growing.some))

-- and it is the one that was read
last_of : (map : List Stretch) (len : ℕ) (found : Stretch) → len ≡ length map → 0 < length map → found ≡ get_or map (len - 1) found → found.node ≡ last_node map
last_of map len found long some is =
    ap (λ (s : Stretch). s.node) (is ∙ get_or_default map (len - 1) found (record { node = 0; at = 0; len = 0 }) (omega (arith, long, some)))
    ∙ ap (λ k. (get_or map k (record { node = 0; at = 0; len = 0 })).node) {x = len - 1} {y = length map - 1} (omega (arith, long))

-- there is room for the three nodes
has_as : (tree : TreeFile) (nodes last : ℕ) (space : Space) → last ≡ last_node tree.map.items → HasRoomFor 1 nodes tree space
    → (unput space.put (sectors_at (sectors_of_tree tree) (tree.shape.node_size / 512) 0) + unput space.put (sectors_at (sectors_of_tree tree) (tree.shape.node_size / 512) last) + 1 * (tree.shape.node_size / 512) ≤ space.spare)
    ⊎ (unwritten_in (sectors_of_tree tree) (tree.shape.node_size / 512) nodes space.put * (tree.shape.node_size / 512) ≤ space.spare)
has_as tree nodes last space is has = ⊎_elim
    (λ (both : unput space.put (sectors_at (sectors_of_tree tree) (tree.shape.node_size / 512) 0) + unput space.put (sectors_at (sectors_of_tree tree) (tree.shape.node_size / 512) (last_node tree.map.items)) + 1 * (tree.shape.node_size / 512) ≤ space.spare).
    inl (omega (arith, both, ap (λ n. unput space.put (sectors_at (sectors_of_tree tree) (tree.shape.node_size / 512) n)) is)))
    (λ all. inr all)
    has

pub link-requires-clause-room : goal.link-requires-clause-room
link-requires-clause-room g c =
    let tree = c.args.self.now in
    let last = c.index.result.now.node in
    let old : Space = g.P.SectorView.space c.args.space.now in
    let last_is = last_of tree.map.items c.len.result c.index.result.now (c.len.ensures ∙ tree.map.ok.0) c.requires.growing.some c.index.ensures in
    let low = last_low tree c.args.goal old c.requires.growing in
    unput_as (sectors_of_tree tree) (length c.turn_to_last.new.page) tree.shape.node_size last old (c.turn_to_last.ensures.length ∙ tree.page_long)
    (room_first (sectors_of_tree tree) (tree.shape.node_size / 512) c.args.goal last tree.shape.total tree.kept.apart c.requires.growing.whole (tree_size tree).0 (omega (arith, low, last_is, c.requires.below)) c.requires.below old old old old
    (has_as tree c.args.goal last old last_is c.requires.room))

pub put_node-requires-clause-room : goal.put_node-requires-clause-room
put_node-requires-clause-room g c =
    let tree = c.args.self.now in
    let last = c.index.result.now.node in
    let old : Space = g.P.SectorView.space c.args.space.now in
    let one : Space = g.P.SectorView.space c.link.new.space in
    let last_is = last_of tree.map.items c.len.result c.index.result.now (c.len.ensures ∙ tree.map.ok.0) c.requires.growing.some c.index.ensures in
    let low = last_low tree c.args.goal old c.requires.growing in
    let page_long = c.turn_to_last.ensures.length ∙ tree.page_long in
    unput_as (sectors_of_tree tree) (length c.make_map_node-stretch.new.page) tree.shape.node_size tree.shape.total one (c.make_map_node-stretch.ensures.length ∙ c.link.ensures.page.size ∙ page_long)
    (room_second (sectors_of_tree tree) (tree.shape.node_size / 512) c.args.goal last tree.shape.total tree.kept.apart c.requires.growing.whole (tree_size tree).0 (omega (arith, low, last_is, c.requires.below)) c.requires.below old one one one
    (has_as tree c.args.goal last old last_is c.requires.room)
    (room_as (sectors_of_tree tree) (length c.turn_to_last.new.page) tree.shape.node_size last old one page_long c.link.ensures.room))

pub write_header-requires-clause-room : goal.write_header-requires-clause-room
write_header-requires-clause-room g c =
    let tree = c.args.self.now in
    let last = c.index.result.now.node in
    let old : Space = g.P.SectorView.space c.args.space.now in
    let one : Space = g.P.SectorView.space c.link.new.space in
    let two : Space = g.P.SectorView.space c.put_node.new.space in
    let last_is = last_of tree.map.items c.len.result c.index.result.now (c.len.ensures ∙ tree.map.ok.0) c.requires.growing.some c.index.ensures in
    let low = last_low tree c.args.goal old c.requires.growing in
    let page_long = c.turn_to_last.ensures.length ∙ tree.page_long in
    unput_as (sectors_of_tree tree) (length c.link.new.header) tree.shape.node_size 0 two (c.link.ensures.header_long ∙ tree.long)
    (room_third (sectors_of_tree tree) (tree.shape.node_size / 512) c.args.goal last tree.shape.total tree.kept.apart c.requires.growing.whole (tree_size tree).0 (omega (arith, low, last_is, c.requires.below)) c.requires.below old one two two
    (has_as tree c.args.goal last old last_is c.requires.room)
    (room_as (sectors_of_tree tree) (length c.turn_to_last.new.page) tree.shape.node_size last old one page_long c.link.ensures.room)
    (room_as (sectors_of_tree tree) (length c.make_map_node-stretch.new.page) tree.shape.node_size tree.shape.total one two (c.make_map_node-stretch.ensures.length ∙ c.link.ensures.page.size ∙ page_long) c.put_node.ensures.room))

-- a longer map whose stretches lie in different nodes
apart_pushed : (map : List Stretch) (s : Stretch) (total : ℕ) → All (λ t. t.node < total) map → s.node ≡ total → ((i j : ℕ) (d : Stretch) → i < length map → j < length map → (get_or map i d).node ≡ (get_or map j d).node → i ≡ j)
    → (i j : ℕ) (d : Stretch) → i < length (map ++ s ∷ []) → j < length (map ++ s ∷ []) → (get_or (map ++ s ∷ []) i d).node ≡ (get_or (map ++ s ∷ []) j d).node → i ≡ j
apart_pushed map s total inside is apart i j d i_in j_in same =
    let long = longer map s in
    let front : (k : ℕ) → k < length map → (get_or (map ++ s ∷ []) k d).node ≡ (get_or map k d).node = λ k low. ap (λ (t : Stretch). t.node) (early_at map s d k low) in
    let back : (k : ℕ) → k ≡ length map → (get_or (map ++ s ∷ []) k d).node ≡ total = λ k e. ap (λ (t : Stretch). t.node) (ap (λ m. get_or (map ++ s ∷ []) m d) e ∙ last_at map s d) ∙ is in
    ⊎_elim
    (λ (i_low : i < length map). ⊎_elim
    (λ (j_low : j < length map). apart i j d i_low j_low (sym (front i i_low) ∙ same ∙ front j j_low))
    (λ (j_high : length map ≤ j). absurd (omega (arith, inside i d i_low, sym (front i i_low) ∙ same ∙ back j (omega (arith, j_in, j_high, long)))))
    (cases_lt j (length map)))
    (λ (i_high : length map ≤ i). ⊎_elim
    (λ (j_low : j < length map). absurd (omega (arith, inside j d j_low, sym (front j j_low) ∙ sym same ∙ back i (omega (arith, i_in, i_high, long)))))
    (λ (j_high : length map ≤ j). omega (arith, i_in, i_high, j_in, j_high, long))
    (cases_lt j (length map)))
    (cases_lt i (length map))

-- what holds of the old stretches and of the new one
each_pushed : (P : Stretch → Type 0) (map : List Stretch) (s : Stretch) → All P map → P s → All P (map ++ s ∷ [])
each_pushed P map s all one k d low = ⊎_elim
    (λ (less : k < length map). subst P (sym (early_at map s d k less)) (all k d less))
    (λ (high : length map ≤ k). subst P (sym (ap (λ m. get_or (map ++ s ∷ []) m d) {x = k} {y = length map} (omega (arith, low, high, longer map s)) ∙ last_at map s d)) one)
    (cases_lt k (length map))

pub invariant_of-self : goal.invariant_of-self
invariant_of-self g c =
    let tree = c.args.self.now in
    let map = tree.map.items in
    let s = c.make_map_node-stretch.result in
    let page_long = c.turn_to_last.ensures.length ∙ tree.page_long in
    let made = c.make_map_node-stretch.ensures.made in
    let new_long = c.make_map_node-stretch.ensures.length ∙ c.link.ensures.page.size ∙ page_long in
    let fit = record_fits c.make_map_node-stretch.new.page s tree.shape.node_size (tree_large tree) new_long made.is_record in
    let more = mul-le-mul_right {m = tree.shape.total + 1} {n = c.args.goal} (tree.shape.node_size / 512) (omega (arith, c.requires.below)) in
    record {
      page_long = new_long;
      long = c.write_header.ensures.header.size ∙ c.link.ensures.header_long ∙ tree.long;
      kept = record {
        size = tree.kept.size;
        small = omega (arith, c.requires.below, c.requires.growing.few);
        whole = omega (arith, more, c.requires.growing.whole);
        blocks = tree.kept.blocks;
        apart = tree.kept.apart;
        free = omega (arith, tree.kept.free);
        map_inside = subst (λ m. All (λ t. t.node < tree.shape.total + 1) m) (sym c.add_stretch.ensures.items)
            (each_pushed (λ t. t.node < tree.shape.total + 1) map s (λ k d low. omega (arith, tree.kept.map_inside k d low)) (omega (arith, c.make_map_node-stretch.ensures.node)));
        map_low = subst (λ m. All (λ t. t.at + t.len ≤ tree.shape.node_size) m) (sym c.add_stretch.ensures.items) (each_pushed (λ t. t.at + t.len ≤ tree.shape.node_size) map s tree.kept.map_low (omega (arith, fit.1, new_long)));
        map_header = subst (λ m. All (λ t. t.node ≡ 0 → 248 ≤ t.at) m) (sym c.add_stretch.ensures.items)
            (each_pushed (λ t. t.node ≡ 0 → 248 ≤ t.at) map s tree.kept.map_header (λ e. absurd (omega (arith, e, c.make_map_node-stretch.ensures.node, last_low tree c.args.goal (g.P.SectorView.space c.args.space.now) c.requires.growing))));
        map_apart = subst (λ m. (i j : ℕ) (d : Stretch) → i < length m → j < length m → (get_or m i d).node ≡ (get_or m j d).node → i ≡ j) (sym c.add_stretch.ensures.items)
            (apart_pushed map s tree.shape.total tree.kept.map_inside c.make_map_node-stretch.ensures.node tree.kept.map_apart);
      };
    }

-- the three puts, each in the tree's own words
frame_here : (g : Over) (c : goal.After-self-2-1 g) → PutsWithin (sectors_of_tree c.args.self.now) (g.P.SectorView.space c.args.space.now) (g.P.SectorView.space c.write_header.new.space)
frame_here g c =
    let tree = c.args.self.now in
    let sectors = sectors_of_tree tree in
    let size = tree.shape.node_size in
    let last = c.index.result.now.node in
    let old : Space = g.P.SectorView.space c.args.space.now in
    let one : Space = g.P.SectorView.space c.link.new.space in
    let two : Space = g.P.SectorView.space c.put_node.new.space in
    let new : Space = g.P.SectorView.space c.write_header.new.space in
    let page_long = c.turn_to_last.ensures.length ∙ tree.page_long in
    let new_long = c.make_map_node-stretch.ensures.length ∙ c.link.ensures.page.size ∙ page_long in
    let header_long = c.link.ensures.header_long ∙ tree.long in
    within_both (sectors_of_tree tree) old two new
    (within_both (sectors_of_tree tree) old one two
    (put_within (sectors_of_tree tree) (tree.shape.node_size / 512) last c.link.new.page old one (c.link.ensures.page.size ∙ page_long ∙ sym (tree_size tree).1)
    (λ tells. puts_as (sectors_of_tree tree) (length c.turn_to_last.new.page) tree.shape.node_size last c.link.new.page old one page_long (c.link.ensures.puts tells))
    (room_as (sectors_of_tree tree) (length c.turn_to_last.new.page) tree.shape.node_size last old one page_long c.link.ensures.room) c.link.ensures.same c.link.ensures.time c.link.ensures.faults)
    (put_within (sectors_of_tree tree) (tree.shape.node_size / 512) tree.shape.total c.make_map_node-stretch.new.page one two (new_long ∙ sym (tree_size tree).1)
    (λ tells. puts_as (sectors_of_tree tree) (length c.make_map_node-stretch.new.page) tree.shape.node_size tree.shape.total c.make_map_node-stretch.new.page one two new_long (c.put_node.ensures.puts tells))
    (room_as (sectors_of_tree tree) (length c.make_map_node-stretch.new.page) tree.shape.node_size tree.shape.total one two new_long c.put_node.ensures.room) c.put_node.ensures.same c.put_node.ensures.time c.put_node.ensures.faults))
    (put_within (sectors_of_tree tree) (tree.shape.node_size / 512) 0 c.write_header.new.header two new (c.write_header.ensures.header.size ∙ header_long ∙ sym (tree_size tree).1)
    (λ tells. puts_as (sectors_of_tree tree) (length c.link.new.header) tree.shape.node_size 0 c.write_header.new.header two new header_long (c.write_header.ensures.puts tells))
    (room_as (sectors_of_tree tree) (length c.link.new.header) tree.shape.node_size 0 two new header_long c.write_header.ensures.room) c.write_header.ensures.same c.write_header.ensures.time c.write_header.ensures.faults)

-- what they make of the content
added_here : (g : Over) (c : goal.After-self-2-1 g) → IsTrue (g.P.SectorView.space c.args.space.now).tells
    → IsAdded (sectors_of_tree c.args.self.now) c.args.self.now.shape.node_size c.args.self.now.shape.total c.args.self.now.shape.free c.args.self.now.map.items c.args.self.now.header c.write_header.new.header c.make_map_node-stretch.new.page
    c.make_map_node-stretch.result (g.P.SectorView.space c.args.space.now).content (g.P.SectorView.space c.write_header.new.space).content
added_here g c tells =
    let tree = c.args.self.now in
    let last = c.index.result.now.node in
    let old : Space = g.P.SectorView.space c.args.space.now in
    let one : Space = g.P.SectorView.space c.link.new.space in
    let two : Space = g.P.SectorView.space c.put_node.new.space in
    let new : Space = g.P.SectorView.space c.write_header.new.space in
    let last_is = last_of tree.map.items c.len.result c.index.result.now (c.len.ensures ∙ tree.map.ok.0) c.requires.growing.some c.index.ensures in
    let page_long = c.turn_to_last.ensures.length ∙ tree.page_long in
    let new_long = c.make_map_node-stretch.ensures.length ∙ c.link.ensures.page.size ∙ page_long in
    let header_long = c.link.ensures.header_long ∙ tree.long in
    let was : HasMap (sectors_of_tree tree) tree.shape.node_size tree.shape.total tree.shape.free tree.map.items tree.header old.content = c.requires.growing.agrees tells in
    let more = mul-le-mul_right {m = tree.shape.total + 1} {n = c.args.goal} (tree.shape.node_size / 512) (omega (arith, c.requires.below)) in
    let page_was : c.turn_to_last.new.page ≡ nodes_on (sectors_of_tree tree) tree.shape.node_size old.content last = ⊎_elim
    (λ (z : last ≡ 0). c.turn_to_last.ensures.header z ∙ sym was.header_is ∙ ap (λ n. nodes_on (sectors_of_tree tree) tree.shape.node_size old.content n) (sym z))
    (λ (o : last ≢ 0). c.turn_to_last.ensures.kept o ∙ c.requires.growing.page tells (λ e. o (last_is ∙ e)) ∙ ap (λ n. nodes_on (sectors_of_tree tree) tree.shape.node_size old.content n) (sym last_is))
    (cases_eq last 0) in
    is_added (sectors_of_tree tree) tree.shape.node_size tree.shape.total tree.shape.free tree.map.items tree.header c.turn_to_last.new.page c.link.new.page c.make_map_node-stretch.new.page c.link.new.header c.write_header.new.header
    c.make_map_node-stretch.result
    (record { node_size = tree.shape.node_size; depth = tree.shape.depth; root = tree.shape.root; first = tree.shape.first; last = tree.shape.last; leaf_records = tree.shape.leaf_records; total = tree.shape.total + 1; free = tree.shape.free })
    (back_of c.turn_to_last.new.page) last old one two new
    tree.kept.apart (tree_large tree) (tree_size tree).1 (omega (arith, more, c.requires.growing.whole)) tree.kept.map_inside tree.kept.map_apart tree.kept.map_header c.requires.growing.some last_is (c.requires.full tells) was page_was
    c.link.ensures.page c.link.ensures.header c.link.ensures.header_kept c.make_map_node-stretch.ensures.made c.make_map_node-stretch.ensures.node c.write_header.ensures.header refl refl tree.long page_long new_long
    (puts_as (sectors_of_tree tree) (length c.turn_to_last.new.page) tree.shape.node_size last c.link.new.page old one page_long (c.link.ensures.puts tells))
    (puts_as (sectors_of_tree tree) (length c.make_map_node-stretch.new.page) tree.shape.node_size tree.shape.total c.make_map_node-stretch.new.page one two new_long (c.put_node.ensures.puts (c.link.ensures.same.tells ∙ tells)))
    (puts_as (sectors_of_tree tree) (length c.link.new.header) tree.shape.node_size 0 c.write_header.new.header two new header_long (c.write_header.ensures.puts (c.put_node.ensures.same.tells ∙ c.link.ensures.same.tells ∙ tells)))

pub returns-clause-growing : goal.returns-clause-growing
returns-clause-growing g c =
    let tree = c.args.self.now in
    let frame = frame_here g c in
    let new : Space = g.P.SectorView.space c.write_header.new.space in
    let told : IsTrue new.tells → IsTrue (g.P.SectorView.space c.args.space.now).tells = λ tells. sym frame.same.tells ∙ tells in
    record {
      inside = λ k low. subst (λ n. get_or (sectors_of_tree tree) k 0 < n) (sym frame.same.sectors) (c.requires.growing.inside k low);
      open_sectors = λ tells k low shut. c.requires.growing.open_sectors (told tells) k low ((frame.closed (told tells) (get_or (sectors_of_tree tree) k 0)).0 shut);
      few = c.requires.growing.few;
      whole = c.requires.growing.whole;
      some = omega (arith, ap (λ (m : List Stretch). length m) c.add_stretch.ensures.items, longer tree.map.items c.make_map_node-stretch.result);
      order = omega (arith, c.requires.below);
      agrees = λ tells. subst (λ m. HasMap (sectors_of_tree tree) tree.shape.node_size (tree.shape.total + 1) tree.shape.free m c.write_header.new.header new.content) (sym c.add_stretch.ensures.items) (added_here g c (told tells)).has_map;
      settled = λ tells. c.write_header.ensures.header.numbers;
      page = λ tells other. sym (added_here g c (told tells)).added_node
          ∙ ap (λ n. nodes_on (sectors_of_tree tree) tree.shape.node_size new.content n) (sym (ap last_node c.add_stretch.ensures.items ∙ last_pushed tree.map.items c.make_map_node-stretch.result ∙ c.make_map_node-stretch.ensures.node));
    }

pub returns-clause-tree : goal.returns-clause-tree
returns-clause-tree g c tells =
    let tree = c.args.self.now in
    let new : Space = g.P.SectorView.space c.write_header.new.space in
    let added = added_here g c tells in
    let items = c.add_stretch.ensures.items in
    record {
      order = omega arith;
      numbers = refl;
      form = added.form;
      nodes = added.nodes;
      used = λ n low. ap (λ m. used_in (nodes_on (sectors_of_tree tree) tree.shape.node_size new.content) m n) c.add_stretch.ensures.items ∙ added.used n low;
      reserved = λ n low. ap (λ m. is_reserved m n) c.add_stretch.ensures.items ∙ added.reserved n low;
      fresh = λ n high low. ap (λ m. used_in (nodes_on (sectors_of_tree tree) tree.shape.node_size new.content) m n) c.add_stretch.ensures.items ∙ added.fresh n high low ∙ ap (λ m. is_reserved m n) (sym c.add_stretch.ensures.items);
    }

pub returns-clause-bits : goal.returns-clause-bits
returns-clause-bits g c =
    let tree = c.args.self.now in
    let s = c.make_map_node-stretch.result in
    let page_long = c.turn_to_last.ensures.length ∙ tree.page_long in
    let new_long = c.make_map_node-stretch.ensures.length ∙ c.link.ensures.page.size ∙ page_long in
    omega (arith, ap bits_of c.add_stretch.ensures.items, bits_more tree.map.items s, c.make_map_node-stretch.ensures.made.long, new_long, tree_large tree)

pub returns-clause-frame : goal.returns-clause-frame
returns-clause-frame g c = frame_here g c

pub returns-clause-room : goal.returns-clause-room
returns-clause-room g c =
    let tree = c.args.self.now in
    let last = c.index.result.now.node in
    let old : Space = g.P.SectorView.space c.args.space.now in
    let one : Space = g.P.SectorView.space c.link.new.space in
    let two : Space = g.P.SectorView.space c.put_node.new.space in
    let new : Space = g.P.SectorView.space c.write_header.new.space in
    let last_is = last_of tree.map.items c.len.result c.index.result.now (c.len.ensures ∙ tree.map.ok.0) c.requires.growing.some c.index.ensures in
    let low = last_low tree c.args.goal old c.requires.growing in
    let page_long = c.turn_to_last.ensures.length ∙ tree.page_long in
    let first = room_as (sectors_of_tree tree) (length c.turn_to_last.new.page) tree.shape.node_size last old one page_long c.link.ensures.room in
    let second = room_as (sectors_of_tree tree) (length c.make_map_node-stretch.new.page) tree.shape.node_size tree.shape.total one two (c.make_map_node-stretch.ensures.length ∙ c.link.ensures.page.size ∙ page_long) c.put_node.ensures.room in
    let third = room_as (sectors_of_tree tree) (length c.link.new.header) tree.shape.node_size 0 two new (c.link.ensures.header_long ∙ tree.long) c.write_header.ensures.room in
    let low_goal : last < c.args.goal = omega (arith, low, last_is, c.requires.below) in
    let has = has_as tree c.args.goal last old last_is c.requires.room in
    let node_is : last_node c.add_stretch.new.map.items ≡ tree.shape.total = ap last_node c.add_stretch.ensures.items ∙ last_pushed tree.map.items c.make_map_node-stretch.result ∙ c.make_map_node-stretch.ensures.node in
    let count : length c.add_stretch.new.map.items ≡ length tree.map.items + 1 = ap (λ (m : List Stretch). length m) c.add_stretch.ensures.items ∙ longer tree.map.items c.make_map_node-stretch.result in
    let product : length c.add_stretch.new.map.items * (tree.shape.node_size / 512) ≡ (length tree.map.items + 1) * (tree.shape.node_size / 512) = ap (λ k. k * (tree.shape.node_size / 512)) count in
    let written = written_three (sectors_of_tree tree) (tree.shape.node_size / 512) c.args.goal last tree.shape.total tree.kept.apart c.requires.growing.whole (tree_size tree).0 low_goal c.requires.below old one two new has first second third in
    let spent = spends_three (sectors_of_tree tree) (tree.shape.node_size / 512) c.args.goal last tree.shape.total tree.kept.apart c.requires.growing.whole (tree_size tree).0 low_goal c.requires.below old one two new has first second third in
    record {
      written = omega (
        arith,
        written,
        product,
        ap (λ n. unput new.put (sectors_at (sectors_of_tree tree) (tree.shape.node_size / 512) n)) node_is,
        ap (λ n. unput old.put (sectors_at (sectors_of_tree tree) (tree.shape.node_size / 512) n)) last_is,
      );
      unwritten = spent;
    }

pub returns-clause-below : goal.returns-clause-below
returns-clause-below g c =
    g.met.P.SectorView.follows_trans c.args.space.now c.put_node.new.space c.write_header.new.space
    (g.met.P.SectorView.follows_trans c.args.space.now c.link.new.space c.put_node.new.space c.link.ensures.below c.put_node.ensures.below) c.write_header.ensures.below

pub returns-clause-extends : goal.returns-clause-extends
returns-clause-extends g c = extends_pushed c.args.self.now.shape.total c.args.self.now.map.items c.add_stretch.new.map.items c.make_map_node-stretch.result c.add_stretch.ensures.items c.make_map_node-stretch.ensures.node
