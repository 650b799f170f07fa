use Rattle.std.proofs.Common.{◌≡◌, ℕ, ◌++◌, ◌+◌, ◌*◌, ◌/◌, ◌%◌, ◌≤◌, ◌<◌, List, IsTrue, length, get_or, take, min, refl, sym, ◌∙◌, ap, subst, arith}
use Rattle.std.specs.List.{All}
use Rattle.std.proofs.lemmas.Bool.{true≢false}
use Rattle.hx_bytes.specs.declared.extents.Extent.{Extent}
use Rattle.fork_map.specs.Blocks.{blocks_of}
use Rattle.sector_disk.specs.Space.{Space}
use Rattle.btree_node.specs.Node.{is_node_size}
use Rattle.btree_node.specs.TreeFile.{tree_head, shape_of}
use Rattle.btree_node.specs.declared.store.TreeShape.{TreeShape}
use Rattle.btree_file.specs.Growth.{GrewFrom}
use Rattle.btree_file.specs.Standing.{Stands}
use Rattle.btree_file.specs.State.{sectors_of_tree, nodes_on}
use Rattle.btree_file.specs.declared.tree.Stretch.{Stretch}
use Rattle.btree_file.specs.declared.tree.TreeFile.{TreeFile}
use Rattle.btree_file.proofs.Refreshed.{kept_whole, kept_apart, kept_inside, inside_after, first_inside, all_front, apart_first, header_back, some_node, room_back, blocks_back, cut_is, stands_back}
use Rattle.btree_file.proofs.tree.TreeFile.refresh.Goals as goal

-- the header node that was read is that of the earlier state
page_is : (before tree : TreeFile) (content : List (List ℕ)) (page : List ℕ) → GrewFrom before tree → Stands before content → page ≡ nodes_on (sectors_of_tree tree) (length tree.page) content 0 → page ≡ before.header
page_is before tree content page grew was read = read ∙ ap (λ n. nodes_on (sectors_of_tree tree) n content 0) tree.page_long ∙ header_back before tree content grew was

shape_is : (before tree : TreeFile) (content : List (List ℕ)) (page : List ℕ) (shape : TreeShape) → GrewFrom before tree → Stands before content → page ≡ nodes_on (sectors_of_tree tree) (length tree.page) content 0 → shape ≡ shape_of (tree_head page) → shape ≡ before.shape
shape_is before tree content page shape grew was read is = is ∙ ap (λ (h : List ℕ). shape_of (tree_head h)) (page_is before tree content page grew was read) ∙ was.settled

pub returns-then-self-eq0-clause-back : goal.returns-then-self-eq0-clause-back
returns-then-self-eq0-clause-back g c = λ tells before grew was.
    let old : Space = g.V.SectorView.space c.args.view.now in
    absurd (omega (arith, c.if-self-eq0.true, some_node before c.args.self.now old.content grew was))

pub returns-then-not-has_room_for-clause-back : goal.returns-then-not-has_room_for-clause-back
returns-then-not-has_room_for-clause-back g c = λ tells before grew was.
    let tree : TreeFile = c.args.self.now in
    let old : Space = g.V.SectorView.space c.args.view.now in
    let same = shape_is before tree old.content c.get_node.new.into c.shape-shape.result grew was (c.in_ok-get_node.ensures.value tells) c.shape-shape.ensures in
    absurd (true≢false (sym (c.if-not-has_room_for.ensures.1 (room_back before tree old.content grew was c.shape-shape.result same))))

pub invariant_of-self-2 : goal.invariant_of-self-2
invariant_of-self-2 g c =
    let tree : TreeFile = c.args.self.now in
    let shape : TreeShape = c.shape-shape.result in
    let list : List Extent = c.shorten.new.self in
    let room = c.if-not-has_room_for.ensures.0 refl in
    let sectors : ℕ = shape.total * (shape.node_size / 512) in
    let size : shape.node_size ≡ tree.shape.node_size = room.1 in
    let long : length c.get_node.new.into ≡ shape.node_size = c.in_ok-get_node.ensures.length ∙ tree.page_long ∙ sym size in
    let product : c.from.result * c.from-2.result ≡ sectors = ap (λ a. a * c.from-2.result) c.from.ensures ∙ ap (λ b. shape.total * b) c.from-2.ensures in
    let kept : blocks_of list ≡ take (sectors / tree.per_block + min 1 (sectors % tree.per_block)) (blocks_of tree.fork) =
    c.shorten.ensures ∙ ap (λ n. take n (blocks_of tree.fork)) (c.blocks_for.ensures ∙ ap (λ n. n / tree.per_block + min 1 (n % tree.per_block)) product) in
    let within : sectors ≤ length (sectors_of_tree tree) = subst (λ n. shape.total * (n / 512) ≤ length (sectors_of_tree tree)) (sym size) room.3 in
    let items = c.truncate.ensures.items in
    let count : ℕ = c.count_inside-len.result in
    let inside : (k : ℕ) (d : Stretch) → k < count → (get_or tree.map.items k d).node < shape.total = subst (λ (m : List Stretch). (k : ℕ) (d : Stretch) → k < count → (get_or m k d).node < shape.total) c.deref.ensures.value c.count_inside-len.ensures.inside in
    record {
      page_long = long;
      long = ap (λ (l : List ℕ). length l) c.copy_from.ensures ∙ long;
      kept = record {
        size = subst (λ n. IsTrue (is_node_size n)) (sym size) tree.kept.size;
        small = omega arith;
        whole = kept_whole tree.fork list tree.per_block sectors room.0 within kept;
        blocks = tree.kept.blocks;
        apart = kept_apart tree.fork list tree.per_block (sectors / tree.per_block + min 1 (sectors % tree.per_block)) tree.kept.apart kept;
        free = room.2;
        map_inside = subst (λ m. All (λ s. s.node < shape.total) m) (sym items) (first_inside tree.map.items count shape.total inside);
        map_low = subst (λ m. All (λ s. s.at + s.len ≤ shape.node_size) m) (sym items) (subst (λ n. All (λ s. s.at + s.len ≤ n) (take count tree.map.items)) (sym size) (all_front (λ s. s.at + s.len ≤ tree.shape.node_size) tree.map.items count tree.kept.map_low));
        map_header = subst (λ m. All (λ s. s.node ≡ 0 → 248 ≤ s.at) m) (sym items) (all_front (λ s. s.node ≡ 0 → 248 ≤ s.at) tree.map.items count tree.kept.map_header);
        map_apart = subst (λ m. (i j : ℕ) (d : Stretch) → i < length m → j < length m → (get_or m i d).node ≡ (get_or m j d).node → i ≡ j) (sym items) (apart_first tree.map.items count tree.kept.map_apart);
      };
    }

pub returns-clause-back : goal.returns-clause-back
returns-clause-back g c = λ tells before grew was.
    let tree : TreeFile = c.args.self.now in
    let old : Space = g.V.SectorView.space c.args.view.now in
    let shape : TreeShape = c.shape-shape.result in
    let read = c.in_ok-get_node.ensures.value tells in
    let page = page_is before tree old.content c.get_node.new.into grew was read in
    let same : shape ≡ before.shape = shape_is before tree old.content c.get_node.new.into shape grew was read c.shape-shape.ensures in
    let total : shape.total ≡ before.shape.total = ap (λ (s : TreeShape). s.total) same in
    let count : ℕ = c.count_inside-len.result in
    let more : List Stretch = grew.map.more in
    let now : c.deref.result.now ≡ before.map.items ++ more = c.deref.ensures.value ∙ grew.map.items in
    let cut : take count (before.map.items ++ more) ≡ before.map.items = cut_is before.map.items more before.shape.total count before.kept.map_inside grew.map.later
    (subst (λ (m : List Stretch). count ≤ length m) now c.count_inside-len.ensures.few)
    (λ k d low. omega (arith, total, subst (λ (m : List Stretch). (get_or m k d).node < shape.total) now (c.count_inside-len.ensures.inside k d low)))
    (λ d low. omega (arith, total, subst (λ (m : List Stretch). count < length m → shape.total ≤ (get_or m count d).node) now (c.count_inside-len.ensures.stop d) low)) in
    let sectors : ℕ = shape.total * (shape.node_size / 512) in
    let product : c.from.result * c.from-2.result ≡ sectors = ap (λ a. a * c.from-2.result) c.from.ensures ∙ ap (λ b. shape.total * b) c.from-2.ensures in
    let kept : blocks_of c.shorten.new.self ≡ take (sectors / tree.per_block + min 1 (sectors % tree.per_block)) (blocks_of tree.fork) =
    c.shorten.ensures ∙ ap (λ n. take n (blocks_of tree.fork)) (c.blocks_for.ensures ∙ ap (λ n. n / tree.per_block + min 1 (n % tree.per_block)) product) in
    let items = c.truncate.ensures.items ∙ ap (λ (m : List Stretch). take count m) grew.map.items ∙ cut in
    let blocks : blocks_of c.shorten.new.self ≡ blocks_of before.fork = blocks_back before tree old.content grew was c.shorten.new.self shape same kept in
    let header = c.copy_from.ensures ∙ page in
    let parts = stands_back before tree old.content grew was c.shorten.new.self tree.per_block shape c.truncate.new.self.items c.copy_from.new.self same blocks grew.per_block items header in
    record {
      stands = record { agrees = parts.0; settled = parts.1; whole = parts.2; first = parts.3 };
      shape = same;
      blocks = blocks;
      per_block = grew.per_block;
      map = items;
      header = header;
    }

pub returns-in_err-get_node-clause-inside : goal.returns-in_err-get_node-clause-inside
returns-in_err-get_node-clause-inside g c =
    let tree : TreeFile = c.args.self.now in
    inside_after tree.fork tree.per_block (g.V.SectorView.space c.args.view.now) (g.V.SectorView.space c.get_node.new.space) c.requires.inside c.get_node.ensures.reads.same.sectors

pub returns-then-not-has_room_for-clause-inside : goal.returns-then-not-has_room_for-clause-inside
returns-then-not-has_room_for-clause-inside g c =
    let tree : TreeFile = c.args.self.now in
    inside_after tree.fork tree.per_block (g.V.SectorView.space c.args.view.now) (g.V.SectorView.space c.get_node.new.space) c.requires.inside c.get_node.ensures.reads.same.sectors

pub returns-clause-inside : goal.returns-clause-inside
returns-clause-inside g c =
    let tree : TreeFile = c.args.self.now in
    kept_inside tree.fork c.shorten.new.self tree.per_block c.blocks_for.result (g.V.SectorView.space c.args.view.now) (g.V.SectorView.space c.get_node.new.space) c.requires.inside c.get_node.ensures.reads.same.sectors c.shorten.ensures
