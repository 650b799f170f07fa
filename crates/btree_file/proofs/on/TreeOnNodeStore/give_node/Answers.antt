use Rattle.std.proofs.Common.{◌≡◌, ◌<◌, ◌≤◌, ◌+◌, ◌*◌, ◌/◌, ℕ, true, false, IsTrue, List, length, get_or, inl, refl, sym, ◌∙◌, ap, subst, arith}
use Rattle.std.proofs.lemmas.Bool.{true≢false}
use Rattle.flag_rows.specs.Bits.{bit_of}
use Rattle.fork_map.specs.Nodes.{node_of}
use Rattle.sector_disk.specs.Space.{Space}
use Rattle.btree_node.specs.MemLaws.{legal_size}
use Rattle.btree_node.specs.Store.{unwritten_sectors}
use Rattle.btree_node.specs.TreeFile.{tree_head}
use Rattle.btree_file.specs.FrameLaws.{form_none, reads_none, reads_within}
use Rattle.btree_file.specs.Map.{used_in, is_reserved, bits_of}
use Rattle.btree_file.specs.Place.{sectors_at}
use Rattle.btree_file.specs.Putting.{unput, PutsNode, TakesRoomFor}
use Rattle.btree_file.specs.Spots.{IsSpot}
use Rattle.btree_file.specs.State.{nodes_on, sectors_of_tree}
use Rattle.btree_file.specs.declared.marking.Spot.{Spot}
use Rattle.btree_file.specs.declared.tree.Stretch.{Stretch}
use Rattle.btree_file.proofs.Changing.{count_cleared}
use Rattle.btree_file.proofs.Marks.{node_low, bytes_low, node_whole, may_mark, mark_once, mark_within, mark_here, mark_others, mark_nodes, mark_map, mark_form, spot_bit, none_used}
use Rattle.btree_file.proofs.Rooms.{once_read, once_again, may_put}
use Rattle.btree_file.proofs.Sizes.{tree_size, size_most}
use Rattle.btree_file.proofs.on.TreeOnNodeStore.give_node.Goals as goal

reserved_is : (these map : List Stretch) (n : ℕ) → these ≡ map → is_reserved these n ≡ true → is_reserved map n ≡ false → ⊥
reserved_is these map n same is isnt = true≢false (sym is ∙ ap (λ (m : List Stretch). is_reserved m n) same ∙ isnt)

pub returns-then-is_reserved-clause-tree : goal.returns-then-is_reserved-clause-tree
returns-then-is_reserved-clause-tree g c tells used unreserved =
    absurd (reserved_is c.deref.result.now c.args.self.now.tree.now.map.items c.args.node c.deref.ensures.value (sym c.is_reserved.ensures ∙ c.if-is_reserved.true) unreserved)

pub returns-then-is_reserved-clause-one_more : goal.returns-then-is_reserved-clause-one_more
returns-then-is_reserved-clause-one_more g c tells used unreserved =
    absurd (reserved_is c.deref.result.now c.args.self.now.tree.now.map.items c.args.node c.deref.ensures.value (sym c.is_reserved.ensures ∙ c.if-is_reserved.true) unreserved)

pub returns-then-tree-clause-tree : goal.returns-then-tree-clause-tree
returns-then-tree-clause-tree g c tells used unreserved =
    let tree = c.args.self.now.tree.now in
    let old : Space = g.P.SectorView.space c.args.self.now.space.now in
    absurd (true≢false (sym used ∙ none_used (sectors_of_tree tree) tree.shape.node_size tree.shape.total tree.shape.free tree.map.items tree.header old.content c.args.node (c.args.self.now.agrees tells) c.if-tree.true c.requires.inside))

pub returns-then-tree-clause-one_more : goal.returns-then-tree-clause-one_more
returns-then-tree-clause-one_more g c tells used unreserved =
    let tree = c.args.self.now.tree.now in
    let old : Space = g.P.SectorView.space c.args.self.now.space.now in
    absurd (true≢false (sym used ∙ none_used (sectors_of_tree tree) tree.shape.node_size tree.shape.total tree.shape.free tree.map.items tree.header old.content c.args.node (c.args.self.now.agrees tells) c.if-tree.true c.requires.inside))

pub returns-in_default-clause-tree : goal.returns-in_default-clause-tree
returns-in_default-clause-tree g c tells used unreserved =
    let tree = c.args.self.now.tree.now in
    absurd (true≢false (sym (c.in_default.ensures.found (subst (λ (m : List Stretch). c.args.node < bits_of m) (sym c.deref-2.ensures.value) (omega (arith, c.requires.inside, (c.args.self.now.agrees tells).bits))))))

pub returns-in_default-clause-one_more : goal.returns-in_default-clause-one_more
returns-in_default-clause-one_more g c tells used unreserved =
    let tree = c.args.self.now.tree.now in
    absurd (true≢false (sym (c.in_default.ensures.found (subst (λ (m : List Stretch). c.args.node < bits_of m) (sym c.deref-2.ensures.value) (omega (arith, c.requires.inside, (c.args.self.now.agrees tells).bits))))))

pub get_node-requires-clause-whole : goal.get_node-requires-clause-whole
get_node-requires-clause-whole g c =
    let tree = c.args.self.now.tree.now in
    let old : Space = g.P.SectorView.space c.args.self.now.space.now in
    let is = subst (λ (m : List Stretch). IsSpot m tree.shape.total c.in-Some.spot) c.deref-2.ensures.value c.in-Some.ensures.spot in
    subst (λ n. (c.in-Some.spot.stretch.node + 1) * (n / 512) ≤ length (sectors_of_tree tree)) (sym tree.page_long) (node_whole tree old old (reads_none old) c.in-Some.spot is)

pub returns-in_err-get_node-clause-writes : goal.returns-in_err-get_node-clause-writes
unfolding unwritten_sectors
returns-in_err-get_node-clause-writes g c =
    let tree = c.args.self.now.tree.now in
    let old : Space = g.P.SectorView.space c.args.self.now.space.now in
    let mid : Space = g.P.SectorView.space c.get_node.new.space in
    let room = c.get_node.ensures.reads.room in
    let once = once_again (sectors_of_tree tree) (tree.shape.node_size / 512) tree.shape.total old.put mid.put old.spare mid.spare (once_read (sectors_of_tree tree) (tree.shape.node_size / 512) tree.shape.total old.put mid.put old.spare mid.spare room.put room.spare) in
    record { still = once.still; fewer = once.fewer; some = once.some; left = once.writes; sectors = once.room }

pub returns-in_err-get_node-clause-below : goal.returns-in_err-get_node-clause-below
returns-in_err-get_node-clause-below g c =
    let tree = c.args.self.now.tree.now in
    let old : Space = g.P.SectorView.space c.args.self.now.space.now in
    let mid : Space = g.P.SectorView.space c.get_node.new.space in
    (record { file = record { fork = refl; per_block = refl; map = refl; node_size = refl; total = refl }; form = λ tells. form_none (tree_head tree.header); space = reads_within (sectors_of_tree tree) old mid c.get_node.ensures.reads }, c.get_node.ensures.below)

pub returns-then-first_clear-place-clause-writes : goal.returns-then-first_clear-place-clause-writes
unfolding unwritten_sectors
returns-then-first_clear-place-clause-writes g c =
    let tree = c.args.self.now.tree.now in
    let old : Space = g.P.SectorView.space c.args.self.now.space.now in
    let mid : Space = g.P.SectorView.space c.get_node.new.space in
    let room = c.get_node.ensures.reads.room in
    let once = once_again (sectors_of_tree tree) (tree.shape.node_size / 512) tree.shape.total old.put mid.put old.spare mid.spare (once_read (sectors_of_tree tree) (tree.shape.node_size / 512) tree.shape.total old.put mid.put old.spare mid.spare room.put room.spare) in
    record { still = once.still; fewer = once.fewer; some = once.some; left = once.writes; sectors = once.room }

pub returns-then-first_clear-place-clause-below : goal.returns-then-first_clear-place-clause-below
returns-then-first_clear-place-clause-below g c =
    let tree = c.args.self.now.tree.now in
    let old : Space = g.P.SectorView.space c.args.self.now.space.now in
    let mid : Space = g.P.SectorView.space c.get_node.new.space in
    (record { file = record { fork = refl; per_block = refl; map = refl; node_size = refl; total = refl }; form = λ tells. form_none (tree_head tree.header); space = reads_within (sectors_of_tree tree) old mid c.get_node.ensures.reads }, c.get_node.ensures.below)

pub overflow_mul-place : goal.overflow_mul-place
overflow_mul-place g c =
    let tree = c.args.self.now.tree.now in
    let old : Space = g.P.SectorView.space c.args.self.now.space.now in
    let is = subst (λ (m : List Stretch). IsSpot m tree.shape.total c.in-Some.spot) c.deref-2.ensures.value c.in-Some.ensures.spot in
    let small = size_most tree.shape.node_size (legal_size tree.shape.node_size tree.kept.size) in
    let low = bytes_low tree old old (reads_none old) c.in-Some.spot is in
    let bit = is.bit in
    omega (arith, small, low, bit)

pub overflow_add-place : goal.overflow_add-place
overflow_add-place g c =
    let tree = c.args.self.now.tree.now in
    let old : Space = g.P.SectorView.space c.args.self.now.space.now in
    let is = subst (λ (m : List Stretch). IsSpot m tree.shape.total c.in-Some.spot) c.deref-2.ensures.value c.in-Some.ensures.spot in
    let small = size_most tree.shape.node_size (legal_size tree.shape.node_size tree.kept.size) in
    let low = bytes_low tree old old (reads_none old) c.in-Some.spot is in
    let bit = is.bit in
    omega (arith, small, low, bit)

pub overflow_add-place-2 : goal.overflow_add-place-2
overflow_add-place-2 g c =
    let tree = c.args.self.now.tree.now in
    let old : Space = g.P.SectorView.space c.args.self.now.space.now in
    let is = subst (λ (m : List Stretch). IsSpot m tree.shape.total c.in-Some.spot) c.deref-2.ensures.value c.in-Some.ensures.spot in
    let small = size_most tree.shape.node_size (legal_size tree.shape.node_size tree.kept.size) in
    let low = bytes_low tree old old (reads_none old) c.in-Some.spot is in
    let bit = is.bit in
    omega (arith, small, low, bit)

pub first_clear-requires-clause-inside : goal.first_clear-requires-clause-inside
first_clear-requires-clause-inside g c =
    let tree = c.args.self.now.tree.now in
    let old : Space = g.P.SectorView.space c.args.self.now.space.now in
    let is = subst (λ (m : List Stretch). IsSpot m tree.shape.total c.in-Some.spot) c.deref-2.ensures.value c.in-Some.ensures.spot in
    let small = size_most tree.shape.node_size (legal_size tree.shape.node_size tree.kept.size) in
    let low = bytes_low tree old old (reads_none old) c.in-Some.spot is in
    let bit = is.bit in
    omega (arith, low, bit, c.get_node.ensures.length, tree.page_long)

-- the bit on the page is the one that the node has
bit_is : (content : List (List ℕ)) (sectors page : List ℕ) (size total : ℕ) (map : List Stretch) (spot : Spot) (n : ℕ) → IsSpot map total spot → spot.node ≡ n → page ≡ nodes_on sectors size content spot.stretch.node
    → used_in (nodes_on sectors size content) map n ≡ bit_of page (8 * spot.stretch.at + spot.bit)
bit_is content sectors page size total map spot n is at same =
    ap (used_in (nodes_on sectors size content) map) (sym at) ∙ spot_bit (nodes_on sectors size content) map total spot is ∙ ap (λ (l : List ℕ). bit_of l (8 * spot.stretch.at + spot.bit)) (sym same)

pub returns-then-first_clear-place-clause-tree : goal.returns-then-first_clear-place-clause-tree
returns-then-first_clear-place-clause-tree g c tells used unreserved =
    let tree = c.args.self.now.tree.now in
    let old : Space = g.P.SectorView.space c.args.self.now.space.now in
    let is = subst (λ (m : List Stretch). IsSpot m tree.shape.total c.in-Some.spot) c.deref-2.ensures.value c.in-Some.ensures.spot in
    let long = c.get_node.ensures.length ∙ tree.page_long in
    let page = λ (t : IsTrue old.tells). subst (λ n. c.get_node.new.into ≡ node_of old.content (sectors_of_tree tree) (n / 512) c.in-Some.spot.stretch.node) tree.page_long (c.in_ok-get_node.ensures.value t) in
    let clear = subst (λ k. bit_of c.get_node.new.into k ≡ false) c.if-first_clear-place.true (c.first_clear.ensures.clear (omega (arith, c.if-first_clear-place.true))) in
    absurd (true≢false (sym used ∙ bit_is old.content (sectors_of_tree tree) c.get_node.new.into tree.shape.node_size tree.shape.total tree.map.items c.in-Some.spot c.args.node is c.in-Some.ensures.node (page tells) ∙ clear))

pub returns-then-first_clear-place-clause-one_more : goal.returns-then-first_clear-place-clause-one_more
returns-then-first_clear-place-clause-one_more g c tells used unreserved =
    let tree = c.args.self.now.tree.now in
    let old : Space = g.P.SectorView.space c.args.self.now.space.now in
    let is = subst (λ (m : List Stretch). IsSpot m tree.shape.total c.in-Some.spot) c.deref-2.ensures.value c.in-Some.ensures.spot in
    let long = c.get_node.ensures.length ∙ tree.page_long in
    let page = λ (t : IsTrue old.tells). subst (λ n. c.get_node.new.into ≡ node_of old.content (sectors_of_tree tree) (n / 512) c.in-Some.spot.stretch.node) tree.page_long (c.in_ok-get_node.ensures.value t) in
    let clear = subst (λ k. bit_of c.get_node.new.into k ≡ false) c.if-first_clear-place.true (c.first_clear.ensures.clear (omega (arith, c.if-first_clear-place.true))) in
    absurd (true≢false (sym used ∙ bit_is old.content (sectors_of_tree tree) c.get_node.new.into tree.shape.node_size tree.shape.total tree.map.items c.in-Some.spot c.args.node is c.in-Some.ensures.node (page tells) ∙ clear))

pub mark-requires-clause-whole : goal.mark-requires-clause-whole
mark-requires-clause-whole g c =
    let tree = c.args.self.now.tree.now in
    let old : Space = g.P.SectorView.space c.args.self.now.space.now in
    let mid : Space = g.P.SectorView.space c.get_node.new.space in
    let reads = c.get_node.ensures.reads in
    let is = subst (λ (m : List Stretch). IsSpot m tree.shape.total c.in-Some.spot) c.deref-2.ensures.value c.in-Some.ensures.spot in
    subst (λ n. (c.in-Some.spot.stretch.node + 1) * (n / 512) ≤ length (sectors_of_tree tree)) (sym (c.get_node.ensures.length ∙ tree.page_long)) (node_whole tree old mid reads c.in-Some.spot is)

pub mark-requires-clause-room : goal.mark-requires-clause-room
mark-requires-clause-room g c =
    let tree = c.args.self.now.tree.now in
    let old : Space = g.P.SectorView.space c.args.self.now.space.now in
    let mid : Space = g.P.SectorView.space c.get_node.new.space in
    let reads = c.get_node.ensures.reads in
    let is = subst (λ (m : List Stretch). IsSpot m tree.shape.total c.in-Some.spot) c.deref-2.ensures.value c.in-Some.ensures.spot in
    subst (λ n. unput mid.put (sectors_at (sectors_of_tree tree) (n / 512) c.in-Some.spot.stretch.node) ≤ mid.spare) (sym (c.get_node.ensures.length ∙ tree.page_long))
    (may_mark tree old mid reads c.in-Some.spot is
    (may_put (sectors_of_tree tree) (tree.shape.node_size / 512) tree.shape.total old c.in-Some.spot.stretch.node tree.kept.whole (tree_size tree).0 (node_low tree old mid reads c.in-Some.spot is) (inl c.requires.room)))

pub mark-requires-clause-low : goal.mark-requires-clause-low
mark-requires-clause-low g c =
    let tree = c.args.self.now.tree.now in
    let old : Space = g.P.SectorView.space c.args.self.now.space.now in
    let mid : Space = g.P.SectorView.space c.get_node.new.space in
    let reads = c.get_node.ensures.reads in
    let is = subst (λ (m : List Stretch). IsSpot m tree.shape.total c.in-Some.spot) c.deref-2.ensures.value c.in-Some.ensures.spot in
    omega (arith, bytes_low tree old mid reads c.in-Some.spot is, c.get_node.ensures.length, tree.page_long)

pub returns-clause-tree : goal.returns-clause-tree
returns-clause-tree g c tells used unreserved =
    let tree = c.args.self.now.tree.now in
    let old : Space = g.P.SectorView.space c.args.self.now.space.now in
    let mid : Space = g.P.SectorView.space c.get_node.new.space in
    let new : Space = g.P.SectorView.space c.mark.new.space in
    let reads = c.get_node.ensures.reads in
    let is = subst (λ (m : List Stretch). IsSpot m tree.shape.total c.in-Some.spot) c.deref-2.ensures.value c.in-Some.ensures.spot in
    let long = c.get_node.ensures.length ∙ tree.page_long in
    let page = λ (t : IsTrue old.tells). subst (λ n. c.get_node.new.into ≡ node_of old.content (sectors_of_tree tree) (n / 512) c.in-Some.spot.stretch.node) tree.page_long (c.in_ok-get_node.ensures.value t) in
    let puts = λ (t : IsTrue mid.tells). subst (λ n. PutsNode (sectors_at (sectors_of_tree tree) (n / 512) c.in-Some.spot.stretch.node) c.mark.new.page mid new) long (c.mark.ensures.puts t) in
    let room = subst (λ n. TakesRoomFor (sectors_at (sectors_of_tree tree) (n / 512) c.in-Some.spot.stretch.node) mid new) long c.mark.ensures.room in
    record {
      nodes = mark_nodes tree old mid reads c.in-Some.spot is c.get_node.new.into c.mark.new.header c.mark.new.page false new long page c.mark.ensures.page puts room tells (c.args.self.now.agrees tells);
      here = ap (used_in (nodes_on (sectors_of_tree tree) tree.shape.node_size new.content) tree.map.items) (sym c.in-Some.ensures.node) ∙ mark_here tree old mid reads c.in-Some.spot is c.get_node.new.into c.mark.new.header c.mark.new.page false new long page c.mark.ensures.page puts room tells (c.args.self.now.agrees tells);
      others = λ m other. mark_others tree old mid reads c.in-Some.spot is c.get_node.new.into c.mark.new.header c.mark.new.page false new long page c.mark.ensures.page puts room tells (c.args.self.now.agrees tells) m (λ e. other (e ∙ c.in-Some.ensures.node));
    }

pub returns-clause-writes : goal.returns-clause-writes
unfolding unwritten_sectors
returns-clause-writes g c =
    let tree = c.args.self.now.tree.now in
    let old : Space = g.P.SectorView.space c.args.self.now.space.now in
    let mid : Space = g.P.SectorView.space c.get_node.new.space in
    let new : Space = g.P.SectorView.space c.mark.new.space in
    let reads = c.get_node.ensures.reads in
    let is = subst (λ (m : List Stretch). IsSpot m tree.shape.total c.in-Some.spot) c.deref-2.ensures.value c.in-Some.ensures.spot in
    let long = c.get_node.ensures.length ∙ tree.page_long in
    let page = λ (t : IsTrue old.tells). subst (λ n. c.get_node.new.into ≡ node_of old.content (sectors_of_tree tree) (n / 512) c.in-Some.spot.stretch.node) tree.page_long (c.in_ok-get_node.ensures.value t) in
    let puts = λ (t : IsTrue mid.tells). subst (λ n. PutsNode (sectors_at (sectors_of_tree tree) (n / 512) c.in-Some.spot.stretch.node) c.mark.new.page mid new) long (c.mark.ensures.puts t) in
    let room = subst (λ n. TakesRoomFor (sectors_at (sectors_of_tree tree) (n / 512) c.in-Some.spot.stretch.node) mid new) long c.mark.ensures.room in
    let once = mark_once tree old mid reads c.in-Some.spot is c.get_node.new.into c.mark.new.header c.mark.new.page false new long page c.mark.ensures.page puts room in
    record { still = once.still; fewer = once.fewer; some = once.some; left = once.writes; sectors = once.room }

-- one free node more, and one bit less
counted : (total free : ℕ) (before after : ℕ) → free + before ≡ total → after + 1 ≡ before → free + 1 + after ≡ total
counted total free before after was less = omega (arith, was, less)

pub returns-clause-below : goal.returns-clause-below
returns-clause-below g c =
    let tree = c.args.self.now.tree.now in
    let old : Space = g.P.SectorView.space c.args.self.now.space.now in
    let mid : Space = g.P.SectorView.space c.get_node.new.space in
    let new : Space = g.P.SectorView.space c.mark.new.space in
    let reads = c.get_node.ensures.reads in
    let is = subst (λ (m : List Stretch). IsSpot m tree.shape.total c.in-Some.spot) c.deref-2.ensures.value c.in-Some.ensures.spot in
    let long = c.get_node.ensures.length ∙ tree.page_long in
    let page = λ (t : IsTrue old.tells). subst (λ n. c.get_node.new.into ≡ node_of old.content (sectors_of_tree tree) (n / 512) c.in-Some.spot.stretch.node) tree.page_long (c.in_ok-get_node.ensures.value t) in
    let puts = λ (t : IsTrue mid.tells). subst (λ n. PutsNode (sectors_at (sectors_of_tree tree) (n / 512) c.in-Some.spot.stretch.node) c.mark.new.page mid new) long (c.mark.ensures.puts t) in
    let room = subst (λ n. TakesRoomFor (sectors_at (sectors_of_tree tree) (n / 512) c.in-Some.spot.stretch.node) mid new) long c.mark.ensures.room in (
      record {
        file = record { fork = refl; per_block = refl; map = refl; node_size = refl; total = refl };
        form = λ tells.
            let was = c.args.self.now.agrees tells in
            let bit = spot_bit (nodes_on (sectors_of_tree tree) tree.shape.node_size old.content) tree.map.items tree.shape.total c.in-Some.spot is ∙ ap (λ (l : List ℕ). bit_of l (8 * c.in-Some.spot.stretch.at + c.in-Some.spot.bit)) (sym (page tells))
            ∙ c.first_clear.ensures.before (8 * c.in-Some.spot.stretch.at + c.in-Some.spot.bit) (omega arith) (omega (arith, c.first_clear.ensures.from, c.if-first_clear-place.false)) in
            let unreserved : is_reserved tree.map.items c.in-Some.spot.node ≡ false =
            ap (is_reserved tree.map.items) c.in-Some.ensures.node ∙ ap (λ (m : List Stretch). is_reserved m c.args.node) (sym c.deref.ensures.value) ∙ sym c.is_reserved.ensures ∙ c.if-is_reserved.false in
            let here = mark_here tree old mid reads c.in-Some.spot is c.get_node.new.into c.mark.new.header c.mark.new.page false new long page c.mark.ensures.page puts room tells was in
            let others = mark_others tree old mid reads c.in-Some.spot is c.get_node.new.into c.mark.new.header c.mark.new.page false new long page c.mark.ensures.page puts room tells was in
            let cleared = count_cleared (used_in (nodes_on (sectors_of_tree tree) tree.shape.node_size old.content) tree.map.items) (used_in (nodes_on (sectors_of_tree tree) tree.shape.node_size new.content) tree.map.items) tree.shape.total c.in-Some.spot.node is.inside bit here others in
            mark_form tree old mid reads c.in-Some.spot is c.get_node.new.into c.mark.new.header c.mark.new.page false new long page c.mark.ensures.page puts room tells was (tree.shape.free + 1) unreserved c.mark.ensures.header c.mark.ensures.header_kept (counted tree.shape.total tree.shape.free _ _ was.counted cleared);
        space = mark_within tree old mid reads c.in-Some.spot is c.get_node.new.into c.mark.new.header c.mark.new.page false new long page c.mark.ensures.page puts room c.mark.ensures.same c.mark.ensures.time c.mark.ensures.faults;
      },
      g.met.P.SectorView.follows_trans c.args.self.now.space.now c.get_node.new.space c.mark.new.space c.get_node.ensures.below c.mark.ensures.below,
    )

pub invariant_of-self-2 : goal.invariant_of-self-2
invariant_of-self-2 g c =
    let tree = c.args.self.now.tree.now in
    let old : Space = g.P.SectorView.space c.args.self.now.space.now in
    let mid : Space = g.P.SectorView.space c.get_node.new.space in
    let new : Space = g.P.SectorView.space c.mark.new.space in
    let reads = c.get_node.ensures.reads in
    let is = subst (λ (m : List Stretch). IsSpot m tree.shape.total c.in-Some.spot) c.deref-2.ensures.value c.in-Some.ensures.spot in
    let long = c.get_node.ensures.length ∙ tree.page_long in
    let page = λ (t : IsTrue old.tells). subst (λ n. c.get_node.new.into ≡ node_of old.content (sectors_of_tree tree) (n / 512) c.in-Some.spot.stretch.node) tree.page_long (c.in_ok-get_node.ensures.value t) in
    let puts = λ (t : IsTrue mid.tells). subst (λ n. PutsNode (sectors_at (sectors_of_tree tree) (n / 512) c.in-Some.spot.stretch.node) c.mark.new.page mid new) long (c.mark.ensures.puts t) in
    let room = subst (λ n. TakesRoomFor (sectors_at (sectors_of_tree tree) (n / 512) c.in-Some.spot.stretch.node) mid new) long c.mark.ensures.room in
    let told : IsTrue new.tells → IsTrue old.tells = λ tells. sym reads.same.tells ∙ sym c.mark.ensures.same.tells ∙ tells in
    record {
      inside = λ k low. subst (λ n. get_or (sectors_of_tree tree) k 0 < n) (sym (c.mark.ensures.same.sectors ∙ reads.same.sectors)) (c.args.self.now.inside k low);
      open_sectors = λ tells k low shut. c.args.self.now.open_sectors (told tells) k low (((reads.sectors (told tells)).closed (get_or (sectors_of_tree tree) k 0)).0
          (((c.mark.ensures.puts (reads.same.tells ∙ told tells)).these.closed (get_or (sectors_of_tree tree) k 0)).0 shut));
      agrees = λ now_tells.
          let tells = told now_tells in
          let was = c.args.self.now.agrees tells in
          let bit = spot_bit (nodes_on (sectors_of_tree tree) tree.shape.node_size old.content) tree.map.items tree.shape.total c.in-Some.spot is ∙ ap (λ (l : List ℕ). bit_of l (8 * c.in-Some.spot.stretch.at + c.in-Some.spot.bit)) (sym (page tells))
          ∙ c.first_clear.ensures.before (8 * c.in-Some.spot.stretch.at + c.in-Some.spot.bit) (omega arith) (omega (arith, c.first_clear.ensures.from, c.if-first_clear-place.false)) in
          let unreserved : is_reserved tree.map.items c.in-Some.spot.node ≡ false =
          ap (is_reserved tree.map.items) c.in-Some.ensures.node ∙ ap (λ (m : List Stretch). is_reserved m c.args.node) (sym c.deref.ensures.value) ∙ sym c.is_reserved.ensures ∙ c.if-is_reserved.false in
          let here = mark_here tree old mid reads c.in-Some.spot is c.get_node.new.into c.mark.new.header c.mark.new.page false new long page c.mark.ensures.page puts room tells was in
          let others = mark_others tree old mid reads c.in-Some.spot is c.get_node.new.into c.mark.new.header c.mark.new.page false new long page c.mark.ensures.page puts room tells was in
          let cleared = count_cleared (used_in (nodes_on (sectors_of_tree tree) tree.shape.node_size old.content) tree.map.items) (used_in (nodes_on (sectors_of_tree tree) tree.shape.node_size new.content) tree.map.items) tree.shape.total c.in-Some.spot.node is.inside bit here others in
          mark_map tree old mid reads c.in-Some.spot is c.get_node.new.into c.mark.new.header c.mark.new.page false new long page c.mark.ensures.page puts room tells was (tree.shape.free + 1) unreserved c.mark.ensures.header c.mark.ensures.header_kept (counted tree.shape.total tree.shape.free _ _ was.counted cleared);
    }
