use Rattle.std.proofs.Common.{◌≡◌, ◌<◌, ◌≤◌, ◌+◌, ◌-◌, ◌*◌, ◌/◌, ℕ, true, false, IsTrue, Option, Some, List, length, get_or, inl, refl, sym, ◌∙◌, subst, arith}
use Rattle.std.specs.Prelude.{IfSome}
use Rattle.flag_rows.specs.Bits.{bit_of}
use Rattle.fork_map.specs.Nodes.{node_of}
use Rattle.sector_disk.specs.Space.{Space}
use Rattle.btree_node.specs.Store.{unwritten_sectors}
use Rattle.btree_file.specs.Map.{used_in, bits_of}
use Rattle.btree_file.specs.Place.{sectors_at}
use Rattle.btree_file.specs.Putting.{unput, PutsNode, TakesRoomFor}
use Rattle.btree_file.specs.Spots.{IsSpot}
use Rattle.btree_file.specs.State.{nodes_on, sectors_of_tree}
use Rattle.btree_file.specs.declared.marking.Spot.{Spot}
use Rattle.btree_file.specs.declared.tree.Stretch.{Stretch}
use Rattle.btree_file.proofs.Changing.{count_set}
use Rattle.btree_file.proofs.Marks.{not_all, node_low, bytes_low, node_whole, may_mark, mark_once, mark_within, mark_was, mark_here, mark_others, mark_nodes, mark_map, mark_form, clear_unreserved}
use Rattle.btree_file.proofs.Rooms.{once_read, once_again, may_put}
use Rattle.btree_file.proofs.Sizes.{tree_size}
use Rattle.btree_file.proofs.on.TreeOnNodeStore.take_node.Goals as goal

pub returns-in_err-found-clause-writes : goal.returns-in_err-found-clause-writes
unfolding unwritten_sectors
returns-in_err-found-clause-writes g c =
    let tree = c.args.self.now.tree.now in
    let old : Space = g.P.SectorView.space c.args.self.now.space.now in
    let mid : Space = g.P.SectorView.space c.find_clear.new.space in
    let room = c.find_clear.ensures.reads.room in
    let once = once_again (sectors_of_tree tree) (tree.shape.node_size / 512) tree.shape.total old.put mid.put old.spare mid.spare (once_read (sectors_of_tree tree) (tree.shape.node_size / 512) tree.shape.total old.put mid.put old.spare mid.spare room.put room.spare) in
    record { still = once.still; fewer = once.fewer; some = once.some; left = once.writes; sectors = once.room }

pub returns-in_default-clause-writes : goal.returns-in_default-clause-writes
unfolding unwritten_sectors
returns-in_default-clause-writes g c =
    let tree = c.args.self.now.tree.now in
    let old : Space = g.P.SectorView.space c.args.self.now.space.now in
    let mid : Space = g.P.SectorView.space c.find_clear.new.space in
    let room = c.find_clear.ensures.reads.room in
    let once = once_again (sectors_of_tree tree) (tree.shape.node_size / 512) tree.shape.total old.put mid.put old.spare mid.spare (once_read (sectors_of_tree tree) (tree.shape.node_size / 512) tree.shape.total old.put mid.put old.spare mid.spare room.put room.spare) in
    record { still = once.still; fewer = once.fewer; some = once.some; left = once.writes; sectors = once.room }

spot_is : (these map : List Stretch) (total : ℕ) (found : Option Spot) (spot : Spot) → these ≡ map → found ≡ Some spot → IfSome found (λ s. IsSpot these total s) → IsSpot map total spot
spot_is these map total found spot same is has = subst (λ (m : List Stretch). IsSpot m total spot) same (subst (λ o. IfSome o (λ s. IsSpot these total s)) is has)

page_is : (content : List (List ℕ)) (sectors page : List ℕ) (long size : ℕ) (found : Option Spot) (spot : Spot) → long ≡ size → found ≡ Some spot → IfSome found (λ s. page ≡ node_of content sectors (long / 512) s.stretch.node) → page ≡ nodes_on sectors size content spot.stretch.node
page_is content sectors page long size found spot same is has = subst (λ n. page ≡ node_of content sectors (n / 512) spot.stretch.node) same (subst (λ o. IfSome o (λ s. page ≡ node_of content sectors (long / 512) s.stretch.node)) is has)

clear_is : (page : List ℕ) (found : Option Spot) (spot : Spot) → found ≡ Some spot → IfSome found (λ s. bit_of page (8 * s.stretch.at + s.bit) ≡ false) → bit_of page (8 * spot.stretch.at + spot.bit) ≡ false
clear_is page found spot is has = subst (λ o. IfSome o (λ s. bit_of page (8 * s.stretch.at + s.bit) ≡ false)) is has

none_is : (content : List (List ℕ)) (sectors : List ℕ) (long size total : ℕ) (these map : List Stretch) → long ≡ size → these ≡ map
    → ((n : ℕ) → n < total → n < bits_of these → used_in (λ node. node_of content sectors (long / 512) node) these n ≡ true) → (n : ℕ) → n < total → n < bits_of map → used_in (nodes_on sectors size content) map n ≡ true
none_is content sectors long size total these map same is all =
    subst (λ (m : List Stretch). (n : ℕ) → n < total → n < bits_of m → used_in (nodes_on sectors size content) m n ≡ true) is
    (subst (λ l. (n : ℕ) → n < total → n < bits_of these → used_in (λ node. node_of content sectors (l / 512) node) these n ≡ true) same all)

pub returns-in_default-clause-was_free : goal.returns-in_default-clause-was_free
returns-in_default-clause-was_free g c tells =
    let tree = c.args.self.now.tree.now in
    let old : Space = g.P.SectorView.space c.args.self.now.space.now in
    absurd (not_all (sectors_of_tree tree) tree.shape.node_size tree.shape.total tree.shape.free tree.map.items tree.header old.content (c.args.self.now.agrees tells) c.requires.free
    (none_is old.content (sectors_of_tree tree) (length tree.page) tree.shape.node_size tree.shape.total c.deref.result.now tree.map.items tree.page_long c.deref.ensures.value (c.in_ok-found.ensures.none tells c.in_default.is)))

pub returns-in_default-clause-of_tree : goal.returns-in_default-clause-of_tree
returns-in_default-clause-of_tree g c tells =
    let tree = c.args.self.now.tree.now in
    let old : Space = g.P.SectorView.space c.args.self.now.space.now in
    absurd (not_all (sectors_of_tree tree) tree.shape.node_size tree.shape.total tree.shape.free tree.map.items tree.header old.content (c.args.self.now.agrees tells) c.requires.free
    (none_is old.content (sectors_of_tree tree) (length tree.page) tree.shape.node_size tree.shape.total c.deref.result.now tree.map.items tree.page_long c.deref.ensures.value (c.in_ok-found.ensures.none tells c.in_default.is)))

pub invariant_of-self-in_default : goal.invariant_of-self-in_default
invariant_of-self-in_default g c =
    let tree = c.args.self.now.tree.now in
    let old : Space = g.P.SectorView.space c.args.self.now.space.now in
    let mid : Space = g.P.SectorView.space c.find_clear.new.space in
    let reads = c.find_clear.ensures.reads in
    let told : IsTrue mid.tells → IsTrue old.tells = λ tells. sym reads.same.tells ∙ tells in
    record {
      inside = λ k low. subst (λ n. get_or (sectors_of_tree tree) k 0 < n) (sym reads.same.sectors) (c.args.self.now.inside k low);
      open_sectors = λ tells k low shut. c.args.self.now.open_sectors (told tells) k low (((reads.sectors (told tells)).closed (get_or (sectors_of_tree tree) k 0)).0 shut);
      agrees = λ tells. absurd (not_all (sectors_of_tree tree) tree.shape.node_size tree.shape.total tree.shape.free tree.map.items tree.header old.content (c.args.self.now.agrees (told tells)) c.requires.free
          (none_is old.content (sectors_of_tree tree) (length tree.page) tree.shape.node_size tree.shape.total c.deref.result.now tree.map.items tree.page_long c.deref.ensures.value (c.in_ok-found.ensures.none (told tells) c.in_default.is)));
    }

pub mark-requires-clause-whole : goal.mark-requires-clause-whole
mark-requires-clause-whole g c =
    let tree = c.args.self.now.tree.now in
    let old : Space = g.P.SectorView.space c.args.self.now.space.now in
    let mid : Space = g.P.SectorView.space c.find_clear.new.space in
    let is = spot_is c.deref.result.now tree.map.items tree.shape.total c.in_ok-found.found c.in-Some.spot c.deref.ensures.value c.in-Some.is c.in_ok-found.ensures.spot in
    subst (λ long. (c.in-Some.spot.stretch.node + 1) * (long / 512) ≤ length (sectors_of_tree tree)) (sym (c.find_clear.ensures.length ∙ tree.page_long)) (node_whole tree old mid c.find_clear.ensures.reads c.in-Some.spot is)

pub mark-requires-clause-room : goal.mark-requires-clause-room
mark-requires-clause-room g c =
    let tree = c.args.self.now.tree.now in
    let old : Space = g.P.SectorView.space c.args.self.now.space.now in
    let mid : Space = g.P.SectorView.space c.find_clear.new.space in
    let is = spot_is c.deref.result.now tree.map.items tree.shape.total c.in_ok-found.found c.in-Some.spot c.deref.ensures.value c.in-Some.is c.in_ok-found.ensures.spot in
    subst (λ long. unput mid.put (sectors_at (sectors_of_tree tree) (long / 512) c.in-Some.spot.stretch.node) ≤ mid.spare) (sym (c.find_clear.ensures.length ∙ tree.page_long))
    (may_mark tree old mid c.find_clear.ensures.reads c.in-Some.spot is
    (may_put (sectors_of_tree tree) (tree.shape.node_size / 512) tree.shape.total old c.in-Some.spot.stretch.node tree.kept.whole (tree_size tree).0 (node_low tree old mid c.find_clear.ensures.reads c.in-Some.spot is) (inl c.requires.room)))

pub mark-requires-clause-low : goal.mark-requires-clause-low
mark-requires-clause-low g c =
    let tree = c.args.self.now.tree.now in
    let old : Space = g.P.SectorView.space c.args.self.now.space.now in
    let mid : Space = g.P.SectorView.space c.find_clear.new.space in
    let is = spot_is c.deref.result.now tree.map.items tree.shape.total c.in_ok-found.found c.in-Some.spot c.deref.ensures.value c.in-Some.is c.in_ok-found.ensures.spot in
    omega (arith, bytes_low tree old mid c.find_clear.ensures.reads c.in-Some.spot is, c.find_clear.ensures.length, tree.page_long)

pub returns-clause-was_free : goal.returns-clause-was_free
returns-clause-was_free g c tells =
    let tree = c.args.self.now.tree.now in
    let old : Space = g.P.SectorView.space c.args.self.now.space.now in
    let mid : Space = g.P.SectorView.space c.find_clear.new.space in
    let new : Space = g.P.SectorView.space c.mark.new.space in
    let is = spot_is c.deref.result.now tree.map.items tree.shape.total c.in_ok-found.found c.in-Some.spot c.deref.ensures.value c.in-Some.is c.in_ok-found.ensures.spot in
    let long = c.find_clear.ensures.length ∙ tree.page_long in
    let page = λ (t : IsTrue old.tells). page_is old.content (sectors_of_tree tree) c.find_clear.new.page (length tree.page) tree.shape.node_size c.in_ok-found.found c.in-Some.spot tree.page_long c.in-Some.is (c.in_ok-found.ensures.page t) in
    mark_was tree old mid c.find_clear.ensures.reads c.in-Some.spot is c.find_clear.new.page c.mark.new.header c.mark.new.page true new long page c.mark.ensures.page
    (λ t. subst (λ n. PutsNode (sectors_at (sectors_of_tree tree) (n / 512) c.in-Some.spot.stretch.node) c.mark.new.page mid new) long (c.mark.ensures.puts t))
    (subst (λ n. TakesRoomFor (sectors_at (sectors_of_tree tree) (n / 512) c.in-Some.spot.stretch.node) mid new) long c.mark.ensures.room) tells (c.args.self.now.agrees tells)
    ∙ clear_is c.find_clear.new.page c.in_ok-found.found c.in-Some.spot c.in-Some.is c.in_ok-found.ensures.clear

pub returns-clause-of_tree : goal.returns-clause-of_tree
returns-clause-of_tree g c tells =
    let tree = c.args.self.now.tree.now in
    let old : Space = g.P.SectorView.space c.args.self.now.space.now in
    let is = spot_is c.deref.result.now tree.map.items tree.shape.total c.in_ok-found.found c.in-Some.spot c.deref.ensures.value c.in-Some.is c.in_ok-found.ensures.spot in
    clear_unreserved (sectors_of_tree tree) tree.shape.node_size tree.shape.total tree.shape.free tree.map.items tree.header old.content c.in-Some.spot.node (c.args.self.now.agrees tells) is.inside (returns-clause-was_free g c tells)

pub returns-clause-tree : goal.returns-clause-tree
returns-clause-tree g c tells =
    let tree = c.args.self.now.tree.now in
    let old : Space = g.P.SectorView.space c.args.self.now.space.now in
    let mid : Space = g.P.SectorView.space c.find_clear.new.space in
    let new : Space = g.P.SectorView.space c.mark.new.space in
    let is = spot_is c.deref.result.now tree.map.items tree.shape.total c.in_ok-found.found c.in-Some.spot c.deref.ensures.value c.in-Some.is c.in_ok-found.ensures.spot in
    let long = c.find_clear.ensures.length ∙ tree.page_long in
    let page = λ (t : IsTrue old.tells). page_is old.content (sectors_of_tree tree) c.find_clear.new.page (length tree.page) tree.shape.node_size c.in_ok-found.found c.in-Some.spot tree.page_long c.in-Some.is (c.in_ok-found.ensures.page t) in
    let puts = λ (t : IsTrue mid.tells). subst (λ n. PutsNode (sectors_at (sectors_of_tree tree) (n / 512) c.in-Some.spot.stretch.node) c.mark.new.page mid new) long (c.mark.ensures.puts t) in
    let room = subst (λ n. TakesRoomFor (sectors_at (sectors_of_tree tree) (n / 512) c.in-Some.spot.stretch.node) mid new) long c.mark.ensures.room in
    record {
      nodes = mark_nodes tree old mid c.find_clear.ensures.reads c.in-Some.spot is c.find_clear.new.page c.mark.new.header c.mark.new.page true new long page c.mark.ensures.page puts room tells (c.args.self.now.agrees tells);
      here = mark_here tree old mid c.find_clear.ensures.reads c.in-Some.spot is c.find_clear.new.page c.mark.new.header c.mark.new.page true new long page c.mark.ensures.page puts room tells (c.args.self.now.agrees tells);
      others = mark_others tree old mid c.find_clear.ensures.reads c.in-Some.spot is c.find_clear.new.page c.mark.new.header c.mark.new.page true new long page c.mark.ensures.page puts room tells (c.args.self.now.agrees tells);
    }

pub returns-clause-writes : goal.returns-clause-writes
unfolding unwritten_sectors
returns-clause-writes g c =
    let tree = c.args.self.now.tree.now in
    let old : Space = g.P.SectorView.space c.args.self.now.space.now in
    let mid : Space = g.P.SectorView.space c.find_clear.new.space in
    let new : Space = g.P.SectorView.space c.mark.new.space in
    let is = spot_is c.deref.result.now tree.map.items tree.shape.total c.in_ok-found.found c.in-Some.spot c.deref.ensures.value c.in-Some.is c.in_ok-found.ensures.spot in
    let long = c.find_clear.ensures.length ∙ tree.page_long in
    let page = λ (t : IsTrue old.tells). page_is old.content (sectors_of_tree tree) c.find_clear.new.page (length tree.page) tree.shape.node_size c.in_ok-found.found c.in-Some.spot tree.page_long c.in-Some.is (c.in_ok-found.ensures.page t) in
    let puts = λ (t : IsTrue mid.tells). subst (λ n. PutsNode (sectors_at (sectors_of_tree tree) (n / 512) c.in-Some.spot.stretch.node) c.mark.new.page mid new) long (c.mark.ensures.puts t) in
    let room = subst (λ n. TakesRoomFor (sectors_at (sectors_of_tree tree) (n / 512) c.in-Some.spot.stretch.node) mid new) long c.mark.ensures.room in
    let once = mark_once tree old mid c.find_clear.ensures.reads c.in-Some.spot is c.find_clear.new.page c.mark.new.header c.mark.new.page true new long page c.mark.ensures.page puts room in
    record { still = once.still; fewer = once.fewer; some = once.some; left = once.writes; sectors = once.room }

-- one free node less, and one bit more
counted : (total free : ℕ) (before after : ℕ) → free + before ≡ total → 0 < free → before + 1 ≡ after → free - 1 + after ≡ total
counted total free before after was some more = omega (arith, was, some, more)

pub returns-clause-below : goal.returns-clause-below
returns-clause-below g c =
    let tree = c.args.self.now.tree.now in
    let old : Space = g.P.SectorView.space c.args.self.now.space.now in
    let mid : Space = g.P.SectorView.space c.find_clear.new.space in
    let new : Space = g.P.SectorView.space c.mark.new.space in
    let is = spot_is c.deref.result.now tree.map.items tree.shape.total c.in_ok-found.found c.in-Some.spot c.deref.ensures.value c.in-Some.is c.in_ok-found.ensures.spot in
    let long = c.find_clear.ensures.length ∙ tree.page_long in
    let page = λ (t : IsTrue old.tells). page_is old.content (sectors_of_tree tree) c.find_clear.new.page (length tree.page) tree.shape.node_size c.in_ok-found.found c.in-Some.spot tree.page_long c.in-Some.is (c.in_ok-found.ensures.page t) in
    let puts = λ (t : IsTrue mid.tells). subst (λ n. PutsNode (sectors_at (sectors_of_tree tree) (n / 512) c.in-Some.spot.stretch.node) c.mark.new.page mid new) long (c.mark.ensures.puts t) in
    let room = subst (λ n. TakesRoomFor (sectors_at (sectors_of_tree tree) (n / 512) c.in-Some.spot.stretch.node) mid new) long c.mark.ensures.room in (
      record {
        file = record { fork = refl; per_block = refl; map = refl; node_size = refl; total = refl };
        form = λ tells.
            let was = c.args.self.now.agrees tells in
            let here = mark_here tree old mid c.find_clear.ensures.reads c.in-Some.spot is c.find_clear.new.page c.mark.new.header c.mark.new.page true new long page c.mark.ensures.page puts room tells was in
            let others = mark_others tree old mid c.find_clear.ensures.reads c.in-Some.spot is c.find_clear.new.page c.mark.new.header c.mark.new.page true new long page c.mark.ensures.page puts room tells was in
            let set = count_set (used_in (nodes_on (sectors_of_tree tree) tree.shape.node_size old.content) tree.map.items) (used_in (nodes_on (sectors_of_tree tree) tree.shape.node_size new.content) tree.map.items) tree.shape.total c.in-Some.spot.node is.inside (returns-clause-was_free g c tells) here others in
            mark_form tree old mid c.find_clear.ensures.reads c.in-Some.spot is c.find_clear.new.page c.mark.new.header c.mark.new.page true new long page c.mark.ensures.page puts room tells was (tree.shape.free - 1)
            (returns-clause-of_tree g c tells) c.mark.ensures.header c.mark.ensures.header_kept (counted tree.shape.total tree.shape.free _ _ was.counted c.requires.free set);
        space = mark_within tree old mid c.find_clear.ensures.reads c.in-Some.spot is c.find_clear.new.page c.mark.new.header c.mark.new.page true new long page c.mark.ensures.page puts room c.mark.ensures.same c.mark.ensures.time c.mark.ensures.faults;
      },
      g.met.P.SectorView.follows_trans c.args.self.now.space.now c.find_clear.new.space c.mark.new.space c.find_clear.ensures.below c.mark.ensures.below,
    )

pub invariant_of-self-2 : goal.invariant_of-self-2
invariant_of-self-2 g c =
    let tree = c.args.self.now.tree.now in
    let old : Space = g.P.SectorView.space c.args.self.now.space.now in
    let mid : Space = g.P.SectorView.space c.find_clear.new.space in
    let new : Space = g.P.SectorView.space c.mark.new.space in
    let reads = c.find_clear.ensures.reads in
    let is = spot_is c.deref.result.now tree.map.items tree.shape.total c.in_ok-found.found c.in-Some.spot c.deref.ensures.value c.in-Some.is c.in_ok-found.ensures.spot in
    let long = c.find_clear.ensures.length ∙ tree.page_long in
    let page = λ (t : IsTrue old.tells). page_is old.content (sectors_of_tree tree) c.find_clear.new.page (length tree.page) tree.shape.node_size c.in_ok-found.found c.in-Some.spot tree.page_long c.in-Some.is (c.in_ok-found.ensures.page t) in
    let puts = λ (t : IsTrue mid.tells). subst (λ n. PutsNode (sectors_at (sectors_of_tree tree) (n / 512) c.in-Some.spot.stretch.node) c.mark.new.page mid new) long (c.mark.ensures.puts t) in
    let room = subst (λ n. TakesRoomFor (sectors_at (sectors_of_tree tree) (n / 512) c.in-Some.spot.stretch.node) mid new) long c.mark.ensures.room in
    let told : IsTrue new.tells → IsTrue old.tells = λ tells. sym reads.same.tells ∙ sym c.mark.ensures.same.tells ∙ tells in
    record {
      inside = λ k low. subst (λ n. get_or (sectors_of_tree tree) k 0 < n) (sym (c.mark.ensures.same.sectors ∙ reads.same.sectors)) (c.args.self.now.inside k low);
      open_sectors = λ tells k low shut. c.args.self.now.open_sectors (told tells) k low (((reads.sectors (told tells)).closed (get_or (sectors_of_tree tree) k 0)).0
          (((c.mark.ensures.puts (reads.same.tells ∙ told tells)).these.closed (get_or (sectors_of_tree tree) k 0)).0 shut));
      agrees = λ now_tells.
          let tells = told now_tells in
          let was = c.args.self.now.agrees tells in
          let bit = mark_was tree old mid c.find_clear.ensures.reads c.in-Some.spot is c.find_clear.new.page c.mark.new.header c.mark.new.page true new long page c.mark.ensures.page puts room tells was
          ∙ clear_is c.find_clear.new.page c.in_ok-found.found c.in-Some.spot c.in-Some.is c.in_ok-found.ensures.clear in
          let here = mark_here tree old mid c.find_clear.ensures.reads c.in-Some.spot is c.find_clear.new.page c.mark.new.header c.mark.new.page true new long page c.mark.ensures.page puts room tells was in
          let others = mark_others tree old mid c.find_clear.ensures.reads c.in-Some.spot is c.find_clear.new.page c.mark.new.header c.mark.new.page true new long page c.mark.ensures.page puts room tells was in
          let set = count_set (used_in (nodes_on (sectors_of_tree tree) tree.shape.node_size old.content) tree.map.items) (used_in (nodes_on (sectors_of_tree tree) tree.shape.node_size new.content) tree.map.items) tree.shape.total c.in-Some.spot.node is.inside bit here others in
          mark_map tree old mid c.find_clear.ensures.reads c.in-Some.spot is c.find_clear.new.page c.mark.new.header c.mark.new.page true new long page c.mark.ensures.page puts room tells was (tree.shape.free - 1)
          (clear_unreserved (sectors_of_tree tree) tree.shape.node_size tree.shape.total tree.shape.free tree.map.items tree.header old.content c.in-Some.spot.node was is.inside bit)
          c.mark.ensures.header c.mark.ensures.header_kept (counted tree.shape.total tree.shape.free _ _ was.counted c.requires.free set);
    }
