-- A bit of the map of a tree file that is set or cleared, behind reads.
use Rattle.std.proofs.Common.{◌≡◌, ◌≢◌, ℕ, ◌+◌, ◌*◌, ◌/◌, ◌≤◌, ◌<◌, Bool, true, false, IsTrue, List, length, get_or, sym, ◌∙◌, ap, subst, arith, ⊎_elim}
use Rattle.std.specs.List.{All, count_by, range_with_len}
use Rattle.std.proofs.lemmas.Bool.{cases_Bool, true≢false}
use Rattle.std.proofs.lemmas.Option.{slice_get_within, get_or_from_slice_get}
use Rattle.sector_disk.specs.Clock.{TimePasses}
use Rattle.sector_disk.specs.Space.{Space, SameSpace, LeavesDurable}
use Rattle.flag_rows.specs.Bits.{bit_of}
use Rattle.btree_node.specs.TreeFile.{TreeHead, tree_head, SetsBit}
use Rattle.btree_file.specs.Frame.{ReadsSpace, PutsWithin, SameForm}
use Rattle.btree_file.specs.FrameLaws.{reads_within, within_both}
use Rattle.btree_file.specs.Map.{used_in, is_reserved, bits_of}
use Rattle.btree_file.specs.Place.{sectors_at}
use Rattle.btree_file.specs.Putting.{unput, PutsNode, TakesRoomFor}
use Rattle.btree_file.specs.Spots.{IsSpot}
use Rattle.btree_file.specs.State.{nodes_on, sectors_of_tree, HasMap, Agrees}
use Rattle.btree_file.specs.declared.marking.Spot.{Spot}
use Rattle.btree_file.specs.declared.tree.Stretch.{Stretch}
use Rattle.btree_file.specs.declared.tree.TreeFile.{TreeFile}
use Rattle.btree_file.proofs.Changing.{spot_was, marked_here, marked_others, marked_nodes, marked_head, marked_map}
use Rattle.btree_file.proofs.Frames.{put_within}
use Rattle.btree_file.proofs.MapLaws.{some_clear, used_at}
use Rattle.btree_file.proofs.RoomLaws.{count_none}
use Rattle.btree_file.proofs.Rooms.{PutsOnce, puts_once, once_after, unput_read, whole_node}
use Rattle.btree_file.proofs.Sizes.{tree_size, tree_large}

-- what holds of all stretches holds of that of a spot
pub spot_stretch : (P : Stretch → Type 0) (map : List Stretch) (total : ℕ) (spot : Spot) → IsSpot map total spot → All P map → P spot.stretch
spot_stretch P map total spot is all = subst P (get_or_from_slice_get map spot.place spot.stretch spot.stretch is.stretch) (all spot.place spot.stretch (slice_get_within map spot.place spot.stretch is.stretch))

-- with a free node, not each node has its bit
pub not_all : (sectors : List ℕ) (size total free : ℕ) (map : List Stretch) (header : List ℕ) (content : List (List ℕ)) → HasMap sectors size total free map header content → 0 < free
    → ((n : ℕ) → n < total → n < bits_of map → used_in (nodes_on sectors size content) map n ≡ true) → ⊥
not_all sectors size total free map header content has some all =
    let one = some_clear (used_in (nodes_on sectors size content) map) 0 total (omega (arith, has.counted, some)) in
    true≢false (sym (all one.0 (omega (arith, one.2)) (omega (arith, one.2, has.bits))) ∙ one.3)

module _ (tree : TreeFile) (old mid : Space) (reads : ReadsSpace old mid) (spot : Spot) (is : IsSpot tree.map.items tree.shape.total spot) where
  pub node_low : spot.stretch.node < tree.shape.total
  node_low = spot_stretch (λ stretch. stretch.node < tree.shape.total) tree.map.items tree.shape.total spot is tree.kept.map_inside

  pub bytes_low : spot.stretch.at + spot.stretch.len ≤ tree.shape.node_size
  bytes_low = spot_stretch (λ stretch. stretch.at + stretch.len ≤ tree.shape.node_size) tree.map.items tree.shape.total spot is tree.kept.map_low

  pub node_whole : (spot.stretch.node + 1) * (tree.shape.node_size / 512) ≤ length (sectors_of_tree tree)
  node_whole = whole_node tree.shape.total (tree.shape.node_size / 512) spot.stretch.node (length (sectors_of_tree tree)) tree.kept.whole node_low

  module _ (page after last : List ℕ) (value : Bool) (new : Space) (long : length page ≡ tree.shape.node_size)
      (is_node : IsTrue old.tells → page ≡ nodes_on (sectors_of_tree tree) tree.shape.node_size old.content spot.stretch.node)
      (sets : SetsBit (8 * spot.stretch.at + spot.bit) value page last)
      (puts : IsTrue mid.tells → PutsNode (sectors_at (sectors_of_tree tree) (tree.shape.node_size / 512) spot.stretch.node) last mid new)
      (room : TakesRoomFor (sectors_at (sectors_of_tree tree) (tree.shape.node_size / 512) spot.stretch.node) mid new)
    where
      pub mark_once : PutsOnce (sectors_of_tree tree) (tree.shape.node_size / 512) tree.shape.total old.put old.spare new.put new.spare
      mark_once =
          once_after (sectors_of_tree tree) (tree.shape.node_size / 512) tree.shape.total old.put mid.put new.put old.spare mid.spare new.spare reads.room.put reads.room.spare
          (puts_once (sectors_of_tree tree) (tree.shape.node_size / 512) tree.shape.total tree.kept.apart tree.kept.whole (tree_size tree).0 mid new spot.stretch.node node_low room)

      pub mark_within : SameSpace mid new → (IsTrue mid.tells → TimePasses mid.clock new.clock (LeavesDurable new)) → new.faults ≡ mid.faults → PutsWithin (sectors_of_tree tree) old new
      mark_within same time faults =
          within_both (sectors_of_tree tree) old mid new (reads_within (sectors_of_tree tree) old mid reads)
          (put_within (sectors_of_tree tree) (tree.shape.node_size / 512) spot.stretch.node last mid new (sets.size ∙ long ∙ sym (tree_size tree).1) puts room same time faults)

      module _ (tells : IsTrue old.tells) (was : Agrees tree old.content) where
        told : IsTrue mid.tells
        told = reads.same.tells ∙ tells

        content_is : mid.content ≡ old.content
        content_is = (reads.sectors tells).content

        at_mid : (m : ℕ) → nodes_on (sectors_of_tree tree) tree.shape.node_size mid.content m ≡ nodes_on (sectors_of_tree tree) tree.shape.node_size old.content m
        at_mid m = ap (λ (content : List (List ℕ)). nodes_on (sectors_of_tree tree) tree.shape.node_size content m) content_is

        used_mid : (m : ℕ) → used_in (nodes_on (sectors_of_tree tree) tree.shape.node_size mid.content) tree.map.items m ≡ used_in (nodes_on (sectors_of_tree tree) tree.shape.node_size old.content) tree.map.items m
        used_mid m = ap (λ (content : List (List ℕ)). used_in (nodes_on (sectors_of_tree tree) tree.shape.node_size content) tree.map.items m) content_is

        page_mid : page ≡ nodes_on (sectors_of_tree tree) tree.shape.node_size mid.content spot.stretch.node
        page_mid = is_node tells ∙ sym (at_mid spot.stretch.node)

        long_mid : length (nodes_on (sectors_of_tree tree) tree.shape.node_size mid.content spot.stretch.node) ≡ tree.shape.node_size
        long_mid = subst (λ (l : List ℕ). length l ≡ tree.shape.node_size) page_mid long

        sets_mid : SetsBit (8 * spot.stretch.at + spot.bit) value (nodes_on (sectors_of_tree tree) tree.shape.node_size mid.content spot.stretch.node) last
        sets_mid = subst (λ (l : List ℕ). SetsBit (8 * spot.stretch.at + spot.bit) value l last) page_mid sets

        was_mid : HasMap (sectors_of_tree tree) tree.shape.node_size tree.shape.total tree.shape.free tree.map.items tree.header mid.content
        was_mid = subst (λ (content : List (List ℕ)). Agrees tree content) (sym content_is) was

        pub mark_was : used_in (nodes_on (sectors_of_tree tree) tree.shape.node_size old.content) tree.map.items spot.node ≡ bit_of page (8 * spot.stretch.at + spot.bit)
        mark_was = sym (used_mid spot.node)
            ∙ spot_was (sectors_of_tree tree) tree.shape.node_size tree.shape.total tree.map.items tree.header after last mid new spot value tree.kept.apart (tree_large tree) (tree_size tree).1 tree.kept.map_apart is node_whole long_mid sets_mid (puts told)
            ∙ ap (λ (l : List ℕ). bit_of l (8 * spot.stretch.at + spot.bit)) (sym page_mid)

        pub mark_here : used_in (nodes_on (sectors_of_tree tree) tree.shape.node_size new.content) tree.map.items spot.node ≡ value
        mark_here = marked_here (sectors_of_tree tree) tree.shape.node_size tree.shape.total tree.map.items tree.header after last mid new spot value tree.kept.apart (tree_large tree) (tree_size tree).1 tree.kept.map_apart is node_whole long_mid sets_mid (puts told)

        pub mark_others : (m : ℕ) → m ≢ spot.node → used_in (nodes_on (sectors_of_tree tree) tree.shape.node_size new.content) tree.map.items m ≡ used_in (nodes_on (sectors_of_tree tree) tree.shape.node_size old.content) tree.map.items m
        mark_others m other =
            marked_others (sectors_of_tree tree) tree.shape.node_size tree.shape.total tree.map.items tree.header after last mid new spot value tree.kept.apart (tree_large tree) (tree_size tree).1 tree.kept.map_apart is node_whole long_mid sets_mid (puts told) m other
            ∙ used_mid m

        pub mark_nodes : (m : ℕ) → is_reserved tree.map.items m ≡ false → nodes_on (sectors_of_tree tree) tree.shape.node_size new.content m ≡ nodes_on (sectors_of_tree tree) tree.shape.node_size old.content m
        mark_nodes m unreserved =
            marked_nodes (sectors_of_tree tree) tree.shape.node_size tree.shape.total tree.map.items tree.header after last mid new spot value tree.kept.apart (tree_large tree) (tree_size tree).1 tree.kept.map_apart is node_whole long_mid sets_mid (puts told) m unreserved
            ∙ at_mid m

        module _ (free_after : ℕ) (unreserved : is_reserved tree.map.items spot.node ≡ false) (header_is : spot.stretch.node ≡ 0 → after ≡ last) (header_kept_is : spot.stretch.node ≢ 0 → after ≡ tree.header)
            (counts : free_after + count_by (used_in (nodes_on (sectors_of_tree tree) tree.shape.node_size new.content) tree.map.items) (range_with_len 0 tree.shape.total) ≡ tree.shape.total)
          where
            pub mark_map : HasMap (sectors_of_tree tree) tree.shape.node_size tree.shape.total free_after tree.map.items after new.content
            mark_map =
                marked_map (sectors_of_tree tree) tree.shape.node_size tree.shape.total tree.map.items tree.header after last mid new spot value tree.kept.apart (tree_large tree) (tree_size tree).1 tree.kept.map_apart is node_whole long_mid sets_mid (puts told)
                tree.shape.free free_after was_mid unreserved header_is header_kept_is counts

            pub mark_form : SameForm (tree_head tree.header) (tree_head after)
            mark_form =
                let e : tree_head after ≡ tree_head tree.header =
                marked_head (sectors_of_tree tree) tree.shape.node_size tree.shape.total tree.map.items tree.header after last mid new spot value tree.kept.apart (tree_large tree) (tree_size tree).1 tree.kept.map_apart is node_whole long_mid sets_mid (puts told)
                tree.shape.free free_after was_mid unreserved header_is header_kept_is counts in
                record { max_key = ap (λ (h : TreeHead). h.max_key) e; compare = ap (λ (h : TreeHead). h.compare) e; attributes = ap (λ (h : TreeHead). h.attributes) e }

  -- there is room to mark it
  pub may_mark : unput old.put (sectors_at (sectors_of_tree tree) (tree.shape.node_size / 512) spot.stretch.node) ≤ old.spare
      → unput mid.put (sectors_at (sectors_of_tree tree) (tree.shape.node_size / 512) spot.stretch.node) ≤ mid.spare
  may_mark room = unput_read old mid (sectors_at (sectors_of_tree tree) (tree.shape.node_size / 512) spot.stretch.node) reads.room.put reads.room.spare room

-- a node without its bit isn't reserved
pub clear_unreserved : (sectors : List ℕ) (size total free : ℕ) (map : List Stretch) (header : List ℕ) (content : List (List ℕ)) (n : ℕ) → HasMap sectors size total free map header content → n < total
    → used_in (nodes_on sectors size content) map n ≡ false → is_reserved map n ≡ false
clear_unreserved sectors size total free map header content n has inside clear = ⊎_elim
    (λ (t : is_reserved map n ≡ true). absurd (true≢false (sym (has.reserved n inside t) ∙ clear)))
    (λ f. f)
    (cases_Bool (is_reserved map n))

-- a node has its bit where its stretch says
pub spot_bit : (nodes : ℕ → List ℕ) (map : List Stretch) (total : ℕ) (spot : Spot) → IsSpot map total spot → used_in nodes map spot.node ≡ bit_of (nodes spot.stretch.node) (8 * spot.stretch.at + spot.bit)
spot_bit nodes map total spot is =
    let inside = slice_get_within map spot.place spot.stretch is.stretch in
    let same : get_or map spot.place spot.stretch ≡ spot.stretch = get_or_from_slice_get map spot.place spot.stretch spot.stretch is.stretch in
    ap (used_in nodes map) is.node ∙ used_at nodes map spot.place spot.bit spot.stretch inside (subst (λ (s : Stretch). spot.bit < 8 * s.len) (sym same) is.bit)
    ∙ ap (λ (s : Stretch). bit_of (nodes s.node) (8 * s.at + spot.bit)) same

-- where all nodes are free, none has its bit
pub none_used : (sectors : List ℕ) (size total free : ℕ) (map : List Stretch) (header : List ℕ) (content : List (List ℕ)) (n : ℕ) → HasMap sectors size total free map header content → total ≤ free → n < total → used_in (nodes_on sectors size content) map n ≡ false
none_used sectors size total free map header content n has all inside =
    count_none (used_in (nodes_on sectors size content) map) 0 total n (omega arith) (omega (arith, inside)) (omega (arith, has.counted, all))
