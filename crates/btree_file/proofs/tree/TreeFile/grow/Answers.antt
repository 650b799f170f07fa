use Rattle.std.proofs.Common.{◌≡◌, ◌≢◌, ℕ, ◌+◌, ◌-◌, ◌*◌, ◌/◌, ◌≤◌, ◌<◌, List, [], ◌∷◌, ◌++◌, IsTrue, true, false, length, get_or, replicate, refl, sym, ◌∙◌, ap, subst, arith, ⊎_elim}
use Rattle.std.specs.Prelude.{Option, Some, None, IfSome, IsSome}
use Rattle.std.specs.List.{All}
use Rattle.std.proofs.lemmas.Bool.{cases_eq, true≢false}
use Rattle.fork_map.specs.Blocks.{blocks_of, fork_sectors}
use Rattle.fork_map.specs.Cut.{join}
use Rattle.fork_map.proofs.Laws.{no_sectors}
use Rattle.sector_disk.specs.Space.{Space}
use Rattle.btree_file.specs.Frame.{PutsWithin}
use Rattle.btree_file.specs.FrameLaws.{within_both, reads_within}
use Rattle.btree_file.specs.Growth.{ExtendsMap, last_node, map_nodes_with, nodes_with, sectors_with}
use Rattle.btree_file.specs.Place.{AreApart}
use Rattle.btree_file.specs.State.{sectors_of_tree, nodes_on}
use Rattle.btree_file.specs.declared.added_run.Growth.{Growth}
use Rattle.btree_file.specs.declared.tree.Stretch.{Stretch}
use Rattle.btree_file.specs.declared.tree.TreeFile.{TreeFile}
use Rattle.btree_file.proofs.LongerFork.{zeros_at, as_with, whole_now, room_now, inside_now, open_now, node_same, map_now, keeps_longer, has_room, has_none, room_taken, stands_grown}
use Rattle.btree_file.proofs.Refreshed.{inside_after}
use Rattle.btree_file.proofs.Rooms.{whole_node}
use Rattle.btree_file.proofs.Stages.{extends_none, extends_both, keeps_both, counts_both, frames_both, spends_both, room_kept}
use Rattle.btree_file.proofs.StandingLaws.{some_sector}
use Rattle.btree_file.proofs.tree.TreeFile.grow.Goals as goal

-- what is said of a growth that was planned
planned : (P : Growth → Type 0) (found : Option Growth) (growth : Growth) → found ≡ Some growth → IfSome found P → P growth
planned P found growth is fact = subst (λ o. IfSome o P) is fact

none_planned : (found : Option Growth) → found ≡ None → IsSome found → ⊥
none_planned found is some = let no : false ≡ true = subst (λ o. IsSome o) is some in absurd (true≢false (sym no))

pub returns-in_default-clause-grown : goal.returns-in_default-clause-grown
returns-in_default-clause-grown g c = λ tells.
    let tree = c.args.self.now in
    let old : Space = g.P.SectorView.space c.args.space.now in
    let one = some_sector tree old.content (c.requires.stands tells) in
    let block : 0 < tree.per_block = ⊎_elim
    (λ (none : tree.per_block ≡ 0). absurd (omega (arith, one, ap (λ p. length (fork_sectors tree.fork p)) none, ap (λ (l : List ℕ). length l) (no_sectors (blocks_of tree.fork)))))
    (λ (some : tree.per_block ≢ 0). omega (arith, some))
    (cases_eq tree.per_block 0) in
    absurd (none_planned c.in_ok-growth.field-0 c.in_default.is (c.in_ok-growth.ensures.found (c.requires.stands tells).agrees.stretches.some block (c.requires.apart tells)))

-- the last node of a map whose stretches are these
last_low : (tree : TreeFile) (items : List Stretch) → items ≡ tree.map.items → 0 < length tree.map.items → last_node items < tree.shape.total
last_low tree items same some = subst (λ m. last_node m < tree.shape.total) (sym same) (tree.kept.map_inside (length tree.map.items - 1) (record { node = 0; at = 0; len = 0 }) (omega (arith, some)))

pub read_last-requires-clause-whole : goal.read_last-requires-clause-whole
read_last-requires-clause-whole g c =
    let tree = c.args.self.now in
    let some = planned (λ growth. 0 < length tree.map.items) c.in_ok-growth.field-0 c.in-Some.growth c.in-Some.is c.in_ok-growth.ensures.some in
    let low = last_low tree c.deref.result.now (c.deref.ensures.value ∙ c.reserve_stretches.ensures.items) some in
    subst (λ n. (last_node c.deref.result.now + 1) * (n / 512) ≤ length (sectors_of_tree tree)) (sym tree.page_long) (whole_node tree.shape.total (tree.shape.node_size / 512) (last_node c.deref.result.now) (length (sectors_of_tree tree)) tree.kept.whole low)

pub returns-in_err-read_last-clause-frame : goal.returns-in_err-read_last-clause-frame
returns-in_err-read_last-clause-frame g c = reads_within (sectors_with c.args.self.now c.args.run) (g.P.SectorView.space c.args.space.now) (g.P.SectorView.space c.read_last.new.view) c.read_last.ensures.reads

pub invariant_of-self-2 : goal.invariant_of-self-2
invariant_of-self-2 g c =
    let tree = c.args.self.now in
    let old : Space = g.P.SectorView.space c.args.space.now in
    let now : Space = g.P.SectorView.space c.read_last.new.view in
    let blocks = planned (λ growth. blocks_of growth.fork ≡ blocks_of tree.fork ++ blocks_of (c.args.run ∷ [])) c.in_ok-growth.field-0 c.in-Some.growth c.in-Some.is c.in_ok-growth.ensures.blocks in
    let apart = planned (λ growth. AreApart (fork_sectors growth.fork tree.per_block)) c.in_ok-growth.field-0 c.in-Some.growth c.in-Some.is c.in_ok-growth.ensures.apart in
    let items = c.reserve_stretches.ensures.items in
    record {
      page_long = c.read_last.ensures.length ∙ tree.page_long;
      long = tree.long;
      kept = record {
        size = tree.kept.size;
        small = tree.kept.small;
        whole = whole_now tree c.in-Some.growth.fork c.args.run blocks old now c.read_last.ensures.reads;
        blocks = tree.kept.blocks;
        apart = apart;
        free = tree.kept.free;
        map_inside = subst (λ m. All (λ s. s.node < tree.shape.total) m) (sym c.reserve_stretches.ensures.items) tree.kept.map_inside;
        map_low = subst (λ m. All (λ s. s.at + s.len ≤ tree.shape.node_size) m) (sym c.reserve_stretches.ensures.items) tree.kept.map_low;
        map_header = subst (λ m. All (λ s. s.node ≡ 0 → 248 ≤ s.at) m) (sym c.reserve_stretches.ensures.items) tree.kept.map_header;
        map_apart = subst (λ m. (i j : ℕ) (d : Stretch) → i < length m → j < length m → (get_or m i d).node ≡ (get_or m j d).node → i ≡ j) (sym c.reserve_stretches.ensures.items) tree.kept.map_apart;
      };
    }

pub lengthen-requires-clause-growing : goal.lengthen-requires-clause-growing
lengthen-requires-clause-growing g c =
    let tree = c.args.self.now in
    let old : Space = g.P.SectorView.space c.args.space.now in
    let now : Space = g.P.SectorView.space c.read_last.new.view in
    let reads = c.read_last.ensures.reads in
    let blocks = planned (λ growth. blocks_of growth.fork ≡ blocks_of tree.fork ++ blocks_of (c.args.run ∷ [])) c.in_ok-growth.field-0 c.in-Some.growth c.in-Some.is c.in_ok-growth.ensures.blocks in
    let some = planned (λ growth. 0 < length tree.map.items) c.in_ok-growth.field-0 c.in-Some.growth c.in-Some.is c.in_ok-growth.ensures.some in
    let goal_is = planned (λ growth. growth.goal ≡ nodes_with tree c.args.run) c.in_ok-growth.field-0 c.in-Some.growth c.in-Some.is c.in_ok-growth.ensures.goal in
    let told : IsTrue now.tells → IsTrue old.tells = λ tells. sym reads.same.tells ∙ tells in
    let items = c.deref.ensures.value ∙ c.reserve_stretches.ensures.items in
    let product : c.in-Some.growth.goal * (tree.shape.node_size / 512) ≡ nodes_with tree c.args.run * (tree.shape.node_size / 512) = ap (λ n. n * (tree.shape.node_size / 512)) goal_is in
    record {
      inside = inside_now tree c.in-Some.growth.fork c.args.run blocks old now reads c.requires.inside c.requires.run_inside;
      open_sectors = open_now tree c.in-Some.growth.fork c.args.run blocks old now reads c.requires.open c.requires.run_open;
      few = omega (arith, goal_is, c.requires.few);
      whole = omega (arith, product, room_now tree c.in-Some.growth.fork c.args.run blocks old now reads c.requires.whole);
      some = omega (arith, some, ap (λ (m : List Stretch). length m) c.reserve_stretches.ensures.items);
      order = omega (arith, goal_is);
      agrees = λ tells. map_now tree c.in-Some.growth.fork c.args.run blocks old now reads (told tells) (c.requires.stands (told tells)) c.reserve_stretches.new.map.items c.reserve_stretches.ensures.items;
      settled = λ tells. (c.requires.stands (told tells)).settled;
      page = λ tells other.
          let last = last_node c.reserve_stretches.new.map.items in
          let low = last_low tree c.reserve_stretches.new.map.items c.reserve_stretches.ensures.items some in
          let same : last_node c.deref.result.now ≡ last = ap last_node c.deref.ensures.value in
          c.in_ok-read_last.ensures.value (told tells) (λ e. other (sym same ∙ e)) ∙ ap (λ n. nodes_on (sectors_of_tree tree) n old.content (last_node c.deref.result.now)) tree.page_long
          ∙ ap (λ n. nodes_on (sectors_of_tree tree) tree.shape.node_size old.content n) same ∙ sym (node_same tree c.in-Some.growth.fork c.args.run blocks old now reads (told tells) last low);
    }

pub lengthen-requires-clause-room : goal.lengthen-requires-clause-room
lengthen-requires-clause-room g c =
    let tree = c.args.self.now in
    let old : Space = g.P.SectorView.space c.args.space.now in
    let now : Space = g.P.SectorView.space c.read_last.new.view in
    let blocks = planned (λ growth. blocks_of growth.fork ≡ blocks_of tree.fork ++ blocks_of (c.args.run ∷ [])) c.in_ok-growth.field-0 c.in-Some.growth c.in-Some.is c.in_ok-growth.ensures.blocks in
    let goal_is = planned (λ growth. growth.goal ≡ nodes_with tree c.args.run) c.in_ok-growth.field-0 c.in-Some.growth c.in-Some.is c.in_ok-growth.ensures.goal in
    let count_is = planned (λ growth. growth.count ≡ map_nodes_with tree c.args.run) c.in_ok-growth.field-0 c.in-Some.growth c.in-Some.is c.in_ok-growth.ensures.count in
    has_none tree c.in-Some.growth.fork c.args.run blocks old now c.read_last.ensures.reads c.reserve_stretches.new.map.items c.in-Some.growth.count c.in-Some.growth.goal count_is goal_is c.requires.room

pub add_nodes-requires-clause-room : goal.add_nodes-requires-clause-room
add_nodes-requires-clause-room g c =
    let tree = c.args.self.now in
    let old : Space = g.P.SectorView.space c.args.space.now in
    let now : Space = g.P.SectorView.space c.read_last.new.view in
    let next : Space = g.P.SectorView.space c.lengthen.new.space in
    let blocks = planned (λ growth. blocks_of growth.fork ≡ blocks_of tree.fork ++ blocks_of (c.args.run ∷ [])) c.in_ok-growth.field-0 c.in-Some.growth c.in-Some.is c.in_ok-growth.ensures.blocks in
    let goal_is = planned (λ growth. growth.goal ≡ nodes_with tree c.args.run) c.in_ok-growth.field-0 c.in-Some.growth c.in-Some.is c.in_ok-growth.ensures.goal in
    let count_is = planned (λ growth. growth.count ≡ map_nodes_with tree c.args.run) c.in_ok-growth.field-0 c.in-Some.growth c.in-Some.is c.in_ok-growth.ensures.count in
    room_kept c.in-Some.growth.goal c.in-Some.growth.count _ c.lengthen.new.self now next c.lengthen.ensures.counts c.lengthen.ensures.room (ap (λ m. length m.items) c.lengthen.ensures.map)
    (has_room tree c.in-Some.growth.fork c.args.run blocks old now c.read_last.ensures.reads c.reserve_stretches.new.map.items c.in-Some.growth.count c.in-Some.growth.goal count_is goal_is c.requires.room)

pub add_nodes-requires-clause-zeros : goal.add_nodes-requires-clause-zeros
add_nodes-requires-clause-zeros g c = λ k.
    let zeros = planned (λ growth. growth.zeros ≡ replicate c.args.self.now.shape.node_size 0) c.in_ok-growth.field-0 c.in-Some.growth c.in-Some.is c.in_ok-growth.ensures.zeros in
    ap (λ (l : List ℕ). get_or l k 0) zeros ∙ zeros_at c.args.self.now.shape.node_size k

-- the map of the file before, where nothing was added yet
extends_as : (total : ℕ) (map reserved next after : List Stretch) → reserved ≡ map → next ≡ reserved → (later : ℕ) → total ≤ later → ExtendsMap later next after → ExtendsMap total map after
extends_as total map reserved next after first second later order extends =
    extends_both total later map next after order (subst (λ m. ExtendsMap total map m) (sym (second ∙ first)) (extends_none total map)) extends

pub returns-clause-grown : goal.returns-clause-grown
returns-clause-grown g c = λ tells.
    let tree = c.args.self.now in
    let old : Space = g.P.SectorView.space c.args.space.now in
    let now : Space = g.P.SectorView.space c.read_last.new.view in
    let next : Space = g.P.SectorView.space c.lengthen.new.space in
    let new : Space = g.P.SectorView.space c.add_nodes.new.space in
    let reads = c.read_last.ensures.reads in
    let blocks = planned (λ growth. blocks_of growth.fork ≡ blocks_of tree.fork ++ blocks_of (c.args.run ∷ [])) c.in_ok-growth.field-0 c.in-Some.growth c.in-Some.is c.in_ok-growth.ensures.blocks in
    let goal_is = planned (λ growth. growth.goal ≡ nodes_with tree c.args.run) c.in_ok-growth.field-0 c.in-Some.growth c.in-Some.is c.in_ok-growth.ensures.goal in
    let count_is = planned (λ growth. growth.count ≡ map_nodes_with tree c.args.run) c.in_ok-growth.field-0 c.in-Some.growth c.in-Some.is c.in_ok-growth.ensures.count in
    let told_now : IsTrue now.tells = reads.same.tells ∙ tells in
    let told_next : IsTrue next.tells = c.lengthen.ensures.frame.same.tells ∙ told_now in
    let told_new : IsTrue new.tells = c.add_nodes.ensures.frame.same.tells ∙ told_next in
    let counts = counts_both _ c.lengthen.new.self c.add_nodes.new.self c.lengthen.ensures.counts c.add_nodes.ensures.counts in
    let frame = frames_both _ c.lengthen.new.self now next new c.lengthen.ensures.counts c.lengthen.ensures.frame c.add_nodes.ensures.frame in
    let items : length c.reserve_stretches.new.map.items ≡ length tree.map.items = ap (λ (m : List Stretch). length m) c.reserve_stretches.ensures.items in
    let map_same : length c.lengthen.new.self.map.items ≡ length c.reserve_stretches.new.map.items = ap (λ m. length m.items) c.lengthen.ensures.map in
    record {
      stands = stands_grown tree c.in-Some.growth.fork c.args.run blocks old now reads c.add_nodes.new.self new c.in-Some.growth.goal tells goal_is c.requires.whole (c.requires.stands tells) c.add_nodes.ensures.growing told_new
          counts.fork counts.per_block counts.node_size (c.add_nodes.ensures.total told_next) frame;
      tree = keeps_both tree _ c.add_nodes.new.self old.content now.content new.content (keeps_longer tree c.in-Some.growth.fork c.args.run blocks old now reads _ refl refl c.reserve_stretches.ensures.items refl refl tells)
          (keeps_both _ c.lengthen.new.self c.add_nodes.new.self now.content next.content new.content (c.lengthen.ensures.tree told_now) (c.add_nodes.ensures.tree told_next));
      total = c.add_nodes.ensures.total told_next ∙ goal_is;
      free = omega (arith, counts.free, c.add_nodes.ensures.map told_next, map_same, items, c.add_nodes.ensures.total told_next, goal_is, count_is);
      blocks = ap blocks_of counts.fork ∙ blocks;
      extents = counts.fork ∙ planned (λ growth. growth.fork ≡ join tree.fork (c.args.run ∷ [])) c.in_ok-growth.field-0 c.in-Some.growth c.in-Some.is c.in_ok-growth.ensures.extents;
      per_block = counts.per_block;
      grew = record {
        more_blocks = blocks_of (c.args.run ∷ []);
        blocks = ap blocks_of counts.fork ∙ blocks;
        per_block = counts.per_block;
        node_size = counts.node_size;
        total = counts.total;
        map = extends_as tree.shape.total tree.map.items c.reserve_stretches.new.map.items c.lengthen.new.self.map.items c.add_nodes.new.self.map.items c.reserve_stretches.ensures.items (ap (λ m. m.items) c.lengthen.ensures.map) c.lengthen.new.self.shape.total c.lengthen.ensures.counts.total c.add_nodes.ensures.extends;
      };
    }

pub returns-clause-frame : goal.returns-clause-frame
returns-clause-frame g c =
    let tree = c.args.self.now in
    let old : Space = g.P.SectorView.space c.args.space.now in
    let now : Space = g.P.SectorView.space c.read_last.new.view in
    let next : Space = g.P.SectorView.space c.lengthen.new.space in
    let new : Space = g.P.SectorView.space c.add_nodes.new.space in
    let reads = c.read_last.ensures.reads in
    let blocks = planned (λ growth. blocks_of growth.fork ≡ blocks_of tree.fork ++ blocks_of (c.args.run ∷ [])) c.in_ok-growth.field-0 c.in-Some.growth c.in-Some.is c.in_ok-growth.ensures.blocks in
    let frame = frames_both _ c.lengthen.new.self now next new c.lengthen.ensures.counts c.lengthen.ensures.frame c.add_nodes.ensures.frame in
    within_both (sectors_with tree c.args.run) old now new (reads_within (sectors_with tree c.args.run) old now reads) (subst (λ these. PutsWithin these now new) (as_with tree c.in-Some.growth.fork c.args.run blocks old now reads) frame)

pub returns-clause-room : goal.returns-clause-room
returns-clause-room g c =
    let tree = c.args.self.now in
    let old : Space = g.P.SectorView.space c.args.space.now in
    let now : Space = g.P.SectorView.space c.read_last.new.view in
    let next : Space = g.P.SectorView.space c.lengthen.new.space in
    let new : Space = g.P.SectorView.space c.add_nodes.new.space in
    let reads = c.read_last.ensures.reads in
    let blocks = planned (λ growth. blocks_of growth.fork ≡ blocks_of tree.fork ++ blocks_of (c.args.run ∷ [])) c.in_ok-growth.field-0 c.in-Some.growth c.in-Some.is c.in_ok-growth.ensures.blocks in
    let goal_is = planned (λ growth. growth.goal ≡ nodes_with tree c.args.run) c.in_ok-growth.field-0 c.in-Some.growth c.in-Some.is c.in_ok-growth.ensures.goal in
    let count_is = planned (λ growth. growth.count ≡ map_nodes_with tree c.args.run) c.in_ok-growth.field-0 c.in-Some.growth c.in-Some.is c.in_ok-growth.ensures.count in
    let spent = spends_both c.in-Some.growth.goal _ c.lengthen.new.self c.add_nodes.new.self now next new c.lengthen.ensures.counts c.lengthen.ensures.room c.add_nodes.ensures.room in
    room_taken tree c.in-Some.growth.fork c.args.run blocks old now reads _ c.add_nodes.new.self new c.in-Some.growth.count c.in-Some.growth.goal count_is goal_is refl refl refl spent
    (omega (arith, c.add_nodes.ensures.most, ap (λ m. length m.items) c.lengthen.ensures.map))

pub returns-clause-below : goal.returns-clause-below
returns-clause-below g c =
    g.met.P.SectorView.follows_trans c.args.space.now c.lengthen.new.space c.add_nodes.new.space
    (g.met.P.SectorView.follows_trans c.args.space.now c.read_last.new.view c.lengthen.new.space c.read_last.ensures.below c.lengthen.ensures.below) c.add_nodes.ensures.below

pub returns-in_err-read_last-clause-inside : goal.returns-in_err-read_last-clause-inside
returns-in_err-read_last-clause-inside g c =
    let tree : TreeFile = c.args.self.now in
    inside_after tree.fork tree.per_block (g.P.SectorView.space c.args.space.now) (g.P.SectorView.space c.read_last.new.view) c.requires.inside c.read_last.ensures.reads.same.sectors

pub returns-clause-inside : goal.returns-clause-inside
returns-clause-inside g c = c.add_nodes.ensures.growing.inside
