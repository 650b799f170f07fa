use Rattle.std.proofs.Common.{◌≡◌, ◌⊎◌, ◌≤◌, ◌<◌, ◌+◌, true, false, ⊎_elim, ◌*◌, ◌^◌, ◌++◌, ◌-◌, ◌/◌, List, [], get_or, refl, IsTrue, length, inl, inr, ap, sym, ◌∙◌, subst, arith}
use Rattle.std.specs.declared.cmp.Ordering.TheVariants.{Equal}
use Rattle.std.proofs.lemmas.Bool.{cases_eq, cases_Bool, true≢false}
use Rattle.std.proofs.lemmas.List.{length-append}
use Rattle.std.proofs.lemmas.List.Elements.{All-same}
use Rattle.btree_node.specs.Levels.{Pair}
use Rattle.btree_node.specs.Store.{HasRoom}
use Rattle.btree_node.specs.Tree.{pairs_of}
use Rattle.btree_edit.specs.Desk.{KeepsLeaf}
use Rattle.btree_edit.specs.LevelEdit.{node_room}
use Rattle.btree_edit.specs.Rising.{BoundsRoot, RootHasTwoChildren}
use Rattle.btree_edit.specs.Sorted.{ChangesPair, EditsTree}
use Rattle.btree_edit.specs.Editing.{CostsAtMost, edit_writes}
use Rattle.btree_edit.specs.Swapping.{HasValueOf, SwapsRecord}
use Rattle.btree_edit.proofs.Crowning.{tree_kept}
use Rattle.btree_edit.proofs.Doing.{does_both, does_read}
use Rattle.btree_edit.proofs.Swaps.{bounds_swapped, thick_swapped, thick_read, is_found, found_key, found_size, has_record, value_swapped}
use Rattle.btree_edit.proofs.Outcomes.{read_tree, read_pairs, edits_read, bounds_read, bounds_same}
use Rattle.btree_edit.proofs.Values.{values_changed}
use Rattle.btree_edit.proofs.replacing.replace.Given.{Over}
use Rattle.btree_edit.proofs.replacing.replace.Goals.{In_ok-give_value-in-At}
use Rattle.btree_edit.proofs.replacing.replace.Goals as goal

pub give_value-requires-clause-tree : goal.give_value-requires-clause-tree
give_value-requires-clause-tree g c = λ told.
    let s = g.N.NodeStore.state c.args.store.now in
    let m = g.N.NodeStore.state c.find.new.store in
    let reads = c.find.ensures.reads in
    let tells : IsTrue s.tells = subst (λ b. IsTrue b) reads.same.tells told in
    let small : m.shape.total ≤ 2 ^ 32 = omega (arith, reads.same.total, ap (λ h. h.total) c.shape-shape.ensures, c.total_of-total.ensures, c.total_of-total.type_inv) in
    tree_kept g.met.K.KeyOrder.key_length s m (c.requires.tree tells) small reads.shape (reads.tree tells).nodes (reads.tree tells).used reads.same.reserved

pub give_value-requires-clause-leaf : goal.give_value-requires-clause-leaf
give_value-requires-clause-leaf g c = subst (λ found. KeepsLeaf (g.N.NodeStore.state c.find.new.store) c.find.new.desk found) c.in-At.is c.in_ok-node.ensures.leaf

pub fail-requires : goal.fail-requires
fail-requires g c =
    let s = g.N.NodeStore.state c.args.store.now in
    let m = g.N.NodeStore.state c.find.new.store in
    let reads = c.find.ensures.reads in
    let cmp = g.K.KeyOrder.cmp in
    let key = c.args.key.now in
    let size = length c.args.value.now in
    let refused : c.fits_value.result ≡ false = c.if-not-fits_value.true in
    record {
      hidden = ⊎_elim (λ (told : m.tells ≡ true).
          let tells : IsTrue s.tells = sym reads.same.tells ∙ told in
          let tree = c.requires.tree tells in
          let found = is_found cmp key s c.find.new.desk c.in-At.node c.in-At.index c.in_ok-node.field-0 c.in-At.is (c.in_ok-node.ensures.found tells) (c.in_ok-node.ensures.place tells) in
          let long : HasValueOf cmp key size s → size ≡ length c.find.new.desk.held.value = λ has. found_size g.met.K.KeyOrder.total g.met.K.KeyOrder.key_length s tree key found.stands.some size has c.find.new.desk found.k found.holds found.equal in
          ⊎_elim (λ (yes : c.has_length.result ≡ true).
          let here = has_record g.met.K.KeyOrder.total g.met.K.KeyOrder.key_length s c.find.new.desk c.in-At.node c.in-At.index found.k key c.args.value.now tree found.stands found.holds found.item (c.has_length.ensures.same yes) m reads.same ((reads.tree tells).nodes c.in-At.node) in
          let once : HasRoom 1 m ⊎ IsTrue (m.written c.in-At.node) = elim (c.requires.room tells) [
            | inl (has, room) ↦ elim room [
              | inl one ↦ inl (omega (arith, one, reads.room.unwritten, reads.room.writes_left))
              | inr written ↦ inr (subst (λ b. IsTrue b) (sym (reads.room.written c.in-At.node)) (written c.in-At.node c.in-At.index found.k found.stands (ap (λ l. cmp l key) (sym found.holds.key) ∙ found.equal)))
            ]
            | inr room ↦ inl (omega (arith, room, reads.room.unwritten, reads.room.writes_left))
          ] in
          absurd (true≢false (sym (c.fits_value.ensures.surely_one here.is_node.inside yes once) ∙ refused)))
          (λ (no : c.has_length.result ≡ false).
          let other : HasValueOf cmp key size s → ⊥ = λ has. true≢false (sym (c.has_length.ensures.surely (long has)) ∙ no) in
          let depth : m.shape.depth ≤ 11 = ⊎_elim (λ has. absurd (other has)) (λ low. omega (arith, low, ap (λ h. h.depth) reads.shape)) (c.requires.depth tells) in
          let free : m.shape.depth + 1 ≤ m.shape.free = ⊎_elim (λ has. absurd (other has)) (λ free. omega (arith, free, ap (λ h. h.depth) reads.shape, ap (λ h. h.free) reads.shape)) (c.requires.free tells) in
          let room : HasRoom (edit_writes m.shape.depth) m = ⊎_elim (λ has. absurd (other has.0)) (λ room. omega (arith, room, ap (λ h. h.depth) reads.shape, reads.room.unwritten, reads.room.writes_left)) (c.requires.room tells) in
          absurd (true≢false (sym (c.fits_value.ensures.surely no depth free room) ∙ refused)))
          (cases_Bool c.has_length.result))
          (λ hidden. hidden)
          (cases_Bool m.tells);
    }

pub returns-in_err-give_value-in-At-clause-below : goal.returns-in_err-give_value-in-At-clause-below
returns-in_err-give_value-in-At-clause-below g c = g.met.N.NodeStore.follows_trans c.args.store.now c.find.new.store c.give_value.new.store c.find.ensures.below c.give_value.ensures.below

pub returns-in_err-give_value-in-At-clause-once : goal.returns-in_err-give_value-in-At-clause-once
returns-in_err-give_value-in-At-clause-once g c = λ has.
    let s = g.N.NodeStore.state c.args.store.now in
    let m = g.N.NodeStore.state c.find.new.store in
    let reads = c.find.ensures.reads in
    let cmp = g.K.KeyOrder.cmp in
    let key = c.args.key.now in
    let size = length c.args.value.now in
    let tells = has.tells in
    let tree = c.requires.tree tells in
    let found = is_found cmp key s c.find.new.desk c.in-At.node c.in-At.index c.in_ok-node.field-0 c.in-At.is (c.in_ok-node.ensures.found tells) (c.in_ok-node.ensures.place tells) in
    let same : size ≡ length c.find.new.desk.held.value = found_size g.met.K.KeyOrder.total g.met.K.KeyOrder.key_length s tree key found.stands.some size has c.find.new.desk found.k found.holds found.equal in
    does_both 0 0 1 0 1 0 (does_read s.shape.depth reads c.find.ensures.cause.later) (c.give_value.ensures.does_one same) (omega arith) (omega arith)

pub returns-in_err-give_value-in-At-clause-kept : goal.returns-in_err-give_value-in-At-clause-kept
returns-in_err-give_value-in-At-clause-kept g c = λ has.
    let s = g.N.NodeStore.state c.args.store.now in
    let m = g.N.NodeStore.state c.find.new.store in
    let reads = c.find.ensures.reads in
    let cmp = g.K.KeyOrder.cmp in
    let key = c.args.key.now in
    let size = length c.args.value.now in
    let tells = has.tells in
    let tree = c.requires.tree tells in
    let found = is_found cmp key s c.find.new.desk c.in-At.node c.in-At.index c.in_ok-node.field-0 c.in-At.is (c.in_ok-node.ensures.found tells) (c.in_ok-node.ensures.place tells) in
    let same : size ≡ length c.find.new.desk.held.value = found_size g.met.K.KeyOrder.total g.met.K.KeyOrder.key_length s tree key found.stands.some size has c.find.new.desk found.k found.holds found.equal in
    c.give_value.ensures.shape same ∙ reads.shape

pub returns-in_ok-give_value-in-At-clause-once : goal.returns-in_ok-give_value-in-At-clause-once
returns-in_ok-give_value-in-At-clause-once g c = λ has.
    let s = g.N.NodeStore.state c.args.store.now in
    let m = g.N.NodeStore.state c.find.new.store in
    let reads = c.find.ensures.reads in
    let cmp = g.K.KeyOrder.cmp in
    let key = c.args.key.now in
    let size = length c.args.value.now in
    let tells = has.tells in
    let tree = c.requires.tree tells in
    let found = is_found cmp key s c.find.new.desk c.in-At.node c.in-At.index c.in_ok-node.field-0 c.in-At.is (c.in_ok-node.ensures.found tells) (c.in_ok-node.ensures.place tells) in
    let same : size ≡ length c.find.new.desk.held.value = found_size g.met.K.KeyOrder.total g.met.K.KeyOrder.key_length s tree key found.stands.some size has c.find.new.desk found.k found.holds found.equal in
    does_both 0 0 1 0 1 0 (does_read s.shape.depth reads c.find.ensures.cause.later) (c.give_value.ensures.does_one same) (omega arith) (omega arith)

pub returns-in_ok-give_value-in-At-clause-kept : goal.returns-in_ok-give_value-in-At-clause-kept
returns-in_ok-give_value-in-At-clause-kept g c = λ has.
    let s = g.N.NodeStore.state c.args.store.now in
    let m = g.N.NodeStore.state c.find.new.store in
    let reads = c.find.ensures.reads in
    let cmp = g.K.KeyOrder.cmp in
    let key = c.args.key.now in
    let size = length c.args.value.now in
    let tells = has.tells in
    let tree = c.requires.tree tells in
    let found = is_found cmp key s c.find.new.desk c.in-At.node c.in-At.index c.in_ok-node.field-0 c.in-At.is (c.in_ok-node.ensures.found tells) (c.in_ok-node.ensures.place tells) in
    let same : size ≡ length c.find.new.desk.held.value = found_size g.met.K.KeyOrder.total g.met.K.KeyOrder.key_length s tree key found.stands.some size has c.find.new.desk found.k found.holds found.equal in
    c.give_value.ensures.shape same ∙ reads.shape

pub returns-in_ok-give_value-in-At-clause-alone : goal.returns-in_ok-give_value-in-At-clause-alone
returns-in_ok-give_value-in-At-clause-alone g c = λ has.
    let s = g.N.NodeStore.state c.args.store.now in
    let m = g.N.NodeStore.state c.find.new.store in
    let reads = c.find.ensures.reads in
    let cmp = g.K.KeyOrder.cmp in
    let key = c.args.key.now in
    let size = length c.args.value.now in
    let tells = has.tells in
    let tree = c.requires.tree tells in
    let found = is_found cmp key s c.find.new.desk c.in-At.node c.in-At.index c.in_ok-node.field-0 c.in-At.is (c.in_ok-node.ensures.found tells) (c.in_ok-node.ensures.place tells) in
    let same : size ≡ length c.find.new.desk.held.value = found_size g.met.K.KeyOrder.total g.met.K.KeyOrder.key_length s tree key found.stands.some size has c.find.new.desk found.k found.holds found.equal in
    let t = g.N.NodeStore.state c.give_value.new.store in
    let swaps : SwapsRecord c.in-At.node c.in-At.index (c.find.new.desk.held.key ++ c.args.value.now) m t =
    c.in_ok-give_value-in-At.ensures.swaps same (subst (λ b. IsTrue b) (sym reads.same.tells) tells)
    (has_record g.met.K.KeyOrder.total g.met.K.KeyOrder.key_length s c.find.new.desk c.in-At.node c.in-At.index found.k key c.args.value.now tree found.stands found.holds found.item same m reads.same ((reads.tree tells).nodes c.in-At.node)) in
    record {
      leaf = c.in-At.node;
      index = c.in-At.index;
      place = found.k;
      stands = found.stands;
      equal = ap (λ l. cmp l key) (sym found.holds.key) ∙ found.equal;
      others = λ n other. swaps.others n other ∙ (reads.tree tells).nodes n;
    }

-- where the pair was found, its value is changed
edits_found : (g : Over) (c : In_ok-give_value-in-At g) → IsTrue (g.N.NodeStore.state c.args.store.now).tells
    → EditsTree g.K.KeyOrder.is_key g.K.KeyOrder.cmp (g.N.NodeStore.state c.args.store.now) (g.N.NodeStore.state c.give_value.new.store) (λ before after. ChangesPair g.K.KeyOrder.cmp c.args.key.now c.args.value.now before after)
    × BoundsRoot g.K.KeyOrder.MAX (g.N.NodeStore.state c.args.store.now) (g.N.NodeStore.state c.give_value.new.store) (g.N.NodeStore.state c.give_value.new.store).shape.depth (g.N.NodeStore.state c.give_value.new.store).shape.root
    × (RootHasTwoChildren (g.N.NodeStore.state c.args.store.now) (g.N.NodeStore.state c.args.store.now).shape.depth (g.N.NodeStore.state c.args.store.now).shape.root
    → RootHasTwoChildren (g.N.NodeStore.state c.give_value.new.store) (g.N.NodeStore.state c.give_value.new.store).shape.depth (g.N.NodeStore.state c.give_value.new.store).shape.root)
    × ((g.N.NodeStore.state c.args.store.now).header ≡ (g.N.NodeStore.state c.args.store.now).shape → (g.N.NodeStore.state c.give_value.new.store).header ≡ (g.N.NodeStore.state c.give_value.new.store).shape)
edits_found g c tells =
    let s = g.N.NodeStore.state c.args.store.now in
    let m = g.N.NodeStore.state c.find.new.store in
    let t = g.N.NodeStore.state c.give_value.new.store in
    let reads = c.find.ensures.reads in
    let cmp = g.K.KeyOrder.cmp in
    let key = c.args.key.now in
    let desk = c.find.new.desk in
    let tree = c.requires.tree tells in
    let small : s.shape.total ≤ 2 ^ 32 = omega (arith, ap (λ h. h.total) c.shape-shape.ensures, c.total_of-total.ensures, c.total_of-total.type_inv) in
    let found = is_found cmp key s c.find.new.desk c.in-At.node c.in-At.index c.in_ok-node.field-0 c.in-At.is (c.in_ok-node.ensures.found tells) (c.in_ok-node.ensures.place tells) in
    let equal : cmp (get_or (pairs_of s) found.k ([], [])).0 key ≡ Equal = ap (λ l. cmp l key) (sym found.holds.key) ∙ found.equal in
    elim (cases_eq (length c.args.value.now) (length c.find.new.desk.held.value)) [
      | inl same ↦
          let swaps : SwapsRecord c.in-At.node c.in-At.index (c.find.new.desk.held.key ++ c.args.value.now) m t =
          c.in_ok-give_value-in-At.ensures.swaps same (subst (λ b. IsTrue b) (sym reads.same.tells) tells)
          (has_record g.met.K.KeyOrder.total g.met.K.KeyOrder.key_length s c.find.new.desk c.in-At.node c.in-At.index found.k key c.args.value.now tree found.stands found.holds found.item same m reads.same ((reads.tree tells).nodes c.in-At.node)) in (
            value_swapped g.met.K.KeyOrder.total g.met.K.KeyOrder.key_length s c.find.new.desk c.in-At.node c.in-At.index found.k key c.args.value.now tree found.stands found.holds found.item same
                m t reads.same reads.shape (reads.tree tells) swaps (c.give_value.ensures.does_one same).same (c.give_value.ensures.shape same) small found.equal,
            bounds_swapped g.K.KeyOrder.MAX s m t c.in-At.node c.in-At.index (c.find.new.desk.held.key ++ c.args.value.now) reads.shape (reads.tree tells) swaps (c.give_value.ensures.shape same),
            λ thick. thick_swapped s m t c.in-At.node c.in-At.index (c.find.new.desk.held.key ++ c.args.value.now) reads.shape (reads.tree tells) swaps (c.give_value.ensures.shape same) thick,
            λ says. swaps.header ∙ (reads.tree tells).header ∙ says ∙ sym reads.shape ∙ sym (c.give_value.ensures.shape same),
          )
      | inr other ↦
          let same_pairs = read_pairs g.met.K.KeyOrder.key_length s.shape.depth s m reads tells small tree in
          let own : g.K.KeyOrder.is_key c.find.new.desk.held.key = found_key g.met.K.KeyOrder.total g.met.K.KeyOrder.key_length s c.find.new.desk c.in-At.node c.in-At.index found.k key c.find.new.desk.held.value tree found.stands found.holds found.item refl in
          let long : length c.find.new.desk.held.key ≡ length key = g.met.K.KeyOrder.same_length c.find.new.desk.held.key key own c.requires.key found.equal in
          let wide : 3 * (g.K.KeyOrder.MAX + 8) ≤ node_room m.shape.node_size = subst (λ n. 3 * (g.K.KeyOrder.MAX + 8) ≤ node_room n) (sym reads.same.node_size) (c.requires.wide tells) in
          let short : length (c.find.new.desk.held.key ++ c.args.value.now) ≤ m.shape.node_size / 2 - 10 =
          subst (λ n. length (c.find.new.desk.held.key ++ c.args.value.now) ≤ n / 2 - 10) (sym reads.same.node_size) (omega (arith, long, c.requires.short, length-append c.find.new.desk.held.key c.args.value.now)) in
          let inside : found.k < length (pairs_of m) = omega (arith, found.holds.inside, ap length same_pairs) in
          let equal_m : cmp (get_or (pairs_of m) found.k ([], [])).0 key ≡ Equal = ap (λ (l : List Pair). cmp (get_or l found.k ([], [])).0 key) same_pairs ∙ equal in
          let stored : c.find.new.desk.held.key ≡ (get_or (pairs_of m) found.k ([], [])).0 = found.holds.key ∙ ap (λ (l : List Pair). (get_or l found.k ([], [])).0) (sym same_pairs) in
          let told : IsTrue m.tells = subst (λ b. IsTrue b) (sym reads.same.tells) tells in (
            edits_read g.met.K.KeyOrder.key_length s.shape.depth s m reads tells small tree t (λ before after. ChangesPair cmp key c.args.value.now before after)
                (c.in_ok-give_value-in-At.ensures.changes other (subst (λ b. IsTrue b) (sym reads.same.tells) tells) wide short (found.k, inside, equal_m, stored)),
            bounds_read g.K.KeyOrder.MAX s.shape.depth s m t t.shape.depth t.shape.root reads tells (c.in_ok-give_value-in-At.ensures.roots other told wide short (found.k, inside, equal_m, stored)),
            λ thick. c.in_ok-give_value-in-At.ensures.thick other told wide short (found.k, inside, equal_m, stored),
            λ says. c.in_ok-give_value-in-At.ensures.header other told ((reads.tree tells).header ∙ says ∙ sym reads.shape),
          )
    ]

pub returns-in_ok-give_value-in-At-clause-pairs : goal.returns-in_ok-give_value-in-At-clause-pairs
returns-in_ok-give_value-in-At-clause-pairs g c = λ tells. (edits_found g c tells).0.pairs

pub returns-in_ok-give_value-in-At-clause-tree : goal.returns-in_ok-give_value-in-At-clause-tree
returns-in_ok-give_value-in-At-clause-tree g c = λ tells. (edits_found g c tells).0.tree

pub returns-in_ok-give_value-in-At-clause-others : goal.returns-in_ok-give_value-in-At-clause-others
returns-in_ok-give_value-in-At-clause-others g c = λ tells. (edits_found g c tells).0.others

pub returns-in-Absent-clause-pairs : goal.returns-in-Absent-clause-pairs
returns-in-Absent-clause-pairs g c = λ tells.
    let s = g.N.NodeStore.state c.args.store.now in
    let small : s.shape.total ≤ 2 ^ 32 = omega (arith, ap (λ h. h.total) c.shape-shape.ensures, c.total_of-total.ensures, c.total_of-total.type_inv) in
    read_pairs g.met.K.KeyOrder.key_length s.shape.depth s (g.N.NodeStore.state c.find.new.store) c.find.ensures.reads tells small (c.requires.tree tells)

pub returns-in-Absent-clause-tree : goal.returns-in-Absent-clause-tree
returns-in-Absent-clause-tree g c = λ tells.
    let s = g.N.NodeStore.state c.args.store.now in
    let small : s.shape.total ≤ 2 ^ 32 = omega (arith, ap (λ h. h.total) c.shape-shape.ensures, c.total_of-total.ensures, c.total_of-total.type_inv) in
    read_tree g.met.K.KeyOrder.key_length s.shape.depth s (g.N.NodeStore.state c.find.new.store) c.find.ensures.reads tells small (c.requires.tree tells)

pub returns-in_err-give_value-in-At-clause-does : goal.returns-in_err-give_value-in-At-clause-does
returns-in_err-give_value-in-At-clause-does g c =
    let s = g.N.NodeStore.state c.args.store.now in
    let m = g.N.NodeStore.state c.find.new.store in
    let reads = c.find.ensures.reads in
    let depth : m.shape.depth ≡ s.shape.depth = ap (λ h. h.depth) reads.shape in
    subst (λ d. CostsAtMost (edit_writes d) (d + 1) s (g.N.NodeStore.state c.give_value.new.store)) depth
    (does_both 0 0 (edit_writes m.shape.depth) (m.shape.depth + 1) (edit_writes m.shape.depth) (m.shape.depth + 1) (does_read s.shape.depth reads c.find.ensures.cause.later) c.give_value.ensures.does (omega arith) (omega arith))

pub returns-in_ok-give_value-in-At-clause-does : goal.returns-in_ok-give_value-in-At-clause-does
returns-in_ok-give_value-in-At-clause-does g c =
    let s = g.N.NodeStore.state c.args.store.now in
    let m = g.N.NodeStore.state c.find.new.store in
    let reads = c.find.ensures.reads in
    let depth : m.shape.depth ≡ s.shape.depth = ap (λ h. h.depth) reads.shape in
    subst (λ d. CostsAtMost (edit_writes d) (d + 1) s (g.N.NodeStore.state c.give_value.new.store)) depth
    (does_both 0 0 (edit_writes m.shape.depth) (m.shape.depth + 1) (edit_writes m.shape.depth) (m.shape.depth + 1) (does_read s.shape.depth reads c.find.ensures.cause.later) c.give_value.ensures.does (omega arith) (omega arith))

pub returns-in_ok-give_value-in-At-clause-roots : goal.returns-in_ok-give_value-in-At-clause-roots
returns-in_ok-give_value-in-At-clause-roots g c = λ tells. (edits_found g c tells).1

pub returns-in-Absent-clause-roots : goal.returns-in-Absent-clause-roots
returns-in-Absent-clause-roots g c = λ tells.
    bounds_same g.K.KeyOrder.MAX (g.N.NodeStore.state c.args.store.now).shape.depth (g.N.NodeStore.state c.args.store.now) (g.N.NodeStore.state c.find.new.store) c.find.ensures.reads tells

pub returns-in_ok-give_value-in-At-clause-thick : goal.returns-in_ok-give_value-in-At-clause-thick
returns-in_ok-give_value-in-At-clause-thick g c = λ tells thick. (edits_found g c tells).2 thick

pub returns-in_ok-give_value-in-At-clause-header : goal.returns-in_ok-give_value-in-At-clause-header
returns-in_ok-give_value-in-At-clause-header g c = λ tells says. (edits_found g c tells).3 says

pub returns-in_ok-give_value-in-At-clause-values : goal.returns-in_ok-give_value-in-At-clause-values
returns-in_ok-give_value-in-At-clause-values g c = λ tells had.
    values_changed g.K.KeyOrder.is_value g.K.KeyOrder.cmp c.args.key.now c.args.value.now _ _ (edits_found g c tells).0.pairs (c.requires.value tells) had

pub returns-in-Absent-clause-thick : goal.returns-in-Absent-clause-thick
returns-in-Absent-clause-thick g c = λ tells thick.
    thick_read (g.N.NodeStore.state c.args.store.now) (g.N.NodeStore.state c.find.new.store) c.find.ensures.reads.shape (c.find.ensures.reads.tree tells) thick

pub returns-in-Absent-clause-values : goal.returns-in-Absent-clause-values
returns-in-Absent-clause-values g c = λ tells had. All-same (λ (pair : Pair). g.K.KeyOrder.is_value pair.1) _ _ (returns-in-Absent-clause-pairs g c tells) had
