use Rattle.std.proofs.Common.{◌≡◌, ◌⊎◌, true, false, ⊎_elim, IsTrue, length, inl, inr, ap, sym, ◌∙◌, subst, arith}
use Rattle.std.proofs.lemmas.Bool.{cases_Bool, true≢false}
use Rattle.std.proofs.lemmas.List.Elements.{All-same}
use Rattle.btree_node.specs.Levels.{Pair}
use Rattle.btree_node.specs.Store.{HasRoom}
use Rattle.btree_edit.specs.Desk.{KeepsLeaf}
use Rattle.btree_edit.proofs.Outcomes.{read_tree, read_pairs}
use Rattle.btree_edit.proofs.Swaps.{is_found, has_record, swap_edits, swap_alone, swap_header, swap_top}
use Rattle.btree_edit.proofs.Values.{values_changed}
use Rattle.btree_edit.proofs.swapping.swap.Goals as goal

pub swap_value-requires-clause-leaf : goal.swap_value-requires-clause-leaf
swap_value-requires-clause-leaf g c = subst (λ found. KeepsLeaf (g.N.NodeStore.state c.find.new.store) c.find.new.desk found) c.in-At.is c.in_ok-node.ensures.leaf

pub fail-requires : goal.fail-requires
fail-requires g c =
    let s = g.N.NodeStore.state c.args.store.now in
    let m = g.N.NodeStore.state c.find.new.store in
    let reads = c.find.ensures.reads in
    let cmp = g.K.KeyOrder.cmp in
    let key = c.args.key.now in
    let refused : c.fits_swap.result ≡ false = c.if-not-fits_swap.true in
    record {
      hidden = ⊎_elim (λ (told : m.tells ≡ true).
          let tells : IsTrue s.tells = sym reads.same.tells ∙ told in
          let found = is_found cmp key s c.find.new.desk c.in-At.node c.in-At.index c.in_ok-node.field-0 c.in-At.is (c.in_ok-node.ensures.found tells) (c.in_ok-node.ensures.place tells) in
          let equal = ap (λ l. cmp l key) (sym found.holds.key) ∙ found.equal in
          let long : length c.args.value.now ≡ length c.find.new.desk.held.value = sym (c.requires.long tells found.k found.holds.inside equal) ∙ sym (ap length found.holds.value) in
          let here = has_record g.met.K.KeyOrder.total g.met.K.KeyOrder.key_length s c.find.new.desk c.in-At.node c.in-At.index found.k key c.args.value.now (c.requires.tree tells) found.stands found.holds found.item long m reads.same ((reads.tree tells).nodes c.in-At.node) in
          let once : HasRoom 1 m ⊎ IsTrue (m.written c.in-At.node) = elim (c.requires.room tells) [
            | inl one ↦ inl (omega (arith, one, reads.room.unwritten, reads.room.writes_left))
            | inr written ↦ inr (subst (λ b. IsTrue b) (sym (reads.room.written c.in-At.node)) (written c.in-At.node c.in-At.index found.k found.stands equal))
          ] in
          absurd (true≢false (sym (c.fits_swap.ensures.surely long here.is_node.inside once) ∙ refused)))
          (λ hidden. hidden)
          (cases_Bool m.tells);
    }

pub returns-else-not-fits_swap-clause-pairs : goal.returns-else-not-fits_swap-clause-pairs
returns-else-not-fits_swap-clause-pairs g c = λ tells.
    let s = g.N.NodeStore.state c.args.store.now in
    let m = g.N.NodeStore.state c.find.new.store in
    let t = g.N.NodeStore.state c.swap_value.new.store in
    let tree = c.requires.tree tells in
    let found = is_found g.K.KeyOrder.cmp c.args.key.now s c.find.new.desk c.in-At.node c.in-At.index c.in_ok-node.field-0 c.in-At.is (c.in_ok-node.ensures.found tells) (c.in_ok-node.ensures.place tells) in
    let same : length c.args.value.now ≡ length c.find.new.desk.held.value = c.fits_swap.ensures.same c.if-not-fits_swap.false in
    (swap_edits g.met.K.KeyOrder.total g.met.K.KeyOrder.key_length s m t c.find.new.desk c.in-At.node c.in-At.index c.args.key.now c.args.value.now tree found same s.shape.depth c.find.ensures.reads tells (g.met.N.NodeStore.well_formed c.args.store.now).total c.swap_value.ensures.swaps c.swap_value.ensures.does c.swap_value.ensures.shape).pairs

pub returns-else-not-fits_swap-clause-values : goal.returns-else-not-fits_swap-clause-values
returns-else-not-fits_swap-clause-values g c = λ tells had.
    let s = g.N.NodeStore.state c.args.store.now in
    let m = g.N.NodeStore.state c.find.new.store in
    let t = g.N.NodeStore.state c.swap_value.new.store in
    let tree = c.requires.tree tells in
    let found = is_found g.K.KeyOrder.cmp c.args.key.now s c.find.new.desk c.in-At.node c.in-At.index c.in_ok-node.field-0 c.in-At.is (c.in_ok-node.ensures.found tells) (c.in_ok-node.ensures.place tells) in
    let same : length c.args.value.now ≡ length c.find.new.desk.held.value = c.fits_swap.ensures.same c.if-not-fits_swap.false in
    values_changed g.K.KeyOrder.is_value g.K.KeyOrder.cmp c.args.key.now c.args.value.now _ _ (swap_edits g.met.K.KeyOrder.total g.met.K.KeyOrder.key_length s m t c.find.new.desk c.in-At.node c.in-At.index c.args.key.now c.args.value.now tree found same s.shape.depth c.find.ensures.reads tells (g.met.N.NodeStore.well_formed c.args.store.now).total c.swap_value.ensures.swaps c.swap_value.ensures.does c.swap_value.ensures.shape).pairs (c.requires.value tells) had

pub returns-else-not-fits_swap-clause-tree : goal.returns-else-not-fits_swap-clause-tree
returns-else-not-fits_swap-clause-tree g c = λ tells.
    let s = g.N.NodeStore.state c.args.store.now in
    let m = g.N.NodeStore.state c.find.new.store in
    let t = g.N.NodeStore.state c.swap_value.new.store in
    let tree = c.requires.tree tells in
    let found = is_found g.K.KeyOrder.cmp c.args.key.now s c.find.new.desk c.in-At.node c.in-At.index c.in_ok-node.field-0 c.in-At.is (c.in_ok-node.ensures.found tells) (c.in_ok-node.ensures.place tells) in
    let same : length c.args.value.now ≡ length c.find.new.desk.held.value = c.fits_swap.ensures.same c.if-not-fits_swap.false in
    (swap_edits g.met.K.KeyOrder.total g.met.K.KeyOrder.key_length s m t c.find.new.desk c.in-At.node c.in-At.index c.args.key.now c.args.value.now tree found same s.shape.depth c.find.ensures.reads tells (g.met.N.NodeStore.well_formed c.args.store.now).total c.swap_value.ensures.swaps c.swap_value.ensures.does c.swap_value.ensures.shape).tree

pub returns-else-not-fits_swap-clause-others : goal.returns-else-not-fits_swap-clause-others
returns-else-not-fits_swap-clause-others g c = λ tells.
    let s = g.N.NodeStore.state c.args.store.now in
    let m = g.N.NodeStore.state c.find.new.store in
    let t = g.N.NodeStore.state c.swap_value.new.store in
    let tree = c.requires.tree tells in
    let found = is_found g.K.KeyOrder.cmp c.args.key.now s c.find.new.desk c.in-At.node c.in-At.index c.in_ok-node.field-0 c.in-At.is (c.in_ok-node.ensures.found tells) (c.in_ok-node.ensures.place tells) in
    let same : length c.args.value.now ≡ length c.find.new.desk.held.value = c.fits_swap.ensures.same c.if-not-fits_swap.false in
    (swap_edits g.met.K.KeyOrder.total g.met.K.KeyOrder.key_length s m t c.find.new.desk c.in-At.node c.in-At.index c.args.key.now c.args.value.now tree found same s.shape.depth c.find.ensures.reads tells (g.met.N.NodeStore.well_formed c.args.store.now).total c.swap_value.ensures.swaps c.swap_value.ensures.does c.swap_value.ensures.shape).others

pub returns-else-not-fits_swap-clause-alone : goal.returns-else-not-fits_swap-clause-alone
returns-else-not-fits_swap-clause-alone g c = λ tells done.
    let s = g.N.NodeStore.state c.args.store.now in
    let m = g.N.NodeStore.state c.find.new.store in
    let t = g.N.NodeStore.state c.swap_value.new.store in
    let tree = c.requires.tree tells in
    let found = is_found g.K.KeyOrder.cmp c.args.key.now s c.find.new.desk c.in-At.node c.in-At.index c.in_ok-node.field-0 c.in-At.is (c.in_ok-node.ensures.found tells) (c.in_ok-node.ensures.place tells) in
    let same : length c.args.value.now ≡ length c.find.new.desk.held.value = c.fits_swap.ensures.same c.if-not-fits_swap.false in
    swap_alone g.met.K.KeyOrder.total g.met.K.KeyOrder.key_length s m t c.find.new.desk c.in-At.node c.in-At.index c.args.key.now c.args.value.now tree found same s.shape.depth c.find.ensures.reads tells (g.met.N.NodeStore.well_formed c.args.store.now).total c.swap_value.ensures.swaps c.swap_value.ensures.does c.swap_value.ensures.shape

pub returns-else-not-fits_swap-clause-top : goal.returns-else-not-fits_swap-clause-top
returns-else-not-fits_swap-clause-top g c = λ tells.
    let s = g.N.NodeStore.state c.args.store.now in
    let m = g.N.NodeStore.state c.find.new.store in
    let t = g.N.NodeStore.state c.swap_value.new.store in
    let tree = c.requires.tree tells in
    let found = is_found g.K.KeyOrder.cmp c.args.key.now s c.find.new.desk c.in-At.node c.in-At.index c.in_ok-node.field-0 c.in-At.is (c.in_ok-node.ensures.found tells) (c.in_ok-node.ensures.place tells) in
    let same : length c.args.value.now ≡ length c.find.new.desk.held.value = c.fits_swap.ensures.same c.if-not-fits_swap.false in
    swap_top g.met.K.KeyOrder.total g.met.K.KeyOrder.key_length s m t c.find.new.desk c.in-At.node c.in-At.index c.args.key.now c.args.value.now tree found same s.shape.depth c.find.ensures.reads tells (g.met.N.NodeStore.well_formed c.args.store.now).total c.swap_value.ensures.swaps c.swap_value.ensures.does c.swap_value.ensures.shape

pub returns-else-not-fits_swap-clause-header : goal.returns-else-not-fits_swap-clause-header
returns-else-not-fits_swap-clause-header g c = λ tells says.
    let s = g.N.NodeStore.state c.args.store.now in
    let m = g.N.NodeStore.state c.find.new.store in
    let t = g.N.NodeStore.state c.swap_value.new.store in
    let tree = c.requires.tree tells in
    let found = is_found g.K.KeyOrder.cmp c.args.key.now s c.find.new.desk c.in-At.node c.in-At.index c.in_ok-node.field-0 c.in-At.is (c.in_ok-node.ensures.found tells) (c.in_ok-node.ensures.place tells) in
    let same : length c.args.value.now ≡ length c.find.new.desk.held.value = c.fits_swap.ensures.same c.if-not-fits_swap.false in
    swap_header g.met.K.KeyOrder.total g.met.K.KeyOrder.key_length s m t c.find.new.desk c.in-At.node c.in-At.index c.args.key.now c.args.value.now tree found same s.shape.depth c.find.ensures.reads tells (g.met.N.NodeStore.well_formed c.args.store.now).total c.swap_value.ensures.swaps c.swap_value.ensures.does c.swap_value.ensures.shape says

pub returns-in-Absent-clause-pairs : goal.returns-in-Absent-clause-pairs
returns-in-Absent-clause-pairs g c = λ tells.
    let s = g.N.NodeStore.state c.args.store.now in
    read_pairs g.met.K.KeyOrder.key_length s.shape.depth s (g.N.NodeStore.state c.find.new.store) c.find.ensures.reads tells (omega (arith, (g.met.N.NodeStore.well_formed c.args.store.now).total)) (c.requires.tree tells)

pub returns-in-Absent-clause-tree : goal.returns-in-Absent-clause-tree
returns-in-Absent-clause-tree g c = λ tells.
    let s = g.N.NodeStore.state c.args.store.now in
    read_tree g.met.K.KeyOrder.key_length s.shape.depth s (g.N.NodeStore.state c.find.new.store) c.find.ensures.reads tells (omega (arith, (g.met.N.NodeStore.well_formed c.args.store.now).total)) (c.requires.tree tells)

pub returns-in-Absent-clause-values : goal.returns-in-Absent-clause-values
returns-in-Absent-clause-values g c = λ tells had. All-same (λ (pair : Pair). g.K.KeyOrder.is_value pair.1) _ _ (returns-in-Absent-clause-pairs g c tells) had
