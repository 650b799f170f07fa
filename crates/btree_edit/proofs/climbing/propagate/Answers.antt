use Rattle.std.proofs.Common.{◌≡◌, ◌≤◌, ◌<◌, ◌+◌, ◌-◌, ◌*◌, ℕ, zero, suc, ℤ, List, true, refl, sym, ◌∙◌, ap, subst, arith}
use Rattle.std.proofs.lemmas.Bool.{true≢false}
use mir.Syntax.{w8}
use mir.Val.{to_z, of_z}
use Rattle.std.specs.Prelude.{IsTrue}
use Rattle.btree_node.specs.Tree.{kind_at, IsTreeNode}
use Rattle.btree_edit.specs.Desk.{IsDeskOf, HoldsLeaf}
use Rattle.btree_edit.specs.LevelEdit.{records_on, CanEdit, LevelEdit}
use Rattle.btree_edit.specs.Way.{stop_at}
use Rattle.btree_edit.specs.declared.desk.PathStep.{PathStep}
use Rattle.btree_edit.proofs.Repeated.{same_store_both}
use Rattle.btree_edit.proofs.Ascent.{IsAscent, ascent_start, ascent_read, ascent_step, ascent_stop, ascent_end, can_edit, way_node}
use Rattle.btree_edit.proofs.climbing.propagate.Goals as goal

-- a kind as a byte is the kind
kind_byte : (h : ℕ) → to_z w8 (of_z w8 (kind_at h)) ≡ kind_at h
kind_byte zero = refl
kind_byte (suc zero) = refl
kind_byte (suc (suc h)) = refl

kind_kept : (k : ℤ) (h : ℕ) → k ≡ kind_at h → to_z w8 (of_z w8 k) ≡ kind_at h
kind_kept k h is = ap (λ (n : ℤ). to_z w8 (of_z w8 n)) is ∙ kind_byte h

pub loop-done-init : goal.loop-done-init
loop-done-init g c =
    let a = g.N.NodeStore.state c.args.store.now in
    record {
      depth = refl;
      same_depth = refl;
      few = c.requires.few;
      there = λ first. c.requires.there;
      path = refl;
      ascent = λ tells shape_is can.
          subst (λ n. IsAscent g.K.KeyOrder.is_key g.K.KeyOrder.cmp g.K.KeyOrder.MAX a a c.args.desk.now.path c.args.at c.args.removed (records_on c.args.count c.args.desk.now) c.args.spare c.args.shape.now c.args.desk.now 0 c.args.count c.args.removed c.args.spare n)
          (ap (λ h. 4 * h.depth) (sym shape_is))
          (ascent_start g.K.KeyOrder.MAX g.met.K.KeyOrder.key_length g.met.K.KeyOrder.key_most a c.args.desk.now.path c.args.at c.args.removed (records_on c.args.count c.args.desk.now) c.args.spare can
          c.args.shape.now c.args.desk.now c.args.count shape_is refl c.requires.few);
      desk = c.requires.desk;
      budget = omega arith;
      enough = omega arith;
      left = omega arith;
      written = omega arith;
      taken = omega arith;
      does = record { fewer = omega arith; some = omega arith; left = omega arith; sectors = omega arith; free = omega arith; later = omega arith; same = record { tells = refl; names = refl; node_size = refl; total = refl; reserved = λ n. refl } };
      below = g.met.N.NodeStore.follows_refl c.args.store.now;
    }

pub bring_node-requires-clause-leaf : goal.bring_node-requires-clause-leaf
bring_node-requires-clause-leaf g c = λ one.
    let s = g.N.NodeStore.state c.loop-done.store in
    subst (λ h. HoldsLeaf s c.loop-done.desk.node (stop_at c.loop-done.desk.path (c.args.shape.now.depth - h)).node) (sym one) (c.loop-done.invariant.there (omega (arith, one))).holds

pub bring_node-requires-clause-is_leaf : goal.bring_node-requires-clause-is_leaf
bring_node-requires-clause-is_leaf g c = λ one. (c.loop-done.invariant.there (omega (arith, one))).is_leaf

pub loop-done-preserved : goal.loop-done-preserved
loop-done-preserved g c =
    let a = g.N.NodeStore.state c.args.store.now in
    let s = g.N.NodeStore.state c.loop-done.store in
    let m = g.N.NodeStore.state c.bring_node.new.store in
    let t = g.N.NodeStore.state c.edit_level.new.store in
    let inv = c.loop-done.invariant in
    let reads = c.bring_node.ensures.reads in
    let ok = c.in_ok-handed.ensures in
    let done_is = ok.done in
    let low : c.loop-done.done < c.args.shape.now.depth = c.loop-done-test.true in
    let spent : c.saturating_sub-left.result ≡ c.loop-done.left - 1 = omega (arith, c.saturating_sub-left.ensures) in
    record {
      depth = c.edit_level.ensures.depth ∙ inv.depth;
      same_depth = inv.same_depth;
      few = ok.few;
      there = λ first. absurd (omega (arith, first));
      path = c.edit_level.ensures.path ∙ inv.path;
      ascent = λ tells shape_is can.
          let low : c.loop-done.done < c.args.shape.now.depth = c.loop-done-test.true in
          let tells_s : IsTrue s.tells = inv.does.same.tells ∙ tells in
          let tells_m : IsTrue m.tells = reads.same.tells ∙ tells_s in
          let nodes = reads.tree tells_s in
          let deep : c.args.shape.now.depth ≡ a.shape.depth = ap (λ h. h.depth) shape_is in
          let put = records_on c.args.count c.args.desk.now in
          let same_m = same_store_both inv.does.same reads.same in
          let asc = inv.ascent tells shape_is can in
          let asc_m = ascent_read g.K.KeyOrder.MAX g.met.K.KeyOrder.key_length g.met.K.KeyOrder.key_most a c.args.desk.now.path c.args.at c.args.removed (records_on c.args.count c.args.desk.now) c.args.spare can
          s m c.loop-done.shape c.loop-done.desk (record c.loop-done.desk { node = c.bring_node.new.into }) c.loop-done.done c.loop-done.next c.loop-done.gone c.loop-done.left c.loop-done.budget reads.shape nodes.nodes nodes.used reads.same.reserved refl asc in
          let j_is : c.args.shape.now.depth - (c.loop-done.done + 1) + (c.loop-done.done + 1) ≡ a.shape.depth = omega arith in
          let stop : stop_at c.loop-done.desk.path (c.args.shape.now.depth - (c.loop-done.done + 1)) ≡ stop_at c.args.desk.now.path (c.args.shape.now.depth - (c.loop-done.done + 1)) =
          ap (λ (l : List PathStep). stop_at l (c.args.shape.now.depth - (c.loop-done.done + 1))) inv.path in
          let p_leaf : c.loop-done.done ≡ 0 → c.place_at-place.result ≡ c.args.at = λ none. c.place_at-place.ensures.leaf (omega arith) in
          let p_above : 0 < c.loop-done.done → c.place_at-place.result ≡ (stop_at c.args.desk.now.path (c.args.shape.now.depth - (c.loop-done.done + 1))).at =
          λ some. c.place_at-place.ensures.above (λ e. absurd (omega arith)) ∙ ap (λ (x : PathStep). x.at) stop in
          let may : CanEdit m (a.shape.depth - (c.args.shape.now.depth - (c.loop-done.done + 1))) (stop_at c.args.desk.now.path (c.args.shape.now.depth - (c.loop-done.done + 1))).node c.place_at-place.result c.loop-done.gone (records_on c.loop-done.next c.loop-done.desk) c.loop-done.left =
          can_edit g.K.KeyOrder.MAX g.met.K.KeyOrder.key_length g.met.K.KeyOrder.key_most a c.args.desk.now.path c.args.at c.args.removed (records_on c.args.count c.args.desk.now) c.args.spare can
          m same_m c.loop-done.shape (record c.loop-done.desk { node = c.bring_node.new.into }) c.loop-done.done c.loop-done.next c.loop-done.gone c.loop-done.left c.loop-done.budget asc_m
          (c.args.shape.now.depth - (c.loop-done.done + 1)) j_is c.place_at-place.result p_leaf p_above in
          let height : a.shape.depth - (c.args.shape.now.depth - (c.loop-done.done + 1)) ≡ c.loop-done.done + 1 = omega arith in
          let yes : c.in_ok-bring_node.field-0 ≡ true = c.if-not-branch.false in
          let into : c.bring_node.new.into ≡ m.nodes (stop_at c.loop-done.desk.path (c.args.shape.now.depth - (c.loop-done.done + 1))).node =
          c.in_ok-bring_node.ensures.value tells_s yes ∙ sym (nodes.nodes (stop_at c.loop-done.desk.path (c.args.shape.now.depth - (c.loop-done.done + 1))).node) in
          let edit : LevelEdit m t (c.loop-done.done + 1) (stop_at c.loop-done.desk.path (c.args.shape.now.depth - (c.loop-done.done + 1))).node c.place_at-place.result c.loop-done.gone (records_on c.loop-done.next c.loop-done.desk)
          c.in_ok-handed.handed.count c.in_ok-handed.handed.changed c.edit_level.new.desk c.loop-done.shape c.edit_level.new.shape =
          ok.edit tells_m into (kind_kept c.kind_at.result (c.loop-done.done + 1) c.kind_at.ensures)
          (subst (λ h. CanEdit m h (stop_at c.loop-done.desk.path (c.args.shape.now.depth - (c.loop-done.done + 1))).node c.place_at-place.result c.loop-done.gone (records_on c.loop-done.next c.loop-done.desk) c.loop-done.left) height
          (subst (λ (x : PathStep). CanEdit m (a.shape.depth - (c.args.shape.now.depth - (c.loop-done.done + 1))) x.node c.place_at-place.result c.loop-done.gone (records_on c.loop-done.next c.loop-done.desk) c.loop-done.left) (sym stop) may)) in
          let edit2 : LevelEdit m t (a.shape.depth - (c.args.shape.now.depth - (c.loop-done.done + 1))) (stop_at c.args.desk.now.path (c.args.shape.now.depth - (c.loop-done.done + 1))).node c.place_at-place.result c.loop-done.gone (records_on c.loop-done.next c.loop-done.desk)
          c.in_ok-handed.handed.count c.in_ok-handed.handed.changed c.edit_level.new.desk c.loop-done.shape c.edit_level.new.shape =
          subst (λ h. LevelEdit m t h (stop_at c.args.desk.now.path (c.args.shape.now.depth - (c.loop-done.done + 1))).node c.place_at-place.result c.loop-done.gone (records_on c.loop-done.next c.loop-done.desk)
          c.in_ok-handed.handed.count c.in_ok-handed.handed.changed c.edit_level.new.desk c.loop-done.shape c.edit_level.new.shape) (sym height)
          (subst (λ (x : PathStep). LevelEdit m t (c.loop-done.done + 1) x.node c.place_at-place.result c.loop-done.gone (records_on c.loop-done.next c.loop-done.desk)
          c.in_ok-handed.handed.count c.in_ok-handed.handed.changed c.edit_level.new.desk c.loop-done.shape c.edit_level.new.shape) stop edit) in
          let spent : c.loop-done.left ≤ c.saturating_sub-left.result + 1 = omega (arith, c.saturating_sub-left.ensures) in
          ascent_step g.K.KeyOrder.MAX g.met.K.KeyOrder.key_length g.met.K.KeyOrder.key_most a c.args.desk.now.path c.args.at c.args.removed (records_on c.args.count c.args.desk.now) c.args.spare can
          m same_m c.loop-done.shape (record c.loop-done.desk { node = c.bring_node.new.into }) c.loop-done.done c.loop-done.next c.loop-done.gone c.loop-done.left c.loop-done.budget asc_m
          (c.args.shape.now.depth - (c.loop-done.done + 1)) j_is c.place_at-place.result p_leaf p_above
          t c.in_ok-handed.handed.count c.in_ok-handed.handed.changed c.edit_level.new.desk c.edit_level.new.shape c.saturating_sub-left.result edit2 spent (c.loop-done.budget - c.in_ok-handed.handed.cost) c.in_ok-handed.handed.cost (omega arith) ok.cost ok.thrift;
      desk = subst (λ n. IsDeskOf n c.edit_level.new.desk) (reads.same.node_size ∙ inv.does.same.node_size) c.edit_level.ensures.desk;
      budget = omega (arith, inv.budget);
      enough = omega (arith, inv.enough, ok.cost);
      left = omega (arith, inv.left, spent);
      written = omega (arith, inv.written, inv.enough, ok.cost, done_is.some, reads.room.unwritten);
      taken = omega (arith, inv.taken, ap (λ h. h.free) reads.shape, done_is.free, spent);
      does = record {
        fewer = omega (arith, inv.does.fewer, done_is.fewer, reads.room.unwritten);
        some = omega (arith, inv.written, inv.enough, ok.cost, done_is.some, reads.room.unwritten);
        left = omega (arith, inv.does.left, done_is.left, reads.room.unwritten, reads.room.writes_left);
        sectors = omega (arith, inv.does.sectors, done_is.sectors, reads.room.sectors, reads.room.sectors_left);
        free = omega (arith, inv.taken, ap (λ h. h.free) reads.shape, done_is.free, spent);
        later = omega (arith, inv.does.later, c.bring_node.ensures.cause.later, done_is.later);
        same = same_store_both inv.does.same (same_store_both reads.same done_is.same);
      };
      below = g.met.N.NodeStore.follows_trans c.args.store.now c.loop-done.store c.edit_level.new.store inv.below
          (g.met.N.NodeStore.follows_trans c.loop-done.store c.bring_node.new.store c.edit_level.new.store c.bring_node.ensures.below c.edit_level.ensures.below);
    }

pub returns-then-not-branch-clause-climbs : goal.returns-then-not-branch-clause-climbs
returns-then-not-branch-clause-climbs g c = λ tells shape_is can.
    let a = g.N.NodeStore.state c.args.store.now in
    let s = g.N.NodeStore.state c.loop-done.store in
    let inv = c.loop-done.invariant in
    let low : c.loop-done.done < c.args.shape.now.depth = c.loop-done-test.true in
    let deep : c.args.shape.now.depth ≡ a.shape.depth = ap (λ h. h.depth) shape_is in
    let asc = inv.ascent tells shape_is can in
    let j_is : c.args.shape.now.depth - (c.loop-done.done + 1) + (c.loop-done.done + 1) ≡ a.shape.depth = omega arith in
    let stop : stop_at c.loop-done.desk.path (c.args.shape.now.depth - (c.loop-done.done + 1)) ≡ stop_at c.args.desk.now.path (c.args.shape.now.depth - (c.loop-done.done + 1)) =
    ap (λ (l : List PathStep). stop_at l (c.args.shape.now.depth - (c.loop-done.done + 1))) inv.path in
    let node : IsTreeNode s (c.loop-done.done + 1) (stop_at c.args.desk.now.path (c.args.shape.now.depth - (c.loop-done.done + 1))).node =
    way_node g.K.KeyOrder.MAX g.met.K.KeyOrder.key_length g.met.K.KeyOrder.key_most a c.args.desk.now.path c.args.at c.args.removed (records_on c.args.count c.args.desk.now) c.args.spare can
    s c.loop-done.shape c.loop-done.desk c.loop-done.done c.loop-done.next c.loop-done.gone c.loop-done.left c.loop-done.budget asc (c.args.shape.now.depth - (c.loop-done.done + 1)) j_is in
    let there : IsTreeNode s (c.loop-done.done + 1) (stop_at c.loop-done.desk.path (c.args.shape.now.depth - (c.loop-done.done + 1))).node = subst (λ (x : PathStep). IsTreeNode s (c.loop-done.done + 1) x.node) (sym stop) node in
    let yes : c.in_ok-bring_node.field-0 ≡ true = c.in_ok-bring_node.ensures.sound (inv.does.same.tells ∙ tells) there.inside there.kind (omega (arith, c.requires.depth)) in
    absurd (true≢false (sym yes ∙ c.if-not-branch.true))

pub returns-then-not-handed-clause-climbs : goal.returns-then-not-handed-clause-climbs
returns-then-not-handed-clause-climbs g c = λ tells shape_is can.
    let a = g.N.NodeStore.state c.args.store.now in
    let s = g.N.NodeStore.state c.loop-done.store in
    let m = g.N.NodeStore.state c.bring_node.new.store in
    let t = g.N.NodeStore.state c.edit_level.new.store in
    let inv = c.loop-done.invariant in
    let reads = c.bring_node.ensures.reads in
    let ok = c.in_ok-handed.ensures in
    let low : c.loop-done.done < c.args.shape.now.depth = c.loop-done-test.true in
    let tells_s : IsTrue s.tells = inv.does.same.tells ∙ tells in
    let tells_m : IsTrue m.tells = reads.same.tells ∙ tells_s in
    let nodes = reads.tree tells_s in
    let deep : c.args.shape.now.depth ≡ a.shape.depth = ap (λ h. h.depth) shape_is in
    let put = records_on c.args.count c.args.desk.now in
    let same_m = same_store_both inv.does.same reads.same in
    let asc = inv.ascent tells shape_is can in
    let asc_m = ascent_read g.K.KeyOrder.MAX g.met.K.KeyOrder.key_length g.met.K.KeyOrder.key_most a c.args.desk.now.path c.args.at c.args.removed (records_on c.args.count c.args.desk.now) c.args.spare can
    s m c.loop-done.shape c.loop-done.desk (record c.loop-done.desk { node = c.bring_node.new.into }) c.loop-done.done c.loop-done.next c.loop-done.gone c.loop-done.left c.loop-done.budget reads.shape nodes.nodes nodes.used reads.same.reserved refl asc in
    let j_is : c.args.shape.now.depth - (c.loop-done.done + 1) + (c.loop-done.done + 1) ≡ a.shape.depth = omega arith in
    let stop : stop_at c.loop-done.desk.path (c.args.shape.now.depth - (c.loop-done.done + 1)) ≡ stop_at c.args.desk.now.path (c.args.shape.now.depth - (c.loop-done.done + 1)) =
    ap (λ (l : List PathStep). stop_at l (c.args.shape.now.depth - (c.loop-done.done + 1))) inv.path in
    let p_leaf : c.loop-done.done ≡ 0 → c.place_at-place.result ≡ c.args.at = λ none. c.place_at-place.ensures.leaf (omega arith) in
    let p_above : 0 < c.loop-done.done → c.place_at-place.result ≡ (stop_at c.args.desk.now.path (c.args.shape.now.depth - (c.loop-done.done + 1))).at =
    λ some. c.place_at-place.ensures.above (λ e. absurd (omega arith)) ∙ ap (λ (x : PathStep). x.at) stop in
    let may : CanEdit m (a.shape.depth - (c.args.shape.now.depth - (c.loop-done.done + 1))) (stop_at c.args.desk.now.path (c.args.shape.now.depth - (c.loop-done.done + 1))).node c.place_at-place.result c.loop-done.gone (records_on c.loop-done.next c.loop-done.desk) c.loop-done.left =
    can_edit g.K.KeyOrder.MAX g.met.K.KeyOrder.key_length g.met.K.KeyOrder.key_most a c.args.desk.now.path c.args.at c.args.removed (records_on c.args.count c.args.desk.now) c.args.spare can
    m same_m c.loop-done.shape (record c.loop-done.desk { node = c.bring_node.new.into }) c.loop-done.done c.loop-done.next c.loop-done.gone c.loop-done.left c.loop-done.budget asc_m
    (c.args.shape.now.depth - (c.loop-done.done + 1)) j_is c.place_at-place.result p_leaf p_above in
    let height : a.shape.depth - (c.args.shape.now.depth - (c.loop-done.done + 1)) ≡ c.loop-done.done + 1 = omega arith in
    let yes : c.in_ok-bring_node.field-0 ≡ true = c.if-not-branch.false in
    let into : c.bring_node.new.into ≡ m.nodes (stop_at c.loop-done.desk.path (c.args.shape.now.depth - (c.loop-done.done + 1))).node =
    c.in_ok-bring_node.ensures.value tells_s yes ∙ sym (nodes.nodes (stop_at c.loop-done.desk.path (c.args.shape.now.depth - (c.loop-done.done + 1))).node) in
    let edit : LevelEdit m t (c.loop-done.done + 1) (stop_at c.loop-done.desk.path (c.args.shape.now.depth - (c.loop-done.done + 1))).node c.place_at-place.result c.loop-done.gone (records_on c.loop-done.next c.loop-done.desk)
    c.in_ok-handed.handed.count c.in_ok-handed.handed.changed c.edit_level.new.desk c.loop-done.shape c.edit_level.new.shape =
    ok.edit tells_m into (kind_kept c.kind_at.result (c.loop-done.done + 1) c.kind_at.ensures)
    (subst (λ h. CanEdit m h (stop_at c.loop-done.desk.path (c.args.shape.now.depth - (c.loop-done.done + 1))).node c.place_at-place.result c.loop-done.gone (records_on c.loop-done.next c.loop-done.desk) c.loop-done.left) height
    (subst (λ (x : PathStep). CanEdit m (a.shape.depth - (c.args.shape.now.depth - (c.loop-done.done + 1))) x.node c.place_at-place.result c.loop-done.gone (records_on c.loop-done.next c.loop-done.desk) c.loop-done.left) (sym stop) may)) in
    let edit2 : LevelEdit m t (a.shape.depth - (c.args.shape.now.depth - (c.loop-done.done + 1))) (stop_at c.args.desk.now.path (c.args.shape.now.depth - (c.loop-done.done + 1))).node c.place_at-place.result c.loop-done.gone (records_on c.loop-done.next c.loop-done.desk)
    c.in_ok-handed.handed.count c.in_ok-handed.handed.changed c.edit_level.new.desk c.loop-done.shape c.edit_level.new.shape =
    subst (λ h. LevelEdit m t h (stop_at c.args.desk.now.path (c.args.shape.now.depth - (c.loop-done.done + 1))).node c.place_at-place.result c.loop-done.gone (records_on c.loop-done.next c.loop-done.desk)
    c.in_ok-handed.handed.count c.in_ok-handed.handed.changed c.edit_level.new.desk c.loop-done.shape c.edit_level.new.shape) (sym height)
    (subst (λ (x : PathStep). LevelEdit m t (c.loop-done.done + 1) x.node c.place_at-place.result c.loop-done.gone (records_on c.loop-done.next c.loop-done.desk)
    c.in_ok-handed.handed.count c.in_ok-handed.handed.changed c.edit_level.new.desk c.loop-done.shape c.edit_level.new.shape) stop edit) in
    let spent : c.loop-done.left ≤ c.saturating_sub-left.result + 1 = omega (arith, c.saturating_sub-left.ensures) in
    ascent_stop g.K.KeyOrder.MAX g.met.K.KeyOrder.key_length g.met.K.KeyOrder.key_most a c.args.desk.now.path c.args.at c.args.removed (records_on c.args.count c.args.desk.now) c.args.spare can
    m same_m c.loop-done.shape (record c.loop-done.desk { node = c.bring_node.new.into }) c.loop-done.done c.loop-done.next c.loop-done.gone c.loop-done.left c.loop-done.budget asc_m
    (c.args.shape.now.depth - (c.loop-done.done + 1)) j_is c.place_at-place.result p_leaf p_above
    t c.in_ok-handed.handed.count c.in_ok-handed.handed.changed c.edit_level.new.desk c.edit_level.new.shape c.saturating_sub-left.result edit2 spent (c.loop-done.budget - c.in_ok-handed.handed.cost) c.in_ok-handed.handed.cost (omega arith) ok.cost ok.thrift c.if-not-handed.true

pub returns-clause-climbs : goal.returns-clause-climbs
returns-clause-climbs g c = λ tells shape_is can.
    let a = g.N.NodeStore.state c.args.store.now in
    let s = g.N.NodeStore.state c.loop-done.store in
    let inv = c.loop-done.invariant in
    let all : a.shape.depth ≡ c.loop-done.done = omega (arith, ap (λ h. h.depth) shape_is, c.loop-done-test.false, c.loop-done.auto.done-end) in
    ascent_end g.K.KeyOrder.MAX g.met.K.KeyOrder.key_length g.met.K.KeyOrder.key_most a c.args.desk.now.path c.args.at c.args.removed (records_on c.args.count c.args.desk.now) c.args.spare can
    s inv.does.same c.loop-done.shape c.loop-done.desk c.loop-done.done c.loop-done.next c.loop-done.gone c.loop-done.left c.loop-done.budget all (inv.ascent tells shape_is can)

pub returns-in_err-handed-clause-below : goal.returns-in_err-handed-clause-below
returns-in_err-handed-clause-below g c =
    g.met.N.NodeStore.follows_trans c.args.store.now c.loop-done.store c.edit_level.new.store c.loop-done.invariant.below
    (g.met.N.NodeStore.follows_trans c.loop-done.store c.bring_node.new.store c.edit_level.new.store c.bring_node.ensures.below c.edit_level.ensures.below)

pub returns-then-not-handed-clause-below : goal.returns-then-not-handed-clause-below
returns-then-not-handed-clause-below g c =
    g.met.N.NodeStore.follows_trans c.args.store.now c.loop-done.store c.edit_level.new.store c.loop-done.invariant.below
    (g.met.N.NodeStore.follows_trans c.loop-done.store c.bring_node.new.store c.edit_level.new.store c.bring_node.ensures.below c.edit_level.ensures.below)
