use Rattle.std.proofs.Common.{◌≡◌, ◌≤◌, ◌<◌, ◌+◌, ◌-◌, ◌^◌, length, get_or, [], true, refl, sym, ◌∙◌, ap, subst, arith}
use Rattle.std.proofs.lemmas.Bool.{true≢false}
use Rattle.btree_node.specs.Node.{items}
use Rattle.btree_node.specs.Levels.{child_of, value_of}
use Rattle.btree_edit.specs.Rising.{IsLowering}
use Rattle.btree_edit.proofs.Doing.{does_both, does_read, does_write}
use Rattle.btree_edit.proofs.Settling.{rises_read, lowering_read, rises_lowered, lowering_end, lowering_root, root_used, root_free, root_record}
use Rattle.btree_edit.proofs.roots.drop_single_child_roots.Goals as goal

pub loop-done-preserved : goal.loop-done-preserved
loop-done-preserved g c =
    let before = g.N.NodeStore.state c.args.store.now in
    let s = g.N.NodeStore.state c.loop-done.store in
    let m = g.N.NodeStore.state c.read_node.new.store in
    let t = g.N.NodeStore.state c.give_node.new.self in
    let inv = c.loop-done.invariant in
    let reads = c.read_node.ensures.reads in
    let gave = c.give_node.ensures in
    let ok = c.in_ok-give_node.ensures in
    record {
      depth = omega (arith, inv.depth);
      lowers = λ tells start records small low lowering.
          let here : IsLowering g.K.KeyOrder.is_key g.K.KeyOrder.cmp g.K.KeyOrder.MAX start s records c.loop-done.shape (c.args.most - c.loop-done._done) = inv.lowers tells start records small low lowering in
          let tells_s = inv.does.same.tells ∙ tells in
          let then_read = lowering_read g.K.KeyOrder.MAX g.met.K.KeyOrder.key_length g.met.K.KeyOrder.key_most start s m records c.loop-done.shape (c.args.most - c.loop-done._done) reads.shape (reads.tree tells_s) reads.same here in
          let yes : c.in_ok-read_node.field-0 ≡ true = c.if-not-branch.false in
          let into : c.read_node.new.into ≡ m.nodes c.loop-done.shape.root = c.in_ok-read_node.ensures.value tells_s yes ∙ sym ((reads.tree tells_s).nodes c.loop-done.shape.root) in
          let one : length (items (m.nodes c.loop-done.shape.root)) ≡ 1 = ap (λ l. length (items l)) (sym into) ∙ omega (arith, c.count.ensures, c.if-count-ne1.false) in
          let more : 0 < c.args.most - c.loop-done._done = omega (arith, c.loop-done-test.true) in
          let deep : 1 < c.loop-done.shape.depth = omega (arith, c.if-shape-lt2.false) in
          let small_m : m.shape.total ≤ 2 ^ 32 = omega (arith, small, inv.does.same.total, reads.same.total) in
          let max = g.K.KeyOrder.MAX in
          let used = root_used g.K.KeyOrder.MAX g.met.K.KeyOrder.key_length g.met.K.KeyOrder.key_most start m m records c.loop-done.shape (c.args.most - c.loop-done._done) then_read more deep one small_m in
          let free = root_free g.K.KeyOrder.MAX g.met.K.KeyOrder.key_length g.met.K.KeyOrder.key_most start m m records c.loop-done.shape (c.args.most - c.loop-done._done) then_read more deep one small_m in
          let named = root_record g.K.KeyOrder.MAX g.met.K.KeyOrder.key_length g.met.K.KeyOrder.key_most start m m records c.loop-done.shape (c.args.most - c.loop-done._done) then_read more deep one small_m in
          let tells_m = reads.same.tells ∙ tells_s in
          let item : c.item.result.now ≡ get_or (items (m.nodes c.loop-done.shape.root)) 0 [] = c.item.ensures.value ∙ ap (λ l. get_or (items l) 0 []) into in
          let child : c.child_part-child.result ≡ child_of (get_or (items (m.nodes c.loop-done.shape.root)) 0 []) =
          c.child_part-child.ensures (subst (λ l. 4 ≤ length (value_of l)) (sym item) named) ∙ ap child_of item in
          subst (λ n. IsLowering g.K.KeyOrder.is_key g.K.KeyOrder.cmp g.K.KeyOrder.MAX start t records (record c.loop-done.shape { root = n; depth = c.loop-done.shape.depth - 1 }) (c.args.most - (c.loop-done._done + 1))) (sym child)
          (subst (λ r. IsLowering g.K.KeyOrder.is_key g.K.KeyOrder.cmp g.K.KeyOrder.MAX start t records (record c.loop-done.shape { root = child_of (get_or (items (m.nodes c.loop-done.shape.root)) 0 []); depth = c.loop-done.shape.depth - 1 }) r) {x = c.args.most - c.loop-done._done - 1} (omega arith)
          (rises_lowered g.K.KeyOrder.MAX g.met.K.KeyOrder.key_length g.met.K.KeyOrder.key_most start m t records c.loop-done.shape (c.args.most - c.loop-done._done) then_read more deep one small_m
          (ok.tree tells_m used free) gave.same.node_size (ok.one_more tells_m used free) gave.same));
      desk = record { node = c.read_node.ensures.size ∙ inv.desk.node; other = inv.desk.other; held = inv.desk.held; first = inv.desk.first; second = inv.desk.second; path = inv.desk.path };
      does = does_both c.loop-done._done 0 1 0 (c.loop-done._done + 1) 0 inv.does
          (does_both 0 0 1 0 1 0 (does_read 1 reads c.read_node.ensures.cause.later) (does_write 1 0 gave.writes gave.same (omega (arith, gave.more)) gave.cause.later) (omega arith) (omega arith)) (omega arith) (omega arith);
      below = g.met.N.NodeStore.follows_trans c.args.store.now c.loop-done.store c.give_node.new.self inv.below
          (g.met.N.NodeStore.follows_trans c.loop-done.store c.read_node.new.store c.give_node.new.self c.read_node.ensures.below gave.below);
    }

pub returns-then-shape-lt2-clause-lowers : goal.returns-then-shape-lt2-clause-lowers
returns-then-shape-lt2-clause-lowers g c = λ tells start records small low lowering. (c.loop-done.invariant.lowers tells start records small low lowering).rises

pub returns-then-not-branch-clause-lowers : goal.returns-then-not-branch-clause-lowers
returns-then-not-branch-clause-lowers g c = λ tells start records small low lowering.
    let inv = c.loop-done.invariant in
    let reads = c.read_node.ensures.reads in
    rises_read g.K.KeyOrder.MAX g.met.K.KeyOrder.key_length g.met.K.KeyOrder.key_most start (g.N.NodeStore.state c.loop-done.store) (g.N.NodeStore.state c.read_node.new.store) records c.loop-done.shape
    reads.shape (reads.tree (inv.does.same.tells ∙ tells)) reads.same (inv.lowers tells start records small low lowering).rises

pub returns-then-count-ne1-clause-lowers : goal.returns-then-count-ne1-clause-lowers
returns-then-count-ne1-clause-lowers g c = λ tells start records small low lowering.
    let inv = c.loop-done.invariant in
    let reads = c.read_node.ensures.reads in
    rises_read g.K.KeyOrder.MAX g.met.K.KeyOrder.key_length g.met.K.KeyOrder.key_most start (g.N.NodeStore.state c.loop-done.store) (g.N.NodeStore.state c.read_node.new.store) records c.loop-done.shape
    reads.shape (reads.tree (inv.does.same.tells ∙ tells)) reads.same (inv.lowers tells start records small low lowering).rises

pub returns-in_err-give_node-clause-below : goal.returns-in_err-give_node-clause-below
returns-in_err-give_node-clause-below g c =
    g.met.N.NodeStore.follows_trans c.args.store.now c.loop-done.store c.give_node.new.self c.loop-done.invariant.below
    (g.met.N.NodeStore.follows_trans c.loop-done.store c.read_node.new.store c.give_node.new.self c.read_node.ensures.below c.give_node.ensures.below)

pub returns-clause-lowers : goal.returns-clause-lowers
returns-clause-lowers g c = λ tells start records small low lowering. (c.loop-done.invariant.lowers tells start records small low lowering).rises

pub loop-done-init : goal.loop-done-init
loop-done-init g c =
    let a = g.N.NodeStore.state c.args.store.now in
    record {
      depth = omega arith;
      lowers = λ tells start records small low lowering. subst (λ r. IsLowering g.K.KeyOrder.is_key g.K.KeyOrder.cmp g.K.KeyOrder.MAX start a records c.args.shape.now r) {x = c.args.most} (omega arith) lowering;
      desk = c.requires.desk;
      does = record { fewer = omega arith; some = omega arith; left = omega arith; sectors = omega arith; free = omega arith; later = omega arith; same = record { tells = refl; names = refl; node_size = refl; total = refl; reserved = λ n. refl } };
      below = g.met.N.NodeStore.follows_refl c.args.store.now;
    }

pub returns-then-shape-lt2-clause-thick : goal.returns-then-shape-lt2-clause-thick
returns-then-shape-lt2-clause-thick g c = λ tells start records small low lowering deep. absurd (omega (arith, deep, c.if-shape-lt2.true))

pub returns-then-not-branch-clause-thick : goal.returns-then-not-branch-clause-thick
returns-then-not-branch-clause-thick g c = λ tells start records small low lowering deep.
    let inv = c.loop-done.invariant in
    let reads = c.read_node.ensures.reads in
    let s = g.N.NodeStore.state c.loop-done.store in
    let m = g.N.NodeStore.state c.read_node.new.store in
    let here = inv.lowers tells start records small low lowering in
    let root = lowering_root g.K.KeyOrder.MAX g.met.K.KeyOrder.key_length g.met.K.KeyOrder.key_most start s records c.loop-done.shape (c.args.most - c.loop-done._done) here in
    let yes : c.in_ok-read_node.field-0 ≡ true = c.in_ok-read_node.ensures.sound (inv.does.same.tells ∙ tells) root.0.inside root.0.kind (omega (arith, low, inv.depth)) in
    absurd (true≢false (sym yes ∙ c.if-not-branch.true))

pub returns-then-count-ne1-clause-thick : goal.returns-then-count-ne1-clause-thick
returns-then-count-ne1-clause-thick g c = λ tells start records small low lowering deep.
    let inv = c.loop-done.invariant in
    let reads = c.read_node.ensures.reads in
    let s = g.N.NodeStore.state c.loop-done.store in
    let m = g.N.NodeStore.state c.read_node.new.store in
    let here = inv.lowers tells start records small low lowering in
    let tells_s = inv.does.same.tells ∙ tells in
    let root = lowering_root g.K.KeyOrder.MAX g.met.K.KeyOrder.key_length g.met.K.KeyOrder.key_most start s records c.loop-done.shape (c.args.most - c.loop-done._done) here in
    let into : c.read_node.new.into ≡ s.nodes c.loop-done.shape.root = c.in_ok-read_node.ensures.value tells_s c.if-not-branch.false in
    let same : length (items (m.nodes c.loop-done.shape.root)) ≡ length (items (s.nodes c.loop-done.shape.root)) = ap (λ l. length (items l)) ((reads.tree tells_s).nodes c.loop-done.shape.root) in
    let many : c.count.result ≡ length (items (s.nodes c.loop-done.shape.root)) = c.count.ensures ∙ ap (λ l. length (items l)) into in
    omega (arith, same, many, root.1, c.if-count-ne1.true)

pub returns-clause-thick : goal.returns-clause-thick
returns-clause-thick g c = λ tells start records small low lowering deep.
    let inv = c.loop-done.invariant in
    let s = g.N.NodeStore.state c.loop-done.store in
    let here = inv.lowers tells start records small low lowering in
    absurd (lowering_end g.K.KeyOrder.MAX g.met.K.KeyOrder.key_length g.met.K.KeyOrder.key_most start s records c.loop-done.shape
    (subst (λ r. IsLowering g.K.KeyOrder.is_key g.K.KeyOrder.cmp g.K.KeyOrder.MAX start s records c.loop-done.shape r) {x = c.args.most - c.loop-done._done} (omega (arith, c.loop-done-test.false)) here))
