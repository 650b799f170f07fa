use Rattle.std.proofs.Common.{◌<◌, ◌≤◌, ℕ, List, [], length, sym, ◌∙◌, subst, arith}
use Rattle.btree_node.specs.Levels.{Pair}
use Rattle.fsck_core.proofs.NameLaws.{stands_here, none_more, root_found, root_none}
use Rattle.fsck_core.proofs.names.find_in_root.Goals as goal

pub returns-then-stands_in_root-clause-is : goal.returns-then-stands_in_root-clause-is
returns-then-stands_in_root-clause-is c long =
    let pairs : List Pair = c.args.pairs.now in
    let at : ℕ = c.loop-at.at in
    let inside : at < length pairs = omega (arith, c.loop-at-test.true, c.len-at-end.ensures) in
    let key_long : 8 ≤ length c.key.result.now = subst (λ (l : List ℕ). 8 ≤ length l) (sym c.key.ensures) (long at ([], []) inside) in
    root_found pairs c.args.name.now at inside (c.loop-at.invariant.none long) (stands_here pairs c.args.name.now at c.key.result.now c.stands_in_root.result c.key.ensures (c.stands_in_root.ensures key_long) ∙ c.if-stands_in_root.true)

pub loop-at-preserved : goal.loop-at-preserved
loop-at-preserved c =
    let pairs : List Pair = c.args.pairs.now in
    let at : ℕ = c.loop-at.at in
    let inside : at < length pairs = omega (arith, c.loop-at-test.true, c.len-at-end.ensures) in
    record {
      none = λ long.
          let key_long : 8 ≤ length c.key.result.now = subst (λ (l : List ℕ). 8 ≤ length l) (sym c.key.ensures) (long at ([], []) inside) in
          none_more pairs c.args.name.now at (c.loop-at.invariant.none long) (stands_here pairs c.args.name.now at c.key.result.now c.stands_in_root.result c.key.ensures (c.stands_in_root.ensures key_long) ∙ c.if-stands_in_root.false);
    }

pub returns-clause-is : goal.returns-clause-is
returns-clause-is c long = root_none c.args.pairs.now c.args.name.now c.loop-at.at (omega (arith, c.loop-at-test.false, c.len-at-end.ensures)) (c.loop-at.invariant.none long)
