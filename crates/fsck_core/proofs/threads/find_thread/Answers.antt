use Rattle.std.proofs.Common.{◌≡◌, ◌<◌, ℕ, List, length, sym, ◌∙◌, subst, arith}
use Rattle.std.proofs.lemmas.Bool.{true≢false}
use Rattle.btree_node.specs.Levels.{Pair}
use Rattle.btree_node.specs.Keys.{catalog_units}
use Rattle.hfs_volume.specs.Records.{placed_of}
use Rattle.fsck_core.specs.Names.{pair_at}
use Rattle.fsck_core.specs.Threads.{IsItsThread}
use Rattle.fsck_core.proofs.ThreadLaws.{key_long, not_found, found_at}
use Rattle.fsck_core.proofs.threads.find_thread.Goals as goal

pub returns-then-its-clause-is : goal.returns-then-its-clause-is
returns-then-its-clause-is c catalog at =
    let pairs : List Pair = c.args.pairs.now in
    let place : ℕ = c.pairs_before-at.result in
    let inside : place < length pairs = omega (arith, c.if-at-len.false, c.len.ensures) in
    let here : (c.key.result.now, c.value.result.now) ≡ pair_at pairs place = λ i. (c.key.ensures i, c.value.ensures i) in
    found_at pairs c.args.row (catalog_units c.args.key.now) place catalog.order (c.pairs_before-at.ensures.split catalog) (record {
      inside = inside;
      is = subst (λ (p : Pair). IsItsThread c.args.row (catalog_units c.args.key.now) (placed_of p)) here ((c.is_its_thread-its.ensures (key_long pairs place c.key.result.now catalog inside c.key.ensures)).0 c.if-its.true);
    }) at

pub returns-clause-is : goal.returns-clause-is
returns-clause-is c catalog at =
    let pairs : List Pair = c.args.pairs.now in
    let place : ℕ = c.pairs_before-at.result in
    let inside : place < length pairs = omega (arith, c.if-at-len.false, c.len.ensures) in
    let here : (c.key.result.now, c.value.result.now) ≡ pair_at pairs place = λ i. (c.key.ensures i, c.value.ensures i) in
    not_found pairs c.args.row (catalog_units c.args.key.now) place catalog.order (c.pairs_before-at.ensures.split catalog) (λ thread.
    true≢false (sym ((c.is_its_thread-its.ensures (key_long pairs place c.key.result.now catalog inside c.key.ensures)).1
    (subst (λ (p : Pair). IsItsThread c.args.row (catalog_units c.args.key.now) (placed_of p)) (sym here) thread.is)) ∙ c.if-its.false)) at
