use Rattle.std.proofs.Common.{sym, subst}
use Rattle.std.specs.Prelude.{◌≡◌, Some, IfOk, IsTrue}
use Rattle.cat_records.specs.Records.{catalog_of, is_catalog}
use Rattle.btree_node.specs.Keys.{catalog_cmp, catalog_parent, catalog_units}
use Rattle.btree_node.specs.Tree.{pairs_of}
use Rattle.btree_edit.specs.Desk.{Finds}
use Rattle.catalog.specs.Pairs.{value_at}
use Rattle.catalog.proofs.Places.{found_holds, none_found}
use Rattle.catalog.proofs.Answers.{ok_is}
use Rattle.catalog.proofs.finding.record_under.Goals as goal

pub returns-in-At-clause-found : goal.returns-in-At-clause-found
returns-in-At-clause-found g c tells =
    let s = g.N.NodeStore.state c.args.store.now in
    let finds = subst (λ found. Finds catalog_cmp c.args.key.now s c.look.new.desk found) c.in-At.is (c.in_ok-look.ensures.found tells) in
    let holds = found_holds s c.look.new.desk c.args.key.now (c.requires.tree tells) (c.requires.spelled tells) finds.0 finds.1.0 finds.1.1 in
    let value = c.value.ensures in
    let read = subst (λ v. IfOk c.read_value.result (λ found. found ≡ Some (catalog_of v))) value (c.read_value.ensures.read (subst (λ v. IsTrue (is_catalog v)) (sym value) holds.spelled)) in
    ok_is c.read_value.result (Some (catalog_of c.look.new.desk.held.value)) (value_at (pairs_of s) (catalog_parent c.args.key.now) (catalog_units c.args.key.now)) read (sym holds.found)

pub returns-in-Absent-clause-found : goal.returns-in-Absent-clause-found
returns-in-Absent-clause-found g c tells =
    let s = g.N.NodeStore.state c.args.store.now in
    let finds = subst (λ found. Finds catalog_cmp c.args.key.now s c.look.new.desk found) c.in-Absent.is (c.in_ok-look.ensures.found tells) in
    none_found c.args.key.now (pairs_of s) finds.0
