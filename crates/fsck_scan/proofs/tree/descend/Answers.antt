use Rattle.std.proofs.Common.{◌≡◌, ◌⊎◌, ◌<◌, ◌≤◌, ℕ, ◌-◌, ◌/◌, Bool, true, false, List, [], ◌∷◌, ◌++◌, length, get_or, set, inl, inr, sym, ◌∙◌, ap, subst, arith, if◌then◌else◌}
use Rattle.std.specs.List.{All}
use Rattle.sector_disk.specs.Space.{Space}
use Rattle.btree_node.specs.Levels.{Nodes}
use Rattle.fork_map.specs.Blocks.{fork_sectors}
use Rattle.hfs_volume.specs.Content.{node_of_fork}
use Rattle.hfs_volume.specs.Broken.{Finding, IsBrokenTree}
use Rattle.fsck_scan.specs.Form.{as_found, form_in}
use Rattle.fsck_scan.specs.Level.{IsRight, IsWrong, HasRead, FailsAt, place_in}
use Rattle.fsck_scan.specs.Marks.{MarksAll, IsNoChild, children_of}
use Rattle.fsck_scan.specs.Scan.{StandsAt, IsWrongNode}
use Rattle.fsck_scan.specs.declared.children.WrongChild.{WrongChild}
use Rattle.fsck_scan.specs.declared.level.WrongNode.{WrongNode}
use Rattle.fsck_scan.proofs.LevelLaws.{some_is, none_is}
use Rattle.fsck_scan.proofs.MarkLaws.{not_true, not_false}
use Rattle.fsck_scan.proofs.TreeSteps.{child_broken, node_broken, descended}
use Rattle.fsck_scan.proofs.tree.descend.Goals as goal

pub returns-in-Some-clause-wrong : goal.returns-in-Some-clause-wrong
returns-in-Some-clause-wrong g c tells tree j at =
    let old : Space = g.V.SectorView.space c.args.view.now in
    let nodes : Nodes = λ n. node_of_fork old.content c.args.fork.now.limit (fork_sectors c.args.fork.now.extents.now c.args.fork.now.per_block) (length c.args.node.now) n in
    let size : ℕ = length c.args.node.now in
    let names : List (List ℕ) = c.args.above.now.records in
    subst (λ (f : Finding). IsBrokenTree (form_in c.args.form.now) g.K.KeyOrder.is_key g.K.KeyOrder.is_value g.K.KeyOrder.cmp c.args.form.now.id tree f) (sym c.wrong_child.ensures)
    (child_broken (form_in c.args.form.now) g.K.KeyOrder.is_key g.K.KeyOrder.is_value g.K.KeyOrder.cmp c.args.form.now.id tree nodes size c.args.total c.args.height j c.args.marks.now c.args.above.now.nodes.items names c.args.above.now.ends.items at c.in-Some.child.node c.in-Some.child.again
    (some_is c.in_ok-child.field-0 c.in-Some.child (λ (child : WrongChild). IsNoChild c.args.total names c.args.marks.now child.node child.again) c.in-Some.is c.in_ok-child.ensures.wrong))

pub returns-in-Some-2-clause-wrong : goal.returns-in-Some-2-clause-wrong
returns-in-Some-2-clause-wrong g c tells tree j at =
    let old : Space = g.V.SectorView.space c.args.view.now in
    let nodes : Nodes = λ n. node_of_fork old.content c.args.fork.now.limit (fork_sectors c.args.fork.now.extents.now c.args.fork.now.per_block) (length c.args.node.now) n in
    let size : ℕ = length c.args.node.now in
    let names : List (List ℕ) = c.args.above.now.records in
    let below : List ℕ = c.mark_children.new.nodes.items in
    let are : below ≡ children_of names = none_is c.in_ok-child.field-0 (below ≡ children_of names) c.in_default.is c.in_ok-child.ensures.nodes in
    let fails : FailsAt g.K.KeyOrder.is_key g.K.KeyOrder.is_value g.K.KeyOrder.cmp nodes (length c.bytes.result.now / 2 - 10) c.args.height c.deref.result.now names c.in-Some-2.wrong.at c.in-Some-2.wrong.fault =
    some_is c.in_ok-wrong.field-0 c.in-Some-2.wrong (λ (one : WrongNode). FailsAt g.K.KeyOrder.is_key g.K.KeyOrder.is_value g.K.KeyOrder.cmp nodes (length c.bytes.result.now / 2 - 10) c.args.height c.deref.result.now names one.at one.fault) c.in-Some-2.is (c.in_ok-wrong.ensures.wrong tells) in
    node_broken (form_in c.args.form.now) g.K.KeyOrder.is_key g.K.KeyOrder.is_value g.K.KeyOrder.cmp c.args.form.now.id tree nodes size c.args.total c.args.height j c.args.marks.now c.args.above.now.nodes.items names c.args.above.now.ends.items at below c.in-Some-2.wrong.at c.in-Some-2.wrong.fault (as_found c.wrong_node.result) are
    (subst (λ (l : List ℕ). FailsAt g.K.KeyOrder.is_key g.K.KeyOrder.is_value g.K.KeyOrder.cmp nodes (size / 2 - 10) c.args.height l names c.in-Some-2.wrong.at c.in-Some-2.wrong.fault) c.deref.ensures.value
    (subst (λ (b : List ℕ). FailsAt g.K.KeyOrder.is_key g.K.KeyOrder.is_value g.K.KeyOrder.cmp nodes (length b / 2 - 10) c.args.height c.deref.result.now names c.in-Some-2.wrong.at c.in-Some-2.wrong.fault) c.bytes.ensures.value fails))
    (subst (λ (l : List ℕ). IsWrongNode c.args.form.now.id c.args.above.now.nodes.items c.args.above.now.ends.items l c.in-Some-2.wrong.at c.in-Some-2.wrong.fault (as_found c.wrong_node.result)) c.deref-in-Some-2.ensures.value c.wrong_node.ensures)

pub returns-clause-right : goal.returns-clause-right
returns-clause-right g c tells tree j at =
    let old : Space = g.V.SectorView.space c.args.view.now in
    let nodes : Nodes = λ n. node_of_fork old.content c.args.fork.now.limit (fork_sectors c.args.fork.now.extents.now c.args.fork.now.per_block) (length c.args.node.now) n in
    let size : ℕ = length c.args.node.now in
    let names : List (List ℕ) = c.args.above.now.records in
    let below : List ℕ = c.mark_children.new.nodes.items in
    let are : below ≡ children_of names = none_is c.in_ok-child.field-0 (below ≡ children_of names) c.in_default.is c.in_ok-child.ensures.nodes in
    let read : HasRead g.K.KeyOrder.is_key g.K.KeyOrder.is_value g.K.KeyOrder.cmp nodes (length c.bytes.result.now / 2 - 10) c.args.height c.deref.result.now names (length c.deref.result.now) c.read_level.new.records c.read_level.new.ends.items =
    none_is c.in_ok-wrong.field-0 (HasRead g.K.KeyOrder.is_key g.K.KeyOrder.is_value g.K.KeyOrder.cmp nodes (length c.bytes.result.now / 2 - 10) c.args.height c.deref.result.now names (length c.deref.result.now) c.read_level.new.records c.read_level.new.ends.items) c.in_default-2.is (c.in_ok-wrong.ensures.read tells) in
    descended (form_in c.args.form.now) g.K.KeyOrder.is_key g.K.KeyOrder.is_value g.K.KeyOrder.cmp c.args.form.now.id tree nodes size c.args.total c.args.height j c.args.marks.now c.args.above.now.nodes.items names c.args.above.now.ends.items at c.mark_children.new.marks below c.read_level.new.records c.read_level.new.ends.items are
    (none_is c.in_ok-child.field-0 (All (λ n. n < c.args.total) below) c.in_default.is c.in_ok-child.ensures.inside)
    (none_is c.in_ok-child.field-0 (MarksAll below c.args.marks.now c.mark_children.new.marks) c.in_default.is c.in_ok-child.ensures.marks)
    (subst (λ (l : List ℕ). HasRead g.K.KeyOrder.is_key g.K.KeyOrder.is_value g.K.KeyOrder.cmp nodes (size / 2 - 10) c.args.height l names (length l) c.read_level.new.records c.read_level.new.ends.items) c.deref.ensures.value
    (subst (λ (b : List ℕ). HasRead g.K.KeyOrder.is_key g.K.KeyOrder.is_value g.K.KeyOrder.cmp nodes (length b / 2 - 10) c.args.height c.deref.result.now names (length c.deref.result.now) c.read_level.new.records c.read_level.new.ends.items) c.bytes.ensures.value read))
