use Rattle.std.proofs.Common.{◌≡◌, ◌⊎◌, ◌<◌, ◌≤◌, ℕ, ◌-◌, ◌/◌, Bool, true, false, List, [], ◌∷◌, ◌++◌, length, get_or, set, inl, inr, sym, ◌∙◌, ap, subst, arith, if◌then◌else◌}
use Rattle.std.specs.List.{All}
use Rattle.sector_disk.specs.Space.{Space}
use Rattle.btree_node.specs.Levels.{Nodes}
use Rattle.fork_map.specs.Blocks.{fork_sectors}
use Rattle.hfs_volume.specs.Content.{node_of_fork}
use Rattle.hfs_volume.specs.Broken.{Finding, IsBrokenTree}
use Rattle.fsck_scan.specs.Form.{as_found, form_in}
use Rattle.fsck_scan.specs.Level.{IsRight, IsWrong, HasRead, FailsAt, place_in}
use Rattle.fsck_scan.specs.Marks.{MarksAll, IsNoChild, children_of}
use Rattle.fsck_scan.specs.Scan.{StandsAt, IsWrongNode}
use Rattle.fsck_scan.specs.declared.children.WrongChild.{WrongChild}
use Rattle.fsck_scan.specs.declared.level.WrongNode.{WrongNode}
use Rattle.fsck_scan.proofs.LevelLaws.{some_is, none_is}
use Rattle.fsck_scan.proofs.MarkLaws.{not_true, not_false}
use Rattle.fsck_scan.proofs.TreeSteps.{root_taken, root_broken, root_wrong}
use Rattle.fsck_scan.proofs.tree.take_root.Goals as goal

pub returns-then-not-taken-clause-wrong : goal.returns-then-not-taken-clause-wrong
returns-then-not-taken-clause-wrong g c tree at =
    subst (λ (f : Finding). IsBrokenTree (form_in c.args.form.now) g.K.KeyOrder.is_key g.K.KeyOrder.is_value g.K.KeyOrder.cmp c.args.form.now.id tree f) (sym c.failed-then-not-taken.ensures)
    (root_broken (form_in c.args.form.now) g.K.KeyOrder.is_key g.K.KeyOrder.is_value g.K.KeyOrder.cmp c.args.form.now.id tree (length c.args.node.now) c.args.total c.args.height c.args.root c.args.marks.now c.args.node.now at (inr (not_false (get_or c.args.marks.now c.args.root true) (sym c.if-not-taken.true ∙ c.in_ok-taken.ensures.could))))

pub returns-in-Some-clause-wrong : goal.returns-in-Some-clause-wrong
returns-in-Some-clause-wrong g c tree at =
    let root : ℕ = c.args.root in
    let nodes_are : c.deref.result.now ≡ root ∷ [] = c.deref.ensures.value ∙ c.in_ok-push_node.ensures ∙ ap (λ (l : List ℕ). l ++ root ∷ []) c.requires.no_node in
    let wrong : IsWrong g.K.KeyOrder.is_key g.K.KeyOrder.is_value g.K.KeyOrder.cmp (record { most = length c.bytes.result.now / 2 - 10; height = c.args.height; next = 0; back = 0 }) c.new-names.result 0 c.args.node.now c.args.level.now.records c.in-Some.fault =
    some_is c.in_ok-fault.field-0 c.in-Some.fault (IsWrong g.K.KeyOrder.is_key g.K.KeyOrder.is_value g.K.KeyOrder.cmp (record { most = length c.bytes.result.now / 2 - 10; height = c.args.height; next = 0; back = 0 }) c.new-names.result 0 c.args.node.now c.args.level.now.records) c.in-Some.is c.in_ok-fault.ensures.wrong in
    root_wrong (form_in c.args.form.now) g.K.KeyOrder.is_key g.K.KeyOrder.is_value g.K.KeyOrder.cmp c.args.form.now.id tree (length c.args.node.now) c.args.total c.args.height c.args.root c.args.marks.now c.args.node.now at c.push_node.new.nodes.items c.args.level.now.ends.items c.in-Some.fault (as_found c.wrong_node.result)
    (subst (λ (l : List (List ℕ)). IsWrong g.K.KeyOrder.is_key g.K.KeyOrder.is_value g.K.KeyOrder.cmp (place_in (length c.args.node.now / 2 - 10) c.args.height (root ∷ []) 0) [] 0 c.args.node.now l c.in-Some.fault) c.requires.no_record
    (subst (λ (l : List (List ℕ)). IsWrong g.K.KeyOrder.is_key g.K.KeyOrder.is_value g.K.KeyOrder.cmp (place_in (length c.args.node.now / 2 - 10) c.args.height (root ∷ []) 0) l 0 c.args.node.now c.args.level.now.records c.in-Some.fault) c.new-names.ensures
    (subst (λ (b : List ℕ). IsWrong g.K.KeyOrder.is_key g.K.KeyOrder.is_value g.K.KeyOrder.cmp (place_in (length b / 2 - 10) c.args.height (root ∷ []) 0) c.new-names.result 0 c.args.node.now c.args.level.now.records c.in-Some.fault) c.bytes.ensures.value wrong)))
    (subst (λ (l : List ℕ). IsWrongNode c.args.form.now.id c.push_node.new.nodes.items c.args.level.now.ends.items l 0 c.in-Some.fault (as_found c.wrong_node.result)) nodes_are c.wrong_node.ensures)

pub returns-clause-right : goal.returns-clause-right
returns-clause-right g c tree at =
    let root : ℕ = c.args.root in
    let nodes_are : c.push_node.new.nodes.items ≡ root ∷ [] = c.in_ok-push_node.ensures ∙ ap (λ (l : List ℕ). l ++ root ∷ []) c.requires.no_node in
    let ends_are : c.push_end.new.ends.items ≡ length c.look_at.new.records ∷ [] =
    c.in_ok-push_end.ensures ∙ ap (λ (l : List ℕ). l ++ c.len.result ∷ []) c.requires.no_end ∙ ap (λ (n : ℕ). n ∷ []) c.len.ensures in
    let right : IsRight g.K.KeyOrder.is_key g.K.KeyOrder.is_value g.K.KeyOrder.cmp (record { most = length c.bytes.result.now / 2 - 10; height = c.args.height; next = 0; back = 0 }) c.new-names.result 0 c.args.node.now c.args.level.now.records c.look_at.new.records =
    none_is c.in_ok-fault.field-0 (IsRight g.K.KeyOrder.is_key g.K.KeyOrder.is_value g.K.KeyOrder.cmp (record { most = length c.bytes.result.now / 2 - 10; height = c.args.height; next = 0; back = 0 }) c.new-names.result 0 c.args.node.now c.args.level.now.records c.look_at.new.records) c.in_default.is c.in_ok-fault.ensures.right in
    subst (λ (l : List ℕ). StandsAt g.K.KeyOrder.is_key g.K.KeyOrder.is_value g.K.KeyOrder.cmp tree 0 c.mark.new.self l c.look_at.new.records c.push_end.new.ends.items) (sym nodes_are)
    (subst (λ (l : List ℕ). StandsAt g.K.KeyOrder.is_key g.K.KeyOrder.is_value g.K.KeyOrder.cmp tree 0 c.mark.new.self (root ∷ []) c.look_at.new.records l) (sym ends_are)
    (root_taken (form_in c.args.form.now) g.K.KeyOrder.is_key g.K.KeyOrder.is_value g.K.KeyOrder.cmp c.args.form.now.id tree (length c.args.node.now) c.args.total c.args.height c.args.root c.args.marks.now c.args.node.now at c.mark.new.self c.look_at.new.records c.if-root-total.false (not_true (get_or c.args.marks.now root true) (sym c.if-not-taken.false ∙ c.in_ok-taken.ensures.could))
    (c.in_ok-taken.ensures.marks ∙ ap (λ b. if b then set c.args.marks.now root true else c.args.marks.now) c.if-not-taken.false)
    (subst (λ (l : List (List ℕ)). IsRight g.K.KeyOrder.is_key g.K.KeyOrder.is_value g.K.KeyOrder.cmp (place_in (length c.args.node.now / 2 - 10) c.args.height (root ∷ []) 0) [] 0 c.args.node.now l c.look_at.new.records) c.requires.no_record
    (subst (λ (l : List (List ℕ)). IsRight g.K.KeyOrder.is_key g.K.KeyOrder.is_value g.K.KeyOrder.cmp (place_in (length c.args.node.now / 2 - 10) c.args.height (root ∷ []) 0) l 0 c.args.node.now c.args.level.now.records c.look_at.new.records) c.new-names.ensures
    (subst (λ (b : List ℕ). IsRight g.K.KeyOrder.is_key g.K.KeyOrder.is_value g.K.KeyOrder.cmp (place_in (length b / 2 - 10) c.args.height (root ∷ []) 0) c.new-names.result 0 c.args.node.now c.args.level.now.records c.look_at.new.records) c.bytes.ensures.value right)))))
