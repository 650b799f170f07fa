use Rattle.std.proofs.Common.{◌≡◌, ◌<◌, ℕ, ◌-◌, ◌*◌, min, List, [], ◌∷◌, length, map, sym, ◌∙◌, ap, arith}
use Rattle.std.specs.Prelude.{Contains, slice_index}
use Rattle.std.specs.List.{All, count_by, range_with_len}
use Rattle.btree_node.specs.Levels.{leaves}
use Rattle.btree_node.specs.TreeFile.{TreeFile}
use Rattle.hfs_volume.specs.Broken.{form_wants, levels_in, leaves_in, is_in_use, IsUnmet}
use Rattle.fsck_list.specs.declared.finding.Finding.{Finding}
use Rattle.fsck_scan.specs.Form.{as_found, form_in, head_in, want_of, FitsLeaves}
use Rattle.fsck_scan.specs.declared.form.Number.{Number}
use Rattle.fsck_scan.proofs.Numbers.{none_map, some_map, among_wants, in_first, in_last, in_records, in_free}
use Rattle.fsck_scan.proofs.form.judge_leaves.Goals as goal

none : Number
none = record { found = 0; wanted = 0 }

pub returns-clause-fits : goal.returns-clause-fits
returns-clause-fits c =
    let numbers : List Number = record { found = c.args.head.now.shape.first; wanted = c.node_at.result } ∷ record { found = c.args.head.now.shape.last; wanted = c.last_of.result } ∷ record { found = c.args.head.now.shape.leaf_records; wanted = c.args.records } ∷ record { found = c.args.head.now.shape.free; wanted = c.saturating_sub-free.result } ∷ [] in
    none_map c.first_wrong.result (All (λ number. number.found ≡ number.wanted) numbers) (FitsLeaves c.args.head.now c.args.leaves.now c.args.records (c.args.head.now.shape.total - c.args.used)) (λ all. record {
      first = all 0 none (omega arith) ∙ c.node_at.ensures;
      last = all 1 none (omega arith) ∙ c.last_of.ensures;
      leaf_records = all 2 none (omega arith);
      free = all 3 none (omega arith) ∙ c.saturating_sub-free.ensures;
    }) c.first_wrong.ensures.met

pub returns-clause-wrong : goal.returns-clause-wrong
returns-clause-wrong c =
    let numbers : List Number = record { found = c.args.head.now.shape.first; wanted = c.node_at.result } ∷ record { found = c.args.head.now.shape.last; wanted = c.last_of.result } ∷ record { found = c.args.head.now.shape.leaf_records; wanted = c.args.records } ∷ record { found = c.args.head.now.shape.free; wanted = c.saturating_sub-free.result } ∷ [] in
    some_map c.first_wrong.result (λ finding. IsUnmet 4 (as_found finding) (map (want_of c.args.form.now.id) numbers))
    (λ finding. (tree : TreeFile) → tree.head ≡ head_in c.args.head.now → leaves_in tree ≡ c.args.leaves.now → length (leaves tree.nodes tree.head.root (levels_in tree)) ≡ c.args.records → count_by (is_in_use tree) (range_with_len 0 tree.head.total) ≡ c.args.used → IsUnmet 4 (as_found finding) (form_wants (form_in c.args.form.now) c.args.form.now.id tree))
    (λ finding unmet tree is list records used. among_wants c.args.form.now.id numbers (form_wants (form_in c.args.form.now) c.args.form.now.id tree) (as_found finding)
    ((in_first c.args.form.now c.args.head.now tree is c.args.leaves.now c.node_at.result list c.node_at.ensures, (in_last c.args.form.now c.args.head.now tree is c.args.leaves.now c.last_of.result list c.last_of.ensures, (in_records c.args.form.now c.args.head.now tree is c.args.records records, (in_free c.args.form.now c.args.head.now tree is c.args.used c.saturating_sub-free.result used c.saturating_sub-free.ensures, tt))))) unmet) c.first_wrong.ensures.unmet
