use Rattle.std.proofs.Common.{◌≡◌, ◌<◌, ℕ, ◌-◌, ◌*◌, min, List, [], ◌∷◌, length, map, sym, ◌∙◌, ap, arith}
use Rattle.std.specs.Prelude.{Contains, slice_index}
use Rattle.std.specs.List.{All, count_by, range_with_len}
use Rattle.btree_node.specs.Levels.{leaves}
use Rattle.btree_node.specs.TreeFile.{TreeFile}
use Rattle.hfs_volume.specs.Broken.{form_wants, levels_in, leaves_in, is_in_use, IsUnmet}
use Rattle.fsck_list.specs.declared.finding.Finding.{Finding}
use Rattle.fsck_scan.specs.Form.{as_found, form_in, head_in, want_of, FitsForm}
use Rattle.fsck_scan.specs.declared.form.Number.{Number}
use Rattle.fsck_scan.proofs.Numbers.{none_map, some_map, among_wants, in_size, in_attributes, in_max_key, in_total, in_depth}
use Rattle.fsck_scan.proofs.form.judge_head.Goals as goal

none : Number
none = record { found = 0; wanted = 0 }

pub returns-clause-fits : goal.returns-clause-fits
returns-clause-fits c =
    let numbers : List Number = record { found = c.args.head.now.shape.node_size; wanted = c.size_wanted-wanted.result } ∷ record { found = c.args.head.now.attributes; wanted = c.args.form.now.attributes } ∷ record { found = c.args.head.now.max_key; wanted = c.args.form.now.max_key } ∷ record { found = c.args.head.now.shape.total; wanted = c.max.result } ∷ record { found = c.args.head.now.shape.depth; wanted = c.min.result } ∷ [] in
    none_map c.first_wrong.result (All (λ number. number.found ≡ number.wanted) numbers) (FitsForm c.args.form.now c.args.head.now) (λ all. record {
      size = all 0 none (omega arith) ∙ c.size_wanted-wanted.ensures;
      attributes = all 1 none (omega arith);
      max_key = all 2 none (omega arith);
      total = all 3 none (omega arith) ∙ c.max.ensures;
      depth = all 4 none (omega arith) ∙ c.min.ensures;
    }) c.first_wrong.ensures.met

pub returns-clause-wrong : goal.returns-clause-wrong
returns-clause-wrong c =
    let numbers : List Number = record { found = c.args.head.now.shape.node_size; wanted = c.size_wanted-wanted.result } ∷ record { found = c.args.head.now.attributes; wanted = c.args.form.now.attributes } ∷ record { found = c.args.head.now.max_key; wanted = c.args.form.now.max_key } ∷ record { found = c.args.head.now.shape.total; wanted = c.max.result } ∷ record { found = c.args.head.now.shape.depth; wanted = c.min.result } ∷ [] in
    some_map c.first_wrong.result (λ finding. IsUnmet 4 (as_found finding) (map (want_of c.args.form.now.id) numbers))
    (λ finding. (tree : TreeFile) → tree.head ≡ head_in c.args.head.now → IsUnmet 4 (as_found finding) (form_wants (form_in c.args.form.now) c.args.form.now.id tree))
    (λ finding unmet tree is. among_wants c.args.form.now.id numbers (form_wants (form_in c.args.form.now) c.args.form.now.id tree) (as_found finding)
    ((in_size c.args.form.now c.args.head.now tree is c.size_wanted-wanted.result c.size_wanted-wanted.ensures, (in_attributes c.args.form.now c.args.head.now tree is, (in_max_key c.args.form.now c.args.head.now tree is, (in_total c.args.form.now c.args.head.now tree is c.max.result c.max.ensures, (in_depth c.args.form.now c.args.head.now tree is c.min.result c.min.ensures, tt)))))) unmet) c.first_wrong.ensures.unmet
