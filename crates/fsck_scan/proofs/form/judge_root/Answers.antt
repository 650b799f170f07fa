use Rattle.std.proofs.Common.{◌≡◌, ◌<◌, ℕ, ◌-◌, ◌*◌, min, List, [], ◌∷◌, length, map, sym, ◌∙◌, ap, arith}
use Rattle.std.specs.Prelude.{Contains, slice_index}
use Rattle.std.specs.List.{All, count_by, range_with_len}
use Rattle.btree_node.specs.Levels.{leaves}
use Rattle.btree_node.specs.TreeFile.{TreeFile}
use Rattle.hfs_volume.specs.Broken.{form_wants, levels_in, leaves_in, is_in_use, IsUnmet}
use Rattle.fsck_list.specs.declared.finding.Finding.{Finding}
use Rattle.fsck_scan.specs.Form.{as_found, form_in, head_in, want_of, FitsRoot}
use Rattle.fsck_scan.specs.declared.form.Number.{Number}
use Rattle.fsck_scan.proofs.Numbers.{none_map, some_map, among_wants, in_bits, in_levels, in_root}
use Rattle.fsck_scan.proofs.form.judge_root.Goals as goal

none : Number
none = record { found = 0; wanted = 0 }

pub returns-clause-fits : goal.returns-clause-fits
returns-clause-fits c =
    let numbers : List Number = record { found = c.args.head.now.shape.total; wanted = c.min.result } ∷ record { found = c.args.head.now.shape.depth; wanted = c.args.height } ∷ record { found = c.args.head.now.shape.root; wanted = c.root_wanted.result } ∷ [] in
    let bits : c.min.result ≡ min c.args.head.now.shape.total (8 * c.args.bytes) = c.min.ensures ∙ ap (min c.args.head.now.shape.total) (let is : c.args.bytes * 8 ≡ 8 * c.args.bytes = omega arith in is) in
    none_map c.first_wrong.result (All (λ number. number.found ≡ number.wanted) numbers) (FitsRoot c.args.head.now c.args.height c.args.bytes) (λ all. record {
      total = all 0 none (omega arith) ∙ bits;
      depth = all 1 none (omega arith);
      root = all 2 none (omega arith) ∙ c.root_wanted.ensures;
    }) c.first_wrong.ensures.met

pub returns-clause-wrong : goal.returns-clause-wrong
returns-clause-wrong c =
    let numbers : List Number = record { found = c.args.head.now.shape.total; wanted = c.min.result } ∷ record { found = c.args.head.now.shape.depth; wanted = c.args.height } ∷ record { found = c.args.head.now.shape.root; wanted = c.root_wanted.result } ∷ [] in
    let bits : c.min.result ≡ min c.args.head.now.shape.total (8 * c.args.bytes) = c.min.ensures ∙ ap (min c.args.head.now.shape.total) (let is : c.args.bytes * 8 ≡ 8 * c.args.bytes = omega arith in is) in
    some_map c.first_wrong.result (λ finding. IsUnmet 4 (as_found finding) (map (want_of c.args.form.now.id) numbers))
    (λ finding. (tree : TreeFile) → tree.head ≡ head_in c.args.head.now → levels_in tree ≡ c.args.height → length tree.map ≡ c.args.bytes → IsUnmet 4 (as_found finding) (form_wants (form_in c.args.form.now) c.args.form.now.id tree))
    (λ finding unmet tree is levels bytes. among_wants c.args.form.now.id numbers (form_wants (form_in c.args.form.now) c.args.form.now.id tree) (as_found finding)
    ((in_bits c.args.form.now c.args.head.now tree is c.args.bytes c.min.result bytes bits, (in_levels c.args.form.now c.args.head.now tree is c.args.height levels, (in_root c.args.form.now c.args.head.now tree is c.args.height c.root_wanted.result levels c.root_wanted.ensures, tt)))) unmet) c.first_wrong.ensures.unmet
