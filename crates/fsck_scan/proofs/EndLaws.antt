-- At the end of a scan: where all numbers fit and each bit of the map is as its node is marked, the tree keeps its rules.
use Rattle.std.proofs.Common.{◌≡◌, ◌≢◌, ◌⊎◌, ◌<◌, ◌≤◌, ℕ, ◌-◌, ◌*◌, min, max, Bool, true, false, List, [], ◌∷◌, length, map, get_or, replicate, inl, inr, refl, sym, ◌∙◌, ap, subst, arith}
use Rattle.std.specs.Prelude.{Contains}
use Rattle.std.specs.List.{count_by, range_with_len}
use Rattle.std.specs.declared.cmp.Ordering.{Ordering}
use Rattle.flag_rows.specs.Bits.{bit_of, count_set}
use Rattle.btree_node.specs.Levels.{Nodes, leaves}
use Rattle.btree_node.specs.TreeFile.{TreeFile, TreeForm, file_of}
use Rattle.hfs_volume.specs.Broken.{Finding, Want, want, bit, node_place, levels_in, leaves_in, is_in_use, form_wants, map_wants, FailsMap, IsBrokenTree, KeepsRules, IsUnmet}
use Rattle.hfs_volume.proofs.Members.{map_stands}
use Rattle.hfs_volume.proofs.Wants.{met_each}
use Rattle.hfs_volume.proofs.BlockWants.{map_met_of, in_range, range_bounds, same_bits}
use Rattle.fsck_scan.specs.Form.{form_in, head_in, FitsForm, FitsRoot, FitsLeaves, IsWrongBit}
use Rattle.fsck_scan.specs.Map.{HasMapRead, IsNoMap}
use Rattle.fsck_scan.specs.Marks.{MarksAll}
use Rattle.fsck_scan.specs.Scan.{failure, HasScanned}
use Rattle.fsck_scan.specs.declared.form.Form.{Form}
use Rattle.fsck_scan.specs.declared.form.Head.{Head}
use Rattle.fsck_scan.proofs.ScanLaws.{all_good, all_ordered, maps_apart, scanned_none, used_is, used_count}

-- the tree with this header record in these nodes
abbrev pub scanned_tree : Head → Nodes → TreeFile
scanned_tree head nodes = file_of (head_in head) nodes

module _ (form : Form) (is_key is_value : List ℕ → Type 0) (cmp : List ℕ → List ℕ → Ordering) (head : Head) (nodes : Nodes) (marks : List Bool)
    (scanned : HasScanned is_key is_value cmp (scanned_tree head nodes) (levels_in (scanned_tree head nodes)) marks) where
  pub keeps_rules : FitsForm form head → FitsRoot head (levels_in (scanned_tree head nodes)) (length (scanned_tree head nodes).map)
      → FitsLeaves head (leaves_in (scanned_tree head nodes)) (length (leaves nodes head.shape.root (levels_in (scanned_tree head nodes)))) (head.shape.total - count_set marks)
      → ((n : ℕ) → n < 8 * length (scanned_tree head nodes).map → bit_of (scanned_tree head nodes).map n ≡ get_or marks n false) → KeepsRules (form_in form) is_key is_value cmp form.id (scanned_tree head nodes)
  keeps_rules fits root ends bits = record {
    numbers = met_each (form_wants (form_in form) form.id (scanned_tree head nodes)) (
      fits.attributes,
      (fits.max_key, (fits.depth, (root.depth, (root.root, (fits.size, (ends.first, (ends.last, (ends.leaf_records, (fits.total, (root.total, (ends.free ∙ ap (λ n. head.shape.total - n) (sym used), tt))))))))))),
    );
    header = scanned.header;
    map_nodes = scanned.maps;
    apart = maps_apart is_key is_value cmp (scanned_tree head nodes) (levels_in (scanned_tree head nodes)) marks scanned;
    good = λ j n less stands. all_good is_key is_value cmp (scanned_tree head nodes) j n marks scanned less stands;
    order = λ j k less inside. all_ordered is_key is_value cmp (scanned_tree head nodes) j k marks scanned less inside;
    map = map_met_of bit_want (range_with_len 0 (max head.shape.total (8 * length (scanned_tree head nodes).map))) (λ n stands.
        ap bit (bits n (omega (arith, (range_bounds 0 (max head.shape.total (8 * length (scanned_tree head nodes).map)) n stands).1, root.total)) ∙ used_is is_key is_value cmp (scanned_tree head nodes) n marks scanned));
  }
    where
      used : count_by (is_in_use (scanned_tree head nodes)) (range_with_len 0 head.shape.total) ≡ count_set marks
      used = used_count is_key is_value cmp (scanned_tree head nodes) marks scanned

      bit_want : ℕ → Want
      bit_want n = want (node_place form.id n) (bit (bit_of (scanned_tree head nodes).map n)) (bit (is_in_use (scanned_tree head nodes) n))

  -- a bit that isn't as its node is marked is an unmet number of rule 7
  pub bit_broken : (finding : Finding) → IsWrongBit form.id (scanned_tree head nodes).map marks finding → IsUnmet 7 finding (map_wants form.id (scanned_tree head nodes))
  bit_broken finding (n, inside, is, differ) =
      let used = used_is is_key is_value cmp (scanned_tree head nodes) n marks scanned in (
        ap (λ (f : Finding). f.rule) is,
        (λ same. differ (same_bits (bit_of (scanned_tree head nodes).map n) (get_or marks n false) (sym (ap (λ (f : Finding). f.found) is) ∙ same ∙ ap (λ (f : Finding). f.wanted) is))),
        subst (λ w. Contains (map_wants form.id (scanned_tree head nodes)) w)
            ((λ i. want (node_place form.id n) (bit (bit_of (scanned_tree head nodes).map n)) (bit (sym used i))) ∙ (λ i. want (sym is i).place (sym is i).found (sym is i).wanted))
            (map_stands (λ m. want (node_place form.id m) (bit (bit_of (scanned_tree head nodes).map m)) (bit (is_in_use (scanned_tree head nodes) m))) (range_with_len 0 (max head.shape.total (8 * length (scanned_tree head nodes).map))) n
            (in_range 0 (max head.shape.total (8 * length (scanned_tree head nodes).map)) n (omega arith) (omega (arith, inside)))),
      )

module _ (form : TreeForm) (is_key is_value : List ℕ → Type 0) (cmp : List ℕ → List ℕ → Ordering) (id : ℕ) (head : Head) (nodes : Nodes) where
  -- a header node that isn't one, or a map node that isn't one or comes twice
  pub map_broken : (n : ℕ) → IsNoMap nodes head.shape.total n → IsBrokenTree form is_key is_value cmp id (scanned_tree head nodes) (failure 5 (node_place id n))
  map_broken n no_map = inr (inl (refl, refl, refl, inl (fails no_map)))
    where
      fails : IsNoMap nodes head.shape.total n → FailsMap id (scanned_tree head nodes) (node_place id n)
      fails (inl (is, bad)) = inl (ap (node_place id) is, bad)
      fails (inr (inl (stands, bad))) = inr (inl (n, stands, refl, bad))
      fails (inr (inr (i, j, less, inside, is, same))) = inr (inr (i, j, less, inside, ap (node_place id) is, same))

  -- where the map was read, the scan begins at the root
  pub begins : (old new : List Bool) (bits : List ℕ) → old ≡ replicate (length new) false → length new ≤ head.shape.total → HasMapRead nodes head.shape.node_size head.shape.total old new bits
      → HasScanned is_key is_value cmp (scanned_tree head nodes) 0 new × (bits ≡ (scanned_tree head nodes).map)
  begins old new bits none fits read =
      (scanned_none is_key is_value cmp (scanned_tree head nodes) new fits read.header read.each (subst (λ l. MarksAll (0 ∷ (scanned_tree head nodes).chain) l new) none read.marks), read.bits_are)
