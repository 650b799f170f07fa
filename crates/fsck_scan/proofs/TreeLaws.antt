-- A tree that was scanned without a finding is a tree in its file, and one that is has no finding.
use Rattle.std.proofs.Common.{◌≡◌, ◌⊎◌, ◌<◌, ◌≤◌, ℕ, ◌+◌, ◌-◌, ◌*◌, ◌/◌, List, [], length, inl, inr, sym, ◌∙◌, ap, subst, arith}
use Rattle.std.specs.Prelude.{Contains}
use Rattle.std.specs.declared.cmp.Ordering.{Ordering}
use Rattle.jnl_format.specs.Recovery.{Content}
use Rattle.hx_bytes.specs.Field.{big_at}
use Rattle.btree_node.specs.TreeFile.{TreeForm, TreeFile, IsTreeFile}
use Rattle.hfs_volume.specs.Content.{tree_of_fork}
use Rattle.hfs_volume.specs.Broken.{Finding, IsBrokenTree}
use Rattle.hfs_volume.specs.Findings.{HasBytes}
use Rattle.hfs_volume.proofs.Files.{tree_sizes, tree_bytes}
use Rattle.hfs_volume.proofs.TreeWants.{tree_holds}
use Rattle.hfs_volume.proofs.TreeUnbroken.{tree_is_unbroken}
use Rattle.fsck_list.specs.declared.finding.Finding as listed
use Rattle.fsck_list.specs.Kept.{IsListed, Keeps}
use Rattle.fsck_scan.specs.Form.{as_found}
use Rattle.fsck_scan.specs.Scan.{IsScanned}

-- a finding that is listed stands in a list that isn't empty
pub some_listed : (list : List listed.Finding) (finding : listed.Finding) → IsListed list finding → 0 < length list
some_listed list finding (inl stands) = omega (arith, stands.1)
some_listed list finding (inr full) = omega (arith, full.0)

-- what stands in a list that got one finding more is that finding, or stood there
pub one_more : (P : Finding → Type 0) (old new : List listed.Finding) (finding other : listed.Finding) → Keeps finding old new → P (as_found finding) → Contains new other → Contains old other ⊎ P (as_found other)
one_more P old new finding other keeps holds stands = by (keeps.from other stands)
  where
    by : (other ≡ finding) ⊎ Contains old other → Contains old other ⊎ P (as_found other)
    by (inl is) = inr (subst (λ (f : listed.Finding). P (as_found f)) (sym is) holds)
    by (inr before) = inl before

module _ (form : TreeForm) (is_key is_value : List ℕ → Type 0) (cmp : List ℕ → List ℕ → Ordering) (id most : ℕ) (key_length : (key : List ℕ) → is_key key → length key ≡ big_at 2 key 0 + 2)
    (key_most : (key : List ℕ) → is_key key → length key ≤ most + 2) (order : 2 * (most + 16) ≤ form.least_node) where
  pub scanned_file : (content : Content) (limit : ℕ) (sectors : List ℕ) (records : List (List ℕ)) → HasBytes content → IsScanned form is_key is_value cmp id (tree_of_fork content limit sectors) records
      → IsTreeFile form is_key is_value cmp (tree_of_fork content limit sectors)
  scanned_file content limit sectors records bytes scanned =
      tree_holds form is_key is_value cmp id (tree_of_fork content limit sectors) scanned.keeps (tree_sizes content limit sectors) (tree_bytes content limit sectors bytes)
      (λ key. let none : 0 ≡ big_at 2 [] 0 + 2 = key_length [] key in omega (arith, none))

  pub not_broken : (tree : TreeFile) (finding : Finding) → IsTreeFile form is_key is_value cmp tree → IsBrokenTree form is_key is_value cmp id tree finding → ⊥
  not_broken tree finding is broken =
      tree_is_unbroken form is_key is_value cmp id tree is (λ key is_one. omega (arith, key_length key is_one)) key_length (λ key is_one. omega (arith, key_most key is_one, order)) finding broken
