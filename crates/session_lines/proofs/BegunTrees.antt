-- The tree of a sound content whose keeping folder is the sessions' own.
use Rattle.std.proofs.Common.{◌≡◌, ◌<◌, ◌^◌, ℕ, Bool, true, false, List, [], ◌∷◌, refl, sym, ◌∙◌, ap, subst, arith, ⊎_elim}
use Rattle.std.specs.Prelude.{Contains, ◌||◌, not, Option, Some, None}
use Rattle.std.specs.List.{list_any}
use Rattle.std.proofs.lemmas.Bool.{eqb-true, true≢false}
use Rattle.hx_bytes.proofs.Laws.{number_at-fits}
use Rattle.hx_bytes.specs.declared.fields.Order.TheVariants.{Big}
use Rattle.sector_disk.specs.Lists.{sector}
use Rattle.jnl_format.specs.Recovery.{Content}
use Rattle.hfs_model.specs.Plain.{is_at, is_node, node_at}
use Rattle.hfs_model.specs.Sorted.{kept}
use Rattle.hfs_model.specs.declared.plain.PlainEntry.{PlainEntry}
use Rattle.hfs_model.specs.declared.plain.PlainNode.{PlainNode}
use Rattle.hfs_model.specs.declared.plain.PlainTree.{PlainTree}
use Rattle.hfs_volume.specs.Books.{IsGivenTree}
use Rattle.hfs_volume.specs.Content.{volume_of}
use Rattle.hfs_volume.specs.Findings.{HasBytes}
use Rattle.hfs_volume.specs.TreeOf.{tree_in, tree_of}
use Rattle.hfs_volume.proofs.Flat.{found_some}
use Rattle.hfs_volume.proofs.Members.{first_or_later}
use Rattle.open_files.specs.Keeping.{is_own, is_taken, is_taken_by, keepers, keeping_entry, keeping_name, stands_in}
use Rattle.session_lines.specs.Owning.{IsOwnTree}
use Rattle.session_lines.proofs.Places.{stands_at}

-- the next id is a number of four bytes
pub next_low : (content : Content) → HasBytes content → (tree_of content).next_id < 2 ^ 32
unfolding tree_in tree_of volume_of
next_low content bytes = number_at-fits Big 4 64 (sector content 2) (bytes 2)

few_ids : (content : Content) → HasBytes content → (tree_of content).next_id < 2 ^ 64
few_ids content bytes = omega (arith, next_low content bytes)

none_of : {X : Type 0} (p : X → Bool) (xs : List X) (x : X) → list_any p xs ≡ false → Contains xs x → p x ≡ false
none_of p [] x none stands = absurd (omega (arith, stands.1))
none_of {X} p (y ∷ ys) x none stands =
    let both = neither (p y) (list_any p ys) none in
    ⊎_elim (λ (same : x ≡ y). ap p same ∙ both.0) (λ later. none_of p ys x both.1 later) (first_or_later y x ys stands)
  where
    neither : (a b : Bool) → (a || b) ≡ false → (a ≡ false) × (b ≡ false)
    neither true b is = absurd (true≢false is)
    neither false b is = (refl, is)

module _ (content : Content) (given : IsGivenTree (tree_of content)) (bytes : HasBytes content) (own : is_taken (tree_of content) ≡ false) where
  abbrev tree : PlainTree
  tree = tree_of content

  drawn_id : (id : ℕ) (node : PlainNode) → node_at tree id ≡ Some node → id < tree.next_id
  drawn_id id node found =
      let it = found_some (is_node id) tree.nodes node found in
      omega (arith, given.given node it.0, eqb-true node.id id it.1)

  taken_is : (o : Option PlainEntry) → keeping_entry tree ≡ o → is_taken_by tree o ≡ false
  taken_is o is = sym (ap (is_taken_by tree) is) ∙ own

  of_folder : (folder : PlainEntry) → keeping_entry tree ≡ Some folder → (folder.folder ≡ true) × (list_any (λ (keeper : PlainEntry). not (is_own keeper)) (keepers tree) ≡ false)
  of_folder folder found = both folder.folder (list_any (λ (keeper : PlainEntry). not (is_own keeper)) (keepers tree)) (taken_is (Some folder) found)
    where
      both : (a b : Bool) → (not a || b) ≡ false → (a ≡ true) × (b ≡ false)
      both true b is = (refl, is)
      both false b is = absurd (true≢false is)

  owned : (entry : PlainEntry) (o : Option PlainEntry) → keeping_entry tree ≡ o → Contains (keepers tree) entry → is_own entry ≡ true
  owned entry None none there = absurd (nothing tree.entries (subst (λ (o : Option PlainEntry). Contains (kept (stands_in o) tree.entries) entry) none there))
    where
      empty : (entries : List PlainEntry) → kept (stands_in None) entries ≡ []
      empty [] = refl
      empty (one ∷ more) = empty more

      nothing : (entries : List PlainEntry) → Contains (kept (stands_in None) entries) entry → ⊥
      nothing entries stands = let none_there : Contains [] entry = subst (λ (l : List PlainEntry). Contains l entry) (empty entries) stands in absurd (omega (arith, none_there.1))
  owned entry (Some folder) found there = is_so (is_own entry) (none_of (λ (keeper : PlainEntry). not (is_own keeper)) (keepers tree) entry (of_folder folder found).1 there)
    where
      is_so : (b : Bool) → not b ≡ false → b ≡ true
      is_so true is = refl
      is_so false is = absurd (true≢false is)

  pub own_begun : IsOwnTree tree
  own_begun = record {
    plain = given.plain;
    drawn = λ entry stands. let it = given.plain.named entry stands in (drawn_id entry.id it.named.0 it.named.1, drawn_id entry.parent it.parent.0 it.parent.1);
    root_drawn = drawn_id 2 given.plain.root.0 given.plain.root.1;
    few = few_ids content bytes;
    folder = λ entry stands at. (of_folder entry (stands_at tree given.plain.entries_sorted 2 keeping_name entry stands at)).0;
    own = λ entry there. owned entry (keeping_entry tree) refl there;
  }
