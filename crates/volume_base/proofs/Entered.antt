-- The folder or file with a CNID is found by its thread.
use Rattle.std.proofs.Common.{◌≡◌, ◌⊎◌, ◌<◌, ◌≤◌, ℕ, zero, suc, ◌+◌, ◌*◌, ◌-◌, Bool, true, false, nat_le, List, [], ◌∷◌, length, map, drop, refl, sym, ◌∙◌, ap, subst, arith, inl, inr, eq-eqb, ⊎_elim}
use Rattle.std.specs.Prelude.{Contains, ◌==◌, nat_lt, slice_index_or, Option, None, Some, if◌then◌else◌}
use Rattle.std.specs.Option.{option_map}
use Rattle.std.specs.Str.{bytes_eq}
use Rattle.std.specs.declared.cmp.Ordering.{Ordering}
use Rattle.std.proofs.lemmas.Bool.Decides.{leb_tells}
use Rattle.std.proofs.lemmas.List.{get_or-map, length-map, length-drop}
use Rattle.std.proofs.lemmas.Slice.Eq.{bytes_eq-Decides}
use Rattle.btree_node.specs.Keys.{IsCatalogKey, catalog_units, units}
use Rattle.btree_node.specs.Levels.{Pair, pair_of, key_of, entries, level, leaves}
use Rattle.btree_node.specs.Store.{Store}
use Rattle.btree_node.specs.Tree.{IsTree, pairs_of}
use Rattle.cat_records.specs.declared.record.CatRecord.{CatRecord}
use Rattle.cat_records.specs.declared.record.CatRecord.TheVariants.{Folder, File, Thread}
use Rattle.cat_records.specs.declared.record.ThreadRecord.{ThreadRecord}
use Rattle.catalog.specs.Pairs.{value_at, thread_at}
use Rattle.hfs_volume.specs.Changes.{AreSorted}
use Rattle.hfs_volume.specs.Entries.{AreThreaded, HasThread}
use Rattle.hfs_volume.specs.Records.{Placed, placed_of, placed_in, entries_of, record_at, id_of}
use Rattle.hfs_volume.proofs.Members.{each_of}
use Rattle.hfs_volume.proofs.Sides.{entry_is_record}
use Rattle.volume_base.specs.Entering.{entry_told, entry_by_id}
use Rattle.volume_base.specs.declared.entries.Entry.{Entry}
use Rattle.volume_base.proofs.Identities.{key_found}

-- ---- names of a catalog's tree are short

-- the keys of the pairs are keys
pub keys_are : (is_key : List ℕ → Type 0) (cmp : List ℕ → List ℕ → Ordering) (store : Store) → IsTree is_key cmp store → (pair : Pair) → Contains (pairs_of store) pair → is_key pair.0
keys_are is_key cmp store tree pair stands = by_depth store.shape.depth refl stands
  where
    by_depth : (depth : ℕ) → store.shape.depth ≡ depth → Contains (leaves store.nodes store.shape.root depth) pair → is_key pair.0
    by_depth zero is has = absurd (omega (arith, has.1))
    by_depth (suc below) is has =
        let xs = entries store.nodes (level store.nodes store.shape.root below) in
        let low : has.0 < length (entries store.nodes (level store.nodes store.shape.root below)) = omega (arith, has.1, length-map (entries store.nodes (level store.nodes store.shape.root below)) pair_of) in
        subst is_key (ap (λ (p : Pair). p.0) (sym (get_or-map pair_of (entries store.nodes (level store.nodes store.shape.root below)) has.0 [] pair low) ∙ has.2)) (tree.levels.keys below has.0 (omega (arith, is)) low)

units_long : (bytes : List ℕ) → 2 * length (units bytes) ≤ length bytes
units_long [] = omega arith
units_long (high ∷ []) = omega arith
units_long (high ∷ low ∷ rest) = omega (arith, units_long rest)

short_key : (key : List ℕ) → IsCatalogKey key → length (catalog_units key) ≤ 255
short_key key is = omega (arith, units_long (drop 8 key), length-drop 8 key, is.size, is.name, is.most)

pub short_names : (pairs : List Pair) → ((pair : Pair) → Contains pairs pair → IsCatalogKey pair.0) → (e : Placed) → Contains (placed_in pairs) e → length e.name ≤ 255
unfolding placed_of
short_names pairs keys e has =
    let low : has.0 < length pairs = omega (arith, has.1, length-map pairs placed_of) in
    let pair : Pair = slice_index_or pairs has.0 ([], []) in
    subst (λ (p : Placed). length p.name ≤ 255) (sym (get_or-map placed_of pairs has.0 ([], []) e low) ∙ has.2)
    (short_key (slice_index_or pairs has.0 ([], [])).0 (keys (slice_index_or pairs has.0 ([], [])) (has.0, low, same pairs has.0 ([], []) (slice_index_or pairs has.0 ([], [])) low)))
  where
    same : (xs : List Pair) (k : ℕ) (d e : Pair) → k < length xs → slice_index_or xs k e ≡ slice_index_or xs k d
    same [] k d e low = absurd (omega (arith, low))
    same (x ∷ xs) zero d e low = refl
    same (x ∷ xs) (suc k) d e low = same xs k d e (omega (arith, low))

pub not_long : (n : ℕ) → n ≤ 255 → nat_lt 255 n ≡ false
not_long n low = ⊎_elim (λ (more : (nat_le 256 n ≡ true) × (256 ≤ n)). absurd (omega (arith, more.1, low))) (λ (less : (nat_le 256 n ≡ false) × (n < 256)). less.0) (leb_tells 256 n)

pub too_long : (n : ℕ) → 255 < n → nat_lt 255 n ≡ true
too_long n high = ⊎_elim (λ (more : (nat_le 256 n ≡ true) × (256 ≤ n)). more.0) (λ (less : (nat_le 256 n ≡ false) × (n < 256)). absurd (omega (arith, less.1, high))) (leb_tells 256 n)

-- ---- what is found

module _ (pairs : List Pair) (threads : AreThreaded pairs) (order : AreSorted pairs) where
  same_text : (name : List ℕ) → bytes_eq name name ≡ true
  same_text name = (bytes_eq-Decides name name).1 refl

  -- a record is found at its place
  pub at_place : (e : Placed) → Contains (placed_in pairs) e → record_at (placed_in pairs) e.parent e.name ≡ Some e
  at_place e stands = key_found pairs order e stands e.parent e.name (eq-eqb e.parent e.parent refl) (same_text e.name)

  -- the thread of an entry is found under its CNID
  thread_there : (e : Placed) → Contains (entries_of (placed_in pairs)) e → (t : ThreadRecord) × (thread_at pairs (id_of e) ≡ Some t) × (t.parent ≡ e.parent) × (t.name ≡ e.name)
  thread_there e stands =
      let it : HasThread (placed_in pairs) e = each_of (HasThread (placed_in pairs)) (entries_of (placed_in pairs)) threads.threaded e stands in
      let found : value_at pairs (id_of e) [] ≡ Some (Thread it.4) =
      ap (option_map (λ (p : Placed). p.value)) (key_found pairs order it.0 it.1 (id_of e) [] (eq-eqb it.0.parent (id_of e) it.2) (ap (λ (l : List ℕ). bytes_eq l []) it.3)) ∙ ap Some it.5 in
      (it.4, rw found refl, it.6.parent, it.6.name)

  module _ (short : (e : Placed) → Contains (placed_in pairs) e → length e.name ≤ 255) where
    -- the entry with a CNID is found
    pub entry_is : (e : Placed) → Contains (entries_of (placed_in pairs)) e → entry_by_id pairs (id_of e) ≡ Some (record { parent = e.parent; name = e.name; rec = e.value })
    entry_is e stands =
        let t = thread_there e stands in
        ap (entry_told pairs) t.1
        ∙ (λ i. if nat_lt 255 (length (t.3 i)) then None else option_map (λ (rec : CatRecord). placed_entry (t.2 i) (t.3 i) rec) (value_at pairs (t.2 i) (t.3 i)))
        ∙ ap (λ b. if b then None else option_map (λ (rec : CatRecord). placed_entry e.parent e.name rec) (value_at pairs e.parent e.name)) (not_long (length e.name) (short e (entry_is_record (placed_in pairs) e stands)))
        ∙ ap (λ (o : Option Placed). option_map (λ (rec : CatRecord). placed_entry e.parent e.name rec) (option_map (λ (p : Placed). p.value) o)) (at_place e (entry_is_record (placed_in pairs) e stands))
      where
        placed_entry : ℕ → List ℕ → CatRecord → Entry
        placed_entry parent name rec = record { parent = parent; name = name; rec = rec }
