-- A leaf whose records are counted anew: it is a node of the same size, with each record counted anew.
use Rattle.std.proofs.Common.{◌≡◌, ◌<◌, ◌≤◌, ℕ, zero, suc, ◌+◌, List, [], ◌++◌, length, map, get_or, fold, ext_get_or, refl, sym, ◌∙◌, ap, subst, arith, inl, inr}
use Rattle.std.specs.Prelude.{slice_range}
use Rattle.std.specs.List.{range_with_len}
use Rattle.std.proofs.lemmas.Bool.{cases_eq}
use Rattle.std.proofs.lemmas.List.{length-map, length-set, get_or-set_same, get_or-set_other, get_or-map}
use Rattle.btree_node.specs.Bytes.{OverwritesRecord}
use Rattle.btree_node.specs.Levels.{key_of, value_of, pair_of}
use Rattle.btree_node.specs.Node.{IsNode, items, offset, record_count}
use Rattle.btree_node.proofs.Items.{item-is, length-items}
use Rattle.btree_node.proofs.Overwriting.{ends_at, overwrites_record}
use Rattle.hfs_volume.specs.Records.{Placed, placed_of}
use Rattle.volume_repair.specs.Recount.{value_recounted}
use Rattle.volume_repair.specs.Repair.{record_mended, leaf_mended}

-- a record of the catalog with its value counted anew
abbrev pub item_mended : List Placed → List ℕ → List ℕ
item_mended records item = key_of item ++ value_recounted records (placed_of (pair_of item)) (value_of item)

module _ (records : List Placed) (node : List ℕ) (is_node : IsNode node) (same : (i : ℕ) → i < record_count node → length (item_mended records (get_or (items node) i [])) ≡ length (get_or (items node) i [])) where
  abbrev count : ℕ
  count = record_count node

  abbrev old : ℕ → List ℕ
  old k = get_or (items node) k []

  -- the node with its first records counted anew
  pub record IsSoFar (i : ℕ) (now : List ℕ) : Type 0 where
    pub cut : IsNode now
    pub size : length now ≡ length node
    pub many : record_count now ≡ count
    pub done : (k : ℕ) → k < i → k < count → get_or (items now) k [] ≡ item_mended records (old k)
    pub rest : (k : ℕ) → i ≤ k → k < count → get_or (items now) k [] ≡ old k

  begun : IsSoFar 0 node
  begun = record { cut = is_node; size = refl; many = refl; done = λ k below inside. absurd (omega (arith, below)); rest = λ k from inside. refl }

  one_more : (i : ℕ) (now : List ℕ) → i < count → IsSoFar i now → IsSoFar (i + 1) (record_mended records now i)
  one_more i now inside far = record {
    cut = over.well_formed;
    size = over.head.size ∙ far.size;
    many = sym (length-items new) ∙ ap length over.items ∙ length-set (items now) i bytes ∙ length-items now ∙ far.many;
    done = λ k below low. elim (cases_eq k i) [
      | inl here ↦ ap (λ n. get_or (items new) n []) here ∙ ap (λ l. get_or l i []) over.items ∙ get_or-set_same (items now) i bytes [] there ∙ ap (item_mended records) item_is ∙ ap (λ n. item_mended records (old n)) (sym here)
      | inr other ↦ ap (λ l. get_or l k []) over.items ∙ get_or-set_other (items now) i k bytes [] (omega (arith, other)) ∙ far.done k (omega (arith, below, other)) low
    ];
    rest = λ k from low. ap (λ l. get_or l k []) over.items ∙ get_or-set_other (items now) i k bytes [] (omega (arith, from)) ∙ far.rest k (omega (arith, from)) low;
  }
    where
      item : List ℕ
      item = slice_range now (offset now i) (offset now (i + 1))

      bytes : List ℕ
      bytes = item_mended records item

      new : List ℕ
      new = record_mended records now i

      below : i < record_count now
      below = omega (arith, inside, far.many)

      there : i < length (items now)
      there = omega (arith, below, length-items now)

      item_is : item ≡ old i
      item_is = sym (item-is now i below) ∙ far.rest i (omega arith) inside

      long : length bytes ≡ length (get_or (items now) i [])
      long = ap (λ l. length (item_mended records l)) item_is ∙ same i inside ∙ ap length (sym (far.rest i (omega arith) inside))

      over : OverwritesRecord i bytes now new
      over = overwrites_record i bytes now new far.cut below (ends_at now i (length bytes) far.cut there long) refl

  all_done : (i d : ℕ) (now : List ℕ) → i + d ≡ count → IsSoFar i now → IsSoFar count (fold (record_mended records) now (range_with_len i d))
  all_done i zero now ends far = subst (λ n. IsSoFar n now) (let last : i ≡ count = omega (arith, ends) in last) far
  all_done i (suc d) now ends far = all_done (i + 1) d (record_mended records now i) (omega (arith, ends)) (one_more i now (omega (arith, ends)) far)

  pub is_mended : IsSoFar count (leaf_mended records node)
  unfolding leaf_mended
  is_mended = all_done 0 count node (omega arith) begun

  pub items_mended : items (leaf_mended records node) ≡ map (item_mended records) (items node)
  items_mended = ext_get_or [] (items (leaf_mended records node)) (map (item_mended records) (items node)) (length-items (leaf_mended records node) ∙ is_mended.many ∙ sym (length-items node) ∙ sym (length-map (items node) (item_mended records)))
      (λ k low.
      let inside : k < count = omega (arith, low, length-items (leaf_mended records node), is_mended.many) in
      is_mended.done k inside inside ∙ sym (get_or-map (item_mended records) (items node) k [] [] (omega (arith, inside, length-items node))))
