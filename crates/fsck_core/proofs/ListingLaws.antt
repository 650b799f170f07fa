-- Entries read as rows, pair by pair.
use Rattle.std.proofs.Common.{◌≡◌, ◌<◌, ℕ, ◌+◌, Bool, true, false, not, List, [], ◌∷◌, ◌++◌, length, take, refl, sym, ◌∙◌, ap, if◌then◌else◌, append-nil}
use Rattle.std.specs.Prelude.{Option, Some, None}
use Rattle.std.proofs.lemmas.List.{take_more, map-append}
use Rattle.std.proofs.lemmas.List.Concat.{flat_map-append}
use Rattle.btree_node.specs.Levels.{Pair}
use Rattle.btree_node.specs.Keys.{catalog_parent, catalog_units}
use Rattle.cat_records.specs.Records.{catalog_of}
use Rattle.cat_records.specs.declared.record.CatRecord.{CatRecord}
use Rattle.hfs_volume.specs.Records.{Placed, placed_of, placed_in, entries_of, is_empty}
use Rattle.fsck_core.specs.Kinds.{row_in, some_of}
use Rattle.fsck_core.specs.Rows.{row_of, rows_of}
use Rattle.fsck_core.specs.declared.rows.Row.{Row}
use Rattle.fsck_core.proofs.KindLaws.{pair_at}

-- a pair whose key has no name has no row
pub no_row_in : (key value : List ℕ) → is_empty (catalog_units key) ≡ true → None ≡ row_in (placed_of (key, value))
unfolding placed_of
no_row_in key value is = sym (ap (λ b. if b then None else Some (row_of (placed_of (key, value)))) is)

-- another has one
pub row_is : (key value : List ℕ) (parent : ℕ) (rec : CatRecord) (row : Row) → is_empty (catalog_units key) ≡ false → parent ≡ catalog_parent key → rec ≡ catalog_of value → row ≡ row_of (record { parent = parent; name = []; value = rec })
    → Some row ≡ row_in (placed_of (key, value))
unfolding placed_of
row_is key value parent rec row named parent_is rec_is is =
    ap Some (is ∙ (λ i. row_of (record { parent = parent_is i; name = []; value = rec_is i }))) ∙ sym (ap (λ b. if b then None else Some (row_of (placed_of (key, value)))) named)

-- one pair more
pub rows_more : (pairs : List Pair) (k : ℕ) (old new : List Row) (row : Option Row) → k < length pairs → old ≡ rows_of (entries_of (placed_in (take k pairs))) → row ≡ row_in (placed_of (pair_at pairs k)) → new ≡ old ++ some_of row
    → new ≡ rows_of (entries_of (placed_in (take (k + 1) pairs)))
rows_more pairs k old new row inside was row_is is =
    let here : Placed = placed_of (pair_at pairs k) in
    let front : List Placed = placed_in (take k pairs) in
    is ∙ ap (λ l. l ++ some_of row) was ∙ ap (λ o. rows_of (entries_of front) ++ some_of o) row_is ∙ ap (λ l. rows_of (entries_of front) ++ l) (at (is_empty here.name))
    ∙ sym (map-append row_of (entries_of front) (if not (is_empty here.name) then here ∷ [] else []))
    ∙ ap rows_of (ap (λ l. entries_of front ++ l) (sym (append-nil (if not (is_empty here.name) then here ∷ [] else []))) ∙ sym (flat_map-append (λ (p : Placed). if not (is_empty p.name) then p ∷ [] else []) front (here ∷ [])))
    ∙ ap (λ l. rows_of (entries_of l)) (sym (map-append placed_of (take k pairs) (pair_at pairs k ∷ [])) ∙ ap placed_in (sym (take_more pairs k ([], []) inside)))
  where
    at : (b : Bool) → some_of (if b then None else Some (row_of (placed_of (pair_at pairs k)))) ≡ rows_of (if not b then placed_of (pair_at pairs k) ∷ [] else [])
    at true = refl
    at false = refl
