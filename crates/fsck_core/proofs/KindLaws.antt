-- Records of a catalog, judged one by one.
use Rattle.std.proofs.Common.{◌≡◌, ◌⊎◌, ◌↔◌, ◌<◌, ◌≤◌, ℕ, ◌+◌, Bool, true, false, not, ◌||◌, ◌&&◌, ◌==◌, nat_lt, if◌then◌else◌, List, [], ◌∷◌, length, drop, inl, inr, refl, sym, ◌∙◌, subst, arith, ⊎_elim, T}
use Rattle.std.specs.Prelude.{Contains, All, IsTrue, slice_index_or}
use Rattle.std.proofs.lemmas.Bool.{cases_lt}
use Rattle.std.proofs.lemmas.List.{length-drop, length-map, get_or-map, get_or_default}
use Rattle.hx_bytes.specs.Field.{big_at}
use Rattle.btree_node.specs.Keys.{units, catalog_parent, catalog_units}
use Rattle.btree_node.specs.Levels.{Pair}
use Rattle.cat_records.specs.declared.record.CatRecord.TheVariants.{Folder, File, Thread}
use Rattle.cat_records.specs.Records.{is_catalog, catalog_of, entry_of, thread_of}
use Rattle.hx_bytes.specs.Fork.{fork_at}
use Rattle.hfs_volume.specs.Records.{Placed, placed_of, placed_in, is_thread, is_empty}
use Rattle.hfs_volume.specs.Entries.{AreSpelled}
use Rattle.hfs_volume.specs.Broken.{IsFailed, FailsKind}
use Rattle.hfs_volume.proofs.Members.{each_of, in_one, at_front}
use Rattle.fsck_list.specs.declared.finding.Finding.{Finding}
use Rattle.fsck_list.specs.Kept.{IsListed, Keeps}
use Rattle.fsck_core.specs.Wants.{as_found}
use Rattle.fsck_core.specs.Kinds.{IsOfKind}
use Rattle.fsck_core.proofs.WantLaws.{both_true, one_false}
use Rattle.fsck_core.proofs.RowLaws.{below_true, below_false, true_below, not_below}

-- what a record of this type is
pub kind_of_type : (bytes : List ℕ) → not ((big_at 2 bytes 0 == 1) || (big_at 2 bytes 0 == 2)) ≡ is_thread (catalog_of bytes)
kind_of_type bytes = at (big_at 2 bytes 0 == 1) (big_at 2 bytes 0 == 2)
  where
    at : (a b : Bool) → not (a || b) ≡ is_thread (if a then Folder (record { fields = entry_of bytes }) else if b then File (record { fields = entry_of bytes; data_fork = fork_at bytes 88; resource_fork = fork_at bytes 168 }) else Thread (thread_of bytes))
    at true b = refl
    at false true = refl
    at false false = refl

-- a name of no unit takes less than two bytes
pub no_units : (bytes : List ℕ) → is_empty (units bytes) ≡ nat_lt (length bytes) 2
no_units [] = refl
no_units (a ∷ []) = refl
no_units (a ∷ b ∷ rest) = sym (not_below (length (a ∷ b ∷ rest)) 2 (omega arith))

-- a key without a name has less than ten bytes
pub no_name : (key : List ℕ) → nat_lt (length key) 10 ≡ is_empty (catalog_units key)
no_name key = at (nat_lt (length key) 10) refl ∙ sym (no_units (drop 8 key))
  where
    at : (b : Bool) → nat_lt (length key) 10 ≡ b → nat_lt (length key) 10 ≡ nat_lt (length (drop 8 key)) 2
    at true is = is ∙ sym (true_below (length (drop 8 key)) 2 (let low = below_true (length key) 10 is in omega (arith, low, length-drop 8 key)))
    at false is = is ∙ by (nat_lt (length (drop 8 key)) 2) refl
      where
        by : (c : Bool) → nat_lt (length (drop 8 key)) 2 ≡ c → false ≡ nat_lt (length (drop 8 key)) 2
        by false less = sym less
        by true less = absurd (let low = below_true (length (drop 8 key)) 2 less in let high = below_false (length key) 10 is in omega (arith, low, high, length-drop 8 key))

-- what stands in a record's place
pub parent_is : (pair : Pair) → (placed_of pair).parent ≡ catalog_parent pair.0
unfolding placed_of
parent_is pair = refl

-- a record of a pair is of its kind
pub of_kind : (key value : List ℕ) → is_catalog value ≡ true → is_thread (catalog_of value) ≡ is_empty (catalog_units key) → IsOfKind (key, value)
unfolding placed_of
of_kind key value spelled kind = record { spelled = spelled; kind = kind }

pub kind_in : (key value : List ℕ) → IsOfKind (key, value) → is_thread (catalog_of value) ≡ is_empty (catalog_units key)
unfolding placed_of
kind_in key value is = is.kind

-- where it isn't, the rule fails there
pub kind_fails : (key value : List ℕ) → ¬ IsOfKind (key, value) → FailsKind ((key, value) ∷ []) (catalog_parent key)
kind_fails key value fails = ((key, value), at_front (key, value) [], parent_is (key, value), at (is_catalog value) refl)
  where
    at : (b : Bool) → is_catalog value ≡ b → (¬ AreSpelled ((key, value) ∷ [])) ⊎ (is_thread (placed_of (key, value)).value ≡ is_empty (placed_of (key, value)).name → ⊥)
    at true is = inr (λ kind. fails (record { spelled = is; kind = kind }))
    at false is = inl (λ all. subst T (sym (each_of (λ (p : Pair). IsTrue (is_catalog p.1)) ((key, value) ∷ []) all (key, value) (at_front (key, value) [])) ∙ is) tt)

abbrev pub pair_at : List Pair → ℕ → Pair
pair_at pairs k = slice_index_or pairs k ([], [])

-- one that fails alone fails among the others
pub fails_among : (pairs : List Pair) (k place : ℕ) → k < length pairs → FailsKind (pair_at pairs k ∷ []) place → FailsKind pairs place
fails_among pairs k place inside fails =
    let is : fails.0 ≡ pair_at pairs k = in_one (pair_at pairs k) fails.0 fails.1 in
    (fails.0, (k, inside, get_or_default pairs k fails.0 ([], []) inside ∙ sym is), fails.2, fails.3)

-- all are of their kinds
pub kinds_hold : (pairs : List Pair) → ((k : ℕ) → k < length pairs → IsOfKind (pair_at pairs k)) → AreSpelled pairs × All (λ (p : Placed). is_thread p.value ≡ is_empty p.name) (placed_in pairs)
kinds_hold pairs each = (
  (λ k d inside. subst (λ (p : Pair). IsTrue (is_catalog p.1)) (get_or_default pairs k ([], []) d inside) (each k inside).spelled),
  (λ k d inside.
      let within : k < length pairs = omega (arith, inside, length-map pairs placed_of) in
      subst (λ (p : Placed). is_thread p.value ≡ is_empty p.name) (sym (get_or-map placed_of pairs k ([], []) d within)) (each k within).kind),
)

pub kinds_at : (pairs : List Pair) → AreSpelled pairs → All (λ (p : Placed). is_thread p.value ≡ is_empty p.name) (placed_in pairs) → (k : ℕ) → k < length pairs → IsOfKind (pair_at pairs k)
kinds_at pairs spelled kinds k inside = record {
  spelled = spelled k ([], []) inside;
  kind = subst (λ (p : Placed). is_thread p.value ≡ is_empty p.name) (get_or-map placed_of pairs k ([], []) (placed_of ([], [])) inside) (kinds k (placed_of ([], [])) (omega (arith, inside, length-map pairs placed_of)));
}

-- whether all are
pub kinds_tell : (pairs : List Pair) (i : ℕ) (met : Bool) → length pairs ≤ i → (IsTrue met → (k : ℕ) → k < i → IsOfKind (pair_at pairs k)) → (met ≡ false → (k : ℕ) × (k < length pairs) × (¬ IsOfKind (pair_at pairs k)))
    → IsTrue met ↔ AreSpelled pairs × All (λ (p : Placed). is_thread p.value ≡ is_empty p.name) (placed_in pairs)
kinds_tell pairs i true whole each one = (λ is. kinds_hold pairs (λ k inside. each refl k (omega (arith, inside, whole))), λ both. refl)
kinds_tell pairs i false whole each one = (λ is. absurd (subst T (sym is) tt), λ both. let at = one refl in absurd (at.2 (kinds_at pairs both.0 both.1 at.0 at.1)))

-- up to one more
pub kinds_more : (pairs : List Pair) (k : ℕ) (one met both : Bool) → both ≡ (one && met) → IsTrue one ↔ IsOfKind (pair_at pairs k) → (IsTrue met → (i : ℕ) → i < k → IsOfKind (pair_at pairs i)) → IsTrue both → (i : ℕ) → i < k + 1 → IsOfKind (pair_at pairs i)
kinds_more pairs k one met both is here before holds i less =
    let parts = both_true one met (sym is ∙ holds) in
    ⊎_elim
    (λ (lower : i < k). before parts.1 i lower)
    (λ (high : k ≤ i). let same : k ≡ i = omega (arith, less, high) in subst (λ n. IsOfKind (pair_at pairs n)) same (here.0 parts.0))
    (cases_lt i k)

pub kind_missed : (pairs : List Pair) (k : ℕ) (one met both : Bool) → k < length pairs → both ≡ (one && met) → IsTrue one ↔ IsOfKind (pair_at pairs k) → (met ≡ false → (i : ℕ) × (i < length pairs) × (¬ IsOfKind (pair_at pairs i)))
    → both ≡ false → (i : ℕ) × (i < length pairs) × (¬ IsOfKind (pair_at pairs i))
kind_missed pairs k one met both inside is here before fails = ⊎_elim
    (λ (this : one ≡ false). (k, inside, λ holds. subst T (sym (here.1 holds) ∙ this) tt))
    (λ (earlier : met ≡ false). before earlier)
    (one_false one met (sym is ∙ fails))

pub found_more : (one met both : Bool) (old new : List Finding) → both ≡ (one && met) → (one ≡ false → 0 < length new) → (met ≡ false → 0 < length old) → (0 < length old → 0 < length new) → both ≡ false → 0 < length new
found_more one met both old new is here before still fails = ⊎_elim (λ (this : one ≡ false). here this) (λ (earlier : met ≡ false). still (before earlier)) (one_false one met (sym is ∙ fails))

-- findings that were there still are, though maybe others
pub still_some : (finding : Finding) (old new : List Finding) → Keeps finding old new → 0 < length new
still_some finding old new keeps = at keeps.listed
  where
    at : IsListed new finding → 0 < length new
    at (inl stands) = omega (arith, stands.1)
    at (inr full) = omega (arith, full.0)

-- what one record more adds
pub each_kind : (pairs : List Pair) (k : ℕ) (key value : List ℕ) (first old new : List Finding) → k < length pairs → (key, value) ≡ pair_at pairs k → All (λ (pair : Pair). 8 ≤ length pair.0) pairs
    → ((f : Finding) → Contains old f → Contains first f ⊎ IsFailed 8 (as_found f) (FailsKind pairs))
    → (8 ≤ length key → (f : Finding) → Contains new f → Contains old f ⊎ IsFailed 8 (as_found f) (FailsKind ((key, value) ∷ []))) → (f : Finding) → Contains new f → Contains first f ⊎ IsFailed 8 (as_found f) (FailsKind pairs)
each_kind pairs k key value first old new inside is long before here f stands = ⊎_elim
    (λ (earlier : Contains old f). before f earlier)
    (λ (fails : IsFailed 8 (as_found f) (FailsKind ((key, value) ∷ []))).
    inr (fails.0, fails.1, fails.2, fails_among pairs k f.place inside (subst (λ (p : Pair). FailsKind (p ∷ []) f.place) is fails.3)))
    (here (subst (λ (p : Pair). 8 ≤ length p.0) (sym is) (long k ([], []) inside)) f stands)
