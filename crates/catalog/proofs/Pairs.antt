-- Pairs added to a sorted list.
use Rattle.std.proofs.Common.{◌≡◌, ◌≢◌, ◌⊎◌, ℕ, zero, suc, ◌+◌, ◌-◌, ◌<◌, ◌≤◌, List, [], ◌∷◌, length, inl, inr, refl, sym, ◌∙◌, ap, subst, arith}
use Rattle.std.specs.Prelude.{slice_index_or}
use Rattle.std.specs.List.{insert}
use Rattle.std.specs.declared.cmp.Ordering.{Ordering}
use Rattle.std.specs.declared.cmp.Ordering.TheVariants.{Equal}
use Rattle.std.proofs.lemmas.Bool.{cases_lt}
use Rattle.std.proofs.lemmas.List.Edits.{length-insert, get_or-insert_below, get_or-insert_at, get_or-insert_above}
use Rattle.btree_node.specs.Levels.{Pair}
use Rattle.btree_node.specs.Store.{Store}
use Rattle.btree_node.specs.Tree.{pairs_of}
use Rattle.btree_edit.specs.Answers.{AnswersInsert}
use Rattle.btree_edit.specs.Desk.{HasKey}
use Rattle.btree_edit.specs.Sorted.{AddsPair, InsertsPair}
use Rattle.btree_edit.specs.declared.edits.Inserted.{Inserted}
use Rattle.btree_edit.specs.declared.edits.Inserted.TheVariants as inserted

-- the key at a place
abbrev pub key_at : List Pair → ℕ → List ℕ
key_at pairs k = (slice_index_or pairs k ([], [])).0

-- a key that wasn't there isn't there beside another
pub not_beside : (cmp : List ℕ → List ℕ → Ordering) (key value other : List ℕ) (old new : List Pair) → AddsPair cmp key value old new → cmp key other ≢ Equal
    → (HasKey cmp other old → ⊥) → HasKey cmp other new → ⊥
not_beside cmp key value other old new adds apart absent (k, inside, equal) = elim (cases_lt k adds.place) [
  | inl below ↦ absent (k, omega (arith, below, adds.inside), here k (ap (λ (pair : Pair). pair.0) (get_or-insert_below old adds.place (key, value) ([], []) k below adds.inside)))
  | inr from ↦ elim (cases_lt adds.place k) [
    | inl above ↦
        let back : k - 1 + 1 ≡ k = omega (arith, above) in
        absent (
          k - 1,
          omega (arith, above, long, inside),
          here (k - 1) (ap (λ n. key_at (insert old adds.place (key, value)) n) (sym back) ∙ ap (λ (pair : Pair). pair.0) (get_or-insert_above old adds.place (key, value) ([], []) (k - 1) (omega (arith, above)) adds.inside)),
        )
    | inr most ↦
        let same : k ≡ adds.place = omega (arith, from, most) in
        apart (sym (ap (λ l. cmp l other) (ap (λ n. key_at new n) same ∙ ap (λ l. key_at l adds.place) adds.is ∙ ap (λ (pair : Pair). pair.0) (get_or-insert_at old adds.place (key, value) ([], []) adds.inside))) ∙ equal)
  ]
]
  where
    long : length new ≡ length old + 1
    long = ap (λ (l : List Pair). length l) adds.is ∙ length-insert old adds.place (key, value) adds.inside

    here : (m : ℕ) → key_at (insert old adds.place (key, value)) k ≡ key_at old m → cmp (key_at old m) other ≡ Equal
    here m same = sym (ap (λ l. cmp l other) (ap (λ l. key_at l k) adds.is ∙ same)) ∙ equal

-- an insert of a key that wasn't there is done
pub insert_is_done : (cmp : List ℕ → List ℕ → Ordering) (key value : List ℕ) (store : Store) (new : List Pair) (answer : Inserted) → (HasKey cmp key (pairs_of store) → ⊥)
    → AnswersInsert cmp key store answer → InsertsPair cmp key value (pairs_of store) new answer → AddsPair cmp key value (pairs_of store) new
insert_is_done cmp key value store new inserted.Exists absent answers inserts = absurd (absent answers)
insert_is_done cmp key value store new inserted.Done absent answers inserts = inserts
