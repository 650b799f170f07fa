-- The records of a fork read one by one.
use Rattle.std.proofs.Common.{◌≡◌, ℕ, zero, suc, ◌+◌, ◌-◌, ◌^◌, ◌<◌, ◌≤◌, List, [], ◌∷◌, ◌++◌, map, take, refl, sym, ◌∙◌, ap, subst, arith, append_assoc}
use Rattle.std.specs.Prelude.{Option, None, Some, IsTrue}
use Rattle.std.specs.List.{find, All}
use Rattle.std.specs.Option.{option_map}
use Rattle.std.proofs.lemmas.List.{map-append, append-nil}
use Rattle.btree_node.specs.Keys.{IsExtentKey, extent_cmp, is_eight_extents}
use Rattle.btree_node.specs.Levels.{Pair}
use Rattle.btree_node.specs.Store.{Store}
use Rattle.btree_node.specs.Tree.{IsTree, HasValues, pairs_of}
use Rattle.btree_edit.specs.Reading.{ReadsNodes}
use Rattle.btree_edit.proofs.Repeated.{reads_both}
use Rattle.hfs_model.specs.Sorted.{kept}
use Rattle.hfs_volume.specs.Records.{Overflow}
use Rattle.overflow.specs.Reading.{OnlyReads, is_behind, fork_records}
use Rattle.overflow.specs.Records.{under}
use Rattle.overflow.specs.declared.record.OverflowRecord.{OverflowRecord}
use Rattle.overflow.proofs.Costs.{pairs_read}
use Rattle.overflow.proofs.Finding.{Rising, next_behind, none_behind, fork_rises, tree_keys}
use Rattle.overflow.proofs.Pairs.{of_fork_in, tree_ascends}

pub reads_then : (a b c : Store) (n : ℕ) → OnlyReads a b → ReadsNodes n b c → OnlyReads a c
reads_then a b c n (m, first) second = (m + n, reads_both m n (m + n) first second (omega arith))

pub values_read : (a b : Store) → OnlyReads a b → IsTrue a.tells → a.shape.total < 2 ^ 32 → IsTree IsExtentKey extent_cmp a → HasValues is_eight_extents a → HasValues is_eight_extents b
values_read a b reads tells small tree values = subst (λ (l : List Pair). All (λ pair. is_eight_extents pair.1) l) (sym (pairs_read a b reads tells small tree)) values

pub records_read : (id kind : ℕ) (a b : Store) → OnlyReads a b → IsTrue a.tells → a.shape.total < 2 ^ 32 → IsTree IsExtentKey extent_cmp a → fork_records id kind b ≡ fork_records id kind a
records_read id kind a b reads tells small tree = ap (of_fork_in id kind) (pairs_read a b reads tells small tree)

pub tree_rises : (id kind : ℕ) (store : Store) → IsTree IsExtentKey extent_cmp store → Rising (fork_records id kind store)
tree_rises id kind store tree = fork_rises id kind (pairs_of store) (tree_ascends store tree) (tree_keys store tree)

none_left : (n : ℕ) → take {A = Overflow} n [] ≡ []
none_left zero = refl
none_left (suc n) = refl

pub none_if_not : {X : Type 0} (o : Option X) → ((x : X) → o ≡ Some x → ⊥) → o ≡ None
none_if_not None not_some = refl
none_if_not (Some x) not_some = absurd (not_some x refl)

module _ (id kind : ℕ) (records : List Overflow) where
  -- no record is left
  pub read_end : (n start : ℕ) (have : List OverflowRecord) (whole : List Overflow) (found : Option OverflowRecord) → found ≡ None → option_map (under id kind) found ≡ find (is_behind start) records
      → map (under id kind) have ++ take n (kept (is_behind start) records) ≡ whole → map (under id kind) have ≡ whole
  read_end n start have whole found none is so_far =
      sym (append-nil (map (under id kind) have))
      ∙ sym (ap (λ l. map (under id kind) have ++ l) (ap (take n) (none_behind start records (sym is ∙ ap (option_map (under id kind)) none)) ∙ none_left n))
      ∙ so_far

  -- so many were wanted
  pub read_full : (most counter start : ℕ) (have : List OverflowRecord) (whole : List Overflow) → most ≤ counter
      → map (under id kind) have ++ take (most - counter) (kept (is_behind start) records) ≡ whole → map (under id kind) have ≡ whole
  read_full most counter start have whole past so_far =
      sym (append-nil (map (under id kind) have)) ∙ ap (λ n. map (under id kind) have ++ take n (kept (is_behind start) records)) {x = 0} {y = most - counter} (omega (arith, past)) ∙ so_far

  -- one more is read
  pub read_one : (most counter start : ℕ) (have more : List OverflowRecord) (one : OverflowRecord) (whole : List Overflow) (found : Option OverflowRecord) → Rising records → counter < most → found ≡ Some one
      → option_map (under id kind) found ≡ find (is_behind start) records → more ≡ have ++ one ∷ []
      → map (under id kind) have ++ take (most - counter) (kept (is_behind start) records) ≡ whole → map (under id kind) more ++ take (most - (counter + 1)) (kept (is_behind one.start) records) ≡ whole
  read_one most counter start have more one whole found rises inside some is added so_far =
      let here = under id kind one in
      let next = next_behind start records here rises (sym is ∙ ap (option_map (under id kind)) some) in
      let left : most - counter ≡ suc (most - (counter + 1)) = omega (arith, inside) in
      ap (λ l. map (under id kind) l ++ take (most - (counter + 1)) (kept (is_behind one.start) records)) added
      ∙ ap (λ l. l ++ take (most - (counter + 1)) (kept (is_behind one.start) records)) (map-append (under id kind) have (one ∷ []))
      ∙ append_assoc (map (under id kind) have) (here ∷ []) (take (most - (counter + 1)) (kept (is_behind one.start) records))
      ∙ sym (ap (λ l. map (under id kind) have ++ take (most - counter) l) next ∙ ap (λ n. map (under id kind) have ++ take n (here ∷ kept (is_behind one.start) records)) left)
      ∙ so_far
