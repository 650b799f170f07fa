-- A fork stored: what its changes are, and what they need and take.
use Rattle.std.proofs.Common.{◌≡◌, ◌⊎◌, ℕ, ◌+◌, ◌*◌, ◌/◌, ◌≤◌, Bool, true, false, List, [], ◌∷◌, ◌++◌, length, map, inl, inr, refl, sym, ◌∙◌, ap, subst, arith}
use Rattle.std.specs.Prelude.{IsTrue, ◌==◌, not, if◌then◌else◌}
use Rattle.std.specs.List.{range_with_len}
use Rattle.std.proofs.lemmas.Bool.{eqb-true}
use Rattle.hx_bytes.specs.declared.extents.Extent.{Extent}
use Rattle.btree_node.specs.Keys.{IsExtentKey, extent_cmp}
use Rattle.btree_node.specs.Store.{Store}
use Rattle.btree_node.specs.Tree.{IsTree}
use Rattle.btree_edit.specs.Editing.{CostsAtMost, edit_writes}
use Rattle.btree_edit.specs.Edits.{EditRoom, TakesEdits, TakesAtMost}
use Rattle.fork_map.specs.Blocks.{blocks_of}
use Rattle.hfs_volume.specs.Forks.{in_use}
use Rattle.overflow.specs.Changes.{changes_to, all_changed, are_light}
use Rattle.overflow.specs.Making.{CanMakeAll}
use Rattle.overflow.specs.Reading.{OnlyReads, fork_records}
use Rattle.overflow.specs.Records.{under, record_of, records_for}
use Rattle.overflow.specs.Room.{changes_for, edits_for, HasLightRoom, HasStoreRoom}
use Rattle.overflow.specs.declared.changes.Change.{Change}
use Rattle.overflow.specs.declared.record.OverflowRecord.{OverflowRecord}
use Rattle.overflow.proofs.Changing.{Makes}
use Rattle.overflow.proofs.Costs.{room_after, takes_after, edits_after, costs_after, light_room_after, same_read}
use Rattle.overflow.proofs.Cutting.{in_use_used}
use Rattle.overflow.proofs.Gathering.{tree_rises}
use Rattle.overflow.proofs.Whole.{back_under, changes_make}

pub blocks_stay : (xs : List Extent) → blocks_of (in_use xs) ≡ blocks_of xs
blocks_stay [] = refl
blocks_stay (x ∷ xs) = by_test (x.count == 0) refl (blocks_stay xs)
  where
    by_test : (b : Bool) → (x.count == 0) ≡ b → blocks_of (in_use xs) ≡ blocks_of xs → blocks_of ((if not b then x ∷ [] else []) ++ in_use xs) ≡ blocks_of (x ∷ xs)
    by_test true is others = others ∙ sym (ap (λ n. range_with_len x.start n ++ blocks_of xs) (eqb-true x.count 0 is))
    by_test false is others = ap (λ l. range_with_len x.start x.count ++ l) others

pub blocks_used : (xs : List Extent) → length (blocks_of (in_use xs)) ≡ length (blocks_of xs)
blocks_used xs = ap length (blocks_stay xs)

module _ (s now : Store) (id kind : ℕ) (new : List Extent) (have : List OverflowRecord) (changes : List Change)
    (made : changes ≡ changes_to have (records_for (in_use new))) (read : IsTrue s.tells → map (under id kind) have ≡ fork_records id kind s)
    (reads : OnlyReads s now) (later : s.faults ≤ now.faults)
  where
    -- the changes are those for the tree
    pub changes_are : IsTrue s.tells → changes ≡ changes_for s id kind new
    changes_are tells = made ∙ ap (λ l. changes_to l (records_for (in_use new))) (sym (back_under id kind have) ∙ ap (map record_of) (read tells))

    as_many : IsTrue s.tells → edits_for s id kind new ≡ length changes
    as_many tells = ap length (sym (changes_are tells))

    few_edits : IsTrue s.tells → length changes ≤ edits_for s id kind new
    few_edits tells = omega (arith, as_many tells)

    pub changes_room : (IsTrue s.tells → HasStoreRoom s id kind new) → IsTrue now.tells → EditRoom (length changes) 10 now ⊎ HasLightRoom changes now
    changes_room room tells_now = elim (room tells) [
      | inl edits ↦ inl (room_after (length changes) (edits_for s id kind new) s now (few_edits tells) reads later (λ _. edits) tells_now)
      | inr light ↦ inr (light_room_after changes s now reads (subst (λ l. HasLightRoom l s) (sym (changes_are tells)) light))
    ]
      where
        tells : IsTrue s.tells
        tells = sym (same_read s now reads).tells ∙ tells_now

    pub all_takes : (c : Store) → TakesAtMost (length changes) 10 now c → TakesAtMost (edits_for s id kind new) 10 s c
    all_takes c takes tells = takes_after (length changes) (edits_for s id kind new) s now c (few_edits tells) reads later takes tells

    pub all_edits : (c : Store) → TakesEdits (length changes) 10 now c → TakesEdits (edits_for s id kind new) 10 s c
    all_edits c edits = record { takes = λ tells. (all tells).takes tells; top = λ tells. (all tells).top tells; records = λ tells. (all tells).records tells }
      where
        all : IsTrue s.tells → TakesEdits (edits_for s id kind new) 10 s c
        all tells = edits_after (length changes) (edits_for s id kind new) s now c (few_edits tells) reads later edits

    pub all_light : (c : Store) → IsTrue s.tells → are_light (changes_for s id kind new) ≡ true → (IsTrue now.tells → are_light changes ≡ true → CostsAtMost (length changes * edit_writes now.shape.depth) 0 now c)
        → CostsAtMost (edits_for s id kind new * edit_writes s.shape.depth) 0 s c
    all_light c tells light costs =
        let tells_now : IsTrue now.tells = subst IsTrue (sym reads.1.same.tells) tells in
        subst (λ n. CostsAtMost (n * edit_writes s.shape.depth) 0 s c) (sym (as_many tells))
        (costs_after (length changes) s now c reads later (costs tells_now (ap are_light (changes_are tells) ∙ light)))

    module _ (tree : IsTree IsExtentKey extent_cmp s) (tells : IsTrue s.tells) (same : fork_records id kind now ≡ fork_records id kind s) where
      makes : Makes id kind changes (fork_records id kind s) (map (under id kind) (records_for (in_use new)))
      makes = subst (λ l. Makes id kind l (fork_records id kind s) (map (under id kind) (records_for (in_use new)))) (sym made)
          (changes_make id kind (fork_records id kind s) have (in_use new) (tree_rises id kind s tree) (read tells) (in_use_used new))

      pub changes_fit : CanMakeAll id kind changes (fork_records id kind now)
      changes_fit = subst (CanMakeAll id kind changes) (sym same) makes.can

      pub changes_are_made : (c : Store) → fork_records id kind c ≡ all_changed id kind changes (fork_records id kind now) → fork_records id kind c ≡ map (under id kind) (records_for (in_use new))
      changes_are_made c is = is ∙ ap (all_changed id kind changes) same ∙ makes.is
