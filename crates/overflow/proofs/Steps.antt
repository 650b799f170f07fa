-- What several changes, one behind the other, make of the records of a fork.
use Rattle.std.proofs.Common.{◌≡◌, ℕ, ◌+◌, ◌<◌, ◌≤◌, List, [], ◌∷◌, length, take, drop, refl, sym, ◌∙◌, ap, subst}
use Rattle.std.specs.Prelude.{slice_index_or, not}
use Rattle.std.proofs.lemmas.List.{take_more, drop_more, take_all}
use Rattle.btree_node.specs.Keys.{IsExtentKey, extent_cmp, is_eight_extents}
use Rattle.btree_node.specs.Store.{Store}
use Rattle.btree_node.specs.Tree.{IsTree, HasValues}
use Rattle.hfs_model.specs.Sorted.{kept}
use Rattle.hfs_volume.specs.Forks.{is_of}
use Rattle.hfs_volume.specs.Records.{Overflow}
use Rattle.overflow.specs.Changes.{changed, all_changed}
use Rattle.overflow.specs.Making.{CanMake, CanMakeAll}
use Rattle.overflow.specs.Reading.{overflow_in_store, fork_records}
use Rattle.overflow.specs.declared.changes.Change.{Change}
use Rattle.overflow.proofs.Changing.{all_changed-append}

abbrev pub other_records : ℕ → ℕ → Store → List Overflow
other_records id kind store = kept (λ more. not (is_of id kind more)) (overflow_in_store store)

-- so many of the changes were made
pub record HasChanged (id kind : ℕ) (changes : List Change) (made : ℕ) (old new : Store) : Type 0 where
  pub tree : IsTree IsExtentKey extent_cmp new
  pub values : HasValues is_eight_extents new
  pub records : fork_records id kind new ≡ all_changed id kind (take made changes) (fork_records id kind old)
  pub can : CanMakeAll id kind (drop made changes) (fork_records id kind new)
  pub others : other_records id kind new ≡ other_records id kind old
  pub header : old.header ≡ old.shape → new.header ≡ new.shape

pub none_changed : (id kind : ℕ) (changes : List Change) (store : Store) → IsTree IsExtentKey extent_cmp store → HasValues is_eight_extents store → CanMakeAll id kind changes (fork_records id kind store) → HasChanged id kind changes 0 store store
none_changed id kind changes store tree values can = record { tree = tree; values = values; records = refl; can = can; others = refl; header = λ says. says }

module _ (id kind : ℕ) (changes : List Change) (made : ℕ) (other : Change) (a b : Store) (inside : made < length changes) (has : HasChanged id kind changes made a b) where
  parts : CanMakeAll id kind (slice_index_or changes made other ∷ drop (made + 1) changes) (fork_records id kind b)
  parts = subst (λ l. CanMakeAll id kind l (fork_records id kind b)) (drop_more changes made other inside) has.can

  pub next_fits : CanMake id kind (slice_index_or changes made other) (fork_records id kind b)
  next_fits = parts.0

  pub one_more_changed : (c : Store) → IsTree IsExtentKey extent_cmp c → HasValues is_eight_extents c → fork_records id kind c ≡ changed id kind (slice_index_or changes made other) (fork_records id kind b)
      → other_records id kind c ≡ other_records id kind b → (b.header ≡ b.shape → c.header ≡ c.shape) → HasChanged id kind changes (made + 1) a c
  one_more_changed c tree values records others header = record {
    tree = tree;
    values = values;
    records =
        records ∙ ap (changed id kind (slice_index_or changes made other)) has.records
        ∙ sym (ap (λ l. all_changed id kind l (fork_records id kind a)) (take_more changes made other inside)
        ∙ all_changed-append id kind (take made changes) (slice_index_or changes made other ∷ []) (fork_records id kind a));
    can = subst (CanMakeAll id kind (drop (made + 1) changes)) (sym records) parts.1;
    others = others ∙ has.others;
    header = λ says. header (has.header says);
  }

pub all_made : (id kind : ℕ) (changes : List Change) (made : ℕ) (a b : Store) → length changes ≤ made → HasChanged id kind changes made a b → fork_records id kind b ≡ all_changed id kind changes (fork_records id kind a)
all_made id kind changes made a b past has = has.records ∙ ap (λ l. all_changed id kind l (fork_records id kind a)) (take_all made changes past)
