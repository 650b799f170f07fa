-- What is left where a link is removed.
use Rattle.std.proofs.Common.{◌≡◌, ◌<◌, ◌≤◌, ◌+◌, ◌-◌, ℕ, zero, suc, Bool, true, false, List, [], ◌∷◌, ◌++◌, length, refl, sym, ◌∙◌, ap, subst, arith}
use Rattle.std.specs.Prelude.{◌&&◌, Option, None, Some, if◌then◌else◌}
use Rattle.btree_node.specs.Levels.{Pair}
use Rattle.btree_edit.specs.declared.edits.Removed.{Removed}
use Rattle.btree_edit.specs.declared.edits.Removed.TheVariants as removed
use Rattle.cat_records.specs.declared.record.CatRecord.{CatRecord}
use Rattle.cat_records.specs.declared.record.CatRecord.TheVariants.{File}
use Rattle.std.specs.List.{insert}
use Rattle.std.specs.Option.{option_map}
use Rattle.catalog.specs.Entries.{AnswersRemoval, Removing, RemovesEntry}
use Rattle.catalog.specs.Pairs.{value_at}
use Rattle.hfs_model.specs.Sorted.{kept}
use Rattle.hfs_volume.specs.Changes.{AreSorted, DropsEntry}
use Rattle.hfs_volume.specs.Entries.{AreSpelled}
use Rattle.hfs_volume.specs.Laws.{one_if}
use Rattle.hfs_volume.specs.Links.{links_to, is_link_to}
use Rattle.hfs_volume.specs.Records.{Placed, placed_in, record_at, is_placed_at, entries_of, is_empty, special_of}
use Rattle.hfs_volume.proofs.Sides.{OneMore, one_more, entries_more}
use Rattle.hard_links.specs.Linking.{CountsLinks, DropsLink, SaysLeft, SharedBy}
use Rattle.hard_links.specs.declared.place.EntryAt.{EntryAt}
use Rattle.hard_links.specs.declared.shared.Shared.{Shared}
use Rattle.catalog.proofs.Beside.{none_is_some, placed_or, found_stands, its_place, named_beside, other_parent, spelled_less, empty_name, same_number}

kept_more : {X : Type 0} (test : X → Bool) (xs : List X) (k : ℕ) (x : X) → length (kept test (insert xs k x)) ≡ length (kept test xs) + one_if (test x)
kept_more {X} test xs zero x = by_test (test x)
  where
    by_test : (b : Bool) → length ((if b then x ∷ [] else []) ++ kept test xs) ≡ length (kept test xs) + one_if b
    by_test true = omega arith
    by_test false = omega arith
kept_more {X} test [] (suc k) x = by_test (test x)
  where
    by_test : (b : Bool) → length ((if b then x ∷ [] else []) ++ []) ≡ 0 + one_if b
    by_test true = omega arith
    by_test false = omega arith
kept_more {X} test (y ∷ ys) (suc k) x = step (test y) (kept_more test ys k x)
  where
    step : (b : Bool) → length (kept test (insert ys k x)) ≡ length (kept test ys) + one_if (test x)
        → length ((if b then y ∷ [] else []) ++ kept test (insert ys k x)) ≡ length ((if b then y ∷ [] else []) ++ kept test ys) + one_if (test x)
    step true rest = omega (arith, rest)
    step false rest = rest

module _ (entry : Placed) (old new : List Pair) (drops : DropsEntry entry old new) (named : is_empty entry.name ≡ false) where
  side : OneMore entry (placed_in new) (placed_in old)
  side = one_more drops named

  -- one link less
  pub one_less : (reference : ℕ) → is_link_to reference entry ≡ true → length (links_to (placed_in old) reference) ≡ length (links_to (placed_in new) reference) + 1
  one_less reference is =
      ap (λ l. length (kept (is_link_to reference) l)) (entries_more side).is ∙ kept_more (is_link_to reference) (entries_of (placed_in new)) (entries_more side).place entry
      ∙ ap (λ b. length (links_to (placed_in new) reference) + one_if b) is

-- a removal of what is there is made
pub removed_it : (parent : ℕ) (name : List ℕ) (old new : List Pair) (answer : Removed) (entry : Placed) → record_at (placed_in old) parent name ≡ Some entry
    → AnswersRemoval (record_at (placed_in old) parent name) answer → Removing parent name old new answer → DropsEntry entry old new
removed_it parent name old new removed.Absent entry found answers does = absurd (none_is_some entry (sym answers ∙ found))
removed_it parent name old new removed.Done entry found answers does = subst (λ e. DropsEntry e old new) (ap (placed_or entry) (sym does.found ∙ found)) does.drops

-- ---- a link of a file that is known

module _ (private : ℕ) (at : EntryAt) (shared : Shared) (old dropped : List Pair) (shares : SharedBy private at shared old) (drops : DropsEntry shares.entry old dropped) (some : 1 ≤ length at.name) where
  named : is_empty shares.entry.name ≡ false
  named = ap is_empty (its_place shares.entry at.parent at.name (found_stands (is_placed_at at.parent at.name) (placed_in old) shares.entry shares.found).1).1 ∙ empty_name at.name some

  pub spelled_left : AreSpelled old → AreSpelled dropped
  spelled_left spelled = spelled_less shares.entry dropped old drops named spelled

  -- the file's record is still there
  pub value_left : value_at dropped private shared.name ≡ Some (File shared.file)
  value_left =
      ap (option_map (λ (placed : Placed). placed.value)) (sym (named_beside shares.entry dropped old drops named private shared.name (ap is_empty shares.name) (other_parent shares.entry private shared.name shares.outside))) ∙ shares.file

  pub link_dropped : (left : ℕ) (new : List Pair) → left ≡ shared.file.fields.special - 1 → AreSorted dropped → SaysLeft private shared.name left dropped new → DropsLink private at left old new
  link_dropped left new left_is sorted says = record {
    entry = shares.entry;
    found = shares.found;
    is_one = shares.is_one;
    dropped = dropped;
    drops = drops;
    sorted = sorted;
    rest = omega (arith, left_is, shares.counted, one_less shares.entry old dropped drops named (special_of shares.entry) (λ i. shares.is_one i && same_number (special_of shares.entry) i));
    none = says.none;
    some = λ few. subst (λ l. CountsLinks private l left dropped new) shares.name (says.some few);
  }
