-- The rules on a volume's lists, joined.
use Rattle.std.proofs.Common.{◌≡◌, ◌⊎◌, ◌↔◌, ◌<◌, ◌≤◌, ℕ, Bool, true, false, ◌==◌, List, [], ◌∷◌, ◌++◌, length, inl, inr, refl, sym, ◌∙◌, subst, arith, ⊎_elim}
use Rattle.std.specs.Prelude.{Contains, IsTrue, All, Result, Ok, Err, IfOk}
use Rattle.std.specs.List.{flat_map, count_by}
use Rattle.std.specs.List.Sorted.{IsNonDecreasingBy}
use Rattle.std.proofs.lemmas.List.Elements.{Contains-append_left, Contains-append_right}
use Rattle.alloc_bitmap.specs.Apart.{AreApart}
use Rattle.btree_node.specs.Keys.{IsCatalogKey}
use Rattle.btree_node.specs.Levels.{Pair}
use Rattle.fsck_list.specs.declared.finding.Finding.{Finding as Listed}
use Rattle.hfs_volume.specs.Blocks.{GoesOn, GoOnBad, HasFork, HasSizes, LieInside, forks_of, used_in}
use Rattle.hfs_volume.specs.Broken.{Finding, AllMet, IsUnmet, IsFailed, FailsKind, FailsThread, FailsParent, FailsOverflow, Want, want, id_wants, fork_wants, overflow_wants, value_wants}
use Rattle.hfs_volume.specs.Changes.{AreSorted}
use Rattle.hfs_volume.specs.Content.{VolumeState, records_of, overflow_in_volume, attributes_of}
use Rattle.hfs_volume.specs.Entries.{AreSpelled, AreThreaded, AreRooted}
use Rattle.hfs_volume.specs.Links.{AreLinks}
use Rattle.hfs_volume.specs.Records.{Placed, Overflow, placed_in, entries_of, id_of, is_thread, is_empty}
use Rattle.hfs_volume.specs.Forks.{Owned, all_forks}
use Rattle.hfs_volume.proofs.Members.{at_front}
use Rattle.fsck_core.specs.Attributes.{HasAttributes, KeepsAttributes, IsBrokenOfNames}
use Rattle.fsck_core.specs.Catalogs.{IsCatalog, HasRows}
use Rattle.fsck_core.specs.Decided.{Decided, StaysListed, IsTold}
use Rattle.fsck_core.specs.Links.{IsBrokenName}
use Rattle.fsck_core.specs.Lists.{AreLists, IsBrokenCatalog, HasEntries, IsJudged}
use Rattle.fsck_core.specs.Owned.{FailsIn, Tested}
use Rattle.fsck_core.specs.Overflows.{overflows_in}
use Rattle.fsck_core.specs.Passed.{Passed, IsBrokenList, ListsLate, HasEarly, HaveForks, HaveSizes, HaveNames, HaveCounts, KeepLists}
use Rattle.fsck_core.specs.Rows.{rows_of}
use Rattle.fsck_core.specs.Wants.{as_found}
use Rattle.fsck_core.specs.Judged.{Judged}
use Rattle.fsck_core.specs.declared.rows.Row.{Row}
use Rattle.fsck_core.specs.declared.lists.Lists.{Lists}
use Rattle.volume_header.specs.declared.header.VolumeHeader.{VolumeHeader}
use Rattle.fsck_core.proofs.EntryLaws.{entries_rise, ids_apart, judged_found, stays}
use Rattle.fsck_core.proofs.Joining.{passed_met, passed_first, passed_both, passed_as, passed_judged, passed_decided}
use Rattle.fsck_core.proofs.ListJoins.{all_new}
use Rattle.fsck_core.proofs.ToldLaws.{told_some, told_first}
use Rattle.fsck_core.specs.Telling.{TellsCatalog, TellsForks}

-- ---- the catalog (rules 8 to 10)

-- the records of a catalog are of their kinds
abbrev pub AreKinds : List Pair → Type 0
AreKinds pairs = All (λ (placed : Placed). is_thread placed.value ≡ is_empty placed.name) (placed_in pairs)

module _ (pairs : List Pair) (keys : All (λ (pair : Pair). IsCatalogKey pair.0) pairs) (sorted : AreSorted pairs) where
  pub is_catalog : (met : Bool) → met ≡ true → IsTrue met ↔ (AreSpelled pairs × AreKinds pairs) → IsCatalog pairs
  is_catalog met is tells = let both = tells.0 is in record { keys = keys; order = sorted; spelled = both.0; kinds = both.1 }

  pub kinds_passed : (old new : List Listed) (met : Bool) → old ≡ [] → IsTrue met ↔ (AreSpelled pairs × AreKinds pairs) → (met ≡ false → 0 < length new)
      → ((f : Listed) → Contains new f → Contains old f ⊎ IsFailed 8 (as_found f) (FailsKind pairs)) → Passed (IsBrokenCatalog pairs) (AreSpelled pairs × AreKinds pairs) old new
  kinds_passed old new met none tells found each = passed_first (IsBrokenCatalog pairs) (AreSpelled pairs × AreKinds pairs) old new met none tells found
      (λ f stands. ⊎_elim (λ (before : Contains old f). inl before) (λ (fails : IsFailed 8 (as_found f) (FailsKind pairs)). inr (inl fails)) (each f stands))

  pub threads_passed : (old new : List Listed) (met : Bool) → Decided (λ f. IsFailed 9 f (FailsThread (placed_in pairs))) (AreThreaded pairs) old new met → Passed (IsBrokenCatalog pairs) (AreThreaded pairs) old new
  threads_passed old new met decided = passed_decided (IsBrokenCatalog pairs) (λ f. IsFailed 9 f (FailsThread (placed_in pairs))) (AreThreaded pairs) old new met (λ f fails. inr (inl fails)) decided

  pub parents_passed : (old new : List Listed) (met : Bool) → IsTrue met ↔ AreRooted (entries_of (placed_in pairs)) → (met ≡ false → IsTold (λ f. IsFailed 10 f (FailsParent (entries_of (placed_in pairs)))) new) → StaysListed old new
      → ((f : Listed) → Contains new f → Contains old f ⊎ IsFailed 10 (as_found f) (FailsParent (entries_of (placed_in pairs)))) → Passed (IsBrokenCatalog pairs) (AreRooted (entries_of (placed_in pairs))) old new
  parents_passed old new met tells found still each = passed_met (IsBrokenCatalog pairs) (AreRooted (entries_of (placed_in pairs))) old new met tells
      (λ fails. told_some (λ f. IsFailed 10 f (FailsParent (entries_of (placed_in pairs)))) new (found fails)) (stays old new still)
      (λ f stands. ⊎_elim (λ (before : Contains old f). inl before) (λ (fails : IsFailed 10 (as_found f) (FailsParent (entries_of (placed_in pairs)))). inr (inr (inr fails))) (each f stands))

  pub rows_rise : (rows : List Row) → rows ≡ rows_of (entries_of (placed_in pairs)) → IsNonDecreasingBy (λ (r : Row). r.parent) rows
  rows_rise rows are = subst (λ (l : List Row). IsNonDecreasingBy (λ (r : Row). r.parent) l) (sym are) (entries_rise pairs sorted)

  pub catalog_passed : (old first second new : List Listed) → Passed (IsBrokenCatalog pairs) (AreSpelled pairs × AreKinds pairs) old first → Passed (IsBrokenCatalog pairs) (AreThreaded pairs) first second
      → Passed (IsBrokenCatalog pairs) (AreRooted (entries_of (placed_in pairs))) second new → Passed (IsBrokenCatalog pairs) ((AreSpelled pairs × AreKinds pairs) × (AreThreaded pairs × AreRooted (entries_of (placed_in pairs)))) old new
  catalog_passed old first second new kinds threads parents =
      passed_both (IsBrokenCatalog pairs) (AreSpelled pairs × AreKinds pairs) (AreThreaded pairs × AreRooted (entries_of (placed_in pairs))) old first new kinds
      (passed_both (IsBrokenCatalog pairs) (AreThreaded pairs) (AreRooted (entries_of (placed_in pairs))) first second new threads parents)

  pub catalog_holds : (rows : List Row) (old new : List Listed) → IsCatalog pairs → rows ≡ rows_of (entries_of (placed_in pairs)) → length new ≡ 0
      → Passed (IsBrokenCatalog pairs) ((AreSpelled pairs × AreKinds pairs) × (AreThreaded pairs × AreRooted (entries_of (placed_in pairs)))) old new → HasEntries pairs rows
  catalog_holds rows old new catalog are none passed = let holds = passed.holds none in record { catalog = catalog; threads = holds.1.0; rooted = holds.1.1; rows_are = are }

-- ---- each rule, in the words of the lists

-- rule 16, of the forks of files and of those of attributes
abbrev file_sizes : VolumeState → List Want
file_sizes volume = flat_map (fork_wants volume) (forks_of volume) ++ flat_map (overflow_wants volume) (overflow_in_volume volume)

abbrev value_sizes : VolumeState → List Want
value_sizes volume = flat_map (value_wants volume) (attributes_of volume)

of_forks : (volume : VolumeState) (f : Finding) → IsUnmet 16 f (file_sizes volume) → IsBrokenList volume f
of_forks volume f unmet = inr (inr (inr (inr (inr (inr (inr (inl (unmet.0, unmet.1, Contains-append_left (file_sizes volume) (value_sizes volume) (want f.place f.found f.wanted) unmet.2))))))))

of_values : (volume : VolumeState) (f : Finding) → IsUnmet 16 f (value_sizes volume) → IsBrokenList volume f
of_values volume f unmet = inr (inr (inr (inr (inr (inr (inr (inl (unmet.0, unmet.1, Contains-append_right (file_sizes volume) (value_sizes volume) (want f.place f.found f.wanted) unmet.2))))))))

pub sizes_passed : (volume : VolumeState) (old new : List Listed) (met : Bool) → IsTrue met ↔ (All (HasSizes volume.head (overflow_in_volume volume)) (forks_of volume) × All (λ (more : Overflow). LieInside volume.head.total_blocks more.extents) (overflow_in_volume volume))
    → Judged 16 (flat_map (fork_wants volume) (forks_of volume) ++ flat_map (overflow_wants volume) (overflow_in_volume volume)) old new met → Passed (IsBrokenList volume) (HaveSizes volume) old new
sizes_passed volume old new met tells judged = record {
  holds = λ none. (let both = tells.0 (by met refl none) in record { sizes = both.0; more_inside = both.1 });
  still = stays old new judged.still;
  each = λ f stands. ⊎_elim (λ (before : Contains old f). inl before)
      (λ (unmet : IsUnmet 16 (as_found f) (flat_map (fork_wants volume) (forks_of volume) ++ flat_map (overflow_wants volume) (overflow_in_volume volume))). inr (of_forks volume (as_found f) unmet)) (judged.each f stands);
}
  where
    by : (m : Bool) → met ≡ m → length new ≡ 0 → IsTrue met
    by true is none = is
    by false is none = absurd (omega (arith, none, judged_found 16 _ old new met judged is))

of_name : (volume : VolumeState) (f : Finding) → IsBrokenName volume f → IsBrokenList volume f
of_name volume f (inl unmet) = inr (inl (inl unmet))
of_name volume f (inr fails) = inr (inl (inr (inl fails)))

pub links_passed : (volume : VolumeState) (old new : List Listed) (met : Bool) → Decided (IsBrokenName volume) (AreLinks (records_of volume) (overflow_in_volume volume)) old new met
    → Passed (IsBrokenList volume) (AreLinks (records_of volume) (overflow_in_volume volume)) old new
links_passed volume old new met decided = passed_decided (IsBrokenList volume) (IsBrokenName volume) (AreLinks (records_of volume) (overflow_in_volume volume)) old new met (of_name volume) decided

of_attribute : (volume : VolumeState) (f : Finding) → IsBrokenOfNames volume f → IsBrokenList volume f
of_attribute volume f (inl fails) = inr (inl (inr (inr fails)))
of_attribute volume f (inr unmet) = of_values volume f unmet

pub attributes_passed : (volume : VolumeState) (old new : List Listed) (met : Bool) → Decided (IsBrokenOfNames volume) (KeepsAttributes volume) old new met → Passed (IsBrokenList volume) (KeepsAttributes volume) old new
attributes_passed volume old new met decided = passed_decided (IsBrokenList volume) (IsBrokenOfNames volume) (KeepsAttributes volume) old new met (of_attribute volume) decided

pub names_passed : (volume : VolumeState) (old first second new : List Listed) → Passed (IsBrokenList volume) (HaveSizes volume) old first → Passed (IsBrokenList volume) (AreLinks (records_of volume) (overflow_in_volume volume)) first second
    → Passed (IsBrokenList volume) (KeepsAttributes volume) second new → Passed (IsBrokenList volume) (HaveSizes volume × HaveNames volume) old new
names_passed volume old first second new sizes links attributes =
    passed_both (IsBrokenList volume) (HaveSizes volume) (HaveNames volume) old first new sizes
    (passed_as (IsBrokenList volume) _ (HaveNames volume) first new (λ both. record { links = both.0; attributes = both.1 }) (passed_both (IsBrokenList volume) _ _ first second new links attributes))

-- rule 17, in the words of a volume
abbrev pub GoOnAll : List Owned → List Overflow → Type 0
GoOnAll forks overflow = All (GoesOn overflow) forks × (GoOnBad overflow × All (HasFork forks) overflow)

pub overflow_passed : (volume : VolumeState) (forks : List Owned) (overflow : List Overflow) (old new : List Listed) (met : Bool) → overflow ≡ overflow_in_volume volume → forks ≡ forks_of volume
    → Tested (FailsIn forks overflow) (GoOnAll forks overflow) old new met → Passed (IsBrokenList volume) (GoOnAll (forks_of volume) (overflow_in_volume volume)) old new
overflow_passed volume forks overflow old new met overflow_is forks_are tested = passed_met (IsBrokenList volume) (GoOnAll (forks_of volume) (overflow_in_volume volume)) old new met there.tells (λ fails. told_some (λ f. IsFailed 17 f (FailsIn (forks_of volume) (overflow_in_volume volume))) new (there.found fails)) (stays old new there.still)
    (λ f stands. ⊎_elim (λ (before : Contains old f). inl before) (λ (fails : IsFailed 17 (as_found f) (FailsOverflow volume)). inr (inr (inr (inr (inr (inr (inr (inr (inr (inl fails)))))))))) (there.each f stands))
  where
    there : Tested (FailsIn (forks_of volume) (overflow_in_volume volume)) (GoOnAll (forks_of volume) (overflow_in_volume volume)) old new met
    there = subst (λ (o : List Overflow). Tested (FailsIn (forks_of volume) o) (GoOnAll (forks_of volume) o) old new met) overflow_is
        (subst (λ (l : List Owned). Tested (FailsIn l overflow) (GoOnAll l overflow) old new met) forks_are tested)

pub overflow_goes_on : (volume : VolumeState) (forks : List Owned) (overflow : List Overflow) (old new : List Listed) (met : Bool) → overflow ≡ overflow_in_volume volume → forks ≡ forks_of volume
    → Tested (FailsIn forks overflow) (GoOnAll forks overflow) old new met → met ≡ true → All (GoesOn (overflow_in_volume volume)) (forks_of volume)
overflow_goes_on volume forks overflow old new met overflow_is forks_are tested is =
    subst (λ (o : List Overflow). All (GoesOn o) (forks_of volume)) overflow_is (subst (λ (l : List Owned). All (GoesOn overflow) l) forks_are (tested.tells.0 is).0)

pub forks_passed : (volume : VolumeState) (old mid new : List Listed) → Passed (IsBrokenList volume) (GoOnAll (forks_of volume) (overflow_in_volume volume)) old mid
    → Passed (IsBrokenList volume) (HaveSizes volume × HaveNames volume) mid new → Passed (IsBrokenList volume) (HaveForks volume × HaveNames volume) old new
forks_passed volume old mid new first second = passed_as (IsBrokenList volume) _ (HaveForks volume × HaveNames volume) old new
    (λ all. (record { goes_on = all.0.0; bad_goes_on = all.0.1.0; owned = all.0.1.1; sizes = all.1.0.sizes; more_inside = all.1.0.more_inside }, all.1.1))
    (passed_both (IsBrokenList volume) (GoOnAll (forks_of volume) (overflow_in_volume volume)) (HaveSizes volume × HaveNames volume) old mid new first second)

pub ids_passed : (volume : VolumeState) (next : ℕ) (old new : List Listed) (met : Bool) → next ≡ volume.head.next_catalog_id → Judged 15 (flat_map (id_wants next (entries_of (records_of volume))) (entries_of (records_of volume))) old new met
    → Passed (IsBrokenList volume) (AllMet (flat_map (id_wants volume.head.next_catalog_id (entries_of (records_of volume))) (entries_of (records_of volume)))) old new
ids_passed volume next old new met is judged = passed_judged (IsBrokenList volume) 15 (flat_map (id_wants volume.head.next_catalog_id (entries_of (records_of volume))) (entries_of (records_of volume))) old new met (λ f unmet. inl (inr (inr (inr (inr (inr unmet))))))
    (subst (λ n. Judged 15 (flat_map (id_wants n (entries_of (records_of volume))) (entries_of (records_of volume))) old new met) is judged)

-- ---- lists that are a volume's

pub entries_there : (volume : VolumeState) (lists : Lists) (rows : List Row) → AreLists volume lists → HasEntries lists.catalog rows → HasEntries volume.catalog_pairs rows
entries_there volume lists rows are entries = subst (λ (l : List Pair). HasEntries l rows) are.catalog entries

pub ids_once : (volume : VolumeState) (lists : Lists) (rows : List Row) → AreLists volume lists → HasEntries lists.catalog rows → (id : ℕ) → count_by (λ (placed : Placed). id_of placed == id) (entries_of (records_of volume)) ≤ 1
ids_once volume lists rows are entries = ids_apart volume.catalog_pairs (subst (λ (l : List Pair). AreSorted l) are.catalog are.sorted) (entries_there volume lists rows are entries).threads

pub rows_there : (volume : VolumeState) (lists : Lists) (rows : List Row) → AreLists volume lists → HasEntries lists.catalog rows → All (GoesOn (overflow_in_volume volume)) (forks_of volume) → HasRows volume lists.catalog rows
rows_there volume lists rows are entries goes_on =
    let there = entries_there volume lists rows are entries in
    record { pairs_are = are.catalog; catalog = entries.catalog; rows_are = there.rows_are; goes_on = goes_on }

pub attributes_there : (volume : VolumeState) (lists : Lists) → AreLists volume lists → 0 < lists.head.block_size → HasAttributes volume lists.head lists.info (overflows_in lists.overflow.items) lists.attributes
attributes_there volume lists are some = record { head_is = are.head; some = some; journal_is = are.journal; overflow_is = are.overflow; attributes_are = are.attributes; keyed = are.keyed }

pub forks_there : (volume : VolumeState) (head : VolumeHeader) (pairs : List Pair) (forks : List Owned) → head ≡ volume.head → pairs ≡ volume.catalog_pairs → forks ≡ all_forks head (placed_in pairs) → forks ≡ forks_of volume
forks_there volume head pairs forks head_is pairs_are are = are ∙ (λ i. all_forks (head_is i) (placed_in (pairs_are i)))

pub lists_passed : (volume : VolumeState) (rows : List Row) (old first second third new : List Listed) → HasEntries volume.catalog_pairs rows → Passed (IsBrokenList volume) (AreApart (used_in volume)) old first
    → Passed (IsBrokenList volume) (HaveForks volume × HaveNames volume) first second
    → Passed (IsBrokenList volume) (AllMet (flat_map (id_wants volume.head.next_catalog_id (entries_of (records_of volume))) (entries_of (records_of volume)))) second third
    → Passed (IsBrokenList volume) (HaveCounts volume) third new → Passed (IsBrokenList volume) (KeepLists volume) old new
lists_passed volume rows old first second third new entries once forks ids counts = passed_as (IsBrokenList volume) _ (KeepLists volume) old new
    (λ all. record { threads = entries.threads; rooted = entries.rooted; once = all.0.0.0; forks = all.0.0.1.0; names = all.0.0.1.1; ids = all.0.1; counts = all.1 })
    (passed_both (IsBrokenList volume) _ (HaveCounts volume) old third new
    (passed_both (IsBrokenList volume) _ _ old second third
    (passed_both (IsBrokenList volume) _ _ old first second once forks) ids) counts)

-- ---- what judging the lists finds

pub early_of : (list : List Listed) → 0 < length list → ((f : Listed) → Contains list f → f.rule ≤ 10) → HasEarly list
early_of [] some low = absurd (omega (arith, some))
early_of (f ∷ rest) some low = (f, at_front f rest, low f (at_front f rest))

pub catalog_early : (pairs : List Pair) (f : Listed) → IsBrokenCatalog pairs (as_found f) → f.rule ≤ 10
catalog_early pairs f (inl fails) = let is : f.rule ≡ 8 = fails.0 in omega (arith, is)
catalog_early pairs f (inr (inl fails)) = let is : f.rule ≡ 9 = fails.0 in omega (arith, is)
catalog_early pairs f (inr (inr fails)) = let is : f.rule ≡ 10 = fails.0 in omega (arith, is)

pub catalog_broken : (volume : VolumeState) (finding : Finding) → IsBrokenCatalog volume.catalog_pairs finding → IsBrokenList volume finding
catalog_broken volume finding (inl fails) = inl (inl fails)
catalog_broken volume finding (inr (inl fails)) = inl (inr (inl fails))
catalog_broken volume finding (inr (inr fails)) = inl (inr (inr (inl fails)))

-- where a rule from 8 to 10 is broken
pub judged_early : (volume : VolumeState) (pairs : List Pair) (list : List Listed) → pairs ≡ volume.catalog_pairs → TellsCatalog pairs list → 0 < length list → ((f : Listed) → Contains list f → IsBrokenCatalog pairs (as_found f)) → IsJudged volume list
judged_early volume pairs list are tells some each = record {
  holds = λ none. absurd (omega (arith, none, some));
  each = λ f stands. catalog_broken volume (as_found f) (subst (λ (l : List Pair). IsBrokenCatalog l (as_found f)) are (each f stands));
  late = inl (early_of list some (λ f stands. catalog_early pairs f (each f stands)));
  rules = (subst (λ (l : List Pair). TellsCatalog l list) are tells, inl (told_first (IsBrokenCatalog volume.catalog_pairs) list some (λ f stands. subst (λ (l : List Pair). IsBrokenCatalog l (as_found f)) are (each f stands))));
}

-- where none is
pub judged_late : (volume : VolumeState) (old new : List Listed) → old ≡ [] → TellsCatalog volume.catalog_pairs new → Passed (IsBrokenList volume) (KeepLists volume) old new → ListsLate volume new → TellsForks volume new → IsJudged volume new
judged_late volume old new none tells passed listed rules = record {
  holds = passed.holds;
  each = all_new (λ f. IsBrokenList volume (as_found f)) old new none passed.each;
  late = inr listed;
  rules = (tells, inr rules);
}

pub judged_both : {X E : Type 0} (volume : VolumeState) (result : Result X E) (old new : List Listed) → old ≡ [] → TellsCatalog volume.catalog_pairs new → IfOk result (λ _. Passed (IsBrokenList volume) (KeepLists volume) old new) → IfOk result (λ _. ListsLate volume new)
    → IfOk result (λ _. TellsForks volume new)
    → IfOk result (λ _. IsJudged volume new)
judged_both volume (Ok x) old new none tells passed listed rules = judged_late volume old new none tells passed listed rules
judged_both volume (Err e) old new none tells passed listed rules = tt
