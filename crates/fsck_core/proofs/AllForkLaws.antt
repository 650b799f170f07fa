-- The forks of a volume, read record by record.
use Rattle.std.proofs.Common.{◌≡◌, ◌≢◌, ◌<◌, ◌≤◌, ℕ, ◌+◌, ◌==◌, Bool, true, false, not, if◌then◌else◌, List, [], ◌∷◌, ◌++◌, length, take, refl, sym, ◌∙◌, ap, subst, append_assoc}
use Rattle.std.specs.Prelude.{All, Result, Ok, Err, OnOk}
use Rattle.std.specs.List.{flat_map}
use Rattle.std.proofs.lemmas.Bool.{ne_eqb}
use Rattle.std.proofs.lemmas.List.{take_more, take_all, append-nil, map-append}
use Rattle.std.proofs.lemmas.List.Concat.{flat_map-append}
use Rattle.btree_node.specs.Levels.{Pair}
use Rattle.cat_records.specs.declared.record.CatRecord.{CatRecord}
use Rattle.btree_node.specs.Keys.{catalog_units}
use Rattle.cat_records.specs.declared.record.CatRecord.TheVariants.{Folder, File, Thread}
use Rattle.hx_bytes.specs.Field.{big_at}
use Rattle.hx_bytes.specs.Fork.{fork_at}
use Rattle.cat_records.specs.Records.{catalog_of, entry_of, thread_of}
use Rattle.volume_header.specs.declared.header.VolumeHeader.{VolumeHeader}
use Rattle.hfs_volume.specs.Records.{Placed, Overflow, placed_of, placed_in, entries_of, is_empty}
use Rattle.hfs_volume.specs.Forks.{Owned, forks_in, special_forks, file_forks, all_forks}
use Rattle.hfs_volume.specs.Blocks.{GoesOn, forks_of}
use Rattle.hfs_volume.specs.Content.{VolumeState, overflow_in_volume}
use Rattle.fsck_core.specs.Names.{pair_at}
use Rattle.fsck_core.specs.Overflows.{overflows_in}
use Rattle.fsck_core.specs.Owners.{owned_all}
use Rattle.fsck_core.specs.AllForks.{forks_at}
use Rattle.fsck_core.specs.declared.follow.OwnedFork.{OwnedFork}
use Rattle.fsck_core.specs.declared.overflow.OverflowRow.{OverflowRow}

-- the forks of files are those of the records with names
files_are : (records : List Placed) → flat_map forks_at records ≡ file_forks records
files_are [] = refl
files_are (p ∷ ps) = at (files_are ps) (is_empty p.name)
  where
    at : flat_map forks_at ps ≡ file_forks ps → (b : Bool) → (if b then [] else forks_in p.value) ++ flat_map forks_at ps ≡ flat_map (λ (q : Placed). forks_in q.value) ((if not b then p ∷ [] else []) ++ entries_of ps)
    at rest true = rest
    at rest false = ap (λ l. forks_in p.value ++ l) rest

pub no_forks : (key value : List ℕ) (forks : List Owned) → is_empty (catalog_units key) ≡ true → forks ≡ forks ++ forks_at (placed_of (key, value))
unfolding placed_of
no_forks key value forks none = sym (ap (λ b. forks ++ (if b then [] else forks_in (catalog_of value))) none ∙ append-nil forks)

pub its_forks_then : {X E : Type 0} (result : Result X E) (key value : List ℕ) (old new : List Owned) → is_empty (catalog_units key) ≡ false → OnOk result (new ≡ old ++ forks_in (catalog_of value)) → OnOk result (new ≡ old ++ forks_at (placed_of (key, value)))
unfolding placed_of
its_forks_then (Ok x) key value old new some is = is ∙ sym (ap (λ b. old ++ (if b then [] else forks_in (catalog_of value))) some)
its_forks_then (Err e) key value old new some is = is

-- a record by its type
abbrev of_type : List ℕ → Bool → Bool → CatRecord
of_type v a b = if a then Folder (record { fields = entry_of v }) else if b then File (record { fields = entry_of v; data_fork = fork_at v 88; resource_fork = fork_at v 168 }) else Thread (thread_of v)

pub file_forks_then : {X E : Type 0} (result : Result X E) (value : List ℕ) (kind : ℕ) (old new : List Owned) → kind ≡ big_at 2 value 0 → kind ≡ 2
    → OnOk result (new ≡ old ++ forks_in (File (record { fields = entry_of value; data_fork = fork_at value 88; resource_fork = fork_at value 168 }))) → OnOk result (new ≡ old ++ forks_in (catalog_of value))
file_forks_then (Ok x) value kind old new same two is = is ∙ sym (ap (λ n. old ++ forks_in (of_type value (n == 1) (n == 2))) (sym same ∙ two))
file_forks_then (Err e) value kind old new same two is = is

-- a record that is no file has no fork
pub other_forks : (value : List ℕ) (kind : ℕ) (forks : List Owned) → kind ≡ big_at 2 value 0 → kind ≢ 2 → forks ≡ forks ++ forks_in (catalog_of value)
other_forks value kind forks same other =
    sym (ap (λ n. forks ++ forks_in (of_type value (n == 1) (n == 2))) (sym same) ∙ ap (λ b. forks ++ forks_in (of_type value (kind == 1) b)) (ne_eqb kind 2 other) ∙ none (kind == 1))
  where
    none : (a : Bool) → forks ++ forks_in (of_type value a false) ≡ forks
    none true = append-nil forks
    none false = append-nil forks

-- one pair more
pub forks_more : (pairs : List Pair) (k : ℕ) (special old new : List Owned) → k < length pairs → old ≡ special ++ flat_map forks_at (placed_in (take k pairs)) → new ≡ old ++ forks_at (placed_of (pair_at pairs k))
    → new ≡ special ++ flat_map forks_at (placed_in (take (k + 1) pairs))
forks_more pairs k special old new inside was is =
    let front : List Owned = flat_map forks_at (placed_in (take k pairs)) in
    let here : List Owned = forks_at (placed_of (pair_at pairs k)) in
    is ∙ ap (λ l. l ++ here) was ∙ append_assoc special front here
    ∙ ap (λ l. special ++ l)
    (ap (λ l. front ++ l) (sym (append-nil here)) ∙ sym (flat_map-append forks_at (placed_in (take k pairs)) (placed_of (pair_at pairs k) ∷ []))
    ∙ ap (flat_map forks_at) (sym (map-append placed_of (take k pairs) (pair_at pairs k ∷ [])) ∙ ap placed_in (sym (take_more pairs k ([], []) inside))))

pub forks_whole : (head : VolumeHeader) (pairs : List Pair) (k : ℕ) (forks : List Owned) → length pairs ≤ k → forks ≡ special_forks head ++ flat_map forks_at (placed_in (take k pairs)) → forks ≡ all_forks head (placed_in pairs)
unfolding all_forks
forks_whole head pairs k forks end is = is ∙ ap (λ l. special_forks head ++ flat_map forks_at (placed_in l)) (take_all k pairs end) ∙ ap (λ l. special_forks head ++ l) (files_are (placed_in pairs))

-- forks that go on behind their records do so in the volume whose they are
pub goes_on_there : (volume : VolumeState) (rows : List OverflowRow) (forks : List OwnedFork) → overflows_in rows ≡ overflow_in_volume volume → owned_all forks ≡ forks_of volume → All (GoesOn (overflows_in rows)) (owned_all forks)
    → All (GoesOn (overflow_in_volume volume)) (forks_of volume)
goes_on_there volume rows forks rows_are forks_are on =
    subst (λ (o : List Overflow). All (GoesOn o) (forks_of volume)) rows_are (subst (λ (l : List Owned). All (GoesOn (overflows_in rows)) l) forks_are on)
