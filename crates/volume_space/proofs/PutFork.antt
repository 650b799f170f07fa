-- The data fork of a file's record is the fork that is found by the file's CNID: no fork of a special file has its number, and no other entry's.
use Rattle.std.proofs.lemmas.List.{append_assoc}
use Rattle.std.proofs.Math.Bool.{and-false}
use Rattle.volume_base.specs.declared.forks.ForkKind.TheVariants as kinds
use Rattle.volume_base.specs.declared.forks.ForkKind.{ForkKind}
use Rattle.volume_base.specs.Cutting.{fork_at, kind_of}
use Rattle.std.proofs.Common.{◌≡◌, ◌⊎◌, inl, inr, ◌<◌, ◌≤◌, ℕ, ◌==◌, ◌&&◌, Bool, true, false, List, [], ◌∷◌, ◌++◌, refl, sym, ◌∙◌, ap, subst, arith, cond, ⊎_elim}
use Rattle.std.specs.Prelude.{Contains, find, count_by, Option, Some, None}
use Rattle.std.specs.List.{AllByRecursion, flat_map}
use Rattle.std.proofs.lemmas.Bool.{true≢false, ne_eqb}
use Rattle.std.proofs.lemmas.List.Elements.{Contains-append_left, Contains-append_cases}
use Rattle.volume_header.specs.declared.header.VolumeHeader.{VolumeHeader}
use Rattle.cat_records.specs.declared.record.CatRecord.{CatRecord}
use Rattle.cat_records.specs.declared.record.CatRecord.TheVariants.{Folder, File, Thread}
use Rattle.cat_records.specs.declared.record.FileRecord.{FileRecord}
use Rattle.hfs_volume.specs.Blocks.{forks_of}
use Rattle.hfs_volume.specs.Content.{VolumeState, overflow_in_volume, records_of}
use Rattle.hfs_volume.specs.Entries.{IsUserId}
use Rattle.hfs_volume.specs.Forks.{Owned, all_forks, blocks_owned, data_kind, resource_kind, forks_in, special_forks}
use Rattle.hfs_volume.specs.Reclaim.{blocks_at, blocks_found, is_fork}
use Rattle.hfs_volume.specs.Records.{Overflow, Placed, entries_of, id_in, id_of, is_empty, is_file, is_folder}
use Rattle.hfs_volume.specs.Sound.{IsSoundVolume}
use Rattle.hfs_volume.proofs.Hiding.{same_entry}
use Rattle.hfs_volume.proofs.Making.{alone_in}
use Rattle.hfs_volume.proofs.Members.{at_front, behind, each_of, first_or_later}
use Rattle.hfs_volume.proofs.Reaching.{flat_cases}
use Rattle.hfs_volume.proofs.Seeing.{same_number}
use Rattle.hfs_volume.proofs.Untouched.{file_fork_stands, resource_fork_stands}
use Rattle.volume_base.proofs.PlainFiles.{data_of, resource_of, forks_around}

-- the first item that passes
found_first : {X : Type 0} (test : X → Bool) (x : X) (front back : List X) → ((y : X) → Contains front y → test y ≡ false) → test x ≡ true → find test (front ++ x ∷ back) ≡ Some x
found_first test x [] back none is = ap (λ b. cond b (Some x) (find test back)) is
found_first test x (y ∷ front) back none is =
    ap (λ b. cond b (Some y) (find test (front ++ x ∷ back))) (none y (at_front y front)) ∙ found_first test x front back (λ z stands. none z (behind y z front stands)) is

-- both forks of a record have its CNID
fork_number : (v : CatRecord) (owned : Owned) → Contains (forks_in v) owned → owned.id ≡ id_in v
fork_number (Folder folder) owned has = absurd (omega (arith, has.1))
fork_number (File file) owned has = elim (first_or_later (data_of file) owned (resource_of file ∷ []) has) [
  | inl is ↦ ap (λ (o : Owned). o.id) is
  | inr later ↦ elim (first_or_later (resource_of file) owned [] later) [
    | inl is ↦ ap (λ (o : Owned). o.id) is
    | inr none ↦ absurd (omega (arith, none.1))
  ]
]
fork_number (Thread thread) owned has = absurd (omega (arith, has.1))

all_low : (id : ℕ) → 16 ≤ id → (xs : List Owned) → AllByRecursion (λ (o : Owned). o.id < 16) xs → (owned : Owned) → Contains xs owned → (owned.id == id) ≡ false
all_low id high [] low owned has = absurd (omega (arith, has.1))
all_low id high (x ∷ xs) low owned has = elim (first_or_later x owned xs has) [
  | inl is ↦ ne_eqb owned.id id (λ same. absurd (omega (arith, same, high, low.0, ap (λ (o : Owned). o.id) is)))
  | inr later ↦ all_low id high xs low.1 owned later
]

off_special : (head : VolumeHeader) (id : ℕ) → 16 ≤ id → (owned : Owned) → Contains (special_forks head) owned → (owned.id == id) ≡ false
off_special head id high owned has = all_low id high (special_forks head) (omega arith, (omega arith, (omega arith, (omega arith, (omega arith, tt))))) owned has

-- a fork of a file
abbrev pub owned_of : ForkKind → FileRecord → Owned
owned_of k file = record { id = file.fields.id; kind = kind_of k; fork = fork_at (kind_of k) file }

-- a fork of a file that stands there is one of the volume's
pub owned_stands : (k : ForkKind) (volume : VolumeState) (p : Placed) (file : FileRecord) → Contains (entries_of (records_of volume)) p → p.value ≡ File file → Contains (forks_of volume) (owned_of k file)
owned_stands kinds.Data volume p file stands is = file_fork_stands volume p file stands is
owned_stands kinds.Resource volume p file stands is = resource_fork_stands volume p file stands is

module _ (head : VolumeHeader) (overflow : List Overflow) (front back : List Placed) (entry : Placed) (file : FileRecord) (named : is_empty entry.name ≡ false) (is : entry.value ≡ File file) (high : 16 ≤ file.fields.id)
    (alone : (p : Placed) → Contains (entries_of front) p → (id_of p == file.fields.id) ≡ false)
  where
    abbrev before : List Owned
    before = special_forks head ++ flat_map (λ (p : Placed). forks_in p.value) (entries_of front)

    abbrev after : List Owned
    after = flat_map (λ (p : Placed). forks_in p.value) (entries_of back)

    none_before : (kind : ℕ) (owned : Owned) → Contains (special_forks head ++ flat_map (λ (p : Placed). forks_in p.value) (entries_of front)) owned → is_fork file.fields.id kind owned ≡ false
    none_before kind owned has = ap (λ b. b && (owned.kind == kind)) (⊎_elim
        (λ special. off_special head file.fields.id high owned special)
        (λ (other : Contains (flat_map (λ (p : Placed). forks_in p.value) (entries_of front)) owned).
        let found = flat_cases (λ (p : Placed). forks_in p.value) (entries_of front) owned other in
        ap (λ n. n == file.fields.id) (fork_number found.0.value owned found.2) ∙ alone found.0 found.1)
        (Contains-append_cases (special_forks head) (flat_map (λ (p : Placed). forks_in p.value) (entries_of front)) owned has))

    pub fork_found : (k : ForkKind) → blocks_found overflow (find (is_fork file.fields.id (kind_of k)) (all_forks head (front ++ entry ∷ back))) ≡ blocks_owned overflow (owned_of k file)
    fork_found kinds.Data =
        ap (λ l. blocks_found overflow (find (is_fork file.fields.id data_kind) l)) (forks_around head front back entry file named is)
        ∙ ap (blocks_found overflow) (found_first (is_fork file.fields.id data_kind) (data_of file) before (resource_of file ∷ after)
        (none_before data_kind) (ap (λ b. b && (data_kind == data_kind)) (same_number file.fields.id)))
    fork_found kinds.Resource =
        ap (λ l. blocks_found overflow (find (is_fork file.fields.id resource_kind) l)) (forks_around head front back entry file named is ∙ sym (append_assoc before (data_of file ∷ []) (resource_of file ∷ after)))
        ∙ ap (blocks_found overflow) (found_first (is_fork file.fields.id resource_kind) (resource_of file) (before ++ data_of file ∷ []) after none_there (ap (λ b. b && (resource_kind == resource_kind)) (same_number file.fields.id)))
      where
        none_there : (owned : Owned) → Contains (before ++ data_of file ∷ []) owned → is_fork file.fields.id resource_kind owned ≡ false
        none_there owned has = ⊎_elim (none_before resource_kind owned)
            (λ last. elim (first_or_later (data_of file) owned [] last) [
              | inl same ↦ ap (is_fork file.fields.id resource_kind) same ∙ and-false (file.fields.id == file.fields.id)
              | inr none ↦ absurd (omega (arith, none.1))
            ])
            (Contains-append_cases before (data_of file ∷ []) owned has)

-- a file isn't the root, so its CNID is one that was given
pub file_high : (volume : VolumeState) → IsSoundVolume volume → (entry : Placed) → Contains (entries_of (records_of volume)) entry → (file : FileRecord) → entry.value ≡ File file → 16 ≤ file.fields.id
file_high volume sound entry stands file is = elim (each_of (λ (p : Placed). IsUserId volume.head.next_catalog_id (id_of p)) (entries_of (records_of volume)) sound.entries.ids.each entry stands) [
  | inl two ↦
      let root = sound.entries.rooted.root in
      let same = same_entry volume.head.next_catalog_id (entries_of (records_of volume)) sound.entries.ids entry root.0 stands root.1 (two ∙ sym root.2.id) in
      absurd (true≢false (sym root.2.folder ∙ ap (λ (p : Placed). is_folder p.value) (sym same) ∙ ap is_folder is))
  | inr given ↦ subst (λ n. 16 ≤ n) (ap id_in is) given.0
]
