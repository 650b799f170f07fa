-- The extents of a fork's first blocks, and where a file's fork is found among those of a volume.
use Rattle.std.proofs.Common.{◌≡◌, ◌≢◌, ◌⊎◌, inl, inr, ◌<◌, ◌≤◌, ℕ, ◌+◌, ◌-◌, ◌==◌, ◌&&◌, Bool, true, false, not, List, [], ◌∷◌, ◌++◌, length, refl, sym, ◌∙◌, ap, subst, arith, eq-eqb, length-append}
use Rattle.std.specs.Prelude.{All, Contains, nat_le, nat_lt, cond, find, Option, Some, if◌then◌else◌}
use Rattle.std.specs.List.{flat_map, count_by}
use Rattle.std.proofs.lemmas.Bool.{and_parts, leb-false, true≢false}
use Rattle.std.proofs.lemmas.Grind.{flat_map-append}
use Rattle.std.proofs.lemmas.List.{append_assoc}
use Rattle.std.proofs.lemmas.List.Elements.{Contains-append_cases}
use Rattle.hx_bytes.specs.declared.extents.Extent.{Extent}
use Rattle.hx_bytes.specs.declared.extents.ForkRecord.{ForkRecord}
use Rattle.fork_map.specs.Cut.{front}
use Rattle.volume_header.specs.declared.header.VolumeHeader.{VolumeHeader}
use Rattle.cat_records.specs.declared.record.CatRecord.{CatRecord}
use Rattle.cat_records.specs.declared.record.CatRecord.TheVariants.{Folder, File, Thread}
use Rattle.cat_records.specs.declared.record.FileRecord.{FileRecord}
use Rattle.hfs_volume.specs.Blocks.{GoOn, GoesOn}
use Rattle.hfs_volume.specs.Forks.{Owned, all_forks, data_kind, forks_in, in_use, is_full, overflow_in, resource_kind, special_forks}
use Rattle.hfs_volume.specs.Reclaim.{is_fork}
use Rattle.hfs_volume.specs.Records.{Overflow, Placed, entries_of, id_of, is_empty}
use Rattle.hfs_volume.proofs.Fitting.{differs}
use Rattle.hfs_volume.proofs.Members.{at_front, behind, first_or_later, in_one}
use Rattle.hfs_volume.proofs.Reaching.{flat_cases}
use Rattle.hfs_volume.proofs.Seeing.{same_number}
use Rattle.overflow.proofs.Cutting.{AreUsed}
use Rattle.volume_base.specs.Cutting.{fork_at}

-- ---- the first blocks of extents

pub front_used : (n : ℕ) (es : List Extent) → AreUsed es → AreUsed (front n es)
front_used n [] used = tt
front_used n (e ∷ es) used = by (front_used (n - e.count) es used.1) (nat_le e.count n) (n == 0) refl
  where
    by : AreUsed (front (n - e.count) es) → (a b : Bool) → (n == 0) ≡ b → AreUsed (if a then e ∷ front (n - e.count) es else if b then [] else record { start = e.start; count = n } ∷ [])
    by later true b is = (used.0, later)
    by later false true is = tt
    by later false false is = (λ none. absurd (true≢false (sym (eq-eqb n 0 none) ∙ is)), tt)

pub front_few : (n : ℕ) (es : List Extent) → length (front n es) ≤ length es
front_few n [] = omega arith
front_few n (e ∷ es) = by (front_few (n - e.count) es) (nat_le e.count n) (n == 0)
  where
    by : length (front (n - e.count) es) ≤ length es → (a b : Bool) → length (if a then e ∷ front (n - e.count) es else if b then [] else record { start = e.start; count = n } ∷ []) ≤ length (e ∷ es)
    by later true b = omega (arith, later)
    by later false true = omega arith
    by later false false = omega arith

-- each of them ends where one of the extents ends, or before
pub front_ends : (total n : ℕ) (es : List Extent) → ((x : Extent) → Contains es x → x.start + x.count ≤ total) → (x : Extent) → Contains (front n es) x → x.start + x.count ≤ total
front_ends total n [] each x has = absurd (omega (arith, has.1))
front_ends total n (e ∷ es) each x has = by (λ there. front_ends total (n - e.count) es (λ y later. each y (behind_it y later)) x there) (nat_le e.count n) refl (n == 0) has
  where
    behind_it : (y : Extent) → Contains es y → Contains (e ∷ es) y
    behind_it y later = behind e y es later

    own : e.start + e.count ≤ total
    own = each e (0, omega arith, refl)

    by : (Contains (front (n - e.count) es) x → x.start + x.count ≤ total) → (a : Bool) → nat_le e.count n ≡ a → (b : Bool) → Contains (if a then e ∷ front (n - e.count) es else if b then [] else record { start = e.start; count = n } ∷ []) x → x.start + x.count ≤ total
    by later true is b there = elim (first_or_later e x (front (n - e.count) es) there) [
      | inl same ↦ subst (λ (y : Extent). y.start + y.count ≤ total) (sym same) own
      | inr behind_ ↦ later behind_
    ]
    by later false is true there = absurd (omega (arith, there.1))
    by later false is false there =
        let same : x ≡ record { start = e.start; count = n } = in_one (record { start = e.start; count = n }) x there in
        subst (λ (y : Extent). y.start + y.count ≤ total) (sym same) (omega (arith, own, fewer e.count n is))
      where
        fewer : (m k : ℕ) → nat_le m k ≡ false → k < m
        fewer m k isnt = leb-false m k isnt

-- ---- a fork of fewer than eight extents has no overflow records

pub full_all : (xs : List Extent) → is_full xs ≡ true → in_use xs ≡ xs
full_all [] full = refl
full_all (x ∷ xs) full =
    let parts = and_parts (not (x.count == 0)) (is_full xs) full in
    (λ i. (if parts.0 i then x ∷ [] else []) ++ in_use xs) ∙ ap (λ l. x ∷ l) (full_all xs parts.1)

no_more : (many : ℕ) (xs : List Extent) (more : List Overflow) → length xs ≡ 8 → length (in_use xs) < 8 → GoOn many (is_full xs) more → more ≡ []
no_more many xs [] eight few goes = refl
no_more many xs (m ∷ more) eight few goes = absurd (omega (arith, few, eight, ap (λ (l : List Extent). length l) (full_all xs goes.1)))

pub none_behind : (overflow : List Overflow) (owned : Owned) → length owned.fork.extents.extents ≡ 8 → length (in_use owned.fork.extents.extents) < 8 → GoesOn overflow owned → overflow_in overflow owned.id owned.kind ≡ []
none_behind overflow owned eight few goes = no_more _ owned.fork.extents.extents (overflow_in overflow owned.id owned.kind) eight few goes

-- ---- a file's fork among those of a volume

abbrev data_of : FileRecord → Owned
data_of file = record { id = file.fields.id; kind = data_kind; fork = file.data_fork }

abbrev resource_of : FileRecord → Owned
resource_of file = record { id = file.fields.id; kind = resource_kind; fork = file.resource_fork }

abbrev pub fork_owned : ℕ → FileRecord → Owned
fork_owned kind file = record { id = file.fields.id; kind = kind; fork = fork_at kind file }

find_past : (test : Owned → Bool) (xs ys : List Owned) → ((owned : Owned) → Contains xs owned → test owned ≡ false) → find test (xs ++ ys) ≡ find test ys
find_past test [] ys none = refl
find_past test (x ∷ xs) ys none = ap (λ b. cond b (Some x) (find test (xs ++ ys))) (none x (at_front x xs)) ∙ find_past test xs ys (λ owned has. none owned (behind x owned xs has))

special_low : (head : VolumeHeader) (owned : Owned) → Contains (special_forks head) owned → owned.id < 16
special_low head owned stands = elim (first_or_later (special 3 head.extents_fork) owned (special 4 head.catalog_fork ∷ special 6 head.allocation_fork ∷ special 7 head.startup_fork ∷ special 8 head.attributes_fork ∷ []) stands) [
  | inl same ↦ omega (arith, ap (λ (o : Owned). o.id) same)
  | inr a ↦ elim (first_or_later (special 4 head.catalog_fork) owned (special 6 head.allocation_fork ∷ special 7 head.startup_fork ∷ special 8 head.attributes_fork ∷ []) a) [
    | inl same ↦ omega (arith, ap (λ (o : Owned). o.id) same)
    | inr b ↦ elim (first_or_later (special 6 head.allocation_fork) owned (special 7 head.startup_fork ∷ special 8 head.attributes_fork ∷ []) b) [
      | inl same ↦ omega (arith, ap (λ (o : Owned). o.id) same)
      | inr c ↦ elim (first_or_later (special 7 head.startup_fork) owned (special 8 head.attributes_fork ∷ []) c) [
        | inl same ↦ omega (arith, ap (λ (o : Owned). o.id) same)
        | inr d ↦ omega (arith, ap (λ (o : Owned). o.id) (in_one (special 8 head.attributes_fork) owned d))
      ]
    ]
  ]
]
  where
    special : ℕ → ForkRecord → Owned
    special n fork = record { id = n; kind = data_kind; fork = fork }

-- the forks of an entry have its number
number_of : (value : CatRecord) (owned : Owned) → Contains (forks_in value) owned → owned.id ≡ id_of (record { parent = 0; name = []; value = value })
number_of (Folder folder) owned stands = absurd (omega (arith, stands.1))
number_of (File file) owned stands = elim (first_or_later (data_of file) owned (resource_of file ∷ []) stands) [
  | inl same ↦ ap (λ (o : Owned). o.id) same
  | inr later ↦ ap (λ (o : Owned). o.id) (in_one (resource_of file) owned later)
]
number_of (Thread thread) owned stands = absurd (omega (arith, stands.1))

module _ (head : VolumeHeader) (before back : List Placed) (e : Placed) (file : FileRecord) (named : is_empty e.name ≡ false) (value : e.value ≡ File file) (high : 16 ≤ file.fields.id) (alone : (p : Placed) → Contains (entries_of before) p → id_of p ≢ file.fields.id) where
  in_front : List Owned
  in_front = special_forks head ++ flat_map (λ (p : Placed). forks_in p.value) (entries_of before)

  behind_it : List Owned
  behind_it = flat_map (λ (p : Placed). forks_in p.value) (entries_of back)

  forks_around : all_forks head (before ++ e ∷ back) ≡ in_front ++ (data_of file ∷ (resource_of file ∷ behind_it))
  unfolding all_forks in_front behind_it
  forks_around =
      ap (λ l. special_forks head ++ l)
      (ap (flat_map (λ (p : Placed). forks_in p.value)) split
      ∙ flat_map-append (λ (p : Placed). forks_in p.value) (entries_of before) (e ∷ entries_of back)
      ∙ ap (λ (v : CatRecord). flat_map (λ (p : Placed). forks_in p.value) (entries_of before) ++ (forks_in v ++ flat_map (λ (p : Placed). forks_in p.value) (entries_of back))) value)
      ∙ sym (append_assoc (special_forks head) (flat_map (λ (p : Placed). forks_in p.value) (entries_of before)) (data_of file ∷ (resource_of file ∷ flat_map (λ (p : Placed). forks_in p.value) (entries_of back))))
    where
      split : entries_of (before ++ e ∷ back) ≡ entries_of before ++ e ∷ entries_of back
      split =
          flat_map-append (λ (p : Placed). if not (is_empty p.name) then p ∷ [] else []) before (e ∷ back)
          ∙ ap (λ b. entries_of before ++ ((if not b then e ∷ [] else []) ++ entries_of back)) named

  not_before : (kind : ℕ) (owned : Owned) → Contains in_front owned → is_fork file.fields.id kind owned ≡ false
  unfolding in_front
  not_before kind owned has = ap (λ b. b && (owned.kind == kind)) (differs owned.id file.fields.id other)
    where
      other : owned.id ≡ file.fields.id → ⊥
      other same = elim (Contains-append_cases (special_forks head) (flat_map (λ (p : Placed). forks_in p.value) (entries_of before)) owned has) [
        | inl special ↦ omega (arith, special_low head owned special, same, high)
        | inr there ↦
            let found = flat_cases (λ (p : Placed). forks_in p.value) (entries_of before) owned there in
            alone found.0 found.1 (sym (number_of found.0.value owned found.2) ∙ same)
      ]

  pub fork_found : (kind : ℕ) → (kind ≡ data_kind) ⊎ (kind ≡ resource_kind) → find (is_fork file.fields.id kind) (all_forks head (before ++ e ∷ back)) ≡ Some (fork_owned kind file)
  fork_found kind is_kind =
      ap (find (is_fork file.fields.id kind)) forks_around
      ∙ find_past (is_fork file.fields.id kind) in_front (data_of file ∷ (resource_of file ∷ behind_it)) (not_before kind)
      ∙ own is_kind
    where
      own : (kind ≡ data_kind) ⊎ (kind ≡ resource_kind) → find (is_fork file.fields.id kind) (data_of file ∷ (resource_of file ∷ behind_it)) ≡ Some (fork_owned kind file)
      own (inl is) = subst (λ k. find (is_fork file.fields.id k) (data_of file ∷ (resource_of file ∷ behind_it)) ≡ Some (fork_owned k file)) (sym is)
          (ap (λ b. cond (b && true) (Some (data_of file)) (find (is_fork file.fields.id data_kind) (resource_of file ∷ behind_it))) (same_number file.fields.id))
      own (inr is) = subst (λ k. find (is_fork file.fields.id k) (data_of file ∷ (resource_of file ∷ behind_it)) ≡ Some (fork_owned k file)) (sym is)
          (ap (λ b. cond (b && false) (Some (data_of file)) (find (is_fork file.fields.id resource_kind) (resource_of file ∷ behind_it))) (same_number file.fields.id)
          ∙ ap (λ b. cond (b && true) (Some (resource_of file)) (find (is_fork file.fields.id resource_kind) behind_it)) (same_number file.fields.id))
