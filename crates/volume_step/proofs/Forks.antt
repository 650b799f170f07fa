-- The blocks of each fork, where records of the catalog stand elsewhere or have other values.
use Rattle.std.proofs.Common.{◌≡◌, ◌≢◌, ◌<◌, ◌≤◌, ℕ, Bool, true, false, List, [], ◌∷◌, ◌++◌, inl, inr, refl, sym, ◌∙◌, ap, subst, arith}
use Rattle.std.specs.Prelude.{Contains, ◌==◌, ◌&&◌, not, find, Option, None, Some, if◌then◌else◌}
use Rattle.std.specs.List.{flat_map}
use Rattle.std.specs.Option.{option_or}
use Rattle.std.proofs.lemmas.Bool.{eqb-true, true≢false, and_parts}
use Rattle.std.proofs.lemmas.Bool.Decides.{eqb_tells}
use Rattle.std.proofs.lemmas.List.{append_assoc}
use Rattle.std.proofs.lemmas.List.Elements.{Contains-append_cases, Contains-append_left, Contains-append_right}
use Rattle.std.proofs.lemmas.List.Folds.{find-append}
use Rattle.volume_header.specs.declared.header.VolumeHeader.{VolumeHeader}
use Rattle.hx_bytes.specs.declared.extents.ForkRecord.{ForkRecord}
use Rattle.cat_records.specs.declared.record.CatRecord.{CatRecord}
use Rattle.cat_records.specs.declared.record.CatRecord.TheVariants.{Folder, File, Thread}
use Rattle.hfs_volume.specs.Records.{Placed, Overflow, entries_of, id_of, is_empty}
use Rattle.hfs_volume.specs.Forks.{Owned, forks_in, all_forks, special_forks, file_forks, blocks_owned, data_kind, resource_kind}
use Rattle.hfs_volume.specs.Reclaim.{is_fork, blocks_found}
use Rattle.hfs_volume.proofs.Members.{first_or_later, in_one}
use Rattle.hfs_volume.proofs.Fitting.{differs, not_same}
use Rattle.hfs_volume.proofs.Flat.{Pieces, flat_pieces, found_some}
use Rattle.hfs_volume.proofs.Reaching.{flat_cases}
use Rattle.hfs_volume.proofs.Sides.{OneMore, entries_more}

-- ---- another value at a place

-- the pieces of the entries of records
abbrev pieces_of : {Y : Type 0} → (Placed → List Y) → List Placed → List Y
pieces_of f records = flat_map f (entries_of records)

-- an entry with another value of the same forks
pub forks_swapped : (entry : Placed) (value : CatRecord) → forks_in value ≡ forks_in entry.value → (front back : List Placed) → file_forks (front ++ record entry { value = value } ∷ back) ≡ file_forks (front ++ entry ∷ back)
forks_swapped entry value same [] back = by (not (is_empty entry.name))
  where
    by : (b : Bool) → flat_map (λ (p : Placed). forks_in p.value) ((if b then record entry { value = value } ∷ [] else []) ++ entries_of back) ≡ flat_map (λ (p : Placed). forks_in p.value) ((if b then entry ∷ [] else []) ++ entries_of back)
    by true = ap (λ l. l ++ flat_map (λ (p : Placed). forks_in p.value) (entries_of back)) same
    by false = refl
forks_swapped entry value same (x ∷ front) back = by (not (is_empty x.name)) (forks_swapped entry value same front back)
  where
    by : (b : Bool) → file_forks (front ++ record entry { value = value } ∷ back) ≡ file_forks (front ++ entry ∷ back)
        → flat_map (λ (p : Placed). forks_in p.value) ((if b then x ∷ [] else []) ++ entries_of (front ++ record entry { value = value } ∷ back)) ≡ flat_map (λ (p : Placed). forks_in p.value) ((if b then x ∷ [] else []) ++ entries_of (front ++ entry ∷ back))
    by true rest = ap (λ l. forks_in x.value ++ l) rest
    by false rest = rest

-- ---- an entry more

none_found : (overflow : List Overflow) (test : Owned → Bool) (forks : List Owned) → ((owned : Owned) → Contains forks owned → test owned ≡ true → blocks_owned overflow owned ≡ []) → blocks_found overflow (find test forks) ≡ []
none_found overflow test forks none = by_case (find test forks) refl
  where
    by_case : (o : Option Owned) → find test forks ≡ o → blocks_found overflow o ≡ []
    by_case None is = refl
    by_case (Some owned) is = let it = found_some test forks owned is in none owned it.0 it.1

find_nothing : {X : Type 0} (test : X → Bool) (xs : List X) → ((x : X) → Contains xs x → test x ≡ false) → find test xs ≡ None
find_nothing test xs none = by_case (find test xs) refl
  where
    by_case : (o : Option _) → find test xs ≡ o → o ≡ None
    by_case None is = refl
    by_case (Some x) is = let it = found_some test xs x is in absurd (true≢false (sym it.1 ∙ none x it.0))

find_without : {X : Type 0} (test : X → Bool) (front mid back : List X) → ((x : X) → Contains mid x → test x ≡ false) → find test (front ++ (mid ++ back)) ≡ find test (front ++ back)
find_without test front mid back none =
    find-append test front (mid ++ back) ∙ ap (option_or (find test front)) (find-append test mid back ∙ ap (λ o. option_or o (find test back)) (find_nothing test mid none)) ∙ sym (find-append test front back)

or_none : {X : Type 0} (o : Option X) → option_or o None ≡ o
or_none None = refl
or_none (Some x) = refl

-- what is found among some items alone
find_among : {X : Type 0} (test : X → Bool) (front mid back : List X) → ((x : X) → Contains front x → test x ≡ false) → ((x : X) → Contains back x → test x ≡ false) → find test (front ++ (mid ++ back)) ≡ find test mid
find_among test front mid back before behind =
    find-append test front (mid ++ back) ∙ ap (λ o. option_or o (find test (mid ++ back))) (find_nothing test front before) ∙ find-append test mid back ∙ ap (option_or (find test mid)) (find_nothing test back behind) ∙ or_none (find test mid)

special_low : (head : VolumeHeader) (owned : Owned) → Contains (special_forks head) owned → owned.id < 16
special_low head owned stands = elim (first_or_later (special 3 head.extents_fork) owned (special 4 head.catalog_fork ∷ special 6 head.allocation_fork ∷ special 7 head.startup_fork ∷ special 8 head.attributes_fork ∷ []) stands) [
  | inl same ↦ omega (arith, ap (λ (o : Owned). o.id) same)
  | inr a ↦ elim (first_or_later (special 4 head.catalog_fork) owned (special 6 head.allocation_fork ∷ special 7 head.startup_fork ∷ special 8 head.attributes_fork ∷ []) a) [
    | inl same ↦ omega (arith, ap (λ (o : Owned). o.id) same)
    | inr b ↦ elim (first_or_later (special 6 head.allocation_fork) owned (special 7 head.startup_fork ∷ special 8 head.attributes_fork ∷ []) b) [
      | inl same ↦ omega (arith, ap (λ (o : Owned). o.id) same)
      | inr c ↦ elim (first_or_later (special 7 head.startup_fork) owned (special 8 head.attributes_fork ∷ []) c) [
        | inl same ↦ omega (arith, ap (λ (o : Owned). o.id) same)
        | inr d ↦ omega (arith, ap (λ (o : Owned). o.id) (in_one (special 8 head.attributes_fork) owned d))
      ]
    ]
  ]
]
  where
    special : ℕ → ForkRecord → Owned
    special n fork = record { id = n; kind = data_kind; fork = fork }

-- the forks of an entry have its number
number_of : (value : CatRecord) (owned : Owned) → Contains (forks_in value) owned → owned.id ≡ id_of (record { parent = 0; name = []; value = value })
number_of (Folder folder) owned stands = absurd (omega (arith, stands.1))
number_of (File file) owned stands =
    let one : Owned = record { id = file.fields.id; kind = data_kind; fork = file.data_fork } in
    let two : Owned = record { id = file.fields.id; kind = resource_kind; fork = file.resource_fork } in
    elim (first_or_later one owned (two ∷ []) stands) [
      | inl same ↦ ap (λ (o : Owned). o.id) same
      | inr later ↦ ap (λ (o : Owned). o.id) (in_one two owned later)
    ]
number_of (Thread thread) owned stands = absurd (omega (arith, stands.1))

number_found : (id kind : ℕ) (owned : Owned) → is_fork id kind owned ≡ true → owned.id ≡ id
number_found id kind owned found = eqb-true owned.id id (and_parts (owned.id == id) (owned.kind == kind) found).0

module _ {entry : Placed} {less more : List Placed} (side : OneMore entry less more) (high : 16 ≤ id_of entry) (fresh : (p : Placed) → Contains (entries_of less) p → (id_of p == id_of entry) ≡ false) where
  pieces : Pieces (λ (p : Placed). forks_in p.value) entry (entries_of less) (entries_of more)
  pieces = flat_pieces (λ (p : Placed). forks_in p.value) entry (entries_of less) (entries_of more) (entries_more side)

  -- no other fork has the entry's number
  other_number : (head : VolumeHeader) (owned : Owned) → Contains (special_forks head ++ (pieces.front ++ pieces.back)) owned → owned.id ≢ id_of entry
  other_number head owned stands same = elim (Contains-append_cases (special_forks head) (pieces.front ++ pieces.back) owned stands) [
    | inl special ↦ omega (arith, special_low head owned special, same, high)
    | inr file ↦
        let found = flat_cases (λ (p : Placed). forks_in p.value) (entries_of less) owned (subst (λ l. Contains l owned) (sym pieces.was) file) in
        not_same (id_of found.0) (id_of entry) (fresh found.0 found.1) (sym (number_of found.0.value owned found.2) ∙ same)
  ]

  -- forks of other numbers are found as without it
  found_without : (head : VolumeHeader) (id kind : ℕ) → id ≢ id_of entry → find (is_fork id kind) (all_forks head more) ≡ find (is_fork id kind) (all_forks head less)
  unfolding all_forks
  found_without head id kind other =
      ap (λ l. find (is_fork id kind) (special_forks head ++ l)) pieces.is
      ∙ (find-append (is_fork id kind) (special_forks head) (pieces.front ++ (forks_in entry.value ++ pieces.back))
      ∙ ap (option_or (find (is_fork id kind) (special_forks head)))
      (find_without (is_fork id kind) pieces.front (forks_in entry.value) pieces.back (λ owned stands. ap (λ b. b && (owned.kind == kind)) (differs owned.id id (λ same. other (sym same ∙ number_of entry.value owned stands)))))
      ∙ sym (find-append (is_fork id kind) (special_forks head) (pieces.front ++ pieces.back)))
      ∙ ap (λ l. find (is_fork id kind) (special_forks head ++ l)) (sym pieces.was)

  isnt : (head : VolumeHeader) (kind : ℕ) (owned : Owned) → Contains (special_forks head ++ (pieces.front ++ pieces.back)) owned → is_fork (id_of entry) kind owned ≡ false
  isnt head kind owned stands = ap (λ b. b && (owned.kind == kind)) (differs owned.id (id_of entry) (other_number head owned stands))

  -- its own are found among its own
  found_own : (head : VolumeHeader) (kind : ℕ) → find (is_fork (id_of entry) kind) (all_forks head more) ≡ find (is_fork (id_of entry) kind) (forks_in entry.value)
  unfolding all_forks
  found_own head kind =
      ap (λ l. find (is_fork (id_of entry) kind) (special_forks head ++ l)) pieces.is
      ∙ ap (find (is_fork (id_of entry) kind)) (sym (append_assoc (special_forks head) pieces.front (forks_in entry.value ++ pieces.back)))
      ∙ find_among (is_fork (id_of entry) kind) (special_forks head ++ pieces.front) (forks_in entry.value) pieces.back (λ owned stands. isnt head kind owned (early owned stands))
      (λ owned stands. isnt head kind owned (Contains-append_right (special_forks head) (pieces.front ++ pieces.back) owned (Contains-append_right pieces.front pieces.back owned stands)))
    where
      early : (owned : Owned) → Contains (special_forks head ++ pieces.front) owned → Contains (special_forks head ++ (pieces.front ++ pieces.back)) owned
      early owned stands = subst (λ l. Contains l owned) (append_assoc (special_forks head) pieces.front pieces.back) (Contains-append_left (special_forks head ++ pieces.front) pieces.back owned stands)

  -- without it none are
  found_gone : (head : VolumeHeader) (kind : ℕ) → find (is_fork (id_of entry) kind) (all_forks head less) ≡ None
  unfolding all_forks
  found_gone head kind = ap (λ l. find (is_fork (id_of entry) kind) (special_forks head ++ l)) pieces.was ∙ find_nothing (is_fork (id_of entry) kind) (special_forks head ++ (pieces.front ++ pieces.back)) (isnt head kind)

  -- an entry without blocks
  pub found_more : (head : VolumeHeader) (overflow : List Overflow) → ((owned : Owned) → Contains (forks_in entry.value) owned → blocks_owned overflow owned ≡ []) → (id kind : ℕ)
      → blocks_found overflow (find (is_fork id kind) (all_forks head more)) ≡ blocks_found overflow (find (is_fork id kind) (all_forks head less))
  found_more head overflow empty id kind = elim (eqb_tells id (id_of entry)) [
    | inl own ↦ subst (λ n. blocks_found overflow (find (is_fork n kind) (all_forks head more)) ≡ blocks_found overflow (find (is_fork n kind) (all_forks head less))) (sym own.1)
        (ap (blocks_found overflow) (found_own head kind) ∙ none_found overflow (is_fork (id_of entry) kind) (forks_in entry.value) (λ owned stands found. empty owned stands) ∙ sym (ap (blocks_found overflow) (found_gone head kind)))
    | inr other ↦ ap (blocks_found overflow) (found_without head id kind other.1)
  ]

-- ---- an entry at another place

module _ {entry : Placed} {parent : ℕ} {name : List ℕ} {less old new : List Placed} (out : OneMore entry less old) (back : OneMore (record entry { parent = parent; name = name }) less new) (high : 16 ≤ id_of entry)
    (fresh : (p : Placed) → Contains (entries_of less) p → (id_of p == id_of entry) ≡ false)
  where
    pub found_moved : (head : VolumeHeader) (id kind : ℕ) → find (is_fork id kind) (all_forks head new) ≡ find (is_fork id kind) (all_forks head old)
    found_moved head id kind = elim (eqb_tells id (id_of entry)) [
      | inl own ↦ subst (λ n. find (is_fork n kind) (all_forks head new) ≡ find (is_fork n kind) (all_forks head old)) (sym own.1) (found_own back high fresh head kind ∙ sym (found_own out high fresh head kind))
      | inr other ↦ found_without back high fresh head id kind other.1 ∙ sym (found_without out high fresh head id kind other.1)
    ]
