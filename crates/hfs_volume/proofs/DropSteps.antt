-- What a step of reclaiming that drops an attribute or an entry does: that one goes, and no fork has other blocks.
use Rattle.fork_map.specs.Blocks.{blocks_of}
use Rattle.hfs_volume.specs.Values.{value_extents}
use Rattle.std.proofs.Common.{◌≡◌, ◌≢◌, ◌<◌, ℕ, Bool, true, false, List, [], ◌∷◌, ◌++◌, map, inl, inr, refl, sym, ◌∙◌, ap, subst, arith}
use Rattle.std.specs.Prelude.{Contains, ◌==◌, ◌&&◌, not, find, Option, None, Some, if◌then◌else◌}
use Rattle.std.specs.Option.{option_or}
use Rattle.std.proofs.lemmas.Bool.{eqb-true, true≢false, and_parts}
use Rattle.std.proofs.lemmas.Bool.Decides.{eqb_tells}
use Rattle.std.proofs.lemmas.List.Elements.{Contains-append_cases}
use Rattle.std.proofs.lemmas.List.Folds.{find-append}
use Rattle.volume_header.specs.declared.header.VolumeHeader.{VolumeHeader}
use Rattle.hx_bytes.specs.declared.extents.ForkRecord.{ForkRecord}
use Rattle.hfs_model.specs.Sorted.{kept}
use Rattle.hfs_volume.specs.Records.{Placed, Overflow, attribute_of, entries_of, id_of, is_thread}
use Rattle.hfs_volume.specs.Forks.{Owned, forks_in, all_forks, special_forks, file_forks, blocks_owned, data_kind}
use Rattle.hfs_volume.specs.Content.{VolumeState, records_of, overflow_in_volume, attributes_of}
use Rattle.hfs_volume.specs.Reclaim.{Does, DropAttribute, DropOrphan, is_attribute, is_fork, blocks_at, blocks_found}
use Rattle.hfs_volume.specs.Changes.{DropsEntry, DropsAttribute, InCatalog, InValues, AreSorted}
use Rattle.hfs_volume.specs.Commands.{with_fields}
use Rattle.hfs_volume.specs.Laws.{IsShaped, MayDrop}
use Rattle.hfs_volume.specs.Reclaiming.{DropsOrphanEntry}
use Rattle.hfs_volume.proofs.Members.{first_or_later, in_one}
use Rattle.hfs_volume.proofs.Fitting.{differs, not_same}
use Rattle.hfs_volume.proofs.Flat.{Pieces, flat_pieces, found_some}
use Rattle.hfs_volume.proofs.Reaching.{flat_cases}
use Rattle.hfs_volume.proofs.Sides.{OneMore, entries_more}
use Rattle.hfs_volume.proofs.Owning.{fork_cases, none_owned}
use Rattle.hfs_volume.proofs.Removing.{removed_side, removed_fresh}
use Rattle.hfs_volume.proofs.Keeping.{value_cases}
use Rattle.hfs_volume.proofs.Refielding.{kind_of, there_was}
use Rattle.hfs_volume.proofs.BlockRecords.{fork_id}
use Rattle.hfs_volume.proofs.BlockSound.{recounted_at}
use Rattle.hfs_volume.proofs.WritForks.{value_blocks}

-- ---- forks that are found

-- where no fork that passes has blocks, none are found
none_found : (overflow : List Overflow) (test : Owned → Bool) (forks : List Owned) → ((owned : Owned) → Contains forks owned → test owned ≡ true → blocks_owned overflow owned ≡ []) → blocks_found overflow (find test forks) ≡ []
none_found overflow test forks none = by_case (find test forks) refl
  where
    by_case : (o : Option Owned) → find test forks ≡ o → blocks_found overflow o ≡ []
    by_case None is = refl
    by_case (Some owned) is = let it = found_some test forks owned is in none owned it.0 it.1

find_nothing : {X : Type 0} (test : X → Bool) (xs : List X) → ((x : X) → Contains xs x → test x ≡ false) → find test xs ≡ None
find_nothing test xs none = by_case (find test xs) refl
  where
    by_case : (o : Option _) → find test xs ≡ o → o ≡ None
    by_case None is = refl
    by_case (Some x) is = let it = found_some test xs x is in absurd (true≢false (sym it.1 ∙ none x it.0))

-- items of which none passes may be left out
find_without : {X : Type 0} (test : X → Bool) (front mid back : List X) → ((x : X) → Contains mid x → test x ≡ false) → find test (front ++ (mid ++ back)) ≡ find test (front ++ back)
find_without test front mid back none =
    find-append test front (mid ++ back) ∙ ap (option_or (find test front)) (find-append test mid back ∙ ap (λ o. option_or o (find test back)) (find_nothing test mid none)) ∙ sym (find-append test front back)

-- the forks of special files have low numbers
special_low : (head : VolumeHeader) (owned : Owned) → Contains (special_forks head) owned → owned.id < 16
special_low head owned stands = elim (first_or_later (special 3 head.extents_fork) owned (special 4 head.catalog_fork ∷ special 6 head.allocation_fork ∷ special 7 head.startup_fork ∷ special 8 head.attributes_fork ∷ []) stands) [
  | inl same ↦ omega (arith, ap (λ (o : Owned). o.id) same)
  | inr a ↦ elim (first_or_later (special 4 head.catalog_fork) owned (special 6 head.allocation_fork ∷ special 7 head.startup_fork ∷ special 8 head.attributes_fork ∷ []) a) [
    | inl same ↦ omega (arith, ap (λ (o : Owned). o.id) same)
    | inr b ↦ elim (first_or_later (special 6 head.allocation_fork) owned (special 7 head.startup_fork ∷ special 8 head.attributes_fork ∷ []) b) [
      | inl same ↦ omega (arith, ap (λ (o : Owned). o.id) same)
      | inr c ↦ elim (first_or_later (special 7 head.startup_fork) owned (special 8 head.attributes_fork ∷ []) c) [
        | inl same ↦ omega (arith, ap (λ (o : Owned). o.id) same)
        | inr d ↦ omega (arith, ap (λ (o : Owned). o.id) (in_one (special 8 head.attributes_fork) owned d))
      ]
    ]
  ]
]
  where
    special : ℕ → ForkRecord → Owned
    special n fork = record { id = n; kind = data_kind; fork = fork }

-- ---- an entry that has no blocks goes

module _ (entry : Placed) (old new : VolumeState) (drops : InCatalog (DropsEntry entry) old new) (sorted : AreSorted old.catalog_pairs) (may : MayDrop entry old) (shaped : IsShaped old) where
  abbrev was : List Placed
  was = records_of old

  abbrev is : List Placed
  is = records_of new

  abbrev more : List Overflow
  more = overflow_in_volume old

  side : OneMore entry is was
  side = removed_side entry old new drops sorted may shaped

  pieces : Pieces (λ (p : Placed). forks_in p.value) entry (entries_of is) (entries_of was)
  pieces = flat_pieces (λ (p : Placed). forks_in p.value) entry (entries_of is) (entries_of was) (entries_more side)

  -- no fork that is left has the entry's number
  left_fork : (owned : Owned) → Contains (all_forks old.head is) owned → owned.id ≢ id_of entry
  unfolding all_forks
  left_fork owned stands same = elim (Contains-append_cases (special_forks old.head) (file_forks is) owned stands) [
    | inl special ↦ omega (arith, special_low old.head owned special, same, may.high)
    | inr file ↦
        let found = flat_cases (λ (p : Placed). forks_in p.value) (entries_of is) owned file in
        not_same (id_of found.0) (id_of entry) (removed_fresh entry old new drops sorted may shaped found.0 found.1) (sym (fork_id found.0.value owned found.2) ∙ same)
  ]

  found_without : (id kind : ℕ) → id ≢ id_of entry → find (is_fork id kind) (all_forks old.head was) ≡ find (is_fork id kind) (all_forks old.head is)
  unfolding all_forks
  found_without id kind other =
      ap (λ l. find (is_fork id kind) (special_forks old.head ++ l)) pieces.is
      ∙ (find-append (is_fork id kind) (special_forks old.head) (pieces.front ++ (forks_in entry.value ++ pieces.back))
      ∙ ap (option_or (find (is_fork id kind) (special_forks old.head)))
      (find_without (is_fork id kind) pieces.front (forks_in entry.value) pieces.back (λ owned stands. ap (λ b. b && (owned.kind == kind)) (differs owned.id id (λ same. other (sym same ∙ fork_id entry.value owned stands)))))
      ∙ sym (find-append (is_fork id kind) (special_forks old.head) (pieces.front ++ pieces.back)))
      ∙ ap (λ l. find (is_fork id kind) (special_forks old.head ++ l)) (sym pieces.was)

  same_found : (id kind : ℕ) → blocks_found more (find (is_fork id kind) (all_forks old.head is)) ≡ blocks_found more (find (is_fork id kind) (all_forks old.head was))
  same_found id kind = elim (eqb_tells id (id_of entry)) [
    | inl own ↦
        none_found more (is_fork id kind) (all_forks old.head is) (λ owned stands found. absurd (left_fork owned stands (number owned found ∙ own.1)))
        ∙ sym (none_found more (is_fork id kind) (all_forks old.head was) (λ owned stands found. elim (fork_cases side old.head owned stands) [
          | inl its ↦ none_owned more (forks_in entry.value) may.empty owned its
          | inr left ↦ absurd (left_fork owned left (number owned found ∙ own.1))
        ]))
    | inr other ↦ ap (blocks_found more) (sym (found_without id kind other.1))
  ]
    where
      number : (owned : Owned) → is_fork id kind owned ≡ true → owned.id ≡ id
      number owned found = eqb-true owned.id id (and_parts (owned.id == id) (owned.kind == kind) found).0

  pub dropped_blocks : (id kind : ℕ) → blocks_at new id kind ≡ blocks_at old id kind
  dropped_blocks id kind = ap (λ v. blocks_at v id kind) drops.rest ∙ same_found id kind

pub orphan_drop_does : (id : ℕ) (old begun new : VolumeState) (does : DropsOrphanEntry id old new) → InCatalog (DropsEntry does.entry) begun does.dropped → AreSorted begun.catalog_pairs → MayDrop does.entry begun → IsShaped begun → IsShaped does.dropped
    → ((other kind : ℕ) → blocks_at begun other kind ≡ blocks_at old other kind) → attributes_of begun ≡ attributes_of old → Does (DropOrphan id) old new
orphan_drop_does id old begun new does drops sorted may shaped shaped_dropped begun_blocks begun_attributes = (
  find_nothing (λ (p : Placed). id_of p == id) (entries_of (records_of new)) gone,
  λ other kind no_tree. value_blocks does.loses.entry (with_fields (λ _. does.loses.after) does.loses.entry.value) does.dropped new does.loses.changes kind_is shaped_dropped other kind
      ∙ dropped_blocks does.entry begun does.dropped drops sorted may shaped other kind ∙ begun_blocks other kind,
  λ other name. ap (λ l. blocks_of (value_extents l other name)) (ap attributes_of does.loses.changes.rest ∙ ap attributes_of drops.rest ∙ begun_attributes),
)
  where
    kind_is : is_thread does.loses.entry.value ≡ false
    kind_is = kind_of does.entry.parent does.dropped new does.loses

    left : (p : Placed) → Contains (entries_of (records_of does.dropped)) p → (id_of p == id) ≡ false
    left p stands = subst (λ n. (id_of p == n) ≡ false) does.is_entry (removed_fresh does.entry begun does.dropped drops sorted may shaped p stands)

    gone : (p : Placed) → Contains (entries_of (records_of new)) p → (id_of p == id) ≡ false
    gone p stands = elim (value_cases does.loses.entry (with_fields (λ _. does.loses.after) does.loses.entry.value) does.dropped new does.loses.changes kind_is shaped_dropped p stands) [
      | inl same ↦ ap (λ (q : Placed). id_of q == id) same ∙ ap (λ n. n == id) does.loses.changes.changes.alike.id ∙ left does.loses.entry (there_was does.entry.parent does.dropped new does.loses shaped_dropped)
      | inr there ↦ left p there
    ]

-- ---- an attribute goes

map_kept : {X Y : Type 0} (f : X → Y) (test : Y → Bool) (xs : List X) → map f (kept (λ x. test (f x)) xs) ≡ kept test (map f xs)
map_kept f test [] = refl
map_kept f test (x ∷ xs) = by_test (map_kept f test xs) (test (f x))
  where
    by_test : map f (kept (λ x. test (f x)) xs) ≡ kept test (map f xs) → (b : Bool)
        → map f ((if b then x ∷ [] else []) ++ kept (λ x. test (f x)) xs) ≡ (if b then f x ∷ [] else []) ++ kept test (map f xs)
    by_test rest true = ap (λ l. f x ∷ l) rest
    by_test rest false = rest

pub attribute_drop_does : (id : ℕ) (name freed : List ℕ) (old new : VolumeState) → InValues (DropsAttribute id name) [] freed old new → Does (DropAttribute id name) old new
attribute_drop_does id name freed old new does = (
  ap (map attribute_of) does.changes ∙ map_kept attribute_of (λ attribute. not (is_attribute id name attribute)) old.attribute_pairs,
  λ other kind no_tree. ap (λ v. blocks_at v other kind) does.rest ∙ recounted_at does.free does.next old other kind,
)
