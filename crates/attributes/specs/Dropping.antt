-- Records taken away one after another: those that pass a test, the first of them first.
use Rattle.std.specs.Prelude.{◌≡◌, ◌<◌, ℕ, ◌+◌, ◌-◌, ◌^◌, ◌==◌, min, not, Bool, true, false, List, [], ◌∷◌, ◌++◌, length, Option, None, Some, slice_index_or, if◌then◌else◌}
use Rattle.std.specs.List.{flat_map}
use Rattle.hx_bytes.specs.declared.extents.Extent.{Extent}
use Rattle.std.specs.declared.cmp.Ordering.TheVariants.{Equal}
use Rattle.btree_node.specs.Keys.{attr_cmp}
use Rattle.btree_node.specs.Levels.{Pair}
use Rattle.btree_node.specs.Store.{Store}
use Rattle.btree_node.specs.Tree.{pairs_of}
use Rattle.btree_edit.specs.Desk.{HoldsPair}
use Rattle.btree_edit.specs.declared.desk.Desk.{Desk}
use Rattle.hfs_model.specs.Sorted.{kept}
use Rattle.hfs_volume.specs.Changes.{is_attribute_of}
use Rattle.hfs_volume.specs.Records.{attribute_of}
use Rattle.hfs_volume.specs.Values.{used_extents}
use Rattle.attributes.specs.declared.value.Dropped.{Dropped}

-- the first pair that passes a test stands at this place
pub record IsFirstAt (test : Pair → Bool) (pairs : List Pair) (place : ℕ) : Type 0 where
  pub inside : place < length pairs
  pub passes : test (slice_index_or pairs place ([], [])) ≡ true
  pub before : (k : ℕ) → k < place → test (slice_index_or pairs k ([], [])) ≡ false

-- the extents in use of a pair's record
abbrev pub extents_of_pair : Pair → List Extent
extents_of_pair pair = used_extents (attribute_of pair)

-- the desk holds the pair with a key
abbrev pub HoldsKey : List ℕ → Store → Desk → Type 0
HoldsKey key store desk = (place : ℕ) × HoldsPair store desk place × (attr_cmp desk.held.key key ≡ Equal)

-- true: the desk holds the first pair that passes. false: none does.
abbrev pub HoldsFirst : (Pair → Bool) → Store → Desk → Bool → Type 0
HoldsFirst test store desk true = (place : ℕ) × HoldsPair store desk place × IsFirstAt test (pairs_of store) place
HoldsFirst test store desk false = kept test (pairs_of store) ≡ []

-- the key of the first pair that passes, whose extents in use were added; none where none does
abbrev pub FindsFirst : (Pair → Bool) → List Pair → List Extent → List Extent → Option (List ℕ) → Type 0
FindsFirst test pairs blocks blocks_new None = (kept test pairs ≡ []) × (blocks_new ≡ blocks)
FindsFirst test pairs blocks blocks_new (Some key) =
    (place : ℕ) × IsFirstAt test pairs place × ((slice_index_or pairs place ([], [])).0 ≡ key) × (blocks_new ≡ blocks ++ extents_of_pair (slice_index_or pairs place ([], [])))

-- the pair, the first that passes, is gone, and all others are as they were
pub record DropsOne (test : Pair → Bool) (pair : Pair) (old new : List Pair) : Type 0 where
  pub first : kept test old ≡ pair ∷ kept test new
  pub others : kept (λ other. not (test other)) new ≡ kept (λ other. not (test other)) old

-- true: the first pair that passes is gone, and its extents in use were added. false: none passes.
abbrev pub DropsFirst : (Pair → Bool) → List Pair → List Pair → List Extent → List Extent → Bool → Type 0
DropsFirst test old new blocks blocks_new true = (pair : Pair) × DropsOne test pair old new × (blocks_new ≡ blocks ++ extents_of_pair pair)
DropsFirst test old new blocks blocks_new false = (new ≡ old) × (kept test old ≡ []) × (blocks_new ≡ blocks)

-- whether a pair is a record of the attribute of this name of this folder or file
abbrev pub is_named : ℕ → List ℕ → Pair → Bool
is_named id name pair = is_attribute_of id name (attribute_of pair)

-- whether a record is the first of its attribute
abbrev pub is_first : Pair → Bool
is_first pair = (attribute_of pair).start == 0

-- a count with one more, if it is one, up to the greatest number
abbrev pub counted : ℕ → Pair → ℕ
counted count pair = min (count + (if is_first pair then 1 else 0)) (2 ^ 32 - 1)

-- the same, where the first records are counted
abbrev pub FindsCounted : (Pair → Bool) → List Pair → Dropped → Dropped → Option (List ℕ) → Type 0
FindsCounted test pairs gone gone_new None = (kept test pairs ≡ []) × (gone_new ≡ gone)
FindsCounted test pairs gone gone_new (Some key) =
    (place : ℕ) × IsFirstAt test pairs place × ((slice_index_or pairs place ([], [])).0 ≡ key)
    × (gone_new ≡ record { count = counted gone.count (slice_index_or pairs place ([], [])); blocks = gone.blocks ++ extents_of_pair (slice_index_or pairs place ([], [])) })

-- the same of a removal
abbrev pub DropsCounted : (Pair → Bool) → List Pair → List Pair → Dropped → Dropped → Bool → Type 0
DropsCounted test old new gone gone_new true =
    (pair : Pair) × DropsOne test pair old new × (gone_new ≡ record { count = counted gone.count pair; blocks = gone.blocks ++ extents_of_pair pair })
DropsCounted test old new gone gone_new false = (new ≡ old) × (kept test old ≡ []) × (gone_new ≡ gone)

-- all pairs that pass are gone, their extents in use were added, and all others are as they were
pub record DropsAll (test : Pair → Bool) (old new : List Pair) (blocks blocks_new : List Extent) : Type 0 where
  pub left : new ≡ kept (λ pair. not (test pair)) old
  pub added : blocks_new ≡ blocks ++ flat_map extents_of_pair (kept test old)
