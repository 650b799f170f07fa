-- The records of one level of a tree: which of them are good, and how they join those before them.
use Rattle.std.specs.Prelude.{◌≡◌, ◌<◌, ◌≤◌, ℕ, ◌-◌, ◌++◌, List, [], length, take, slice_index_or}
use Rattle.std.specs.List.{All}
use Rattle.std.specs.declared.cmp.Ordering.{Ordering}
use Rattle.std.specs.declared.cmp.Ordering.TheVariants.{Less}
use Rattle.btree_node.specs.Levels.{key_of, value_of, Ascends}
use Rattle.fsck_scan.specs.declared.records.Flaw.{Flaw}
use Rattle.fsck_scan.specs.declared.records.Flaw.TheVariants as flaw

-- a record of a node at this height: a key of the order, not too long, and behind it a value in a leaf, or a child's number above
pub record IsGoodRecord (is_key is_value : List ℕ → Type 0) (most height : ℕ) (item : List ℕ) : Type 0 where
  pub key : is_key (key_of item)
  pub short : length item ≤ most
  pub leaf : height ≡ 1 → is_value (value_of item)
  pub index : 1 < height → length (value_of item) ≡ 4

-- a record's key is above that of the last of these, if there is one
abbrev pub GoesOn : (List ℕ → List ℕ → Ordering) → List (List ℕ) → List ℕ → Type 0
GoesOn cmp records item = 0 < length records → cmp (key_of (slice_index_or records (length records - 1) [])) (key_of item) ≡ Less

-- records that were read stand behind those before them: each is good, and the keys rise
pub record Takes (is_key is_value : List ℕ → Type 0) (cmp : List ℕ → List ℕ → Ordering) (most height : ℕ) (fresh old new : List (List ℕ)) : Type 0 where
  pub records : new ≡ old ++ fresh
  pub good : All (IsGoodRecord is_key is_value most height) fresh
  pub keys : All (λ item. is_key (key_of item)) new
  pub rising : Ascends cmp new

-- what is wrong with one of these records, which stand behind others
abbrev pub IsFlawed : (List ℕ → Type 0) → (List ℕ → Type 0) → (List ℕ → List ℕ → Ordering) → ℕ → ℕ → List (List ℕ) → List (List ℕ) → Flaw → Type 0
IsFlawed is_key is_value cmp most height fresh old flaw.Record = (k : ℕ) × (k < length fresh) × (IsGoodRecord is_key is_value most height (slice_index_or fresh k []) → ⊥)
IsFlawed is_key is_value cmp most height fresh old flaw.Order = (k : ℕ) × (k < length fresh) × (GoesOn cmp (old ++ take k fresh) (slice_index_or fresh k []) → ⊥)
