-- The rules of links, where a name is given, taken away or put aside.
use Rattle.std.specs.Prelude.{◌≡◌, ◌<◌, ℕ, ◌==◌, true, false, List, length, All, Contains, Some}
use Rattle.btree_node.specs.Levels.{Pair}
use Rattle.hfs_volume.specs.Links.{AreGoodLinks, AreLinks, IsHidden, is_shared_file, links_to, node_name, private_id}
use Rattle.hfs_volume.specs.Records.{Placed, Overflow, placed_in, entries_of, record_at, is_placed_at, is_link, special_of}
use Rattle.hard_links.specs.declared.place.EntryAt.{EntryAt}

-- no further extents are told of this CNID
abbrev pub HasNoMore : List Overflow → ℕ → Type 0
HasNoMore overflow id = All (λ more. (more.id == id) ≡ false) overflow

-- Links may stand at two places: neither lies in the private folder, and no further extents are told of the two CNIDs.
pub record MayShow (from to : EntryAt) (one other : ℕ) (records : List Placed) (overflow : List Overflow) : Type 0 where
  pub from_seen : IsHidden records from.parent → ⊥
  pub to_seen : IsHidden records to.parent → ⊥
  pub first : HasNoMore overflow one
  pub second : HasNoMore overflow other

-- The links of a catalog keep their rules, but for the count of the file at one place, which no link names.
pub record AreLinksBut (parent : ℕ) (name : List ℕ) (records : List Placed) (overflow : List Overflow) : Type 0 where
  pub good : AreGoodLinks records overflow
  pub counts : (reference : ℕ) (file : Placed) → Contains (entries_of records) file → is_placed_at parent name file ≡ false → is_shared_file records reference file ≡ true
      → special_of file ≡ length (links_to records reference)
  pub unnamed : (reference : ℕ) (file : Placed) → Contains (entries_of records) file → is_placed_at parent name file ≡ true → is_shared_file records reference file ≡ true → length (links_to records reference) ≡ 0

-- a place has no record of a link
abbrev pub NamesNoLink : EntryAt → List Pair → Type 0
NamesNoLink at pairs = (entry : Placed) → record_at (placed_in pairs) at.parent at.name ≡ Some entry → is_link entry ≡ false

-- The links keep their rules behind the removal of one. Where it was the last link of its file, that file is still to be put aside, and
-- its count isn't that of its links.
abbrev pub KeepsRules : ℕ → EntryAt → ℕ → List Pair → List Pair → List Overflow → Type 0
KeepsRules private at left old new overflow =
    (0 < left → AreLinks (placed_in new) overflow)
    × ((entry : Placed) → record_at (placed_in old) at.parent at.name ≡ Some entry → left ≡ 0 → AreLinksBut private (node_name (special_of entry)) (placed_in new) overflow)
    × (private_id (placed_in new) ≡ Some private)
