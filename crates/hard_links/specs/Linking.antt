-- What making and dropping links does to the records of a catalog.
use Rattle.std.specs.Prelude.{◌≡◌, ◌⊎◌, ◌<◌, ◌≤◌, ℕ, pos, ◌+◌, ◌++◌, true, false, List, [], Option, None, Some, codes, replicate, length, if◌then◌else◌}
use Rattle.hx_bytes.specs.declared.extents.ForkRecord.{ForkRecord}
use Rattle.btree_node.specs.Levels.{Pair}
use Rattle.cat_records.specs.declared.record.EntryFields.{EntryFields}
use Rattle.cat_records.specs.declared.record.FileRecord.{FileRecord}
use Rattle.cat_records.specs.declared.record.CatRecord.{CatRecord}
use Rattle.cat_records.specs.declared.record.CatRecord.TheVariants.{Folder, File, Thread}
use Rattle.catalog.specs.Pairs.{value_at}
use Rattle.hfs_model.specs.Step.{private_name}
use Rattle.hfs_volume.specs.Changes.{AreSorted, DropsEntry, MovesEntry, AddsWith, ChangesValue}
use Rattle.hfs_volume.specs.Commands.{with_fields}
use Rattle.hfs_volume.specs.Entries.{AreThreaded}
use Rattle.hfs_volume.specs.Links.{node_name, links_to, private_id, AreLinks}
use Rattle.hfs_volume.specs.Records.{Placed, Overflow, placed_in, record_at, is_file, is_link, is_link_type, id_of, special_of}
use Rattle.hard_links.specs.Numbers.{IsFirstFree}
use Rattle.hard_links.specs.Orphans.{file_in, NamesFile}
use Rattle.hard_links.specs.declared.place.EntryAt.{EntryAt}
use Rattle.hard_links.specs.declared.records.Target.{Target}
use Rattle.hard_links.specs.declared.shared.Shared.{Shared}
use Rattle.hard_links.specs.declared.linking.Linked.{Linked}
use Rattle.hard_links.specs.declared.linking.Linked.TheVariants as linked

-- ---- the record of a link

-- a fork without bytes and blocks
abbrev pub no_fork : ForkRecord
no_fork = record { logical_size = 0; clump_size = 0; total_blocks = 0; extents = record { extents = replicate 8 (record { start = 0; count = 0 }) } }

-- the fields of a link: a new file's, of the type and the creator of links, with the number of the file that it names
abbrev pub link_fields : (id reference created : ℕ) → EntryFields
link_fields id reference created = record {
  flags = 2;
  count = 0;
  id = id;
  created = created;
  changed = created;
  attribute = created;
  accessed = created;
  backup = 0;
  owner = 0;
  group = 0;
  admin_flags = 0;
  owner_flags = 0;
  mode = 33188;
  special = reference;
  finder = codes "hlnkhfs+" ++ replicate 24 0;
  encoding = 0;
  rest = 0;
}

-- a link's record, without a byte
abbrev pub link_record : (id reference created : ℕ) → FileRecord
link_record id reference created = record { fields = link_fields id reference created; data_fork = no_fork; resource_fork = no_fork }

-- a link at a place
abbrev pub link_at : EntryAt → (id reference created : ℕ) → Placed
link_at at id reference created = record { parent = at.parent; name = at.name; value = File (link_record id reference created) }

-- the create date in a record; 0 where there is none
abbrev pub created_in : Option CatRecord → ℕ
created_in None = 0
created_in (Some (Folder folder)) = folder.fields.created
created_in (Some (File file)) = file.fields.created
created_in (Some (Thread thread)) = 0

-- the create date of the private folder, which links have
abbrev pub link_date : List Pair → ℕ
link_date pairs = created_in (value_at pairs 2 private_name)

-- ---- counts

-- a file's record that says that it has so many links
abbrev pub with_special : ℕ → FileRecord → FileRecord
with_special links file = record file { fields = record file.fields { special = links } }

-- the file of an entry is another one's, of which it says that it has so many links
abbrev pub with_links : ℕ → CatRecord → CatRecord
with_links links value = with_fields (λ fields. record fields { special = links }) value

-- the record of a shared file says that it has so many links, and nothing else has changed
pub record CountsLinks (private : ℕ) (name : List ℕ) (links : ℕ) (old new : List Pair) : Type 0 where
  pub file : Placed
  pub found : record_at (placed_in old) private name ≡ Some file
  pub changes : ChangesValue file (with_links links file.value) old new

-- how many names the file of an entry has
abbrev pub names_of : List Pair → Placed → ℕ
names_of pairs entry = if is_link entry then length (links_to (placed_in pairs) (special_of entry)) else 1

-- The private folder has this CNID, and the links of the catalog keep their rules: each names a file in there, which counts them.
pub record HasLinks (private : ℕ) (pairs : List Pair) : Type 0 where
  pub folder : private_id (placed_in pairs) ≡ Some private
  pub overflow : List Overflow
  pub links : AreLinks (placed_in pairs) overflow

-- no folder or file has this CNID
abbrev pub IsUnused : List Pair → ℕ → Type 0
IsUnused pairs id = record_at (placed_in pairs) id [] ≡ None

-- ---- links made

-- A file has a record at one place; at another one there is none, and links may stand there: it isn't in the private folder. No folder or
-- file has one of two CNIDs, which differ.
pub record MayLink (private : ℕ) (from to : EntryAt) (one other : ℕ) (pairs : List Pair) : Type 0 where
  pub threads : AreThreaded pairs
  pub links : HasLinks private pairs
  pub file : NamesFile from pairs
  pub vacant : record_at (placed_in pairs) to.parent to.name ≡ None
  pub outside : to.parent ≡ private → ⊥
  pub first : IsUnused pairs one
  pub second : IsUnused pairs other
  pub apart : one ≡ other → ⊥

-- There is no record at two places, and no folder or file has one of two CNIDs.
pub record MayPut (from to : EntryAt) (one other : ℕ) (pairs : List Pair) : Type 0 where
  pub vacant : record_at (placed_in pairs) from.parent from.name ≡ None
  pub vacant_too : record_at (placed_in pairs) to.parent to.name ≡ None
  pub places : from.parent ≡ to.parent → from.name ≡ to.name → ⊥
  pub first : IsUnused pairs one
  pub second : IsUnused pairs other
  pub apart : one ≡ other → ⊥

-- links with this number were added at two places
pub record PutsLinks (from to : EntryAt) (one other reference date : ℕ) (old new : List Pair) : Type 0 where
  pub replaced : List Pair
  pub replaces : AddsWith (pos 0) (link_at from one reference date) old replaced
  pub sorted_replaced : AreSorted replaced
  pub links : AddsWith (pos 0) (link_at to other reference date) replaced new

-- a link was added, and the file under its number says that it has so many
pub record AddsLink (private : ℕ) (to : EntryAt) (id reference date many : ℕ) (old new : List Pair) : Type 0 where
  pub linked : List Pair
  pub links : AddsWith (pos 0) (link_at to id reference date) old linked
  pub sorted_linked : AreSorted linked
  pub counts : CountsLinks private (node_name reference) many linked new

-- the number of a file that gets its first link, and the create date of its links
pub record IsNewTarget (private own : ℕ) (pairs : List Pair) (target : Target) : Type 0 where
  pub first : IsFirstFree pairs private (codes "iNode") own target.reference
  pub date : target.created ≡ link_date pairs

-- The first link of a file: it stands in the private folder under a number, links to that number have its old name and the new one, and it
-- says that it has two.
pub record MakesFirst (private : ℕ) (from to : EntryAt) (one other : ℕ) (old new : List Pair) : Type 0 where
  pub entry : Placed
  pub found : record_at (placed_in old) from.parent from.name ≡ Some entry
  pub not_link : is_link entry ≡ false
  pub reference : ℕ
  pub first : IsFirstFree old private (codes "iNode") (id_of entry) reference
  pub moved : List Pair
  pub moves : MovesEntry entry private (node_name reference) old moved
  pub same_spare : moves.back.spare ≡ moves.out.spare
  pub sorted_moved : AreSorted moved
  pub replaced : List Pair
  pub replaces : AddsWith (pos 0) (link_at from one reference (link_date old)) moved replaced
  pub sorted_replaced : AreSorted replaced
  pub linked : List Pair
  pub links : AddsWith (pos 0) (link_at to other reference (link_date old)) replaced linked
  pub sorted_linked : AreSorted linked
  pub counts : CountsLinks private (node_name reference) 2 linked new

-- A later link: one more, and the file says so.
pub record MakesMore (private : ℕ) (from to : EntryAt) (id : ℕ) (old new : List Pair) : Type 0 where
  pub entry : Placed
  pub found : record_at (placed_in old) from.parent from.name ≡ Some entry
  pub is_one : is_link entry ≡ true
  pub linked : List Pair
  pub links : AddsWith (pos 0) (link_at to id (special_of entry) (link_date old)) old linked
  pub sorted_linked : AreSorted linked
  pub counts : CountsLinks private (node_name (special_of entry)) (length (links_to (placed_in old) (special_of entry)) + 1) linked new

-- TooManyLinks exactly where the file has the most names that it may have
abbrev pub AnswersLink : ℕ → Linked → Type 0
AnswersLink names linked.TooManyLinks = 32767 ≤ names
AnswersLink names linked.Done = names < 32767

-- what making a link does to the pairs, by its answer
abbrev pub Linking : ℕ → EntryAt → EntryAt → ℕ → ℕ → List Pair → List Pair → Linked → Type 0
Linking private from to one other old new linked.TooManyLinks = new ≡ old
Linking private from to one other old new linked.Done = MakesFirst private from to one other old new ⊎ MakesMore private from to one old new

-- What making a link answers, and what it does.
pub record MakesLink (private : ℕ) (from to : EntryAt) (one other : ℕ) (old new : List Pair) (answer : Linked) : Type 0 where
  pub entry : Placed
  pub found : record_at (placed_in old) from.parent from.name ≡ Some entry
  pub answers : AnswersLink (names_of old entry) answer
  pub does : Linking private from to one other old new answer

-- ---- links dropped

-- A link is gone, and the file that it named says how many are left. Where none is, the file is as it was.
pub record DropsLink (private : ℕ) (at : EntryAt) (left : ℕ) (old new : List Pair) : Type 0 where
  pub entry : Placed
  pub found : record_at (placed_in old) at.parent at.name ≡ Some entry
  pub is_one : is_link entry ≡ true
  pub dropped : List Pair
  pub drops : DropsEntry entry old dropped
  pub sorted : AreSorted dropped
  pub rest : left ≡ length (links_to (placed_in dropped) (special_of entry))
  pub none : left ≡ 0 → new ≡ dropped
  pub some : 0 < left → CountsLinks private (node_name (special_of entry)) left dropped new

-- a place has the record of a link
pub record NamesLink (at : EntryAt) (pairs : List Pair) : Type 0 where
  pub entry : Placed
  pub found : record_at (placed_in pairs) at.parent at.name ≡ Some entry
  pub is_one : is_link entry ≡ true

-- The file that a link names, and its name in the private folder. It is no link itself, and says how many links name it.
pub record SharedBy (private : ℕ) (at : EntryAt) (shared : Shared) (pairs : List Pair) : Type 0 where
  pub entry : Placed
  pub found : record_at (placed_in pairs) at.parent at.name ≡ Some entry
  pub is_one : is_link entry ≡ true
  pub outside : entry.parent ≡ private → ⊥
  pub reference : shared.reference ≡ special_of entry
  pub name : shared.name ≡ node_name (special_of entry)
  pub file : value_at pairs private shared.name ≡ Some (File shared.file)
  pub plain : is_link_type shared.file.fields ≡ false
  pub counted : shared.file.fields.special ≡ length (links_to (placed_in pairs) (special_of entry))

-- the same, where it was found
abbrev pub FindsShared : ℕ → EntryAt → List Pair → Option Shared → Type 0
FindsShared private at pairs None = ⊥
FindsShared private at pairs (Some shared) = SharedBy private at shared pairs

-- the file under a number in the private folder
abbrev pub FindsNamed : ℕ → ℕ → List Pair → Option Shared → Type 0
FindsNamed private reference pairs None = file_in (value_at pairs private (node_name reference)) ≡ None
FindsNamed private reference pairs (Some shared) = (shared.reference ≡ reference) × (shared.name ≡ node_name reference) × (value_at pairs private (node_name reference) ≡ Some (File shared.file))

-- the record under a name says that so many links are left; where none is, nothing has changed
pub record SaysLeft (private : ℕ) (name : List ℕ) (left : ℕ) (old new : List Pair) : Type 0 where
  pub none : left ≡ 0 → new ≡ old
  pub some : 0 < left → CountsLinks private name left old new
