-- Links put at places where there is no record.
use Rattle.std.proofs.Common.{◌≡◌, ◌≤◌, ◌<◌, ◌+◌, ℕ, Bool, true, false, List, [], length, inl, inr, refl, sym, ◌∙◌, ap, subst, arith}
use Rattle.std.specs.Prelude.{Option, None, Some, pos, codes, if◌then◌else◌}
use Rattle.std.specs.Option.{option_map}
use Rattle.std.proofs.lemmas.Bool.{true≢false}
use Rattle.btree_node.specs.Levels.{Pair}
use Rattle.btree_edit.specs.declared.edits.Inserted.{Inserted}
use Rattle.btree_edit.specs.declared.edits.Inserted.TheVariants as inserted
use Rattle.cat_records.specs.declared.record.CatRecord.{CatRecord}
use Rattle.cat_records.specs.declared.record.CatRecord.TheVariants.{File}
use Rattle.cat_records.specs.declared.record.FileRecord.{FileRecord}
use Rattle.catalog.specs.Entries.{AnswersAdd, Adding, AnswersMove, Moving, RelocatesEntry}
use Rattle.catalog.specs.declared.moving.Moved.{Moved}
use Rattle.catalog.specs.Pairs.{value_at}
use Rattle.hfs_volume.specs.Changes.{AreSorted, AddsWith}
use Rattle.hfs_volume.specs.Entries.{AreSpelled}
use Rattle.hfs_volume.specs.Links.{node_name, links_to}
use Rattle.hfs_volume.specs.Records.{Placed, placed_in, record_at, is_placed_at, is_empty, is_link, is_link_type, id_of, id_in, special_of}
use Rattle.hard_links.specs.Linking.{AddsLink, AnswersLink, CountsLinks, IsNewTarget, IsUnused, MakesFirst, MakesLink, MakesMore, MayLink, MayPut, NamesLink, PutsLinks, SharedBy, link_at, link_date, link_record, names_of}
use Rattle.hard_links.specs.Numbers.{IsFirstFree}
use Rattle.hard_links.specs.declared.linking.Linked.TheVariants as linked
use Rattle.hard_links.specs.declared.place.EntryAt.{EntryAt}
use Rattle.hard_links.specs.declared.records.Target.{Target}
use Rattle.hard_links.specs.declared.shared.Shared.{Shared}
use Rattle.hard_links.proofs.Asides.{first_is_free, relocated}
use Rattle.catalog.proofs.Beside.{none_is_some, found_stands, its_place, false_so, not_at, other_parent, named_beside, thread_beside, id_is_used, stands_there, is_found, left_vacant, spelled_less, spelled_more}
use Rattle.hard_links.proofs.Counts.{value_of_found}

-- a link is added where there was no record
pub added_link : (at : EntryAt) (id reference date : ℕ) (rec : CatRecord) (old new : List Pair) (answer : Inserted) → rec ≡ File (link_record id reference date) → record_at (placed_in old) at.parent at.name ≡ None
    → AnswersAdd (record_at (placed_in old) at.parent at.name) answer → Adding (record { parent = at.parent; name = at.name; value = rec }) old new answer → AddsWith (pos 0) (link_at at id reference date) old new
added_link at id reference date rec old new inserted.Exists is vacant answers does = absurd (answers vacant)
added_link at id reference date rec old new inserted.Done is vacant answers does = subst (λ v. AddsWith (pos 0) (record { parent = at.parent; name = at.name; value = v }) old new) is does

-- its CNID isn't in use
pub link_unused : (id reference date : ℕ) (rec : CatRecord) (pairs : List Pair) → rec ≡ File (link_record id reference date) → IsUnused pairs id → record_at (placed_in pairs) (id_in rec) [] ≡ None
link_unused id reference date rec pairs is unused = subst (λ v. record_at (placed_in pairs) (id_in v) [] ≡ None) (sym is) unused

-- ---- two links

module _ (from to : EntryAt) (one other reference date : ℕ) (old between : List Pair) (may : MayPut from to one other old) (some_from : is_empty from.name ≡ false) (some_to : is_empty to.name ≡ false) (first : AddsWith (pos 0) (link_at from one reference date) old between) where
  pub second_vacant : record_at (placed_in between) to.parent to.name ≡ None
  second_vacant =
      let link = link_at from one reference date in
      named_beside link old between first.0 some_from to.parent to.name some_to (false_so (is_placed_at to.parent to.name link) (λ is. let place = its_place link to.parent to.name is in may.places place.0 place.1)) ∙ may.vacant_too

  pub second_unused : IsUnused between other
  second_unused = thread_beside (link_at from one reference date) old between first.0 some_from other may.apart ∙ may.second

-- ---- a later link

module _ (private : ℕ) (to : EntryAt) (id reference date : ℕ) (old between : List Pair) (some_to : is_empty to.name ≡ false) (adds : AddsWith (pos 0) (link_at to id reference date) old between) where
  pub spelled_between : AreSpelled old → AreSpelled between
  spelled_between spelled = spelled_more (link_at to id reference date) old between adds.0 some_to spelled

  pub value_between : (name : List ℕ) (value : CatRecord) → is_empty name ≡ false → (to.parent ≡ private → ⊥) → value_at old private name ≡ Some value → value_at between private name ≡ Some value
  value_between name value some outside is =
      let link = link_at to id reference date in
      ap (option_map (λ (placed : Placed). placed.value)) (named_beside link old between adds.0 some_to private name some (other_parent link private name outside)) ∙ is

-- what a later link makes
pub made_more : (private : ℕ) (from to : EntryAt) (one other date : ℕ) (old new : List Pair) (shared : Shared) → SharedBy private from shared old → shared.file.fields.special < 32767 → date ≡ link_date old
    → AddsLink private to one shared.reference date (shared.file.fields.special + 1) old new → MakesLink private from to one other old new linked.Done
made_more private from to one other date old new shared shares few date_is adds = record {
  entry = shares.entry;
  found = shares.found;
  answers = subst (λ n. n < 32767) (shares.counted ∙ sym (ap (λ b. if b then length (links_to (placed_in old) (special_of shares.entry)) else 1) shares.is_one)) few;
  does = inr (record {
    entry = shares.entry;
    found = shares.found;
    is_one = shares.is_one;
    linked = said.linked;
    links = said.links;
    sorted_linked = said.sorted_linked;
    counts = said.counts;
  });
}
  where
    said : AddsLink private to one (special_of shares.entry) (link_date old) (length (links_to (placed_in old) (special_of shares.entry)) + 1) old new
    said =
        subst (λ d. AddsLink private to one (special_of shares.entry) d (length (links_to (placed_in old) (special_of shares.entry)) + 1) old new) date_is
        (subst (λ n. AddsLink private to one n date (length (links_to (placed_in old) (special_of shares.entry)) + 1) old new) shares.reference
        (subst (λ n. AddsLink private to one shared.reference date (n + 1) old new) shares.counted adds))

-- where the file has the most names that it may have, nothing is made
pub too_many : (private : ℕ) (from to : EntryAt) (one other : ℕ) (pairs : List Pair) (shared : Shared) → SharedBy private from shared pairs → 32767 ≤ shared.file.fields.special
    → MakesLink private from to one other pairs pairs linked.TooManyLinks
too_many private from to one other pairs shared shares many = record {
  entry = shares.entry;
  found = shares.found;
  answers = subst (λ n. 32767 ≤ n) (shares.counted ∙ sym (ap (λ b. if b then length (links_to (placed_in pairs) (special_of shares.entry)) else 1) shares.is_one)) many;
  does = refl;
}

-- ---- the first link

module _ (private : ℕ) (from to : EntryAt) (one other : ℕ) (name : List ℕ) (file : FileRecord) (old moved : List Pair) (may : MayLink private from to one other old) (value : value_at old from.parent from.name ≡ Some (File file)) (free : record_at (placed_in old) private name ≡ None)
    (some_from : is_empty from.name ≡ false) (some_to : is_empty to.name ≡ false) (some_name : is_empty name ≡ false) (order : AreSorted old) (order_moved : AreSorted moved) (relocates : RelocatesEntry from.parent from.name private name old moved) where
  abbrev entry : Placed
  entry = relocates.entry

  abbrev it : Placed
  it = record relocates.entry { parent = private; name = name }

  place : (entry.parent ≡ from.parent) × (entry.name ≡ from.name)
  place = its_place relocates.entry from.parent from.name (found_stands (is_placed_at from.parent from.name) (placed_in old) relocates.entry relocates.found).1

  named : is_empty relocates.entry.name ≡ false
  named = ap is_empty place.1 ∙ some_from

  -- the old name isn't the new one in the private folder
  apart : private ≡ from.parent → name ≡ from.name → ⊥
  apart parent_same name_same = none_is_some relocates.entry (sym free ∙ (λ i. record_at (placed_in old) (parent_same i) (name_same i)) ∙ relocates.found)

  value_is : relocates.entry.value ≡ File file
  value_is = value_of_found (record_at (placed_in old) from.parent from.name) relocates.entry (File file) relocates.found value

  from_vacant : record_at (placed_in moved) from.parent from.name ≡ None
  from_vacant =
      named_beside it relocates.moves.between moved relocates.moves.back some_name from.parent from.name some_from (false_so (is_placed_at from.parent from.name it) (λ is. let own = its_place it from.parent from.name is in apart own.0 own.1))
      ∙ (λ i. record_at (placed_in relocates.moves.between) (sym place.0 i) (sym place.1 i)) ∙ left_vacant relocates.entry relocates.moves.between old relocates.moves.out named order

  to_vacant : record_at (placed_in moved) to.parent to.name ≡ None
  to_vacant =
      named_beside it relocates.moves.between moved relocates.moves.back some_name to.parent to.name some_to (other_parent it to.parent to.name (λ same. may.outside (sym same)))
      ∙ sym (named_beside relocates.entry relocates.moves.between old relocates.moves.out named to.parent to.name some_to (not_at old relocates.entry to.parent to.name (stands_there relocates.entry relocates.moves.between old relocates.moves.out named) may.vacant))
      ∙ may.vacant

  still_unused : (id : ℕ) → IsUnused old id → IsUnused moved id
  still_unused id unused =
      let not_own = id_is_used relocates.entry relocates.moves.between old relocates.moves.out named id unused in
      thread_beside it relocates.moves.between moved relocates.moves.back some_name id not_own ∙ sym (thread_beside relocates.entry relocates.moves.between old relocates.moves.out named id not_own) ∙ unused

  pub may_put : MayPut from to one other moved
  may_put = record {
    vacant = from_vacant;
    vacant_too = to_vacant;
    places = λ parent_same name_same. none_is_some relocates.entry (sym may.vacant ∙ (λ i. record_at (placed_in old) (sym parent_same i) (sym name_same i)) ∙ relocates.found);
    first = still_unused one may.first;
    second = still_unused other may.second;
    apart = may.apart;
  }

  spelled_moved : AreSpelled moved
  spelled_moved = spelled_more it relocates.moves.between moved relocates.moves.back some_name (spelled_less relocates.entry relocates.moves.between old relocates.moves.out named may.threads.spelled)

  value_moved : value_at moved private name ≡ Some (File file)
  value_moved = ap (option_map (λ (placed : Placed). placed.value)) (is_found it relocates.moves.between moved relocates.moves.back some_name order_moved) ∙ ap Some value_is

  module _ (target : Target) (after : List Pair) (puts : PutsLinks from to one other target.reference target.created moved after) where
    abbrev first_link : Placed
    first_link = link_at from one target.reference target.created

    abbrev second_link : Placed
    second_link = link_at to other target.reference target.created

    pub spelled_linked : AreSpelled after
    spelled_linked = spelled_more second_link puts.replaced after puts.links.0 some_to (spelled_more first_link moved puts.replaced puts.replaces.0 some_from spelled_moved)

    pub value_linked : value_at after private name ≡ Some (File file)
    value_linked =
        ap (option_map (λ (placed : Placed). placed.value)) (named_beside second_link puts.replaced after puts.links.0 some_to private name some_name (other_parent second_link private name may.outside)
        ∙ named_beside first_link moved puts.replaced puts.replaces.0 some_from private name some_name (false_so (is_placed_at private name first_link) (λ is. let own = its_place first_link private name is in apart (sym own.0) (sym own.1))))
        ∙ value_moved

    pub made_first : (new : List Pair) → AreSorted after → is_link_type file.fields ≡ false → IsNewTarget private file.fields.id old target → name ≡ node_name target.reference → CountsLinks private name 2 after new → MakesFirst private from to one other old new
    made_first new order_linked plain is_new name_is counts = record {
      entry = named_moves.entry;
      found = named_moves.found;
      not_link = ap (λ v. is_link (record named_moves.entry { value = v })) its_value ∙ plain;
      reference = target.reference;
      first = subst (λ n. IsFirstFree old private (codes "iNode") n target.reference) (sym (ap id_in its_value)) is_new.first;
      moved = moved;
      moves = named_moves.moves;
      same_spare = named_moves.same_spare;
      sorted_moved = order_moved;
      replaced = puts.replaced;
      replaces = subst (λ d. AddsWith (pos 0) (link_at from one target.reference d) moved puts.replaced) is_new.date puts.replaces;
      sorted_replaced = puts.sorted_replaced;
      linked = after;
      links = subst (λ d. AddsWith (pos 0) (link_at to other target.reference d) puts.replaced after) is_new.date puts.links;
      sorted_linked = order_linked;
      counts = subst (λ l. CountsLinks private l 2 after new) name_is counts;
    }
      where
        named_moves : RelocatesEntry from.parent from.name private (node_name target.reference) old moved
        named_moves = subst (λ l. RelocatesEntry from.parent from.name private l old moved) name_is relocates

        its_value : named_moves.entry.value ≡ File file
        its_value = value_of_found (record_at (placed_in old) from.parent from.name) named_moves.entry (File file) named_moves.found value

-- a first link, as making a link tells it
pub first_of : (private : ℕ) (from to : EntryAt) (one other : ℕ) (old new : List Pair) → MakesFirst private from to one other old new → MakesLink private from to one other old new linked.Done
first_of private from to one other old new makes = record {
  entry = makes.entry;
  found = makes.found;
  answers = subst (λ b. (if b then length (links_to (placed_in old) (special_of makes.entry)) else 1) < 32767) (sym makes.not_link) (omega arith);
  does = inl makes;
}

-- a place has a link exactly where its file's record says so
pub names_link : (from : EntryAt) (file : FileRecord) (pairs : List Pair) (entry : Placed) → record_at (placed_in pairs) from.parent from.name ≡ Some entry → value_at pairs from.parent from.name ≡ Some (File file) → is_link_type file.fields ≡ true → NamesLink from pairs
names_link from file pairs entry found value is =
    record { entry = entry; found = found; is_one = ap (λ v. is_link (record entry { value = v })) (value_of_found (record_at (placed_in pairs) from.parent from.name) entry (File file) found value) ∙ is }

pub is_no_link : (from : EntryAt) (file : FileRecord) (pairs : List Pair) → value_at pairs from.parent from.name ≡ Some (File file) → is_link_type file.fields ≡ false → NamesLink from pairs → ⊥
is_no_link from file pairs value plain names =
    true≢false (sym names.is_one ∙ ap (λ v. is_link (record names.entry { value = v })) (value_of_found (record_at (placed_in pairs) from.parent from.name) names.entry (File file) names.found value) ∙ plain)

pub is_a_link : (from : EntryAt) (file : FileRecord) (pairs : List Pair) → value_at pairs from.parent from.name ≡ Some (File file) → NamesLink from pairs → is_link_type file.fields ≡ true
is_a_link from file pairs value names =
    sym (ap (λ v. is_link (record names.entry { value = v })) (value_of_found (record_at (placed_in pairs) from.parent from.name) names.entry (File file) names.found value)) ∙ names.is_one

-- ---- a file on its way into the private folder

-- the name there is free
pub node_free : (private : ℕ) (name : List ℕ) (own : ℕ) (pairs : List Pair) (target : Target) → IsNewTarget private own pairs target → name ≡ node_name target.reference → record_at (placed_in pairs) private name ≡ None
node_free private name own pairs target is_new name_is =
    subst (λ l. record_at (placed_in pairs) private l ≡ None) (sym name_is) (first_is_free pairs private (codes "iNode") own target.reference is_new.first)

-- a move of a file to a free name is made
pub file_moved : (private : ℕ) (from to : EntryAt) (one other : ℕ) (name : List ℕ) (old moved : List Pair) (answer : Moved) → MayLink private from to one other old → record_at (placed_in old) private name ≡ None
    → AnswersMove (record_at (placed_in old) from.parent from.name) (record_at (placed_in old) private name) answer → Moving from.parent from.name private name old moved answer → RelocatesEntry from.parent from.name private name old moved
file_moved private from to one other name old moved answer may free answers does = relocated from.parent from.name private name old moved answer may.file.entry may.file.found free answers does
