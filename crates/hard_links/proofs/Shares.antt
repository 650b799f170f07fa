-- The file that a link names, where the links of a catalog keep their rules.
use Rattle.std.proofs.Common.{◌≡◌, ◌<◌, ◌^◌, ℕ, Bool, true, false, List, [], length, inl, inr, refl, sym, ◌∙◌, ap, subst}
use Rattle.std.specs.Prelude.{Contains, IsTrue, Option, None, Some, nat_lt, ◌==◌, ◌&&◌}
use Rattle.std.specs.Option.{option_map}
use Rattle.std.specs.Str.{bytes_eq}
use Rattle.std.proofs.lemmas.Bool.{and_parts, eqb-true, true≢false}
use Rattle.btree_node.specs.Levels.{Pair}
use Rattle.cat_records.specs.declared.record.CatRecord.{CatRecord}
use Rattle.cat_records.specs.declared.record.CatRecord.TheVariants.{Folder, File, Thread}
use Rattle.cat_records.specs.declared.record.FileRecord.{FileRecord}
use Rattle.catalog.specs.Pairs.{value_at}
use Rattle.hfs_volume.specs.Changes.{AreSorted}
use Rattle.hfs_volume.specs.Entries.{LiesIn}
use Rattle.hfs_volume.specs.Links.{node_name, is_shared, links_to}
use Rattle.hfs_volume.specs.Records.{Placed, placed_in, record_at, is_placed_at, entries_of, is_empty, is_file, is_link, is_link_type, special_of}
use Rattle.hfs_volume.proofs.Sides.{is_entry_of, entry_is_record}
use Rattle.hard_links.specs.Linking.{HasLinks, NamesLink, SharedBy, FindsNamed, FindsShared}
use Rattle.hard_links.specs.Orphans.{file_in}
use Rattle.hard_links.specs.declared.place.EntryAt.{EntryAt}
use Rattle.hard_links.specs.declared.shared.Shared.{Shared}
use Rattle.catalog.proofs.Beside.{found_stands, found_at, its_place}

-- what stands in the private folder is no link
module _ (private : ℕ) (pairs : List Pair) (links : HasLinks private pairs) where
  outside_private : (placed : Placed) → Contains (entries_of (placed_in pairs)) placed → is_link placed ≡ true → placed.parent ≡ private → ⊥
  outside_private placed stands is within =
      (links.links.good.links placed stands is).outside (private, links.folder, subst (λ n. LiesIn (entries_of (placed_in pairs)) private n) (sym within) LiesIn.is_it)

  module _ (order : AreSorted pairs) (entry : Placed) (stands : Contains (entries_of (placed_in pairs)) entry) (is_one : is_link entry ≡ true) where
    abbrev pub node : (file : Placed) × Contains (entries_of (placed_in pairs)) file × (is_shared (Some private) (special_of entry) file ≡ true)
    node = subst (λ folder. (file : Placed) × Contains (entries_of (placed_in pairs)) file × (is_shared folder (special_of entry) file ≡ true)) links.folder (links.links.good.links entry stands is_one).node

    abbrev pub its_file : Placed
    its_file = node.0

    -- is_shared joins its four tests from the left
    tests : ((its_file.parent == private) ≡ true) × (bytes_eq its_file.name (node_name (special_of entry)) ≡ true) × (is_file its_file.value ≡ true)
    tests =
        let all = and_parts ((its_file.parent == private) && is_file its_file.value && bytes_eq its_file.name (node_name (special_of entry))) (nat_lt (special_of entry) (2 ^ 32)) node.2 in
        let three = and_parts ((its_file.parent == private) && is_file its_file.value) (bytes_eq its_file.name (node_name (special_of entry))) all.0 in
        let two = and_parts (its_file.parent == private) (is_file its_file.value) three.0 in
        (two.0, three.1, two.1)

    pub file_test : is_file its_file.value ≡ true
    file_test = tests.2

    pub found_file : record_at (placed_in pairs) private (node_name (special_of entry)) ≡ Some its_file
    found_file = found_at pairs its_file private (node_name (special_of entry)) order (entry_is_record (placed_in pairs) its_file node.1) (λ i. tests.0 i && tests.1 i)

    pub no_link : is_link its_file ≡ false
    no_link = by_test (is_link its_file) refl
      where
        by_test : (b : Bool) → is_link its_file ≡ b → b ≡ false
        by_test false is = refl
        by_test true is = absurd (outside_private its_file node.1 is (eqb-true its_file.parent private tests.0))

    pub counted : special_of its_file ≡ length (links_to (placed_in pairs) (special_of entry))
    counted = links.links.counts (special_of entry) its_file node.1 (subst (λ folder. is_shared folder (special_of entry) its_file ≡ true) (sym links.folder) node.2)

-- ---- what a search of the file gives

-- a link is a file's record
pub link_is_file : (entry : Placed) → is_link entry ≡ true → (link : FileRecord) × (entry.value ≡ File link)
link_is_file entry is = of_value entry.value refl
  where
    of_value : (value : CatRecord) → entry.value ≡ value → (link : FileRecord) × (value ≡ File link)
    of_value (Folder folder) same = absurd (true≢false (sym is ∙ ap (λ v. is_link (record entry { value = v })) same))
    of_value (File file) same = (file, refl)
    of_value (Thread thread) same = absurd (true≢false (sym is ∙ ap (λ v. is_link (record entry { value = v })) same))

abbrev value_of_found : Option Placed → Option CatRecord
value_of_found found = option_map (λ (placed : Placed). placed.value) found

some_file : (value : CatRecord) (file : FileRecord) → Some file ≡ file_in (Some value) → value ≡ File file
some_file (Folder folder) file same = cc
some_file (File other) file same = ap (λ found. File (of_file found)) (sym same)
  where
    of_file : Option FileRecord → FileRecord
    of_file None = other
    of_file (Some f) = f
some_file (Thread thread) file same = cc

module _ (private : ℕ) (at : EntryAt) (pairs : List Pair) (order : AreSorted pairs) (links : HasLinks private pairs) (some : is_empty at.name ≡ false) (names : NamesLink at pairs) where
  entry : Placed
  entry = names.entry

  its : Contains (placed_in pairs) names.entry × (is_placed_at at.parent at.name names.entry ≡ true)
  its = found_stands (is_placed_at at.parent at.name) (placed_in pairs) names.entry names.found

  stands : Contains (entries_of (placed_in pairs)) names.entry
  stands = is_entry_of (placed_in pairs) names.entry its.0 (ap is_empty (its_place names.entry at.parent at.name its.1).1 ∙ some)

  -- no file is where there is a link
  pub no_link_there : None ≡ file_in (value_at pairs at.parent at.name) → ⊥
  no_link_there is =
      let link = link_is_file names.entry names.is_one in
      not_none link.0 (is ∙ ap (λ found. file_in (value_of_found found)) names.found ∙ ap (λ v. file_in (Some v)) link.1)
    where
      not_none : (link : FileRecord) → None ≡ Some link → ⊥
      not_none link same = cc

  module _ (link : FileRecord) (is_read : Some link ≡ file_in (value_at pairs at.parent at.name)) where
    value_is : names.entry.value ≡ File link
    value_is = some_file names.entry.value link (is_read ∙ ap (λ found. file_in (value_of_found found)) names.found)

    reference_is : link.fields.special ≡ special_of names.entry
    reference_is = sym (ap (λ v. special_of (record names.entry { value = v })) value_is)

    its_is_file : is_file (its_file private pairs links order names.entry stands names.is_one).value ≡ true
    its_is_file = file_test private pairs links order names.entry stands names.is_one

    pub finds : (found : Option Shared) → FindsNamed private link.fields.special pairs found → FindsShared private at pairs found
    finds None none =
        let there = found_file private pairs links order names.entry stands names.is_one in
        no_file (its_file private pairs links order names.entry stands names.is_one).value its_is_file
        (sym none ∙ ap (λ n. file_in (value_at pairs private (node_name n))) reference_is ∙ ap (λ found. file_in (value_of_found found)) there)
      where
        no_file : (value : CatRecord) → is_file value ≡ true → None ≡ file_in (Some value) → ⊥
        no_file (Folder folder) a_file same = cc
        no_file (File file) a_file same = cc
        no_file (Thread thread) a_file same = cc
    finds (Some shared) has =
        let it = its_file private pairs links order names.entry stands names.is_one in
        let there = found_file private pairs links order names.entry stands names.is_one in
        let value : value_at pairs private (node_name (special_of names.entry)) ≡ Some (File shared.file) = ap (λ n. value_at pairs private (node_name n)) (sym reference_is) ∙ has.2 in
        let own : it.value ≡ File shared.file = same_value it.value shared.file (sym (ap value_of_found there) ∙ value) in
        record {
          entry = names.entry;
          found = names.found;
          is_one = names.is_one;
          outside = outside_private private pairs links names.entry stands names.is_one;
          reference = has.0 ∙ reference_is;
          name = has.1 ∙ ap node_name reference_is;
          file = subst (λ l. value_at pairs private l ≡ Some (File shared.file)) (sym (has.1 ∙ ap node_name reference_is)) value;
          plain = sym (ap (λ v. is_link (record it { value = v })) own) ∙ no_link private pairs links order names.entry stands names.is_one;
          counted = sym (ap (λ v. special_of (record it { value = v })) own) ∙ counted private pairs links order names.entry stands names.is_one;
        }
      where
        same_value : (value : CatRecord) (file : FileRecord) → Some value ≡ Some (File file) → value ≡ File file
        same_value value file same = ap or same
          where
            or : Option CatRecord → CatRecord
            or None = value
            or (Some v) = v
