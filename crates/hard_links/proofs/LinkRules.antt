-- The rules of links are kept by what making, dropping and putting aside does to the records.
use Rattle.std.proofs.Common.{◌≡◌, ◌⊎◌, ◌<◌, ◌≤◌, ◌+◌, ◌^◌, ℕ, suc, Bool, true, false, List, [], ◌∷◌, ◌++◌, length, inl, inr, refl, sym, ◌∙◌, ap, subst, arith}
use Rattle.std.specs.Prelude.{Contains, Option, None, Some, Result, Ok, Err, IfOk, OnOk, codes, nat_lt, ◌==◌, ◌&&◌, if◌then◌else◌}
use Rattle.std.specs.List.{flat_map}
use Rattle.std.specs.Str.{bytes_eq}
use Rattle.std.proofs.lemmas.Bool.{cases_eq, cases_lt, eqb-true, lt-ltb, true≢false}
use Rattle.std.proofs.lemmas.Slice.Eq.{bytes_eq-Decides}
use Rattle.btree_node.specs.Keys.{IsCatalogKey, catalog_cmp}
use Rattle.btree_node.specs.Levels.{Pair}
use Rattle.btree_node.specs.Store.{Store}
use Rattle.btree_node.specs.Tree.{IsTree, pairs_of}
use Rattle.cat_records.specs.declared.record.CatRecord.{CatRecord}
use Rattle.cat_records.specs.declared.record.CatRecord.TheVariants.{Folder, File, Thread}
use Rattle.hfs_model.specs.Sorted.{kept}
use Rattle.hfs_model.specs.Step.{private_name}
use Rattle.hx_bytes.specs.Field.{number_at}
use Rattle.fork_map.specs.Blocks.{blocks_of}
use Rattle.hfs_volume.specs.Changes.{AddsEntry, AreSorted, SameKind}
use Rattle.hfs_volume.specs.Entries.{LiesIn}
use Rattle.hfs_volume.specs.Forks.{extents_of, extents_id, in_use, is_of}
use Rattle.hfs_volume.specs.Laws.{one_if}
use Rattle.hfs_volume.specs.Links.{AreGoodLinks, AreLinks, HaveLinkCounts, IsGoodLink, IsHidden, folder_id, is_link_to, is_shared, is_shared_file, links_to, node_name, private_id}
use Rattle.hfs_volume.specs.Naming.{orphan_name}
use Rattle.hfs_volume.specs.Records.{Placed, Overflow, placed_in, entries_of, record_at, is_placed_at, is_empty, is_file, is_folder, is_link, id_of, special_of}
use Rattle.hfs_volume.proofs.Ascending.{tree_sorted}
use Rattle.hfs_volume.proofs.Counting.{length_kept}
use Rattle.hfs_volume.proofs.Hiding.{one_there}
use Rattle.hfs_volume.proofs.Keeping.{counts_same, entry_before, it_there, links_still}
use Rattle.hfs_volume.proofs.Lying.{lies_still}
use Rattle.hfs_volume.proofs.Making.{placed_splits}
use Rattle.hfs_volume.proofs.Marks.{one_number, orphan_no_node}
use Rattle.hfs_volume.proofs.Members.{at_front, kept_cases}
use Rattle.hfs_volume.proofs.Reparenting.{no_folder_still}
use Rattle.hfs_volume.proofs.Sharing.{IsShared, shared_is}
use Rattle.hfs_volume.proofs.Sides.{OneMore, one_more, one_key, count_more, entry_cases, entry_is_record, is_entry_of, no_other_at, still_entry, the_entry}
use Rattle.hfs_volume.proofs.Swapping.{Splits, private_same}
use Rattle.hard_links.specs.Linking.{CountsLinks, DropsLink, Linking, MakesFirst, MakesLink, MakesMore, MayLink, link_at, link_date, no_fork, with_links}
use Rattle.hard_links.specs.Orphans.{MakesOrphan, NamesFile}
use Rattle.hard_links.specs.Rules.{AreLinksBut, HasNoMore, KeepsRules, MayShow, NamesNoLink}
use Rattle.hard_links.specs.declared.linking.Linked.{Linked}
use Rattle.hard_links.specs.declared.linking.Linked.TheVariants as linked
use Rattle.hard_links.specs.declared.place.EntryAt.{EntryAt}
use Rattle.hard_links.proofs.Asides.{first_is_free}
use Rattle.catalog.proofs.Beside.{found_stands, none_passes, found_at, same_number, empty_name, its_place, false_so, left_vacant, named_beside}
use Rattle.hard_links.proofs.Shares.{link_is_file}

-- ---- tests

link_no_folder : (p : Placed) → is_link p ≡ true → is_folder p.value ≡ false
link_no_folder p is = ap is_folder (link_is_file p is).1

file_no_folder : (value : CatRecord) → is_file value ≡ true → is_folder value ≡ false
file_no_folder (Folder folder) is = absurd (true≢false (sym is))
file_no_folder (File file) is = refl
file_no_folder (Thread thread) is = refl

some_same : (a b : ℕ) → Some a ≡ Some b → a ≡ b
some_same a b same = ap or same
  where
    or : Option ℕ → ℕ
    or None = a
    or (Some n) = n

some_placed : (a b : Placed) → Some a ≡ Some b → a ≡ b
some_placed a b same = ap or same
  where
    or : Option Placed → Placed
    or None = a
    or (Some p) = p

-- a file with several names stands in the private folder
in_private : (private reference : ℕ) (records : List Placed) (p : Placed) → private_id records ≡ Some private → is_shared_file records reference p ≡ true → p.parent ≡ private
in_private private reference records p folder shared =
    let it = shared_is (private_id records) reference p shared in
    it.parent ∙ some_same it.folder private (sym it.private_is ∙ folder)

seen_apart : (private : ℕ) (records : List Placed) (parent : ℕ) → private_id records ≡ Some private → (IsHidden records parent → ⊥) → parent ≡ private → ⊥
seen_apart private records parent folder seen same = seen (private, folder, subst (λ n. LiesIn (entries_of records) private n) (sym same) LiesIn.is_it)

shared_so : (private reference : ℕ) (records : List Placed) (p : Placed) → private_id records ≡ Some private → p.parent ≡ private → is_file p.value ≡ true → p.name ≡ node_name reference → nat_lt reference (2 ^ 32) ≡ true
    → is_shared_file records reference p ≡ true
shared_so private reference records p folder parent file name low =
    ap (λ o. is_shared o reference p) folder
    ∙ (λ i. (parent i == private) && file i && bytes_eq (name i) (node_name reference) && low i)
    ∙ (λ i. same_number private i && true && (bytes_eq-Decides (node_name reference) (node_name reference)).1 refl i && true)

-- a name of a number is one at the private folder's place only where that folder isn't there
own_apart : (private : ℕ) (records : List Placed) (p : Placed) → private_id records ≡ Some private → record_at records p.parent p.name ≡ None → is_placed_at 2 private_name p ≡ false
own_apart private records p folder vacant = false_so (is_placed_at 2 private_name p) (λ is.
    let place = its_place p 2 private_name is in
    no_folder (sym folder ∙ ap folder_id ((λ i. record_at records (sym place.0 i) (sym place.1 i)) ∙ vacant)))
  where
    no_folder : Some private ≡ None → ⊥
    no_folder same = cc

-- the private folder's place has no file
file_apart : (pairs : List Pair) (overflow : List Overflow) (p : Placed) → AreSorted pairs → AreGoodLinks (placed_in pairs) overflow → Contains (placed_in pairs) p → is_folder p.value ≡ false → is_placed_at 2 private_name p ≡ false
file_apart pairs overflow p order good stands no_folder =
    false_so (is_placed_at 2 private_name p) (λ is. true≢false (sym (good.private_folder p (found_at pairs p 2 private_name order stands is)) ∙ no_folder))

not_both : (b c : Bool) → (b ≡ true → c ≡ true → ⊥) → (b && c) ≡ false
not_both true true never = absurd (never refl refl)
not_both true false never = refl
not_both false c never = refl

-- ---- links counted

abbrev names : List Placed → ℕ → ℕ
names records reference = length (links_to records reference)

-- all counts but that of one number
abbrev CountsBut : ℕ → List Placed → Type 0
CountsBut but records = (reference : ℕ) (file : Placed) → Contains (entries_of records) file → is_shared_file records reference file ≡ true → (reference ≡ but → ⊥) → special_of file ≡ names records reference

-- a link is counted
link_counted : (records : List Placed) (p : Placed) → Contains (entries_of records) p → is_link p ≡ true → 1 ≤ names records (special_of p)
link_counted records p stands is =
    omega (arith, length_kept (is_link_to (special_of p)) (entries_of records), one_there (is_link_to (special_of p)) (entries_of records) p stands (λ i. is i && same_number (special_of p) i))

-- where no file has a number, no link names it
none_named : (private reference : ℕ) (pairs : List Pair) (overflow : List Overflow) → private_id (placed_in pairs) ≡ Some private → AreGoodLinks (placed_in pairs) overflow → record_at (placed_in pairs) private (node_name reference) ≡ None
    → names (placed_in pairs) reference ≡ 0
none_named private reference pairs overflow folder good vacant = by_list (links_to (placed_in pairs) reference) refl
  where
    by_list : (l : List Placed) → links_to (placed_in pairs) reference ≡ l → length l ≡ 0
    by_list [] is = refl
    by_list (p ∷ rest) is =
        let in_it = kept_cases (is_link_to reference) (entries_of (placed_in pairs)) p (subst (λ l. Contains l p) (sym is) (at_front p rest)) in
        let tests = both (is_link p) (special_of p == reference) in_it.1 in
        let node = (good.links p in_it.0 tests.0).node in
        let shared = shared_is (private_id (placed_in pairs)) (special_of p) node.0 node.2 in
        let parent = in_private private (special_of p) (placed_in pairs) node.0 folder node.2 in
        let name : node.0.name ≡ node_name reference = shared.name ∙ ap node_name (eqb-true (special_of p) reference tests.1) in
        absurd (none_passes (is_placed_at private (node_name reference)) (placed_in pairs) node.0 vacant (entry_is_record (placed_in pairs) node.0 node.1)
        ((λ i. (parent i == private) && bytes_eq (name i) (node_name reference)) ∙ (λ i. same_number private i && (bytes_eq-Decides (node_name reference) (node_name reference)).1 refl i)))
      where
        both : (b c : Bool) → (b && c) ≡ true → (b ≡ true) × (c ≡ true)
        both true true is = (refl, refl)
        both true false is = absurd (true≢false (sym is))
        both false c is = absurd (true≢false (sym is))

-- ---- a file or link more, or less

-- An entry more that is no folder and doesn't stand at the private folder's place.
record FileMore (e : Placed) (small big : List Pair) : Type 0 where
  adds : AddsEntry e small big
  named : is_empty e.name ≡ false
  no_folder : is_folder e.value ≡ false
  apart : is_placed_at 2 private_name e ≡ false

module _ {e : Placed} {small big : List Pair} (it_more : FileMore e small big) where
  abbrev less : List Placed
  less = placed_in small

  abbrev more : List Placed
  more = placed_in big

  side : OneMore e less more
  side = one_more it_more.adds it_more.named

  folder_found : record_at more 2 private_name ≡ record_at less 2 private_name
  folder_found = named_beside e small big it_more.adds it_more.named 2 private_name refl it_more.apart

  private_up : private_id more ≡ private_id less
  private_up = ap folder_id folder_found

  hidden_down : (x : ℕ) → IsHidden more x → IsHidden less x
  hidden_down x hidden = (
    hidden.0,
    sym private_up ∙ hidden.1,
    no_folder_still e (entries_of more) (entries_of less) (λ p stands. entry_cases side p stands) (λ is. true≢false (sym is ∙ it_more.no_folder)) hidden.0 x hidden.2,
  )

  hidden_up : (x : ℕ) → IsHidden less x → IsHidden more x
  hidden_up x hidden = (hidden.0, private_up ∙ hidden.1, lies_still (entries_of less) (entries_of more) hidden.0 (λ p stands. still_entry side p stands) x hidden.2)

  shared_up : (reference : ℕ) (p : Placed) → is_shared_file less reference p ≡ true → is_shared_file more reference p ≡ true
  shared_up reference p shared = ap (λ o. is_shared o reference p) private_up ∙ shared

  shared_down : (reference : ℕ) (p : Placed) → is_shared_file more reference p ≡ true → is_shared_file less reference p ≡ true
  shared_down reference p shared = ap (λ o. is_shared o reference p) (sym private_up) ∙ shared

  names_up : (reference : ℕ) → names more reference ≡ names less reference + one_if (is_link e && (special_of e == reference))
  names_up reference =
      omega (arith, length_kept (is_link_to reference) (entries_of more), length_kept (is_link_to reference) (entries_of less), count_more side (is_link_to reference))

  -- no link to another number
  names_same : (reference : ℕ) → (is_link e ≡ true → special_of e ≡ reference → ⊥) → names more reference ≡ names less reference
  names_same reference never =
      omega (arith, names_up reference, ap one_if (not_both (is_link e) (special_of e == reference) (λ is same. never is (eqb-true (special_of e) reference same))))

  names_one : is_link e ≡ true → names more (special_of e) ≡ names less (special_of e) + 1
  names_one is = omega (arith, names_up (special_of e), ap one_if (λ i. is i && same_number (special_of e) i))

  good_up : (overflow : List Overflow) (p : Placed) → IsGoodLink less overflow p → IsGoodLink more overflow p
  good_up overflow p good = record {
    outside = λ hidden. good.outside (hidden_down p.parent hidden);
    empty = good.empty;
    node = (good.node.0, still_entry side good.node.0 good.node.1, shared_up (special_of p) good.node.0 good.node.2);
  }

  good_down : (overflow : List Overflow) (p : Placed) → (is_shared_file more (special_of p) e ≡ true → ⊥) → IsGoodLink more overflow p → IsGoodLink less overflow p
  good_down overflow p other good = record {
    outside = λ hidden. good.outside (hidden_up p.parent hidden);
    empty = good.empty;
    node = elim (entry_cases side good.node.0 good.node.1) [
      | inl same ↦ absurd (other (ap (is_shared_file more (special_of p)) (sym same) ∙ good.node.2))
      | inr there ↦ (good.node.0, there, shared_down (special_of p) good.node.0 good.node.2)
    ];
  }

  goods_up : (overflow : List Overflow) → (is_link e ≡ true → IsGoodLink less overflow e) → AreGoodLinks less overflow → AreGoodLinks more overflow
  goods_up overflow own good = record {
    private_folder = λ placed found. good.private_folder placed (sym folder_found ∙ found);
    links = λ placed stands link. elim (entry_cases side placed stands) [
      | inl same ↦ subst (IsGoodLink more overflow) (sym same) (good_up overflow e (own (ap is_link (sym same) ∙ link)))
      | inr there ↦ good_up overflow placed (good.links placed there link)
    ];
  }

  goods_down : (overflow : List Overflow) → ((p : Placed) → Contains (entries_of less) p → is_link p ≡ true → is_shared_file more (special_of p) e ≡ true → ⊥) → AreGoodLinks more overflow → AreGoodLinks less overflow
  goods_down overflow other good = record {
    private_folder = λ placed found. good.private_folder placed (folder_found ∙ found);
    links = λ placed stands link. good_down overflow placed (other placed stands link) (good.links placed (still_entry side placed stands) link);
  }

  -- what is counted but for one number, where the entry is no file of another number, and no link to one
  counts_up : (but : ℕ) → ((reference : ℕ) → is_shared_file more reference e ≡ true → reference ≡ but) → (is_link e ≡ true → special_of e ≡ but) → CountsBut but less → CountsBut but more
  counts_up but own link counts reference file stands shared apart_from = elim (entry_cases side file stands) [
    | inl same ↦ absurd (apart_from (own reference (ap (is_shared_file more reference) (sym same) ∙ shared)))
    | inr there ↦ counts reference file there (shared_down reference file shared) apart_from ∙ sym (names_same reference (λ is same. apart_from (sym same ∙ link is)))
  ]

  counts_down : (but : ℕ) → (is_link e ≡ true → special_of e ≡ but) → CountsBut but more → CountsBut but less
  counts_down but link counts reference file stands shared apart_from =
      counts reference file (still_entry side file stands) (shared_up reference file shared) apart_from ∙ names_same reference (λ is same. apart_from (sym same ∙ link is))

-- ---- the file says how many

special_with : (p : Placed) (many : ℕ) → is_file p.value ≡ true → special_of (record p { value = with_links many p.value }) ≡ many
special_with p many file = of_value p.value file
  where
    of_value : (value : CatRecord) → is_file value ≡ true → special_of (record p { value = with_links many value }) ≡ many
    of_value (Folder folder) is = absurd (true≢false (sym is))
    of_value (File file) is = refl
    of_value (Thread thread) is = absurd (true≢false (sym is))

module _ (private reference many : ℕ) (mid new : List Pair) (said : CountsLinks private (node_name reference) many mid new) (folder : private_id (placed_in mid) ≡ Some private) (order : AreSorted new) (a_file : is_file said.file.value ≡ true) where
  abbrev file : Placed
  file = said.file

  abbrev it : Placed
  it = record said.file { value = with_links many said.file.value }

  place : (said.file.parent ≡ private) × (said.file.name ≡ node_name reference)
  place = its_place said.file private (node_name reference) (found_stands (is_placed_at private (node_name reference)) (placed_in mid) said.file said.found).1

  file_named : is_empty said.file.name ≡ false
  file_named = ap is_empty place.1

  parts : Splits file it (placed_in mid) (placed_in new)
  parts = placed_splits said.file (with_links many said.file.value) mid new said.changes

  alike : SameKind file it
  alike = said.changes.alike

  said_good : (overflow : List Overflow) → AreGoodLinks (placed_in mid) overflow → AreGoodLinks (placed_in new) overflow
  said_good overflow good =
      subst (λ l. AreGoodLinks l overflow) (sym parts.is)
      (links_still said.file (with_links many said.file.value) parts.front parts.back file_named alike said.changes.forks overflow (subst (λ l. AreGoodLinks l overflow) parts.was good))

  said_private : private_id (placed_in new) ≡ private_id (placed_in mid)
  said_private = ap private_id parts.is ∙ private_same said.file (with_links many said.file.value) parts.front parts.back file_named alike ∙ sym (ap private_id parts.was)

  same_link : (other : ℕ) → is_link_to other it ≡ is_link_to other file
  same_link other = by_link (is_link file) refl
    where
      by_link : (b : Bool) → is_link file ≡ b → is_link_to other it ≡ is_link_to other file
      by_link true is = λ i. alike.link i && (alike.reference is i == other)
      by_link false is = ap (λ b. b && (special_of it == other)) (alike.link ∙ is) ∙ sym (ap (λ b. b && (special_of file == other)) is)

  said_names : (other : ℕ) → names (placed_in new) other ≡ names (placed_in mid) other
  said_names other =
      ap (λ l. names l other) parts.is
      ∙ length_kept (is_link_to other) (entries_of (parts.front ++ it ∷ parts.back))
      ∙ counts_same said.file (with_links many said.file.value) parts.front parts.back file_named alike (is_link_to other) (same_link other)
      ∙ sym (length_kept (is_link_to other) (entries_of (parts.front ++ file ∷ parts.back)))
      ∙ sym (ap (λ l. names l other) parts.was)

  it_stands : Contains (entries_of (placed_in new)) it
  it_stands = subst (λ l. Contains (entries_of l) it) (sym parts.is) (it_there said.file (with_links many said.file.value) parts.front parts.back file_named alike)

  before_or : (p : Placed) → Contains (entries_of (placed_in new)) p → (p ≡ it) ⊎ Contains (entries_of (placed_in mid)) p
  before_or p stands = elim (entry_before said.file (with_links many said.file.value) parts.front parts.back file_named alike p (subst (λ l. Contains (entries_of l) p) parts.is stands)) [
    | inl same ↦ inl same
    | inr there ↦ inr (subst (λ l. Contains (entries_of l) p) (sym parts.was) there)
  ]

  -- with that count all are right
  pub said_right : (overflow : List Overflow) → nat_lt reference (2 ^ 32) ≡ true → AreGoodLinks (placed_in mid) overflow → CountsBut reference (placed_in mid) → names (placed_in mid) reference ≡ many → AreLinks (placed_in new) overflow
  said_right overflow low good counts counted = record { good = said_good overflow good; counts = each }
    where
      each : HaveLinkCounts (placed_in new)
      each other p stands shared = elim (cases_eq other reference) [
        | inl same ↦
            let its = shared_is (private_id (placed_in new)) other p shared in
            let parent = in_private private other (placed_in new) p (said_private ∙ folder) shared in
            let is_it = one_key (placed_in new) order p it (entry_is_record (placed_in new) p stands) (entry_is_record (placed_in new) it it_stands) (parent ∙ sym place.0) (its.name ∙ ap node_name same ∙ sym place.1) in
            ap special_of is_it ∙ special_with said.file many a_file ∙ sym counted ∙ sym (said_names reference) ∙ ap (names (placed_in new)) (sym same)
        | inr differ ↦ elim (before_or p stands) [
          | inl is_it ↦
              let its = shared_is (private_id (placed_in new)) other p shared in
              absurd (differ (one_number other reference its.low low (sym its.name ∙ ap (λ (q : Placed). q.name) is_it ∙ place.1)))
          | inr there ↦ counts other p there (ap (λ o. is_shared o other p) (sym said_private) ∙ shared) differ ∙ sym (said_names other)
        ]
      ]

-- ---- a link's record

no_more : (overflow : List Overflow) (id kind : ℕ) → HasNoMore overflow id → kept (is_of id kind) overflow ≡ []
no_more [] id kind none = refl
no_more (more ∷ rest) id kind none =
    ap (λ b. (if b && (more.fork == kind) then more ∷ [] else []) ++ kept (is_of id kind) rest) (none 0 more (omega arith)) ∙ no_more rest id kind (λ k d inside. none (suc k) d (omega (arith, inside)))

no_extents : (overflow : List Overflow) (id kind : ℕ) → HasNoMore overflow id → extents_of overflow id kind no_fork ≡ []
unfolding extents_of
no_extents overflow id kind none = ap (λ l. in_use no_fork.extents.extents ++ flat_map (λ (more : Overflow). in_use more.extents) l) (by_id (id == extents_id))
  where
    by_id : (b : Bool) → (if b then [] else kept (is_of id kind) overflow) ≡ []
    by_id true = refl
    by_id false = no_more overflow id kind none

is_one : (at : EntryAt) (id reference date : ℕ) → is_link (link_at at id reference date) ≡ true
unfolding number_at
is_one at id reference date = refl

-- a link is good where links may stand, and its number has a file
new_link_good : (at : EntryAt) (id reference date : ℕ) (records : List Placed) (overflow : List Overflow) → (IsHidden records at.parent → ⊥) → HasNoMore overflow id
    → (file : Placed) → Contains (entries_of records) file → is_shared_file records reference file ≡ true → IsGoodLink records overflow (link_at at id reference date)
new_link_good at id reference date records overflow seen none file stands shared = record {
  outside = seen;
  empty = λ i. blocks_of (no_extents overflow id 0 none i) ++ (blocks_of (no_extents overflow id 255 none i) ++ []);
  node = (file, stands, shared);
}

placed_so : (private reference : ℕ) (p : Placed) → p.parent ≡ private → p.name ≡ node_name reference → is_placed_at private (node_name reference) p ≡ true
placed_so private reference p parent name =
    (λ i. (parent i == private) && bytes_eq (name i) (node_name reference)) ∙ (λ i. same_number private i && (bytes_eq-Decides (node_name reference) (node_name reference)).1 refl i)

-- what is found under a number is a file where a file stands there
found_is_file : (private reference : ℕ) (pairs : List Pair) (p found : Placed) → AreSorted pairs → Contains (placed_in pairs) p → p.parent ≡ private → p.name ≡ node_name reference → is_file p.value ≡ true
    → record_at (placed_in pairs) private (node_name reference) ≡ Some found → is_file found.value ≡ true
found_is_file private reference pairs p found order stands parent name file is =
    ap (λ (q : Placed). is_file q.value) (some_placed found p (sym is ∙ found_at pairs p private (node_name reference) order stands (placed_so private reference p parent name))) ∙ file

-- an entry at a place, with what stands in the way of its being the private folder
module _ (at : EntryAt) (pairs : List Pair) (overflow : List Overflow) (order : AreSorted pairs) (good : AreGoodLinks (placed_in pairs) overflow) (some : 1 ≤ length at.name) (e : Placed) (found : record_at (placed_in pairs) at.parent at.name ≡ Some e) where
  its : Contains (placed_in pairs) e × (is_placed_at at.parent at.name e ≡ true)
  its = found_stands (is_placed_at at.parent at.name) (placed_in pairs) e found

  its_at : (e.parent ≡ at.parent) × (e.name ≡ at.name)
  its_at = its_place e at.parent at.name its.1

  its_named : is_empty e.name ≡ false
  its_named = ap is_empty its_at.1 ∙ empty_name at.name some

  its_entry : Contains (entries_of (placed_in pairs)) e
  its_entry = is_entry_of (placed_in pairs) e its.0 its_named

  taken_out : (small : List Pair) → AddsEntry e small pairs → is_folder e.value ≡ false → FileMore e small pairs
  taken_out small adds no_folder = record { adds = adds; named = its_named; no_folder = no_folder; apart = file_apart pairs overflow e order good its.0 no_folder }

-- an entry that is put where there was none
put_in : (private : ℕ) (e : Placed) (small big : List Pair) → private_id (placed_in small) ≡ Some private → AddsEntry e small big → is_empty e.name ≡ false → is_folder e.value ≡ false → AreSorted big → FileMore e small big
put_in private e small big folder adds named no_folder order = record {
  adds = adds;
  named = named;
  no_folder = no_folder;
  apart = own_apart private (placed_in small) e folder (left_vacant e small big adds named order);
}

-- ---- a later link

module _ (private : ℕ) (from to : EntryAt) (one other : ℕ) (old new : List Pair) (overflow : List Overflow) (order : AreSorted old) (order_new : AreSorted new) (folder : private_id (placed_in old) ≡ Some private)
    (links : AreLinks (placed_in old) overflow) (some_from : 1 ≤ length from.name) (some_to : 1 ≤ length to.name) (show : MayShow from to one other (placed_in old) overflow) where
  to_apart : to.parent ≡ private → ⊥
  to_apart = seen_apart private (placed_in old) to.parent folder show.to_seen

  from_apart : from.parent ≡ private → ⊥
  from_apart = seen_apart private (placed_in old) from.parent folder show.from_seen

  pub more_keeps : MakesMore private from to one old new → AreLinks (placed_in new) overflow
  more_keeps makes =
      said_right private reference (names (placed_in old) reference + 1) makes.linked new makes.counts (private_up linked_more ∙ folder) order_new
      (found_is_file private reference makes.linked node.0 makes.counts.file makes.sorted_linked (entry_is_record (placed_in makes.linked) node.0 (still_entry (side linked_more) node.0 node.1)) parent shared.name shared.file makes.counts.found)
      overflow shared.low
      (goods_up linked_more overflow (λ _. new_link_good to one reference (link_date old) (placed_in old) overflow show.to_seen show.first node.0 node.1 node.2) links.good)
      (counts_up linked_more reference (λ number is. absurd (to_apart (in_private private number (placed_in makes.linked) link (private_up linked_more ∙ folder) is))) (λ _. refl) (λ number file stands is _. links.counts number file stands is))
      (names_one linked_more (is_one to one reference (link_date old)))
    where
      reference : ℕ
      reference = special_of makes.entry

      link : Placed
      link = link_at to one reference (link_date old)

      node : (file : Placed) × Contains (entries_of (placed_in old)) file × (is_shared_file (placed_in old) reference file ≡ true)
      node = (links.good.links makes.entry (its_entry from old overflow order links.good some_from makes.entry makes.found) makes.is_one).node

      shared : IsShared (private_id (placed_in old)) reference node.0
      shared = shared_is (private_id (placed_in old)) reference node.0 node.2

      parent : node.0.parent ≡ private
      parent = in_private private reference (placed_in old) node.0 folder node.2

      linked_more : FileMore link old makes.linked
      linked_more = put_in private link old makes.linked folder makes.links.0 (empty_name to.name some_to) refl makes.sorted_linked

  -- ---- a first link

  module _ (makes : MakesFirst private from to one other old new) (a_file : is_file makes.entry.value ≡ true) where
    abbrev reference : ℕ
    reference = makes.reference

    abbrev between : List Pair
    between = makes.moves.between

    abbrev shared_file : Placed
    shared_file = record makes.entry { parent = private; name = node_name makes.reference }

    abbrev first_link : Placed
    first_link = link_at from one makes.reference (link_date old)

    abbrev second_link : Placed
    second_link = link_at to other makes.reference (link_date old)

    no_link : is_link makes.entry ≡ true → ⊥
    no_link is = true≢false (sym is ∙ makes.not_link)

    low : nat_lt makes.reference (2 ^ 32) ≡ true
    low = elim makes.first [
      | inl from_own ↦ lt-ltb makes.reference (2 ^ 32) from_own.fits
      | inr from_one ↦ lt-ltb makes.reference (2 ^ 32) from_one.1.fits
    ]

    out : FileMore makes.entry between old
    out = taken_out from old overflow order links.good some_from makes.entry makes.found between makes.moves.out (file_no_folder makes.entry.value a_file)

    folder_1 : private_id (placed_in between) ≡ Some private
    folder_1 = sym (private_up out) ∙ folder

    good_1 : AreGoodLinks (placed_in between) overflow
    good_1 = goods_down out overflow (λ p stands link shared.
        from_apart (sym (its_at from old overflow order links.good some_from makes.entry makes.found).0 ∙ in_private private (special_of p) (placed_in old) makes.entry folder shared)) links.good

    counts_1 : CountsBut makes.reference (placed_in between)
    counts_1 = counts_down out makes.reference (λ is. absurd (no_link is)) (λ number file stands shared _. links.counts number file stands shared)

    names_1 : names (placed_in between) makes.reference ≡ 0
    names_1 =
        sym (names_same out makes.reference (λ is _. no_link is)) ∙ none_named private makes.reference old overflow folder links.good (first_is_free old private (codes "iNode") (id_of makes.entry) makes.reference makes.first)

    back : FileMore shared_file between makes.moved
    back = put_in private shared_file between makes.moved folder_1 makes.moves.back refl (file_no_folder makes.entry.value a_file) makes.sorted_moved

    folder_2 : private_id (placed_in makes.moved) ≡ Some private
    folder_2 = private_up back ∙ folder_1

    good_2 : AreGoodLinks (placed_in makes.moved) overflow
    good_2 = goods_up back overflow (λ is. absurd (no_link is)) good_1

    counts_2 : CountsBut makes.reference (placed_in makes.moved)
    counts_2 = counts_up back makes.reference (λ number shared.
        let its = shared_is (private_id (placed_in makes.moved)) number shared_file shared in
        one_number number makes.reference its.low low (sym its.name)) (λ is. absurd (no_link is)) counts_1

    names_2 : names (placed_in makes.moved) makes.reference ≡ 0
    names_2 = names_same back makes.reference (λ is _. no_link is) ∙ names_1

    seen_2 : (x : ℕ) → (IsHidden (placed_in old) x → ⊥) → IsHidden (placed_in makes.moved) x → ⊥
    seen_2 x seen hidden = seen (hidden_up out x (hidden_down back x hidden))

    file_shared : is_shared_file (placed_in makes.moved) makes.reference shared_file ≡ true
    file_shared = shared_so private makes.reference (placed_in makes.moved) shared_file folder_2 refl a_file refl low

    one_more_link : FileMore first_link makes.moved makes.replaced
    one_more_link = put_in private first_link makes.moved makes.replaced folder_2 makes.replaces.0 (empty_name from.name some_from) refl makes.sorted_replaced

    folder_3 : private_id (placed_in makes.replaced) ≡ Some private
    folder_3 = private_up one_more_link ∙ folder_2

    good_3 : AreGoodLinks (placed_in makes.replaced) overflow
    good_3 = goods_up one_more_link overflow
        (λ _. new_link_good from one makes.reference (link_date old) (placed_in makes.moved) overflow (seen_2 from.parent show.from_seen) show.first shared_file (the_entry (side back)) file_shared) good_2

    counts_3 : CountsBut makes.reference (placed_in makes.replaced)
    counts_3 = counts_up one_more_link makes.reference (λ number shared. absurd (from_apart (in_private private number (placed_in makes.replaced) first_link folder_3 shared))) (λ _. refl) counts_2

    two_links : FileMore second_link makes.replaced makes.linked
    two_links = put_in private second_link makes.replaced makes.linked folder_3 makes.links.0 (empty_name to.name some_to) refl makes.sorted_linked

    folder_4 : private_id (placed_in makes.linked) ≡ Some private
    folder_4 = private_up two_links ∙ folder_3

    good_4 : AreGoodLinks (placed_in makes.linked) overflow
    good_4 = goods_up two_links overflow
        (λ _. new_link_good to other makes.reference (link_date old) (placed_in makes.replaced) overflow (λ hidden. seen_2 to.parent show.to_seen (hidden_down one_more_link to.parent hidden)) show.second shared_file
        (still_entry (side one_more_link) shared_file (the_entry (side back))) (shared_up one_more_link makes.reference shared_file file_shared)) good_3

    counts_4 : CountsBut makes.reference (placed_in makes.linked)
    counts_4 = counts_up two_links makes.reference (λ number shared. absurd (to_apart (in_private private number (placed_in makes.linked) second_link folder_4 shared))) (λ _. refl) counts_3

    names_4 : names (placed_in makes.linked) makes.reference ≡ 2
    names_4 =
        omega (arith, names_2, names_one one_more_link (is_one from one makes.reference (link_date old)), names_one two_links (is_one to other makes.reference (link_date old)))

    pub first_keeps : AreLinks (placed_in new) overflow
    first_keeps =
        said_right private makes.reference 2 makes.linked new makes.counts folder_4 order_new
        (found_is_file private makes.reference makes.linked shared_file makes.counts.file makes.sorted_linked
        (entry_is_record (placed_in makes.linked) shared_file (still_entry (side two_links) shared_file (still_entry (side one_more_link) shared_file (the_entry (side back))))) refl refl a_file makes.counts.found)
        overflow low good_4 counts_4 names_4

-- ---- a link dropped

module _ (private : ℕ) (at : EntryAt) (left : ℕ) (old new : List Pair) (overflow : List Overflow) (order : AreSorted old) (order_new : AreSorted new) (folder : private_id (placed_in old) ≡ Some private)
    (links : AreLinks (placed_in old) overflow) (some : 1 ≤ length at.name) (drops : DropsLink private at left old new) where
  abbrev number : ℕ
  number = special_of drops.entry

  good_entry : IsGoodLink (placed_in old) overflow drops.entry
  good_entry = links.good.links drops.entry (its_entry at old overflow order links.good some drops.entry drops.found) drops.is_one

  abbrev node_of : (file : Placed) × Contains (entries_of (placed_in old)) file × (is_shared_file (placed_in old) number file ≡ true)
  node_of = good_entry.node

  its_shared : IsShared (private_id (placed_in old)) number node_of.0
  its_shared = shared_is (private_id (placed_in old)) number node_of.0 node_of.2

  dropped_more : FileMore drops.entry drops.dropped old
  dropped_more = taken_out at old overflow order links.good some drops.entry drops.found drops.dropped drops.drops (link_no_folder drops.entry drops.is_one)

  not_shared : (reference : ℕ) → is_shared_file (placed_in old) reference drops.entry ≡ true → ⊥
  not_shared reference shared = seen_apart private (placed_in old) drops.entry.parent folder good_entry.outside (in_private private reference (placed_in old) drops.entry folder shared)

  good_left : AreGoodLinks (placed_in drops.dropped) overflow
  good_left = goods_down dropped_more overflow (λ p stands link shared. not_shared (special_of p) shared) links.good

  counts_left : CountsBut number (placed_in drops.dropped)
  counts_left = counts_down dropped_more number (λ _. refl) (λ reference file stands shared _. links.counts reference file stands shared)

  folder_left : private_id (placed_in drops.dropped) ≡ Some private
  folder_left = sym (private_up dropped_more) ∙ folder

  node_left : Contains (entries_of (placed_in drops.dropped)) node_of.0
  node_left = elim (entry_cases (side dropped_more) node_of.0 node_of.1) [
    | inl same ↦ absurd (not_shared number (ap (is_shared_file (placed_in old) number) (sym same) ∙ node_of.2))
    | inr there ↦ there
  ]

  module _ (some_left : 0 < left) where
    said : CountsLinks private (node_name number) left drops.dropped new
    said = drops.some some_left

    node_file : is_file said.file.value ≡ true
    node_file = found_is_file private number drops.dropped node_of.0 said.file drops.sorted (entry_is_record (placed_in drops.dropped) node_of.0 node_left)
        (in_private private number (placed_in old) node_of.0 folder node_of.2) its_shared.name its_shared.file said.found

    drop_keeps : AreLinks (placed_in new) overflow
    drop_keeps = said_right private number left drops.dropped new said folder_left order_new node_file overflow its_shared.low good_left counts_left (sym drops.rest)

    folder_said : private_id (placed_in new) ≡ Some private
    folder_said = said_private private number left drops.dropped new said folder_left order_new node_file ∙ folder_left

  last_keeps : left ≡ 0 → AreLinksBut private (node_name number) (placed_in drops.dropped) overflow
  last_keeps none = record {
    good = good_left;
    counts = λ reference file stands away shared. counts_left reference file stands shared (λ same.
        true≢false (sym (placed_so private number file (in_private private reference (placed_in drops.dropped) file folder_left shared)
        ((shared_is (private_id (placed_in drops.dropped)) reference file shared).name ∙ ap node_name same)) ∙ away));
    unnamed = λ reference file stands placed shared.
        let its = shared_is (private_id (placed_in drops.dropped)) reference file shared in
        let same = one_number reference number its.low its_shared.low (sym its.name ∙ (its_place file private (node_name number) placed).1) in
        ap (names (placed_in drops.dropped)) same ∙ sym drops.rest ∙ none;
  }

  pub dropping_keeps : KeepsRules private at left old new overflow
  dropping_keeps = (
    drop_keeps,
    (λ entry found none.
        subst (λ (e : Placed). AreLinksBut private (node_name (special_of e)) (placed_in new) overflow) (some_placed drops.entry entry (sym drops.found ∙ found))
        (subst (λ (l : List Pair). AreLinksBut private (node_name number) (placed_in l) overflow) (sym (drops.none none)) (last_keeps none))),
    elim (cases_lt 0 left) [
      | inl more ↦ folder_said more
      | inr most ↦ ap (λ (l : List Pair). private_id (placed_in l)) (drops.none (omega (arith, most))) ∙ folder_left
    ],
  )

-- ---- a file put aside

module _ (private : ℕ) (at : EntryAt) (old new : List Pair) (overflow : List Overflow) (order : AreSorted old) (order_new : AreSorted new) (folder : private_id (placed_in old) ≡ Some private)
    (links : AreLinksBut at.parent at.name (placed_in old) overflow) (some : 1 ≤ length at.name) (makes : MakesOrphan private at old new) (a_file : is_file makes.entry.value ≡ true) (not_link : is_link makes.entry ≡ false) where
  abbrev aside : Placed
  aside = record makes.entry { parent = private; name = orphan_name makes.number }

  no_link_there : is_link makes.entry ≡ true → ⊥
  no_link_there is = true≢false (sym is ∙ not_link)

  gone : FileMore makes.entry makes.moves.between old
  gone = taken_out at old overflow order links.good some makes.entry makes.found makes.moves.between makes.moves.out (file_no_folder makes.entry.value a_file)

  folder_gone : private_id (placed_in makes.moves.between) ≡ Some private
  folder_gone = sym (private_up gone) ∙ folder

  good_gone : AreGoodLinks (placed_in makes.moves.between) overflow
  good_gone = goods_down gone overflow (λ p stands link shared.
      omega (
        arith,
        link_counted (placed_in old) p (still_entry (side gone) p stands) link,
        links.unnamed (special_of p) makes.entry (its_entry at old overflow order links.good some makes.entry makes.found) (its at old overflow order links.good some makes.entry makes.found).1 shared,
      )) links.good

  counts_gone : HaveLinkCounts (placed_in makes.moves.between)
  counts_gone reference file stands shared =
      let place = its_at at old overflow order links.good some makes.entry makes.found in
      let away : is_placed_at at.parent at.name file ≡ false =
      (λ i. (file.parent == sym place.0 i) && bytes_eq file.name (sym place.1 i)) ∙ no_other_at (side gone) order file (entry_is_record (placed_in makes.moves.between) file stands) in
      links.counts reference file (still_entry (side gone) file stands) away (shared_up gone reference file shared) ∙ names_same gone reference (λ is _. no_link_there is)

  put_aside : FileMore aside makes.moves.between new
  put_aside = put_in private aside makes.moves.between new folder_gone makes.moves.back refl (file_no_folder makes.entry.value a_file) order_new

  pub orphan_keeps : AreLinks (placed_in new) overflow
  orphan_keeps = record {
    good = goods_up put_aside overflow (λ is. absurd (no_link_there is)) good_gone;
    counts = λ reference file stands shared. elim (entry_cases (side put_aside) file stands) [
      | inl same ↦
          absurd (orphan_no_node makes.number reference (sym (ap (λ (p : Placed). p.name) same) ∙ (shared_is (private_id (placed_in new)) reference file shared).name))
      | inr there ↦ counts_gone reference file there (shared_down put_aside reference file shared) ∙ sym (names_same put_aside reference (λ is _. no_link_there is))
    ];
  }

-- ---- as the calls say it

ok_with : {T E : Type 0} (result : Result T E) (P R : T → Type 0) (Q : Type 0) → ((answer : T) → P answer → Q → R answer) → IfOk result P → OnOk result Q → IfOk result R
ok_with (Ok answer) P R Q so does also = so answer does also
ok_with (Err why) P R Q so does also = tt

on_ok_with : {T E : Type 0} (result : Result T E) (P : T → Type 0) (Q R : Type 0) → ((answer : T) → P answer → Q → R) → IfOk result P → OnOk result Q → OnOk result R
on_ok_with (Ok answer) P Q R so does also = so answer does also
on_ok_with (Err why) P Q R so does also = tt

pub making_keeps : {E : Type 0} (private : ℕ) (from to : EntryAt) (one other : ℕ) (old new : Store) (overflow : List Overflow) (tree : IsTree IsCatalogKey catalog_cmp old) (may : MayLink private from to one other (pairs_of old))
    (some_from : 1 ≤ length from.name) (some_to : 1 ≤ length to.name) (links : AreLinks (placed_in (pairs_of old)) overflow) (show : MayShow from to one other (placed_in (pairs_of old)) overflow)
    (result : Result Linked E) → IfOk result (λ answer. MakesLink private from to one other (pairs_of old) (pairs_of new) answer) → OnOk result (IsTree IsCatalogKey catalog_cmp new)
    → OnOk result (AreLinks (placed_in (pairs_of new)) overflow)
making_keeps private from to one other old new overflow tree may some_from some_to links show result made made_tree =
    on_ok_with result (λ answer. MakesLink private from to one other (pairs_of old) (pairs_of new) answer) (IsTree IsCatalogKey catalog_cmp new) (AreLinks (placed_in (pairs_of new)) overflow)
    (λ answer makes after. by_answer answer makes.does (tree_sorted IsCatalogKey new after)) made made_tree
  where
    order : AreSorted (pairs_of old)
    order = tree_sorted IsCatalogKey old tree

    by_answer : (answer : Linked) → Linking private from to one other (pairs_of old) (pairs_of new) answer → AreSorted (pairs_of new) → AreLinks (placed_in (pairs_of new)) overflow
    by_answer linked.TooManyLinks same order_new = subst (λ (l : List Pair). AreLinks (placed_in l) overflow) (sym same) links
    by_answer linked.Done (inl makes) order_new =
        first_keeps private from to one other (pairs_of old) (pairs_of new) overflow order order_new may.links.folder links some_from some_to show makes
        (ap (λ (p : Placed). is_file p.value) (some_placed makes.entry may.file.entry (sym makes.found ∙ may.file.found)) ∙ may.file.file)
    by_answer linked.Done (inr makes) order_new = more_keeps private from to one other (pairs_of old) (pairs_of new) overflow order order_new may.links.folder links some_from some_to show makes

pub dropping_keeps_ok : {E : Type 0} (private : ℕ) (at : EntryAt) (old new : Store) (overflow : List Overflow) (tree : IsTree IsCatalogKey catalog_cmp old) (folder : private_id (placed_in (pairs_of old)) ≡ Some private)
    (some : 1 ≤ length at.name) (links : AreLinks (placed_in (pairs_of old)) overflow) (result : Result ℕ E) → IfOk result (λ left. DropsLink private at left (pairs_of old) (pairs_of new)) → OnOk result (IsTree IsCatalogKey catalog_cmp new)
    → IfOk result (λ left. KeepsRules private at left (pairs_of old) (pairs_of new) overflow)
dropping_keeps_ok private at old new overflow tree folder some links result dropped dropped_tree =
    ok_with result (λ left. DropsLink private at left (pairs_of old) (pairs_of new)) (λ left. KeepsRules private at left (pairs_of old) (pairs_of new) overflow) (IsTree IsCatalogKey catalog_cmp new)
    (λ left drops after. dropping_keeps private at left (pairs_of old) (pairs_of new) overflow (tree_sorted IsCatalogKey old tree) (tree_sorted IsCatalogKey new after) folder links some drops) dropped dropped_tree

pub orphan_keeps_in : (private : ℕ) (at : EntryAt) (old new : Store) (overflow : List Overflow) → IsTree IsCatalogKey catalog_cmp old → IsTree IsCatalogKey catalog_cmp new → private_id (placed_in (pairs_of old)) ≡ Some private → 1 ≤ length at.name
    → NamesFile at (pairs_of old) → NamesNoLink at (pairs_of old) → AreLinksBut at.parent at.name (placed_in (pairs_of old)) overflow → MakesOrphan private at (pairs_of old) (pairs_of new) → AreLinks (placed_in (pairs_of new)) overflow
orphan_keeps_in private at old new overflow tree after folder some file not_link links makes =
    orphan_keeps private at (pairs_of old) (pairs_of new) overflow (tree_sorted IsCatalogKey old tree) (tree_sorted IsCatalogKey new after) folder links some makes
    (ap (λ (p : Placed). is_file p.value) (some_placed makes.entry file.entry (sym makes.found ∙ file.found)) ∙ file.file) (not_link makes.entry makes.found)

-- a file outside the private folder has no number
pub plain_unnamed : (private parent : ℕ) (name : List ℕ) (records : List Placed) (overflow : List Overflow) → private_id records ≡ Some private → (parent ≡ private → ⊥) → AreLinks records overflow → AreLinksBut parent name records overflow
plain_unnamed private parent name records overflow folder outside links = record {
  good = links.good;
  counts = λ reference file stands away shared. links.counts reference file stands shared;
  unnamed = λ reference file stands placed shared. absurd (outside (sym (its_place file parent name placed).0 ∙ in_private private reference records file folder shared));
}
