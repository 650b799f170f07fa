-- Links and the files that they name: what was told of rows is what rule 19 says of records.
use Rattle.std.proofs.Common.{◌≡◌, ◌≢◌, ◌<◌, ◌≤◌, ℕ, zero, suc, ◌+◌, ◌^◌, nat_lt, Bool, true, false, not, ◌&&◌, ◌==◌, if◌then◌else◌, List, [], ◌∷◌, ◌++◌, length, inl, inr, refl, sym, ◌∙◌, ap, subst, arith, ⊎_elim}
use Rattle.std.specs.Prelude.{All, Contains, Option, Some, None}
use Rattle.std.specs.List.{flat_map, list_all, count_by, range_with_len}
use Rattle.std.proofs.lemmas.Bool.{true≢false, eqb-true, eq-eqb, ne_eqb, and_parts}
use Rattle.std.proofs.lemmas.List.{get_or_default, length-append}
use Rattle.std.proofs.lemmas.List.FromFn.{length-range_with_len}
use Rattle.std.proofs.lemmas.List.Elements.{Contains-append_right}
use Rattle.std.proofs.lemmas.Slice.Eq.{bytes_eq-Decides}
use Rattle.hx_bytes.specs.Fork.{fork_at, extents_at}
use Rattle.hx_bytes.specs.declared.extents.Extent.{Extent}
use Rattle.fork_map.specs.Blocks.{blocks_of}
use Rattle.alloc_bitmap.specs.Apart.{times}
use Rattle.btree_node.specs.Levels.{Pair}
use Rattle.hx_bytes.specs.Field.{big_at}
use Rattle.cat_records.specs.Records.{catalog_of, entry_of, thread_of}
use Rattle.cat_records.specs.declared.record.CatRecord.{CatRecord}
use Rattle.cat_records.specs.declared.record.CatRecord.TheVariants.{Folder, File, Thread}
use Rattle.cat_records.specs.declared.record.FileRecord.{FileRecord}
use Rattle.hfs_model.specs.Step.{private_name}
use Rattle.hfs_volume.specs.Records.{Placed, Overflow, placed_of, placed_in, entries_of, record_at, is_folder, is_file, is_link, is_empty, id_in, id_of, special_of}
use Rattle.hfs_volume.specs.Forks.{Owned, in_use, is_full, overflow_in, extents_of, blocks_owned, forks_in, file_forks, special_forks, all_forks}
use Rattle.hfs_volume.specs.Blocks.{GoOn, GoesOn, forks_of}
use Rattle.hfs_volume.specs.Content.{VolumeState, records_of, overflow_in_volume}
use Rattle.std.specs.Str.{bytes_eq}
use Rattle.hfs_volume.specs.Links.{folder_id, is_in, private_id, is_shared, is_shared_file, is_link_to, links_to, node_name, reference_of, IsGoodLink, HaveLinkCounts, AreLinks}
use Rattle.hfs_volume.specs.Broken.{Want, want, AllMet, IsUnmet, IsFailed, link_wants, FailsLink}
use Rattle.hfs_volume.proofs.Members.{in_one, at_front, each_of, map_cases, map_stands}
use Rattle.hfs_volume.proofs.Wants.{first_met, met_each}
use Rattle.hfs_volume.proofs.EntryWants.{met_at, met_of, flat_cases, counted, none_or_one}
use Rattle.hfs_volume.proofs.TreeWants.{stands_flat}
use Rattle.hfs_volume.proofs.LinkWants.{reference_is}
use Rattle.hfs_volume.proofs.Counting.{length_kept}
use Rattle.hfs_volume.proofs.Sides.{is_entry_of, entry_is_record}
use Rattle.hfs_volume.specs.Broken as broken
use Rattle.fsck_list.specs.declared.finding.Finding.{Finding}
use Rattle.fsck_core.specs.Judged.{Judged, AddsUnmet}
use Rattle.fsck_core.specs.Decided.{Adds, Decided, AllPass, IsMissed}
use Rattle.fsck_core.specs.Rows.{row_of, rows_of, row_at, no_row, has_no_block, is_bare}
use Rattle.fsck_core.specs.Parents.{marked, IsBelow}
use Rattle.fsck_core.specs.Names.{value_found, id_found, IsSharedAs, AreShared}
use Rattle.fsck_core.specs.Links.{folder_found, is_private, links_here, link_count, link_want, Hides, is_fine, fine_at, IsBrokenName}
use Rattle.fsck_core.specs.Catalogs.{HasRows}
use Rattle.fsck_core.specs.declared.rows.Row.{Row}
use Rattle.fsck_core.specs.declared.shared.SharedFile.{SharedFile}
use Rattle.fsck_core.proofs.RowLaws.{count_map}
use Rattle.fsck_core.proofs.ParentLaws.{is_below, lies_in}
use Rattle.std.specs.List.Sorted.{IsNonDecreasingBy}
use Rattle.fsck_core.proofs.EntryLaws.{entries_rise}
use Rattle.fsck_core.proofs.DecidedLaws.{adds_two, adds_so, decided_both, decided_as, decided_numbers, adds_unless, decided_one, Unless}
use Rattle.fsck_list.specs.Kept.{IsListed}
use Rattle.fsck_core.specs.Decided.{StaysListed}

-- ---- forks without a block

no_extents : (extents : List Extent) → list_all (λ (e : Extent). e.count == 0) extents ≡ true → in_use extents ≡ []
no_extents [] is = refl
no_extents (e ∷ es) is = let parts = and_parts (e.count == 0) (list_all (λ (x : Extent). x.count == 0) es) is in
    ap (λ b. (if not b then e ∷ [] else []) ++ in_use es) parts.0 ∙ no_extents es parts.1

no_blocks : (extents : List Extent) (more : List Extent) → blocks_of (in_use extents ++ more) ≡ [] → list_all (λ (e : Extent). e.count == 0) extents ≡ true
no_blocks [] more is = refl
no_blocks (e ∷ es) more is = at (no_blocks es more) (e.count == 0) refl
  where
    at : (blocks_of (in_use es ++ more) ≡ [] → list_all (λ (x : Extent). x.count == 0) es ≡ true) → (b : Bool) → (e.count == 0) ≡ b → list_all (λ (x : Extent). x.count == 0) (e ∷ es) ≡ true
    at rest true zero_is = ap (λ c. c && list_all (λ (x : Extent). x.count == 0) es) zero_is ∙ rest (sym (ap (λ c. blocks_of (((if not c then e ∷ [] else []) ++ in_use es) ++ more)) zero_is) ∙ is)
    at rest false some =
        let all : range_with_len e.start e.count ++ blocks_of (in_use es ++ more) ≡ [] = sym (ap (λ c. blocks_of (((if not c then e ∷ [] else []) ++ in_use es) ++ more)) some) ∙ is in
        let long : e.count + length (blocks_of (in_use es ++ more)) ≡ 0 =
        ap (λ n. n + length (blocks_of (in_use es ++ more))) (sym (length-range_with_len e.start e.count)) ∙ sym (length-append (range_with_len e.start e.count) (blocks_of (in_use es ++ more))) ∙ ap (λ (l : List ℕ). length l) all in
        let none : e.count ≡ 0 = omega (arith, long) in
        absurd (true≢false (sym (eq-eqb e.count 0 none) ∙ some))

-- a fork with no block in its record has no overflow records, where these go on behind it
module _ (overflow : List Overflow) (owned : Owned) (on : GoesOn overflow owned) (some : 0 < length owned.fork.extents.extents) where
  abbrev own : List Extent
  own = owned.fork.extents.extents

  not_full : (extents : List Extent) → 0 < length extents → list_all (λ (e : Extent). e.count == 0) extents ≡ true → is_full extents ≡ false
  not_full [] there is = absurd (omega (arith, there))
  not_full (e ∷ es) there is = ap (λ b. not b && is_full es) (and_parts (e.count == 0) (list_all (λ (x : Extent). x.count == 0) es) is).0

  no_more : (place : ℕ) (full : Bool) (more : List Overflow) → full ≡ false → GoOn place full more → more ≡ []
  no_more place full [] is goes = refl
  no_more place full (x ∷ xs) is goes = absurd (true≢false (sym goes.1 ∙ is))

  pub bare_is_empty : has_no_block owned.fork ≡ true → blocks_owned overflow owned ≡ []
  unfolding extents_of
  bare_is_empty bare =
      let none : overflow_in overflow owned.id owned.kind ≡ [] = no_more (length (blocks_of own)) (is_full own) (overflow_in overflow owned.id owned.kind) (not_full own some bare) on in
      λ i. blocks_of (no_extents own bare i ++ flat_map (λ (m : Overflow). in_use m.extents) (none i))

pub empty_is_bare : (overflow : List Overflow) (owned : Owned) → blocks_owned overflow owned ≡ [] → has_no_block owned.fork ≡ true
unfolding extents_of
empty_is_bare overflow owned is = no_blocks owned.fork.extents.extents (flat_map (λ (m : Overflow). in_use m.extents) (overflow_in overflow owned.id owned.kind)) is

-- the forks of a file that was read have eight extents
eight : (bytes : List ℕ) (at : ℕ) → length (fork_at bytes at).extents.extents ≡ 8
unfolding extents_at
eight bytes at = refl

abbrev file_or : CatRecord → FileRecord → FileRecord
file_or (Folder folder) d = d
file_or (File file) d = file
file_or (Thread thread) d = d

pub forks_are_long : (bytes : List ℕ) (file : FileRecord) → catalog_of bytes ≡ File file → (0 < length file.data_fork.extents.extents) × (0 < length file.resource_fork.extents.extents)
forks_are_long bytes file is = at (big_at 2 bytes 0 == 1) (big_at 2 bytes 0 == 2) is
  where
    own : FileRecord
    own = record { fields = entry_of bytes; data_fork = fork_at bytes 88; resource_fork = fork_at bytes 168 }

    Long : FileRecord → Type 0
    Long f = (0 < length f.data_fork.extents.extents) × (0 < length f.resource_fork.extents.extents)

    own_long : Long own
    own_long = (omega (arith, eight bytes 88), omega (arith, eight bytes 168))

    at : (a b : Bool) → (if a then Folder (record { fields = entry_of bytes }) else if b then File own else Thread (thread_of bytes)) ≡ File file → Long file
    at true b same = absurd (cc)
    at false true same = subst Long (ap (λ r. file_or r own) same) own_long
    at false false same = absurd (cc)

split_flat : (xs ys : List ℕ) → xs ++ (ys ++ []) ≡ [] → (xs ≡ []) × (ys ≡ [])
split_flat [] [] is = (refl, refl)
split_flat [] (y ∷ ys) is = absurd (cc)
split_flat (x ∷ xs) ys is = absurd (cc)

-- ---- rows and records

pub private_is : (found : Option Placed) → folder_found (value_found found) ≡ folder_id found
private_is None = refl
private_is (Some placed) = at placed.value
  where
    at : (value : CatRecord) → folder_found (Some value) ≡ (if is_folder value then Some (id_in value) else None)
    at (Folder folder) = refl
    at (File file) = refl
    at (Thread thread) = refl

-- a file with several names has a name
shared_named : (private : Option ℕ) (reference : ℕ) (placed : Placed) → is_shared private reference placed ≡ true → is_empty placed.name ≡ false
shared_named private reference placed is =
    let a = and_parts (is_in private placed && is_file placed.value && bytes_eq placed.name (node_name reference)) (nat_lt reference (2 ^ 32)) is in
    let b = and_parts (is_in private placed && is_file placed.value) (bytes_eq placed.name (node_name reference)) a.0 in
    ap is_empty ((bytes_eq-Decides placed.name (node_name reference)).0 b.1)

not_zero : (n : ℕ) → not (n == 0) ≡ true → 0 < n
not_zero zero is = absurd (true≢false (sym is))
not_zero (suc n) is = omega arith

some_yes : (n : ℕ) → 0 < n → not (n == 0) ≡ true
some_yes n some = let other : n ≢ 0 = λ is. absurd (omega (arith, is, some)) in ap not (ne_eqb n 0 other)

no_then : (b : Bool) → not b ≡ true → b ≡ false
no_then true is = sym is
no_then false is = refl

-- what a row that is a link must have
fine_parts : (row : Row) (hidden : Bool) (many : ℕ) → row.link ≡ true → is_fine row hidden many ≡ true → (hidden ≡ false) × (row.bare ≡ true) × (0 < many)
fine_parts row hidden many link is =
    let whole : (not hidden && (row.bare && not (many == 0))) ≡ true = sym (ap (λ b. if b then (not hidden && (row.bare && not (many == 0))) else true) link) ∙ is in
    let a = and_parts (not hidden) (row.bare && not (many == 0)) whole in
    let b = and_parts row.bare (not (many == 0)) a.1 in
    (no_then hidden a.0, b.0, not_zero many b.1)

fine_from : (row : Row) (hidden : Bool) (many : ℕ) → (row.link ≡ true → (hidden ≡ false) × (row.bare ≡ true) × (0 < many)) → is_fine row hidden many ≡ true
fine_from row hidden many parts = at row.link refl
  where
    at : (b : Bool) → row.link ≡ b → (if b then (not hidden && (row.bare && not (many == 0))) else true) ≡ true
    at false is = refl
    at true is = let own = parts is in λ i. (ap not own.0 i) && (own.1 i && some_yes many own.2 i)

unfine_links : (row : Row) (hidden : Bool) (many : ℕ) → is_fine row hidden many ≡ false → row.link ≡ true
unfine_links row hidden many is = at row.link refl
  where
    at : (b : Bool) → row.link ≡ b → b ≡ true
    at true same = refl
    at false same = absurd (true≢false (sym (ap (λ b. if b then (not hidden && (row.bare && not (many == 0))) else true) same) ∙ is))

module _ (volume : VolumeState) (pairs : List Pair) (rows : List Row) (ready : HasRows volume pairs rows) where
  abbrev records : List Placed
  records = records_of volume

  abbrev entries : List Placed
  entries = entries_of (records_of volume)

  abbrev overflow : List Overflow
  overflow = overflow_in_volume volume

  -- an entry by the place of its row
  pub entry_at : (k : ℕ) → k < length rows → (placed : Placed) × Contains entries placed × (row_at rows k ≡ row_of placed)
  entry_at k inside = subst (λ (l : List Row). (k < length l) → (placed : Placed) × Contains entries placed × (row_at l k ≡ row_of placed)) (sym ready.rows_are)
      (λ within. map_cases row_of entries (row_at (rows_of entries) k) (k, within, get_or_default (rows_of entries) k (row_at (rows_of entries) k) no_row within)) inside

  pub place_of_entry : (placed : Placed) → Contains entries placed → (k : ℕ) × (k < length rows) × (row_at rows k ≡ row_of placed)
  place_of_entry placed stands = subst (λ (l : List Row). (k : ℕ) × (k < length l) × (row_at l k ≡ row_of placed)) (sym ready.rows_are)
      (let row = map_stands row_of entries placed stands in (row.0, row.1, get_or_default (rows_of entries) row.0 no_row (row_of placed) row.1 ∙ row.2))

  -- a record of the catalog was read from a value
  value_of : (placed : Placed) → Contains entries placed → (bytes : List ℕ) × (placed.value ≡ catalog_of bytes)
  unfolding placed_of
  value_of placed stands =
      let from = map_cases placed_of volume.catalog_pairs placed (entry_is_record records placed stands) in
      (from.0.1, ap (λ (p : Placed). p.value) from.2)

  owned_stands : (placed : Placed) (owned : Owned) → Contains entries placed → Contains (forks_in placed.value) owned → Contains (forks_of volume) owned
  unfolding all_forks
  owned_stands placed owned stands own =
      Contains-append_right (special_forks volume.head) (file_forks records) owned (stands_flat (λ (p : Placed). forks_in p.value) entries placed owned stands own)

  goes : (placed : Placed) (owned : Owned) → Contains entries placed → Contains (forks_in placed.value) owned → GoesOn overflow owned
  goes placed owned stands own = each_of (GoesOn overflow) (forks_of volume) ready.goes_on owned (owned_stands placed owned stands own)

  -- a file has no block exactly where no extent of its record has one
  bare_file : (placed : Placed) (value : CatRecord) → placed.value ≡ value → Contains entries placed → is_bare value ≡ true → flat_map (blocks_owned overflow) (forks_in value) ≡ []
  bare_file placed (Folder folder) is stands bare = refl
  bare_file placed (Thread thread) is stands bare = refl
  bare_file placed (File file) is stands bare =
      let own_data : Owned = record { id = file.fields.id; kind = 0; fork = file.data_fork } in
      let resource : Owned = record { id = file.fields.id; kind = 255; fork = file.resource_fork } in
      let parts = and_parts (has_no_block file.data_fork) (has_no_block file.resource_fork) bare in
      let from = value_of placed stands in
      let long = forks_are_long from.0 file (sym from.1 ∙ is) in
      let here : (owned : Owned) → Contains (own_data ∷ resource ∷ []) owned → GoesOn overflow owned = λ owned own. goes placed owned stands (subst (λ v. Contains (forks_in v) owned) (sym is) own) in
      let one = bare_is_empty overflow own_data (here own_data (at_front own_data (resource ∷ []))) long.0 parts.0 in
      let other = bare_is_empty overflow resource (here resource (Contains-append_right (own_data ∷ []) (resource ∷ []) resource (at_front resource []))) long.1 parts.1 in
      λ i. one i ++ (other i ++ [])

  file_bare : (placed : Placed) (value : CatRecord) → is_file value ≡ true → flat_map (blocks_owned overflow) (forks_in value) ≡ [] → is_bare value ≡ true
  file_bare placed (Folder folder) file_is none = absurd (true≢false (sym file_is))
  file_bare placed (Thread thread) file_is none = absurd (true≢false (sym file_is))
  file_bare placed (File file) file_is none =
      let own_data : Owned = record { id = file.fields.id; kind = 0; fork = file.data_fork } in
      let resource : Owned = record { id = file.fields.id; kind = 255; fork = file.resource_fork } in
      let both_none = split_flat (blocks_owned overflow own_data) (blocks_owned overflow resource) none in
      λ i. (empty_is_bare overflow own_data both_none.0 i) && (empty_is_bare overflow resource both_none.1 i)

  link_is_file : (value : CatRecord) (placed : Placed) → placed.value ≡ value → is_link placed ≡ true → is_file value ≡ true
  link_is_file value placed is link = by value (subst (λ v. is_link (record { parent = 0; name = []; value = v }) ≡ true) is link)
    where
      by : (v : CatRecord) → is_link (record { parent = 0; name = []; value = v }) ≡ true → is_file v ≡ true
      by (Folder folder) wrong = absurd (true≢false (sym wrong))
      by (File file) right = refl
      by (Thread thread) wrong = absurd (true≢false (sym wrong))

  module _ (hidden : List Bool) (hides : Hides (private_id (records_of volume)) rows hidden) (files : List SharedFile) (are : AreShared (private_id (records_of volume)) (records_of volume) files)
      (shared : List ℕ) (shared_are : (n : ℕ) → times n shared ≡ count_by (λ (f : SharedFile). f.reference == n) files)
      (links : List ℕ) (links_are : (n : ℕ) → times n links ≡ link_count rows n) where
    -- a shared record is one of the files, with its number
    its_file : (placed : Placed) (reference : ℕ) → Contains entries placed → is_shared_file records reference placed ≡ true
        → (file : SharedFile) × Contains files file × (file.reference ≡ reference) × IsSharedAs (private_id records) placed file
    its_file placed reference stands is =
        let own = are.whole placed reference (entry_is_record records placed stands) is in
        (own.0, own.1, sym (reference_is records own.0.reference placed own.2.shared) ∙ reference_is records reference placed is, own.2)

    its_entry : (file : SharedFile) → Contains files file → (placed : Placed) × Contains entries placed × IsSharedAs (private_id records) placed file
    its_entry file stands =
        let own = are.sound file stands in
        (own.0, is_entry_of records own.0 own.1 (shared_named (private_id records) file.reference own.0 own.2.shared), own.2)

    many_files : (n : ℕ) → 0 < times n shared → (file : SharedFile) × Contains files file × (file.reference ≡ n)
    many_files n some = ⊎_elim
        (λ (none : count_by (λ (f : SharedFile). f.reference == n) files ≡ 0). absurd (omega (arith, some, none, shared_are n)))
        (λ (one : (f : SharedFile) × Contains files f × ((f.reference == n) ≡ true)). (one.0, one.1, eqb-true one.0.reference n one.2))
        (none_or_one (λ (f : SharedFile). f.reference == n) files)

    -- ---- each link

    pub good_link : (k : ℕ) (placed : Placed) → k < length rows → Contains entries placed → row_at rows k ≡ row_of placed → is_link placed ≡ true → fine_at rows hidden shared k ≡ true → IsGoodLink records overflow placed
    good_link k placed inside stands is link fine =
        let parts = fine_parts (row_at rows k) (marked hidden k) (times (row_at rows k).special shared) (ap (λ (r : Row). r.link) is ∙ link) fine in
        record {
          outside = λ up. true≢false (sym (hides.whole k up.0 inside up.1 (subst (IsBelow up.0 rows) (sym (ap (λ (r : Row). r.parent) is))
              (subst (λ (l : List Row). IsBelow up.0 l placed.parent) (sym ready.rows_are) (is_below entries placed.parent up.2)))) ∙ parts.0);
          empty = bare_file placed placed.value refl stands (sym (ap (λ (r : Row). r.bare) is) ∙ parts.1);
          node =
              let file = many_files (special_of placed) (subst (λ n. 0 < times n shared) (ap (λ (r : Row). r.special) is) parts.2) in
              let own = its_entry file.0 file.1 in
              (own.0, own.1, subst (λ n. is_shared_file records n own.0 ≡ true) file.2 own.2.shared);
        }

    pub fine_link : (k : ℕ) (placed : Placed) → k < length rows → Contains entries placed → row_at rows k ≡ row_of placed → (is_link placed ≡ true → IsGoodLink records overflow placed) → fine_at rows hidden shared k ≡ true
    fine_link k placed inside stands is good = fine_from (row_at rows k) (marked hidden k) (times (row_at rows k).special shared) (λ link.
        let link_is : is_link placed ≡ true = sym (ap (λ (r : Row). r.link) is) ∙ link in
        let own = good link_is in (
          out_of_it own (marked hidden k) refl,
          ap (λ (r : Row). r.bare) is ∙ file_bare placed placed.value (link_is_file placed.value placed refl link_is) own.empty,
          (let file = its_file own.node.0 (special_of placed) own.node.1 own.node.2 in
              let special : (row_at rows k).special ≡ special_of placed = ap (λ (r : Row). r.special) is in
              let there = counted (λ (f : SharedFile). f.reference == special_of placed) files file.0 file.1 (eq-eqb file.0.reference (special_of placed) file.2) in
              subst (λ n. 0 < times n shared) (sym special) (omega (arith, there, shared_are (special_of placed)))),
        ))
      where
        out_of_it : IsGoodLink records overflow placed → (b : Bool) → marked hidden k ≡ b → marked hidden k ≡ false
        out_of_it own false same = same
        out_of_it own true same =
            let up = hides.sound k inside same in
            absurd (own.outside (up.0, up.1, lies_in entries placed.parent (subst (λ (l : List Row). IsBelow up.0 l placed.parent) ready.rows_are (subst (IsBelow up.0 rows) (ap (λ (r : Row). r.parent) is) up.2))))

    pub links_hold : AllPass (fine_at rows hidden shared) (length rows) → (placed : Placed) → Contains entries placed → is_link placed ≡ true → IsGoodLink records overflow placed
    links_hold all placed stands link = let at = place_of_entry placed stands in good_link at.0 placed at.1 stands at.2 link (all at.0 at.1)

    pub links_pass : ((placed : Placed) → Contains entries placed → is_link placed ≡ true → IsGoodLink records overflow placed) → AllPass (fine_at rows hidden shared) (length rows)
    links_pass good k inside = let at = entry_at k inside in fine_link k at.0 inside at.1 at.2 (good at.0 at.1)

    pub link_fails : (f : broken.Finding) → IsMissed 19 (fine_at rows hidden shared) (λ k. (row_at rows k).id) (length rows) f → IsFailed 19 f (FailsLink volume)
    link_fails f missed =
        let k : ℕ = missed.3.0 in
        let at = entry_at k missed.3.1 in
        let link : (row_at rows k).link ≡ true = unfine_links (row_at rows k) (marked hidden k) (times (row_at rows k).special shared) missed.3.3 in (
          missed.0,
          missed.1,
          missed.2,
          inl (
            at.0,
            at.1,
            sym (ap (λ (r : Row). r.id) at.2) ∙ missed.3.2,
            sym (ap (λ (r : Row). r.link) at.2) ∙ link,
            λ good. true≢false (sym (fine_link k at.0 missed.3.1 at.1 at.2 (λ is. good)) ∙ missed.3.3),
          ),
        )

    -- ---- how many there are

    pub count_is : (reference : ℕ) → times reference links ≡ length (links_to records reference)
    count_is reference =
        links_are reference ∙ ap (λ (l : List Row). link_count l reference) ready.rows_are ∙ count_map row_of (links_here reference) entries ∙ sym (length_kept (is_link_to reference) entries)

    pub counts_hold : AllMet (flat_map (link_want links) files) → HaveLinkCounts records
    counts_hold met reference placed stands is =
        let own = its_file placed reference stands is in
        let same : own.0.links ≡ times own.0.reference links = first_met (want own.0.id own.0.links (times own.0.reference links)) [] (met_at (link_want links) files met own.0 own.1) in
        sym own.3.links ∙ same ∙ ap (λ n. times n links) own.2 ∙ count_is reference

    pub counts_met : HaveLinkCounts records → AllMet (flat_map (link_want links) files)
    counts_met have = met_of (link_want links) files (λ file stands.
        let own = its_entry file stands in
        met_each (link_want links file) (own.2.links ∙ have file.reference own.0 own.1 own.2.shared ∙ sym (count_is file.reference), tt))

    pub count_stands : (w : Want) → Contains (flat_map (link_want links) files) w → Contains (flat_map (link_wants records) entries) w
    count_stands w stands =
        let from = flat_cases (link_want links) files w stands in
        let file : SharedFile = from.0 in
        let own = its_entry file from.1 in
        let placed : Placed = own.0 in
        let reference : reference_of placed ≡ file.reference = reference_is records file.reference placed own.2.shared in
        let yes : is_shared_file records (reference_of placed) placed ≡ true = subst (λ n. is_shared_file records n placed ≡ true) (sym reference) own.2.shared in
        let is : w ≡ want (id_of placed) (special_of placed) (length (links_to records (reference_of placed))) =
        in_one (want file.id file.links (times file.reference links)) w from.2
        ∙ (λ i. want (own.2.id i) (own.2.links i) ((count_is file.reference ∙ ap (λ n. length (links_to records n)) (sym reference)) i)) in
        stands_flat (link_wants records) entries placed w own.1
        (subst (λ b. Contains (if b then want (id_of placed) (special_of placed) (length (links_to records (reference_of placed))) ∷ [] else []) w) (sym yes)
        (subst (Contains (want (id_of placed) (special_of placed) (length (links_to records (reference_of placed))) ∷ [])) (sym is)
        (at_front (want (id_of placed) (special_of placed) (length (links_to records (reference_of placed)))) [])))

    pub count_unmet : (f : broken.Finding) → IsUnmet 19 f (flat_map (link_want links) files) → IsUnmet 19 f (flat_map (link_wants records) entries)
    count_unmet f unmet = (unmet.0, unmet.1, count_stands (want f.place f.found f.wanted) unmet.2)

    -- ---- the private folder

    pub name_holds : is_private (value_found (record_at records 2 private_name)) ≡ true → (placed : Placed) → record_at records 2 private_name ≡ Some placed → is_folder placed.value ≡ true
    name_holds is placed found = sym (ap (λ o. is_private (value_found o)) found) ∙ is

    pub name_passes : ((placed : Placed) → record_at records 2 private_name ≡ Some placed → is_folder placed.value ≡ true) → is_private (value_found (record_at records 2 private_name)) ≡ true
    name_passes holds = at (record_at records 2 private_name) refl
      where
        at : (o : Option Placed) → record_at records 2 private_name ≡ o → is_private (value_found o) ≡ true
        at None is = refl
        at (Some placed) is = holds placed is

    pub name_fails : is_private (value_found (record_at records 2 private_name)) ≡ false → FailsLink volume (id_found (value_found (record_at records 2 private_name)))
    name_fails fails = inr (at (record_at records 2 private_name) refl)
      where
        at : (o : Option Placed) → record_at records 2 private_name ≡ o
            → (placed : Placed) × (record_at records 2 private_name ≡ Some placed) × (id_of placed ≡ id_found (value_found (record_at records 2 private_name))) × (is_folder placed.value ≡ false)
        at None none = absurd (true≢false (sym (ap (λ o. is_private (value_found o)) none) ∙ fails))
        at (Some placed) one = (placed, one, sym (ap (λ o. id_found (value_found o)) one), sym (ap (λ o. is_private (value_found o)) one) ∙ fails)

    -- ---- all of it

    pub broken_name : (f : broken.Finding) → IsFailed 19 f (FailsLink volume) → IsBrokenName volume f
    broken_name f fails = inr fails

    pub broken_link : (f : broken.Finding) → IsMissed 19 (fine_at rows hidden shared) (λ k. (row_at rows k).id) (length rows) f → IsBrokenName volume f
    broken_link f missed = inr (link_fails f missed)

    pub broken_count : (f : broken.Finding) → IsUnmet 19 f (flat_map (link_want links) files) → IsBrokenName volume f
    broken_count f unmet = inl (count_unmet f unmet)

    pub links_decided : (first one two last : List Finding) (named good counted most all : Bool) → most ≡ (good && named) → all ≡ (counted && most)
        → Decided (λ f. IsFailed 19 f (FailsLink volume)) (is_private (value_found (record_at records 2 private_name)) ≡ true) first one named
        → Decided (IsMissed 19 (fine_at rows hidden shared) (λ k. (row_at rows k).id) (length rows)) (AllPass (fine_at rows hidden shared) (length rows)) one two good
        → Judged 19 (flat_map (link_want links) files) two last counted → Decided (IsBrokenName volume) (AreLinks records overflow) first last all
    links_decided first one two last named good counted most all most_is all_is of_name of_links of_counts =
        let Private : Type 0 = is_private (value_found (record_at records 2 private_name)) ≡ true in
        let Fine : Type 0 = AllPass (fine_at rows hidden shared) (length rows) in
        let Counts : Type 0 = AllMet (flat_map (link_want links) files) in
        let a : Decided (IsBrokenName volume) Private first one named = decided_as (λ f. IsFailed 19 f (FailsLink volume)) (IsBrokenName volume) Private Private first one named broken_name (λ p. p) (λ p. p) of_name in
        let b : Decided (IsBrokenName volume) Fine one two good =
        decided_as (IsMissed 19 (fine_at rows hidden shared) (λ k. (row_at rows k).id) (length rows)) (IsBrokenName volume) Fine Fine one two good broken_link (λ p. p) (λ p. p) of_links in
        let c : Decided (IsBrokenName volume) Counts two last counted =
        decided_as (λ f. IsUnmet 19 f (flat_map (link_want links) files)) (IsBrokenName volume) Counts Counts two last counted broken_count (λ p. p) (λ p. p) (decided_numbers 19 (flat_map (link_want links) files) two last counted of_counts) in
        let ab : Decided (IsBrokenName volume) (Private × Fine) first two most = decided_both (IsBrokenName volume) Private Fine first one two named good most most_is a b in
        decided_as (IsBrokenName volume) (IsBrokenName volume) ((Private × Fine) × Counts) (AreLinks records overflow) first last all (λ f says. says)
        (λ p. record { good = record { private_folder = name_holds p.0.0; links = links_hold p.0.1 }; counts = counts_hold p.1 })
        (λ are_links. ((name_passes are_links.good.private_folder, links_pass are_links.good.links), counts_met are_links.counts))
        (decided_both (IsBrokenName volume) (Private × Fine) Counts first two last most counted all all_is ab c)

    -- what was added for the private folder's name
    pub name_adds : (found : Option CatRecord) (holds : Bool) (place : ℕ) (first one : List Finding) → found ≡ value_found (record_at records 2 private_name) → holds ≡ is_private found → place ≡ id_found found → Unless 19 holds place first one
        → Adds (IsBrokenName volume) first one
    name_adds found holds place first one found_is holds_is place_is each =
        adds_so (λ f. IsFailed 19 f (FailsLink volume)) (IsBrokenName volume) first one broken_name
        (adds_unless 19 (FailsLink volume) holds place first one (λ fails. subst (FailsLink volume) (sym (place_is ∙ ap id_found found_is)) (name_fails (sym (holds_is ∙ ap is_private found_is) ∙ fails))) each)

    pub name_decided : (found : Option CatRecord) (holds named : Bool) (place : ℕ) (first one : List Finding) → found ≡ value_found (record_at records 2 private_name) → holds ≡ is_private found → place ≡ id_found found → named ≡ holds
        → (named ≡ false → IsListed one (record { rule = 19; place = place; found = 0; wanted = 1 })) → StaysListed first one → Unless 19 holds place first one
        → Decided (λ f. IsFailed 19 f (FailsLink volume)) (is_private (value_found (record_at records 2 private_name)) ≡ true) first one named
    name_decided found holds named place first one found_is holds_is place_is named_is some still each =
        let same : holds ≡ is_private (value_found (record_at records 2 private_name)) = holds_is ∙ ap is_private found_is in
        subst (λ b. Decided (λ f. IsFailed 19 f (FailsLink volume)) (b ≡ true) first one named) same
        (decided_one 19 (FailsLink volume) holds named place first one (λ fails. subst (FailsLink volume) (sym (place_is ∙ ap id_found found_is)) (name_fails (sym same ∙ fails))) named_is some still each)

    pub link_adds : (first one two : List Finding) → Adds (IsBrokenName volume) first one → Adds (IsMissed 19 (fine_at rows hidden shared) (λ k. (row_at rows k).id) (length rows)) one two → Adds (IsBrokenName volume) first two
    link_adds first one two before each =
        adds_two (IsBrokenName volume) first one two before (adds_so (IsMissed 19 (fine_at rows hidden shared) (λ k. (row_at rows k).id) (length rows)) (IsBrokenName volume) one two broken_link each)

    pub count_adds : (first two last : List Finding) → Adds (IsBrokenName volume) first two → AddsUnmet 19 (flat_map (link_want links) files) two last → Adds (IsBrokenName volume) first last
    count_adds first two last before each = adds_two (IsBrokenName volume) first two last before (adds_so (λ f. IsUnmet 19 f (flat_map (link_want links) files)) (IsBrokenName volume) two last broken_count each)

-- What was read of links: which rows are hidden, the files with several names, their numbers and those of links.
pub record HasLinks (volume : VolumeState) (rows : List Row) (hidden : List Bool) (files : List SharedFile) (shared links : List ℕ) : Type 0 where
  pub hides : Hides (private_id (records_of volume)) rows hidden
  pub are : AreShared (private_id (records_of volume)) (records_of volume) files
  pub shared_are : (n : ℕ) → times n shared ≡ count_by (λ (f : SharedFile). f.reference == n) files
  pub links_are : (n : ℕ) → times n links ≡ link_count rows n

module _ (volume : VolumeState) (pairs : List Pair) (rows : List Row) (ready : HasRows volume pairs rows) where
  pub keys_long : All (λ (pair : Pair). 8 ≤ length pair.0) pairs
  keys_long k d inside = (ready.catalog.keys k d inside).long

  pub rows_in_order : IsNonDecreasingBy (λ (r : Row). r.parent) rows
  rows_in_order = subst (IsNonDecreasingBy (λ (r : Row). r.parent)) ((λ i. rows_of (entries_of (placed_in (ready.pairs_are i)))) ∙ sym ready.rows_are) (entries_rise pairs ready.catalog.order)

  pub found_there : (name : List ℕ) (found : Option CatRecord) → name ≡ private_name → (All (λ (pair : Pair). 8 ≤ length pair.0) pairs → found ≡ value_found (record_at (placed_in pairs) 2 name))
      → found ≡ value_found (record_at (records_of volume) 2 private_name)
  found_there name found name_is is = is keys_long ∙ (λ i. value_found (record_at (placed_in (ready.pairs_are i)) 2 (name_is i)))

  pub has_links : (found : Option CatRecord) (private : Option ℕ) (hidden : List Bool) (files listed : List SharedFile) (shared links : List ℕ) → found ≡ value_found (record_at (records_of volume) 2 private_name) → private ≡ folder_found found
      → (IsNonDecreasingBy (λ (r : Row). r.parent) rows → Hides private rows hidden) → (All (λ (pair : Pair). 8 ≤ length pair.0) pairs → AreShared private (placed_in pairs) files) → listed ≡ files
      → ((n : ℕ) → times n shared ≡ count_by (λ (f : SharedFile). f.reference == n) listed) → ((n : ℕ) → times n links ≡ link_count rows n) → HasLinks volume rows hidden files shared links
  has_links found private hidden files listed shared links found_is private_has hides are listed_is shared_are links_are =
      let same : private ≡ private_id (records_of volume) = private_has ∙ ap folder_found found_is ∙ private_is (record_at (records_of volume) 2 private_name) in
      record {
        hides = subst (λ p. Hides p rows hidden) same (hides rows_in_order);
        are = subst (λ (l : List Pair). AreShared (private_id (records_of volume)) (placed_in l) files) ready.pairs_are (subst (λ p. AreShared p (placed_in pairs) files) same (are keys_long));
        shared_are = λ n. shared_are n ∙ ap (count_by (λ (f : SharedFile). f.reference == n)) listed_is;
        links_are = links_are;
      }

pub same_links : (volume : VolumeState) (rows : List Row) (hidden hidden_now : List Bool) (files files_now : List SharedFile) (shared shared_now links links_now : List ℕ) → hidden_now ≡ hidden → files_now ≡ files → shared_now ≡ shared
    → links_now ≡ links → HasLinks volume rows hidden files shared links → HasLinks volume rows hidden_now files_now shared_now links_now
same_links volume rows hidden hidden_now files files_now shared shared_now links links_now a b d e have = record {
  hides = subst (Hides (private_id (records_of volume)) rows) (sym a) have.hides;
  are = subst (AreShared (private_id (records_of volume)) (records_of volume)) (sym b) have.are;
  shared_are = λ n. ap (times n) d ∙ have.shared_are n ∙ ap (count_by (λ (f : SharedFile). f.reference == n)) (sym b);
  links_are = λ n. ap (times n) e ∙ have.links_are n;
}
