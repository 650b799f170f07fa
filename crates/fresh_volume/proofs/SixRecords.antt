-- The six records of a volume that was just made, decoded.
use Rattle.std.proofs.Common.{◌≡◌, ℕ, ◌^◌, ◌<◌, ◌≤◌, Bool, false, true, List, [], ◌∷◌, length, map, codes, if◌then◌else◌, IsTrue, refl, sym, ◌∙◌, ap, subst, arith, rules}
use Rattle.std.specs.List.{All, AllByRecursion}
use Rattle.std.proofs.lemmas.List.Elements.{All-from_recursion}
use Rattle.hx_bytes.specs.declared.extents.Extent.{Extent}
use Rattle.cat_records.specs.declared.record.CatRecord.{CatRecord}
use Rattle.cat_records.specs.Fits.{FitsEntry, FitsRecord}
use Rattle.cat_records.specs.Keys.{catalog_key_bytes}
use Rattle.cat_records.specs.Records.{catalog_bytes, is_catalog}
use Rattle.btree_node.specs.Levels.{Pair}
use Rattle.catalog.proofs.Keys.{key_reads, record_spelled}
use Rattle.jnl_format.specs.Recovery.{Content, header_of_volume}
use Rattle.hfs_model.specs.Fresh.{new_entry, new_folder, new_thread}
use Rattle.hfs_volume.specs.Records.{placed_in, overflow_of, attribute_of}
use Rattle.hfs_volume.specs.Changes.{Spells}
use Rattle.hfs_volume.specs.Content.{volume_of, has_attributes}
use Rattle.volume_make.specs.declared.layout.Layout.{Layout}
use Rattle.volume_make.specs.Layout.{CanBe, IsFitting, layout_of, end_of}
use Rattle.volume_make.specs.Refusal.{is_name, is_block_size}
use Rattle.volume_make.specs.Texts.{new_file}
use Rattle.volume_make.specs.Written.{IsFormatted}
use Rattle.volume_make.proofs.Fields.{zeros, fits_bytes, fits_run}
use Rattle.volume_make.proofs.Leaves.{name_short}
use Rattle.volume_make.proofs.Sizes.{fitting}
use Rattle.fresh_volume.specs.Fresh.{HasFreshPairs, HasFreshRecords, catalog_pair, fresh_pairs, fresh_records}
use Rattle.fresh_volume.proofs.Pairs.{has_fresh_pairs}

fits_entry : (flags count id mode : ℕ) → flags < 2 ^ 16 → count < 2 ^ 32 → id < 2 ^ 32 → mode < 2 ^ 16 → FitsEntry (new_entry flags count id mode)
fits_entry flags count id mode a b c d = record {
  flags = a;
  count = b;
  id = c;
  created = omega arith;
  changed = omega arith;
  attribute = omega arith;
  accessed = omega arith;
  backup = omega arith;
  owner = omega arith;
  group = omega arith;
  admin_flags = omega arith;
  owner_flags = omega arith;
  mode = d;
  special = omega arith;
  finder_length = refl;
  finder = zeros;
  encoding = omega arith;
  rest = omega arith;
}

fits_thread : (of_file : Bool) (parent : ℕ) (name : List ℕ) → parent < 2 ^ 32 → length name ≤ 255 → AllByRecursion (λ unit. unit < 2 ^ 16) name → FitsRecord (new_thread of_file parent name)
fits_thread of_file parent name small short units = record { spare = search rules; parent = small; long = omega (arith, short); units = units }

fits_file : (block id : ℕ) (part : Extent) → is_block_size block ≡ true → id < 2 ^ 32 → part.start ≤ 268435456 → part.count ≤ 268435456 → FitsRecord (new_file block id part)
fits_file block id part is small low few = record {
  fields = fits_entry 2 0 id 0x81A4 (omega arith) (omega arith) small (omega arith);
  data_fork = record {
    logical_size = fits_bytes part.count block is few;
    clump_size = omega arith;
    total_blocks = omega (arith, few);
    extents = fits_run part.start part.count (omega (arith, low)) (omega (arith, few));
  };
  resource_fork = record { logical_size = omega arith; clump_size = omega arith; total_blocks = omega arith; extents = fits_run 0 0 (omega arith) (omega arith) };
}

spells : (parent : ℕ) (name : List ℕ) (value : CatRecord) → parent < 2 ^ 32 → length name ≤ 255 → AllByRecursion (λ unit. unit < 2 ^ 16) name → FitsRecord value
    → Spells (record { parent = parent; name = name; value = value }) (catalog_pair parent name value)
spells parent name value small short units fits = record_spelled parent name (catalog_key_bytes parent name) (catalog_bytes value) value (key_reads parent name small short units) fits refl

-- names that are known
journal_units : AllByRecursion (λ unit. unit < 2 ^ 16) (codes ".journal")
journal_units = search rules

info_units : AllByRecursion (λ unit. unit < 2 ^ 16) (codes ".journal_info_block")
info_units = search rules

-- the journal's blocks lie below the end of the parts
info_low : (s b j : ℕ) → (layout_of s b j).info.start ≤ end_of (layout_of s b j).catalog
unfolding layout_of
info_low s b j = omega arith

journal_low : (s b j : ℕ) → end_of (layout_of s b j).journal ≤ end_of (layout_of s b j).catalog
unfolding layout_of
journal_low s b j = omega arith

pub info_one : (s b j : ℕ) → (layout_of s b j).info.count ≡ 1
unfolding layout_of
info_one s b j = refl

block_is : (s b j : ℕ) → (layout_of s b j).block ≡ b
unfolding layout_of
block_is s b j = refl

none : (b : Bool) → map attribute_of (if b then [] else []) ≡ []
none true = refl
none false = refl

module _ (sectors block journal : ℕ) (name : List ℕ) (old new : Content) (can : CanBe sectors block journal) (named : IsTrue (is_name name)) (units : AllByRecursion (λ unit. unit < 2 ^ 16) name) (made : IsFormatted (layout_of sectors block journal) name old new) where
  abbrev layout : Layout
  layout = layout_of sectors block journal

  fit : IsFitting layout
  fit = fitting sectors block journal can

  pairs : HasFreshPairs layout name new
  pairs = has_fresh_pairs sectors block journal name old new can named made

  short : length name ≤ 255
  short = name_short name named

  root_spelled : Spells (record { parent = 1; name = name; value = new_folder 2 2 }) (catalog_pair 1 name (new_folder 2 2))
  root_spelled = spells 1 name (new_folder 2 2) (omega arith) short units (fits_entry 0 2 2 0x41ED (omega arith) (omega arith) (omega arith) (omega arith))

  thread_spelled : Spells (record { parent = 2; name = []; value = new_thread false 1 name }) (catalog_pair 2 [] (new_thread false 1 name))
  thread_spelled = spells 2 [] (new_thread false 1 name) (omega arith) (omega arith) tt (fits_thread false 1 name (omega arith) short units)

  journal_spelled : Spells (record { parent = 2; name = codes ".journal"; value = new_file layout.block 17 layout.journal }) (catalog_pair 2 (codes ".journal") (new_file layout.block 17 layout.journal))
  journal_spelled =
      let low = journal_low sectors block journal in
      spells 2 (codes ".journal") (new_file layout.block 17 layout.journal) (omega arith) (omega arith) journal_units
      (fits_file layout.block 17 layout.journal fit.block_size (omega arith) (omega (arith, low, fit.free, fit.total)) (omega (arith, low, fit.free, fit.total)))

  info_spelled : Spells (record { parent = 2; name = codes ".journal_info_block"; value = new_file layout.block 16 layout.info }) (catalog_pair 2 (codes ".journal_info_block") (new_file layout.block 16 layout.info))
  info_spelled =
      let low = info_low sectors block journal in
      let one = info_one sectors block journal in
      spells 2 (codes ".journal_info_block") (new_file layout.block 16 layout.info) (omega arith) (omega arith) info_units
      (fits_file layout.block 16 layout.info fit.block_size (omega arith) (omega (arith, low, fit.free, fit.total)) (omega (arith, one)))

  info_thread_spelled : Spells (record { parent = 16; name = []; value = new_thread true 2 (codes ".journal_info_block") }) (catalog_pair 16 [] (new_thread true 2 (codes ".journal_info_block")))
  info_thread_spelled = spells 16 [] (new_thread true 2 (codes ".journal_info_block")) (omega arith) (omega arith) tt (fits_thread true 2 (codes ".journal_info_block") (omega arith) (omega arith) info_units)

  journal_thread_spelled : Spells (record { parent = 17; name = []; value = new_thread true 2 (codes ".journal") }) (catalog_pair 17 [] (new_thread true 2 (codes ".journal")))
  journal_thread_spelled = spells 17 [] (new_thread true 2 (codes ".journal")) (omega arith) (omega arith) tt (fits_thread true 2 (codes ".journal") (omega arith) (omega arith) journal_units)

  decoded : placed_in (fresh_pairs layout name) ≡ fresh_records layout name
  decoded = λ i. root_spelled.stands i ∷ thread_spelled.stands i ∷ journal_spelled.stands i ∷ info_spelled.stands i ∷ info_thread_spelled.stands i ∷ journal_thread_spelled.stands i ∷ []

  all_spelled : All (λ (pair : Pair). IsTrue (is_catalog pair.1)) (fresh_pairs layout name)
  all_spelled =
      All-from_recursion (λ (pair : Pair). IsTrue (is_catalog pair.1)) (fresh_pairs layout name)
      (root_spelled.spelled, (thread_spelled.spelled, (journal_spelled.spelled, (info_spelled.spelled, (info_thread_spelled.spelled, (journal_thread_spelled.spelled, tt))))))

  pub has_fresh_records : HasFreshRecords layout name new
  unfolding volume_of
  has_fresh_records = record {
    records = ap placed_in pairs.catalog ∙ decoded;
    spelled = subst (λ (ps : List Pair). All (λ (pair : Pair). IsTrue (is_catalog pair.1)) ps) (sym pairs.catalog) all_spelled;
    overflow = ap (map overflow_of) pairs.overflow;
    attributes = ap (λ (ps : List Pair). map attribute_of (if has_attributes (header_of_volume new) then ps else [])) pairs.attributes ∙ none (has_attributes (header_of_volume new));
  }
