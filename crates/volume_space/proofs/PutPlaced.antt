-- A value was spilled, and a file's record replaced: what the calls say together.
use Rattle.std.proofs.Common.{◌≡◌, ◌<◌, ◌≤◌, ℕ, ◌+◌, ◌/◌, ◌++◌, ◌^◌, max, List, length, take, drop, sym, ◌∙◌, ap, subst}
use Rattle.hx_bytes.specs.declared.extents.Extent.{Extent}
use Rattle.sector_disk.specs.Lists.{Content}
use Rattle.sector_disk.specs.Space.{AgreesOutside, Space}
use Rattle.fork_map.specs.Blocks.{blocks_of}
use Rattle.alloc_bitmap.specs.Apart.{AreApart}
use Rattle.alloc_bitmap.specs.Map.{BlockMap}
use Rattle.file_io.specs.Bytes.{fork_bytes, sectors_in, written}
use Rattle.file_io.specs.Places.{KeepsMap, first_block, fresh_of, given, middle, old_end, taken}
use Rattle.file_io.specs.Touching.{IsOneOf}
use Rattle.volume_header.specs.Header.{FitsHeader}
use Rattle.volume_header.specs.declared.header.VolumeHeader.{VolumeHeader}
use Rattle.cat_records.specs.Fits.{FitsFile}
use Rattle.cat_records.specs.declared.record.CatRecord.TheVariants.{File}
use Rattle.cat_records.specs.declared.record.FileRecord.{FileRecord}
use Rattle.volume_base.specs.Changing.{ReplacesRecord}
use Rattle.volume_base.specs.Cutting.{fork_at}
use Rattle.volume_base.specs.Lists.{bits_on, lists_of}
use Rattle.volume_base.specs.Standing.{StandsOver}
use Rattle.volume_space.specs.Spreading.{SpreadsExtents}
use Rattle.volume_space.specs.Writing.{PlacesData, blocks_put, fork_with, record_with, with_record, with_spill, with_stored}
use Rattle.volume_base.specs.declared.entries.Entry.{Entry}
use Rattle.volume_base.specs.declared.volume.Volume.{Volume}

-- a volume with another number of free blocks in its header
abbrev pub with_free_blocks : ℕ → Volume → Volume
with_free_blocks free volume = record volume { header = record volume.header { free_blocks = free } }

fits_free : (free : ℕ) (head : VolumeHeader) → free < 2 ^ 32 → FitsHeader head → FitsHeader (record head { free_blocks = free })
fits_free free head low was = record {
  signature = was.signature;
  version = was.version;
  attributes = was.attributes;
  last_mounted_version = was.last_mounted_version;
  journal_info_block = was.journal_info_block;
  create_date = was.create_date;
  modify_date = was.modify_date;
  backup_date = was.backup_date;
  checked_date = was.checked_date;
  file_count = was.file_count;
  folder_count = was.folder_count;
  block_size = was.block_size;
  total_blocks = was.total_blocks;
  free_blocks = low;
  next_allocation = was.next_allocation;
  rsrc_clump_size = was.rsrc_clump_size;
  data_clump_size = was.data_clump_size;
  next_catalog_id = was.next_catalog_id;
  write_count = was.write_count;
  encodings_bitmap = was.encodings_bitmap;
  finder_length = was.finder_length;
  finder_info = was.finder_info;
  allocation_fork = was.allocation_fork;
  extents_fork = was.extents_fork;
  catalog_fork = was.catalog_fork;
  attributes_fork = was.attributes_fork;
  startup_fork = was.startup_fork;
}

-- it stands as it did
pub stands_free : (free : ℕ) (volume : Volume) (a : Space) → free < 2 ^ 32 → StandsOver volume a → StandsOver (with_free_blocks free volume) a
stands_free free volume a low was = record {
  service = record {
    extents = was.service.extents;
    catalog = was.service.catalog;
    attributes = was.service.attributes;
    fits = fits_free free volume.header low was.service.fits;
    least = was.service.least;
    most = was.service.most;
    map_inside = was.service.map_inside;
    map_long = was.service.map_long;
    marks = was.service.marks;
  };
  stands = λ tells.
      let here = was.stands tells in
      record {
        trees = record { extents = here.trees.extents; catalog = here.trees.catalog; compare = here.trees.compare; attributes = here.trees.attributes };
        forks = record {
          extents = here.forks.extents;
          extents_per = here.forks.extents_per;
          catalog = here.forks.catalog;
          catalog_per = here.forks.catalog_per;
          attributes = here.forks.attributes;
          attributes_per = here.forks.attributes_per;
          map = here.forks.map;
          map_per = here.forks.map_per;
        };
        whole = here.whole;
        apart = here.apart;
        blocks = here.blocks;
        closed = here.closed;
        aside = here.aside;
        large = here.large;
        inside = here.inside;
        fit = here.fit;
        live = here.live;
      };
}

module _ (k : ℕ) (entry : Entry) (file : FileRecord) (extents : List Extent) (from : ℕ) (value : List ℕ) (total free : ℕ) (v : Volume) (a b m c : Content) (mid kept next : Volume) (later : List Extent) (rec : FileRecord) where
  abbrev size : ℕ
  size = (fork_at k file).logical_size

  abbrev block : ℕ
  block = v.header.block_size

  -- what holds behind the stages of a put into a fork of so many bytes
  abbrev Placing : ℕ → Type 0
  Placing n =
      blocks_of later ≡ take (first_block block n from) (blocks_of extents) ++ blocks_of (fresh_of v.map (blocks_put v n from (length value))) ++ drop (old_end block n (from + length value)) (blocks_of extents)
      → take (max n (from + length value)) (fork_bytes b block later) ≡ written (take n (fork_bytes a block extents)) from value
      → (AreApart (blocks_of extents) → mid.map ≡ given (middle (first_block block n from) (old_end block n (from + length value)) extents) (taken (blocks_put v n from (length value)) v.map))
      → KeepsMap v.map mid.map → AgreesOutside (IsOneOf (sectors_in block (fresh_of v.map (blocks_put v n from (length value))))) a b
      → lists_of mid b ≡ record (lists_of v a) { bits = bits_on mid } → mid ≡ record v { map = mid.map } → kept ≡ record mid { extents = kept.extents } → SpreadsExtents file.fields.id k later mid kept b m → next ≡ record kept { catalog = next.catalog }
      → ReplacesRecord entry (File rec) kept next m c → FitsFile rec → rec ≡ record_with k v.header.modify_date (fork_with (max n (from + length value)) total later (fork_at k file)) file
      → PlacesData k entry file extents from value total free v (with_free_blocks free next) a c

  placed : Placing size
  placed blocks bytes map keeps spilled lists mid_is kept_is spreads next_is replaces fits rec_is = record {
    later = later;
    between = b;
    stored = m;
    blocks = blocks;
    bytes = bytes;
    map = λ apart. map_is ∙ map apart;
    fits = subst FitsFile rec_is fits;
    keeps = subst (λ (m : BlockMap). KeepsMap v.map m) (sym map_is) keeps;
    spilled = spilled;
    lists = subst (λ (x : Volume). lists_of x b ≡ record (lists_of v a) { bits = bits_on x }) first lists;
    spreads = subst (λ (both : Volume × Volume). SpreadsExtents file.fields.id k later both.0 both.1 b m) {x = (mid, kept)} {y = (with_spill v next.map, with_stored v next.map next.extents)} (λ i. (first i, between i)) spreads;
    replaces = subst (λ (all : Volume × (Volume × FileRecord)). ReplacesRecord entry (File all.1.1) all.0 all.1.0 m c) {x = (kept, (next, rec))} {y = (with_stored v next.map next.extents, (with_record v next.map next.extents next.catalog, record_with k v.header.modify_date (fork_with (max size (from + length value)) total later (fork_at k file)) file))} (λ i. (between i, (second i, rec_is i))) replaces;
    rest = λ i. record (second i) { header = record (second i).header { free_blocks = free } };
  }
    where
      map_is : next.map ≡ mid.map
      map_is = ap (λ (x : Volume). x.map) next_is ∙ ap (λ (x : Volume). x.map) kept_is

      extents_is : next.extents ≡ kept.extents
      extents_is = ap (λ (x : Volume). x.extents) next_is

      first : mid ≡ with_spill v next.map
      first = mid_is ∙ (λ i. record v { map = sym map_is i })

      between : kept ≡ with_stored v next.map next.extents
      between = kept_is ∙ (λ i. record (first i) { extents = sym extents_is i })

      second : next ≡ with_record v next.map next.extents next.catalog
      second = next_is ∙ (λ i. record (between i) { catalog = next.catalog })

  pub placed_at : (n : ℕ) → n ≡ (fork_at k file).logical_size → Placing n
  placed_at n is = subst Placing (sym is) placed
