-- Reads and a keep leave what a put of data wants of a volume.
use Rattle.std.proofs.Common.{◌≡◌, ℕ, ◌+◌, ◌-◌, ◌*◌, ◌/◌, ◌&&◌, ◌||◌, min, nat_le, not, Bool, List, length, refl, sym, ◌∙◌, ap, subst}
use Rattle.btree_node.specs.declared.store.TreeShape.{TreeShape}
use Rattle.flag_rows.specs.Bits.{count_set, sectors_for}
use Rattle.flag_rows.specs.Runs.{fewest_of}
use Rattle.alloc_bitmap.specs.Map.{free_of}
use Rattle.file_io.specs.Places.{blocks_for, first_block, new_blocks, old_end}
use Rattle.cat_records.specs.declared.record.FileRecord.{FileRecord}
use Rattle.sector_disk.specs.Lists.{Content}
use Rattle.sector_disk.specs.Space.{Space}
use Rattle.volume_header.specs.declared.header.VolumeHeader.{VolumeHeader}
use Rattle.std.specs.Prelude.{Option, None, Some}
use Rattle.hfs_volume.specs.Content.{VolumeState}
use Rattle.hfs_volume.specs.Cost.{overflow_records}
use Rattle.hfs_volume.specs.Weight.{Data, file_extents, free_runs, needs_cut_in, new_blocks_of, old_blocks_of}
use Rattle.volume_base.specs.Changing.{catalog_node}
use Rattle.volume_base.specs.Keeping.{Keeps}
use Rattle.volume_base.specs.Looking.{ReadsVolume}
use Rattle.volume_base.specs.Holding.{IsLaidOutAs}
use Rattle.volume_space.specs.Spreading.{edits_load}
use Rattle.volume_space.specs.Writing.{PutsAt, PutsValue, blocks_put, can_put, data_load, has_more, is_put_now_in, may_overflow, most_extents, put_load, spread_put_load}
use Rattle.volume_base.specs.declared.volume.Volume.{Volume}

-- The same header, the same blocks used and held, and nodes of the same size.
pub record IsAlike (old new : Volume) : Type 0 where
  pub header : new.header ≡ old.header
  pub used : new.map.used ≡ old.map.used
  pub held : new.map.held ≡ old.map.held
  pub shape : new.catalog.file.shape ≡ old.catalog.file.shape

pub alike_read : (v u : Volume) (a b : Space) → ReadsVolume v u a b → IsAlike v u
alike_read v u a b reads = record { header = reads.keeps.header; used = λ i. (reads.keeps.map i).used; held = λ i. (reads.keeps.map i).held; shape = reads.keeps.catalog.file.shape }

pub alike_kept : (v u : Volume) → Keeps v u → IsAlike v u
alike_kept v u keeps = record { header = keeps.same.header; used = keeps.same.used; held = keeps.held; shape = λ i. (keeps.same.catalog i).file.shape }

pub alike_both : (v u w : Volume) → IsAlike v u → IsAlike u w → IsAlike v w
alike_both v u w one two = record { header = two.header ∙ one.header; used = two.used ∙ one.used; held = two.held ∙ one.held; shape = two.shape ∙ one.shape }

module _ (v u : Volume) (like : IsAlike v u) where
  node_alike : catalog_node u ≡ catalog_node v
  node_alike = ap (λ (s : TreeShape). s.node_size / 512) like.shape

  free_alike : free_of u.map ≡ free_of v.map
  free_alike = λ i. free_of (record u.map { used = like.used i; held = like.held i })

  module _ (size from long : ℕ) where
    put_alike : blocks_put u size from long ≡ blocks_put v size from long
    put_alike = ap (λ (h : VolumeHeader). new_blocks h.block_size size from (from + long)) like.header

    freed_alike : old_end u.header.block_size size (from + long) - first_block u.header.block_size size from ≡ old_end v.header.block_size size (from + long) - first_block v.header.block_size size from
    freed_alike = ap (λ (h : VolumeHeader). old_end h.block_size size (from + long) - first_block h.block_size size from) like.header

    pub load_alike : put_load u size from long ≡ put_load v size from long
    load_alike = λ i. 1 + node_alike i + min (sectors_for (length (like.used i))) (put_alike i / 4096 + 2 * fewest_of (put_alike i) (free_runs (free_alike i)) + freed_alike i)

    pub fewest_still : fewest_of (blocks_put u size from long) (free_runs (free_of u.map)) ≡ fewest_of (blocks_put v size from long) (free_runs (free_of v.map))
    fewest_still = λ i. fewest_of (put_alike i) (free_runs (free_alike i))

    pub spread_alike : (records_then records extents_then extents : ℕ) → u.extents.file.shape ≡ v.extents.file.shape → records_then ≡ records → extents_then ≡ extents → spread_put_load u records_then extents_then size from long ≡ spread_put_load v records extents size from long
    spread_alike records_then records extents_then extents shape counts manys = λ i. edits_load (shape i) (counts i + overflow_records (most_extents (manys i) (fewest_still i)))

    pub can_alike : (spare extents total : ℕ) → can_put u spare extents total size from long ≡ can_put v spare extents total size from long
    can_alike spare extents total =
        λ i. not (has_more size (from + long) (blocks_for (like.header i).block_size size) total)
        && (nat_le (put_alike i) (count_set (free_alike i)) && (nat_le (load_alike i) spare && not (may_overflow extents (fewest_of (put_alike i) (free_runs (free_alike i))))))

  -- what was said of it
  pub can_still : (size from long spare_then spare many extents total : ℕ) → spare_then ≡ spare → many ≡ extents → (r : Bool) → r ≡ can_put u spare_then many total size from long → r ≡ can_put v spare extents total size from long
  can_still size from long spare_then spare many extents total same alike r is = is ∙ (λ i. can_put u (same i) (alike i) total size from long) ∙ can_alike size from long spare extents total

  fresh_alike : (put : Data) → new_blocks_of u.header.block_size put ≡ new_blocks_of v.header.block_size put
  fresh_alike put = ap (λ (h : VolumeHeader). new_blocks_of h.block_size put) like.header

  pub data_alike : (put : Data) → data_load u put ≡ data_load v put
  data_alike put =
      λ i. 1 + node_alike i + min (sectors_for (length (like.used i))) (fresh_alike put i / 4096 + 2 * fewest_of (fresh_alike put i) (free_runs (free_alike i)) + ap (λ (h : VolumeHeader). old_blocks_of h.block_size put) like.header i)

  -- whether data can be put now
  pub now_alike : (k spare : ℕ) (lists : VolumeState) (o : Option Data) → is_put_now_in k u spare lists o ≡ is_put_now_in k v spare lists o
  now_alike k spare lists None = refl
  now_alike k spare lists (Some put) =
      λ i. not (needs_cut_in k lists (Some put) || may_overflow (length (file_extents lists put.id k)) (fewest_of (fresh_alike put i) (free_runs (free_alike i))))
      && (nat_le (fresh_alike put i) (count_set (free_alike i)) && nat_le (data_alike put i) spare)

  pub laid_alike : (committed : Content) → IsLaidOutAs committed v → IsLaidOutAs committed u
  laid_alike committed was = record { block = was.block ∙ sym (ap (λ (h : VolumeHeader). h.block_size) like.header); total = was.total ∙ sym (ap (λ (l : List Bool). length l) like.used) }

  pub puts_alike : (kind : ℕ) (file : FileRecord) (from : ℕ) (value : List ℕ) (w : Volume) (before was after : Content) → before ≡ was → PutsValue kind file from value u w before after → PutsValue kind file from value v w was after
  puts_alike kind file from value w before was after same puts = from_header (subst (λ (k : VolumeHeader × Content). PutsValue kind file from value (record u { header = k.0 }) w k.1 after) {x = (u.header, before)} {y = (v.header, was)} (λ i. (like.header i, same i)) puts)
    where
      from_header : PutsValue kind file from value (record u { header = v.header }) w was after → PutsValue kind file from value v w was after
      from_header p = record { lists = p.lists; fresh = p.fresh; many = p.many; rewrites = p.rewrites; same_file = p.same_file; makes = p.makes; settles = p.settles; tree = p.tree; now = p.now }

  pub at_alike : (kind id from : ℕ) (value : List ℕ) (w : Volume) (before was after : Content) → before ≡ was → PutsAt kind id from value u w before after → PutsAt kind id from value v w was after
  at_alike kind id from value w before was after same puts = from_content (subst (λ (c : Content). PutsAt kind id from value u w c after) same puts)
    where
      from_content : PutsAt kind id from value u w was after → PutsAt kind id from value v w was after
      from_content p = record { file = p.file; number = p.number; stands = p.stands; puts = puts_alike kind p.file from value w was was after (λ i. was) p.puts }
