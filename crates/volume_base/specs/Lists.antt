-- The lists of a volume in service.
use Rattle.std.specs.Prelude.{◌-◌, ◌*◌, Bool, false, List, [], ◌++◌, length, replicate, if◌then◌else◌}
use Rattle.sector_disk.specs.Lists.{Content, sector}
use Rattle.jnl_format.specs.Recovery.{info_sector_of}
use Rattle.volume_header.specs.Header.{header_of}
use Rattle.btree_file.specs.Map.{bits_of}
use Rattle.btree_file.specs.Standing.{pairs_in}
use Rattle.btree_file.specs.State.{sectors_of_tree}
use Rattle.btree_file.specs.declared.tree.TreeFile.{TreeFile}
use Rattle.hfs_volume.specs.Content.{VolumeState, TreeFacts, journal_place, has_attributes}
use Rattle.volume_base.specs.declared.volume.Volume.{Volume}

-- what the growth of a tree rests on, as its file keeps it
abbrev pub facts_on : TreeFile → TreeFacts
facts_on tree = record { shape = tree.shape; map_bits = bits_of tree.map.items }

-- the bits that the volume keeps, and those behind them to the end of the allocation file, which are clear
abbrev pub bits_on : Volume → List Bool
bits_on volume = volume.map.used ++ replicate (8 * volume.header.allocation_fork.logical_size - length volume.map.used) false

-- The lists of a volume in service over a content: header, bits and the numbers of its trees as the volume keeps them, the trees' pairs as
-- the content has them. In the middle of a command the header and the bits may be ahead of the content.
abbrev pub lists_of : Volume → Content → VolumeState
lists_of volume content = record {
  sectors = length content;
  head = volume.header;
  alternate = header_of (sector content (length content - 2));
  journal = journal_place (sector content (info_sector_of volume.header));
  overflow_pairs = pairs_in (sectors_of_tree volume.extents.file) content;
  catalog_pairs = pairs_in (sectors_of_tree volume.catalog.file) content;
  attribute_pairs = if has_attributes volume.header then pairs_in (sectors_of_tree volume.attributes.file) content else [];
  extents_tree = facts_on volume.extents.file;
  catalog_tree = facts_on volume.catalog.file;
  attributes_tree = facts_on volume.attributes.file;
  bits = bits_on volume;
}
