-- What the repair of a content is.
use Rattle.std.specs.Prelude.{◌≡◌, ◌<◌, ℕ, ◌+◌, List, length, slice_index, slice_range}
use Rattle.hx_bytes.specs.Field.{AreBytes}
use Rattle.flag_rows.specs.Bits.{bit_of}
use Rattle.jnl_format.specs.Recovery.{Content, sector}
use Rattle.hfs_volume.specs.Findings.{HasBytes}
use Rattle.hfs_volume.specs.Sound.{IsSound}
use Rattle.volume_repair.specs.Differing.{differing}
use Rattle.volume_repair.specs.Repair.{IsMendable, IsRepair, header_mended, byte_of_bits, leaf_mended}
use Rattle.volume_repair.specs.Recount.{value_recounted}
use Rattle.btree_node.specs.Node.{IsNode, offset, record_count}
use Rattle.btree_node.specs.Levels.{value_of, pair_of}
use Rattle.hfs_volume.specs.Records.{Placed, placed_of}

-- A content has one repair.
abbrev pub RepairIsOne : Type 0
RepairIsOne = (content one other : Content) → IsRepair content one → IsRepair content other → one ≡ other

-- A repair has as many sectors.
abbrev pub RepairKeepsSize : Type 0
RepairKeepsSize = (content other : Content) → IsRepair content other → length other ≡ length content

-- A sound content can be repaired.
abbrev pub SoundIsMendable : Type 0
SoundIsMendable = (content : Content) → IsSound content → IsMendable content

-- The header of a sound content of bytes, whose sectors have 512, is as it is, and so is its copy.
abbrev pub SoundKeepsHeader : Type 0
SoundKeepsHeader = (content : Content) → HasBytes content → length (sector content 2) ≡ 512 → IsSound content → header_mended content ≡ sector content 2

-- the sectors of a content have 512 bytes
abbrev pub HasWholeSectors : Content → Type 0
HasWholeSectors content = (at : ℕ) → at < length content → length (sector content at) ≡ 512

-- A sound content of bytes is its own repair, which differs in no sector. So where a repair is sound, a second one changes nothing.
abbrev pub SoundIsOwnRepair : Type 0
SoundIsOwnRepair = (content other : Content) → HasBytes content → HasWholeSectors content → IsSound content → IsRepair content other → (other ≡ content) × (differing content other ≡ 0)

-- A byte of the allocation file is the byte of its bits.
abbrev pub BytesAreBits : Type 0
BytesAreBits = (bytes : List ℕ) (j : ℕ) → AreBytes bytes → byte_of_bits (bit_of bytes) j ≡ slice_index bytes j

-- A leaf whose records count right already is as it is.
abbrev pub LeafStays : Type 0
LeafStays = (records : List Placed) (node : List ℕ) → IsNode node
    → ((i : ℕ) → i < record_count node → let item = slice_range node (offset node i) (offset node (i + 1)) in value_recounted records (placed_of (pair_of item)) (value_of item) ≡ value_of item)
    → leaf_mended records node ≡ node
