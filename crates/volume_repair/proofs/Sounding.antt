-- What keeps a volume sound: another version in its header, and another alternate header that agrees.
use Rattle.std.proofs.Common.{ℕ, [], refl}
use Rattle.volume_header.specs.declared.header.VolumeHeader.{VolumeHeader}
use Rattle.hfs_volume.specs.Content.{VolumeState}
use Rattle.hfs_volume.specs.Attributing.{RemountKeeps}
use Rattle.hfs_volume.specs.Blocks.{AgreesWith}
use Rattle.hfs_volume.specs.Sound.{IsSoundVolume}
use Rattle.hfs_volume.specs.TreeOf.{BytesOf, empty_forks}

-- the header with another version
abbrev pub with_version : VolumeHeader → ℕ → VolumeHeader
with_version head version = record head { last_mounted_version = version }

no_bytes : BytesOf
no_bytes = record { file = λ file. empty_forks; value = λ size extents. [] }

pub version_sound : RemountKeeps → (volume : VolumeState) (version : ℕ) → IsSoundVolume volume → IsSoundVolume (record volume { head = with_version volume.head version })
version_sound law volume version sound = (law (with_version volume.head version) volume no_bytes sound
    (record { accepted = sound.blocks.header.accepted; next_id = sound.blocks.header.next_id })
    (record { files = refl; folders = refl; free = refl; next = refl; moment = refl })).0

pub alternate_sound : (volume : VolumeState) (alternate : VolumeHeader) → IsSoundVolume volume → AgreesWith volume.head alternate → IsSoundVolume (record volume { alternate = alternate })
alternate_sound volume alternate sound agrees = record {
  entries = sound.entries;
  links = sound.links;
  attributes = sound.attributes;
  blocks = record {
    header = sound.blocks.header;
    alternate = agrees;
    files = record { extents = sound.blocks.files.extents; catalog = sound.blocks.files.catalog; attributes = sound.blocks.files.attributes; bits = sound.blocks.files.bits; no_more = sound.blocks.files.no_more };
    forks = record {
      sizes = sound.blocks.forks.sizes;
      more_inside = sound.blocks.forks.more_inside;
      goes_on = sound.blocks.forks.goes_on;
      bad_goes_on = sound.blocks.forks.bad_goes_on;
      owned = sound.blocks.forks.owned;
      values = sound.blocks.forks.values;
      once = sound.blocks.forks.once;
    };
    bits = record { bits = sound.blocks.bits.bits; free = sound.blocks.bits.free };
  };
}
