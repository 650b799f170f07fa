-- What a volume keeps for an undo, and what a commit changes of it.
use Rattle.std.specs.Prelude.{◌≡◌, ℕ, None, Option, length}
use Rattle.alloc_bitmap.specs.Map.{none}
use Rattle.volume_base.specs.declared.volume.Volume.{Volume}

-- the file that was shrunk last
abbrev pub shrunk_of : Volume → Option ℕ
shrunk_of volume = volume.shrunk

-- The volume stands as it did: header, trees, used blocks and their file, private folder, the file shrunk last, capacity.
pub record SameStanding (old new : Volume) : Type 0 where
  pub header : new.header ≡ old.header
  pub extents : new.extents ≡ old.extents
  pub catalog : new.catalog ≡ old.catalog
  pub attributes : new.attributes ≡ old.attributes
  pub used : new.map.used ≡ old.map.used
  pub fork : new.map.fork ≡ old.map.fork
  pub per_block : new.map.per_block ≡ old.map.per_block
  pub private : new.private ≡ old.private
  pub shrunk : new.shrunk ≡ old.shrunk
  pub capacity : new.capacity ≡ old.capacity

-- What an undo goes back to is what is so now.
pub record IsKept (volume : Volume) : Type 0 where
  pub used : volume.map.kept_used ≡ volume.map.used
  pub held : volume.map.kept_held ≡ volume.map.held
  pub header : volume.kept.header ≡ volume.header
  pub private : volume.kept.private ≡ volume.private
  pub shrunk : volume.kept.shrunk ≡ volume.shrunk

-- A keep: the volume stands as it did, the same blocks are held and the same growth is in hand, no sector of the bitmap counts as changed, and an undo
-- goes back to this.
pub record Keeps (old new : Volume) : Type 0 where
  pub same : SameStanding old new
  pub filling : new.filling ≡ old.filling
  pub held : new.map.held ≡ old.map.held
  pub changed : new.map.changed ≡ none (length old.map.changed)
  pub kept : IsKept new

-- A commit: the volume stands as it did, no block is held, no growth is in hand, and an undo that is to come holds none either.
pub record Settles (old new : Volume) : Type 0 where
  pub same : SameStanding old new
  pub filling : new.filling ≡ None
  pub held : new.map.held ≡ none (length old.map.used)
  pub kept_held : new.map.kept_held ≡ none (length old.map.used)
  pub kept_used : new.map.kept_used ≡ old.map.kept_used
  pub changed : new.map.changed ≡ old.map.changed
  pub header : new.kept.header ≡ old.kept.header
  pub private : new.kept.private ≡ old.kept.private
  pub shrunk : new.kept.shrunk ≡ old.kept.shrunk
