-- What counting anew leaves of a volume.
use Rattle.std.specs.Prelude.{◌≡◌, ◌⊎◌, ◌<◌, ◌≤◌, ℕ, ◌+◌, true, List, Contains, All, length, map, slice_index}
use Rattle.hx_bytes.specs.Field.{AreBytes}
use Rattle.btree_node.specs.Levels.{Pair}
use Rattle.hfs_volume.specs.Records.{placed_of, is_folder, is_file}
use Rattle.hfs_volume.specs.Entries.{AreSpelled}
use Rattle.hfs_volume.specs.Content.{VolumeState, records_of}
use Rattle.hfs_volume.specs.Sound.{IsSoundVolume}
use Rattle.volume_repair.specs.Recount.{recounted, pair_recounted}

-- the values of the catalog are bytes
abbrev pub HasByteValues : VolumeState → Type 0
HasByteValues volume = All (λ pair. AreBytes pair.1) volume.catalog_pairs

-- A sound volume counts right already.
abbrev pub SoundStaysAsItIs : Type 0
SoundStaysAsItIs = (volume : VolumeState) → HasByteValues volume → IsSoundVolume volume → recounted volume ≡ volume

-- So counting anew a second time changes nothing, where the first made the volume sound.
abbrev pub OnceIsEnough : Type 0
OnceIsEnough = (volume : VolumeState) → HasByteValues (recounted volume) → IsSoundVolume (recounted volume) → recounted (recounted volume) ≡ recounted volume

-- Each key of the catalog stays, in its place.
abbrev pub KeysStay : Type 0
KeysStay = (volume : VolumeState) → map (λ pair. pair.0) (recounted volume).catalog_pairs ≡ map (λ pair. pair.0) volume.catalog_pairs

-- a value has as many bytes, and the same but for the four from this place on
pub record SameButWord (at : ℕ) (old new : List ℕ) : Type 0 where
  pub size : length new ≡ length old
  pub each : (k : ℕ) → (k < at) ⊎ (at + 4 ≤ k) → slice_index new k ≡ slice_index old k

-- Each value of the catalog stays but for a folder's valence, or the special word of a file with several names.
abbrev pub ValuesStay : Type 0
ValuesStay = (volume : VolumeState) → AreSpelled volume.catalog_pairs → (pair : Pair) → Contains volume.catalog_pairs pair
    → let value = (pair_recounted (records_of volume) pair).1 in
    (SameButWord 4 pair.1 value × (is_folder (placed_of pair).value ≡ true)) ⊎ ((SameButWord 44 pair.1 value × (is_file (placed_of pair).value ≡ true)) ⊎ (value ≡ pair.1))
