-- How many overflow records a fork has.
use Rattle.std.specs.Prelude.{ℕ, length}
use Rattle.hfs_model.specs.Sorted.{kept}
use Rattle.hfs_volume.specs.Content.{VolumeState, overflow_in_volume}
use Rattle.hfs_volume.specs.Forks.{data_kind, is_of}

-- how many overflow records the fork of this kind of a file has
abbrev pub records_in : ℕ → VolumeState → ℕ → ℕ
records_in kind volume id = length (kept (is_of id kind) (overflow_in_volume volume))

-- how many overflow records the data fork of a file has
abbrev pub records_held : VolumeState → ℕ → ℕ
records_held volume id = records_in data_kind volume id
