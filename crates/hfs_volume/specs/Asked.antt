-- What a volume in service is asked for: a command of the plain language, or one on a symbolic link or a resource fork.
use Rattle.std.specs.Prelude.{ℕ, Bool, Option, Ok}
use Rattle.hfs_model.specs.Kinds.{kind_refuses}
use Rattle.hfs_model.specs.Step.{refuses}
use Rattle.hfs_model.specs.declared.plain.PlainTree.{PlainTree}
use Rattle.hfs_volume.specs.Content.{VolumeState}
use Rattle.hfs_volume.specs.Forks.{data_kind}
use Rattle.hfs_volume.specs.KindWeight.{fork_of_edit, kind_data_of, kind_weight, kind_zero_blocks}
use Rattle.hfs_volume.specs.Weight.{Data, data_of, needs_cut_in, weight, zero_blocks}
use Rattle.hfs_volume.specs.declared.asked.Asked.{Asked}
use Rattle.hfs_volume.specs.declared.asked.Asked.TheVariants.{Kind, Plain}
use Rattle.hfs_volume.specs.declared.cost.Cost.{Cost}

-- its step refuses it
abbrev pub is_refused : PlainTree → Asked → Bool
is_refused tree (Plain command) = refuses tree (Ok command)
is_refused tree (Kind edit) = kind_refuses tree edit

-- its load on a volume, or the first resource refusal; its step doesn't refuse it
abbrev pub asked_weight : ℕ → VolumeState → PlainTree → Asked → Cost
asked_weight capacity volume tree (Plain command) = weight capacity volume tree command
asked_weight capacity volume tree (Kind edit) = kind_weight capacity volume tree edit

-- the fork of a file that it puts data into
abbrev pub fork_asked : Asked → ℕ
fork_asked (Plain command) = data_kind
fork_asked (Kind edit) = fork_of_edit edit

-- the data that it puts into a fork, where it puts some
abbrev pub data_asked : PlainTree → Asked → Option Data
data_asked tree (Plain command) = data_of tree command
data_asked tree (Kind edit) = kind_data_of tree edit

-- the fork that it puts data into has blocks past its size, which go first
abbrev pub asked_needs_cut : VolumeState → PlainTree → Asked → Bool
asked_needs_cut volume tree asked = needs_cut_in (fork_asked asked) volume (data_asked tree asked)

-- how many of its new blocks hold nothing but the zeros of a growth
abbrev pub asked_zero_blocks : ℕ → PlainTree → Asked → ℕ
asked_zero_blocks block tree (Plain command) = zero_blocks block tree command
asked_zero_blocks block tree (Kind edit) = kind_zero_blocks block tree edit
