-- What goes ahead of a command on a symbolic link or a resource fork.
use Rattle.std.specs.Prelude.{◌≡◌, ◌⊎◌, ◌<◌, ℕ, ◌+◌, true, false, slice_index, List, [], ◌∷◌, Some}
use Rattle.jnl_format.specs.Recovery.{Content}
use Rattle.hfs_model.specs.Kinds.{kind_refuses}
use Rattle.hfs_model.specs.declared.kinds.KindEdit.{KindEdit}
use Rattle.hfs_volume.specs.Content.{volume_of}
use Rattle.hfs_volume.specs.KindWeight.{fork_of_edit, kind_data_of, kind_weight, kind_zero_blocks}
use Rattle.hfs_volume.specs.Reclaim.{CutsSurplus, FillsZeros, GrowsTrees, KeepsTree, SameFiles, SameValues, first_growth}
use Rattle.hfs_volume.specs.TreeOf.{tree_of}
use Rattle.hfs_volume.specs.Weight.{most_zeros, needs_cut_in}
use Rattle.hfs_volume.specs.declared.cost.Cost.TheVariants as cost
use Rattle.volume_runs.specs.Rest.{file_written}

-- The step doesn't refuse the command, but blocks past the size of the fork that it puts data into go first: some of this fork's were cut.
pub record KindCutsFirst (capacity : ℕ) (asked : KindEdit) (before after : Content) : Type 0 where
  pub no_refusal : kind_refuses (tree_of before) asked ≡ false
  pub needs : needs_cut_in (fork_of_edit asked) (volume_of before) (kind_data_of (tree_of before) asked) ≡ true
  pub cuts : CutsSurplus capacity before after
  pub file : file_written (kind_data_of (tree_of before) asked) ≡ Some cuts.id
  pub fork : cuts.kind ≡ fork_of_edit asked

-- The step doesn't refuse the command, and nothing is missing for it, but trees have to grow ahead of it: the first of them has grown, by just as
-- many nodes as the cost says.
pub record KindGrowsFirst (capacity : ℕ) (asked : KindEdit) (before after : Content) : Type 0 where
  pub no_refusal : kind_refuses (tree_of before) asked ≡ false
  pub load : ℕ
  pub grow : List ℕ
  pub affords : kind_weight capacity (volume_of before) (tree_of before) asked ≡ cost.Load load grow
  pub some : 0 < slice_index grow 0 + slice_index grow 1 + slice_index grow 2
  pub grows : GrowsTrees (first_growth grow) (volume_of before) (volume_of after)
  pub files : SameFiles (volume_of before) (volume_of after)
  pub values : SameValues (volume_of before) (volume_of after)
  pub keeps : KeepsTree before after

-- The step doesn't refuse the command, no blocks past the size stand in its way, and nothing is missing for the whole of it; but it puts more zero
-- blocks into a fork than one step fills, and some of the blocks that it will take were filled.
pub record KindFillsFirst (capacity : ℕ) (asked : KindEdit) (before after : Content) : Type 0 where
  pub no_refusal : kind_refuses (tree_of before) asked ≡ false
  pub no_surplus : needs_cut_in (fork_of_edit asked) (volume_of before) (kind_data_of (tree_of before) asked) ≡ false
  pub load : ℕ
  pub affords : kind_weight capacity (volume_of before) (tree_of before) asked ≡ cost.Load load (0 ∷ 0 ∷ 0 ∷ [])
  pub many : most_zeros < kind_zero_blocks (volume_of before).head.block_size (tree_of before) asked
  pub fills : FillsZeros before after

abbrev pub GoesFirst : ℕ → KindEdit → Content → Content → Type 0
GoesFirst capacity asked before after = KindCutsFirst capacity asked before after ⊎ (KindGrowsFirst capacity asked before after ⊎ KindFillsFirst capacity asked before after)
