-- Which of rules 8 to 20 findings are listed of.
use Rattle.std.specs.Prelude.{◌⊎◌, List, ◌++◌}
use Rattle.std.specs.List.{flat_map}
use Rattle.btree_node.specs.Levels.{Pair}
use Rattle.fsck_list.specs.declared.finding.Finding.{Finding as Listed}
use Rattle.hfs_volume.specs.Blocks.{forks_of}
use Rattle.hfs_volume.specs.Broken.{Finding, Want, IsFailed, IsUnmet, FailsKind, FailsThread, FailsParent, FailsOverflow, FailsAttribute, fork_wants, overflow_wants, use_wants, id_wants}
use Rattle.hfs_volume.specs.Content.{VolumeState, records_of, overflow_in_volume}
use Rattle.hfs_volume.specs.Records.{placed_in, entries_of}
use Rattle.fsck_core.specs.Attributes.{IsBrokenOfNames}
use Rattle.fsck_core.specs.Decided.{StaysListed, IsTold, TellsOf, TellsAfter}
use Rattle.fsck_core.specs.Links.{IsBrokenName}

-- rule 8 is broken
abbrev pub IsBrokenKind : List Pair → Finding → Type 0
IsBrokenKind pairs f = IsFailed 8 f (FailsKind pairs)

-- Of rules 8 to 10, where one is broken a finding of it is listed; of the last two, or one of rule 8 is.
pub record TellsCatalog (pairs : List Pair) (list : List Listed) : Type 0 where
  pub kinds : TellsOf (IsBrokenKind pairs) list
  pub threads : TellsAfter (IsBrokenKind pairs) (λ f. IsFailed 9 f (FailsThread (placed_in pairs))) list
  pub parents : TellsAfter (IsBrokenKind pairs) (λ f. IsFailed 10 f (FailsParent (entries_of (placed_in pairs)))) list

-- rule 16, of the forks of files
abbrev pub IsBrokenSize : VolumeState → Finding → Type 0
IsBrokenSize volume f = IsUnmet 16 f (flat_map (fork_wants volume) (forks_of volume) ++ flat_map (overflow_wants volume) (overflow_in_volume volume))

-- rule 17 is broken
abbrev pub IsBrokenOverflow : VolumeState → Finding → Type 0
IsBrokenOverflow volume f = IsFailed 17 f (FailsOverflow volume)

-- rule 20 is broken
abbrev pub IsBrokenOfAttributes : VolumeState → Finding → Type 0
IsBrokenOfAttributes volume f = IsFailed 20 f (FailsAttribute volume)

-- Of rules 16, 19 and 20, where one is broken a finding of it is listed, of 16 of values one of it or of 20; what was listed still is.
pub record TellsSizes (volume : VolumeState) (old new : List Listed) : Type 0 where
  pub still : StaysListed old new
  pub forks : TellsOf (IsBrokenSize volume) new
  pub links : TellsOf (IsBrokenName volume) new
  pub attributes : TellsOf (IsBrokenOfAttributes volume) new
  pub values : TellsOf (IsBrokenOfNames volume) new

-- So of rule 17, and of these, or one of rule 17 is listed.
pub record TellsNames (volume : VolumeState) (old new : List Listed) : Type 0 where
  pub still : StaysListed old new
  pub overflow : TellsOf (IsBrokenOverflow volume) new
  pub forks : TellsAfter (IsBrokenOverflow volume) (IsBrokenSize volume) new
  pub links : TellsAfter (IsBrokenOverflow volume) (IsBrokenName volume) new
  pub attributes : TellsAfter (IsBrokenOverflow volume) (IsBrokenOfAttributes volume) new
  pub values : TellsAfter (IsBrokenOverflow volume) (IsBrokenOfNames volume) new

-- So of rules 15 to 20.
pub record TellsForks (volume : VolumeState) (list : List Listed) : Type 0 where
  pub uses : TellsOf (λ f. IsUnmet 18 f (use_wants volume)) list
  pub names : TellsNames volume list list
  pub ids : TellsOf (λ f. IsUnmet 15 f (flat_map (id_wants volume.head.next_catalog_id (entries_of (records_of volume))) (entries_of (records_of volume)))) list
