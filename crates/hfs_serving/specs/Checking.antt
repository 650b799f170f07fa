-- What a mount finds of a volume before it writes anything, and why it refuses one.
use Rattle.std.specs.Prelude.{◌≡◌, ◌<◌, ℕ, List, [], Contains, None, Result, Ok, Err, length}
use Rattle.volume_header.specs.Refusal.{header_refusal}
use Rattle.jnl_format.specs.Recovery.{Content, header_of_volume, replayed}
use Rattle.jnl_replay.specs.Plan.{journal_of}
use Rattle.jnl_replay.specs.declared.plan.Plan.{Plan}
use Rattle.hfs_volume.specs.Broken.{Finding, IsBroken}
use Rattle.btree_node.specs.TreeFile.{TreeFile}
use Rattle.hfs_volume.specs.Content.{block_limit, sectors_in, tree_of_fork}
use Rattle.hfs_volume.specs.Forks.{catalog_id, data_kind, extents_of}
use Rattle.hfs_volume.specs.Mount.{FoldsCase}
use Rattle.hfs_volume.specs.Sound.{IsSound}
use Rattle.hfs_serving.specs.Opening.{Opens}
use Rattle.hfs_serving.specs.Refusing.{IsOpened, RefusesImage}
use Rattle.hfs_serving.specs.declared.checking.MountRefusal.{MountRefusal}
use Rattle.hfs_serving.specs.declared.checking.MountRefusal.TheVariants as refusal
use Rattle.hfs_serving.specs.declared.checking.Verdict.{Verdict}
use Rattle.hfs_serving.specs.declared.checking.Verdict.TheVariants as verdict

-- the catalog file, by the extents in the header alone
abbrev pub catalog_begun : Content → TreeFile
catalog_begun content = tree_of_fork content (block_limit content) (sectors_in content (extents_of [] catalog_id data_kind (header_of_volume content).catalog_fork))

-- The header is accepted, and the catalog, which begins in its extents, compares keys with letter case folded.
abbrev pub FoldsFirst : Content → Type 0
FoldsFirst content = (header_refusal (header_of_volume content) (length content) ≡ None) × ((catalog_begun content).head.compare ≡ 0xCF)

-- A content that isn't sound and doesn't fold case. There is a finding, and each is one of it.
pub record IsUnsound (content : Content) (findings : List Finding) : Type 0 where
  pub keeps_case : ¬ FoldsFirst content
  pub unsound : ¬ IsSound content
  pub some : 0 < length findings
  pub broken : (finding : Finding) → Contains findings finding → IsBroken content finding

-- The verdict is that of the content.
abbrev pub IsVerdict : Content → List Finding → Verdict → Type 0
IsVerdict content findings verdict.Sound = IsSound content
IsVerdict content findings verdict.CaseFolding = FoldsCase content
IsVerdict content findings verdict.Unsound = IsUnsound content findings

-- The image is open with this plan of its journal, and what it stands for is sound.
pub record IsFound (image : Content) (plan : Plan) : Type 0 where
  pub opened : IsOpened image plan
  pub sound : IsSound (replayed (journal_of plan) image)

-- The refusal stands, and none before it does. The last two are those of the content that the image stands for, before it is written home.
abbrev pub RefusesMount : Content → List Finding → MountRefusal → Type 0
RefusesMount image findings (refusal.Image why) = RefusesImage image why
RefusesMount image findings refusal.CaseFolding = (capacity : ℕ) × (recovered : Content) × Opens image capacity recovered × FoldsCase recovered
RefusesMount image findings refusal.Unsound = (capacity : ℕ) × (recovered : Content) × Opens image capacity recovered × IsUnsound recovered findings

-- what a verdict on what an image stands for comes to: the plan, or a refusal
abbrev pub judged : Plan → Verdict → Result Plan MountRefusal
judged plan verdict.Sound = Ok plan
judged plan verdict.CaseFolding = Err refusal.CaseFolding
judged plan verdict.Unsound = Err refusal.Unsound
