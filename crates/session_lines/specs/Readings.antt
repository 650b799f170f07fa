-- Bytes of an open file are read.
use Rattle.std.specs.Prelude.{◌≡◌, ◌⊎◌, ℕ, [], drop, take, false, None, Option, Some}
use Rattle.sector_disk.specs.Space.{Space}
use Rattle.jnl_format.specs.Recovery.{Content}
use Rattle.hfs_language.specs.declared.refusal.Refusal.TheVariants as refusal
use Rattle.hfs_language.specs.declared.reply.Reply.{Reply}
use Rattle.hfs_language.specs.declared.reply.Reply.TheVariants as reply
use Rattle.hfs_model.specs.Plain.{node_at}
use Rattle.hfs_model.specs.declared.plain.PlainNode.{PlainNode}
use Rattle.hfs_volume.specs.TreeOf.{tree_of}
use Rattle.volume_runs.specs.Run.{shrunk_in}
use Rattle.hfs_serving.specs.Going.{Knowing}
use Rattle.hfs_serving.specs.Grounds.{KeepsHeading}
use Rattle.hfs_serving.specs.Outside.{Outside}
use Rattle.hfs_serving.specs.Serving.{Goes}

-- A stretch without entries, in which so many bytes of a file were read from a place on: where the tree has the file, these are its bytes, or memory was
-- missing.
pub record HasRead (id from length capacity : ℕ) (knows : Knowing) (committed now : Content) (shrunk : Option ℕ) (old : Outside) (space : Space) (new : Outside) (said : Reply) : Type 0 where
  pub goes : Goes capacity shrunk None committed now old [] committed now space new
  pub heads : KeepsHeading space
  pub known : knows committed now (shrunk_in shrunk [])
  pub bytes : (said ≡ reply.No refusal.OutOfMemory) ⊎ ((file : PlainNode) → node_at (tree_of now) id ≡ Some file → file.folder ≡ false → said ≡ reply.Content (take length (drop from file.bytes)))
