-- Stretches in which a volume was only looked at.
use Rattle.std.specs.Prelude.{◌≡◌, ◌⊎◌, ◌&&◌, ◌||◌, ◌<◌, ◌≤◌, ◌==◌, ℕ, Bool, List, [], bytes_eq, length, nat_lt, None, Option, Some, true}
use Rattle.sector_disk.specs.Space.{Space}
use Rattle.jnl_format.specs.Recovery.{Content}
use Rattle.hfs_language.specs.declared.refusal.Refusal.TheVariants as refusal
use Rattle.hfs_language.specs.declared.reply.Reply.TheVariants as reply
use Rattle.hfs_model.specs.Plain.{IsPlainTree, node_at}
use Rattle.hfs_model.specs.declared.kinds.Sight.{Sight}
use Rattle.hfs_model.specs.declared.plain.PlainNode.{PlainNode}
use Rattle.hfs_model.specs.declared.plain.PlainTree.{PlainTree}
use Rattle.hfs_volume.specs.TreeOf.{tree_of}
use Rattle.volume_runs.specs.Run.{shrunk_in}
use Rattle.hfs_serving.specs.Going.{Knowing}
use Rattle.hfs_serving.specs.Grounds.{KeepsHeading}
use Rattle.hfs_serving.specs.Outside.{Outside}
use Rattle.hfs_serving.specs.Serving.{Goes}
use Rattle.link_kinds.specs.Lookers.{front_seen}
use Rattle.link_kinds.specs.Resolves.{most_steps, resolve, resolves, sight_at}
use Rattle.link_kinds.specs.Walks.{Walking, asks_left, leads_to}
use Rattle.open_files.specs.Keeping.{keeping_name}
use Rattle.open_files.specs.declared.act.SessionReply.{SessionReply}
use Rattle.open_files.specs.declared.act.SessionReply.TheVariants as told
use Rattle.session_lines.specs.declared.errands.Look.{Look}
use Rattle.session_lines.specs.declared.following.Step.{Step}
use Rattle.session_lines.specs.declared.following.Step.TheVariants as step
use Rattle.session_lines.specs.KindTurns.{look_says}

-- A stretch without entries.
pub record HasLooked (capacity : ℕ) (knows : Knowing) (committed now : Content) (shrunk : Option ℕ) (old : Outside) (space : Space) (new : Outside) : Type 0 where
  pub goes : Goes capacity shrunk None committed now old [] committed now space new
  pub heads : KeepsHeading space
  pub known : knows committed now shrunk

-- the number is that of a folder of the tree, and the name has at most 255 units
abbrev pub IsWithin : PlainTree → ℕ → List ℕ → Type 0
IsWithin tree parent name = ((folder : PlainNode) × (node_at tree parent ≡ Some folder) × (folder.folder ≡ true)) × (length name ≤ 255)

-- the volume isn't asked for a name: it is the keeping folder's, or longer than a name may be
abbrev pub is_outside : ℕ → List ℕ → Bool
is_outside parent name = ((parent == 2) && bytes_eq name keeping_name) || nat_lt 255 (length name)

-- this is seen under a name in a folder of a tree, where of a link the first 1,024 bytes are seen
abbrev pub IsSeenUnder : PlainTree → ℕ → List ℕ → Sight → Type 0
IsSeenUnder tree parent name sight = IsWithin tree parent name → sight ≡ front_seen (sight_at tree) parent name

-- somebody sees under such names in folders of the tree what stands there
abbrev pub SeesTree : PlainTree → (ℕ → List ℕ → Sight) → Type 0
SeesTree tree look = (parent : ℕ) (name : List ℕ) → IsWithin tree parent name → look parent name ≡ front_seen (sight_at tree) parent name

-- a walk leads where the path does, for all who see the tree
abbrev pub LeadsOn : PlainTree → List (List ℕ) → Walking → Type 0
LeadsOn tree path walk = (look : ℕ → List ℕ → Sight) → SeesTree tree look → leads_to look walk ≡ resolve look most_steps [] path

-- a step of a walk leads on, or to where the path leads
abbrev pub StepsOn : PlainTree → List (List ℕ) → Step → Type 0
StepsOn tree path (step.On walk) = LeadsOn tree path walk
StepsOn tree path (step.End answer) = answer ≡ resolves tree path

-- and it comes nearer to its end
abbrev pub IsNearer : Walking → Step → Type 0
IsNearer walk (step.On further) = asks_left further < asks_left walk
IsNearer walk (step.End answer) = Unit {0}

-- A stretch in which a line looked for something, and what it is told: what a plain tree says of it, or that memory was missing.
pub record HasSeen (what : Look) (capacity : ℕ) (knows : Knowing) (committed now : Content) (shrunk : Option ℕ) (old : Outside) (space : Space) (new : Outside) (said : SessionReply) : Type 0 where
  pub looked : HasLooked capacity knows committed now shrunk old space new
  pub says : IsPlainTree (tree_of now) → (said ≡ told.Plain (reply.No refusal.OutOfMemory)) ⊎ (said ≡ look_says (tree_of now) what)
