-- `mv`: what is moved and where to, the room for it, and what it does to a volume.
use Rattle.std.specs.Prelude.{◌≡◌, ◌⊎◌, ℕ, ◌==◌, nat_lt, Bool, true, false, List, Option, None, Some, Result, Ok, Err, if◌then◌else◌}
use Rattle.sector_disk.specs.Lists.{Content}
use Rattle.sector_disk.specs.Space.{Space}
use Rattle.jnl_format.specs.Recovery.{header_of_volume}
use Rattle.catalog.specs.Entries.{RelocatesEntry}
use Rattle.hfs_language.specs.declared.command.Command.TheVariants as command
use Rattle.hfs_language.specs.declared.refusal.Refusal.{Refusal}
use Rattle.hfs_language.specs.declared.refusal.Refusal.TheVariants as refusal
use Rattle.hfs_language.specs.declared.reply.Facts.{Facts}
use Rattle.hfs_model.specs.Plain.{names_of}
use Rattle.hfs_model.specs.Step.{Place, is_same_file, reached, step, to_mv}
use Rattle.hfs_model.specs.declared.plain.PlainEntry.{PlainEntry}
use Rattle.hfs_model.specs.declared.plain.PlainTree.{PlainTree}
use Rattle.hfs_volume.specs.Content.{volume_of}
use Rattle.hfs_volume.specs.Naming.{MovesName}
use Rattle.hfs_volume.specs.Records.{is_empty}
use Rattle.hfs_volume.specs.Sound.{IsSoundVolume}
use Rattle.hfs_volume.specs.TreeOf.{tree_of}
use Rattle.volume_base.specs.Changing.{ChangesCatalog, TouchesFolder}
use Rattle.volume_names.specs.Changing.{DatesEntry}
use Rattle.volume_names.specs.Losing.{HasLost}
use Rattle.volume_base.specs.Lists.{lists_of}
use Rattle.volume_base.specs.Looking.{ReadsVolume}
use Rattle.volume_base.specs.Moving.{to_free}
use Rattle.volume_base.specs.Refusing.{is_exists}
use Rattle.volume_base.specs.Standing.{HoldsTrees}
use Rattle.volume_base.specs.declared.volume.Volume.{Volume}
use Rattle.volume_base.specs.declared.weighing.Edits.{Edits}
use Rattle.volume_names.specs.declared.replacing.Taking.{Taking}
use Rattle.volume_names.specs.declared.replacing.Taking.TheVariants as taking

-- ---- the change
-- What stood under one name of a folder stands under another name of a folder, with its thread. Nothing else of the volume is changed, and the
-- header wasn't put.
pub record MovesTo (parent : ℕ) (old : List ℕ) (folder : ℕ) (name : List ℕ) (from to : Volume) (before after : Content) : Type 0 where
  pub moves : RelocatesEntry parent old folder name (lists_of from before).catalog_pairs (lists_of to after).catalog_pairs
  pub changes : ChangesCatalog from to before after
  pub rest : to ≡ record from { catalog = to.catalog }
  pub headed : header_of_volume after ≡ header_of_volume before

-- The move, and the old folder counts one entry less.
pub record Leaves (parent : ℕ) (old : List ℕ) (folder : ℕ) (name : List ℕ) (from to : Volume) (before after : Content) : Type 0 where
  pub middle : Volume
  pub content : Content
  pub holds : HoldsTrees middle content
  pub moves : MovesTo parent old folder name from middle before content
  pub loses : TouchesFolder parent 0 1 middle to content after

-- The new folder counts one entry more, and what was moved is dated.
pub record Arrives (folder id : ℕ) (from to : Volume) (before after : Content) : Type 0 where
  pub middle : Volume
  pub content : Content
  pub gains : TouchesFolder folder 1 0 from middle before content
  pub dates : DatesEntry id middle to content after

-- What a path stands for was moved where another path names a free place for it, in the lists of the content.
pub record TakesPlace (from to : List (List ℕ)) (before after : Content) : Type 0 where
  pub entry : PlainEntry
  pub place : Place
  pub allowed : to_mv (tree_of before) from to ≡ Ok (entry, place)
  pub named : is_empty place.name ≡ false
  pub moves : MovesName entry place (volume_of before) (volume_of after)

-- The file that the other path stood for lost its name there first, as by `rm`, and then the place was free.
pub record TakesOver (from to : List (List ℕ)) (before after : Content) : Type 0 where
  pub entry : PlainEntry
  pub place : Place
  pub allowed : to_mv (tree_of before) from to ≡ Ok (entry, place)
  pub between : Content
  pub sound : IsSoundVolume (volume_of between)
  pub loses : HasLost to before between
  pub takes : TakesPlace from to between after

-- Both paths stand for one file, and nothing has changed.
pub record StaysThere (from to : List (List ℕ)) (before after : Content) : Type 0 where
  pub entry : PlainEntry
  pub place : Place
  pub allowed : to_mv (tree_of before) from to ≡ Ok (entry, place)
  pub same : after ≡ before

-- What a path stands for was moved where another path names a place for it: a free one, that of a file, or its own.
abbrev pub HasMoved : List (List ℕ) → List (List ℕ) → Content → Content → Type 0
HasMoved from to before after = TakesPlace from to before after ⊎ (TakesOver from to before after ⊎ StaysThere from to before after)

-- ---- a free place

-- there is something to move, and a free place for it
abbrev pub HasPlace : PlainTree → List (List ℕ) → List (List ℕ) → Type 0
HasPlace tree from to = (pair : PlainEntry × Place) × (to_mv tree from to ≡ Ok pair) × (pair.1.found ≡ None)

-- What a move to a free place says: it was done, or the first reason against it, which is one against `mv` unless the place is taken.
abbrev pub TellsMove : {X : Type 0} → Result X Refusal → List (List ℕ) → List (List ℕ) → Content → Content → Type 0
TellsMove (Ok done) from to before after = TakesPlace from to before after × (tree_of after ≡ (step (tree_of before) (command.Mv from to)).1)
TellsMove (Err why) from to before after = (is_exists why ≡ false → to_mv (tree_of before) from to ≡ Err why) × (why ≡ refusal.Exists → to_free (tree_of before) from to ≡ Err refusal.Exists)

-- where it was refused, the volume was read alone
abbrev pub WasRead : {X : Type 0} → Result X Refusal → Volume → Volume → Space → Space → Type 0
WasRead (Ok done) old new before after = Unit {0}
WasRead (Err why) old new before after = ReadsVolume old new before after

-- ---- a place that is taken

-- what a move comes to whose second name is taken, by what is told of both, and by whether the second path leads below the first
abbrev pub taking_files : Facts → Facts → Bool → Taking
taking_files moved other below =
    if moved.folder then taking.Refused refusal.Exists
    else if other.folder then taking.Refused refusal.Exists
    else if below then taking.Refused refusal.Inside
    else if moved.id == other.id then taking.Same
    else taking.Over other.links

-- the same where one of them is refused
abbrev pub taking_of : Result Facts Refusal → Result Facts Refusal → Bool → Taking
taking_of (Ok moved) (Ok other) below = taking_files moved other below
taking_of (Ok moved) (Err why) below = taking.Refused why
taking_of (Err why) other below = taking.Refused why

-- A file with so many names stands where another one may be moved to.
pub record ReplacesFile (links : ℕ) (tree : PlainTree) (from to : List (List ℕ)) : Type 0 where
  pub pair : PlainEntry × Place
  pub allowed : to_mv tree from to ≡ Ok pair
  pub other : PlainEntry
  pub stands : pair.1.found ≡ Some other
  pub differs : is_same_file pair.0 pair.1.found ≡ false
  pub reaches : reached tree to ≡ Ok other
  pub counted : links ≡ names_of tree other.id

-- a move is refused, moves a file onto itself, or replaces a file with so many names
abbrev pub ComesTo : Taking → PlainTree → List (List ℕ) → List (List ℕ) → Type 0
ComesTo (taking.Refused why) tree from to = to_mv tree from to ≡ Err why
ComesTo taking.Same tree from to = (pair : PlainEntry × Place) × (to_mv tree from to ≡ Ok pair) × (is_same_file pair.0 pair.1.found ≡ true)
ComesTo (taking.Over links) tree from to = ReplacesFile links tree from to

-- the edits by which a file loses a name and another one takes it, by whether the name is a link, and how many names the file has
abbrev pub replace_edits : Option ℕ → Bool → ℕ → Edits
replace_edits private true links = if nat_lt 1 links then record { ids = 0; catalog = 5; attributes = 0; updates = 6 } else record { ids = 0; catalog = 8; attributes = 0; updates = 6 }
replace_edits (Some id) false links = record { ids = 0; catalog = 6; attributes = 0; updates = 6 }
replace_edits None false links = record { ids = 1; catalog = 8; attributes = 0; updates = 6 }
