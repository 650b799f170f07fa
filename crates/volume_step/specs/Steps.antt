-- What a command on a volume in service came to.
use Rattle.std.specs.Prelude.{◌≡◌, ◌⊎◌, ◌<◌, ◌≤◌, ℕ, ◌+◌, ◌==◌, nat_lt, not, slice_index, Bool, true, false, List, [], ◌∷◌, length, Ok, Option, None, Some, if◌then◌else◌}
use Rattle.std.specs.List.{Contains}
use Rattle.jnl_format.specs.Keeping.{IsSame}
use Rattle.jnl_format.specs.Recovery.{Content, header_of_volume}
use Rattle.volume_header.specs.Refusal.{is_locked}
use Rattle.hfs_language.specs.declared.command.Command.{Command}
use Rattle.hfs_language.specs.declared.command.Command.TheVariants as command
use Rattle.hfs_language.specs.declared.reply.Change.{Change}
use Rattle.hfs_language.specs.declared.reply.Reply.TheVariants as reply
use Rattle.hfs_model.specs.Step.{refuses, step_line}
use Rattle.hfs_volume.specs.declared.asked.Asked.{Asked}
use Rattle.hfs_volume.specs.Content.{volume_of}
use Rattle.hfs_volume.specs.Forks.{data_kind}
use Rattle.hfs_volume.specs.Reclaim.{CutsSurplus, FillsZeros, GrowsTrees, KeepsTree, SameFiles, SameValues, first_growth}
use Rattle.volume_runs.specs.Rest.{cut_puts, file_written}
use Rattle.volume_runs.specs.Run.{Entry, IsAnswered, IsServed, LacksResource, is_ok, or_before, shrunk_by, asked_in}
use Rattle.volume_runs.specs.Told.{changes_by}
use Rattle.hfs_volume.specs.TreeOf.{tree_of}
use Rattle.hfs_volume.specs.Weight.{Data, data_of, edits_of, free_blocks, most_zeros, needs_cut, room_with, values_of, weight, weight_with, zero_blocks}
use Rattle.hfs_volume.specs.declared.cost.Cost.TheVariants as cost
use Rattle.hfs_volume.specs.declared.cost.ValueChange.{ValueChange}
use Rattle.sector_disk.specs.Space.{Space}
use Rattle.volume_weights.specs.DataWeighing.{WaitsForCut}
use Rattle.volume_base.specs.Fitting.{IsMetNow, takable_of}
use Rattle.volume_space.specs.Growing.{IsOwnOrFree, alone}
use Rattle.volume_base.specs.Room.{capacity_of}
use Rattle.volume_base.specs.Standing.{own_sectors}
use Rattle.volume_space.specs.Writing.{is_data_met}
use Rattle.volume_space.specs.declared.ahead.Growth.{Growth}
use Rattle.volume_space.specs.declared.ahead.Growth.TheVariants as growing
use Rattle.volume_space.specs.declared.ahead.WhichTree.{WhichTree}
use Rattle.volume_space.specs.declared.ahead.WhichTree.TheVariants as which
use Rattle.volume_space.specs.declared.cutting_ahead.CutAhead.{CutAhead}
use Rattle.volume_space.specs.declared.cutting_ahead.CutAhead.TheVariants as ahead
use Rattle.volume_base.specs.declared.volume.Filling.{Filling}
use Rattle.volume_base.specs.declared.volume.Volume.{Volume}
use Rattle.volume_space.specs.Zeroing.{done_of, is_growth_of}
use Rattle.volume_base.specs.declared.weighing.Weight.{Weight}
use Rattle.volume_base.specs.declared.weighing.Weight.TheVariants as answer
use Rattle.volume_step.specs.declared.outcome.Outcome.{Outcome}
use Rattle.volume_step.specs.declared.outcome.Outcome.TheVariants as outcome
use Rattle.volume_step.specs.declared.judging.Verdict.{Verdict}
use Rattle.volume_step.specs.declared.judging.Verdict.TheVariants as verdict

-- The journal lies where it lay, software has the volume locked where it had, and the header is one of the same volume.
pub record KeepsJournal (old new : Content) : Type 0 where
  pub journal : (volume_of new).journal ≡ (volume_of old).journal
  pub locked : is_locked (volume_of new).head.attributes ≡ is_locked (volume_of old).head.attributes
  pub heading : IsSame (header_of_volume old) (header_of_volume new)

-- A line's entry is one of a run, and this is what it tells watchers.
pub record IsServedAs (capacity number : ℕ) (changes : List Change) (entry : Entry) : Type 0 where
  pub served : IsServed capacity entry
  pub told : changes ≡ changes_by number entry

-- An entry of a command's step: it is answered as its step, or a resource is missing for it; memory isn't.
pub record IsSteppedAs (capacity number : ℕ) (changes : List Change) (entry : Entry) : Type 0 where
  pub served : IsServedAs capacity number changes entry
  pub decided : IsAnswered capacity entry ⊎ LacksResource capacity entry

-- The step doesn't refuse the command, but blocks past the size of the file that it puts data into go first: some of this file's were cut.
pub record CutsFirst (capacity : ℕ) (asked : Command) (before after : Content) : Type 0 where
  pub no_refusal : refuses (tree_of before) (Ok asked) ≡ false
  pub needs : needs_cut (volume_of before) (data_of (tree_of before) asked) ≡ true
  pub cuts : CutsSurplus capacity before after
  pub file : file_written (data_of (tree_of before) asked) ≡ Some cuts.id
  pub fork : cuts.kind ≡ data_kind

-- The step doesn't refuse the command, and nothing is missing for it, but trees have to grow ahead of it: the first of them has grown, by just as
-- many nodes as the cost says.
pub record GrowsFirst (capacity : ℕ) (asked : Command) (before after : Content) : Type 0 where
  pub no_refusal : refuses (tree_of before) (Ok asked) ≡ false
  pub load : ℕ
  pub grow : List ℕ
  pub affords : weight capacity (volume_of before) (tree_of before) asked ≡ cost.Load load grow
  pub some : 0 < slice_index grow 0 + slice_index grow 1 + slice_index grow 2
  pub grows : GrowsTrees (first_growth grow) (volume_of before) (volume_of after)
  pub files : SameFiles (volume_of before) (volume_of after)
  pub values : SameValues (volume_of before) (volume_of after)
  pub keeps : KeepsTree before after

-- The step doesn't refuse the command, no blocks past the size stand in its way, and nothing is missing for the whole of it; but it puts more zero
-- blocks into a file than one step fills, and some of the blocks that it will take were filled.
pub record FillsFirst (capacity : ℕ) (asked : Command) (before after : Content) : Type 0 where
  pub no_refusal : refuses (tree_of before) (Ok asked) ≡ false
  pub no_surplus : needs_cut (volume_of before) (data_of (tree_of before) asked) ≡ false
  pub load : ℕ
  pub affords : weight capacity (volume_of before) (tree_of before) asked ≡ cost.Load load (0 ∷ 0 ∷ 0 ∷ [])
  pub many : most_zeros < zero_blocks (volume_of before).head.block_size (tree_of before) asked
  pub fills : FillsZeros before after

-- what a command came to: its entry is one of a run, by each line that spells it and by none; or nothing was changed; or a cut, the growth of a tree or zero blocks went first
abbrev pub StepsTo : Outcome → ℕ → ℕ → Command → Content → Content → Type 0
StepsTo (outcome.Answered reply changes) capacity number asked before after =
    (own : Option Asked) (line : List ℕ) → asked_in own line ≡ Ok asked → IsSteppedAs capacity number changes (record { line = line; own = own; reply = reply; before = before; after = after })
StepsTo outcome.CommitFirst capacity number asked before after = after ≡ before
StepsTo outcome.Again capacity number asked before after = CutsFirst capacity asked before after ⊎ (GrowsFirst capacity asked before after ⊎ FillsFirst capacity asked before after)

-- what a command comes to ahead of which nothing goes: it was answered, or nothing was changed
abbrev pub StepsNow : Outcome → ℕ → ℕ → Command → Content → Content → Type 0
StepsNow (outcome.Answered reply changes) capacity number asked before after =
    (own : Option Asked) (line : List ℕ) → asked_in own line ≡ Ok asked → IsSteppedAs capacity number changes (record { line = line; own = own; reply = reply; before = before; after = after })
StepsNow outcome.CommitFirst capacity number asked before after = after ≡ before
StepsNow outcome.Again capacity number asked before after = ⊥

-- of the growth of the file that data is put into, as many more zero blocks are filled as one step fills
abbrev pub FillsMore : Option Data → Option Filling → Option Filling → Type 0
FillsMore None old new = ⊥
FillsMore (Some put) old new = done_of new put.id put.old_size put.new_size ≡ done_of old put.id put.old_size put.new_size + most_zeros

-- of so many zero blocks of the growth of the file that data is put into, no more are left than one step fills
abbrev pub AreFewLeft : ℕ → Option Data → Option Filling → Type 0
AreFewLeft all None filling = Unit {0}
AreFewLeft all (Some put) filling = all ≤ done_of filling put.id put.old_size put.new_size + most_zeros

-- a command has no more zero blocks left than one step fills
abbrev pub HasFewLeft : Command → Option Filling → Content → Type 0
HasFewLeft asked filling content = AreFewLeft (zero_blocks (volume_of content).head.block_size (tree_of content) asked) (data_of (tree_of content) asked) filling

-- a growth in hand is that of the file that data is put into
abbrev pub IsGrowthOf : Option Data → Filling → Type 0
IsGrowthOf None it = ⊥
IsGrowthOf (Some put) it = is_growth_of it put.id put.old_size put.new_size ≡ true

-- a growth is in hand for a command alone that puts this data, and is to be tried again
abbrev pub IsInHandFor : Outcome → Option Data → Filling → Type 0
IsInHandFor outcome.Again put it = IsGrowthOf put it
IsInHandFor _ put it = ⊥

-- a growth in hand behind a command is its own, and the command is to be tried again
abbrev pub KeepsGrowth : Outcome → Option Data → Option Filling → Type 0
KeepsGrowth came put None = Unit {0}
KeepsGrowth came put (Some it) = IsInHandFor came put it

-- where a command is to be tried again, a cut or the growth of a tree went ahead of it, or more zero blocks are filled
abbrev pub GoesFurther : ℕ → Command → Option Filling → Option Filling → Content → Content → Type 0
GoesFurther capacity asked old new before after = CutsFirst capacity asked before after ⊎ (GrowsFirst capacity asked before after ⊎ FillsMore (data_of (tree_of before) asked) old new)

-- the file that was shrunk last, behind a command: the one that it shrank, where it was done and shrank one
abbrev pub ShrinksAs : Outcome → Command → Content → Option ℕ → Option ℕ → Type 0
ShrinksAs (outcome.Answered reply changes) asked before old new = new ≡ (if is_ok reply then or_before (shrunk_by (tree_of before) (Ok asked)) old else old)
ShrinksAs outcome.CommitFirst asked before old new = new ≡ old
ShrinksAs outcome.Again asked before old new = new ≡ old

-- the sectors that are a volume's own before a call or behind it, or lie in blocks that were free before it
abbrev pub OwnOf : Volume → Volume → ℕ → Type 0
OwnOf old new s = IsOwnOrFree old s ⊎ Contains (own_sectors new) s

-- ---- before the step

-- the growth of the first of the trees that have to grow, or what else the command comes to
abbrev pub growth_or : List ℕ → Verdict → Verdict
growth_or grow otherwise =
    if not (slice_index grow 0 == 0) then verdict.Grows which.Extents (slice_index grow 0)
    else if not (slice_index grow 1 == 0) then verdict.Grows which.Catalog (slice_index grow 1)
    else if not (slice_index grow 2 == 0) then verdict.Grows which.Attributes (slice_index grow 2)
    else otherwise

-- what a command's weight comes to, where so many sectors may be put
abbrev pub verdict_of : Weight → ℕ → Verdict
verdict_of (answer.Refused why) spare = verdict.Refused why
verdict_of answer.CommitFirst spare = verdict.CommitFirst
verdict_of (answer.Load sectors grow) spare = growth_or grow (if nat_lt spare sectors then verdict.CommitFirst else verdict.Fits)

-- The step doesn't refuse the command, and nothing is missing for it; no tree has to grow.
pub record Affords (capacity : ℕ) (asked : Command) (content : Content) : Type 0 where
  pub no_refusal : refuses (tree_of content) (Ok asked) ≡ false
  pub load : ℕ
  pub affords : weight capacity (volume_of content) (tree_of content) asked ≡ cost.Load load (0 ∷ 0 ∷ 0 ∷ [])

-- The step doesn't refuse the command, and nothing is missing for it, but trees have to grow ahead of it, of which this is the first, by so many
-- nodes.
pub record WaitsForGrowth (tree : WhichTree) (more capacity : ℕ) (asked : Command) (content : Content) : Type 0 where
  pub no_refusal : refuses (tree_of content) (Ok asked) ≡ false
  pub load : ℕ
  pub grow : List ℕ
  pub weighs : weight capacity (volume_of content) (tree_of content) asked ≡ cost.Load load grow
  pub some : 0 < more
  pub first : first_growth grow ≡ alone tree more

-- the verdict stands
abbrev pub IsJudged : Verdict → ℕ → Command → Content → Type 0
IsJudged (verdict.Refused why) capacity asked content =
    (reply.No why ≡ (step_line (tree_of content) (Ok asked)).0) ⊎ ((refuses (tree_of content) (Ok asked) ≡ false) × (weight capacity (volume_of content) (tree_of content) asked ≡ cost.Refused why))
IsJudged verdict.CutFirst capacity asked content = WaitsForCut content asked
IsJudged verdict.CommitFirst capacity asked content = Unit {0}
IsJudged (verdict.Grows tree more) capacity asked content = WaitsForGrowth tree more capacity asked content
IsJudged verdict.Fits capacity asked content = Affords capacity asked content

-- ---- a cut that goes first

-- up to where a command puts data, where it may put some
abbrev pub data_end : Command → Option ℕ
data_end (command.Write path from value) = if length value == 0 then None else Some (from + length value)
data_end (command.Trunc path size) = Some size
data_end asked = None

-- the path of the file that it puts data into
abbrev pub data_path : Command → List (List ℕ)
data_path (command.Write path from value) = path
data_path (command.Trunc path size) = path
data_path asked = []

-- what a cut comes to for its command
abbrev pub outcome_of : CutAhead → Outcome
outcome_of ahead.NotNeeded = outcome.CommitFirst
outcome_of ahead.Made = outcome.Again
outcome_of ahead.CommitFirst = outcome.CommitFirst
outcome_of (ahead.Refused why) = outcome.Answered (reply.No why) []

-- fewer sectors may be put than a cut puts at most
abbrev pub LacksCutRoom : Volume → Space → Type 0
LacksCutRoom volume space = space.spare < cut_puts (room_with (capacity_of volume) (free_blocks (volume_of space.content)) (volume_of space.content))

-- ---- a growth that goes first

-- what a growth comes to for its command
abbrev pub grown : Growth → Outcome
grown growing.Grown = outcome.Again
grown growing.CommitFirst = outcome.CommitFirst

-- ---- what can be done now

-- the edits of a command can be made now, with what it does to values
abbrev pub IsMet : Command → Volume → Space → Type 0
IsMet asked volume space = IsMetNow asked volume space

-- it was done, and answered with ok
abbrev pub IsDoneOk : Outcome → Type 0
IsDoneOk (outcome.Answered reply.Ok changes) = Unit {0}
IsDoneOk _ = ⊥

-- The command puts no data into a file, and what it costs of the blocks that may be taken is a load that the sectors suffice for which may be put.
pub record FitsNow (asked : Command) (volume : Volume) (space : Space) : Type 0 where
  pub no_data : data_of (tree_of space.content) asked ≡ None
  pub load : ℕ
  pub grow : List ℕ
  pub costs : weight_with (capacity_of volume) (takable_of volume) (volume_of space.content) (tree_of space.content) asked ≡ cost.Load load grow
  pub within : load ≤ space.spare

-- no block is taken for a value
abbrev pub takes_none : Option ValueChange → Bool
takes_none None = true
takes_none (Some change) = change.blocks == 0

-- The same; and where the command takes blocks for a value, of all that are free it costs the same growth of the attributes file.
pub record FitsReady (asked : Command) (volume : Volume) (space : Space) : Type 0 where
  pub now : FitsNow asked volume space
  pub alike : (takes_none (values_of (volume_of space.content) (tree_of space.content) asked) ≡ true)
      ⊎ ((load : ℕ) (grow : List ℕ) → weight (capacity_of volume) (volume_of space.content) (tree_of space.content) asked ≡ cost.Load load grow → slice_index grow 2 ≡ slice_index now.grow 2)

-- A command has no more zero blocks than one step fills, or nothing was put since the last commit.
abbrev pub HasFewZeros : Command → Volume → Space → Type 0
HasFewZeros asked volume space = (zero_blocks (volume_of space.content).head.block_size (tree_of space.content) asked ≤ most_zeros) ⊎ (capacity_of volume ≤ space.spare)

-- The command puts data into a file, what it costs of the blocks that may be taken is met, and of all that are free it costs no growth of the extents
-- overflow file either; and it has no more zero blocks than one step fills, or nothing was put since the last commit.
pub record PutsNow (asked : Command) (volume : Volume) (space : Space) : Type 0 where
  pub met : is_data_met volume space.spare (volume_of space.content) (data_of (tree_of space.content) asked) ≡ true
  pub alike : (load : ℕ) (grow : List ℕ) → weight (capacity_of volume) (volume_of space.content) (tree_of space.content) asked ≡ cost.Load load grow → slice_index grow 0 ≡ 0
  pub few : HasFewZeros asked volume space

-- the verdict lets nothing go ahead of the command
abbrev pub IsDirect : Verdict → Type 0
IsDirect (verdict.Refused why) = Unit {0}
IsDirect verdict.Fits = Unit {0}
IsDirect _ = ⊥

-- the verdict on a command that fits now, ahead of which trees grow by so many nodes: neither a commit nor a cut comes first; the first of these trees grows, or none is to
abbrev pub IsTaken : Verdict → List ℕ → Type 0
IsTaken (verdict.Refused why) grow = Unit {0}
IsTaken verdict.CutFirst grow = ⊥
IsTaken verdict.CommitFirst grow = ⊥
IsTaken (verdict.Grows tree more) grow = (0 < more) × (first_growth grow ≡ alone tree more)
IsTaken verdict.Fits grow = grow ≡ 0 ∷ 0 ∷ 0 ∷ []

-- the same, but that a cut may come first
abbrev pub IsTakenAlike : Verdict → List ℕ → Type 0
IsTakenAlike verdict.CutFirst grow = Unit {0}
IsTakenAlike it grow = IsTaken it grow

-- the verdict on a command ahead of which blocks past its file's size go: they are cut first, or it is refused
abbrev pub IsCutFirst : Verdict → Type 0
IsCutFirst (verdict.Refused why) = Unit {0}
IsCutFirst verdict.CutFirst = Unit {0}
IsCutFirst _ = ⊥

-- a tree that the verdict lets grow is the first of those that have to grow by so many nodes
abbrev pub GrowsTheFirst : Verdict → List ℕ → Type 0
GrowsTheFirst (verdict.Grows tree more) grow = (0 < more) × (first_growth grow ≡ alone tree more)
GrowsTheFirst _ grow = Unit {0}
