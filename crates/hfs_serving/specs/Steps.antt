-- A batch whose replies are told, and a run of batches.
use Rattle.std.specs.Prelude.{◌≡◌, ◌↔◌, ℕ, List, take, Option}
use Rattle.hx_bytes.specs.declared.faults.Trouble.{Trouble}
use Rattle.hx_bytes.specs.declared.faults.Trouble.TheVariants as trouble
use Rattle.sector_disk.specs.Disk.{State}
use Rattle.sector_disk.specs.Source.{Stream}
use Rattle.sector_disk.specs.Space.{Space}
use Rattle.jnl_format.specs.Recovery.{Content}
use Rattle.volume_runs.specs.Run.{Entry, lines_of, ArePlain}
use Rattle.hfs_serving.specs.Going.{Knowing, Stands}
use Rattle.hfs_serving.specs.Outside.{Outside}
use Rattle.hfs_serving.specs.Runs.{Crashes, plain_answers}
use Rattle.hfs_serving.specs.Top.{KeepsPromises}
use Rattle.line_source.specs.declared.input.InputFault.{InputFault}
use Rattle.line_source.specs.declared.input.InputFault.TheVariants as input
use Rattle.hfs_serving.specs.declared.telling.Stop.{Stop}
use Rattle.hfs_serving.specs.declared.telling.Stop.TheVariants as stop

-- why a run ended
abbrev pub stop_of : Trouble → Stop
stop_of trouble.Disk = stop.Disk
stop_of trouble.Memory = stop.Memory

-- why a run ended that got no line
abbrev pub stop_of_input : InputFault → Stop
stop_of_input input.Source = stop.Source
stop_of_input input.Memory = stop.Memory

-- the space is as it was, but in what was told and when
pub record IsStill (old new : Space) : Type 0 where
  pub tells : new.tells ≡ old.tells
  pub names : new.names ≡ old.names
  pub sectors : new.sectors ≡ old.sectors
  pub content : new.content ≡ old.content
  pub durable : new.durable ≡ old.durable
  pub spilled : (s : ℕ) → new.spilled s ↔ old.spilled s
  pub live : (s : ℕ) → new.live s ↔ old.live s
  pub closed : (s : ℕ) → new.closed s ↔ old.closed s
  pub put : (s : ℕ) → new.put s ≡ old.put s
  pub spare : new.spare ≡ old.spare
  pub faults : new.faults ≡ old.faults

-- for some capacity and shrunk file the volume stands for what is committed
abbrev pub SomeWhole : (ℕ → Knowing) → Space → Outside → Type 0
SomeWhole knows space outside = (capacity : ℕ) × (start : Content) × (shrunk : Option ℕ) × Stands (knows capacity) start start shrunk space outside

-- A fault ended it after some of these lines.
pub record CrashesStep (capacity : ℕ) (start : Content) (shrunk : Option ℕ) (old : Outside) (lines : List (List ℕ)) (new : Outside) : Type 0 where
  pub run : List Entry
  pub known : ℕ
  pub count : ℕ
  pub crashes : Crashes capacity shrunk start old run (plain_answers run) known new
  pub plain : ArePlain run
  pub asked : lines_of run ≡ take count lines

-- What a run over a rig and a source promises, whatever ended it: some of the source's lines were served, and of them it keeps its promises.
pub record KeepsRun (capacity : ℕ) (start : Content) (old : State) (source : Stream) (new : State) (source_new : Stream) : Type 0 where
  pub run : List Entry
  pub known : ℕ
  pub keeps : KeepsPromises capacity start old source run known new source_new
