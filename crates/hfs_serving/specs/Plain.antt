-- Lines of the plain language.
use Rattle.std.specs.Prelude.{◌≡◌, ◌⊎◌, ℕ, List, None, Some, Err}
use Rattle.cmd_lang.specs.declared.fault.LineFault.{LineFault}
use Rattle.cmd_lang.specs.declared.fault.LineFault.TheVariants as fault
use Rattle.hfs_language.specs.Language.{command_of}
use Rattle.hfs_language.specs.declared.refusal.Refusal.{Refusal}
use Rattle.hfs_language.specs.declared.refusal.Refusal.TheVariants as refusal
use Rattle.hfs_volume.specs.declared.asked.Asked.{Asked}
use Rattle.volume_runs.specs.Run.{lines_of, wanted_in, ArePlain}
use Rattle.volume_runs.specs.Told.{changes_in}
use Rattle.hfs_serving.specs.Runs.{plain_answers}
use Rattle.hfs_serving.specs.Speaking.{Speech, Spoken}

-- why a line that was read to no command is refused
abbrev pub refusal_of : LineFault → Refusal
refusal_of (fault.No why) = why
refusal_of fault.Memory = refusal.OutOfMemory

-- the line spells no command for this reason, or memory is missing
abbrev pub IsRefusedAs : List ℕ → Refusal → Type 0
IsRefusedAs line why = (command_of line ≡ Err why) ⊎ (why ≡ refusal.OutOfMemory)

-- the line spells the command
abbrev pub Spells : List ℕ → Asked → Type 0
Spells line asked = wanted_in None line ≡ Some asked

-- Each line made one entry and is told its reply, and watchers are told what all of these entries changed.
pub record IsPlain (speech : Speech) : Type 0 where
  pub plain : ArePlain speech.run
  pub asked : lines_of speech.run ≡ speech.lines
  pub told : speech.answers ≡ plain_answers speech.run
  pub changed : changes_in 0 speech.run ≡ speech.changes

-- what plain lines spoke
abbrev pub spoke_plainly : Spoken
spoke_plainly start speech = IsPlain speech
