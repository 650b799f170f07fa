-- What is asked for, by itself or by a line.
use Rattle.std.proofs.Common.{◌≡◌, ℕ, ap}
use Rattle.std.specs.Prelude.{List, Option, Some, None, Result, Ok, Err}
use Rattle.hfs_language.specs.Language.{command_of}
use Rattle.hfs_language.specs.declared.command.Command.{Command}
use Rattle.hfs_language.specs.declared.refusal.Refusal.{Refusal}
use Rattle.hfs_language.specs.declared.refusal.Refusal.TheVariants as refusal
use Rattle.hfs_model.specs.declared.kinds.KindEdit.{KindEdit}
use Rattle.hfs_volume.specs.declared.asked.Asked.{Asked}
use Rattle.hfs_volume.specs.declared.asked.Asked.TheVariants.{Kind, Plain}
use Rattle.volume_runs.specs.Run.{asked_in, spelled, wanted_in}

-- the command of the plain language that was asked for
abbrev asking : Option Asked → Result Command Refusal
asking None = Err refusal.BadCommand
asking (Some (Plain asked)) = Ok asked
asking (Some (Kind asked)) = Err refusal.BadCommand

pub asked_plainly : (own : Option Asked) (line : List ℕ) (asked : Command) → wanted_in own line ≡ Some (Plain asked) → asked_in own line ≡ Ok asked
asked_plainly None line asked is = by (command_of line) is
  where
    by : (r : Result Command Refusal) → spelled r ≡ Some (Plain asked) → r ≡ Ok asked
    by (Ok other) same = ap asking same
    by (Err why) same = absurd (cc same)
asked_plainly (Some (Plain other)) line asked is = ap asking is
asked_plainly (Some (Kind other)) line asked is = absurd (let no : Err refusal.BadCommand ≡ Ok asked = ap asking is in cc no)

pub wants_plainly : (own : Option Asked) (line : List ℕ) (asked : Command) → asked_in own line ≡ Ok asked → wanted_in own line ≡ Some (Plain asked)
wants_plainly None line asked is = ap spelled is
wants_plainly (Some (Plain other)) line asked is = ap spelled is
wants_plainly (Some (Kind other)) line asked is = absurd (let no : Err refusal.BadCommand ≡ Ok asked = is in cc no)

-- no line asks for a command on a link or a resource fork: it stands by itself
pub kind_own : (own : Option Asked) (line : List ℕ) (asked : KindEdit) → wanted_in own line ≡ Some (Kind asked) → own ≡ Some (Kind asked)
kind_own None line asked is = by (command_of line) is
  where
    by : (r : Result Command Refusal) → spelled r ≡ Some (Kind asked) → None ≡ Some (Kind asked)
    by (Ok other) same = absurd (let no : Plain other ≡ Kind asked = cc same in cc no)
    by (Err why) same = same
kind_own (Some other) line asked is = is
