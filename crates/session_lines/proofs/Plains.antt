-- An entry of a command of the plain language is served as one.
use Rattle.std.proofs.Common.{◌≡◌, ℕ}
use Rattle.std.specs.Prelude.{List, Option, Some, None, Result, Ok, Err}
use Rattle.hfs_language.specs.declared.command.Command.{Command}
use Rattle.hfs_language.specs.declared.refusal.Refusal.{Refusal}
use Rattle.hfs_language.specs.declared.refusal.Refusal.TheVariants as refusal
use Rattle.hfs_volume.specs.declared.asked.Asked.{Asked}
use Rattle.hfs_volume.specs.declared.asked.Asked.TheVariants.{Kind, Plain}
use Rattle.volume_runs.specs.Run.{Entry, IsPlainServed, IsServed, IsServedBy, asked_by, asked_in}

plainly : (capacity : ℕ) (own : Option Asked) (line : List ℕ) (asked : Command) (entry : Entry) → asked_in own line ≡ Ok asked → IsServedBy capacity own entry → IsPlainServed capacity entry
plainly capacity None line asked entry spells it = it
plainly capacity (Some (Plain other)) line asked entry spells it = it
plainly capacity (Some (Kind other)) line asked entry spells it = absurd (let no : Err refusal.BadCommand ≡ Ok asked = spells in cc no)

pub served_plainly : (capacity : ℕ) (entry : Entry) (asked : Command) → asked_by entry ≡ Ok asked → IsServed capacity entry → IsPlainServed capacity entry
served_plainly capacity entry asked spells served = plainly capacity entry.own entry.line asked entry spells served.is
