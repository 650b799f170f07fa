-- A command that isn't done at all.
use Rattle.std.specs.Prelude.{◌≡◌}
use Rattle.hfs_language.specs.declared.refusal.Refusal.{Refusal}
use Rattle.hfs_language.specs.declared.refusal.Refusal.TheVariants as refusal

-- Memory is missing to make it, so that nothing is asked of the volume.
abbrev pub IsSkipped : Refusal → Type 0
IsSkipped why = why ≡ refusal.OutOfMemory
