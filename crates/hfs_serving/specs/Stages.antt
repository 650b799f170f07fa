-- What a stage of a mount, or of the end of a run, does.
use Rattle.std.specs.Prelude.{◌≡◌, ◌⊎◌}
use Rattle.sector_disk.specs.Clock.{TimePasses}
use Rattle.jnl_format.specs.Recovery.{Content}
use Rattle.hfs_serving.specs.Outside.{Outside}
use Rattle.hfs_serving.specs.Runs.{StandsAs}

-- A stage of a mount or of the end of a run, whatever ended it: a crash in it, and at its end, leaves what was there, or what it makes.
-- Nothing is told.
pub record MayTurn (old new : Content) (before after : Outside) : Type 0 where
  pub time : TimePasses before.clock after.clock (λ recovered told. (StandsAs old recovered ⊎ StandsAs new recovered) × (told ≡ before.told))
  pub leaves : (recovered : Content) → after.leaves recovered → StandsAs old recovered ⊎ StandsAs new recovered
  pub told : after.told ≡ before.told

-- A stage, whatever ended it, of which each crash in it, and at its end, leaves a content of this kind. Nothing is told.
pub record MayLeave (is_left : Content → Type 0) (before after : Outside) : Type 0 where
  pub time : TimePasses before.clock after.clock (λ recovered told. is_left recovered × (told ≡ before.told))
  pub leaves : (recovered : Content) → after.leaves recovered → is_left recovered
  pub told : after.told ≡ before.told

-- A stage that was made: at its end a crash leaves what it makes, alone.
pub record Turns (old new : Content) (before after : Outside) : Type 0 where
  pub may : MayTurn old new before after
  pub leaves : (recovered : Content) → after.leaves recovered → StandsAs new recovered
