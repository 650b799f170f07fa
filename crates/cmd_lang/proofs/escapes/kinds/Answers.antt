use Rattle.std.proofs.Common.{refl}
use Rattle.cmd_lang.proofs.Units.{no_kinds}
use Rattle.cmd_lang.proofs.escapes.kinds.Goals as goal

pub loop-byte-init : goal.loop-byte-init
loop-byte-init c = record { size = refl; made = λ number inside. no_kinds 513 number inside }
