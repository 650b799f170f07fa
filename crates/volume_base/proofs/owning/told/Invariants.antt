use Rattle.std.proofs.Common.{◌≡◌, take, map}
use Rattle.volume_base.specs.Owning.{listed_name}
use Rattle.volume_base.proofs.owning.told.Given as goal

abbrev pub invariant-loop-name : goal.invariant-loop-name
invariant-loop-name l = l.list ≡ map listed_name (take l.name-index l.names)
