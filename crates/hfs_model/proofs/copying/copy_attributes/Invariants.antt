use Rattle.std.proofs.Common.{◌≡◌, take}
use Rattle.hfs_model.proofs.copying.copy_attributes.Given as goal

abbrev pub invariant-loop-attribute : goal.invariant-loop-attribute
invariant-loop-attribute l = l.copy ≡ take l.attribute-index l.attribute-items
