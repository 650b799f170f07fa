use Rattle.std.proofs.Common.{◌≡◌, take, map}
use Rattle.hfs_model.specs.Step.{listed_attribute}
use Rattle.hfs_model.proofs.answering.attribute_names.Given as goal

abbrev pub invariant-loop-attribute : goal.invariant-loop-attribute
invariant-loop-attribute l = l.names ≡ map listed_attribute (take l.attribute-index l.attribute-items)
