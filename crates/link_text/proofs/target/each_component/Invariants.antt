use Rattle.std.proofs.Common.{◌≡◌, ◌++◌, map, drop}
use Rattle.hfs_model.specs.Targets.{component_units}
use Rattle.link_text.proofs.target.each_component.Given as goal

abbrev pub invariant-loop-part : goal.invariant-loop-part
invariant-loop-part l = l.components.items ++ map component_units (map (λ part. part.now) (drop l.part-index l.parts)) ≡ map component_units (map (λ part. part.now) l.parts)
