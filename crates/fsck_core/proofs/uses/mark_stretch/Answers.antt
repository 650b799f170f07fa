use Rattle.fsck_core.proofs.uses.mark_stretch.Goals as goal

pub returns-clause-sets : goal.returns-clause-sets
returns-clause-sets c clear k low high inside = c.in_ok-mark_stretch.ensures.sets (λ at from to. clear at from) k low high inside
