use Rattle.volume_step.proofs.StepGrowth.{awaited_spent}
use Rattle.volume_base.specs.Keeping.{shrunk_of}
use Rattle.volume_base.specs.Room.{capacity_of}
use Rattle.volume_step.proofs.GrowthSteps.{growth_place, growth_touches}
use Rattle.volume_step.proofs.GrownFor.{grown_for, short_grown}
use Rattle.volume_step.proofs.tidying.grow_for.Goals as goal

pub returns-clause-reclaims : goal.returns-clause-reclaims
returns-clause-reclaims g c tells =
    grown_for c.args.wanted (capacity_of c.args.volume.now) (shrunk_of c.args.volume.now) (g.P.SectorView.space c.args.space.now).content (g.P.SectorView.space c.grow_tree.new.space).content (c.requires.awaits tells)
    c.in_ok-went.went (c.in_ok-went.ensures.ahead tells) c.grown.result c.grown.ensures

pub returns-clause-place : goal.returns-clause-place
returns-clause-place g c tells =
    growth_place c.args.wanted.tree c.args.wanted.more (g.P.SectorView.space c.args.space.now).content (g.P.SectorView.space c.grow_tree.new.space).content c.in_ok-went.went (c.in_ok-went.ensures.ahead tells)

pub returns-clause-holds : goal.returns-clause-holds
returns-clause-holds g c committed was = c.grow_tree.ensures.holds committed was

pub returns-clause-capacity : goal.returns-clause-capacity
returns-clause-capacity g c = c.grow_tree.ensures.same.2

pub returns-clause-shrunk : goal.returns-clause-shrunk
returns-clause-shrunk g c = c.grow_tree.ensures.same.1

pub returns-clause-touches : goal.returns-clause-touches
returns-clause-touches g c committed = growth_touches committed c.args.volume.now c.grow_tree.new.volume (g.P.SectorView.space c.args.space.now) (g.P.SectorView.space c.grow_tree.new.space) (c.grow_tree.ensures.touches committed)

pub returns-in_err-went-clause-touches : goal.returns-in_err-went-clause-touches
returns-in_err-went-clause-touches g c committed = growth_touches committed c.args.volume.now c.grow_tree.new.volume (g.P.SectorView.space c.args.space.now) (g.P.SectorView.space c.grow_tree.new.space) (c.grow_tree.ensures.touches committed)

pub returns-clause-short : goal.returns-clause-short
returns-clause-short g c tells wants =
    short_grown c.args.volume.now (g.P.SectorView.space c.args.space.now) c.args.wanted (c.requires.awaits tells) c.in_ok-went.went (λ fits. c.in_ok-went.ensures.sure tells fits) c.grown.result c.grown.ensures wants

pub returns-clause-loads : goal.returns-clause-loads
returns-clause-loads g c tells =
    awaited_spent c.args.volume.now (g.P.SectorView.space c.args.space.now) (g.P.SectorView.space c.grow_tree.new.space) c.requires.stands tells (c.requires.settled tells) c.a_load_says_enough.ensures c.trees_grow_by_enough.ensures (shrunk_of c.args.volume.now) c.args.wanted (c.requires.awaits tells)
    c.grow_tree.ensures.spent (c.grow_tree.ensures.spent_spread tells)

pub returns-in_err-went-clause-loads : goal.returns-in_err-went-clause-loads
returns-in_err-went-clause-loads g c tells =
    awaited_spent c.args.volume.now (g.P.SectorView.space c.args.space.now) (g.P.SectorView.space c.grow_tree.new.space) c.requires.stands tells (c.requires.settled tells) c.a_load_says_enough.ensures c.trees_grow_by_enough.ensures (shrunk_of c.args.volume.now) c.args.wanted (c.requires.awaits tells)
    c.grow_tree.ensures.spent (c.grow_tree.ensures.spent_spread tells)
