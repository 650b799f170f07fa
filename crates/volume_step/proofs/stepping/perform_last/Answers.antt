use Rattle.std.proofs.Common.{refl}
use Rattle.std.specs.Prelude.{None}
use Rattle.volume_step.proofs.Unfilled.{filled_none}
use Rattle.volume_step.proofs.Performed.{performs_drop, performs_err}
use Rattle.volume_step.proofs.stepping.perform_last.Goals as goal

pub returns-clause-filled : goal.returns-clause-filled
returns-clause-filled g c = filled_none (record c.perform_now.new.volume { filling = None }) (g.P.SectorView.space c.perform_now.new.space) refl

pub returns-clause-answered : goal.returns-clause-answered
returns-clause-answered g c tells = c.in_ok-came.ensures.answered tells

pub returns-clause-ready : goal.returns-clause-ready
returns-clause-ready g c tells unread now none_grow = c.in_ok-came.ensures.ready tells unread now none_grow

pub returns-clause-puts : goal.returns-clause-puts
returns-clause-puts g c tells met = c.in_ok-came.ensures.puts tells met

pub returns-clause-place : goal.returns-clause-place
returns-clause-place g c tells = c.in_ok-came.ensures.place tells

pub returns-clause-shrunk : goal.returns-clause-shrunk
returns-clause-shrunk g c tells = c.in_ok-came.ensures.shrunk tells

pub returns-clause-loads : goal.returns-clause-loads
returns-clause-loads g c tells = c.perform_now.ensures.loads tells

pub returns-clause-dropped : goal.returns-clause-dropped
returns-clause-dropped g c = refl

pub returns-clause-frame : goal.returns-clause-frame
returns-clause-frame g c = performs_drop None c.in_ok-came.ensures.frame

pub returns-in_err-came-clause-frame : goal.returns-in_err-came-clause-frame
returns-in_err-came-clause-frame g c = performs_err c.from_residual.ensures.1 c.in_err-came.ensures.frame
