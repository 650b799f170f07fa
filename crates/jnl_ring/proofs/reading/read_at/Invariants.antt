use Rattle.std.proofs.Common.{length, ◌-◌}
use Rattle.jnl_ring.proofs.Pieces.{ReadSo}
use Rattle.jnl_ring.proofs.reading.read_at.Given as goal

abbrev pub invariant-loop-done : goal.invariant-loop-done
invariant-loop-done g l = ReadSo l.span l.at (g.D.SectorDisk.state l.initial.disk) (g.D.SectorDisk.state l.disk) l.into l.done

abbrev pub decreases-loop-done : goal.decreases-loop-done
decreases-loop-done g l = length l.initial.into - l.done
