use Rattle.std.proofs.Common.{refl, sym, subst, arith}
use Rattle.std.specs.Prelude.{IfOk}
use Rattle.hfs_language.specs.declared.command.Command.{Command}
use Rattle.hfs_volume.specs.Forks.{data_kind}
use Rattle.volume_space.specs.CuttingAhead.{CutsAhead}
use Rattle.volume_base.specs.Room.{capacity_of}
use Rattle.volume_space.specs.declared.cutting_ahead.CutAhead.{CutAhead}
use Rattle.volume_step.specs.Steps.{data_path}
use Rattle.volume_base.proofs.Joined.{edits_wanting}
use Rattle.volume_step.proofs.cutting.cut_for.Goals as goal

pub returns-in-Write-clause-came : goal.returns-in-Write-clause-came
returns-in-Write-clause-came g c tells = subst (λ (k : Command). IfOk c.cut_fork_ahead.result (λ (came : CutAhead). CutsAhead came (capacity_of c.args.volume.now) data_kind (data_path k) c.args.end (g.P.SectorView.space c.args.space.now).content (g.P.SectorView.space c.cut_fork_ahead.new.space).content)) (sym c.in-Write.is) (c.cut_fork_ahead.ensures.came tells)

pub returns-in-Trunc-clause-came : goal.returns-in-Trunc-clause-came
returns-in-Trunc-clause-came g c tells = subst (λ (k : Command). IfOk c.cut_fork_ahead-in-Trunc.result (λ (came : CutAhead). CutsAhead came (capacity_of c.args.volume.now) data_kind (data_path k) c.args.end (g.P.SectorView.space c.args.space.now).content (g.P.SectorView.space c.cut_fork_ahead-in-Trunc.new.space).content)) (sym c.in-Trunc.is) (c.cut_fork_ahead-in-Trunc.ensures.came tells)

pub returns-in_default-clause-loads : goal.returns-in_default-clause-loads
returns-in_default-clause-loads g c tells free load grow costs = omega arith

pub returns-in_default-clause-frees : goal.returns-in_default-clause-frees
returns-in_default-clause-frees g c = record {
  ran = (edits_wanting _ g.met.P.SectorView.follows_refl c.requires.serves.stands).ran;
  used = record { holds = λ committed was. was; shrunk = refl; capacity = refl };
}
