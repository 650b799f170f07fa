use Rattle.std.proofs.Common.{arith, subst, ℕ}
use Rattle.std.specs.Prelude.{◌&&◌}
use Rattle.hx_bytes.specs.declared.extents.ForkRecord.{ForkRecord}
use Rattle.volume_base.specs.Cutting.{IsCutOf}
use Rattle.volume_base.proofs.Freed.{frees_err, frees_wanting}
use Rattle.volume_space.proofs.trimming.tidy_extents.Goals as goal

pub tidy_part-requires-clause-cut : goal.tidy_part-requires-clause-cut
tidy_part-requires-clause-cut g c = subst (λ (f : ForkRecord). IsCutOf c.args.list.now f c.args.surplus.keep c.in_ok-cut.cut) c.fork_of-fork.ensures c.in_ok-cut.ensures.cut

-- ---- what it puts

pub returns-in_err-cut-clause-spent : goal.returns-in_err-cut-clause-spent
returns-in_err-cut-clause-spent g c tells = omega arith

pub returns-in_err-cut-clause-frees : goal.returns-in_err-cut-clause-frees
returns-in_err-cut-clause-frees g c = frees_err c.from_residual.ensures.1 (frees_wanting {T = ℕ} g.met.P.SectorView.follows_refl c.requires.serves.stands)
