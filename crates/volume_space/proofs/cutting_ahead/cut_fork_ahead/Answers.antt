use Rattle.std.proofs.Common.{◌∙◌, arith}
use Rattle.hfs_volume.specs.Content.{volume_of}
use Rattle.volume_base.specs.Cutting.{kind_of}
use Rattle.volume_base.specs.Room.{capacity_of}
use Rattle.volume_space.proofs.StepSpent.{ahead_within, cut_behind}
use Rattle.volume_space.proofs.CutShort.{short_behind}
use Rattle.volume_space.proofs.PastSizes.{ahead_behind}
use Rattle.volume_base.proofs.Freed.{frees_behind, frees_err, frees_looked, frees_short}
use Rattle.volume_space.proofs.cutting_ahead.cut_fork_ahead.Goals as goal

pub returns-in-Ok-clause-came : goal.returns-in-Ok-clause-came
returns-in-Ok-clause-came g c tells =
    ahead_behind c.cut_told.result (kind_of c.args.kind) c.args.path.now c.args.end (capacity_of c.facts.new.self) (capacity_of c.args.volume.now) (g.P.SectorView.space c.facts.new.space).content (g.P.SectorView.space c.args.space.now).content (g.P.SectorView.space c.cut_told.new.space).content
    (c.facts.ensures.looked.reads.looks.content tells) c.facts.ensures.looked.reads.keeps.capacity (c.cut_told.ensures.came (c.facts.ensures.looked.reads.looks.same.tells ∙ tells))

pub returns-in-Ok-clause-short : goal.returns-in-Ok-clause-short
returns-in-Ok-clause-short g c tells =
    short_behind c.cut_told.result (capacity_of c.facts.new.self) (capacity_of c.args.volume.now) (g.P.SectorView.space c.facts.new.space).spare (g.P.SectorView.space c.args.space.now).spare (g.P.SectorView.space c.facts.new.space).content (g.P.SectorView.space c.args.space.now).content
    (c.facts.ensures.looked.reads.looks.content tells) c.facts.ensures.looked.reads.keeps.capacity c.facts.ensures.looked.reads.looks.spare (c.cut_told.ensures.short (c.facts.ensures.looked.reads.looks.same.tells ∙ tells))

-- ---- what it puts

pub returns-in-Ok-clause-spent : goal.returns-in-Ok-clause-spent
returns-in-Ok-clause-spent g c tells =
    cut_behind (g.P.SectorView.space c.args.space.now).content (g.P.SectorView.space c.facts.new.space).content (c.facts.ensures.looked.reads.looks.content tells) (capacity_of c.args.volume.now) (capacity_of c.facts.new.self) c.facts.ensures.looked.reads.keeps.capacity (g.P.SectorView.space c.args.space.now).spare (g.P.SectorView.space c.facts.new.space).spare c.facts.ensures.looked.reads.looks.spare
    (g.P.SectorView.space c.cut_told.new.space).spare (c.cut_told.ensures.spent (c.facts.ensures.looked.reads.looks.same.tells ∙ tells))

pub returns-in-Err-clause-spent : goal.returns-in-Err-clause-spent
returns-in-Err-clause-spent g c tells = omega (arith, c.facts.ensures.looked.reads.looks.spare)

pub returns-in_err-told-clause-spent : goal.returns-in_err-told-clause-spent
returns-in_err-told-clause-spent g c tells = omega (arith, c.facts.ensures.looked.reads.looks.spare)

pub returns-in-Ok-clause-loads : goal.returns-in-Ok-clause-loads
returns-in-Ok-clause-loads g c tells = ahead_within (capacity_of c.args.volume.now) (volume_of (g.P.SectorView.space c.args.space.now).content) (g.P.SectorView.space c.args.space.now).spare (g.P.SectorView.space c.cut_told.new.space).spare (returns-in-Ok-clause-spent g c tells)

pub returns-in-Err-clause-loads : goal.returns-in-Err-clause-loads
returns-in-Err-clause-loads g c tells = ahead_within (capacity_of c.args.volume.now) (volume_of (g.P.SectorView.space c.args.space.now).content) (g.P.SectorView.space c.args.space.now).spare (g.P.SectorView.space c.facts.new.space).spare (returns-in-Err-clause-spent g c tells)

pub returns-in_err-told-clause-loads : goal.returns-in_err-told-clause-loads
returns-in_err-told-clause-loads g c tells = ahead_within (capacity_of c.args.volume.now) (volume_of (g.P.SectorView.space c.args.space.now).content) (g.P.SectorView.space c.args.space.now).spare (g.P.SectorView.space c.facts.new.space).spare (returns-in_err-told-clause-spent g c tells)

pub returns-in-Ok-clause-frees : goal.returns-in-Ok-clause-frees
returns-in-Ok-clause-frees g c = frees_behind g.met.P.SectorView.follows_trans c.facts.ensures.looked c.cut_told.ensures.frees

pub returns-in-Err-clause-frees : goal.returns-in-Err-clause-frees
returns-in-Err-clause-frees g c = frees_short c.facts.ensures.looked

pub returns-in_err-told-clause-frees : goal.returns-in_err-told-clause-frees
returns-in_err-told-clause-frees g c = frees_err c.from_residual.ensures.1 (frees_looked c.in_err-told.ensures.looked)
