use Rattle.std.proofs.Common.{sym, ◌∙◌, ap, arith}
use Rattle.hfs_language.specs.declared.reply.Facts.{Facts}
use Rattle.hfs_volume.specs.TreeOf.{tree_of}
use Rattle.volume_base.specs.Cutting.{kind_of}
use Rattle.volume_base.specs.Room.{capacity_of}
use Rattle.volume_space.proofs.PastSizes.{cuts_path}
use Rattle.volume_space.proofs.PutTold.{file_there}
use Rattle.volume_base.proofs.ToldFile.{about, told_node}
use Rattle.volume_base.proofs.Freed.{frees_wanting}
use Rattle.volume_space.proofs.cutting_ahead.cut_told.Goals as goal

pub returns-clause-came : goal.returns-clause-came
returns-clause-came g c tells =
    let a = (g.P.SectorView.space c.args.space.now).content in
    let it = told_node (tree_of a) c.args._path.now c.args.told.now (c.requires.told tells) in
    let file = about (tree_of a) c.args._path.now c.args.told.now it (sym (ap (λ (f : Facts). f.folder) it.facts) ∙ c.if-told.false) in
    let there = file_there (tree_of a) c.args._path.now it.node file.file in
    cuts_path c.cut_found.result (capacity_of c.args.volume.now) (kind_of c.args.kind) c.args._path.now c.args.end a (g.P.SectorView.space c.cut_found.new.space).content it.node file.file (c.cut_found.ensures.came tells it.node there.0 file.id there.1)

-- ---- what it puts

pub returns-then-told-clause-spent : goal.returns-then-told-clause-spent
returns-then-told-clause-spent g c tells = omega arith

pub returns-then-told-clause-frees : goal.returns-then-told-clause-frees
returns-then-told-clause-frees g c = frees_wanting g.met.P.SectorView.follows_refl c.requires.serves.stands
