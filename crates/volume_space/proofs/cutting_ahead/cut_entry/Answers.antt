use Rattle.std.proofs.Common.{sym, ◌∙◌, ap, subst, arith}
use Rattle.std.specs.Prelude.{IfOk}
use Rattle.cat_records.specs.declared.record.FileRecord.{FileRecord}
use Rattle.cat_records.specs.Fits.{FitsRecord}
use Rattle.hfs_volume.specs.Content.{volume_of}
use Rattle.volume_base.specs.Cutting.{fork_at, kind_of}
use Rattle.volume_base.specs.Room.{capacity_of}
use Rattle.volume_space.specs.CuttingAhead.{CutsAs, cuts_first}
use Rattle.volume_space.specs.declared.cutting_ahead.CutAhead.{CutAhead}
use Rattle.volume_space.proofs.PutFile.{same_file}
use Rattle.volume_base.proofs.Freed.{frees_wanting}
use Rattle.volume_space.proofs.cutting_ahead.cut_entry.Goals as goal

pub returns-in-File-clause-came : goal.returns-in-File-clause-came
returns-in-File-clause-came g c tells file is =
    let before = (g.P.SectorView.space c.args.space.now).content in
    subst (λ (f : FileRecord). IfOk c.cut_file.result (λ (came : CutAhead). CutsAs came (capacity_of c.args.volume.now) (kind_of c.args.kind) f.fields.id (cuts_first (kind_of c.args.kind) (volume_of before) f.fields.id (fork_at (kind_of c.args.kind) f).logical_size c.args.end) before (g.P.SectorView.space c.cut_file.new.space).content))
    (same_file c.in-File.file file (sym c.in-File.is ∙ is)) (c.cut_file.ensures.came tells)
