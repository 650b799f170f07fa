use Rattle.std.proofs.Common.{◌≡◌, ◌-◌, ℕ, sym, ◌∙◌, ap, subst}
use Rattle.std.specs.Prelude.{OnOk}
use Rattle.cat_records.specs.declared.record.CatRecord.{CatRecord}
use Rattle.cat_records.specs.declared.record.CatRecord.TheVariants.{File}
use Rattle.catalog.specs.Entries.{IsOfKind}
use Rattle.hfs_volume.specs.Changes.{with_fork}
use Rattle.volume_base.specs.Changing.{ReplacesRecord}
use Rattle.volume_base.specs.Cutting.{kind_of}
use Rattle.volume_base.specs.Cutting.{shorter_fork}
use Rattle.volume_space.proofs.cutting.put_shorter.Goals as goal

pub replace-requires-clause-kind : goal.replace-requires-clause-kind
replace-requires-clause-kind g c = c.with_fork-rec.ensures.kind

pub replace-requires-clause-fits : goal.replace-requires-clause-fits
replace-requires-clause-fits g c = c.with_fork-rec.ensures.fits c.requires.fits c.shorter_fork-shorter.ensures.fits

pub replace-requires-clause-same_kind : goal.replace-requires-clause-same_kind
replace-requires-clause-same_kind g c = subst (λ (r : CatRecord). IsOfKind c.with_fork-rec.result r) (sym c.requires.is) c.with_fork-rec.ensures.alike

pub returns-clause-replaces : goal.returns-clause-replaces
returns-clause-replaces g c tells =
    subst (λ (r : CatRecord). OnOk c.replace.result (ReplacesRecord c.args.entry.now r c.args.volume.now c.replace.new.self (g.P.SectorView.space c.args.space.now).content (g.P.SectorView.space c.replace.new.space).content))
    (c.with_fork-rec.ensures.same ∙ ap (λ f. File (with_fork (kind_of c.args.kind) f c.args.file.now)) (c.shorter_fork-shorter.ensures.same
    ∙ (λ i. shorter_fork ((c.fork_of-stored.ensures i).total_blocks - c.args.cut.now.goes.count) c.args.volume.now.header.block_size (c.as_slice.ensures i) (c.fork_of-stored.ensures i))))
    (c.replace.ensures.replaces tells)
