use Rattle.std.proofs.Common.{subst}
use Rattle.std.specs.Prelude.{OnOk}
use Rattle.cat_records.specs.declared.record.CatRecord.{CatRecord}
use Rattle.volume_base.specs.Making.{AddsRecord}
use Rattle.volume_names.proofs.Made.{counts_fit, next_unused}
use Rattle.volume_names.proofs.making.add_new.Goals as goal

pub add_record-requires-clause-unused : goal.add_record-requires-clause-unused
add_record-requires-clause-unused g c tells = next_unused c.args.volume.now (g.P.SectorView.space c.args.space.now) (c.requires.serves.settled tells)

pub add_record-requires-clause-counts : goal.add_record-requires-clause-counts
add_record-requires-clause-counts g c tells = counts_fit c.args.volume.now (g.P.SectorView.space c.args.space.now) (c.requires.serves.settled tells) c.requires.room.ids

pub returns-clause-adds : goal.returns-clause-adds
returns-clause-adds g c tells =
    subst (λ (r : CatRecord). OnOk c.add_record.result (AddsRecord c.args.folder r c.args.id c.args.name.now c.args.volume.now c.add_record.new.volume (g.P.SectorView.space c.args.space.now).content (g.P.SectorView.space c.add_record.new.space).content)) c.new_record-rec.ensures.same (c.add_record.ensures.adds tells)
