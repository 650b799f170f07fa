use Rattle.std.proofs.Common.{◌≢◌, arith}
use Rattle.hfs_volume.specs.Forks.{in_use}
use Rattle.volume_base.proofs.Extending.{extents_open}
use Rattle.volume_space.proofs.ExtentsEdited.{own_edited, serves_edited, stands_again, stored_again, touches_extents}
use Rattle.volume_space.proofs.storing.store_extents.Goals as goal

pub store_records-requires-clause-desk : goal.store_records-requires-clause-desk
store_records-requires-clause-desk g c = c.requires.stands.service.extents.desk

pub store_records-requires-clause-inside : goal.store_records-requires-clause-inside
store_records-requires-clause-inside g c = c.requires.stands.service.extents.inside

pub store_records-requires-clause-open : goal.store_records-requires-clause-open
store_records-requires-clause-open g c = extents_open c.args.volume.now (g.P.SectorView.space c.args.space.now) c.requires.stands

pub store_records-requires-clause-file : goal.store_records-requires-clause-file
store_records-requires-clause-file g c = λ same. absurd (omega (arith, same, c.requires.number))

pub store_records-requires-clause-holds : goal.store_records-requires-clause-holds
store_records-requires-clause-holds g c tells = (c.requires.stands.stands tells).trees.extents

pub returns-clause-stands : goal.returns-clause-stands
returns-clause-stands g c =
    stands_again c.args.volume.now (g.P.SectorView.space c.args.space.now) (g.P.SectorView.space c.store_records.new.space) (record { file = c.store_records.new.tree; desk = c.store_records.new.desk }) c.args.id c.args.kind (in_use c.args.new.now) c.store_records.result
    c.requires.number c.requires.stands c.store_records.ensures.frame c.store_records.ensures.desk c.store_records.ensures.holds c.store_records.ensures.stores

pub returns-clause-service : goal.returns-clause-service
returns-clause-service g c = serves_edited c.args.volume.now (g.P.SectorView.space c.args.space.now) (g.P.SectorView.space c.store_records.new.space) (record { file = c.store_records.new.tree; desk = c.store_records.new.desk }) c.store_records.ensures.frame c.requires.stands.service c.store_records.ensures.desk

pub returns-clause-stores : goal.returns-clause-stores
returns-clause-stores g c tells =
    stored_again c.args.volume.now (g.P.SectorView.space c.args.space.now) (g.P.SectorView.space c.store_records.new.space) (record { file = c.store_records.new.tree; desk = c.store_records.new.desk }) c.args.id c.args.kind (in_use c.args.new.now) c.store_records.result
    c.requires.number (c.requires.stands.stands tells) tells c.store_records.ensures.frame (c.store_records.ensures.holds tells) (c.store_records.ensures.stores tells)

pub returns-clause-own : goal.returns-clause-own
returns-clause-own g c = own_edited c.args.volume.now (g.P.SectorView.space c.args.space.now) (g.P.SectorView.space c.store_records.new.space) (record { file = c.store_records.new.tree; desk = c.store_records.new.desk }) c.store_records.ensures.frame

pub returns-clause-touches : goal.returns-clause-touches
returns-clause-touches g c committed = touches_extents c.args.volume.now committed (g.P.SectorView.space c.args.space.now) (g.P.SectorView.space c.store_records.new.space) c.store_records.ensures.frame.space
