use Rattle.std.proofs.Common.{[], ◌∙◌, ap, arith}
use Rattle.hfs_volume.specs.Records.{placed_in, record_at}
use Rattle.volume_base.specs.Lists.{lists_of}
use Rattle.volume_names.proofs.EditsLeft.{left_edited, spare_edited}
use Rattle.volume_names.proofs.Shared.{puts_link}
use Rattle.volume_base.proofs.Framed.{edits_err, edits_spent}
use Rattle.volume_names.proofs.sharing.put_link.Goals as goal

pub add-requires-clause-unused : goal.add-requires-clause-unused
add-requires-clause-unused g c tells = ap (λ n. record_at (placed_in (lists_of c.args.volume.now (g.P.SectorView.space c.args.space.now).content).catalog_pairs) n []) c.link_record-rec.ensures.id ∙ c.requires.unused tells

pub returns-clause-puts : goal.returns-clause-puts
returns-clause-puts g c tells =
    puts_link c.args.volume.now c.add.new.volume (g.P.SectorView.space c.args.space.now) (g.P.SectorView.space c.add.new.space) (c.requires.stands.stands tells) tells (c.in_ok-add.ensures.edits.ran.stands.stands (c.add.ensures.frame.space.same.tells ∙ tells)) c.add.ensures.frame c.add.ensures.rest
    c.args.folder c.args.name.now c.args.id c.args.number c.args.created c.link_record-rec.result c.in_ok-add.field-0 c.link_record-rec.ensures.same (c.requires.vacant tells) (c.in_ok-add.ensures.answer tells) (c.in_ok-add.ensures.added tells)

pub returns-clause-size : goal.returns-clause-size
returns-clause-size g c = c.add.ensures.frame.file.node_size

pub returns-in_err-add-clause-edits : goal.returns-in_err-add-clause-edits
returns-in_err-add-clause-edits g c = edits_err c.from_residual.ensures.1 (edits_spent c.in_err-add.ensures.edits (λ tells. omega arith))

pub returns-clause-left : goal.returns-clause-left
returns-clause-left g c edits beside = left_edited 2 edits beside c.args.volume.now c.add.new.volume (g.P.SectorView.space c.args.space.now) (g.P.SectorView.space c.add.new.space) (λ tells. c.requires.size) c.add.ensures.frame.space.same.tells (c.in_ok-add.ensures.takes_edits [])

pub returns-clause-beside : goal.returns-clause-beside
returns-clause-beside g c edits beside had = spare_edited 2 edits beside c.args.volume.now c.add.new.volume (g.P.SectorView.space c.args.space.now) (g.P.SectorView.space c.add.new.space) (λ tells. c.requires.size) (c.add.ensures.takes []) had

pub returns-in_err-add-clause-beside : goal.returns-in_err-add-clause-beside
returns-in_err-add-clause-beside g c edits beside had = spare_edited 2 edits beside c.args.volume.now c.add.new.volume (g.P.SectorView.space c.args.space.now) (g.P.SectorView.space c.add.new.space) (λ tells. c.requires.size) (c.add.ensures.takes []) had
