use Rattle.std.proofs.Common.{◌≡◌, Result}
use Rattle.cat_records.specs.declared.record.FileRecord.{FileRecord}
use Rattle.hfs_language.specs.declared.refusal.Refusal.{Refusal}
use Rattle.hfs_model.specs.Step.{to_read}
use Rattle.hfs_volume.specs.TreeOf.{tree_of}
use Rattle.volume_base.specs.Lists.{lists_of}
use Rattle.volume_base.specs.Reading.{file_in}
use Rattle.volume_base.specs.Sighting.{IsFoundAs}
use Rattle.volume_base.proofs.Seeing.{if_so}
use Rattle.volume_base.proofs.Sighted.{found_is}
use Rattle.volume_base.proofs.volume.Volume.file_at.Goals as goal

pub returns-clause-found : goal.returns-clause-found
returns-clause-found g c tells =
    let old = g.P.SectorView.space c.args.space.now in
    if_so (λ (said : Result FileRecord Refusal). said ≡ file_in (lists_of c.args.self.now old.content).catalog_pairs c.args.self.now.private c.args.path.now c.args.long)
    (λ (said : Result FileRecord Refusal). IsFoundAs old.content said (to_read (tree_of old.content) c.args.path.now c.args.long)) c.file_to_read.result
    (λ said is. found_is c.sound_has_plain_tree.ensures c.args.self.now old.content (c.requires.serves.stands.stands tells).trees (c.requires.serves.settled tells) c.args.path.now c.args.long c.requires.not_own c.requires.fits said is)
    (c.file_to_read.ensures.found tells)
