use Rattle.std.proofs.Common.{◌≡◌, false, sym, ◌∙◌, ap, subst}
use Rattle.std.specs.Prelude.{IfSome, Option, is_some}
use Rattle.cat_records.specs.Fits.{FitsRecord}
use Rattle.cat_records.specs.declared.record.FileRecord.{FileRecord}
use Rattle.hfs_volume.specs.Content.{volume_of}
use Rattle.hfs_volume.specs.Records.{is_thread}
use Rattle.volume_weights.specs.DataWeighing.{IsFileOfPut}
use Rattle.volume_base.specs.Cutting.{kind_of}
use Rattle.volume_base.proofs.ForkKinds.{kind_is}
use Rattle.volume_base.specs.declared.entries.Entry.{Entry}
use Rattle.volume_weights.proofs.DataFork.{file_told, some_told}
use Rattle.volume_base.proofs.FoundEntry.{not_none, settled_spelled}
use Rattle.volume_base.proofs.Framed.{serves_still}
use Rattle.volume_weights.proofs.data_cost.file_of_put.Goals as goal

pub entry-requires-clause-spelled : goal.entry-requires-clause-spelled
entry-requires-clause-spelled g c tells = settled_spelled c.args.volume.now (g.P.SectorView.space c.args.space.now).content (c.requires.serves.settled tells)

pub returns-in-Some-clause-found : goal.returns-in-Some-clause-found
returns-in-Some-clause-found g c tells =
    subst (λ (o : Option FileRecord). IfSome o (λ file. IsFileOfPut (kind_of c.args.kind) (volume_of (g.P.SectorView.space c.args.space.now).content) file c.args.put)) (sym c.file_of_record.ensures)
    (file_told (kind_of c.args.kind) (kind_is c.args.kind) c.args.volume.now (g.P.SectorView.space c.args.space.now).content (c.requires.serves.stands.stands tells).trees (c.requires.serves.settled tells) c.args.put (c.requires.there tells).0 (c.requires.there tells).1 (c.requires.there tells).2 (c.requires.there tells).3 (c.requires.there tells).4 c.in-Some.entry (sym c.in-Some.is ∙ c.in_ok-entry.ensures.found tells) (subst (λ (o : Option Entry). IfSome o (λ entry. is_thread entry.rec ≡ false → FitsRecord entry.rec)) c.in-Some.is c.in_ok-entry.ensures.fits))

pub returns-in-Some-clause-some : goal.returns-in-Some-clause-some
returns-in-Some-clause-some g c tells = ap (λ (o : Option FileRecord). is_some o) c.file_of_record.ensures ∙ some_told (kind_of c.args.kind) (kind_is c.args.kind) c.args.volume.now (g.P.SectorView.space c.args.space.now).content (c.requires.serves.stands.stands tells).trees (c.requires.serves.settled tells) c.args.put (c.requires.there tells).0 (c.requires.there tells).1 (c.requires.there tells).2 (c.requires.there tells).3 (c.requires.there tells).4 c.in-Some.entry (sym c.in-Some.is ∙ c.in_ok-entry.ensures.found tells)

pub returns-in-Some-clause-serves : goal.returns-in-Some-clause-serves
returns-in-Some-clause-serves g c = serves_still c.entry.ensures.looked c.requires.serves

pub returns-in-None-clause-serves : goal.returns-in-None-clause-serves
returns-in-None-clause-serves g c = serves_still c.entry.ensures.looked c.requires.serves

pub returns-in_err-entry-clause-serves : goal.returns-in_err-entry-clause-serves
returns-in_err-entry-clause-serves g c = serves_still c.entry.ensures.looked c.requires.serves

pub returns-in-None-clause-some : goal.returns-in-None-clause-some
returns-in-None-clause-some g c tells =
    absurd (not_none c.args.volume.now (g.P.SectorView.space c.args.space.now).content (c.requires.serves.stands.stands tells).trees (c.requires.serves.settled tells) c.args.put.id (c.requires.there tells).0 (c.requires.there tells).1 (c.requires.there tells).3 (sym c.in-None.is ∙ c.in_ok-entry.ensures.found tells))
