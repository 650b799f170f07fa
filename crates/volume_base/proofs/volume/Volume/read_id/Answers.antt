use Rattle.std.proofs.Common.{sym, ◌∙◌, ap, subst}
use Rattle.std.specs.Prelude.{take, drop}
use Rattle.sector_disk.specs.Lists.{Content}
use Rattle.hfs_volume.specs.Content.{volume_of, records_of}
use Rattle.hfs_volume.specs.TreeOf.{file_bytes}
use Rattle.volume_base.specs.Reading.{HasFile}
use Rattle.volume_base.proofs.FilesById.{bytes_none, bytes_seen, bytes_some, file_stands}
use Rattle.volume_base.proofs.FoundEntry.{settled_spelled}
use Rattle.volume_base.proofs.Framed.{looked_both, serves_still}
use Rattle.volume_base.proofs.Looked.{looked_again, looked_fault}
use Rattle.volume_base.proofs.volume.Volume.read_id.Goals as goal

pub entry-requires-clause-spelled : goal.entry-requires-clause-spelled
entry-requires-clause-spelled g c tells = settled_spelled c.args.self.now (g.P.SectorView.space c.args.space.now).content (c.requires.serves.settled tells)

pub returns-in_err-found-clause-serves : goal.returns-in_err-found-clause-serves
returns-in_err-found-clause-serves g c = serves_still c.entry.ensures.looked c.requires.serves

pub read_file-requires-clause-serves : goal.read_file-requires-clause-serves
read_file-requires-clause-serves g c = serves_still c.entry.ensures.looked c.requires.serves

pub read_file-requires-clause-there : goal.read_file-requires-clause-there
read_file-requires-clause-there g c told =
    let tells = sym c.entry.ensures.looked.reads.looks.same.tells ∙ told in
    let old = (g.P.SectorView.space c.args.space.now).content in
    subst (λ (content : Content). HasFile (records_of (volume_of content)) c.in-Some.file) (sym (c.entry.ensures.looked.reads.looks.content tells))
    (file_stands c.args.self.now old (c.requires.serves.stands.stands tells).trees (c.requires.serves.settled tells) c.args.id c.args.from c.args.long c.in_ok-found.found (c.in_ok-found.ensures.found tells) c.in-Some.file (sym c.in-Some.is ∙ c.file_of.ensures))

pub returns-in_err-read_file-in-Some-clause-looked : goal.returns-in_err-read_file-in-Some-clause-looked
returns-in_err-read_file-in-Some-clause-looked g c = looked_fault c.from_residual-in_err-read_file-in-Some.ensures.1 (looked_both g.met.P.SectorView.follows_trans c.entry.ensures.looked c.in_err-read_file-in-Some.ensures.looked)

pub returns-in_ok-read_file-in-Some-clause-looked : goal.returns-in_ok-read_file-in-Some-clause-looked
returns-in_ok-read_file-in-Some-clause-looked g c = looked_again (looked_both g.met.P.SectorView.follows_trans c.entry.ensures.looked c.read_file.ensures.looked)

pub returns-in_ok-read_file-in-Some-clause-bytes : goal.returns-in_ok-read_file-in-Some-clause-bytes
returns-in_ok-read_file-in-Some-clause-bytes g c tells =
    let old = (g.P.SectorView.space c.args.space.now).content in
    bytes_some c.args.self.now old (c.requires.serves.stands.stands tells).trees (c.requires.serves.settled tells) c.args.id c.args.from c.args.long c.in_ok-found.found (c.in_ok-found.ensures.found tells) c.in-Some.file (sym c.in-Some.is ∙ c.file_of.ensures) _
    (c.in_ok-read_file-in-Some.ensures.bytes (c.entry.ensures.looked.reads.looks.same.tells ∙ tells) ∙ (λ i. take (c.from.ensures i) (drop c.args.from (file_bytes (c.entry.ensures.looked.reads.looks.content tells i) c.in-Some.file).data_bytes)))

pub returns-in_ok-read_file-in-Some-clause-seen : goal.returns-in_ok-read_file-in-Some-clause-seen
returns-in_ok-read_file-in-Some-clause-seen g c tells file there kind =
    returns-in_ok-read_file-in-Some-clause-bytes g c tells
    ∙ bytes_seen c.args.self.now (g.P.SectorView.space c.args.space.now).content (c.requires.serves.stands.stands tells).trees (c.requires.serves.settled tells) c.args.id c.args.from c.args.long file there kind

pub returns-in-None-clause-seen : goal.returns-in-None-clause-seen
returns-in-None-clause-seen g c tells file there kind =
    let old = (g.P.SectorView.space c.args.space.now).content in
    bytes_none c.args.self.now old (c.requires.serves.stands.stands tells).trees (c.requires.serves.settled tells) c.args.id c.args.from c.args.long c.in_ok-found.found (c.in_ok-found.ensures.found tells) (sym c.in-None.is ∙ c.file_of.ensures)
    ∙ bytes_seen c.args.self.now old (c.requires.serves.stands.stands tells).trees (c.requires.serves.settled tells) c.args.id c.args.from c.args.long file there kind

pub returns-in-None-clause-serves : goal.returns-in-None-clause-serves
returns-in-None-clause-serves g c = serves_still c.entry.ensures.looked c.requires.serves
