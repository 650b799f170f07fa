use Rattle.std.proofs.Common.{sym, ◌∙◌, ap, subst}
use Rattle.std.specs.Prelude.{take, drop}
use Rattle.sector_disk.specs.Lists.{Content}
use Rattle.hfs_volume.specs.Content.{volume_of, records_of}
use Rattle.hfs_volume.specs.TreeOf.{file_bytes}
use Rattle.volume_base.specs.Reading.{HasFile}
use Rattle.volume_base.proofs.Listed.{file_there, told_content, told_content_why}
use Rattle.volume_base.proofs.Framed.{looked_both}
use Rattle.volume_base.proofs.Looked.{looked_again, looked_fault, looked_none}
use Rattle.volume_base.proofs.volume.Volume.read.Goals as goal

pub read_file-requires-clause-there : goal.read_file-requires-clause-there
read_file-requires-clause-there g c told =
    let tells = sym c.file_to_read.ensures.looked.reads.looks.same.tells ∙ told in
    let old = g.P.SectorView.space c.args.space.now in
    subst (λ (content : Content). HasFile (records_of (volume_of content)) c.in-Ok.file) (sym (c.file_to_read.ensures.looked.reads.looks.content tells))
    (file_there c.sound_has_plain_tree.ensures c.args.self.now old.content (c.requires.serves.stands.stands tells).trees (c.requires.serves.settled tells) c.args.path.now c.args.long (sym c.is_private_path.ensures ∙ c.if-is_private_path.false) c.requires.fits
    c.in_ok-file.field-0 (c.in_ok-file.ensures.found tells) c.in-Ok.file c.in-Ok.is)

pub returns-in_err-read_file-in-Ok-clause-looked : goal.returns-in_err-read_file-in-Ok-clause-looked
returns-in_err-read_file-in-Ok-clause-looked g c = looked_fault c.from_residual-in_err-read_file-in-Ok.ensures.1 (looked_both g.met.P.SectorView.follows_trans c.file_to_read.ensures.looked c.in_err-read_file-in-Ok.ensures.looked)

pub returns-in_ok-read_file-in-Ok-clause-looked : goal.returns-in_ok-read_file-in-Ok-clause-looked
returns-in_ok-read_file-in-Ok-clause-looked g c = looked_again (looked_both g.met.P.SectorView.follows_trans c.file_to_read.ensures.looked c.read_file.ensures.looked)

pub returns-in_ok-read_file-in-Ok-clause-reply : goal.returns-in_ok-read_file-in-Ok-clause-reply
returns-in_ok-read_file-in-Ok-clause-reply g c tells =
    let old = g.P.SectorView.space c.args.space.now in
    told_content c.sound_has_plain_tree.ensures c.args.self.now old.content (c.requires.serves.stands.stands tells).trees (c.requires.serves.settled tells) c.args.path.now c.args.from c.args.long (sym c.is_private_path.ensures ∙ c.if-is_private_path.false) c.requires.fits
    c.in_ok-file.field-0 (c.in_ok-file.ensures.found tells) c.in-Ok.file _ c.in-Ok.is
    (c.in_ok-read_file-in-Ok.ensures.bytes (c.file_to_read.ensures.looked.reads.looks.same.tells ∙ tells) ∙ ap (λ (content : Content). take c.args.long (drop c.args.from (file_bytes content c.in-Ok.file).data_bytes)) (c.file_to_read.ensures.looked.reads.looks.content tells))

pub returns-in-Err-clause-reply : goal.returns-in-Err-clause-reply
returns-in-Err-clause-reply g c tells =
    told_content_why c.sound_has_plain_tree.ensures c.args.self.now (g.P.SectorView.space c.args.space.now).content (c.requires.serves.stands.stands tells).trees (c.requires.serves.settled tells) c.args.path.now c.args.from c.args.long
    (sym c.is_private_path.ensures ∙ c.if-is_private_path.false) c.requires.fits c.in_ok-file.field-0 (c.in_ok-file.ensures.found tells) c.in-Err.why c.in-Err.is

pub returns-then-is_private_path-clause-looked : goal.returns-then-is_private_path-clause-looked
returns-then-is_private_path-clause-looked g c = looked_none g.met.P.SectorView.follows_refl c.requires.serves.stands
