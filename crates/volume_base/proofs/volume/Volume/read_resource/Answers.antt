use Rattle.std.proofs.Common.{◌≡◌, List, Result, sym, ◌∙◌, ap, subst}
use Rattle.std.specs.Prelude.{drop, take}
use Rattle.sector_disk.specs.Lists.{Content}
use Rattle.cat_records.specs.declared.record.FileRecord.{FileRecord}
use Rattle.hfs_language.specs.declared.refusal.Refusal.{Refusal}
use Rattle.hfs_model.specs.Step.{to_read}
use Rattle.hfs_volume.specs.Content.{records_of, volume_of}
use Rattle.hfs_volume.specs.TreeOf.{file_bytes, tree_of}
use Rattle.volume_base.specs.Reading.{HasFile}
use Rattle.volume_base.specs.Sighting.{IsFoundAs}
use Rattle.volume_base.proofs.Framed.{looked_both}
use Rattle.volume_base.proofs.Looked.{looked_again, looked_fault, looked_none}
use Rattle.volume_base.proofs.Sighted.{file_found, told_resource, told_resource_why}
use Rattle.volume_base.proofs.volume.Volume.read_resource.Goals as goal

pub returns-then-is_private_path-clause-looked : goal.returns-then-is_private_path-clause-looked
returns-then-is_private_path-clause-looked g c = looked_none g.met.P.SectorView.follows_refl c.requires.serves.stands

pub read_file-requires-clause-there : goal.read_file-requires-clause-there
read_file-requires-clause-there g c told =
    let tells = sym c.file_at.ensures.looked.reads.looks.same.tells ∙ told in
    let old = g.P.SectorView.space c.args.space.now in
    let found = file_found old.content c.in-Ok.file (to_read (tree_of old.content) c.args.path.now c.args.long) (subst (λ (r : Result FileRecord Refusal). IsFoundAs old.content r (to_read (tree_of old.content) c.args.path.now c.args.long)) c.in-Ok.is (c.in_ok-file.ensures.found tells)) in
    subst (λ (content : Content). HasFile (records_of (volume_of content)) c.in-Ok.file) (sym (c.file_at.ensures.looked.reads.looks.content tells)) found.it.has

pub returns-in_err-bytes-in-Ok-clause-looked : goal.returns-in_err-bytes-in-Ok-clause-looked
returns-in_err-bytes-in-Ok-clause-looked g c = looked_fault c.from_residual-in_err-bytes-in-Ok.ensures.1 (looked_both g.met.P.SectorView.follows_trans c.file_at.ensures.looked c.in_err-bytes-in-Ok.ensures.looked)

pub returns-in_ok-bytes-in-Ok-clause-reply : goal.returns-in_ok-bytes-in-Ok-clause-reply
returns-in_ok-bytes-in-Ok-clause-reply g c tells =
    let old = g.P.SectorView.space c.args.space.now in
    told_resource (tree_of old.content) c.args.path.now c.args.from c.args.long (sym c.is_private_path.ensures ∙ c.if-is_private_path.false) old.content c.in-Ok.file _
    (subst (λ (r : Result FileRecord Refusal). IsFoundAs old.content r (to_read (tree_of old.content) c.args.path.now c.args.long)) c.in-Ok.is (c.in_ok-file.ensures.found tells))
    (c.in_ok-bytes-in-Ok.ensures.bytes (c.file_at.ensures.looked.reads.looks.same.tells ∙ tells) ∙ ap (λ (content : Content). take c.args.long (drop c.args.from (file_bytes content c.in-Ok.file).resource_bytes)) (c.file_at.ensures.looked.reads.looks.content tells))

pub returns-in_ok-bytes-in-Ok-clause-looked : goal.returns-in_ok-bytes-in-Ok-clause-looked
returns-in_ok-bytes-in-Ok-clause-looked g c = looked_again (looked_both g.met.P.SectorView.follows_trans c.file_at.ensures.looked c.read_file.ensures.looked)

pub returns-in-Err-clause-reply : goal.returns-in-Err-clause-reply
returns-in-Err-clause-reply g c tells =
    let old = g.P.SectorView.space c.args.space.now in
    told_resource_why (tree_of old.content) c.args.path.now c.args.from c.args.long (sym c.is_private_path.ensures ∙ c.if-is_private_path.false) old.content c.in-Err.why
    (subst (λ (r : Result FileRecord Refusal). IsFoundAs old.content r (to_read (tree_of old.content) c.args.path.now c.args.long)) c.in-Err.is (c.in_ok-file.ensures.found tells))
