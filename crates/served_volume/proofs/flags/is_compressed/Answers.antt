use Rattle.std.proofs.Common.{◌≡◌, Result, sym, ◌∙◌, subst}
use Rattle.std.specs.Prelude.{Bool}
use Rattle.cat_records.specs.declared.record.FileRecord.{FileRecord}
use Rattle.hfs_language.specs.declared.refusal.Refusal.{Refusal}
use Rattle.hfs_model.specs.Step.{to_read}
use Rattle.hfs_volume.specs.TreeOf.{tree_of}
use Rattle.hfs_serving.specs.Flags.{IsCompressedAs}
use Rattle.volume_base.specs.Sighting.{IsFoundAs}
use Rattle.volume_base.proofs.Looked.{looked_none}
use Rattle.served_volume.proofs.Flagged.{said_of_file, said_of_none}
use Rattle.served_volume.proofs.flags.is_compressed.Goals as goal

pub returns-then-is_private_path-clause-looked : goal.returns-then-is_private_path-clause-looked
returns-then-is_private_path-clause-looked g c = looked_none g.met.P.SectorView.follows_refl c.requires.serves.stands

pub returns-in-Ok-clause-found : goal.returns-in-Ok-clause-found
returns-in-Ok-clause-found g c tells =
    let content = (g.P.SectorView.space c.args.space.now).content in
    subst (λ (said : Bool). IsCompressedAs content c.args.path.now said) (sym c.has_flag.ensures)
    (said_of_file content c.args.path.now c.in-Ok.file (sym c.is_private_path.ensures ∙ c.if-is_private_path.false)
    (subst (λ (r : Result FileRecord Refusal). IsFoundAs content r (to_read (tree_of content) c.args.path.now 0)) c.in-Ok.is (c.in_ok-file.ensures.found tells)))

pub returns-in-Err-clause-found : goal.returns-in-Err-clause-found
returns-in-Err-clause-found g c tells =
    let content = (g.P.SectorView.space c.args.space.now).content in
    said_of_none content c.args.path.now c.in-Err._why (sym c.is_private_path.ensures ∙ c.if-is_private_path.false)
    (subst (λ (r : Result FileRecord Refusal). IsFoundAs content r (to_read (tree_of content) c.args.path.now 0)) c.in-Err.is (c.in_ok-file.ensures.found tells))
