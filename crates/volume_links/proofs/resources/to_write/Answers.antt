use Rattle.std.proofs.Common.{refl, sym, ◌∙◌, subst}
use Rattle.std.specs.Prelude.{Result}
use Rattle.cat_records.specs.declared.record.FileRecord.{FileRecord}
use Rattle.hfs_language.specs.declared.refusal.Refusal.{Refusal}
use Rattle.hfs_model.specs.Step.{to_read}
use Rattle.hfs_volume.specs.TreeOf.{tree_of}
use Rattle.volume_base.specs.Sighting.{IsFoundAs}
use Rattle.volume_links.specs.Resources.{IsToldResource}
use Rattle.volume_links.specs.declared.resources.Resource.{Resource}
use Rattle.volume_base.proofs.Looked.{looked_none}
use Rattle.volume_links.proofs.FoundForks.{told_found, told_missing, told_private}
use Rattle.volume_links.proofs.resources.to_write.Goals as goal

pub file_at-requires-clause-not_own : goal.file_at-requires-clause-not_own
file_at-requires-clause-not_own g c = sym c.is_private_path.ensures ∙ c.if-is_private_path.false

pub returns-then-is_private_path-clause-told : goal.returns-then-is_private_path-clause-told
returns-then-is_private_path-clause-told g c tells = told_private (tree_of (g.P.SectorView.space c.args.space.now).content) c.args.path.now c.args.from c.args.value.now (sym c.is_private_path.ensures ∙ c.if-is_private_path.true)

pub returns-then-is_private_path-clause-looked : goal.returns-then-is_private_path-clause-looked
returns-then-is_private_path-clause-looked g c = looked_none g.met.P.SectorView.follows_refl c.requires.serves.stands

pub returns-in-Ok-clause-told : goal.returns-in-Ok-clause-told
returns-in-Ok-clause-told g c tells =
    let content = (g.P.SectorView.space c.args.space.now).content in
    subst (λ (r : Result Resource Refusal). IsToldResource (tree_of content) c.args.path.now c.args.from c.args.value.now r) (sym c.resource_found.ensures.exact)
    (told_found (tree_of content) c.args.path.now c.args.from c.args.value.now content refl (c.requires.serves.settled tells).sound (sym c.is_private_path.ensures ∙ c.if-is_private_path.false) c.in-Ok.file
    (subst (λ (r : Result FileRecord Refusal). IsFoundAs content r (to_read (tree_of content) c.args.path.now 0)) c.in-Ok.is (c.in_ok-found.ensures.found tells)))

pub returns-in-Err-clause-told : goal.returns-in-Err-clause-told
returns-in-Err-clause-told g c tells =
    let content = (g.P.SectorView.space c.args.space.now).content in
    told_missing (tree_of content) c.args.path.now c.args.from c.args.value.now content refl (sym c.is_private_path.ensures ∙ c.if-is_private_path.false) c.in-Err.why
    (subst (λ (r : Result FileRecord Refusal). IsFoundAs content r (to_read (tree_of content) c.args.path.now 0)) c.in-Err.is (c.in_ok-found.ensures.found tells))
