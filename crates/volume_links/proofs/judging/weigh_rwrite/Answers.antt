use Rattle.std.proofs.Common.{◌≡◌, ◌≤◌, ◌+◌, ◌^◌, ℕ, false, length, refl, sym, ◌∙◌, subst}
use Rattle.std.specs.Prelude.{is_some, IfOk, IfSome, Option, Result}
use Rattle.sector_disk.specs.Lists.{Content}
use Rattle.alloc_bitmap.specs.Map.{BlockMap}
use Rattle.hfs_language.specs.declared.refusal.Refusal.{Refusal}
use Rattle.hfs_model.specs.declared.kinds.KindEdit.TheVariants as edit
use Rattle.hfs_volume.specs.Content.{volume_of}
use Rattle.hfs_volume.specs.TreeOf.{tree_of}
use Rattle.volume_base.specs.Room.{capacity_of, free_in}
use Rattle.volume_base.specs.declared.room.FreeBlocks.TheVariants as blocks
use Rattle.volume_base.specs.declared.weighing.Weight.{Weight}
use Rattle.volume_base.proofs.Framed.{looked_both}
use Rattle.volume_links.specs.Resources.{IsResourceOf, IsToldResource}
use Rattle.volume_links.specs.Steps.{KindWaitsForCut, kind_weighed}
use Rattle.volume_links.specs.declared.resources.Resource.{Resource}
use Rattle.volume_links.proofs.Weighed.{refused_waits, weighs_refused}
use Rattle.volume_links.proofs.judging.weigh_rwrite.Goals as goal

pub weigh_resource-requires-clause-there : goal.weigh_resource-requires-clause-there
weigh_resource-requires-clause-there g c tells =
    let before = sym c.to_write.ensures.looked.reads.looks.same.tells ∙ tells in
    subst (λ (k : Content). IsResourceOf (tree_of k) c.args.path.now c.args.from c.args.value.now c.in-Ok.fork) (sym (c.to_write.ensures.looked.reads.looks.content before))
    (subst (λ (r : Result Resource Refusal). IsToldResource (tree_of (g.P.SectorView.space c.args.space.now).content) c.args.path.now c.args.from c.args.value.now r) c.in-Ok.is (c.in_ok-found.ensures.told before))

pub weigh_resource-requires-clause-small : goal.weigh_resource-requires-clause-small
weigh_resource-requires-clause-small g c = subst (λ (r : Result Resource Refusal). IfOk r (λ fork. c.args.from + length c.args.value.now ≤ 2 ^ 40)) c.in-Ok.is c.in_ok-found.ensures.small

pub returns-in-Err-clause-answer : goal.returns-in-Err-clause-answer
returns-in-Err-clause-answer g c tells =
    let content = (g.P.SectorView.space c.args.space.now).content in
    weighs_refused (tree_of content) c.args.path.now c.args.from c.args.value.now (capacity_of c.args.volume.now) (free_in blocks.Takable c.args.volume.now.map) (volume_of content) c.in-Err.why
    (subst (λ (r : Result Resource Refusal). IsToldResource (tree_of content) c.args.path.now c.args.from c.args.value.now r) c.in-Err.is (c.in_ok-found.ensures.told tells))

pub returns-in-Err-clause-cuts : goal.returns-in-Err-clause-cuts
returns-in-Err-clause-cuts g c tells waits =
    let content = (g.P.SectorView.space c.args.space.now).content in
    absurd (refused_waits (tree_of content) c.args.path.now c.args.from c.args.value.now content refl c.in-Err.why
    (subst (λ (r : Result Resource Refusal). IsToldResource (tree_of content) c.args.path.now c.args.from c.args.value.now r) c.in-Err.is (c.in_ok-found.ensures.told tells)) waits)

pub returns-in-Ok-clause-answer : goal.returns-in-Ok-clause-answer
returns-in-Ok-clause-answer g c tells =
    subst (λ (k : ℕ × BlockMap × Content). IfOk c.weigh_resource.result (λ (said : Option Weight). IfSome said (λ weighs. weighs ≡ kind_weighed k.0 (free_in blocks.Takable k.1) (volume_of k.2) (tree_of k.2) (edit.ResourceWrite c.args.path.now c.args.from c.args.value.now))))
    {x = (capacity_of c.to_write.new.volume, c.to_write.new.volume.map, (g.P.SectorView.space c.to_write.new.space).content)} {y = (capacity_of c.args.volume.now, c.args.volume.now.map, (g.P.SectorView.space c.args.space.now).content)}
    (λ i. (c.to_write.ensures.looked.reads.keeps.capacity i, c.to_write.ensures.looked.reads.keeps.map i, c.to_write.ensures.looked.reads.looks.content tells i))
    (c.weigh_resource.ensures.answer (c.to_write.ensures.looked.reads.looks.same.tells ∙ tells))

pub returns-in-Ok-clause-waits : goal.returns-in-Ok-clause-waits
returns-in-Ok-clause-waits g c tells =
    subst (λ (k : Content). IfOk c.weigh_resource.result (λ (said : Option Weight). is_some said ≡ false → KindWaitsForCut k (edit.ResourceWrite c.args.path.now c.args.from c.args.value.now))) (c.to_write.ensures.looked.reads.looks.content tells)
    (c.weigh_resource.ensures.waits (c.to_write.ensures.looked.reads.looks.same.tells ∙ tells))

pub returns-in-Ok-clause-cuts : goal.returns-in-Ok-clause-cuts
returns-in-Ok-clause-cuts g c tells waits =
    c.weigh_resource.ensures.cuts (c.to_write.ensures.looked.reads.looks.same.tells ∙ tells) (subst (λ (k : Content). KindWaitsForCut k (edit.ResourceWrite c.args.path.now c.args.from c.args.value.now)) (sym (c.to_write.ensures.looked.reads.looks.content tells)) waits)

pub returns-in-Ok-clause-looked : goal.returns-in-Ok-clause-looked
returns-in-Ok-clause-looked g c = looked_both g.met.P.SectorView.follows_trans c.to_write.ensures.looked c.weigh_resource.ensures.looked
