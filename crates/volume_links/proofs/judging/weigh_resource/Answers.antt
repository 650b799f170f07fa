use Rattle.std.proofs.Common.{◌≡◌, ◌+◌, true, false, length, refl, sym, ◌∙◌}
use Rattle.std.specs.Prelude.{is_some, IfSome, Option, Some}
use Rattle.hfs_model.specs.declared.kinds.KindEdit.TheVariants as edit
use Rattle.hfs_volume.specs.Content.{volume_of}
use Rattle.hfs_volume.specs.Forks.{resource_kind}
use Rattle.hfs_volume.specs.TreeOf.{tree_of}
use Rattle.hfs_volume.specs.Weight.{needs_cut_in}
use Rattle.volume_base.specs.DataWeighing.{data_as, data_weighed_in}
use Rattle.volume_base.specs.Room.{capacity_of, free_in}
use Rattle.volume_base.specs.declared.data_cost.Put.{Put}
use Rattle.volume_base.specs.declared.room.FreeBlocks.TheVariants as blocks
use Rattle.volume_base.specs.declared.weighing.Weight.{Weight}
use Rattle.volume_base.proofs.DataCommands.{said_both, some_both}
use Rattle.volume_base.proofs.Looked.{looked_none}
use Rattle.volume_base.proofs.Seeing.{if_so}
use Rattle.volume_links.specs.Steps.{KindWaitsForCut, kind_weighed}
use Rattle.volume_links.proofs.Weighed.{empty_waits, empty_weighed, is_file, put_waits, put_weighed, waits_untold}
use Rattle.volume_links.proofs.judging.weigh_resource.Goals as goal

pub weigh_put-requires-clause-there : goal.weigh_put-requires-clause-there
weigh_put-requires-clause-there g c tells =
    let it = c.requires.there tells in
    let there = is_file (tree_of (g.P.SectorView.space c.args.space.now).content) c.args._path.now c.args.from c.args.value.now c.args.fork it in
    (it.file, there.0, there.1, it.id, it.size)

pub returns-then-not-is_empty-clause-answer : goal.returns-then-not-is_empty-clause-answer
returns-then-not-is_empty-clause-answer g c tells =
    let content = (g.P.SectorView.space c.args.space.now).content in
    let put : Put = record { id = c.args.fork.id; old_size = c.args.fork.size; from = c.args.from; end = c.args.from + length c.args.value.now } in
    said_both c.weigh_put.result (λ (said : Option Weight). IfSome said (λ weighs. weighs ≡ data_weighed_in resource_kind (capacity_of c.args.volume.now) (free_in blocks.Takable c.args.volume.now.map) (volume_of content) (data_as put)))
    (λ (said : Option Weight). is_some said ≡ true → needs_cut_in resource_kind (volume_of content) (Some (data_as put)) ≡ false)
    (λ (said : Option Weight). IfSome said (λ weighs. weighs ≡ kind_weighed (capacity_of c.args.volume.now) (free_in blocks.Takable c.args.volume.now.map) (volume_of content) (tree_of content) (edit.ResourceWrite c.args._path.now c.args.from c.args.value.now)))
    (c.weigh_put.ensures.answer tells) (c.weigh_put.ensures.no_cut tells)
    (λ said is no_cut. some_both said _ _ is no_cut (λ weighs same whole. same ∙ put_weighed (tree_of content) c.args._path.now c.args.from c.args.value.now c.args.fork (c.requires.there tells) (sym c.is_empty.ensures ∙ c.if-not-is_empty.true) put refl refl refl refl (capacity_of c.args.volume.now) (free_in blocks.Takable c.args.volume.now.map) (volume_of content) whole))

pub returns-then-not-is_empty-clause-waits : goal.returns-then-not-is_empty-clause-waits
returns-then-not-is_empty-clause-waits g c tells =
    let content = (g.P.SectorView.space c.args.space.now).content in
    let put : Put = record { id = c.args.fork.id; old_size = c.args.fork.size; from = c.args.from; end = c.args.from + length c.args.value.now } in
    if_so (λ (said : Option Weight). is_some said ≡ false → needs_cut_in resource_kind (volume_of content) (Some (data_as put)) ≡ true)
    (λ (said : Option Weight). is_some said ≡ false → KindWaitsForCut content (edit.ResourceWrite c.args._path.now c.args.from c.args.value.now)) c.weigh_put.result
    (λ said is none. put_waits (tree_of content) c.args._path.now c.args.from c.args.value.now c.args.fork (c.requires.there tells) (sym c.is_empty.ensures ∙ c.if-not-is_empty.true) put refl refl refl refl content refl (is none))
    (c.weigh_put.ensures.waits tells)

pub returns-then-not-is_empty-clause-cuts : goal.returns-then-not-is_empty-clause-cuts
returns-then-not-is_empty-clause-cuts g c tells waits =
    let content = (g.P.SectorView.space c.args.space.now).content in
    let put : Put = record { id = c.args.fork.id; old_size = c.args.fork.size; from = c.args.from; end = c.args.from + length c.args.value.now } in
    if_so (λ (said : Option Weight). is_some said ≡ true → needs_cut_in resource_kind (volume_of content) (Some (data_as put)) ≡ false) (λ (said : Option Weight). is_some said ≡ false) c.weigh_put.result
    (λ said no_cut. waits_untold (tree_of content) c.args._path.now c.args.from c.args.value.now c.args.fork (c.requires.there tells) (sym c.is_empty.ensures ∙ c.if-not-is_empty.true) put refl refl refl refl content refl said no_cut waits)
    (c.weigh_put.ensures.no_cut tells)

pub returns-clause-answer : goal.returns-clause-answer
returns-clause-answer g c tells =
    let content = (g.P.SectorView.space c.args.space.now).content in
    c.weigh_edits.ensures.exact tells ∙ empty_weighed (tree_of content) c.args._path.now c.args.from c.args.value.now c.args.fork (c.requires.there tells) (sym c.is_empty.ensures ∙ c.if-not-is_empty.false) (capacity_of c.args.volume.now) (free_in blocks.Takable c.args.volume.now.map) (volume_of content)

pub returns-clause-cuts : goal.returns-clause-cuts
returns-clause-cuts g c tells waits =
    let content = (g.P.SectorView.space c.args.space.now).content in
    absurd (empty_waits (tree_of content) c.args._path.now c.args.from c.args.value.now c.args.fork (c.requires.there tells) (sym c.is_empty.ensures ∙ c.if-not-is_empty.false) content refl waits)

pub returns-clause-looked : goal.returns-clause-looked
returns-clause-looked g c = looked_none g.met.P.SectorView.follows_refl c.requires.serves.stands
