use Rattle.std.proofs.Common.{◌≡◌, true, false, refl, sym, ◌∙◌}
use Rattle.std.specs.Prelude.{is_some, IfSome, Option, Some, Ok}
use Rattle.hfs_language.specs.declared.command.Command.TheVariants as command
use Rattle.hfs_volume.specs.Content.{volume_of}
use Rattle.hfs_volume.specs.TreeOf.{tree_of}
use Rattle.hfs_volume.specs.Weight.{needs_cut}
use Rattle.volume_weights.specs.DataWeighing.{WaitsForCut}
use Rattle.volume_base.specs.DataWeighing.{data_as, data_weighed}
use Rattle.volume_base.specs.Room.{free_in}
use Rattle.volume_base.specs.Weighing.{weighed}
use Rattle.volume_base.specs.declared.room.FreeBlocks.TheVariants as blocks
use Rattle.volume_base.specs.declared.weighing.Weight.{Weight}
use Rattle.volume_base.proofs.DataCommands.{about_file, said_both, some_both, trunc_more, trunc_low, trunc_put, trunc_weighed}
use Rattle.volume_base.proofs.DataWeights.{size_weighed}
use Rattle.volume_base.proofs.Refused.{not_refused, told_refused, trunc_refusal}
use Rattle.volume_base.proofs.Rising.{settled_is_plain}
use Rattle.volume_base.proofs.Seeing.{if_so}
use Rattle.volume_base.proofs.ToldFile.{short_data, told_node, trunc_told, trunc_line}
use Rattle.volume_weights.proofs.CutsAhead.{never_waits, put_told, refused_waits}
use Rattle.volume_base.proofs.Looked.{looked_none}
use Rattle.volume_weights.proofs.data_weight.weigh_size.Goals as goal

pub returns-in-Some-clause-answer : goal.returns-in-Some-clause-answer
returns-in-Some-clause-answer g c tells =
    told_refused c.args.volume.now.capacity (free_in blocks.Takable c.args.volume.now.map) (volume_of (g.P.SectorView.space c.args.space.now).content) (tree_of (g.P.SectorView.space c.args.space.now).content) (command.Trunc c.args._path.now c.args.size) c.in-Some.why
    (sym c.in-Some.is ∙ c.against_trunc.ensures ∙ trunc_refusal (tree_of (g.P.SectorView.space c.args.space.now).content) (settled_is_plain c.sound_has_plain_tree.ensures c.args.volume.now (g.P.SectorView.space c.args.space.now).content (c.requires.serves.stands.stands tells).trees (c.requires.serves.settled tells)) c.args._path.now c.args.size (Ok c.args.told.now) (c.requires.told tells))

pub returns-clause-answer : goal.returns-clause-answer
returns-clause-answer g c tells =
    c.weigh_update.ensures.exact tells
    ∙ size_weighed c.args.volume.now.capacity (free_in blocks.Takable c.args.volume.now.map) (volume_of (g.P.SectorView.space c.args.space.now).content) (tree_of (g.P.SectorView.space c.args.space.now).content) c.args._path.now c.args.told.now (c.requires.told tells) c.args.size (sym c.in_default.is ∙ c.against_trunc.ensures) c.if-told-size.false

pub weigh_put-requires-clause-end : goal.weigh_put-requires-clause-end
weigh_put-requires-clause-end g c = trunc_low c.args.size c.args.told.now (sym c.in_default.is ∙ c.against_trunc.ensures)

pub weigh_put-requires-clause-there : goal.weigh_put-requires-clause-there
weigh_put-requires-clause-there g c tells =
    let it = (told_node (tree_of (g.P.SectorView.space c.args.space.now).content) c.args._path.now c.args.told.now (c.requires.told tells)) in
    let about = (trunc_told (tree_of (g.P.SectorView.space c.args.space.now).content) c.args._path.now c.args.told.now (told_node (tree_of (g.P.SectorView.space c.args.space.now).content) c.args._path.now c.args.told.now (c.requires.told tells)) c.args.size (sym c.in_default.is ∙ c.against_trunc.ensures)) in
    let there = about_file (tree_of (g.P.SectorView.space c.args.space.now).content) c.args._path.now it.node about.0.file in
    (it.node, there.0, there.1, about.0.id, about.0.size)

pub returns-then-told-size-clause-answer : goal.returns-then-told-size-clause-answer
returns-then-told-size-clause-answer g c tells =
    let it = (told_node (tree_of (g.P.SectorView.space c.args.space.now).content) c.args._path.now c.args.told.now (c.requires.told tells)) in
    let about = (trunc_told (tree_of (g.P.SectorView.space c.args.space.now).content) c.args._path.now c.args.told.now (told_node (tree_of (g.P.SectorView.space c.args.space.now).content) c.args._path.now c.args.told.now (c.requires.told tells)) c.args.size (sym c.in_default.is ∙ c.against_trunc.ensures)) in
    said_both c.weigh_put.result (λ (said : Option Weight). IfSome said (λ weighs. weighs ≡ data_weighed c.args.volume.now.capacity (free_in blocks.Takable c.args.volume.now.map) (volume_of (g.P.SectorView.space c.args.space.now).content) (data_as (record { id = c.args.told.now.id; old_size = c.args.told.now.size; from = c.args.told.now.size; end = c.args.size }))))
    (λ (said : Option Weight). is_some said ≡ true → needs_cut (volume_of (g.P.SectorView.space c.args.space.now).content) (Some (data_as (record { id = c.args.told.now.id; old_size = c.args.told.now.size; from = c.args.told.now.size; end = c.args.size }))) ≡ false)
    (λ (said : Option Weight). IfSome said (λ weighs. weighs ≡ weighed c.args.volume.now.capacity (free_in blocks.Takable c.args.volume.now.map) (volume_of (g.P.SectorView.space c.args.space.now).content) (tree_of (g.P.SectorView.space c.args.space.now).content) (command.Trunc c.args._path.now c.args.size)))
    (c.weigh_put.ensures.answer tells) (c.weigh_put.ensures.no_cut tells)
    (λ said is no_cut. some_both said _ _ is no_cut (λ weighs same whole. same ∙ trunc_weighed c.args.volume.now.capacity (free_in blocks.Takable c.args.volume.now.map) (volume_of (g.P.SectorView.space c.args.space.now).content) (tree_of (g.P.SectorView.space c.args.space.now).content) c.args._path.now (data_as (record { id = c.args.told.now.id; old_size = c.args.told.now.size; from = c.args.told.now.size; end = c.args.size })) whole c.args.size
    (trunc_put (tree_of (g.P.SectorView.space c.args.space.now).content) c.args._path.now c.args.told.now it.node about.0 (record { id = c.args.told.now.id; old_size = c.args.told.now.size; from = c.args.told.now.size; end = c.args.size }) refl refl c.args.size c.if-told-size.true refl refl) _ (trunc_line (tree_of (g.P.SectorView.space c.args.space.now).content) c.args._path.now c.args.told.now it.node about.0 c.args.size about.1)))

pub returns-then-told-size-clause-waits : goal.returns-then-told-size-clause-waits
returns-then-told-size-clause-waits g c tells =
    let it = (told_node (tree_of (g.P.SectorView.space c.args.space.now).content) c.args._path.now c.args.told.now (c.requires.told tells)) in
    let about = (trunc_told (tree_of (g.P.SectorView.space c.args.space.now).content) c.args._path.now c.args.told.now (told_node (tree_of (g.P.SectorView.space c.args.space.now).content) c.args._path.now c.args.told.now (c.requires.told tells)) c.args.size (sym c.in_default.is ∙ c.against_trunc.ensures)) in
    if_so (λ (said : Option Weight). is_some said ≡ false → needs_cut (volume_of (g.P.SectorView.space c.args.space.now).content) (Some (data_as (record { id = c.args.told.now.id; old_size = c.args.told.now.size; from = c.args.told.now.size; end = c.args.size }))) ≡ true)
    (λ (said : Option Weight). is_some said ≡ false → WaitsForCut (g.P.SectorView.space c.args.space.now).content (command.Trunc c.args._path.now c.args.size)) c.weigh_put.result
    (λ said is none. (
      not_refused (tree_of (g.P.SectorView.space c.args.space.now).content) (command.Trunc c.args._path.now c.args.size) (sym c.in_default.is ∙ c.against_trunc.ensures ∙ trunc_refusal (tree_of (g.P.SectorView.space c.args.space.now).content) (settled_is_plain c.sound_has_plain_tree.ensures c.args.volume.now (g.P.SectorView.space c.args.space.now).content (c.requires.serves.stands.stands tells).trees (c.requires.serves.settled tells)) c.args._path.now c.args.size (Ok c.args.told.now) (c.requires.told tells)),
      trunc_more (volume_of (g.P.SectorView.space c.args.space.now).content) (tree_of (g.P.SectorView.space c.args.space.now).content) c.args._path.now c.args.size (data_as (record { id = c.args.told.now.id; old_size = c.args.told.now.size; from = c.args.told.now.size; end = c.args.size })) (trunc_put (tree_of (g.P.SectorView.space c.args.space.now).content) c.args._path.now c.args.told.now it.node about.0 (record { id = c.args.told.now.id; old_size = c.args.told.now.size; from = c.args.told.now.size; end = c.args.size }) refl refl c.args.size c.if-told-size.true refl refl) (is none),
    ))
    (c.weigh_put.ensures.waits tells)

-- ---- ahead of which a cut goes

pub returns-in-Some-clause-cuts : goal.returns-in-Some-clause-cuts
returns-in-Some-clause-cuts g c tells waits =
    absurd (refused_waits (g.P.SectorView.space c.args.space.now).content (command.Trunc c.args._path.now c.args.size) c.in-Some.why (sym c.in-Some.is ∙ c.against_trunc.ensures ∙ trunc_refusal (tree_of (g.P.SectorView.space c.args.space.now).content) (settled_is_plain c.sound_has_plain_tree.ensures c.args.volume.now (g.P.SectorView.space c.args.space.now).content (c.requires.serves.stands.stands tells).trees (c.requires.serves.settled tells)) c.args._path.now c.args.size (Ok c.args.told.now) (c.requires.told tells)) waits)

pub returns-then-told-size-clause-cuts : goal.returns-then-told-size-clause-cuts
returns-then-told-size-clause-cuts g c tells waits =
    let it = told_node (tree_of (g.P.SectorView.space c.args.space.now).content) c.args._path.now c.args.told.now (c.requires.told tells) in
    let about = trunc_told (tree_of (g.P.SectorView.space c.args.space.now).content) c.args._path.now c.args.told.now it c.args.size (sym c.in_default.is ∙ c.against_trunc.ensures) in
    if_so (λ (said : Option Weight). is_some said ≡ true → needs_cut (volume_of (g.P.SectorView.space c.args.space.now).content) (Some (data_as (record { id = c.args.told.now.id; old_size = c.args.told.now.size; from = c.args.told.now.size; end = c.args.size }))) ≡ false) (λ (said : Option Weight). is_some said ≡ false) c.weigh_put.result
    (λ said no_cut. put_told (g.P.SectorView.space c.args.space.now).content (command.Trunc c.args._path.now c.args.size) (data_as (record { id = c.args.told.now.id; old_size = c.args.told.now.size; from = c.args.told.now.size; end = c.args.size })) said (trunc_put (tree_of (g.P.SectorView.space c.args.space.now).content) c.args._path.now c.args.told.now it.node about.0 (record { id = c.args.told.now.id; old_size = c.args.told.now.size; from = c.args.told.now.size; end = c.args.size }) refl refl c.args.size c.if-told-size.true refl refl) no_cut waits)
    (c.weigh_put.ensures.no_cut tells)

pub returns-clause-cuts : goal.returns-clause-cuts
returns-clause-cuts g c tells waits =
    let it = told_node (tree_of (g.P.SectorView.space c.args.space.now).content) c.args._path.now c.args.told.now (c.requires.told tells) in
    let about = trunc_told (tree_of (g.P.SectorView.space c.args.space.now).content) c.args._path.now c.args.told.now it c.args.size (sym c.in_default.is ∙ c.against_trunc.ensures) in
    absurd (never_waits (g.P.SectorView.space c.args.space.now).content (command.Trunc c.args._path.now c.args.size) (command.Trunc c.args._path.now c.args.size) refl (short_data (tree_of (g.P.SectorView.space c.args.space.now).content) c.args._path.now c.args.told.now it.node about.0 c.args.size c.if-told-size.false) waits)

pub returns-in-Some-clause-looked : goal.returns-in-Some-clause-looked
returns-in-Some-clause-looked g c = looked_none g.met.P.SectorView.follows_refl c.requires.serves.stands

pub returns-clause-looked : goal.returns-clause-looked
returns-clause-looked g c = looked_none g.met.P.SectorView.follows_refl c.requires.serves.stands
