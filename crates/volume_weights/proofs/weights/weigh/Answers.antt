use Rattle.std.proofs.Common.{◌≡◌, ℕ, false, List, refl, sym, ◌∙◌, ap, subst}
use Rattle.std.specs.Prelude.{is_some, IfOk, IfSome, Option}
use Rattle.hfs_language.specs.declared.command.Command.{Command}
use Rattle.hfs_language.specs.declared.command.Command.TheVariants as command
use Rattle.hfs_volume.specs.Content.{volume_of}
use Rattle.hfs_volume.specs.TreeOf.{tree_of}
use Rattle.volume_weights.specs.DataWeighing.{WaitsForCut}
use Rattle.volume_base.specs.Room.{free_in}
use Rattle.volume_base.specs.Weighing.{weighed}
use Rattle.volume_base.specs.declared.room.FreeBlocks.TheVariants as blocks
use Rattle.volume_base.specs.declared.weighing.Weight.{Weight}
use Rattle.volume_base.proofs.Seeing.{if_so}
use Rattle.volume_weights.proofs.CutsAhead.{never_waits}
use Rattle.volume_base.proofs.Looked.{looked_none}
use Rattle.volume_weights.proofs.weights.weigh.Goals as goal

pub returns-in_ok-weigh_chmod-in-Chmod-clause-answer : goal.returns-in_ok-weigh_chmod-in-Chmod-clause-answer
returns-in_ok-weigh_chmod-in-Chmod-clause-answer g c tells =
    c.in_ok-weigh_chmod-in-Chmod.ensures.answer tells c.in-Chmod.mode ∙ ap (λ (k : Command). weighed c.args.volume.now.capacity (free_in blocks.Takable c.args.volume.now.map) (volume_of (g.P.SectorView.space c.args.space.now).content) (tree_of (g.P.SectorView.space c.args.space.now).content) k) (sym c.in-Chmod.is)

pub returns-in_ok-weigh_setattr-in-SetAttr-clause-answer : goal.returns-in_ok-weigh_setattr-in-SetAttr-clause-answer
returns-in_ok-weigh_setattr-in-SetAttr-clause-answer g c tells =
    c.in_ok-weigh_setattr-in-SetAttr.ensures.answer tells
    ∙ ap (λ (value : List ℕ). weighed c.args.volume.now.capacity (free_in blocks.Takable c.args.volume.now.map) (volume_of (g.P.SectorView.space c.args.space.now).content) (tree_of (g.P.SectorView.space c.args.space.now).content) (command.SetAttr c.in-SetAttr.path c.in-SetAttr.name value)) c.as_slice.ensures
    ∙ ap (λ (k : Command). weighed c.args.volume.now.capacity (free_in blocks.Takable c.args.volume.now.map) (volume_of (g.P.SectorView.space c.args.space.now).content) (tree_of (g.P.SectorView.space c.args.space.now).content) k) (sym c.in-SetAttr.is)

pub returns-in-Write-clause-answer : goal.returns-in-Write-clause-answer
returns-in-Write-clause-answer g c tells =
    subst (λ (k : Command). IfOk c.weigh_write.result (λ said. IfSome said (λ weighs. weighs ≡ weighed c.args.volume.now.capacity (free_in blocks.Takable c.args.volume.now.map) (volume_of (g.P.SectorView.space c.args.space.now).content) (tree_of (g.P.SectorView.space c.args.space.now).content) k)))
    (ap (λ (v : List ℕ). command.Write c.in-Write.path c.in-Write.from v) c.as_slice-in-Write.ensures ∙ sym c.in-Write.is) (c.weigh_write.ensures.answer tells)

pub returns-in-Write-clause-waits : goal.returns-in-Write-clause-waits
returns-in-Write-clause-waits g c tells unread =
    if_so (λ (said : Option Weight). is_some said ≡ false → WaitsForCut (g.P.SectorView.space c.args.space.now).content (command.Write c.in-Write.path c.in-Write.from c.as_slice-in-Write.result.now))
    (λ (said : Option Weight). is_some said ≡ false → WaitsForCut (g.P.SectorView.space c.args.space.now).content c.args.command.now) c.weigh_write.result
    (λ said it none. subst (λ (k : Command). WaitsForCut (g.P.SectorView.space c.args.space.now).content k) (ap (λ (v : List ℕ). command.Write c.in-Write.path c.in-Write.from v) c.as_slice-in-Write.ensures ∙ sym c.in-Write.is) (it none)) (c.weigh_write.ensures.waits tells)

pub returns-in-Trunc-clause-answer : goal.returns-in-Trunc-clause-answer
returns-in-Trunc-clause-answer g c tells =
    subst (λ (k : Command). IfOk c.weigh_trunc.result (λ said. IfSome said (λ weighs. weighs ≡ weighed c.args.volume.now.capacity (free_in blocks.Takable c.args.volume.now.map) (volume_of (g.P.SectorView.space c.args.space.now).content) (tree_of (g.P.SectorView.space c.args.space.now).content) k)))
    (sym c.in-Trunc.is) (c.weigh_trunc.ensures.answer tells)

pub returns-in-Trunc-clause-waits : goal.returns-in-Trunc-clause-waits
returns-in-Trunc-clause-waits g c tells unread =
    if_so (λ (said : Option Weight). is_some said ≡ false → WaitsForCut (g.P.SectorView.space c.args.space.now).content (command.Trunc c.in-Trunc.path c.in-Trunc.size))
    (λ (said : Option Weight). is_some said ≡ false → WaitsForCut (g.P.SectorView.space c.args.space.now).content c.args.command.now) c.weigh_trunc.result
    (λ said it none. subst (λ (k : Command). WaitsForCut (g.P.SectorView.space c.args.space.now).content k) (sym c.in-Trunc.is) (it none)) (c.weigh_trunc.ensures.waits tells)

-- ---- ahead of which a cut goes

pub returns-in-Write-clause-cuts : goal.returns-in-Write-clause-cuts
returns-in-Write-clause-cuts g c tells waits =
    c.weigh_write.ensures.cuts tells (subst (λ (k : Command). WaitsForCut (g.P.SectorView.space c.args.space.now).content k) (c.in-Write.is ∙ ap (λ (v : List ℕ). command.Write c.in-Write.path c.in-Write.from v) (sym c.as_slice-in-Write.ensures)) waits)

pub returns-in-Trunc-clause-cuts : goal.returns-in-Trunc-clause-cuts
returns-in-Trunc-clause-cuts g c tells waits = c.weigh_trunc.ensures.cuts tells (subst (λ (k : Command). WaitsForCut (g.P.SectorView.space c.args.space.now).content k) c.in-Trunc.is waits)

pub returns-in_ok-weigh_chmod-in-Chmod-clause-cuts : goal.returns-in_ok-weigh_chmod-in-Chmod-clause-cuts
returns-in_ok-weigh_chmod-in-Chmod-clause-cuts g c tells waits = absurd (never_waits (g.P.SectorView.space c.args.space.now).content c.args.command.now (command.Chmod c.in-Chmod.path c.in-Chmod.mode) c.in-Chmod.is refl waits)

pub returns-in_ok-weigh_setattr-in-SetAttr-clause-cuts : goal.returns-in_ok-weigh_setattr-in-SetAttr-clause-cuts
returns-in_ok-weigh_setattr-in-SetAttr-clause-cuts g c tells waits = absurd (never_waits (g.P.SectorView.space c.args.space.now).content c.args.command.now (command.SetAttr c.in-SetAttr.path c.in-SetAttr.name c.in-SetAttr.value) c.in-SetAttr.is refl waits)

pub returns-in_ok-weigh_delattr-in-DelAttr-clause-cuts : goal.returns-in_ok-weigh_delattr-in-DelAttr-clause-cuts
returns-in_ok-weigh_delattr-in-DelAttr-clause-cuts g c tells waits = absurd (never_waits (g.P.SectorView.space c.args.space.now).content c.args.command.now (command.DelAttr c.in-DelAttr.path c.in-DelAttr.name) c.in-DelAttr.is refl waits)

pub returns-in_ok-weigh_mkdir-in-Mkdir-clause-cuts : goal.returns-in_ok-weigh_mkdir-in-Mkdir-clause-cuts
returns-in_ok-weigh_mkdir-in-Mkdir-clause-cuts g c tells waits = absurd (never_waits (g.P.SectorView.space c.args.space.now).content c.args.command.now (command.Mkdir c.in-Mkdir.path) c.in-Mkdir.is refl waits)

pub returns-in_ok-weigh_create-in-Create-clause-cuts : goal.returns-in_ok-weigh_create-in-Create-clause-cuts
returns-in_ok-weigh_create-in-Create-clause-cuts g c tells waits = absurd (never_waits (g.P.SectorView.space c.args.space.now).content c.args.command.now (command.Create c.in-Create.path) c.in-Create.is refl waits)

pub returns-in_ok-weigh_rmdir-in-Rmdir-clause-cuts : goal.returns-in_ok-weigh_rmdir-in-Rmdir-clause-cuts
returns-in_ok-weigh_rmdir-in-Rmdir-clause-cuts g c tells waits = absurd (never_waits (g.P.SectorView.space c.args.space.now).content c.args.command.now (command.Rmdir c.in-Rmdir.path) c.in-Rmdir.is refl waits)

pub returns-in_ok-weigh_mv-in-Mv-clause-cuts : goal.returns-in_ok-weigh_mv-in-Mv-clause-cuts
returns-in_ok-weigh_mv-in-Mv-clause-cuts g c tells waits = absurd (never_waits (g.P.SectorView.space c.args.space.now).content c.args.command.now (command.Mv c.in-Mv.from c.in-Mv.to) c.in-Mv.is refl waits)

pub returns-in_ok-weigh_rm-in-Rm-clause-cuts : goal.returns-in_ok-weigh_rm-in-Rm-clause-cuts
returns-in_ok-weigh_rm-in-Rm-clause-cuts g c tells waits = absurd (never_waits (g.P.SectorView.space c.args.space.now).content c.args.command.now (command.Rm c.in-Rm.path) c.in-Rm.is refl waits)

pub returns-in_ok-weigh_ln-in-Ln-clause-cuts : goal.returns-in_ok-weigh_ln-in-Ln-clause-cuts
returns-in_ok-weigh_ln-in-Ln-clause-cuts g c tells waits = absurd (never_waits (g.P.SectorView.space c.args.space.now).content c.args.command.now (command.Ln c.in-Ln.from c.in-Ln.to) c.in-Ln.is refl waits)

pub returns-in-At-clause-looked : goal.returns-in-At-clause-looked
returns-in-At-clause-looked g c = looked_none g.met.P.SectorView.follows_refl c.requires.serves.stands

pub returns-in-Read-clause-looked : goal.returns-in-Read-clause-looked
returns-in-Read-clause-looked g c = looked_none g.met.P.SectorView.follows_refl c.requires.serves.stands

pub returns-in-Read-2-clause-looked : goal.returns-in-Read-2-clause-looked
returns-in-Read-2-clause-looked g c = looked_none g.met.P.SectorView.follows_refl c.requires.serves.stands

pub returns-in-Read-3-clause-looked : goal.returns-in-Read-3-clause-looked
returns-in-Read-3-clause-looked g c = looked_none g.met.P.SectorView.follows_refl c.requires.serves.stands

pub returns-in-Read-4-clause-looked : goal.returns-in-Read-4-clause-looked
returns-in-Read-4-clause-looked g c = looked_none g.met.P.SectorView.follows_refl c.requires.serves.stands

pub returns-in-Read-5-clause-looked : goal.returns-in-Read-5-clause-looked
returns-in-Read-5-clause-looked g c = looked_none g.met.P.SectorView.follows_refl c.requires.serves.stands

pub returns-in-Read-6-clause-looked : goal.returns-in-Read-6-clause-looked
returns-in-Read-6-clause-looked g c = looked_none g.met.P.SectorView.follows_refl c.requires.serves.stands

pub returns-in-Read-7-clause-looked : goal.returns-in-Read-7-clause-looked
returns-in-Read-7-clause-looked g c = looked_none g.met.P.SectorView.follows_refl c.requires.serves.stands
