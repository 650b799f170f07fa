use Rattle.std.proofs.Common.{◌≡◌, ℕ, List, length, sym, ◌∙◌, ap, subst}
use Rattle.std.specs.Prelude.{IfOk}
use Rattle.hfs_language.specs.Written.{FitsPath}
use Rattle.hfs_language.specs.declared.refusal.Refusal.TheVariants as refusal
use Rattle.hfs_model.specs.Step.{is_private_path}
use Rattle.hfs_model.specs.declared.kinds.KindEdit.TheVariants as edit
use Rattle.hfs_volume.specs.Content.{volume_of}
use Rattle.hfs_volume.specs.TreeOf.{tree_of}
use Rattle.volume_base.specs.Room.{capacity_of, free_in}
use Rattle.volume_base.specs.declared.room.FreeBlocks.TheVariants as blocks
use Rattle.volume_base.specs.declared.weighing.Weight.{Weight}
use Rattle.volume_base.proofs.Looked.{looked_none}
use Rattle.volume_links.specs.Steps.{kind_weighed}
use Rattle.volume_links.proofs.Symlinked.{link_private, link_root, link_why}
use Rattle.volume_links.proofs.judging.weigh_symlink.Goals as goal

pub weigh_link-requires-clause-fits : goal.weigh_link-requires-clause-fits
weigh_link-requires-clause-fits g c = subst FitsPath (sym (sym c.in-Some.ensures.cases.0 ∙ c.as_slice.ensures)) c.requires.fits

pub weigh_link-requires-clause-not_own : goal.weigh_link-requires-clause-not_own
weigh_link-requires-clause-not_own g c = ap is_private_path (sym c.in-Some.ensures.cases.0 ∙ c.as_slice.ensures) ∙ sym c.is_private_path.ensures ∙ c.if-is_private_path.false

pub returns-in-Some-clause-answer : goal.returns-in-Some-clause-answer
returns-in-Some-clause-answer g c tells =
    subst (λ (p : List (List ℕ)). IfOk c.weigh_link.result (λ (weighs : Weight). weighs ≡ kind_weighed (capacity_of c.args.volume.now) (free_in blocks.Takable c.args.volume.now.map) (volume_of (g.P.SectorView.space c.args.space.now).content) (tree_of (g.P.SectorView.space c.args.space.now).content) (edit.Symlink p c.args.value.now)))
    (sym c.in-Some.ensures.cases.0 ∙ c.as_slice.ensures) (c.weigh_link.ensures.answer tells)

pub returns-in-None-clause-answer : goal.returns-in-None-clause-answer
returns-in-None-clause-answer g c tells =
    let content = (g.P.SectorView.space c.args.space.now).content in
    link_why (tree_of content) c.args.path.now c.args.value.now (capacity_of c.args.volume.now) (free_in blocks.Takable c.args.volume.now.map) (volume_of content) refusal.Root
    (link_root (tree_of content) c.args.path.now c.args.value.now (ap (λ (p : List (List ℕ)). length p) (sym c.as_slice.ensures) ∙ c.in-None.ensures.cases))

pub returns-then-is_private_path-clause-answer : goal.returns-then-is_private_path-clause-answer
returns-then-is_private_path-clause-answer g c tells =
    let content = (g.P.SectorView.space c.args.space.now).content in
    link_why (tree_of content) c.args.path.now c.args.value.now (capacity_of c.args.volume.now) (free_in blocks.Takable c.args.volume.now.map) (volume_of content) refusal.Private
    (link_private (tree_of content) c.args.path.now c.args.value.now (sym c.is_private_path.ensures ∙ c.if-is_private_path.true))

pub returns-then-is_private_path-clause-looked : goal.returns-then-is_private_path-clause-looked
returns-then-is_private_path-clause-looked g c = looked_none g.met.P.SectorView.follows_refl c.requires.serves.stands

pub returns-in-None-clause-looked : goal.returns-in-None-clause-looked
returns-in-None-clause-looked g c = looked_none g.met.P.SectorView.follows_refl c.requires.serves.stands
