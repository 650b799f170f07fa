use Rattle.std.proofs.Common.{◌≡◌, ℕ, List, length, sym, ◌∙◌, ap, subst}
use Rattle.std.specs.Prelude.{IfOk}
use Rattle.hfs_language.specs.Written.{FitsPath}
use Rattle.hfs_model.specs.Step.{is_private_path}
use Rattle.hfs_volume.specs.Content.{volume_of}
use Rattle.hfs_volume.specs.TreeOf.{tree_of}
use Rattle.volume_base.specs.Making.{making}
use Rattle.volume_base.specs.Room.{free_in}
use Rattle.volume_base.specs.Weighing.{weighed}
use Rattle.volume_base.specs.declared.room.FreeBlocks.TheVariants as blocks
use Rattle.volume_base.specs.declared.weighing.Weight.{Weight}
use Rattle.volume_weights.proofs.CommandWeights.{make_private, make_root}
use Rattle.volume_base.proofs.Looked.{looked_none}
use Rattle.volume_weights.proofs.weights.weigh_make.Goals as goal

pub weigh_under-requires-clause-fits : goal.weigh_under-requires-clause-fits
weigh_under-requires-clause-fits g c = subst FitsPath (sym (sym c.in-Some.ensures.cases.0 ∙ c.as_slice.ensures)) c.requires.fits

pub weigh_under-requires-clause-not_own : goal.weigh_under-requires-clause-not_own
weigh_under-requires-clause-not_own g c = ap is_private_path (sym c.in-Some.ensures.cases.0 ∙ c.as_slice.ensures) ∙ sym c.is_private_path.ensures ∙ c.if-is_private_path.false

pub returns-in-Some-clause-answer : goal.returns-in-Some-clause-answer
returns-in-Some-clause-answer g c tells folder =
    subst (λ (p : List (List ℕ)). IfOk c.weigh_under.result (λ (weighs : Weight). weighs ≡ weighed c.args.volume.now.capacity (free_in blocks.Takable c.args.volume.now.map) (volume_of (g.P.SectorView.space c.args.space.now).content) (tree_of (g.P.SectorView.space c.args.space.now).content) (making folder p))) (sym c.in-Some.ensures.cases.0 ∙ c.as_slice.ensures) (c.weigh_under.ensures.answer tells folder)

pub returns-in-None-clause-answer : goal.returns-in-None-clause-answer
returns-in-None-clause-answer g c tells folder = make_root c.args.volume.now.capacity (free_in blocks.Takable c.args.volume.now.map) (volume_of (g.P.SectorView.space c.args.space.now).content) (tree_of (g.P.SectorView.space c.args.space.now).content) c.args.path.now folder (ap (λ (p : List (List ℕ)). length p) (sym c.as_slice.ensures) ∙ c.in-None.ensures.cases)

pub returns-then-is_private_path-clause-answer : goal.returns-then-is_private_path-clause-answer
returns-then-is_private_path-clause-answer g c tells folder = make_private c.args.volume.now.capacity (free_in blocks.Takable c.args.volume.now.map) (volume_of (g.P.SectorView.space c.args.space.now).content) (tree_of (g.P.SectorView.space c.args.space.now).content) c.args.path.now folder (sym c.is_private_path.ensures ∙ c.if-is_private_path.true)

pub returns-then-is_private_path-clause-looked : goal.returns-then-is_private_path-clause-looked
returns-then-is_private_path-clause-looked g c = looked_none g.met.P.SectorView.follows_refl c.requires.serves.stands

pub returns-in-None-clause-looked : goal.returns-in-None-clause-looked
returns-in-None-clause-looked g c = looked_none g.met.P.SectorView.follows_refl c.requires.serves.stands
