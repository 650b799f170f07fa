use Rattle.std.proofs.Common.{ℕ, List, length, false, sym, ◌∙◌, ap}
use Rattle.std.specs.Prelude.{◌||◌}
use Rattle.hfs_model.specs.Step.{is_private_path, is_root}
use Rattle.hfs_volume.specs.Content.{volume_of}
use Rattle.hfs_volume.specs.TreeOf.{tree_of}
use Rattle.volume_base.specs.Room.{free_in}
use Rattle.volume_base.specs.declared.room.FreeBlocks.TheVariants as blocks
use Rattle.volume_weights.proofs.MoveWeight.{move_private, move_root}
use Rattle.volume_base.proofs.Routed.{root_of}
use Rattle.volume_base.proofs.Touched.{or_true}
use Rattle.volume_base.proofs.Looked.{looked_none}
use Rattle.volume_weights.proofs.move_weight.weigh_mv.Goals as goal

pub returns-in-None-split_last-clause-answer : goal.returns-in-None-split_last-clause-answer
returns-in-None-split_last-clause-answer g c tells =
    move_root c.args.volume.now.capacity (free_in blocks.Takable c.args.volume.now.map) (volume_of (g.P.SectorView.space c.args.space.now).content) (tree_of (g.P.SectorView.space c.args.space.now).content) c.args.from.now c.args.to.now (sym c.is_private_path.ensures ∙ c.if-is_private_path.false) (sym c.is_private_path-2.ensures ∙ c.if-is_private_path-2.false) (or_true (is_root c.args.from.now) (is_root c.args.to.now) (root_of c.args.to.now (ap (λ (p : List (List ℕ)). length p) (sym c.as_slice-in-Some.ensures) ∙ c.in-None-split_last.ensures.cases)))

pub returns-in-None-clause-answer : goal.returns-in-None-clause-answer
returns-in-None-clause-answer g c tells =
    move_root c.args.volume.now.capacity (free_in blocks.Takable c.args.volume.now.map) (volume_of (g.P.SectorView.space c.args.space.now).content) (tree_of (g.P.SectorView.space c.args.space.now).content) c.args.from.now c.args.to.now (sym c.is_private_path.ensures ∙ c.if-is_private_path.false) (sym c.is_private_path-2.ensures ∙ c.if-is_private_path-2.false) (ap (λ b. b || is_root c.args.to.now) (root_of c.args.from.now (ap (λ (p : List (List ℕ)). length p) (sym c.as_slice.ensures) ∙ c.in-None.ensures.cases)))

pub returns-then-is_private_path-clause-answer : goal.returns-then-is_private_path-clause-answer
returns-then-is_private_path-clause-answer g c tells = move_private c.args.volume.now.capacity (free_in blocks.Takable c.args.volume.now.map) (volume_of (g.P.SectorView.space c.args.space.now).content) (tree_of (g.P.SectorView.space c.args.space.now).content) c.args.from.now c.args.to.now (ap (λ b. b || (is_private_path c.args.to.now || false)) (sym c.is_private_path.ensures ∙ c.if-is_private_path.true))

pub returns-then-is_private_path-2-clause-answer : goal.returns-then-is_private_path-2-clause-answer
returns-then-is_private_path-2-clause-answer g c tells = move_private c.args.volume.now.capacity (free_in blocks.Takable c.args.volume.now.map) (volume_of (g.P.SectorView.space c.args.space.now).content) (tree_of (g.P.SectorView.space c.args.space.now).content) c.args.from.now c.args.to.now (or_true (is_private_path c.args.from.now) (is_private_path c.args.to.now || false) (ap (λ b. b || false) (sym c.is_private_path-2.ensures ∙ c.if-is_private_path-2.true)))

pub returns-in-None-clause-looked : goal.returns-in-None-clause-looked
returns-in-None-clause-looked g c = looked_none g.met.P.SectorView.follows_refl c.requires.serves.stands

pub returns-in-None-split_last-clause-looked : goal.returns-in-None-split_last-clause-looked
returns-in-None-split_last-clause-looked g c = looked_none g.met.P.SectorView.follows_refl c.requires.serves.stands

pub returns-then-is_private_path-clause-looked : goal.returns-then-is_private_path-clause-looked
returns-then-is_private_path-clause-looked g c = looked_none g.met.P.SectorView.follows_refl c.requires.serves.stands

pub returns-then-is_private_path-2-clause-looked : goal.returns-then-is_private_path-2-clause-looked
returns-then-is_private_path-2-clause-looked g c = looked_none g.met.P.SectorView.follows_refl c.requires.serves.stands
