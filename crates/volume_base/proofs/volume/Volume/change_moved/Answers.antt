use Rattle.std.proofs.Common.{ℕ, List, length, sym, ◌∙◌, ap}
use Rattle.hfs_model.specs.Step.{is_root}
use Rattle.hfs_volume.specs.TreeOf.{tree_of}
use Rattle.volume_base.proofs.Noticed.{either_root, moved_some}
use Rattle.volume_base.proofs.Routed.{root_of}
use Rattle.volume_base.proofs.Touched.{or_true}
use Rattle.volume_base.proofs.Looked.{looked_none}
use Rattle.volume_base.proofs.volume.Volume.change_moved.Goals as goal

pub change_way-requires-clause-split : goal.change_way-requires-clause-split
change_way-requires-clause-split g c = sym c.as_slice.ensures ∙ c.in-Some.ensures.cases.0

pub change_way-requires-clause-goal_split : goal.change_way-requires-clause-goal_split
change_way-requires-clause-goal_split g c = sym c.as_slice-in-Some.ensures ∙ c.in-Some-split_last.ensures.cases.0

pub returns-in-None-split_last-clause-told : goal.returns-in-None-split_last-clause-told
returns-in-None-split_last-clause-told g c tells not_own goal_not_own pair is =
    absurd (moved_some (tree_of (g.P.SectorView.space c.args.space.now).content) c.args.from.now c.args.to.now pair
    (or_true (is_root c.args.from.now) (is_root c.args.to.now) (root_of c.args.to.now (ap (λ (p : List (List ℕ)). length p) (sym c.as_slice-in-Some.ensures) ∙ c.in-None-split_last.ensures.cases))) is)

pub returns-in-None-clause-told : goal.returns-in-None-clause-told
returns-in-None-clause-told g c tells not_own goal_not_own pair is =
    absurd (moved_some (tree_of (g.P.SectorView.space c.args.space.now).content) c.args.from.now c.args.to.now pair
    (either_root (is_root c.args.from.now) (is_root c.args.to.now) (root_of c.args.from.now (ap (λ (p : List (List ℕ)). length p) (sym c.as_slice.ensures) ∙ c.in-None.ensures.cases))) is)

pub returns-in-None-split_last-clause-looked : goal.returns-in-None-split_last-clause-looked
returns-in-None-split_last-clause-looked g c = looked_none g.met.P.SectorView.follows_refl c.requires.serves.stands

pub returns-in-None-clause-looked : goal.returns-in-None-clause-looked
returns-in-None-clause-looked g c = looked_none g.met.P.SectorView.follows_refl c.requires.serves.stands
