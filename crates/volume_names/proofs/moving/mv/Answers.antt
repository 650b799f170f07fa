use Rattle.std.proofs.Common.{ℕ, List, length, sym, ◌∙◌, ap}
use Rattle.hfs_model.specs.Step.{is_root}
use Rattle.hfs_volume.specs.TreeOf.{tree_of}
use Rattle.volume_base.proofs.Routed.{mv_root_line, root_of}
use Rattle.volume_base.proofs.Touched.{or_true}
use Rattle.volume_base.proofs.Framed.{edits_none}
use Rattle.volume_names.proofs.moving.mv.Goals as goal

pub returns-in-Some-split_last-clause-loads : goal.returns-in-Some-split_last-clause-loads
returns-in-Some-split_last-clause-loads g c = c.mv_under.ensures.loads

pub returns-in-None-split_last-clause-reply : goal.returns-in-None-split_last-clause-reply
returns-in-None-split_last-clause-reply g c tells =
    (mv_root_line (tree_of (g.P.SectorView.space c.args.space.now).content) c.args.from.now c.args.to.now (sym c.is_private_path.ensures ∙ c.if-is_private_path.false) (sym c.is_private_path-2.ensures ∙ c.if-is_private_path-2.false) (or_true (is_root c.args.from.now) (is_root c.args.to.now) (root_of c.args.to.now (ap (λ (p : List (List ℕ)). length p) (sym c.as_slice-in-Some.ensures) ∙ c.in-None-split_last.ensures.cases)))).0

pub returns-in-None-split_last-clause-tree : goal.returns-in-None-split_last-clause-tree
returns-in-None-split_last-clause-tree g c tells =
    (mv_root_line (tree_of (g.P.SectorView.space c.args.space.now).content) c.args.from.now c.args.to.now (sym c.is_private_path.ensures ∙ c.if-is_private_path.false) (sym c.is_private_path-2.ensures ∙ c.if-is_private_path-2.false) (or_true (is_root c.args.from.now) (is_root c.args.to.now) (root_of c.args.to.now (ap (λ (p : List (List ℕ)). length p) (sym c.as_slice-in-Some.ensures) ∙ c.in-None-split_last.ensures.cases)))).1

pub returns-then-is_private_path-clause-edits : goal.returns-then-is_private_path-clause-edits
returns-then-is_private_path-clause-edits g c = edits_none _ g.met.P.SectorView.follows_refl c.requires.serves.stands

pub returns-then-is_private_path-2-clause-edits : goal.returns-then-is_private_path-2-clause-edits
returns-then-is_private_path-2-clause-edits g c = edits_none _ g.met.P.SectorView.follows_refl c.requires.serves.stands

pub returns-in-None-clause-edits : goal.returns-in-None-clause-edits
returns-in-None-clause-edits g c = edits_none _ g.met.P.SectorView.follows_refl c.requires.serves.stands

pub returns-in-None-split_last-clause-edits : goal.returns-in-None-split_last-clause-edits
returns-in-None-split_last-clause-edits g c = edits_none _ g.met.P.SectorView.follows_refl c.requires.serves.stands
