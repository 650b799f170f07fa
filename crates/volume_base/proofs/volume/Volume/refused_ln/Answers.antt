use Rattle.std.proofs.Common.{ℕ, List, length, sym, ◌∙◌, ap}
use Rattle.hfs_volume.specs.TreeOf.{tree_of}
use Rattle.volume_base.proofs.Refused.{from_own, from_root, to_own, to_root, unrooted}
use Rattle.volume_base.proofs.Looked.{looked_none}
use Rattle.volume_base.proofs.volume.Volume.refused_ln.Goals as goal

pub refused_link-requires-clause-not_own : goal.refused_link-requires-clause-not_own
refused_link-requires-clause-not_own g c = sym c.is_private_path-2.ensures ∙ c.if-is_private_path-2.false

pub refused_link-requires-clause-not_root : goal.refused_link-requires-clause-not_root
refused_link-requires-clause-not_root g c = unrooted c.args.from.now (sym c.is_empty.ensures ∙ c.if-is_empty.false)

pub returns-then-is_private_path-clause-told : goal.returns-then-is_private_path-clause-told
returns-then-is_private_path-clause-told g c tells = from_own (tree_of (g.P.SectorView.space c.args.space.now).content) c.args.from.now c.args.to.now (sym c.is_private_path.ensures ∙ c.if-is_private_path.true)

pub returns-then-is_private_path-2-clause-told : goal.returns-then-is_private_path-2-clause-told
returns-then-is_private_path-2-clause-told g c tells = to_own (tree_of (g.P.SectorView.space c.args.space.now).content) c.args.from.now c.args.to.now (sym c.is_private_path.ensures ∙ c.if-is_private_path.false) (sym c.is_private_path-2.ensures ∙ c.if-is_private_path-2.true)

pub returns-then-is_empty-clause-told : goal.returns-then-is_empty-clause-told
returns-then-is_empty-clause-told g c tells = from_root (tree_of (g.P.SectorView.space c.args.space.now).content) c.args.from.now c.args.to.now (sym c.is_private_path.ensures ∙ c.if-is_private_path.false) (sym c.is_private_path-2.ensures ∙ c.if-is_private_path-2.false) (sym c.is_empty.ensures ∙ c.if-is_empty.true)

pub returns-in-None-clause-told : goal.returns-in-None-clause-told
returns-in-None-clause-told g c tells = to_root (tree_of (g.P.SectorView.space c.args.space.now).content) c.args.from.now c.args.to.now (sym c.is_private_path.ensures ∙ c.if-is_private_path.false) (sym c.is_private_path-2.ensures ∙ c.if-is_private_path-2.false) (sym c.is_empty.ensures ∙ c.if-is_empty.false) (ap (λ (p : List (List ℕ)). length p) (sym c.as_slice.ensures) ∙ c.in-None.ensures.cases)

pub returns-then-is_private_path-clause-looked : goal.returns-then-is_private_path-clause-looked
returns-then-is_private_path-clause-looked g c = looked_none g.met.P.SectorView.follows_refl c.requires.serves.stands

pub returns-then-is_private_path-2-clause-looked : goal.returns-then-is_private_path-2-clause-looked
returns-then-is_private_path-2-clause-looked g c = looked_none g.met.P.SectorView.follows_refl c.requires.serves.stands

pub returns-then-is_empty-clause-looked : goal.returns-then-is_empty-clause-looked
returns-then-is_empty-clause-looked g c = looked_none g.met.P.SectorView.follows_refl c.requires.serves.stands

pub returns-in-None-clause-looked : goal.returns-in-None-clause-looked
returns-in-None-clause-looked g c = looked_none g.met.P.SectorView.follows_refl c.requires.serves.stands
