use Rattle.std.proofs.Common.{ℕ, List, [], ◌∷◌, length, sym, ◌∙◌, ap}
use Rattle.hfs_model.specs.declared.plain.PlainEntry.{PlainEntry}
use Rattle.hfs_volume.specs.TreeOf.{tree_of}
use Rattle.volume_base.specs.Watching.{change_of}
use Rattle.volume_base.proofs.Watched.{root_is}
use Rattle.volume_base.proofs.Looked.{looked_none, looked_fault, looked_wanting}
use Rattle.volume_base.proofs.volume.Volume.change_at.Goals as goal

pub change_under-requires-clause-split : goal.change_under-requires-clause-split
change_under-requires-clause-split g c = sym c.as_slice.ensures ∙ c.in-Some.ensures.cases.0

pub returns-in_ok-one_change-in-None-clause-told : goal.returns-in_ok-one_change-in-None-clause-told
returns-in_ok-one_change-in-None-clause-told g c tells not_own entry is =
    c.in_ok-one_change-in-None.ensures ∙ ap (λ (n : List ℕ). change_of c.args.line c.args.kind 2 1 n ∷ []) c.new.ensures
    ∙ ap (λ (e : PlainEntry). change_of c.args.line c.args.kind e.id e.parent e.name ∷ [])
    (root_is (tree_of (g.P.SectorView.space c.args.space.now).content) c.args.path.now entry (ap (λ (p : List (List ℕ)). length p) (sym c.as_slice.ensures) ∙ c.in-None.ensures.cases) is)

pub returns-in_ok-one_change-in-None-clause-looked : goal.returns-in_ok-one_change-in-None-clause-looked
returns-in_ok-one_change-in-None-clause-looked g c = looked_none g.met.P.SectorView.follows_refl c.requires.serves.stands

pub returns-in_err-one_change-in-None-clause-looked : goal.returns-in_err-one_change-in-None-clause-looked
returns-in_err-one_change-in-None-clause-looked g c = looked_fault c.from_residual.ensures.1 (looked_wanting {T = ℕ} g.met.P.SectorView.follows_refl c.requires.serves.stands)
