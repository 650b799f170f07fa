use Rattle.std.proofs.Common.{◌≡◌, false, ℕ, List, sym, ◌∙◌, subst}
use Rattle.std.specs.Prelude.{IfOk, OnOk, Ok}
use Rattle.hfs_language.specs.Written.{FitsPath}
use Rattle.hfs_language.specs.declared.reply.Change.{Change}
use Rattle.hfs_model.specs.Step.{refuses, step_line, to_make}
use Rattle.hfs_volume.specs.TreeOf.{tree_of}
use Rattle.volume_runs.specs.Told.{of_made}
use Rattle.volume_base.specs.Lists.{lists_of}
use Rattle.volume_base.specs.Making.{making}
use Rattle.volume_names.specs.Making.{HasNew, Makes}
use Rattle.volume_base.proofs.Joined.{edits_wanting}
use Rattle.volume_names.proofs.making.make.Goals as goal

pub make_under-requires-clause-fits : goal.make_under-requires-clause-fits
make_under-requires-clause-fits g c = subst FitsPath (sym (sym c.in-Some.ensures.cases.0 ∙ c.as_slice.ensures)) c.requires.fits

pub make_under-requires-clause-fine : goal.make_under-requires-clause-fine
make_under-requires-clause-fine g c tells = subst (λ (p : List (List ℕ)). refuses (tree_of (g.P.SectorView.space c.args.space.now).content) (Ok (making c.args.folder p)) ≡ false) (sym (sym c.in-Some.ensures.cases.0 ∙ c.as_slice.ensures)) (c.requires.fine tells)

pub returns-in-Some-clause-told : goal.returns-in-Some-clause-told
returns-in-Some-clause-told g c tells =
    subst (λ (p : List (List ℕ)). IfOk c.make_under.result (λ (changes : List Change). changes ≡ of_made c.args.line (tree_of (g.P.SectorView.space c.args.space.now).content) (to_make (tree_of (g.P.SectorView.space c.args.space.now).content) p))) (sym c.in-Some.ensures.cases.0 ∙ c.as_slice.ensures) (c.make_under.ensures.told tells)

pub returns-in-Some-clause-tree : goal.returns-in-Some-clause-tree
returns-in-Some-clause-tree g c tells =
    subst (λ (p : List (List ℕ)). OnOk c.make_under.result (tree_of (g.P.SectorView.space c.make_under.new.space).content ≡ (step_line (tree_of (g.P.SectorView.space c.args.space.now).content) (Ok (making c.args.folder p))).1)) (sym c.in-Some.ensures.cases.0 ∙ c.as_slice.ensures) (c.make_under.ensures.tree tells)

pub returns-in-Some-clause-lists : goal.returns-in-Some-clause-lists
returns-in-Some-clause-lists g c tells =
    subst (λ (p : List (List ℕ)). OnOk c.make_under.result (Makes c.args.folder p (g.P.SectorView.space c.args.space.now).content (g.P.SectorView.space c.make_under.new.space).content)) (sym c.in-Some.ensures.cases.0 ∙ c.as_slice.ensures) (c.make_under.ensures.lists tells)

pub returns-in-Some-clause-entry : goal.returns-in-Some-clause-entry
returns-in-Some-clause-entry g c tells =
    subst (λ (p : List (List ℕ)). OnOk c.make_under.result (HasNew c.args.folder p c.args.volume.now.header (lists_of c.make_under.new.volume (g.P.SectorView.space c.make_under.new.space).content).catalog_pairs))
    (sym c.in-Some.ensures.cases.0 ∙ c.as_slice.ensures) (c.make_under.ensures.entry tells)

pub returns-in-None-clause-edits : goal.returns-in-None-clause-edits
returns-in-None-clause-edits g c = edits_wanting _ g.met.P.SectorView.follows_refl c.requires.serves.stands
