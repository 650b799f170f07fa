use Rattle.std.proofs.Common.{◌≡◌, ◌≤◌, ◌+◌, ℕ, List, length, refl, sym, ◌∙◌, ap, subst}
use Rattle.std.specs.Prelude.{IfOk, OnOk, Ok}
use Rattle.hfs_language.specs.Written.{FitsPath}
use Rattle.hfs_language.specs.declared.command.Command.TheVariants as command
use Rattle.hfs_language.specs.declared.reply.Reply.{Reply}
use Rattle.hfs_language.specs.declared.reply.Reply.TheVariants as reply
use Rattle.hfs_model.specs.Step.{is_private_path, step_line}
use Rattle.hfs_volume.specs.Content.{volume_of}
use Rattle.hfs_volume.specs.TreeOf.{tree_of}
use Rattle.hfs_volume.specs.Weight.{weight}
use Rattle.hfs_volume.specs.declared.cost.Cost.TheVariants as cost
use Rattle.volume_base.proofs.LeavingFound.{private_line, root_line}
use Rattle.volume_names.specs.Removing.{HasRemoved}
use Rattle.volume_base.proofs.Freed.{frees_none}
use Rattle.volume_names.proofs.removing.rmdir.Goals as goal

pub rmdir_under-requires-clause-fits : goal.rmdir_under-requires-clause-fits
rmdir_under-requires-clause-fits g c = subst FitsPath (sym (sym c.in-Some.ensures.cases.0 ∙ c.as_slice.ensures)) c.requires.fits

pub rmdir_under-requires-clause-not_own : goal.rmdir_under-requires-clause-not_own
rmdir_under-requires-clause-not_own g c = ap is_private_path (sym c.in-Some.ensures.cases.0 ∙ c.as_slice.ensures) ∙ sym c.is_private_path.ensures ∙ c.if-is_private_path.false

pub returns-in-Some-clause-reply : goal.returns-in-Some-clause-reply
returns-in-Some-clause-reply g c tells =
    subst (λ (p : List (List ℕ)). IfOk c.rmdir_under.result (λ (reply : Reply). reply ≡ (step_line (tree_of (g.P.SectorView.space c.args.space.now).content) (Ok (command.Rmdir p))).0)) (sym c.in-Some.ensures.cases.0 ∙ c.as_slice.ensures) (c.rmdir_under.ensures.reply tells)

pub returns-in-Some-clause-tree : goal.returns-in-Some-clause-tree
returns-in-Some-clause-tree g c tells =
    subst (λ (p : List (List ℕ)). OnOk c.rmdir_under.result (tree_of (g.P.SectorView.space c.rmdir_under.new.space).content ≡ (step_line (tree_of (g.P.SectorView.space c.args.space.now).content) (Ok (command.Rmdir p))).1)) (sym c.in-Some.ensures.cases.0 ∙ c.as_slice.ensures) (c.rmdir_under.ensures.tree tells)

pub returns-in-None-clause-reply : goal.returns-in-None-clause-reply
returns-in-None-clause-reply g c tells = (root_line (tree_of (g.P.SectorView.space c.args.space.now).content) c.args.path.now (ap (λ (p : List (List ℕ)). length p) (sym c.as_slice.ensures) ∙ c.in-None.ensures.cases)).0

pub returns-in-None-clause-tree : goal.returns-in-None-clause-tree
returns-in-None-clause-tree g c tells = (root_line (tree_of (g.P.SectorView.space c.args.space.now).content) c.args.path.now (ap (λ (p : List (List ℕ)). length p) (sym c.as_slice.ensures) ∙ c.in-None.ensures.cases)).1

pub returns-in-None-clause-refused : goal.returns-in-None-clause-refused
returns-in-None-clause-refused g c tells is = refl

pub returns-in-None-clause-frees : goal.returns-in-None-clause-frees
returns-in-None-clause-frees g c = frees_none g.met.P.SectorView.follows_refl c.requires.serves.stands

pub returns-then-is_private_path-clause-reply : goal.returns-then-is_private_path-clause-reply
returns-then-is_private_path-clause-reply g c tells = (private_line (tree_of (g.P.SectorView.space c.args.space.now).content) c.args.path.now (sym c.is_private_path.ensures ∙ c.if-is_private_path.true)).0

pub returns-then-is_private_path-clause-tree : goal.returns-then-is_private_path-clause-tree
returns-then-is_private_path-clause-tree g c tells = (private_line (tree_of (g.P.SectorView.space c.args.space.now).content) c.args.path.now (sym c.is_private_path.ensures ∙ c.if-is_private_path.true)).1

pub returns-then-is_private_path-clause-refused : goal.returns-then-is_private_path-clause-refused
returns-then-is_private_path-clause-refused g c tells is = refl

pub returns-then-is_private_path-clause-frees : goal.returns-then-is_private_path-clause-frees
returns-then-is_private_path-clause-frees g c = frees_none g.met.P.SectorView.follows_refl c.requires.serves.stands

pub returns-in-Some-clause-loads : goal.returns-in-Some-clause-loads
returns-in-Some-clause-loads g c tells n grow =
    subst (λ (p : List (List ℕ)). weight c.args.volume.now.capacity (volume_of (g.P.SectorView.space c.args.space.now).content) (tree_of (g.P.SectorView.space c.args.space.now).content) (command.Rmdir p) ≡ cost.Load n grow
    → (g.P.SectorView.space c.args.space.now).spare ≤ (g.P.SectorView.space c.rmdir_under.new.space).spare + n) (sym c.in-Some.ensures.cases.0 ∙ c.as_slice.ensures) (c.rmdir_under.ensures.loads tells n grow)

pub returns-in-Some-clause-lists : goal.returns-in-Some-clause-lists
returns-in-Some-clause-lists g c tells =
    subst (λ (p : List (List ℕ)). IfOk c.rmdir_under.result (λ (said : Reply). said ≡ reply.Ok → HasRemoved p (g.P.SectorView.space c.args.space.now).content (g.P.SectorView.space c.rmdir_under.new.space).content))
    (sym c.in-Some.ensures.cases.0 ∙ c.as_slice.ensures) (c.rmdir_under.ensures.lists tells)

pub returns-in-None-clause-lists : goal.returns-in-None-clause-lists
returns-in-None-clause-lists g c tells is = absurd (cc is)

pub returns-then-is_private_path-clause-lists : goal.returns-then-is_private_path-clause-lists
returns-then-is_private_path-clause-lists g c tells is = absurd (cc is)
