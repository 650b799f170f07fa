use Rattle.std.proofs.Common.{◌≡◌, ℕ, List, length, inl, refl, sym, ◌∙◌, ap, subst, arith}
use Rattle.std.specs.Prelude.{IfOk, OnOk, Ok}
use Rattle.hfs_language.specs.Written.{FitsPath}
use Rattle.hfs_language.specs.declared.command.Command.TheVariants as command
use Rattle.hfs_language.specs.declared.reply.Reply.{Reply}
use Rattle.hfs_language.specs.declared.reply.Reply.TheVariants as reply
use Rattle.hfs_model.specs.Step.{is_private_path, step_line}
use Rattle.hfs_volume.specs.TreeOf.{tree_of}
use Rattle.volume_base.proofs.Lost.{private_line, root_line}
use Rattle.volume_names.specs.Losing.{HasLost}
use Rattle.volume_names.specs.LinkLoads.{PutsItsLoad}
use Rattle.volume_base.proofs.Framed.{edits_none}
use Rattle.volume_names.specs.LossLoads.{LeavesOthers, NoneOr, SpendsFor, loss_edits}
use Rattle.volume_names.proofs.losing.rm.Goals as goal

pub rm_under-requires-clause-fits : goal.rm_under-requires-clause-fits
rm_under-requires-clause-fits g c = subst FitsPath (sym (sym c.in-Some.ensures.cases.0 ∙ c.as_slice.ensures)) c.requires.fits

pub rm_under-requires-clause-not_own : goal.rm_under-requires-clause-not_own
rm_under-requires-clause-not_own g c = ap is_private_path (sym c.in-Some.ensures.cases.0 ∙ c.as_slice.ensures) ∙ sym c.is_private_path.ensures ∙ c.if-is_private_path.false

pub returns-in-Some-clause-reply : goal.returns-in-Some-clause-reply
returns-in-Some-clause-reply g c tells =
    subst (λ (p : List (List ℕ)). IfOk c.rm_under.result (λ (reply : Reply). reply ≡ (step_line (tree_of (g.P.SectorView.space c.args.space.now).content) (Ok (command.Rm p))).0)) (sym c.in-Some.ensures.cases.0 ∙ c.as_slice.ensures) (c.rm_under.ensures.reply tells)

pub returns-in-Some-clause-tree : goal.returns-in-Some-clause-tree
returns-in-Some-clause-tree g c tells =
    subst (λ (p : List (List ℕ)). OnOk c.rm_under.result (tree_of (g.P.SectorView.space c.rm_under.new.space).content ≡ (step_line (tree_of (g.P.SectorView.space c.args.space.now).content) (Ok (command.Rm p))).1)) (sym c.in-Some.ensures.cases.0 ∙ c.as_slice.ensures) (c.rm_under.ensures.tree tells)

pub returns-in-None-clause-reply : goal.returns-in-None-clause-reply
returns-in-None-clause-reply g c tells = (root_line (tree_of (g.P.SectorView.space c.args.space.now).content) c.args.path.now (ap (λ (p : List (List ℕ)). length p) (sym c.as_slice.ensures) ∙ c.in-None.ensures.cases)).0

pub returns-in-None-clause-tree : goal.returns-in-None-clause-tree
returns-in-None-clause-tree g c tells = (root_line (tree_of (g.P.SectorView.space c.args.space.now).content) c.args.path.now (ap (λ (p : List (List ℕ)). length p) (sym c.as_slice.ensures) ∙ c.in-None.ensures.cases)).1

pub returns-in-None-clause-refused : goal.returns-in-None-clause-refused
returns-in-None-clause-refused g c tells is = refl

pub returns-in-None-clause-edits : goal.returns-in-None-clause-edits
returns-in-None-clause-edits g c = edits_none _ g.met.P.SectorView.follows_refl c.requires.serves.stands

pub returns-then-is_private_path-clause-reply : goal.returns-then-is_private_path-clause-reply
returns-then-is_private_path-clause-reply g c tells = (private_line (tree_of (g.P.SectorView.space c.args.space.now).content) c.args.path.now (sym c.is_private_path.ensures ∙ c.if-is_private_path.true)).0

pub returns-then-is_private_path-clause-tree : goal.returns-then-is_private_path-clause-tree
returns-then-is_private_path-clause-tree g c tells = (private_line (tree_of (g.P.SectorView.space c.args.space.now).content) c.args.path.now (sym c.is_private_path.ensures ∙ c.if-is_private_path.true)).1

pub returns-then-is_private_path-clause-refused : goal.returns-then-is_private_path-clause-refused
returns-then-is_private_path-clause-refused g c tells is = refl

pub returns-then-is_private_path-clause-edits : goal.returns-then-is_private_path-clause-edits
returns-then-is_private_path-clause-edits g c = edits_none _ g.met.P.SectorView.follows_refl c.requires.serves.stands

pub returns-in-Some-clause-lists : goal.returns-in-Some-clause-lists
returns-in-Some-clause-lists g c tells =
    subst (λ (p : List (List ℕ)). IfOk c.rm_under.result (λ (said : Reply). said ≡ reply.Ok → HasLost p (g.P.SectorView.space c.args.space.now).content (g.P.SectorView.space c.rm_under.new.space).content))
    (sym c.in-Some.ensures.cases.0 ∙ c.as_slice.ensures) (c.rm_under.ensures.lists tells)

pub returns-in-None-clause-lists : goal.returns-in-None-clause-lists
returns-in-None-clause-lists g c tells is = absurd (cc is)

pub returns-then-is_private_path-clause-lists : goal.returns-then-is_private_path-clause-lists
returns-then-is_private_path-clause-lists g c tells is = absurd (cc is)

pub rm_under-requires-clause-split : goal.rm_under-requires-clause-split
rm_under-requires-clause-split g c = sym c.as_slice.ensures ∙ c.in-Some.ensures.cases.0

pub returns-in-Some-clause-loads : goal.returns-in-Some-clause-loads
returns-in-Some-clause-loads g c tells =
    subst (λ (p : List (List ℕ)). PutsItsLoad (command.Rm p) c.args.volume.now (g.P.SectorView.space c.args.space.now) (g.P.SectorView.space c.rm_under.new.space)) (sym c.in-Some.ensures.cases.0 ∙ c.as_slice.ensures) (c.rm_under.ensures.loads tells)

pub returns-in-None-clause-loads : goal.returns-in-None-clause-loads
returns-in-None-clause-loads g c tells n grow is = omega arith

pub returns-then-is_private_path-clause-loads : goal.returns-then-is_private_path-clause-loads
returns-then-is_private_path-clause-loads g c tells n grow is = omega arith

pub returns-in-Some-clause-spends : goal.returns-in-Some-clause-spends
returns-in-Some-clause-spends g c tells =
    let old = g.P.SectorView.space c.args.space.now in
    let new = g.P.SectorView.space c.rm_under.new.space in
    subst (λ (p : List (List ℕ)). NoneOr (SpendsFor (loss_edits (tree_of old.content) p) c.args.volume.now old new) old new) (sym c.in-Some.ensures.cases.0 ∙ c.as_slice.ensures) (c.rm_under.ensures.spends tells)

pub returns-in-None-clause-spends : goal.returns-in-None-clause-spends
returns-in-None-clause-spends g c tells = inl (omega arith)

pub returns-then-is_private_path-clause-spends : goal.returns-then-is_private_path-clause-spends
returns-then-is_private_path-clause-spends g c tells = inl (omega arith)

pub returns-in-Some-clause-leaves : goal.returns-in-Some-clause-leaves
returns-in-Some-clause-leaves g c tells =
    let old = g.P.SectorView.space c.args.space.now in
    let new = g.P.SectorView.space c.rm_under.new.space in
    subst (λ (p : List (List ℕ)). IfOk c.rm_under.result (λ (said : Reply). said ≡ reply.Ok → LeavesOthers (loss_edits (tree_of old.content) p) c.args.volume.now old c.rm_under.new.volume new)) (sym c.in-Some.ensures.cases.0 ∙ c.as_slice.ensures) (c.rm_under.ensures.leaves tells)

pub returns-in-None-clause-leaves : goal.returns-in-None-clause-leaves
returns-in-None-clause-leaves g c tells is = absurd (cc is)

pub returns-then-is_private_path-clause-leaves : goal.returns-then-is_private_path-clause-leaves
returns-then-is_private_path-clause-leaves g c tells is = absurd (cc is)
