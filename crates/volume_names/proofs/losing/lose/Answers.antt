use Rattle.volume_names.proofs.LossLoads.{leaves_of_three, none_so}
use Rattle.std.proofs.Common.{◌≡◌, inl, inr, length, sym, ap, subst, arith, ℕ, Bool}
use Rattle.hard_links.specs.declared.place.EntryAt.{EntryAt}
use Rattle.hfs_language.specs.declared.command.Command.TheVariants as command
use Rattle.hfs_model.specs.Step.{step}
use Rattle.hfs_volume.specs.TreeOf.{tree_of}
use Rattle.volume_base.specs.Lists.{lists_of}
use Rattle.volume_names.specs.Losing.{Buries, Loses, LosesName}
use Rattle.volume_base.specs.Losing.{IsLoss, IsOnlyName}
use Rattle.volume_base.specs.Standing.{IsSettled}
use Rattle.volume_names.specs.Unlinking.{LosesLink}
use Rattle.volume_names.proofs.Buried.{loses_there}
use Rattle.volume_base.proofs.FoundEntry.{ok_so}
use Rattle.volume_base.proofs.Replaced.{node_large}
use Rattle.volume_names.proofs.EditsLeft.{left_of_move}
use Rattle.std.specs.Prelude.{Option, is_some}
use Rattle.volume_names.specs.LossLoads.{LeavesLoss, LeavesOthers, LeavesShared, SpendsFor, SpendsLoss, SpendsShared}
use Rattle.volume_base.proofs.Joined.{edits_wanting}
use Rattle.volume_base.proofs.Framed.{edits_err}
use Rattle.volume_names.specs.EditsLeft.{LeavesBehind}
use Rattle.volume_names.proofs.losing.lose.Goals as goal

pub bury-requires-clause-some : goal.bury-requires-clause-some
bury-requires-clause-some g c = omega (arith, c.requires.some, ap (λ (p : EntryAt). length p.name) c.in_ok-place-in-Some.ensures)

pub bury-requires-clause-name : goal.bury-requires-clause-name
bury-requires-clause-name g c = omega (arith, c.requires.name, ap (λ (p : EntryAt). length p.name) c.in_ok-place-in-Some.ensures)

pub bury-requires-clause-only : goal.bury-requires-clause-only
bury-requires-clause-only g c tells = subst (λ (p : EntryAt). IsOnlyName p (lists_of c.args.volume.now (g.P.SectorView.space c.args.space.now).content).catalog_pairs) (sym c.in_ok-place-in-Some.ensures) (c.requires.only tells c.if-at.false)

pub bury-requires-clause-loses : goal.bury-requires-clause-loses
bury-requires-clause-loses g c tells =
    let it = c.requires.loses tells in
    (c.args.path.now, it.0, subst (λ (p : EntryAt). IsLoss (tree_of (g.P.SectorView.space c.args.space.now).content) c.args.path.now it.0 p) (sym c.in_ok-place-in-Some.ensures) it.1)

pub returns-in_ok-place-in-Some-clause-does : goal.returns-in_ok-place-in-Some-clause-does
returns-in_ok-place-in-Some-clause-does g c tells entry loss =
    ok_so
    (IsSettled c.bury.new.volume (g.P.SectorView.space c.bury.new.space).content × (tree_of (g.P.SectorView.space c.bury.new.space).content ≡ (step (tree_of (g.P.SectorView.space c.args.space.now).content) (command.Rm c.args.path.now)).1)
    × Buries entry (g.P.SectorView.space c.args.space.now).content (g.P.SectorView.space c.bury.new.space).content)
    (IsSettled c.bury.new.volume (g.P.SectorView.space c.bury.new.space).content × (tree_of (g.P.SectorView.space c.bury.new.space).content ≡ (step (tree_of (g.P.SectorView.space c.args.space.now).content) (command.Rm c.args.path.now)).1)
    × LosesName entry (g.P.SectorView.space c.args.space.now).content (g.P.SectorView.space c.bury.new.space).content)
    c.bury.result
    (c.bury.ensures.does tells c.args.path.now entry (subst (λ (p : EntryAt). IsLoss (tree_of (g.P.SectorView.space c.args.space.now).content) c.args.path.now entry p) (sym c.in_ok-place-in-Some.ensures) loss))
    (λ lost. (lost.0, lost.1, inl (loses_there entry (g.P.SectorView.space c.args.space.now).content (g.P.SectorView.space c.bury.new.space).content (c.requires.serves.settled tells).sound lost.2)))

pub bury_first-requires-clause-some : goal.bury_first-requires-clause-some
bury_first-requires-clause-some g c = omega (arith, c.requires.some, ap (λ (p : EntryAt). length p.name) c.in_ok-place-in-None.ensures)

pub bury_first-requires-clause-name : goal.bury_first-requires-clause-name
bury_first-requires-clause-name g c = omega (arith, c.requires.name, ap (λ (p : EntryAt). length p.name) c.in_ok-place-in-None.ensures)

pub bury_first-requires-clause-room : goal.bury_first-requires-clause-room
bury_first-requires-clause-room g c = c.requires.room.makes c.in-None.is

pub bury_first-requires-clause-only : goal.bury_first-requires-clause-only
bury_first-requires-clause-only g c tells = subst (λ (p : EntryAt). IsOnlyName p (lists_of c.args.volume.now (g.P.SectorView.space c.args.space.now).content).catalog_pairs) (sym c.in_ok-place-in-None.ensures) (c.requires.only tells c.if-at.false)

pub bury_first-requires-clause-loses : goal.bury_first-requires-clause-loses
bury_first-requires-clause-loses g c tells =
    let it = c.requires.loses tells in
    (c.args.path.now, it.0, subst (λ (p : EntryAt). IsLoss (tree_of (g.P.SectorView.space c.args.space.now).content) c.args.path.now it.0 p) (sym c.in_ok-place-in-None.ensures) it.1)

pub returns-in_ok-place-in-None-clause-does : goal.returns-in_ok-place-in-None-clause-does
returns-in_ok-place-in-None-clause-does g c tells entry loss =
    ok_so
    (IsSettled c.bury_first.new.volume (g.P.SectorView.space c.bury_first.new.space).content × (tree_of (g.P.SectorView.space c.bury_first.new.space).content ≡ (step (tree_of (g.P.SectorView.space c.args.space.now).content) (command.Rm c.args.path.now)).1)
    × Loses entry (g.P.SectorView.space c.args.space.now).content (g.P.SectorView.space c.bury_first.new.space).content)
    (IsSettled c.bury_first.new.volume (g.P.SectorView.space c.bury_first.new.space).content × (tree_of (g.P.SectorView.space c.bury_first.new.space).content ≡ (step (tree_of (g.P.SectorView.space c.args.space.now).content) (command.Rm c.args.path.now)).1)
    × LosesName entry (g.P.SectorView.space c.args.space.now).content (g.P.SectorView.space c.bury_first.new.space).content)
    c.bury_first.result
    (c.bury_first.ensures.does tells c.args.path.now entry (subst (λ (p : EntryAt). IsLoss (tree_of (g.P.SectorView.space c.args.space.now).content) c.args.path.now entry p) (sym c.in_ok-place-in-None.ensures) loss))
    (λ lost. (lost.0, lost.1, inl lost.2))

pub lose_link-requires-clause-link : goal.lose_link-requires-clause-link
lose_link-requires-clause-link g c tells = c.requires.link tells c.if-at.true

pub lose_link-requires-clause-room : goal.lose_link-requires-clause-room
lose_link-requires-clause-room g c = c.requires.room.drops

pub bury-requires-clause-left : goal.bury-requires-clause-left
bury-requires-clause-left g c = left_of_move c.edits_have_room.ensures c.args.volume.now (g.P.SectorView.space c.args.space.now) (λ tells. node_large c.args.volume.now (g.P.SectorView.space c.args.space.now) c.requires.serves.stands tells) (c.fits_move.ensures.room c.if-not-fits_move.false)

pub returns-then-at-clause-does : goal.returns-then-at-clause-does
returns-then-at-clause-does g c tells entry loss =
    ok_so
    (IsSettled c.lose_link.new.volume (g.P.SectorView.space c.lose_link.new.space).content × (tree_of (g.P.SectorView.space c.lose_link.new.space).content ≡ (step (tree_of (g.P.SectorView.space c.args.space.now).content) (command.Rm c.args.path.now)).1)
    × LosesLink entry (g.P.SectorView.space c.args.space.now).content (g.P.SectorView.space c.lose_link.new.space).content)
    (IsSettled c.lose_link.new.volume (g.P.SectorView.space c.lose_link.new.space).content × (tree_of (g.P.SectorView.space c.lose_link.new.space).content ≡ (step (tree_of (g.P.SectorView.space c.args.space.now).content) (command.Rm c.args.path.now)).1)
    × LosesName entry (g.P.SectorView.space c.args.space.now).content (g.P.SectorView.space c.lose_link.new.space).content)
    c.lose_link.result (c.lose_link.ensures.does tells entry loss) (λ lost. (lost.0, lost.1, inr lost.2))

pub returns-in_ok-place-in-Some-clause-spends : goal.returns-in_ok-place-in-Some-clause-spends
returns-in_ok-place-in-Some-clause-spends g c tells entry loss =
    inr (subst (λ (link : Bool). SpendsLoss link entry.id c.args.volume.now (g.P.SectorView.space c.args.space.now) (g.P.SectorView.space c.bury.new.space)) (sym c.if-at.false)
    (inl (ap (λ (o : Option ℕ). is_some o) c.in-Some.is, record { grown = ((c.fits_move.ensures.room c.if-not-fits_move.false).told tells).2; spent = omega (arith, c.bury.ensures.edits.ran.spent tells) })))

pub returns-in_ok-place-in-None-clause-spends : goal.returns-in_ok-place-in-None-clause-spends
returns-in_ok-place-in-None-clause-spends g c tells entry loss =
    none_so (SpendsFor 5 c.args.volume.now (g.P.SectorView.space c.args.space.now) (g.P.SectorView.space c.bury_first.new.space)) (SpendsLoss c.args.at.link entry.id c.args.volume.now (g.P.SectorView.space c.args.space.now) (g.P.SectorView.space c.bury_first.new.space)) (g.P.SectorView.space c.args.space.now) (g.P.SectorView.space c.bury_first.new.space) (c.bury_first.ensures.spends tells)
    (λ it. subst (λ (link : Bool). SpendsLoss link entry.id c.args.volume.now (g.P.SectorView.space c.args.space.now) (g.P.SectorView.space c.bury_first.new.space)) (sym c.if-at.false) (inr (c.in-None.is, it)))

pub returns-then-at-clause-spends : goal.returns-then-at-clause-spends
returns-then-at-clause-spends g c tells entry loss =
    none_so (SpendsShared entry.id c.args.volume.now (g.P.SectorView.space c.args.space.now) (g.P.SectorView.space c.lose_link.new.space)) (SpendsLoss c.args.at.link entry.id c.args.volume.now (g.P.SectorView.space c.args.space.now) (g.P.SectorView.space c.lose_link.new.space)) (g.P.SectorView.space c.args.space.now) (g.P.SectorView.space c.lose_link.new.space) (c.lose_link.ensures.spends tells entry loss)
    (λ it. subst (λ (link : Bool). SpendsLoss link entry.id c.args.volume.now (g.P.SectorView.space c.args.space.now) (g.P.SectorView.space c.lose_link.new.space)) (sym c.if-at.true) it)

pub returns-then-not-fits_move-clause-spends : goal.returns-then-not-fits_move-clause-spends
returns-then-not-fits_move-clause-spends g c tells entry loss = inl (omega arith)

pub returns-in_err-place-in-Some-clause-spends : goal.returns-in_err-place-in-Some-clause-spends
returns-in_err-place-in-Some-clause-spends g c tells entry loss = inl (omega arith)

pub returns-in_err-place-in-None-clause-spends : goal.returns-in_err-place-in-None-clause-spends
returns-in_err-place-in-None-clause-spends g c tells entry loss = inl (omega arith)

pub returns-then-not-fits_move-clause-edits : goal.returns-then-not-fits_move-clause-edits
returns-then-not-fits_move-clause-edits g c = edits_wanting _ g.met.P.SectorView.follows_refl c.requires.serves.stands

pub returns-in_err-place-in-Some-clause-edits : goal.returns-in_err-place-in-Some-clause-edits
returns-in_err-place-in-Some-clause-edits g c = edits_err c.from_residual.ensures.1 (edits_wanting {T = ℕ} _ g.met.P.SectorView.follows_refl c.requires.serves.stands)

pub returns-in_err-place-in-None-clause-edits : goal.returns-in_err-place-in-None-clause-edits
returns-in_err-place-in-None-clause-edits g c = edits_err c.from_residual-in_err-place-in-None.ensures.1 (edits_wanting {T = ℕ} _ g.met.P.SectorView.follows_refl c.requires.serves.stands)

pub returns-in_ok-place-in-Some-clause-leaves : goal.returns-in_ok-place-in-Some-clause-leaves
returns-in_ok-place-in-Some-clause-leaves g c tells entry loss =
    let v = c.args.volume.now in
    let old = g.P.SectorView.space c.args.space.now in
    let new = g.P.SectorView.space c.bury.new.space in
    ok_so (LeavesBehind 3 2 v old c.bury.new.volume new) (LeavesLoss c.args.at.link entry.id v old c.bury.new.volume new) c.bury.result (c.bury.ensures.left tells)
    (λ left. subst (λ (link : Bool). LeavesLoss link entry.id v old c.bury.new.volume new) (sym c.if-at.false)
    (inl (ap (λ (o : Option ℕ). is_some o) c.in-Some.is, leaves_of_three c.edits_have_room.ensures v c.bury.new.volume old new (node_large v old c.requires.serves.stands tells) left)))

pub returns-in_ok-place-in-None-clause-leaves : goal.returns-in_ok-place-in-None-clause-leaves
returns-in_ok-place-in-None-clause-leaves g c tells entry loss =
    let v = c.args.volume.now in
    let old = g.P.SectorView.space c.args.space.now in
    let new = g.P.SectorView.space c.bury_first.new.space in
    ok_so (LeavesOthers 5 v old c.bury_first.new.volume new) (LeavesLoss c.args.at.link entry.id v old c.bury_first.new.volume new) c.bury_first.result (c.bury_first.ensures.leaves tells)
    (λ five. subst (λ (link : Bool). LeavesLoss link entry.id v old c.bury_first.new.volume new) (sym c.if-at.false) (inr (c.in-None.is, five)))

pub returns-then-at-clause-leaves : goal.returns-then-at-clause-leaves
returns-then-at-clause-leaves g c tells entry loss =
    let v = c.args.volume.now in
    let old = g.P.SectorView.space c.args.space.now in
    let new = g.P.SectorView.space c.lose_link.new.space in
    ok_so (LeavesShared entry.id v old c.lose_link.new.volume new) (LeavesLoss c.args.at.link entry.id v old c.lose_link.new.volume new) c.lose_link.result (c.lose_link.ensures.leaves tells entry loss)
    (λ it. subst (λ (link : Bool). LeavesLoss link entry.id v old c.lose_link.new.volume new) (sym c.if-at.true) it)
