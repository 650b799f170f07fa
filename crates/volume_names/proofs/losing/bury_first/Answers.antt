use Rattle.std.proofs.Common.{◌≡◌, ◌+◌, ◌*◌, sym, ◌∙◌, ap, arith, inl, inr}
use Rattle.hfs_language.specs.declared.command.Command.TheVariants as command
use Rattle.hfs_model.specs.Step.{step}
use Rattle.hfs_volume.specs.TreeOf.{tree_of}
use Rattle.volume_base.specs.Changing.{catalog_node}
use Rattle.volume_names.specs.Losing.{Buries, Loses}
use Rattle.volume_names.proofs.EditsLeft.{left_as}
use Rattle.volume_base.specs.Standing.{IsSettled}
use Rattle.volume_base.proofs.FoundEntry.{ok_so}
use Rattle.volume_names.proofs.PrivateLoss.{loss_then, lost_both, only_then}
use Rattle.volume_names.specs.EditsLeft.{LeavesBehind}
use Rattle.volume_names.specs.LossLoads.{LeavesOthers}
use Rattle.volume_names.proofs.LossLoads.{load_aside, load_two, rest_aside}
use Rattle.volume_base.proofs.Framed.{edits_spent}
use Rattle.volume_base.proofs.Joined.{edits_both, edits_wanting, edits_short}
use Rattle.volume_names.proofs.losing.bury_first.Goals as goal

pub bury-requires-clause-serves : goal.bury-requires-clause-serves
bury-requires-clause-serves g c = record { stands = c.in_ok-open_private.ensures.edits.ran.stands; settled = λ tells. (c.in_ok-open_private.ensures.opens (sym (c.open_private.ensures.edits.ran.touches (g.P.SectorView.space c.args.space.now).content).same.tells ∙ tells)).settled }

pub bury-requires-clause-only : goal.bury-requires-clause-only
bury-requires-clause-only g c tells =
    let before = sym (c.open_private.ensures.edits.ran.touches (g.P.SectorView.space c.args.space.now).content).same.tells ∙ tells in
    let loses = c.requires.loses before in
    only_then c.header_may_change.ensures c.args.volume.now (g.P.SectorView.space c.args.space.now) (c.requires.serves.settled before) (c.requires.serves.stands.stands before).trees loses.0 loses.1 c.args.at.now loses.2 (c.requires.only before) c.open_private.new.volume (g.P.SectorView.space c.open_private.new.space).content (c.in_ok-open_private.ensures.opens before)

pub bury-requires-clause-loses : goal.bury-requires-clause-loses
bury-requires-clause-loses g c tells =
    let before = sym (c.open_private.ensures.edits.ran.touches (g.P.SectorView.space c.args.space.now).content).same.tells ∙ tells in
    let loses = c.requires.loses before in
    (loses.0, loses.1, loss_then c.header_may_change.ensures c.args.volume.now (g.P.SectorView.space c.args.space.now) (c.requires.serves.settled before) (c.requires.serves.stands.stands before).trees loses.0 loses.1 c.args.at.now loses.2 (c.requires.only before) c.open_private.new.volume (g.P.SectorView.space c.open_private.new.space).content (c.in_ok-open_private.ensures.opens before))

pub returns-in-Some-clause-does : goal.returns-in-Some-clause-does
returns-in-Some-clause-does g c tells path entry loss =
    let later = (c.open_private.ensures.edits.ran.touches (g.P.SectorView.space c.args.space.now).content).same.tells ∙ tells in
    ok_so
    (IsSettled c.bury.new.volume (g.P.SectorView.space c.bury.new.space).content × (tree_of (g.P.SectorView.space c.bury.new.space).content ≡ (step (tree_of (g.P.SectorView.space c.open_private.new.space).content) (command.Rm path)).1)
    × Buries entry (g.P.SectorView.space c.open_private.new.space).content (g.P.SectorView.space c.bury.new.space).content)
    (IsSettled c.bury.new.volume (g.P.SectorView.space c.bury.new.space).content × (tree_of (g.P.SectorView.space c.bury.new.space).content ≡ (step (tree_of (g.P.SectorView.space c.args.space.now).content) (command.Rm path)).1)
    × Loses entry (g.P.SectorView.space c.args.space.now).content (g.P.SectorView.space c.bury.new.space).content)
    c.bury.result
    (c.bury.ensures.does later path entry
    (loss_then c.header_may_change.ensures c.args.volume.now (g.P.SectorView.space c.args.space.now) (c.requires.serves.settled tells) (c.requires.serves.stands.stands tells).trees path entry c.args.at.now loss (c.requires.only tells) c.open_private.new.volume (g.P.SectorView.space c.open_private.new.space).content (c.in_ok-open_private.ensures.opens tells)))
    (λ lost. lost_both c.header_may_change.ensures c.args.volume.now (g.P.SectorView.space c.args.space.now) (c.requires.serves.settled tells) (c.requires.serves.stands.stands tells).trees path entry c.args.at.now loss (c.requires.only tells) c.open_private.new.volume (g.P.SectorView.space c.open_private.new.space).content (c.in_ok-open_private.ensures.opens tells)
    c.bury.new.volume (g.P.SectorView.space c.bury.new.space).content lost c.rm_does_its_step.ensures)

pub returns-in-Some-clause-edits : goal.returns-in-Some-clause-edits
returns-in-Some-clause-edits g c = edits_spent (edits_both g.met.P.SectorView.follows_trans c.open_private.ensures.edits c.bury.ensures.edits) (λ tells. omega arith)

pub bury-requires-clause-left : goal.bury-requires-clause-left
bury-requires-clause-left g c =
    left_as c.open_private.new.volume (g.P.SectorView.space c.open_private.new.space) 3 _ _ (λ tells. ap (λ n. 2 * n) (sym (c.in_ok-open_private.ensures.nodes (sym (c.open_private.ensures.edits.ran.touches (g.P.SectorView.space c.args.space.now).content).same.tells ∙ tells))))
    (c.in_ok-open_private.ensures.left 3 (2 * catalog_node c.args.volume.now) (c.fits_aside.ensures.load c.if-not-fits_aside.false))

pub returns-then-not-fits_aside-clause-edits : goal.returns-then-not-fits_aside-clause-edits
returns-then-not-fits_aside-clause-edits g c = edits_wanting _ g.met.P.SectorView.follows_refl c.requires.serves.stands

pub returns-in-Some-clause-spends : goal.returns-in-Some-clause-spends
returns-in-Some-clause-spends g c tells =
    let later = (c.open_private.ensures.edits.ran.touches (g.P.SectorView.space c.args.space.now).content).same.tells ∙ tells in
    let load = load_aside c.args.volume.now (g.P.SectorView.space c.args.space.now) (c.fits_aside.ensures.load c.if-not-fits_aside.false) in
    let left = c.bury.ensures.leaves later (rest_aside c.args.volume.now (g.P.SectorView.space c.args.space.now)) (c.in_ok-open_private.ensures.left 3 (rest_aside c.args.volume.now (g.P.SectorView.space c.args.space.now)) load) in
    inr (record { grown = load.grown tells; spent = omega (arith, left, load.load tells, c.in_ok-open_private.ensures.nodes tells) })

pub returns-in-None-clause-spends : goal.returns-in-None-clause-spends
returns-in-None-clause-spends g c tells =
    let load = load_aside c.args.volume.now (g.P.SectorView.space c.args.space.now) (c.fits_aside.ensures.load c.if-not-fits_aside.false) in
    inr (record { grown = load.grown tells; spent = omega (arith, c.open_private.ensures.beside 3 (rest_aside c.args.volume.now (g.P.SectorView.space c.args.space.now)) load tells, load.load tells) })

pub returns-in_err-open_private-clause-spends : goal.returns-in_err-open_private-clause-spends
returns-in_err-open_private-clause-spends g c tells =
    let load = load_aside c.args.volume.now (g.P.SectorView.space c.args.space.now) (c.fits_aside.ensures.load c.if-not-fits_aside.false) in
    inr (record { grown = load.grown tells; spent = omega (arith, c.open_private.ensures.beside 3 (rest_aside c.args.volume.now (g.P.SectorView.space c.args.space.now)) load tells, load.load tells) })

pub returns-then-not-fits_aside-clause-spends : goal.returns-then-not-fits_aside-clause-spends
returns-then-not-fits_aside-clause-spends g c tells = inl (omega arith)

pub returns-in-None-clause-edits : goal.returns-in-None-clause-edits
returns-in-None-clause-edits g c = edits_short (edits_spent c.in_ok-open_private.ensures.edits (λ tells. omega arith))

pub returns-in-Some-clause-leaves : goal.returns-in-Some-clause-leaves
returns-in-Some-clause-leaves g c tells =
    let v = c.args.volume.now in
    let old = g.P.SectorView.space c.args.space.now in
    let opened = g.P.SectorView.space c.open_private.new.space in
    let new = g.P.SectorView.space c.bury.new.space in
    let later = (c.open_private.ensures.edits.ran.touches old.content).same.tells ∙ tells in
    ok_so (LeavesBehind 3 2 c.open_private.new.volume opened c.bury.new.volume new) (LeavesOthers 5 v old c.bury.new.volume new) c.bury.result (c.bury.ensures.left later)
    (λ left. (
      left.0 ∙ c.in_ok-open_private.ensures.nodes tells,
      λ others beside load. left.1 others beside (left_as c.open_private.new.volume opened (3 + others) _ _ (λ told. ap (λ n. 2 * n + beside) (sym (c.in_ok-open_private.ensures.nodes tells)))
          (c.in_ok-open_private.ensures.left (3 + others) (2 * catalog_node v + beside) (load_two others (1 + (3 * catalog_node v + beside)) (1 + (catalog_node v + (2 * catalog_node v + beside))) v old (omega arith) load))),
    ))
