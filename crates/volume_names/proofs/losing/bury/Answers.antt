use Rattle.std.proofs.Common.{◌≡◌, ◌+◌, ◌*◌, ◌/◌, sym, ◌∙◌, ap, arith}
use Rattle.btree_node.specs.declared.store.TreeShape.{TreeShape}
use Rattle.hfs_language.specs.declared.command.Command.TheVariants as command
use Rattle.hfs_model.specs.Step.{step}
use Rattle.hfs_volume.specs.TreeOf.{tree_of}
use Rattle.volume_base.specs.Changing.{TouchesFolder, catalog_node}
use Rattle.volume_names.specs.Losing.{Buries}
use Rattle.volume_base.specs.Standing.{IsSettled, StandsOver}
use Rattle.volume_names.proofs.Buried.{buried_does, from_after, threads_hidden}
use Rattle.volume_base.proofs.FoundEntry.{ok_both, ok_so}
use Rattle.volume_base.proofs.Replaced.{node_large}
use Rattle.volume_base.proofs.Framed.{edits_err, edits_none, edits_spent}
use Rattle.volume_base.proofs.Joined.{edits_both}
use Rattle.volume_names.specs.EditsLeft.{LeavesBehind, LeavesBeside}
use Rattle.volume_names.proofs.EditsLeft.{left_fewer}
use Rattle.volume_names.proofs.losing.bury.Goals as goal

pub hide-requires-clause-size : goal.hide-requires-clause-size
hide-requires-clause-size g c = omega (arith, c.if-shape-lt4096.false, ap (λ (s : TreeShape). s.node_size) c.shape.ensures)

pub touch-requires-clause-threads : goal.touch-requires-clause-threads
touch-requires-clause-threads g c tells =
    threads_hidden c.args.volume.now (g.P.SectorView.space c.args.space.now) (c.requires.serves.settled (sym (c.hide.ensures.edits.ran.touches (g.P.SectorView.space c.args.space.now).content).same.tells ∙ tells)) (c.requires.serves.stands.stands (sym (c.hide.ensures.edits.ran.touches (g.P.SectorView.space c.args.space.now).content).same.tells ∙ tells)) (c.requires.loses (sym (c.hide.ensures.edits.ran.touches (g.P.SectorView.space c.args.space.now).content).same.tells ∙ tells)).0 (c.requires.loses (sym (c.hide.ensures.edits.ran.touches (g.P.SectorView.space c.args.space.now).content).same.tells ∙ tells)).1 c.args.at.now (c.requires.loses (sym (c.hide.ensures.edits.ran.touches (g.P.SectorView.space c.args.space.now).content).same.tells ∙ tells)).2 (c.requires.only (sym (c.hide.ensures.edits.ran.touches (g.P.SectorView.space c.args.space.now).content).same.tells ∙ tells)) c.args.private c.requires.private c.requires.serves.stands.service.fits.next_catalog_id
    (c.in_ok-hide.ensures.hides (sym (c.hide.ensures.edits.ran.touches (g.P.SectorView.space c.args.space.now).content).same.tells ∙ tells)).middle (c.in_ok-hide.ensures.hides (sym (c.hide.ensures.edits.ran.touches (g.P.SectorView.space c.args.space.now).content).same.tells ∙ tells)).content (c.in_ok-hide.ensures.hides (sym (c.hide.ensures.edits.ran.touches (g.P.SectorView.space c.args.space.now).content).same.tells ∙ tells)).moves (c.in_ok-hide.ensures.hides (sym (c.hide.ensures.edits.ran.touches (g.P.SectorView.space c.args.space.now).content).same.tells ∙ tells)).holds c.hide.new.volume (g.P.SectorView.space c.hide.new.space).content (c.in_ok-hide.ensures.hides (sym (c.hide.ensures.edits.ran.touches (g.P.SectorView.space c.args.space.now).content).same.tells ∙ tells)).gains

pub touch-requires-clause-there : goal.touch-requires-clause-there
touch-requires-clause-there g c tells =
    from_after c.args.volume.now (g.P.SectorView.space c.args.space.now) (c.requires.serves.settled (sym (c.hide.ensures.edits.ran.touches (g.P.SectorView.space c.args.space.now).content).same.tells ∙ tells)) (c.requires.serves.stands.stands (sym (c.hide.ensures.edits.ran.touches (g.P.SectorView.space c.args.space.now).content).same.tells ∙ tells)) (c.requires.loses (sym (c.hide.ensures.edits.ran.touches (g.P.SectorView.space c.args.space.now).content).same.tells ∙ tells)).0 (c.requires.loses (sym (c.hide.ensures.edits.ran.touches (g.P.SectorView.space c.args.space.now).content).same.tells ∙ tells)).1 c.args.at.now (c.requires.loses (sym (c.hide.ensures.edits.ran.touches (g.P.SectorView.space c.args.space.now).content).same.tells ∙ tells)).2 (c.requires.only (sym (c.hide.ensures.edits.ran.touches (g.P.SectorView.space c.args.space.now).content).same.tells ∙ tells)) c.args.private c.requires.private c.requires.serves.stands.service.fits.next_catalog_id
    (c.in_ok-hide.ensures.hides (sym (c.hide.ensures.edits.ran.touches (g.P.SectorView.space c.args.space.now).content).same.tells ∙ tells)).middle (c.in_ok-hide.ensures.hides (sym (c.hide.ensures.edits.ran.touches (g.P.SectorView.space c.args.space.now).content).same.tells ∙ tells)).content (c.in_ok-hide.ensures.hides (sym (c.hide.ensures.edits.ran.touches (g.P.SectorView.space c.args.space.now).content).same.tells ∙ tells)).moves (c.in_ok-hide.ensures.hides (sym (c.hide.ensures.edits.ran.touches (g.P.SectorView.space c.args.space.now).content).same.tells ∙ tells)).holds c.hide.new.volume (g.P.SectorView.space c.hide.new.space).content (c.in_ok-hide.ensures.hides (sym (c.hide.ensures.edits.ran.touches (g.P.SectorView.space c.args.space.now).content).same.tells ∙ tells)).gains

pub returns-clause-does : goal.returns-clause-does
returns-clause-does g c tells path entry loss =
    let later = (c.hide.ensures.edits.ran.touches (g.P.SectorView.space c.args.space.now).content).same.tells ∙ tells in
    let last = (c.touch.ensures.edits.ran.touches (g.P.SectorView.space c.args.space.now).content).same.tells ∙ later in
    ok_both (StandsOver c.touch.new.volume (g.P.SectorView.space c.touch.new.space)) (TouchesFolder c.args.at.now.parent 0 1 c.hide.new.volume c.touch.new.volume (g.P.SectorView.space c.hide.new.space).content (g.P.SectorView.space c.touch.new.space).content)
    (IsSettled c.touch.new.volume (g.P.SectorView.space c.touch.new.space).content × (tree_of (g.P.SectorView.space c.touch.new.space).content ≡ (step (tree_of (g.P.SectorView.space c.args.space.now).content) (command.Rm path)).1)
    × Buries entry (g.P.SectorView.space c.args.space.now).content (g.P.SectorView.space c.touch.new.space).content)
    c.touch.result c.touch.ensures.edits.ran.stands (c.touch.ensures.counts later)
    (λ stands t. buried_does c.args.volume.now (g.P.SectorView.space c.args.space.now) (c.requires.serves.settled tells) (c.requires.serves.stands.stands tells) path entry c.args.at.now loss (c.requires.only tells) c.args.private c.requires.private c.requires.serves.stands.service.fits.next_catalog_id
    (c.in_ok-hide.ensures.hides (tells)).middle (c.in_ok-hide.ensures.hides (tells)).content (c.in_ok-hide.ensures.hides (tells)).moves (c.in_ok-hide.ensures.hides (tells)).holds c.hide.new.volume (g.P.SectorView.space c.hide.new.space).content (c.in_ok-hide.ensures.hides (tells)).gains c.touch.new.volume (g.P.SectorView.space c.touch.new.space) t (stands.stands last) c.rm_does_its_step.ensures)

pub returns-clause-edits : goal.returns-clause-edits
returns-clause-edits g c =
    edits_spent (edits_both g.met.P.SectorView.follows_trans c.hide.ensures.edits c.touch.ensures.edits) (λ tells. omega (arith, c.hide.ensures.edits.ran.spent tells, c.touch.ensures.edits.ran.spent ((c.hide.ensures.edits.ran.touches (g.P.SectorView.space c.args.space.now).content).same.tells ∙ tells), ap (λ n. n / 512) c.in_ok-hide.ensures.size))

pub returns-in_err-hide-clause-edits : goal.returns-in_err-hide-clause-edits
returns-in_err-hide-clause-edits g c = edits_err c.from_residual.ensures.1 (edits_spent c.in_err-hide.ensures.edits (λ tells. omega (arith, c.hide.ensures.edits.ran.spent tells)))

pub returns-then-shape-lt4096-clause-does : goal.returns-then-shape-lt4096-clause-does
returns-then-shape-lt4096-clause-does g c tells path entry loss = absurd (omega (arith, c.if-shape-lt4096.true, ap (λ (s : TreeShape). s.node_size) c.shape.ensures, node_large c.args.volume.now (g.P.SectorView.space c.args.space.now) c.requires.serves.stands tells))

pub returns-then-shape-lt4096-clause-edits : goal.returns-then-shape-lt4096-clause-edits
returns-then-shape-lt4096-clause-edits g c = edits_none _ g.met.P.SectorView.follows_refl c.requires.serves.stands

pub touch-requires-clause-room : goal.touch-requires-clause-room
touch-requires-clause-room g c = c.in_ok-hide.ensures.room

pub returns-clause-leaves : goal.returns-clause-leaves
returns-clause-leaves g c tells beside had =
    let later = (c.hide.ensures.edits.ran.touches (g.P.SectorView.space c.args.space.now).content).same.tells ∙ tells in
    omega (arith, c.hide.ensures.leaves tells beside had, c.touch.ensures.edits.ran.spent later, ap (λ n. n / 512) c.in_ok-hide.ensures.size)

pub returns-in_err-hide-clause-leaves : goal.returns-in_err-hide-clause-leaves
returns-in_err-hide-clause-leaves g c tells beside had = omega (arith, c.hide.ensures.leaves tells beside had)

pub returns-then-shape-lt4096-clause-leaves : goal.returns-then-shape-lt4096-clause-leaves
returns-then-shape-lt4096-clause-leaves g c tells beside had = omega (arith, (had.told tells).0)

pub returns-clause-left : goal.returns-clause-left
returns-clause-left g c tells =
    let v = c.args.volume.now in
    let old = g.P.SectorView.space c.args.space.now in
    let hidden = g.P.SectorView.space c.hide.new.space in
    let new = g.P.SectorView.space c.touch.new.space in
    let size = c.in_ok-hide.ensures.size in
    ok_so (LeavesBeside c.hide.new.volume hidden c.touch.new.volume new) (LeavesBehind 3 2 v old c.touch.new.volume new) c.touch.result c.touch.ensures.left
    (λ left. (
      ap (λ n. n / 512) c.touch.ensures.size ∙ ap (λ n. n / 512) size,
      λ others beside had. left others beside
          (left_fewer c.hide.new.volume hidden others (catalog_node v + beside) (catalog_node c.hide.new.volume + beside) (λ told. omega (arith, c.if-shape-lt4096.false, ap (λ (s : TreeShape). s.node_size) c.shape.ensures, size)) (omega (arith, ap (λ n. n / 512) size))
          (c.in_ok-hide.ensures.left.1 others (catalog_node v + beside) (left_fewer v old (3 + others) (2 * catalog_node v + beside) (1 * catalog_node v + (catalog_node v + beside)) (λ told. omega (arith, c.if-shape-lt4096.false, ap (λ (s : TreeShape). s.node_size) c.shape.ensures)) (omega arith) had))),
    ))

pub returns-then-shape-lt4096-clause-left : goal.returns-then-shape-lt4096-clause-left
returns-then-shape-lt4096-clause-left g c tells = absurd (omega (arith, c.if-shape-lt4096.true, ap (λ (s : TreeShape). s.node_size) c.shape.ensures, node_large c.args.volume.now (g.P.SectorView.space c.args.space.now) c.requires.serves.stands tells))
