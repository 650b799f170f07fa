use Rattle.std.proofs.Common.{◌≡◌, ◌/◌, sym, ◌∙◌, ap, arith}
use Rattle.btree_node.specs.declared.store.TreeShape.{TreeShape}
use Rattle.hfs_language.specs.declared.command.Command.TheVariants as command
use Rattle.hfs_model.specs.Step.{step}
use Rattle.hfs_volume.specs.Content.{volume_of}
use Rattle.hfs_volume.specs.Naming.{MovesName}
use Rattle.hfs_volume.specs.TreeOf.{tree_of}
use Rattle.volume_base.specs.Making.{free_place}
use Rattle.volume_names.specs.Moving.{Arrives}
use Rattle.volume_base.specs.Standing.{IsSettled, StandsOver}
use Rattle.volume_base.proofs.FoundEntry.{ok_both}
use Rattle.volume_names.proofs.Moved.{entry_after, goal_after, moved_does, threads_first}
use Rattle.volume_base.proofs.Replaced.{node_large}
use Rattle.volume_base.proofs.Framed.{edits_err, edits_none, edits_spent}
use Rattle.volume_base.proofs.Joined.{edits_both}
use Rattle.volume_names.proofs.moving.move_in.Goals as goal

pub leave-requires-clause-size : goal.leave-requires-clause-size
leave-requires-clause-size g c = omega (arith, c.if-shape-lt4096.false, ap (λ (s : TreeShape). s.node_size) c.shape.ensures)

pub arrive-requires-clause-size : goal.arrive-requires-clause-size
arrive-requires-clause-size g c = omega (arith, c.if-shape-lt4096.false, ap (λ (s : TreeShape). s.node_size) c.shape.ensures, c.in_ok-leave.ensures.size)

pub arrive-requires-clause-threads : goal.arrive-requires-clause-threads
arrive-requires-clause-threads g c tells =
    threads_first c.args.volume.now (g.P.SectorView.space c.args.space.now) (c.requires.serves.settled (sym (c.leave.ensures.edits.ran.touches (g.P.SectorView.space c.args.space.now).content).same.tells ∙ tells)) (c.requires.serves.stands.stands (sym (c.leave.ensures.edits.ran.touches (g.P.SectorView.space c.args.space.now).content).same.tells ∙ tells)) (c.requires.moves (sym (c.leave.ensures.edits.ran.touches (g.P.SectorView.space c.args.space.now).content).same.tells ∙ tells)).0 (c.requires.moves (sym (c.leave.ensures.edits.ran.touches (g.P.SectorView.space c.args.space.now).content).same.tells ∙ tells)).1 (c.requires.moves (sym (c.leave.ensures.edits.ran.touches (g.P.SectorView.space c.args.space.now).content).same.tells ∙ tells)).2 c.args.way.now.parent c.args.old.now c.args.way.now.id c.args.way.now.folder c.args.name.now (c.requires.moves (sym (c.leave.ensures.edits.ran.touches (g.P.SectorView.space c.args.space.now).content).same.tells ∙ tells)).3 c.requires.serves.stands.service.fits.next_catalog_id
    (c.in_ok-leave.ensures.leaves (sym (c.leave.ensures.edits.ran.touches (g.P.SectorView.space c.args.space.now).content).same.tells ∙ tells)).middle (c.in_ok-leave.ensures.leaves (sym (c.leave.ensures.edits.ran.touches (g.P.SectorView.space c.args.space.now).content).same.tells ∙ tells)).content (c.in_ok-leave.ensures.leaves (sym (c.leave.ensures.edits.ran.touches (g.P.SectorView.space c.args.space.now).content).same.tells ∙ tells)).moves (c.in_ok-leave.ensures.leaves (sym (c.leave.ensures.edits.ran.touches (g.P.SectorView.space c.args.space.now).content).same.tells ∙ tells)).holds c.leave.new.volume (g.P.SectorView.space c.leave.new.space).content (c.in_ok-leave.ensures.leaves (sym (c.leave.ensures.edits.ran.touches (g.P.SectorView.space c.args.space.now).content).same.tells ∙ tells)).loses

pub arrive-requires-clause-goal : goal.arrive-requires-clause-goal
arrive-requires-clause-goal g c tells =
    goal_after c.args.volume.now (g.P.SectorView.space c.args.space.now) (c.requires.serves.settled (sym (c.leave.ensures.edits.ran.touches (g.P.SectorView.space c.args.space.now).content).same.tells ∙ tells)) (c.requires.serves.stands.stands (sym (c.leave.ensures.edits.ran.touches (g.P.SectorView.space c.args.space.now).content).same.tells ∙ tells)) (c.requires.moves (sym (c.leave.ensures.edits.ran.touches (g.P.SectorView.space c.args.space.now).content).same.tells ∙ tells)).0 (c.requires.moves (sym (c.leave.ensures.edits.ran.touches (g.P.SectorView.space c.args.space.now).content).same.tells ∙ tells)).1 (c.requires.moves (sym (c.leave.ensures.edits.ran.touches (g.P.SectorView.space c.args.space.now).content).same.tells ∙ tells)).2 c.args.way.now.parent c.args.old.now c.args.way.now.id c.args.way.now.folder c.args.name.now (c.requires.moves (sym (c.leave.ensures.edits.ran.touches (g.P.SectorView.space c.args.space.now).content).same.tells ∙ tells)).3 c.requires.serves.stands.service.fits.next_catalog_id
    (c.in_ok-leave.ensures.leaves (sym (c.leave.ensures.edits.ran.touches (g.P.SectorView.space c.args.space.now).content).same.tells ∙ tells)).middle (c.in_ok-leave.ensures.leaves (sym (c.leave.ensures.edits.ran.touches (g.P.SectorView.space c.args.space.now).content).same.tells ∙ tells)).content (c.in_ok-leave.ensures.leaves (sym (c.leave.ensures.edits.ran.touches (g.P.SectorView.space c.args.space.now).content).same.tells ∙ tells)).moves (c.in_ok-leave.ensures.leaves (sym (c.leave.ensures.edits.ran.touches (g.P.SectorView.space c.args.space.now).content).same.tells ∙ tells)).holds c.leave.new.volume (g.P.SectorView.space c.leave.new.space).content (c.in_ok-leave.ensures.leaves (sym (c.leave.ensures.edits.ran.touches (g.P.SectorView.space c.args.space.now).content).same.tells ∙ tells)).loses

pub arrive-requires-clause-there : goal.arrive-requires-clause-there
arrive-requires-clause-there g c tells =
    entry_after c.args.volume.now (g.P.SectorView.space c.args.space.now) (c.requires.serves.settled (sym (c.leave.ensures.edits.ran.touches (g.P.SectorView.space c.args.space.now).content).same.tells ∙ tells)) (c.requires.serves.stands.stands (sym (c.leave.ensures.edits.ran.touches (g.P.SectorView.space c.args.space.now).content).same.tells ∙ tells)) (c.requires.moves (sym (c.leave.ensures.edits.ran.touches (g.P.SectorView.space c.args.space.now).content).same.tells ∙ tells)).0 (c.requires.moves (sym (c.leave.ensures.edits.ran.touches (g.P.SectorView.space c.args.space.now).content).same.tells ∙ tells)).1 (c.requires.moves (sym (c.leave.ensures.edits.ran.touches (g.P.SectorView.space c.args.space.now).content).same.tells ∙ tells)).2 c.args.way.now.parent c.args.old.now c.args.way.now.id c.args.way.now.folder c.args.name.now (c.requires.moves (sym (c.leave.ensures.edits.ran.touches (g.P.SectorView.space c.args.space.now).content).same.tells ∙ tells)).3 c.requires.serves.stands.service.fits.next_catalog_id
    (c.in_ok-leave.ensures.leaves (sym (c.leave.ensures.edits.ran.touches (g.P.SectorView.space c.args.space.now).content).same.tells ∙ tells)).middle (c.in_ok-leave.ensures.leaves (sym (c.leave.ensures.edits.ran.touches (g.P.SectorView.space c.args.space.now).content).same.tells ∙ tells)).content (c.in_ok-leave.ensures.leaves (sym (c.leave.ensures.edits.ran.touches (g.P.SectorView.space c.args.space.now).content).same.tells ∙ tells)).moves (c.in_ok-leave.ensures.leaves (sym (c.leave.ensures.edits.ran.touches (g.P.SectorView.space c.args.space.now).content).same.tells ∙ tells)).holds c.leave.new.volume (g.P.SectorView.space c.leave.new.space).content (c.in_ok-leave.ensures.leaves (sym (c.leave.ensures.edits.ran.touches (g.P.SectorView.space c.args.space.now).content).same.tells ∙ tells)).loses

pub returns-clause-does : goal.returns-clause-does
returns-clause-does g c tells from to at move =
    let later = (c.leave.ensures.edits.ran.touches (g.P.SectorView.space c.args.space.now).content).same.tells ∙ tells in
    let last = (c.arrive.ensures.edits.ran.touches (g.P.SectorView.space c.args.space.now).content).same.tells ∙ later in
    ok_both (StandsOver c.arrive.new.volume (g.P.SectorView.space c.arrive.new.space)) (Arrives c.args.way.now.folder c.args.way.now.id c.leave.new.volume c.arrive.new.volume (g.P.SectorView.space c.leave.new.space).content (g.P.SectorView.space c.arrive.new.space).content)
    (IsSettled c.arrive.new.volume (g.P.SectorView.space c.arrive.new.space).content × (tree_of (g.P.SectorView.space c.arrive.new.space).content ≡ (step (tree_of (g.P.SectorView.space c.args.space.now).content) (command.Mv from to)).1)
    × MovesName at (free_place c.args.way.now.folder c.args.name.now) (volume_of (g.P.SectorView.space c.args.space.now).content) (volume_of (g.P.SectorView.space c.arrive.new.space).content))
    c.arrive.result c.arrive.ensures.edits.ran.stands (c.arrive.ensures.arrives later)
    (λ stands t. moved_does c.args.volume.now (g.P.SectorView.space c.args.space.now) (c.requires.serves.settled tells) (c.requires.serves.stands.stands tells) from to at c.args.way.now.parent c.args.old.now c.args.way.now.id c.args.way.now.folder c.args.name.now move c.requires.serves.stands.service.fits.next_catalog_id
    (c.in_ok-leave.ensures.leaves tells).middle (c.in_ok-leave.ensures.leaves tells).content (c.in_ok-leave.ensures.leaves tells).moves (c.in_ok-leave.ensures.leaves tells).holds c.leave.new.volume (g.P.SectorView.space c.leave.new.space).content (c.in_ok-leave.ensures.leaves tells).loses t.middle t.content t.gains c.arrive.new.volume (g.P.SectorView.space c.arrive.new.space) t.dates (stands.stands last) c.mv_does_its_step.ensures)

pub returns-clause-edits : goal.returns-clause-edits
returns-clause-edits g c =
    edits_spent (edits_both g.met.P.SectorView.follows_trans c.leave.ensures.edits c.arrive.ensures.edits) (λ tells. omega (arith, c.leave.ensures.edits.ran.spent tells, c.arrive.ensures.edits.ran.spent ((c.leave.ensures.edits.ran.touches (g.P.SectorView.space c.args.space.now).content).same.tells ∙ tells), ap (λ n. n / 512) c.in_ok-leave.ensures.size))

pub returns-in_err-leave-clause-edits : goal.returns-in_err-leave-clause-edits
returns-in_err-leave-clause-edits g c = edits_err c.from_residual.ensures.1 (edits_spent c.in_err-leave.ensures.edits (λ tells. omega (arith, c.leave.ensures.edits.ran.spent tells)))

pub returns-then-shape-lt4096-clause-does : goal.returns-then-shape-lt4096-clause-does
returns-then-shape-lt4096-clause-does g c tells from to at move = absurd (omega (arith, c.if-shape-lt4096.true, ap (λ (s : TreeShape). s.node_size) c.shape.ensures, node_large c.args.volume.now (g.P.SectorView.space c.args.space.now) c.requires.serves.stands tells))

pub returns-then-shape-lt4096-clause-edits : goal.returns-then-shape-lt4096-clause-edits
returns-then-shape-lt4096-clause-edits g c = edits_none _ g.met.P.SectorView.follows_refl c.requires.serves.stands

pub returns-clause-beside : goal.returns-clause-beside
returns-clause-beside g c tells beside had =
    let later = (c.leave.ensures.edits.ran.touches (g.P.SectorView.space c.args.space.now).content).same.tells ∙ tells in
    omega (arith, c.leave.ensures.beside tells beside had, c.arrive.ensures.edits.ran.spent later, ap (λ n. n / 512) c.in_ok-leave.ensures.size)

pub returns-in_err-leave-clause-beside : goal.returns-in_err-leave-clause-beside
returns-in_err-leave-clause-beside g c tells beside had = omega (arith, c.leave.ensures.beside tells beside had)

pub returns-then-shape-lt4096-clause-beside : goal.returns-then-shape-lt4096-clause-beside
returns-then-shape-lt4096-clause-beside g c tells beside had = omega (arith, (had.told tells).0)
