use Rattle.std.proofs.Common.{◌≡◌, ◌/◌, sym, ◌∙◌, ap, arith}
use Rattle.btree_node.specs.declared.store.TreeShape.{TreeShape}
use Rattle.hfs_model.specs.Step.{removed_folder}
use Rattle.hfs_volume.specs.Content.{volume_of}
use Rattle.hfs_volume.specs.TreeOf.{tree_of}
use Rattle.volume_base.specs.Changing.{TouchesFolder}
use Rattle.volume_base.specs.Removing.{TakesFolder, folder_at}
use Rattle.volume_base.specs.Standing.{IsSettled, StandsOver}
use Rattle.volume_base.proofs.Emptied.{emptied_does, emptied_takes, folder_after, has_name, threads_after}
use Rattle.volume_base.proofs.FoundEntry.{ok_both}
use Rattle.volume_base.proofs.LeavingFound.{removed_step}
use Rattle.volume_base.proofs.Replaced.{node_large}
use Rattle.volume_base.proofs.Framed.{edits_none, edits_spent}
use Rattle.volume_base.proofs.Joined.{edits_both}
use Rattle.volume_names.proofs.removing.remove_folder.Goals as goal

pub take_off-requires-clause-size : goal.take_off-requires-clause-size
take_off-requires-clause-size g c = omega (arith, c.if-shape-lt4096.false, ap (λ (s : TreeShape). s.node_size) c.shape.ensures)

pub touch-requires-clause-threads : goal.touch-requires-clause-threads
touch-requires-clause-threads g c tells =
    let before = sym (c.take_off.ensures.edits.ran.touches (g.P.SectorView.space c.args.space.now).content).same.tells ∙ tells in
    threads_after c.args.volume.now (g.P.SectorView.space c.args.space.now) (c.requires.serves.stands.stands before) (c.requires.serves.settled before) c.args.at c.args.name.now (c.requires.leaving before) c.take_off.new.volume (g.P.SectorView.space c.take_off.new.space)
    (has_name c.args.volume.now (g.P.SectorView.space c.args.space.now) (c.requires.serves.stands.stands before) (c.requires.serves.settled before) c.args.at c.args.name.now (c.requires.leaving before)) (c.in_ok-take_off.ensures.drops before) c.sound_has_plain_tree.ensures

pub touch-requires-clause-there : goal.touch-requires-clause-there
touch-requires-clause-there g c tells =
    let before = sym (c.take_off.ensures.edits.ran.touches (g.P.SectorView.space c.args.space.now).content).same.tells ∙ tells in
    folder_after c.args.volume.now (g.P.SectorView.space c.args.space.now) (c.requires.serves.stands.stands before) (c.requires.serves.settled before) c.args.at c.args.name.now (c.requires.leaving before) c.take_off.new.volume (g.P.SectorView.space c.take_off.new.space)
    (has_name c.args.volume.now (g.P.SectorView.space c.args.space.now) (c.requires.serves.stands.stands before) (c.requires.serves.settled before) c.args.at c.args.name.now (c.requires.leaving before)) (c.in_ok-take_off.ensures.drops before) c.sound_has_plain_tree.ensures
    c.requires.serves.stands.service.fits.next_catalog_id

pub returns-clause-does : goal.returns-clause-does
returns-clause-does g c tells =
    let later = (c.take_off.ensures.edits.ran.touches (g.P.SectorView.space c.args.space.now).content).same.tells ∙ tells in
    let last = (c.touch.ensures.edits.ran.touches (g.P.SectorView.space c.args.space.now).content).same.tells ∙ later in
    let leaving = c.requires.leaving tells in
    let named = has_name c.args.volume.now (g.P.SectorView.space c.args.space.now) (c.requires.serves.stands.stands tells) (c.requires.serves.settled tells) c.args.at c.args.name.now (c.requires.leaving tells) in
    ok_both (StandsOver c.touch.new.self (g.P.SectorView.space c.touch.new.space)) (TouchesFolder c.args.at.parent 0 1 c.take_off.new.volume c.touch.new.self (g.P.SectorView.space c.take_off.new.space).content (g.P.SectorView.space c.touch.new.space).content)
    (IsSettled c.touch.new.self (g.P.SectorView.space c.touch.new.space).content × (tree_of (g.P.SectorView.space c.touch.new.space).content ≡ removed_folder (folder_at c.args.at c.args.name.now) (tree_of (g.P.SectorView.space c.args.space.now).content)))
    c.touch.result c.touch.ensures.edits.ran.stands (c.touch.ensures.counts later)
    (λ stands t.
    let done = emptied_does c.args.volume.now (g.P.SectorView.space c.args.space.now) (c.requires.serves.stands.stands tells) (c.requires.serves.settled tells) c.args.at c.args.name.now (c.requires.leaving tells) c.take_off.new.volume (g.P.SectorView.space c.take_off.new.space)
    (has_name c.args.volume.now (g.P.SectorView.space c.args.space.now) (c.requires.serves.stands.stands tells) (c.requires.serves.settled tells) c.args.at c.args.name.now (c.requires.leaving tells)) (c.in_ok-take_off.ensures.drops tells)
    (c.requires.bare tells) c.touch.new.self (g.P.SectorView.space c.touch.new.space) (stands.stands last) t c.rmdir_does_its_step.ensures
    (threads_after c.args.volume.now (g.P.SectorView.space c.args.space.now) (c.requires.serves.stands.stands tells) (c.requires.serves.settled tells) c.args.at c.args.name.now (c.requires.leaving tells) c.take_off.new.volume (g.P.SectorView.space c.take_off.new.space)
    (has_name c.args.volume.now (g.P.SectorView.space c.args.space.now) (c.requires.serves.stands.stands tells) (c.requires.serves.settled tells) c.args.at c.args.name.now (c.requires.leaving tells)) (c.in_ok-take_off.ensures.drops tells) c.sound_has_plain_tree.ensures) in
    (done.0, done.1 ∙ removed_step (tree_of (g.P.SectorView.space c.args.space.now).content) leaving.path (folder_at c.args.at c.args.name.now) leaving.allowed))

pub returns-clause-edits : goal.returns-clause-edits
returns-clause-edits g c =
    edits_spent (edits_both g.met.P.SectorView.follows_trans c.take_off.ensures.edits c.touch.ensures.edits) (λ tells. let later = (c.take_off.ensures.edits.ran.touches (g.P.SectorView.space c.args.space.now).content).same.tells ∙ tells in
    omega (arith, c.take_off.ensures.edits.ran.spent tells, c.touch.ensures.edits.ran.spent later, ap (λ n. n / 512) (c.in_ok-take_off.ensures.drops tells).changes.nodes.1))

pub returns-then-shape-lt4096-clause-does : goal.returns-then-shape-lt4096-clause-does
returns-then-shape-lt4096-clause-does g c tells =
    absurd (omega (arith, c.if-shape-lt4096.true, ap (λ (s : TreeShape). s.node_size) c.shape.ensures, node_large c.args.volume.now (g.P.SectorView.space c.args.space.now) c.requires.serves.stands tells))

pub returns-then-shape-lt4096-clause-edits : goal.returns-then-shape-lt4096-clause-edits
returns-then-shape-lt4096-clause-edits g c = edits_none _ g.met.P.SectorView.follows_refl c.requires.serves.stands

pub returns-clause-takes : goal.returns-clause-takes
returns-clause-takes g c tells =
    let later = (c.take_off.ensures.edits.ran.touches (g.P.SectorView.space c.args.space.now).content).same.tells ∙ tells in
    let last = (c.touch.ensures.edits.ran.touches (g.P.SectorView.space c.args.space.now).content).same.tells ∙ later in
    ok_both (StandsOver c.touch.new.self (g.P.SectorView.space c.touch.new.space)) (TouchesFolder c.args.at.parent 0 1 c.take_off.new.volume c.touch.new.self (g.P.SectorView.space c.take_off.new.space).content (g.P.SectorView.space c.touch.new.space).content)
    (TakesFolder c.args.at.id (volume_of (g.P.SectorView.space c.args.space.now).content) (volume_of (g.P.SectorView.space c.touch.new.space).content)) c.touch.result c.touch.ensures.edits.ran.stands (c.touch.ensures.counts later)
    (λ stands t. emptied_takes c.args.volume.now (g.P.SectorView.space c.args.space.now) (c.requires.serves.stands.stands tells) (c.requires.serves.settled tells) c.args.at c.args.name.now (c.requires.leaving tells) c.take_off.new.volume (g.P.SectorView.space c.take_off.new.space)
    (has_name c.args.volume.now (g.P.SectorView.space c.args.space.now) (c.requires.serves.stands.stands tells) (c.requires.serves.settled tells) c.args.at c.args.name.now (c.requires.leaving tells)) (c.in_ok-take_off.ensures.drops tells)
    (c.requires.bare tells) c.touch.new.self (g.P.SectorView.space c.touch.new.space) (stands.stands last) t c.rmdir_does_its_step.ensures
    (threads_after c.args.volume.now (g.P.SectorView.space c.args.space.now) (c.requires.serves.stands.stands tells) (c.requires.serves.settled tells) c.args.at c.args.name.now (c.requires.leaving tells) c.take_off.new.volume (g.P.SectorView.space c.take_off.new.space)
    (has_name c.args.volume.now (g.P.SectorView.space c.args.space.now) (c.requires.serves.stands.stands tells) (c.requires.serves.settled tells) c.args.at c.args.name.now (c.requires.leaving tells)) (c.in_ok-take_off.ensures.drops tells) c.sound_has_plain_tree.ensures))

pub returns-then-shape-lt4096-clause-takes : goal.returns-then-shape-lt4096-clause-takes
returns-then-shape-lt4096-clause-takes g c tells =
    absurd (omega (arith, c.if-shape-lt4096.true, ap (λ (s : TreeShape). s.node_size) c.shape.ensures, node_large c.args.volume.now (g.P.SectorView.space c.args.space.now) c.requires.serves.stands tells))

pub returns-clause-counted : goal.returns-clause-counted
returns-clause-counted g c tells =
    let later = (c.take_off.ensures.edits.ran.touches (g.P.SectorView.space c.args.space.now).content).same.tells ∙ tells in
    omega (arith, c.take_off.ensures.counted tells, c.touch.ensures.edits.ran.spent later, ap (λ n. n / 512) (c.in_ok-take_off.ensures.drops tells).changes.nodes.1)

pub returns-in_err-take_off-clause-counted : goal.returns-in_err-take_off-clause-counted
returns-in_err-take_off-clause-counted g c tells = omega (arith, c.take_off.ensures.counted tells)

pub returns-then-shape-lt4096-clause-counted : goal.returns-then-shape-lt4096-clause-counted
returns-then-shape-lt4096-clause-counted g c tells =
    absurd (omega (arith, c.if-shape-lt4096.true, ap (λ (s : TreeShape). s.node_size) c.shape.ensures, node_large c.args.volume.now (g.P.SectorView.space c.args.space.now) c.requires.serves.stands tells))
