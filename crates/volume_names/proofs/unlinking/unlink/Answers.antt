use Rattle.std.proofs.Common.{◌≡◌, ◌+◌, ◌*◌, ◌/◌, sym, ◌∙◌, ap, arith}
use Rattle.btree_node.specs.declared.store.TreeShape.{TreeShape}
use Rattle.hfs_language.specs.declared.command.Command.TheVariants as command
use Rattle.hfs_model.specs.Step.{step}
use Rattle.hfs_volume.specs.TreeOf.{tree_of}
use Rattle.volume_base.specs.Changing.{TouchesFolder, catalog_node}
use Rattle.volume_base.specs.Standing.{IsSettled, StandsOver}
use Rattle.volume_names.specs.Unlinking.{Unlinks}
use Rattle.volume_base.proofs.FoundEntry.{ok_both, ok_so}
use Rattle.volume_names.proofs.LinkLost.{above_after, shared_left, threads_counted, threads_dropped, unlinked_does}
use Rattle.volume_base.proofs.Replaced.{node_large}
use Rattle.volume_base.proofs.Framed.{edits_err, edits_none, edits_spent}
use Rattle.volume_base.proofs.Joined.{edits_both, edits_short}
use Rattle.volume_names.specs.LossLoads.{LeavesOthers}
use Rattle.volume_names.specs.EditsLeft.{LeavesBeside}
use Rattle.volume_names.proofs.EditsLeft.{left_fewer}
use Rattle.volume_names.proofs.unlinking.unlink.Goals as goal

pub drop_name-requires-clause-size : goal.drop_name-requires-clause-size
drop_name-requires-clause-size g c = omega (arith, c.if-shape-lt4096.false, ap (λ (s : TreeShape). s.node_size) c.shape.ensures)

pub count_down-requires-clause-room : goal.count_down-requires-clause-room
count_down-requires-clause-room g c = c.in_ok-drop_name.ensures.room

pub touch-requires-clause-room : goal.touch-requires-clause-room
touch-requires-clause-room g c = c.fits_update.ensures.room c.if-not-fits_update.false

pub count_down-requires-clause-threads : goal.count_down-requires-clause-threads
count_down-requires-clause-threads g c tells =
    let before = sym (c.drop_name.ensures.edits.ran.touches (g.P.SectorView.space c.args.space.now).content).same.tells ∙ tells in
    let loses = c.requires.loses before in
    threads_dropped c.args.volume.now (g.P.SectorView.space c.args.space.now) (c.requires.serves.settled before) (c.requires.serves.stands.stands before) loses.0 loses.1 c.args.at.now loses.2 (c.requires.link before) c.args.id loses.3 c.requires.serves.stands.service.fits.next_catalog_id
    c.drop_name.new.volume (g.P.SectorView.space c.drop_name.new.space).content (c.in_ok-drop_name.ensures.drops before)

pub count_down-requires-clause-there : goal.count_down-requires-clause-there
count_down-requires-clause-there g c tells =
    let before = sym (c.drop_name.ensures.edits.ran.touches (g.P.SectorView.space c.args.space.now).content).same.tells ∙ tells in
    let loses = c.requires.loses before in
    shared_left c.args.volume.now (g.P.SectorView.space c.args.space.now) (c.requires.serves.settled before) (c.requires.serves.stands.stands before) loses.0 loses.1 c.args.at.now loses.2 (c.requires.link before) c.args.id loses.3 c.requires.serves.stands.service.fits.next_catalog_id
    c.drop_name.new.volume (g.P.SectorView.space c.drop_name.new.space).content (c.in_ok-drop_name.ensures.drops before)

pub touch-requires-clause-threads : goal.touch-requires-clause-threads
touch-requires-clause-threads g c tells =
    let middle = sym (c.count_down.ensures.edits.ran.touches (g.P.SectorView.space c.args.space.now).content).same.tells ∙ tells in
    let before = sym (c.drop_name.ensures.edits.ran.touches (g.P.SectorView.space c.args.space.now).content).same.tells ∙ middle in
    let loses = c.requires.loses before in
    threads_counted c.args.volume.now (g.P.SectorView.space c.args.space.now) (c.requires.serves.settled before) (c.requires.serves.stands.stands before) loses.0 loses.1 c.args.at.now loses.2 (c.requires.link before) c.args.id loses.3 c.requires.serves.stands.service.fits.next_catalog_id
    c.drop_name.new.volume (g.P.SectorView.space c.drop_name.new.space).content (c.in_ok-drop_name.ensures.drops before) c.count_down.new.volume (g.P.SectorView.space c.count_down.new.space).content (c.in_ok-count_down.ensures.counts middle)

pub touch-requires-clause-there : goal.touch-requires-clause-there
touch-requires-clause-there g c tells =
    let middle = sym (c.count_down.ensures.edits.ran.touches (g.P.SectorView.space c.args.space.now).content).same.tells ∙ tells in
    let before = sym (c.drop_name.ensures.edits.ran.touches (g.P.SectorView.space c.args.space.now).content).same.tells ∙ middle in
    let loses = c.requires.loses before in
    above_after c.args.volume.now (g.P.SectorView.space c.args.space.now) (c.requires.serves.settled before) (c.requires.serves.stands.stands before) loses.0 loses.1 c.args.at.now loses.2 (c.requires.link before) c.args.id loses.3 c.requires.serves.stands.service.fits.next_catalog_id
    c.drop_name.new.volume (g.P.SectorView.space c.drop_name.new.space).content (c.in_ok-drop_name.ensures.drops before) c.count_down.new.volume (g.P.SectorView.space c.count_down.new.space).content (c.in_ok-count_down.ensures.counts middle)

pub returns-clause-does : goal.returns-clause-does
returns-clause-does g c tells path entry loss same =
    let middle = (c.drop_name.ensures.edits.ran.touches (g.P.SectorView.space c.args.space.now).content).same.tells ∙ tells in
    let later = (c.count_down.ensures.edits.ran.touches (g.P.SectorView.space c.args.space.now).content).same.tells ∙ middle in
    let last = (c.touch.ensures.edits.ran.touches (g.P.SectorView.space c.args.space.now).content).same.tells ∙ later in
    ok_both (StandsOver c.touch.new.volume (g.P.SectorView.space c.touch.new.space)) (TouchesFolder c.args.at.now.parent 0 1 c.count_down.new.volume c.touch.new.volume (g.P.SectorView.space c.count_down.new.space).content (g.P.SectorView.space c.touch.new.space).content)
    (IsSettled c.touch.new.volume (g.P.SectorView.space c.touch.new.space).content × (tree_of (g.P.SectorView.space c.touch.new.space).content ≡ (step (tree_of (g.P.SectorView.space c.args.space.now).content) (command.Rm path)).1)
    × Unlinks entry (g.P.SectorView.space c.args.space.now).content (g.P.SectorView.space c.touch.new.space).content)
    c.touch.result c.touch.ensures.edits.ran.stands (c.touch.ensures.counts later)
    (λ stands t. unlinked_does c.args.volume.now (g.P.SectorView.space c.args.space.now) (c.requires.serves.settled tells) (c.requires.serves.stands.stands tells) path entry c.args.at.now loss (c.requires.link tells) c.args.id same c.requires.serves.stands.service.fits.next_catalog_id
    c.drop_name.new.volume (g.P.SectorView.space c.drop_name.new.space).content (c.in_ok-drop_name.ensures.drops tells) c.count_down.new.volume (g.P.SectorView.space c.count_down.new.space).content (c.in_ok-count_down.ensures.counts middle)
    c.touch.new.volume (g.P.SectorView.space c.touch.new.space) t (stands.stands last) c.rm_does_its_step.ensures)

pub returns-clause-edits : goal.returns-clause-edits
returns-clause-edits g c =
    edits_spent (edits_both g.met.P.SectorView.follows_trans c.drop_name.ensures.edits (edits_both g.met.P.SectorView.follows_trans c.count_down.ensures.edits c.touch.ensures.edits)) (λ tells. let middle = (c.drop_name.ensures.edits.ran.touches (g.P.SectorView.space c.args.space.now).content).same.tells ∙ tells in
    let later = (c.count_down.ensures.edits.ran.touches (g.P.SectorView.space c.args.space.now).content).same.tells ∙ middle in
    omega (
      arith,
      c.drop_name.ensures.edits.ran.spent tells,
      c.count_down.ensures.edits.ran.spent middle,
      c.touch.ensures.edits.ran.spent later,
      ap (λ n. n / 512) (c.in_ok-drop_name.ensures.drops tells).changes.nodes.1,
      ap (λ n. n / 512) (c.in_ok-count_down.ensures.counts middle).changes.nodes.1,
    ))

pub returns-in_err-count_down-clause-edits : goal.returns-in_err-count_down-clause-edits
returns-in_err-count_down-clause-edits g c =
    edits_err c.from_residual-in_err-count_down.ensures.1 (edits_spent (edits_both g.met.P.SectorView.follows_trans c.drop_name.ensures.edits c.in_err-count_down.ensures.edits) (λ tells. let middle = (c.drop_name.ensures.edits.ran.touches (g.P.SectorView.space c.args.space.now).content).same.tells ∙ tells in
    omega (arith, c.drop_name.ensures.edits.ran.spent tells, c.count_down.ensures.edits.ran.spent middle, ap (λ n. n / 512) (c.in_ok-drop_name.ensures.drops tells).changes.nodes.1)))

pub returns-then-not-fits_update-clause-edits : goal.returns-then-not-fits_update-clause-edits
returns-then-not-fits_update-clause-edits g c =
    edits_short (edits_spent (edits_both g.met.P.SectorView.follows_trans c.drop_name.ensures.edits c.in_ok-count_down.ensures.edits) (λ tells. let middle = (c.drop_name.ensures.edits.ran.touches (g.P.SectorView.space c.args.space.now).content).same.tells ∙ tells in
    omega (arith, c.drop_name.ensures.edits.ran.spent tells, c.count_down.ensures.edits.ran.spent middle, ap (λ n. n / 512) (c.in_ok-drop_name.ensures.drops tells).changes.nodes.1)))

pub returns-then-shape-lt4096-clause-does : goal.returns-then-shape-lt4096-clause-does
returns-then-shape-lt4096-clause-does g c tells path entry loss same =
    absurd (omega (arith, c.if-shape-lt4096.true, ap (λ (s : TreeShape). s.node_size) c.shape.ensures, node_large c.args.volume.now (g.P.SectorView.space c.args.space.now) c.requires.serves.stands tells))

pub returns-then-shape-lt4096-clause-edits : goal.returns-then-shape-lt4096-clause-edits
returns-then-shape-lt4096-clause-edits g c = edits_none _ g.met.P.SectorView.follows_refl c.requires.serves.stands

pub returns-in_err-drop_name-clause-edits : goal.returns-in_err-drop_name-clause-edits
returns-in_err-drop_name-clause-edits g c =
    edits_err c.from_residual.ensures.1 (edits_spent c.in_err-drop_name.ensures.edits (λ tells. omega (arith, c.drop_name.ensures.edits.ran.spent tells)))

pub returns-clause-leaves : goal.returns-clause-leaves
returns-clause-leaves g c tells =
    let v = c.args.volume.now in
    let old = g.P.SectorView.space c.args.space.now in
    let dropped = g.P.SectorView.space c.drop_name.new.space in
    let counted = g.P.SectorView.space c.count_down.new.space in
    let new = g.P.SectorView.space c.touch.new.space in
    let middle = (c.drop_name.ensures.edits.ran.touches old.content).same.tells ∙ tells in
    let size = (c.in_ok-drop_name.ensures.drops tells).changes.nodes.1 in
    let later = (c.in_ok-count_down.ensures.counts middle).changes.nodes.1 in
    ok_so (LeavesBeside c.count_down.new.volume counted c.touch.new.volume new) (LeavesOthers 2 v old c.touch.new.volume new) c.touch.result c.touch.ensures.left
    (λ left. (
      ap (λ n. n / 512) c.touch.ensures.size ∙ ap (λ n. n / 512) later ∙ ap (λ n. n / 512) size,
      λ others beside load.
          let first = left_fewer c.drop_name.new.volume dropped others (3 * catalog_node v + beside) (catalog_node c.drop_name.new.volume + (2 * catalog_node v + beside)) (λ told. omega (arith, c.if-shape-lt4096.false, ap (λ (s : TreeShape). s.node_size) c.shape.ensures, size)) (omega (arith, ap (λ n. n / 512) size))
          (c.in_ok-drop_name.ensures.leaves others (3 * catalog_node v + beside) load) in
          let second = left_fewer c.count_down.new.volume counted others (2 * catalog_node v + beside) (catalog_node c.count_down.new.volume + beside) (λ told. omega (arith, c.if-shape-lt4096.false, ap (λ (s : TreeShape). s.node_size) c.shape.ensures, size, later)) (omega (arith, ap (λ n. n / 512) size, ap (λ n. n / 512) later))
          (c.in_ok-count_down.ensures.left others (2 * catalog_node v + beside) first) in
          left others beside second,
    ))

pub returns-then-shape-lt4096-clause-leaves : goal.returns-then-shape-lt4096-clause-leaves
returns-then-shape-lt4096-clause-leaves g c tells = absurd (omega (arith, c.if-shape-lt4096.true, ap (λ (s : TreeShape). s.node_size) c.shape.ensures, node_large c.args.volume.now (g.P.SectorView.space c.args.space.now) c.requires.serves.stands tells))
