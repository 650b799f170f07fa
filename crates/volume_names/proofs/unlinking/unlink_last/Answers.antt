use Rattle.std.proofs.Common.{◌≡◌, ◌+◌, ◌*◌, sym, ◌∙◌, ap, arith, [], ◌/◌, inl, inr}
use Rattle.btree_node.specs.declared.store.TreeShape.{TreeShape}
use Rattle.hfs_language.specs.declared.command.Command.TheVariants as command
use Rattle.hfs_model.specs.Step.{step}
use Rattle.hfs_volume.specs.TreeOf.{tree_of}
use Rattle.volume_base.specs.Changing.{TouchesFolder, catalog_node}
use Rattle.volume_base.specs.Standing.{IsSettled, StandsOver}
use Rattle.volume_names.specs.Unlinking.{UnlinksLast}
use Rattle.volume_names.proofs.Buried.{puts_aside}
use Rattle.volume_base.proofs.FoundEntry.{ok_both, ok_so}
use Rattle.volume_names.proofs.LastLost.{above_waiting, file_left, last_does, named_file, threads_waiting}
use Rattle.volume_names.proofs.LinkLost.{threads_dropped}
use Rattle.volume_base.proofs.Replaced.{node_large}
use Rattle.volume_names.proofs.EditsLeft.{left_edited, left_fewer, spare_edited}
use Rattle.volume_names.proofs.LossLoads.{load_last, load_two, rest_last}
use Rattle.volume_base.proofs.Framed.{edits_err, edits_none, edits_spent}
use Rattle.volume_base.proofs.Joined.{edits_both, edits_wanting, edits_short}
use Rattle.volume_names.specs.EditsLeft.{LeavesBeside}
use Rattle.volume_names.specs.LossLoads.{LeavesOthers}
use Rattle.volume_names.proofs.unlinking.unlink_last.Goals as goal

pub drop_name-requires-clause-size : goal.drop_name-requires-clause-size
drop_name-requires-clause-size g c = omega (arith, c.if-shape-lt4096.false, ap (λ (s : TreeShape). s.node_size) c.shape.ensures)

pub touch-requires-clause-room : goal.touch-requires-clause-room
touch-requires-clause-room g c = c.fits_update.ensures.room c.if-not-fits_update.false

pub returns-clause-edits : goal.returns-clause-edits
returns-clause-edits g c =
    edits_spent (edits_both g.met.P.SectorView.follows_trans c.drop_name.ensures.edits (edits_both g.met.P.SectorView.follows_trans c.set_aside.ensures.edits c.touch.ensures.edits)) (λ tells. omega arith)

pub returns-in_err-set_aside-clause-edits : goal.returns-in_err-set_aside-clause-edits
returns-in_err-set_aside-clause-edits g c =
    edits_err c.from_residual-in_err-set_aside.ensures.1 (edits_spent (edits_both g.met.P.SectorView.follows_trans c.drop_name.ensures.edits c.in_err-set_aside.ensures.edits) (λ tells. omega arith))

pub returns-then-not-fits_update-clause-edits : goal.returns-then-not-fits_update-clause-edits
returns-then-not-fits_update-clause-edits g c = edits_short (edits_spent (edits_both g.met.P.SectorView.follows_trans c.drop_name.ensures.edits c.in_ok-set_aside.ensures.edits) (λ tells. omega arith))

pub returns-then-shape-lt4096-clause-does : goal.returns-then-shape-lt4096-clause-does
returns-then-shape-lt4096-clause-does g c tells path entry loss same =
    absurd (omega (arith, c.if-shape-lt4096.true, ap (λ (s : TreeShape). s.node_size) c.shape.ensures, node_large c.args.volume.now (g.P.SectorView.space c.args.space.now) c.requires.serves.stands tells))

pub returns-then-shape-lt4096-clause-edits : goal.returns-then-shape-lt4096-clause-edits
returns-then-shape-lt4096-clause-edits g c = edits_none _ g.met.P.SectorView.follows_refl c.requires.serves.stands

pub drop_name-requires-clause-room : goal.drop_name-requires-clause-room
drop_name-requires-clause-room g c = c.requires.room

pub set_aside-requires-clause-size : goal.set_aside-requires-clause-size
set_aside-requires-clause-size g c = omega (arith, c.if-shape-lt4096.false, ap (λ (s : TreeShape). s.node_size) c.shape.ensures, c.in_ok-drop_name.ensures.size)

pub set_aside-requires-clause-room : goal.set_aside-requires-clause-room
set_aside-requires-clause-room g c names = c.in_ok-drop_name.ensures.more (c.fits_unlink_last.ensures c.if-not-fits_unlink_last.false) names

pub set_aside-requires-clause-threads : goal.set_aside-requires-clause-threads
set_aside-requires-clause-threads g c tells =
    let before = sym (c.drop_name.ensures.edits.ran.touches (g.P.SectorView.space c.args.space.now).content).same.tells ∙ tells in
    let loses = c.requires.loses before in
    threads_dropped c.args.volume.now (g.P.SectorView.space c.args.space.now) (c.requires.serves.settled before) (c.requires.serves.stands.stands before) loses.0 loses.1 c.args.at.now loses.2 (c.requires.link before) c.args.id loses.3 c.requires.serves.stands.service.fits.next_catalog_id
    c.drop_name.new.volume (g.P.SectorView.space c.drop_name.new.space).content (c.in_ok-drop_name.ensures.drops before)

pub set_aside-requires-clause-file : goal.set_aside-requires-clause-file
set_aside-requires-clause-file g c tells =
    let middle = tells in
    let before = sym (c.drop_name.ensures.edits.ran.touches (g.P.SectorView.space c.args.space.now).content).same.tells ∙ tells in
    let loses = c.requires.loses before in
    file_left c.args.volume.now (g.P.SectorView.space c.args.space.now) (c.requires.serves.settled before) (c.requires.serves.stands.stands before) loses.0 loses.1 c.args.at.now loses.2 (c.requires.link before) c.args.id loses.3 c.requires.serves.stands.service.fits.next_catalog_id c.args.file.now (c.requires.last before) (named_file c.args.file.now.name c.requires.some_file) c.args.private c.requires.private
    c.drop_name.new.volume (g.P.SectorView.space c.drop_name.new.space).content (c.in_ok-drop_name.ensures.drops before) (c.in_ok-drop_name.ensures.edits.ran.stands.stands middle).trees

pub touch-requires-clause-threads : goal.touch-requires-clause-threads
touch-requires-clause-threads g c tells =
    let later = tells in
    let middle = sym c.set_aside.ensures.frame.space.same.tells ∙ tells in
    let before = sym (c.drop_name.ensures.edits.ran.touches (g.P.SectorView.space c.args.space.now).content).same.tells ∙ middle in
    let loses = c.requires.loses before in
    threads_waiting c.args.volume.now (g.P.SectorView.space c.args.space.now) (c.requires.serves.settled before) (c.requires.serves.stands.stands before) loses.0 loses.1 c.args.at.now loses.2 (c.requires.link before) c.args.id loses.3 c.requires.serves.stands.service.fits.next_catalog_id c.args.file.now (c.requires.last before) (named_file c.args.file.now.name c.requires.some_file) c.args.private c.requires.private
    c.drop_name.new.volume (g.P.SectorView.space c.drop_name.new.space).content (c.in_ok-drop_name.ensures.drops before) (c.in_ok-drop_name.ensures.edits.ran.stands.stands middle).trees
    c.set_aside.new.volume (g.P.SectorView.space c.set_aside.new.space).content (puts_aside c.drop_name.new.volume c.set_aside.new.volume (g.P.SectorView.space c.drop_name.new.space) (g.P.SectorView.space c.set_aside.new.space) c.args.private c.args.file.now (c.in_ok-drop_name.ensures.edits.ran.stands.stands middle) middle c.set_aside.ensures.frame c.set_aside.ensures.rest (c.in_ok-set_aside.ensures.edits.ran.stands.stands later) (c.in_ok-set_aside.ensures.moved middle)) (c.in_ok-set_aside.ensures.edits.ran.stands.stands later).trees

pub touch-requires-clause-there : goal.touch-requires-clause-there
touch-requires-clause-there g c tells =
    let later = tells in
    let middle = sym c.set_aside.ensures.frame.space.same.tells ∙ tells in
    let before = sym (c.drop_name.ensures.edits.ran.touches (g.P.SectorView.space c.args.space.now).content).same.tells ∙ middle in
    let loses = c.requires.loses before in
    above_waiting c.args.volume.now (g.P.SectorView.space c.args.space.now) (c.requires.serves.settled before) (c.requires.serves.stands.stands before) loses.0 loses.1 c.args.at.now loses.2 (c.requires.link before) c.args.id loses.3 c.requires.serves.stands.service.fits.next_catalog_id c.args.file.now (c.requires.last before) (named_file c.args.file.now.name c.requires.some_file) c.args.private c.requires.private
    c.drop_name.new.volume (g.P.SectorView.space c.drop_name.new.space).content (c.in_ok-drop_name.ensures.drops before) (c.in_ok-drop_name.ensures.edits.ran.stands.stands middle).trees
    c.set_aside.new.volume (g.P.SectorView.space c.set_aside.new.space).content (puts_aside c.drop_name.new.volume c.set_aside.new.volume (g.P.SectorView.space c.drop_name.new.space) (g.P.SectorView.space c.set_aside.new.space) c.args.private c.args.file.now (c.in_ok-drop_name.ensures.edits.ran.stands.stands middle) middle c.set_aside.ensures.frame c.set_aside.ensures.rest (c.in_ok-set_aside.ensures.edits.ran.stands.stands later) (c.in_ok-set_aside.ensures.moved middle)) (c.in_ok-set_aside.ensures.edits.ran.stands.stands later).trees

pub returns-clause-does : goal.returns-clause-does
returns-clause-does g c tells path entry loss same =
    let before = tells in
    let middle = (c.drop_name.ensures.edits.ran.touches (g.P.SectorView.space c.args.space.now).content).same.tells ∙ tells in
    let later = c.set_aside.ensures.frame.space.same.tells ∙ middle in
    let last = (c.touch.ensures.edits.ran.touches (g.P.SectorView.space c.args.space.now).content).same.tells ∙ later in
    ok_both (StandsOver c.touch.new.volume (g.P.SectorView.space c.touch.new.space)) (TouchesFolder c.args.at.now.parent 0 1 c.set_aside.new.volume c.touch.new.volume (g.P.SectorView.space c.set_aside.new.space).content (g.P.SectorView.space c.touch.new.space).content)
    (IsSettled c.touch.new.volume (g.P.SectorView.space c.touch.new.space).content × (tree_of (g.P.SectorView.space c.touch.new.space).content ≡ (step (tree_of (g.P.SectorView.space c.args.space.now).content) (command.Rm path)).1)
    × UnlinksLast entry (g.P.SectorView.space c.args.space.now).content (g.P.SectorView.space c.touch.new.space).content)
    c.touch.result c.touch.ensures.edits.ran.stands (c.touch.ensures.counts later)
    (λ stands t. last_does c.args.volume.now (g.P.SectorView.space c.args.space.now) (c.requires.serves.settled before) (c.requires.serves.stands.stands before) path entry c.args.at.now loss (c.requires.link before) c.args.id same c.requires.serves.stands.service.fits.next_catalog_id c.args.file.now (c.requires.last before) (named_file c.args.file.now.name c.requires.some_file) c.args.private c.requires.private
    c.drop_name.new.volume (g.P.SectorView.space c.drop_name.new.space).content (c.in_ok-drop_name.ensures.drops before) (c.in_ok-drop_name.ensures.edits.ran.stands.stands middle).trees
    c.set_aside.new.volume (g.P.SectorView.space c.set_aside.new.space).content (puts_aside c.drop_name.new.volume c.set_aside.new.volume (g.P.SectorView.space c.drop_name.new.space) (g.P.SectorView.space c.set_aside.new.space) c.args.private c.args.file.now (c.in_ok-drop_name.ensures.edits.ran.stands.stands middle) middle c.set_aside.ensures.frame c.set_aside.ensures.rest (c.in_ok-set_aside.ensures.edits.ran.stands.stands later) (c.in_ok-set_aside.ensures.moved middle)) (c.in_ok-set_aside.ensures.edits.ran.stands.stands later).trees
    c.touch.new.volume (g.P.SectorView.space c.touch.new.space) t (stands.stands last) c.rm_does_its_step.ensures)

pub returns-clause-spends : goal.returns-clause-spends
returns-clause-spends g c tells =
    let middle = (c.drop_name.ensures.edits.ran.touches (g.P.SectorView.space c.args.space.now).content).same.tells ∙ tells in
    let later = c.set_aside.ensures.frame.space.same.tells ∙ middle in
    let load = load_last c.args.volume.now (g.P.SectorView.space c.args.space.now) (c.fits_unlink_last.ensures c.if-not-fits_unlink_last.false) in
    let left = spare_edited 3 0 (rest_last c.args.volume.now (g.P.SectorView.space c.args.space.now)) c.drop_name.new.volume c.set_aside.new.volume (g.P.SectorView.space c.drop_name.new.space) (g.P.SectorView.space c.set_aside.new.space)
    (λ told. omega (arith, c.if-shape-lt4096.false, ap (λ (s : TreeShape). s.node_size) c.shape.ensures, c.in_ok-drop_name.ensures.size)) (c.set_aside.ensures.takes []) (c.in_ok-drop_name.ensures.leaves 3 (rest_last c.args.volume.now (g.P.SectorView.space c.args.space.now)) load) middle in
    inr (record {
      grown = load.grown tells;
      spent = omega (arith, left, c.touch.ensures.edits.ran.spent later, load.load tells, ap (λ n. n / 512) c.set_aside.ensures.frame.file.node_size, ap (λ n. n / 512) c.in_ok-drop_name.ensures.size);
    })

pub returns-in_err-set_aside-clause-spends : goal.returns-in_err-set_aside-clause-spends
returns-in_err-set_aside-clause-spends g c tells =
    let middle = (c.drop_name.ensures.edits.ran.touches (g.P.SectorView.space c.args.space.now).content).same.tells ∙ tells in
    let load = load_last c.args.volume.now (g.P.SectorView.space c.args.space.now) (c.fits_unlink_last.ensures c.if-not-fits_unlink_last.false) in
    let left = spare_edited 3 0 (rest_last c.args.volume.now (g.P.SectorView.space c.args.space.now)) c.drop_name.new.volume c.set_aside.new.volume (g.P.SectorView.space c.drop_name.new.space) (g.P.SectorView.space c.set_aside.new.space)
    (λ told. omega (arith, c.if-shape-lt4096.false, ap (λ (s : TreeShape). s.node_size) c.shape.ensures, c.in_ok-drop_name.ensures.size)) (c.set_aside.ensures.takes []) (c.in_ok-drop_name.ensures.leaves 3 (rest_last c.args.volume.now (g.P.SectorView.space c.args.space.now)) load) middle in
    inr (record { grown = load.grown tells; spent = omega (arith, left, load.load tells) })

pub returns-then-not-fits_update-clause-spends : goal.returns-then-not-fits_update-clause-spends
returns-then-not-fits_update-clause-spends g c tells =
    let middle = (c.drop_name.ensures.edits.ran.touches (g.P.SectorView.space c.args.space.now).content).same.tells ∙ tells in
    let load = load_last c.args.volume.now (g.P.SectorView.space c.args.space.now) (c.fits_unlink_last.ensures c.if-not-fits_unlink_last.false) in
    let left = spare_edited 3 0 (rest_last c.args.volume.now (g.P.SectorView.space c.args.space.now)) c.drop_name.new.volume c.set_aside.new.volume (g.P.SectorView.space c.drop_name.new.space) (g.P.SectorView.space c.set_aside.new.space)
    (λ told. omega (arith, c.if-shape-lt4096.false, ap (λ (s : TreeShape). s.node_size) c.shape.ensures, c.in_ok-drop_name.ensures.size)) (c.set_aside.ensures.takes []) (c.in_ok-drop_name.ensures.leaves 3 (rest_last c.args.volume.now (g.P.SectorView.space c.args.space.now)) load) middle in
    inr (record { grown = load.grown tells; spent = omega (arith, left, load.load tells) })

pub returns-in_err-drop_name-clause-spends : goal.returns-in_err-drop_name-clause-spends
returns-in_err-drop_name-clause-spends g c tells =
    let load = load_last c.args.volume.now (g.P.SectorView.space c.args.space.now) (c.fits_unlink_last.ensures c.if-not-fits_unlink_last.false) in
    inr (record { grown = load.grown tells; spent = omega (arith, c.drop_name.ensures.beside 3 (rest_last c.args.volume.now (g.P.SectorView.space c.args.space.now)) load tells, load.load tells) })

pub returns-then-shape-lt4096-clause-spends : goal.returns-then-shape-lt4096-clause-spends
returns-then-shape-lt4096-clause-spends g c tells = inl (omega arith)

pub returns-then-not-fits_unlink_last-clause-spends : goal.returns-then-not-fits_unlink_last-clause-spends
returns-then-not-fits_unlink_last-clause-spends g c tells = inl (omega arith)

pub returns-then-not-fits_unlink_last-clause-edits : goal.returns-then-not-fits_unlink_last-clause-edits
returns-then-not-fits_unlink_last-clause-edits g c = edits_wanting _ g.met.P.SectorView.follows_refl c.requires.serves.stands

pub returns-clause-leaves : goal.returns-clause-leaves
returns-clause-leaves g c tells =
    let v = c.args.volume.now in
    let dropped = g.P.SectorView.space c.drop_name.new.space in
    let aside = g.P.SectorView.space c.set_aside.new.space in
    let new = g.P.SectorView.space c.touch.new.space in
    let size = c.in_ok-drop_name.ensures.size in
    let later = c.set_aside.ensures.frame.file.node_size in
    ok_so (LeavesBeside c.set_aside.new.volume aside c.touch.new.volume new) (LeavesOthers 5 v (g.P.SectorView.space c.args.space.now) c.touch.new.volume new) c.touch.result c.touch.ensures.left
    (λ left. (
      ap (λ n. n / 512) c.touch.ensures.size ∙ ap (λ n. n / 512) later ∙ ap (λ n. n / 512) size,
      λ others beside load.
          let first = c.in_ok-drop_name.ensures.leaves (3 + others) (catalog_node v + beside) (load_two others (1 + (3 * catalog_node v + beside)) (1 + (catalog_node v + beside)) v (g.P.SectorView.space c.args.space.now) (omega arith) load) in
          let second = left_edited 3 others (catalog_node v + beside) c.drop_name.new.volume c.set_aside.new.volume dropped aside (λ told. omega (arith, c.if-shape-lt4096.false, ap (λ (s : TreeShape). s.node_size) c.shape.ensures, size)) c.set_aside.ensures.frame.space.same.tells (c.in_ok-set_aside.ensures.takes_edits []) first in
          left others beside
          (left_fewer c.set_aside.new.volume aside others (catalog_node v + beside) (catalog_node c.set_aside.new.volume + beside) (λ told. omega (arith, c.if-shape-lt4096.false, ap (λ (s : TreeShape). s.node_size) c.shape.ensures, size, later)) (omega (arith, ap (λ n. n / 512) size, ap (λ n. n / 512) later)) second),
    ))

pub returns-then-shape-lt4096-clause-leaves : goal.returns-then-shape-lt4096-clause-leaves
returns-then-shape-lt4096-clause-leaves g c tells = absurd (omega (arith, c.if-shape-lt4096.true, ap (λ (s : TreeShape). s.node_size) c.shape.ensures, node_large c.args.volume.now (g.P.SectorView.space c.args.space.now) c.requires.serves.stands tells))
