use Rattle.volume_names.proofs.LinkWeight.{again_puts}
use Rattle.std.proofs.Common.{◌≡◌, sym, ◌∙◌, ap, arith, ◌/◌}
use Rattle.btree_node.specs.declared.store.TreeShape.{TreeShape}
use Rattle.hfs_language.specs.declared.command.Command.TheVariants as command
use Rattle.hfs_model.specs.Step.{step}
use Rattle.hfs_volume.specs.TreeOf.{tree_of}
use Rattle.volume_base.specs.Changing.{TouchesFolder}
use Rattle.volume_names.specs.Linking.{LinksAgain}
use Rattle.volume_base.specs.Making.{free_place}
use Rattle.volume_base.specs.Standing.{IsSettled, StandsOver}
use Rattle.volume_base.proofs.FoundEntry.{ok_both}
use Rattle.volume_names.proofs.LinkMade.{above_after, linked_does, shared_added, threads_added, threads_counted, vacant}
use Rattle.volume_base.proofs.Replaced.{node_large}
use Rattle.volume_base.proofs.Framed.{edits_err, edits_none, edits_spent}
use Rattle.volume_base.proofs.Joined.{edits_both, edits_short}
use Rattle.volume_names.proofs.linking.link_again.Goals as goal

pub add_name-requires-clause-size : goal.add_name-requires-clause-size
add_name-requires-clause-size g c = omega (arith, c.if-shape-lt4096.false, ap (λ (s : TreeShape). s.node_size) c.shape.ensures)

pub add_name-requires-clause-free : goal.add_name-requires-clause-free
add_name-requires-clause-free g c tells =
    let links = c.requires.links tells in
    vacant c.args.volume.now (g.P.SectorView.space c.args.space.now) (c.requires.serves.settled tells) (c.requires.serves.stands.stands tells) links.0 links.1 links.2 c.args.way.now.parent c.args.old.now c.args.way.now.id c.args.way.now.folder c.args.name.now links.3

pub count_up-requires-clause-room : goal.count_up-requires-clause-room
count_up-requires-clause-room g c = c.in_ok-add_name.ensures.room

pub touch-requires-clause-room : goal.touch-requires-clause-room
touch-requires-clause-room g c = c.fits_update.ensures.room c.if-not-fits_update.false

pub count_up-requires-clause-threads : goal.count_up-requires-clause-threads
count_up-requires-clause-threads g c tells =
    let before = sym (c.add_name.ensures.edits.ran.touches (g.P.SectorView.space c.args.space.now).content).same.tells ∙ tells in
    let links = c.requires.links before in
    threads_added c.args.volume.now (g.P.SectorView.space c.args.space.now) (c.requires.serves.settled before) (c.requires.serves.stands.stands before) links.0 links.1 links.2 c.args.way.now.parent c.args.old.now c.args.way.now.id c.args.way.now.folder c.args.name.now links.3 c.args.reference (c.requires.link before) c.args.created
    c.add_name.new.volume (g.P.SectorView.space c.add_name.new.space) (c.in_ok-add_name.ensures.adds before)

pub count_up-requires-clause-there : goal.count_up-requires-clause-there
count_up-requires-clause-there g c tells =
    let before = sym (c.add_name.ensures.edits.ran.touches (g.P.SectorView.space c.args.space.now).content).same.tells ∙ tells in
    let links = c.requires.links before in
    shared_added c.args.volume.now (g.P.SectorView.space c.args.space.now) (c.requires.serves.settled before) (c.requires.serves.stands.stands before) links.0 links.1 links.2 c.args.way.now.parent c.args.old.now c.args.way.now.id c.args.way.now.folder c.args.name.now links.3 c.args.reference (c.requires.link before) c.args.created
    c.add_name.new.volume (g.P.SectorView.space c.add_name.new.space) (c.in_ok-add_name.ensures.adds before)

pub touch-requires-clause-threads : goal.touch-requires-clause-threads
touch-requires-clause-threads g c tells =
    let middle = sym (c.count_up.ensures.edits.ran.touches (g.P.SectorView.space c.args.space.now).content).same.tells ∙ tells in
    let before = sym (c.add_name.ensures.edits.ran.touches (g.P.SectorView.space c.args.space.now).content).same.tells ∙ middle in
    let links = c.requires.links before in
    threads_counted c.args.volume.now (g.P.SectorView.space c.args.space.now) (c.requires.serves.settled before) (c.requires.serves.stands.stands before) links.0 links.1 links.2 c.args.way.now.parent c.args.old.now c.args.way.now.id c.args.way.now.folder c.args.name.now links.3 c.args.reference (c.requires.link before) c.args.created
    c.add_name.new.volume (g.P.SectorView.space c.add_name.new.space) (c.in_ok-add_name.ensures.adds before) c.count_up.new.volume (g.P.SectorView.space c.count_up.new.space).content (c.in_ok-count_up.ensures.counts middle)

pub touch-requires-clause-there : goal.touch-requires-clause-there
touch-requires-clause-there g c tells =
    let middle = sym (c.count_up.ensures.edits.ran.touches (g.P.SectorView.space c.args.space.now).content).same.tells ∙ tells in
    let before = sym (c.add_name.ensures.edits.ran.touches (g.P.SectorView.space c.args.space.now).content).same.tells ∙ middle in
    let links = c.requires.links before in
    above_after c.args.volume.now (g.P.SectorView.space c.args.space.now) (c.requires.serves.settled before) (c.requires.serves.stands.stands before) links.0 links.1 links.2 c.args.way.now.parent c.args.old.now c.args.way.now.id c.args.way.now.folder c.args.name.now links.3 c.args.reference (c.requires.link before) c.args.created
    c.add_name.new.volume (g.P.SectorView.space c.add_name.new.space) (c.in_ok-add_name.ensures.adds before) c.count_up.new.volume (g.P.SectorView.space c.count_up.new.space).content (c.in_ok-count_up.ensures.counts middle) c.requires.room.ids

pub returns-clause-does : goal.returns-clause-does
returns-clause-does g c tells from to entry linking =
    let middle = (c.add_name.ensures.edits.ran.touches (g.P.SectorView.space c.args.space.now).content).same.tells ∙ tells in
    let later = (c.count_up.ensures.edits.ran.touches (g.P.SectorView.space c.args.space.now).content).same.tells ∙ middle in
    let last = (c.touch.ensures.edits.ran.touches (g.P.SectorView.space c.args.space.now).content).same.tells ∙ later in
    ok_both (StandsOver c.touch.new.self (g.P.SectorView.space c.touch.new.space)) (TouchesFolder c.args.way.now.folder 1 0 c.count_up.new.volume c.touch.new.self (g.P.SectorView.space c.count_up.new.space).content (g.P.SectorView.space c.touch.new.space).content)
    (IsSettled c.touch.new.self (g.P.SectorView.space c.touch.new.space).content × (tree_of (g.P.SectorView.space c.touch.new.space).content ≡ (step (tree_of (g.P.SectorView.space c.args.space.now).content) (command.Ln from to)).1)
    × LinksAgain entry (free_place c.args.way.now.folder c.args.name.now) (g.P.SectorView.space c.args.space.now).content (g.P.SectorView.space c.touch.new.space).content)
    c.touch.result c.touch.ensures.edits.ran.stands (c.touch.ensures.counts later)
    (λ stands t. linked_does c.args.volume.now (g.P.SectorView.space c.args.space.now) (c.requires.serves.settled tells) (c.requires.serves.stands.stands tells) from to entry c.args.way.now.parent c.args.old.now c.args.way.now.id c.args.way.now.folder c.args.name.now linking c.args.reference (c.requires.link tells) c.args.created
    c.add_name.new.volume (g.P.SectorView.space c.add_name.new.space) (c.in_ok-add_name.ensures.adds tells) c.count_up.new.volume (g.P.SectorView.space c.count_up.new.space).content (c.in_ok-count_up.ensures.counts middle)
    c.touch.new.self (g.P.SectorView.space c.touch.new.space) t (c.in_ok-add_name.ensures.edits.ran.stands.stands middle) (stands.stands last) c.ln_does_its_step.ensures)

pub returns-clause-edits : goal.returns-clause-edits
returns-clause-edits g c =
    edits_spent (edits_both g.met.P.SectorView.follows_trans c.add_name.ensures.edits (edits_both g.met.P.SectorView.follows_trans c.count_up.ensures.edits c.touch.ensures.edits)) (λ tells. omega arith)

pub returns-in_err-count_up-clause-edits : goal.returns-in_err-count_up-clause-edits
returns-in_err-count_up-clause-edits g c =
    edits_err c.from_residual-in_err-count_up.ensures.1 (edits_spent (edits_both g.met.P.SectorView.follows_trans c.add_name.ensures.edits c.in_err-count_up.ensures.edits) (λ tells. omega arith))

pub returns-then-not-fits_update-clause-edits : goal.returns-then-not-fits_update-clause-edits
returns-then-not-fits_update-clause-edits g c = edits_short (edits_spent (edits_both g.met.P.SectorView.follows_trans c.add_name.ensures.edits c.in_ok-count_up.ensures.edits) (λ tells. omega arith))

pub returns-then-shape-lt4096-clause-does : goal.returns-then-shape-lt4096-clause-does
returns-then-shape-lt4096-clause-does g c tells from to entry linking =
    absurd (omega (arith, c.if-shape-lt4096.true, ap (λ (s : TreeShape). s.node_size) c.shape.ensures, node_large c.args.volume.now (g.P.SectorView.space c.args.space.now) c.requires.serves.stands tells))

pub returns-then-shape-lt4096-clause-edits : goal.returns-then-shape-lt4096-clause-edits
returns-then-shape-lt4096-clause-edits g c = edits_none _ g.met.P.SectorView.follows_refl c.requires.serves.stands

pub returns-clause-loads : goal.returns-clause-loads
returns-clause-loads g c tells from to entry linking =
    let middle = (c.add_name.ensures.edits.ran.touches (g.P.SectorView.space c.args.space.now).content).same.tells ∙ tells in
    let later = (c.count_up.ensures.edits.ran.touches (g.P.SectorView.space c.args.space.now).content).same.tells ∙ middle in
    again_puts c.args.volume.now (g.P.SectorView.space c.args.space.now) (c.requires.serves.settled tells) (c.requires.serves.stands.stands tells) from to entry c.args.way.now.parent c.args.old.now c.args.way.now.id c.args.way.now.folder c.args.name.now linking c.args.reference (c.requires.link tells) (g.P.SectorView.space c.touch.new.space)
    (record { grown = (c.requires.room.told tells).2; spent = omega (arith, c.add_name.ensures.edits.ran.spent tells, c.count_up.ensures.edits.ran.spent middle, c.touch.ensures.edits.ran.spent later, ap (λ n. n / 512) (c.in_ok-add_name.ensures.adds tells).changes.nodes.1, ap (λ n. n / 512) (c.in_ok-count_up.ensures.counts middle).changes.nodes.1) })

pub returns-in_err-count_up-clause-loads : goal.returns-in_err-count_up-clause-loads
returns-in_err-count_up-clause-loads g c tells from to entry linking =
    let middle = (c.add_name.ensures.edits.ran.touches (g.P.SectorView.space c.args.space.now).content).same.tells ∙ tells in
    again_puts c.args.volume.now (g.P.SectorView.space c.args.space.now) (c.requires.serves.settled tells) (c.requires.serves.stands.stands tells) from to entry c.args.way.now.parent c.args.old.now c.args.way.now.id c.args.way.now.folder c.args.name.now linking c.args.reference (c.requires.link tells) (g.P.SectorView.space c.count_up.new.space) (record { grown = (c.requires.room.told tells).2; spent = omega (arith, c.add_name.ensures.edits.ran.spent tells, c.count_up.ensures.edits.ran.spent middle, ap (λ n. n / 512) (c.in_ok-add_name.ensures.adds tells).changes.nodes.1) })

pub returns-then-not-fits_update-clause-loads : goal.returns-then-not-fits_update-clause-loads
returns-then-not-fits_update-clause-loads g c tells from to entry linking =
    let middle = (c.add_name.ensures.edits.ran.touches (g.P.SectorView.space c.args.space.now).content).same.tells ∙ tells in
    again_puts c.args.volume.now (g.P.SectorView.space c.args.space.now) (c.requires.serves.settled tells) (c.requires.serves.stands.stands tells) from to entry c.args.way.now.parent c.args.old.now c.args.way.now.id c.args.way.now.folder c.args.name.now linking c.args.reference (c.requires.link tells) (g.P.SectorView.space c.count_up.new.space) (record { grown = (c.requires.room.told tells).2; spent = omega (arith, c.add_name.ensures.edits.ran.spent tells, c.count_up.ensures.edits.ran.spent middle, ap (λ n. n / 512) (c.in_ok-add_name.ensures.adds tells).changes.nodes.1) })

pub returns-in_err-add_name-clause-loads : goal.returns-in_err-add_name-clause-loads
returns-in_err-add_name-clause-loads g c tells from to entry linking =
    again_puts c.args.volume.now (g.P.SectorView.space c.args.space.now) (c.requires.serves.settled tells) (c.requires.serves.stands.stands tells) from to entry c.args.way.now.parent c.args.old.now c.args.way.now.id c.args.way.now.folder c.args.name.now linking c.args.reference (c.requires.link tells) (g.P.SectorView.space c.add_name.new.space) (record { grown = (c.requires.room.told tells).2; spent = omega (arith, c.add_name.ensures.edits.ran.spent tells) })

pub returns-then-shape-lt4096-clause-loads : goal.returns-then-shape-lt4096-clause-loads
returns-then-shape-lt4096-clause-loads g c tells from to entry linking n grow is = omega arith
