use Rattle.std.proofs.Common.{◌≡◌, ◌^◌, sym, ◌∙◌, ap, arith, ◌/◌}
use Rattle.std.proofs.lemmas.Bool.{lt-ltb}
use Rattle.hfs_language.specs.declared.command.Command.TheVariants as command
use Rattle.hfs_model.specs.Step.{step}
use Rattle.hfs_volume.specs.Content.{volume_of}
use Rattle.hfs_volume.specs.Naming.{LinksFirst}
use Rattle.hfs_volume.specs.TreeOf.{tree_of}
use Rattle.volume_base.specs.Changing.{TouchesFolder}
use Rattle.volume_base.specs.Making.{free_place}
use Rattle.volume_base.specs.Standing.{IsSettled, StandsOver}
use Rattle.volume_names.proofs.FirstBoth.{first_done, goal_said, private_linked, shared_filled, threads_filled, threads_linked, threads_said}
use Rattle.volume_base.proofs.FoundEntry.{ok_both}
use Rattle.volume_names.proofs.EditsLeft.{first_update}
use Rattle.volume_base.proofs.Framed.{edits_err, edits_spent}
use Rattle.volume_base.proofs.Joined.{edits_both}
use Rattle.volume_names.proofs.first_links.link_under.Goals as goal

pub touch-requires-clause-threads : goal.touch-requires-clause-threads
touch-requires-clause-threads g c tells =
    let before = sym (c.share.ensures.edits.ran.touches (g.P.SectorView.space c.args.space.now).content).same.tells ∙ tells in
    let links = c.requires.links before in
    threads_linked c.args.volume.now (g.P.SectorView.space c.args.space.now) (c.requires.serves.settled before) (c.requires.serves.stands.stands before) links.0 links.1 links.2 c.args.way.now.parent c.args.old.now c.args.way.now.id c.args.way.now.folder c.args.name.now links.3 (c.requires.only before) c.args.private c.requires.private (c.requires.room.ids before) c.args.number (lt-ltb c.args.number (2 ^ 32) c.ranges.number.fits) (c.requires.free before) c.args.created c.share.new.volume (g.P.SectorView.space c.share.new.space).content (c.in_ok-share.ensures.both before)

pub touch-requires-clause-there : goal.touch-requires-clause-there
touch-requires-clause-there g c tells =
    let before = sym (c.share.ensures.edits.ran.touches (g.P.SectorView.space c.args.space.now).content).same.tells ∙ tells in
    let links = c.requires.links before in
    private_linked c.args.volume.now (g.P.SectorView.space c.args.space.now) (c.requires.serves.settled before) (c.requires.serves.stands.stands before) links.0 links.1 links.2 c.args.way.now.parent c.args.old.now c.args.way.now.id c.args.way.now.folder c.args.name.now links.3 (c.requires.only before) c.args.private c.requires.private (c.requires.room.ids before) c.args.number (lt-ltb c.args.number (2 ^ 32) c.ranges.number.fits) (c.requires.free before) c.args.created c.share.new.volume (g.P.SectorView.space c.share.new.space).content (c.in_ok-share.ensures.both before)

pub say_two-requires-clause-threads : goal.say_two-requires-clause-threads
say_two-requires-clause-threads g c tells =
    let middle = sym (c.touch.ensures.edits.ran.touches (g.P.SectorView.space c.args.space.now).content).same.tells ∙ tells in
    let before = sym (c.share.ensures.edits.ran.touches (g.P.SectorView.space c.args.space.now).content).same.tells ∙ middle in
    let links = c.requires.links before in
    threads_filled c.args.volume.now (g.P.SectorView.space c.args.space.now) (c.requires.serves.settled before) (c.requires.serves.stands.stands before) links.0 links.1 links.2 c.args.way.now.parent c.args.old.now c.args.way.now.id c.args.way.now.folder c.args.name.now links.3 (c.requires.only before) c.args.private c.requires.private (c.requires.room.ids before) c.args.number (lt-ltb c.args.number (2 ^ 32) c.ranges.number.fits) (c.requires.free before) c.args.created c.share.new.volume (g.P.SectorView.space c.share.new.space).content (c.in_ok-share.ensures.both before) c.touch.new.self (g.P.SectorView.space c.touch.new.space).content (c.in_ok-touch.ensures.counts middle)

pub say_two-requires-clause-there : goal.say_two-requires-clause-there
say_two-requires-clause-there g c tells =
    let middle = sym (c.touch.ensures.edits.ran.touches (g.P.SectorView.space c.args.space.now).content).same.tells ∙ tells in
    let before = sym (c.share.ensures.edits.ran.touches (g.P.SectorView.space c.args.space.now).content).same.tells ∙ middle in
    let links = c.requires.links before in
    shared_filled c.args.volume.now (g.P.SectorView.space c.args.space.now) (c.requires.serves.settled before) (c.requires.serves.stands.stands before) links.0 links.1 links.2 c.args.way.now.parent c.args.old.now c.args.way.now.id c.args.way.now.folder c.args.name.now links.3 (c.requires.only before) c.args.private c.requires.private (c.requires.room.ids before) c.args.number (lt-ltb c.args.number (2 ^ 32) c.ranges.number.fits) (c.requires.free before) c.args.created c.share.new.volume (g.P.SectorView.space c.share.new.space).content (c.in_ok-share.ensures.both before) c.touch.new.self (g.P.SectorView.space c.touch.new.space).content (c.in_ok-touch.ensures.counts middle)

pub touch-requires-2-clause-threads : goal.touch-requires-2-clause-threads
touch-requires-2-clause-threads g c tells =
    let later = sym (c.say_two.ensures.edits.ran.touches (g.P.SectorView.space c.args.space.now).content).same.tells ∙ tells in
    let middle = sym (c.touch.ensures.edits.ran.touches (g.P.SectorView.space c.args.space.now).content).same.tells ∙ later in
    let before = sym (c.share.ensures.edits.ran.touches (g.P.SectorView.space c.args.space.now).content).same.tells ∙ middle in
    let links = c.requires.links before in
    threads_said c.args.volume.now (g.P.SectorView.space c.args.space.now) (c.requires.serves.settled before) (c.requires.serves.stands.stands before) links.0 links.1 links.2 c.args.way.now.parent c.args.old.now c.args.way.now.id c.args.way.now.folder c.args.name.now links.3 (c.requires.only before) c.args.private c.requires.private (c.requires.room.ids before) c.args.number (lt-ltb c.args.number (2 ^ 32) c.ranges.number.fits) (c.requires.free before) c.args.created c.share.new.volume (g.P.SectorView.space c.share.new.space).content (c.in_ok-share.ensures.both before) c.touch.new.self (g.P.SectorView.space c.touch.new.space).content (c.in_ok-touch.ensures.counts middle) c.say_two.new.volume (g.P.SectorView.space c.say_two.new.space).content (c.in_ok-say_two.ensures.says later)

pub touch-requires-2-clause-there : goal.touch-requires-2-clause-there
touch-requires-2-clause-there g c tells =
    let later = sym (c.say_two.ensures.edits.ran.touches (g.P.SectorView.space c.args.space.now).content).same.tells ∙ tells in
    let middle = sym (c.touch.ensures.edits.ran.touches (g.P.SectorView.space c.args.space.now).content).same.tells ∙ later in
    let before = sym (c.share.ensures.edits.ran.touches (g.P.SectorView.space c.args.space.now).content).same.tells ∙ middle in
    let links = c.requires.links before in
    goal_said c.args.volume.now (g.P.SectorView.space c.args.space.now) (c.requires.serves.settled before) (c.requires.serves.stands.stands before) links.0 links.1 links.2 c.args.way.now.parent c.args.old.now c.args.way.now.id c.args.way.now.folder c.args.name.now links.3 (c.requires.only before) c.args.private c.requires.private (c.requires.room.ids before) c.args.number (lt-ltb c.args.number (2 ^ 32) c.ranges.number.fits) (c.requires.free before) c.args.created c.share.new.volume (g.P.SectorView.space c.share.new.space).content (c.in_ok-share.ensures.both before) c.touch.new.self (g.P.SectorView.space c.touch.new.space).content (c.in_ok-touch.ensures.counts middle) c.say_two.new.volume (g.P.SectorView.space c.say_two.new.space).content (c.in_ok-say_two.ensures.says later)

pub returns-clause-does : goal.returns-clause-does
returns-clause-does g c tells from to entry linking =
    let middle = (c.share.ensures.edits.ran.touches (g.P.SectorView.space c.args.space.now).content).same.tells ∙ tells in
    let later = (c.touch.ensures.edits.ran.touches (g.P.SectorView.space c.args.space.now).content).same.tells ∙ middle in
    let last = (c.say_two.ensures.edits.ran.touches (g.P.SectorView.space c.args.space.now).content).same.tells ∙ later in
    let end = (c.touch-2.ensures.edits.ran.touches (g.P.SectorView.space c.args.space.now).content).same.tells ∙ last in
    ok_both (StandsOver c.touch-2.new.self (g.P.SectorView.space c.touch-2.new.space)) (TouchesFolder c.args.way.now.folder 1 0 c.say_two.new.volume c.touch-2.new.self (g.P.SectorView.space c.say_two.new.space).content (g.P.SectorView.space c.touch-2.new.space).content)
    (IsSettled c.touch-2.new.self (g.P.SectorView.space c.touch-2.new.space).content × (tree_of (g.P.SectorView.space c.touch-2.new.space).content ≡ (step (tree_of (g.P.SectorView.space c.args.space.now).content) (command.Ln from to)).1)
    × LinksFirst entry (free_place c.args.way.now.folder c.args.name.now) (volume_of (g.P.SectorView.space c.args.space.now).content) (volume_of (g.P.SectorView.space c.touch-2.new.space).content))
    c.touch-2.result c.touch-2.ensures.edits.ran.stands (c.touch-2.ensures.counts last)
    (λ stands t. first_done c.args.volume.now (g.P.SectorView.space c.args.space.now) (c.requires.serves.settled tells) (c.requires.serves.stands.stands tells) from to entry c.args.way.now.parent c.args.old.now c.args.way.now.id c.args.way.now.folder c.args.name.now linking (c.requires.only tells) c.args.private c.requires.private (c.requires.room.ids tells) c.args.number (lt-ltb c.args.number (2 ^ 32) c.ranges.number.fits) (c.requires.free tells) c.args.created c.share.new.volume (g.P.SectorView.space c.share.new.space).content (c.in_ok-share.ensures.both tells) c.touch.new.self (g.P.SectorView.space c.touch.new.space).content (c.in_ok-touch.ensures.counts middle) c.say_two.new.volume (g.P.SectorView.space c.say_two.new.space).content (c.in_ok-say_two.ensures.says later) c.touch-2.new.self (g.P.SectorView.space c.touch-2.new.space) t (stands.stands end) c.ln_does_its_step.ensures)

pub returns-clause-edits : goal.returns-clause-edits
returns-clause-edits g c =
    edits_spent (edits_both g.met.P.SectorView.follows_trans c.share.ensures.edits (edits_both g.met.P.SectorView.follows_trans c.touch.ensures.edits (edits_both g.met.P.SectorView.follows_trans c.say_two.ensures.edits c.touch-2.ensures.edits))) (λ tells. omega arith)

pub returns-in_err-touch-clause-edits : goal.returns-in_err-touch-clause-edits
returns-in_err-touch-clause-edits g c =
    edits_err c.from_residual-in_err-touch.ensures.1 (edits_spent (edits_both g.met.P.SectorView.follows_trans c.share.ensures.edits c.in_err-touch.ensures.edits) (λ tells. omega arith))

pub returns-in_err-say_two-clause-edits : goal.returns-in_err-say_two-clause-edits
returns-in_err-say_two-clause-edits g c =
    edits_err c.from_residual-in_err-say_two.ensures.1 (edits_spent (edits_both g.met.P.SectorView.follows_trans c.share.ensures.edits (edits_both g.met.P.SectorView.follows_trans c.touch.ensures.edits c.in_err-say_two.ensures.edits)) (λ tells. omega arith))

pub touch-requires-clause-room : goal.touch-requires-clause-room
touch-requires-clause-room g c = first_update 2 c.share.new.volume (g.P.SectorView.space c.share.new.space) c.in_ok-share.ensures.room

pub say_two-requires-clause-room : goal.say_two-requires-clause-room
say_two-requires-clause-room g c = first_update 1 c.touch.new.self (g.P.SectorView.space c.touch.new.space) (c.in_ok-touch.ensures.room 2 c.in_ok-share.ensures.room)

pub touch-requires-2-clause-room : goal.touch-requires-2-clause-room
touch-requires-2-clause-room g c = first_update 0 c.say_two.new.volume (g.P.SectorView.space c.say_two.new.space) (c.in_ok-say_two.ensures.room 1 (c.in_ok-touch.ensures.room 2 c.in_ok-share.ensures.room))

pub returns-clause-leaves : goal.returns-clause-leaves
returns-clause-leaves g c tells beside had =
    let middle = (c.share.ensures.edits.ran.touches (g.P.SectorView.space c.args.space.now).content).same.tells ∙ tells in
    let later = (c.touch.ensures.edits.ran.touches (g.P.SectorView.space c.args.space.now).content).same.tells ∙ middle in
    let last = (c.say_two.ensures.edits.ran.touches (g.P.SectorView.space c.args.space.now).content).same.tells ∙ later in
    let says = c.in_ok-say_two.ensures.says later in
    omega (
      arith,
      c.share.ensures.beside beside had tells,
      c.touch.ensures.edits.ran.spent middle,
      c.say_two.ensures.edits.ran.spent later,
      c.touch-2.ensures.edits.ran.spent last,
      ap (λ n. n / 512) c.in_ok-share.ensures.size,
      ap (λ n. n / 512) c.touch.ensures.size,
      ap (λ n. n / 512) says.1.changes.nodes.1,
    )

pub returns-in_err-say_two-clause-leaves : goal.returns-in_err-say_two-clause-leaves
returns-in_err-say_two-clause-leaves g c tells beside had =
    let middle = (c.share.ensures.edits.ran.touches (g.P.SectorView.space c.args.space.now).content).same.tells ∙ tells in
    let later = (c.touch.ensures.edits.ran.touches (g.P.SectorView.space c.args.space.now).content).same.tells ∙ middle in
    omega (
      arith,
      c.share.ensures.beside beside had tells,
      c.touch.ensures.edits.ran.spent middle,
      c.say_two.ensures.edits.ran.spent later,
      ap (λ n. n / 512) c.in_ok-share.ensures.size,
      ap (λ n. n / 512) c.touch.ensures.size,
    )

pub returns-in_err-touch-clause-leaves : goal.returns-in_err-touch-clause-leaves
returns-in_err-touch-clause-leaves g c tells beside had =
    let middle = (c.share.ensures.edits.ran.touches (g.P.SectorView.space c.args.space.now).content).same.tells ∙ tells in
    omega (arith, c.share.ensures.beside beside had tells, c.touch.ensures.edits.ran.spent middle, ap (λ n. n / 512) c.in_ok-share.ensures.size)

pub returns-in_err-share-clause-leaves : goal.returns-in_err-share-clause-leaves
returns-in_err-share-clause-leaves g c tells beside had = omega (arith, c.share.ensures.beside beside had tells)
