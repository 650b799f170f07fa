use Rattle.volume_names.proofs.LinkWeight.{anew_puts}
use Rattle.volume_names.proofs.LinkLoads.{anew_spends, left_put, load_anew, rest_anew}
use Rattle.std.proofs.Common.{◌≡◌, ◌*◌, sym, ◌∙◌, arith}
use Rattle.hfs_language.specs.declared.command.Command.TheVariants as command
use Rattle.hfs_model.specs.Step.{step}
use Rattle.hfs_volume.specs.Content.{volume_of}
use Rattle.hfs_volume.specs.Naming.{LinksFirst}
use Rattle.hfs_volume.specs.TreeOf.{tree_of}
use Rattle.volume_names.specs.Linking.{LinksAnew}
use Rattle.volume_base.specs.Making.{free_place}
use Rattle.volume_base.specs.Standing.{IsSettled}
use Rattle.volume_base.proofs.FoundEntry.{ok_so}
use Rattle.volume_base.specs.Changing.{catalog_node}
use Rattle.volume_names.proofs.EditsLeft.{ready_behind}
use Rattle.volume_names.proofs.LinkAnew.{anew_does, linking_then, only_then}
use Rattle.volume_base.proofs.Framed.{edits_spent}
use Rattle.volume_base.proofs.Joined.{edits_both, edits_wanting, edits_short}
use Rattle.volume_names.proofs.first_links.link_anew.Goals as goal

pub link_dated-requires-clause-serves : goal.link_dated-requires-clause-serves
link_dated-requires-clause-serves g c = record { stands = c.in_ok-open_private.ensures.edits.ran.stands; settled = λ tells. (c.in_ok-open_private.ensures.opens (sym (c.open_private.ensures.edits.ran.touches (g.P.SectorView.space c.args.space.now).content).same.tells ∙ tells)).settled }

pub link_dated-requires-clause-only : goal.link_dated-requires-clause-only
link_dated-requires-clause-only g c tells =
    let before = sym (c.open_private.ensures.edits.ran.touches (g.P.SectorView.space c.args.space.now).content).same.tells ∙ tells in
    let links = c.requires.links before in
    only_then c.header_may_change.ensures c.args.volume.now (g.P.SectorView.space c.args.space.now) (c.requires.serves.settled before) (c.requires.serves.stands.stands before) links.0 links.1 links.2 c.args.way.now.parent c.args.old.now c.args.way.now.id c.args.way.now.folder c.args.name.now links.3 (c.requires.only before) c.open_private.new.volume (g.P.SectorView.space c.open_private.new.space).content (c.in_ok-open_private.ensures.opens before)

pub link_dated-requires-clause-links : goal.link_dated-requires-clause-links
link_dated-requires-clause-links g c tells =
    let before = sym (c.open_private.ensures.edits.ran.touches (g.P.SectorView.space c.args.space.now).content).same.tells ∙ tells in
    let links = c.requires.links before in
    (links.0, links.1, links.2, linking_then c.header_may_change.ensures c.args.volume.now (g.P.SectorView.space c.args.space.now) (c.requires.serves.settled before) (c.requires.serves.stands.stands before) links.0 links.1 links.2 c.args.way.now.parent c.args.old.now c.args.way.now.id c.args.way.now.folder c.args.name.now links.3 (c.requires.only before) c.open_private.new.volume (g.P.SectorView.space c.open_private.new.space).content (c.in_ok-open_private.ensures.opens before))

pub returns-in-Some-clause-does : goal.returns-in-Some-clause-does
returns-in-Some-clause-does g c tells from to entry linking =
    let later = (c.open_private.ensures.edits.ran.touches (g.P.SectorView.space c.args.space.now).content).same.tells ∙ tells in
    ok_so
    (IsSettled c.link_dated.new.volume (g.P.SectorView.space c.link_dated.new.space).content × (tree_of (g.P.SectorView.space c.link_dated.new.space).content ≡ (step (tree_of (g.P.SectorView.space c.open_private.new.space).content) (command.Ln from to)).1)
    × LinksFirst entry (free_place c.args.way.now.folder c.args.name.now) (volume_of (g.P.SectorView.space c.open_private.new.space).content) (volume_of (g.P.SectorView.space c.link_dated.new.space).content))
    (IsSettled c.link_dated.new.volume (g.P.SectorView.space c.link_dated.new.space).content × (tree_of (g.P.SectorView.space c.link_dated.new.space).content ≡ (step (tree_of (g.P.SectorView.space c.args.space.now).content) (command.Ln from to)).1)
    × LinksAnew entry (free_place c.args.way.now.folder c.args.name.now) (g.P.SectorView.space c.args.space.now).content (g.P.SectorView.space c.link_dated.new.space).content)
    c.link_dated.result
    (c.link_dated.ensures.does later from to entry (linking_then c.header_may_change.ensures c.args.volume.now (g.P.SectorView.space c.args.space.now) (c.requires.serves.settled tells) (c.requires.serves.stands.stands tells) from to entry c.args.way.now.parent c.args.old.now c.args.way.now.id c.args.way.now.folder c.args.name.now linking (c.requires.only tells) c.open_private.new.volume (g.P.SectorView.space c.open_private.new.space).content (c.in_ok-open_private.ensures.opens tells)))
    (anew_does c.header_may_change.ensures c.args.volume.now (g.P.SectorView.space c.args.space.now) (c.requires.serves.settled tells) (c.requires.serves.stands.stands tells) from to entry c.args.way.now.parent c.args.old.now c.args.way.now.id c.args.way.now.folder c.args.name.now linking (c.requires.only tells) c.open_private.new.volume (g.P.SectorView.space c.open_private.new.space).content (c.in_ok-open_private.ensures.opens tells) c.sound_has_plain_tree.ensures c.link_dated.new.volume (g.P.SectorView.space c.link_dated.new.space).content)

pub returns-in-Some-clause-edits : goal.returns-in-Some-clause-edits
returns-in-Some-clause-edits g c = edits_spent (edits_both g.met.P.SectorView.follows_trans c.open_private.ensures.edits c.link_dated.ensures.edits) (λ tells. omega arith)

pub returns-then-not-fits_first-clause-edits : goal.returns-then-not-fits_first-clause-edits
returns-then-not-fits_first-clause-edits g c = edits_wanting _ g.met.P.SectorView.follows_refl c.requires.serves.stands

pub link_dated-requires-clause-ids : goal.link_dated-requires-clause-ids
link_dated-requires-clause-ids g c tells =
    let before = sym (c.open_private.ensures.edits.ran.touches (g.P.SectorView.space c.args.space.now).content).same.tells ∙ tells in
    omega (arith, c.fits_first.ensures.ids c.if-not-fits_first.false before, c.in_ok-open_private.ensures.ids before)

pub link_dated-requires-clause-left : goal.link_dated-requires-clause-left
link_dated-requires-clause-left g c =
    ready_behind c.args.volume.now c.open_private.new.volume (g.P.SectorView.space c.open_private.new.space) (λ tells. c.in_ok-open_private.ensures.is_put (sym (c.open_private.ensures.edits.ran.touches (g.P.SectorView.space c.args.space.now).content).same.tells ∙ tells)) (λ tells. c.in_ok-open_private.ensures.nodes (sym (c.open_private.ensures.edits.ran.touches (g.P.SectorView.space c.args.space.now).content).same.tells ∙ tells))
    (c.in_ok-open_private.ensures.left 7 (3 * catalog_node c.args.volume.now) (c.fits_first.ensures.load c.if-not-fits_first.false))

pub returns-in-Some-clause-loads : goal.returns-in-Some-clause-loads
returns-in-Some-clause-loads g c tells from to entry linking =
    let later = (c.open_private.ensures.edits.ran.touches (g.P.SectorView.space c.args.space.now).content).same.tells ∙ tells in
    let load = c.fits_first.ensures.load c.if-not-fits_first.false in
    let left = c.link_dated.ensures.leaves later (rest_anew c.args.volume.now (g.P.SectorView.space c.args.space.now)) (left_put (rest_anew c.args.volume.now (g.P.SectorView.space c.args.space.now)) c.open_private.new.volume (g.P.SectorView.space c.open_private.new.space) (λ told. c.in_ok-open_private.ensures.is_put (sym (c.open_private.ensures.edits.ran.touches (g.P.SectorView.space c.args.space.now).content).same.tells ∙ told))
    (c.in_ok-open_private.ensures.left 7 (rest_anew c.args.volume.now (g.P.SectorView.space c.args.space.now)) (load_anew c.args.volume.now (g.P.SectorView.space c.args.space.now) load))) in
    anew_puts c.args.volume.now (g.P.SectorView.space c.args.space.now) (c.requires.serves.settled tells) (c.requires.serves.stands.stands tells) from to entry c.args.way.now.parent c.args.old.now c.args.way.now.id c.args.way.now.folder c.args.name.now linking (c.requires.only tells) c.requires.absent (g.P.SectorView.space c.link_dated.new.space) (anew_spends c.args.volume.now (g.P.SectorView.space c.args.space.now) (g.P.SectorView.space c.link_dated.new.space) tells load (omega (arith, left, c.in_ok-open_private.ensures.nodes tells)))

pub returns-in-None-clause-loads : goal.returns-in-None-clause-loads
returns-in-None-clause-loads g c tells from to entry linking =
    let load = c.fits_first.ensures.load c.if-not-fits_first.false in
    anew_puts c.args.volume.now (g.P.SectorView.space c.args.space.now) (c.requires.serves.settled tells) (c.requires.serves.stands.stands tells) from to entry c.args.way.now.parent c.args.old.now c.args.way.now.id c.args.way.now.folder c.args.name.now linking (c.requires.only tells) c.requires.absent (g.P.SectorView.space c.open_private.new.space) (anew_spends c.args.volume.now (g.P.SectorView.space c.args.space.now) (g.P.SectorView.space c.open_private.new.space) tells load (omega (arith, c.open_private.ensures.beside 7 (rest_anew c.args.volume.now (g.P.SectorView.space c.args.space.now)) (load_anew c.args.volume.now (g.P.SectorView.space c.args.space.now) load) tells)))

pub returns-in_err-open_private-clause-loads : goal.returns-in_err-open_private-clause-loads
returns-in_err-open_private-clause-loads g c tells from to entry linking =
    let load = c.fits_first.ensures.load c.if-not-fits_first.false in
    anew_puts c.args.volume.now (g.P.SectorView.space c.args.space.now) (c.requires.serves.settled tells) (c.requires.serves.stands.stands tells) from to entry c.args.way.now.parent c.args.old.now c.args.way.now.id c.args.way.now.folder c.args.name.now linking (c.requires.only tells) c.requires.absent (g.P.SectorView.space c.open_private.new.space) (anew_spends c.args.volume.now (g.P.SectorView.space c.args.space.now) (g.P.SectorView.space c.open_private.new.space) tells load (omega (arith, c.open_private.ensures.beside 7 (rest_anew c.args.volume.now (g.P.SectorView.space c.args.space.now)) (load_anew c.args.volume.now (g.P.SectorView.space c.args.space.now) load) tells)))

pub returns-then-not-fits_first-clause-loads : goal.returns-then-not-fits_first-clause-loads
returns-then-not-fits_first-clause-loads g c tells from to entry linking n grow is = omega arith

pub returns-in-None-clause-edits : goal.returns-in-None-clause-edits
returns-in-None-clause-edits g c = edits_short (edits_spent c.in_ok-open_private.ensures.edits (λ tells. omega arith))
