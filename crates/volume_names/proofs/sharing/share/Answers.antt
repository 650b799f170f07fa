use Rattle.std.proofs.Common.{◌≡◌, [], ◌*◌, ◌/◌, ◌^◌, sym, ◌∙◌, ap, subst, arith}
use Rattle.std.proofs.lemmas.Bool.{lt-ltb}
use Rattle.hfs_volume.specs.Records.{placed_in, record_at}
use Rattle.volume_base.specs.Changing.{HasRoomToUpdates, catalog_node}
use Rattle.volume_base.specs.Lists.{lists_of}
use Rattle.volume_names.specs.EditsLeft.{HasEditsLeft}
use Rattle.volume_names.specs.Sharing.{LinksBoth, PutsLink}
use Rattle.volume_names.proofs.EditsLeft.{room_left, updates_left}
use Rattle.volume_base.specs.Standing.{StandsOver}
use Rattle.volume_names.proofs.FirstMade.{first_unused, old_vacant, second_unused, second_vacant}
use Rattle.volume_base.proofs.FoundEntry.{ok_both, ok_so}
use Rattle.volume_names.proofs.Shared.{stood_there}
use Rattle.volume_base.proofs.Framed.{edits_err, edits_spent}
use Rattle.volume_base.proofs.Joined.{edits_both}
use Rattle.volume_names.proofs.sharing.share.Goals as goal

pub share_file-requires-clause-there : goal.share_file-requires-clause-there
share_file-requires-clause-there g c tells = stood_there (lists_of c.args.volume.now (g.P.SectorView.space c.args.space.now).content).catalog_pairs c.args.way.now.parent c.args.old.now (c.requires.only tells)

pub put_link-requires-clause-size : goal.put_link-requires-clause-size
put_link-requires-clause-size g c = omega (arith, c.requires.size, c.in_ok-share_file.ensures.size)

pub put_link-requires-clause-vacant : goal.put_link-requires-clause-vacant
put_link-requires-clause-vacant g c tells =
    let before = sym (c.share_file.ensures.edits.ran.touches (g.P.SectorView.space c.args.space.now).content).same.tells ∙ tells in
    let links = c.requires.links before in
    old_vacant c.args.volume.now (g.P.SectorView.space c.args.space.now) (c.requires.serves.settled before) (c.requires.serves.stands.stands before) links.0 links.1 links.2 c.args.way.now.parent c.args.old.now c.args.way.now.id c.args.way.now.folder c.args.name.now links.3 (c.requires.only before) c.args.private c.requires.private (c.requires.room.ids before) c.args.number (lt-ltb c.args.number (2 ^ 32) c.ranges.number.fits) (c.requires.free before) c.share_file.new.volume (g.P.SectorView.space c.share_file.new.space).content (c.in_ok-share_file.ensures.shares before) (c.in_ok-share_file.ensures.edits.ran.stands.stands ((c.share_file.ensures.edits.ran.touches (g.P.SectorView.space c.args.space.now).content).same.tells ∙ before)).trees

pub put_link-requires-clause-unused : goal.put_link-requires-clause-unused
put_link-requires-clause-unused g c tells =
    let before = sym (c.share_file.ensures.edits.ran.touches (g.P.SectorView.space c.args.space.now).content).same.tells ∙ tells in
    let links = c.requires.links before in
    first_unused c.args.volume.now (g.P.SectorView.space c.args.space.now) (c.requires.serves.settled before) (c.requires.serves.stands.stands before) links.0 links.1 links.2 c.args.way.now.parent c.args.old.now c.args.way.now.id c.args.way.now.folder c.args.name.now links.3 (c.requires.only before) c.args.private c.requires.private (c.requires.room.ids before) c.args.number (lt-ltb c.args.number (2 ^ 32) c.ranges.number.fits) (c.requires.free before) c.share_file.new.volume (g.P.SectorView.space c.share_file.new.space).content (c.in_ok-share_file.ensures.shares before) (c.in_ok-share_file.ensures.edits.ran.stands.stands ((c.share_file.ensures.edits.ran.touches (g.P.SectorView.space c.args.space.now).content).same.tells ∙ before)).trees

pub put_link-requires-2-clause-size : goal.put_link-requires-2-clause-size
put_link-requires-2-clause-size g c = omega (arith, c.requires.size, c.in_ok-share_file.ensures.size, c.in_ok-put_link.ensures.size)

pub put_link-requires-2-clause-vacant : goal.put_link-requires-2-clause-vacant
put_link-requires-2-clause-vacant g c tells =
    let before = sym (c.share_file.ensures.edits.ran.touches (g.P.SectorView.space c.args.space.now).content).same.tells ∙ sym (c.put_link.ensures.edits.ran.touches (g.P.SectorView.space c.args.space.now).content).same.tells ∙ tells in
    let links = c.requires.links before in
    second_vacant c.args.volume.now (g.P.SectorView.space c.args.space.now) (c.requires.serves.settled before) (c.requires.serves.stands.stands before) links.0 links.1 links.2 c.args.way.now.parent c.args.old.now c.args.way.now.id c.args.way.now.folder c.args.name.now links.3 (c.requires.only before) c.args.private c.requires.private (c.requires.room.ids before) c.args.number (lt-ltb c.args.number (2 ^ 32) c.ranges.number.fits) (c.requires.free before) c.share_file.new.volume (g.P.SectorView.space c.share_file.new.space).content (c.in_ok-share_file.ensures.shares before) (c.in_ok-share_file.ensures.edits.ran.stands.stands ((c.share_file.ensures.edits.ran.touches (g.P.SectorView.space c.args.space.now).content).same.tells ∙ before)).trees c.args.created c.put_link.new.volume (g.P.SectorView.space c.put_link.new.space).content (c.in_ok-put_link.ensures.puts ((c.share_file.ensures.edits.ran.touches (g.P.SectorView.space c.args.space.now).content).same.tells ∙ before)) (c.in_ok-put_link.ensures.edits.ran.stands.stands ((c.put_link.ensures.edits.ran.touches (g.P.SectorView.space c.args.space.now).content).same.tells ∙ ((c.share_file.ensures.edits.ran.touches (g.P.SectorView.space c.args.space.now).content).same.tells ∙ before))).trees

pub put_link-requires-2-clause-unused : goal.put_link-requires-2-clause-unused
put_link-requires-2-clause-unused g c tells =
    let before = sym (c.share_file.ensures.edits.ran.touches (g.P.SectorView.space c.args.space.now).content).same.tells ∙ sym (c.put_link.ensures.edits.ran.touches (g.P.SectorView.space c.args.space.now).content).same.tells ∙ tells in
    let links = c.requires.links before in
    ap (λ n. record_at (placed_in (lists_of c.put_link.new.volume (g.P.SectorView.space c.put_link.new.space).content).catalog_pairs) n []) (c.id_behind-two.ensures (omega (arith, c.requires.room.ids before))) ∙ second_unused c.args.volume.now (g.P.SectorView.space c.args.space.now) (c.requires.serves.settled before) (c.requires.serves.stands.stands before) links.0 links.1 links.2 c.args.way.now.parent c.args.old.now c.args.way.now.id c.args.way.now.folder c.args.name.now links.3 (c.requires.only before) c.args.private c.requires.private (c.requires.room.ids before) c.args.number (lt-ltb c.args.number (2 ^ 32) c.ranges.number.fits) (c.requires.free before) c.share_file.new.volume (g.P.SectorView.space c.share_file.new.space).content (c.in_ok-share_file.ensures.shares before) (c.in_ok-share_file.ensures.edits.ran.stands.stands ((c.share_file.ensures.edits.ran.touches (g.P.SectorView.space c.args.space.now).content).same.tells ∙ before)).trees c.args.created c.put_link.new.volume (g.P.SectorView.space c.put_link.new.space).content (c.in_ok-put_link.ensures.puts ((c.share_file.ensures.edits.ran.touches (g.P.SectorView.space c.args.space.now).content).same.tells ∙ before)) (c.in_ok-put_link.ensures.edits.ran.stands.stands ((c.put_link.ensures.edits.ran.touches (g.P.SectorView.space c.args.space.now).content).same.tells ∙ ((c.share_file.ensures.edits.ran.touches (g.P.SectorView.space c.args.space.now).content).same.tells ∙ before))).trees

pub returns-clause-both : goal.returns-clause-both
returns-clause-both g c tells =
    let second = (c.share_file.ensures.edits.ran.touches (g.P.SectorView.space c.args.space.now).content).same.tells ∙ tells in
    let third = (c.put_link.ensures.edits.ran.touches (g.P.SectorView.space c.args.space.now).content).same.tells ∙ second in
    let last = (c.put_link-2.ensures.edits.ran.touches (g.P.SectorView.space c.args.space.now).content).same.tells ∙ third in
    ok_both (StandsOver c.put_link-2.new.volume (g.P.SectorView.space c.put_link-2.new.space)) (PutsLink c.args.way.now.folder c.args.name.now c.id_behind-two.result c.args.number c.args.created c.put_link.new.volume c.put_link-2.new.volume (g.P.SectorView.space c.put_link.new.space).content (g.P.SectorView.space c.put_link-2.new.space).content)
    (LinksBoth c.args.way.now.parent c.args.old.now c.args.private c.args.number c.args.way.now.folder c.args.name.now c.args.created c.args.volume.now c.put_link-2.new.volume (g.P.SectorView.space c.args.space.now).content (g.P.SectorView.space c.put_link-2.new.space).content)
    c.put_link-2.result c.put_link-2.ensures.edits.ran.stands (c.put_link-2.ensures.puts third)
    (λ stands two. record {
      moved = c.share_file.new.volume;
      moved_in = (g.P.SectorView.space c.share_file.new.space).content;
      shares = c.in_ok-share_file.ensures.shares tells;
      holds_moved = (c.in_ok-share_file.ensures.edits.ran.stands.stands second).trees;
      replaced = c.put_link.new.volume;
      replaced_in = (g.P.SectorView.space c.put_link.new.space).content;
      one = c.in_ok-put_link.ensures.puts second;
      holds_replaced = (c.in_ok-put_link.ensures.edits.ran.stands.stands third).trees;
      two = subst (λ n. PutsLink c.args.way.now.folder c.args.name.now n c.args.number c.args.created c.put_link.new.volume c.put_link-2.new.volume (g.P.SectorView.space c.put_link.new.space).content (g.P.SectorView.space c.put_link-2.new.space).content) (c.id_behind-two.ensures (omega (arith, c.requires.room.ids tells))) two;
      holds = (stands.stands last).trees;
    })

pub returns-clause-edits : goal.returns-clause-edits
returns-clause-edits g c =
    edits_spent (edits_both g.met.P.SectorView.follows_trans c.share_file.ensures.edits (edits_both g.met.P.SectorView.follows_trans c.put_link.ensures.edits c.put_link-2.ensures.edits)) (λ tells. omega arith)

pub returns-in_err-put_link-clause-edits : goal.returns-in_err-put_link-clause-edits
returns-in_err-put_link-clause-edits g c =
    edits_err c.from_residual-in_err-put_link.ensures.1 (edits_spent (edits_both g.met.P.SectorView.follows_trans c.share_file.ensures.edits c.in_err-put_link.ensures.edits) (λ tells. omega arith))

pub put_link-requires-clause-room : goal.put_link-requires-clause-room
put_link-requires-clause-room g c = room_left 2 2 (3 * catalog_node c.args.volume.now) c.share_file.new.volume (g.P.SectorView.space c.share_file.new.space) c.in_ok-share_file.ensures.left (λ tells. omega (arith, c.requires.size, c.in_ok-share_file.ensures.size))

pub put_link-requires-2-clause-room : goal.put_link-requires-2-clause-room
put_link-requires-2-clause-room g c = room_left 2 0 (3 * catalog_node c.args.volume.now) c.put_link.new.volume (g.P.SectorView.space c.put_link.new.space) (c.in_ok-put_link.ensures.left 2 (3 * catalog_node c.args.volume.now) c.in_ok-share_file.ensures.left) (λ tells. omega (arith, c.requires.size, c.in_ok-share_file.ensures.size, c.in_ok-put_link.ensures.size))

pub returns-clause-room : goal.returns-clause-room
returns-clause-room g c =
    ok_both (c.put_link-2.new.volume.catalog.file.shape.node_size ≡ c.put_link.new.volume.catalog.file.shape.node_size) (HasEditsLeft 0 (3 * catalog_node c.args.volume.now) c.put_link-2.new.volume (g.P.SectorView.space c.put_link-2.new.space)) (HasRoomToUpdates 3 c.put_link-2.new.volume (g.P.SectorView.space c.put_link-2.new.space)) c.put_link-2.result c.put_link-2.ensures.size
    (c.put_link-2.ensures.left 0 (3 * catalog_node c.args.volume.now) (c.in_ok-put_link.ensures.left 2 (3 * catalog_node c.args.volume.now) c.in_ok-share_file.ensures.left))
    (λ size. updates_left 3 c.args.volume.now c.put_link-2.new.volume (g.P.SectorView.space c.put_link-2.new.space) (ap (λ n. n / 512) (size ∙ c.in_ok-put_link.ensures.size ∙ c.in_ok-share_file.ensures.size)))

pub returns-clause-leaves : goal.returns-clause-leaves
returns-clause-leaves g c beside had = c.put_link-2.ensures.left 0 beside (c.in_ok-put_link.ensures.left 2 beside (c.in_ok-share_file.ensures.leaves beside had))

pub returns-clause-size : goal.returns-clause-size
returns-clause-size g c =
    ok_so (c.put_link-2.new.volume.catalog.file.shape.node_size ≡ c.put_link.new.volume.catalog.file.shape.node_size) (c.put_link-2.new.volume.catalog.file.shape.node_size ≡ c.args.volume.now.catalog.file.shape.node_size) c.put_link-2.result c.put_link-2.ensures.size
    (λ size. size ∙ c.in_ok-put_link.ensures.size ∙ c.in_ok-share_file.ensures.size)

pub returns-clause-beside : goal.returns-clause-beside
returns-clause-beside g c beside had tells =
    c.put_link-2.ensures.beside 0 beside (c.in_ok-put_link.ensures.left 2 beside (c.in_ok-share_file.ensures.leaves beside had))
    ((c.put_link.ensures.edits.ran.touches (g.P.SectorView.space c.args.space.now).content).same.tells ∙ (c.share_file.ensures.edits.ran.touches (g.P.SectorView.space c.args.space.now).content).same.tells ∙ tells)

pub returns-in_err-put_link-clause-beside : goal.returns-in_err-put_link-clause-beside
returns-in_err-put_link-clause-beside g c beside had tells =
    c.put_link.ensures.beside 2 beside (c.in_ok-share_file.ensures.leaves beside had) ((c.share_file.ensures.edits.ran.touches (g.P.SectorView.space c.args.space.now).content).same.tells ∙ tells)

pub returns-in_err-share_file-clause-beside : goal.returns-in_err-share_file-clause-beside
returns-in_err-share_file-clause-beside g c beside had tells = c.share_file.ensures.beside beside had tells
