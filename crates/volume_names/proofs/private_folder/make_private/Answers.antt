use Rattle.std.proofs.Common.{◌≡◌, ◌+◌, ◌/◌, ℕ, List, length, sym, ◌∙◌, ap, subst, arith}
use Rattle.std.specs.Prelude.{Some, true}
use Rattle.hfs_volume.specs.Records.{placed_in, record_at}
use Rattle.volume_base.specs.Changing.{catalog_node}
use Rattle.volume_header.specs.declared.header.VolumeHeader.{VolumeHeader}
use Rattle.volume_base.specs.Lists.{lists_of}
use Rattle.volume_base.specs.Making.{AddsNew}
use Rattle.volume_names.specs.PrivateFolder.{HasOpened, RecountsFolder}
use Rattle.volume_base.specs.Standing.{StandsOver}
use Rattle.volume_base.specs.declared.volume.Volume.{Volume}
use Rattle.volume_base.proofs.FoundEntry.{ok_both, ok_so, ok_true}
use Rattle.volume_names.proofs.PrivateOpened.{free_name, private_opened, root_after, threads_made}
use Rattle.volume_names.proofs.EditsLeft.{left_as}
use Rattle.volume_base.proofs.Framed.{edits_spent, edits_err}
use Rattle.volume_base.proofs.Joined.{edits_both, edits_wanting}
use Rattle.volume_names.proofs.private_folder.make_private.Goals as goal

pub add_new-requires-clause-some : goal.add_new-requires-clause-some
add_new-requires-clause-some g c = omega (arith, ap (λ (n : List ℕ). length n) c.in_ok-name.ensures.name)

pub add_new-requires-clause-name : goal.add_new-requires-clause-name
add_new-requires-clause-name g c = c.in_ok-name.ensures.short

pub add_new-requires-clause-free : goal.add_new-requires-clause-free
add_new-requires-clause-free g c tells =
    ap (λ (n : List ℕ). record_at (placed_in (lists_of c.args.volume.now (g.P.SectorView.space c.args.space.now).content).catalog_pairs) 2 n) c.in_ok-name.ensures.name
    ∙ free_name c.args.volume.now (g.P.SectorView.space c.args.space.now) (c.requires.serves.settled tells) c.requires.absent

pub recount-requires-clause-threads : goal.recount-requires-clause-threads
recount-requires-clause-threads g c tells =
    let before = sym (c.add_new.ensures.edits.ran.touches (g.P.SectorView.space c.args.space.now).content).same.tells ∙ tells in
    threads_made c.args.volume.now (g.P.SectorView.space c.args.space.now) (c.requires.serves.settled before) c.requires.absent c.add_new.new.volume (g.P.SectorView.space c.add_new.new.space).content
    (subst (λ (n : List ℕ). AddsNew true 2 n c.args.volume.now c.add_new.new.volume (g.P.SectorView.space c.args.space.now).content (g.P.SectorView.space c.add_new.new.space).content) c.in_ok-name.ensures.name (c.in_ok-add_new.ensures.adds before))

pub recount-requires-clause-there : goal.recount-requires-clause-there
recount-requires-clause-there g c tells =
    let before = sym (c.add_new.ensures.edits.ran.touches (g.P.SectorView.space c.args.space.now).content).same.tells ∙ tells in
    root_after c.args.volume.now (g.P.SectorView.space c.args.space.now) (c.requires.serves.settled before) c.requires.absent c.add_new.new.volume (g.P.SectorView.space c.add_new.new.space).content
    (subst (λ (n : List ℕ). AddsNew true 2 n c.args.volume.now c.add_new.new.volume (g.P.SectorView.space c.args.space.now).content (g.P.SectorView.space c.add_new.new.space).content) c.in_ok-name.ensures.name (c.in_ok-add_new.ensures.adds before))
    c.requires.room.ids

pub returns-clause-does : goal.returns-clause-does
returns-clause-does g c tells =
    let later = (c.add_new.ensures.edits.ran.touches (g.P.SectorView.space c.args.space.now).content).same.tells ∙ tells in
    let last = (c.recount.ensures.edits.ran.touches (g.P.SectorView.space c.args.space.now).content).same.tells ∙ later in
    ok_both (StandsOver c.recount.new.volume (g.P.SectorView.space c.recount.new.space)) (RecountsFolder 2 1 c.add_new.new.volume c.recount.new.volume (g.P.SectorView.space c.add_new.new.space).content (g.P.SectorView.space c.recount.new.space).content)
    (HasOpened (record c.recount.new.volume { private = Some c.args.volume.now.header.next_catalog_id }) (g.P.SectorView.space c.args.space.now).content (g.P.SectorView.space c.recount.new.space).content)
    c.recount.result c.recount.ensures.edits.ran.stands (c.recount.ensures.counts later)
    (λ stands t. private_opened c.args.volume.now (g.P.SectorView.space c.args.space.now) (c.requires.serves.settled tells) c.requires.absent c.add_new.new.volume (g.P.SectorView.space c.add_new.new.space).content
    (subst (λ (n : List ℕ). AddsNew true 2 n c.args.volume.now c.add_new.new.volume (g.P.SectorView.space c.args.space.now).content (g.P.SectorView.space c.add_new.new.space).content) c.in_ok-name.ensures.name (c.in_ok-add_new.ensures.adds tells))
    (c.requires.serves.stands.stands tells) (c.in_ok-add_new.ensures.edits.ran.stands.stands later).trees c.recount.new.volume (g.P.SectorView.space c.recount.new.space) (stands.stands last) t c.header_may_change.ensures)

pub returns-clause-edits : goal.returns-clause-edits
returns-clause-edits g c = edits_spent (edits_both g.met.P.SectorView.follows_trans c.add_new.ensures.edits c.recount.ensures.edits) (λ tells. omega arith)

pub returns-in_err-name-clause-edits : goal.returns-in_err-name-clause-edits
returns-in_err-name-clause-edits g c = edits_err c.from_residual.ensures.1 (edits_wanting {T = ℕ} _ g.met.P.SectorView.follows_refl c.requires.serves.stands)

pub returns-clause-left : goal.returns-clause-left
returns-clause-left g c edits beside load =
    c.recount.ensures.left edits beside
    (left_as c.add_new.new.volume (g.P.SectorView.space c.add_new.new.space) edits _ _
    (λ tells. ap (λ n. n / 512 + beside) (sym (c.in_ok-add_new.ensures.adds (sym (c.add_new.ensures.edits.ran.touches (g.P.SectorView.space c.args.space.now).content).same.tells ∙ tells)).changes.nodes.1))
    (c.in_ok-add_new.ensures.left edits (catalog_node c.args.volume.now + beside) load))

pub returns-clause-is_put : goal.returns-clause-is_put
returns-clause-is_put g c tells = ok_true c.recount.result ((c.recount.ensures.edits.ran.touches (g.P.SectorView.space c.args.space.now).content).still_put 2 (c.in_ok-add_new.ensures.is_put tells))

pub returns-clause-ids : goal.returns-clause-ids
returns-clause-ids g c tells =
    ok_so (RecountsFolder 2 1 c.add_new.new.volume c.recount.new.volume (g.P.SectorView.space c.add_new.new.space).content (g.P.SectorView.space c.recount.new.space).content)
    (c.recount.new.volume.header.next_catalog_id ≡ c.args.volume.now.header.next_catalog_id + 1) c.recount.result (c.recount.ensures.counts ((c.add_new.ensures.edits.ran.touches (g.P.SectorView.space c.args.space.now).content).same.tells ∙ tells))
    (λ r. ap (λ (v : Volume). v.header.next_catalog_id) r.rest ∙ ap (λ (h : VolumeHeader). h.next_catalog_id) (c.in_ok-add_new.ensures.adds tells).header)

pub returns-clause-nodes : goal.returns-clause-nodes
returns-clause-nodes g c tells =
    ok_so (RecountsFolder 2 1 c.add_new.new.volume c.recount.new.volume (g.P.SectorView.space c.add_new.new.space).content (g.P.SectorView.space c.recount.new.space).content)
    (catalog_node c.recount.new.volume ≡ catalog_node c.args.volume.now) c.recount.result (c.recount.ensures.counts ((c.add_new.ensures.edits.ran.touches (g.P.SectorView.space c.args.space.now).content).same.tells ∙ tells))
    (λ r. ap (λ n. n / 512) (r.changes.nodes.1 ∙ (c.in_ok-add_new.ensures.adds tells).changes.nodes.1))

pub returns-clause-beside : goal.returns-clause-beside
returns-clause-beside g c edits beside load tells =
    omega (
      arith,
      c.add_new.ensures.beside edits (catalog_node c.args.volume.now + beside) load tells,
      c.recount.ensures.edits.ran.spent ((c.add_new.ensures.edits.ran.touches (g.P.SectorView.space c.args.space.now).content).same.tells ∙ tells),
      ap (λ n. n / 512) (c.in_ok-add_new.ensures.adds tells).changes.nodes.1,
    )

pub returns-in_err-add_new-clause-beside : goal.returns-in_err-add_new-clause-beside
returns-in_err-add_new-clause-beside g c edits beside load tells = omega (arith, c.add_new.ensures.beside edits (catalog_node c.args.volume.now + beside) load tells)

pub returns-in_err-name-clause-beside : goal.returns-in_err-name-clause-beside
returns-in_err-name-clause-beside g c edits beside load tells = omega (arith, load.load tells)
