use Rattle.volume_base.proofs.FoundEntry.{node_still}
use Rattle.std.proofs.Common.{◌≡◌, ℕ, List, sym, ◌∙◌, ap, subst, arith}
use Rattle.std.specs.Prelude.{OnOk}
use Rattle.sector_disk.specs.Lists.{Content}
use Rattle.btree_node.specs.declared.store.TreeShape.{TreeShape}
use Rattle.hfs_language.specs.declared.command.Command.TheVariants as command
use Rattle.hfs_model.specs.Step.{step}
use Rattle.hfs_model.specs.declared.plain.PlainEntry.{PlainEntry}
use Rattle.hfs_volume.specs.Content.{VolumeState, volume_of}
use Rattle.hfs_volume.specs.Links.{node_name}
use Rattle.hfs_volume.specs.Naming.{LinksFirst}
use Rattle.hfs_volume.specs.Records.{placed_in, record_at}
use Rattle.hfs_volume.specs.TreeOf.{tree_of}
use Rattle.volume_base.specs.Linking.{IsLinking}
use Rattle.volume_base.specs.Losing.{IsOnlyName}
use Rattle.volume_base.specs.Making.{free_place}
use Rattle.volume_base.specs.Standing.{IsSettled}
use Rattle.volume_header.specs.declared.header.VolumeHeader.{VolumeHeader}
use Rattle.volume_base.proofs.Replaced.{node_large}
use Rattle.volume_base.proofs.Still.{lists_still}
use Rattle.volume_names.proofs.EditsLeft.{ready_still, ready_beside}
use Rattle.volume_base.proofs.Framed.{edits_none, edits_spent, edits_err, edits_looked}
use Rattle.volume_base.proofs.Joined.{edits_both, edits_short}
use Rattle.volume_names.proofs.first_links.link_ready.Goals as goal

pub link_under-requires-clause-private : goal.link_under-requires-clause-private
link_under-requires-clause-private g c = c.free_number.ensures.looked.reads.keeps.private ∙ c.requires.private

pub link_under-requires-clause-only : goal.link_under-requires-clause-only
link_under-requires-clause-only g c tells =
    let before = sym c.free_number.ensures.looked.reads.looks.same.tells ∙ tells in
    subst (λ (l : VolumeState). IsOnlyName (record { parent = c.args.way.now.parent; name = c.args.old.now }) l.catalog_pairs) (sym (lists_still c.args.volume.now c.free_number.new.volume (g.P.SectorView.space c.args.space.now) (g.P.SectorView.space c.free_number.new.space) c.free_number.ensures.looked.reads before)) (c.requires.only before)

pub link_under-requires-clause-links : goal.link_under-requires-clause-links
link_under-requires-clause-links g c tells =
    let before = sym c.free_number.ensures.looked.reads.looks.same.tells ∙ tells in
    subst (λ (k : Content). (from to : List (List ℕ)) × (at : PlainEntry) × IsLinking (tree_of k) from to at c.args.way.now.parent c.args.old.now c.args.way.now.id c.args.way.now.folder c.args.name.now) (sym (c.free_number.ensures.looked.reads.looks.content before)) (c.requires.links before)

pub returns-clause-does : goal.returns-clause-does
returns-clause-does g c tells from to entry linking =
    subst (λ (k : Content). OnOk c.link_under.result (IsSettled c.link_under.new.volume (g.P.SectorView.space c.link_under.new.space).content × (tree_of (g.P.SectorView.space c.link_under.new.space).content ≡ (step (tree_of k) (command.Ln from to)).1)
    × LinksFirst entry (free_place c.args.way.now.folder c.args.name.now) (volume_of k) (volume_of (g.P.SectorView.space c.link_under.new.space).content))) (c.free_number.ensures.looked.reads.looks.content tells)
    (c.link_under.ensures.does (c.free_number.ensures.looked.reads.looks.same.tells ∙ tells) from to entry (subst (λ (k : Content). IsLinking (tree_of k) from to entry c.args.way.now.parent c.args.old.now c.args.way.now.id c.args.way.now.folder c.args.name.now) (sym (c.free_number.ensures.looked.reads.looks.content tells)) linking))

pub returns-clause-edits : goal.returns-clause-edits
returns-clause-edits g c = edits_spent (edits_both g.met.P.SectorView.follows_trans c.free_number.ensures.looked.edits c.link_under.ensures.edits) (λ tells. omega arith)

pub returns-then-shape-lt4096-clause-does : goal.returns-then-shape-lt4096-clause-does
returns-then-shape-lt4096-clause-does g c tells from to entry linking =
    absurd (omega (arith, c.if-shape-lt4096.true, ap (λ (s : TreeShape). s.node_size) c.shape.ensures, node_large c.args.volume.now (g.P.SectorView.space c.args.space.now) c.requires.serves.stands tells))

pub returns-then-shape-lt4096-clause-edits : goal.returns-then-shape-lt4096-clause-edits
returns-then-shape-lt4096-clause-edits g c = edits_none _ g.met.P.SectorView.follows_refl c.requires.serves.stands

pub link_under-requires-clause-size : goal.link_under-requires-clause-size
link_under-requires-clause-size g c = omega (arith, c.if-shape-lt4096.false, ap (λ (s : TreeShape). s.node_size) c.shape.ensures, ap (λ (s : TreeShape). s.node_size) c.free_number.ensures.looked.reads.keeps.catalog.file.shape)

pub link_under-requires-clause-free : goal.link_under-requires-clause-free
link_under-requires-clause-free g c tells =
    let before = sym c.free_number.ensures.looked.reads.looks.same.tells ∙ tells in
    ap (λ (l : VolumeState). record_at (placed_in l.catalog_pairs) c.args.private (node_name c.in_ok-number.number)) (lists_still c.args.volume.now c.free_number.new.volume (g.P.SectorView.space c.args.space.now) (g.P.SectorView.space c.free_number.new.space) c.free_number.ensures.looked.reads before) ∙ c.in_ok-number.ensures.free before

pub link_under-requires-clause-room : goal.link_under-requires-clause-room
link_under-requires-clause-room g c = record {
  some = omega (arith, c.spare.ensures, c.has_sector.ensures.fits c.if-not-has_sector.false);
  ids = λ tells. omega (arith, c.requires.ids (sym c.free_number.ensures.looked.reads.looks.same.tells ∙ tells), ap (λ (h : VolumeHeader). h.next_catalog_id) c.free_number.ensures.looked.reads.keeps.header);
  left = ready_still c.args.volume.now c.free_number.new.volume (g.P.SectorView.space c.args.space.now) (g.P.SectorView.space c.free_number.new.space) (λ tells. node_large c.args.volume.now (g.P.SectorView.space c.args.space.now) c.requires.serves.stands tells) c.free_number.ensures.looked.reads c.requires.left;
}

pub returns-clause-leaves : goal.returns-clause-leaves
returns-clause-leaves g c tells beside had =
    omega (
      arith,
      c.link_under.ensures.leaves (c.free_number.ensures.looked.reads.looks.same.tells ∙ tells) beside (ready_beside beside c.args.volume.now c.free_number.new.volume (g.P.SectorView.space c.args.space.now) (g.P.SectorView.space c.free_number.new.space) (λ told. node_large c.args.volume.now (g.P.SectorView.space c.args.space.now) c.requires.serves.stands told) c.free_number.ensures.looked.reads had),
      node_still c.args.volume.now c.free_number.new.volume (g.P.SectorView.space c.args.space.now) (g.P.SectorView.space c.free_number.new.space) c.free_number.ensures.looked.reads,
    )

pub returns-in_err-number-clause-leaves : goal.returns-in_err-number-clause-leaves
returns-in_err-number-clause-leaves g c tells beside had = omega (arith, (had.told tells).0, c.free_number.ensures.looked.reads.looks.spare)

pub returns-in_err-node-clause-leaves : goal.returns-in_err-node-clause-leaves
returns-in_err-node-clause-leaves g c tells beside had = omega (arith, (had.told tells).0, c.free_number.ensures.looked.reads.looks.spare)

pub returns-then-not-has_sector-clause-leaves : goal.returns-then-not-has_sector-clause-leaves
returns-then-not-has_sector-clause-leaves g c tells beside had = omega (arith, (had.told tells).0, c.free_number.ensures.looked.reads.looks.spare)

pub returns-then-shape-lt4096-clause-leaves : goal.returns-then-shape-lt4096-clause-leaves
returns-then-shape-lt4096-clause-leaves g c tells beside had =
    absurd (omega (arith, c.if-shape-lt4096.true, ap (λ (s : TreeShape). s.node_size) c.shape.ensures, node_large c.args.volume.now (g.P.SectorView.space c.args.space.now) c.requires.serves.stands tells))

pub returns-in_err-node-clause-edits : goal.returns-in_err-node-clause-edits
returns-in_err-node-clause-edits g c = edits_err c.from_residual-in_err-node.ensures.1 (edits_short {U = ℕ} (edits_looked _ c.free_number.ensures.looked))
