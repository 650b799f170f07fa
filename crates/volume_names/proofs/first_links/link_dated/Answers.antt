use Rattle.volume_base.proofs.FoundEntry.{node_still}
use Rattle.std.proofs.Common.{◌≡◌, ℕ, List, sym, ◌∙◌, ap, subst, arith}
use Rattle.std.specs.Prelude.{OnOk}
use Rattle.sector_disk.specs.Lists.{Content}
use Rattle.hfs_language.specs.declared.command.Command.TheVariants as command
use Rattle.hfs_model.specs.Step.{step}
use Rattle.hfs_model.specs.declared.plain.PlainEntry.{PlainEntry}
use Rattle.hfs_volume.specs.Content.{VolumeState, volume_of}
use Rattle.hfs_volume.specs.Naming.{LinksFirst}
use Rattle.hfs_volume.specs.TreeOf.{tree_of}
use Rattle.volume_base.specs.Linking.{IsLinking}
use Rattle.volume_base.specs.Losing.{IsOnlyName}
use Rattle.volume_base.specs.Making.{free_place}
use Rattle.volume_base.specs.Standing.{IsSettled}
use Rattle.volume_header.specs.declared.header.VolumeHeader.{VolumeHeader}
use Rattle.volume_base.proofs.Still.{lists_still}
use Rattle.volume_base.proofs.Replaced.{node_large}
use Rattle.volume_names.proofs.EditsLeft.{ready_still, ready_beside}
use Rattle.volume_base.proofs.Framed.{edits_spent}
use Rattle.volume_base.proofs.Joined.{edits_both}
use Rattle.volume_names.proofs.first_links.link_dated.Goals as goal

pub link_ready-requires-clause-private : goal.link_ready-requires-clause-private
link_ready-requires-clause-private g c = c.link_date.ensures.looked.reads.keeps.private ∙ c.requires.private

pub link_ready-requires-clause-only : goal.link_ready-requires-clause-only
link_ready-requires-clause-only g c tells =
    let before = sym c.link_date.ensures.looked.reads.looks.same.tells ∙ tells in
    subst (λ (l : VolumeState). IsOnlyName (record { parent = c.args.way.now.parent; name = c.args.old.now }) l.catalog_pairs) (sym (lists_still c.args.volume.now c.link_date.new.volume (g.P.SectorView.space c.args.space.now) (g.P.SectorView.space c.link_date.new.space) c.link_date.ensures.looked.reads before)) (c.requires.only before)

pub link_ready-requires-clause-links : goal.link_ready-requires-clause-links
link_ready-requires-clause-links g c tells =
    let before = sym c.link_date.ensures.looked.reads.looks.same.tells ∙ tells in
    subst (λ (k : Content). (from to : List (List ℕ)) × (at : PlainEntry) × IsLinking (tree_of k) from to at c.args.way.now.parent c.args.old.now c.args.way.now.id c.args.way.now.folder c.args.name.now) (sym (c.link_date.ensures.looked.reads.looks.content before)) (c.requires.links before)

pub returns-clause-does : goal.returns-clause-does
returns-clause-does g c tells from to entry linking =
    subst (λ (k : Content). OnOk c.link_ready.result (IsSettled c.link_ready.new.volume (g.P.SectorView.space c.link_ready.new.space).content × (tree_of (g.P.SectorView.space c.link_ready.new.space).content ≡ (step (tree_of k) (command.Ln from to)).1)
    × LinksFirst entry (free_place c.args.way.now.folder c.args.name.now) (volume_of k) (volume_of (g.P.SectorView.space c.link_ready.new.space).content))) (c.link_date.ensures.looked.reads.looks.content tells)
    (c.link_ready.ensures.does (c.link_date.ensures.looked.reads.looks.same.tells ∙ tells) from to entry (subst (λ (k : Content). IsLinking (tree_of k) from to entry c.args.way.now.parent c.args.old.now c.args.way.now.id c.args.way.now.folder c.args.name.now) (sym (c.link_date.ensures.looked.reads.looks.content tells)) linking))

pub returns-clause-edits : goal.returns-clause-edits
returns-clause-edits g c = edits_spent (edits_both g.met.P.SectorView.follows_trans c.link_date.ensures.looked.edits c.link_ready.ensures.edits) (λ tells. omega arith)

pub link_ready-requires-clause-ids : goal.link_ready-requires-clause-ids
link_ready-requires-clause-ids g c tells = omega (arith, c.requires.ids (sym c.link_date.ensures.looked.reads.looks.same.tells ∙ tells), ap (λ (h : VolumeHeader). h.next_catalog_id) c.link_date.ensures.looked.reads.keeps.header)

pub link_ready-requires-clause-left : goal.link_ready-requires-clause-left
link_ready-requires-clause-left g c = ready_still c.args.volume.now c.link_date.new.volume (g.P.SectorView.space c.args.space.now) (g.P.SectorView.space c.link_date.new.space) (λ tells. node_large c.args.volume.now (g.P.SectorView.space c.args.space.now) c.requires.serves.stands tells) c.link_date.ensures.looked.reads c.requires.left

pub returns-clause-leaves : goal.returns-clause-leaves
returns-clause-leaves g c tells beside had =
    omega (
      arith,
      c.link_ready.ensures.leaves (c.link_date.ensures.looked.reads.looks.same.tells ∙ tells) beside (ready_beside beside c.args.volume.now c.link_date.new.volume (g.P.SectorView.space c.args.space.now) (g.P.SectorView.space c.link_date.new.space) (λ told. node_large c.args.volume.now (g.P.SectorView.space c.args.space.now) c.requires.serves.stands told) c.link_date.ensures.looked.reads had),
      node_still c.args.volume.now c.link_date.new.volume (g.P.SectorView.space c.args.space.now) (g.P.SectorView.space c.link_date.new.space) c.link_date.ensures.looked.reads,
    )

pub returns-in_err-created-clause-leaves : goal.returns-in_err-created-clause-leaves
returns-in_err-created-clause-leaves g c tells beside had = omega (arith, (had.told tells).0, c.link_date.ensures.looked.reads.looks.spare)
