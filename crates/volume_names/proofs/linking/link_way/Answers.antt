use Rattle.volume_names.proofs.LinkLoads.{puts_still}
use Rattle.std.proofs.Common.{◌≡◌, ℕ, List, sym, ◌∙◌, subst, arith}
use Rattle.std.specs.Prelude.{OnOk}
use Rattle.sector_disk.specs.Lists.{Content}
use Rattle.hfs_language.specs.declared.command.Command.TheVariants as command
use Rattle.hfs_model.specs.Step.{step}
use Rattle.hfs_model.specs.declared.plain.PlainEntry.{PlainEntry}
use Rattle.hfs_volume.specs.TreeOf.{tree_of}
use Rattle.volume_base.specs.Linking.{IsLinking}
use Rattle.volume_names.specs.Linking.{LinksName}
use Rattle.volume_base.specs.Making.{free_place}
use Rattle.volume_base.specs.Standing.{IsSettled}
use Rattle.volume_base.proofs.MakeRoom.{make_room_still}
use Rattle.volume_base.proofs.Framed.{edits_spent}
use Rattle.volume_base.proofs.Joined.{edits_both}
use Rattle.volume_names.proofs.linking.link_way.Goals as goal

pub link_named-requires-clause-links : goal.link_named-requires-clause-links
link_named-requires-clause-links g c tells =
    let before = sym c.link_date.ensures.looked.reads.looks.same.tells ∙ tells in
    subst (λ (k : Content). (from to : List (List ℕ)) × (at : PlainEntry) × IsLinking (tree_of k) from to at c.args.way.now.parent c.args.old.now c.args.way.now.id c.args.way.now.folder c.args.name.now) (sym (c.link_date.ensures.looked.reads.looks.content before)) (c.requires.links before)

pub link_named-requires-clause-room : goal.link_named-requires-clause-room
link_named-requires-clause-room g c = make_room_still c.args.volume.now c.link_date.new.volume (g.P.SectorView.space c.args.space.now) (g.P.SectorView.space c.link_date.new.space) c.link_date.ensures.looked.reads c.requires.room

pub returns-clause-does : goal.returns-clause-does
returns-clause-does g c tells from to entry linking =
    subst (λ (k : Content). OnOk c.link_named.result (IsSettled c.link_named.new.volume (g.P.SectorView.space c.link_named.new.space).content × (tree_of (g.P.SectorView.space c.link_named.new.space).content ≡ (step (tree_of k) (command.Ln from to)).1)
    × LinksName entry (free_place c.args.way.now.folder c.args.name.now) k (g.P.SectorView.space c.link_named.new.space).content)) (c.link_date.ensures.looked.reads.looks.content tells)
    (c.link_named.ensures.does (c.link_date.ensures.looked.reads.looks.same.tells ∙ tells) from to entry (subst (λ (k : Content). IsLinking (tree_of k) from to entry c.args.way.now.parent c.args.old.now c.args.way.now.id c.args.way.now.folder c.args.name.now) (sym (c.link_date.ensures.looked.reads.looks.content tells)) linking))

pub returns-clause-edits : goal.returns-clause-edits
returns-clause-edits g c = edits_spent (edits_both g.met.P.SectorView.follows_trans c.link_date.ensures.looked.edits c.link_named.ensures.edits) (λ tells. omega arith)

pub returns-clause-loads : goal.returns-clause-loads
returns-clause-loads g c tells from to entry linking =
    puts_still (command.Ln from to) c.args.volume.now c.link_date.new.volume (g.P.SectorView.space c.args.space.now) (g.P.SectorView.space c.link_date.new.space) (g.P.SectorView.space c.link_named.new.space) c.link_date.ensures.looked.reads tells
    (c.link_named.ensures.loads (c.link_date.ensures.looked.reads.looks.same.tells ∙ tells) from to entry (subst (λ (k : Content). IsLinking (tree_of k) from to entry c.args.way.now.parent c.args.old.now c.args.way.now.id c.args.way.now.folder c.args.name.now) (sym (c.link_date.ensures.looked.reads.looks.content tells)) linking))

pub returns-in_err-created-clause-loads : goal.returns-in_err-created-clause-loads
returns-in_err-created-clause-loads g c tells from to entry linking n grow is = omega (arith, c.link_date.ensures.looked.reads.looks.spare)
