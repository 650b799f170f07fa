use Rattle.volume_names.proofs.LinkLoads.{puts_still}
use Rattle.std.proofs.Common.{◌≡◌, ℕ, List, inl, inr, sym, ◌∙◌, subst, arith}
use Rattle.std.specs.Prelude.{OnOk}
use Rattle.sector_disk.specs.Lists.{Content}
use Rattle.hfs_language.specs.declared.command.Command.TheVariants as command
use Rattle.hfs_model.specs.Step.{step}
use Rattle.hfs_model.specs.declared.plain.PlainEntry.{PlainEntry}
use Rattle.hfs_volume.specs.Content.{VolumeState}
use Rattle.hfs_volume.specs.TreeOf.{tree_of}
use Rattle.volume_base.specs.Linking.{IsLinkTo, IsLinking}
use Rattle.volume_names.specs.Linking.{LinksAgain, LinksAnew, LinksName}
use Rattle.volume_base.specs.Lists.{lists_of}
use Rattle.volume_base.specs.Losing.{IsOnlyName}
use Rattle.volume_base.specs.Making.{free_place}
use Rattle.volume_base.specs.Standing.{IsSettled}
use Rattle.volume_base.proofs.MakeRoom.{make_room_still}
use Rattle.volume_base.proofs.Still.{lists_still}
use Rattle.volume_base.proofs.FoundEntry.{ok_so}
use Rattle.volume_base.proofs.Linkable.{link_told, own_told}
use Rattle.volume_base.proofs.Framed.{edits_spent}
use Rattle.volume_base.proofs.Joined.{edits_both}
use Rattle.volume_names.proofs.linking.link_named.Goals as goal

pub link_again-requires-clause-links : goal.link_again-requires-clause-links
link_again-requires-clause-links g c tells =
    let before = sym c.find_name.ensures.looked.reads.looks.same.tells ∙ tells in
    subst (λ (k : Content). (from to : List (List ℕ)) × (at : PlainEntry) × IsLinking (tree_of k) from to at c.args.way.now.parent c.args.old.now c.args.way.now.id c.args.way.now.folder c.args.name.now) (sym (c.find_name.ensures.looked.reads.looks.content before)) (c.requires.links before)

pub link_again-requires-clause-room : goal.link_again-requires-clause-room
link_again-requires-clause-room g c = make_room_still c.args.volume.now c.find_name.new.volume (g.P.SectorView.space c.args.space.now) (g.P.SectorView.space c.find_name.new.space) c.find_name.ensures.looked.reads c.requires.room

pub link_again-requires-clause-link : goal.link_again-requires-clause-link
link_again-requires-clause-link g c tells =
    let before = sym c.find_name.ensures.looked.reads.looks.same.tells ∙ tells in
    subst (λ (l : VolumeState). IsLinkTo c.args.way.now.parent c.args.old.now c.in-Link.reference l.catalog_pairs) (sym (lists_still c.args.volume.now c.find_name.new.volume (g.P.SectorView.space c.args.space.now) (g.P.SectorView.space c.find_name.new.space) c.find_name.ensures.looked.reads before))
    (link_told (lists_of c.args.volume.now (g.P.SectorView.space c.args.space.now).content).catalog_pairs c.args.way.now.parent c.args.old.now c.in-Link.reference (sym (c.in_ok-reference.ensures.found before) ∙ c.in-Link.is))

pub link_own-requires-clause-links : goal.link_own-requires-clause-links
link_own-requires-clause-links g c tells =
    let before = sym c.find_name.ensures.looked.reads.looks.same.tells ∙ tells in
    subst (λ (k : Content). (from to : List (List ℕ)) × (at : PlainEntry) × IsLinking (tree_of k) from to at c.args.way.now.parent c.args.old.now c.args.way.now.id c.args.way.now.folder c.args.name.now) (sym (c.find_name.ensures.looked.reads.looks.content before)) (c.requires.links before)

pub link_own-requires-clause-room : goal.link_own-requires-clause-room
link_own-requires-clause-room g c = make_room_still c.args.volume.now c.find_name.new.volume (g.P.SectorView.space c.args.space.now) (g.P.SectorView.space c.find_name.new.space) c.find_name.ensures.looked.reads c.requires.room

pub link_own-requires-clause-only : goal.link_own-requires-clause-only
link_own-requires-clause-only g c tells =
    let before = sym c.find_name.ensures.looked.reads.looks.same.tells ∙ tells in
    subst (λ (l : VolumeState). IsOnlyName (record { parent = c.args.way.now.parent; name = c.args.old.now }) l.catalog_pairs) (sym (lists_still c.args.volume.now c.find_name.new.volume (g.P.SectorView.space c.args.space.now) (g.P.SectorView.space c.find_name.new.space) c.find_name.ensures.looked.reads before))
    (own_told (lists_of c.args.volume.now (g.P.SectorView.space c.args.space.now).content).catalog_pairs c.args.way.now.parent c.args.old.now (sym (c.in_ok-reference.ensures.found before) ∙ c.in-Own.is))

pub returns-in-Link-clause-does : goal.returns-in-Link-clause-does
returns-in-Link-clause-does g c tells from to entry linking =
    subst (λ (k : Content). OnOk c.link_again.result (IsSettled c.link_again.new.volume (g.P.SectorView.space c.link_again.new.space).content × (tree_of (g.P.SectorView.space c.link_again.new.space).content ≡ (step (tree_of k) (command.Ln from to)).1)
    × LinksName entry (free_place c.args.way.now.folder c.args.name.now) k (g.P.SectorView.space c.link_again.new.space).content)) (c.find_name.ensures.looked.reads.looks.content tells)
    (ok_so
    (IsSettled c.link_again.new.volume (g.P.SectorView.space c.link_again.new.space).content × (tree_of (g.P.SectorView.space c.link_again.new.space).content ≡ (step (tree_of (g.P.SectorView.space c.find_name.new.space).content) (command.Ln from to)).1)
    × LinksAgain entry (free_place c.args.way.now.folder c.args.name.now) (g.P.SectorView.space c.find_name.new.space).content (g.P.SectorView.space c.link_again.new.space).content)
    (IsSettled c.link_again.new.volume (g.P.SectorView.space c.link_again.new.space).content × (tree_of (g.P.SectorView.space c.link_again.new.space).content ≡ (step (tree_of (g.P.SectorView.space c.find_name.new.space).content) (command.Ln from to)).1)
    × LinksName entry (free_place c.args.way.now.folder c.args.name.now) (g.P.SectorView.space c.find_name.new.space).content (g.P.SectorView.space c.link_again.new.space).content)
    c.link_again.result
    (c.link_again.ensures.does (c.find_name.ensures.looked.reads.looks.same.tells ∙ tells) from to entry (subst (λ (k : Content). IsLinking (tree_of k) from to entry c.args.way.now.parent c.args.old.now c.args.way.now.id c.args.way.now.folder c.args.name.now) (sym (c.find_name.ensures.looked.reads.looks.content tells)) linking))
    (λ does. (does.0, does.1, inr does.2)))

pub returns-in-Own-clause-does : goal.returns-in-Own-clause-does
returns-in-Own-clause-does g c tells from to entry linking =
    subst (λ (k : Content). OnOk c.link_own.result (IsSettled c.link_own.new.volume (g.P.SectorView.space c.link_own.new.space).content × (tree_of (g.P.SectorView.space c.link_own.new.space).content ≡ (step (tree_of k) (command.Ln from to)).1)
    × LinksName entry (free_place c.args.way.now.folder c.args.name.now) k (g.P.SectorView.space c.link_own.new.space).content)) (c.find_name.ensures.looked.reads.looks.content tells)
    (ok_so
    (IsSettled c.link_own.new.volume (g.P.SectorView.space c.link_own.new.space).content × (tree_of (g.P.SectorView.space c.link_own.new.space).content ≡ (step (tree_of (g.P.SectorView.space c.find_name.new.space).content) (command.Ln from to)).1)
    × LinksAnew entry (free_place c.args.way.now.folder c.args.name.now) (g.P.SectorView.space c.find_name.new.space).content (g.P.SectorView.space c.link_own.new.space).content)
    (IsSettled c.link_own.new.volume (g.P.SectorView.space c.link_own.new.space).content × (tree_of (g.P.SectorView.space c.link_own.new.space).content ≡ (step (tree_of (g.P.SectorView.space c.find_name.new.space).content) (command.Ln from to)).1)
    × LinksName entry (free_place c.args.way.now.folder c.args.name.now) (g.P.SectorView.space c.find_name.new.space).content (g.P.SectorView.space c.link_own.new.space).content)
    c.link_own.result
    (c.link_own.ensures.does (c.find_name.ensures.looked.reads.looks.same.tells ∙ tells) from to entry (subst (λ (k : Content). IsLinking (tree_of k) from to entry c.args.way.now.parent c.args.old.now c.args.way.now.id c.args.way.now.folder c.args.name.now) (sym (c.find_name.ensures.looked.reads.looks.content tells)) linking))
    (λ does. (does.0, does.1, inl does.2)))

pub returns-in-Link-clause-edits : goal.returns-in-Link-clause-edits
returns-in-Link-clause-edits g c = edits_spent (edits_both g.met.P.SectorView.follows_trans c.find_name.ensures.looked.edits c.link_again.ensures.edits) (λ tells. omega arith)

pub returns-in-Own-clause-edits : goal.returns-in-Own-clause-edits
returns-in-Own-clause-edits g c = edits_spent (edits_both g.met.P.SectorView.follows_trans c.find_name.ensures.looked.edits c.link_own.ensures.edits) (λ tells. omega arith)

pub returns-in-Link-clause-loads : goal.returns-in-Link-clause-loads
returns-in-Link-clause-loads g c tells from to entry linking =
    puts_still (command.Ln from to) c.args.volume.now c.find_name.new.volume (g.P.SectorView.space c.args.space.now) (g.P.SectorView.space c.find_name.new.space) (g.P.SectorView.space c.link_again.new.space) c.find_name.ensures.looked.reads tells
    (c.link_again.ensures.loads (c.find_name.ensures.looked.reads.looks.same.tells ∙ tells) from to entry (subst (λ (k : Content). IsLinking (tree_of k) from to entry c.args.way.now.parent c.args.old.now c.args.way.now.id c.args.way.now.folder c.args.name.now) (sym (c.find_name.ensures.looked.reads.looks.content tells)) linking))

pub returns-in-Own-clause-loads : goal.returns-in-Own-clause-loads
returns-in-Own-clause-loads g c tells from to entry linking =
    puts_still (command.Ln from to) c.args.volume.now c.find_name.new.volume (g.P.SectorView.space c.args.space.now) (g.P.SectorView.space c.find_name.new.space) (g.P.SectorView.space c.link_own.new.space) c.find_name.ensures.looked.reads tells
    (c.link_own.ensures.loads (c.find_name.ensures.looked.reads.looks.same.tells ∙ tells) from to entry (subst (λ (k : Content). IsLinking (tree_of k) from to entry c.args.way.now.parent c.args.old.now c.args.way.now.id c.args.way.now.folder c.args.name.now) (sym (c.find_name.ensures.looked.reads.looks.content tells)) linking))

pub returns-in-Other-clause-loads : goal.returns-in-Other-clause-loads
returns-in-Other-clause-loads g c tells from to entry linking n grow is = omega (arith, c.find_name.ensures.looked.reads.looks.spare)

pub returns-in_err-reference-clause-loads : goal.returns-in_err-reference-clause-loads
returns-in_err-reference-clause-loads g c tells from to entry linking n grow is = omega (arith, c.find_name.ensures.looked.reads.looks.spare)
