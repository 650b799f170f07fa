use Rattle.volume_names.proofs.LinkLoads.{puts_still}
use Rattle.std.proofs.Common.{◌≡◌, ℕ, List, sym, ◌∙◌, ap, subst, arith}
use Rattle.std.proofs.lemmas.Bool.{true≢false}
use Rattle.sector_disk.specs.Lists.{Content}
use Rattle.hfs_language.specs.Written.{FitsPath}
use Rattle.hfs_language.specs.declared.command.Command.TheVariants as command
use Rattle.hfs_model.specs.Step.{step}
use Rattle.hfs_volume.specs.TreeOf.{tree_of}
use Rattle.volume_base.specs.Linking.{IsLinking}
use Rattle.volume_names.specs.Linking.{LinksName}
use Rattle.volume_base.specs.Lists.{lists_of}
use Rattle.volume_base.specs.Making.{free_place}
use Rattle.volume_base.specs.Moving.{route_in}
use Rattle.volume_base.proofs.Linkable.{is_linking, linked_at, linked_line}
use Rattle.volume_base.proofs.MakeRoom.{make_room_still}
use Rattle.volume_base.proofs.Sited.{fits_above, fits_name, some_name}
use Rattle.volume_base.proofs.Framed.{edits_err, edits_ok, edits_spent}
use Rattle.volume_base.proofs.Joined.{edits_both, edits_serves}
use Rattle.volume_names.proofs.linking.ln_under.Goals as goal

pub route-requires-clause-from_fits : goal.route-requires-clause-from_fits
route-requires-clause-from_fits g c = subst FitsPath (sym c.as_slice.ensures) c.requires.from_fits

pub route-requires-clause-above_fits : goal.route-requires-clause-above_fits
route-requires-clause-above_fits g c = fits_above c.args.above.now c.args.old.now (subst FitsPath c.requires.split c.requires.from_fits)

pub route-requires-clause-under_fits : goal.route-requires-clause-under_fits
route-requires-clause-under_fits g c = fits_above c.args.under.now c.args.name.now (subst FitsPath c.requires.goal_split c.requires.to_fits)

pub route-requires-clause-name : goal.route-requires-clause-name
route-requires-clause-name g c = (fits_name c.args.under.now c.args.name.now (subst FitsPath c.requires.goal_split c.requires.to_fits)).short

pub link_way-requires-clause-some_old : goal.link_way-requires-clause-some_old
link_way-requires-clause-some_old g c = (fits_name c.args.above.now c.args.old.now (subst FitsPath c.requires.split c.requires.from_fits)).some

pub link_way-requires-clause-some : goal.link_way-requires-clause-some
link_way-requires-clause-some g c = (fits_name c.args.under.now c.args.name.now (subst FitsPath c.requires.goal_split c.requires.to_fits)).some

pub link_way-requires-clause-name : goal.link_way-requires-clause-name
link_way-requires-clause-name g c = (fits_name c.args.under.now c.args.name.now (subst FitsPath c.requires.goal_split c.requires.to_fits)).short

pub link_way-requires-clause-old_name : goal.link_way-requires-clause-old_name
link_way-requires-clause-old_name g c = (fits_name c.args.above.now c.args.old.now (subst FitsPath c.requires.split c.requires.from_fits)).short

pub link_way-requires-clause-links : goal.link_way-requires-clause-links
link_way-requires-clause-links g c tells =
    let before = sym c.route.ensures.looked.reads.looks.same.tells ∙ tells in (
      c.args.from.now,
      c.args.to.now,
      linked_at c.sound_has_plain_tree.ensures c.args.volume.now (g.P.SectorView.space c.args.space.now).content (c.requires.serves.stands.stands before).trees (c.requires.serves.settled before) c.args.from.now c.args.to.now c.args.above.now c.args.under.now c.args.old.now c.args.name.now c.requires.split c.requires.goal_split (c.requires.fine before) c.requires.from_fits c.requires.to_fits c.in_ok-way.field-0 (subst (λ (p : List (List ℕ)). c.in_ok-way.field-0 ≡ route_in (lists_of c.args.volume.now (g.P.SectorView.space c.args.space.now).content).catalog_pairs c.args.volume.now.private p c.args.above.now c.args.under.now c.args.name.now) c.as_slice.ensures (c.in_ok-way.ensures.found before)) c.in-Ok.way c.in-Ok.is,
      subst (λ (k : Content). IsLinking (tree_of k) c.args.from.now c.args.to.now (linked_at c.sound_has_plain_tree.ensures c.args.volume.now (g.P.SectorView.space c.args.space.now).content (c.requires.serves.stands.stands before).trees (c.requires.serves.settled before) c.args.from.now c.args.to.now c.args.above.now c.args.under.now c.args.old.now c.args.name.now c.requires.split c.requires.goal_split (c.requires.fine before) c.requires.from_fits c.requires.to_fits c.in_ok-way.field-0 (subst (λ (p : List (List ℕ)). c.in_ok-way.field-0 ≡ route_in (lists_of c.args.volume.now (g.P.SectorView.space c.args.space.now).content).catalog_pairs c.args.volume.now.private p c.args.above.now c.args.under.now c.args.name.now) c.as_slice.ensures (c.in_ok-way.ensures.found before)) c.in-Ok.way c.in-Ok.is) c.in-Ok.way.parent c.args.old.now c.in-Ok.way.id c.in-Ok.way.folder c.args.name.now) (sym (c.route.ensures.looked.reads.looks.content before)) (is_linking c.sound_has_plain_tree.ensures c.args.volume.now (g.P.SectorView.space c.args.space.now).content (c.requires.serves.stands.stands before).trees (c.requires.serves.settled before) c.args.from.now c.args.to.now c.args.above.now c.args.under.now c.args.old.now c.args.name.now c.requires.split c.requires.goal_split (c.requires.fine before) c.requires.from_fits c.requires.to_fits c.in_ok-way.field-0 (subst (λ (p : List (List ℕ)). c.in_ok-way.field-0 ≡ route_in (lists_of c.args.volume.now (g.P.SectorView.space c.args.space.now).content).catalog_pairs c.args.volume.now.private p c.args.above.now c.args.under.now c.args.name.now) c.as_slice.ensures (c.in_ok-way.ensures.found before)) c.in-Ok.way c.in-Ok.is),
    )

pub link_way-requires-clause-room : goal.link_way-requires-clause-room
link_way-requires-clause-room g c = make_room_still c.args.volume.now c.route.new.self (g.P.SectorView.space c.args.space.now) (g.P.SectorView.space c.route.new.space) c.route.ensures.looked.reads c.requires.room

pub returns-in_ok-link_way-in-Ok-clause-reply : goal.returns-in_ok-link_way-in-Ok-clause-reply
returns-in_ok-link_way-in-Ok-clause-reply g c tells = (linked_line (tree_of (g.P.SectorView.space c.args.space.now).content) c.args.from.now c.args.to.now (c.requires.fine tells)).0

pub returns-in_ok-link_way-in-Ok-clause-tree : goal.returns-in_ok-link_way-in-Ok-clause-tree
returns-in_ok-link_way-in-Ok-clause-tree g c tells =
    (c.in_ok-link_way-in-Ok.ensures.does (c.route.ensures.looked.reads.looks.same.tells ∙ tells) c.args.from.now c.args.to.now (linked_at c.sound_has_plain_tree.ensures c.args.volume.now (g.P.SectorView.space c.args.space.now).content (c.requires.serves.stands.stands tells).trees (c.requires.serves.settled tells) c.args.from.now c.args.to.now c.args.above.now c.args.under.now c.args.old.now c.args.name.now c.requires.split c.requires.goal_split (c.requires.fine tells) c.requires.from_fits c.requires.to_fits c.in_ok-way.field-0 (subst (λ (p : List (List ℕ)). c.in_ok-way.field-0 ≡ route_in (lists_of c.args.volume.now (g.P.SectorView.space c.args.space.now).content).catalog_pairs c.args.volume.now.private p c.args.above.now c.args.under.now c.args.name.now) c.as_slice.ensures (c.in_ok-way.ensures.found tells)) c.in-Ok.way c.in-Ok.is)
    (subst (λ (k : Content). IsLinking (tree_of k) c.args.from.now c.args.to.now (linked_at c.sound_has_plain_tree.ensures c.args.volume.now (g.P.SectorView.space c.args.space.now).content (c.requires.serves.stands.stands tells).trees (c.requires.serves.settled tells) c.args.from.now c.args.to.now c.args.above.now c.args.under.now c.args.old.now c.args.name.now c.requires.split c.requires.goal_split (c.requires.fine tells) c.requires.from_fits c.requires.to_fits c.in_ok-way.field-0 (subst (λ (p : List (List ℕ)). c.in_ok-way.field-0 ≡ route_in (lists_of c.args.volume.now (g.P.SectorView.space c.args.space.now).content).catalog_pairs c.args.volume.now.private p c.args.above.now c.args.under.now c.args.name.now) c.as_slice.ensures (c.in_ok-way.ensures.found tells)) c.in-Ok.way c.in-Ok.is) c.in-Ok.way.parent c.args.old.now c.in-Ok.way.id c.in-Ok.way.folder c.args.name.now) (sym (c.route.ensures.looked.reads.looks.content tells)) (is_linking c.sound_has_plain_tree.ensures c.args.volume.now (g.P.SectorView.space c.args.space.now).content (c.requires.serves.stands.stands tells).trees (c.requires.serves.settled tells) c.args.from.now c.args.to.now c.args.above.now c.args.under.now c.args.old.now c.args.name.now c.requires.split c.requires.goal_split (c.requires.fine tells) c.requires.from_fits c.requires.to_fits c.in_ok-way.field-0 (subst (λ (p : List (List ℕ)). c.in_ok-way.field-0 ≡ route_in (lists_of c.args.volume.now (g.P.SectorView.space c.args.space.now).content).catalog_pairs c.args.volume.now.private p c.args.above.now c.args.under.now c.args.name.now) c.as_slice.ensures (c.in_ok-way.ensures.found tells)) c.in-Ok.way c.in-Ok.is))).1
    ∙ ap (λ (k : Content). (step (tree_of k) (command.Ln c.args.from.now c.args.to.now)).1) (c.route.ensures.looked.reads.looks.content tells)
    ∙ (linked_line (tree_of (g.P.SectorView.space c.args.space.now).content) c.args.from.now c.args.to.now (c.requires.fine tells)).1

pub returns-in_ok-link_way-in-Ok-clause-refused : goal.returns-in_ok-link_way-in-Ok-clause-refused
returns-in_ok-link_way-in-Ok-clause-refused g c tells is = absurd (true≢false (sym is))

pub returns-in_ok-link_way-in-Ok-clause-lists : goal.returns-in_ok-link_way-in-Ok-clause-lists
returns-in_ok-link_way-in-Ok-clause-lists g c tells is = record {
  entry = linked_at c.sound_has_plain_tree.ensures c.args.volume.now (g.P.SectorView.space c.args.space.now).content (c.requires.serves.stands.stands tells).trees (c.requires.serves.settled tells) c.args.from.now c.args.to.now c.args.above.now c.args.under.now c.args.old.now c.args.name.now c.requires.split c.requires.goal_split (c.requires.fine tells) c.requires.from_fits c.requires.to_fits c.in_ok-way.field-0 (subst (λ (p : List (List ℕ)). c.in_ok-way.field-0 ≡ route_in (lists_of c.args.volume.now (g.P.SectorView.space c.args.space.now).content).catalog_pairs c.args.volume.now.private p c.args.above.now c.args.under.now c.args.name.now) c.as_slice.ensures (c.in_ok-way.ensures.found tells)) c.in-Ok.way c.in-Ok.is;
  place = free_place c.in-Ok.way.folder c.args.name.now;
  allowed = (is_linking c.sound_has_plain_tree.ensures c.args.volume.now (g.P.SectorView.space c.args.space.now).content (c.requires.serves.stands.stands tells).trees (c.requires.serves.settled tells) c.args.from.now c.args.to.now c.args.above.now c.args.under.now c.args.old.now c.args.name.now c.requires.split c.requires.goal_split (c.requires.fine tells) c.requires.from_fits c.requires.to_fits c.in_ok-way.field-0 (subst (λ (p : List (List ℕ)). c.in_ok-way.field-0 ≡ route_in (lists_of c.args.volume.now (g.P.SectorView.space c.args.space.now).content).catalog_pairs c.args.volume.now.private p c.args.above.now c.args.under.now c.args.name.now) c.as_slice.ensures (c.in_ok-way.ensures.found tells)) c.in-Ok.way c.in-Ok.is).allowed;
  named = some_name c.args.name.now (fits_name c.args.under.now c.args.name.now (subst FitsPath c.requires.goal_split c.requires.to_fits)).some;
  links = subst (λ (k : Content). LinksName (linked_at c.sound_has_plain_tree.ensures c.args.volume.now (g.P.SectorView.space c.args.space.now).content (c.requires.serves.stands.stands tells).trees (c.requires.serves.settled tells) c.args.from.now c.args.to.now c.args.above.now c.args.under.now c.args.old.now c.args.name.now c.requires.split c.requires.goal_split (c.requires.fine tells) c.requires.from_fits c.requires.to_fits c.in_ok-way.field-0 (subst (λ (p : List (List ℕ)). c.in_ok-way.field-0 ≡ route_in (lists_of c.args.volume.now (g.P.SectorView.space c.args.space.now).content).catalog_pairs c.args.volume.now.private p c.args.above.now c.args.under.now c.args.name.now) c.as_slice.ensures (c.in_ok-way.ensures.found tells)) c.in-Ok.way c.in-Ok.is) (free_place c.in-Ok.way.folder c.args.name.now) k (g.P.SectorView.space c.link_way.new.space).content) (c.route.ensures.looked.reads.looks.content tells)
      (c.in_ok-link_way-in-Ok.ensures.does (c.route.ensures.looked.reads.looks.same.tells ∙ tells) c.args.from.now c.args.to.now (linked_at c.sound_has_plain_tree.ensures c.args.volume.now (g.P.SectorView.space c.args.space.now).content (c.requires.serves.stands.stands tells).trees (c.requires.serves.settled tells) c.args.from.now c.args.to.now c.args.above.now c.args.under.now c.args.old.now c.args.name.now c.requires.split c.requires.goal_split (c.requires.fine tells) c.requires.from_fits c.requires.to_fits c.in_ok-way.field-0 (subst (λ (p : List (List ℕ)). c.in_ok-way.field-0 ≡ route_in (lists_of c.args.volume.now (g.P.SectorView.space c.args.space.now).content).catalog_pairs c.args.volume.now.private p c.args.above.now c.args.under.now c.args.name.now) c.as_slice.ensures (c.in_ok-way.ensures.found tells)) c.in-Ok.way c.in-Ok.is)
      (subst (λ (k : Content). IsLinking (tree_of k) c.args.from.now c.args.to.now (linked_at c.sound_has_plain_tree.ensures c.args.volume.now (g.P.SectorView.space c.args.space.now).content (c.requires.serves.stands.stands tells).trees (c.requires.serves.settled tells) c.args.from.now c.args.to.now c.args.above.now c.args.under.now c.args.old.now c.args.name.now c.requires.split c.requires.goal_split (c.requires.fine tells) c.requires.from_fits c.requires.to_fits c.in_ok-way.field-0 (subst (λ (p : List (List ℕ)). c.in_ok-way.field-0 ≡ route_in (lists_of c.args.volume.now (g.P.SectorView.space c.args.space.now).content).catalog_pairs c.args.volume.now.private p c.args.above.now c.args.under.now c.args.name.now) c.as_slice.ensures (c.in_ok-way.ensures.found tells)) c.in-Ok.way c.in-Ok.is) c.in-Ok.way.parent c.args.old.now c.in-Ok.way.id c.in-Ok.way.folder c.args.name.now) (sym (c.route.ensures.looked.reads.looks.content tells)) (is_linking c.sound_has_plain_tree.ensures c.args.volume.now (g.P.SectorView.space c.args.space.now).content (c.requires.serves.stands.stands tells).trees (c.requires.serves.settled tells) c.args.from.now c.args.to.now c.args.above.now c.args.under.now c.args.old.now c.args.name.now c.requires.split c.requires.goal_split (c.requires.fine tells) c.requires.from_fits c.requires.to_fits c.in_ok-way.field-0 (subst (λ (p : List (List ℕ)). c.in_ok-way.field-0 ≡ route_in (lists_of c.args.volume.now (g.P.SectorView.space c.args.space.now).content).catalog_pairs c.args.volume.now.private p c.args.above.now c.args.under.now c.args.name.now) c.as_slice.ensures (c.in_ok-way.ensures.found tells)) c.in-Ok.way c.in-Ok.is))).2;
}

pub returns-in_ok-link_way-in-Ok-clause-edits : goal.returns-in_ok-link_way-in-Ok-clause-edits
returns-in_ok-link_way-in-Ok-clause-edits g c =
    edits_ok (edits_spent (edits_both g.met.P.SectorView.follows_trans c.route.ensures.looked.edits c.in_ok-link_way-in-Ok.ensures.edits) (λ tells. omega arith))

pub returns-in_ok-link_way-in-Ok-clause-serves : goal.returns-in_ok-link_way-in-Ok-clause-serves
returns-in_ok-link_way-in-Ok-clause-serves g c =
    edits_serves (returns-in_ok-link_way-in-Ok-clause-edits g c) (λ tells. (c.in_ok-link_way-in-Ok.ensures.does (c.route.ensures.looked.reads.looks.same.tells ∙ tells) c.args.from.now c.args.to.now (linked_at c.sound_has_plain_tree.ensures c.args.volume.now (g.P.SectorView.space c.args.space.now).content (c.requires.serves.stands.stands tells).trees (c.requires.serves.settled tells) c.args.from.now c.args.to.now c.args.above.now c.args.under.now c.args.old.now c.args.name.now c.requires.split c.requires.goal_split (c.requires.fine tells) c.requires.from_fits c.requires.to_fits c.in_ok-way.field-0 (subst (λ (p : List (List ℕ)). c.in_ok-way.field-0 ≡ route_in (lists_of c.args.volume.now (g.P.SectorView.space c.args.space.now).content).catalog_pairs c.args.volume.now.private p c.args.above.now c.args.under.now c.args.name.now) c.as_slice.ensures (c.in_ok-way.ensures.found tells)) c.in-Ok.way c.in-Ok.is)
    (subst (λ (k : Content). IsLinking (tree_of k) c.args.from.now c.args.to.now (linked_at c.sound_has_plain_tree.ensures c.args.volume.now (g.P.SectorView.space c.args.space.now).content (c.requires.serves.stands.stands tells).trees (c.requires.serves.settled tells) c.args.from.now c.args.to.now c.args.above.now c.args.under.now c.args.old.now c.args.name.now c.requires.split c.requires.goal_split (c.requires.fine tells) c.requires.from_fits c.requires.to_fits c.in_ok-way.field-0 (subst (λ (p : List (List ℕ)). c.in_ok-way.field-0 ≡ route_in (lists_of c.args.volume.now (g.P.SectorView.space c.args.space.now).content).catalog_pairs c.args.volume.now.private p c.args.above.now c.args.under.now c.args.name.now) c.as_slice.ensures (c.in_ok-way.ensures.found tells)) c.in-Ok.way c.in-Ok.is) c.in-Ok.way.parent c.args.old.now c.in-Ok.way.id c.in-Ok.way.folder c.args.name.now) (sym (c.route.ensures.looked.reads.looks.content tells)) (is_linking c.sound_has_plain_tree.ensures c.args.volume.now (g.P.SectorView.space c.args.space.now).content (c.requires.serves.stands.stands tells).trees (c.requires.serves.settled tells) c.args.from.now c.args.to.now c.args.above.now c.args.under.now c.args.old.now c.args.name.now c.requires.split c.requires.goal_split (c.requires.fine tells) c.requires.from_fits c.requires.to_fits c.in_ok-way.field-0 (subst (λ (p : List (List ℕ)). c.in_ok-way.field-0 ≡ route_in (lists_of c.args.volume.now (g.P.SectorView.space c.args.space.now).content).catalog_pairs c.args.volume.now.private p c.args.above.now c.args.under.now c.args.name.now) c.as_slice.ensures (c.in_ok-way.ensures.found tells)) c.in-Ok.way c.in-Ok.is))).0)

pub returns-in_err-link_way-in-Ok-clause-edits : goal.returns-in_err-link_way-in-Ok-clause-edits
returns-in_err-link_way-in-Ok-clause-edits g c =
    edits_err c.from_residual-in_err-link_way-in-Ok.ensures.1 (edits_spent (edits_both g.met.P.SectorView.follows_trans c.route.ensures.looked.edits c.in_err-link_way-in-Ok.ensures.edits) (λ tells. omega arith))

pub returns-in_ok-link_way-in-Ok-clause-loads : goal.returns-in_ok-link_way-in-Ok-clause-loads
returns-in_ok-link_way-in-Ok-clause-loads g c tells =
    puts_still (command.Ln c.args.from.now c.args.to.now) c.args.volume.now c.route.new.self (g.P.SectorView.space c.args.space.now) (g.P.SectorView.space c.route.new.space) (g.P.SectorView.space c.link_way.new.space) c.route.ensures.looked.reads tells
    (c.link_way.ensures.loads (c.route.ensures.looked.reads.looks.same.tells ∙ tells) c.args.from.now c.args.to.now (linked_at c.sound_has_plain_tree.ensures c.args.volume.now (g.P.SectorView.space c.args.space.now).content (c.requires.serves.stands.stands tells).trees (c.requires.serves.settled tells) c.args.from.now c.args.to.now c.args.above.now c.args.under.now c.args.old.now c.args.name.now c.requires.split c.requires.goal_split (c.requires.fine tells) c.requires.from_fits c.requires.to_fits c.in_ok-way.field-0 (subst (λ (p : List (List ℕ)). c.in_ok-way.field-0 ≡ route_in (lists_of c.args.volume.now (g.P.SectorView.space c.args.space.now).content).catalog_pairs c.args.volume.now.private p c.args.above.now c.args.under.now c.args.name.now) c.as_slice.ensures (c.in_ok-way.ensures.found tells)) c.in-Ok.way c.in-Ok.is)
    (subst (λ (k : Content). IsLinking (tree_of k) c.args.from.now c.args.to.now (linked_at c.sound_has_plain_tree.ensures c.args.volume.now (g.P.SectorView.space c.args.space.now).content (c.requires.serves.stands.stands tells).trees (c.requires.serves.settled tells) c.args.from.now c.args.to.now c.args.above.now c.args.under.now c.args.old.now c.args.name.now c.requires.split c.requires.goal_split (c.requires.fine tells) c.requires.from_fits c.requires.to_fits c.in_ok-way.field-0 (subst (λ (p : List (List ℕ)). c.in_ok-way.field-0 ≡ route_in (lists_of c.args.volume.now (g.P.SectorView.space c.args.space.now).content).catalog_pairs c.args.volume.now.private p c.args.above.now c.args.under.now c.args.name.now) c.as_slice.ensures (c.in_ok-way.ensures.found tells)) c.in-Ok.way c.in-Ok.is) c.in-Ok.way.parent c.args.old.now c.in-Ok.way.id c.in-Ok.way.folder c.args.name.now) (sym (c.route.ensures.looked.reads.looks.content tells)) (is_linking c.sound_has_plain_tree.ensures c.args.volume.now (g.P.SectorView.space c.args.space.now).content (c.requires.serves.stands.stands tells).trees (c.requires.serves.settled tells) c.args.from.now c.args.to.now c.args.above.now c.args.under.now c.args.old.now c.args.name.now c.requires.split c.requires.goal_split (c.requires.fine tells) c.requires.from_fits c.requires.to_fits c.in_ok-way.field-0 (subst (λ (p : List (List ℕ)). c.in_ok-way.field-0 ≡ route_in (lists_of c.args.volume.now (g.P.SectorView.space c.args.space.now).content).catalog_pairs c.args.volume.now.private p c.args.above.now c.args.under.now c.args.name.now) c.as_slice.ensures (c.in_ok-way.ensures.found tells)) c.in-Ok.way c.in-Ok.is)))

pub returns-in_err-link_way-in-Ok-clause-loads : goal.returns-in_err-link_way-in-Ok-clause-loads
returns-in_err-link_way-in-Ok-clause-loads g c tells =
    puts_still (command.Ln c.args.from.now c.args.to.now) c.args.volume.now c.route.new.self (g.P.SectorView.space c.args.space.now) (g.P.SectorView.space c.route.new.space) (g.P.SectorView.space c.link_way.new.space) c.route.ensures.looked.reads tells
    (c.link_way.ensures.loads (c.route.ensures.looked.reads.looks.same.tells ∙ tells) c.args.from.now c.args.to.now (linked_at c.sound_has_plain_tree.ensures c.args.volume.now (g.P.SectorView.space c.args.space.now).content (c.requires.serves.stands.stands tells).trees (c.requires.serves.settled tells) c.args.from.now c.args.to.now c.args.above.now c.args.under.now c.args.old.now c.args.name.now c.requires.split c.requires.goal_split (c.requires.fine tells) c.requires.from_fits c.requires.to_fits c.in_ok-way.field-0 (subst (λ (p : List (List ℕ)). c.in_ok-way.field-0 ≡ route_in (lists_of c.args.volume.now (g.P.SectorView.space c.args.space.now).content).catalog_pairs c.args.volume.now.private p c.args.above.now c.args.under.now c.args.name.now) c.as_slice.ensures (c.in_ok-way.ensures.found tells)) c.in-Ok.way c.in-Ok.is)
    (subst (λ (k : Content). IsLinking (tree_of k) c.args.from.now c.args.to.now (linked_at c.sound_has_plain_tree.ensures c.args.volume.now (g.P.SectorView.space c.args.space.now).content (c.requires.serves.stands.stands tells).trees (c.requires.serves.settled tells) c.args.from.now c.args.to.now c.args.above.now c.args.under.now c.args.old.now c.args.name.now c.requires.split c.requires.goal_split (c.requires.fine tells) c.requires.from_fits c.requires.to_fits c.in_ok-way.field-0 (subst (λ (p : List (List ℕ)). c.in_ok-way.field-0 ≡ route_in (lists_of c.args.volume.now (g.P.SectorView.space c.args.space.now).content).catalog_pairs c.args.volume.now.private p c.args.above.now c.args.under.now c.args.name.now) c.as_slice.ensures (c.in_ok-way.ensures.found tells)) c.in-Ok.way c.in-Ok.is) c.in-Ok.way.parent c.args.old.now c.in-Ok.way.id c.in-Ok.way.folder c.args.name.now) (sym (c.route.ensures.looked.reads.looks.content tells)) (is_linking c.sound_has_plain_tree.ensures c.args.volume.now (g.P.SectorView.space c.args.space.now).content (c.requires.serves.stands.stands tells).trees (c.requires.serves.settled tells) c.args.from.now c.args.to.now c.args.above.now c.args.under.now c.args.old.now c.args.name.now c.requires.split c.requires.goal_split (c.requires.fine tells) c.requires.from_fits c.requires.to_fits c.in_ok-way.field-0 (subst (λ (p : List (List ℕ)). c.in_ok-way.field-0 ≡ route_in (lists_of c.args.volume.now (g.P.SectorView.space c.args.space.now).content).catalog_pairs c.args.volume.now.private p c.args.above.now c.args.under.now c.args.name.now) c.as_slice.ensures (c.in_ok-way.ensures.found tells)) c.in-Ok.way c.in-Ok.is)))

pub returns-in-Err-clause-loads : goal.returns-in-Err-clause-loads
returns-in-Err-clause-loads g c tells n grow is = omega (arith, c.route.ensures.looked.reads.looks.spare)

pub returns-in_err-way-clause-loads : goal.returns-in_err-way-clause-loads
returns-in_err-way-clause-loads g c tells n grow is = omega (arith, c.route.ensures.looked.reads.looks.spare)
