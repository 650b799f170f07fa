use Rattle.std.proofs.Common.{◌≡◌, ◌≤◌, ◌+◌, ℕ, List, length, sym, ◌∙◌, ap, subst, arith}
use Rattle.std.specs.Prelude.{OnOk}
use Rattle.sector_disk.specs.Lists.{Content}
use Rattle.attributes.specs.Owned.{names_of}
use Rattle.hfs_model.specs.Step.{removed_folder}
use Rattle.hfs_volume.specs.Content.{VolumeState, volume_of}
use Rattle.hfs_volume.specs.TreeOf.{tree_of}
use Rattle.volume_base.specs.Removing.{HasNoAttributes, IsLeaving, TakesFolder, bare_load, folder_at}
use Rattle.volume_base.specs.Standing.{IsSettled}
use Rattle.volume_base.specs.Values.{values_owned}
use Rattle.volume_base.specs.declared.value_changes.OwnedValues.{OwnedValues}
use Rattle.volume_base.proofs.BareLoads.{bare_load_still, names_still}
use Rattle.volume_base.proofs.Freed.{frees_behind, frees_edits, ran_spent}
use Rattle.volume_base.proofs.KeptMarks.{frees_kept, lists_kept, serves_kept, unchanged_kept}
use Rattle.volume_base.proofs.RoomToRemove.{remove_load_still, remove_room_still}
use Rattle.volume_names.proofs.BareRoom.{counting_room}
use Rattle.volume_names.proofs.Owned.{bare_load_kept, none_owned, owned_is, remove_load_kept, remove_room_kept}
use Rattle.volume_names.proofs.removing.remove_bare.Goals as goal

pub remove_folder-requires-clause-leaving : goal.remove_folder-requires-clause-leaving
remove_folder-requires-clause-leaving g c later =
    let tells = sym c.owned_values.ensures.looked.reads.looks.same.tells ∙ later in
    subst (λ (k : Content). IsLeaving (tree_of k) c.args.at c.args.name.now) (sym (c.owned_values.ensures.looked.reads.looks.content tells)) (c.requires.leaving tells)

pub remove_folder-requires-clause-room : goal.remove_folder-requires-clause-room
remove_folder-requires-clause-room g c = counting_room c.owned_values.new.self (g.P.SectorView.space c.owned_values.new.space) (remove_room_still c.args.volume.now c.owned_values.new.self (g.P.SectorView.space c.args.space.now) (g.P.SectorView.space c.owned_values.new.space) c.owned_values.ensures.looked.reads c.requires.room)

pub remove_folder-requires-clause-bare : goal.remove_folder-requires-clause-bare
remove_folder-requires-clause-bare g c later =
    let tells = sym c.owned_values.ensures.looked.reads.looks.same.tells ∙ later in
    subst (λ (k : Content). HasNoAttributes c.args.at.id (volume_of k).attribute_pairs) (sym (c.owned_values.ensures.looked.reads.looks.content tells))
    (none_owned c.args.volume.now (g.P.SectorView.space c.args.space.now).content (c.requires.serves.settled tells) (c.requires.serves.stands.stands tells).trees c.args.at.id c.in_ok-owned.owned.count (c.in_ok-owned.ensures.counted tells) c.if-owned-eq0.true)

pub remove_owner-requires-clause-serves : goal.remove_owner-requires-clause-serves
remove_owner-requires-clause-serves g c = serves_kept c.owned_values.new.self c.keep.new.self c.keep.ensures (g.P.SectorView.space c.owned_values.new.space) c.owned_values.ensures.serves

pub remove_owner-requires-clause-unchanged : goal.remove_owner-requires-clause-unchanged
remove_owner-requires-clause-unchanged g c = unchanged_kept c.owned_values.new.self c.keep.new.self c.keep.ensures (g.P.SectorView.space c.owned_values.new.space) c.owned_values.ensures.serves.stands.service

pub remove_owner-requires-clause-leaving : goal.remove_owner-requires-clause-leaving
remove_owner-requires-clause-leaving g c later =
    let tells = sym c.owned_values.ensures.looked.reads.looks.same.tells ∙ later in
    subst (λ (k : Content). IsLeaving (tree_of k) c.args.at c.args.name.now) (sym (c.owned_values.ensures.looked.reads.looks.content tells)) (c.requires.leaving tells)

pub remove_owner-requires-clause-counted : goal.remove_owner-requires-clause-counted
remove_owner-requires-clause-counted g c later =
    let tells = sym c.owned_values.ensures.looked.reads.looks.same.tells ∙ later in
    c.in_ok-owned.ensures.counted tells ∙ ap (λ (l : List (List ℕ)). length l) (sym (names_still c.args.volume.now c.owned_values.new.self (g.P.SectorView.space c.args.space.now) (g.P.SectorView.space c.owned_values.new.space) c.owned_values.ensures.looked.reads tells c.args.at.id))
    ∙ ap (λ (l : VolumeState). length (names_of c.args.at.id l.attribute_pairs)) (sym (lists_kept c.owned_values.new.self c.keep.new.self c.keep.ensures (g.P.SectorView.space c.owned_values.new.space).content))

pub remove_owner-requires-clause-change : goal.remove_owner-requires-clause-change
remove_owner-requires-clause-change g c later =
    let tells = sym c.owned_values.ensures.looked.reads.looks.same.tells ∙ later in
    c.in_ok-owned.ensures.change tells ∙ ap (λ (k : Content). values_owned (volume_of k) c.args.at.id) (sym (c.owned_values.ensures.looked.reads.looks.content tells))

pub remove_owner-requires-clause-usual : goal.remove_owner-requires-clause-usual
remove_owner-requires-clause-usual g c = c.in_ok-owned.ensures.usual

pub remove_owner-requires-clause-gone : goal.remove_owner-requires-clause-gone
remove_owner-requires-clause-gone g c = c.in_ok-owned.ensures.gone

pub remove_owner-requires-clause-room : goal.remove_owner-requires-clause-room
remove_owner-requires-clause-room g c = remove_room_kept c.owned_values.new.self c.keep.new.self c.keep.ensures (g.P.SectorView.space c.owned_values.new.space) (remove_room_still c.args.volume.now c.owned_values.new.self (g.P.SectorView.space c.args.space.now) (g.P.SectorView.space c.owned_values.new.space) c.owned_values.ensures.looked.reads c.requires.room)

pub returns-then-owned-eq0-clause-does : goal.returns-then-owned-eq0-clause-does
returns-then-owned-eq0-clause-does g c tells =
    subst (λ (k : Content). OnOk c.remove_folder.result (IsSettled c.remove_folder.new.volume (g.P.SectorView.space c.remove_folder.new.space).content × (tree_of (g.P.SectorView.space c.remove_folder.new.space).content ≡ removed_folder (folder_at c.args.at c.args.name.now) (tree_of k))))
    (c.owned_values.ensures.looked.reads.looks.content tells) (c.remove_folder.ensures.does (c.owned_values.ensures.looked.reads.looks.same.tells ∙ tells))

pub returns-then-owned-eq0-clause-takes : goal.returns-then-owned-eq0-clause-takes
returns-then-owned-eq0-clause-takes g c tells =
    subst (λ (k : Content). OnOk c.remove_folder.result (TakesFolder c.args.at.id (volume_of k) (volume_of (g.P.SectorView.space c.remove_folder.new.space).content)))
    (c.owned_values.ensures.looked.reads.looks.content tells) (c.remove_folder.ensures.takes (c.owned_values.ensures.looked.reads.looks.same.tells ∙ tells))

pub returns-then-owned-eq0-clause-spent : goal.returns-then-owned-eq0-clause-spent
returns-then-owned-eq0-clause-spent g c tells =
    omega (arith, c.owned_values.ensures.looked.reads.looks.spare, c.remove_folder.ensures.edits.ran.spent (c.owned_values.ensures.looked.reads.looks.same.tells ∙ tells), remove_load_still c.args.volume.now c.owned_values.new.self (g.P.SectorView.space c.args.space.now) (g.P.SectorView.space c.owned_values.new.space) c.owned_values.ensures.looked.reads tells)

pub returns-then-owned-eq0-clause-frees : goal.returns-then-owned-eq0-clause-frees
returns-then-owned-eq0-clause-frees g c = frees_behind g.met.P.SectorView.follows_trans c.owned_values.ensures.looked (frees_edits c.remove_folder.ensures.edits)

pub returns-clause-does : goal.returns-clause-does
returns-clause-does g c tells =
    subst (λ (k : Content). OnOk c.remove_owner.result (IsSettled c.remove_owner.new.volume (g.P.SectorView.space c.remove_owner.new.space).content × (tree_of (g.P.SectorView.space c.remove_owner.new.space).content ≡ removed_folder (folder_at c.args.at c.args.name.now) (tree_of k))))
    (c.owned_values.ensures.looked.reads.looks.content tells) (c.remove_owner.ensures.does (c.owned_values.ensures.looked.reads.looks.same.tells ∙ tells))

pub returns-clause-takes : goal.returns-clause-takes
returns-clause-takes g c tells =
    subst (λ (k : Content). OnOk c.remove_owner.result (TakesFolder c.args.at.id (volume_of k) (volume_of (g.P.SectorView.space c.remove_owner.new.space).content)))
    (c.owned_values.ensures.looked.reads.looks.content tells) (c.remove_owner.ensures.takes (c.owned_values.ensures.looked.reads.looks.same.tells ∙ tells))

pub returns-clause-spent : goal.returns-clause-spent
returns-clause-spent g c tells =
    omega (
      arith,
      c.owned_values.ensures.looked.reads.looks.spare,
      c.remove_owner.ensures.ran.spent (c.owned_values.ensures.looked.reads.looks.same.tells ∙ tells),
      remove_load_still c.args.volume.now c.owned_values.new.self (g.P.SectorView.space c.args.space.now) (g.P.SectorView.space c.owned_values.new.space) c.owned_values.ensures.looked.reads tells,
      remove_load_kept c.owned_values.new.self c.keep.new.self c.keep.ensures,
      bare_load_kept c.owned_values.new.self c.keep.new.self c.keep.ensures c.in_ok-owned.owned,
      bare_load_still c.args.volume.now c.owned_values.new.self (g.P.SectorView.space c.args.space.now) (g.P.SectorView.space c.owned_values.new.space) c.owned_values.ensures.looked.reads tells c.in_ok-owned.owned,
      ap (λ (o : OwnedValues). bare_load o c.args.volume.now) (owned_is c.args.volume.now (g.P.SectorView.space c.args.space.now).content (c.requires.serves.settled tells) c.args.at.id c.in_ok-owned.owned (c.in_ok-owned.ensures.counted tells) (c.in_ok-owned.ensures.change tells)),
    )

pub returns-clause-frees : goal.returns-clause-frees
returns-clause-frees g c =
    frees_behind g.met.P.SectorView.follows_trans c.owned_values.ensures.looked (frees_kept c.owned_values.new.self c.keep.new.self c.keep.ensures (record { ran = ran_spent c.keep.new.self c.remove_owner.ensures.ran (λ tells. omega arith); used = c.remove_owner.ensures.used }))

pub returns-in_err-owned-clause-spent : goal.returns-in_err-owned-clause-spent
returns-in_err-owned-clause-spent g c tells = omega (arith, c.owned_values.ensures.looked.reads.looks.spare)
