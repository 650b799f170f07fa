use Rattle.std.proofs.Common.{◌≡◌, ◌≤◌, ℕ, List, false, length, refl, sym, ◌∙◌, ap, subst, arith}
use Rattle.std.specs.Prelude.{IsTrue, Option, IfSome, Ok}
use Rattle.std.specs.List.{Contains}
use Rattle.alloc_bitmap.specs.Map.{BlockMap, none}
use Rattle.cat_records.specs.Fits.{FitsRecord}
use Rattle.catalog.specs.Pairs.{value_at}
use Rattle.flag_rows.specs.Bits.{sectors_for}
use Rattle.hfs_language.specs.declared.command.Command.TheVariants as command
use Rattle.hfs_model.specs.Step.{step, to_attribute}
use Rattle.hfs_volume.specs.Attributing.{DeletesAttribute}
use Rattle.hfs_volume.specs.Content.{VolumeState, volume_of, has_attributes}
use Rattle.hfs_volume.specs.Data.{PutsInValues}
use Rattle.hfs_volume.specs.Records.{is_thread}
use Rattle.hfs_volume.specs.TreeOf.{tree_of}
use Rattle.hfs_volume.specs.Weight.{value_change}
use Rattle.sector_disk.specs.Lists.{Content}
use Rattle.volume_header.specs.declared.header.VolumeHeader.{VolumeHeader}
use Rattle.volume_base.specs.Attributing.{value_load}
use Rattle.volume_base.specs.Frame.{Ran, Serves}
use Rattle.volume_base.specs.Standing.{IsSettled}
use Rattle.volume_base.specs.declared.entries.Entry.{Entry}
use Rattle.volume_base.proofs.FoundEntry.{entry_there, not_none, settled_spelled}
use Rattle.volume_base.proofs.Framed.{looked_err, looked_ok, serves_still}
use Rattle.volume_base.proofs.KeptUsed.{used_both, used_read}
use Rattle.volume_base.proofs.OwnedTold.{attribute_node}
use Rattle.volume_base.proofs.Remapped.{ok_with}
use Rattle.volume_base.proofs.Running.{ran_then}
use Rattle.volume_base.proofs.Still.{lists_still}
use Rattle.volume_base.proofs.KeptMarks.{own_kept, settled_kept, stands_kept, unchanged_kept, used_kept}
use Rattle.volume_values.proofs.Deleted.{value_deleted}
use Rattle.volume_values.proofs.RoomStill.{value_load_kept, value_load_still, value_room_kept, value_room_still}
use Rattle.volume_values.proofs.attribute_removal.delete_from.Goals as goal

pub entry-requires-clause-stands : goal.entry-requires-clause-stands
entry-requires-clause-stands g c = stands_kept c.args.volume.now c.keep.new.self c.keep.ensures (g.P.SectorView.space c.args.space.now) c.requires.serves.stands

pub entry-requires-clause-spelled : goal.entry-requires-clause-spelled
entry-requires-clause-spelled g c tells = settled_spelled c.keep.new.self (g.P.SectorView.space c.args.space.now).content (settled_kept c.args.volume.now c.keep.new.self c.keep.ensures (g.P.SectorView.space c.args.space.now) (c.requires.serves.settled tells))

pub remove_value-requires-clause-serves : goal.remove_value-requires-clause-serves
remove_value-requires-clause-serves g c = serves_still c.entry.ensures.looked (record {
  stands = stands_kept c.args.volume.now c.keep.new.self c.keep.ensures (g.P.SectorView.space c.args.space.now) c.requires.serves.stands;
  settled = λ tells. settled_kept c.args.volume.now c.keep.new.self c.keep.ensures (g.P.SectorView.space c.args.space.now) (c.requires.serves.settled tells);
})

pub remove_value-requires-clause-unchanged : goal.remove_value-requires-clause-unchanged
remove_value-requires-clause-unchanged g c =
    subst (λ (m : BlockMap). m.changed ≡ none (sectors_for (length m.used))) (sym c.entry.ensures.looked.reads.keeps.map)
    (unchanged_kept c.args.volume.now c.keep.new.self c.keep.ensures (g.P.SectorView.space c.args.space.now) c.requires.serves.stands.service)

pub remove_value-requires-clause-has : goal.remove_value-requires-clause-has
remove_value-requires-clause-has g c = subst (λ (h : VolumeHeader). IsTrue (has_attributes h)) (sym (c.entry.ensures.looked.reads.keeps.header ∙ c.keep.ensures.same.header)) c.requires.has

pub remove_value-requires-clause-entry_name : goal.remove_value-requires-clause-entry_name
remove_value-requires-clause-entry_name g c = subst (λ (o : Option Entry). IfSome o (λ entry. length entry.name ≤ 255)) c.in-Some.is c.in_ok-entry.ensures.name

pub remove_value-requires-clause-fits : goal.remove_value-requires-clause-fits
remove_value-requires-clause-fits g c = subst (λ (o : Option Entry). IfSome o (λ entry. is_thread entry.rec ≡ false → FitsRecord entry.rec)) c.in-Some.is c.in_ok-entry.ensures.fits

pub remove_value-requires-clause-there : goal.remove_value-requires-clause-there
remove_value-requires-clause-there g c told =
    let tells = sym c.entry.ensures.looked.reads.looks.same.tells ∙ told in
    let there = c.requires.there tells in
    let stands = stands_kept c.args.volume.now c.keep.new.self c.keep.ensures (g.P.SectorView.space c.args.space.now) c.requires.serves.stands in
    let settled = settled_kept c.args.volume.now c.keep.new.self c.keep.ensures (g.P.SectorView.space c.args.space.now) (c.requires.serves.settled tells) in
    let it = entry_there c.keep.new.self (g.P.SectorView.space c.args.space.now).content (stands.stands tells).trees settled c.args.id there.0 there.1 there.2 c.in-Some.entry (sym c.in-Some.is ∙ c.in_ok-entry.ensures.found tells) in
    ap (λ (l : VolumeState). value_at l.catalog_pairs c.in-Some.entry.parent c.in-Some.entry.name) (lists_still c.keep.new.self c.entry.new.self (g.P.SectorView.space c.args.space.now) (g.P.SectorView.space c.entry.new.space) c.entry.ensures.looked.reads tells) ∙ it.value

pub remove_value-requires-clause-change : goal.remove_value-requires-clause-change
remove_value-requires-clause-change g c told =
    let tells = sym c.entry.ensures.looked.reads.looks.same.tells ∙ told in
    c.requires.change tells ∙ ap (λ (k : Content). value_change (volume_of k) c.args.id c.args.name.now 0) (sym (c.entry.ensures.looked.reads.looks.content tells))

pub remove_value-requires-clause-room : goal.remove_value-requires-clause-room
remove_value-requires-clause-room g c =
    value_room_still 1 c.args.change c.keep.new.self c.entry.new.self (g.P.SectorView.space c.args.space.now) (g.P.SectorView.space c.entry.new.space) c.entry.ensures.looked.reads
    (value_room_kept 1 c.args.change c.args.volume.now c.keep.new.self c.keep.ensures (g.P.SectorView.space c.args.space.now) c.requires.room)

pub returns-in-Some-clause-does : goal.returns-in-Some-clause-does
returns-in-Some-clause-does g c tells path node attribute allowed number =
    let later = c.entry.ensures.looked.reads.looks.same.tells ∙ tells in
    let same : (g.P.SectorView.space c.entry.new.space).content ≡ (g.P.SectorView.space c.args.space.now).content = c.entry.ensures.looked.reads.looks.content tells in
    let stands = stands_kept c.args.volume.now c.keep.new.self c.keep.ensures (g.P.SectorView.space c.args.space.now) c.requires.serves.stands in
    let settled = settled_kept c.args.volume.now c.keep.new.self c.keep.ensures (g.P.SectorView.space c.args.space.now) (c.requires.serves.settled tells) in
    let it = entry_there c.keep.new.self (g.P.SectorView.space c.args.space.now).content (stands.stands tells).trees settled c.args.id node (attribute_node (tree_of (g.P.SectorView.space c.args.space.now).content) path c.args.name.now node attribute allowed) number c.in-Some.entry (sym c.in-Some.is ∙ c.in_ok-entry.ensures.found tells) in
    let there = ap (λ (l : VolumeState). value_at l.catalog_pairs c.in-Some.entry.parent c.in-Some.entry.name) (lists_still c.keep.new.self c.entry.new.self (g.P.SectorView.space c.args.space.now) (g.P.SectorView.space c.entry.new.space) c.entry.ensures.looked.reads tells) ∙ it.value in
    let serves : Serves c.entry.new.self (g.P.SectorView.space c.entry.new.space) = serves_still c.entry.ensures.looked (record { stands = stands; settled = λ t. settled_kept c.args.volume.now c.keep.new.self c.keep.ensures (g.P.SectorView.space c.args.space.now) (c.requires.serves.settled t) }) in
    let has = subst (λ (h : VolumeHeader). IsTrue (has_attributes h)) (sym (c.entry.ensures.looked.reads.keeps.header ∙ c.keep.ensures.same.header)) c.requires.has in
    let told = (c.remove_value.ensures.ran.touches (g.P.SectorView.space c.args.space.now).content).same.tells ∙ later in
    ok_with c.remove_value.result c.remove_value.ensures.ran.stands (c.remove_value.ensures.deletes later it.kind) (λ over deletes.
    let does = value_deleted c.delattr_does_its_step.ensures c.soundness_has_two_halves.ensures c.entry.new.self c.remove_value.new.volume (g.P.SectorView.space c.entry.new.space) (g.P.SectorView.space c.remove_value.new.space) (serves.settled later) (serves.stands.stands later) (over.stands told)
    has c.in-Some.entry there it.kind c.args.id it.number c.args.name.now c.args.others path node attribute (ap (λ (k : Content). to_attribute (tree_of k) path c.args.name.now) same ∙ allowed) number deletes in
    subst (λ (k : Content). IsSettled c.remove_value.new.volume (g.P.SectorView.space c.remove_value.new.space).content × (tree_of (g.P.SectorView.space c.remove_value.new.space).content ≡ (step (tree_of k) (command.DelAttr path c.args.name.now)).1)
    × DeletesAttribute c.args.id c.args.name.now (volume_of k) (volume_of (g.P.SectorView.space c.remove_value.new.space).content) × PutsInValues (tree_of k) (command.DelAttr path c.args.name.now) (volume_of k) (volume_of (g.P.SectorView.space c.remove_value.new.space).content)) same does)

pub returns-in-Some-clause-ran : goal.returns-in-Some-clause-ran
returns-in-Some-clause-ran g c =
    subst (λ (l : List ℕ). Ran g.P.SectorView.space g.P.SectorView.follows (λ s. Contains l s) (value_load 1 c.args.change c.args.volume.now) c.remove_value.new.volume c.args.space.now c.remove_value.new.space c.remove_value.result) (own_kept c.args.volume.now c.keep.new.self c.keep.ensures)
    (ran_then c.keep.new.self c.entry.new.self g.met.P.SectorView.follows_trans c.entry.ensures.looked.edits.own c.entry.ensures.looked.edits.ran c.remove_value.ensures.ran (λ tells. omega (
      arith,
      value_load_still 1 c.args.change c.keep.new.self c.entry.new.self (g.P.SectorView.space c.args.space.now) (g.P.SectorView.space c.entry.new.space) c.entry.ensures.looked.reads tells,
      value_load_kept 1 c.args.change c.args.volume.now c.keep.new.self c.keep.ensures,
    )))

pub returns-in-Some-clause-used : goal.returns-in-Some-clause-used
returns-in-Some-clause-used g c =
    used_both c.args.volume.now c.keep.new.self c.remove_value.new.volume (used_kept c.args.volume.now c.keep.new.self c.keep.ensures)
    (used_both c.keep.new.self c.entry.new.self c.remove_value.new.volume (used_read c.keep.new.self c.entry.new.self (g.P.SectorView.space c.args.space.now) (g.P.SectorView.space c.entry.new.space) c.entry.ensures.looked.reads) c.remove_value.ensures.used)

pub returns-in-None-clause-does : goal.returns-in-None-clause-does
returns-in-None-clause-does g c tells path node attribute allowed number =
    let stands = stands_kept c.args.volume.now c.keep.new.self c.keep.ensures (g.P.SectorView.space c.args.space.now) c.requires.serves.stands in
    let settled = settled_kept c.args.volume.now c.keep.new.self c.keep.ensures (g.P.SectorView.space c.args.space.now) (c.requires.serves.settled tells) in
    absurd (not_none c.keep.new.self (g.P.SectorView.space c.args.space.now).content (stands.stands tells).trees settled c.args.id node (attribute_node (tree_of (g.P.SectorView.space c.args.space.now).content) path c.args.name.now node attribute allowed) number (sym c.in-None.is ∙ c.in_ok-entry.ensures.found tells))

pub returns-in-None-clause-ran : goal.returns-in-None-clause-ran
returns-in-None-clause-ran g c =
    subst (λ (l : List ℕ). Ran g.P.SectorView.space g.P.SectorView.follows (λ s. Contains l s) (value_load 1 c.args.change c.args.volume.now) c.entry.new.self c.args.space.now c.entry.new.space (Ok tt)) (own_kept c.args.volume.now c.keep.new.self c.keep.ensures)
    (looked_ok (value_load 1 c.args.change c.args.volume.now) c.entry.ensures.looked).ran

pub returns-in-None-clause-used : goal.returns-in-None-clause-used
returns-in-None-clause-used g c =
    used_both c.args.volume.now c.keep.new.self c.entry.new.self (used_kept c.args.volume.now c.keep.new.self c.keep.ensures) (used_read c.keep.new.self c.entry.new.self (g.P.SectorView.space c.args.space.now) (g.P.SectorView.space c.entry.new.space) c.entry.ensures.looked.reads)

pub returns-in_err-entry-clause-ran : goal.returns-in_err-entry-clause-ran
returns-in_err-entry-clause-ran g c =
    subst (λ (l : List ℕ). Ran g.P.SectorView.space g.P.SectorView.follows (λ s. Contains l s) (value_load 1 c.args.change c.args.volume.now) c.entry.new.self c.args.space.now c.entry.new.space c.from_residual.result) (own_kept c.args.volume.now c.keep.new.self c.keep.ensures)
    (looked_err (value_load 1 c.args.change c.args.volume.now) c.from_residual.ensures.1 c.in_err-entry.ensures.looked).ran

pub returns-in_err-entry-clause-used : goal.returns-in_err-entry-clause-used
returns-in_err-entry-clause-used g c =
    used_both c.args.volume.now c.keep.new.self c.entry.new.self (used_kept c.args.volume.now c.keep.new.self c.keep.ensures) (used_read c.keep.new.self c.entry.new.self (g.P.SectorView.space c.args.space.now) (g.P.SectorView.space c.entry.new.space) c.entry.ensures.looked.reads)
