use Rattle.std.proofs.Common.{◌≡◌, ◌≤◌, ◌+◌, ℕ, Bool, List, false, length, refl, sym, ◌∙◌, ap, subst, arith}
use Rattle.std.specs.Prelude.{IsTrue, Option, IfSome, Ok}
use Rattle.std.specs.List.{Contains}
use Rattle.alloc_bitmap.specs.Map.{BlockMap, none}
use Rattle.cat_records.specs.Fits.{FitsRecord}
use Rattle.catalog.specs.Pairs.{value_at}
use Rattle.flag_rows.specs.Bits.{sectors_for}
use Rattle.hfs_language.specs.declared.command.Command.TheVariants as command
use Rattle.hfs_model.specs.Step.{step, to_set}
use Rattle.hfs_volume.specs.Aside.{IsJournalSector}
use Rattle.hfs_volume.specs.Content.{VolumeState, volume_of, has_attributes}
use Rattle.hfs_volume.specs.Data.{PutsInValues}
use Rattle.hfs_volume.specs.Records.{is_thread}
use Rattle.hfs_volume.specs.TreeOf.{tree_of}
use Rattle.hfs_volume.specs.Weight.{blocks_for_value, value_change}
use Rattle.hfs_volume.specs.declared.cost.ValueChange.{ValueChange}
use Rattle.sector_disk.specs.Lists.{Content}
use Rattle.volume_header.specs.declared.header.VolumeHeader.{VolumeHeader}
use Rattle.volume_base.specs.Frame.{Serves}
use Rattle.volume_base.specs.Standing.{IsSettled}
use Rattle.volume_base.specs.declared.entries.Entry.{Entry}
use Rattle.volume_base.proofs.FoundEntry.{entry_there, not_none, settled_spelled}
use Rattle.volume_base.proofs.Framed.{serves_still}
use Rattle.volume_base.proofs.OwnedChange.{to_set_is}
use Rattle.volume_base.proofs.Remapped.{ok_with}
use Rattle.volume_base.proofs.Still.{lists_still}
use Rattle.volume_base.proofs.ToNode.{node_there}
use Rattle.volume_base.proofs.KeptMarks.{own_kept, settled_kept, stands_kept, unchanged_kept, used_kept}
use Rattle.volume_values.specs.Valuing.{SetsOwned, blocks_of_new}
use Rattle.volume_values.proofs.Spilling.{spills_behind, spills_err, spills_fewer, spills_from, spills_looked, spills_read}
use Rattle.volume_values.proofs.ValuePut.{value_put}
use Rattle.volume_values.proofs.RoomStill.{value_load_kept, value_load_still, value_room_kept, value_room_still}
use Rattle.volume_values.proofs.attribute_change.set_value_of.Goals as goal

pub entry-requires-clause-stands : goal.entry-requires-clause-stands
entry-requires-clause-stands g c = stands_kept c.args.volume.now c.keep.new.self c.keep.ensures (g.P.SectorView.space c.args.space.now) c.requires.serves.stands

pub entry-requires-clause-spelled : goal.entry-requires-clause-spelled
entry-requires-clause-spelled g c tells = settled_spelled c.keep.new.self (g.P.SectorView.space c.args.space.now).content (settled_kept c.args.volume.now c.keep.new.self c.keep.ensures (g.P.SectorView.space c.args.space.now) (c.requires.serves.settled tells))

pub put_value-requires-clause-serves : goal.put_value-requires-clause-serves
put_value-requires-clause-serves g c = serves_still c.entry.ensures.looked (record {
  stands = stands_kept c.args.volume.now c.keep.new.self c.keep.ensures (g.P.SectorView.space c.args.space.now) c.requires.serves.stands;
  settled = λ tells. settled_kept c.args.volume.now c.keep.new.self c.keep.ensures (g.P.SectorView.space c.args.space.now) (c.requires.serves.settled tells);
})

pub put_value-requires-clause-unchanged : goal.put_value-requires-clause-unchanged
put_value-requires-clause-unchanged g c =
    subst (λ (m : BlockMap). m.changed ≡ none (sectors_for (length m.used))) (sym c.entry.ensures.looked.reads.keeps.map)
    (unchanged_kept c.args.volume.now c.keep.new.self c.keep.ensures (g.P.SectorView.space c.args.space.now) c.requires.serves.stands.service)

pub put_value-requires-clause-has : goal.put_value-requires-clause-has
put_value-requires-clause-has g c = subst (λ (h : VolumeHeader). IsTrue (has_attributes h)) (sym (c.entry.ensures.looked.reads.keeps.header ∙ c.keep.ensures.same.header)) c.requires.has

pub put_value-requires-clause-entry_name : goal.put_value-requires-clause-entry_name
put_value-requires-clause-entry_name g c = subst (λ (o : Option Entry). IfSome o (λ entry. length entry.name ≤ 255)) c.in-Some.is c.in_ok-entry.ensures.name

pub put_value-requires-clause-fits : goal.put_value-requires-clause-fits
put_value-requires-clause-fits g c = subst (λ (o : Option Entry). IfSome o (λ entry. is_thread entry.rec ≡ false → FitsRecord entry.rec)) c.in-Some.is c.in_ok-entry.ensures.fits

pub put_value-requires-clause-there : goal.put_value-requires-clause-there
put_value-requires-clause-there g c told =
    let tells = sym c.entry.ensures.looked.reads.looks.same.tells ∙ told in
    let there = c.requires.there tells in
    let stands = stands_kept c.args.volume.now c.keep.new.self c.keep.ensures (g.P.SectorView.space c.args.space.now) c.requires.serves.stands in
    let settled = settled_kept c.args.volume.now c.keep.new.self c.keep.ensures (g.P.SectorView.space c.args.space.now) (c.requires.serves.settled tells) in
    let it = entry_there c.keep.new.self (g.P.SectorView.space c.args.space.now).content (stands.stands tells).trees settled c.args.id there.0 there.1 there.2 c.in-Some.entry (sym c.in-Some.is ∙ c.in_ok-entry.ensures.found tells) in
    ap (λ (l : VolumeState). value_at l.catalog_pairs c.in-Some.entry.parent c.in-Some.entry.name) (lists_still c.keep.new.self c.entry.new.self (g.P.SectorView.space c.args.space.now) (g.P.SectorView.space c.entry.new.space) c.entry.ensures.looked.reads tells) ∙ it.value

pub put_value-requires-clause-change : goal.put_value-requires-clause-change
put_value-requires-clause-change g c told =
    let tells = sym c.entry.ensures.looked.reads.looks.same.tells ∙ told in
    c.requires.change tells ∙ (λ i. value_change (volume_of (sym (c.entry.ensures.looked.reads.looks.content tells) i)) c.args.id c.args.name.now (blocks_for_value (sym (c.entry.ensures.looked.reads.keeps.header ∙ c.keep.ensures.same.header) i).block_size (length c.args.value.now)))

pub put_value-requires-clause-closed : goal.put_value-requires-clause-closed
put_value-requires-clause-closed g c told at closed_ =
    let tells = sym c.entry.ensures.looked.reads.looks.same.tells ∙ told in
    subst (λ (k : Content). IsJournalSector k at) (sym (c.entry.ensures.looked.reads.looks.content tells)) (c.requires.closed tells at ((c.entry.ensures.looked.reads.looks.closed tells at).0 closed_))

pub put_value-requires-clause-room : goal.put_value-requires-clause-room
put_value-requires-clause-room g c =
    value_room_still 2 c.args.change c.keep.new.self c.entry.new.self (g.P.SectorView.space c.args.space.now) (g.P.SectorView.space c.entry.new.space) c.entry.ensures.looked.reads
    (value_room_kept 2 c.args.change c.args.volume.now c.keep.new.self c.keep.ensures (g.P.SectorView.space c.args.space.now) c.requires.room)

pub returns-in-Some-clause-does : goal.returns-in-Some-clause-does
returns-in-Some-clause-does g c tells path node allowed number =
    let later = c.entry.ensures.looked.reads.looks.same.tells ∙ tells in
    let same : (g.P.SectorView.space c.entry.new.space).content ≡ (g.P.SectorView.space c.args.space.now).content = c.entry.ensures.looked.reads.looks.content tells in
    let stands = stands_kept c.args.volume.now c.keep.new.self c.keep.ensures (g.P.SectorView.space c.args.space.now) c.requires.serves.stands in
    let settled = settled_kept c.args.volume.now c.keep.new.self c.keep.ensures (g.P.SectorView.space c.args.space.now) (c.requires.serves.settled tells) in
    let it = entry_there c.keep.new.self (g.P.SectorView.space c.args.space.now).content (stands.stands tells).trees settled c.args.id node (node_there (tree_of (g.P.SectorView.space c.args.space.now).content) path node allowed) number c.in-Some.entry (sym c.in-Some.is ∙ c.in_ok-entry.ensures.found tells) in
    let there = ap (λ (l : VolumeState). value_at l.catalog_pairs c.in-Some.entry.parent c.in-Some.entry.name) (lists_still c.keep.new.self c.entry.new.self (g.P.SectorView.space c.args.space.now) (g.P.SectorView.space c.entry.new.space) c.entry.ensures.looked.reads tells) ∙ it.value in
    let serves : Serves c.entry.new.self (g.P.SectorView.space c.entry.new.space) = serves_still c.entry.ensures.looked (record { stands = stands; settled = λ t. settled_kept c.args.volume.now c.keep.new.self c.keep.ensures (g.P.SectorView.space c.args.space.now) (c.requires.serves.settled t) }) in
    let has = subst (λ (h : VolumeHeader). IsTrue (has_attributes h)) (sym (c.entry.ensures.looked.reads.keeps.header ∙ c.keep.ensures.same.header)) c.requires.has in
    let told = c.put_value.ensures.spills.same.tells ∙ later in
    let blocks : c.args.change.blocks ≡ blocks_of_new c.entry.new.self (length c.args.value.now) = ap (λ (x : ValueChange). x.blocks) (c.requires.change tells) ∙ ap (λ (h : VolumeHeader). blocks_for_value h.block_size (length c.args.value.now)) (sym (c.entry.ensures.looked.reads.keeps.header ∙ c.keep.ensures.same.header)) in
    let room = (value_room_still 2 c.args.change c.keep.new.self c.entry.new.self (g.P.SectorView.space c.args.space.now) (g.P.SectorView.space c.entry.new.space) c.entry.ensures.looked.reads
    (value_room_kept 2 c.args.change c.args.volume.now c.keep.new.self c.keep.ensures (g.P.SectorView.space c.args.space.now) c.requires.room)).told later has in
    ok_with c.put_value.result c.put_value.ensures.spills.stands (c.put_value.ensures.sets later it.kind) (λ over puts.
    let does = value_put c.setattr_does_its_step.ensures c.setattr_of_a_long_value_does_its_step.ensures c.soundness_has_two_halves.ensures c.entry.new.self c.put_value.new.volume (g.P.SectorView.space c.entry.new.space) (g.P.SectorView.space c.put_value.new.space) (serves.settled later) (serves.stands.stands later) (over.stands told)
    has serves.stands.service.least serves.stands.service.marks c.in-Some.entry there it.kind c.args.id it.number c.args.name.now c.args.value.now (omega (arith, c.requires.some)) (omega (arith, room.3, blocks)) path node
    (ap (λ (k : Content). to_set (tree_of k) path c.args.value.now) same ∙ to_set_is (tree_of (g.P.SectorView.space c.args.space.now).content) path c.args.value.now node c.requires.long allowed) number puts in
    subst (λ (k : Content). IsSettled c.put_value.new.volume (g.P.SectorView.space c.put_value.new.space).content × (tree_of (g.P.SectorView.space c.put_value.new.space).content ≡ (step (tree_of k) (command.SetAttr path c.args.name.now c.args.value.now)).1)
    × SetsOwned c.args.id c.args.name.now c.args.value.now (volume_of k) (volume_of (g.P.SectorView.space c.put_value.new.space).content) × PutsInValues (tree_of k) (command.SetAttr path c.args.name.now c.args.value.now) (volume_of k) (volume_of (g.P.SectorView.space c.put_value.new.space).content)) same does)

pub returns-in-Some-clause-spills : goal.returns-in-Some-clause-spills
returns-in-Some-clause-spills g c =
    spills_from c.args.volume.now c.keep.new.self (used_kept c.args.volume.now c.keep.new.self c.keep.ensures) (own_kept c.args.volume.now c.keep.new.self c.keep.ensures) (ap (λ (h : VolumeHeader). h.block_size) c.keep.ensures.same.header) (ap (λ (l : List Bool). length l) c.keep.ensures.same.used)
    (spills_behind c.keep.new.self c.entry.new.self g.met.P.SectorView.follows_trans c.entry.ensures.looked c.put_value.ensures.spills (λ tells. omega (
      arith,
      value_load_still 2 c.args.change c.keep.new.self c.entry.new.self (g.P.SectorView.space c.args.space.now) (g.P.SectorView.space c.entry.new.space) c.entry.ensures.looked.reads tells,
      value_load_kept 2 c.args.change c.args.volume.now c.keep.new.self c.keep.ensures,
    )))

pub returns-in-None-clause-does : goal.returns-in-None-clause-does
returns-in-None-clause-does g c tells path node allowed number =
    let stands = stands_kept c.args.volume.now c.keep.new.self c.keep.ensures (g.P.SectorView.space c.args.space.now) c.requires.serves.stands in
    let settled = settled_kept c.args.volume.now c.keep.new.self c.keep.ensures (g.P.SectorView.space c.args.space.now) (c.requires.serves.settled tells) in
    absurd (not_none c.keep.new.self (g.P.SectorView.space c.args.space.now).content (stands.stands tells).trees settled c.args.id node (node_there (tree_of (g.P.SectorView.space c.args.space.now).content) path node allowed) number (sym c.in-None.is ∙ c.in_ok-entry.ensures.found tells))

pub returns-in-None-clause-spills : goal.returns-in-None-clause-spills
returns-in-None-clause-spills g c = spills_from c.args.volume.now c.keep.new.self (used_kept c.args.volume.now c.keep.new.self c.keep.ensures) (own_kept c.args.volume.now c.keep.new.self c.keep.ensures) (ap (λ (h : VolumeHeader). h.block_size) c.keep.ensures.same.header) (ap (λ (l : List Bool). length l) c.keep.ensures.same.used) (spills_read c.keep.new.self c.entry.ensures.looked)

pub returns-in_err-entry-clause-spills : goal.returns-in_err-entry-clause-spills
returns-in_err-entry-clause-spills g c =
    spills_from c.args.volume.now c.keep.new.self (used_kept c.args.volume.now c.keep.new.self c.keep.ensures) (own_kept c.args.volume.now c.keep.new.self c.keep.ensures) (ap (λ (h : VolumeHeader). h.block_size) c.keep.ensures.same.header) (ap (λ (l : List Bool). length l) c.keep.ensures.same.used) (spills_err c.from_residual.ensures.1 (spills_fewer (spills_looked c.keep.new.self c.in_err-entry.ensures.looked) (λ tells. omega arith)))
