use Rattle.std.proofs.Common.{◌≡◌, ◌≤◌, true, false, [], List, ℕ, length, sym, ◌∙◌, ap, subst, arith}
use Rattle.std.specs.Prelude.{OnOk}
use Rattle.attributes.specs.Owned.{count_of}
use Rattle.attributes.specs.Values.{AreValued}
use Rattle.btree_edit.specs.Edits.{EditRoom, TakesAtMost}
use Rattle.btree_file.specs.State.{state_of}
use Rattle.btree_node.specs.declared.store.TreeShape.{TreeShape}
use Rattle.file_io.specs.Places.{AreUsed}
use Rattle.fork_map.specs.Blocks.{blocks_of}
use Rattle.hfs_model.specs.Step.{removed_folder}
use Rattle.hfs_volume.specs.Content.{volume_of}
use Rattle.hfs_volume.specs.Cost.{attributes_key, tree_load}
use Rattle.hfs_volume.specs.TreeOf.{tree_of}
use Rattle.volume_base.specs.Attributing.{attributes_cost}
use Rattle.volume_base.specs.Giving.{is_trade, with_free_count}
use Rattle.volume_base.specs.Lists.{lists_of}
use Rattle.volume_base.specs.Removing.{HasNoAttributes, TakesFolder, folder_at, remove_load}
use Rattle.volume_base.specs.Standing.{IsSettled}
use Rattle.volume_base.specs.declared.volume.Volume.{Volume}
use Rattle.volume_base.proofs.AttributesEdited.{attributes_large}
use Rattle.volume_base.proofs.FoundEntry.{ok_both, ok_so}
use Rattle.volume_base.proofs.Framed.{edits_err}
use Rattle.volume_base.proofs.Freed.{ran_both, ran_short, ran_spent, ran_stands, ran_within, wanting}
use Rattle.volume_base.proofs.Joined.{edits_wanting}
use Rattle.volume_base.proofs.KeptUsed.{used_blocks, used_both, used_none}
use Rattle.volume_base.proofs.OwnedChange.{settled_valued}
use Rattle.volume_base.proofs.Still.{has_them}
use Rattle.volume_base.proofs.Taken.{takes_behind}
use Rattle.volume_base.proofs.ValuesGiven.{all_given, given_apart, given_used, unchanged_bared}
use Rattle.volume_names.specs.Removing.{counting_header}
use Rattle.volume_names.proofs.BareRoom.{room_for_folder, room_for_owned, spent_before_most, spent_counted, spent_counting}
use Rattle.volume_names.proofs.Bared.{entries_given, leaving_still, none_left, owned_by, removed_behind}
use Rattle.volume_names.proofs.Owned.{few_blocks, few_records, freed_are, none_touched, same_block, values_are}
use Rattle.volume_names.proofs.removing.remove_owner.Goals as goal

pub fits_owner-requires-clause-small : goal.fits_owner-requires-clause-small
fits_owner-requires-clause-small g c tells = c.requires.usual

pub bare-requires-clause-has : goal.bare-requires-clause-has
bare-requires-clause-has g c = (has_them c.args.volume.now.header c.if-volume-eq0.false)

pub bare-requires-clause-values : goal.bare-requires-clause-values
bare-requires-clause-values g c tells = settled_valued c.args.volume.now (g.P.SectorView.space c.args.space.now).content (c.requires.serves.settled tells)

pub bare-requires-clause-few : goal.bare-requires-clause-few
bare-requires-clause-few g c tells =
    omega (arith, c.count_records.ensures, few_records c.args.volume.now (g.P.SectorView.space c.args.space.now).content (c.requires.serves.settled tells) (c.requires.serves.stands.stands tells).trees c.args.at.id c.args.owned (c.requires.counted tells) (c.requires.change tells))

pub bare-requires-clause-size : goal.bare-requires-clause-size
bare-requires-clause-size g c = omega (arith, c.if-shape-lt4096.false, ap (λ (s : TreeShape). s.node_size) c.shape.ensures)

pub bare-requires-clause-room : goal.bare-requires-clause-room
bare-requires-clause-room g c names tells =
    let large : 4096 ≤ c.args.volume.now.attributes.file.shape.node_size = omega (arith, c.if-shape-lt4096.false, ap (λ (s : TreeShape). s.node_size) c.shape.ensures) in
    subst (λ n. EditRoom n 266 (state_of names c.args.volume.now.attributes.file (g.P.SectorView.space c.args.space.now))) (sym c.count_records.ensures)
    (room_for_owned c.args.owned (c.fits_owner.ensures.some c.if-not-fits_owner.false) c.edits_have_room.ensures c.args.volume.now (g.P.SectorView.space c.args.space.now) (c.fits_owner.ensures.room c.if-not-fits_owner.false) (has_them c.args.volume.now.header c.if-volume-eq0.false) large names tells)

pub trade_blocks-requires-clause-unchanged : goal.trade_blocks-requires-clause-unchanged
trade_blocks-requires-clause-unchanged g c later =
    let tells = sym c.bare.ensures.frame.space.same.tells ∙ later in
    unchanged_bared c.args.volume.now (g.P.SectorView.space c.args.space.now) (c.requires.serves.settled tells) (c.requires.serves.stands.stands tells) c.bare.new.volume (g.P.SectorView.space c.bare.new.space) c.bare.ensures.rest (c.in_ok-old.ensures.bares tells)

pub trade_blocks-requires-clause-touched : goal.trade_blocks-requires-clause-touched
trade_blocks-requires-clause-touched g c = none_touched c.args.volume.now c.bare.new.volume c.requires.unchanged c.bare.ensures.rest

pub trade_blocks-requires-clause-apart : goal.trade_blocks-requires-clause-apart
trade_blocks-requires-clause-apart g c later =
    let tells = sym c.bare.ensures.frame.space.same.tells ∙ later in
    given_apart (owned_by c.args.at.id) c.args.volume.now c.bare.new.volume (g.P.SectorView.space c.args.space.now) (g.P.SectorView.space c.bare.new.space) c.in_ok-old.old (c.requires.serves.settled tells) (c.requires.serves.stands.stands tells) (has_them c.args.volume.now.header c.if-volume-eq0.false) (freed_are c.args.volume.now (g.P.SectorView.space c.args.space.now).content (c.requires.serves.settled tells) (c.requires.serves.stands.stands tells).trees c.args.at.id c.args.owned (c.requires.counted tells) (c.requires.change tells) c.in_ok-old.old (c.in_ok-old.ensures.blocks tells))

pub trade_blocks-requires-clause-used : goal.trade_blocks-requires-clause-used
trade_blocks-requires-clause-used g c later =
    let tells = sym c.bare.ensures.frame.space.same.tells ∙ later in
    subst (λ (y : Volume). AreUsed y.map (blocks_of c.in_ok-old.old)) (sym c.bare.ensures.rest) (given_used (owned_by c.args.at.id) c.args.volume.now c.bare.new.volume (g.P.SectorView.space c.args.space.now) (g.P.SectorView.space c.bare.new.space) c.in_ok-old.old (c.requires.serves.settled tells) (c.requires.serves.stands.stands tells) (has_them c.args.volume.now.header c.if-volume-eq0.false) (freed_are c.args.volume.now (g.P.SectorView.space c.args.space.now).content (c.requires.serves.settled tells) (c.requires.serves.stands.stands tells).trees c.args.at.id c.args.owned (c.requires.counted tells) (c.requires.change tells) c.in_ok-old.old (c.in_ok-old.ensures.blocks tells)))

pub remove_folder-requires-clause-serves : goal.remove_folder-requires-clause-serves
remove_folder-requires-clause-serves g c = record {
  stands = c.in_ok-trade_blocks.ensures.stands;
  settled = λ last.
      let tells = sym c.bare.ensures.frame.space.same.tells ∙ sym c.trade_blocks.ensures.within.same.tells ∙ last in
      (all_given (owned_by c.args.at.id) c.args.volume.now c.bare.new.volume (g.P.SectorView.space c.args.space.now) (g.P.SectorView.space c.bare.new.space) c.in_ok-old.old (c.requires.serves.settled tells) (c.requires.serves.stands.stands tells) (has_them c.args.volume.now.header c.if-volume-eq0.false) (freed_are c.args.volume.now (g.P.SectorView.space c.args.space.now).content (c.requires.serves.settled tells) (c.requires.serves.stands.stands tells).trees c.args.at.id c.args.owned (c.requires.counted tells) (c.requires.change tells) c.in_ok-old.old (c.in_ok-old.ensures.blocks tells)) c.bare.ensures.rest (c.in_ok-old.ensures.bares tells) c.trade_blocks.new.self (g.P.SectorView.space c.trade_blocks.new.space) (c.in_ok-trade_blocks.ensures.stands.stands (c.trade_blocks.ensures.within.same.tells ∙ c.bare.ensures.frame.space.same.tells ∙ tells)) (c.in_ok-trade_blocks.ensures.trades (c.bare.ensures.frame.space.same.tells ∙ tells)) (c.in_ok-trade_blocks.ensures.put (c.bare.ensures.frame.space.same.tells ∙ tells))).settled;
}

pub remove_folder-requires-clause-leaving : goal.remove_folder-requires-clause-leaving
remove_folder-requires-clause-leaving g c last =
    let tells = sym c.bare.ensures.frame.space.same.tells ∙ sym c.trade_blocks.ensures.within.same.tells ∙ last in
    leaving_still (tree_of (g.P.SectorView.space c.args.space.now).content) (tree_of (g.P.SectorView.space c.trade_blocks.new.space).content) c.args.at c.args.name.now (entries_given c.args.at.id (blocks_of c.in_ok-old.old) c.trade_blocks.new.self (g.P.SectorView.space c.args.space.now).content (g.P.SectorView.space c.trade_blocks.new.space).content (all_given (owned_by c.args.at.id) c.args.volume.now c.bare.new.volume (g.P.SectorView.space c.args.space.now) (g.P.SectorView.space c.bare.new.space) c.in_ok-old.old (c.requires.serves.settled tells) (c.requires.serves.stands.stands tells) (has_them c.args.volume.now.header c.if-volume-eq0.false) (freed_are c.args.volume.now (g.P.SectorView.space c.args.space.now).content (c.requires.serves.settled tells) (c.requires.serves.stands.stands tells).trees c.args.at.id c.args.owned (c.requires.counted tells) (c.requires.change tells) c.in_ok-old.old (c.in_ok-old.ensures.blocks tells)) c.bare.ensures.rest (c.in_ok-old.ensures.bares tells) c.trade_blocks.new.self (g.P.SectorView.space c.trade_blocks.new.space) (c.in_ok-trade_blocks.ensures.stands.stands (c.trade_blocks.ensures.within.same.tells ∙ c.bare.ensures.frame.space.same.tells ∙ tells)) (c.in_ok-trade_blocks.ensures.trades (c.bare.ensures.frame.space.same.tells ∙ tells)) (c.in_ok-trade_blocks.ensures.put (c.bare.ensures.frame.space.same.tells ∙ tells)))) (c.requires.leaving tells)

pub remove_folder-requires-clause-bare : goal.remove_folder-requires-clause-bare
remove_folder-requires-clause-bare g c last =
    let tells = sym c.bare.ensures.frame.space.same.tells ∙ sym c.trade_blocks.ensures.within.same.tells ∙ last in
    none_left c.args.at.id (volume_of (g.P.SectorView.space c.args.space.now).content).attribute_pairs (volume_of (g.P.SectorView.space c.trade_blocks.new.space).content).attribute_pairs (all_given (owned_by c.args.at.id) c.args.volume.now c.bare.new.volume (g.P.SectorView.space c.args.space.now) (g.P.SectorView.space c.bare.new.space) c.in_ok-old.old (c.requires.serves.settled tells) (c.requires.serves.stands.stands tells) (has_them c.args.volume.now.header c.if-volume-eq0.false) (freed_are c.args.volume.now (g.P.SectorView.space c.args.space.now).content (c.requires.serves.settled tells) (c.requires.serves.stands.stands tells).trees c.args.at.id c.args.owned (c.requires.counted tells) (c.requires.change tells) c.in_ok-old.old (c.in_ok-old.ensures.blocks tells)) c.bare.ensures.rest (c.in_ok-old.ensures.bares tells) c.trade_blocks.new.self (g.P.SectorView.space c.trade_blocks.new.space) (c.in_ok-trade_blocks.ensures.stands.stands (c.trade_blocks.ensures.within.same.tells ∙ c.bare.ensures.frame.space.same.tells ∙ tells)) (c.in_ok-trade_blocks.ensures.trades (c.bare.ensures.frame.space.same.tells ∙ tells)) (c.in_ok-trade_blocks.ensures.put (c.bare.ensures.frame.space.same.tells ∙ tells))).values.changes

pub remove_folder-requires-clause-room : goal.remove_folder-requires-clause-room
remove_folder-requires-clause-room g c = record {
  some = omega (arith, c.spare.ensures, c.if-spare-eq0.false);
  told = λ last.
      let tells = sym c.bare.ensures.frame.space.same.tells ∙ sym c.trade_blocks.ensures.within.same.tells ∙ last in
      let large = attributes_large c.args.volume.now (g.P.SectorView.space c.args.space.now) c.requires.serves.stands (has_them c.args.volume.now.header c.if-volume-eq0.false) tells in
      (room_for_folder c.edits_take_their_load.ensures c.args.owned c.args.volume.now c.bare.new.volume c.trade_blocks.new.self (g.P.SectorView.space c.args.space.now) (g.P.SectorView.space c.bare.new.space) (g.P.SectorView.space c.trade_blocks.new.space) c.in_ok-old.old c.bare.ensures.rest tells large (subst (λ n. TakesAtMost n 266 (state_of [] c.args.volume.now.attributes.file (g.P.SectorView.space c.args.space.now)) (state_of [] c.bare.new.volume.attributes.file (g.P.SectorView.space c.bare.new.space))) c.count_records.ensures (c.bare.ensures.takes [])) (few_blocks c.args.volume.now (g.P.SectorView.space c.args.space.now).content (c.requires.serves.settled tells) (c.requires.serves.stands.stands tells).trees c.args.at.id c.args.owned (c.requires.counted tells) (c.requires.change tells) c.in_ok-old.old (c.in_ok-old.ensures.blocks tells)) c.trade_blocks.ensures.spent c.trade_blocks.ensures.rest
      (ap (λ (y : Volume). y.header.block_size) (c.in_ok-trade_blocks.ensures.trades (c.bare.ensures.frame.space.same.tells ∙ tells)) ∙ same_block c.in_ok-old.old c.bare.new.volume)
      (λ (trade : is_trade false c.in_ok-old.old ≡ true). c.in_ok-trade_blocks.ensures.is_put (c.bare.ensures.frame.space.same.tells ∙ tells) trade) c.requires.room (c.fits_owner.ensures.room c.if-not-fits_owner.false) (has_them c.args.volume.now.header c.if-volume-eq0.false) (omega (arith, c.spare.ensures, c.if-spare-eq0.false))).told last;
}

pub returns-clause-takes : goal.returns-clause-takes
returns-clause-takes g c tells =
    let later = c.trade_blocks.ensures.within.same.tells ∙ c.bare.ensures.frame.space.same.tells ∙ tells in
    ok_so (TakesFolder c.args.at.id (volume_of (g.P.SectorView.space c.trade_blocks.new.space).content) (volume_of (g.P.SectorView.space c.remove_folder.new.space).content)) (TakesFolder c.args.at.id (volume_of (g.P.SectorView.space c.args.space.now).content) (volume_of (g.P.SectorView.space c.remove_folder.new.space).content)) c.remove_folder.result (c.remove_folder.ensures.takes later)
    (λ takes. takes_behind c.args.at.id (volume_of (g.P.SectorView.space c.args.space.now).content) (volume_of (g.P.SectorView.space c.trade_blocks.new.space).content) (volume_of (g.P.SectorView.space c.remove_folder.new.space).content)
    (values_are c.args.at.id (blocks_of c.in_ok-old.old) (volume_of (g.P.SectorView.space c.args.space.now).content) (volume_of (g.P.SectorView.space c.trade_blocks.new.space).content) (freed_are c.args.volume.now (g.P.SectorView.space c.args.space.now).content (c.requires.serves.settled tells) (c.requires.serves.stands.stands tells).trees c.args.at.id c.args.owned (c.requires.counted tells) (c.requires.change tells) c.in_ok-old.old (c.in_ok-old.ensures.blocks tells)) (all_given (owned_by c.args.at.id) c.args.volume.now c.bare.new.volume (g.P.SectorView.space c.args.space.now) (g.P.SectorView.space c.bare.new.space) c.in_ok-old.old (c.requires.serves.settled tells) (c.requires.serves.stands.stands tells) (has_them c.args.volume.now.header c.if-volume-eq0.false) (freed_are c.args.volume.now (g.P.SectorView.space c.args.space.now).content (c.requires.serves.settled tells) (c.requires.serves.stands.stands tells).trees c.args.at.id c.args.owned (c.requires.counted tells) (c.requires.change tells) c.in_ok-old.old (c.in_ok-old.ensures.blocks tells)) c.bare.ensures.rest (c.in_ok-old.ensures.bares tells) c.trade_blocks.new.self (g.P.SectorView.space c.trade_blocks.new.space) (c.in_ok-trade_blocks.ensures.stands.stands (c.trade_blocks.ensures.within.same.tells ∙ c.bare.ensures.frame.space.same.tells ∙ tells)) (c.in_ok-trade_blocks.ensures.trades (c.bare.ensures.frame.space.same.tells ∙ tells)) (c.in_ok-trade_blocks.ensures.put (c.bare.ensures.frame.space.same.tells ∙ tells))).values)
    (none_left c.args.at.id (volume_of (g.P.SectorView.space c.args.space.now).content).attribute_pairs (volume_of (g.P.SectorView.space c.trade_blocks.new.space).content).attribute_pairs (all_given (owned_by c.args.at.id) c.args.volume.now c.bare.new.volume (g.P.SectorView.space c.args.space.now) (g.P.SectorView.space c.bare.new.space) c.in_ok-old.old (c.requires.serves.settled tells) (c.requires.serves.stands.stands tells) (has_them c.args.volume.now.header c.if-volume-eq0.false) (freed_are c.args.volume.now (g.P.SectorView.space c.args.space.now).content (c.requires.serves.settled tells) (c.requires.serves.stands.stands tells).trees c.args.at.id c.args.owned (c.requires.counted tells) (c.requires.change tells) c.in_ok-old.old (c.in_ok-old.ensures.blocks tells)) c.bare.ensures.rest (c.in_ok-old.ensures.bares tells) c.trade_blocks.new.self (g.P.SectorView.space c.trade_blocks.new.space) (c.in_ok-trade_blocks.ensures.stands.stands (c.trade_blocks.ensures.within.same.tells ∙ c.bare.ensures.frame.space.same.tells ∙ tells)) (c.in_ok-trade_blocks.ensures.trades (c.bare.ensures.frame.space.same.tells ∙ tells)) (c.in_ok-trade_blocks.ensures.put (c.bare.ensures.frame.space.same.tells ∙ tells))).values.changes) takes)

pub returns-clause-does : goal.returns-clause-does
returns-clause-does g c tells =
    let later = c.trade_blocks.ensures.within.same.tells ∙ c.bare.ensures.frame.space.same.tells ∙ tells in
    ok_both (TakesFolder c.args.at.id (volume_of (g.P.SectorView.space c.trade_blocks.new.space).content) (volume_of (g.P.SectorView.space c.remove_folder.new.space).content)) (IsSettled c.remove_folder.new.volume (g.P.SectorView.space c.remove_folder.new.space).content × (tree_of (g.P.SectorView.space c.remove_folder.new.space).content ≡ removed_folder (folder_at c.args.at c.args.name.now) (tree_of (g.P.SectorView.space c.trade_blocks.new.space).content)))
    (IsSettled c.remove_folder.new.volume (g.P.SectorView.space c.remove_folder.new.space).content × (tree_of (g.P.SectorView.space c.remove_folder.new.space).content ≡ removed_folder (folder_at c.args.at c.args.name.now) (tree_of (g.P.SectorView.space c.args.space.now).content))) c.remove_folder.result (c.remove_folder.ensures.takes later) (c.remove_folder.ensures.does later)
    (λ takes did.
    let behind = takes_behind c.args.at.id (volume_of (g.P.SectorView.space c.args.space.now).content) (volume_of (g.P.SectorView.space c.trade_blocks.new.space).content) (volume_of (g.P.SectorView.space c.remove_folder.new.space).content)
    (values_are c.args.at.id (blocks_of c.in_ok-old.old) (volume_of (g.P.SectorView.space c.args.space.now).content) (volume_of (g.P.SectorView.space c.trade_blocks.new.space).content) (freed_are c.args.volume.now (g.P.SectorView.space c.args.space.now).content (c.requires.serves.settled tells) (c.requires.serves.stands.stands tells).trees c.args.at.id c.args.owned (c.requires.counted tells) (c.requires.change tells) c.in_ok-old.old (c.in_ok-old.ensures.blocks tells)) (all_given (owned_by c.args.at.id) c.args.volume.now c.bare.new.volume (g.P.SectorView.space c.args.space.now) (g.P.SectorView.space c.bare.new.space) c.in_ok-old.old (c.requires.serves.settled tells) (c.requires.serves.stands.stands tells) (has_them c.args.volume.now.header c.if-volume-eq0.false) (freed_are c.args.volume.now (g.P.SectorView.space c.args.space.now).content (c.requires.serves.settled tells) (c.requires.serves.stands.stands tells).trees c.args.at.id c.args.owned (c.requires.counted tells) (c.requires.change tells) c.in_ok-old.old (c.in_ok-old.ensures.blocks tells)) c.bare.ensures.rest (c.in_ok-old.ensures.bares tells) c.trade_blocks.new.self (g.P.SectorView.space c.trade_blocks.new.space) (c.in_ok-trade_blocks.ensures.stands.stands (c.trade_blocks.ensures.within.same.tells ∙ c.bare.ensures.frame.space.same.tells ∙ tells)) (c.in_ok-trade_blocks.ensures.trades (c.bare.ensures.frame.space.same.tells ∙ tells)) (c.in_ok-trade_blocks.ensures.put (c.bare.ensures.frame.space.same.tells ∙ tells))).values)
    (none_left c.args.at.id (volume_of (g.P.SectorView.space c.args.space.now).content).attribute_pairs (volume_of (g.P.SectorView.space c.trade_blocks.new.space).content).attribute_pairs (all_given (owned_by c.args.at.id) c.args.volume.now c.bare.new.volume (g.P.SectorView.space c.args.space.now) (g.P.SectorView.space c.bare.new.space) c.in_ok-old.old (c.requires.serves.settled tells) (c.requires.serves.stands.stands tells) (has_them c.args.volume.now.header c.if-volume-eq0.false) (freed_are c.args.volume.now (g.P.SectorView.space c.args.space.now).content (c.requires.serves.settled tells) (c.requires.serves.stands.stands tells).trees c.args.at.id c.args.owned (c.requires.counted tells) (c.requires.change tells) c.in_ok-old.old (c.in_ok-old.ensures.blocks tells)) c.bare.ensures.rest (c.in_ok-old.ensures.bares tells) c.trade_blocks.new.self (g.P.SectorView.space c.trade_blocks.new.space) (c.in_ok-trade_blocks.ensures.stands.stands (c.trade_blocks.ensures.within.same.tells ∙ c.bare.ensures.frame.space.same.tells ∙ tells)) (c.in_ok-trade_blocks.ensures.trades (c.bare.ensures.frame.space.same.tells ∙ tells)) (c.in_ok-trade_blocks.ensures.put (c.bare.ensures.frame.space.same.tells ∙ tells))).values.changes) takes in (
      did.0,
      removed_behind c.rmdir_does_its_step.ensures (g.P.SectorView.space c.args.space.now).content (g.P.SectorView.space c.remove_folder.new.space).content (c.requires.serves.settled tells).sound c.args.at c.args.name.now (c.requires.leaving tells) behind
          (blocks_of c.in_ok-old.old) c.trade_blocks.new.self (g.P.SectorView.space c.trade_blocks.new.space).content (all_given (owned_by c.args.at.id) c.args.volume.now c.bare.new.volume (g.P.SectorView.space c.args.space.now) (g.P.SectorView.space c.bare.new.space) c.in_ok-old.old (c.requires.serves.settled tells) (c.requires.serves.stands.stands tells) (has_them c.args.volume.now.header c.if-volume-eq0.false) (freed_are c.args.volume.now (g.P.SectorView.space c.args.space.now).content (c.requires.serves.settled tells) (c.requires.serves.stands.stands tells).trees c.args.at.id c.args.owned (c.requires.counted tells) (c.requires.change tells) c.in_ok-old.old (c.in_ok-old.ensures.blocks tells)) c.bare.ensures.rest (c.in_ok-old.ensures.bares tells) c.trade_blocks.new.self (g.P.SectorView.space c.trade_blocks.new.space) (c.in_ok-trade_blocks.ensures.stands.stands (c.trade_blocks.ensures.within.same.tells ∙ c.bare.ensures.frame.space.same.tells ∙ tells)) (c.in_ok-trade_blocks.ensures.trades (c.bare.ensures.frame.space.same.tells ∙ tells)) (c.in_ok-trade_blocks.ensures.put (c.bare.ensures.frame.space.same.tells ∙ tells))) (all_given (owned_by c.args.at.id) c.args.volume.now c.bare.new.volume (g.P.SectorView.space c.args.space.now) (g.P.SectorView.space c.bare.new.space) c.in_ok-old.old (c.requires.serves.settled tells) (c.requires.serves.stands.stands tells) (has_them c.args.volume.now.header c.if-volume-eq0.false) (freed_are c.args.volume.now (g.P.SectorView.space c.args.space.now).content (c.requires.serves.settled tells) (c.requires.serves.stands.stands tells).trees c.args.at.id c.args.owned (c.requires.counted tells) (c.requires.change tells) c.in_ok-old.old (c.in_ok-old.ensures.blocks tells)) c.bare.ensures.rest (c.in_ok-old.ensures.bares tells) c.trade_blocks.new.self (g.P.SectorView.space c.trade_blocks.new.space) (c.in_ok-trade_blocks.ensures.stands.stands (c.trade_blocks.ensures.within.same.tells ∙ c.bare.ensures.frame.space.same.tells ∙ tells)) (c.in_ok-trade_blocks.ensures.trades (c.bare.ensures.frame.space.same.tells ∙ tells)) (c.in_ok-trade_blocks.ensures.put (c.bare.ensures.frame.space.same.tells ∙ tells))).settled.sound takes did.1,
    ))

pub returns-clause-ran : goal.returns-clause-ran
returns-clause-ran g c =
    ran_both c.args.volume.now g.met.P.SectorView.follows_trans c.in_ok-old.ensures.edits.ran c.in_ok-old.ensures.edits.own
    (ran_both {most = (g.P.SectorView.space c.bare.new.space).spare} c.bare.new.volume g.met.P.SectorView.follows_trans (ran_stands c.bare.new.volume c.trade_blocks.ensures.below c.trade_blocks.ensures.faults c.in_ok-trade_blocks.ensures.stands c.trade_blocks.ensures.within) c.trade_blocks.ensures.own c.remove_folder.ensures.edits.ran (λ later. omega arith))
    (λ tells.
    let large = attributes_large c.args.volume.now (g.P.SectorView.space c.args.space.now) c.requires.serves.stands (has_them c.args.volume.now.header c.if-volume-eq0.false) tells in
    let later = c.trade_blocks.ensures.within.same.tells ∙ c.bare.ensures.frame.space.same.tells ∙ tells in
    let same : remove_load c.trade_blocks.new.self ≡ remove_load c.args.volume.now = ap remove_load (c.trade_blocks.ensures.rest ∙ (λ i. record (c.bare.ensures.rest i) { map = c.trade_blocks.new.self.map; header = c.trade_blocks.new.self.header })) in
    omega (arith, spent_counting c.edits_take_their_load.ensures c.args.owned c.args.volume.now c.bare.new.volume c.trade_blocks.new.self (g.P.SectorView.space c.args.space.now) (g.P.SectorView.space c.bare.new.space) (g.P.SectorView.space c.trade_blocks.new.space) c.in_ok-old.old c.bare.ensures.rest tells large (subst (λ n. TakesAtMost n 266 (state_of [] c.args.volume.now.attributes.file (g.P.SectorView.space c.args.space.now)) (state_of [] c.bare.new.volume.attributes.file (g.P.SectorView.space c.bare.new.space))) c.count_records.ensures (c.bare.ensures.takes [])) (few_blocks c.args.volume.now (g.P.SectorView.space c.args.space.now).content (c.requires.serves.settled tells) (c.requires.serves.stands.stands tells).trees c.args.at.id c.args.owned (c.requires.counted tells) (c.requires.change tells) c.in_ok-old.old (c.in_ok-old.ensures.blocks tells)) c.trade_blocks.ensures.spent (λ (trade : is_trade false c.in_ok-old.old ≡ true). c.in_ok-trade_blocks.ensures.is_put (c.bare.ensures.frame.space.same.tells ∙ tells) trade), c.remove_folder.ensures.counted later, same))

pub returns-clause-used : goal.returns-clause-used
returns-clause-used g c =
    used_both c.args.volume.now c.bare.new.volume c.remove_folder.new.volume (used_blocks c.args.volume.now c.bare.new.volume c.in_ok-old.ensures.edits.blocks)
    (used_both c.bare.new.volume c.trade_blocks.new.self c.remove_folder.new.volume c.trade_blocks.ensures.used (used_blocks c.trade_blocks.new.self c.remove_folder.new.volume c.remove_folder.ensures.edits.blocks))

pub returns-in_err-old-clause-ran : goal.returns-in_err-old-clause-ran
returns-in_err-old-clause-ran g c =
    ran_spent c.args.volume.now (edits_err c.from_residual.ensures.1 c.in_err-old.ensures.edits).ran (λ tells. omega (arith, (spent_counted c.edits_take_their_load.ensures c.count_records.result c.args.volume.now c.bare.new.volume (g.P.SectorView.space c.args.space.now) (g.P.SectorView.space c.bare.new.space) tells (attributes_large c.args.volume.now (g.P.SectorView.space c.args.space.now) c.requires.serves.stands (has_them c.args.volume.now.header c.if-volume-eq0.false) tells) (c.bare.ensures.takes [])), (ap (λ n. tree_load attributes_key (attributes_cost c.args.volume.now) n 0) c.count_records.ensures)))

pub returns-in_err-old-clause-used : goal.returns-in_err-old-clause-used
returns-in_err-old-clause-used g c = used_blocks c.args.volume.now c.bare.new.volume c.in_err-old.ensures.edits.blocks

pub returns-in_err-trade_blocks-clause-ran : goal.returns-in_err-trade_blocks-clause-ran
returns-in_err-trade_blocks-clause-ran g c =
    wanting c.args.volume.now c.from_residual-in_err-trade_blocks.ensures.1
    (ran_both c.args.volume.now g.met.P.SectorView.follows_trans c.in_ok-old.ensures.edits.ran c.in_ok-old.ensures.edits.own (ran_within c.bare.new.volume c.trade_blocks.ensures.below c.trade_blocks.ensures.faults c.trade_blocks.ensures.service c.trade_blocks.ensures.within)
    (λ tells.
    let large = attributes_large c.args.volume.now (g.P.SectorView.space c.args.space.now) c.requires.serves.stands (has_them c.args.volume.now.header c.if-volume-eq0.false) tells in
    spent_before_most c.edits_take_their_load.ensures c.args.owned c.args.volume.now c.bare.new.volume c.trade_blocks.new.self (g.P.SectorView.space c.args.space.now) (g.P.SectorView.space c.bare.new.space) (g.P.SectorView.space c.trade_blocks.new.space) c.in_ok-old.old c.bare.ensures.rest tells large (subst (λ n. TakesAtMost n 266 (state_of [] c.args.volume.now.attributes.file (g.P.SectorView.space c.args.space.now)) (state_of [] c.bare.new.volume.attributes.file (g.P.SectorView.space c.bare.new.space))) c.count_records.ensures (c.bare.ensures.takes [])) (few_blocks c.args.volume.now (g.P.SectorView.space c.args.space.now).content (c.requires.serves.settled tells) (c.requires.serves.stands.stands tells).trees c.args.at.id c.args.owned (c.requires.counted tells) (c.requires.change tells) c.in_ok-old.old (c.in_ok-old.ensures.blocks tells)) c.trade_blocks.ensures.spent))

pub returns-in_err-trade_blocks-clause-used : goal.returns-in_err-trade_blocks-clause-used
returns-in_err-trade_blocks-clause-used g c = used_both c.args.volume.now c.bare.new.volume c.trade_blocks.new.self (used_blocks c.args.volume.now c.bare.new.volume c.in_ok-old.ensures.edits.blocks) c.trade_blocks.ensures.used

pub returns-then-spare-eq0-clause-ran : goal.returns-then-spare-eq0-clause-ran
returns-then-spare-eq0-clause-ran g c =
    ran_short c.args.volume.now (ran_both c.args.volume.now g.met.P.SectorView.follows_trans c.in_ok-old.ensures.edits.ran c.in_ok-old.ensures.edits.own (ran_within c.bare.new.volume c.trade_blocks.ensures.below c.trade_blocks.ensures.faults c.trade_blocks.ensures.service c.trade_blocks.ensures.within)
    (λ tells.
    let large = attributes_large c.args.volume.now (g.P.SectorView.space c.args.space.now) c.requires.serves.stands (has_them c.args.volume.now.header c.if-volume-eq0.false) tells in
    spent_before_most c.edits_take_their_load.ensures c.args.owned c.args.volume.now c.bare.new.volume c.trade_blocks.new.self (g.P.SectorView.space c.args.space.now) (g.P.SectorView.space c.bare.new.space) (g.P.SectorView.space c.trade_blocks.new.space) c.in_ok-old.old c.bare.ensures.rest tells large (subst (λ n. TakesAtMost n 266 (state_of [] c.args.volume.now.attributes.file (g.P.SectorView.space c.args.space.now)) (state_of [] c.bare.new.volume.attributes.file (g.P.SectorView.space c.bare.new.space))) c.count_records.ensures (c.bare.ensures.takes [])) (few_blocks c.args.volume.now (g.P.SectorView.space c.args.space.now).content (c.requires.serves.settled tells) (c.requires.serves.stands.stands tells).trees c.args.at.id c.args.owned (c.requires.counted tells) (c.requires.change tells) c.in_ok-old.old (c.in_ok-old.ensures.blocks tells)) c.trade_blocks.ensures.spent))

pub returns-then-spare-eq0-clause-used : goal.returns-then-spare-eq0-clause-used
returns-then-spare-eq0-clause-used g c = used_both c.args.volume.now c.bare.new.volume c.trade_blocks.new.self (used_blocks c.args.volume.now c.bare.new.volume c.in_ok-old.ensures.edits.blocks) c.trade_blocks.ensures.used

pub returns-then-volume-eq0-clause-ran : goal.returns-then-volume-eq0-clause-ran
returns-then-volume-eq0-clause-ran g c = (edits_wanting _ g.met.P.SectorView.follows_refl c.requires.serves.stands).ran

pub returns-then-volume-eq0-clause-used : goal.returns-then-volume-eq0-clause-used
returns-then-volume-eq0-clause-used g c = used_none c.args.volume.now

pub returns-then-shape-lt4096-clause-ran : goal.returns-then-shape-lt4096-clause-ran
returns-then-shape-lt4096-clause-ran g c = (edits_wanting _ g.met.P.SectorView.follows_refl c.requires.serves.stands).ran

pub returns-then-shape-lt4096-clause-used : goal.returns-then-shape-lt4096-clause-used
returns-then-shape-lt4096-clause-used g c = used_none c.args.volume.now

pub returns-then-not-fits_owner-clause-ran : goal.returns-then-not-fits_owner-clause-ran
returns-then-not-fits_owner-clause-ran g c = (edits_wanting _ g.met.P.SectorView.follows_refl c.requires.serves.stands).ran

pub returns-then-not-fits_owner-clause-used : goal.returns-then-not-fits_owner-clause-used
returns-then-not-fits_owner-clause-used g c = used_none c.args.volume.now
