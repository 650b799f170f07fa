use Rattle.std.proofs.Common.{false, ◌≡◌, ◌<◌, ◌≤◌, ◌+◌, ℕ, List, [], length, refl, sym, ◌∙◌, ap, subst, arith}
use Rattle.hx_bytes.specs.declared.extents.Extent.{Extent}
use Rattle.fork_map.specs.Blocks.{blocks_of}
use Rattle.alloc_bitmap.specs.Apart.{AreApart}
use Rattle.alloc_bitmap.specs.Map.{BlockMap}
use Rattle.attributes.specs.Values.{extents_at, records_at}
use Rattle.btree_node.specs.Levels.{Pair}
use Rattle.btree_node.specs.declared.store.TreeShape.{TreeShape}
use Rattle.catalog.specs.Pairs.{value_at}
use Rattle.file_io.specs.Places.{AreUsed}
use Rattle.flag_rows.specs.Bits.{count_set}
use Rattle.hfs_volume.specs.Changes.{DropsAttribute}
use Rattle.hfs_volume.specs.Content.{attributes_of, volume_of}
use Rattle.hfs_volume.specs.Cost.{attributes_key, tree_load}
use Rattle.hfs_volume.specs.Entries.{AreSpelled}
use Rattle.hfs_volume.specs.Values.{value_blocks}
use Rattle.hfs_volume.specs.declared.cost.ValueChange.{ValueChange}
use Rattle.volume_base.specs.Attributing.{attributes_cost}
use Rattle.volume_base.specs.Lists.{lists_of}
use Rattle.volume_base.specs.declared.volume.Volume.{Volume}
use Rattle.volume_base.proofs.FoundEntry.{settled_spelled}
use Rattle.volume_base.proofs.Framed.{edits_err, edits_spent}
use Rattle.volume_base.proofs.Joined.{edits_wanting}
use Rattle.volume_base.proofs.OwnedChange.{settled_valued}
use Rattle.volume_base.proofs.Remapped.{ok_of}
use Rattle.volume_base.proofs.Running.{ran_then}
use Rattle.volume_base.proofs.StillMapped.{unchanged_owned, unchanged_settled}
use Rattle.volume_base.proofs.ValueFreed.{freed_is, value_apart, value_used}
use Rattle.volume_base.proofs.KeptUsed.{used_blocks, used_both}
use Rattle.volume_values.specs.Valuing.{GivesAndMarks}
use Rattle.volume_values.proofs.Removed.{few_records, load_removed, most_removed, none_changed}
use Rattle.volume_values.proofs.ValueLoads.{room_to_change, spent_to_change}
use Rattle.volume_values.proofs.attribute_removal.remove_value.Goals as goal

pub delete-requires-clause-values : goal.delete-requires-clause-values
delete-requires-clause-values g c tells = settled_valued c.args.volume.now (g.P.SectorView.space c.args.space.now).content (c.requires.serves.settled tells)

pub delete-requires-clause-few : goal.delete-requires-clause-few
delete-requires-clause-few g c tells = few_records c.args.volume.now (g.P.SectorView.space c.args.space.now).content (c.requires.serves.stands.stands tells).trees (c.requires.serves.settled tells) c.args.id c.args.name.now c.args.change 0 (c.requires.change tells)

pub delete-requires-clause-room : goal.delete-requires-clause-room
delete-requires-clause-room g c =
    let large : 4096 ≤ c.args.volume.now.attributes.file.shape.node_size = omega (arith, c.if-shape-lt4096.false, ap (λ (s : TreeShape). s.node_size) c.shape.ensures) in
    room_to_change c.edits_have_room.ensures c.args.volume.now (g.P.SectorView.space c.args.space.now) 1 (omega arith) c.args.change c.requires.room c.requires.has large (c.args.change.records + 1)
    (λ tells. most_removed c.args.volume.now c.args.change (ap (λ (x : ValueChange). x.blocks) (c.requires.change tells)))

pub give_and_mark-requires-clause-stands : goal.give_and_mark-requires-clause-stands
give_and_mark-requires-clause-stands g c = c.in_ok-old.ensures.edits.ran.stands

pub give_and_mark-requires-clause-unchanged : goal.give_and_mark-requires-clause-unchanged
give_and_mark-requires-clause-unchanged g c told =
    let tells = sym c.in_ok-old.ensures.frame.space.same.tells ∙ told in
    unchanged_owned c.args.volume.now (g.P.SectorView.space c.args.space.now) (c.requires.serves.stands.stands tells) (DropsAttribute c.args.id c.args.name.now) c.delete.new.self (g.P.SectorView.space c.delete.new.space).content (c.in_ok-old.ensures.deletes tells)
    (unchanged_settled c.args.volume.now (g.P.SectorView.space c.args.space.now) (c.requires.serves.stands.stands tells) (c.requires.serves.settled tells))

pub give_and_mark-requires-clause-touched : goal.give_and_mark-requires-clause-touched
give_and_mark-requires-clause-touched g c = subst (λ (x : Volume). count_set x.map.changed ≤ 0) (sym c.in_ok-old.ensures.rest) (none_changed c.args.volume.now c.requires.unchanged)

pub give_and_mark-requires-clause-apart : goal.give_and_mark-requires-clause-apart
give_and_mark-requires-clause-apart g c told =
    let tells = sym c.in_ok-old.ensures.frame.space.same.tells ∙ told in
    subst (λ (l : List ℕ). AreApart l) (sym (ap (λ (l : List Extent). blocks_of l) (c.in_ok-old.ensures.blocks tells) ∙ freed_is c.args.volume.now (g.P.SectorView.space c.args.space.now).content (c.requires.serves.settled tells) c.args.id c.args.name.now))
    (value_apart c.args.volume.now (g.P.SectorView.space c.args.space.now).content (c.requires.serves.settled tells) c.args.id c.args.name.now)

pub give_and_mark-requires-clause-used : goal.give_and_mark-requires-clause-used
give_and_mark-requires-clause-used g c told =
    let tells = sym c.in_ok-old.ensures.frame.space.same.tells ∙ told in
    subst (λ (k : BlockMap × List ℕ). AreUsed k.0 k.1) {x = (c.args.volume.now.map, value_blocks (attributes_of (volume_of (g.P.SectorView.space c.args.space.now).content)) c.args.id c.args.name.now)} {y = (c.delete.new.self.map, blocks_of c.in_ok-old.old)}
    (λ i. (sym (ap (λ (x : Volume). x.map) c.in_ok-old.ensures.rest) i, sym (ap (λ (l : List Extent). blocks_of l) (c.in_ok-old.ensures.blocks tells) ∙ freed_is c.args.volume.now (g.P.SectorView.space c.args.space.now).content (c.requires.serves.settled tells) c.args.id c.args.name.now) i))
    (value_used c.args.volume.now (g.P.SectorView.space c.args.space.now).content (c.requires.serves.settled tells) c.args.id c.args.name.now)

pub give_and_mark-requires-clause-spelled : goal.give_and_mark-requires-clause-spelled
give_and_mark-requires-clause-spelled g c told =
    let tells = sym c.in_ok-old.ensures.frame.space.same.tells ∙ told in
    subst AreSpelled (sym (c.in_ok-old.ensures.deletes tells).catalog) (settled_spelled c.args.volume.now (g.P.SectorView.space c.args.space.now).content (c.requires.serves.settled tells))

pub give_and_mark-requires-clause-there : goal.give_and_mark-requires-clause-there
give_and_mark-requires-clause-there g c told =
    let tells = sym c.in_ok-old.ensures.frame.space.same.tells ∙ told in
    ap (λ (l : List Pair). value_at l c.args.entry.now.parent c.args.entry.now.name) (c.in_ok-old.ensures.deletes tells).catalog ∙ c.requires.there tells

pub give_and_mark-requires-clause-room : goal.give_and_mark-requires-clause-room
give_and_mark-requires-clause-room g c told =
    let tells = sym c.in_ok-old.ensures.frame.space.same.tells ∙ told in
    let large : 4096 ≤ c.args.volume.now.attributes.file.shape.node_size = omega (arith, c.if-shape-lt4096.false, ap (λ (s : TreeShape). s.node_size) c.shape.ensures) in
    omega (
      arith,
      (c.requires.room.told tells c.requires.has).0,
      load_removed c.args.volume.now c.delete.new.self (g.P.SectorView.space c.args.space.now).content (c.requires.serves.settled tells) c.args.id c.args.name.now c.args.change (c.requires.change tells) c.in_ok-old.old (c.in_ok-old.ensures.blocks tells) c.in_ok-old.ensures.rest,
      spent_to_change c.edits_have_room.ensures c.args.volume.now (g.P.SectorView.space c.args.space.now) 1 (omega arith) c.args.change c.requires.room c.requires.has large (c.args.change.records + 1)
          (λ t. most_removed c.args.volume.now c.args.change (ap (λ (x : ValueChange). x.blocks) (c.requires.change t))) c.edits_take_their_load.ensures c.delete.new.self (g.P.SectorView.space c.delete.new.space) (c.in_ok-old.ensures.takes []) tells,
    )

pub returns-clause-deletes : goal.returns-clause-deletes
returns-clause-deletes g c tells kind =
    ok_of c.give_and_mark.result (c.give_and_mark.ensures.gives (c.in_ok-old.ensures.frame.space.same.tells ∙ tells) kind) (λ given. record {
      dropped = c.delete.new.self;
      middle = (g.P.SectorView.space c.delete.new.space).content;
      drops = c.in_ok-old.ensures.deletes tells;
      behind = subst (λ (k : List Extent × ℕ). GivesAndMarks false c.args.others k.0 c.args.entry.now k.1 c.delete.new.self c.give_and_mark.new.volume (g.P.SectorView.space c.delete.new.space).content (g.P.SectorView.space c.give_and_mark.new.space).content)
          {x = (c.in_ok-old.old, c.delete.new.self.header.modify_date)} {y = (extents_at (lists_of c.args.volume.now (g.P.SectorView.space c.args.space.now).content).attribute_pairs c.args.id c.args.name.now, c.args.volume.now.header.modify_date)}
          (λ i. (c.in_ok-old.ensures.blocks tells i, ap (λ (x : Volume). x.header.modify_date) c.in_ok-old.ensures.rest i)) given;
    })

pub returns-clause-ran : goal.returns-clause-ran
returns-clause-ran g c =
    let large : 4096 ≤ c.args.volume.now.attributes.file.shape.node_size = omega (arith, c.if-shape-lt4096.false, ap (λ (s : TreeShape). s.node_size) c.shape.ensures) in
    ran_then c.args.volume.now c.delete.new.self g.met.P.SectorView.follows_trans c.in_ok-old.ensures.edits.own
    (edits_spent {few = tree_load attributes_key (attributes_cost c.args.volume.now) (c.args.change.records + 1) 0} c.in_ok-old.ensures.edits
    (spent_to_change c.edits_have_room.ensures c.args.volume.now (g.P.SectorView.space c.args.space.now) 1 (omega arith) c.args.change c.requires.room c.requires.has large (c.args.change.records + 1)
    (λ t. most_removed c.args.volume.now c.args.change (ap (λ (x : ValueChange). x.blocks) (c.requires.change t))) c.edits_take_their_load.ensures c.delete.new.self (g.P.SectorView.space c.delete.new.space) (c.in_ok-old.ensures.takes []))).ran
    c.give_and_mark.ensures.ran
    (λ tells. load_removed c.args.volume.now c.delete.new.self (g.P.SectorView.space c.args.space.now).content (c.requires.serves.settled tells) c.args.id c.args.name.now c.args.change (c.requires.change tells) c.in_ok-old.old (c.in_ok-old.ensures.blocks tells) c.in_ok-old.ensures.rest)

pub returns-clause-used : goal.returns-clause-used
returns-clause-used g c = used_both c.args.volume.now c.delete.new.self c.give_and_mark.new.volume (used_blocks c.args.volume.now c.delete.new.self c.in_ok-old.ensures.edits.blocks) c.give_and_mark.ensures.used

pub returns-in_err-old-clause-ran : goal.returns-in_err-old-clause-ran
returns-in_err-old-clause-ran g c =
    let large : 4096 ≤ c.args.volume.now.attributes.file.shape.node_size = omega (arith, c.if-shape-lt4096.false, ap (λ (s : TreeShape). s.node_size) c.shape.ensures) in
    (edits_err c.from_residual.ensures.1 (edits_spent c.in_err-old.ensures.edits (λ tells.
    omega (
      arith,
      spent_to_change c.edits_have_room.ensures c.args.volume.now (g.P.SectorView.space c.args.space.now) 1 (omega arith) c.args.change c.requires.room c.requires.has large (c.args.change.records + 1)
          (λ t. most_removed c.args.volume.now c.args.change (ap (λ (x : ValueChange). x.blocks) (c.requires.change t))) c.edits_take_their_load.ensures c.delete.new.self (g.P.SectorView.space c.delete.new.space) (c.in_err-old.ensures.takes []) tells,
      ap (λ n. tree_load attributes_key (attributes_cost c.args.volume.now) n 0) (most_removed c.args.volume.now c.args.change (ap (λ (x : ValueChange). x.blocks) (c.requires.change tells))),
    )))).ran

pub returns-in_err-old-clause-used : goal.returns-in_err-old-clause-used
returns-in_err-old-clause-used g c = used_blocks c.args.volume.now c.delete.new.self c.in_err-old.ensures.edits.blocks

pub returns-then-shape-lt4096-clause-deletes : goal.returns-then-shape-lt4096-clause-deletes
returns-then-shape-lt4096-clause-deletes g c tells kind = tt

pub returns-then-shape-lt4096-clause-ran : goal.returns-then-shape-lt4096-clause-ran
returns-then-shape-lt4096-clause-ran g c = (edits_wanting _ g.met.P.SectorView.follows_refl c.requires.serves.stands).ran

pub returns-then-change-gt4294967294-clause-ran : goal.returns-then-change-gt4294967294-clause-ran
returns-then-change-gt4294967294-clause-ran g c = (edits_wanting _ g.met.P.SectorView.follows_refl c.requires.serves.stands).ran
