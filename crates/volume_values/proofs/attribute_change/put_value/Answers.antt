use Rattle.std.proofs.Common.{◌≡◌, ◌<◌, ◌≤◌, ◌+◌, ◌==◌, ℕ, Bool, not, List, length, refl, sym, ◌∙◌, ap, subst, arith, true}
use Rattle.hx_bytes.specs.declared.extents.Extent.{Extent}
use Rattle.alloc_bitmap.specs.Apart.{AreApart}
use Rattle.attributes.specs.Values.{extents_at}
use Rattle.btree_node.specs.Levels.{Pair}
use Rattle.btree_node.specs.declared.store.TreeShape.{TreeShape}
use Rattle.catalog.specs.Pairs.{value_at}
use Rattle.file_io.specs.Places.{AreUsed}
use Rattle.fork_map.specs.Blocks.{blocks_of}
use Rattle.hfs_volume.specs.Entries.{AreSpelled}
use Rattle.hfs_volume.specs.Weight.{blocks_for_value}
use Rattle.hfs_volume.specs.declared.cost.ValueChange.{ValueChange}
use Rattle.volume_base.specs.Giving.{takes_some}
use Rattle.volume_base.specs.Lists.{lists_of}
use Rattle.volume_base.specs.declared.volume.Volume.{Volume}
use Rattle.volume_base.proofs.FoundEntry.{settled_spelled}
use Rattle.volume_base.proofs.Remapped.{ok_of}
use Rattle.volume_base.proofs.ValueFreed.{freed_is, value_apart, value_used}
use Rattle.volume_values.specs.Valuing.{GivesAndMarks, blocks_of_new}
use Rattle.volume_values.proofs.Placed.{load_placed, place_within, placed_catalog, placed_used, room_to_place, takes_touched}
use Rattle.volume_values.proofs.Removed.{few_records}
use Rattle.volume_values.proofs.Spilling.{spills_err, spills_fewer, spills_none, spills_ran, spills_short, spills_then}
use Rattle.volume_values.proofs.attribute_change.put_value.Goals as goal

pub count_touched-touched-requires-clause-service : goal.count_touched-touched-requires-clause-service
count_touched-touched-requires-clause-service g c =
    c.requires.serves.stands.service.least

pub place_value-requires-clause-size : goal.place_value-requires-clause-size
place_value-requires-clause-size g c =
    (omega (arith, c.if-shape-lt4096.false, ap (λ (s : TreeShape). s.node_size) c.shape.ensures))

pub place_value-requires-clause-few : goal.place_value-requires-clause-few
place_value-requires-clause-few g c tells =
    few_records c.args.volume.now (g.P.SectorView.space c.args.space.now).content (c.requires.serves.stands.stands tells).trees (c.requires.serves.settled tells) c.args.id c.args.name.now c.args.change (blocks_for_value c.args.volume.now.header.block_size (length c.args.value.now)) (c.requires.change tells)

pub place_value-requires-clause-room : goal.place_value-requires-clause-room
place_value-requires-clause-room g c tells =
    room_to_place c.args.volume.now (g.P.SectorView.space c.args.space.now) c.args.change (length c.args.value.now) (ap (λ (x : ValueChange). x.blocks) (c.requires.change tells)) (c.requires.room.told tells c.requires.has)

pub give_and_mark-requires-clause-stands : goal.give_and_mark-requires-clause-stands
give_and_mark-requires-clause-stands g c =
    c.in_ok-old.ensures.spills.stands

pub give_and_mark-requires-clause-unchanged : goal.give_and_mark-requires-clause-unchanged
give_and_mark-requires-clause-unchanged g c told =
    let tells = sym c.in_ok-old.ensures.spills.same.tells ∙ told in
    c.in_ok-old.ensures.unchanged tells

pub give_and_mark-requires-clause-touched : goal.give_and_mark-requires-clause-touched
give_and_mark-requires-clause-touched g c =
    omega (arith, c.in_ok-old.ensures.touched c.requires.unchanged, c.count_touched-touched.ensures)

pub give_and_mark-requires-clause-apart : goal.give_and_mark-requires-clause-apart
give_and_mark-requires-clause-apart g c told =
    let tells = sym c.in_ok-old.ensures.spills.same.tells ∙ told in
    subst (λ (l : List ℕ). AreApart l) (sym (ap (λ (l : List Extent). blocks_of l) (c.in_ok-old.ensures.blocks tells) ∙ freed_is c.args.volume.now (g.P.SectorView.space c.args.space.now).content (c.requires.serves.settled tells) c.args.id c.args.name.now)) (value_apart c.args.volume.now (g.P.SectorView.space c.args.space.now).content (c.requires.serves.settled tells) c.args.id c.args.name.now)

pub give_and_mark-requires-clause-used : goal.give_and_mark-requires-clause-used
give_and_mark-requires-clause-used g c told =
    let tells = sym c.in_ok-old.ensures.spills.same.tells ∙ told in
    placed_used c.args.id c.args.name.now c.args.value.now c.args.volume.now c.place_value.new.volume (g.P.SectorView.space c.args.space.now) (g.P.SectorView.space c.place_value.new.space).content (c.in_ok-old.ensures.puts tells) (blocks_of c.in_ok-old.old) (subst (λ (l : List ℕ). AreUsed c.args.volume.now.map l) (sym (ap (λ (l : List Extent). blocks_of l) (c.in_ok-old.ensures.blocks tells) ∙ freed_is c.args.volume.now (g.P.SectorView.space c.args.space.now).content (c.requires.serves.settled tells) c.args.id c.args.name.now)) (value_used c.args.volume.now (g.P.SectorView.space c.args.space.now).content (c.requires.serves.settled tells) c.args.id c.args.name.now))

pub give_and_mark-requires-clause-spelled : goal.give_and_mark-requires-clause-spelled
give_and_mark-requires-clause-spelled g c told =
    let tells = sym c.in_ok-old.ensures.spills.same.tells ∙ told in
    subst AreSpelled (sym (placed_catalog c.args.id c.args.name.now c.args.value.now c.args.volume.now c.place_value.new.volume (g.P.SectorView.space c.args.space.now) (g.P.SectorView.space c.place_value.new.space).content (c.in_ok-old.ensures.puts tells))) (settled_spelled c.args.volume.now (g.P.SectorView.space c.args.space.now).content (c.requires.serves.settled tells))

pub give_and_mark-requires-clause-there : goal.give_and_mark-requires-clause-there
give_and_mark-requires-clause-there g c told =
    let tells = sym c.in_ok-old.ensures.spills.same.tells ∙ told in
    ap (λ (l : List Pair). value_at l c.args.entry.now.parent c.args.entry.now.name) (placed_catalog c.args.id c.args.name.now c.args.value.now c.args.volume.now c.place_value.new.volume (g.P.SectorView.space c.args.space.now) (g.P.SectorView.space c.place_value.new.space).content (c.in_ok-old.ensures.puts tells)) ∙ c.requires.there tells

pub give_and_mark-requires-clause-room : goal.give_and_mark-requires-clause-room
give_and_mark-requires-clause-room g c told =
    let tells = sym c.in_ok-old.ensures.spills.same.tells ∙ told in
    omega (arith, (c.requires.room.told tells c.requires.has).0, load_placed c.args.volume.now c.place_value.new.volume (g.P.SectorView.space c.args.space.now).content (c.requires.serves.settled tells) c.args.id c.args.name.now (length c.args.value.now) c.args.change (c.requires.change tells) c.in_ok-old.old (c.in_ok-old.ensures.blocks tells) c.in_ok-old.ensures.rest c.in_ok-old.ensures.long c.count_touched-touched.result c.count_touched-touched.ensures, c.in_ok-old.ensures.spills.spent tells)

pub returns-clause-sets : goal.returns-clause-sets
returns-clause-sets g c tells kind =
    ok_of c.give_and_mark.result (c.give_and_mark.ensures.gives (c.in_ok-old.ensures.spills.same.tells ∙ tells) kind) (λ given. record {
      placed = c.place_value.new.volume;
      middle = (g.P.SectorView.space c.place_value.new.space).content;
      places = c.in_ok-old.ensures.puts tells;
      behind = subst (λ (k : (Bool × List Extent) × ℕ). GivesAndMarks k.0.0 true k.0.1 c.args.entry.now k.1 c.place_value.new.volume c.give_and_mark.new.volume (g.P.SectorView.space c.place_value.new.space).content (g.P.SectorView.space c.give_and_mark.new.space).content)
          {x = ((takes_some c.count_touched-touched.result, c.in_ok-old.old), c.place_value.new.volume.header.modify_date)} {y = ((not (blocks_of_new c.args.volume.now (length c.args.value.now) == 0), extents_at (lists_of c.args.volume.now (g.P.SectorView.space c.args.space.now).content).attribute_pairs c.args.id c.args.name.now), c.args.volume.now.header.modify_date)}
          (λ i. ((takes_touched c.args.volume.now (length c.args.value.now) (omega (arith, (c.requires.room.told tells c.requires.has).3, ap (λ (x : ValueChange). x.blocks) (c.requires.change tells))) c.count_touched-touched.result c.count_touched-touched.ensures i, c.in_ok-old.ensures.blocks tells i), ap (λ (x : Volume). x.header.modify_date) c.in_ok-old.ensures.rest i)) given;
    })

pub returns-clause-spills : goal.returns-clause-spills
returns-clause-spills g c =
    spills_then c.args.volume.now c.place_value.new.volume g.met.P.SectorView.follows_trans (ap (λ (x : Volume). x.header.block_size) c.in_ok-old.ensures.rest) c.in_ok-old.ensures.long c.in_ok-old.ensures.spills (spills_ran c.place_value.new.volume c.give_and_mark.ensures.ran c.give_and_mark.ensures.used c.give_and_mark.ensures.own)
    (λ tells. load_placed c.args.volume.now c.place_value.new.volume (g.P.SectorView.space c.args.space.now).content (c.requires.serves.settled tells) c.args.id c.args.name.now (length c.args.value.now) c.args.change (c.requires.change tells) c.in_ok-old.old (c.in_ok-old.ensures.blocks tells) c.in_ok-old.ensures.rest c.in_ok-old.ensures.long c.count_touched-touched.result c.count_touched-touched.ensures)

pub returns-in_err-old-clause-spills : goal.returns-in_err-old-clause-spills
returns-in_err-old-clause-spills g c =
    spills_err c.from_residual.ensures.1 (spills_fewer c.in_err-old.ensures.spills (λ tells. place_within c.args.volume.now c.args.change (length c.args.value.now) (ap (λ (x : ValueChange). x.blocks) (c.requires.change tells))))

pub returns-then-shape-lt4096-clause-spills : goal.returns-then-shape-lt4096-clause-spills
returns-then-shape-lt4096-clause-spills g c =
    spills_short (spills_none {x = tt {0}} g.met.P.SectorView.follows_refl c.requires.serves.stands)

pub returns-then-change-gt4294967294-clause-spills : goal.returns-then-change-gt4294967294-clause-spills
returns-then-change-gt4294967294-clause-spills g c =
    spills_short (spills_none {x = tt {0}} g.met.P.SectorView.follows_refl c.requires.serves.stands)
