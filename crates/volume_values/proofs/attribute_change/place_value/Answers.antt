use Rattle.std.proofs.Common.{◌≡◌, ◌<◌, ◌≤◌, ◌+◌, ℕ, List, [], length, refl, sym, ◌∙◌, ap, subst, arith, ⊎_elim}
use Rattle.std.specs.Prelude.{IsTrue, OnOk, nat_lt}
use Rattle.std.proofs.lemmas.Bool.{lt-ltb}
use Rattle.alloc_bitmap.specs.Map.{BlockMap, free_of}
use Rattle.attributes.specs.Values.{AreValued, SetsValue, extents_at, records_at}
use Rattle.btree_node.specs.Levels.{Pair}
use Rattle.file_io.specs.Places.{fresh_of, taken}
use Rattle.flag_rows.specs.Bits.{count_set}
use Rattle.fork_map.specs.Blocks.{blocks_of}
use Rattle.hfs_volume.specs.Changes.{SetsFork}
use Rattle.hfs_volume.specs.Content.{VolumeState, has_attributes}
use Rattle.hfs_volume.specs.Cost.{overflow_records}
use Rattle.hfs_volume.specs.Forks.{in_use, parts_for}
use Rattle.hfs_volume.specs.Values.{longest_inline}
use Rattle.volume_base.specs.Mapping.{HoldsUnchanged}
use Rattle.volume_base.specs.declared.volume.Volume.{Volume}
use Rattle.volume_base.proofs.Framed.{edits_spent}
use Rattle.volume_base.proofs.KeptUsed.{used_blocks}
use Rattle.volume_base.proofs.OwnedChange.{settled_valued}
use Rattle.volume_base.proofs.Remapped.{ok_of}
use Rattle.volume_base.proofs.StillMapped.{unchanged_owned, unchanged_settled}
use Rattle.volume_space.proofs.PutHeld.{holds_put}
use Rattle.volume_values.specs.Valuing.{PlacesAs, blocks_of_new, place_load, runs_of_new}
use Rattle.volume_values.proofs.DeleteAnswers.{if_ok}
use Rattle.volume_values.proofs.FreshOff.{off_fresh, unchanged_taken}
use Rattle.volume_values.proofs.PlaceRoom.{edits_room, edits_within, fewer_records}
use Rattle.volume_values.proofs.Placing.{few_parts, is_long, long_of, map_own, outside_of, runs_enough, runs_enough_all, short_of, touched_placed}
use Rattle.volume_values.proofs.Removed.{none_changed}
use Rattle.volume_values.proofs.Spilling.{on_any, spills_err, spills_fewer, spills_none, spills_ran, spills_short, spills_then}
use Rattle.volume_values.proofs.attribute_change.place_value.Goals as goal

pub set-requires-clause-values : goal.set-requires-clause-values
set-requires-clause-values g c tells =
    settled_valued c.args.volume.now (g.P.SectorView.space c.args.space.now).content (c.requires.serves.settled tells)

pub set-requires-clause-short : goal.set-requires-clause-short
set-requires-clause-short g c =
    (short_of (length c.args.value.now) c.is_short.result c.is_short.ensures c.if-is_short.true).0

pub set-requires-clause-room : goal.set-requires-clause-room
set-requires-clause-room g c names tells =
    edits_room c.trees_grow_by_enough.ensures c.edits_have_room.ensures c.edits_take_their_load.ensures c.args.volume.now (g.P.SectorView.space c.args.space.now) c.args.most (length c.args.value.now) c.requires.room c.requires.has c.requires.size (c.args.most + 1) (omega arith) (λ tells. omega arith) c.args.volume.now (g.P.SectorView.space c.args.space.now) refl refl refl names tells

pub blocks_for_value-blocks-requires-clause-block : goal.blocks_for_value-blocks-requires-clause-block
blocks_for_value-blocks-requires-clause-block g c =
    omega (arith, c.requires.serves.stands.service.least)

pub spill_value-requires-clause-some : goal.spill_value-requires-clause-some
spill_value-requires-clause-some g c =
    omega (arith, (long_of (length c.args.value.now) c.is_short.result c.is_short.ensures c.if-is_short.false))

pub spill_value-requires-clause-free : goal.spill_value-requires-clause-free
spill_value-requires-clause-free g c =
    omega (arith, c.if-from-blocks.false, c.from.ensures, c.count_free.ensures, c.blocks_for_value-blocks.ensures.exact, (is_long c.args.value.now c.args.volume.now (long_of (length c.args.value.now) c.is_short.result c.is_short.ensures c.if-is_short.false)))

pub set_in_blocks-requires-clause-has : goal.set_in_blocks-requires-clause-has
set_in_blocks-requires-clause-has g c =
    subst (λ (x : Volume). IsTrue (has_attributes x.header)) (sym c.spill_value.ensures.rest) c.requires.has

pub set_in_blocks-requires-clause-size : goal.set_in_blocks-requires-clause-size
set_in_blocks-requires-clause-size g c =
    subst (λ (x : Volume). 4096 ≤ x.attributes.file.shape.node_size) (sym c.spill_value.ensures.rest) c.requires.size

pub set_in_blocks-requires-clause-values : goal.set_in_blocks-requires-clause-values
set_in_blocks-requires-clause-values g c told =
    let tells = sym c.spill_value.ensures.same.tells ∙ told in
    subst AreValued (sym (ap (λ (l : VolumeState). l.attribute_pairs) (c.in_ok-fork.ensures.lists tells))) (settled_valued c.args.volume.now (g.P.SectorView.space c.args.space.now).content (c.requires.serves.settled tells))

pub set_in_blocks-requires-clause-long : goal.set_in_blocks-requires-clause-long
set_in_blocks-requires-clause-long g c =
    (long_of (length c.args.value.now) c.is_short.result c.is_short.ensures c.if-is_short.false)

pub set_in_blocks-requires-clause-blocks : goal.set_in_blocks-requires-clause-blocks
set_in_blocks-requires-clause-blocks g c =
    few_parts c.args.volume.now c.args.value.now c.requires.serves.stands.service.least c.requires.long (omega (arith, c.if-from-blocks.false, c.from.ensures, c.count_free.ensures, c.blocks_for_value-blocks.ensures.exact, (is_long c.args.value.now c.args.volume.now (long_of (length c.args.value.now) c.is_short.result c.is_short.ensures c.if-is_short.false)))) c.in_ok-fork.fork c.in_ok-fork.ensures.blocks

pub set_in_blocks-requires-clause-few : goal.set_in_blocks-requires-clause-few
set_in_blocks-requires-clause-few g c told =
    let tells = sym c.spill_value.ensures.same.tells ∙ told in
    omega (arith, c.requires.few tells, ap (λ (l : List Pair). records_at l c.args.id c.args.name.now) (ap (λ (l : VolumeState). l.attribute_pairs) (c.in_ok-fork.ensures.lists tells)))

pub set_in_blocks-requires-clause-room : goal.set_in_blocks-requires-clause-room
set_in_blocks-requires-clause-room g c names told =
    edits_room c.trees_grow_by_enough.ensures c.edits_have_room.ensures c.edits_take_their_load.ensures c.args.volume.now (g.P.SectorView.space c.args.space.now) c.args.most (length c.args.value.now) c.requires.room c.requires.has c.requires.size (c.args.most + (1 + overflow_records (length (in_use c.in_ok-fork.fork)))) (omega arith) (λ tells. omega (arith, fewer_records (length (in_use c.in_ok-fork.fork)) (runs_of_new c.args.volume.now (length c.args.value.now)) (runs_enough c.args.volume.now c.args.value.now c.requires.serves.stands.service.least (long_of (length c.args.value.now) c.is_short.result c.is_short.ensures c.if-is_short.false) c.in_ok-fork.fork c.in_ok-fork.ensures.few))) c.spill_value.new.volume (g.P.SectorView.space c.spill_value.new.space) c.spill_value.ensures.rest c.spill_value.ensures.same.tells c.spill_value.ensures.room.spare names told

pub returns-then-is_short-clause-puts : goal.returns-then-is_short-clause-puts
returns-then-is_short-clause-puts g c tells =
    subst (λ b. OnOk c.set.result (PlacesAs b c.args.id c.args.name.now c.args.value.now c.args.volume.now c.set.new.volume (g.P.SectorView.space c.args.space.now).content (g.P.SectorView.space c.set.new.space).content)) (sym (short_of (length c.args.value.now) c.is_short.result c.is_short.ensures c.if-is_short.true).1) (c.set.ensures.sets tells)

pub returns-then-is_short-clause-rest : goal.returns-then-is_short-clause-rest
returns-then-is_short-clause-rest g c =
    c.set.ensures.rest ∙ (λ i. record c.args.volume.now { map = ap (λ (x : Volume). x.map) (sym c.set.ensures.rest) i; attributes = c.set.new.volume.attributes })

pub returns-then-is_short-clause-unchanged : goal.returns-then-is_short-clause-unchanged
returns-then-is_short-clause-unchanged g c tells =
    ok_of c.set.result (c.set.ensures.sets tells) (λ ch. unchanged_owned c.args.volume.now (g.P.SectorView.space c.args.space.now) (c.requires.serves.stands.stands tells) (SetsValue c.args.id c.args.name.now c.args.value.now) c.set.new.volume (g.P.SectorView.space c.set.new.space).content ch (unchanged_settled c.args.volume.now (g.P.SectorView.space c.args.space.now) (c.requires.serves.stands.stands tells) (c.requires.serves.settled tells)))

pub returns-then-is_short-clause-long : goal.returns-then-is_short-clause-long
returns-then-is_short-clause-long g c =
    ap (λ (x : Volume). length x.map.used) c.set.ensures.rest

pub returns-then-is_short-clause-touched : goal.returns-then-is_short-clause-touched
returns-then-is_short-clause-touched g c none_changed_ =
    on_any c.set.result (omega (arith, ap (λ (x : Volume). count_set x.map.changed) c.set.ensures.rest, none_changed c.args.volume.now none_changed_))

pub returns-then-is_short-clause-spills : goal.returns-then-is_short-clause-spills
returns-then-is_short-clause-spills g c =
    spills_ran c.args.volume.now (edits_spent c.set.ensures.edits (λ tells. edits_within c.trees_grow_by_enough.ensures c.edits_have_room.ensures c.edits_take_their_load.ensures c.args.volume.now (g.P.SectorView.space c.args.space.now) c.args.most (length c.args.value.now) c.requires.room c.requires.has c.requires.size (c.args.most + 1) (omega arith) (λ tells. omega arith) c.args.volume.now (g.P.SectorView.space c.args.space.now) refl refl refl c.set.new.volume (g.P.SectorView.space c.set.new.space) (c.set.ensures.takes []) tells)).ran (used_blocks c.args.volume.now c.set.new.volume c.set.ensures.edits.blocks) c.set.ensures.edits.own

pub returns-then-from-blocks-clause-spills : goal.returns-then-from-blocks-clause-spills
returns-then-from-blocks-clause-spills g c =
    spills_short (spills_none {x = tt {0}} g.met.P.SectorView.follows_refl c.requires.serves.stands)

pub returns-in_err-fork-clause-spills : goal.returns-in_err-fork-clause-spills
returns-in_err-fork-clause-spills g c =
    spills_err c.from_residual.ensures.1 (spills_fewer {few = 0} (record { below = c.in_err-fork.ensures.below; cause = c.in_err-fork.ensures.cause; service = c.in_err-fork.ensures.service; stands = c.in_err-fork.ensures.stands; holds = λ committed was. tt; touches = c.in_err-fork.ensures.commit; same = c.in_err-fork.ensures.same; spent = λ tells. omega (arith, c.in_err-fork.ensures.room.spare); own = c.in_err-fork.ensures.own; shrunk = ap (λ (x : Volume). x.shrunk) c.in_err-fork.ensures.rest; capacity = ap (λ (x : Volume). x.capacity) c.in_err-fork.ensures.rest }) (λ tells. omega arith))

pub returns-in_err-fork-clause-rest : goal.returns-in_err-fork-clause-rest
returns-in_err-fork-clause-rest g c =
    c.in_err-fork.ensures.rest ∙ (λ i. record c.args.volume.now { map = c.spill_value.new.volume.map; attributes = ap (λ (x : Volume). x.attributes) (sym c.in_err-fork.ensures.rest) i })

pub returns-in_err-fork-clause-long : goal.returns-in_err-fork-clause-long
returns-in_err-fork-clause-long g c =
    c.in_err-fork.ensures.keeps.used

pub returns-clause-blocks : goal.returns-clause-blocks
returns-clause-blocks g c tells =
    if_ok c.set_in_blocks.result (c.set_in_blocks.ensures.blocks (c.in_ok-fork.ensures.same.tells ∙ tells)) (λ old is. is ∙ ap (λ (l : List Pair). extents_at l c.args.id c.args.name.now) (ap (λ (l : VolumeState). l.attribute_pairs) (c.in_ok-fork.ensures.lists tells)))

pub returns-clause-puts : goal.returns-clause-puts
returns-clause-puts g c tells =
    subst (λ b. OnOk c.set_in_blocks.result (PlacesAs b c.args.id c.args.name.now c.args.value.now c.args.volume.now c.set_in_blocks.new.volume (g.P.SectorView.space c.args.space.now).content (g.P.SectorView.space c.set_in_blocks.new.space).content)) (sym (lt-ltb longest_inline (length c.args.value.now) (long_of (length c.args.value.now) c.is_short.result c.is_short.ensures c.if-is_short.false)))
    (ok_of c.set_in_blocks.result (c.set_in_blocks.ensures.sets (c.in_ok-fork.ensures.same.tells ∙ tells)) (λ sets. record {
      fork = c.in_ok-fork.fork;
      blocks = c.in_ok-fork.ensures.blocks ∙ ap (λ n. blocks_of (fresh_of c.args.volume.now.map n)) (sym (is_long c.args.value.now c.args.volume.now (long_of (length c.args.value.now) c.is_short.result c.is_short.ensures c.if-is_short.false)));
      few = runs_enough_all c.args.volume.now c.args.value.now c.requires.serves.stands.service.least (long_of (length c.args.value.now) c.is_short.result c.is_short.ensures c.if-is_short.false) c.in_ok-fork.fork c.in_ok-fork.ensures.few;
      spilled = c.spill_value.new.volume;
      takes = c.in_ok-fork.ensures.rest ∙ ap (λ (m : BlockMap). record c.args.volume.now { map = m }) (c.in_ok-fork.ensures.map ∙ ap (λ n. taken n c.args.volume.now.map) (sym (is_long c.args.value.now c.args.volume.now (long_of (length c.args.value.now) c.is_short.result c.is_short.ensures c.if-is_short.false))));
      middle = (g.P.SectorView.space c.spill_value.new.space).content;
      bytes = c.in_ok-fork.ensures.bytes tells;
      lists = c.in_ok-fork.ensures.lists tells;
      outside = outside_of c.args.volume.now (g.P.SectorView.space c.args.space.now).content (g.P.SectorView.space c.spill_value.new.space).content (parts_for (length c.args.value.now) c.args.volume.now.header.block_size) (blocks_of_new c.args.volume.now (length c.args.value.now)) (sym (is_long c.args.value.now c.args.volume.now (long_of (length c.args.value.now) c.is_short.result c.is_short.ensures c.if-is_short.false))) (c.in_ok-fork.ensures.touches tells).content;
      sets = sets;
    }))

pub returns-clause-rest : goal.returns-clause-rest
returns-clause-rest g c =
    (c.set_in_blocks.ensures.rest ∙ ap (λ (x : Volume). record x { attributes = c.set_in_blocks.new.volume.attributes }) c.spill_value.ensures.rest) ∙ (λ i. record c.args.volume.now { map = ap (λ (x : Volume). x.map) (sym c.set_in_blocks.ensures.rest) i; attributes = c.set_in_blocks.new.volume.attributes })

pub returns-clause-unchanged : goal.returns-clause-unchanged
returns-clause-unchanged g c tells =
    let later = c.in_ok-fork.ensures.same.tells ∙ tells in
    let was = c.requires.serves.stands.stands tells in
    let settled = c.requires.serves.settled tells in
    let enough : (parts_for (length c.args.value.now) c.args.volume.now.header.block_size) ≤ count_set (free_of c.args.volume.now.map) = (omega (arith, c.if-from-blocks.false, c.from.ensures, c.count_free.ensures, c.blocks_for_value-blocks.ensures.exact, (is_long c.args.value.now c.args.volume.now (long_of (length c.args.value.now) c.is_short.result c.is_short.ensures c.if-is_short.false)))) in
    let is : c.spill_value.new.volume ≡ record c.args.volume.now { map = taken (parts_for (length c.args.value.now) c.args.volume.now.header.block_size) c.args.volume.now.map } = c.in_ok-fork.ensures.rest ∙ ap (λ (m : BlockMap). record c.args.volume.now { map = m }) c.in_ok-fork.ensures.map in
    let outside = outside_of c.args.volume.now (g.P.SectorView.space c.args.space.now).content (g.P.SectorView.space c.spill_value.new.space).content (parts_for (length c.args.value.now) c.args.volume.now.header.block_size) (parts_for (length c.args.value.now) c.args.volume.now.header.block_size) refl (c.in_ok-fork.ensures.touches tells).content in
    let holds : HoldsUnchanged c.spill_value.new.volume (g.P.SectorView.space c.spill_value.new.space).content = subst (λ (x : Volume). HoldsUnchanged x (g.P.SectorView.space c.spill_value.new.space).content) (sym is) (unchanged_taken c.args.volume.now (g.P.SectorView.space c.args.space.now) was settled (parts_for (length c.args.value.now) c.args.volume.now.header.block_size) enough c.requires.serves.stands.service.marks (g.P.SectorView.space c.spill_value.new.space).content
    (λ s here. ⊎_elim (λ same. same) (λ fresh. absurd (off_fresh c.args.volume.now (g.P.SectorView.space c.args.space.now) was settled (parts_for (length c.args.value.now) c.args.volume.now.header.block_size) enough s fresh (map_own c.args.volume.now s here))) (outside.each s)) (unchanged_settled c.args.volume.now (g.P.SectorView.space c.args.space.now) was settled)) in
    ok_of c.set_in_blocks.result (c.set_in_blocks.ensures.sets later) (λ ch. unchanged_owned c.spill_value.new.volume (g.P.SectorView.space c.spill_value.new.space) (c.in_ok-fork.ensures.stands.stands later) (SetsFork c.args.id c.args.name.now (length c.args.value.now) (in_use c.in_ok-fork.fork)) c.set_in_blocks.new.volume (g.P.SectorView.space c.set_in_blocks.new.space).content ch holds)

pub returns-clause-long : goal.returns-clause-long
returns-clause-long g c =
    ap (λ (x : Volume). length x.map.used) c.set_in_blocks.ensures.rest ∙ c.in_ok-fork.ensures.keeps.used

pub returns-clause-touched : goal.returns-clause-touched
returns-clause-touched g c none_changed_ =
    on_any c.set_in_blocks.result (touched_placed c.args.volume.now c.args.value.now (long_of (length c.args.value.now) c.is_short.result c.is_short.ensures c.if-is_short.false) c.requires.serves.stands.service.least (omega (arith, c.if-from-blocks.false, c.from.ensures, c.count_free.ensures, c.blocks_for_value-blocks.ensures.exact, (is_long c.args.value.now c.args.volume.now (long_of (length c.args.value.now) c.is_short.result c.is_short.ensures c.if-is_short.false)))) none_changed_ c.set_in_blocks.new.volume.map (ap (λ (x : Volume). x.map) c.set_in_blocks.ensures.rest ∙ c.in_ok-fork.ensures.map))

pub returns-clause-spills : goal.returns-clause-spills
returns-clause-spills g c =
    spills_then {n = 0} c.args.volume.now c.spill_value.new.volume g.met.P.SectorView.follows_trans (ap (λ (x : Volume). x.header.block_size) c.in_ok-fork.ensures.rest) c.in_ok-fork.ensures.keeps.used (record { below = c.in_ok-fork.ensures.below; cause = c.in_ok-fork.ensures.cause; service = c.in_ok-fork.ensures.service; stands = c.in_ok-fork.ensures.stands; holds = λ committed was. holds_put committed c.args.volume.now c.spill_value.new.volume (parts_for (length c.args.value.now) c.args.volume.now.header.block_size) [] tt c.in_ok-fork.ensures.map was; touches = c.in_ok-fork.ensures.commit; same = c.in_ok-fork.ensures.same; spent = λ tells. omega (arith, c.in_ok-fork.ensures.room.spare); own = c.in_ok-fork.ensures.own; shrunk = ap (λ (x : Volume). x.shrunk) c.in_ok-fork.ensures.rest; capacity = ap (λ (x : Volume). x.capacity) c.in_ok-fork.ensures.rest })
    (spills_ran c.spill_value.new.volume (edits_spent {few = place_load c.args.most (length c.args.value.now) c.args.volume.now} c.set_in_blocks.ensures.edits (λ told. edits_within c.trees_grow_by_enough.ensures c.edits_have_room.ensures c.edits_take_their_load.ensures c.args.volume.now (g.P.SectorView.space c.args.space.now) c.args.most (length c.args.value.now) c.requires.room c.requires.has c.requires.size (c.args.most + (1 + overflow_records (length (in_use c.in_ok-fork.fork)))) (omega arith) (λ tells. omega (arith, fewer_records (length (in_use c.in_ok-fork.fork)) (runs_of_new c.args.volume.now (length c.args.value.now)) (runs_enough c.args.volume.now c.args.value.now c.requires.serves.stands.service.least (long_of (length c.args.value.now) c.is_short.result c.is_short.ensures c.if-is_short.false) c.in_ok-fork.fork c.in_ok-fork.ensures.few))) c.spill_value.new.volume (g.P.SectorView.space c.spill_value.new.space) c.spill_value.ensures.rest c.spill_value.ensures.same.tells c.spill_value.ensures.room.spare c.set_in_blocks.new.volume (g.P.SectorView.space c.set_in_blocks.new.space) (c.set_in_blocks.ensures.takes []) told)).ran (used_blocks c.spill_value.new.volume c.set_in_blocks.new.volume c.set_in_blocks.ensures.edits.blocks) c.set_in_blocks.ensures.edits.own)
    (λ tells. omega arith)
