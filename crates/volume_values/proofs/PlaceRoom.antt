-- The room to place a value is room for the edits that it takes, and they put as much at most as is counted.
use Rattle.std.proofs.Common.{◌≡◌, ◌<◌, ◌≤◌, ℕ, ◌+◌, ◌-◌, ◌*◌, ◌/◌, ◌==◌, Bool, false, List, [], length, refl, sym, ◌∙◌, ap, subst, arith}
use Rattle.std.specs.Prelude.{IsTrue}
use Rattle.std.proofs.lemmas.Bool.{ne_eqb}
use Rattle.btree_edit.specs.Edits.{EditRoom, TakesAtMost}
use Rattle.btree_file.specs.State.{state_of}
use Rattle.hfs_volume.specs.Content.{has_attributes}
use Rattle.hfs_volume.specs.Cost.{attributes_key, growth, is_too_deep, overflow_records, tree_load}
use Rattle.hfs_volume.specs.Forks.{parts_for}
use Rattle.sector_disk.specs.Space.{Space}
use Rattle.tree_weights.specs.Weights.{EditsHaveRoom, EditsTakeTheirLoad, GrowsByEnough}
use Rattle.volume_base.specs.Attributing.{attributes_cost, mark_load}
use Rattle.volume_base.specs.declared.volume.Volume.{Volume}
use Rattle.volume_base.proofs.MarkRoom.{HasRoomToMark, room_for_edits, spent_edits}
use Rattle.volume_space.proofs.FewerEdits.{growth_low, load_low, not_deep}
use Rattle.volume_values.specs.Valuing.{HasRoomToPlace, edits_to_place, place_load}

-- fewer runs need no more records
pub fewer_records : (few many : ℕ) → few ≤ many → overflow_records few ≤ overflow_records many
fewer_records few many fewer = grind (arith, fewer)

module _ (enough : GrowsByEnough) (law : EditsHaveRoom) (takes_law : EditsTakeTheirLoad) (u : Volume) (a : Space) (most long : ℕ) (room : IsTrue a.tells → HasRoomToPlace most long u a) (has : IsTrue (has_attributes u.header)) (large : 4096 ≤ u.attributes.file.shape.node_size)
    (edits : ℕ) (some : 0 < edits) (fewer : IsTrue a.tells → edits ≤ edits_to_place most long u)
  where
    three : 3 * (attributes_key + 8) ≤ (attributes_cost u).node_size - 16
    three = omega (arith, large)

    not_none : (edits == 0) ≡ false
    not_none = ne_eqb edits 0 (λ none. absurd (omega (arith, some, none)))

    room_to_mark : HasRoomToMark edits u a
    room_to_mark = record {
      update = record { told = λ tells. omega (arith, (room tells).load) };
      told = λ tells there. let it = room tells in let less = fewer tells in (
        omega (arith, it.load, load_low attributes_key edits (edits_to_place most long u) (attributes_cost u) three less),
        not_deep attributes_key edits (edits_to_place most long u) (attributes_cost u) three less it.deep,
        growth_low attributes_key edits (edits_to_place most long u) (attributes_cost u) three less u.header.block_size enough it.grows,
      );
    }

    -- over the volume that knows blocks as taken, too
    module _ (w : Volume) (b : Space) (rest : w ≡ record u { map = w.map }) (tells_same : b.tells ≡ a.tells) (spare : b.spare ≡ a.spare) where
      room_then : HasRoomToMark edits w b
      room_then = record {
        update = record { told = λ told. omega (arith, room_to_mark.update.told (sym tells_same ∙ told), spare, ap (λ (x : Volume). x.catalog.file.shape.node_size) rest) };
        told = λ told there.
            let it = room_to_mark.told (sym tells_same ∙ told) has in
            subst (λ (k : Volume × ℕ). (mark_load edits k.0 ≤ k.1) × (is_too_deep attributes_key (attributes_cost k.0) edits ≡ false) × (growth k.0.header.block_size attributes_key (attributes_cost k.0) edits ≡ 0)) {x = (record u { map = w.map }, a.spare)} {y = (w, b.spare)}
            (λ i. (sym rest i, sym spare i)) it;
      }

      has_then : IsTrue (has_attributes w.header)
      has_then = subst (λ (x : Volume). IsTrue (has_attributes x.header)) (sym rest) has

      large_then : 4096 ≤ w.attributes.file.shape.node_size
      large_then = subst (λ (x : Volume). 4096 ≤ x.attributes.file.shape.node_size) (sym rest) large

      pub edits_room : (names : List ℕ) → IsTrue b.tells → EditRoom edits 266 (state_of names w.attributes.file b)
      edits_room names told = room_for_edits edits not_none law w b room_then has_then large_then names told

      pub edits_within : (v : Volume) (c : Space) → TakesAtMost edits 266 (state_of [] w.attributes.file b) (state_of [] v.attributes.file c) → IsTrue b.tells → b.spare ≤ c.spare + place_load most long u
      edits_within v c takes told =
          let spent = spent_edits edits not_none law takes_law w v b c room_then has_then large_then takes told in
          omega (arith, spent, load_low attributes_key edits (edits_to_place most long u) (attributes_cost u) three (fewer (sym tells_same ∙ told)), ap (λ (x : Volume). tree_load attributes_key (attributes_cost x) edits 0) rest)
