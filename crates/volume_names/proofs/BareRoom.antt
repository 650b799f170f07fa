-- What the removal of attributes takes, and the room behind it to remove their folder.
use Rattle.std.proofs.Common.{◌≡◌, ◌⊎◌, ◌<◌, ◌≤◌, ℕ, ◌+◌, ◌-◌, ◌*◌, ◌/◌, Bool, true, false, List, [], inl, inr, length, refl, sym, ◌∙◌, ap, subst, arith}
use Rattle.std.specs.Prelude.{IsTrue, min, not, if◌then◌else◌}
use Rattle.std.specs.List.{range_with_len}
use Rattle.std.proofs.lemmas.Bool.{ne_eqb}
use Rattle.std.proofs.lemmas.List.FromFn.{length-range_with_len}
use Rattle.std.proofs.lemmas.List.Sums.{count_by-le-length}
use Rattle.sector_disk.specs.Space.{Space}
use Rattle.btree_edit.specs.Edits.{EditRoom, TakesAtMost}
use Rattle.btree_file.specs.State.{is_written, state_of}
use Rattle.flag_rows.specs.Bits.{sectors_for}
use Rattle.fork_map.specs.Blocks.{blocks_of}
use Rattle.hfs_volume.specs.Content.{has_attributes}
use Rattle.hfs_volume.specs.Cost.{attributes_key, tree_load, catalog_key, growth}
use Rattle.hx_bytes.specs.declared.extents.Extent.{Extent}
use Rattle.tree_weights.specs.Weights.{EditsHaveRoom, EditsTakeTheirLoad, HasGrown, IsWrittenByGrowth}
use Rattle.volume_base.specs.Attributing.{attributes_cost}
use Rattle.volume_base.specs.Giving.{is_trade, trade_load}
use Rattle.volume_base.specs.Making.{catalog_cost}
use Rattle.volume_base.specs.Removing.{HasRoomToBare, HasRoomToRemove, bare_load, records_owned, remove_load}
use Rattle.volume_base.specs.declared.value_changes.OwnedValues.{OwnedValues}
use Rattle.volume_base.specs.declared.volume.Tree.{Tree}
use Rattle.volume_base.specs.declared.volume.Volume.{Volume}
use Rattle.volume_names.specs.Removing.{counting_header}
use Rattle.volume_names.proofs.Deepening.{tops_rise}
use Rattle.volume_base.proofs.MarkRoom.{room_for_edits}

-- ---- the header, which takes no room where it was put

pub header_room : (a : Space) → 1 ≤ (counting_header a).spare → (0 < a.spare) ⊎ IsTrue (a.put 2)
header_room a some = by (a.put 2) refl some
  where
    by : (z : Bool) → a.put 2 ≡ z → 1 ≤ a.spare + (if z then 1 else 0) → (0 < a.spare) ⊎ IsTrue (a.put 2)
    by true is low = inr is
    by false is low = inl (omega (arith, low))

pub header_counted : (a b : Space) → a.spare ≤ b.spare + 1 → (IsTrue (a.put 2) → b.spare ≡ a.spare) → (counting_header a).spare ≤ b.spare + 1
header_counted a b spent again = by (a.put 2) refl
  where
    by : (z : Bool) → a.put 2 ≡ z → a.spare + (if z then 1 else 0) ≤ b.spare + 1
    by true is = omega (arith, again is)
    by false is = omega (arith, spent)

-- room without that is room with it
pub counting_room : (v : Volume) (a : Space) → HasRoomToRemove v a → HasRoomToRemove v (counting_header a)
counting_room v a room = record { some = omega (arith, room.some); told = λ tells. let it = room.told tells in (omega (arith, it.0), it.1, it.2) }

-- ---- the edits

-- told, the edits take what is counted
pub spent_counted : EditsTakeTheirLoad → (many : ℕ) (v w : Volume) (a b : Space) → IsTrue a.tells → 4096 ≤ v.attributes.file.shape.node_size → TakesAtMost many 266 (state_of [] v.attributes.file a) (state_of [] w.attributes.file b)
    → a.spare ≤ b.spare + tree_load attributes_key (attributes_cost v) many 0
spent_counted law many v w a b tells large takes =
    let size : 3 * (266 + 8) ≤ v.attributes.file.shape.node_size - 16 = omega (arith, large) in
    let costs = takes tells (v.attributes.file.shape.depth + many) (tops_rise _ _ many _) in
    let grown : HasGrown (attributes_cost v) 0 (state_of [] v.attributes.file a) = record { node_size = refl; depth = refl; records = refl; total = omega arith; free = omega arith } in
    let written : IsWrittenByGrowth (attributes_cost v) 0 0 (state_of [] v.attributes.file a) = record {
      few = omega arith;
      others = omega (arith, count_by-le-length (λ n. not (is_written v.attributes.file a.put n)) (range_with_len 0 v.attributes.file.shape.total), length-range_with_len 0 v.attributes.file.shape.total);
    } in
    omega (arith, law attributes_key many 0 0 (attributes_cost v) (state_of [] v.attributes.file a) (state_of [] w.attributes.file b) tells size grown written costs.same takes)

-- the room for the attributes
pub room_for_owned : (owned : OwnedValues) → 0 < owned.count → EditsHaveRoom → (v : Volume) (a : Space) → HasRoomToBare owned v a → IsTrue (has_attributes v.header) → 4096 ≤ v.attributes.file.shape.node_size → (names : List ℕ) → IsTrue a.tells
    → EditRoom (records_owned owned) 266 (state_of names v.attributes.file a)
room_for_owned owned some law v a room has large names tells =
    room_for_edits (records_owned owned) (ne_eqb (records_owned owned) 0 (λ none. absurd (omega (arith, some, none)))) law v a
    (record { update = record { told = λ told. omega (arith, (room.told told has).0) }; told = λ told there. let it = room.told told there in (omega (arith, it.0), it.1, it.2) }) has large names tells

-- ---- the blocks

-- a header's sector, where blocks are given back
abbrev pub header_of_trade : Bool → ℕ
header_of_trade trade = if trade then 1 else 0

-- what giving back puts beside the header is counted
pub trade_counted : (v : Volume) (old : List Extent) (freed : ℕ) → length (blocks_of old) ≤ freed → trade_load 0 old v ≤ min (sectors_for (length v.map.used)) freed + header_of_trade (is_trade false old)
trade_counted v old freed few = by (is_trade false old)
  where
    by : (z : Bool) → (if z then min (sectors_for (length v.map.used)) (0 + length (blocks_of old)) + 1 else 0) ≤ min (sectors_for (length v.map.used)) freed + header_of_trade z
    by true = omega (arith, few)
    by false = omega arith

pub put_counted : (c : Space) (trade : Bool) → (trade ≡ true → IsTrue (c.put 2)) → c.spare + header_of_trade trade ≤ (counting_header c).spare
put_counted c true put = by (c.put 2) (put refl)
  where
    by : (z : Bool) → z ≡ true → c.spare + 1 ≤ c.spare + (if z then 1 else 0)
    by true is = omega arith
    by false is = absurd (cc is)
put_counted c false put = omega arith

-- all that goes before the folder
module _ (law : EditsTakeTheirLoad) (owned : OwnedValues) (v w x : Volume) (a b c : Space) (old : List Extent) (rest : w ≡ record v { attributes = w.attributes }) (tells : IsTrue a.tells) (large : 4096 ≤ v.attributes.file.shape.node_size)
    (takes : TakesAtMost (records_owned owned) 266 (state_of [] v.attributes.file a) (state_of [] w.attributes.file b)) (few : length (blocks_of old) ≤ owned.change.freed) (spent : b.spare ≤ c.spare + trade_load 0 old w)
  where
    same_load : trade_load 0 old w ≡ trade_load 0 old v
    same_load = ap (λ (y : Volume). trade_load 0 old y) rest

    -- with the header
    pub spent_before : a.spare ≤ c.spare + (bare_load owned v + header_of_trade (is_trade false old))
    spent_before = omega (arith, spent_counted law (records_owned owned) v w a b tells large takes, spent, same_load, trade_counted v old owned.change.freed few)

    pub spent_before_most : a.spare ≤ c.spare + (bare_load owned v + remove_load v)
    spent_before_most = omega (arith, spent_before, one (is_trade false old))
      where
        one : (z : Bool) → header_of_trade z ≤ 1
        one true = omega arith
        one false = omega arith

    -- without it, where it counts as put
    pub spent_counting : (is_trade false old ≡ true → IsTrue (c.put 2)) → a.spare ≤ (counting_header c).spare + bare_load owned v
    spent_counting put = omega (arith, spent_before, put_counted c (is_trade false old) put)

    -- behind them there is room for the folder
    pub room_for_folder : x ≡ record w { map = x.map; header = x.header } → x.header.block_size ≡ w.header.block_size → (is_trade false old ≡ true → IsTrue (c.put 2)) → HasRoomToRemove v a → HasRoomToBare owned v a → IsTrue (has_attributes v.header)
        → 1 ≤ c.spare → HasRoomToRemove x (counting_header c)
    room_for_folder same block put was room has some =
        let is : x ≡ record v { attributes = w.attributes; map = x.map; header = x.header } = same ∙ (λ i. record (rest i) { map = x.map; header = x.header }) in
        let it = was.told tells in
        subst (λ (y : Volume). HasRoomToRemove y (counting_header c)) (sym is) (record {
          some = omega (arith, some);
          told = λ later. (omega (arith, (room.told tells has).0, spent_counting put), it.1, subst (λ n. growth n catalog_key (catalog_cost v) 2 ≡ 0) (sym (block ∙ ap (λ (y : Volume). y.header.block_size) rest)) it.2);
        })
