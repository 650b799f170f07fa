-- What is left of the room for edits of the catalog behind edits, updates, reads and a put of the header.
use Rattle.std.proofs.Common.{◌≡◌, ◌<◌, ◌≤◌, ℕ, zero, suc, ◌+◌, ◌-◌, ◌*◌, ◌/◌, ◌^◌, Bool, true, false, not, cond, List, [], ◌∷◌, length, min, max, refl, sym, ◌∙◌, ap, subst, arith, ⊎_elim}
use Rattle.std.specs.Prelude.{IsTrue, if◌then◌else◌, nat_le, nat_lt}
use Rattle.std.specs.List.{Contains, list_all, count_by, range_with_len}
use Rattle.std.proofs.Math.Nat.{le-div_iff_mul-le, mul-le-mul_right}
use Rattle.std.proofs.lemmas.Bool.{cases_lt, ltb-false}
use Rattle.std.proofs.Math.Path.{fun_ext}
use Rattle.sector_disk.specs.Lists.{sector}
use Rattle.sector_disk.specs.Space.{Space, AgreesOutside}
use Rattle.btree_node.specs.Levels.{Nodes}
use Rattle.btree_node.specs.Node.{items}
use Rattle.btree_node.specs.Store.{Store, SameStore, unwritten_sectors}
use Rattle.btree_node.specs.declared.store.TreeShape.{TreeShape}
use Rattle.btree_edit.specs.Editing.{edit_writes}
use Rattle.btree_edit.specs.Edits.{EditRoom, TakesAtMost, TakesEdits, tops}
use Rattle.btree_edit.specs.LevelEdit.{node_room}
use Rattle.btree_edit.proofs.EditLaws.{deep_first, deep_then, room_first}
use Rattle.catalog.specs.Rooms.{TakesUpdates, UpdatesAtMost}
use Rattle.catalog.proofs.RoomLaws.{edits_are, most_edits}
use Rattle.btree_file.specs.FrameLaws.{follows_none, state_well_formed}
use Rattle.btree_file.specs.Place.{sectors_at}
use Rattle.btree_file.specs.State.{node_in, nodes_on, sectors_of_tree, state_of}
use Rattle.btree_file.specs.declared.tree.TreeFile.{TreeFile}
use Rattle.btree_file.specs.Frame.{PutsWithin}
use Rattle.btree_file.proofs.NodeLaws.{same_bytes}
use Rattle.btree_file.proofs.Rooms.{of_fork}
use Rattle.btree_file.proofs.RoomLaws.{all_still, count_step}
use Rattle.hfs_volume.specs.Cost.{catalog_key, depth_of, growth, is_too_deep, node_sectors, rises, tree_load}
use Rattle.hfs_volume.specs.declared.cost.TreeCost.{TreeCost}
use Rattle.tree_weights.specs.Weights.{EditsHaveRoom, EditsTakeTheirLoad, HasGrown, IsWrittenByGrowth}
use Rattle.volume_base.specs.Making.{catalog_cost}
use Rattle.volume_base.specs.Moving.{HasRoomToMove}
use Rattle.volume_base.specs.declared.volume.Tree.{Tree}
use Rattle.volume_base.specs.declared.volume.Volume.{Volume}
use Rattle.volume_base.proofs.MakeRoom.{grown, third_low, written}
use Rattle.volume_base.specs.Changing.{HasRoomToUpdate, HasRoomToUpdates, catalog_node}
use Rattle.volume_base.specs.Looking.{ReadsVolume}
use Rattle.volume_base.specs.Standing.{IsStanding}
use Rattle.hfs_volume.proofs.Members.{first_or_later}
use Rattle.volume_base.proofs.ListsAfter.{header_apart}
use Rattle.volume_base.proofs.Over.{sectors_kept}
use Rattle.volume_base.proofs.FoundEntry.{node_still}
use Rattle.volume_names.specs.EditsLeft.{FirstLinkFits, HasEditsLeft, HasLoadFor, Leaves, less_by, to_put_header}

-- ---- numbers

div_most : (count room per : ℕ) → 0 < per → count ≤ room / per → count * per ≤ room
div_most count room per some low = (le-div_iff_mul-le some).0 low

pub div_least : (count room per : ℕ) → 0 < per → count * per ≤ room → count ≤ room / per
div_least count room per some low = (le-div_iff_mul-le some).1 low

pub div_grows : (few many per : ℕ) → 0 < per → few ≤ many → few / per ≤ many / per
div_grows few many per some more = div_least (few / per) many per some (let it = div_most (few / per) few per some (omega arith) in omega (arith, it, more))

-- so many nodes were written for the first time, of those that edits may write and so many more
left_behind : (per all made others more old new fresh spare now beside rest : ℕ) → 0 < per → all ≡ made + others → old ≡ new + fresh → fresh ≤ made + more → spare + new * per ≤ now + old * per
    → more * per + rest ≤ beside → beside ≤ spare → min all old ≤ (spare - beside) / per → (rest ≤ now) × (min others new ≤ (now - rest) / per)
left_behind per all made others more old new fresh spare now beside rest some sum is few left fits inside room = ⊎_elim many_more few_more (cases_lt more fresh)
  where
    whole : old * per ≡ new * per + fresh * per
    whole = ap (λ n. n * per) is ∙ omega arith

    all_fit : min all old * per ≤ spare - beside
    all_fit = div_most (min all old) (spare - beside) per some room

    few_more : fresh ≤ more → (rest ≤ now) × (min others new ≤ (now - rest) / per)
    few_more less =
        let a : fresh * per ≤ more * per = mul-le-mul_right {m = fresh} {n = more} per less in
        let b : min others new * per ≤ min all old * per = mul-le-mul_right {m = min others new} {n = min all old} per (omega (arith, sum, is)) in
        (omega (arith, whole, left, fits, inside, a), div_least (min others new) (now - rest) per some (omega (arith, whole, left, fits, inside, a, b, all_fit)))

    many_more : more < fresh → (rest ≤ now) × (min others new ≤ (now - rest) / per)
    many_more less =
        let a : fresh * per ≡ (fresh - more) * per + more * per = ap (λ n. n * per) {x = fresh} {y = fresh - more + more} (omega (arith, less)) ∙ omega arith in
        let b : (fresh - more + min others new) * per ≤ min all old * per = mul-le-mul_right {m = fresh - more + min others new} {n = min all old} per (omega (arith, sum, is, few, less)) in
        let c : (fresh - more + min others new) * per ≡ (fresh - more) * per + min others new * per = omega arith in
        (omega (arith, whole, left, fits, inside, a, b, c, all_fit), div_least (min others new) (now - rest) per some (omega (arith, whole, left, fits, inside, a, b, c, all_fit)))

-- ---- edits and updates

sectors_are : (s t : Store) → s.sectors_left + unwritten_sectors t ≤ t.sectors_left + unwritten_sectors s → s.sectors_left + t.unwritten * (t.shape.node_size / 512) ≤ t.sectors_left + s.unwritten * (s.shape.node_size / 512)
unfolding unwritten_sectors
sectors_are s t it = it

module _ (v w : TreeFile) (a b : Space) where
  -- the sectors beside edits are left, whether or not these were all made
  pub spare_then : (first one others beside rest : ℕ) → 4096 ≤ v.shape.node_size → IsTrue a.tells → UpdatesAtMost first one 516 (state_of [] v a) (state_of [] w b) → one * (v.shape.node_size / 512) + rest ≤ beside
      → Leaves (first + others) beside v a → rest ≤ b.spare
  spare_then first one others beside rest large tells takes fits had =
      let room = had.1 in
      let deepest = room.deepest in
      let costs = takes tells deepest (deep_first first others 516 deepest (state_of [] v a) room.deep) in
      let old = (state_of [] v a).unwritten in
      let new = (state_of [] w b).unwritten in
      let per_is : w.shape.node_size / 512 ≡ v.shape.node_size / 512 = ap (λ n. n / 512) costs.same.node_size in
      let left : a.spare + new * (v.shape.node_size / 512) ≤ b.spare + old * (v.shape.node_size / 512) =
      subst (λ per. a.spare + new * per ≤ b.spare + old * (v.shape.node_size / 512)) per_is (sectors_are (state_of [] v a) (state_of [] w b) costs.sectors) in
      (left_behind (v.shape.node_size / 512) ((first + others) * edit_writes deepest) (first * edit_writes deepest) (others * edit_writes deepest) one old new (old - new) a.spare b.spare beside rest
      (omega (arith, large)) (omega arith) (omega (arith, costs.fewer)) (omega (arith, costs.some)) left fits had.0 room.writes).0

  pub left_then : (first one others beside rest : ℕ) → 4096 ≤ v.shape.node_size → IsTrue a.tells → TakesUpdates first one 516 (state_of [] v a) (state_of [] w b) → one * (v.shape.node_size / 512) + rest ≤ beside
      → Leaves (first + others) beside v a → Leaves others rest w b
  left_then first one others beside rest large tells takes fits had =
      let room = had.1 in
      let deepest = room.deepest in
      let costs = takes.takes tells deepest (deep_first first others 516 deepest (state_of [] v a) room.deep) in
      let old = (state_of [] v a).unwritten in
      let new = (state_of [] w b).unwritten in
      let per_is : w.shape.node_size / 512 ≡ v.shape.node_size / 512 = ap (λ n. n / 512) costs.same.node_size in
      let left : a.spare + new * (v.shape.node_size / 512) ≤ b.spare + old * (v.shape.node_size / 512) =
      subst (λ per. a.spare + new * per ≤ b.spare + old * (v.shape.node_size / 512)) per_is (sectors_are (state_of [] v a) (state_of [] w b) costs.sectors) in
      let it = left_behind (v.shape.node_size / 512) ((first + others) * edit_writes deepest) (first * edit_writes deepest) (others * edit_writes deepest) one old new (old - new) a.spare b.spare beside rest
      (omega (arith, large)) (omega arith) (omega (arith, costs.fewer)) (omega (arith, costs.some)) left fits had.0 room.writes in (
        it.0,
        record {
          deepest = deepest;
          deep = deep_then first others 516 deepest (state_of [] v a) (state_of [] w b) costs.same (takes.top tells) room.deep;
          depth = λ some. room.depth (omega (arith, some));
          records = omega (arith, takes.records tells, room.records);
          free = omega (arith, room.free, costs.free);
          writes = subst (λ per. min (others * edit_writes deepest) new ≤ (b.spare - rest) / per) (sym per_is) it.1;
        },
      )

-- ---- what only reads, and what is put elsewhere

fewer_if : (x y : Bool) → (x ≡ true → y ≡ true) → cond (not y) 1 0 ≤ cond (not x) 1 0
fewer_if true y so = let is : ◌≡◌ {A = ℕ} (cond (not y) 1 0) 0 = ap (λ b. cond (not b) 1 0) (so refl) in omega (arith, is)
fewer_if false true so = omega arith
fewer_if false false so = omega arith

count_fewer : (p q : ℕ → Bool) (at many : ℕ) → ((k : ℕ) → p k ≡ true → q k ≡ true) → count_by (λ k. not (q k)) (range_with_len at many) ≤ count_by (λ k. not (p k)) (range_with_len at many)
count_fewer p q at zero so = omega arith
count_fewer p q at (suc many) so =
    omega (arith, count_step (λ k. not (q k)) at many, count_step (λ k. not (p k)) at many, count_fewer p q (at + 1) many so, fewer_if (p at) (q at) (so at))

unwritten_fewer : (sectors : List ℕ) (per total : ℕ) (old new : ℕ → Bool) → ((s : ℕ) → IsTrue (old s) → IsTrue (new s))
    → count_by (λ n. not (list_all new (sectors_at sectors per n))) (range_with_len 0 total) ≤ count_by (λ n. not (list_all old (sectors_at sectors per n))) (range_with_len 0 total)
unwritten_fewer sectors per total old new still =
    count_fewer (λ n. list_all old (sectors_at sectors per n)) (λ n. list_all new (sectors_at sectors per n)) 0 total (λ n. all_still old new (sectors_at sectors per n) still)

pub room_over : (edits : ℕ) (names : List ℕ) (v w : TreeFile) (a b : Space) → 4096 ≤ v.shape.node_size → w.shape ≡ v.shape → sectors_of_tree w ≡ sectors_of_tree v → node_in w b.content ≡ node_in v a.content
    → ((s : ℕ) → IsTrue (a.put s) → IsTrue (b.put s)) → a.spare ≤ b.spare → EditRoom edits 516 (state_of [] v a) → EditRoom edits 516 (state_of names w b)
room_over edits names v w a b large shape sectors nodes still spare room =
    let deepest = room.deepest in
    let fewer = unwritten_fewer (sectors_of_tree v) (v.shape.node_size / 512) v.shape.total a.put b.put still in
    let here : min (edits * edit_writes deepest) (count_by (λ n. not (list_all b.put (sectors_at (sectors_of_tree v) (v.shape.node_size / 512) n))) (range_with_len 0 v.shape.total)) ≤ b.spare / (v.shape.node_size / 512) =
    omega (arith, room.writes, fewer, div_grows a.spare b.spare (v.shape.node_size / 512) (omega (arith, large)) spare) in
    record {
      deepest = deepest;
      deep = subst (λ (k : TreeShape × Nodes). (tops (node_room k.0.node_size) 524 edits (record { depth = k.0.depth; records = max 1 (length (items (k.1 k.0.root))) })).depth ≤ deepest)
          {x = (v.shape, node_in v a.content)} {y = (w.shape, node_in w b.content)} (λ i. (sym shape i, sym nodes i)) room.deep;
      depth = room.depth;
      records = subst (λ (s : TreeShape). s.leaf_records + edits ≤ 2 ^ 32 - 1) (sym shape) room.records;
      free = subst (λ (s : TreeShape). edits * (deepest + 1) ≤ s.free) (sym shape) room.free;
      writes = subst (λ (k : TreeShape × List ℕ). min (edits * edit_writes deepest) (count_by (λ n. not (list_all b.put (sectors_at k.1 (k.0.node_size / 512) n))) (range_with_len 0 k.0.total)) ≤ b.spare / (k.0.node_size / 512))
          {x = (v.shape, sectors_of_tree v)} {y = (w.shape, sectors_of_tree w)} (λ i. (sym shape i, sym sectors i)) here;
    }

-- ---- what a load counts

pub left_of_load : EditsHaveRoom → (edits beside : ℕ) (v : Volume) (m : Space) → 4096 ≤ v.catalog.file.shape.node_size → IsTrue m.tells → v.catalog.file.shape.leaf_records < 2 ^ 32 → is_too_deep catalog_key (catalog_cost v) edits ≡ false
    → growth v.header.block_size catalog_key (catalog_cost v) edits ≡ 0 → beside + tree_load catalog_key (catalog_cost v) edits 0 ≤ m.spare → Leaves edits beside v.catalog.file m
left_of_load law edits beside v m large tells records shallow none load =
    let size : 3 * (516 + 8) ≤ v.catalog.file.shape.node_size - 16 = omega (arith, large) in (
      omega (arith, load),
      law v.header.block_size catalog_key edits 0 (catalog_cost v) (state_of [] v.catalog.file (less_by beside m)) tells (state_well_formed [] v.catalog.file (less_by beside m)) size records shallow
          (subst (λ g. HasGrown (catalog_cost v) g (state_of [] v.catalog.file (less_by beside m))) (sym none) (grown v [] (less_by beside m))) (subst (λ g. IsWrittenByGrowth (catalog_cost v) g 0 (state_of [] v.catalog.file (less_by beside m))) (sym none) (written v [] (less_by beside m)))
          (subst (λ g. tree_load catalog_key (catalog_cost v) edits g ≤ m.spare - beside + 0 * node_sectors (catalog_cost v)) (sym none) (omega (arith, load))),
    )

-- ---- the same of a volume

pub left_updated : (v w : Volume) (a b : Space) (edits beside : ℕ) → (IsTrue a.tells → 4096 ≤ v.catalog.file.shape.node_size) → b.tells ≡ a.tells → TakesUpdates 0 1 516 (state_of [] v.catalog.file a) (state_of [] w.catalog.file b)
    → HasEditsLeft edits (catalog_node v + beside) v a → HasEditsLeft edits beside w b
left_updated v w a b edits beside large same takes had = record {
  told = λ tells_now.
      let tells : IsTrue a.tells = sym same ∙ tells_now in
      let all : edits ≡ 0 + edits = omega arith in
      left_then v.catalog.file w.catalog.file a b 0 1 edits (catalog_node v + beside) beside (large tells) tells takes (omega arith) (subst (λ n. Leaves n (catalog_node v + beside) v.catalog.file a) all (had.told tells));
}

-- fewer sectors beside them
pub leaves_less : (edits beside rest : ℕ) (file : TreeFile) (a : Space) → 4096 ≤ file.shape.node_size → rest ≤ beside → Leaves edits beside file a → Leaves edits rest file a
leaves_less edits beside rest file a large less had =
    (omega (arith, had.0, less), room_over edits [] file file (less_by beside a) (less_by rest a) large refl refl refl (λ s put. put) (omega (arith, less)) had.1)

pub left_less : (v : Volume) (a : Space) (edits beside : ℕ) → (IsTrue a.tells → 4096 ≤ v.catalog.file.shape.node_size) → HasEditsLeft edits (catalog_node v + beside) v a → HasEditsLeft edits beside v a
left_less v a edits beside large had = record { told = λ tells. leaves_less edits (catalog_node v + beside) beside v.catalog.file a (large tells) (omega arith) (had.told tells) }

pub left_fewer : (v : Volume) (a : Space) (edits beside rest : ℕ) → (IsTrue a.tells → 4096 ≤ v.catalog.file.shape.node_size) → rest ≤ beside → HasEditsLeft edits beside v a → HasEditsLeft edits rest v a
left_fewer v a edits beside rest large less had = record { told = λ tells. leaves_less edits beside rest v.catalog.file a (large tells) less (had.told tells) }

-- it is told where the space tells
pub left_as : (v : Volume) (a : Space) (edits beside rest : ℕ) → (IsTrue a.tells → beside ≡ rest) → HasEditsLeft edits beside v a → HasEditsLeft edits rest v a
left_as v a edits beside rest same had = record { told = λ tells. subst (λ n. Leaves edits n v.catalog.file a) (same tells) (had.told tells) }

-- reads leave it
pub left_still : (v w : Volume) (a b : Space) (edits beside : ℕ) → (IsTrue a.tells → 4096 ≤ v.catalog.file.shape.node_size) → ReadsVolume v w a b → HasEditsLeft edits beside v a → HasEditsLeft edits beside w b
left_still v w a b edits beside large reads had = record {
  told = λ tells_now.
      let tells : IsTrue a.tells = sym reads.looks.same.tells ∙ tells_now in
      let it = had.told tells in
      let sectors = sectors_kept a.tells v.catalog.file w.catalog.file reads.keeps.catalog.file in
      let nodes : node_in w.catalog.file b.content ≡ node_in v.catalog.file a.content = λ i. nodes_on (sectors i) (reads.keeps.catalog.file.shape i).node_size (reads.looks.content tells i) in (
        omega (arith, it.0, reads.looks.spare),
        room_over edits [] v.catalog.file w.catalog.file (less_by beside a) (less_by beside b) (large tells) reads.keeps.catalog.file.shape sectors nodes reads.looks.still_put (omega (arith, reads.looks.spare)) it.1,
      );
}

-- the load of edits, of which two are made behind a put of the header
pub left_added : EditsHaveRoom → (v w : Volume) (a m b : Space) (edits beside : ℕ) → 4096 ≤ v.catalog.file.shape.node_size → m.tells ≡ a.tells → b.tells ≡ m.tells → a.spare ≤ m.spare + 1
    → TakesEdits 2 516 (state_of [] v.catalog.file m) (state_of [] w.catalog.file b) → HasLoadFor (2 + edits) (1 + beside) v a → HasEditsLeft edits beside w b
left_added law v w a m b edits beside large same later spent takes load = record {
  told = λ tells_now.
      let told : IsTrue m.tells = sym later ∙ tells_now in
      let tells : IsTrue a.tells = sym same ∙ told in
      left_then v.catalog.file w.catalog.file m b 2 0 edits beside beside large told (edits_are 2 516 (state_of [] v.catalog.file m) (state_of [] w.catalog.file b) takes) (omega arith)
      (left_of_load law (2 + edits) beside v m large told (load.records tells) (load.shallow tells) (load.grown tells) (omega (arith, load.load tells, spent)));
}

-- the same where they needn't both be made
pub spare_added : EditsHaveRoom → (v w : Volume) (a m b : Space) (edits beside : ℕ) → 4096 ≤ v.catalog.file.shape.node_size → m.tells ≡ a.tells → a.spare ≤ m.spare + 1 → TakesAtMost 2 516 (state_of [] v.catalog.file m) (state_of [] w.catalog.file b)
    → HasLoadFor (2 + edits) (1 + beside) v a → IsTrue a.tells → beside ≤ b.spare
spare_added law v w a m b edits beside large same spent takes load tells =
    let told : IsTrue m.tells = same ∙ tells in
    spare_then v.catalog.file w.catalog.file m b 2 0 edits beside beside large told (most_edits 2 516 (state_of [] v.catalog.file m) (state_of [] w.catalog.file b) takes) (omega arith)
    (left_of_load law (2 + edits) beside v m large told (load.records tells) (load.shallow tells) (load.grown tells) (omega (arith, load.load tells, spent)))

-- a load that counts them is room for them
pub left_now : EditsHaveRoom → (edits beside : ℕ) (v : Volume) (a : Space) → (IsTrue a.tells → 4096 ≤ v.catalog.file.shape.node_size) → HasLoadFor edits beside v a → HasEditsLeft edits beside v a
left_now law edits beside v a large load = record { told = λ tells. left_of_load law edits beside v a (large tells) tells (load.records tells) (load.shallow tells) (load.grown tells) (load.load tells) }

-- ---- a put of the header

-- sector 2 is none of the catalog's
only_two : (s : ℕ) → Contains (2 ∷ []) s → s ≡ 2
only_two s here = ⊎_elim (λ (is : s ≡ 2). is) (λ none. absurd (omega (arith, none.1))) (first_or_later 2 s [] here)

catalog_elsewhere : (v : Volume) (a m : Space) → IsTrue a.tells → IsStanding v a → AgreesOutside (λ s. Contains (2 ∷ []) s) a.content m.content → (s : ℕ) → Contains (sectors_of_tree v.catalog.file) s → sector m.content s ≡ sector a.content s
catalog_elsewhere v a m tells was agrees s has =
    ⊎_elim (λ same. same) (λ header. absurd (header_apart v a a v.catalog (follows_none v.catalog.file a) was tells was.trees.catalog (subst (λ n. Contains (sectors_of_tree v.catalog.file) n) (only_two s header) has))) (agrees.each s)

-- what the edits of a first link leave behind it
pub left_behind_header : (rest : ℕ) (v w : Volume) (a m : Space) → HasEditsLeft 7 (to_put_header a + rest) v a → 4096 ≤ v.catalog.file.shape.node_size → (IsTrue a.tells → IsStanding v a) → PutsWithin (2 ∷ []) a m → a.spare ≤ m.spare + to_put_header a → w.catalog ≡ v.catalog
    → HasEditsLeft 7 rest w m
left_behind_header rest v w a m had large stands within spent same = record {
  told = λ tells_now.
      let tells : IsTrue a.tells = sym within.same.tells ∙ tells_now in
      let sectors = sectors_of_tree v.catalog.file in
      let nodes : node_in v.catalog.file m.content ≡ node_in v.catalog.file a.content =
      fun_ext (λ n. same_bytes a.content m.content (sectors_at sectors (v.catalog.file.shape.node_size / 512) n) (λ s c. catalog_elsewhere v a m tells (stands tells) (within.content tells) s (of_fork sectors (v.catalog.file.shape.node_size / 512) n s c))) in
      let it = had.told tells in
      subst (λ (t : Tree). Leaves 7 rest t.file m) (sym same) (
        omega (arith, it.0, spent),
        room_over 7 [] v.catalog.file v.catalog.file (less_by (to_put_header a + rest) a) (less_by rest m) large refl refl nodes within.still_put (omega (arith, spent)) it.1,
      );
}

-- a put of the header takes at most one sector, none where it was put before, and reads leave it at that
pub to_put_most : (a : Space) → to_put_header a ≤ 1
to_put_most a = by (a.put 2)
  where
    by : (x : Bool) → (if x then 0 else 1) ≤ 1
    by true = omega arith
    by false = omega arith

pub header_spent : (a b : Space) → a.spare ≤ b.spare + 1 → (IsTrue (a.put 2) → b.spare ≡ a.spare) → a.spare ≤ b.spare + to_put_header a
header_spent a b spent again = by (a.put 2) again
  where
    by : (x : Bool) → (x ≡ true → b.spare ≡ a.spare) → a.spare ≤ b.spare + (if x then 0 else 1)
    by true same = omega (arith, same refl)
    by false same = spent

to_put_still : (a b : Space) → (IsTrue (a.put 2) → IsTrue (b.put 2)) → to_put_header b ≤ to_put_header a
to_put_still a b so = by (a.put 2) (b.put 2) so
  where
    by : (x y : Bool) → (x ≡ true → y ≡ true) → (if y then 0 else 1) ≤ (if x then 0 else 1)
    by true y it = let is : ◌≡◌ {A = ℕ} (if y then 0 else 1) 0 = ap (λ b. if b then 0 else 1) (it refl) in omega (arith, is)
    by false true it = omega arith
    by false false it = omega arith

pub ready_still : (v w : Volume) (a b : Space) → (IsTrue a.tells → 4096 ≤ v.catalog.file.shape.node_size) → ReadsVolume v w a b → FirstLinkFits v a → FirstLinkFits w b
ready_still v w a b large reads had =
    let it = left_still v w a b 7 (to_put_header a + 3 * catalog_node v) large reads had in
    let same : catalog_node w ≡ catalog_node v = node_still v w a b reads in
    record {
      told = λ tells_now.
          let tells : IsTrue a.tells = sym reads.looks.same.tells ∙ tells_now in
          leaves_less 7 (to_put_header a + 3 * catalog_node v) (to_put_header b + 3 * catalog_node w) w.catalog.file b (omega (arith, large tells, ap (λ (s : TreeShape). s.node_size) reads.keeps.catalog.file.shape))
          (omega (arith, to_put_still a b (reads.looks.still_put 2), same)) (it.told tells_now);
    }

-- beside any other sectors
pub ready_beside : (beside : ℕ) (v w : Volume) (a b : Space) → (IsTrue a.tells → 4096 ≤ v.catalog.file.shape.node_size) → ReadsVolume v w a b → HasEditsLeft 7 (to_put_header a + beside) v a → HasEditsLeft 7 (to_put_header b + beside) w b
ready_beside beside v w a b large reads had =
    let it = left_still v w a b 7 (to_put_header a + beside) large reads had in
    record {
      told = λ tells_now.
          let tells : IsTrue a.tells = sym reads.looks.same.tells ∙ tells_now in
          leaves_less 7 (to_put_header a + beside) (to_put_header b + beside) w.catalog.file b (omega (arith, large tells, ap (λ (s : TreeShape). s.node_size) reads.keeps.catalog.file.shape)) (omega (arith, to_put_still a b (reads.looks.still_put 2))) (it.told tells_now);
    }

-- behind the private folder, whose making put the header
pub ready_behind : (v w : Volume) (b : Space) → (IsTrue b.tells → IsTrue (b.put 2)) → (IsTrue b.tells → catalog_node w ≡ catalog_node v) → HasEditsLeft 7 (3 * catalog_node v) w b → FirstLinkFits w b
ready_behind v w b put same =
    left_as w b 7 (3 * catalog_node v) (to_put_header b + 3 * catalog_node w) (λ tells. let none : ◌≡◌ {A = ℕ} (to_put_header b) 0 = ap (λ x. if x then 0 else 1) (put tells) in omega (arith, none, same tells))

-- ---- room for the first edits and for the updates behind all

pub room_left : (edits more beside : ℕ) (v : Volume) (a : Space) → HasEditsLeft (edits + more) beside v a → (IsTrue a.tells → 4096 ≤ v.catalog.file.shape.node_size) → (names : List ℕ) → IsTrue a.tells → EditRoom edits 516 (state_of names v.catalog.file a)
room_left edits more beside v a had large names =
    room_first edits more 516 (state_of names v.catalog.file a) (λ tells. room_over (edits + more) names v.catalog.file v.catalog.file (less_by beside a) a (large tells) refl refl refl (λ s put. put) (omega arith) (had.told tells).1)

pub left_edited : (first others beside : ℕ) (v w : Volume) (a b : Space) → (IsTrue a.tells → 4096 ≤ v.catalog.file.shape.node_size) → b.tells ≡ a.tells → TakesEdits first 516 (state_of [] v.catalog.file a) (state_of [] w.catalog.file b)
    → HasEditsLeft (first + others) beside v a → HasEditsLeft others beside w b
left_edited first others beside v w a b large same takes had = record {
  told = λ tells_now.
      let tells : IsTrue a.tells = sym same ∙ tells_now in
      left_then v.catalog.file w.catalog.file a b first 0 others beside beside (large tells) tells (edits_are first 516 (state_of [] v.catalog.file a) (state_of [] w.catalog.file b) takes) (omega arith) (had.told tells);
}

-- the same of edits that needn't all be made: a fault too leaves the sectors beside them
pub spare_edited : (first others beside : ℕ) (v w : Volume) (a b : Space) → (IsTrue a.tells → 4096 ≤ v.catalog.file.shape.node_size) → TakesAtMost first 516 (state_of [] v.catalog.file a) (state_of [] w.catalog.file b)
    → HasEditsLeft (first + others) beside v a → IsTrue a.tells → beside ≤ b.spare
spare_edited first others beside v w a b large takes had tells =
    spare_then v.catalog.file w.catalog.file a b first 0 others beside beside (large tells) tells (most_edits first 516 (state_of [] v.catalog.file a) (state_of [] w.catalog.file b) takes) (omega arith) (had.told tells)

pub updates_left : (many : ℕ) (v w : Volume) (b : Space) → catalog_node w ≡ catalog_node v → HasEditsLeft 0 (many * catalog_node v) w b → HasRoomToUpdates many w b
updates_left many v w b same had = record { told = λ tells. subst (λ n. many * n ≤ b.spare) (sym same) (had.told tells).0 }

pub first_update : (many : ℕ) (v : Volume) (a : Space) → HasRoomToUpdates (many + 1) v a → HasRoomToUpdate v a
first_update many v a had = record {
  told = λ tells. let whole : (many + 1) * catalog_node v ≡ many * catalog_node v + catalog_node v = omega arith in omega (arith, whole, had.told tells);
}

-- ---- a file that is put aside

pub room_aside : (beside : ℕ) (v : Volume) (a : Space) → HasEditsLeft 3 beside v a → 4096 ≤ v.catalog.file.shape.node_size → (names : List ℕ) → IsTrue a.tells → EditRoom 3 516 (state_of names v.catalog.file a)
room_aside beside v a had large names tells = room_over 3 names v.catalog.file v.catalog.file (less_by beside a) a large refl refl refl (λ s put. put) (omega arith) (had.told tells).1

same_aside : (beside : ℕ) (v w : Volume) (a b : Space) → HasEditsLeft 3 beside v a → TakesAtMost 3 516 (state_of [] v.catalog.file a) (state_of [] w.catalog.file b) → IsTrue a.tells → SameStore (state_of [] v.catalog.file a) (state_of [] w.catalog.file b)
same_aside beside v w a b had takes tells = let room = (had.told tells).1 in (takes tells room.deepest room.deep).same

pub node_aside : (beside : ℕ) (v w : Volume) (a b : Space) → HasEditsLeft 3 beside v a → 4096 ≤ v.catalog.file.shape.node_size → TakesAtMost 3 516 (state_of [] v.catalog.file a) (state_of [] w.catalog.file b) → IsTrue a.tells → catalog_node w ≡ catalog_node v
node_aside beside v w a b had large takes tells = ap (λ n. n / 512) (same_aside beside v w a b had takes tells).node_size

pub spent_aside : EditsTakeTheirLoad → (beside : ℕ) (v w : Volume) (a b : Space) → HasEditsLeft 3 beside v a → 4096 ≤ v.catalog.file.shape.node_size → TakesAtMost 3 516 (state_of [] v.catalog.file a) (state_of [] w.catalog.file b) → IsTrue a.tells
    → a.spare ≤ b.spare + tree_load catalog_key (catalog_cost v) 3 0
spent_aside law beside v w a b had large takes tells =
    let size : 3 * (516 + 8) ≤ v.catalog.file.shape.node_size - 16 = omega (arith, large) in
    let it = law catalog_key 3 0 0 (catalog_cost v) (state_of [] v.catalog.file a) (state_of [] w.catalog.file b) tells size (grown v [] a) (written v [] a) (same_aside beside v w a b had takes tells) takes in
    omega (arith, it)

pub updates_aside : (many : ℕ) (v w : Volume) (a b : Space) → 4096 ≤ v.catalog.file.shape.node_size → b.tells ≡ a.tells → w.catalog.file.shape.node_size ≡ v.catalog.file.shape.node_size → TakesEdits 3 516 (state_of [] v.catalog.file a) (state_of [] w.catalog.file b)
    → HasEditsLeft 3 (many * catalog_node v) v a → HasRoomToUpdates many w b
updates_aside many v w a b large same size takes had = updates_left many v w b (ap (λ n. n / 512) size) (left_edited 3 0 (many * catalog_node v) v w a b (λ tells. large) same takes had)

-- where the private folder is there, the room for a move is room for its edits beside two updates
three_records : (tree : TreeCost) → is_too_deep catalog_key tree 3 ≡ false → tree.records < 2 ^ 32
three_records tree is = omega (arith, ltb-false 4294967295 (tree.records + 3) (third_low (nat_le 8 tree.depth) (nat_lt 11 (depth_of tree + 1 + rises catalog_key tree 3)) (nat_lt 4294967295 (tree.records + 3)) is))

pub left_of_move : EditsHaveRoom → (v : Volume) (a : Space) → (IsTrue a.tells → 4096 ≤ v.catalog.file.shape.node_size) → HasRoomToMove v a → HasEditsLeft 3 (2 * catalog_node v) v a
left_of_move law v a large room = record {
  told = λ tells. let it = room.told tells in left_of_load law 3 (2 * catalog_node v) v a (large tells) tells (three_records (catalog_cost v) it.1) it.1 it.2 (omega (arith, it.0));
}
