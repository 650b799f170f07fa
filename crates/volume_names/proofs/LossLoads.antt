-- What `rm` takes of the room for puts, and what it leaves.
use Rattle.std.proofs.Common.{◌≡◌, ◌<◌, ◌≤◌, ℕ, ◌+◌, ◌-◌, ◌*◌, ◌^◌, Bool, true, false, inl, inr, sym, ◌∙◌, ap, subst, arith}
use Rattle.std.specs.Prelude.{IsTrue, Option, is_some, nat_le, nat_lt}
use Rattle.std.specs.List.{Contains}
use Rattle.std.proofs.lemmas.Bool.{ltb-false}
use Rattle.sector_disk.specs.Lists.{Content}
use Rattle.sector_disk.specs.Space.{Space}
use Rattle.btree_node.specs.declared.store.TreeShape.{TreeShape}
use Rattle.hfs_volume.specs.Content.{VolumeState, records_of, volume_of}
use Rattle.hfs_volume.specs.Cost.{catalog_key, depth_of, growth, is_too_deep, rises, tree_load}
use Rattle.hfs_volume.specs.Records.{entries_of}
use Rattle.hfs_volume.specs.Weight.{cost_of_tree}
use Rattle.hfs_volume.specs.declared.cost.TreeCost.{TreeCost}
use Rattle.tree_weights.specs.Weights.{EditsHaveRoom}
use Rattle.volume_base.specs.Changing.{catalog_node}
use Rattle.volume_base.specs.Looking.{ReadsVolume}
use Rattle.volume_base.specs.Making.{catalog_cost}
use Rattle.volume_base.specs.Unlinking.{HasRoomToUnlinkLast}
use Rattle.volume_base.specs.declared.volume.Volume.{Volume}
use Rattle.volume_base.proofs.FoundEntry.{node_still}
use Rattle.volume_base.proofs.MakeRoom.{third_low}
use Rattle.volume_base.proofs.Still.{lists_still}
use Rattle.volume_names.specs.EditsLeft.{HasLoadFor, LeavesBehind}
use Rattle.volume_names.specs.LossLoads.{AsLinkLost, AsLost, LeavesLoss, LeavesOthers, LeavesShared, NoneOr, SpendsFor, SpendsLoss, SpendsShared}
use Rattle.volume_names.proofs.EditsLeft.{left_fewer, left_now}

-- what five edits leave beside them and the header's sector
abbrev pub rest_last : Volume → Space → ℕ
rest_last v a = a.spare - (1 + tree_load catalog_key (catalog_cost v) 5 0)

few_records : (tree : TreeCost) → is_too_deep catalog_key tree 5 ≡ false → tree.records < 2 ^ 32
few_records tree is = omega (arith, ltb-false 4294967295 (tree.records + 5) (third_low (nat_le 8 tree.depth) (nat_lt 11 (depth_of tree + 1 + rises catalog_key tree 5)) (nat_lt 4294967295 (tree.records + 5)) is))

pub load_last : (v : Volume) (a : Space) → HasRoomToUnlinkLast v a → HasLoadFor 5 (1 + rest_last v a) v a
load_last v a room = record {
  shallow = λ tells. (room.told tells).1;
  records = λ tells. few_records (catalog_cost v) (room.told tells).1;
  grown = λ tells. (room.told tells).2;
  load = λ tells. omega (arith, (room.told tells).0);
}

-- what five edits leave beside them, the header's sector and a node, where the private folder is made
abbrev pub rest_aside : Volume → Space → ℕ
rest_aside v a = a.spare - (1 + catalog_node v + tree_load catalog_key (catalog_cost v) 5 0)

pub load_aside : (v : Volume) (a : Space) → HasLoadFor 5 (1 + (catalog_node v + 2 * catalog_node v)) v a → HasLoadFor 5 (1 + (catalog_node v + rest_aside v a)) v a
load_aside v a load = record { shallow = load.shallow; records = load.records; grown = load.grown; load = λ tells. omega (arith, load.load tells) }

-- ---- where nothing may have been put

pub none_so : (A B : Type 0) (before after : Space) → NoneOr A before after → (A → B) → NoneOr B before after
none_so A B before after it so = elim it [
  | inl none ↦ inl none
  | inr spends ↦ inr (so spends)
]

-- ---- behind reads

pub none_still : (A B : Type 0) (v w : Volume) (a b c : Space) → ReadsVolume v w a b → NoneOr A b c → (A → B) → NoneOr B a c
none_still A B v w a b c reads it so = elim it [
  | inl none ↦ inl (omega (arith, none, reads.looks.spare))
  | inr spends ↦ inr (so spends)
]

pub spends_for_still : (edits : ℕ) (v w : Volume) (a b c : Space) → ReadsVolume v w a b → IsTrue a.tells → SpendsFor edits w b c → SpendsFor edits v a c
spends_for_still edits v w a b c reads tells it =
    let facts : catalog_cost w ≡ catalog_cost v = ap (λ (l : VolumeState). cost_of_tree l.catalog_tree 0) (lists_still v w a b reads tells) in
    record {
      grown = (λ i. growth (sym reads.keeps.header i).block_size catalog_key (sym facts i) edits) ∙ it.grown;
      spent = omega (arith, it.spent, reads.looks.spare, node_still v w a b reads, ap (λ (t : TreeCost). tree_load catalog_key t edits 0) facts);
    }

-- ---- by what a name that goes is

pub as_link_still : (holds others : ℕ → Type 0) (id : ℕ) (a b : Content) → b ≡ a → ((edits : ℕ) → holds edits → others edits) → AsLinkLost holds id b → AsLinkLost others id a
as_link_still holds others id a b same so it = record {
  file = it.file;
  stands = subst (λ (k : Content). Contains (entries_of (records_of (volume_of k))) it.file) same it.stands;
  number = it.number;
  spends = elim it.spends [
    | inl two ↦ inl (two.0, so 2 two.1)
    | inr five ↦ inr (five.0, so 5 five.1)
  ];
}

pub as_lost_still : (holds others : ℕ → Type 0) (link : Bool) (id : ℕ) (v w : Volume) (a b : Content) → w.private ≡ v.private → b ≡ a → ((edits : ℕ) → holds edits → others edits) → AsLost holds link id w b → AsLost others link id v a
as_lost_still holds others true id v w a b private same so it = as_link_still holds others id a b same so it
as_lost_still holds others false id v w a b private same so it = elim it [
  | inl three ↦ inl (ap (λ (o : Option ℕ). is_some o) (sym private) ∙ three.0, so 3 three.1)
  | inr five ↦ inr (sym private ∙ five.0, so 5 five.1)
]

pub shared_still : (id : ℕ) (v w : Volume) (a b c : Space) → ReadsVolume v w a b → IsTrue a.tells → SpendsShared id w b c → SpendsShared id v a c
shared_still id v w a b c reads tells = as_link_still (λ edits. SpendsFor edits w b c) (λ edits. SpendsFor edits v a c) id a.content b.content (reads.looks.content tells) (λ edits. spends_for_still edits v w a b c reads tells)

pub loss_still : (link : Bool) (id : ℕ) (v w : Volume) (a b c : Space) → ReadsVolume v w a b → IsTrue a.tells → SpendsLoss link id w b c → SpendsLoss link id v a c
loss_still link id v w a b c reads tells =
    as_lost_still (λ edits. SpendsFor edits w b c) (λ edits. SpendsFor edits v a c) link id v w a.content b.content reads.keeps.private (reads.looks.content tells) (λ edits. spends_for_still edits v w a b c reads tells)

-- ---- what is left behind reads

load_still : (edits beside rest : ℕ) (v w : Volume) (a b : Space) → ReadsVolume v w a b → IsTrue a.tells → rest ≤ beside → HasLoadFor edits beside v a → HasLoadFor edits rest w b
load_still edits beside rest v w a b reads tells less load =
    let facts : catalog_cost w ≡ catalog_cost v = ap (λ (l : VolumeState). cost_of_tree l.catalog_tree 0) (lists_still v w a b reads tells) in
    record {
      shallow = λ told. (λ i. is_too_deep catalog_key (facts i) edits) ∙ load.shallow tells;
      records = λ told. subst (λ (s : TreeShape). s.leaf_records < 2 ^ 32) (sym reads.keeps.catalog.file.shape) (load.records tells);
      grown = λ told. (λ i. growth (reads.keeps.header i).block_size catalog_key (facts i) edits) ∙ load.grown tells;
      load = λ told. omega (arith, load.load tells, less, reads.looks.spare, ap (λ (t : TreeCost). tree_load catalog_key t edits 0) facts);
    }

pub leaves_for_still : (edits : ℕ) (v w x : Volume) (a b c : Space) → ReadsVolume v w a b → IsTrue a.tells → LeavesOthers edits w b x c → LeavesOthers edits v a x c
leaves_for_still edits v w x a b c reads tells it = (
  it.0 ∙ node_still v w a b reads,
  λ others beside load. it.1 others beside (load_still (edits + others) (1 + (3 * catalog_node v + beside)) (1 + (3 * catalog_node w + beside)) v w a b reads tells (omega (arith, node_still v w a b reads)) load),
)

pub leaves_shared_still : (id : ℕ) (v w x : Volume) (a b c : Space) → ReadsVolume v w a b → IsTrue a.tells → LeavesShared id w b x c → LeavesShared id v a x c
leaves_shared_still id v w x a b c reads tells =
    as_link_still (λ edits. LeavesOthers edits w b x c) (λ edits. LeavesOthers edits v a x c) id a.content b.content (reads.looks.content tells) (λ edits. leaves_for_still edits v w x a b c reads tells)

pub leaves_loss_still : (link : Bool) (id : ℕ) (v w x : Volume) (a b c : Space) → ReadsVolume v w a b → IsTrue a.tells → LeavesLoss link id w b x c → LeavesLoss link id v a x c
leaves_loss_still link id v w x a b c reads tells =
    as_lost_still (λ edits. LeavesOthers edits w b x c) (λ edits. LeavesOthers edits v a x c) link id v w a.content b.content reads.keeps.private (reads.looks.content tells) (λ edits. leaves_for_still edits v w x a b c reads tells)

-- the load of five edits and others, of which two come first
pub load_two : (others beside rest : ℕ) (v : Volume) (a : Space) → rest ≤ beside → HasLoadFor (5 + others) beside v a → HasLoadFor (2 + (3 + others)) rest v a
load_two others beside rest v a less load =
    let same : 5 + others ≡ 2 + (3 + others) = omega arith in
    subst (λ n. HasLoadFor n rest v a) same (record { shallow = load.shallow; records = load.records; grown = load.grown; load = λ tells. omega (arith, load.load tells, less) })

-- what edits of a load leave behind three of them and two updates
pub leaves_of_three : EditsHaveRoom → (v w : Volume) (a b : Space) → 4096 ≤ v.catalog.file.shape.node_size → LeavesBehind 3 2 v a w b → LeavesOthers 3 v a w b
leaves_of_three law v w a b large left = (
  left.0,
  λ others beside load. left.1 others beside (left_fewer v a (3 + others) (1 + (3 * catalog_node v + beside)) (2 * catalog_node v + beside) (λ tells. large) (omega arith) (left_now law (3 + others) (1 + (3 * catalog_node v + beside)) v a (λ tells. large) load)),
)
