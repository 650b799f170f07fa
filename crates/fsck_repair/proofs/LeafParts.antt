-- A record of a leaf as the code cuts it, and the offsets of a leaf while its records are counted anew.
use Rattle.std.proofs.Common.{◌≡◌, ◌<◌, ◌≤◌, ℕ, ◌+◌, ◌-◌, List, ◌++◌, length, take, drop, sym, ◌∙◌, ap, subst, arith, IsTrue, length-drop}
use Rattle.std.specs.Prelude.{slice_range, Result, Ok, Err, OnOk}
use Rattle.std.proofs.lemmas.List.{length-take}
use borrow.Rule.Slice.PartMut.{put_mid}
use Rattle.hx_bytes.specs.Field.{big_at, put_at}
use Rattle.hx_bytes.proofs.Parts.{put_whole_part}
use Rattle.cat_records.specs.Records.{is_catalog}
use Rattle.btree_node.specs.Levels.{key_of, value_of, pair_of}
use Rattle.btree_node.specs.Node.{IsNode, offset, record_count}
use Rattle.btree_node.proofs.Items.{offsets_rise}
use Rattle.hfs_volume.specs.Records.{Placed, placed_of}
use Rattle.fsck_core.proofs.RecordBytes.{record_long}
use Rattle.volume_repair.specs.Recount.{value_recounted}
use Rattle.volume_repair.specs.Repair.{record_mended}
use Rattle.fsck_repair.specs.Leaf.{IsGoodItem, SameFrom}
use Rattle.fsck_repair.proofs.LeafLaws.{same_from, same_offset, same_slice}

-- ---- results

pub on_ok : {T E : Type 0} {P Q : Type 0} (r : Result T E) → (P → Q) → OnOk r P → OnOk r Q
on_ok (Ok x) goes has = goes has
on_ok (Err e) goes has = has

-- ---- a record behind its key

pub no_short : {X : Type 0} (item : List ℕ) → IsGoodItem item → length item < 2 → X
unfolding key_of
no_short item good short = absurd (omega (arith, good.key, short, length-take (big_at 2 item 0 + 2) item))

pub no_cut : {X : Type 0} (item : List ℕ) → IsGoodItem item → length item < big_at 2 item 0 + 2 → X
unfolding value_of
no_cut item good short = absurd (let long = record_long (drop (big_at 2 item 0 + 2) item) good.value in omega (arith, long, short, length-drop (big_at 2 item 0 + 2) item))

pub record_is : (records : List Placed) (item key value new : List ℕ) (end : ℕ) → end ≡ big_at 2 item 0 + 2 → key ≡ take end item → value ≡ drop end item → new ≡ value_recounted records (placed_of (key, value)) value
    → key ++ new ≡ key_of item ++ value_recounted records (placed_of (pair_of item)) (value_of item)
unfolding key_of value_of
record_is records item key value new end at front back is =
    ap (λ (l : List ℕ). key ++ l) is ∙ (λ i. (key_is i) ++ value_recounted records (placed_of (key_is i, value_is i)) (value_is i))
  where
    key_is : key ≡ take (big_at 2 item 0 + 2) item
    key_is = front ∙ ap (λ n. take n item) at

    value_is : value ≡ drop (big_at 2 item 0 + 2) item
    value_is = back ∙ ap (λ n. drop n item) at

pub good_key : (item key : List ℕ) (end : ℕ) → end ≡ big_at 2 item 0 + 2 → key ≡ take end item → IsGoodItem item → 8 ≤ length key
unfolding key_of
good_key item key end at front good = subst (λ (l : List ℕ). 8 ≤ length l) (sym (front ∙ ap (λ n. take n item) at)) good.key

pub good_value : (item value : List ℕ) (end : ℕ) → end ≡ big_at 2 item 0 + 2 → value ≡ drop end item → IsGoodItem item → IsTrue (is_catalog value)
unfolding value_of
good_value item value end at back good = subst (λ (l : List ℕ). IsTrue (is_catalog l)) (sym (back ∙ ap (λ n. drop n item) at)) good.value

-- ---- a record put into its leaf

module _ (node new part : List ℕ) (i from to : ℕ) (from_is : from ≡ offset node i) (to_is : to ≡ offset node (i + 1)) (order : offset node i ≤ offset node (i + 1)) (inside : offset node (i + 1) ≤ length node) (part_is : part ≡ slice_range node from to) (size : length new ≡ length part) where
  long : length new ≡ to - from
  long = omega (arith, size, ap (λ (l : List ℕ). length l) part_is, length-take (to - from) (drop from node), length-drop from node, from_is, to_is, order, inside)

  put_is : put_mid from (to - from) node new ≡ put_at node (offset node i) new
  put_is = put_whole_part node new from (to - from) long ∙ ap (λ n. put_at node n new) from_is

  item_is : part ≡ slice_range node (offset node i) (offset node (i + 1))
  item_is = part_is ∙ (λ j. slice_range node (from_is j) (to_is j))

  pub nth_good : IsGoodItem (slice_range node (offset node i) (offset node (i + 1))) → IsGoodItem part
  nth_good good = subst IsGoodItem (sym item_is) good

  pub nth_is : (records : List Placed) → new ≡ key_of part ++ value_recounted records (placed_of (pair_of part)) (value_of part) → put_mid from (to - from) node new ≡ record_mended records node i
  nth_is records is = put_is ∙ ap (put_at node (offset node i)) (is ∙ ap (λ (l : List ℕ). key_of l ++ value_recounted records (placed_of (pair_of l)) (value_of l)) item_is)

  pub nth_same : SameFrom (offset node (i + 1)) node (put_mid from (to - from) node new)
  nth_same = subst (SameFrom (offset node (i + 1)) node) (sym put_is) (same_from node new (offset node i) (offset node (i + 1)) (omega (arith, long, from_is, to_is, order)) inside)

-- ---- a leaf of which some records were counted anew

module _ (old new : List ℕ) (i : ℕ) (cut : IsNode old) (inside : i < record_count old) (same : SameFrom (offset old i) old new) where
  here_low : offset old i ≤ offset old (record_count old)
  here_low = offsets_rise old cut i (record_count old) (omega (arith, inside)) (omega arith)

  next_low : offset old (i + 1) ≤ offset old (record_count old)
  next_low = offsets_rise old cut (i + 1) (record_count old) (omega (arith, inside)) (omega arith)

  pub here_is : offset new i ≡ offset old i
  here_is = same_offset i (offset old i) old new same (omega (arith, here_low, cut.inside, inside))

  pub next_is : offset new (i + 1) ≡ offset old (i + 1)
  next_is = same_offset (i + 1) (offset old i) old new same (omega (arith, here_low, cut.inside, inside))

  pub in_order : offset new i ≤ offset new (i + 1)
  in_order = omega (arith, here_is, next_is, cut.rising i inside)

  pub ends_inside : offset new (i + 1) ≤ length new
  ends_inside = omega (arith, next_is, next_low, cut.inside, same.size)

  pub item_same : slice_range new (offset new i) (offset new (i + 1)) ≡ slice_range old (offset old i) (offset old (i + 1))
  item_same = (λ j. slice_range new (here_is j) (next_is j)) ∙ same_slice (offset old i) (offset old (i + 1)) (offset old i) old new same (omega arith)
