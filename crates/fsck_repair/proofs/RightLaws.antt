-- Records that say already what they count, and the leaves that have no others.
use Rattle.std.proofs.Common.{◌≡◌, ◌<◌, ◌≤◌, ℕ, ◌+◌, ◌-◌, ◌*◌, ◌/◌, true, false, if◌then◌else◌, List, length, take, drop, replicate, inl, sym, ◌∙◌, ap, subst, arith, ⊎_elim, IsTrue}
use Rattle.std.specs.Prelude.{Some, slice_get, slice_range}
use Rattle.std.proofs.lemmas.Bool.{cases_lt}
use Rattle.hx_bytes.specs.Field.{big_at}
use Rattle.sector_disk.specs.Lists.{Content, sector}
use Rattle.btree_node.specs.Levels.{key_of, value_of, pair_of}
use Rattle.btree_node.specs.Node.{offset}
use Rattle.hfs_volume.specs.Content.{block_bytes, node_of_fork}
use Rattle.hfs_volume.specs.Links.{is_shared_file, reference_of}
use Rattle.hfs_volume.specs.Records.{Placed, placed_of}
use Rattle.volume_repair.specs.Recount.{file_recounted, value_recounted}
use Rattle.volume_repair.specs.Repair.{sector_mended, leaf_mended}
use Rattle.volume_repair.proofs.Slices.{piece, taken_get, dropped_get, whole_sector}
use Rattle.fsck_scan.specs.Read.{IsWhole}
use Rattle.fsck_repair.specs.Changing.{Notes}
use Rattle.fsck_repair.specs.Leaf.{IsOfNode, IsPlainAt, LiesInside, MendsNode, WasRead}
use Rattle.fsck_repair.specs.declared.mend.Change.{Change}
use Rattle.fsck_repair.proofs.LeafLaws.{file_value}
use Rattle.fsck_repair.proofs.NoteLaws.{notes_none}

-- a file with one name counts nothing
pub one_name : (records : List Placed) (key value : List ℕ) → big_at 2 value 0 ≡ 2 → is_shared_file records (reference_of (placed_of (key, value))) (placed_of (key, value)) ≡ false → value_recounted records (placed_of (key, value)) value ≡ value
one_name records key value two none =
    sym (file_value records key value value two (sym (ap (λ b. if b then file_recounted records (placed_of (key, value)) value else value) none)))

-- a record and its value
pub record_right : (records : List Placed) (item key value : List ℕ) (end : ℕ) → end ≡ big_at 2 item 0 + 2 → key ≡ take end item → value ≡ drop end item → value_recounted records (placed_of (key, value)) value ≡ value
    → value_recounted records (placed_of (pair_of item)) (value_of item) ≡ value_of item
unfolding key_of value_of
record_right records item key value end at front back right = sym (λ i. value_recounted records (placed_of (key_is i, value_is i)) (value_is i)) ∙ right ∙ value_is
  where
    key_is : key ≡ take (big_at 2 item 0 + 2) item
    key_is = front ∙ ap (λ n. take n item) at

    value_is : value ≡ drop (big_at 2 item 0 + 2) item
    value_is = back ∙ ap (λ n. drop n item) at

-- the i-th record of a leaf says what it counts
abbrev pub IsRightAt : List Placed → List ℕ → ℕ → Type 0
IsRightAt records node i = value_recounted records (placed_of (pair_of (slice_range node (offset node i) (offset node (i + 1))))) (value_of (slice_range node (offset node i) (offset node (i + 1)))) ≡ value_of (slice_range node (offset node i) (offset node (i + 1)))

-- one record more
pub right_more : (records : List Placed) (node item : List ℕ) (i : ℕ) → ((k : ℕ) → k < i → IsRightAt records node k) → item ≡ slice_range node (offset node i) (offset node (i + 1))
    → value_recounted records (placed_of (pair_of item)) (value_of item) ≡ value_of item → (k : ℕ) → k < i + 1 → IsRightAt records node k
right_more records node item i before is right k less = ⊎_elim
    (λ (early : k < i). before k early)
    (λ (last : i ≤ k). subst (IsRightAt records node) {x = i} (omega (arith, last, less)) (subst (λ (l : List ℕ). value_recounted records (placed_of (pair_of l)) (value_of l) ≡ value_of l) is right))
    (cases_lt k i)

-- a sector of a node that was read is its part of the node
part_is : (content : Content) (limit size n : ℕ) (sectors : List ℕ) (k at : ℕ) → k < size / 512 → slice_get sectors (n * (size / 512) + k) ≡ Some at → at < limit → length (sector content at) ≡ 512
    → take 512 (drop (512 * k) (node_of_fork content limit sectors size n)) ≡ sector content at
unfolding node_of_fork
part_is content limit size n sectors k at inside there below long =
    let per : ℕ = size / 512 in
    let part : List ℕ = take per (drop (n * per) sectors) in
    piece content limit part (replicate (size - length (block_bytes content limit part)) 0) k at (taken_get per k (drop (n * per) sectors) inside ∙ dropped_get (n * per) k sectors ∙ there) ∙ whole_sector content limit at below long

-- nothing changes in a leaf whose records say what they count
pub right_noted : (content : Content) (limit n : ℕ) (sectors bytes : List ℕ) (records : List Placed) (changes : List Change) → WasRead content limit sectors n bytes → LiesInside sectors (length bytes / 512) limit n → leaf_mended records bytes ≡ bytes
    → MendsNode content sectors (length bytes / 512) n (leaf_mended records bytes) → Notes content (IsOfNode content sectors (length bytes / 512) n) changes changes
right_noted content limit n sectors bytes records changes was lies right mends =
    notes_none content (IsOfNode content sectors (length bytes / 512) n) changes (λ at of inside. inl (stays at of.0 of.1 of.2 inside))
  where
    stays : (at k : ℕ) → k < length bytes / 512 → IsPlainAt content sectors (n * (length bytes / 512) + k) at → at < length content → sector_mended content at ≡ sector content at
    stays at k less there inside =
        let below = lies k at less there.0 in
        mends k at less there
        ∙ ap (λ (l : List ℕ). take 512 (drop (512 * k) l)) (right ∙ was.bytes_are)
        ∙ part_is content limit (length bytes) n sectors k at less there.0 below (was.whole k less at there.0 below inside)
