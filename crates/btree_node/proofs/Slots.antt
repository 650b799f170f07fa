-- The offsets of a node after one of them came or went.
use Rattle.std.proofs.Common.{◌≡◌, ℕ, ◌+◌, ◌-◌, ◌*◌, ◌<◌, ◌≤◌, List, length, get_or, inl, inr, sym, ◌∙◌, ap, arith}
use Rattle.std.proofs.lemmas.Bool.{cases_lt}
use Rattle.hx_bytes.specs.Field.{put_at, big_at, big}
use Rattle.hx_bytes.specs.declared.fields.Order.TheVariants.{Big}
use Rattle.hx_bytes.proofs.Laws.{length-number_bytes, length-put_at}
use Rattle.btree_node.specs.Node.{offset, record_count}
use Rattle.btree_node.specs.Bytes.{MovesUp, MovesDown, SetsOffset, ChangesOffsets, SetsCount, OpensSlot, ClosesSlot}
use Rattle.btree_node.proofs.Places.{same_two, number-put, put-below, put-above}
use Rattle.btree_node.proofs.Offsets.{offset_at, same_offset}

pub sets_count : (old new : List ℕ) (n : ℕ) → 512 ≤ length old → n < 65536 → new ≡ put_at old 10 (big 2 n) → SetsCount n old new
unfolding record_count
sets_count old new n size small is =
    let two : length (big 2 n) ≡ 2 = length-number_bytes Big 2 n in
    record {
      size = ap length is ∙ length-put_at old (big 2 n) 10 (omega arith);
      count = ap (λ l. big_at 2 l 10) is ∙ number-put 2 n 10 old (omega arith) small;
      kept = λ k first second. ap (λ l. get_or l k 0) is ∙ elim (cases_lt k 10) [
        | inl low ↦ put-below old (big 2 n) 10 k (omega arith) low
        | inr high ↦ put-above old (big 2 n) 10 k (omega arith) (omega arith)
      ];
    }

-- the count stands below every offset
pub counted_offset : (n j : ℕ) (old new : List ℕ) → SetsCount n old new → 12 + 2 * (j + 1) ≤ length old → offset new j ≡ offset old j
counted_offset n j old new sets low = same_offset old new j sets.size (omega arith) (λ k here. sets.kept k (omega arith) (omega arith))

-- where an offset stands two bytes higher, it is the one before
up_one : (at end i j : ℕ) (old new : List ℕ) → MovesUp at end 2 old new → at + 2 * (j + 2) ≤ length old → length old < end + 2 * (j + 2) → 2 * (j + 2) ≤ length old → end ≤ length old → end + 2 * (i + 1) ≡ length old → i ≤ j → offset new j ≡ offset old (j + 1)
up_one at end i j old new moves from below within fits is above =
    let q : ℕ = length old - 2 * (j + 2) in
    let long : length new ≡ length old = moves.size in
    let first : get_or new (q + 2) 0 ≡ get_or old q 0 = moves.moved q (omega arith) (omega arith) in
    let second : get_or new (q + 2 + 1) 0 ≡ get_or old (q + 1) 0 = ap (λ k. get_or new k 0) (omega arith) ∙ moves.moved (q + 1) (omega arith) (omega arith) in
    offset_at new j (q + 2) (omega arith) ∙ same_two old new q (q + 2) first second ∙ sym (offset_at old (j + 1) q (omega arith))

down_one : (at end i j : ℕ) (old new : List ℕ) → MovesDown at end 2 old new → at + 2 * (j + 2) ≤ length old → end + 2 * i ≡ length old → 2 * (j + 2) ≤ length old → i ≤ j → offset new (j + 1) ≡ offset old j
down_one at end i j old new moves from is within above =
    let q : ℕ = length old - 2 * (j + 2) in
    let long : length new ≡ length old = moves.size in
    let first : get_or new q 0 ≡ get_or old (q + 2) 0 = moves.moved q (omega arith) (omega arith) in
    let second : get_or new (q + 1) 0 ≡ get_or old (q + 2 + 1) 0 = moves.moved (q + 1) (omega arith) (omega arith) ∙ ap (λ k. get_or old k 0) (omega arith) in
    offset_at new (j + 1) q (omega arith) ∙ same_two old new (q + 2) q first second ∙ sym (offset_at old j (q + 2) (omega arith))

-- after the bytes of the offsets behind `i` moved up over it
pub slots_up : (i n : ℕ) (old new : List ℕ) → i < n → 2 * (n + 1) ≤ length old → MovesUp (length old - 2 * (n + 1)) (length old - 2 * (i + 1)) 2 old new → (j : ℕ) → i ≤ j → j < n → offset new j ≡ offset old (j + 1)
slots_up i n old new inside within moves j from to =
    up_one (length old - 2 * (n + 1)) (length old - 2 * (i + 1)) i j old new moves (omega arith) (omega arith) (omega arith) (omega arith) (omega arith) from

pub slots_up_front : (i n : ℕ) (old new : List ℕ) → i < n → 2 * (n + 1) ≤ length old → MovesUp (length old - 2 * (n + 1)) (length old - 2 * (i + 1)) 2 old new → (j : ℕ) → j < i → offset new j ≡ offset old j
slots_up_front i n old new inside within moves j before = same_offset old new j moves.size (omega arith) (λ k here. moves.above k (omega arith))

-- after the bytes of the offsets from `i` on moved down by one offset
pub slots_down : (i n : ℕ) (old new : List ℕ) → i ≤ n → 2 * (n + 2) ≤ length old → MovesDown (length old - 2 * (n + 2)) (length old - 2 * i) 2 old new → (j : ℕ) → i ≤ j → j ≤ n → offset new (j + 1) ≡ offset old j
slots_down i n old new inside within moves j from to =
    down_one (length old - 2 * (n + 2)) (length old - 2 * i) i j old new moves (omega arith) (omega arith) (omega arith) from

pub slots_down_front : (i n : ℕ) (old new : List ℕ) → i ≤ n → 2 * (n + 2) ≤ length old → MovesDown (length old - 2 * (n + 2)) (length old - 2 * i) 2 old new → (j : ℕ) → j < i → offset new j ≡ offset old j
slots_down_front i n old new inside within moves j before = same_offset old new j moves.size (omega arith) (λ k here. moves.above k (omega arith))

pub closes_slot : (i n len : ℕ) (old up lower new : List ℕ) → i < n → 14 + 2 * (n + 1) ≤ length old
    → MovesUp (length old - 2 * (n + 1)) (length old - 2 * (i + 1)) 2 old up
    → ChangesOffsets i n (λ a b. b + len ≡ a) up lower → SetsCount (n - 1) lower new → ClosesSlot i n len old new
closes_slot i n len old up lower new inside room moves lowers counts =
    let long : length up ≡ length old = moves.size in
    let same : length lower ≡ length up = lowers.size in
    record {
      size = counts.size ∙ same ∙ long;
      count = omega (arith, counts.count);
      before = λ j front. counted_offset (n - 1) j lower new counts (omega arith) ∙ lowers.kept j front ∙ slots_up_front i n old up inside (omega arith) moves j front;
      behind = λ j from to. omega (arith, counted_offset (n - 1) j lower new counts (omega arith), lowers.changed j from to, slots_up i n old up inside (omega arith) moves j from to);
      below = λ k low first second. counts.kept k first second ∙ lowers.below k (omega arith) ∙ moves.below k (omega arith);
    }

pub opens_slot : (i n at len : ℕ) (old down set raised new : List ℕ) → i ≤ n → 14 + 2 * (n + 2) ≤ length old
    → MovesDown (length old - 2 * (n + 2)) (length old - 2 * i) 2 old down → SetsOffset i at down set
    → ChangesOffsets (i + 1) (n + 2) (λ a b. b ≡ a + len) set raised → SetsCount (n + 1) raised new → OpensSlot i n at len old new
opens_slot i n at len old down set raised new inside room moves sets raises counts =
    let long : length down ≡ length old = moves.size in
    let still : length set ≡ length down = sets.size in
    let same : length raised ≡ length set = raises.size in
    let counted : (j : ℕ) → j ≤ n + 1 → offset new j ≡ offset raised j = λ j low. counted_offset (n + 1) j raised new counts (omega arith) in
    record {
      size = counts.size ∙ same ∙ still ∙ long;
      count = counts.count;
      before = λ j front. counted j (omega arith) ∙ raises.kept j (omega arith) ∙ sets.others j (omega arith) (omega arith) ∙ slots_down_front i n old down inside (omega arith) moves j front;
      here = counted i (omega arith) ∙ raises.kept i (omega arith) ∙ sets.here;
      behind = λ j from to. omega (arith, counted (j + 1) (omega arith), raises.changed (j + 1) (omega arith) (omega arith), sets.others (j + 1) (omega arith) (omega arith), slots_down i n old down inside (omega arith) moves j from to);
      below = λ k low first second. counts.kept k first second ∙ raises.below k (omega arith) ∙ sets.below k (omega arith) ∙ moves.below k (omega arith);
    }
