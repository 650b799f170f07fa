-- Bytes of a node moved block by block.
use Rattle.std.proofs.Common.{◌≡◌, ℕ, ◌+◌, ◌-◌, ◌<◌, ◌≤◌, List, length, get_or, inl, inr, sym, ◌∙◌, ap, arith}
use Rattle.std.proofs.lemmas.Bool.{cases_lt}
use Rattle.std.proofs.lemmas.List.Edits.{length-between, get_or-between}
use Rattle.std.specs.List.{slice_range}
use Rattle.hx_bytes.specs.Field.{put_at}
use Rattle.hx_bytes.proofs.Laws.{length-put_at}
use Rattle.btree_node.specs.Bytes.{MovesUp}
use Rattle.btree_node.proofs.Places.{put-below, put-above}
use Rattle.btree_node.proofs.Records.{put-here}

-- a block put to another place
module _ (mid new : List ℕ) (from to len : ℕ) (source : from + len ≤ length mid) (place : to + len ≤ length mid)
    (puts : new ≡ put_at mid to (slice_range mid from (from + len)))
  where
    block_long : length (slice_range mid from (from + len)) ≡ len
    block_long = omega (arith, length-between mid from (from + len) source)

    pub block_size : length new ≡ length mid
    block_size = ap length puts ∙ length-put_at mid (slice_range mid from (from + len)) to (omega (arith, block_long))

    pub block_below : (k : ℕ) → k < to → get_or new k 0 ≡ get_or mid k 0
    block_below k low = ap (λ (l : List ℕ). get_or l k 0) puts ∙ put-below mid (slice_range mid from (from + len)) to k (omega arith) low

    pub block_above : (k : ℕ) → to + len ≤ k → get_or new k 0 ≡ get_or mid k 0
    block_above k high = ap (λ (l : List ℕ). get_or l k 0) puts ∙ put-above mid (slice_range mid from (from + len)) to k (omega (arith, block_long)) (omega (arith, block_long))

    pub block_here : (k : ℕ) → k < len → get_or new (to + k) 0 ≡ get_or mid (from + k) 0
    block_here k low =
        let bytes : List ℕ = slice_range mid from (from + len) in
        let size = block_size in
        let is : slice_range new to (to + length bytes) ≡ bytes = ap (λ (l : List ℕ). slice_range l to (to + length bytes)) puts ∙ put-here mid bytes to (omega arith) in
        sym (get_or-between new to (to + length bytes) k 0 (omega (arith, block_long)))
        ∙ ap (λ (l : List ℕ). get_or l k 0) is
        ∙ get_or-between mid from (from + len) k 0 (omega arith)

-- one block more, below those that were moved
pub moved_up_more : (from end by len : ℕ) (old mid new : List ℕ) → end + by ≤ length old → from + len ≤ end → MovesUp (from + len) end by old mid
    → new ≡ put_at mid (from + by) (slice_range mid from (from + len)) → MovesUp from end by old new
moved_up_more from end by len old mid new within high moves puts =
    let long : length mid ≡ length old = moves.size in
    let source : from + len ≤ length mid = omega arith in
    let place : from + by + len ≤ length mid = omega arith in
    record {
      size = block_size mid new from (from + by) len source place puts ∙ long;
      moved = λ k low top. elim (cases_lt k (from + len)) [
        | inl here ↦
            ap (λ (n : ℕ). get_or new n 0) (omega arith)
            ∙ block_here mid new from (from + by) len source place puts (k - from) (omega arith)
            ∙ ap (λ (n : ℕ). get_or mid n 0) (omega arith)
            ∙ moves.below k here
        | inr past ↦ block_above mid new from (from + by) len source place puts (k + by) (omega arith) ∙ moves.moved k past top
      ];
      below = λ k low. block_below mid new from (from + by) len source place puts k (omega arith) ∙ moves.below k (omega arith);
      above = λ k top. block_above mid new from (from + by) len source place puts k (omega arith) ∙ moves.above k top;
    }
