-- Offsets of a node that are set, one by one.
use Rattle.std.proofs.Common.{◌≡◌, ◌⊎◌, ℕ, ◌+◌, ◌-◌, ◌*◌, ◌<◌, ◌≤◌, List, length, get_or, inl, inr, sym, ◌∙◌, ap, arith}
use Rattle.std.proofs.lemmas.Bool.{cases_lt}
use Rattle.hx_bytes.specs.Field.{put_at, big_at, big}
use Rattle.hx_bytes.specs.declared.fields.Order.TheVariants.{Big}
use Rattle.hx_bytes.proofs.Laws.{length-number_bytes, length-put_at}
use Rattle.btree_node.specs.Node.{offset}
use Rattle.btree_node.specs.Bytes.{SetsOffset}
use Rattle.btree_node.proofs.Places.{same_two, number-put, put-below, put-above}

-- an offset is where its two bytes are
pub offset_at : (node : List ℕ) (i at : ℕ) → at + 2 * (i + 1) ≡ length node → offset node i ≡ big_at 2 node at
unfolding offset
offset_at node i at e = ap (λ k. big_at 2 node k) (omega arith)

-- nodes of one size whose bytes agree at an offset have it both
pub same_offset : (old new : List ℕ) (i : ℕ) → length new ≡ length old → 2 * (i + 1) ≤ length old → ((k : ℕ) → k + 2 * (i + 1) ≡ length old ⊎ (k + 2 * (i + 1) ≡ length old + 1) → get_or new k 0 ≡ get_or old k 0) → offset new i ≡ offset old i
same_offset old new i long within same =
    let at : ℕ = length old - 2 * (i + 1) in
    let is : at + 2 * (i + 1) ≡ length old = omega arith in
    offset_at new i at (is ∙ sym long) ∙ same_two old new at at (same at (inl is)) (same (at + 1) (inr (omega arith))) ∙ sym (offset_at old i at is)

pub sets_offset : (old new : List ℕ) (i x : ℕ) → 2 * (i + 1) ≤ length old → x < 65536 → new ≡ put_at old (length old - 2 * (i + 1)) (big 2 x) → SetsOffset i x old new
sets_offset old new i x within small is =
    let at : ℕ = length old - 2 * (i + 1) in
    let two : length (big 2 x) ≡ 2 = length-number_bytes Big 2 x in
    let long : length new ≡ length old = ap length is ∙ length-put_at old (big 2 x) at (omega arith) in
    let below : (k : ℕ) → k + 2 * (i + 1) < length old → get_or new k 0 ≡ get_or old k 0 = λ k low. ap (λ l. get_or l k 0) is ∙ put-below old (big 2 x) at k (omega arith) (omega arith) in
    let above : (k : ℕ) → at + 2 ≤ k → get_or new k 0 ≡ get_or old k 0 = λ k high. ap (λ l. get_or l k 0) is ∙ put-above old (big 2 x) at k (omega arith) (omega arith) in
    record {
      size = long;
      here = offset_at new i at (omega arith) ∙ ap (λ l. big_at 2 l at) is ∙ number-put 2 x at old (omega arith) small;
      others = λ j other inside. same_offset old new j long inside (λ k here. elim (cases_lt k at) [
        | inl low ↦ below k (omega arith)
        | inr high ↦ above k (omega arith)
      ]);
      below = below;
    }
