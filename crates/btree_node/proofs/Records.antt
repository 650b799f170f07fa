-- A record's bytes put into a node, in two parts.
use Rattle.std.proofs.Common.{◌≡◌, ℕ, ◌+◌, ◌-◌, ◌≤◌, List, ◌++◌, length, take, drop, get_or, refl, sym, ◌∙◌, ap, subst, arith, append_assoc}
use Rattle.std.proofs.lemmas.List.{length-take, length-append}
use Rattle.std.proofs.lemmas.List.Edits.{paste_all, paste-paste}
use Rattle.std.proofs.lemmas.Slice.{put_mid-paste}
use Rattle.std.proofs.Math.Seq.{drop-append_seam, take-append_seam}
use Rattle.std.specs.List.{slice_range}
use borrow.Rule.Slice.PartMut.{put_mid}
use lib.Seq.{paste}
use Rattle.hx_bytes.specs.Field.{put_at}
use Rattle.hx_bytes.proofs.Laws.{length-put_at}
use Rattle.btree_node.specs.Bytes.{MovesUp, OpensData}
use Rattle.btree_node.proofs.Places.{put-below, put-above}

pub put_two : (d key value ys zs : List ℕ) (at : ℕ) → at + (length key + length value) ≤ length d → ys ≡ key → zs ≡ value
    → put_mid (at + length key) (at + length key + length value - (at + length key)) (put_mid at (at + length key - at) d ys) zs ≡ put_at d at (key ++ value)
put_two d key value ys zs at fits first second =
    let one : put_mid at (at + length key - at) d ys ≡ paste d at key (length key) = put_mid-paste at (at + length key - at) d ys key (length key) first (omega arith) refl in
    let both : length key + length value ≡ length (key ++ value) = sym (length-append key value) in
    ap (λ (l : List ℕ). put_mid (at + length key) (at + length key + length value - (at + length key)) l zs) one
    ∙ put_mid-paste (at + length key) (at + length key + length value - (at + length key)) (paste d at key (length key)) zs value (length value) second (omega arith) refl
    ∙ paste-paste d at key value (length key) (length value) refl refl (omega arith)
    ∙ paste_all d at (key ++ value) (length key + length value) both
    ∙ ap (λ n. take at d ++ ((key ++ value) ++ drop (at + n) d)) both
    ∙ sym (append_assoc (take at d) (key ++ value) (drop (at + length (key ++ value)) d))

-- what is put stands there
pub put-here : (bytes new : List ℕ) (at : ℕ) → at ≤ length bytes → slice_range (put_at bytes at new) at (at + length new) ≡ new
put-here bytes new at within =
    let long : length (take at bytes) ≡ at = omega (arith, length-take at bytes) in
    let rest : List ℕ = drop (at + length new) bytes in
    let from : drop at (put_at bytes at new) ≡ new ++ rest = ap (λ (l : List ℕ). drop at l) (append_assoc (take at bytes) new rest) ∙ subst (λ k. drop k (take at bytes ++ (new ++ rest)) ≡ new ++ rest) long (drop-append_seam (take at bytes) (new ++ rest)) in
    ap (λ n. take n (drop at (put_at bytes at new))) (omega arith) ∙ ap (λ (l : List ℕ). take (length new) l) from ∙ take-append_seam new rest

pub opens_data : (at end by : ℕ) (bytes old up new : List ℕ) → at ≤ end → end + by ≤ length old → by ≡ length bytes → MovesUp at end by old up → new ≡ put_at up at bytes → OpensData at end bytes old new
opens_data at end by bytes old up new ordered within is moves puts =
    let long : length up ≡ length old = moves.size in
    let above : (k : ℕ) → at + length bytes ≤ k → get_or new k 0 ≡ get_or up k 0 = λ k high. ap (λ (l : List ℕ). get_or l k 0) puts ∙ put-above up bytes at k (omega arith) high in
    record {
      size = ap length puts ∙ length-put_at up bytes at (omega arith) ∙ long;
      put = ap (λ (l : List ℕ). slice_range l at (at + length bytes)) puts ∙ put-here up bytes at (omega arith);
      moved = λ k from to. above (k + length bytes) (omega arith) ∙ ap (λ n. get_or up (k + n) 0) (sym is) ∙ moves.moved k from to;
      below = λ k low. ap (λ (l : List ℕ). get_or l k 0) puts ∙ put-below up bytes at k (omega arith) low ∙ moves.below k low;
      above = λ k high. above k (omega arith) ∙ moves.above k (omega arith);
    }
