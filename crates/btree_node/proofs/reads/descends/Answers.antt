use Rattle.std.proofs.Common.{◌≡◌, ◌*◌, ◌/◌, List, ℕ, [], length, get_or, ◌∙◌, ap, arith}
use Rattle.hx_bytes.specs.Field.{big_at}
use Rattle.btree_node.proofs.Descending.{descend_more}
use Rattle.btree_node.proofs.Pairs.{number_in}
use Rattle.btree_node.proofs.reads.descends.Goals as goal

pub loop-bytes-preserved : goal.loop-bytes-preserved
loop-bytes-preserved c =
    let table = c.args.table.now in
    let n : ℕ = c.loop-bytes.bytes-index in
    let number : c.read_be16-number.result ≡ big_at 2 table (2 * n) =
    c.read_be16-number.ensures
    ∙ ap (λ (l : List (List ℕ)). big_at 2 (get_or l n []) 0) c.as_chunks.ensures.front
    ∙ number_in (length table / 2) table n [] (omega (arith, c.loop-bytes-test.true, c.as_chunks.ensures.front_len)) in
    record {
      before = number ∙ ap (λ (m : ℕ). big_at 2 table (2 * m)) (omega arith);
      descends = descend_more table n c.read_be16-number.result c.loop-bytes.before c.loop-bytes.descends number c.loop-bytes.invariant.before c.loop-bytes.invariant.descends;
    }
