use Rattle.std.proofs.Common.{◌<◌, ◌≤◌, ◌*◌, arith, ⊎_elim}
use Rattle.std.proofs.lemmas.Bool.{cases_lt}
use Rattle.fsck_scan.proofs.scan.judge_map.Goals as goal

pub returns-clause-fits : goal.returns-clause-fits
returns-clause-fits c few k less = ⊎_elim
    (λ (seen : k < 8 * c.bytes_for_nodes-count.result). c.loop-n.invariant few k (omega (arith, seen, c.loop-n-test.false)))
    (λ (behind : 8 * c.bytes_for_nodes-count.result ≤ k). c.bytes_for_nodes-count.ensures.rest k behind less)
    (cases_lt k (8 * c.bytes_for_nodes-count.result))
