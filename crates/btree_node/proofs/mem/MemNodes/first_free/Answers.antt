use Rattle.std.proofs.Common.{arith}
use Rattle.btree_node.proofs.Flags.{set_all}
use Rattle.btree_node.proofs.mem.MemNodes.first_free.Goals as goal

pub unreachable-requires : goal.unreachable-requires
unreachable-requires c =
    let kept = c.args.self.now.kept in
    let all = set_all c.args.self.now.used.items (λ k low. c.loop-node.invariant k (omega (arith, low, kept.used))) in
    absurd (omega (arith, all, kept.used, kept.free))
