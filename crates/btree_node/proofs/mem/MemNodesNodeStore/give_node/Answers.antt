use Rattle.std.proofs.Common.{rules, ◌<◌, subst, sym}
use Rattle.btree_node.proofs.Flags.{one_less}
use Rattle.btree_node.proofs.mem.MemNodesNodeStore.give_node.Goals as goal

pub overflow_add-self : goal.overflow_add-self
overflow_add-self c =
    let kept = c.args.self.now.kept in
    let less = one_less c.args.self.now.used.items c.args.node (subst (λ n. c.args.node < n) (sym kept.used) c.requires.inside) (search rules) in
    let free = kept.free in
    search rules
