use Rattle.std.proofs.Common.{◌≡◌, ◌++◌, length, take, drop, sym, ◌∙◌, subst, arith}
use Rattle.std.proofs.lemmas.Int.{to_z-of_z}
use Rattle.std.proofs.lemmas.List.{take_at}
use Rattle.std.specs.Int.{w8}
use mir.Val.{to_z, of_z}
use Rattle.btree_node.specs.Node.{ClearsNode}
use Rattle.btree_node.proofs.node.Node.clear.Goals as goal

pub returns : goal.returns
returns c =
    let new = c.clear.new.node in
    let size = c.clear.ensures.size in
    let long = c.deref_mut.ensures.len in
    let kept : take c.self.inside.bytes.len (new ++ drop (length new) c.self.inside.bytes.items) ≡ new = take_at new (drop (length new) c.self.inside.bytes.items) c.self.inside.bytes.len (omega arith) in
    subst (λ l. ClearsNode c.args.kind c.args.height c.args.self.now l) (sym kept)
    (subst (λ k. ClearsNode k c.args.height c.args.self.now new) (to_z-of_z w8 c.args.kind c.ranges.kind)
    (subst (λ o. ClearsNode (to_z w8 (of_z w8 c.args.kind)) c.args.height o new) (c.deref_mut.ensures.value ∙ c.self.view_is) c.clear.ensures))
