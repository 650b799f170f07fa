use Rattle.std.proofs.Common.{◌≡◌, ◌<◌, false, true, length, get_or, sym, arith, ◌∙◌}
use Rattle.std.proofs.lemmas.List.{length-set, get_or_default}
use Rattle.btree_node.proofs.Flags.{one_more, set_fewer}
use Rattle.btree_node.proofs.mem.MemNodes.note.Goals as goal

pub overflow_sub-self : goal.overflow_sub-self
overflow_sub-self c =
    let kept = c.args.self.now.kept in
    let inside : c.args.node < length c.args.self.now.written.items = omega (arith, kept.written) in
    let unset : get_or c.args.self.now.written.items c.args.node true ≡ false = get_or_default c.args.self.now.written.items c.args.node true c.index.result.now inside ∙ sym c.index.ensures ∙ c.if-index.false in
    omega (arith, set_fewer c.args.self.now.written.items c.args.node inside unset, kept.left, kept.written)

pub invariant_of-self : goal.invariant_of-self
invariant_of-self c =
    let kept = c.args.self.now.kept in
    let inside : c.args.node < length c.args.self.now.written.items = omega (arith, kept.written) in
    let unset : get_or c.args.self.now.written.items c.args.node true ≡ false = get_or_default c.args.self.now.written.items c.args.node true c.index.result.now inside ∙ sym c.index.ensures ∙ c.if-index.false in
    record {
      kept = record {
        some = kept.some;
        small = kept.small;
        size = kept.size;
        nodes = kept.nodes;
        used = kept.used;
        written = length-set c.args.self.now.written.items c.args.node true ∙ kept.written;
        sizes = kept.sizes;
        header = kept.header;
        free = kept.free;
        left = omega (arith, kept.left, kept.written, one_more c.args.self.now.written.items c.args.node inside unset, set_fewer c.args.self.now.written.items c.args.node inside unset);
      };
    }
