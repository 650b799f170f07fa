use Rattle.std.proofs.Common.{ℕ, ◌-◌, ◌+◌, List, ◌++◌, length, sym, ◌∙◌, ap, arith}
use Rattle.std.proofs.lemmas.List.{take_all, append_assoc}
use Rattle.std.specs.List.{concat}
use Rattle.hx_bytes.specs.Field.{big}
use Rattle.btree_node.proofs.Printing.{offsets_start, offset_step, offsets_end}
use Rattle.btree_node.proofs.codec.put_offsets.Goals as goal

pub loop-left-init : goal.loop-left-init
loop-left-init c = record {
  inside = omega arith;
  place = c.requires.place ∙ ap (λ (l : List (List ℕ)). 14 + length (concat l)) (sym (take_all (length c.args.items.now) c.args.items.now (omega arith)));
  short = c.requires.short;
  table = c.in_ok-put_u16.ensures ∙ offsets_start c.args.items.now c.args.end c.args.out.now.items;
}

pub overflow_sub-at : goal.overflow_sub-at
overflow_sub-at c =
    let step = offset_step c.args.items.now c.loop-left.left (c.loop-left.left - 1) c.loop-left.at c.len-at.result c.index-items-left.result (omega arith) c.loop-left.invariant.inside c.index-items-left.is c.len-at.ensures c.loop-left.invariant.place in
    step.room

pub loop-left-preserved : goal.loop-left-preserved
loop-left-preserved c =
    let step = offset_step c.args.items.now c.loop-left.left (c.loop-left.left - 1) c.loop-left.at c.len-at.result c.index-items-left.result (omega arith) c.loop-left.invariant.inside c.index-items-left.is c.len-at.ensures c.loop-left.invariant.place in
    record {
      inside = omega arith;
      place = step.place;
      short = omega arith;
      table =
          c.in_ok-put_u16-2.ensures
          ∙ ap (λ (l : List ℕ). l ++ big 2 (c.loop-left.at - c.len-at.result)) c.loop-left.invariant.table
          ∙ append_assoc c.args.out.now.items _ _
          ∙ ap (λ (l : List ℕ). c.args.out.now.items ++ l) (sym step.table);
    }

pub returns : goal.returns
returns c =
    c.loop-left.invariant.table
    ∙ ap (λ (l : List ℕ). c.args.out.now.items ++ l) (offsets_end c.args.items.now c.loop-left.at c.loop-left.left c.loop-left-test.false c.loop-left.invariant.place)
