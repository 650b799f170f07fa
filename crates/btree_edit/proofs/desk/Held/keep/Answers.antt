use Rattle.std.proofs.Common.{◌≡◌, length, take, drop, ap, ◌∙◌, arith}
use Rattle.btree_edit.specs.Held.{HeldPair}
use Rattle.btree_edit.proofs.Pairs.{kept_part, kept_size, key_short, key_taken, value_dropped}
use Rattle.btree_edit.proofs.desk.Held.keep.Goals as goal

pub returns-clause-key : goal.returns-clause-key
returns-clause-key c =
    ap (λ l. take (length c.key_part.result.now) l) (kept_part _ c.args.item.now _ _ (omega arith) c.put_front.ensures.front)
    ∙ key_taken c.args.item.now c.key_part.result.now c.key_part.ensures

pub returns-clause-value : goal.returns-clause-value
returns-clause-value c =
    ap (λ l. drop (length c.key_part.result.now) l) (kept_part _ c.args.item.now _ _ (omega arith) c.put_front.ensures.front)
    ∙ value_dropped c.args.item.now c.key_part.result.now c.key_part.ensures

pub invariant_of-self : goal.invariant_of-self
invariant_of-self c =
    let long : length c.put_front.new.bytes ≡ c.self.inside.bytes.len = omega arith in
    let room = ap (λ (h : HeldPair). h.room) c.self.view_is in (
      key_short c.args.item.now c.key_part.result.now c.key_part.ensures,
      omega (arith, long, room, kept_size c.self.inside.bytes.len c.put_front.new.bytes c.self.inside.bytes.items long, ap length c.deref_mut.ensures.value, c.put_front.ensures.size),
    )
