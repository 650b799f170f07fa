use Rattle.std.proofs.Common.{◌+◌, ◌++◌, ◌∷◌, [], drop, sym, ◌∙◌, ap, arith, append_assoc, length-drop}
use Rattle.std.proofs.lemmas.List.{append-nil}
use Rattle.btree_node.specs.Keys.{units}
use Rattle.attributes.proofs.Units.{units_short, units_step}
use Rattle.attributes.proofs.listing.key_units.Goals as goal

pub loop-at-preserved : goal.loop-at-preserved
loop-at-preserved c = record {
  small = omega (arith, c.loop-at.invariant.small, c.loop-at-test.true);
  read =
      c.loop-at.invariant.read ∙ ap (λ l. c.loop-at.units ++ l) (units_step c.args.key.now c.loop-at.at (omega (arith, c.loop-at-test.true)) ∙ ap (λ n. n ∷ units (drop (c.loop-at.at + 2) c.args.key.now)) (sym c.read_be16.ensures))
      ∙ sym (ap (λ l. l ++ units (drop (c.loop-at.at + 2) c.args.key.now)) c.in_ok-push.ensures.added ∙ append_assoc c.loop-at.units (c.read_be16.result ∷ []) (units (drop (c.loop-at.at + 2) c.args.key.now)));
}

pub returns : goal.returns
returns c =
    sym (c.loop-at.invariant.read ∙ ap (λ l. c.loop-at.units ++ l) (units_short (drop c.loop-at.at c.args.key.now) (omega (arith, c.loop-at-test.false, length-drop c.loop-at.at c.args.key.now))) ∙ append-nil c.loop-at.units)
