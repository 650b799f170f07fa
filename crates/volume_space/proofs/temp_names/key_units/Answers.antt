use Rattle.std.proofs.Common.{◌+◌, ◌++◌, ◌∷◌, [], drop, sym, ◌∙◌, ap, arith, append_assoc}
use Rattle.std.proofs.lemmas.List.{append-nil}
use Rattle.btree_node.specs.Keys.{units}
use Rattle.btree_node.proofs.Units.{units_at, units_end}
use Rattle.volume_space.proofs.temp_names.key_units.Goals as goal

pub loop-at-preserved : goal.loop-at-preserved
loop-at-preserved c =
    let key = c.args.key.now in
    let at = c.loop-at.at in
    let units_so_far = c.loop-at.units in
    record {
      within = omega (arith, c.loop-at-test.true);
      rest = ap (λ l. l ++ units (drop (at + 2) key)) c.in_ok-push.ensures.added
          ∙ append_assoc units_so_far (c.read_be16.result ∷ []) (units (drop (at + 2) key))
          ∙ ap (λ n. units_so_far ++ n ∷ units (drop (at + 2) key)) c.read_be16.ensures
          ∙ ap (λ l. units_so_far ++ l) (sym (units_at key at c.loop-at-test.true))
          ∙ c.loop-at.invariant.rest;
    }

pub returns : goal.returns
returns c =
    let key = c.args.key.now in
    sym (append-nil c.loop-at.units) ∙ ap (λ l. c.loop-at.units ++ l) (sym (units_end key c.loop-at.at c.loop-at-test.false)) ∙ c.loop-at.invariant.rest
