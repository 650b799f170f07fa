use Rattle.std.proofs.Common.{get_or, refl, sym, ◌∙◌, arith}
use Rattle.fsck_core.proofs.NameLaws.{unit_same, unit_differs, key_ends, name_ends}
use Rattle.fsck_core.proofs.names.has_name.Goals as goal

pub returns-then-at-key : goal.returns-then-at-key
returns-then-at-key c =
    sym (key_ends c.args.key.now c.args.name.now c.loop-unit.at c.loop-unit.unit-index (get_or c.args.name.now c.loop-unit.unit-index 0) c.if-at-key.true c.loop-unit-test.true refl) ∙ c.loop-unit.invariant.rest

pub returns-then-read_be16-unit : goal.returns-then-read_be16-unit
returns-then-read_be16-unit c =
    sym (unit_differs c.args.key.now c.args.name.now c.loop-unit.at c.loop-unit.unit-index (get_or c.args.name.now c.loop-unit.unit-index 0) (omega (arith, c.if-at-key.false)) c.loop-unit-test.true refl
    (λ same. c.if-read_be16-unit.true (c.read_be16.ensures ∙ same))) ∙ c.loop-unit.invariant.rest

pub loop-unit-preserved : goal.loop-unit-preserved
loop-unit-preserved c = record {
  within = omega (arith, c.if-at-key.false);
  rest = unit_same c.args.key.now c.args.name.now c.loop-unit.at c.loop-unit.unit-index (get_or c.args.name.now c.loop-unit.unit-index 0) (omega (arith, c.if-at-key.false)) c.loop-unit-test.true refl
      (sym c.read_be16.ensures ∙ c.if-read_be16-unit.false) ∙ c.loop-unit.invariant.rest;
}

pub returns : goal.returns
returns c = name_ends c.args.key.now c.args.name.now c.loop-unit.at c.loop-unit.unit-index _ refl (omega (arith, c.loop-unit-test.false)) ∙ c.loop-unit.invariant.rest
