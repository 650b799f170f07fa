use Rattle.std.proofs.Common.{◌≡◌, ◌<◌, ◌∙◌, arith, sym}
use Rattle.std.proofs.lemmas.Bool.{eqb-false}
use Rattle.jnl_store.proofs.Sides.{found_at, not_found}
use Rattle.jnl_store.proofs.cache.Cache.get.Goals as goal

pub returns-then-name-at : goal.returns-then-name-at
returns-then-name-at c =
    let names = c.self.inside.names.items in
    let some : 0 < c.len.result = omega (arith, c.len.ensures, eqb-false _ 0 (sym c.if-is_empty.ensures)) in
    found_at names c.self.inside.bytes.items c.args.self.now c.len.result c.args.at c.in-Some.name c.index.result.now c.index-then-name-at.result.now c.self.invariant.slots c.self.view_is (omega (arith, c.len.ensures, c.self.inside.names.ok.0)) some c.index.ensures c.in-Some.is c.if-name-at.true c.index-then-name-at.ensures

pub returns-else-name-at : goal.returns-else-name-at
returns-else-name-at c =
    let names = c.self.inside.names.items in
    let some : 0 < c.len.result = omega (arith, c.len.ensures, eqb-false _ 0 (sym c.if-is_empty.ensures)) in
    not_found names c.self.inside.bytes.items c.args.self.now c.len.result c.args.at c.index.result.now c.self.invariant.slots c.self.view_is (omega (arith, c.len.ensures, c.self.inside.names.ok.0)) some c.index.ensures
    (λ name is of. let same : name ≡ c.in-Some.name = cc (sym is ∙ c.in-Some.is) in c.if-name-at.false (sym same ∙ of))

pub returns-in-None : goal.returns-in-None
returns-in-None c =
    let names = c.self.inside.names.items in
    let some : 0 < c.len.result = omega (arith, c.len.ensures, eqb-false _ 0 (sym c.if-is_empty.ensures)) in
    not_found names c.self.inside.bytes.items c.args.self.now c.len.result c.args.at c.index.result.now c.self.invariant.slots c.self.view_is (omega (arith, c.len.ensures, c.self.inside.names.ok.0)) some c.index.ensures
    (λ name is of. absurd (cc (sym is ∙ c.in-None.is)))
