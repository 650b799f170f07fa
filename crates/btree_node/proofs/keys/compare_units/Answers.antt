use Rattle.std.proofs.Common.{◌≡◌, ℕ, ◌*◌, ◌/◌, ◌<◌, List, [], length, drop, get_or, sym, ◌∙◌, ap, arith}
use Rattle.std.proofs.lemmas.Cmp.{ranked}
use Rattle.std.specs.Cmp.Lexicographic.{slice_cmp}
use Rattle.std.specs.Ordering.{nat_cmp}
use Rattle.std.specs.Simd.{first_chunks}
use Rattle.std.specs.declared.cmp.Ordering.{Ordering}
use Rattle.hx_bytes.specs.Field.{big_at}
use Rattle.btree_node.specs.Keys.{units}
use Rattle.btree_node.proofs.Pairs.{number_in}
use Rattle.btree_node.proofs.Units.{units_differ, units_agree, units_last, unlike, alike}
use Rattle.btree_node.proofs.keys.compare_units.Goals as goal

-- a unit as it stands in its key
unit_is : (key : List ℕ) (pairs : List (List ℕ)) (i unit : ℕ) → pairs ≡ first_chunks 2 (length key / 2) key → i < length key / 2 → unit ≡ big_at 2 (get_or pairs i []) 0 → unit ≡ big_at 2 key (2 * i)
unit_is key pairs i unit cut inside is = is ∙ ap (λ (l : List (List ℕ)). big_at 2 (get_or l i []) 0) cut ∙ number_in (length key / 2) key i [] inside

order_is : (m n k l : ℕ) (order : Ordering) → m ≡ k → n ≡ l → order ≡ nat_cmp m n → order ≡ nat_cmp k l
order_is m n k l order first second is = is ∙ ap (λ x. nat_cmp x n) first ∙ ap (λ x. nat_cmp k x) second

pub returns-then-is_ne : goal.returns-then-is_ne
returns-then-is_ne c =
    let a = c.args.a.now in
    let b = c.args.b.now in
    let i : ℕ = c.loop-i.i in
    let inv = c.loop-i.invariant in
    let first : i < length a / 2 = omega (arith, c.loop-i-test.true, inv.first, c.as_chunks.ensures.front_len) in
    let second : i < length b / 2 = omega (arith, c.loop-i-test.true, inv.second, c.as_chunks-2.ensures.front_len) in
    let one = unit_is a c.as_chunks.result.0.now i c.read_be16-unit.result c.as_chunks.ensures.front first c.read_be16-unit.ensures in
    let other = unit_is b c.as_chunks-2.result.0.now i c.read_be16-other.result c.as_chunks-2.ensures.front second c.read_be16-other.ensures in
    units_differ a b (2 * i) c.cmp-order.result (omega arith) (omega arith) (order_is _ _ (big_at 2 a (2 * i)) (big_at 2 b (2 * i)) c.cmp-order.result one other c.cmp-order.ensures)
    (unlike c.cmp-order.result (sym c.is_ne.ensures ∙ c.if-is_ne.true))
    ∙ inv.rest

pub loop-i-preserved : goal.loop-i-preserved
loop-i-preserved c =
    let a = c.args.a.now in
    let b = c.args.b.now in
    let i : ℕ = c.loop-i.i in
    let inv = c.loop-i.invariant in
    let first : i < length a / 2 = omega (arith, c.loop-i-test.true, inv.first, c.as_chunks.ensures.front_len) in
    let second : i < length b / 2 = omega (arith, c.loop-i-test.true, inv.second, c.as_chunks-2.ensures.front_len) in
    let one = unit_is a c.as_chunks.result.0.now i c.read_be16-unit.result c.as_chunks.ensures.front first c.read_be16-unit.ensures in
    let other = unit_is b c.as_chunks-2.result.0.now i c.read_be16-other.result c.as_chunks-2.ensures.front second c.read_be16-other.ensures in
    record {
      first = inv.first;
      second = inv.second;
      rest =
          ap (λ (m : ℕ). slice_cmp nat_cmp (units (drop m a)) (units (drop m b))) (omega arith)
          ∙ units_agree a b (2 * i) c.cmp-order.result (omega arith) (omega arith) (order_is _ _ (big_at 2 a (2 * i)) (big_at 2 b (2 * i)) c.cmp-order.result one other c.cmp-order.ensures)
          (alike c.cmp-order.result (sym c.is_ne.ensures ∙ c.if-is_ne.false))
          ∙ inv.rest;
    }

pub returns : goal.returns
returns c =
    let a = c.args.a.now in
    let b = c.args.b.now in
    let i : ℕ = c.loop-i.i in
    let inv = c.loop-i.invariant in
    let m = c.as_chunks.ensures.front_len in
    let n = c.as_chunks-2.ensures.front_len in
    let order = order_is _ _ (length a / 2) (length b / 2) c.cmp.result m n c.cmp.ensures in
    units_last a b i c.cmp.result (omega (arith, c.loop-i.auto.i-end, inv.first, m)) (omega (arith, c.loop-i.auto.i-end, inv.second, n)) (omega (arith, c.loop-i-test.false, c.min-both.ensures, m, n)) (ranked (length a / 2) (length b / 2) c.cmp.result order)
    ∙ inv.rest
