use Rattle.std.proofs.Common.{◌≡◌, ◌<◌, ◌+◌, ◌-◌, ℕ, suc, Bool, true, false, not, cond, sym, ◌∙◌, ap, arith}
use Rattle.std.specs.List.{count_by, range_with_len}
use Rattle.std.proofs.lemmas.Bool.{true≢false}
use Rattle.fork_map.specs.Blocks.{fork_sectors}
use Rattle.btree_file.specs.Place.{sectors_at}
use Rattle.btree_file.specs.State.{all_put}
use Rattle.btree_file.proofs.RoomLaws.{count_step}
use Rattle.btree_file.proofs.written.are_few.Goals.{then-not-is_written+else-count-most, else-not-is_written}
use Rattle.btree_file.proofs.written.are_few.Goals as goal

-- the count from a number on, where that is below the end
count_from : (p : ℕ → Bool) (at total : ℕ) → at < total → count_by p (range_with_len at (total - at)) ≡ cond (p at) 1 0 + count_by p (range_with_len (at + 1) (total - (at + 1)))
count_from p at total low = ap (λ n. count_by p (range_with_len at n)) {x = total - at} {y = suc (total - (at + 1))} (omega (arith, low)) ∙ count_step p at (total - (at + 1))

-- one more passes
passes : (p : ℕ → Bool) (at total : ℕ) → at < total → p at ≡ true → count_by p (range_with_len at (total - at)) ≡ 1 + count_by p (range_with_len (at + 1) (total - (at + 1)))
passes p at total low is = count_from p at total low ∙ ap (λ (b : Bool). cond b 1 0 + count_by p (range_with_len (at + 1) (total - (at + 1)))) is

-- one that doesn't pass
fails : (p : ℕ → Bool) (at total : ℕ) → at < total → p at ≡ false → count_by p (range_with_len at (total - at)) ≡ 0 + count_by p (range_with_len (at + 1) (total - (at + 1)))
fails p at total low is = count_from p at total low ∙ ap (λ (b : Bool). cond b 1 0 + count_by p (range_with_len (at + 1) (total - (at + 1)))) is

-- a node isn't written where it was found so
is_unwritten : (found all : Bool) → found ≡ all → found ≡ false → not all ≡ true
is_unwritten found all is none = ap not (sym is ∙ none)

is_written : (found all : Bool) → found ≡ all → found ≡ true → not all ≡ false
is_written found all is some = ap not (sym is ∙ some)

pub returns-then-count-most : goal.returns-then-count-most
returns-then-count-most g c =
    let fork = fork_sectors c.args.fork.now c.args.per_block in
    let put = (g.P.SectorView.space c.args.space.now).put in
    let one = passes (λ n. not (all_put put (sectors_at fork c.args.per_node n))) c.loop-node.node c.args.total c.loop-node-test.true (is_unwritten c.is_written.result _ c.is_written.ensures c.if-not-is_written.true) in
    (λ is. absurd (true≢false (sym is)), λ few. absurd (omega (arith, few, one, c.loop-node.invariant.all, c.if-count-most.true)))

pub loop-node-preserved : goal.loop-node-preserved
loop-node-preserved g c =
    let fork = fork_sectors c.args.fork.now c.args.per_block in
    let put = (g.P.SectorView.space c.args.space.now).put in
    let found = c.is_written.ensures in
    record {
      few = elim c.if-not-is_written.branch [
        | then-not-is_written+else-count-most w ↦ omega (arith, w.if-count-most.false, w.count-is)
        | else-not-is_written w ↦ omega (arith, c.loop-node.invariant.few, w.count-is)
      ];
      all = elim c.if-not-is_written.branch [
        | then-not-is_written+else-count-most w ↦
            let one = passes (λ n. not (all_put put (sectors_at fork c.args.per_node n))) c.loop-node.node c.args.total c.loop-node-test.true (is_unwritten c.is_written.result _ found w.if-not-is_written.true) in
            omega (arith, one, c.loop-node.invariant.all, w.count-is)
        | else-not-is_written w ↦
            let none = fails (λ n. not (all_put put (sectors_at fork c.args.per_node n))) c.loop-node.node c.args.total c.loop-node-test.true (is_written c.is_written.result _ found w.if-not-is_written.false) in
            omega (arith, none, c.loop-node.invariant.all, w.count-is)
      ];
    }
