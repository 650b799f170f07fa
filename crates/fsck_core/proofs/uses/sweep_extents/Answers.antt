use Rattle.std.proofs.Common.{◌<◌, ℕ, ◌+◌, ◌-◌, List, length, take, get_or, ◌∙◌, subst, arith}
use Rattle.std.proofs.lemmas.List.{take_all}
use Rattle.hx_bytes.specs.declared.extents.Extent.{Extent}
use Rattle.fork_map.specs.Blocks.{blocks_of}
use Rattle.fsck_core.specs.Uses.{HasMarked, HasSwept}
use Rattle.fsck_core.proofs.UseLaws.{front_fits, extents_more}
use Rattle.fsck_core.proofs.SweepLaws.{swept_later, above_all}
use Rattle.fsck_core.proofs.uses.sweep_extents.Goals as goal

pub returns-in_err-sweep-clause-each : goal.returns-in_err-sweep-clause-each
returns-in_err-sweep-clause-each c rises same clear =
    let sorted : List Extent = c.args.sorted.now in
    let k : ℕ = c.loop-extent.extent-index in
    let none : Extent = record { start = 0; count = 0 } in
    let inside : k < length sorted = c.loop-extent-test.true in
    let front : List ℕ = blocks_of (take k sorted) in
    c.sweep_extent.ensures.each (length c.args.used.now) (get_or sorted k none).start front c.args.out.now (c.loop-extent.invariant.swept rises same clear (get_or sorted k none).start (λ i less. rises i k none (omega (arith, less)) inside)) (omega arith)
    (λ n. omega (arith, front_fits sorted k none inside n, same n))

pub loop-extent-preserved : goal.loop-extent-preserved
loop-extent-preserved c =
    let sorted : List Extent = c.args.sorted.now in
    let k : ℕ = c.loop-extent.extent-index in
    let none : Extent = record { start = 0; count = 0 } in
    let inside : k < length sorted = c.loop-extent-test.true in
    let front : List ℕ = blocks_of (take k sorted) in
    record {
      long = c.in_ok-sweep.ensures.long ∙ c.loop-extent.invariant.long;
      swept = λ rises same clear last above. swept_later (length c.args.used.now) (blocks_of c.args.extents.now) (blocks_of (take (k + 1) sorted)) c.args.out.now c.sweep_extent.new.used c.sweep_extent.new.out c.in_ok-sweep.sweep (get_or sorted k none).start last (above k (omega arith))
          (subst (λ (l : List ℕ). HasSwept (length c.args.used.now) (blocks_of c.args.extents.now) l c.args.out.now c.sweep_extent.new.used c.sweep_extent.new.out c.in_ok-sweep.sweep (get_or sorted k none).start) (extents_more sorted k none inside)
          (c.in_ok-sweep.ensures.swept (length c.args.used.now) (get_or sorted k none).start front c.args.out.now (c.loop-extent.invariant.swept rises same clear (get_or sorted k none).start (λ i less. rises i k none (omega (arith, less)) inside)) (omega arith)
          (λ n. omega (arith, front_fits sorted k none inside n, same n))));
    }

pub returns-clause-marked : goal.returns-clause-marked
returns-clause-marked c rises same clear =
    let sorted : List Extent = c.args.sorted.now in
    let none : Extent = record { start = 0; count = 0 } in
    subst (λ (l : List Extent). HasMarked (length c.args.used.now) (blocks_of c.args.extents.now) (blocks_of l) c.args.out.now c.loop-extent.used c.loop-extent.out c.loop-extent.sweep.met) (take_all c.loop-extent.extent-index sorted (omega (arith, c.loop-extent-test.false)))
    (c.loop-extent.invariant.swept rises same clear (get_or sorted (length sorted - 1) none).start (λ i less. above_all sorted rises i)).marked

pub returns-clause-each : goal.returns-clause-each
returns-clause-each c rises same clear = (returns-clause-marked c rises same clear).each
