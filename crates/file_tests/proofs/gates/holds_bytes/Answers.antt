use Rattle.std.proofs.Common.{◌≡◌, ◌<◌, ◌≤◌, ℕ, List, Some, None, slice_get, length, get_or, arith, subst, sym, ⊎_elim}
use Rattle.std.proofs.lemmas.Bool.{cases_lt, leb-true}
use Rattle.std.proofs.lemmas.Option.{slice_get_within, get_or_from_slice_get}
use Rattle.fork_map.specs.Blocks.{blocks_of, sectors_of}
use Rattle.alloc_bitmap.proofs.ChangedLaws.{past_end}
use Rattle.file_tests.proofs.gates.holds_bytes.Goals as goal

pub returns-in-None-clause-inside : goal.returns-in-None-clause-inside
returns-in-None-clause-inside c = λ enough k d lt. c.loop-n.invariant.each k d (omega (arith, past_end (sectors_of c.args.per_block (blocks_of c.args.fork.now)) c.loop-n.n c.in-None.ensures))

pub returns-in-None-clause-size : goal.returns-in-None-clause-size
returns-in-None-clause-size c = λ enough. omega (arith, leb-true c.args.size c.saturating_mul.result enough, c.saturating_mul.ensures, c.loop-n.invariant.size)

pub loop-n-preserved : goal.loop-n-preserved
loop-n-preserved c =
    let sectors : List ℕ = sectors_of c.args.per_block (blocks_of c.args.fork.now) in
    let here : slice_get sectors c.loop-n.n ≡ Some c.in-Some.at = sym c.in-Some.ensures in
    let inside : c.loop-n.n < length sectors = slice_get_within sectors c.loop-n.n c.in-Some.at here in
    record {
      size = omega arith;
      each = λ k d lt. ⊎_elim
          (λ (earlier : k < c.loop-n.n). c.loop-n.invariant.each k d earlier)
          (λ (now : c.loop-n.n ≤ k). let same : k ≡ c.loop-n.n = omega arith in
          subst (λ j. get_or sectors j d < c.args.sectors) (sym same) (subst (λ s. s < c.args.sectors) (sym (get_or_from_slice_get sectors c.loop-n.n c.in-Some.at d here)) (omega arith)))
          (cases_lt k c.loop-n.n);
    }
