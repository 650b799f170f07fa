use Rattle.std.proofs.Common.{◌≤◌, List, sym, subst, arith}
use Rattle.jnl_replay.specs.declared.runs.Run.{Run}
use Rattle.jnl_replay.proofs.MergeLaws.{IsMerged, merged_more, merged_all, ended_later}
use Rattle.jnl_replay.proofs.merging.merge.Goals as goal

pub returns-in_default-clause-same : goal.returns-in_default-clause-same
returns-in_default-clause-same c = merged_all c.args.older.now c.args.newer.now c.runs.out.items c.runs.at c.runs.invariant.merged c.in_default.ensures

pub runs-preserved : goal.runs-preserved
runs-preserved c =
    let older : List Run = c.args.older.now in
    let newer : List Run = c.args.newer.now in
    let run : Run = c.in-Some.run' in
    let further : c.runs.at ≤ c.end-at.result = omega (arith, c.in-Some.ensures.from, c.end-at.ensures) in
    record {
      merged = subst (λ n. IsMerged older newer c.push_run.new.runs.items n) (sym c.end-at.ensures) (merged_more older newer c.runs.out.items c.push_run.new.runs.items c.runs.at run c.runs.invariant.merged c.in-Some.ensures c.in_ok-push_run.ensures);
      few_older = c.skip-i.ensures.within;
      few_newer = c.skip-j.ensures.within;
      ended_older = ended_later older c.skip-i.result c.runs.at c.end-at.result further c.skip-i.ensures.ended;
      ended_newer = ended_later newer c.skip-j.result c.runs.at c.end-at.result further c.skip-j.ensures.ended;
    }
