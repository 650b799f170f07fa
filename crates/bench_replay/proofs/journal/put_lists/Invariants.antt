use Rattle.std.proofs.Common.{◌-◌, ◌≡◌, ◌≤◌}
use Rattle.bench_replay.proofs.journal.put_lists.Given as goal

abbrev pub invariant-loop-text : goal.invariant-loop-text
invariant-loop-text l = record {
  sectors : l.sectors ≡ l.fn.sectors;
  most : l.most ≡ l.sectors - 2;
  inside : l.text ≤ l.most;
  fewer : l.blocks ≤ l.text;
}

abbrev pub decreases-loop-text : goal.decreases-loop-text
decreases-loop-text l = l.most - l.text
