use Rattle.std.proofs.Common.{◌≡◌, ◌≤◌, [], IsTrue}
use Rattle.link_kinds.specs.Lookers.{front_seen}
use Rattle.link_kinds.specs.Resolves.{most_steps, resolve}
use Rattle.link_kinds.specs.Walks.{asks_left, leads_to}
use Rattle.link_kinds.proofs.looker.walk_along.Given as goal

abbrev pub invariant-loop-parent : goal.invariant-loop-parent
invariant-loop-parent g l = let before = g.L.Looker.state l.fn.looker in let now = g.L.Looker.state l.looker in record {
  leads : IsTrue before.tells → leads_to (front_seen before.sight) l.walk ≡ resolve (front_seen before.sight) most_steps [] l.path;
  tells : now.tells ≡ before.tells;
  sight : now.sight ≡ before.sight;
  later : before.faults ≤ now.faults;
}

abbrev pub decreases-loop-parent : goal.decreases-loop-parent
decreases-loop-parent g l = asks_left l.walk
