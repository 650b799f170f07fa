use Rattle.std.proofs.Common.{◌≡◌, ◌≤◌, ℕ, List, length}
use Rattle.std.specs.Prelude.{reverse, vec_len}
use Rattle.hfs_model.specs.declared.kinds.Sight.{Sight}
use Rattle.link_kinds.specs.Resolves.{reach}
use Rattle.link_kinds.proofs.steps.advance.Given as goal

abbrev pub invariant-loop-name : goal.invariant-loop-name
invariant-loop-name l = record {
  same : (look : ℕ → List ℕ → Sight) → reach look (reverse l.way.items) (reverse l.left.items) ≡ reach look (reverse l.initial.way.items) (reverse l.initial.left.items);
  fewer : length l.left.items ≤ length l.initial.left.items;
}

abbrev pub decreases-loop-name : goal.decreases-loop-name
decreases-loop-name l = vec_len l.left
