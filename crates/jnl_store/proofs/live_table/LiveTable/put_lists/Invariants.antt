use Rattle.std.proofs.Common.{◌≡◌, ◌≤◌, ◌+◌, ◌*◌, ℕ, drop, length}
use Rattle.jnl_store.specs.Lists.{lists_homes}
use Rattle.jnl_store.specs.Newest.{newest, or_later}
use Rattle.jnl_store.proofs.live_table.LiveTable.put_lists.Given as goal

abbrev pub invariant-loop-put : goal.invariant-loop-put
invariant-loop-put l = record {
  newest : (s : ℕ) → or_later (newest (lists_homes l.fn.form.blhdr l.place l.left (drop l.put-index l.puts)) s) (newest l.self.homes s) ≡ or_later (newest (lists_homes l.fn.form.blhdr l.fn.from 0 l.puts) s) (newest l.initial.self.homes s);
  near : l.place ≤ l.fn.from + 66048 * l.put-index;
  few : length l.self.homes ≤ length l.initial.self.homes + l.put-index;
  memory : l.self.memory ≡ l.initial.self.memory;
}
