use Rattle.std.proofs.Common.{rules, replicate, List, ℕ, ◌≡◌, ◌∙◌, ap}
use Rattle.std.specs.Prelude.{Option, None}
use Rattle.jnl_store.specs.Cache.{slots_with}
use Rattle.jnl_store.proofs.Sides.{slots_none}
use Rattle.jnl_store.proofs.cache.Cache.new.Goals as goal

pub returns : goal.returns
returns c =
    let named : c.resize.new.self.items ≡ replicate {A = Option ℕ} c.args.count None = search rules in
    ap (λ (l : List (Option ℕ)). slots_with l c.resize-2.new.self.items) named ∙ slots_none c.args.count c.resize-2.new.self.items
