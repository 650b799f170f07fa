use Rattle.std.proofs.Common.{◌≡◌, ◌∙◌, ap}
use Rattle.jnl_store.specs.Batch.{Staged, restored}
use Rattle.jnl_store.specs.Table.{Tabled}
use Rattle.jnl_store.proofs.Saved.{restored_all}
use Rattle.jnl_store.proofs.batch.Batch.keep.Goals as goal

pub returns : goal.returns
returns c =
    let i = c.self.inside in
    let kept : restored i.puts.items c.clear.new.self.items c.len-self-inside.result ≡ i.puts.items = ap (λ (t : Tabled). restored i.puts.items t.items c.len-self-inside.result) c.clear.ensures ∙ restored_all i.puts.items c.len-self-inside.result c.len-self-inside.ensures.count in
    (λ j. let it : Staged = record { all = i.puts.items; kept = kept j; live = i.live.homes; room = i.room; most = i.most } in it)
    ∙ ap (λ (s : Staged). let it : Staged = record s { kept = s.all } in it) c.self.view_is
