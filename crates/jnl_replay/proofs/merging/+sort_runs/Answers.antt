use Rattle.std.proofs.Common.{◌≡◌, ◌≤◌, ◌<◌, ◌/◌, ℕ, List, length, length-take, ◌∙◌, ap, arith}
use Rattle.std.proofs.lemmas.List.{length-drop}
use Rattle.jnl_replay.specs.Runs.{place_in_runs}
use Rattle.jnl_replay.specs.declared.runs.Run.{Run}
use Rattle.jnl_replay.proofs.MergeLaws.{halved, front_whole, back_whole}
use Rattle.jnl_replay.proofs.merging.+sort_runs.Goals as goal

pub sort_runs-requires : goal.sort_runs-requires
sort_runs-requires t c = (
  omega (arith, ap (λ (l : List Run). length l) c.in_ok-back.ensures.front, length-take (c.len-count.result / 2) c.args.runs.items, c.len-count.ensures, c.if-count-lt2.false),
  front_whole c.args.runs.items c.take_back.new.runs.items (c.len-count.result / 2) c.in_ok-back.ensures.front (omega (arith, c.len-count.ensures)) c.requires,
)

pub sort_runs-requires-2 : goal.sort_runs-requires-2
sort_runs-requires-2 t c = (
  omega (arith, ap (λ (l : List Run). length l) c.in_ok-back.ensures.back, length-drop (c.len-count.result / 2) c.args.runs.items, c.len-count.ensures, c.if-count-lt2.false),
  back_whole c.args.runs.items c.in_ok-back.back.items (c.len-count.result / 2) c.in_ok-back.ensures.back c.requires,
)

pub returns-clause-same : goal.returns-clause-same
returns-clause-same t c q =
    c.in_ok-sorted.ensures.same q
    ∙ halved c.args.runs.items c.take_back.new.runs.items c.in_ok-back.back.items c.deref.result.now c.deref-2.result.now (c.len-count.result / 2) q c.in_ok-back.ensures.front c.in_ok-back.ensures.back
    (ap (λ (l : List Run). place_in_runs l q) c.deref.ensures.value ∙ c.in_ok-older.ensures.same q)
    (ap (λ (l : List Run). place_in_runs l q) c.deref-2.ensures.value ∙ c.in_ok-newer.ensures.same q)
