use Rattle.std.proofs.Common.{◌≡◌, ◌≤◌, ◌<◌, ℕ, true, false, List, Bool, length, get_or, arith, sym, ◌∙◌}
use Rattle.std.proofs.lemmas.List.{get_or_default}
use Rattle.fork_map.specs.Blocks.{fork_sectors}
use Rattle.alloc_bitmap.proofs.ChangedLaws.{next_changed, end_of_changes, end_of_sectors}
use Rattle.alloc_bitmap.proofs.store.ChangedSectorsSectorsToPut.next.Goals as goal

-- flags that aren't set, whatever stands for those behind the end
unset : (changed : List Bool) (p q : ℕ) → q ≤ length changed → ((k : ℕ) → p ≤ k → k < q → get_or changed k true ≡ false) → (k : ℕ) → p ≤ k → k < q → get_or changed k false ≡ false
unset changed p q to before = λ k low high. get_or_default changed k false true (omega (arith, high, to)) ∙ before k low high

pub returns-then-self-count-clause-end : goal.returns-then-self-count-clause-end
returns-then-self-count-clause-end c =
    let self = c.args.self.now in
    end_of_changes self.place self.place (fork_sectors self.fork.now self.per_block) self.changed.now (omega arith) (λ k low high. absurd (omega (arith, low, high))) (omega arith)

pub returns-then-place-count-clause-end : goal.returns-then-place-count-clause-end
returns-then-place-count-clause-end c =
    let self = c.args.self.now in
    let e = c.first-place.ensures in
    end_of_changes self.place c.first-place.result (fork_sectors self.fork.now self.per_block) self.changed.now e.from (unset self.changed.now self.place c.first-place.result e.to e.before) (omega arith)

pub returns-in_default-clause-end : goal.returns-in_default-clause-end
returns-in_default-clause-end c =
    let self = c.args.self.now in
    let e = c.first-place.ensures in
    end_of_sectors self.place c.first-place.result (fork_sectors self.fork.now self.per_block) self.changed.now e.from (unset self.changed.now self.place c.first-place.result e.to e.before) c.in_default.ensures

pub returns-clause-next : goal.returns-clause-next
returns-clause-next c =
    let self = c.args.self.now in
    let e = c.first-place.ensures in
    next_changed self.place c.first-place.result c.in-Some.at (fork_sectors self.fork.now self.per_block) self.changed.now e.from (unset self.changed.now self.place c.first-place.result e.to e.before) (omega arith) (e.found (omega arith)) (sym c.in-Some.ensures)
