use Rattle.std.proofs.Common.{◌≡◌, ℕ, List, length, inr, sym, ◌∙◌, ap, subst, arith}
use Rattle.std.specs.List.Sorted.{IsNonDecreasing}
use Rattle.alloc_bitmap.specs.Apart.{times}
use Rattle.btree_node.specs.Levels.{Pair}
use Rattle.fsck_core.specs.Attributes.{AreOwnersOf, owner_count}
use Rattle.fsck_core.proofs.RecordJudged.{owners_of}
use Rattle.fsck_core.proofs.attributes.judge_owned.Goals as goal

pub returns-clause-judged : goal.returns-clause-judged
returns-clause-judged c volume are rows_are =
    let same : (id : ℕ) → times id c.deref.result.now ≡ owner_count c.args.rows.now id = λ id. ap (times id) c.deref.ensures.value ∙ c.in_ok-owners.ensures.same id in
    let rises : IsNonDecreasing c.deref.result.now = subst IsNonDecreasing (sym c.deref.ensures.value) c.in_ok-owners.ensures.order in
    let own : AreOwnersOf volume c.deref.result.now = owners_of volume c.args.rows.now c.deref.result.now rows_are rises same in
    c.judge_records.ensures.judged volume are own

pub returns-clause-each : goal.returns-clause-each
returns-clause-each c volume are rows_are =
    let same : (id : ℕ) → times id c.deref.result.now ≡ owner_count c.args.rows.now id = λ id. ap (times id) c.deref.ensures.value ∙ c.in_ok-owners.ensures.same id in
    let rises : IsNonDecreasing c.deref.result.now = subst IsNonDecreasing (sym c.deref.ensures.value) c.in_ok-owners.ensures.order in
    let own : AreOwnersOf volume c.deref.result.now = owners_of volume c.args.rows.now c.deref.result.now rows_are rises same in
    c.judge_records.ensures.each volume are own

pub returns-clause-named : goal.returns-clause-named
returns-clause-named c volume are rows_are =
    let same : (id : ℕ) → times id c.deref.result.now ≡ owner_count c.args.rows.now id = λ id. ap (times id) c.deref.ensures.value ∙ c.in_ok-owners.ensures.same id in
    let rises : IsNonDecreasing c.deref.result.now = subst IsNonDecreasing (sym c.deref.ensures.value) c.in_ok-owners.ensures.order in
    let own : AreOwnersOf volume c.deref.result.now = owners_of volume c.args.rows.now c.deref.result.now rows_are rises same in
    c.judge_records.ensures.named volume are own

pub returns-then-len-eq0-clause-named : goal.returns-then-len-eq0-clause-named
returns-then-len-eq0-clause-named c volume are rows_are =
    let none = ap (λ (l : List Pair). length l) are.pairs_are in
    inr (λ k less. absurd (omega (arith, less, none, c.len.ensures, c.if-len-eq0.true)))
