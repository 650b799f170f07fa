use Rattle.std.proofs.Common.{◌≤◌, ℕ, Bool, true, List, length, set, sym, ◌∙◌, subst, ap}
use Rattle.btree_node.specs.Levels.{Pair}
use Rattle.btree_node.specs.Keys.{catalog_units}
use Rattle.fsck_core.specs.Rows.{no_row}
use Rattle.fsck_core.specs.Threads.{IsThreadAt}
use Rattle.fsck_core.specs.declared.rows.Row.{Row}
use Rattle.fsck_core.proofs.ThreadLaws.{key_long, no_match, match_thread, thread_match, match_not, match_more, one_thread}
use Rattle.fsck_core.proofs.threads.match_entry.Goals as goal

pub returns-in_default-clause-matched : goal.returns-in_default-clause-matched
returns-in_default-clause-matched c catalog are =
    let pairs : List Pair = c.args.pairs.now in
    let at : ℕ = c.args.at in
    let long : 8 ≤ length c.key.result.now = key_long pairs at c.key.result.now catalog c.requires.inside c.key.ensures in
    match_not pairs c.args.marks.now.items at are (no_match pairs at no_row c.key.result.now c.value.result.now c.key.ensures c.value.ensures (sym c.in_default.is ∙ c.read_row.ensures long))

pub returns-in_default-find_thread-clause-matched : goal.returns-in_default-find_thread-clause-matched
returns-in_default-find_thread-clause-matched c catalog are =
    let pairs : List Pair = c.args.pairs.now in
    let at : ℕ = c.args.at in
    let long : 8 ≤ length c.key.result.now = key_long pairs at c.key.result.now catalog c.requires.inside c.key.ensures in
    let is = sym c.in-Some.is ∙ c.read_row.ensures long in
    match_not pairs c.args.marks.now.items at are (λ thread match. c.in_default-find_thread.not-Some thread ((c.find_thread.ensures.is catalog thread).1
    (subst (λ (k : List ℕ). IsThreadAt pairs c.in-Some.row (catalog_units k) thread) (c.key.ensures ∙ sym c.key-2.ensures) (match_thread pairs at c.in-Some.row c.key.result.now c.value.result.now c.key.ensures c.value.ensures is thread match))))

pub returns-clause-matched : goal.returns-clause-matched
returns-clause-matched c catalog are =
    let pairs : List Pair = c.args.pairs.now in
    let at : ℕ = c.args.at in
    let long : 8 ≤ length c.key.result.now = key_long pairs at c.key.result.now catalog c.requires.inside c.key.ensures in
    let is = sym c.in-Some.is ∙ c.read_row.ensures long in
    let row : Row = c.in-Some.row in
    let found : IsThreadAt pairs row (catalog_units c.key.result.now) c.in-Some-find_thread.thread =
    subst (λ (k : List ℕ). IsThreadAt pairs row (catalog_units k) c.in-Some-find_thread.thread) (c.key-2.ensures ∙ sym c.key.ensures) ((c.find_thread.ensures.is catalog c.in-Some-find_thread.thread).0 c.in-Some-find_thread.is) in
    match_more pairs c.args.marks.now.items at are c.in-Some-find_thread.thread c.mark-2.new.marks.items c.requires.long
    (thread_match pairs at row c.key.result.now c.value.result.now c.key.ensures c.value.ensures c.requires.inside is c.in-Some-find_thread.thread found)
    (λ other match. one_thread c.find_thread.result other c.in-Some-find_thread.thread ((c.find_thread.ensures.is catalog other).1
    (subst (λ (k : List ℕ). IsThreadAt pairs row (catalog_units k) other) (c.key.ensures ∙ sym c.key-2.ensures) (match_thread pairs at row c.key.result.now c.value.result.now c.key.ensures c.value.ensures is other match))) c.in-Some-find_thread.is)
    (c.mark-2.ensures ∙ ap (λ (l : List Bool). set l c.in-Some-find_thread.thread true) c.mark.ensures)
