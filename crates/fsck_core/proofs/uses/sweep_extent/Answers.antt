use Rattle.std.proofs.Common.{◌≡◌, ◌⊎◌, ◌<◌, ◌≤◌, ℕ, ◌+◌, max, Bool, true, false, not, ◌++◌, length, get_or, refl, sym, subst, arith}
use Rattle.std.specs.List.{range_with_len}
use Rattle.fork_map.specs.Blocks.{blocks_of}
use Rattle.fsck_core.specs.Uses.{HasSwept}
use Rattle.fsck_core.proofs.SweepLaws.{sweep_none, sweep_fresh, sweep_again, tells_more, differs, fresh}
use Rattle.fsck_core.proofs.uses.sweep_extent.Goals as goal

no_then : (b : Bool) → not b ≡ true → b ≡ false
no_then true is = sym is
no_then false is = refl

pub returns-then-extent-eq0-clause-swept : goal.returns-then-extent-eq0-clause-swept
returns-then-extent-eq0-clause-swept c total last front first swept behind room = sweep_none total (blocks_of c.args.extents.now) front first c.args.used.now c.args.out.now c.args.sweep last c.args.extent swept behind room c.if-extent-eq0.true

pub returns-then-start-sweep-clause-swept : goal.returns-then-start-sweep-clause-swept
returns-then-start-sweep-clause-swept c total last front first swept behind room =
    let from_is : c.max-from.result ≡ max c.args.extent.start c.args.sweep.end = c.max-from.ensures in
    let sets : (k : ℕ) → max c.args.extent.start c.args.sweep.end ≤ k → k < c.args.extent.start + c.args.extent.count → k < length c.args.used.now → get_or c.mark_stretch.new.used k false ≡ true =
    λ k low high within. c.in_ok-mark_stretch.ensures.sets (λ n from. fresh total (blocks_of c.args.extents.now) front first c.args.used.now c.args.out.now c.args.sweep last c.args.extent swept behind room n (omega (arith, from, from_is))) k (omega (arith, low, from_is)) high within in
    let keeps : (k : ℕ) → (k < max c.args.extent.start c.args.sweep.end) ⊎ (c.args.extent.start + c.args.extent.count ≤ k) → get_or c.mark_stretch.new.used k false ≡ get_or c.args.used.now k false =
    λ k out. c.mark_stretch.ensures.keeps k (subst (λ n. (k < n) ⊎ (c.args.extent.start + c.args.extent.count ≤ k)) (sym from_is) out) in
    subst (λ n. HasSwept total (blocks_of c.args.extents.now) (front ++ range_with_len c.args.extent.start c.args.extent.count) first c.mark_stretch.new.used c.args.out.now (record { end = n; told = c.args.sweep.told; met = c.args.sweep.met }) c.args.extent.start) (sym c.max-end.ensures)
    (sweep_fresh total (blocks_of c.args.extents.now) front first c.args.used.now c.args.out.now c.args.sweep last c.args.extent swept behind room c.mark_stretch.new.used c.mark_stretch.ensures.long sets keeps c.args.sweep.told c.if-start-sweep.true)

pub returns-then-sweep-start-clause-swept : goal.returns-then-sweep-start-clause-swept
returns-then-sweep-start-clause-swept c total last front first swept behind room =
    let unmet : c.args.sweep.met ≡ false = no_then c.args.sweep.met c.if-not-sweep.true in
    let from_is : c.max-from.result ≡ max c.args.extent.start c.args.sweep.end = c.max-from.ensures in
    let sets : (k : ℕ) → max c.args.extent.start c.args.sweep.end ≤ k → k < c.args.extent.start + c.args.extent.count → k < length c.args.used.now → get_or c.mark_stretch.new.used k false ≡ true =
    λ k low high within. c.in_ok-mark_stretch.ensures.sets (λ n from. fresh total (blocks_of c.args.extents.now) front first c.args.used.now c.args.out.now c.args.sweep last c.args.extent swept behind room n (omega (arith, from, from_is))) k (omega (arith, low, from_is)) high within in
    let keeps : (k : ℕ) → (k < max c.args.extent.start c.args.sweep.end) ⊎ (c.args.extent.start + c.args.extent.count ≤ k) → get_or c.mark_stretch.new.used k false ≡ get_or c.args.used.now k false =
    λ k out. c.mark_stretch.ensures.keeps k (subst (λ n. (k < n) ⊎ (c.args.extent.start + c.args.extent.count ≤ k)) (sym from_is) out) in
    subst (λ n. HasSwept total (blocks_of c.args.extents.now) (front ++ range_with_len c.args.extent.start c.args.extent.count) first c.mark_stretch.new.used c.args.out.now (record { end = n; told = c.args.sweep.told; met = c.args.sweep.met }) c.args.extent.start) (sym c.max-end.ensures)
    (subst (λ b. HasSwept total (blocks_of c.args.extents.now) (front ++ range_with_len c.args.extent.start c.args.extent.count) first c.mark_stretch.new.used c.args.out.now (record { end = max (c.args.extent.start + c.args.extent.count) c.args.sweep.end; told = c.args.sweep.told; met = b }) c.args.extent.start) (sym unmet)
    (sweep_again total (blocks_of c.args.extents.now) front first c.args.used.now c.args.out.now c.args.sweep last c.args.extent swept behind room c.mark_stretch.new.used c.mark_stretch.ensures.long sets keeps c.args.sweep.told c.args.out.now (omega (arith, c.if-extent-eq0.false)) (omega (arith, c.if-start-sweep.false)) (swept.marked.found unmet) swept.marked.each))

pub returns-in_err-tell_use-clause-each : goal.returns-in_err-tell_use-clause-each
returns-in_err-tell_use-clause-each c total last front first swept behind room =
    let from_is : c.max-from.result ≡ max c.args.extent.start c.args.sweep.end = c.max-from.ensures in
    let sets : (k : ℕ) → max c.args.extent.start c.args.sweep.end ≤ k → k < c.args.extent.start + c.args.extent.count → k < length c.args.used.now → get_or c.mark_stretch.new.used k false ≡ true =
    λ k low high within. c.in_ok-mark_stretch.ensures.sets (λ n from. fresh total (blocks_of c.args.extents.now) front first c.args.used.now c.args.out.now c.args.sweep last c.args.extent swept behind room n (omega (arith, from, from_is))) k (omega (arith, low, from_is)) high within in
    let keeps : (k : ℕ) → (k < max c.args.extent.start c.args.sweep.end) ⊎ (c.args.extent.start + c.args.extent.count ≤ k) → get_or c.mark_stretch.new.used k false ≡ get_or c.args.used.now k false =
    λ k out. c.mark_stretch.ensures.keeps k (subst (λ n. (k < n) ⊎ (c.args.extent.start + c.args.extent.count ≤ k)) (sym from_is) out) in
    tells_more total (blocks_of c.args.extents.now) front first c.args.used.now c.args.out.now c.args.sweep last c.args.extent swept behind room c.mark_stretch.new.used c.mark_stretch.ensures.long sets keeps c.tell_use.new.out (omega (arith, c.if-extent-eq0.false)) (omega (arith, c.if-start-sweep.false)) c.tell_use.ensures.each

pub returns-clause-swept : goal.returns-clause-swept
returns-clause-swept c total last front first swept behind room =
    let from_is : c.max-from.result ≡ max c.args.extent.start c.args.sweep.end = c.max-from.ensures in
    let sets : (k : ℕ) → max c.args.extent.start c.args.sweep.end ≤ k → k < c.args.extent.start + c.args.extent.count → k < length c.args.used.now → get_or c.mark_stretch.new.used k false ≡ true =
    λ k low high within. c.in_ok-mark_stretch.ensures.sets (λ n from. fresh total (blocks_of c.args.extents.now) front first c.args.used.now c.args.out.now c.args.sweep last c.args.extent swept behind room n (omega (arith, from, from_is))) k (omega (arith, low, from_is)) high within in
    let keeps : (k : ℕ) → (k < max c.args.extent.start c.args.sweep.end) ⊎ (c.args.extent.start + c.args.extent.count ≤ k) → get_or c.mark_stretch.new.used k false ≡ get_or c.args.used.now k false =
    λ k out. c.mark_stretch.ensures.keeps k (subst (λ n. (k < n) ⊎ (c.args.extent.start + c.args.extent.count ≤ k)) (sym from_is) out) in
    subst (λ n. HasSwept total (blocks_of c.args.extents.now) (front ++ range_with_len c.args.extent.start c.args.extent.count) first c.mark_stretch.new.used c.tell_use.new.out (record { end = n; told = c.args.extent.start; met = false }) c.args.extent.start) (sym c.max-end.ensures)
    (sweep_again total (blocks_of c.args.extents.now) front first c.args.used.now c.args.out.now c.args.sweep last c.args.extent swept behind room c.mark_stretch.new.used c.mark_stretch.ensures.long sets keeps c.args.extent.start c.tell_use.new.out (omega (arith, c.if-extent-eq0.false)) (omega (arith, c.if-start-sweep.false))
    (c.in_ok-tell_use.ensures.found (differs total (blocks_of c.args.extents.now) front first c.args.used.now c.args.out.now c.args.sweep last c.args.extent swept behind room c.mark_stretch.new.used c.mark_stretch.ensures.long sets keeps (omega (arith, c.if-extent-eq0.false)) (omega (arith, c.if-start-sweep.false))))
    (tells_more total (blocks_of c.args.extents.now) front first c.args.used.now c.args.out.now c.args.sweep last c.args.extent swept behind room c.mark_stretch.new.used c.mark_stretch.ensures.long sets keeps c.tell_use.new.out (omega (arith, c.if-extent-eq0.false)) (omega (arith, c.if-start-sweep.false)) c.tell_use.ensures.each))

pub returns-clause-each : goal.returns-clause-each
returns-clause-each c total last front first swept behind room =
    let from_is : c.max-from.result ≡ max c.args.extent.start c.args.sweep.end = c.max-from.ensures in
    let sets : (k : ℕ) → max c.args.extent.start c.args.sweep.end ≤ k → k < c.args.extent.start + c.args.extent.count → k < length c.args.used.now → get_or c.mark_stretch.new.used k false ≡ true =
    λ k low high within. c.in_ok-mark_stretch.ensures.sets (λ n from. fresh total (blocks_of c.args.extents.now) front first c.args.used.now c.args.out.now c.args.sweep last c.args.extent swept behind room n (omega (arith, from, from_is))) k (omega (arith, low, from_is)) high within in
    let keeps : (k : ℕ) → (k < max c.args.extent.start c.args.sweep.end) ⊎ (c.args.extent.start + c.args.extent.count ≤ k) → get_or c.mark_stretch.new.used k false ≡ get_or c.args.used.now k false =
    λ k out. c.mark_stretch.ensures.keeps k (subst (λ n. (k < n) ⊎ (c.args.extent.start + c.args.extent.count ≤ k)) (sym from_is) out) in
    tells_more total (blocks_of c.args.extents.now) front first c.args.used.now c.args.out.now c.args.sweep last c.args.extent swept behind room c.mark_stretch.new.used c.mark_stretch.ensures.long sets keeps c.tell_use.new.out (omega (arith, c.if-extent-eq0.false)) (omega (arith, c.if-start-sweep.false)) c.tell_use.ensures.each
