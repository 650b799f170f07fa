use Rattle.std.proofs.Common.{◌≡◌, ◌*◌, ◌<◌, ℕ, refl, sym, subst, arith}
use Rattle.file_io.specs.Walks.{StandsAt}
use Rattle.file_io.specs.declared.walk.Walk.{Walk}
use Rattle.file_io.proofs.WalkLaws.{block_whole, sector_here, sector_given, nothing_here}
use Rattle.file_io.proofs.walk.Walk.next.Goals as goal
use Rattle.file_io.proofs.walk.Walk.next.Goals.{then-self-eq0+in-Some, else-self-eq0}

pub returns-in-None-clause-sector : goal.returns-in-None-clause-sector
returns-in-None-clause-sector c = λ n s. nothing_here c.args.fork.now c.args.per_block n c.args.self.now c.requires.some s c.if-self-eq0.true c.in-None.ensures.block

-- a sector is left, of this block or of the next one
ready : (c : goal.After-self-1) (n : ℕ) → StandsAt c.args.fork.now c.args.per_block c.args.self.now n → StandsAt c.args.fork.now c.args.per_block c.if-self-eq0.self n × (0 < c.if-self-eq0.self.left)
ready c n s = elim c.if-self-eq0.branch [
  | then-self-eq0+in-Some w ↦
      let number : n ≡ s.place * c.args.per_block = omega (arith, s.number, w.if-self-eq0.true) in
      let whole = block_whole c.args.fork.now c.args.per_block w.next_block.new.at s.place n w.in-Some.block c.requires.some c.requires.few w.in-Some.ensures.bound (w.in-Some.ensures.block s.place s.cursor) (w.in-Some.ensures.moved s.place s.cursor refl) number in
      (subst (λ (v : Walk). StandsAt c.args.fork.now c.args.per_block v n) (sym w.self-is) whole, subst (λ (v : Walk). 0 < v.left) (sym w.self-is) c.requires.some)
  | else-self-eq0 w ↦
      let some : 0 < c.args.self.now.left = omega (arith, w.if-self-eq0.false) in
      (subst (λ (v : Walk). StandsAt c.args.fork.now c.args.per_block v n) (sym w.self-is) s, subst (λ (v : Walk). 0 < v.left) (sym w.self-is) some)
]

pub returns-clause-sector : goal.returns-clause-sector
returns-clause-sector c = λ n s. let r = ready c n s in sector_here c.args.fork.now c.args.per_block n c.if-self-eq0.self r.0 r.1

pub returns-clause-moved : goal.returns-clause-moved
returns-clause-moved c = λ n s some. let r = ready c n s in sector_given c.args.fork.now c.args.per_block n c.if-self-eq0.self r.0 r.1
