use Rattle.std.proofs.Common.{◌≡◌, ℕ, refl, sym, ◌∙◌}
use Rattle.fsck_scan.proofs.Counts.{count_is}
use Rattle.fsck_scan.proofs.map.take_header.Goals as goal

pub returns-then-count-ne3-clause-is : goal.returns-then-count-ne3-clause-is
returns-then-count-ne3-clause-is c = ((λ never. cc), λ is. absurd (c.if-count-ne3.true (c.count.ensures ∙ count_is c.args.node.now ∙ is.1)))

pub returns-clause-is : goal.returns-clause-is
returns-clause-is c = ((λ always. (c.check.ensures.0 c.if-not-check.false, sym (count_is c.args.node.now) ∙ sym c.count.ensures ∙ c.if-count-ne3.false)), λ is. refl)
