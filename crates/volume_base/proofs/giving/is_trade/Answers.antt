use Rattle.std.proofs.Common.{◌≡◌, not, length, sym, ◌∙◌, ap}
use Rattle.std.specs.Prelude.{◌==◌, ◌||◌}
use Rattle.volume_base.proofs.Traded.{something_traded}
use Rattle.volume_base.proofs.giving.is_trade.Goals as goal

pub returns-then-touched-ne0 : goal.returns-then-touched-ne0
returns-then-touched-ne0 c = sym (something_traded c.args.touched c.args.old.now (λ none empty. c.if-touched-ne0.true none))

pub returns : goal.returns
returns c = ap not c.is_empty.ensures ∙ sym (ap (λ n. not (n == 0) || not (length c.args.old.now == 0)) c.if-touched-ne0.false)
