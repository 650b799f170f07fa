use Rattle.std.proofs.Common.{◌≡◌, sym, ◌∙◌}
use Rattle.fsck_repair.proofs.right.is_right_value.Goals as goal

pub returns-then-not-something : goal.returns-then-not-something
returns-then-not-something c records are long is right = c.in_ok-something.ensures records are.private_is long is c.if-not-something.true

pub returns : goal.returns
returns c records are long is right = sym (c.in_ok-counted.ensures records are long is) ∙ sym c.deref.ensures.value ∙ c.is_same.ensures right
