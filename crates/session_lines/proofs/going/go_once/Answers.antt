use Rattle.std.proofs.Common.{inl}
use Rattle.session_lines.proofs.going.go_once.Goals as goal

pub returns-in_ok-said-in-Ok-Some-clause-goes : goal.returns-in_ok-said-in-Ok-Some-clause-goes
returns-in_ok-said-in-Ok-Some-clause-goes g c tells capacity committed now shrunk stands =
    let asked = c.in-Ok-Some.ensures.made in
    let there = c.in-Ok-Some.field-0-is in
    inl (
      c.in-Ok-Some.command,
      c.in_ok-said-in-Ok-Some.said,
      cc,
      c.hear.ensures.heard,
      c.in_ok-said-in-Ok-Some.ensures.goes tells capacity committed now shrunk stands,
    )
