use Rattle.cmd_lang.specs.Written.{IsReadTo}
use Rattle.cmd_lang.proofs.spelled.spelled_bytes.Given as goal

abbrev pub invariant-loop : goal.invariant-loop
invariant-loop l = IsReadTo l.text l.value.items l.rest
