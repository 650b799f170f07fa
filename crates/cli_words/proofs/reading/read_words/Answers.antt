use Rattle.cli_words.specs.Words.{texts}
use Rattle.cli_words.proofs.Usage.{not_wrong}
use Rattle.cli_words.proofs.reading.read_words.Goals as goal

pub returns-in_default-take_words-clause-wrong : goal.returns-in_default-take_words-clause-wrong
returns-in_default-take_words-clause-wrong c wrong = absurd (not_wrong (texts c.args.words.now) c.named_work.result c.named_work.ensures c.in_default.not-Wrong wrong)

pub returns-in-Ok-clause-wrong : goal.returns-in-Ok-clause-wrong
returns-in-Ok-clause-wrong c wrong = absurd (not_wrong (texts c.args.words.now) c.named_work.result c.named_work.ensures c.in_default.not-Wrong wrong)
