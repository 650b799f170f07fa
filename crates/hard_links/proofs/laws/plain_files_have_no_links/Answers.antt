use Rattle.hard_links.proofs.LinkRules.{plain_unnamed}
use Rattle.hard_links.proofs.laws.plain_files_have_no_links.Goals as goal

pub returns : goal.returns
returns c = plain_unnamed
