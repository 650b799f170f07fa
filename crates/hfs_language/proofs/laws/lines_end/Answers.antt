use Rattle.hfs_language.proofs.Lines.{lines-nil, lines_ended, lines_last}
use Rattle.hfs_language.proofs.laws.lines_end.Goals as goal

pub returns-clause-none : goal.returns-clause-none
returns-clause-none c = lines-nil

pub returns-clause-newline : goal.returns-clause-newline
returns-clause-newline c = lines_ended

pub returns-clause-last : goal.returns-clause-last
returns-clause-last c = lines_last
