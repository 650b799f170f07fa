use Rattle.session_lines.proofs.Spoken.{broke_line, spoke_line}
use Rattle.session_lines.proofs.laws.lines_follow_lines.Goals as goal

pub returns-clause-served : goal.returns-clause-served
returns-clause-served c start past handles files spoke line own turn changes none owns few have is = spoke_line start past handles files spoke line own turn changes none owns few have is

pub returns-clause-cut : goal.returns-clause-cut
returns-clause-cut c start past handles files spoke line own turn changes none part = broke_line start past handles files spoke line own turn changes none part
