-- A job that tells nothing of what it asked and heard.
use Rattle.std.specs.Prelude.{[], false}
use Rattle.volume_look.specs.Talk.{Talk}

-- what is seen of it
abbrev pub untold : Talk
untold = record { tells = false; asked = []; heard = []; ended = false }
