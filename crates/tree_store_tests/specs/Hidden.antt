-- A disk that says nothing of what it holds.
use Rattle.std.specs.Prelude.{◌≡◌, ◌≤◌, ℕ, Bool, true, false, IsTrue, List}
use Rattle.sector_disk.specs.Disk.{State, IsDisk, IsImage, LeftNow}

-- the same disk, which tells neither its candidates nor what crashes leave
abbrev pub hidden : State → State
hidden disk = record {
  tells = false;
  tells_left = false;
  names = disk.names;
  sectors = disk.sectors;
  candidates = disk.candidates;
  told = disk.told;
  faults = disk.faults;
  sink_faults = disk.sink_faults;
  barriers = disk.barriers;
  clock = disk.clock;
}

pub hidden_is_disk : (disk : State) → IsDisk disk → IsDisk (hidden disk)
hidden_is_disk disk is = record { size = λ tells. absurd (cc tells); each = is.each; whole = is.whole }

pub hidden_counts_now : (disk : State) (t : ℕ) (image : List (List ℕ)) → IsTrue (hidden disk).tells_left → t ≤ disk.clock.moment → IsImage disk.candidates image → disk.clock.left t image disk.told
hidden_counts_now disk t image tells le is = absurd (cc tells)
