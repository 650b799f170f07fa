-- A peek over a disk, as a view of sectors.
use Rattle.std.specs.Prelude.{◌≡◌, ℕ, Bool, true, false, IsTrue, List, ◌++◌, length, if◌then◌else◌, ◌==◌, refl}
use Rattle.std.specs.List.{range_with_len}
use Rattle.std.proofs.Common.{◌∙◌}
use Rattle.std.proofs.lemmas.List.{length-map}
use Rattle.std.proofs.lemmas.List.FromFn.{length-range_with_len}
use Rattle.sector_disk.specs.Lists.{Content, last}
use Rattle.sector_disk.specs.Disk.{State, IsDisk, content}
use Rattle.sector_disk.specs.Space.{Space}
use Rattle.jnl_replay.specs.Peeking.{peeked, seen, place_in}
use Rattle.jnl_replay.specs.Text.{words}
use Rattle.jnl_replay.specs.declared.index.Peek.{Peek}

-- what the peek shows of a content of so many sectors; of a disk of another size it shows the disk's own
abbrev pub shown : Peek → ℕ → Content → Content
shown peek sectors content = if sectors == peek.sectors then peeked peek content else content

-- The peek and the disk together. A view has no room for puts, and tells nothing of crashes.
abbrev pub view_of : List ℕ → Peek → State → Space
view_of names peek disk = record {
  tells = disk.tells;
  names = names ++ disk.names;
  tells_left = false;
  told = disk.told;
  sink_faults = disk.sink_faults;
  barriers = disk.barriers;
  sectors = disk.sectors;
  content = shown peek disk.sectors (content disk);
  durable = shown peek disk.sectors (content disk);
  spilled = λ s. ⊥;
  live = λ s. ⊥;
  closed = λ s. ⊥;
  put = λ s. false;
  spare = 0;
  faults = disk.faults;
  clock = record { moment = disk.clock.moment; left = λ t image told. ⊥ };
}

shown_size : (same : Bool) (peek : Peek) (c : Content) → length (if same then peeked peek c else c) ≡ length c
shown_size true peek c = length-map (range_with_len 0 (length c)) (λ at. seen (words peek.text c) c at (place_in peek at)) ∙ length-range_with_len 0 (length c)
shown_size false peek c = refl

pub view_size : (names : List ℕ) (peek : Peek) (disk : State) → IsDisk disk → IsTrue disk.tells → length (view_of names peek disk).content ≡ disk.sectors
view_size names peek disk is tells = shown_size (disk.sectors == peek.sectors) peek (content disk) ∙ length-map disk.candidates last ∙ is.size tells
