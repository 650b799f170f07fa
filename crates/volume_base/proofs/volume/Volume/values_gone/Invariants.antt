use Rattle.std.proofs.Common.{◌≡◌, ◌≤◌, ◌*◌, IsTrue, ℕ, List, length, map, take}
use Rattle.std.specs.Prelude.{⊤, Ok, sum}
use Rattle.hfs_volume.specs.Content.{volume_of}
use Rattle.hfs_volume.specs.Weight.{freed_blocks, further_records}
use Rattle.volume_base.specs.Frame.{Looked, Serves}
use Rattle.volume_base.proofs.volume.Volume.values_gone.Given as goal

abbrev pub invariant-loop-name : goal.invariant-loop-name
invariant-loop-name g l = let old = g.P.SectorView.space l.fn.space in record {
  records : IsTrue old.tells → l.all.records ≡ sum (map (λ (name : List ℕ). further_records (volume_of old.content) l.id name) (take l.name-index l.names));
  freed : IsTrue old.tells → l.all.freed ≡ sum (map (λ (name : List ℕ). freed_blocks (volume_of old.content) l.id name) (take l.name-index l.names));
  blocks : IsTrue old.tells → l.all.blocks ≡ 0;
  few_blocks : l.all.blocks ≤ l.name-index * 4294967295;
  few_records : l.all.records ≤ l.name-index * 4294967295;
  few_freed : l.all.freed ≤ l.name-index * 4294967295;
  none : length l.names ≡ 0 → (l.all.records ≡ 0) × (l.all.freed ≡ 0) × (l.all.blocks ≡ 0);
  serves : Serves l.self (g.P.SectorView.space l.space);
  looked : Looked {T = ⊤} g.P.SectorView.space g.P.SectorView.follows l.fn.self l.self l.fn.space l.space (Ok tt);
}
