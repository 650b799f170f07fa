use Rattle.volume_space.proofs.putting.are_used.Goals as goal
