-- A sector is read, and then sectors are written behind a barrier.
use Rattle.std.proofs.Common.{◌≡◌, List, ℕ, subst, ◌∷◌, []}
use Rattle.sector_disk.specs.Lists.{Content}
use Rattle.sector_disk.specs.Disk.{State, Candidates, CrashesLeave, IsOf, Mixes, OnlyReads}
use Rattle.sector_disk.proofs.Stages.{leaves_both}
use Rattle.sector_disk.proofs.Writing.{leaves_read}

pub read_mixes : (s0 s1 : State) (first : ℕ) (list : Content) → OnlyReads s0 s1 → CrashesLeave s0 s1 (Mixes s0.candidates first list)
read_mixes s0 s1 first list r = leaves_read (IsOf first list) s0 s1 r

pub read_then_mixes : (s0 s1 s2 : State) (first : ℕ) (value given : List ℕ) → OnlyReads s0 s1 → value ≡ given → CrashesLeave s1 s2 (Mixes s1.candidates first (value ∷ [])) → CrashesLeave s0 s2 (Mixes s0.candidates first (given ∷ []))
read_then_mixes s0 s1 s2 first value given r same second =
    leaves_both s0 s1 s2 (Mixes s0.candidates first (given ∷ [])) (Mixes s1.candidates first (value ∷ [])) (Mixes s0.candidates first (given ∷ [])) (read_mixes s0 s1 first (given ∷ []) r) r.sink second
    (λ image m. m)
    (λ image m. subst (λ (d : Candidates). Mixes d first (given ∷ []) image) r.candidates (subst (λ (v : List ℕ). Mixes s1.candidates first (v ∷ []) image) same m))
