-- Zeros that a place holds from a sector on, and runs of zeros that are put there.
use Rattle.std.proofs.Common.{◌≡◌, ◌∙◌, ◌<◌, ◌≤◌, ◌+◌, ◌-◌, ◌++◌, ◌∷◌, [], ℕ, ⊎_elim, List, Option, Some, None, Result, Ok, Err, IsTrue, IfSome, OnOk, OnErr, length, take, drop, replicate, refl, sym, ap, subst, arith}
use Rattle.std.proofs.lemmas.Bool.{cases_lt}
use Rattle.std.proofs.lemmas.List.{ext_get_or, get_or-drop, get_or-replicate}
use Rattle.sector_disk.specs.Lists.{Content, sector, put_sectors}
use Rattle.sector_disk.proofs.Stages.{put_before, put_behind, put_inside, length-put}
use Rattle.file_rig.specs.Place as specs
use Rattle.file_rig.specs.Place.{AreLeft, HoldsZerosFrom, SameOutside, zeros}

-- zeros that are put over zeros change nothing
pub put_zeros : (held run : Content) (from first : ℕ) → HoldsZerosFrom from held → from ≤ first → first + length run ≤ length held → run ≡ replicate (length run) zeros → held ≡ put_sectors held first run
put_zeros held run from first blank later fits all =
    ext_get_or [] held (put_sectors held first run) (sym (length-put held first run fits)) (λ at inside.
    ⊎_elim (λ before. sym (put_before held first run fits at before))
    (λ start. ⊎_elim (λ end.
    let k = at - first in
    let place : first + k ≡ at = omega (arith, start) in
    let within : k < length run = omega (arith, start, end) in
    let is : sector run k ≡ zeros = ap (λ (l : Content). sector l k) all ∙ get_or-replicate (length run) k zeros [] within in
    blank at (omega (arith, later, start)) inside ∙ sym (ap (sector (put_sectors held first run)) (sym place) ∙ put_inside held first run fits k within ∙ is))
    (λ behind. sym (put_behind held first run fits at behind)) (cases_lt at (first + length run)))
    (cases_lt at first))

-- the zeros that are left where a run is put
pub zeros_behind_put : (held run : Content) (from first behind : ℕ) → HoldsZerosFrom from held → from ≤ behind → first + length run ≤ behind → first + length run ≤ length held → HoldsZerosFrom behind (put_sectors held first run)
zeros_behind_put held run from first behind blank later past fits at where_ inside =
    put_behind held first run fits at (omega (arith, past, where_)) ∙ blank at (omega (arith, later, where_)) (omega (arith, inside, length-put held first run fits))

-- the zeros that are left where so many sectors may have changed
pub zeros_behind : (old new : Content) (from first count behind : ℕ) → HoldsZerosFrom from old → from ≤ behind → first + count ≤ behind → SameOutside first count old new → HoldsZerosFrom behind new
zeros_behind old new from first count behind blank later past same at where_ inside =
    let end = first + count in
    let k = at - end in
    let place : end + k ≡ at = omega (arith, past, where_) in
    ap (sector new) (sym place) ∙ sym (get_or-drop end new k []) ∙ ap (λ (l : Content). sector l k) same.behind ∙ get_or-drop end old k [] ∙ ap (sector old) place
    ∙ blank at (omega (arith, later, where_)) (omega (arith, inside, same.size))

-- a run of zeros that isn't written stands there all the same
pub skipped : (old now : specs.Place) (known : Option ℕ) (run : Content) (first : ℕ) → now ≡ old → (IsTrue now.tells → IfSome known (λ from. HoldsZerosFrom from now.held)) → IsTrue old.tells
    → ((from : ℕ) × (known ≡ Some from) × (from ≤ first)) → first + length run ≤ length old.held → run ≡ replicate (length run) zeros → now.held ≡ put_sectors old.held first run
skipped old now known run first same sound tells where_ fits all =
    let still : IsTrue now.tells = subst (λ (s : specs.Place). IsTrue s.tells) (sym same) tells in
    let blank : HoldsZerosFrom where_.0 now.held = subst (λ (k : Option ℕ). IfSome k (λ from. HoldsZerosFrom from now.held)) where_.1 (sound still) in
    subst (λ (s : specs.Place). now.held ≡ put_sectors s.held first run) same (put_zeros now.held run where_.0 first blank where_.2 (subst (λ (s : specs.Place). first + length run ≤ length s.held) (sym same) fits) all)

-- the zeros that are left hold when the run was written, and when that failed
pub left_hold : {E : Type 0} (old new : specs.Place) (known left : Option ℕ) (run : Content) (first : ℕ) (result : Result (Unit {0}) E) → (IsTrue old.tells → IfSome known (λ from. HoldsZerosFrom from old.held)) → IfSome left (AreLeft known (first + length run))
    → (IsTrue old.tells → OnOk result (new.held ≡ put_sectors old.held first run)) → (IsTrue old.tells → OnErr result (SameOutside first (length run) old.held new.held))
    → new.tells ≡ old.tells → (IsTrue old.tells → first + length run ≤ length old.held) → IsTrue new.tells → IfSome left (λ from. HoldsZerosFrom from new.held)
left_hold old new known None run first result sound are written unsure same fits tells = tt
left_hold old new known (Some behind) run first (Ok done) sound are written unsure same fits tells =
    let was : IsTrue old.tells = subst IsTrue same tells in
    let blank : HoldsZerosFrom are.0 old.held = subst (λ (k : Option ℕ). IfSome k (λ from. HoldsZerosFrom from old.held)) are.1 (sound was) in
    subst (HoldsZerosFrom behind) (sym (written was)) (zeros_behind_put old.held run are.0 first behind blank are.2 are.3 (fits was))
left_hold old new known (Some behind) run first (Err why) sound are written unsure same fits tells =
    let was : IsTrue old.tells = subst IsTrue same tells in
    let blank : HoldsZerosFrom are.0 old.held = subst (λ (k : Option ℕ). IfSome k (λ from. HoldsZerosFrom from old.held)) are.1 (sound was) in
    zeros_behind old.held new.held are.0 first (length run) behind blank are.2 are.3 (unsure was)
