-- Bytes are told piece by piece.
use Rattle.std.proofs.Common.{◌≡◌, ◌≤◌, ◌+◌, ◌++◌, ℕ, List, IsTrue, length, take, drop, refl, sym, ◌∙◌, ap, subst, arith, append_assoc, take-add, length-drop}
use Rattle.std.proofs.lemmas.List.{append-nil}
use Rattle.sector_disk.specs.Clock.{TimePasses}
use Rattle.sector_disk.specs.Disk.{State, IsImage, SameDisk, ToldPrefix}
use Rattle.sector_disk.proofs.Passing.{none_passes, both_pass}
use Rattle.sector_disk.proofs.Writing.{same_after}

-- the first k bytes were told
pub record ToldSo (old : State) (bytes : List ℕ) (k : ℕ) (now : State) : Type 0 where
  pub inside : k ≤ length bytes
  pub told : IsTrue old.tells → now.told ≡ old.told ++ take k bytes
  pub candidates : now.candidates ≡ old.candidates
  pub time : IsTrue old.tells → TimePasses old.clock now.clock (λ image told. IsImage old.candidates image × ToldPrefix old.told bytes told)
  pub barriers : now.barriers ≡ old.barriers
  pub faults : now.faults ≡ old.faults
  pub same : SameDisk old now
  pub sink : old.sink_faults ≤ now.sink_faults

pub told_none : (old : State) (bytes : List ℕ) → ToldSo old bytes 0 old
told_none old bytes = record {
  inside = omega arith;
  told = λ tells. sym (append-nil old.told);
  candidates = refl;
  time = λ tells. none_passes old.clock _;
  barriers = refl;
  faults = refl;
  same = record { tells = refl; tells_left = refl; names = refl; sectors = refl };
  sink = omega arith;
}

front_more : (old bytes : List ℕ) (k j : ℕ) (before now : List ℕ) → before ≡ old ++ take k bytes → now ≡ before ++ take j (drop k bytes) → now ≡ old ++ take (k + j) bytes
front_more old bytes k j before now was is =
    is ∙ ap (λ (l : List ℕ). l ++ take j (drop k bytes)) was ∙ append_assoc old (take k bytes) (take j (drop k bytes)) ∙ ap (λ (l : List ℕ). old ++ l) (sym (take-add k j bytes))

pub front_after : (old bytes : List ℕ) (k : ℕ) (before now : List ℕ) → k ≤ length bytes → before ≡ old ++ take k bytes → ToldPrefix before (drop k bytes) now → ToldPrefix old bytes now
front_after old bytes k before now inside was front = (k + front.0, omega (arith, inside, front.1, length-drop k bytes), front_more old bytes k front.0 before now was front.2)

pub time_told : (old now new : State) (bytes : List ℕ) (k : ℕ) → ToldSo old bytes k now → TimePasses now.clock new.clock (λ image told. IsImage now.candidates image × ToldPrefix now.told (drop k bytes) told)
    → IsTrue old.tells → TimePasses old.clock new.clock (λ image told. IsImage old.candidates image × ToldPrefix old.told bytes told)
time_told old now new bytes k so_far time tells =
    both_pass old.clock now.clock new.clock _ _ _ (so_far.time tells) time (λ image told p. p)
    (λ image told p. (subst (λ d. IsImage d image) so_far.candidates p.0, front_after old.told bytes k now.told told so_far.inside (so_far.told tells) p.1))

-- one piece more
pub told_more : (old now new : State) (bytes : List ℕ) (k j : ℕ) → ToldSo old bytes k now → j ≤ length (drop k bytes)
    → (IsTrue now.tells → new.told ≡ now.told ++ take j (drop k bytes)) → new.candidates ≡ now.candidates → new.barriers ≡ now.barriers → new.faults ≡ now.faults → SameDisk now new
    → TimePasses now.clock new.clock (λ image told. IsImage now.candidates image × ToldPrefix now.told (drop k bytes) told) → now.sink_faults ≤ new.sink_faults → ToldSo old bytes (k + j) new
told_more old now new bytes k j so_far fits told candidates barriers faults same time sink = record {
  inside = omega (arith, fits, so_far.inside, length-drop k bytes);
  told = λ tells. front_more old.told bytes k j now.told new.told (so_far.told tells) (told (subst IsTrue (sym so_far.same.tells) tells));
  candidates = candidates ∙ so_far.candidates;
  time = time_told old now new bytes k so_far time;
  barriers = barriers ∙ so_far.barriers;
  faults = faults ∙ so_far.faults;
  same = same_after old now new so_far.same same;
  sink = omega (arith, sink, so_far.sink);
}

pub unsure_told : (old now new : State) (bytes : List ℕ) (k : ℕ) → ToldSo old bytes k now → (IsTrue now.tells → ToldPrefix now.told (drop k bytes) new.told) → IsTrue old.tells → ToldPrefix old.told bytes new.told
unsure_told old now new bytes k so_far unsure tells = front_after old.told bytes k now.told new.told so_far.inside (so_far.told tells) (unsure (subst IsTrue (sym so_far.same.tells) tells))
