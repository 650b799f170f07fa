-- What is found, and what was found before; and what holds of an option.
use Rattle.std.proofs.Common.{◌≡◌, ◌⊎◌, ◌↔◌, ◌<◌, ◌≤◌, Bool, false, List, [], ◌∷◌, length, inl, inr, refl, subst, arith, ⊎_elim}
use Rattle.std.specs.Prelude.{Contains, IsTrue, All, Option, None, Some, MatchOption, IfSome}
use Rattle.alloc_bitmap.specs.Apart.{AreApart}
use Rattle.btree_node.specs.Keys.{IsCatalogKey}
use Rattle.btree_node.specs.Levels.{Pair}
use Rattle.fsck_list.specs.declared.finding.Finding.{Finding as Listed}
use Rattle.hfs_volume.specs.Blocks.{used_in}
use Rattle.hfs_volume.specs.Broken.{IsUnmet, use_wants}
use Rattle.hfs_volume.specs.Content.{VolumeState}
use Rattle.hfs_volume.proofs.Members.{all_of, each_of}
use Rattle.fsck_core.specs.Passed.{Passed, IsBrokenList}
use Rattle.fsck_core.specs.Wants.{as_found}
use Rattle.fsck_core.specs.Judged.{AddsUnmet}
use Rattle.fsck_core.proofs.Joining.{passed_first}

-- what holds of an option that is none, and of one that is some value
pub at_none : {X : Type 0} (o : Option X) (A : Type 0) (P : X → Type 0) → o ≡ None → MatchOption o A P → A
at_none o A P is holds = subst (λ p. MatchOption p A P) is holds

pub at_some : {X : Type 0} (o : Option X) (x : X) (A : Type 0) (P : X → Type 0) → o ≡ Some x → MatchOption o A P → P x
at_some o x A P is holds = subst (λ p. MatchOption p A P) is holds

pub some_empty : {X : Type 0} (o : Option X) (x : X) (A : Type 0) → o ≡ Some x → IfSome o (λ _. A) → A
some_empty o x A is holds = subst (λ p. IfSome p (λ _. A)) is holds

pub some_both : {X : Type 0} (o : Option X) (x : X) (P : X → Type 0) → o ≡ Some x → IfSome o P → P x
some_both o x P is holds = subst (λ p. IfSome p P) is holds

pub long_keys : (pairs : List Pair) → All (λ (pair : Pair). IsCatalogKey pair.0) pairs → All (λ (pair : Pair). 8 ≤ length pair.0) pairs
long_keys pairs keys = all_of (λ (pair : Pair). 8 ≤ length pair.0) pairs (λ pair stands. let key = each_of (λ (p : Pair). IsCatalogKey p.0) pairs keys pair stands in key.long)

-- where a list begins with nothing, all that it has was added
pub all_new : (P : Listed → Type 0) (old new : List Listed) → old ≡ [] → ((f : Listed) → Contains new f → Contains old f ⊎ P f) → (f : Listed) → Contains new f → P f
all_new P old new none each f stands = ⊎_elim
    (λ (before : Contains old f). absurd (let there : Contains [] f = subst (λ (l : List Listed). Contains l f) none before in omega (arith, there.1)))
    (λ (added : P f). added)
    (each f stands)

pub nothing : (list : List Listed) → length list ≡ 0 → list ≡ []
nothing [] is = refl
nothing (f ∷ rest) is = absurd (omega (arith, is))

pub uses_passed : (volume : VolumeState) (old new : List Listed) (met : Bool) → old ≡ [] → IsTrue met ↔ AreApart (used_in volume) → (met ≡ false → 0 < length new) → AddsUnmet 18 (use_wants volume) old new
    → Passed (IsBrokenList volume) (AreApart (used_in volume)) old new
uses_passed volume old new met none tells found each = passed_first (IsBrokenList volume) (AreApart (used_in volume)) old new met none tells found
    (λ f stands. ⊎_elim (λ (before : Contains old f). inl before) (λ (unmet : IsUnmet 18 (as_found f) (use_wants volume)). inr (inr (inr (inr (inr (inr (inr (inr (inr (inr unmet)))))))))) (each f stands))
