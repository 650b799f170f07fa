-- Another fork has the extents that it had, where the overflow records of one fork alone are others.
use Rattle.std.proofs.Common.{◌≡◌, ◌≢◌, ℕ, ◌==◌, ◌&&◌, Bool, true, false, List, [], ◌∷◌, ◌++◌, refl, sym, ◌∙◌, ap}
use Rattle.std.specs.Prelude.{not, if◌then◌else◌}
use Rattle.std.specs.List.{flat_map}
use Rattle.std.proofs.lemmas.Bool.{and_parts, eqb-true, ne_eqb, true≢false}
use Rattle.hx_bytes.specs.declared.extents.ForkRecord.{ForkRecord}
use Rattle.hfs_model.specs.Sorted.{kept}
use Rattle.hfs_volume.specs.Forks.{extents_id, extents_of, in_use, is_of, overflow_in}
use Rattle.hfs_volume.specs.Records.{Overflow}

-- what a narrow test keeps of what a wide one kept
kept_within : {X : Type 0} (test wide : X → Bool) (xs : List X) → ((x : X) → test x ≡ true → wide x ≡ true) → kept test (kept wide xs) ≡ kept test xs
kept_within test wide [] implies = refl
kept_within {X} test wide (x ∷ xs) implies = by_tests (test x) (wide x) refl refl (kept_within test wide xs implies)
  where
    by_tests : (a b : Bool) → test x ≡ a → wide x ≡ b → kept test (kept wide xs) ≡ kept test xs → kept test ((if b then x ∷ [] else []) ++ kept wide xs) ≡ (if a then x ∷ [] else []) ++ kept test xs
    by_tests true true is wide_is later = (λ i. (if is i then x ∷ [] else []) ++ later i)
    by_tests true false is wide_is later = absurd (true≢false (sym (implies x is) ∙ wide_is))
    by_tests false true is wide_is later = (λ i. (if is i then x ∷ [] else []) ++ later i)
    by_tests false false is wide_is later = later

module _ (id kind : ℕ) (old new : List Overflow) (others : kept (λ more. not (is_of id kind more)) new ≡ kept (λ more. not (is_of id kind more)) old) (other other_kind : ℕ) (differ : other ≢ id) where
  apart : (more : Overflow) → is_of other other_kind more ≡ true → not (is_of id kind more) ≡ true
  apart more is =
      let same : more.id ≡ other = eqb-true more.id other (and_parts (more.id == other) (more.fork == other_kind) is).0 in
      (λ i. not ((same i == id) && (more.fork == kind))) ∙ (λ i. not (ne_eqb other id differ i && (more.fork == kind)))

  pub kept_alike : kept (is_of other other_kind) new ≡ kept (is_of other other_kind) old
  kept_alike =
      sym (kept_within (is_of other other_kind) (λ more. not (is_of id kind more)) new apart)
      ∙ ap (kept (is_of other other_kind)) others
      ∙ kept_within (is_of other other_kind) (λ more. not (is_of id kind more)) old apart

  overflow_alike : overflow_in new other other_kind ≡ overflow_in old other other_kind
  overflow_alike = ap (λ l. if other == extents_id then [] else l) kept_alike

-- the extents of a fork of another file
pub extents_alike : (id kind : ℕ) (old new : List Overflow) → kept (λ more. not (is_of id kind more)) new ≡ kept (λ more. not (is_of id kind more)) old → (other other_kind : ℕ) (fork : ForkRecord) → other ≢ id
    → extents_of new other other_kind fork ≡ extents_of old other other_kind fork
unfolding extents_of
extents_alike id kind old new others other other_kind fork differ = ap (λ l. in_use fork.extents.extents ++ flat_map (λ (m : Overflow). in_use m.extents) l) (overflow_alike id kind old new others other other_kind differ)
