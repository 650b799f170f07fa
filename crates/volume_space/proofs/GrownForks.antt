-- The extents of a fork with a run behind it: they have room in the fork's own record where they are at most eight.
use Rattle.std.proofs.Common.{◌≡◌, ◌≢◌, inl, inr, ◌<◌, ◌≤◌, ℕ, ◌+◌, ◌^◌, ◌==◌, Bool, true, false, not, nat_lt, List, [], ◌∷◌, ◌++◌, length, refl, sym, ◌∙◌, ap, subst, arith, length-append}
use Rattle.std.specs.Prelude.{Contains, if◌then◌else◌}
use Rattle.std.specs.List.{flat_map}
use Rattle.std.proofs.lemmas.Bool.{and_parts, eqb-true}
use Rattle.std.proofs.lemmas.List.{append-nil, take_all}
use Rattle.hx_bytes.specs.declared.extents.Extent.{Extent}
use Rattle.hx_bytes.specs.declared.extents.ForkRecord.{ForkRecord}
use Rattle.fork_map.specs.Cut.{join, touch}
use Rattle.hfs_volume.specs.Blocks.{GoOn, GoesOn}
use Rattle.hfs_volume.specs.Forks.{data_kind, extents_of, in_use, is_full, overflow_in}
use Rattle.hfs_volume.specs.Records.{Overflow}
use Rattle.hfs_volume.proofs.Members.{behind, first_or_later}
use Rattle.overflow.specs.Records.{eight_at}
use Rattle.overflow.proofs.Cutting.{AreUsed, eight_used, in_use_used}

-- ---- two lists of extents put together at a run

run_used : (e f : Extent) → e.count ≢ 0 → f.count ≢ 0 → (b : Bool) → AreUsed (if b then record { start = e.start; count = e.count + f.count } ∷ [] else e ∷ f ∷ [])
run_used e f first second true = (λ none. first (omega (arith, none)), tt)
run_used e f first second false = (first, (second, tt))

pub join_used : (fork : List Extent) (run : Extent) → AreUsed fork → run.count ≢ 0 → AreUsed (join fork (run ∷ []))
join_used [] run used some = (some, tt)
join_used (e ∷ []) run used some = run_used e run used.0 some (touch e run)
join_used (e ∷ next ∷ rest) run used some = (used.0, join_used (next ∷ rest) run used.1 some)

one_more : (e f : Extent) (b : Bool) → length (if b then record { start = e.start; count = e.count + f.count } ∷ [] else e ∷ f ∷ []) ≤ 2
one_more e f true = omega arith
one_more e f false = omega arith

pub join_few : (fork : List Extent) (run : Extent) → length (join fork (run ∷ [])) ≤ length fork + 1
join_few [] run = omega arith
join_few (e ∷ []) run = omega (arith, one_more e run (touch e run))
join_few (e ∷ next ∷ rest) run = omega (arith, join_few (next ∷ rest) run)

-- each of them ends where one of both ends, or before
abbrev EndsBy : ℕ → Extent → Type 0
EndsBy total e = e.start + e.count ≤ total

run_ends : (total : ℕ) (e f : Extent) → EndsBy total e → EndsBy total f → (b : Bool) → touch e f ≡ b → (x : Extent) → Contains (if b then record { start = e.start; count = e.count + f.count } ∷ [] else e ∷ f ∷ []) x → EndsBy total x
run_ends total e f first second true joins x has = elim (first_or_later (record { start = e.start; count = e.count + f.count }) x [] has) [
  | inl is ↦ subst (λ (y : Extent). EndsBy total y) (sym is) (let seam = eqb-true (e.start + e.count) f.start (and_parts (e.start + e.count == f.start) (nat_lt (e.count + f.count) (2 ^ 32)) joins).0 in omega (arith, seam, second))
  | inr none ↦ absurd (omega (arith, none.1))
]
run_ends total e f first second false joins x has = elim (first_or_later e x (f ∷ []) has) [
  | inl is ↦ subst (λ (y : Extent). EndsBy total y) (sym is) first
  | inr later ↦ elim (first_or_later f x [] later) [
    | inl is ↦ subst (λ (y : Extent). EndsBy total y) (sym is) second
    | inr none ↦ absurd (omega (arith, none.1))
  ]
]

pub join_ends : (total : ℕ) (fork : List Extent) (run : Extent) → ((x : Extent) → Contains fork x → EndsBy total x) → EndsBy total run → (x : Extent) → Contains (join fork (run ∷ [])) x → EndsBy total x
join_ends total [] run each last x has = elim (first_or_later run x [] has) [
  | inl is ↦ subst (λ (y : Extent). EndsBy total y) (sym is) last
  | inr none ↦ absurd (omega (arith, none.1))
]
join_ends total (e ∷ []) run each last x has = run_ends total e run (each e (0, omega arith, refl)) last (touch e run) refl x has
join_ends total (e ∷ next ∷ rest) run each last x has = elim (first_or_later e x (join (next ∷ rest) (run ∷ [])) has) [
  | inl is ↦ subst (λ (y : Extent). EndsBy total y) (sym is) (each e (0, omega arith, refl))
  | inr later ↦ join_ends total (next ∷ rest) run (λ y there. each y (behind e y (next ∷ rest) there)) last x later
]

-- ---- a fork of fewer than eight extents has no overflow records

full_all : (xs : List Extent) → is_full xs ≡ true → in_use xs ≡ xs
full_all [] full = refl
full_all (x ∷ xs) full =
    let parts = and_parts (not (x.count == 0)) (is_full xs) full in
    (λ i. (if parts.0 i then x ∷ [] else []) ++ in_use xs) ∙ ap (λ l. x ∷ l) (full_all xs parts.1)

pub no_more : (many : ℕ) (xs : List Extent) (more : List Overflow) → length xs ≡ 8 → length (in_use xs) < 8 → GoOn many (is_full xs) more → more ≡ []
no_more many xs [] eight few goes = refl
no_more many xs (m ∷ more) eight few goes = absurd (omega (arith, few, eight, ap (λ (l : List Extent). length l) (full_all xs goes.1)))

module _ (id : ℕ) (overflow : List Overflow) (fork : ForkRecord) (eight : length fork.extents.extents ≡ 8) (goes : GoesOn overflow (record { id = id; kind = data_kind; fork = fork }))
    (few : length (extents_of overflow id data_kind fork) < 8)
  where
    front_few : length (in_use fork.extents.extents) < 8
    unfolding extents_of
    front_few = omega (arith, few, length-append (in_use fork.extents.extents) (flat_map (λ (m : Overflow). in_use m.extents) (overflow_in overflow id data_kind)))

    pub none_over : overflow_in overflow id data_kind ≡ []
    none_over = no_more _ fork.extents.extents (overflow_in overflow id data_kind) eight front_few goes

    pub front_alone : extents_of overflow id data_kind fork ≡ in_use fork.extents.extents
    unfolding extents_of
    front_alone = ap (λ (l : List Overflow). in_use fork.extents.extents ++ flat_map (λ (m : Overflow). in_use m.extents) l) none_over ∙ append-nil (in_use fork.extents.extents)

    -- and its record has room for one extent more
    module _ (run : Extent) (some : run.count ≢ 0) (other : ForkRecord) (is : other.extents ≡ eight_at (join (extents_of overflow id data_kind fork) (run ∷ [])) 0) where
      abbrev joined : List Extent
      joined = join (extents_of overflow id data_kind fork) (run ∷ [])

      used : AreUsed (extents_of overflow id data_kind fork)
      used = subst AreUsed (sym front_alone) (in_use_used fork.extents.extents)

      pub front_longer : in_use other.extents.extents ≡ joined
      front_longer =
          ap (λ e. in_use e.extents) is ∙ eight_used joined 0 (join_used (extents_of overflow id data_kind fork) run used some)
          ∙ take_all 8 joined (omega (arith, few, join_few (extents_of overflow id data_kind fork) run))

      pub longer_is : extents_of overflow id data_kind other ≡ joined
      unfolding extents_of
      longer_is = ap (λ (l : List Overflow). in_use other.extents.extents ++ flat_map (λ (m : Overflow). in_use m.extents) l) none_over ∙ append-nil (in_use other.extents.extents) ∙ front_longer
