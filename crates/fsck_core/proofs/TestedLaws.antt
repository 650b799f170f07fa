-- Parts of rule 17 that are judged one after the other.
use Rattle.std.proofs.Common.{◌≡◌, ◌≢◌, cond, ◌⊎◌, ◌↔◌, ◌<◌, ◌≤◌, ℕ, ◌+◌, Bool, true, false, not, ◌==◌, ◌&&◌, ◌||◌, List, [], ◌∷◌, ◌++◌, length, map, take, get_or, inl, inr, refl, sym, ◌∙◌, ap, subst, arith, ⊎_elim}
use Rattle.std.specs.Prelude.{All, Contains, IsTrue, Result, Ok, Err, IfOk, Option, Some, None, MatchOption, is_some}
use Rattle.std.specs.List.{list_any, count_by}
use Rattle.std.proofs.lemmas.List.Sums.{sum_by-cons}
use Rattle.std.proofs.lemmas.Bool.{true≢false, eqb-true, eq-eqb, ne_eqb, or_cases, or_right}
use Rattle.std.proofs.lemmas.List.{take_more, take_all, get_or_default}
use Rattle.std.proofs.lemmas.List.Elements.{Contains-append_left, Contains-append_right, Contains-append_cases}
use Rattle.hfs_volume.specs.Forks.{Owned, is_of, extents_id, bad_blocks_id}
use Rattle.hfs_volume.specs.Blocks.{GoOn, HasFork}
use Rattle.hfs_volume.specs.Broken.{IsFailed}
use Rattle.hfs_volume.proofs.Members.{all_of, each_of, map_cases, map_stands, at_front, behind, first_or_later, in_one}
use Rattle.fsck_list.specs.declared.finding.Finding.{Finding}
use Rattle.fsck_core.specs.Overflows.{overflow_in}
use Rattle.fsck_core.specs.Owners.{owned_in, owned_all, follow}
use Rattle.fsck_list.specs.Kept.{IsListed}
use Rattle.fsck_core.specs.Decided.{StaysListed}
use Rattle.fsck_core.specs.Owned.{AddsFailed, Tested, takes, takes_id}
use Rattle.fsck_core.specs.declared.follow.OwnedFork.{OwnedFork}
use Rattle.fsck_core.specs.declared.overflow.OverflowRow.{OverflowRow}
use Rattle.fsck_core.specs.declared.follow.Front.{Front}
use Rattle.fsck_core.proofs.WantLaws.{both_true, one_false}
use Rattle.fsck_core.proofs.ToldLaws.{told_two, told_unless}
use Rattle.fsck_core.proofs.OwnerLaws.{mine, many, goes}

pub tested_none : (Fails : ℕ → Type 0) (P : Type 0) (list : List Finding) → P → Tested Fails P list list true
tested_none Fails P list holds = record {
  tells = (λ is. holds, λ p. refl);
  found = λ is. absurd (true≢false is);
  still = λ f listed. listed;
  each = λ f stands. inl stands;
}

pub adds_two : (Fails : ℕ → Type 0) (old mid new : List Finding) → AddsFailed Fails old mid → AddsFailed Fails mid new → AddsFailed Fails old new
adds_two Fails old mid new first second f stands = ⊎_elim (λ before. first f before) (λ fails. inr fails) (second f stands)

pub tested_both : (Fails : ℕ → Type 0) (P Q : Type 0) (old mid new : List Finding) (one other both : Bool) → both ≡ (other && one) → Tested Fails P old mid one → Tested Fails Q mid new other → Tested Fails (P × Q) old new both
tested_both Fails P Q old mid new one other both is first second = record {
  tells = (
    λ holds. let parts = both_true other one (sym is ∙ holds) in (first.tells.0 parts.1, second.tells.0 parts.0),
    λ holds. is ∙ (λ i. (second.tells.1 holds.1 i) && (first.tells.1 holds.0 i)),
  );
  found = told_two (λ f. IsFailed 17 f Fails) one other both mid new is second.found first.found second.still;
  still = λ f listed. second.still f (first.still f listed);
  each = adds_two Fails old mid new first.each second.each;
}

pub tested_as : (Fails : ℕ → Type 0) (P Q : Type 0) (old new : List Finding) (met : Bool) → (P → Q) → (Q → P) → Tested Fails P old new met → Tested Fails Q old new met
tested_as Fails P Q old new met to from tested = record {
  tells = (λ is. to (tested.tells.0 is), λ q. tested.tells.1 (from q));
  found = tested.found;
  still = tested.still;
  each = tested.each;
}

-- ---- one place

pub adds_of_test : (Fails : ℕ → Type 0) (P : Type 0) (id : ℕ) (holds : Bool) (old new : List Finding) → IsTrue holds ↔ P → ((¬ P) → Fails id)
    → ((f : Finding) → Contains new f → Contains old f ⊎ ((holds ≡ false) × (f ≡ record { rule = 17; place = id; found = 0; wanted = 1 }))) → AddsFailed Fails old new
adds_of_test Fails P id holds old new tells fails each f stands = ⊎_elim
    (λ (before : Contains old f). inl before)
    (λ (is : (holds ≡ false) × (f ≡ record { rule = 17; place = id; found = 0; wanted = 1 })).
    inr (ap (λ (g : Finding). g.rule) is.1, ap (λ (g : Finding). g.found) is.1, ap (λ (g : Finding). g.wanted) is.1, subst Fails (sym (ap (λ (g : Finding). g.place) is.1)) (fails (λ p. true≢false (sym (tells.1 p) ∙ is.0)))))
    (each f stands)

pub tested_test : {E : Type 0} (result : Result Bool E) (Fails : ℕ → Type 0) (P : Type 0) (id : ℕ) (holds : Bool) (old new : List Finding) → IsTrue holds ↔ P → ((¬ P) → Fails id)
    → IfOk result (λ met. met ≡ holds) → IfOk result (λ met. met ≡ false → IsListed new (record { rule = 17; place = id; found = 0; wanted = 1 })) → StaysListed old new
    → ((f : Finding) → Contains new f → Contains old f ⊎ ((holds ≡ false) × (f ≡ record { rule = 17; place = id; found = 0; wanted = 1 }))) → IfOk result (λ met. Tested Fails P old new met)
tested_test (Ok met) Fails P id holds old new tells fails is found still each = record {
  tells = (λ yes. tells.0 (sym is ∙ yes), λ p. is ∙ tells.1 p);
  found = λ no. told_unless 17 Fails id new (fails (λ p. true≢false (sym (tells.1 p) ∙ (sym is ∙ no)))) (found no);
  still = still;
  each = adds_of_test Fails P id holds old new tells fails each;
}
tested_test (Err e) Fails P id holds old new tells fails is found still each = is

-- ---- one item more

all_more : {X Y : Type 0} (P : Y → Type 0) (f : X → Y) (xs : List X) (k : ℕ) (d : X) → k < length xs → All P (map f (take k xs)) × P (f (get_or xs k d)) → All P (map f (take (k + 1) xs))
all_more P f xs k d inside holds = subst (λ l. All P (map f l)) (sym (take_more xs k d inside)) (all_of P (map f (take k xs ++ get_or xs k d ∷ [])) (λ y stands.
    let from = map_cases f (take k xs ++ get_or xs k d ∷ []) y stands in
    ⊎_elim
    (λ (early : Contains (take k xs) from.0). each_of P (map f (take k xs)) holds.0 y (subst (Contains (map f (take k xs))) (sym from.2) (map_stands f (take k xs) from.0 early)))
    (λ (late : Contains (get_or xs k d ∷ []) from.0). subst P (sym (from.2 ∙ ap f (in_one (get_or xs k d) from.0 late))) holds.1)
    (Contains-append_cases (take k xs) (get_or xs k d ∷ []) from.0 from.1)))

all_less : {X Y : Type 0} (P : Y → Type 0) (f : X → Y) (xs : List X) (k : ℕ) (d : X) → k < length xs → All P (map f (take (k + 1) xs)) → All P (map f (take k xs)) × P (f (get_or xs k d))
all_less P f xs k d inside holds =
    let all : All P (map f (take k xs ++ get_or xs k d ∷ [])) = subst (λ l. All P (map f l)) (take_more xs k d inside) holds in (
      all_of P (map f (take k xs)) (λ y stands.
          let from = map_cases f (take k xs) y stands in
          each_of P (map f (take k xs ++ get_or xs k d ∷ [])) all y (subst (Contains (map f (take k xs ++ get_or xs k d ∷ []))) (sym from.2)
          (map_stands f (take k xs ++ get_or xs k d ∷ []) from.0 (Contains-append_left (take k xs) (get_or xs k d ∷ []) from.0 from.1)))),
      each_of P (map f (take k xs ++ get_or xs k d ∷ [])) all (f (get_or xs k d))
          (map_stands f (take k xs ++ get_or xs k d ∷ []) (get_or xs k d) (Contains-append_right (take k xs) (get_or xs k d ∷ []) (get_or xs k d) (at_front (get_or xs k d) []))),
    )

pub tested_more : {X Y : Type 0} (Fails : ℕ → Type 0) (P : Y → Type 0) (f : X → Y) (xs : List X) (k : ℕ) (d : X) (old mid new : List Finding) (one other both : Bool) → k < length xs → both ≡ (other && one)
    → Tested Fails (All P (map f (take k xs))) old mid one → Tested Fails (P (f (get_or xs k d))) mid new other → Tested Fails (All P (map f (take (k + 1) xs))) old new both
tested_more Fails P f xs k d old mid new one other both inside is first second =
    tested_as Fails (All P (map f (take k xs)) × P (f (get_or xs k d))) (All P (map f (take (k + 1) xs))) old new both (all_more P f xs k d inside) (all_less P f xs k d inside)
    (tested_both Fails (All P (map f (take k xs))) (P (f (get_or xs k d))) old mid new one other both is first second)

pub tested_begin : {Y : Type 0} (Fails : ℕ → Type 0) (P : Y → Type 0) (list : List Finding) → Tested Fails (All P []) list list true
tested_begin Fails P list = tested_none Fails (All P []) list (all_of P [] (λ y stands. absurd (omega (arith, stands.1))))

pub tested_all : {X Y : Type 0} (Fails : ℕ → Type 0) (P : Y → Type 0) (f : X → Y) (xs : List X) (k : ℕ) (old new : List Finding) (met : Bool) → length xs ≤ k → Tested Fails (All P (map f (take k xs))) old new met → Tested Fails (All P (map f xs)) old new met
tested_all Fails P f xs k old new met whole tested = subst (λ l. Tested Fails (All P (map f l)) old new met) (take_all k xs whole) tested

-- an item by its place stands in the list
pub stands_at : {X Y : Type 0} (f : X → Y) (xs : List X) (k : ℕ) (d : X) → k < length xs → Contains (map f xs) (f (get_or xs k d))
stands_at f xs k d inside = map_stands f xs (get_or xs k d) (k, inside, get_or_default xs k (get_or xs k d) d inside)

-- ---- forks of records

some_of : {X : Type 0} (P : X → Type 0) (A : Type 0) (o : Option X) → MatchOption o (¬ A) (λ x. A × P x) → IsTrue (is_some o) ↔ A
some_of P A None is = (λ no. absurd (true≢false (sym no)), λ a. absurd (is a))
some_of P A (Some x) is = (λ yes. is.0, λ a. refl)

pub some_told : {X : Type 0} (P : X → Type 0) (A : Type 0) (o : Option X) (b : Bool) → b ≡ is_some o → MatchOption o (¬ A) (λ x. A × P x) → IsTrue b ↔ A
some_told P A o b same is = subst (λ c. IsTrue c ↔ A) (sym same) (some_of P A o is)

pub bad_told : (kind : ℕ) (rows : List OverflowRow) (o : Option Front) (b : Bool) → o ≡ follow bad_blocks_id kind (Some (record { place = 0; full = true })) rows → b ≡ is_some o → IsTrue b ↔ GoOn 0 true (mine bad_blocks_id kind rows)
bad_told kind rows o b is same = some_told (λ last. last.place ≡ 0 + many (mine bad_blocks_id kind rows)) (GoOn 0 true (mine bad_blocks_id kind rows)) o b same
    (subst (λ (p : Option Front). MatchOption p (¬ GoOn 0 true (mine bad_blocks_id kind rows)) (λ last. GoOn 0 true (mine bad_blocks_id kind rows) × (last.place ≡ 0 + many (mine bad_blocks_id kind rows)))) (sym is)
    (goes bad_blocks_id kind (record { place = 0; full = true }) rows))

pub both_told : (A B : Type 0) (a b both : Bool) → both ≡ (a && b) → IsTrue a ↔ A → IsTrue b ↔ B → IsTrue both ↔ (A × B)
both_told A B a b both is one other = (
  λ yes. let parts = both_true a b (sym is ∙ yes) in (one.0 parts.0, other.0 parts.1),
  λ holds. is ∙ (λ i. (one.1 holds.0 i) && (other.1 holds.1 i)),
)

any_cases : {X : Type 0} (p : X → Bool) (xs : List X) → list_any p xs ≡ true → (x : X) × Contains xs x × (p x ≡ true)
any_cases {X} p [] is = absurd (true≢false (sym is))
any_cases {X} p (x ∷ xs) is = at (any_cases p xs) (or_cases (p x) (list_any p xs) is)
  where
    at : (list_any p xs ≡ true → (y : X) × Contains xs y × (p y ≡ true)) → (p x ≡ true) ⊎ (list_any p xs ≡ true) → (y : X) × Contains (x ∷ xs) y × (p y ≡ true)
    at rest (inl here) = (x, at_front x xs, here)
    at rest (inr later) = let found = rest later in (found.0, behind x found.0 xs found.1, found.2)

any_stands : {X : Type 0} (p : X → Bool) (xs : List X) (x : X) → Contains xs x → p x ≡ true → list_any p xs ≡ true
any_stands {X} p [] x stands is = absurd (omega (arith, stands.1))
any_stands {X} p (y ∷ ys) x stands is = at (any_stands p ys x) (first_or_later y x ys stands)
  where
    at : (Contains ys x → p x ≡ true → list_any p ys ≡ true) → (x ≡ y) ⊎ Contains ys x → (p y || list_any p ys) ≡ true
    at rest (inl same) = ap (λ b. b || list_any p ys) (ap p (sym same) ∙ is)
    at rest (inr later) = or_right (p y) (list_any p ys) (rest later is)

no_then : (b : Bool) → not b ≡ true → b ≡ false
no_then true is = sym is
no_then false is = refl

then_no : (b : Bool) → b ≡ false → not b ≡ true
then_no true is = sym is
then_no false is = refl

-- a record has a fork where one of them takes it, or it is one of bad blocks
pub owner_tells : (forks : List OwnedFork) (row : OverflowRow) (holds : Bool) → holds ≡ ((row.id == 5) || list_any (takes row) forks) → IsTrue holds ↔ HasFork (owned_all forks) (overflow_in row)
owner_tells forks row holds is = (
  λ yes. ⊎_elim
      (λ (bad : (row.id == 5) ≡ true). inl (eqb-true row.id 5 bad))
      (λ (some : list_any (takes row) forks ≡ true).
      let found = any_cases (takes row) forks some in
      let parts = both_true (is_of found.0.id found.0.kind (overflow_in row)) (not (found.0.id == extents_id)) found.2 in
      inr (owned_in found.0, map_stands owned_in forks found.0 found.1, parts.0, no_then (found.0.id == extents_id) parts.1))
      (or_cases (row.id == 5) (list_any (takes row) forks) (sym is ∙ yes)),
  λ has. is ∙ ⊎_elim
      (λ (bad : row.id ≡ bad_blocks_id). ap (λ b. b || list_any (takes row) forks) (eq-eqb row.id 5 bad))
      (λ (some : (owned : Owned) × Contains (owned_all forks) owned × (is_of owned.id owned.kind (overflow_in row) ≡ true) × ((owned.id == extents_id) ≡ false)).
      let from = map_cases owned_in forks some.0 some.1 in
      let own : is_of from.0.id from.0.kind (overflow_in row) ≡ true = ap (λ (o : Owned). is_of o.id o.kind (overflow_in row)) (sym from.2) ∙ some.2 in
      let other : not (from.0.id == extents_id) ≡ true = then_no (from.0.id == extents_id) (ap (λ (o : Owned). o.id == extents_id) (sym from.2) ∙ some.3) in
      or_right (row.id == 5) (list_any (takes row) forks) (any_stands (takes row) forks from.0 from.1 ((λ i. (own i) && not (from.0.id == extents_id)) ∙ other)))
      has,
)

-- whether some pass is told by how many do
any_counted : {X : Type 0} (p : X → Bool) (xs : List X) → not (count_by p xs == 0) ≡ list_any p xs
any_counted p [] = refl
any_counted {X} p (x ∷ xs) = ap (λ n. not (n == 0)) (sum_by-cons (λ y. cond (p y) 1 0) x xs) ∙ at (any_counted p xs) (p x)
  where
    at : not (count_by p xs == 0) ≡ list_any p xs → (b : Bool) → not (cond b 1 0 + count_by p xs == 0) ≡ (b || list_any p xs)
    at rest true = let some : 1 + count_by p xs ≢ 0 = λ none. absurd (omega (arith, none)) in ap not (ne_eqb (1 + count_by p xs) 0 some)
    at rest false = (let same : 0 + count_by p xs ≡ count_by p xs = omega arith in ap (λ n. not (n == 0)) same) ∙ rest

-- a row has a fork of its kind where one of these has its CNID
pub owned_by_id : (forks : List OwnedFork) (row : OverflowRow) (kind many : ℕ) → row.fork ≡ kind → many ≡ count_by (takes_id kind row.id) forks → not (many == 0) ≡ list_any (takes row) forks
owned_by_id forks row kind many same is = ap (λ n. not (n == 0)) (is ∙ ap (λ k. count_by (takes_id k row.id) forks) (sym same)) ∙ any_counted (takes row) forks
