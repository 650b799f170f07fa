-- Records of the attributes file in the order of their keys: those of one attribute stand together, and the one that begins at 0 is the first.
use Rattle.std.proofs.Common.{◌≡◌, ◌⊎◌, ◌↔◌, ◌<◌, ◌≤◌, ℕ, ◌+◌, Bool, true, false, ◌&&◌, ◌==◌, List, [], ◌∷◌, ◌++◌, length, map, take, drop, get_or, inl, inr, refl, sym, ◌∙◌, ap, subst, arith, ⊎_elim}
use Rattle.std.specs.Prelude.{if◌then◌else◌}
use Rattle.std.specs.Str.{bytes_eq}
use Rattle.std.specs.declared.cmp.Ordering.TheVariants.{Less, Equal, Greater}
use Rattle.std.specs.declared.cmp.Ordering.{Ordering}
use Rattle.std.specs.Ordering.{is_lt, is_eq, nat_cmp, ordering_then, ordering_reverse, then_cmp, on, MatchOrdering}
use Rattle.std.specs.Cmp.{IsTotalOrder, ranks}
use Rattle.std.specs.Cmp.Lexicographic.{slice_cmp}
use Rattle.std.proofs.lemmas.Bool.{true≢false, eqb-true, eq-eqb, and_parts, cases_lt}
use Rattle.std.proofs.lemmas.Cmp.{then_total, on_total, nat_cmp_total, nat_list_cmp_total}
use Rattle.std.proofs.lemmas.List.{at_drop_more, take-append-drop, get_or-take, get_or-drop, length-take, length-drop, get_or-map, length-map, map-append}
use Rattle.std.proofs.lemmas.List.Concat.{flat_map-append}
use Rattle.std.proofs.lemmas.Map.Text.{is_eq-slice_cmp}
use Rattle.std.proofs.lemmas.Slice.Eq.{bytes_eq-Decides}
use Rattle.btree_node.specs.Levels.{Pair}
use Rattle.hfs_model.specs.Sorted.{kept}
use Rattle.hfs_volume.specs.Changes.{attribute_before}
use Rattle.hfs_volume.specs.Records.{Attribute, attribute_of}
use Rattle.hfs_volume.specs.Values.{is_record_of, has_fork}
use Rattle.fsck_list.proofs.Ranges.{none_pass}
use Rattle.fsck_core.specs.Attributes.{AreKeyed, HasFirstFork, attribute_at, rest_at, is_one_attribute}
use Rattle.fsck_core.specs.Names.{pair_at}
use Rattle.fsck_core.proofs.ThreadLaws.{order_at}

-- ---- two records

-- records of one attribute
abbrev pub Same : Attribute → Attribute → Type 0
Same x y = (x.id ≡ y.id) × (x.name ≡ y.name)

abbrev names_cmp : Attribute → Attribute → Ordering
names_cmp = then_cmp (on (λ (a : Attribute). a.id) nat_cmp) (on (λ (a : Attribute). a.name) (slice_cmp nat_cmp))

names_total : IsTotalOrder names_cmp
names_total = then_total (on_total (λ (a : Attribute). a.id) nat_cmp_total) (on_total (λ (a : Attribute). a.name) nat_list_cmp_total)

less_of : (a b : ℕ) (o : Ordering) → MatchOrdering o (a < b) (a ≡ b) (b < a) → is_lt o ≡ true → a < b
less_of a b Less rank is = rank
less_of a b Equal rank is = absurd (true≢false (sym is))
less_of a b Greater rank is = absurd (true≢false (sym is))

equal_of : (a b : ℕ) (o : Ordering) → MatchOrdering o (a < b) (a ≡ b) (b < a) → o ≡ Equal → a ≡ b
equal_of a b Less rank is = absurd (true≢false (ap is_lt is))
equal_of a b Equal rank is = rank
equal_of a b Greater rank is = absurd (true≢false (sym (ap is_eq is)))

-- of two in order the first has an earlier attribute, or an earlier place in the same one
before_cases : (x y : Attribute) → attribute_before x y ≡ true → (names_cmp x y ≡ Less) ⊎ ((names_cmp x y ≡ Equal) × (x.start < y.start))
before_cases x y before = by (nat_cmp x.id y.id) (slice_cmp nat_cmp x.name y.name) refl refl before
  where
    by : (o p : Ordering) → nat_cmp x.id y.id ≡ o → slice_cmp nat_cmp x.name y.name ≡ p → is_lt (ordering_then o (ordering_then p (nat_cmp x.start y.start))) ≡ true → (names_cmp x y ≡ Less) ⊎ ((names_cmp x y ≡ Equal) × (x.start < y.start))
    by Less p first second is = inl (ap (λ r. ordering_then r (slice_cmp nat_cmp x.name y.name)) first)
    by Greater p first second is = absurd (true≢false (sym is))
    by Equal Less first second is = inl (ap (λ r. ordering_then r (slice_cmp nat_cmp x.name y.name)) first ∙ second)
    by Equal Greater first second is = absurd (true≢false (sym is))
    by Equal Equal first second is = inr (ap (λ r. ordering_then r (slice_cmp nat_cmp x.name y.name)) first ∙ second, less_of x.start y.start (nat_cmp x.start y.start) (ranks x.start y.start) is)

equal_same : (x y : Attribute) → names_cmp x y ≡ Equal → Same x y
equal_same x y equal = by (nat_cmp x.id y.id) refl equal
  where
    by : (o : Ordering) → nat_cmp x.id y.id ≡ o → ordering_then o (slice_cmp nat_cmp x.name y.name) ≡ Equal → Same x y
    by Less is then_ = absurd (true≢false (ap is_lt then_))
    by Greater is then_ = absurd (true≢false (sym (ap is_eq then_)))
    by Equal is then_ = (equal_of x.id y.id (nat_cmp x.id y.id) (ranks x.id y.id) is, (bytes_eq-Decides x.name y.name).0 (sym (is_eq-slice_cmp x.name y.name) ∙ ap is_eq then_))

itself : (x : Attribute) → names_cmp x x ≡ Equal
itself x = by (names_cmp x x) refl
  where
    by : (o : Ordering) → names_cmp x x ≡ o → names_cmp x x ≡ Equal
    by Less is = absurd (true≢false (ap is_lt (sym is ∙ names_total.antisymm x x ∙ ap ordering_reverse is)))
    by Equal is = is
    by Greater is = absurd (true≢false (sym (ap is_lt (sym is ∙ names_total.antisymm x x ∙ ap ordering_reverse is))))

same_equal : (x y : Attribute) → Same x y → names_cmp x y ≡ Equal
same_equal x y same = sym (λ i. ordering_then (nat_cmp x.id (same.0 i)) (slice_cmp nat_cmp x.name (same.1 i))) ∙ itself x

-- what stands between two records of one attribute is a record of it
pub between : (x y z : Attribute) → attribute_before x y ≡ true → attribute_before y z ≡ true → Same x z → Same x y
between x y z first second same = ⊎_elim
    (λ (less : names_cmp x y ≡ Less). ⊎_elim
    (λ (other : names_cmp y z ≡ Less). absurd (true≢false (ap is_lt (sym (names_total.trans x y z less other) ∙ same_equal x z same))))
    (λ (equal : (names_cmp y z ≡ Equal) × (y.start < z.start)).
    let back : names_cmp y x ≡ Greater = names_total.antisymm y x ∙ ap ordering_reverse less in
    let also : names_cmp z x ≡ Equal = names_total.antisymm z x ∙ ap ordering_reverse (same_equal x z same) in
    absurd (true≢false (sym (ap is_eq (sym back ∙ names_total.congr y z x equal.0 ∙ also)))))
    (before_cases y z second))
    (λ (equal : (names_cmp x y ≡ Equal) × (x.start < y.start)). equal_same x y equal.0)
    (before_cases x y first)

-- of two records of one attribute the first begins earlier
pub starts_rise : (x y : Attribute) → attribute_before x y ≡ true → Same x y → x.start < y.start
starts_rise x y before same = ⊎_elim
    (λ (less : names_cmp x y ≡ Less). absurd (true≢false (ap is_lt (sym less ∙ same_equal x y same))))
    (λ (equal : (names_cmp x y ≡ Equal) × (x.start < y.start)). equal.1)
    (before_cases x y before)

-- the test of a name
pub tested_same : (x y : Attribute) → is_record_of x.id x.name y ≡ true → Same x y
tested_same x y is = let parts = and_parts (y.id == x.id) (bytes_eq y.name x.name) is in (sym (eqb-true y.id x.id parts.0), sym ((bytes_eq-Decides y.name x.name).0 parts.1))

pub same_tested : (x y : Attribute) → Same x y → is_record_of x.id x.name y ≡ true
same_tested x y same = λ i. (eq-eqb y.id x.id (sym same.0) i) && ((bytes_eq-Decides y.name x.name).1 (sym same.1) i)

pub no_test : (x y : Attribute) → (Same x y → ⊥) → is_record_of x.id x.name y ≡ false
no_test x y differ = by (is_record_of x.id x.name y) refl
  where
    by : (b : Bool) → is_record_of x.id x.name y ≡ b → is_record_of x.id x.name y ≡ false
    by true is = absurd (differ (tested_same x y is))
    by false is = is

-- ---- all of them

module _ (pairs : List Pair) (keyed : AreKeyed pairs) where
  abbrev at : ℕ → Attribute
  at k = attribute_at pairs k

  attribute_is : (k : ℕ) (d : Attribute) → k < length pairs → get_or (map attribute_of pairs) k d ≡ at k
  attribute_is k d inside = get_or-map attribute_of pairs k ([], []) d inside

  pub rises : (i j : ℕ) → i < j → j < length pairs → attribute_before (at i) (at j) ≡ true
  rises i j less inside =
      let d : Attribute = at i in
      sym (λ k. attribute_before (attribute_is i d (omega (arith, less, inside)) k) (attribute_is j d inside k)) ∙ order_at attribute_before (map attribute_of pairs) keyed.sorted i j d less (omega (arith, inside, length-map pairs attribute_of))

  -- behind a record of another attribute none is of the one before it
  pub apart_later : (i j k : ℕ) → i < j → j ≤ k → k < length pairs → (Same (at i) (at j) → ⊥) → Same (at i) (at k) → ⊥
  apart_later i j k less most inside differ same = ⊎_elim
      (λ (before : j < k). differ (between (at i) (at j) (at k) (rises i j less (omega (arith, before, inside))) (rises j k before inside) same))
      (λ (not_before : k ≤ j). let is : k ≡ j = omega (arith, most, not_before) in differ (subst (λ n. Same (at i) (at n)) is same))
      (cases_lt j k)

  -- before the first record of an attribute none is of it
  pub apart_before : (k j : ℕ) → k < j + 1 → j + 1 < length pairs → (Same (at j) (at (j + 1)) → ⊥) → Same (at k) (at (j + 1)) → ⊥
  apart_before k j less inside differ same = ⊎_elim
      (λ (before : k < j).
      let here : Same (at k) (at j) = between (at k) (at j) (at (j + 1)) (rises k j before (omega (arith, inside))) (rises j (j + 1) (omega arith) inside) same in
      differ (sym here.0 ∙ same.0, sym here.1 ∙ same.1))
      (λ (not_before : j ≤ k). let is : k ≡ j = omega (arith, less, not_before) in differ (subst (λ n. Same (at n) (at (j + 1))) is same))
      (cases_lt k j)

  -- before a record that begins at 0 none is of its attribute
  pub first_at_zero : (k j : ℕ) → k < j → j < length pairs → (at j).start ≡ 0 → Same (at k) (at j) → ⊥
  first_at_zero k j less inside zero_is same = let rise = starts_rise (at k) (at j) (rises k j less inside) same in omega (arith, rise, zero_is)

  module _ (own : Attribute) where
    abbrev test : Attribute → Bool
    test = is_record_of own.id own.name

    -- one record more
    pub rest_more : (place : ℕ) → place < length pairs → is_record_of own.id own.name (attribute_at pairs place) ≡ true → rest_at pairs place own ≡ attribute_at pairs place ∷ rest_at pairs (place + 1) own
    rest_more place inside is =
        at_drop_more (λ l. kept test (map attribute_of l)) pairs place ([], []) inside ∙ ap (λ b. (if b then at place ∷ [] else []) ++ rest_at pairs (place + 1) own) is

    pub rest_less : (place : ℕ) → place < length pairs → is_record_of own.id own.name (attribute_at pairs place) ≡ false → rest_at pairs place own ≡ rest_at pairs (place + 1) own
    rest_less place inside is =
        at_drop_more (λ l. kept test (map attribute_of l)) pairs place ([], []) inside ∙ ap (λ b. (if b then at place ∷ [] else []) ++ rest_at pairs (place + 1) own) is

    -- no record more
    pub rest_none : (place : ℕ) → ((k : ℕ) → place ≤ k → k < length pairs → is_record_of own.id own.name (attribute_at pairs k) ≡ false) → rest_at pairs place own ≡ []
    rest_none place none = none_pass test (map attribute_of (drop place pairs)) (λ k d inside.
        let within : k < length (drop place pairs) = omega (arith, inside, length-map (drop place pairs) attribute_of) in
        let whole : place + k < length pairs = omega (arith, within, length-drop place pairs) in
        ap test (get_or-map attribute_of (drop place pairs) k ([], []) d within ∙ ap attribute_of (get_or-drop place pairs k ([], []))) ∙ none (place + k) (omega arith) whole)

    -- all records of an attribute stand from its first one on
    pub all_are_rest : (p : Attribute → Bool) (place : ℕ) → place ≤ length pairs → ((k : ℕ) → k < place → p (attribute_at pairs k) ≡ false) → kept p (map attribute_of pairs) ≡ kept p (map attribute_of (drop place pairs))
    all_are_rest p place within none =
        ap (λ l. kept p (map attribute_of l)) (sym (take-append-drop place pairs))
        ∙ ap (kept p) (map-append attribute_of (take place pairs) (drop place pairs))
        ∙ flat_map-append (λ a. if p a then a ∷ [] else []) (map attribute_of (take place pairs)) (map attribute_of (drop place pairs))
        ∙ ap (λ l. l ++ kept p (map attribute_of (drop place pairs))) (none_pass p (map attribute_of (take place pairs)) (λ k d inside.
        let short : k < length (take place pairs) = omega (arith, inside, length-map (take place pairs) attribute_of) in
        let low : k < place = omega (arith, short, length-take place pairs) in
        ap p (get_or-map attribute_of (take place pairs) k ([], []) d short ∙ ap attribute_of (get_or-take place pairs k ([], []) low)) ∙ none k low))

-- two keys are of one attribute where the test of its name says so
pub one_attribute_is : (pairs : List Pair) (k j : ℕ) → is_one_attribute (pair_at pairs k).0 (pair_at pairs j).0 ≡ is_record_of (attribute_at pairs j).id (attribute_at pairs j).name (attribute_at pairs k)
unfolding attribute_of
one_attribute_is pairs k j = refl

-- behind a record of another attribute nothing is left of one
pub nothing_left : (pairs : List Pair) (keyed : AreKeyed pairs) (i place : ℕ) → i < place → place < length pairs → is_record_of (attribute_at pairs i).id (attribute_at pairs i).name (attribute_at pairs place) ≡ false
    → rest_at pairs place (attribute_at pairs i) ≡ []
nothing_left pairs keyed i place less inside differ =
    rest_none pairs keyed (attribute_at pairs i) place (λ k most within. no_test (attribute_at pairs i) (attribute_at pairs k)
    (apart_later pairs keyed i place k less most within (λ same. true≢false (sym (same_tested (attribute_at pairs i) (attribute_at pairs place) same) ∙ differ))))

pub nothing_behind : (pairs : List Pair) (keyed : AreKeyed pairs) (own : Attribute) (place : ℕ) → length pairs ≤ place → rest_at pairs place own ≡ []
nothing_behind pairs keyed own place past = rest_none pairs keyed own place (λ k most within. absurd (omega (arith, past, most, within)))

-- ---- an attribute that begins with a fork

pub forked_as : (pairs : List Pair) (x y : Attribute) → Same x y → HasFirstFork pairs x → HasFirstFork pairs y
forked_as pairs x y same (k, inside, is, fork, starts) = (k, inside, (λ i. is_record_of (sym same.0 i) (sym same.1 i) (attribute_at pairs k)) ∙ is, fork, starts)

-- the record before is of another attribute
pub apart_from : (pairs : List Pair) (keyed : AreKeyed pairs) (at j : ℕ) → at ≡ j + 1 → at < length pairs → (Same (attribute_at pairs j) (attribute_at pairs at) → ⊥) → (k : ℕ) → k < at → Same (attribute_at pairs k) (attribute_at pairs at) → ⊥
apart_from pairs keyed at j is inside differ k less same =
    apart_before pairs keyed k j (omega (arith, is, less)) (omega (arith, is, inside)) (λ both. differ (subst (λ n. Same (attribute_at pairs j) (attribute_at pairs n)) (sym is) both)) (subst (λ n. Same (attribute_at pairs k) (attribute_at pairs n)) is same)

-- where no record of an attribute stands before one, its value begins with a fork exactly where this one has it
pub first_fork : (pairs : List Pair) (keyed : AreKeyed pairs) (at : ℕ) → at < length pairs → ((k : ℕ) → k < at → Same (attribute_at pairs k) (attribute_at pairs at) → ⊥)
    → ((has_fork (attribute_at pairs at).value ≡ true) × ((attribute_at pairs at).start ≡ 0)) ↔ HasFirstFork pairs (attribute_at pairs at)
first_fork pairs keyed at inside none = (λ begins. (at, inside, same_tested own own (refl, refl), begins.0, begins.1), λ has. back has)
  where
    own : Attribute
    own = attribute_at pairs at

    back : HasFirstFork pairs own → (has_fork (attribute_at pairs at).value ≡ true) × ((attribute_at pairs at).start ≡ 0)
    back (k, within, is, fork, starts) =
        let same : Same own (attribute_at pairs k) = tested_same own (attribute_at pairs k) is in
        ⊎_elim
        (λ (before : k < at). absurd (none k before (sym same.0, sym same.1)))
        (λ (after : at ≤ k). ⊎_elim
        (λ (later : at < k). absurd (let rise = starts_rise own (attribute_at pairs k) (rises pairs keyed at k later within) same in omega (arith, rise, starts)))
        (λ (not_later : k ≤ at). let is_at : k ≡ at = omega (arith, not_later, after) in subst (λ n. (has_fork (attribute_at pairs n).value ≡ true) × ((attribute_at pairs n).start ≡ 0)) is_at (fork, starts))
        (cases_lt at k))
        (cases_lt k at)
