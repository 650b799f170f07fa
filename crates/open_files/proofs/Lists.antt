-- Lists of which some items are left out.
use Rattle.std.proofs.Common.{◌≡◌, Bool, true, false, List, [], ◌∷◌, ◌++◌, refl, sym, ◌∙◌, ap}
use Rattle.std.specs.Prelude.{map, find, Option, Some, None, if◌then◌else◌}
use Rattle.std.specs.List.{AllByRecursion}
use Rattle.hfs_model.specs.Sorted.{kept, put_before}

-- the item, where it passes
abbrev pub one_kept : {X : Type 0} → Bool → X → List X
one_kept b x = if b then x ∷ [] else []

abbrev pub one_found : {X : Type 0} → Bool → X → Option X → Option X
one_found b x other = if b then Some x else other

module _ {X : Type 0} where
  -- a new item that doesn't pass is left out, wherever it stands
  pub kept_put : (test : X → Bool) (comes : X → X → Bool) (item : X) (items : List X) → test item ≡ false → kept test (put_before comes item items) ≡ kept test items
  kept_put test comes item [] out = ap (λ b. one_kept b item ++ []) out
  kept_put test comes item (next ∷ rest) out = put_cases (comes item next) (kept_put test comes item rest out)
    where
      put_cases : (b : Bool) → kept test (put_before comes item rest) ≡ kept test rest → kept test (if b then item ∷ next ∷ rest else next ∷ put_before comes item rest) ≡ kept test (next ∷ rest)
      put_cases true later = ap (λ b. one_kept b item ++ kept test (next ∷ rest)) out
      put_cases false later = ap (λ l. one_kept (test next) next ++ l) later

  -- two tests that say the same of each item
  pub kept_same : (one other : X → Bool) (items : List X) → AllByRecursion (λ x. one x ≡ other x) items → kept one items ≡ kept other items
  kept_same one other [] same = refl
  kept_same one other (x ∷ items) same = ap (λ b. one_kept b x ++ kept one items) same.0 ∙ ap (λ l. one_kept (other x) x ++ l) (kept_same one other items same.1)

  -- what is left out anyway may be left out before
  pub kept_twice : (test keeps : X → Bool) (items : List X) → AllByRecursion (λ x. keeps x ≡ false → test x ≡ false) items → kept test (kept keeps items) ≡ kept test items
  kept_twice test keeps [] each = refl
  kept_twice test keeps (x ∷ items) each = twice_cases (keeps x) each.0 (kept_twice test keeps items each.1)
    where
      twice_cases : (b : Bool) → (b ≡ false → test x ≡ false) → kept test (kept keeps items) ≡ kept test items → kept test (one_kept b x ++ kept keeps items) ≡ one_kept (test x) x ++ kept test items
      twice_cases true out later = ap (λ l. one_kept (test x) x ++ l) later
      twice_cases false out later = later ∙ ap (λ b. one_kept b x ++ kept test items) (sym (out refl))

  -- an item that isn't looked for doesn't come before the one that is
  pub find_put : (test : X → Bool) (comes : X → X → Bool) (item : X) (items : List X) → test item ≡ false → find test (put_before comes item items) ≡ find test items
  find_put test comes item [] out = ap (λ b. one_found b item None) out
  find_put test comes item (next ∷ rest) out = put_cases (comes item next) (find_put test comes item rest out)
    where
      put_cases : (b : Bool) → find test (put_before comes item rest) ≡ find test rest → find test (if b then item ∷ next ∷ rest else next ∷ put_before comes item rest) ≡ find test (next ∷ rest)
      put_cases true later = ap (λ b. one_found b item (find test (next ∷ rest))) out
      put_cases false later = ap (λ f. one_found (test next) next f) later

  -- and where it is looked for, and nothing else is, it is found
  pub find_new : (test : X → Bool) (comes : X → X → Bool) (item : X) (items : List X) → test item ≡ true → AllByRecursion (λ x. test x ≡ false) items → find test (put_before comes item items) ≡ Some item
  find_new test comes item [] is none = ap (λ b. one_found b item None) is
  find_new test comes item (next ∷ rest) is none = put_cases (comes item next) (find_new test comes item rest is none.1)
    where
      put_cases : (b : Bool) → find test (put_before comes item rest) ≡ Some item → find test (if b then item ∷ next ∷ rest else next ∷ put_before comes item rest) ≡ Some item
      put_cases true later = ap (λ b. one_found b item (find test (next ∷ rest))) is
      put_cases false later = ap (λ b. one_found b next (find test (put_before comes item rest))) none.0 ∙ later

  -- items changed in what is neither looked at nor seen
  pub kept_changed : {Y : Type 0} (test : X → Bool) (show : X → Y) (change : X → X) (items : List X) → ((x : X) → test (change x) ≡ test x) → ((x : X) → show (change x) ≡ show x)
      → map show (kept test (map change items)) ≡ map show (kept test items)
  kept_changed {Y} test show change [] tested shown = refl
  kept_changed {Y} test show change (x ∷ items) tested shown =
      ap (λ b. map show (one_kept b (change x) ++ kept test (map change items))) (tested x) ∙ changed_cases (test x) (kept_changed test show change items tested shown)
    where
      changed_cases : (b : Bool) → map show (kept test (map change items)) ≡ map show (kept test items) → map show (one_kept b (change x) ++ kept test (map change items)) ≡ map show (one_kept b x ++ kept test items)
      changed_cases true later = ap (λ y. y ∷ map show (kept test (map change items))) (shown x) ∙ ap (λ l. show x ∷ l) later
      changed_cases false later = later
