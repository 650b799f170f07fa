-- How many records pass a test.
use Rattle.std.proofs.Common.{◌≡◌, ℕ, ◌+◌, ◌≤◌, Bool, true, false, List, [], ◌∷◌, ◌++◌, refl, sym, ◌∙◌, ap, arith}
use Rattle.std.specs.Prelude.{Contains, ◌&&◌, not, count_by, if◌then◌else◌}
use Rattle.std.specs.List.{flat_map}
use Rattle.hfs_model.specs.declared.plain.PlainEntry.{PlainEntry}
use Rattle.hfs_volume.specs.Laws.{one_if}
use Rattle.hfs_volume.specs.Records.{Placed, entries_of, is_empty}
use Rattle.hfs_volume.specs.TreeOf.{is_seen, seen_entry, plain_entry}
use Rattle.hfs_volume.proofs.Counting.{count_cons, count_append}
use Rattle.hfs_volume.proofs.Members.{at_front, behind}

one_counted : {X : Type 0} (test : X → Bool) (x : X) → count_by test (x ∷ []) ≡ one_if (test x)
one_counted test x = let one : count_by test (x ∷ []) ≡ one_if (test x) + 0 = count_cons test x [] in omega (arith, one)

-- those among the entries that users see
pub count_seen : (records : List Placed) (test : PlainEntry → Bool) (xs : List Placed) → count_by test (flat_map (seen_entry records) xs) ≡ count_by (λ (p : Placed). is_seen records p && test (plain_entry records p)) xs
count_seen records test [] = refl
count_seen records test (x ∷ xs) =
    count_append test (seen_entry records x) (flat_map (seen_entry records) xs) ∙ (λ i. by_seen (is_seen records x) i + count_seen records test xs i)
    ∙ sym (count_cons (λ (p : Placed). is_seen records p && test (plain_entry records p)) x xs)
  where
    by_seen : (b : Bool) → count_by test (if b then plain_entry records x ∷ [] else []) ≡ one_if (b && test (plain_entry records x))
    by_seen true = one_counted test (plain_entry records x)
    by_seen false = refl

-- those among the records with a name
pub count_entries : (test : Placed → Bool) (xs : List Placed) → count_by test (entries_of xs) ≡ count_by (λ (p : Placed). not (is_empty p.name) && test p) xs
count_entries test [] = refl
count_entries test (x ∷ xs) =
    count_append test (if not (is_empty x.name) then x ∷ [] else []) (entries_of xs) ∙ (λ i. by_name (not (is_empty x.name)) i + count_entries test xs i)
    ∙ sym (count_cons (λ (p : Placed). not (is_empty p.name) && test p) x xs)
  where
    by_name : (b : Bool) → count_by test (if b then x ∷ [] else []) ≡ one_if (b && test x)
    by_name true = one_counted test x
    by_name false = refl

-- where each that passes one test passes another, no more pass the first
pub count_below : {X : Type 0} (p q : X → Bool) (xs : List X) → ((x : X) → Contains xs x → p x ≡ true → q x ≡ true) → count_by p xs ≤ count_by q xs
count_below p q [] each = omega arith
count_below p q (x ∷ xs) each = by_test (p x) refl (count_below p q xs (λ y stands. each y (behind x y xs stands)))
  where
    by_test : (b : Bool) → p x ≡ b → count_by p xs ≤ count_by q xs → count_by p (x ∷ xs) ≤ count_by q (x ∷ xs)
    by_test true is rest = omega (arith, rest, count_cons p x xs, count_cons q x xs, ap one_if is, ap one_if (each x (at_front x xs) is))
    by_test false is rest = omega (arith, rest, count_cons p x xs, count_cons q x xs, ap one_if is)

-- where each that passes a test passes just one of four others
pub count_four : {X : Type 0} (p a b c d : X → Bool) (xs : List X) → ((x : X) → Contains xs x → one_if (p x) ≡ one_if (a x) + (one_if (b x) + (one_if (c x) + one_if (d x))))
    → count_by p xs ≡ count_by a xs + (count_by b xs + (count_by c xs + count_by d xs))
count_four p a b c d [] each = refl
count_four p a b c d (x ∷ xs) each =
    let rest = count_four p a b c d xs (λ y stands. each y (behind x y xs stands)) in
    omega (arith, rest, each x (at_front x xs), count_cons p x xs, count_cons a x xs, count_cons b x xs, count_cons c x xs, count_cons d x xs)
