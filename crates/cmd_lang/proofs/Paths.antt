-- A path is read name by name.
use Rattle.std.proofs.Common.{◌≡◌, ◌≢◌, ℕ, suc, ◌+◌, ◌<◌, length, map, drop, get_or, add-one, drop-cons, Bor, true, false, nat_le, List, [], ◌∷◌, ◌++◌, Option, Some, None, Result, Ok, Err, refl, sym, ap, ◌∙◌, append_assoc, append-nil, arith, ⊎_elim, if◌then◌else◌}
use Rattle.std.proofs.lemmas.Bool.{cond-false, cases_Bool, ne_eqb}
use Rattle.std.proofs.lemmas.Bool.Decides.{nat_tests}
use Rattle.hfs_language.specs.declared.refusal.Refusal.{Refusal}
use Rattle.hfs_language.specs.Language.{rank, earlier, both, after, in_front, name_of, names_of, path_of}
use Rattle.hfs_language.specs.declared.refusal.Refusal.TheVariants.{BadCommand}
use Rattle.std.specs.Char.{encode_utf8}
use Rattle.cmd_lang.specs.Reads.{with_rest, with_next, first_refusal, read_so_far}

-- the first of three
first_of_three : {X : Type 0} (x y z : X) (a b c : ℕ) → (if nat_le (if nat_le a b then a else b) c then (if nat_le a b then x else y) else z) ≡ (if nat_le a (if nat_le b c then b else c) then x else (if nat_le b c then y else z))
first_of_three x y z a b c =
    ⊎_elim
    (λ (e : nat_le a b ≡ true). ⊎_elim
    (λ (f : nat_le b c ≡ true). let g : nat_le a c ≡ true = grind (arith, nat_tests) in rw (e, f, g, e) refl)
    (λ (f : nat_le b c ≡ false). rw (e, f) refl)
    (cases_Bool (nat_le b c)))
    (λ (e : nat_le a b ≡ false). ⊎_elim
    (λ (f : nat_le b c ≡ true). rw (e, f, e) refl)
    (λ (f : nat_le b c ≡ false). let g : nat_le a c ≡ false = grind (arith, nat_tests) in rw (e, f, g) refl)
    (cases_Bool (nat_le b c)))
    (cases_Bool (nat_le a b))

-- the ranks go with the refusals
earlier_rank : (a b : Refusal) → rank (earlier a b) ≡ (if nat_le (rank a) (rank b) then rank a else rank b)
earlier_rank a b = ⊎_elim (λ (e : nat_le (rank a) (rank b) ≡ true). rw e refl) (λ (e : nat_le (rank a) (rank b) ≡ false). rw e refl) (cases_Bool (nat_le (rank a) (rank b)))

earlier_both : (a b c : Refusal) → earlier (earlier a b) c ≡ earlier a (earlier b c)
earlier_both a b c = rw (earlier_rank a b, earlier_rank b c) (first_of_three a b c (rank a) (rank b) (rank c))

-- the next name joins those before it
pub goes_on : (front : Result (List (List ℕ)) Refusal) (name : Result (List ℕ) Refusal) (rest : Result (List (List ℕ)) Refusal) → with_rest (with_next front name) rest ≡ with_rest front (after in_front (both name rest))
goes_on (Ok names) (Ok name) (Ok more) = ap (λ x. Ok x) (append_assoc names (name ∷ []) more)
goes_on (Ok names) (Ok name) (Err c) = refl
goes_on (Ok names) (Err b) (Ok more) = refl
goes_on (Ok names) (Err b) (Err c) = refl
goes_on (Err a) (Ok name) (Ok more) = refl
goes_on (Err a) (Ok name) (Err c) = refl
goes_on (Err a) (Err b) (Ok more) = refl
goes_on (Err a) (Err b) (Err c) = ap (λ x. Err x) (earlier_both a b c)

pub nothing_read : (rest : Result (List (List ℕ)) Refusal) → with_rest (Ok []) rest ≡ rest
nothing_read (Ok names) = refl
nothing_read (Err a) = refl

pub nothing_left : (front : Result (List (List ℕ)) Refusal) → with_rest front (Ok []) ≡ front
nothing_left (Ok names) = ap (λ x. Ok x) (append-nil names)
nothing_left (Err a) = refl

pub refused : (refusal : Option Refusal) (names : List (List ℕ)) (why : Refusal) → read_so_far (Some (first_refusal refusal why)) names ≡ with_next (read_so_far refusal names) (Err why)
refused None names why = refl
refused (Some before) names why = refl

pub named : (refusal : Option Refusal) (names : List (List ℕ)) (name : List ℕ) → read_so_far refusal (names ++ name ∷ []) ≡ with_next (read_so_far refusal names) (Ok name)
named None names name = refl
named (Some before) names name = refl

-- one component more is read
pub reads_on : (components : List (Bor (List ℕ))) (at : ℕ) (d : Bor (List ℕ)) (front next total : Result (List (List ℕ)) Refusal) → at < length components → next ≡ with_next front (name_of (get_or components at d).now)
    → with_rest front (names_of (map (λ (c : Bor (List ℕ)). c.now) (drop at components))) ≡ total
    → with_rest next (names_of (map (λ (c : Bor (List ℕ)). c.now) (drop (at + 1) components))) ≡ total
reads_on components at d front next total inside is before =
    let more = names_of (map (λ (c : Bor (List ℕ)). c.now) (drop (suc at) components)) in
    let here : with_rest front (after in_front (both (name_of (get_or components at d).now) more)) ≡ total =
    ap (λ (x : List (Bor (List ℕ))). with_rest front (names_of (map (λ (c : Bor (List ℕ)). c.now) x))) (sym (drop-cons components at d inside)) ∙ before in
    rw (is, add-one) (goes_on front (name_of (get_or components at d).now) more ∙ here)

-- what doesn't begin with a slash is no path
pub no_path : (word : List ℕ) → ((rest : List ℕ) → word ≢ encode_utf8 47 ++ rest) → path_of word ≡ Err BadCommand
unfolding path_of encode_utf8
no_path [] other = refl
no_path (c ∷ rest) other = cond-false _ _ _ (ne_eqb c 47 (λ e. other rest (rw e refl)))
