-- Sectors in rows: what stands where none does yet, and what a sector that joins leaves.
use Rattle.std.proofs.Common.{◌≡◌, ◌≢◌, ◌⊎◌, ◌<◌, ◌≤◌, ◌+◌, ◌-◌, ℕ, List, [], ◌∷◌, ◌++◌, length, length-append, length-set, get_or, get_or-set_other, set, inl, inr, sym, ◌∙◌, ap, subst, arith}
use Rattle.std.specs.Prelude.{Result, Ok, Err, IsOk, is_ok, if◌then◌else◌}
use Rattle.std.proofs.Math.ListN.{get_or-append}
use Rattle.std.proofs.Math.Seq.{get_or-append_seam}
use Rattle.std.proofs.lemmas.Bool.{cases_eq, cases_lt}
use Rattle.std.proofs.lemmas.Grind.{get_or-set_at}
use Rattle.jnl_store.specs.Indexed.{AreApart, AreRows, IsIndex, IsLast, IsMissing, row_in}

-- the new sector stands behind the others
at_end : (ss : List ℕ) (s j : ℕ) → j ≡ length ss → get_or (ss ++ s ∷ []) j 0 ≡ s
at_end ss s j same = ap (λ n. get_or (ss ++ s ∷ []) n 0) same ∙ get_or-append_seam ss s [] 0

-- what is before an end is as it was
last_more : (ss : List ℕ) (s rows end row last : ℕ) → end ≤ length ss → IsLast ss rows end row last → IsLast (ss ++ s ∷ []) rows end row last
last_more ss s rows end row last within is = record {
  within = is.within;
  of_row = λ some. ap (row_in rows) (get_or-append ss (s ∷ []) 0 (last - 1) (omega (arith, some, is.within, within))) ∙ is.of_row some;
  none_behind = λ j past below e. is.none_behind j past below (ap (row_in rows) (sym (get_or-append ss (s ∷ []) 0 j (omega (arith, below, within)))) ∙ e);
}

-- of another row the last is the one before
last_other : (ss : List ℕ) (s rows row last : ℕ) → IsLast ss rows (length ss) row last → (row_in rows s ≡ row → ⊥) → IsLast (ss ++ s ∷ []) rows (length ss + 1) row last
last_other ss s rows row last is other =
    let m = last_more ss s rows (length ss) row last (omega arith) is in
    record {
      within = omega (arith, is.within);
      of_row = m.of_row;
      none_behind = λ j past below e. elim (cases_lt j (length ss)) [
        | inl before ↦ m.none_behind j past before e
        | inr behind ↦ other (ap (row_in rows) (sym (at_end ss s j (omega (arith, behind, below)))) ∙ e)
      ];
    }

-- and of its own row it is the last
last_own : (ss : List ℕ) (s rows : ℕ) → IsLast (ss ++ s ∷ []) rows (length ss + 1) (row_in rows s) (length ss + 1)
last_own ss s rows = record {
  within = omega arith;
  of_row = λ some. ap (row_in rows) (at_end ss s (length ss + 1 - 1) (omega arith));
  none_behind = λ j past below e. absurd (omega (arith, past, below));
}

-- a sector joins at the end, as the last of its row
pub rows-push : (ss bs rs : List ℕ) (s row last count : ℕ) → AreRows ss bs rs → row ≡ row_in (length rs) s → row < length rs → last ≡ get_or rs row 0 → count ≡ length ss + 1 → AreRows (ss ++ s ∷ []) (bs ++ last ∷ []) (set rs row count)
rows-push ss bs rs s row last count is row_is below last_is count_is =
    let n = length rs in
    let new = ss ++ s ∷ [] in
    let long : length (set rs row count) ≡ n = length-set rs row count in
    let more : length new ≡ length ss + 1 = length-append ss (s ∷ []) in
    record {
      some = omega (arith, is.some, long);
      as_many = omega (arith, is.as_many, more, length-append bs (last ∷ []));
      before_each = λ k inside. subst (λ m. IsLast new m k (row_in m (get_or new k 0)) (get_or (bs ++ last ∷ []) k 0)) (sym long) (elim (cases_lt k (length ss)) [
        | inl before ↦
            subst (λ t. IsLast new n k (row_in n t) (get_or (bs ++ last ∷ []) k 0)) (sym (get_or-append ss (s ∷ []) 0 k before))
            (subst (λ t. IsLast new n k (row_in n (get_or ss k 0)) t) (sym (get_or-append bs (last ∷ []) 0 k (omega (arith, before, is.as_many))))
            (last_more ss s n k (row_in n (get_or ss k 0)) (get_or bs k 0) (omega (arith, before)) (is.before_each k before)))
        | inr behind ↦
            let here : k ≡ length ss = omega (arith, behind, inside, more) in
            subst (λ t. IsLast new n k (row_in n t) (get_or (bs ++ last ∷ []) k 0)) (sym (at_end ss s k here))
            (subst (λ t. IsLast new n k (row_in n s) t) (sym (at_end bs last k (omega (arith, here, is.as_many)) ∙ last_is))
            (subst (λ t. IsLast new n k t (get_or rs row 0)) row_is
            (subst (λ t. IsLast new n t row (get_or rs row 0)) (sym here)
            (last_more ss s n (length ss) row (get_or rs row 0) (omega arith) (is.of_each row below)))))
      ]);
      of_each = λ r inside. subst (λ m. IsLast new m (length new) r (get_or (set rs row count) r 0)) (sym long) (subst (λ m. IsLast new n m r (get_or (set rs row count) r 0)) (sym more) (elim (cases_eq r row) [
        | inl same ↦
            subst (λ t. IsLast new n (length ss + 1) r t) (sym (get_or-set_at rs row r count 0 same below ∙ count_is))
            (subst (λ t. IsLast new n (length ss + 1) t (length ss + 1)) (sym (same ∙ row_is)) (last_own ss s n))
        | inr other ↦
            subst (λ t. IsLast new n (length ss + 1) r t) (sym (get_or-set_other rs row r count 0 other))
            (last_other ss s n r (get_or rs r 0) (is.of_each r (omega (arith, inside, long))) (λ e. other (sym (row_is ∙ e))))
      ]));
    }

-- a sector that wasn't there stands apart
apart-push : (ss : List ℕ) (s : ℕ) → AreApart ss → IsMissing ss s → AreApart (ss ++ s ∷ [])
apart-push ss s apart never i j less inside e =
    let more : length (ss ++ s ∷ []) ≡ length ss + 1 = length-append ss (s ∷ []) in
    let low : i < length ss = omega (arith, less, inside, more) in
    let first : get_or (ss ++ s ∷ []) i 0 ≡ get_or ss i 0 = get_or-append ss (s ∷ []) 0 i low in
    elim (cases_lt j (length ss)) [
      | inl before ↦ apart i j less before (sym first ∙ e ∙ get_or-append ss (s ∷ []) 0 j before)
      | inr behind ↦ never i low (sym first ∙ e ∙ at_end ss s j (omega (arith, behind, inside, more)))
    ]

pub index-push : (ss bs rs : List ℕ) (memory a b d e s row last count : ℕ) → IsIndex ss bs rs memory a b → IsMissing ss s → length ss < memory → row ≡ row_in (length rs) s → row < length rs → last ≡ get_or rs row 0 → count ≡ length ss + 1 → a ≤ d → b ≤ e
    → IsIndex (ss ++ s ∷ []) (bs ++ last ∷ []) (set rs row count) memory d e
index-push ss bs rs memory a b d e s row last count is never some row_is below last_is count_is more_sectors more_before = record {
  some = omega (arith, some, length-append ss (s ∷ []));
  apart = apart-push ss s is.apart never;
  in_rows = rows-push ss bs rs s row last count is.in_rows row_is below last_is count_is;
  enough_sectors = omega (arith, is.enough_sectors, more_sectors);
  enough_before = omega (arith, is.enough_before, more_before);
}

pub pushed_on : {T E : Type 0} (r : Result T E) (new old : List ℕ) (x : ℕ) → IsOk r → new ≡ (if is_ok r then old ++ x ∷ [] else old) → new ≡ old ++ x ∷ []
pushed_on (Ok t) new old x ok is = is
pushed_on (Err e) new old x ok is = absurd (cc ok)

-- a step to the sector before, of the same row
pub record IsSought (sectors : List ℕ) (rows at left : ℕ) : Type 0 where
  pub within : left ≤ length sectors
  pub of_row : 0 < left → row_in rows (get_or sectors (left - 1) 0) ≡ row_in rows at
  pub never : (j : ℕ) → left ≤ j → j < length sectors → get_or sectors j 0 ≢ at
