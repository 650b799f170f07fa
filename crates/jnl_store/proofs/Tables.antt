-- The index of a table of puts: what a search tells, and what a put leaves.
use Rattle.std.proofs.Common.{◌≡◌, ◌⊎◌, ◌<◌, ◌≤◌, ◌+◌, ℕ, zero, suc, true, false, ◌||◌, List, [], ◌∷◌, ◌++◌, length, get_or, set, inl, inr, refl, sym, ◌∙◌, ap, subst, arith, eqb, length-set, length-append}
use Rattle.std.proofs.Math.ListN.{get_or-append}
use Rattle.std.proofs.Math.Seq.{get_or-append_seam}
use Rattle.std.proofs.lemmas.Bool.{cases_lt, ne_eqb, true≢false}
use Rattle.jnl_store.specs.Batch.{AreOnce, has, names}
use Rattle.jnl_store.specs.Indexed.{IsMissing, IsThere}
use Rattle.jnl_store.specs.Table.{IsTable}
use Rattle.jnl_store.specs.declared.puts.Put.{Put}
use Rattle.jnl_store.proofs.Batches.{has-names, once-push, once-set}

-- a put of a sector that has a place leaves each place as it is
pub has-set : (puts : List Put) (j k at : ℕ) (put : Put) → has puts j put.at → has puts k at → has (set puts j put) k at
has-set [] j k at put h g = absurd h
has-set (p ∷ ps) zero zero at put h g = sym h ∙ g
has-set (p ∷ ps) zero (suc k) at put h g = g
has-set (p ∷ ps) (suc j) zero at put h g = g
has-set (p ∷ ps) (suc j) (suc k) at put h g = has-set ps j k at put h g

pub has-append : (puts more : List Put) (k at : ℕ) → has puts k at → has (puts ++ more) k at
has-append [] more k at h = absurd h
has-append (p ∷ ps) more zero at h = h
has-append (p ∷ ps) more (suc k) at h = has-append ps more k at h

pub has-push : (puts : List Put) (put : Put) → has (puts ++ put ∷ []) (length puts) put.at
has-push [] put = refl
has-push (p ∷ ps) put = has-push ps put

pub table-set : (puts : List Put) (sectors : List ℕ) (memory a b k : ℕ) (put : Put) → IsTable puts sectors memory a b → has puts k put.at → IsTable (set puts k put) sectors memory a b
table-set puts sectors memory a b k put is h = record {
  once = once-set puts k put is.once h;
  some = omega (arith, is.some, length-set puts k put);
  as_many = omega (arith, is.as_many, length-set puts k put);
  placed = λ j inside. has-set puts k j (get_or sectors j 0) put h (is.placed j inside);
  enough = is.enough;
  enough_index = is.enough_index;
}

pub table-push : (puts : List Put) (sectors : List ℕ) (memory a b d e : ℕ) (put : Put) (new_puts : List Put) (new_sectors : List ℕ) → new_puts ≡ puts ++ put ∷ [] → new_sectors ≡ sectors ++ put.at ∷ [] → IsTable puts sectors memory a b → names puts put.at ≡ false → length puts < memory → a ≤ d → b ≤ e
    → IsTable new_puts new_sectors memory d e
table-push puts sectors memory a b d e put new_puts new_sectors puts_are sectors_are is other some more_puts more_index =
    let long = length-append puts (put ∷ []) in
    let long_sectors = length-append sectors (put.at ∷ []) in
    subst (λ (l : List Put). IsTable l new_sectors memory d e) (sym puts_are)
    (subst (λ (l : List ℕ). IsTable (puts ++ put ∷ []) l memory d e) (sym sectors_are) (record {
      once = once-push puts put is.once other;
      some = omega (arith, some, long);
      as_many = omega (arith, is.as_many, long, long_sectors);
      placed = λ k inside. elim (cases_lt k (length sectors)) [
        | inl before ↦ subst (λ n. has (puts ++ put ∷ []) k n) (sym (get_or-append sectors (put.at ∷ []) 0 k before)) (has-append puts (put ∷ []) k (get_or sectors k 0) (is.placed k before))
        | inr behind ↦
            let here : k ≡ length sectors = omega (arith, behind, inside, long_sectors) in
            subst (λ n. has (puts ++ put ∷ []) n (get_or (sectors ++ put.at ∷ []) k 0)) (omega (arith, here, is.as_many))
            (subst (λ n. has (puts ++ put ∷ []) (length puts) n) (sym (ap (λ n. get_or (sectors ++ put.at ∷ []) n 0) here ∙ get_or-append_seam sectors put.at [] 0)) (has-push puts put))
      ];
      enough = omega (arith, is.enough, more_puts);
      enough_index = omega (arith, is.enough_index, more_index);
    }))

-- a search that finds a sector tells where its put stands
pub located : (puts : List Put) (sectors : List ℕ) (memory a b at k : ℕ) → IsTable puts sectors memory a b → IsThere sectors at k → has puts k at
located puts sectors memory a b at k is t = subst (λ n. has puts k n) t.here (is.placed k t.inside)

names_none : (puts : List Put) (sectors : List ℕ) (at : ℕ) → length sectors ≡ length puts → ((k : ℕ) → k < length sectors → has puts k (get_or sectors k 0)) → IsMissing sectors at → names puts at ≡ false
names_none [] sectors at same placed never = refl
names_none (p ∷ ps) [] at same placed never = absurd (omega (arith, same))
names_none (p ∷ ps) (s ∷ ss) at same placed never =
    ap (λ b. b || names ps at) (ne_eqb at p.at (λ e. never 0 (omega arith) (sym (placed 0 (omega arith)) ∙ sym e)))
    ∙ names_none ps ss at (omega (arith, same)) (λ k inside. placed (suc k) (omega (arith, inside))) (λ k inside. never (suc k) (omega (arith, inside)))

-- and one that finds none that there is none
pub unnamed : (puts : List Put) (sectors : List ℕ) (memory a b at : ℕ) → IsTable puts sectors memory a b → IsMissing sectors at → names puts at ≡ false
unnamed puts sectors memory a b at is never = names_none puts sectors at is.as_many is.placed never

pub missing : (puts : List Put) (sectors : List ℕ) (memory a b at : ℕ) → IsTable puts sectors memory a b → names puts at ≡ false → IsMissing sectors at
missing puts sectors memory a b at is none k inside e = true≢false (sym (has-names puts k at (subst (λ n. has puts k n) e (is.placed k inside))) ∙ none)
