-- What puts had at the last keep, from what was saved of them.
use Rattle.std.proofs.Common.{◌≡◌, ◌≢◌, ◌⊎◌, ◌<◌, ◌≤◌, ◌+◌, ℕ, zero, suc, Bool, true, false, ◌||◌, List, [], ◌∷◌, ◌++◌, length, get_or, set, take, refl, sym, ◌∙◌, ap, subst, inl, inr, ⊎_elim, arith, eqb, length-set, length-append}
use Rattle.std.proofs.lemmas.Bool.{eqb-false, eqb-true, eq-eqb, ne_eqb, true≢false, cases_Bool, cases_eq, cases_lt, or_cases, or_right, or_parts}
use Rattle.std.proofs.lemmas.List.{length-take-le, set-get_or, set_past, take-append-le}
use Rattle.std.proofs.Math.Seq.{take-suc}
use Rattle.std.specs.Prelude.{IsTrue, MatchOption, Option, None, Some, if◌then◌else◌}
use Rattle.sector_disk.specs.Lists.{Content, sector}
use Rattle.jnl_store.specs.Batch.{AreOnce, IsPlaced, bytes_of, has, names, or_put, put_in, restored, restored_front, saved_or, with_put}
use Rattle.jnl_store.specs.Overlay.{overlay}
use Rattle.jnl_store.specs.SpaceLaws.{length-overlay}
use Rattle.jnl_store.specs.declared.puts.Put.{Put}
use Rattle.jnl_store.proofs.Batches.{bytes_at, bytes_none, has-names, names-push, overlay-at, overlay-other, same_names}

-- ---- the put of a sector

pub put_in_none : (puts : List Put) (at : ℕ) → names puts at ≡ false → put_in puts at ≡ None
put_in_none [] at none = refl
put_in_none (p ∷ ps) at none =
    let o = or_parts (eqb at p.at) (names ps at) none in
    ap (λ b. if b then Some p else put_in ps at) o.0 ∙ put_in_none ps at o.1

pub put_in_named : (puts : List Put) (at : ℕ) → names puts at ≡ true → (put : Put) × (put_in puts at ≡ Some put)
put_in_named [] at named = absurd (true≢false (sym named))
put_in_named (p ∷ ps) at named = elim (cases_Bool (eqb at p.at)) [
  | inl here ↦ (p, ap (λ b. if b then Some p else put_in ps at) here)
  | inr apart ↦
      let h = put_in_named ps at (sym (ap (λ b. b || names ps at) apart) ∙ named) in
      (h.0, ap (λ b. if b then Some p else put_in ps at) apart ∙ h.1)
]

pub put_in_some : (puts : List Put) (at : ℕ) (put : Put) → put_in puts at ≡ Some put → (names puts at ≡ true) × (put.at ≡ at)
put_in_some [] at put is = absurd (cc is)
put_in_some (p ∷ ps) at put is = elim (cases_Bool (eqb at p.at)) [
  | inl here ↦
      let e : Some p ≡ Some put = sym (ap (λ b. if b then Some p else put_in ps at) here) ∙ is in
      let same : p ≡ put = ap (λ (o : Option Put). or_put o p) e in
      (ap (λ b. b || names ps at) here, ap (λ (x : Put). x.at) (sym same) ∙ sym (eqb-true at p.at here))
  | inr apart ↦
      let h = put_in_some ps at put (sym (ap (λ b. if b then Some p else put_in ps at) apart) ∙ is) in
      (or_right (eqb at p.at) (names ps at) h.0, h.1)
]

pub none_named : (puts : List Put) (at : ℕ) → put_in puts at ≡ None → names puts at ≡ false
none_named puts at is = elim (cases_Bool (names puts at)) [
  | inl named ↦ let h = put_in_named puts at named in absurd (let no : None ≡ Some h.0 = sym is ∙ h.1 in cc no)
  | inr none ↦ none
]

pub names_take : (puts : List Put) (count at : ℕ) → names puts at ≡ false → names (take count puts) at ≡ false
names_take puts zero at none = refl
names_take [] (suc n) at none = refl
names_take (p ∷ ps) (suc n) at none =
    let o = or_parts (eqb at p.at) (names ps at) none in
    ap (λ b. b || names (take n ps) at) o.0 ∙ names_take ps n at o.1

-- a sector's put among the first so many, from its place
apart_from : (p : Put) (ps : List Put) (k at : ℕ) → names ps p.at ≡ false → has ps k at → eqb at p.at ≡ false
apart_from p ps k at other h = ne_eqb at p.at (λ e. true≢false (sym (has-names ps k at h) ∙ ap (names ps) e ∙ other))

pub among_here : (puts : List Put) (k at count : ℕ) (put : Put) → AreOnce puts → has puts k at → k < count → Some (get_or puts k put) ≡ put_in (take count puts) at
among_here [] k at count put once h below = absurd h
among_here (p ∷ ps) k at zero put once h below = absurd (omega (arith, below))
among_here (p ∷ ps) zero at (suc n) put once h below = sym (ap (λ b. if b then Some p else put_in (take n ps) at) (eq-eqb at p.at (sym h)))
among_here (p ∷ ps) (suc k) at (suc n) put once h below =
    among_here ps k at n put once.1 h (omega (arith, below)) ∙ sym (ap (λ b. if b then Some p else put_in (take n ps) at) (apart_from p ps k at once.0 h))

pub among_beyond : (puts : List Put) (k at count : ℕ) → AreOnce puts → has puts k at → count ≤ k → None ≡ put_in (take count puts) at
among_beyond [] k at count once h beyond = absurd h
among_beyond (p ∷ ps) k at zero once h beyond = refl
among_beyond (p ∷ ps) zero at (suc n) once h beyond = absurd (omega (arith, beyond))
among_beyond (p ∷ ps) (suc k) at (suc n) once h beyond =
    among_beyond ps k at n once.1 h (omega (arith, beyond)) ∙ sym (ap (λ b. if b then Some p else put_in (take n ps) at) (apart_from p ps k at once.0 h))

pub among_none : (puts : List Put) (count at : ℕ) → names puts at ≡ false → None ≡ put_in (take count puts) at
among_none puts count at none = sym (put_in_none (take count puts) at (names_take puts count at none))

pub put_here : (puts : List Put) (k at : ℕ) (put : Put) → AreOnce puts → has puts k at → Some (get_or puts k put) ≡ put_in puts at
put_here [] k at put once h = absurd h
put_here (p ∷ ps) zero at put once h = sym (ap (λ b. if b then Some p else put_in ps at) (eq-eqb at p.at (sym h)))
put_here (p ∷ ps) (suc k) at put once h = put_here ps k at put once.1 h ∙ sym (ap (λ b. if b then Some p else put_in ps at) (apart_from p ps k at once.0 h))

-- ---- a put as it was

or_at : (o : Option Put) (put : Put) → ((p : Put) → o ≡ Some p → p.at ≡ put.at) → (or_put o put).at ≡ put.at
or_at None put h = refl
or_at (Some p) put h = h p refl

pub saved_at : (saved : List Put) (put : Put) → (saved_or saved put).at ≡ put.at
saved_at saved put = or_at (put_in saved put.at) put (λ p is. (put_in_some saved put.at p is).1)

pub saved_none : (saved : List Put) (put : Put) → names saved put.at ≡ false → saved_or saved put ≡ put
saved_none saved put none = ap (λ (o : Option Put). or_put o put) (put_in_none saved put.at none)

-- puts of one sector are the same as they were
same_saved : (saved : List Put) (a b : Put) → a.at ≡ b.at → names saved a.at ≡ true → saved_or saved a ≡ saved_or saved b
same_saved saved a b e named =
    let h = put_in_named saved a.at named in
    ap (λ (o : Option Put). or_put o a) h.1 ∙ sym (ap (λ (o : Option Put). or_put o b) (ap (put_in saved) (sym e) ∙ h.1))

-- saving a put of another sector
put_in_other : (saved : List Put) (put : Put) (at : ℕ) → eqb at put.at ≡ false → put_in (saved ++ put ∷ []) at ≡ put_in saved at
put_in_other [] put at apart = ap (λ b. if b then Some put else None) apart
put_in_other (s ∷ ss) put at apart = ap (λ (o : Option Put). if eqb at s.at then Some s else o) (put_in_other ss put at apart)

put_in_push : (saved : List Put) (put : Put) (at : ℕ) → names saved at ≡ false → at ≡ put.at → put_in (saved ++ put ∷ []) at ≡ Some put
put_in_push [] put at none here = ap (λ b. if b then Some put else None) (eq-eqb at put.at here)
put_in_push (s ∷ ss) put at none here =
    let o = or_parts (eqb at s.at) (names ss at) none in
    ap (λ b. if b then Some s else put_in (ss ++ put ∷ []) at) o.0 ∙ put_in_push ss put at o.1 here

-- ---- the puts as they were

pub names_restored : (all saved : List Put) (count at : ℕ) → names (restored all saved count) at ≡ names (take count all) at
names_restored [] saved zero at = refl
names_restored [] saved (suc n) at = refl
names_restored (p ∷ ps) saved zero at = refl
names_restored (p ∷ ps) saved (suc n) at = λ i. eqb at (saved_at saved p i) || names_restored ps saved n at i

pub once_restored : (all saved : List Put) (count : ℕ) → AreOnce all → AreOnce (restored all saved count)
once_restored [] saved count once = tt
once_restored (p ∷ ps) saved zero once = tt
once_restored (p ∷ ps) saved (suc n) once =
    (ap (names (restored ps saved n)) (saved_at saved p) ∙ names_restored ps saved n p.at ∙ names_take ps n p.at once.0, once_restored ps saved n once.1)

pub length_restored : (all saved : List Put) (count : ℕ) → count ≤ length all → length (restored all saved count) ≡ count
length_restored [] saved count few = omega (arith, few)
length_restored (p ∷ ps) saved zero few = refl
length_restored (p ∷ ps) saved (suc n) few = ap (λ m. suc m) (length_restored ps saved n (omega (arith, few)))

-- nothing was saved: they are as they are
pub restored_all : (all : List Put) (count : ℕ) → count ≡ length all → restored all [] count ≡ all
restored_all [] count is = refl
restored_all (p ∷ ps) zero is = absurd (omega (arith, is))
restored_all (p ∷ ps) (suc n) is = ap (λ (l : List Put). p ∷ l) (restored_all ps n (omega (arith, is)))

restored_push : (all saved : List Put) (put : Put) (count : ℕ) → count ≤ length all → restored (all ++ put ∷ []) saved count ≡ restored all saved count
restored_push [] saved put zero few = refl
restored_push [] saved put (suc n) few = absurd (omega (arith, few))
restored_push (p ∷ ps) saved put zero few = refl
restored_push (p ∷ ps) saved put (suc n) few = ap (λ (l : List Put). saved_or saved p ∷ l) (restored_push ps saved put n (omega (arith, few)))

restored_set : (all saved : List Put) (k : ℕ) (put : Put) (count : ℕ) → has all k put.at → (names (take count all) put.at ≡ true → names saved put.at ≡ true) → restored (set all k put) saved count ≡ restored all saved count
restored_set [] saved k put count h named = absurd h
restored_set (p ∷ ps) saved zero put zero h named = refl
restored_set (p ∷ ps) saved (suc k) put zero h named = refl
restored_set (p ∷ ps) saved zero put (suc n) h named =
    ap (λ (x : Put). x ∷ restored ps saved n) (same_saved saved put p (sym h) (named (ap (λ b. b || names (take n ps) put.at) (eq-eqb put.at p.at (sym h)))))
restored_set (p ∷ ps) saved (suc k) put (suc n) h named =
    ap (λ (l : List Put). saved_or saved p ∷ l) (restored_set ps saved k put n h (λ is. named (or_right (eqb put.at p.at) (names (take n ps) put.at) is)))

-- A put changes nothing of what they were, where the sector's put was saved if it is one of them.
pub restored_placed : (old new saved : List Put) (put : Put) (count : ℕ) → IsPlaced old put new → count ≤ length old → (names (take count old) put.at ≡ true → names saved put.at ≡ true) → restored new saved count ≡ restored old saved count
restored_placed old new saved put count placed few named = ⊎_elim
    (λ p. ap (λ (l : List Put). restored l saved count) p.1 ∙ restored_push old saved put count few)
    (λ q. ap (λ (l : List Put). restored l saved count) q.2 ∙ restored_set old saved q.0 put count q.1 named)
    placed

names_take_set : (all : List Put) (k : ℕ) (put : Put) (count at : ℕ) → has all k put.at → names (take count (set all k put)) at ≡ names (take count all) at
names_take_set [] k put count at h = absurd h
names_take_set (p ∷ ps) zero put zero at h = refl
names_take_set (p ∷ ps) (suc k) put zero at h = refl
names_take_set (p ∷ ps) zero put (suc n) at h = ap (λ m. eqb at m || names (take n ps) at) (sym h)
names_take_set (p ∷ ps) (suc k) put (suc n) at h = ap (λ b. eqb at p.at || b) (names_take_set ps k put n at h)

pub names_placed : (old new : List Put) (put : Put) (count at : ℕ) → IsPlaced old put new → count ≤ length old → names (take count new) at ≡ names (take count old) at
names_placed old new put count at placed few = ⊎_elim
    (λ p. ap (λ (l : List Put). names (take count l) at) p.1 ∙ ap (λ (l : List Put). names l at) (take-append-le count old (put ∷ []) few))
    (λ q. ap (λ (l : List Put). names (take count l) at) q.2 ∙ names_take_set old q.0 put count at q.1)
    placed

-- what is put where nothing of its sector stands joins at the end
pub joined_end : (old new : List Put) (put : Put) → names old put.at ≡ false → IsPlaced old put new → new ≡ old ++ put ∷ []
joined_end old new put none placed = ⊎_elim (λ p. p.1) (λ q. absurd (true≢false (sym (has-names old q.0 put.at q.1) ∙ none))) placed

-- ---- a put is saved

restored_other : (all saved : List Put) (put : Put) (count : ℕ) → names all put.at ≡ false → restored all (saved ++ put ∷ []) count ≡ restored all saved count
restored_other [] saved put count none = refl
restored_other (p ∷ ps) saved put zero none = refl
restored_other (p ∷ ps) saved put (suc n) none =
    let o = or_parts (eqb put.at p.at) (names ps put.at) none in
    let apart : eqb p.at put.at ≡ false = ne_eqb p.at put.at (λ e. eqb-false put.at p.at o.0 (sym e)) in
    λ i. or_put (put_in_other saved put p.at apart i) p ∷ restored_other ps saved put n o.1 i

pub restored_saved : (all saved : List Put) (put : Put) (count : ℕ) → AreOnce all → names saved put.at ≡ false → put_in (take count all) put.at ≡ Some put → restored all (saved ++ put ∷ []) count ≡ restored all saved count
restored_saved [] saved put count once none is = refl
restored_saved (p ∷ ps) saved put zero once none is = refl
restored_saved (p ∷ ps) saved put (suc n) once none is = elim (cases_Bool (eqb put.at p.at)) [
  | inl here ↦
      let e : Some p ≡ Some put = sym (ap (λ b. if b then Some p else put_in (take n ps) put.at) here) ∙ is in
      let same : p ≡ put = ap (λ (o : Option Put). or_put o p) e in
      let at_is : p.at ≡ put.at = ap (λ (x : Put). x.at) same in
      let none_there : names saved p.at ≡ false = ap (names saved) at_is ∙ none in
      let head : saved_or (saved ++ put ∷ []) p ≡ saved_or saved p = ap (λ (o : Option Put). or_put o p) (put_in_push saved put p.at none_there at_is) ∙ sym same ∙ sym (saved_none saved p none_there) in
      λ i. head i ∷ restored_other ps saved put n (ap (names ps) (sym at_is) ∙ once.0) i
  | inr other ↦
      let apart : eqb p.at put.at ≡ false = ne_eqb p.at put.at (λ e. eqb-false put.at p.at other (sym e)) in
      let rest = restored_saved ps saved put n once.1 none (sym (ap (λ b. if b then Some p else put_in (take n ps) put.at) other) ∙ is) in
      λ i. or_put (put_in_other saved put p.at apart i) p ∷ rest i
]

-- ---- no more sectors are saved than there are

abbrev without : List Put → ℕ → List Put
without [] at = []
without (p ∷ ps) at = if eqb at p.at then ps else p ∷ without ps at

length_without : (all : List Put) (at : ℕ) → names all at ≡ true → length (without all at) + 1 ≡ length all
length_without [] at named = absurd (true≢false (sym named))
length_without (p ∷ ps) at named = elim (cases_Bool (eqb at p.at)) [
  | inl here ↦ let e : length (without (p ∷ ps) at) ≡ length ps = ap (λ b. length (if b then ps else p ∷ without ps at)) here in omega (arith, e)
  | inr apart ↦
      let e : length (without (p ∷ ps) at) ≡ suc (length (without ps at)) = ap (λ b. length (if b then ps else p ∷ without ps at)) apart in
      omega (arith, e, length_without ps at (sym (ap (λ b. b || names ps at) apart) ∙ named))
]

names_without : (all : List Put) (at s : ℕ) → s ≢ at → names (without all at) s ≡ names all s
names_without [] at s other = refl
names_without (p ∷ ps) at s other = elim (cases_Bool (eqb at p.at)) [
  | inl here ↦
      ap (λ b. names (if b then ps else p ∷ without ps at) s) here
      ∙ sym (ap (λ b. b || names ps s) (ne_eqb s p.at (λ e. other (e ∙ sym (eqb-true at p.at here)))))
  | inr apart ↦ ap (λ b. names (if b then ps else p ∷ without ps at) s) apart ∙ ap (λ b. eqb s p.at || b) (names_without ps at s other)
]

pub no_more : (some all : List Put) → AreOnce some → ((s : ℕ) → names some s ≡ true → names all s ≡ true) → length some ≤ length all
no_more [] all once within = omega arith
no_more (p ∷ ps) all once within =
    let there = within p.at (ap (λ b. b || names ps p.at) (eq-eqb p.at p.at refl)) in
    let rest = no_more ps (without all p.at) once.1
    (λ s named. names_without all p.at s (λ e. true≢false (sym named ∙ ap (names ps) e ∙ once.0)) ∙ within s (or_right (eqb s p.at) (names ps s) named)) in
    omega (arith, rest, length_without all p.at there)

-- ---- it is saved once

module _ (all saved : List Put) (put : Put) (count at : ℕ) (is : put_in (take count all) at ≡ Some put) where
  there : names (take count all) put.at ≡ true
  there = let h = put_in_some (take count all) at put is in ap (names (take count all)) h.1 ∙ h.0

  here : put_in (take count all) put.at ≡ Some put
  here = ap (put_in (take count all)) (put_in_some (take count all) at put is).1 ∙ is

  pub save_same : AreOnce all → restored all (with_put saved put) count ≡ restored all saved count
  save_same once = elim (cases_Bool (names saved put.at)) [
    | inl named ↦ ap (λ b. restored all (if b then saved else saved ++ put ∷ []) count) named
    | inr none ↦ ap (λ b. restored all (if b then saved else saved ++ put ∷ []) count) none ∙ restored_saved all saved put count once none here
  ]

  pub save_within : ((s : ℕ) → names saved s ≡ true → names (take count all) s ≡ true) → (s : ℕ) → names (with_put saved put) s ≡ true → names (take count all) s ≡ true
  save_within within s named = elim (cases_Bool (names saved put.at)) [
    | inl had ↦ within s (sym (ap (λ b. names (if b then saved else saved ++ put ∷ []) s) had) ∙ named)
    | inr none ↦ ⊎_elim
        (λ same. ap (names (take count all)) (eqb-true s put.at same) ∙ there)
        (λ was. within s was)
        (or_cases (eqb s put.at) (names saved s) (sym (ap (λ b. names (if b then saved else saved ++ put ∷ []) s) none ∙ names-push saved put s) ∙ named))
  ]

  pub save_there : names (with_put saved put) at ≡ true
  save_there =
      let at_is = (put_in_some (take count all) at put is).1 in
      elim (cases_Bool (names saved put.at)) [
        | inl had ↦ ap (λ b. names (if b then saved else saved ++ put ∷ []) at) had ∙ ap (names saved) (sym at_is) ∙ had
        | inr none ↦
            ap (λ b. names (if b then saved else saved ++ put ∷ []) at) none ∙ names-push saved put at ∙ ap (λ b. b || names saved at) (eq-eqb at put.at (sym at_is))
      ]

  pub save_room : (memory : ℕ) → AreOnce saved → ((s : ℕ) → names saved s ≡ true → names (take count all) s ≡ true) → count ≤ length all → length all ≤ memory → names saved put.at ≡ false → length saved < memory
  save_room memory once within few enough none =
      let rest = no_more saved (without (take count all) put.at) once (λ s named. names_without (take count all) put.at s (λ e. true≢false (sym named ∙ ap (names saved) e ∙ none)) ∙ within s named) in
      omega (arith, rest, length_without (take count all) put.at there, length-take-le count all few, few, enough)

-- ---- bytes as they were

bytes_restored : (all saved : List Put) (count at : ℕ) (put : Put) → put_in (take count all) at ≡ Some put → bytes_of (restored all saved count) at ≡ Some (saved_or saved put).bytes
bytes_restored all saved zero at put is = absurd (cc is)
bytes_restored [] saved (suc n) at put is = absurd (cc is)
bytes_restored (p ∷ ps) saved (suc n) at put is = elim (cases_Bool (eqb at p.at)) [
  | inl here ↦
      let e : Some p ≡ Some put = sym (ap (λ b. if b then Some p else put_in (take n ps) at) here) ∙ is in
      let same : p ≡ put = ap (λ (o : Option Put). or_put o p) e in
      ap (λ m. if eqb at m then Some (saved_or saved p).bytes else bytes_of (restored ps saved n) at) (saved_at saved p)
      ∙ ap (λ b. if b then Some (saved_or saved p).bytes else bytes_of (restored ps saved n) at) here
      ∙ ap (λ (x : Put). Some (saved_or saved x).bytes) same
  | inr apart ↦
      ap (λ m. if eqb at m then Some (saved_or saved p).bytes else bytes_of (restored ps saved n) at) (saved_at saved p)
      ∙ ap (λ b. if b then Some (saved_or saved p).bytes else bytes_of (restored ps saved n) at) apart
      ∙ bytes_restored ps saved n at put (sym (ap (λ b. if b then Some p else put_in (take n ps) at) apart) ∙ is)
]

pub kept_none : (all saved : List Put) (count at : ℕ) → put_in (take count all) at ≡ None → None ≡ bytes_of (restored all saved count) at
kept_none all saved count at is = bytes_none (restored all saved count) at (names_restored all saved count at ∙ none_named (take count all) at is)

pub kept_put : (all saved : List Put) (count at : ℕ) (put : Put) → put_in (take count all) at ≡ Some put → Some (saved_or saved put).bytes ≡ bytes_of (restored all saved count) at
kept_put all saved count at put is = sym (bytes_restored all saved count at put is)

-- what bytes a sector has under puts
names_has : (puts : List Put) (at : ℕ) → names puts at ≡ true → (k : ℕ) × has puts k at
names_has [] at named = absurd (true≢false (sym named))
names_has (p ∷ ps) at named = elim (cases_Bool (eqb at p.at)) [
  | inl here ↦ (zero, sym (eqb-true at p.at here))
  | inr apart ↦ let h = names_has ps at (sym (ap (λ b. b || names ps at) apart) ∙ named) in (suc h.0, h.1)
]

pub bytes_value : (puts : List Put) (r : Option (List ℕ)) (at : ℕ) → AreOnce puts → r ≡ bytes_of puts at → (c : Content) → at < length c → MatchOption r (sector (overlay puts c) at ≡ sector c at) (λ bytes. bytes ≡ sector (overlay puts c) at)
bytes_value [] r at once is c inside = subst (λ (o : Option (List ℕ)). MatchOption o (sector c at ≡ sector c at) (λ bytes. bytes ≡ sector c at)) (sym is) refl
bytes_value (p ∷ ps) r at once is c inside =
    let puts : List Put = p ∷ ps in
    elim (cases_Bool (names puts at)) [
      | inl named ↦
          let h = names_has puts at named in
          subst (λ (o : Option (List ℕ)). MatchOption o (sector (overlay puts c) at ≡ sector c at) (λ bytes. bytes ≡ sector (overlay puts c) at)) (bytes_at puts h.0 at p once h.1 ∙ sym is) (overlay-at puts h.0 at p c once h.1 inside)
      | inr none ↦ subst (λ (o : Option (List ℕ)). MatchOption o (sector (overlay puts c) at ≡ sector c at) (λ bytes. bytes ≡ sector (overlay puts c) at)) (bytes_none puts at none ∙ sym is) (overlay-other puts c at none)
    ]

-- a sector that these bytes were put into
pub kept_names : (puts : List Put) (at : ℕ) (bytes : List ℕ) → bytes_of puts at ≡ Some bytes → names puts at ≡ true
kept_names puts at bytes is = elim (cases_Bool (names puts at)) [
  | inl named ↦ named
  | inr none ↦ absurd (cc (bytes_none puts at none ∙ is))
]

pub kept_each : (puts : List Put) (at s : ℕ) (bytes : List ℕ) → bytes_of puts at ≡ Some bytes → names puts s ≡ (eqb s at || names puts s)
kept_each puts at s bytes is = let h = names_has puts at (kept_names puts at bytes is) in same_names puts h.0 at s h.1

pub kept_count : (puts : List Put) (at : ℕ) (bytes : List ℕ) → bytes_of puts at ≡ Some bytes → length puts ≡ (if names puts at then length puts else length puts + 1)
kept_count puts at bytes is = sym (ap (λ b. if b then length puts else length puts + 1) (kept_names puts at bytes is))

-- and is as if they were put once more
pub kept_content : (puts : List Put) (at : ℕ) (bytes : List ℕ) (c : Content) → AreOnce puts → bytes_of puts at ≡ Some bytes → overlay puts c ≡ set (overlay puts c) at bytes
kept_content puts at bytes c once is = elim (cases_lt at (length c)) [
  | inl inside ↦
      let here : bytes ≡ sector (overlay puts c) at = bytes_value puts (Some bytes) at once (sym is) c inside in
      sym (ap (set (overlay puts c) at) here ∙ set-get_or (overlay puts c) at [])
  | inr past ↦ sym (set_past (overlay puts c) at bytes (omega (arith, past, length-overlay puts c)))
]

-- ---- puts that are brought back one after another

pub front_none : (puts saved : List Put) → puts ≡ restored_front puts saved 0
front_none [] saved = refl
front_none (p ∷ ps) saved = refl

pub front_step : (puts saved : List Put) (k : ℕ) (put : Put) → k < length puts → put ≡ get_or (restored_front puts saved k) k put → set (restored_front puts saved k) k (saved_or saved put) ≡ restored_front puts saved (k + 1)
front_step puts saved k put below is = step puts k below is ∙ ap (restored_front puts saved) (let up : suc k ≡ k + 1 = omega arith in up)
  where
    step : (l : List Put) (n : ℕ) → n < length l → put ≡ get_or (restored_front l saved n) n put → set (restored_front l saved n) n (saved_or saved put) ≡ restored_front l saved (suc n)
    step [] n low here = absurd (omega (arith, low))
    step (p ∷ ps) zero low here = λ i. saved_or saved (here i) ∷ front_none ps saved i
    step (p ∷ ps) (suc n) low here = ap (λ (l : List Put). saved_or saved p ∷ l) (step ps n (omega (arith, low)) here)

pub front_length : (puts saved : List Put) (count : ℕ) → length (restored_front puts saved count) ≡ length puts
front_length [] saved count = refl
front_length (p ∷ ps) saved zero = refl
front_length (p ∷ ps) saved (suc n) = ap (λ m. suc m) (front_length ps saved n)

pub take_front : (puts saved : List Put) (count : ℕ) → take count (restored_front puts saved count) ≡ restored puts saved count
take_front [] saved zero = refl
take_front [] saved (suc n) = refl
take_front (p ∷ ps) saved zero = refl
take_front (p ∷ ps) saved (suc n) = ap (λ (l : List Put). saved_or saved p ∷ l) (take_front ps saved n)

pub has_get : (puts : List Put) (k : ℕ) (put : Put) → k < length puts → has puts k (get_or puts k put).at
has_get [] k put below = absurd (omega (arith, below))
has_get (p ∷ ps) zero put below = refl
has_get (p ∷ ps) (suc k) put below = has_get ps k put (omega (arith, below))

-- ---- puts that are copied one after another

not_before : (puts : List Put) (k : ℕ) (put : Put) → AreOnce puts → k < length puts → names (take k puts) (get_or puts k put).at ≡ false
not_before [] k put once below = absurd (omega (arith, below))
not_before (p ∷ ps) zero put once below = refl
not_before (p ∷ ps) (suc k) put once below =
    let inside : k < length ps = omega (arith, below) in
    ap (λ b. b || names (take k ps) (get_or ps k put).at) (apart_from p ps k (get_or ps k put).at once.0 (has_get ps k put inside)) ∙ not_before ps k put once.1 inside

pub copied_step : (from now new : List Put) (k : ℕ) (put : Put) → AreOnce from → k < length from → now ≡ take k from → put ≡ get_or from k put → IsPlaced now put new → new ≡ take (k + 1) from
copied_step from now new k put once below is here placed =
    let none : names now put.at ≡ false = ap (λ (l : List Put). names l put.at) is ∙ ap (λ (x : Put). names (take k from) x.at) here ∙ not_before from k put once below in
    joined_end now new put none placed ∙ (λ i. is i ++ here i ∷ []) ∙ sym (take-suc from k put below) ∙ ap (λ n. take n from) (let up : suc k ≡ k + 1 = omega arith in up)

-- ---- how many there are behind a put

pub no_fewer : (all new : List Put) (at : ℕ) → length new ≡ (if names all at then length all else length all + 1) → length all ≤ length new
no_fewer all new at count = elim (cases_Bool (names all at)) [
  | inl named ↦ omega (arith, count ∙ ap (λ b. if b then length all else length all + 1) named)
  | inr none ↦ omega (arith, count ∙ ap (λ b. if b then length all else length all + 1) none)
]

pub fits_room : (all new : List Put) (at room : ℕ) → length new ≡ (if names all at then length all else length all + 1) → length all ≤ room → (length all < room) ⊎ IsTrue (names all at) → length new ≤ room
fits_room all new at room count fits some = elim (cases_Bool (names all at)) [
  | inl named ↦ omega (arith, fits, count ∙ ap (λ b. if b then length all else length all + 1) named)
  | inr none ↦ ⊎_elim (λ low. omega (arith, low, count ∙ ap (λ b. if b then length all else length all + 1) none)) (λ named. absurd (true≢false (sym named ∙ none))) some
]
