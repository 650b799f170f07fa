-- Puts found, added and changed, and what they make of a content.
use Rattle.std.proofs.Common.{◌≡◌, ◌⊎◌, ◌<◌, ◌+◌, ℕ, zero, suc, Bool, true, false, ◌||◌, List, [], ◌∷◌, ◌++◌, length, get_or, set, refl, sym, ◌∙◌, ap, inl, inr, arith, eqb, length-set, length-append, get_or-set_same, get_or-set_other}
use Rattle.std.proofs.lemmas.Bool.{eqb-false, eq-eqb, ne_eqb, true≢false, cases_eq, or_right, or_parts}
use Rattle.std.proofs.lemmas.List.{set_comm, set-set}
use Rattle.std.proofs.lemmas.List.Sums.{fold_push}
use Rattle.std.specs.Prelude.{Result, Ok, Err, IsOk, is_ok, IsTrue, if◌then◌else◌, None, Some}
use Rattle.sector_disk.specs.Lists.{Content, sector}
use Rattle.jnl_store.specs.Batch.{bytes_of, AreOnce, has, names}
use Rattle.jnl_store.specs.Overlay.{overlay}
use Rattle.jnl_store.specs.declared.puts.Put.{Put}

or_last : (a b c : Bool) → (a || (b || c)) ≡ (b || (a || c))
or_last true true c = refl
or_last true false c = refl
or_last false true c = refl
or_last false false c = refl

pub names-push : (puts : List Put) (put : Put) (s : ℕ) → names (puts ++ put ∷ []) s ≡ (eqb s put.at || names puts s)
names-push [] put s = refl
names-push (p ∷ ps) put s = ap (λ b. eqb s p.at || b) (names-push ps put s) ∙ or_last (eqb s p.at) (eqb s put.at) (names ps s)

pub names-set : (puts : List Put) (k : ℕ) (put : Put) (s : ℕ) → has puts k put.at → names (set puts k put) s ≡ names puts s
names-set [] k put s h = absurd h
names-set (p ∷ ps) zero put s h = ap (λ n. eqb s n || names ps s) (sym h)
names-set (p ∷ ps) (suc k) put s h = ap (λ b. eqb s p.at || b) (names-set ps k put s h)

pub has-inside : (puts : List Put) (k at : ℕ) → has puts k at → k < length puts
has-inside [] k at h = absurd h
has-inside (p ∷ ps) zero at h = omega arith
has-inside (p ∷ ps) (suc k) at h = let below = has-inside ps k at h in omega arith

pub has-names : (puts : List Put) (k at : ℕ) → has puts k at → names puts at ≡ true
has-names [] k at h = absurd h
has-names (p ∷ ps) zero at h = ap (λ b. b || names ps at) (eq-eqb at p.at (sym h))
has-names (p ∷ ps) (suc k) at h = or_right (eqb at p.at) (names ps at) (has-names ps k at h)

pub once-push : (puts : List Put) (put : Put) → AreOnce puts → names puts put.at ≡ false → AreOnce (puts ++ put ∷ [])
once-push [] put once other = (refl, tt)
once-push (p ∷ ps) put once other =
    let o = or_parts (eqb put.at p.at) (names ps put.at) other in
    let apart : eqb p.at put.at ≡ false = ne_eqb p.at put.at (λ e. eqb-false put.at p.at o.0 (sym e)) in
    (names-push ps put p.at ∙ ap (λ b. b || names ps p.at) apart ∙ once.0, once-push ps put once.1 o.1)

pub once-set : (puts : List Put) (k : ℕ) (put : Put) → AreOnce puts → has puts k put.at → AreOnce (set puts k put)
once-set [] k put once h = absurd h
once-set (p ∷ ps) zero put once h = (ap (names ps) (sym h) ∙ once.0, once.1)
once-set (p ∷ ps) (suc k) put once h = (names-set ps k put p.at h ∙ once.0, once-set ps k put once.1 h)

-- a sector that isn't named may be set before or behind
pub overlay-apart : (puts : List Put) (c : Content) (at : ℕ) (value : List ℕ) → names puts at ≡ false → overlay puts (set c at value) ≡ set (overlay puts c) at value
overlay-apart [] c at value other = refl
overlay-apart (p ∷ ps) c at value other =
    let o = or_parts (eqb at p.at) (names ps at) other in
    ap (overlay ps) (sym (set_comm c p.at at p.bytes value (λ e. eqb-false at p.at o.0 (sym e)))) ∙ overlay-apart ps (set c p.at p.bytes) at value o.1

pub overlay-set : (puts : List Put) (k : ℕ) (put : Put) (c : Content) → AreOnce puts → has puts k put.at → overlay (set puts k put) c ≡ set (overlay puts c) put.at put.bytes
overlay-set [] k put c once h = absurd h
overlay-set (p ∷ ps) zero put c once h =
    let alone : names ps put.at ≡ false = ap (names ps) (sym h) ∙ once.0 in
    overlay-apart ps c put.at put.bytes alone
    ∙ ap (λ (x : Content). x) (sym (ap (λ n. set (overlay ps (set c n p.bytes)) put.at put.bytes) h
    ∙ ap (λ (x : Content). set x put.at put.bytes) (overlay-apart ps c put.at p.bytes alone)
    ∙ set-set (overlay ps c) put.at p.bytes put.bytes))
overlay-set (p ∷ ps) (suc k) put c once h = overlay-set ps k put (set c p.at p.bytes) once.1 h

pub overlay-push : (puts : List Put) (put : Put) (c : Content) → overlay (puts ++ put ∷ []) c ≡ set (overlay puts c) put.at put.bytes
overlay-push puts put c = fold_push (λ (under : Content) (p : Put). set under p.at p.bytes) c puts put

-- a sector that no put names is as it was
pub overlay-other : (puts : List Put) (c : Content) (at : ℕ) → names puts at ≡ false → sector (overlay puts c) at ≡ sector c at
overlay-other [] c at other = refl
overlay-other (p ∷ ps) c at other =
    let o = or_parts (eqb at p.at) (names ps at) other in
    overlay-other ps (set c p.at p.bytes) at o.1 ∙ get_or-set_other c p.at at p.bytes [] (eqb-false at p.at o.0)

-- and one that is named has the put's bytes
pub overlay-at : (puts : List Put) (k at : ℕ) (put : Put) (c : Content) → AreOnce puts → has puts k at → at < length c → (get_or puts k put).bytes ≡ sector (overlay puts c) at
overlay-at [] k at put c once h inside = absurd h
overlay-at (p ∷ ps) zero at put c once h inside =
    let alone : names ps at ≡ false = ap (names ps) (sym h) ∙ once.0 in
    sym (overlay-other ps (set c p.at p.bytes) at alone ∙ ap (λ n. sector (set c n p.bytes) at) h ∙ get_or-set_same c at p.bytes [] inside)
overlay-at (p ∷ ps) (suc k) at put c once h inside = overlay-at ps k at put (set c p.at p.bytes) once.1 h (omega (arith, inside, length-set c p.at p.bytes))

-- what was named stays named, and so does each other
pub same_names : (puts : List Put) (k at s : ℕ) → has puts k at → names puts s ≡ (eqb s at || names puts s)
same_names puts k at s h = elim (cases_eq s at) [
  | inl same ↦
      let named : names puts s ≡ true = ap (names puts) same ∙ has-names puts k at h in
      named ∙ sym (or_right (eqb s at) (names puts s) named)
  | inr other ↦ ap (λ b. b || names puts s) (sym (ne_eqb s at other))
]

-- a sector that isn't named yet finds room
pub room_left : (puts : List Put) (at room : ℕ) → (length puts < room) ⊎ IsTrue (names puts at) → names puts at ≡ false → length puts < room
room_left puts at room (inl some) other = some
room_left puts at room (inr named) other = absurd (true≢false (sym named ∙ other))

pub pushed : {T E : Type 0} (r : Result T E) (new all : List Put) (put : Put) → IsOk r → new ≡ (if is_ok r then all ++ put ∷ [] else all) → new ≡ all ++ put ∷ []
pushed (Ok x) new all put ok is = is
pushed (Err e) new all put ok is = absurd (cc ok)

-- how many there are then
pub counted_set : (puts all : List Put) (k at : ℕ) (put : Put) → puts ≡ all → has all k at → length (set puts k put) ≡ (if names all at then length all else length all + 1)
counted_set puts all k at put e h = length-set puts k put ∙ ap (λ (l : List Put). length l) e ∙ sym (ap (λ b. if b then length all else length all + 1) (has-names all k at h))

pub counted_push : (puts all new : List Put) (at : ℕ) (put : Put) → puts ≡ all → names all at ≡ false → new ≡ puts ++ put ∷ [] → length new ≡ (if names all at then length all else length all + 1)
counted_push puts all new at put e other is =
    ap (λ (l : List Put). length l) is ∙ length-append puts (put ∷ []) ∙ ap (λ (l : List Put). length l + 1) e ∙ sym (ap (λ b. if b then length all else length all + 1) other)

-- the bytes of a sector, where it has a put and where it has none
pub bytes_none : (puts : List Put) (at : ℕ) → names puts at ≡ false → None ≡ bytes_of puts at
bytes_none [] at none = refl
bytes_none (p ∷ ps) at none =
    let o = or_parts (eqb at p.at) (names ps at) none in
    bytes_none ps at o.1 ∙ sym (ap (λ b. if b then Some p.bytes else bytes_of ps at) o.0)

pub bytes_at : (puts : List Put) (k at : ℕ) (put : Put) → AreOnce puts → has puts k at → Some (get_or puts k put).bytes ≡ bytes_of puts at
bytes_at [] k at put once h = absurd h
bytes_at (p ∷ ps) zero at put once h = sym (ap (λ b. if b then Some p.bytes else bytes_of ps at) (eq-eqb at p.at (sym h)))
bytes_at (p ∷ ps) (suc k) at put once h =
    let apart : eqb at p.at ≡ false = ne_eqb at p.at (λ e. true≢false (sym (has-names ps k at h) ∙ ap (names ps) e ∙ once.0)) in
    bytes_at ps k at put once.1 h ∙ sym (ap (λ b. if b then Some p.bytes else bytes_of ps at) apart)
