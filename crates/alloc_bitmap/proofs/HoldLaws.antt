-- Blocks that extents hold.
use Rattle.std.proofs.Common.{◌≡◌, ℕ, suc, zero, ◌+◌, ◌-◌, ◌≤◌, ◌<◌, Bool, true, false, not, ◌&&◌, ◌||◌, if◌then◌else◌, List, [], ◌∷◌, ◌++◌, length, get_or, take, drop, replicate, refl, sym, ◌∙◌, ap, subst, arith, ⊎_elim, length-drop}
use Rattle.std.proofs.lemmas.List.{same_lists, length-replicate, get_or-replicate, length_push, get_or_past, take-append-drop, take_all}
use Rattle.std.proofs.lemmas.List.FromFn.{length-map-range_with_len, get_or-map-range_with_len}
use Rattle.std.proofs.lemmas.List.Folds.{list_any-append}
use Rattle.std.proofs.lemmas.Bool.{cases_lt, le-leb, lt-leb}
use Rattle.std.proofs.lemmas.Bool.Decides.{leb_tells}
use Rattle.hx_bytes.specs.declared.extents.Extent.{Extent}
use Rattle.flag_rows.specs.Bits.{mark, has}
use Rattle.flag_rows.specs.Marks.{is_held}
use Rattle.alloc_bitmap.specs.Kept.{held_by, AreHolds}
use Rattle.flag_rows.specs.Marks.{Fit, mark_all}
use Rattle.flag_rows.proofs.TakeLaws.{length-mark_all, get_or-mark_all}
use Rattle.flag_rows.proofs.RowLaws.{length-mark, get_or-mark}

pub length-held : (n : ℕ) (es : List Extent) → length (held_by n es) ≡ n
length-held n es = length-map-range_with_len (λ k. is_held es k) 0 n

pub get_or-held : (n : ℕ) (es : List Extent) (k : ℕ) (d : Bool) → k < n → get_or (held_by n es) k d ≡ is_held es k
get_or-held n es k d lt = get_or-map-range_with_len (λ j. is_held es j) 0 n k k d lt (omega arith)

pub held_none : (n : ℕ) → held_by n [] ≡ replicate n false
held_none n = same_lists (held_by n []) (replicate n false) (length-held n [] ∙ sym (length-replicate n false))
    (λ k d lt. let below : k < n = omega (arith, lt, length-held n []) in get_or-held n [] k d below ∙ sym (get_or-replicate n k false d below))

or_false : (a b : Bool) → (a || (b || false)) ≡ (if b then true else a)
or_false true true = refl
or_false true false = refl
or_false false true = refl
or_false false false = refl

pub held_add : (n : ℕ) (es : List Extent) (e : Extent) → e.start + e.count ≤ n → held_by n (es ++ e ∷ []) ≡ mark (held_by n es) e true
held_add n es e fits =
    let inside : e.start + e.count ≤ length (held_by n es) = omega (arith, fits, length-held n es) in
    same_lists (held_by n (es ++ e ∷ [])) (mark (held_by n es) e true) (length-held n (es ++ e ∷ []) ∙ sym (length-mark (held_by n es) e true inside ∙ length-held n es))
    (λ k d lt. let below : k < n = omega (arith, lt, length-held n (es ++ e ∷ [])) in
    get_or-held n (es ++ e ∷ []) k d below ∙ list_any-append (λ (x : Extent). has x k) es (e ∷ []) ∙ or_false (is_held es k) (has e k)
    ∙ ap (λ b. if has e k then true else b) (sym (get_or-held n es k d below)) ∙ sym (get_or-mark (held_by n es) e true k d inside))

fit_add : (n : ℕ) (es : List Extent) (e : Extent) → Fit n es → e.start + e.count ≤ n → Fit n (es ++ e ∷ [])
fit_add n [] e f fits = (fits, tt)
fit_add n (x ∷ es) e f fits = (f.0, fit_add n es e f.1 fits)

pub holds_none : (n : ℕ) (es : List Extent) → es ≡ [] → AreHolds n es 0
holds_none n es is = subst (λ (l : List Extent). AreHolds n l 0) (sym is) (record { fit = tt; kept_inside = omega arith })

pub holds_add : (n : ℕ) (es new : List Extent) (e : Extent) (kept : ℕ) → AreHolds n es kept → e.start + e.count ≤ n → new ≡ es ++ e ∷ [] → AreHolds n new kept
holds_add n es new e kept h fits is = subst (λ (l : List Extent). AreHolds n l kept) (sym is) (record { fit = fit_add n es e h.fit fits; kept_inside = omega (arith, h.kept_inside, length_push es e) })

-- ---- which blocks an extent has
pub has_in : (e : Extent) (k : ℕ) → e.start ≤ k → k < e.start + e.count → has e k ≡ true
has_in e k low high = rw (le-leb e.start k low, le-leb (suc k) (e.start + e.count) high) refl

pub has_below : (e : Extent) (k : ℕ) → k < e.start → has e k ≡ false
has_below e k lt = rw (lt-leb e.start k lt) refl

pub has_above : (e : Extent) (k : ℕ) → e.start + e.count ≤ k → has e k ≡ false
has_above e k past = ⊎_elim (λ low. rw (low.0, lt-leb (suc k) (e.start + e.count) (omega (arith, past))) refl) (λ under. rw under.0 refl) (leb_tells e.start k)

pub has_range : (e : Extent) (k : ℕ) → has e k ≡ true → (e.start ≤ k) × (k < e.start + e.count)
has_range e k h = ⊎_elim
    (λ low. ⊎_elim (λ high. (low.1, high.1)) (λ past. absurd (let no : false ≡ true = sym (has_above e k (omega (arith, past.1))) ∙ h in cc no)) (leb_tells (suc k) (e.start + e.count)))
    (λ under. absurd (let no : false ≡ true = sym (has_below e k under.1) ∙ h in cc no))
    (leb_tells e.start k)

-- ---- the first of the holds, and the others
pub fit_part : (n k : ℕ) (es : List Extent) → Fit n es → Fit n (drop k es)
fit_part n zero es f = f
fit_part n (suc k) [] f = tt
fit_part n (suc k) (e ∷ es) f = fit_part n k es f.1

pub fit_front : (n k : ℕ) (es : List Extent) → Fit n es → Fit n (take k es)
fit_front n zero es f = tt
fit_front n (suc k) [] f = tt
fit_front n (suc k) (e ∷ es) f = (f.0, fit_front n k es f.1)

-- a block is held by one of the first, or by one of the others
pub held_parts : (kept k : ℕ) (es : List Extent) → is_held es k ≡ (is_held (take kept es) k || is_held (drop kept es) k)
held_parts kept k es = ap (λ (l : List Extent). is_held l k) (sym (take-append-drop kept es)) ∙ list_any-append (λ (x : Extent). has x k) (take kept es) (drop kept es)

-- ---- flags of held blocks in a row
-- the number of blocks, and what is seen of the holds
pub size_seen : (n : ℕ) (es : List Extent) (flags : List Bool) → held_by n es ≡ flags → n ≡ length flags
size_seen n es flags seen = sym (length-held n es) ∙ ap (λ (l : List Bool). length l) seen

pub held_seen : (n : ℕ) (es : List Extent) (flags : List Bool) (k : ℕ) → held_by n es ≡ flags → k < n → get_or flags k false ≡ is_held es k
held_seen n es flags k seen lt = ap (λ (l : List Bool). get_or l k false) (sym seen) ∙ get_or-held n es k false lt

pub fit_seen : (n : ℕ) (es : List Extent) (flags taken : List Bool) → held_by n es ≡ flags → length taken ≡ length flags → Fit n es → Fit (length taken) es
fit_seen n es flags taken seen size f = subst (λ m. Fit m es) (size_seen n es flags seen ∙ sym size) f

set_or : (h t : Bool) → (if h then true else t) ≡ (h || t)
set_or true t = refl
set_or false t = refl

cleared_and : (h t : Bool) → (if h then false else t) ≡ (t && not h)
cleared_and true true = refl
cleared_and true false = refl
cleared_and false true = refl
cleared_and false false = refl

pub marked_in : (n : ℕ) (es : List Extent) (flags taken new : List Bool) (k : ℕ) → held_by n es ≡ flags → length taken ≡ length flags → Fit n es → new ≡ mark_all taken es true → k < length taken → get_or new k false ≡ (get_or flags k false || get_or taken k false)
marked_in n es flags taken new k seen size f is lt =
    ap (λ (l : List Bool). get_or l k false) is ∙ get_or-mark_all taken es true k false (fit_seen n es flags taken seen size f)
    ∙ set_or (is_held es k) (get_or taken k false) ∙ ap (λ b. b || get_or taken k false) (sym (held_seen n es flags k seen (omega (arith, lt, size, size_seen n es flags seen))))

pub cleared_in : (n : ℕ) (es : List Extent) (flags taken new : List Bool) (k : ℕ) → held_by n es ≡ flags → length taken ≡ length flags → Fit n es → new ≡ mark_all taken es false → k < length taken → get_or new k false ≡ (get_or taken k false && not (get_or flags k false))
cleared_in n es flags taken new k seen size f is lt =
    ap (λ (l : List Bool). get_or l k false) is ∙ get_or-mark_all taken es false k false (fit_seen n es flags taken seen size f)
    ∙ cleared_and (is_held es k) (get_or taken k false) ∙ ap (λ b. get_or taken k false && not b) (sym (held_seen n es flags k seen (omega (arith, lt, size, size_seen n es flags seen))))

pub marked_size : (n : ℕ) (es : List Extent) (flags taken new : List Bool) (v : Bool) → held_by n es ≡ flags → length taken ≡ length flags → Fit n es → new ≡ mark_all taken es v → length new ≡ length taken
marked_size n es flags taken new v seen size f is = ap (λ (l : List Bool). length l) is ∙ length-mark_all taken es v (fit_seen n es flags taken seen size f)

-- ---- the holds that end
not_front : (a b : Bool) → (a || b) ≡ true → a ≡ false → b ≡ true
not_front true b is out = absurd (cc out)
not_front false b is out = is

neither_part : (a b : Bool) → (a || b) ≡ false → b ≡ false
neither_part true b is = absurd (cc is)
neither_part false b is = is

is_inside : (xs : List Bool) (k : ℕ) → get_or xs k false ≡ true → k < length xs
is_inside xs k is = ⊎_elim (λ lt. lt) (λ past. absurd (let no : false ≡ true = sym (get_or_past xs k false past) ∙ is in cc no)) (cases_lt k (length xs))

pub dropped_clear : (n kept : ℕ) (es : List Extent) (flags old taken new : List Bool) (k : ℕ) → held_by n es ≡ flags → held_by n (take kept es) ≡ old → length taken ≡ length flags → Fit n es → new ≡ mark_all taken (drop kept es) false
    → get_or flags k false ≡ true → get_or old k false ≡ false → get_or new k false ≡ false
dropped_clear n kept es flags old taken new k seen kept_seen size f is held out =
    let lt : k < n = omega (arith, is_inside flags k held, size_seen n es flags seen) in
    let any : (is_held (take kept es) k || is_held (drop kept es) k) ≡ true = sym (held_parts kept k es) ∙ sym (held_seen n es flags k seen lt) ∙ held in
    let ends : is_held (drop kept es) k ≡ true = not_front (is_held (take kept es) k) (is_held (drop kept es) k) any (sym (held_seen n (take kept es) old k kept_seen lt) ∙ out) in
    ap (λ (l : List Bool). get_or l k false) is ∙ get_or-mark_all taken (drop kept es) false k false (subst (λ m. Fit m (drop kept es)) (size_seen n es flags seen ∙ sym size) (fit_part n kept es f)) ∙ rw ends refl

pub dropped_others : (n kept : ℕ) (es : List Extent) (flags taken new : List Bool) (k : ℕ) → held_by n es ≡ flags → length taken ≡ length flags → Fit n es → new ≡ mark_all taken (drop kept es) false
    → get_or flags k false ≡ false → get_or new k false ≡ get_or taken k false
dropped_others n kept es flags taken new k seen size f is out =
    let long = size_seen n es flags seen in
    let fits : Fit (length taken) (drop kept es) = subst (λ m. Fit m (drop kept es)) (long ∙ sym size) (fit_part n kept es f) in
    ⊎_elim
    (λ (lt : k < n).
    let none : is_held (drop kept es) k ≡ false = neither_part (is_held (take kept es) k) (is_held (drop kept es) k) (sym (held_parts kept k es) ∙ sym (held_seen n es flags k seen lt) ∙ out) in
    ap (λ (l : List Bool). get_or l k false) is ∙ get_or-mark_all taken (drop kept es) false k false fits ∙ rw none refl)
    (λ (past : n ≤ k).
    let same : length new ≡ length taken = ap (λ (l : List Bool). length l) is ∙ length-mark_all taken (drop kept es) false fits in
    get_or_past new k false (omega (arith, past, same, size, long)) ∙ sym (get_or_past taken k false (omega (arith, past, size, long))))
    (cases_lt k n)

pub dropped_size : (n kept : ℕ) (es : List Extent) (flags taken new : List Bool) → held_by n es ≡ flags → length taken ≡ length flags → Fit n es → new ≡ mark_all taken (drop kept es) false → length new ≡ length taken
dropped_size n kept es flags taken new seen size f is = ap (λ (l : List Bool). length l) is ∙ length-mark_all taken (drop kept es) false (subst (λ m. Fit m (drop kept es)) (size_seen n es flags seen ∙ sym size) (fit_part n kept es f))

-- the holds from one on, as a slice
pub slice_rest : (kept : ℕ) (items es : List Extent) → items ≡ es → take (length items - kept) (drop kept items) ≡ drop kept es
slice_rest kept items es is = take_all (length items - kept) (drop kept items) (omega (arith, length-drop kept items)) ∙ ap (λ (l : List Extent). drop kept l) is
