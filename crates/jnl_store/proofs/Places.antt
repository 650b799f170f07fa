-- A table of places beside sectors: what it gives, and what a put leaves.
use Rattle.std.proofs.Common.{◌≡◌, ◌≢◌, ◌<◌, ◌≤◌, ◌+◌, ◌-◌, ℕ, zero, suc, Bool, true, false, List, [], ◌∷◌, ◌++◌, length, length-append, length-drop, drop, get_or, set, refl, sym, ◌∙◌, ap, arith, eqb, cond}
use Rattle.std.specs.Prelude.{Option, None, Some}
use Rattle.std.proofs.lemmas.List.{drop_more, nil_from_length}
use Rattle.std.proofs.lemmas.Bool.{eqb-true, eq-eqb, ne_eqb}
use Rattle.jnl_format.specs.declared.blocks.Home.{Home}
use Rattle.jnl_store.specs.Lists.{lists_homes, most_puts}
use Rattle.jnl_store.specs.Newest.{newest, or_later}
use Rattle.jnl_store.specs.Indexed.{AreApart, IsMissing}
use Rattle.jnl_store.specs.Placed.{ArePlaced, beside}
use Rattle.jnl_store.specs.declared.puts.Put.{Put}
use Rattle.jnl_store.proofs.Newest.{later_assoc, later_none}

pub length-beside : (ss ps : List ℕ) → length ps ≡ length ss → length (beside ss ps) ≡ length ss
length-beside [] ps same = refl
length-beside (s ∷ ss) [] same = absurd (omega (arith, same))
length-beside (s ∷ ss) (p ∷ ps) same = let h = length-beside ss ps (omega (arith, same)) in omega (arith, h)

apart_tail : (s : ℕ) (ss : List ℕ) → AreApart (s ∷ ss) → AreApart ss
apart_tail s ss apart i j less inside = apart (suc i) (suc j) (omega (arith, less)) (omega (arith, inside))

-- a sector that isn't there has no place
pub absent : (ss ps : List ℕ) (at : ℕ) → IsMissing ss at → newest (beside ss ps) at ≡ None
absent [] ps at never = refl
absent (s ∷ ss) [] at never = refl
absent (s ∷ ss) (p ∷ ps) at never =
    ap (λ (o : Option ℕ). or_later o (cond (eqb at s) (Some p) None)) (absent ss ps at (λ k inside. never (suc k) (omega (arith, inside))))
    ∙ ap (λ b. cond b (Some p) None) (ne_eqb at s (λ e. never 0 (omega arith) (sym e)))

-- none behind the first is the first again
first_once : (s at : ℕ) (ss ps : List ℕ) → AreApart (s ∷ ss) → at ≡ s → newest (beside ss ps) at ≡ None
first_once s at ss ps apart same = absent ss ps at (λ k inside e. apart 0 (suc k) (omega arith) (omega (arith, inside)) (sym same ∙ sym e))

-- one that is there has the place beside it
pub placed : (ss ps : List ℕ) (k at : ℕ) → length ps ≡ length ss → AreApart ss → k < length ss → get_or ss k 0 ≡ at → newest (beside ss ps) at ≡ Some (get_or ps k 0)
placed [] ps k at same up inside here = absurd (omega (arith, inside))
placed (s ∷ ss) [] k at same up inside here = absurd (omega (arith, same))
placed (s ∷ ss) (p ∷ ps) zero at same up inside here =
    ap (λ (o : Option ℕ). or_later o (cond (eqb at s) (Some p) None)) (first_once s at ss ps up (sym here))
    ∙ ap (λ b. cond b (Some p) None) (eq-eqb at s (sym here))
placed (s ∷ ss) (p ∷ ps) (suc k) at same up inside here =
    ap (λ (o : Option ℕ). or_later o (cond (eqb at s) (Some p) None)) (placed ss ps k at (omega (arith, same)) (apart_tail s ss up) (omega (arith, inside)) here)

-- a place over another, and one that joins
over_first : (b : Bool) (x : Option ℕ) (place p : ℕ) → (b ≡ true → x ≡ None) → or_later x (cond b (Some place) None) ≡ cond b (Some place) (or_later x (cond b (Some p) None))
over_first true x place p none = ap (λ (o : Option ℕ). or_later o (Some place)) (none refl)
over_first false x place p none = refl

pub over_later : (b : Bool) (place : ℕ) (x y : Option ℕ) → or_later (cond b (Some place) x) y ≡ cond b (Some place) (or_later x y)
over_later true place x y = refl
over_later false place x y = refl

pub placed-set : (ss ps : List ℕ) (k at place s : ℕ) → length ps ≡ length ss → AreApart ss → k < length ss → get_or ss k 0 ≡ at → newest (beside ss (set ps k place)) s ≡ cond (eqb s at) (Some place) (newest (beside ss ps) s)
placed-set [] ps k at place s same up inside here = absurd (omega (arith, inside))
placed-set (t ∷ ss) [] k at place s same up inside here = absurd (omega (arith, same))
placed-set (t ∷ ss) (p ∷ ps) zero at place s same up inside here =
    over_first (eqb s t) (newest (beside ss ps) s) place p (λ is. first_once t s ss ps up (eqb-true s t is))
    ∙ ap (λ n. cond (eqb s n) (Some place) (or_later (newest (beside ss ps) s) (cond (eqb s t) (Some p) None))) here
placed-set (t ∷ ss) (p ∷ ps) (suc k) at place s same up inside here =
    ap (λ (o : Option ℕ). or_later o (cond (eqb s t) (Some p) None)) (placed-set ss ps k at place s (omega (arith, same)) (apart_tail t ss up) (omega (arith, inside)) here)
    ∙ over_later (eqb s at) place (newest (beside ss ps) s) (cond (eqb s t) (Some p) None)

pub placed-push : (ss ps : List ℕ) (at place s : ℕ) → length ps ≡ length ss → newest (beside (ss ++ at ∷ []) (ps ++ place ∷ [])) s ≡ cond (eqb s at) (Some place) (newest (beside ss ps) s)
placed-push [] [] at place s same = refl
placed-push [] (p ∷ ps) at place s same = absurd (omega (arith, same))
placed-push (t ∷ ss) [] at place s same = absurd (omega (arith, same))
placed-push (t ∷ ss) (p ∷ ps) at place s same =
    ap (λ (o : Option ℕ). or_later o (cond (eqb s t) (Some p) None)) (placed-push ss ps at place s (omega (arith, same)))
    ∙ over_later (eqb s at) place (newest (beside ss ps) s) (cond (eqb s t) (Some p) None)

pub table-push : (ss ps : List ℕ) (memory a b d e at place : ℕ) (new_ss new_ps : List ℕ) → new_ss ≡ ss ++ at ∷ [] → new_ps ≡ ps ++ place ∷ [] → ArePlaced ss ps memory a b → length ss < memory → d ≡ a → b ≤ e → ArePlaced new_ss new_ps memory d e
table-push ss ps memory a b d e at place new_ss new_ps ss_are ps_are is some same_index more_places = record {
  some = omega (arith, some, ap (λ (l : List ℕ). length l) ss_are, length-append ss (at ∷ []));
  as_many = omega (arith, is.as_many, ap (λ (l : List ℕ). length l) ss_are, length-append ss (at ∷ []), ap (λ (l : List ℕ). length l) ps_are, length-append ps (place ∷ []));
  enough_index = omega (arith, is.enough_index, same_index);
  enough_places = omega (arith, is.enough_places, more_places);
}

cond_later : (b : Bool) (p : ℕ) (old : Option ℕ) → cond b (Some p) old ≡ or_later (cond b (Some p) None) old
cond_later true p old = refl
cond_later false p old = refl

-- the next put of a transaction's lists in a table
pub lists_step : (blhdr place left k body after : ℕ) (puts : List Put) (put : Put) (s : ℕ) (old new : Option ℕ) → k < length puts → put ≡ get_or puts k put → body ≡ cond (eqb left 0) (place + blhdr) place → after ≡ cond (eqb left 0) (most_puts blhdr - 1) (left - 1)
    → new ≡ cond (eqb s put.at) (Some body) old → or_later (newest (lists_homes blhdr (body + 512) after (drop (k + 1) puts)) s) new ≡ or_later (newest (lists_homes blhdr place left (drop k puts)) s) old
lists_step blhdr place left k body after puts put s old new inside is body_is after_is new_is =
    let rest = drop (k + 1) puts in
    let b = cond (eqb left 0) (place + blhdr) place in
    let a = cond (eqb left 0) (most_puts blhdr - 1) (left - 1) in
    let later = newest (lists_homes blhdr (b + 512) a rest) s in
    ap (λ n. or_later (newest (lists_homes blhdr (n + 512) after rest) s) new) body_is
    ∙ ap (λ n. or_later (newest (lists_homes blhdr (b + 512) n rest) s) new) after_is
    ∙ ap (or_later later) (new_is ∙ ap (λ n. cond (eqb s put.at) (Some n) old) body_is ∙ cond_later (eqb s put.at) b old)
    ∙ later_assoc later (cond (eqb s put.at) (Some b) None) old
    ∙ sym (ap (λ (l : List Put). or_later (newest (lists_homes blhdr place left l) s) old) (drop_more puts k put inside ∙ ap (λ (p : Put). p ∷ rest) (sym is)))

-- with no put left, the table has them all
pub lists_done : (blhdr place left k : ℕ) (puts : List Put) (s : ℕ) (now : Option ℕ) → length puts ≤ k → now ≡ or_later (newest (lists_homes blhdr place left (drop k puts)) s) now
lists_done blhdr place left k puts s now all = sym (ap (λ (l : List Put). or_later (newest (lists_homes blhdr place left l) s) now) (nil_from_length (drop k puts) (omega (arith, all, length-drop k puts))))

-- the home at a place of the list
pub beside_at : (ss ps : List ℕ) (k : ℕ) (d : Home) → length ps ≡ length ss → k < length ss → get_or (beside ss ps) k d ≡ record { sector = get_or ss k 0; place = get_or ps k 0 }
beside_at [] ps k d same inside = absurd (omega (arith, inside))
beside_at (s ∷ ss) [] k d same inside = absurd (omega (arith, same))
beside_at (s ∷ ss) (p ∷ ps) zero d same inside = refl
beside_at (s ∷ ss) (p ∷ ps) (suc k) d same inside = beside_at ss ps k d (omega (arith, same)) (omega (arith, inside))
