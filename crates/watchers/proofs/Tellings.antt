-- One watcher more is told.
use Rattle.std.proofs.Common.{◌≡◌, ◌<◌, ◌≤◌, ◌+◌, ◌∷◌, [], ◌++◌, ℕ, suc, List, Bool, true, false, length, get_or, set, take, drop, refl, sym, ◌∙◌, ap, subst, arith, length-append, length-set, length-drop, add-one, append_assoc}
use Rattle.std.specs.Prelude.{remove}
use Rattle.std.specs.List.{AllByRecursion}
use Rattle.std.proofs.lemmas.List.{append-nil, drop-set-lt, take_all, take_more, drop_more, take-set, take_more_set, length-take-le, take_at, drop_at}
use Rattle.hfs_language.specs.declared.reply.Change.{Change}
use Rattle.watchers.specs.Told.{AreTold, nobody, left, stays}

module _ {W : Type 0} (told : W → List Change) (leaves : W → Bool) (changes : List Change) where
  pub push_stays : {old new : List W} (v w : W) → told w ≡ told v ++ changes → leaves w ≡ false → AreTold told leaves changes old new → AreTold told leaves changes (old ++ v ∷ []) (new ++ w ∷ [])
  push_stays v w hears still nobody = stays hears still nobody
  push_stays v w hears still (left p q h f l rest) = left p q h f l (push_stays v w hears still rest)
  push_stays v w hears still (stays h l rest) = stays h l (push_stays v w hears still rest)

  pub push_left : {old new : List W} (v w : W) (prefix behind : List Change) → told w ≡ told v ++ prefix → changes ≡ prefix ++ behind → leaves w ≡ true → AreTold told leaves changes old new → AreTold told leaves changes (old ++ v ∷ []) new
  push_left v w prefix behind hears is gone nobody = left prefix behind hears is gone nobody
  push_left v w prefix behind hears is gone (left p q h f l rest) = left p q h f l (push_left v w prefix behind hears is gone rest)
  push_left v w prefix behind hears is gone (stays h l rest) = stays h l (push_left v w prefix behind hears is gone rest)

  -- those before `at` were told, and those behind are as they were
  pub record Half (first now : List W) (at : ℕ) : Type 0 where
    pub count : ℕ
    pub inside : count ≤ length first
    pub within : at ≤ length now
    pub kept : AreTold told leaves changes (take count first) (take at now)
    pub rest : drop at now ≡ drop count first

  pub half_none : (first : List W) → Half first first 0
  half_none first = record { count = 0; inside = omega arith; within = omega arith; kept = nobody; rest = refl }

  heads : (first now : List W) (at count : ℕ) (w : W) → at < length now → count < length first → drop at now ≡ drop count first → (get_or now at w ≡ get_or first count w) × (drop (at + 1) now ≡ drop (count + 1) first)
  heads first now at count w p q rest =
      let e : get_or now at w ∷ drop (at + 1) now ≡ get_or first count w ∷ drop (count + 1) first = sym (drop_more now at w p) ∙ rest ∙ drop_more first count w q in
      (cc, cc)

  left_over : (first now : List W) (at count : ℕ) → at < length now → drop at now ≡ drop count first → count < length first
  left_over first now at count p rest = omega (arith, p, ap length rest, length-drop at now, length-drop count first)

  pub half_stays : (first now : List W) (at : ℕ) (w : W) → Half first now at → at < length now → told w ≡ told (get_or now at w) ++ changes → leaves w ≡ false → Half first (set now at w) (at + 1)
  half_stays first now at w half p hears still =
      let q = left_over first now at half.count p half.rest in
      let h = heads first now at half.count w p q half.rest in
      record {
        count = half.count + 1;
        inside = omega (arith, q);
        within = omega (arith, p, length-set now at w);
        kept =
            subst (λ (l : List W). AreTold told leaves changes l (take (at + 1) (set now at w))) (sym (take_more first half.count w q))
            (subst (λ (l : List W). AreTold told leaves changes (take half.count first ++ get_or first half.count w ∷ []) l) (sym (take_more_set now at w p))
            (push_stays (get_or first half.count w) w (hears ∙ ap (λ (v : W). told v ++ changes) h.0) still half.kept));
        rest = drop-set-lt (at + 1) now at w (omega arith) ∙ h.1;
      }

  pub half_left : (first now later : List W) (at : ℕ) (w : W) (prefix behind : List Change) → Half first now at → at < length now → told w ≡ told (get_or now at w) ++ prefix → changes ≡ prefix ++ behind → leaves w ≡ true → later ≡ remove (set now at w) at → Half first later at
  half_left first now later at w prefix behind half p hears whole gone is =
      let q = left_over first now at half.count p half.rest in
      let h = heads first now at half.count w p q half.rest in
      let long : length (take at (set now at w)) ≡ at = length-take-le at (set now at w) (omega (arith, p, length-set now at w)) in
      let front : take at later ≡ take at now = ap (take at) is ∙ take_at (take at (set now at w)) (drop (suc at) (set now at w)) at long ∙ take-set now at w in
      let back : drop at later ≡ drop (at + 1) now = ap (drop at) is ∙ drop_at (take at (set now at w)) (drop (suc at) (set now at w)) at long ∙ drop-set-lt (suc at) now at w (omega arith) ∙ ap (λ n. drop n now) (sym (add-one at)) in
      record {
        count = half.count + 1;
        inside = omega (arith, q);
        within = omega (arith, ap length is, length-append (take at (set now at w)) (drop (suc at) (set now at w)), long);
        kept =
            subst (λ (l : List W). AreTold told leaves changes l (take at later)) (sym (take_more first half.count w q))
            (subst (λ (l : List W). AreTold told leaves changes (take half.count first ++ get_or first half.count w ∷ []) l) (sym front)
            (push_left (get_or first half.count w) w prefix behind (hears ∙ ap (λ (v : W). told v ++ prefix) h.0) whole gone half.kept));
        rest = back ∙ h.1;
      }

  pub half_end : (first now : List W) (at : ℕ) → Half first now at → length now ≤ at → AreTold told leaves changes first now
  half_end first now at half over =
      let ended : length first ≤ half.count = omega (arith, ap length half.rest, length-drop at now, length-drop half.count first, over, half.inside) in
      subst (λ (l : List W). AreTold told leaves changes l now) (take_all half.count first ended) (subst (λ (l : List W). AreTold told leaves changes (take half.count first) l) (take_all at now over) half.kept)

-- nobody is told nothing
pub told_nothing : {W : Type 0} (told : W → List Change) (leaves : W → Bool) (list : List W) → AllByRecursion (λ w. leaves w ≡ false) list → AreTold told leaves [] list list
told_nothing told leaves [] stay = nobody
told_nothing told leaves (w ∷ list) stay = stays (sym (append-nil (told w))) stay.0 (told_nothing told leaves list stay.1)

-- some changes, and then more
pub told_both : {W : Type 0} (told : W → List Change) (leaves : W → Bool) (first second : List Change) (old mid new : List W) → AreTold told leaves first old mid → AreTold told leaves second mid new → AreTold told leaves (first ++ second) old new
told_both told leaves first second old mid new nobody nobody = nobody
told_both told leaves first second (v ∷ old) mid new (left front rest h f l so_far) more =
    left front (rest ++ second) h (ap (λ (c : List Change). c ++ second) f ∙ append_assoc front rest second) l (told_both told leaves first second old mid new so_far more)
told_both told leaves first second (v ∷ old) (w ∷ mid) new (stays h l so_far) (left front rest k f gone more) =
    left (first ++ front) rest (k ∙ ap (λ (c : List Change). c ++ front) h ∙ append_assoc (told v) first front) (ap (λ (c : List Change). first ++ c) f ∙ sym (append_assoc first front rest)) gone (told_both told leaves first second old mid new so_far more)
told_both told leaves first second (v ∷ old) (w ∷ mid) (u ∷ new) (stays h l so_far) (stays k m more) =
    stays (k ∙ ap (λ (c : List Change). c ++ second) h ∙ append_assoc (told v) first second) m (told_both told leaves first second old mid new so_far more)

-- the same changes, in other words
pub told_same : {W : Type 0} (told : W → List Change) (leaves : W → Bool) (changes same : List Change) (old new : List W) → changes ≡ same → AreTold told leaves changes old new → AreTold told leaves same old new
told_same told leaves changes same old new is are = subst (λ (l : List Change). AreTold told leaves l old new) is are
