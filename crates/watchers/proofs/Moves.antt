-- A list is changed item by item.
use Rattle.std.proofs.Common.{◌≡◌, ◌<◌, ◌≤◌, ◌+◌, ◌∷◌, [], ◌++◌, ℕ, List, length, get_or, set, take, drop, map, sym, ◌∙◌, ap, arith, length-set, length-drop}
use Rattle.std.proofs.lemmas.List.{drop-set-lt, map-append, take_all, take_more, drop_more, take_more_set}

module _ {X : Type 0} (change : X → X) where
  -- those before a place are changed, and the others are as they were
  pub record Changed (first now : List X) (at : ℕ) : Type 0 where
    pub before : take at now ≡ map change (take at first)
    pub behind : drop at now ≡ drop at first
    pub long : length now ≡ length first

  heads : (first now : List X) (at : ℕ) (x : X) → at < length now → at < length first → drop at now ≡ drop at first → (get_or now at x ≡ get_or first at x) × (drop (at + 1) now ≡ drop (at + 1) first)
  heads first now at x p q rest =
      let e : get_or now at x ∷ drop (at + 1) now ≡ get_or first at x ∷ drop (at + 1) first = sym (drop_more now at x p) ∙ rest ∙ drop_more first at x q in
      (cc, cc)

  -- and the next one
  pub changed_next : (first now : List X) (at : ℕ) (x y : X) → Changed first now at → at < length now → y ≡ change (get_or now at x) → Changed first (set now at y) (at + 1)
  changed_next first now at x y so_far p is =
      let q : at < length first = omega (arith, p, so_far.long) in
      let h = heads first now at x p q so_far.behind in
      record {
        before =
            take_more_set now at y p ∙ ap (λ l. l ++ y ∷ []) so_far.before ∙ ap (λ z. map change (take at first) ++ z ∷ []) (is ∙ ap change h.0)
            ∙ sym (map-append change (take at first) (get_or first at x ∷ [])) ∙ ap (map change) (sym (take_more first at x q));
        behind = drop-set-lt (at + 1) now at y (omega arith) ∙ h.1;
        long = length-set now at y ∙ so_far.long;
      }

  -- all of them
  pub changed_all : (first now : List X) (at : ℕ) → Changed first now at → length now ≤ at → now ≡ map change first
  changed_all first now at done over = sym (take_all at now over) ∙ done.before ∙ ap (map change) (take_all at first (omega (arith, over, done.long)))
