-- One map node more on the walk along a file's map.
use Rattle.std.proofs.Common.{◌≡◌, ◌≢◌, ℕ, zero, suc, ◌+◌, ◌-◌, ◌≤◌, ◌<◌, Bool, true, false, ◌==◌, ◌||◌, List, [], ◌∷◌, ◌++◌, map, length, drop, get_or, inl, inr, refl, sym, ◌∙◌, ap, subst, arith, ⊎_elim, length-append, append_assoc}
use Rattle.std.specs.List.{list_any}
use Rattle.std.proofs.lemmas.Bool.{cases_eq, cases_lt, cases_Bool, or_cases, eqb-true, eq-eqb, true≢false, or_parts}
use Rattle.std.proofs.lemmas.Bool.Decides.{eqb_tells}
use Rattle.std.proofs.Math.ListN.{get_or-map}
use Rattle.std.proofs.lemmas.List.{get_or_append_left, append-nil, length-map, map-append, drop-append-le, length-drop, get_or-drop}
use Rattle.std.proofs.lemmas.List.Elements.{All-push, All-cons, All-nil}
use Rattle.std.proofs.Math.Seq.{get_or-append_seam}
use Rattle.btree_node.specs.Levels.{Nodes}
use Rattle.std.specs.Prelude.{pos}
use Rattle.btree_node.specs.Node.{IsNodeOf, next_of, record_count}
use Rattle.btree_node.specs.TreeFile.{map_chain}
use Rattle.btree_file.specs.Map.{is_reserved, IsMapRecord, AreStretches}
use Rattle.btree_file.specs.Walks.{FitsFile, LeadTo, HasChain, names_of}
use Rattle.btree_file.specs.declared.tree.Stretch.{Stretch}

pub last_at : (xs : List Stretch) (s d : Stretch) → get_or (xs ++ s ∷ []) (length xs) d ≡ s
last_at xs s d = get_or-append_seam xs s [] d

pub early_at : (xs : List Stretch) (s d : Stretch) (k : ℕ) → k < length xs → get_or (xs ++ s ∷ []) k d ≡ get_or xs k d
early_at xs s d k low = get_or_append_left xs (s ∷ []) d k low

pub longer : (xs : List Stretch) (s : Stretch) → length (xs ++ s ∷ []) ≡ length xs + 1
longer xs s = length-append xs (s ∷ [])

-- ---- what fits

pub fits_one : (total size : ℕ) (s : Stretch) → 0 < total → s.node ≡ 0 → s.at ≡ 248 → s.at + s.len ≤ size → FitsFile total size (s ∷ [])
fits_one total size s some node at low = record {
  inside = All-cons (λ (t : Stretch). t.node < total) s [] (omega (arith, some, node)) (All-nil (λ (t : Stretch). t.node < total));
  low = All-cons (λ (t : Stretch). t.at + t.len ≤ size) s [] low (All-nil (λ (t : Stretch). t.at + t.len ≤ size));
  header = All-cons (λ (t : Stretch). t.node ≡ 0 → 248 ≤ t.at) s [] (λ _. omega (arith, at)) (All-nil (λ (t : Stretch). t.node ≡ 0 → 248 ≤ t.at));
  apart = λ i j d first second same. omega (arith, first, second);
}

-- a stretch of the map stands in a node that is reserved
stands_any : (xs : List Stretch) (k : ℕ) (d : Stretch) (n : ℕ) → k < length xs → (get_or xs k d).node ≡ n → list_any (λ stretch. stretch.node == n) xs ≡ true
stands_any [] k d n low is = absurd (omega (arith, low))
stands_any (x ∷ xs) zero d n low is = ap (λ t. t || list_any (λ stretch. stretch.node == n) xs) (eq-eqb x.node n is)
stands_any (x ∷ xs) (suc k) d n low is = or_right (x.node == n) (list_any (λ stretch. stretch.node == n) xs) (stands_any xs k d n (omega (arith, low)) is)
  where
    or_right : (a b : Bool) → b ≡ true → (a || b) ≡ true
    or_right true b t = refl
    or_right false b t = t

not_there : (xs : List Stretch) (k : ℕ) (d : Stretch) (n : ℕ) → k < length xs → is_reserved xs n ≡ false → (get_or xs k d).node ≢ n
not_there xs k d n low free is = true≢false (sym (stands_any xs k d n low is) ∙ (or_parts (n == 0) (list_any (λ stretch. stretch.node == n) xs) free).1)

not_zero : (xs : List Stretch) (n : ℕ) → is_reserved xs n ≡ false → n ≢ 0
not_zero xs n free is = true≢false (sym (ap (λ k. is_reserved xs k) is) ∙ free)

pub fits_more : (total size : ℕ) (xs : List Stretch) (s : Stretch) → FitsFile total size xs → s.node < total → s.at + s.len ≤ size → is_reserved xs s.node ≡ false → FitsFile total size (xs ++ s ∷ [])
fits_more total size xs s fits inside low free = record {
  inside = All-push (λ (t : Stretch). t.node < total) xs s fits.inside inside;
  low = All-push (λ (t : Stretch). t.at + t.len ≤ size) xs s fits.low low;
  header = All-push (λ (t : Stretch). t.node ≡ 0 → 248 ≤ t.at) xs s fits.header (λ is. absurd (not_zero xs s.node free is));
  apart = λ i j d first second same. elim (cases_lt i (length xs)) [
    | inl i_low ↦ elim (cases_lt j (length xs)) [
      | inl j_low ↦ fits.apart i j d i_low j_low (ap (λ (t : Stretch). t.node) (sym (early_at xs s d i i_low)) ∙ same ∙ ap (λ (t : Stretch). t.node) (early_at xs s d j j_low))
      | inr j_high ↦
          let at : j ≡ length xs = omega (arith, second, j_high, longer xs s) in
          absurd (not_there xs i d s.node i_low free (ap (λ (t : Stretch). t.node) (sym (early_at xs s d i i_low)) ∙ same ∙ ap (λ k. (get_or (xs ++ s ∷ []) k d).node) at ∙ ap (λ (t : Stretch). t.node) (last_at xs s d)))
    ]
    | inr i_high ↦
        let at : i ≡ length xs = omega (arith, first, i_high, longer xs s) in
        elim (cases_lt j (length xs)) [
          | inl j_low ↦
              absurd (not_there xs j d s.node j_low free (ap (λ (t : Stretch). t.node) (sym (early_at xs s d j j_low)) ∙ sym same ∙ ap (λ k. (get_or (xs ++ s ∷ []) k d).node) at ∙ ap (λ (t : Stretch). t.node) (last_at xs s d)))
          | inr j_high ↦ omega (arith, at, second, j_high, longer xs s)
        ]
  ];
}

-- ---- where it leads

pub leads_one : (nodes : Nodes) (size : ℕ) → LeadTo nodes size (record { node = 0; at = 248; len = size - 256 } ∷ []) (next_of (nodes 0))
leads_one nodes size = record {
  some = omega arith;
  first = λ d. refl;
  each = λ k d above low. absurd (omega (arith, above, low));
  next = λ k d low. absurd (omega (arith, low));
  last = λ k d is. ap (λ i. next_of (nodes (get_or (record { node = 0; at = 248; len = size - 256 } ∷ []) i d).node)) {x = k} {y = 0} (omega (arith, is));
}

pub leads_more : (nodes : Nodes) (size : ℕ) (xs : List Stretch) (n : ℕ) (s : Stretch) → LeadTo nodes size xs n → IsMapRecord (nodes n) s → s.node ≡ n → LeadTo nodes size (xs ++ s ∷ []) (next_of (nodes n))
leads_more nodes size xs n s leads is at = record {
  some = omega (arith, longer xs s);
  first = λ d. early_at xs s d 0 leads.some ∙ leads.first d;
  each = λ k d above low. elim (cases_lt k (length xs)) [
    | inl early ↦ subst (λ (t : Stretch). IsMapRecord (nodes t.node) t) (sym (early_at xs s d k early)) (leads.each k d above early)
    | inr late ↦
        let here : get_or (xs ++ s ∷ []) k d ≡ s = ap (λ i. get_or (xs ++ s ∷ []) i d) {x = k} {y = length xs} (omega (arith, low, late, longer xs s)) ∙ last_at xs s d in
        subst (λ (t : Stretch). IsMapRecord (nodes t.node) t) (sym here) (subst (λ m. IsMapRecord (nodes m) s) (sym at) is)
  ];
  next = λ k d low. elim (cases_lt (k + 1) (length xs)) [
    | inl early ↦
        ap (λ (t : Stretch). next_of (nodes t.node)) (early_at xs s d k (omega (arith, early))) ∙ leads.next k d early ∙ ap (λ (t : Stretch). t.node) (sym (early_at xs s d (k + 1) early))
    | inr late ↦
        let here : get_or (xs ++ s ∷ []) (k + 1) d ≡ s = ap (λ i. get_or (xs ++ s ∷ []) i d) {x = k + 1} {y = length xs} (omega (arith, low, late, longer xs s)) ∙ last_at xs s d in
        ap (λ (t : Stretch). next_of (nodes t.node)) (early_at xs s d k (omega (arith, low, longer xs s))) ∙ leads.last k d (omega (arith, low, late, longer xs s)) ∙ sym at ∙ ap (λ (t : Stretch). t.node) (sym here)
  ];
  last = λ k d is_last.
      let here : get_or (xs ++ s ∷ []) k d ≡ s = ap (λ i. get_or (xs ++ s ∷ []) i d) {x = k} {y = length xs} (omega (arith, is_last, longer xs s)) ∙ last_at xs s d in
      ap (λ (t : Stretch). next_of (nodes t.node)) here ∙ ap (λ m. next_of (nodes m)) at;
}

pub leads_end : (nodes : Nodes) (size : ℕ) (xs : List Stretch) (n : ℕ) → LeadTo nodes size xs n → n ≡ 0 → AreStretches nodes size xs
leads_end nodes size xs n leads none = record { some = leads.some; first = leads.first; each = leads.each; next = leads.next; last = λ k d is. leads.last k d is ∙ none }

-- a node that is reserved is that of some stretch
pub stands_at : (xs : List Stretch) (n : ℕ) → list_any (λ stretch. stretch.node == n) xs ≡ true → (j : ℕ) × (j < length xs) × ((get_or xs j (record { node = 0; at = 0; len = 0 })).node ≡ n)
stands_at [] n any = absurd (true≢false (sym any))
stands_at (x ∷ xs) n any = ⊎_elim
    (λ (is : (x.node == n) ≡ true). (0, omega arith, eqb-true x.node n is))
    (λ (later : list_any (λ stretch. stretch.node == n) xs ≡ true). let rest = stands_at xs n later in (suc rest.0, omega (arith, rest.1), rest.2))
    (or_cases (x.node == n) (list_any (λ stretch. stretch.node == n) xs) any)

-- ---- the chain

pub length-names : (xs : List Stretch) → length (names_of xs) ≡ length xs - 1
length-names xs = omega (arith, length-map (drop 1 xs) (λ (s : Stretch). s.node), length-drop 1 xs)

pub chain_none : (nodes : Nodes) (fuel n : ℕ) → n ≢ 0 → 0 < fuel → map_chain nodes fuel n ≡ n ∷ map_chain nodes (fuel - 1) (next_of (nodes n))
unfolding map_chain
chain_none nodes zero n other some = absurd (omega (arith, some))
chain_none nodes (suc m) n other some =
    let no : (n == 0) ≡ false = ⊎_elim (λ is. absurd (other is.1)) (λ f. f.0) (eqb_tells n 0) in
    rw no (ap (λ k. n ∷ map_chain nodes k (next_of (nodes n))) {x = m} {y = suc m - 1} (omega arith))

pub chain_zero : (nodes : Nodes) (fuel n : ℕ) → n ≡ 0 → map_chain nodes fuel n ≡ []
unfolding map_chain
chain_zero nodes zero n none = refl
chain_zero nodes (suc m) n none = let yes : (n == 0) ≡ true = eq-eqb n 0 none in rw yes refl

pub chain_end : (nodes : Nodes) (xs : List Stretch) (n fuel : ℕ) (chain : List ℕ) → n ≡ 0 → chain ≡ names_of xs ++ map_chain nodes fuel n → chain ≡ names_of xs
chain_end nodes xs n fuel chain none is = is ∙ ap (λ (l : List ℕ). names_of xs ++ l) (chain_zero nodes fuel n none) ∙ append-nil (names_of xs)

pub chain_more : (nodes : Nodes) (xs : List Stretch) (s : Stretch) (n fuel : ℕ) (chain : List ℕ) → 0 < length xs → n ≢ 0 → 0 < fuel → s.node ≡ n → chain ≡ names_of xs ++ map_chain nodes fuel n
    → chain ≡ names_of (xs ++ s ∷ []) ++ map_chain nodes (fuel - 1) (next_of (nodes n))
chain_more nodes xs s n fuel chain some other more at is =
    let names : names_of (xs ++ s ∷ []) ≡ names_of xs ++ n ∷ [] =
    ap (λ (l : List Stretch). map (λ (t : Stretch). t.node) l) (drop-append-le 1 xs (s ∷ []) (omega (arith, some))) ∙ map-append (λ (t : Stretch). t.node) (drop 1 xs) (s ∷ []) ∙ ap (λ m. names_of xs ++ m ∷ []) at in
    is ∙ ap (λ (l : List ℕ). names_of xs ++ l) (chain_none nodes fuel n other more) ∙ sym (append_assoc (names_of xs) (n ∷ []) (map_chain nodes (fuel - 1) (next_of (nodes n)))) ∙ ap (λ (l : List ℕ). l ++ map_chain nodes (fuel - 1) (next_of (nodes n))) (sym names)

module _ (nodes : Nodes) (total : ℕ) (has : HasChain total nodes) (xs : List Stretch) (n fuel : ℕ) (some : 0 < length xs) (other : n ≢ 0) (more : 0 < fuel)
    (is : map_chain nodes total (next_of (nodes 0)) ≡ names_of xs ++ map_chain nodes fuel n)
  where
    whole : map_chain nodes total (next_of (nodes 0)) ≡ names_of xs ++ (n ∷ map_chain nodes (fuel - 1) (next_of (nodes n)))
    whole = is ∙ ap (λ (l : List ℕ). names_of xs ++ l) (chain_none nodes fuel n other more)

    inside : length (names_of xs) < length (map_chain nodes total (next_of (nodes 0)))
    inside = omega (arith, ap length whole, length-append (names_of xs) (n ∷ map_chain nodes (fuel - 1) (next_of (nodes n))))

    here : get_or (map_chain nodes total (next_of (nodes 0))) (length (names_of xs)) 0 ≡ n
    here = ap (λ (l : List ℕ). get_or l (length (names_of xs)) 0) whole ∙ get_or-append_seam (names_of xs) n (map_chain nodes (fuel - 1) (next_of (nodes n))) 0

    pub chain_node : (n < total) × IsNodeOf (pos 2) 0 (nodes n) × (0 < record_count (nodes n))
    chain_node = subst (λ m. (m < total) × IsNodeOf (pos 2) 0 (nodes m) × (0 < record_count (nodes m))) here (has.each (length (names_of xs)) 0 inside)

    -- it isn't one of those that were read
    pub chain_fresh : ((d : Stretch) → (get_or xs 0 d).node ≡ 0) → is_reserved xs n ≡ false
    chain_fresh first = ⊎_elim
        (λ (t : is_reserved xs n ≡ true). ⊎_elim
        (λ (zero_is : (n == 0) ≡ true). absurd (other (eqb-true n 0 zero_is)))
        (λ (any : list_any (λ stretch. stretch.node == n) xs ≡ true). absurd (twice (stands_at xs n any)))
        (or_cases (n == 0) (list_any (λ stretch. stretch.node == n) xs) t))
        (λ f. f)
        (cases_Bool (is_reserved xs n))
      where
        twice : (j : ℕ) × (j < length xs) × ((get_or xs j (record { node = 0; at = 0; len = 0 })).node ≡ n) → ⊥
        twice (j, low, is_n) = elim (cases_eq j 0) [
          | inl front ↦ other (sym is_n ∙ ap (λ k. (get_or xs k (record { node = 0; at = 0; len = 0 })).node) front ∙ first (record { node = 0; at = 0; len = 0 }))
          | inr later ↦
              let early : j - 1 < length (names_of xs) = omega (arith, later, low, length-names xs) in
              let named : get_or (names_of xs) (j - 1) 0 ≡ n =
              get_or-map (λ (t : Stretch). t.node) (drop 1 xs) (j - 1) (record { node = 0; at = 0; len = 0 }) ∙ ap (λ (t : Stretch). t.node) (get_or-drop 1 xs (j - 1) (record { node = 0; at = 0; len = 0 }))
              ∙ ap (λ k. (get_or xs k (record { node = 0; at = 0; len = 0 })).node) {x = 1 + (j - 1)} {y = j} (omega (arith, later)) ∙ is_n in
              let in_chain : get_or (map_chain nodes total (next_of (nodes 0))) (j - 1) 0 ≡ n = ap (λ (l : List ℕ). get_or l (j - 1) 0) whole ∙ get_or_append_left (names_of xs) (n ∷ map_chain nodes (fuel - 1) (next_of (nodes n))) 0 (j - 1) early ∙ named in
              let same = has.distinct (j - 1) (length (names_of xs)) (omega (arith, early, inside)) inside (in_chain ∙ sym here) in
              absurd (omega (arith, same, early))
        ]

    pub chain_fewer : length xs < total
    chain_fewer = omega (arith, inside, has.ends, length-names xs, some)
