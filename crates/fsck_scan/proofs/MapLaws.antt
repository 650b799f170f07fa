-- The walk along the map nodes.
use Rattle.std.proofs.Common.{◌≡◌, ◌≢◌, ◌⊎◌, ◌<◌, ◌≤◌, ℕ, zero, suc, ℤ, pos, negsuc, ◌+◌, ◌-◌, Bool, true, false, ◌==◌, ◌||◌, List, [], ◌∷◌, ◌++◌, length, get_or, set, inl, inr, refl, sym, ◌∙◌, ap, subst, arith, ⊎_elim, length-append, append_assoc, append-nil, if◌then◌else◌}
use Rattle.std.specs.Prelude.{Contains, slice_index, slice_range}
use Rattle.std.specs.List.{All, flat_map, list_any}
use Rattle.std.proofs.lemmas.Bool.{cases_lt, eq-eqb, ne_eqb}
use Rattle.std.proofs.lemmas.Bool.Decides.{eqb_tells}
use Rattle.std.proofs.lemmas.List.{get_or_default, get_or_append_left, get_or-append-add}
use Rattle.std.proofs.lemmas.List.Concat.{flat_map-append}
use Rattle.std.proofs.lemmas.List.Elements.{All-push}
use Rattle.std.proofs.lemmas.List.Sums.{count_by-le-length}
use Rattle.flag_rows.specs.Bits.{count_set}
use Rattle.btree_node.specs.Levels.{Nodes}
use Rattle.btree_node.specs.Node.{IsNodeOf, next_of, kind_of, record_count}
use Rattle.btree_node.specs.TreeFile.{IsHeaderNode, map_chain, map_bytes, map_record}
use Rattle.fsck_scan.specs.Map.{chain_of, IsMap, AreBlankPast, TakesHeader, TakesMap, HasMapRead, IsNoMap}
use Rattle.fsck_scan.specs.Marks.{MarksAll}
use Rattle.fsck_scan.proofs.MarkLaws.{marks_none, marks_more}

-- The walk so far: these map nodes were come to, and the rest of the chain begins at the next one.
pub record Chained (nodes : Nodes) (size total : ℕ) (old now : List Bool) (bits : List ℕ) (next k : ℕ) : Type 0 where
  pub done : List ℕ
  pub header : IsHeaderNode (nodes 0)
  pub long : length done ≡ k
  pub chain : chain_of nodes total ≡ done ++ map_chain nodes (total - k) next
  pub each : All (IsMap nodes total) done
  pub marks : MarksAll (0 ∷ done) old now
  pub bits_are : bits ≡ slice_range (nodes 0) 248 (size - 8) ++ flat_map (λ n. map_record (nodes n)) done

chain_next : (nodes : Nodes) (more n : ℕ) → n ≢ 0 → map_chain nodes (suc more) n ≡ n ∷ map_chain nodes more (next_of (nodes n))
unfolding map_chain
chain_next nodes more n some = ap (λ b. if b then [] else n ∷ map_chain nodes more (next_of (nodes n))) (ne_eqb n 0 some)

chain_end : (nodes : Nodes) (more n : ℕ) → n ≡ 0 → map_chain nodes more n ≡ []
unfolding map_chain
chain_end nodes zero n is = refl
chain_end nodes (suc more) n is = ap (λ b. if b then [] else n ∷ map_chain nodes more (next_of (nodes n))) (eq-eqb n 0 is)

module _ (nodes : Nodes) (size total : ℕ) (old : List Bool) where
  pub chained_start : (now : List Bool) (bits : List ℕ) → IsHeaderNode (nodes 0) → MarksAll (0 ∷ []) old now → bits ≡ slice_range (nodes 0) 248 (size - 8) → Chained nodes size total old now bits (next_of (nodes 0)) 0
  chained_start now bits header marks is = record {
    done = [];
    header = header;
    long = refl;
    chain = ap (λ n. map_chain nodes n (next_of (nodes 0))) all;
    each = λ k d inside. absurd (omega (arith, inside));
    marks = marks;
    bits_are = is ∙ sym (append-nil (slice_range (nodes 0) 248 (size - 8)));
  }
    where
      all : total ≡ total - 0
      all = omega arith

  pub chained_more : (now new : List Bool) (bits more : List ℕ) (next k : ℕ) → k < total → next ≢ 0 → (so_far : Chained nodes size total old now bits next k) → IsMap nodes total next
      → MarksAll (0 ∷ (so_far.done ++ next ∷ [])) old new → more ≡ bits ++ map_record (nodes next) → Chained nodes size total old new more (next_of (nodes next)) (k + 1)
  chained_more now new bits more next k low some so_far is marks added = record {
    done = so_far.done ++ next ∷ [];
    header = so_far.header;
    long = omega (arith, length-append so_far.done (next ∷ []), so_far.long);
    chain =
        so_far.chain ∙ ap (λ l. so_far.done ++ l) (ap (λ n. map_chain nodes n next) (let left : total - k ≡ suc (total - (k + 1)) = omega (arith, low) in left) ∙ chain_next nodes (total - (k + 1)) next some)
        ∙ sym (append_assoc so_far.done (next ∷ []) (map_chain nodes (total - (k + 1)) (next_of (nodes next))));
    each = All-push (IsMap nodes total) so_far.done next so_far.each is;
    marks = marks;
    bits_are =
        added ∙ ap (λ l. l ++ map_record (nodes next)) so_far.bits_are ∙ append_assoc (slice_range (nodes 0) 248 (size - 8)) (flat_map (λ n. map_record (nodes n)) so_far.done) (map_record (nodes next))
        ∙ ap (λ l. slice_range (nodes 0) 248 (size - 8) ++ l)
        (ap (λ l. flat_map (λ n. map_record (nodes n)) so_far.done ++ l) (sym (append-nil (map_record (nodes next)))) ∙ sym (flat_map-append (λ n. map_record (nodes n)) so_far.done (next ∷ [])));
  }

  -- one mark more
  pub marked_more : (now : List Bool) (bits : List ℕ) (next k : ℕ) → (so_far : Chained nodes size total old now bits next k) → get_or now next true ≡ false → MarksAll (0 ∷ (so_far.done ++ next ∷ [])) old (set now next true)
  marked_more now bits next k so_far clear = marks_more old now (0 ∷ so_far.done) next so_far.marks clear

  -- the header node was taken
  pub first_taken : (now : List Bool) (bits node : List ℕ) (next : ℕ) → TakesHeader nodes size old now bits node → next ≡ next_of node → Chained nodes size total old now bits next 0
  first_taken now bits node next takes is = subst (λ n. Chained nodes size total old now bits n 0) (sym (is ∙ ap next_of takes.node_is))
      (chained_start now bits takes.is (subst (λ l. MarksAll (0 ∷ []) old l) (sym takes.marked) (marks_more old old [] 0 (marks_none old) takes.clear)) takes.bits_are)

  -- the next map node was taken
  pub next_taken : (now new : List Bool) (bits more node : List ℕ) (next after k : ℕ) → k < total → next ≢ 0 → Chained nodes size total old now bits next k → TakesMap nodes total next now new bits more node → after ≡ next_of node
      → Chained nodes size total old new more after (k + 1)
  next_taken now new bits more node next after k low some so_far takes is = subst (λ n. Chained nodes size total old new more n (k + 1)) (sym (is ∙ ap next_of takes.node_is))
      (chained_more now new bits more next k low some so_far takes.is
      (subst (λ l. MarksAll (0 ∷ (so_far.done ++ next ∷ [])) old l) (sym takes.marked) (marked_more now bits next k so_far takes.clear)) takes.bits_are)

  pub chained_all : (now : List Bool) (bits : List ℕ) (next k : ℕ) → next ≡ 0 → Chained nodes size total old now bits next k → HasMapRead nodes size total old now bits
  unfolding map_bytes
  chained_all now bits next k none so_far =
      let whole : chain_of nodes total ≡ so_far.done = so_far.chain ∙ ap (λ l. so_far.done ++ l) (chain_end nodes (total - k) next none) ∙ append-nil so_far.done in
      record {
        header = so_far.header;
        each = subst (λ l. All (IsMap nodes total) l) (sym whole) so_far.each;
        marks = subst (λ l. MarksAll (0 ∷ l) old now) (sym whole) so_far.marks;
        bits_are = so_far.bits_are ∙ ap (λ l. slice_range (nodes 0) 248 (size - 8) ++ flat_map (λ n. map_record (nodes n)) l) (sym whole);
      }

  -- there are fewer map nodes than nodes
  pub chain_ends : (now : List Bool) (bits : List ℕ) (next k : ℕ) → length old ≤ total → total ≤ k → Chained nodes size total old now bits next k → ⊥
  chain_ends now bits next k places past so_far = omega (arith, so_far.marks.count, count_by-le-length (λ flag. flag) now, so_far.marks.size, so_far.long, places, past)

  -- the node that comes next stands in the chain, behind those that were come to
  next_stands : (now : List Bool) (bits : List ℕ) (next k : ℕ) → k < total → next ≢ 0 → Chained nodes size total old now bits next k → (k < length (chain_of nodes total)) × (slice_index (chain_of nodes total) k ≡ next)
  next_stands now bits next k low some so_far =
      let rest = map_chain nodes (total - (k + 1)) (next_of (nodes next)) in
      let whole : chain_of nodes total ≡ so_far.done ++ (next ∷ rest) =
      so_far.chain ∙ ap (λ l. so_far.done ++ l) (ap (λ n. map_chain nodes n next) (let left : total - k ≡ suc (total - (k + 1)) = omega (arith, low) in left) ∙ chain_next nodes (total - (k + 1)) next some) in (
        omega (arith, ap (λ (l : List ℕ). length l) whole, length-append so_far.done (next ∷ rest), so_far.long),
        ap (λ (l : List ℕ). slice_index l k) whole ∙ ap (λ n. slice_index (so_far.done ++ (next ∷ rest)) n) (let is : k ≡ length so_far.done + 0 = omega (arith, so_far.long) in is) ∙ get_or-append-add so_far.done (next ∷ rest) 0 0,
      )

  -- a node of the chain that isn't a map node
  pub no_map : (now : List Bool) (bits : List ℕ) (next k : ℕ) → k < total → next ≢ 0 → Chained nodes size total old now bits next k → (IsMap nodes total next → ⊥) → IsNoMap nodes total next
  no_map now bits next k low some so_far not =
      let at = next_stands now bits next k low some so_far in
      inr (inl ((k, at.0, get_or_default (chain_of nodes total) k next 0 at.0 ∙ at.1), not))

  -- a map node that was marked before comes twice
  pub comes_twice : (now : List Bool) (bits : List ℕ) (next k : ℕ) → k < total → next ≢ 0 → Chained nodes size total old now bits next k → AreBlankPast nodes (length old) total
      → ((n : ℕ) → n < length old → get_or old n true ≡ false) → IsMap nodes total next → get_or now next true ≡ true → IsNoMap nodes total next
  comes_twice now bits next k low some so_far blank clear is marked = inr (inr (earlier so_far.done refl))
    where
      kinds : pos 2 ≡ pos 0 → ⊥
      kinds same = let number : 2 ≡ 0 = ap size_of same in omega (arith, number)
        where
          size_of : ℤ → ℕ
          size_of (pos n) = n
          size_of (negsuc n) = 0

      inside : next < length old
      inside = ⊎_elim (λ (less : next < length old). less) (λ (past : length old ≤ next). absurd (kinds (sym is.1.has_kind ∙ (blank next past is.0).0))) (cases_lt next (length old))

      among : list_any (λ other. other == next) (0 ∷ so_far.done) ≡ true
      among = from (get_or old next false) (list_any (λ other. other == next) (0 ∷ so_far.done)) (get_or_default old next false true inside ∙ clear next inside)
          (sym (so_far.marks.bits next) ∙ get_or_default now next false true (omega (arith, inside, so_far.marks.size)) ∙ marked)
        where
          from : (a b : Bool) → a ≡ false → (a || b) ≡ true → b ≡ true
          from true b not or = cc
          from false b not or = or

      place : (xs : List ℕ) (n : ℕ) → list_any (λ other. other == n) xs ≡ true → (i : ℕ) × (i < length xs) × (slice_index xs i ≡ n)
      place [] n any = cc
      place (x ∷ xs) n any = ⊎_elim
          (λ (same : (x == n ≡ true) × (x ≡ n)). (0, omega arith, same.1))
          (λ (other : (x == n ≡ false) × (x ≢ n)). let rest = place xs n (let later = any in rw other.0 at later) in (suc rest.0, omega (arith, rest.1), rest.2))
          (eqb_tells x n)

      earlier : (done : List ℕ) → done ≡ so_far.done → (i j : ℕ) × (i < j) × (j < length (chain_of nodes total)) × (next ≡ slice_index (chain_of nodes total) i) × (slice_index (chain_of nodes total) i ≡ slice_index (chain_of nodes total) j)
      earlier done same = ⊎_elim
          (λ (first : (0 == next ≡ true) × (0 ≡ next)). absurd (some (sym first.1)))
          (λ (other : (0 == next ≡ false) × (0 ≢ next)).
          let at = place so_far.done next (let later = among in rw other.0 at later) in
          let here = next_stands now bits next k low some so_far in
          let front : slice_index (chain_of nodes total) at.0 ≡ next = ap (λ (l : List ℕ). slice_index l at.0) so_far.chain ∙ get_or_append_left so_far.done (map_chain nodes (total - k) next) 0 at.0 at.1 ∙ at.2 in
          (at.0, k, omega (arith, at.1, so_far.long), here.0, sym front, front ∙ sym here.1))
          (eqb_tells 0 next)

  -- a next node that can't be taken
  pub not_taken : (now : List Bool) (bits : List ℕ) (next k : ℕ) → k < total → next ≢ 0 → Chained nodes size total old now bits next k → AreBlankPast nodes (length old) total
      → ((n : ℕ) → n < length old → get_or old n true ≡ false) → (IsMap nodes total next → ⊥) ⊎ ((get_or now next true ≡ true) × IsMap nodes total next) → IsNoMap nodes total next
  not_taken now bits next k low some so_far blank clear (inl not) = no_map now bits next k low some so_far not
  not_taken now bits next k low some so_far blank clear (inr (marked, is)) = comes_twice now bits next k low some so_far blank clear is marked

  -- a header node that can't be taken isn't one
  pub first_not_taken : AreBlankPast nodes (length old) total → 0 < total → ((n : ℕ) → n < length old → get_or old n true ≡ false) → (IsHeaderNode (nodes 0) → get_or old 0 true ≡ true) → IsNoMap nodes total 0
  first_not_taken blank some clear marked = inl (
    refl,
    λ is. ⊎_elim
        (λ (inside : 0 < length old). never (sym (clear 0 inside) ∙ marked is))
        (λ (past : length old ≤ 0). kinds (sym is.0.has_kind ∙ (blank 0 past some).0))
        (cases_lt 0 (length old)),
  )
    where
      never : false ≡ true → ⊥
      never is = cc

      kinds : pos 1 ≡ pos 0 → ⊥
      kinds same = cc
