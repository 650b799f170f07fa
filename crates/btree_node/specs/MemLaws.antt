-- The numbers of a store in memory go together, and a fresh one is a tree in every order.
use Rattle.std.proofs.Common.{◌≡◌, ℕ, zero, suc, ◌+◌, ◌*◌, ◌/◌, ◌<◌, ◌≤◌, Bool, true, false, not, cond, ◌==◌, ◌||◌, List, [], ◌∷◌, length, get_or, inl, inr, ⊎_elim, refl, sym, ◌∙◌, ap, arith}
use Rattle.std.specs.Prelude.{IsTrue}
use Rattle.std.specs.List.{count_by, range_with_len, sum_by}
use Rattle.std.specs.declared.cmp.Ordering.{Ordering}
use Rattle.std.proofs.Math.Nat.{mul-div_cancel}
use Rattle.std.proofs.lemmas.Bool.{or_cases, eqb-true}
use Rattle.std.proofs.lemmas.Bool.Decides.{eqb_tells}
use Rattle.std.proofs.lemmas.List.Sums.{sum_by-cons}
use Rattle.btree_node.specs.Kept.{AreNodes, one_if}
use Rattle.btree_node.specs.Levels.{leaves}
use Rattle.btree_node.specs.Mem.{mem_state, IsBare}
use Rattle.btree_node.specs.Node.{IsNodeSize, is_node_size}
use Rattle.btree_node.specs.Store.{Store, IsWellFormed}
use Rattle.btree_node.specs.Tree.{IsTree, IsReached}
use Rattle.btree_node.specs.declared.mem.MemNodes.{MemNodes}

-- ---- counts

pub count_step : (p : ℕ → Bool) (a n : ℕ) → count_by p (range_with_len a (suc n)) ≡ cond (p a) 1 0 + count_by p (range_with_len (a + 1) n)
count_step p a n = sum_by-cons (λ (k : ℕ). cond (p k) 1 0) a (range_with_len (a + 1) n)

-- numbers of which none passes the test
pub count_none : (p : ℕ → Bool) (a n : ℕ) → ((k : ℕ) → a ≤ k → k < a + n → p k ≡ false) → count_by p (range_with_len a n) ≡ 0
count_none p a zero none = refl
count_none p a (suc n) none =
    let first = none a (omega arith) (omega arith) in
    let rest = count_none p (a + 1) n (λ k low high. none k (omega (arith, low)) (omega (arith, high))) in
    count_step p a n ∙ rw (first, rest) refl

-- as many as don't pass are those whose flags aren't set
pub count_flags : (p : ℕ → Bool) (a : ℕ) (flags : List Bool) → ((k : ℕ) → k < length flags → p (a + k) ≡ not (get_or flags k true)) → count_by p (range_with_len a (length flags)) + sum_by one_if flags ≡ length flags
count_flags p a [] same = refl
count_flags p a (flag ∷ flags) same =
    let rest = count_flags p (a + 1) flags (λ k low. ap p {x = a + 1 + k} {y = a + suc k} (omega arith) ∙ same (suc k) (omega (arith, low))) in
    let first : p a ≡ not flag = ap p {x = a} {y = a + 0} (omega arith) ∙ same 0 (omega arith) in
    let head : ◌≡◌ {A = ℕ} (cond (p a) 1 0) (cond (not flag) 1 0) = ap (λ b. cond b 1 0) first in
    omega (arith, rest, head, one flag, count_step p a (length flags), sum_by-cons one_if flag flags)
  where
    one : (flag : Bool) → ◌≡◌ {A = ℕ} (cond (not flag) 1 0 + one_if flag) 1
    one true = refl
    one false = refl

-- ---- sizes

pub legal_size : (n : ℕ) → IsTrue (is_node_size n) → IsNodeSize n
legal_size n is = ⊎_elim
    (λ (e : (n == 512 || n == 1024 || n == 2048 || n == 4096 || n == 8192 || n == 16384) ≡ true). ⊎_elim
    (λ (e : (n == 512 || n == 1024 || n == 2048 || n == 4096 || n == 8192) ≡ true). ⊎_elim
    (λ (e : (n == 512 || n == 1024 || n == 2048 || n == 4096) ≡ true). ⊎_elim
    (λ (e : (n == 512 || n == 1024 || n == 2048) ≡ true). ⊎_elim
    (λ (e : (n == 512 || n == 1024) ≡ true). ⊎_elim (λ e. inl (eqb-true n 512 e)) (λ e. inr (inl (eqb-true n 1024 e))) (or_cases (n == 512) (n == 1024) e))
    (λ e. inr (inr (inl (eqb-true n 2048 e)))) (or_cases (n == 512 || n == 1024) (n == 2048) e))
    (λ e. inr (inr (inr (inl (eqb-true n 4096 e))))) (or_cases (n == 512 || n == 1024 || n == 2048) (n == 4096) e))
    (λ e. inr (inr (inr (inr (inl (eqb-true n 8192 e)))))) (or_cases (n == 512 || n == 1024 || n == 2048 || n == 4096) (n == 8192) e))
    (λ e. inr (inr (inr (inr (inr (inl (eqb-true n 16384 e))))))) (or_cases (n == 512 || n == 1024 || n == 2048 || n == 4096 || n == 8192) (n == 16384) e))
    (λ e. inr (inr (inr (inr (inr (inr (eqb-true n 32768 e))))))) (or_cases (n == 512 || n == 1024 || n == 2048 || n == 4096 || n == 8192 || n == 16384) (n == 32768) is)

pub size_passes : (n : ℕ) → IsNodeSize n → IsTrue (is_node_size n)
size_passes n (inl e) = ap is_node_size e
size_passes n (inr (inl e)) = ap is_node_size e
size_passes n (inr (inr (inl e))) = ap is_node_size e
size_passes n (inr (inr (inr (inl e)))) = ap is_node_size e
size_passes n (inr (inr (inr (inr (inl e))))) = ap is_node_size e
size_passes n (inr (inr (inr (inr (inr (inl e)))))) = ap is_node_size e
size_passes n (inr (inr (inr (inr (inr (inr e)))))) = ap is_node_size e

pub whole_sectors : (n : ℕ) → IsNodeSize n → (0 < n / 512) × (n / 512 * 512 ≡ n)
whole_sectors n (inl e) = (omega (arith, e), omega (arith, e))
whole_sectors n (inr (inl e)) = (omega (arith, e), omega (arith, e))
whole_sectors n (inr (inr (inl e))) = (omega (arith, e), omega (arith, e))
whole_sectors n (inr (inr (inr (inl e)))) = (omega (arith, e), omega (arith, e))
whole_sectors n (inr (inr (inr (inr (inl e))))) = (omega (arith, e), omega (arith, e))
whole_sectors n (inr (inr (inr (inr (inr (inl e)))))) = (omega (arith, e), omega (arith, e))
whole_sectors n (inr (inr (inr (inr (inr (inr e)))))) = (omega (arith, e), omega (arith, e))

-- ---- the store

pub mem_well_formed : (mem : MemNodes) → IsWellFormed (mem_state mem)
mem_well_formed mem =
    let kept : AreNodes mem.shape mem.nodes.items mem.used.items mem.written.items mem.unwritten = mem.kept in
    let legal = legal_size mem.shape.node_size kept.size in
    let not_written : ℕ → Bool = λ n. not (get_or mem.written.items n true) in
    let counts : count_by not_written (range_with_len 0 (length mem.written.items)) + sum_by one_if mem.written.items ≡ length mem.written.items =
    count_flags not_written 0 mem.written.items (λ k low. ap (λ n. not (get_or mem.written.items n true)) {x = 0 + k} {y = k} (omega arith)) in
    let many : count_by not_written (range_with_len 0 (length mem.written.items)) ≡ count_by not_written (range_with_len 0 mem.shape.total) = ap (λ n. count_by not_written (range_with_len 0 n)) kept.written in
    record {
      node_size = legal;
      total = kept.small;
      free = omega (arith, kept.free);
      unwritten = omega (arith, kept.left, counts, many, kept.written);
      writes_left = sym (mul-div_cancel mem.writes_left (whole_sectors mem.shape.node_size legal).0);
    }

-- ---- a fresh store

one_alone : (p : ℕ → Bool) (n : ℕ) → 0 < n → ((k : ℕ) → k < n → p k ≡ (k == 0)) → count_by p (range_with_len 0 n) ≡ 1
one_alone p zero some is = absurd (omega (arith, some))
one_alone p (suc n) some is =
    let first : p 0 ≡ true = is 0 (omega arith) in
    let rest : count_by p (range_with_len 1 n) ≡ 0 = count_none p 1 n (λ k low high. is k (omega (arith, high)) ∙ not_zero k low) in
    count_step p 0 n ∙ rw (first, rest) refl
  where
    not_zero : (k : ℕ) → 1 ≤ k → (k == 0) ≡ false
    not_zero zero low = absurd (omega (arith, low))
    not_zero (suc k) low = ⊎_elim (λ is. absurd (omega (arith, is.1))) (λ no. no.0) (eqb_tells (suc k) 0)

-- a store of which node 0 alone is in use, and whose tree has no node, is a tree in every order
pub bare_tree : (is_key : List ℕ → Type 0) (cmp : List ℕ → List ℕ → Ordering) (size count : ℕ) (store : Store) → IsBare size count store → IsTree is_key cmp store
bare_tree is_key cmp size count store bare =
    let none = bare.depth in
    record {
      levels = record {
        nodes = λ j k low inside. absurd (omega (arith, none, low));
        named = λ j low. absurd (omega (arith, none, low));
        some = λ j k low inside. absurd (omega (arith, none, low));
        keys = λ j k low inside. absurd (omega (arith, none, low));
        short = λ j k is inside. absurd (omega (arith, none, is));
      };
      ordered = record {
        ascends = λ j low. absurd (omega (arith, none, low));
        next = λ j k low inside. absurd (omega (arith, none, low));
        back = λ j k low inside. absurd (omega (arith, none, low));
      };
      header = record {
        depth = omega (arith, none);
        empty = λ _. bare.root;
        leaf_records = bare.leaf_records ∙ sym (ap (λ d. length (leaves store.nodes store.shape.root d)) none);
        first = λ j is. absurd (omega (arith, none, is));
        last = λ j is. absurd (omega (arith, none, is));
        no_leaf = λ _. (bare.first, bare.last);
      };
      mapped = record {
        used = λ n low. (
          λ used. inr (bare.reserved n ∙ sym (bare.used n (omega (arith, low, bare.total))) ∙ used),
          λ why. ⊎_elim
              (λ (reached : IsReached store n). absurd (omega (arith, none, reached.of_tree)))
              (λ reserved. bare.used n (omega (arith, low, bare.total)) ∙ sym (bare.reserved n) ∙ reserved)
              why,
        );
        of_tree = λ n reached. absurd (omega (arith, none, reached.of_tree));
        header = bare.reserved 0;
        distinct = λ j k i m low inside low2 inside2 same. absurd (omega (arith, none, low));
        free =
            let one = one_alone store.used store.shape.total (omega (arith, bare.free, bare.total)) (λ k low. bare.used k (omega (arith, low, bare.total))) in
            omega (arith, one, bare.free, bare.total);
      };
    }
