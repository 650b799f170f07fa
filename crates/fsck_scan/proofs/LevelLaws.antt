-- A level that is read node by node.
use Rattle.std.proofs.Common.{◌≡◌, ◌<◌, ℕ, ◌+◌, List, [], ◌∷◌, ◌++◌, length, take, get_or, inl, inr, refl, sym, ◌∙◌, ap, subst, arith, append-nil}
use Rattle.std.specs.Prelude.{slice_index, Option, Some, None, IfSome, IfNone}
use Rattle.std.specs.List.{All}
use Rattle.std.specs.declared.cmp.Ordering.{Ordering}
use Rattle.std.proofs.lemmas.Bool.{cases_lt}
use Rattle.std.proofs.lemmas.List.{take_more}
use Rattle.std.proofs.lemmas.List.Concat.{flat_map-append}
use Rattle.std.proofs.lemmas.List.Elements.{All-append}
use Rattle.std.proofs.lemmas.List.FromFn.{map-range_with_len_more}
use Rattle.btree_node.specs.Node.{IsNodeOf, items, next_of, back_of}
use Rattle.btree_node.specs.Tree.{kind_at}
use Rattle.btree_node.specs.Levels.{Nodes, entries, key_of}
use Rattle.fsck_scan.specs.Good.{IsGoodRecord}
use Rattle.fsck_scan.specs.Level.{first_key_in, IsRight, IsWrong, HasRead, FailsAt, ends_of, place_in}
use Rattle.fsck_scan.specs.declared.look.Fault.{Fault}
use Rattle.fsck_scan.specs.declared.look.Place.{Place}

-- the records of one node more
pub entries_more : (nodes : Nodes) (ns : List ℕ) (k : ℕ) → k < length ns → entries nodes (take (k + 1) ns) ≡ entries nodes (take k ns) ++ items (nodes (slice_index ns k))
entries_more nodes ns k inside =
    ap (entries nodes) (take_more ns k 0 inside) ∙ flat_map-append (λ n. items (nodes n)) (take k ns) (slice_index ns k ∷ [])
    ∙ ap (λ l. entries nodes (take k ns) ++ l) (append-nil (items (nodes (slice_index ns k))))

module _ (is_key is_value : List ℕ → Type 0) (cmp : List ℕ → List ℕ → Ordering) (nodes : Nodes) (most height : ℕ) (ns : List ℕ) (names : List (List ℕ)) where
  pub read_none : HasRead is_key is_value cmp nodes most height ns names 0 [] []
  read_none = record {
    records_are = refl;
    ends_are = refl;
    kinds = λ i less. absurd (omega (arith, less));
    good = λ k d inside. absurd (omega (arith, inside));
    rising = λ i j less inside. absurd (omega (arith, inside));
    next = λ i less. absurd (omega (arith, less));
    back = λ i less. absurd (omega (arith, less));
    named = λ i less. absurd (omega (arith, less));
  }

  -- what holds of each place below k and at k
  below_next : (P : ℕ → Type 0) (k : ℕ) → ((i : ℕ) → i < k → P i) → P k → (i : ℕ) → i < k + 1 → P i
  below_next P k before here i less = elim (cases_lt i k) [
    | inl low ↦ before i low
    | inr high ↦ subst P (let same : k ≡ i = omega (arith, less, high) in same) here
  ]

  pub read_more : (k : ℕ) (old new : List (List ℕ)) (ends : List ℕ) → k < length ns → HasRead is_key is_value cmp nodes most height ns names k old ends → IsRight is_key is_value cmp (place_in most height ns k) names k (nodes (slice_index ns k)) old new
      → HasRead is_key is_value cmp nodes most height ns names (k + 1) new (ends ++ length new ∷ [])
  read_more k old new ends inside has right = record {
    records_are = records_are;
    ends_are = ap (λ l. l ++ length new ∷ []) has.ends_are ∙ ap (λ n. ends_of nodes ns k ++ n ∷ []) (ap (λ l. length l) records_are) ∙ sym (map-range_with_len_more (λ i. length (entries nodes (take (i + 1) ns))) 0 k k (omega arith));
    kinds = below_next (λ i. IsNodeOf (kind_at height) height (nodes (slice_index ns i))) k has.kinds right.kind;
    good = subst (λ l. All (IsGoodRecord is_key is_value most height) l) (sym right.takes.records) (All-append (IsGoodRecord is_key is_value most height) old (items (nodes (slice_index ns k))) has.good right.takes.good);
    rising = right.takes.rising;
    next = below_next (λ i. next_of (nodes (slice_index ns i)) ≡ slice_index ns (i + 1)) k has.next right.next;
    back = below_next (λ i. back_of (nodes (slice_index ns i)) ≡ slice_index (0 ∷ ns) i) k has.back right.back;
    named = below_next (λ i. i < length names → first_key_in (nodes (slice_index ns i)) ≡ key_of (get_or names i [])) k has.named right.named;
  }
    where
      records_are : new ≡ entries nodes (take (k + 1) ns)
      records_are = right.takes.records ∙ ap (λ l. l ++ items (nodes (slice_index ns k))) has.records_are ∙ sym (entries_more nodes ns k inside)

  pub fails_here : (k : ℕ) (old : List (List ℕ)) (ends : List ℕ) (wrong : Fault) → k < length ns → HasRead is_key is_value cmp nodes most height ns names k old ends
      → IsWrong is_key is_value cmp (place_in most height ns k) names k (nodes (slice_index ns k)) old wrong → FailsAt is_key is_value cmp nodes most height ns names k wrong
  fails_here k old ends wrong inside has is = record { inside = inside; before = (old, ends, has, is) }

pub some_is : {X : Type 0} (found : Option X) (x : X) (P : X → Type 0) → found ≡ Some x → IfSome found P → P x
some_is found x P is holds = subst (λ o. IfSome o P) is holds

pub none_is : {X : Type 0} (found : Option X) (P : Type 0) → found ≡ None → IfNone found P → P
none_is found P is holds = subst (λ o. IfNone o P) is holds

-- a place as it is made, and the place in a level
pub same_place : (most height next back : ℕ) (ns : List ℕ) (k : ℕ) → next ≡ slice_index ns (k + 1) → back ≡ slice_index (0 ∷ ns) k
    → ◌≡◌ {A = Place} (record { most = most; height = height; next = next; back = back }) (place_in most height ns k)
same_place most height next back ns k is_next is_back = λ i. record { most = most; height = height; next = is_next i; back = is_back i }
