-- Records that are taken one by one.
use Rattle.std.proofs.Common.{◌≡◌, ◌<◌, ◌≤◌, ℕ, ◌+◌, ◌-◌, List, [], ◌∷◌, ◌++◌, length, take, get_or, inl, inr, sym, ◌∙◌, ap, subst, arith, length-append, append_assoc, append-nil}
use Rattle.std.specs.Cmp.{IsTotalOrder}
use Rattle.std.specs.List.{All}
use Rattle.std.specs.declared.cmp.Ordering.{Ordering}
use Rattle.std.specs.declared.cmp.Ordering.TheVariants.{Less}
use Rattle.std.proofs.lemmas.Bool.{cases_lt, cases_eq}
use Rattle.std.proofs.lemmas.List.{get_or_append_left, get_or-append-add, take_more, take_all}
use Rattle.std.proofs.lemmas.List.Elements.{All-push}
use Rattle.btree_node.specs.Levels.{key_of, Ascends}
use Rattle.fsck_scan.specs.Good.{IsGoodRecord, GoesOn, Takes}

-- a record behind others
pub pushed_before : (records : List (List ℕ)) (item : List ℕ) (k : ℕ) → k < length records → get_or (records ++ item ∷ []) k [] ≡ get_or records k []
pushed_before records item k inside = get_or_append_left records (item ∷ []) [] k inside

pub pushed_here : (records : List (List ℕ)) (item : List ℕ) → get_or (records ++ item ∷ []) (length records) [] ≡ item
pushed_here records item = ap (λ n. get_or (records ++ item ∷ []) n []) (let same : length records ≡ length records + 0 = omega arith in same) ∙ get_or-append-add records (item ∷ []) 0 []

-- keys rise over one record more whose key is above the last one's
pub rises_on : (cmp : List ℕ → List ℕ → Ordering) (total : IsTotalOrder cmp) (records : List (List ℕ)) (item : List ℕ) → Ascends cmp records → GoesOn cmp records item → Ascends cmp (records ++ item ∷ [])
rises_on cmp total records item rising above i j less inside = elim (cases_lt j (length records)) [
  | inl low ↦ subst (λ a. cmp (key_of a) (key_of (get_or (records ++ item ∷ []) j [])) ≡ Less) (sym (pushed_before records item i (omega (arith, less, low))))
      (subst (λ b. cmp (key_of (get_or records i [])) (key_of b) ≡ Less) (sym (pushed_before records item j low)) (rising i j less low))
  | inr high ↦
      let at : j ≡ length records = omega (arith, high, inside, length-append records (item ∷ [])) in
      let last : get_or (records ++ item ∷ []) j [] ≡ item = ap (λ n. get_or (records ++ item ∷ []) n []) at ∙ pushed_here records item in
      subst (λ a. cmp (key_of a) (key_of (get_or (records ++ item ∷ []) j [])) ≡ Less) (sym (pushed_before records item i (omega (arith, less, at))))
      (subst (λ b. cmp (key_of (get_or records i [])) (key_of b) ≡ Less) (sym last) (below i (omega (arith, less, at))))
]
  where
    below : (i : ℕ) → i < length records → cmp (key_of (get_or records i [])) (key_of item) ≡ Less
    below i inside = elim (cases_eq i (length records - 1)) [
      | inl is ↦ subst (λ n. cmp (key_of (get_or records n [])) (key_of item) ≡ Less) (sym is) (above (omega (arith, inside)))
      | inr before ↦ total.trans (key_of (get_or records i [])) (key_of (get_or records (length records - 1) [])) (key_of item)
          (rising i (length records - 1) (omega (arith, inside, before)) (omega (arith, inside))) (above (omega (arith, inside)))
    ]

module _ (is_key is_value : List ℕ → Type 0) (cmp : List ℕ → List ℕ → Ordering) (most height : ℕ) where
  pub takes_none : (old : List (List ℕ)) → All (λ item. is_key (key_of item)) old → Ascends cmp old → Takes is_key is_value cmp most height [] old old
  takes_none old keys rising = record { records = sym (append-nil old); good = λ k d inside. absurd (omega (arith, inside)); keys = keys; rising = rising }

  pub takes_more : (total : IsTotalOrder cmp) (fresh old new : List (List ℕ)) (k : ℕ) → k < length fresh → Takes is_key is_value cmp most height (take k fresh) old new
      → IsGoodRecord is_key is_value most height (get_or fresh k []) → GoesOn cmp new (get_or fresh k [])
      → Takes is_key is_value cmp most height (take (k + 1) fresh) old (new ++ get_or fresh k [] ∷ [])
  takes_more total fresh old new k inside takes good above = record {
    records = ap (λ l. l ++ get_or fresh k [] ∷ []) takes.records ∙ append_assoc old (take k fresh) (get_or fresh k [] ∷ []) ∙ ap (λ l. old ++ l) (sym (take_more fresh k [] inside));
    good = subst (λ l. All (IsGoodRecord is_key is_value most height) l) (sym (take_more fresh k [] inside)) (All-push (IsGoodRecord is_key is_value most height) (take k fresh) (get_or fresh k []) takes.good good);
    keys = All-push (λ item. is_key (key_of item)) new (get_or fresh k []) takes.keys good.key;
    rising = rises_on cmp total new (get_or fresh k []) takes.rising above;
  }

  pub takes_all : (fresh old new : List (List ℕ)) (k : ℕ) → length fresh ≤ k → Takes is_key is_value cmp most height (take k fresh) old new → Takes is_key is_value cmp most height fresh old new
  takes_all fresh old new k whole takes = subst (λ l. Takes is_key is_value cmp most height l old new) (take_all k fresh whole) takes
