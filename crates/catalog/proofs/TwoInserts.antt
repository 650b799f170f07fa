-- Two items put into a list, in either order.
use Rattle.std.proofs.Common.{◌≡◌, ◌⊎◌, ℕ, zero, suc, ◌+◌, ◌-◌, ◌<◌, ◌≤◌, List, [], ◌∷◌, ◌++◌, length, take, drop, set, inl, inr, refl, sym, ◌∙◌, ap, subst, arith}
use Rattle.std.specs.Prelude.{slice_index_or}
use Rattle.std.specs.List.{insert, remove}
use Rattle.std.proofs.lemmas.Bool.{cases_lt}
use Rattle.std.proofs.lemmas.List.Edits.{length-insert, get_or-insert_below, get_or-insert_at}
use Rattle.hfs_volume.specs.Changes.{Adds}

-- the earlier place can be filled first or last
pub insert_twice : {X : Type 0} (xs : List X) (low high : ℕ) (u v : X) → low ≤ high → high ≤ length xs → insert (insert xs high u) low v ≡ insert (insert xs low v) (suc high) u
insert_twice xs zero high u v order within = refl
insert_twice [] (suc low) high u v order within = absurd (omega (arith, order, within))
insert_twice (x ∷ xs) (suc low) zero u v order within = absurd (omega (arith, order))
insert_twice (x ∷ xs) (suc low) (suc high) u v order within = ap (λ l. x ∷ l) (insert_twice xs low high u v (omega (arith, order)) (omega (arith, within)))

-- what was added last could have been added first
pub record AddsEither {X : Type 0} (u v : X) (old new : List X) : Type 0 where
  pub between : List X
  pub first : Adds v old between
  pub second : Adds u between new

pub swap_adds : {X : Type 0} (u v : X) (old mid new : List X) → Adds u old mid → Adds v mid new → AddsEither u v old new
swap_adds {X = X} u v old mid new one two = elim (cases_lt one.place two.place) [
  | inl above ↦
      let back : suc (two.place - 1) ≡ two.place = omega (arith, above) in
      let low : one.place ≤ two.place - 1 = omega (arith, above) in
      let high : two.place - 1 ≤ length old = omega (arith, above, two.within, long) in
      record {
        between = insert old (two.place - 1) v;
        first = record { place = two.place - 1; within = high; is = refl };
        second = record {
          place = one.place;
          within = omega (arith, one.within, length-insert old (two.place - 1) v high);
          is = both ∙ sym (insert_twice old one.place (two.place - 1) v u low high ∙ ap (λ n. insert (insert old one.place u) n v) back);
        };
      }
  | inr most ↦ record {
    between = insert old two.place v;
    first = record { place = two.place; within = omega (arith, most, one.within); is = refl };
    second = record {
      place = suc one.place;
      within = omega (arith, one.within, most, length-insert old two.place v (omega (arith, most, one.within)));
      is = both ∙ insert_twice old two.place one.place u v (omega (arith, most)) one.within;
    };
  }
]
  where
    long : length mid ≡ length old + 1
    long = ap (λ (l : List X). length l) one.is ∙ length-insert old one.place u one.within

    both : new ≡ insert (insert old one.place u) two.place v
    both = two.is ∙ ap (λ l. insert l two.place v) one.is

-- ---- a list that is one with this item more, and one with that

pub remove_insert : {X : Type 0} (xs : List X) (k : ℕ) (x : X) → k ≤ length xs → remove (insert xs k x) k ≡ xs
remove_insert xs zero x within = refl
remove_insert [] (suc k) x within = absurd (omega (arith, within))
remove_insert (y ∷ xs) (suc k) x within = ap (λ l. y ∷ l) (remove_insert xs k x (omega (arith, within)))

pub insert_remove : {X : Type 0} (xs : List X) (k : ℕ) (d : X) → k < length xs → insert (remove xs k) k (slice_index_or xs k d) ≡ xs
insert_remove [] k d inside = absurd (omega (arith, inside))
insert_remove (y ∷ xs) zero d inside = refl
insert_remove (y ∷ xs) (suc k) d inside = ap (λ l. y ∷ l) (insert_remove xs k d (omega (arith, inside)))

pub length_remove : {X : Type 0} (xs : List X) (k : ℕ) → k < length xs → length (remove xs k) + 1 ≡ length xs
length_remove [] k inside = absurd (omega (arith, inside))
length_remove (y ∷ xs) zero inside = omega arith
length_remove (y ∷ xs) (suc k) inside = let rest = length_remove xs k (omega (arith, inside)) in omega (arith, rest)

-- both lists are one list, with the other's item more
pub record HaveLess {X : Type 0} (u v : X) (with_v with_u : List X) : Type 0 where
  pub less : List X
  pub one : Adds u less with_u
  pub other : Adds v less with_v

-- `all` is `left` with u, and `right` with v, at other places: without both they are one list
pub less_below : {X : Type 0} (u v : X) (left right all : List X) (one : Adds u left all) (two : Adds v right all) → one.place < two.place → HaveLess u v left right
less_below {X = X} u v left right all one two order = record {
  less = remove right one.place;
  one = record { place = one.place; within = omega (arith, short, long_right, order, two.within); is = sym back };
  other = record {
    place = two.place - 1;
    within = omega (arith, short, order, two.within);
    is = sym (remove_insert left one.place u one.within) ∙ ap (λ l. remove l one.place) (sym one.is ∙ two.is ∙ split) ∙ remove_insert (insert (remove right one.place) (two.place - 1) v) one.place u (omega (arith, order, short, two.within, length-insert (remove right one.place) (two.place - 1) v (omega (arith, short, order, two.within))));
  };
}
  where
    long_right : length all ≡ length right + 1
    long_right = ap (λ (l : List X). length l) two.is ∙ length-insert right two.place v two.within

    inside : one.place < length right
    inside = omega (arith, order, two.within)

    short : length (remove right one.place) + 1 ≡ length right
    short = length_remove right one.place inside

    here : slice_index_or right one.place u ≡ u
    here =
        sym (get_or-insert_below right two.place v u one.place order two.within) ∙ ap (λ l. slice_index_or l one.place u) (sym two.is ∙ one.is) ∙ get_or-insert_at left one.place u u one.within

    back : insert (remove right one.place) one.place u ≡ right
    back = ap (λ x. insert (remove right one.place) one.place x) (sym here) ∙ insert_remove right one.place u inside

    up : suc (two.place - 1) ≡ two.place
    up = omega (arith, order)

    split : insert right two.place v ≡ insert (insert (remove right one.place) (two.place - 1) v) one.place u
    split =
        ap (λ l. insert l two.place v) (sym back) ∙ ap (λ n. insert (insert (remove right one.place) one.place u) n v) (sym up)
        ∙ sym (insert_twice (remove right one.place) one.place (two.place - 1) v u (omega (arith, order)) (omega (arith, short, order, two.within)))

pub less_than_both : {X : Type 0} (u v : X) (left right all : List X) (one : Adds u left all) (two : Adds v right all) → (one.place ≡ two.place → ⊥) → HaveLess u v left right
less_than_both u v left right all one two apart = elim (cases_lt one.place two.place) [
  | inl below ↦ less_below u v left right all one two below
  | inr from ↦ elim (cases_lt two.place one.place) [
    | inl above ↦ let turned = less_below v u right left all two one above in record { less = turned.less; one = turned.other; other = turned.one }
    | inr most ↦ absurd (apart (omega (arith, from, most)))
  ]
]

-- ---- one item in the place of another

pub set_insert : {X : Type 0} (xs : List X) (k : ℕ) (x : X) → k < length xs → set xs k x ≡ insert (remove xs k) k x
set_insert [] k x inside = absurd (omega (arith, inside))
set_insert (y ∷ xs) zero x inside = refl
set_insert (y ∷ xs) (suc k) x inside = ap (λ l. y ∷ l) (set_insert xs k x (omega (arith, inside)))
