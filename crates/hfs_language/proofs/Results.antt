-- What a result that is Ok came from.
use Rattle.std.proofs.Common.{◌≡◌, Result, Ok, Err, refl, ap}
use Rattle.hfs_language.specs.declared.refusal.Refusal.{Refusal}
use Rattle.hfs_language.specs.Language.{both, earlier, after}

pub ok_same : {X : Type 0} (x y : X) (r : Result X Refusal) → r ≡ Ok x → r ≡ Ok y → x ≡ y
ok_same x y r is other = cc

pub err_never : {X : Type 0} (why : Refusal) (x : X) (r : Result X Refusal) → r ≡ Err why → r ≡ Ok x → ⊥
err_never why x r is other = cc

pub after_ok : {X Y : Type 0} (make : X → Y) (r : Result X Refusal) (y : Y) → after make r ≡ Ok y → (x : X) × (r ≡ Ok x) × (make x ≡ y)
after_ok make (Ok x) y is = (x, refl, ok_same (make x) y (after make (Ok x)) refl is)
after_ok make (Err why) y is = absurd (err_never why y (after make (Err why)) refl is)

pub both_ok : {X Y : Type 0} (r : Result X Refusal) (s : Result Y Refusal) (p : X × Y) → both r s ≡ Ok p → (r ≡ Ok p.0) × (s ≡ Ok p.1)
both_ok {X} {Y} (Ok x) (Ok y) p is =
    let pair : (x, y) ≡ p = ok_same (x, y) p (both (Ok x) (Ok y)) refl is in
    (ap (λ (q : X × Y). Ok q.0) pair, ap (λ (q : X × Y). Ok q.1) pair)
both_ok (Ok x) (Err why) p is = absurd (err_never why p (both (Ok x) (Err why)) refl is)
both_ok (Err why) (Ok y) p is = absurd (err_never why p (both (Err why) (Ok y)) refl is)
both_ok (Err one) (Err other) p is = absurd (err_never (earlier one other) p (both (Err one) (Err other)) refl is)
